-- Defines the labels that the lines of a script make, and why a line is refused because of a label that it
-- makes or names.
use Rattle.std.specs.Prelude.{ℕ, Bool, true, false, List, if◌then◌else◌, Option, Some, None, is_some, String, string_bytes}
use Rattle.std.specs.Map.{lookup}
use Rattle.std.specs.Option.{option_or}
use Rattle.std.specs.Str.{bytes_eq}
use Rattle.dsql_script_forms.specs.declared.fault.LineFault.{LineFault}
use Rattle.dsql_script_forms.specs.declared.fault.LineFault.TheVariants.{UnknownLabel, LabelTaken}
use Rattle.dsql_history.specs.declared.event.Target.{Target}
use Rattle.dsql_history.specs.declared.event.Target.TheVariants.{Db, Label}
use Rattle.dsql_history.specs.declared.event.Op.{Op}
use Rattle.dsql_history.specs.declared.event.Op.TheVariants as op
use Rattle.dsql_script_reader.specs.declared.kind.Kind.{Kind}
use Rattle.dsql_script_reader.specs.declared.kind.Kind.TheVariants.{Rows, Transaction}
use Rattle.dsql_script_reader.specs.declared.script.ScriptLine.{ScriptLine}
use Rattle.dsql_script_reader.specs.declared.script.ScriptLine.TheVariants.{Client}

-- A label with the kind of thing it stands for.
abbrev pub MadeLabel : Type 0
MadeLabel = List ℕ × Kind

abbrev pub made_label : {Z : Type 0} → String Z × Kind → MadeLabel
made_label entry = (string_bytes entry.0, entry.1)

-- Returns what the label stands for, or `None` if it isn't one of these labels.
abbrev pub kind_of : List MadeLabel → List ℕ → Option Kind
kind_of labels label = lookup (bytes_eq label) labels

abbrev pub is_same_kind : Kind → Kind → Bool
is_same_kind Rows Rows = true
is_same_kind Transaction Transaction = true
is_same_kind _ _ = false

-- Is true if the label was made and stands for something of this kind.
abbrev pub stands_for : Kind → Option Kind → Bool
stands_for kind None = false
stands_for kind (Some made) = is_same_kind made kind

-- Returns the fault of a label that no earlier line made for this kind. `if_made` returns the fault of a label
-- that an earlier line made.
abbrev pub unless_made : List MadeLabel → Kind → List ℕ → Option LineFault
unless_made labels kind label = if stands_for kind (kind_of labels label) then None else Some UnknownLabel

abbrev pub if_made : List MadeLabel → List ℕ → Option LineFault
if_made labels label = if is_some (kind_of labels label) then Some LabelTaken else None

-- Returns the fault of a call's target: a label must stand for a transaction.
abbrev pub target_fault : List MadeLabel → Target → Option LineFault
target_fault labels Db = None
target_fault labels (Label tx) = unless_made labels Transaction tx

-- Returns the fault of a call's labels, given the labels of earlier lines. The label that the call names is
-- checked before the one that it makes.
abbrev pub label_fault : List MadeLabel → Op → Option LineFault
label_fault labels (op.Exec target text args) = target_fault labels target
label_fault labels (op.Query label target text args) = option_or (target_fault labels target) (if_made labels label)
label_fault labels (op.One target dests text args) = target_fault labels target
label_fault labels (op.Next rows) = unless_made labels Rows rows
label_fault labels (op.Scan rows dests) = unless_made labels Rows rows
label_fault labels (op.RowsClose rows) = unless_made labels Rows rows
label_fault labels (op.Err rows) = unless_made labels Rows rows
label_fault labels (op.Begin label level read_only) = if_made labels label
label_fault labels (op.Commit tx) = unless_made labels Transaction tx
label_fault labels (op.Rollback tx) = unless_made labels Transaction tx
label_fault labels _ = None

abbrev pub line_fault : List MadeLabel → ScriptLine → Option LineFault
line_fault labels (Client client op held) = label_fault labels op
line_fault labels _ = None
