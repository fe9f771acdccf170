-- Defines the well-formed events, which a line of a report may show.
use Rattle.std.specs.Prelude.{ℕ, ◌==◌, ◌&&◌, nat_le, Bool, not, List, length, true}
use Rattle.dsql_history.specs.scan.declared.dest.Dest.{Dest}
use Rattle.dsql_script_calls.specs.ScriptWords.{most_clients, is_name}
use Rattle.dsql_history.specs.driver.Fits.{is_memory}
use Rattle.dsql_history.specs.declared.event.Op.{Op}
use Rattle.dsql_history.specs.declared.event.Op.TheVariants as op
use Rattle.dsql_history.specs.declared.event.Target.{Target}
use Rattle.dsql_history.specs.declared.event.Target.TheVariants as targets
use Rattle.dsql_history.specs.declared.event.Event.{Event}
use Rattle.dsql_history.specs.declared.event.Event.TheVariants.{Entered, Heard}

-- Is true if there is a destination.
abbrev pub has_dests : List Dest → Bool
has_dests dests = not (length dests == 0)

-- Is true if a script may have a client with this number.
abbrev pub is_client : ℕ → Bool
is_client client = nat_le 1 client && nat_le client most_clients

-- Is true if the target is the database or a label that is a name.
abbrev pub is_named_target : Target → Bool
is_named_target targets.Db = true
is_named_target (targets.Label tx) = is_name tx

-- Is true if each label of the operation is a name, and it has a destination if its kind needs one.
abbrev pub is_named_op : Op → Bool
is_named_op (op.Exec target text args) = is_named_target target
is_named_op (op.Query label target text args) = is_name label && is_named_target target
is_named_op (op.One target dests text args) = is_named_target target && has_dests dests
is_named_op (op.Next rows) = is_name rows
is_named_op (op.Scan rows dests) = is_name rows && has_dests dests
is_named_op (op.RowsClose rows) = is_name rows
is_named_op (op.Err rows) = is_name rows
is_named_op (op.Begin label level read_only) = is_name label
is_named_op (op.Commit tx) = is_name tx
is_named_op (op.Rollback tx) = is_name tx
is_named_op _ = true

-- Is true if a report may show the event. The client of an entry is one of a script, and the labels and
-- destinations of its operation are well formed. An answer that was heard isn't `Memory`.
abbrev pub is_well_formed : Event → Bool
is_well_formed (Entered client n op) = is_client client && is_named_op op
is_well_formed (Heard entry) = not (is_memory entry.answer)
is_well_formed _ = true
