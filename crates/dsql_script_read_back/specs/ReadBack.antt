-- Defines that a report's text of a call, a limit or a moment is read in a script as the same call, limit or moment.
use Rattle.std.specs.Prelude.{◌≡◌, ℕ, ℤ, ◌<◌, ◌≤◌, ◌^◌, Bool, true, false, List, [], ◌∷◌, ◌++◌, length, codes, FitsSigned, All, Option, Some, None, Ok}
use Rattle.std.specs.Int.{w8, w16, w32, w64}
use Rattle.hex.specs.Hex.{IsBytes}
use Rattle.serde_json.specs.Data.{Data}
use Rattle.serde_json.specs.Read.{read}
use Rattle.serde_json.specs.Written.{compact_text}
use Rattle.dsql_history.specs.value.declared.arg.Arg.{Arg}
use Rattle.dsql_history.specs.value.declared.arg.Arg.TheVariants.{I8, I16, I32, I64, U8, U16, U32, U64, Bytes, Time, NullI64, NullI32, NullI16, NullU8, NullTime}
use Rattle.dsql_history.specs.value.declared.arg.Named.{Named}
use Rattle.dsql_history.specs.driver.declared.caps.Caps.{Caps}
use Rattle.dsql_history.specs.scan.declared.dest.Dest.{Dest}
use Rattle.dsql_history.specs.declared.event.Setting.{Setting}
use Rattle.dsql_script_spelling.specs.LineArgs.{arg_data, argument_data, statement_data}
use Rattle.dsql_script_spelling.specs.LineValues.{natural, integer}
use Rattle.dsql_script_spelling.specs.CapsNames.{caps_names}
use Rattle.dsql_script_report.specs.Lines.{limit_word}
use Rattle.dsql_script_forms.specs.ScriptArgs.{arg_of_data, named_of_data, call_of_data, most_args}
use Rattle.dsql_script_reader.specs.ScriptHead.{caps_of}
use Rattle.dsql_script_calls.specs.ScriptWords.{is_name, spaced_words, client_of, most_clients}
use Rattle.dsql_script_spelling.specs.Dests.{dests_word, dests_of}
use Rattle.dsql_history.specs.declared.event.Control.TheVariants.{Tick, Set}
use Rattle.dsql_history.specs.declared.event.Target.{Target}
use Rattle.dsql_history.specs.declared.event.Target.TheVariants as targets
use Rattle.dsql_history.specs.declared.event.Op.{Op}
use Rattle.dsql_history.specs.declared.event.Op.TheVariants as op
use Rattle.dsql_script_report.specs.LineOps.{op_words, op_data}
use Rattle.dsql_script_reader.specs.declared.script.Head.{Head}
use Rattle.dsql_script_reader.specs.declared.script.ScriptLine.TheVariants.{Client}
use Rattle.dsql_script_reader.specs.declared.script.ScriptLine.TheVariants as script
use Rattle.dsql_script_reader.specs.ScriptLabels.{MadeLabel, label_fault}
use Rattle.dsql_script_reader.specs.ScriptLines.{form_of, text_of, among_labels}

-- Holds if each number or byte of the argument is in the range of its type.
abbrev pub IsInRange : Arg → Type 0
IsInRange (I8 n) = FitsSigned w8 n
IsInRange (I16 n) = FitsSigned w16 n
IsInRange (I32 n) = FitsSigned w32 n
IsInRange (I64 n) = FitsSigned w64 n
IsInRange (U8 n) = n < 2 ^ 8
IsInRange (U16 n) = n < 2 ^ 16
IsInRange (U32 n) = n < 2 ^ 32
IsInRange (U64 n) = n < 2 ^ 64
IsInRange (Bytes bytes) = IsBytes bytes
IsInRange (Time n) = FitsSigned w64 n
IsInRange (NullI64 (Some n)) = FitsSigned w64 n
IsInRange (NullI32 (Some n)) = FitsSigned w32 n
IsInRange (NullI16 (Some n)) = FitsSigned w16 n
IsInRange (NullU8 (Some n)) = n < 2 ^ 8
IsInRange (NullTime (Some n)) = FitsSigned w64 n
IsInRange _ = Unit {0}

pub record ReadsArgumentsBack : Type 0 where
  pub argument : (arg : Arg) → IsInRange arg → arg_of_data (arg_data arg) ≡ Some arg
  pub named : (named : Named) → IsInRange named.arg → named_of_data (argument_data named) ≡ Some named
  pub call : (text : List ℕ) (args : List Named) → All (λ named. IsInRange named.arg) args
      → call_of_data (statement_data text args) ≡ Some (text, args)

abbrev pub MayBeGiven : List Named → Type 0
MayBeGiven args = All (λ named. IsInRange named.arg) args × (length args ≤ most_args)

abbrev pub MayBeFilled : List Dest → Type 0
MayBeFilled dests = (0 < length dests) × (length dests ≤ most_args)

abbrev pub IsLabel : List ℕ → Type 0
IsLabel label = is_name label ≡ true

-- Holds if the array is read as this data, or if there is neither an array nor data.
abbrev pub Spells : Option (List ℕ) → Option Data → Type 0
Spells None None = Unit {0}
Spells (Some array) (Some d) = read array ≡ Some d
Spells _ _ = ⊥

-- Returns the words of a call's line by the word for its client and the words of the call. The flag says
-- whether the call is held.
abbrev pub line_words : Bool → List ℕ → List ℕ → List (List ℕ)
line_words true word words = codes "start" ∷ word ∷ spaced_words words
line_words false word words = word ∷ spaced_words words

-- Returns `start ` for a held call, and nothing for any other call.
abbrev pub held_text : Bool → List ℕ
held_text true = codes "start "
held_text false = []

abbrev pub array_text : Option Data → List ℕ
array_text None = []
array_text (Some d) = codes " " ++ compact_text d

abbrev pub ReadsCapsBack : Type 0
ReadsCapsBack = (caps : Caps) → caps_of (caps_names caps) ≡ Some caps

-- Returns a line of a limit's word and number, as a report shows them.
abbrev pub limit_text : Setting → ℤ → List ℕ
limit_text setting n = limit_word setting ++ (codes " " ++ compact_text (integer n))

-- Returns a line of `tick` and the number of a moment, as a report shows it.
abbrev pub moment_text : ℕ → List ℕ
moment_text now = codes "tick " ++ compact_text (natural now)

-- Holds if a call can be made on the target: it is the database or a label that is a name.
abbrev pub IsTarget : Target → Type 0
IsTarget targets.Db = Unit {0}
IsTarget (targets.Label tx) = IsLabel tx

-- Holds if a line of a script can ask for the call.
abbrev pub MayBeAsked : Op → Type 0
MayBeAsked (op.Exec target text args) = IsTarget target × MayBeGiven args
MayBeAsked (op.Query label target text args) = IsLabel label × IsTarget target × MayBeGiven args
MayBeAsked (op.One target dests text args) = IsTarget target × MayBeFilled dests × MayBeGiven args
MayBeAsked (op.Next rows) = IsLabel rows
MayBeAsked (op.Scan rows dests) = IsLabel rows × MayBeFilled dests
MayBeAsked (op.RowsClose rows) = IsLabel rows
MayBeAsked (op.Err rows) = IsLabel rows
MayBeAsked (op.Begin label level read_only) = IsLabel label
MayBeAsked (op.Commit tx) = IsLabel tx
MayBeAsked (op.Rollback tx) = IsLabel tx
MayBeAsked _ = Unit {0}

-- Returns the text of a call's line. Its array is the one that a report shows, if it shows one.
abbrev pub line_text : Bool → List ℕ → Op → List ℕ
line_text held word op = (held_text held ++ (word ++ (codes " " ++ op_words op))) ++ array_text (op_data op)

-- Holds if a call's words after the word for a client are read as this client's call. They come with an array that is
-- read as the call's. Earlier lines must have made each label that the call names, for what it is to be, and not the
-- label that it makes. A line of these words and the array that the report shows is read as the call too.
pub record ReadsCallsBack : Type 0 where
  pub client : (client : ℕ) → 1 ≤ client → client ≤ most_clients
      → client_of (codes "c" ++ compact_text (natural client)) ≡ Some client
  pub dests : (dests : List Dest) → 0 < length dests → dests_of (dests_word dests) ≡ Some dests
  pub call : (head : Head) (labels : List MadeLabel) (held : Bool) (word : List ℕ) (client : ℕ) (op : Op)
      (array : Option (List ℕ)) → client_of word ≡ Some client → MayBeAsked op → label_fault labels op ≡ None
      → Spells array (op_data op)
      → among_labels labels (form_of head (line_words held word (op_words op)) array) ≡ Ok (Client client op held)
  pub line : (head : Head) (labels : List MadeLabel) (held : Bool) (word : List ℕ) (client : ℕ) (op : Op)
      → client_of word ≡ Some client → MayBeAsked op → label_fault labels op ≡ None
      → among_labels labels (text_of head (line_text held word op)) ≡ Ok (Client client op held)

abbrev pub ReadsLimitsBack : Type 0
ReadsLimitsBack =
    (head : Head) (setting : Setting) (n : ℤ) → FitsSigned w64 n → text_of head (limit_text setting n)
    ≡ Ok (script.Control (Set setting n))

abbrev pub ReadsMomentsBack : Type 0
ReadsMomentsBack =
    (head : Head) (now : ℕ) → now < 2 ^ 64 → text_of head (moment_text now) ≡ Ok (script.Control (Tick now))
