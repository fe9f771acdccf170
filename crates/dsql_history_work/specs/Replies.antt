-- Defines tests that two words of replies are the same.
use Rattle.std.specs.Prelude.{ℕ, Bool, true, false, ◌&&◌, List, [], ◌∷◌, bytes_eq}
use Rattle.dsql_history_work.specs.declared.fault_word.FaultWord.{FaultWord}
use Rattle.dsql_history_work.specs.declared.fault_word.FaultWord.TheVariants.{FromNull, NotANumber, OutOfRange, NotABool, NotUtf8, Unsupported}
use Rattle.dsql_cancel.specs.declared.token.Cause.{Cause}
use Rattle.dsql_cancel.specs.declared.token.Cause.TheVariants.{Canceled, Deadline}
use Rattle.dsql_rows.specs.declared.end.RowsOver.{RowsOver}
use Rattle.dsql_rows.specs.declared.end.RowsOver.TheVariants as overs

abbrev pub same_word : FaultWord → FaultWord → Bool
same_word FromNull FromNull = true
same_word NotANumber NotANumber = true
same_word OutOfRange OutOfRange = true
same_word NotABool NotABool = true
same_word NotUtf8 NotUtf8 = true
same_word Unsupported Unsupported = true
same_word _ _ = false

abbrev pub same_cancel_cause : Cause → Cause → Bool
same_cancel_cause Canceled Canceled = true
same_cancel_cause Deadline Deadline = true
same_cancel_cause _ _ = false

abbrev pub same_over : RowsOver → RowsOver → Bool
same_over overs.Close overs.Close = true
same_over overs.EndOfRows overs.EndOfRows = true
same_over overs.TxEnded overs.TxEnded = true
same_over (overs.Cancel cause) (overs.Cancel other) = same_cancel_cause cause other
same_over overs.Failed overs.Failed = true
same_over overs.BadConn overs.BadConn = true
same_over overs.EndOfRun overs.EndOfRun = true
same_over _ _ = false

abbrev pub same_columns : List (List ℕ) → List (List ℕ) → Bool
same_columns [] [] = true
same_columns (column ∷ columns) (other ∷ others) = bytes_eq column other && same_columns columns others
same_columns _ _ = false
