-- The transaction that an entry carries.
use Rattle.std.specs.Prelude.{ℕ, Bool, ◌&&◌, ◌||◌, not, cond}
use Rattle.dsql_laws_calls.specs.driver.declared.answer.DriverAnswer.{DriverAnswer}
use Rattle.dsql_laws_calls.specs.driver.declared.call.DriverCall.{DriverCall}
use Rattle.dsql_laws_calls.specs.driver.Fits.{is_done}
use Rattle.dsql_laws_calls.specs.driver.Kinds.{is_begin, is_reset, is_valid}
use Rattle.dsql_laws_calls.specs.journal.declared.entry.Owner.{Owner}
use Rattle.dsql_laws_calls.specs.journal.declared.entry.Owner.TheVariants.{Tx}

-- Is true of a Reset, a test, and a Begin that isn't done.
abbrev pub is_outside : DriverCall → DriverAnswer → Bool
is_outside call answer = is_reset call || (is_valid call || is_begin call && not (is_done answer))

-- Returns the number of the transaction that an entry carries. In a transaction's tenure, each entry except
-- those outside of it carries the transaction's number. In a call's tenure, the entries carry 0.
abbrev pub carried : Owner → DriverCall → DriverAnswer → ℕ
carried (Tx k) call answer = cond (is_outside call answer) 0 k
carried owner call answer = 0
