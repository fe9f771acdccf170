-- Proves that the next driver call of a course carries what is asked. The argument goes through the calls of a
-- course.
use Rattle.std.proofs.Common.{ℕ, Bool, true, false, ◌||◌, cond, List, [], ◌∷◌, length, refl, Option, None, Some}
use Rattle.std.specs.Prelude.{IfSome}
use Rattle.dsql_history.specs.driver.Kinds.{is_bad, is_valid}
use Rattle.dsql_history.specs.driver.declared.caps.Caps.{Caps}
use Rattle.dsql_history.specs.driver.declared.call.DriverCall.TheVariants.{Reset}
use Rattle.dsql_history.specs.course.declared.course.Wish.{Wish}
use Rattle.dsql_history.specs.course.Line.{comes_next}
use Rattle.dsql_history.specs.course.Made.{Exchange}
use Rattle.dsql_history.specs.course.Rows.{rows_next}
use Rattle.dsql_history.specs.journal.declared.entry.Entry.{Entry}
use Rattle.dsql_history.specs.works.Exchanges.{exchanges}
use Rattle.dsql_history.specs.works.Line.{Asked, body_after, body_with, course_of, found, handed, line_after}
use Rattle.dsql_engine_exchanged.specs.Filled.{Carries}
use Rattle.dsql_engine_exchanged.proofs.DueCarried.{step_carries, over_carries}

body_carries : (can : Caps) (asked : Asked) (wish : Wish) (made : List Exchange) (rows : Option ℕ) → IfSome (body_with can false asked wish made rows) (Carries asked)
body_carries can asked wish made None = step_carries can asked (comes_next (course_of asked.aim) can (length asked.params) (found false) made)
body_carries can asked wish made (Some rows) = over_carries can asked (rows_next wish can (length asked.params) made rows)

pub line_carries : (can : Caps) (reset_due : Bool) (asked : Asked) (wish : Wish) (entries : List Entry) → IfSome (line_after can reset_due asked wish entries) (Carries asked)
line_carries can reset_due asked wish [] = by reset_due (body_carries can asked wish [] (handed asked.aim []))
  where
    by : (b : Bool) → IfSome (body_after can false asked wish []) (Carries asked) → IfSome (cond b (Some Reset) (body_after can false asked wish [])) (Carries asked)
    by true body = refl
    by false body = body
line_carries can reset_due asked wish (e ∷ earlier) = by (is_bad e.answer || is_valid e.call) (body_carries can asked wish (exchanges (e ∷ earlier)) (handed asked.aim (exchanges (e ∷ earlier))))
  where
    made : List Exchange
    made = exchanges (e ∷ earlier)

    by : (b : Bool) → IfSome (body_after can false asked wish made) (Carries asked) → IfSome (cond b None (body_after can false asked wish made)) (Carries asked)
    by true body = tt
    by false body = body
