-- The next driver call carries what is asked.
use Rattle.std.proofs.Common.{ℕ, Bool, true, false, ◌||◌, cond, List, [], ◌∷◌, length, refl, Option, None, Some}
use Rattle.std.specs.List.{list_any}
use Rattle.std.specs.Prelude.{IfSome}
use Rattle.dsql_history.specs.driver.declared.caps.Caps.{Caps}
use Rattle.dsql_history.specs.driver.declared.call.DriverCall.TheVariants.{Begin}
use Rattle.dsql_history.specs.driver.declared.call.Level.{Level}
use Rattle.dsql_history.specs.driver.Kinds.{is_begin, is_ending, is_valid}
use Rattle.dsql_history.specs.driver.Fits.{is_done}
use Rattle.dsql_history.specs.course.declared.course.Course.TheVariants as courses
use Rattle.dsql_history.specs.course.declared.course.Wish.{Wish}
use Rattle.dsql_history.specs.course.Line.{comes_next}
use Rattle.dsql_history.specs.course.Made.{Exchange}
use Rattle.dsql_history.specs.course.Rows.{rows_next_of}
use Rattle.dsql_history.specs.journal.declared.entry.Entry.{Entry}
use Rattle.dsql_history.specs.tx.declared.end.TxEnd.{TxEnd}
use Rattle.dsql_history.specs.tx.declared.end.TxEnd.TheVariants as ends
use Rattle.dsql_history.specs.works.Exchanges.{exchanges}
use Rattle.dsql_history.specs.works.Line.{Asked, course_of, handed, test_of, body_with, found}
use Rattle.dsql_engine_exchanged.specs.Exchanged.{ends_line}
use Rattle.dsql_engine_exchanged.specs.Filled.{Carries}
use Rattle.dsql_engine_exchanged.proofs.DueCarried.{test_carries, step_carries, over_carries}
use Rattle.dsql_history.specs.declared.event.Event.{Event}
use Rattle.dsql_history.specs.Readers.Course.{caps}
use Rattle.dsql_history.specs.Rules.Ending.{ended_by_call, end_after}
use Rattle.dsql_history.specs.Rules.Sent.{begin_line, inner_after, untested}

body_carries : (can : Caps) (bad : Bool) (asked : Asked) (wish : Wish) (made : List Exchange) (rows : Option ℕ) → IfSome (body_with can bad asked wish made rows) (Carries asked)
body_carries can bad asked wish made None = step_carries can asked (comes_next (course_of asked.aim) can (length asked.params) (found bad) made)
body_carries can bad asked wish made (Some rows) = over_carries can asked (rows_next_of courses.Query bad wish can (length asked.params) made rows)

-- What a call in a transaction sends carries what the call asks.
pub inner_carries : (can : Caps) (bad : Bool) (asked : Asked) (wish : Wish) (line : List Entry) → IfSome (inner_after can bad asked wish line) (Carries asked)
inner_carries can bad asked wish line = body_carries (untested can) bad asked wish (exchanges line) (handed asked.aim (exchanges line))

-- What a begin sends carries whatever is asked, because it has no statement.
pub begin_carries : (can : Caps) (reset_due : Bool) (level : Level) (read_only : Bool) (asked : Asked) (line : List Entry)
    → IfSome (begin_line can reset_due (Begin level read_only) line) (Carries asked)
begin_carries can true level read_only asked [] = refl
begin_carries can false level read_only asked [] = refl
begin_carries can reset_due level read_only asked (e ∷ earlier) = by (ends_line e) (is_begin e.call) (is_done e.answer)
  where
    by : (over begin done : Bool) → IfSome (cond over None (cond begin (cond done None (test_of can)) (Some (Begin level read_only)))) (Carries asked)
    by true begin done = tt
    by false false done = refl
    by false true true = tt
    by false true false = test_carries can asked

end_call_carries : (asked : Asked) (end : TxEnd) → Carries asked (ended_by_call end)
end_call_carries asked ends.Commit = refl
end_call_carries asked _ = refl

-- What is sent to end a transaction carries whatever is asked, because it has no statement.
pub end_carries : (before : List Event) (bad : Bool) (end : TxEnd) (asked : Asked) (heard : List Entry) → IfSome (end_after before bad end heard) (Carries asked)
end_carries before bad end asked heard = by (list_any (λ e. is_ending e.call) heard) (bad || list_any (λ e. is_valid e.call) heard)
  where
    by : (ended over : Bool) → IfSome (cond ended (cond over None (test_of (caps before))) (Some (ended_by_call end))) (Carries asked)
    by true true = tt
    by true false = test_carries (caps before) asked
    by false over = end_call_carries asked end
