-- Defines the exchanges on each connection since it was lent, as the course of its call sees them.
use Rattle.std.specs.Prelude.{ℕ, ◌==◌, Bool, false, ◌||◌, cond, List, [], ◌∷◌, Option, Some, None}
use Rattle.dsql_laws.specs.driver.Kinds.{is_bad, is_valid}
use Rattle.dsql_laws.specs.driver.declared.caps.Caps.{Caps}
use Rattle.dsql_laws.specs.driver.declared.call.DriverCall.{DriverCall}
use Rattle.dsql_laws.specs.driver.declared.call.DriverCall.TheVariants.{Reset}
use Rattle.dsql_laws.specs.course.declared.course.Wish.{Wish}
use Rattle.dsql_laws.specs.course.Made.{Exchange}
use Rattle.dsql_laws.specs.journal.declared.entry.Entry.{Entry}
use Rattle.dsql_laws.specs.works.Exchanges.{step_of, with_exchange}
use Rattle.dsql_laws.specs.works.Line.{Asked, body_after}
use Rattle.dsql_laws.specs.history.declared.event.Event.{Event}
use Rattle.dsql_laws_calls.specs.There.{there}

-- Returns the exchanges after one more entry. A driver call that is no step of a course, such as a Connect or a
-- Shut, adds none.
abbrev pub with_entry : Entry → List Exchange → List Exchange
with_entry e made = with_exchange (step_of e.call) e.answer made

-- Returns the first driver call of a tenure.
abbrev pub first_sent : Caps → Bool → Asked → Wish → List Exchange → Option DriverCall
first_sent can reset_due asked wish made = cond reset_due (Some Reset) (body_after can false asked wish made)

-- Returns the next driver call in tenure t, given the connection's journal and the exchanges. Only the newest
-- entry of the journal counts.
abbrev pub sent_next : Caps → Bool → Asked → Wish → ℕ → List Entry → List Exchange → Option DriverCall
sent_next can reset_due asked wish t [] made = first_sent can reset_due asked wish made
sent_next can reset_due asked wish t (e ∷ earlier) made =
    cond (e.tenure == t) (cond (is_bad e.answer
    || is_valid e.call) None (body_after can false asked wish made)) (first_sent can reset_due asked wish made)

abbrev pub made : List Event → ℕ → List Exchange
made before c = there [] with_entry before c
