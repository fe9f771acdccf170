-- Defines where each unfinished call stands between two steps.
use Rattle.std.specs.Prelude.{ℕ, Bool, true, false, Option, Some, None, ◌==◌, not, ◌&&◌, ◌||◌, cond, List, [], ◌∷◌, is_none, is_some}
use Rattle.dsql_history.specs.declared.record.Stand.{Stand}
use Rattle.dsql_history.specs.declared.record.Stand.TheVariants.{Waits, Opens, Sends, Replies, Asks}
use Rattle.dsql_history_work.specs.course.Made.{or_else}
use Rattle.dsql_wait.specs.Requests.{waits}
use Rattle.dsql_pool.specs.Places.{is_for}
use Rattle.dsql_history.specs.Readers.Pool.{smallest, pool}
use Rattle.dsql_history.specs.Readers.Tries.{asks_again, tries}
use Rattle.dsql_history.specs.declared.event.Event.{Event}
use Rattle.dsql_history.specs.declared.event.Event.TheVariants.{Entered, Heard, Pool}
use Rattle.dsql_pool.specs.declared.moves.Move.TheVariants.{Lend}
use Rattle.dsql_history_work.specs.journal.Readers.{is_empty}
use Rattle.dsql_history.specs.Readers.Owed.{owed}
use Rattle.dsql_history.specs.Readers.Calls.{site, decided, told_by_others, rests_with}
use Rattle.dsql_history.specs.Rules.Line.{due_for}

abbrev pub stands : Bool → Stand → Option Stand
stands true it = Some it
stands false it = None

abbrev pub opens : Option ℕ → Option Stand
opens None = None
opens (Some c) = Some (Opens c)

-- Is true if the call waits for a connection.
abbrev pub is_waiting : Option Stand → Bool
is_waiting (Some Waits) = true
is_waiting _ = false

-- Is true if the step under way is call n's own. It entered, the driver answered it, or it asked and was lent a
-- connection. Only moves came since.
abbrev pub is_own_step : List Event → ℕ → Bool
is_own_step [] n = false
is_own_step (Entered client m op ∷ before) n = m == n
is_own_step (Heard e ∷ before) n = e.call_no == n
is_own_step (Pool (Lend c tenure owner m) ∷ before) n = cond (is_empty (owed before)) (m == n) (is_own_step before n)
is_own_step (Pool move ∷ before) n = is_own_step before n
is_own_step (_ ∷ before) n = false

-- Is true if others have settled what call n replies, or if it rests with a connection on which it has nothing
-- to send.
abbrev pub is_settled_for : List Event → ℕ → Bool
is_settled_for before n =
    is_some (rests_with before n) || (is_none (decided before n) && is_some (told_by_others before n))

-- Is true if call n replies at once in a step of its own.
abbrev pub has_to_reply : List Event → ℕ → Bool
has_to_reply before n = not (is_own_step before n) && is_settled_for before n

-- Returns the first of these that holds, if any.
abbrev pub first_stand : List (Option Stand) → Option Stand
first_stand [] = None
first_stand (it ∷ []) = it
first_stand (it ∷ next ∷ rest) = or_else it (first_stand (next ∷ rest))

-- Returns where call n stands. It waits, a connection is being opened for it, its driver call is due, it has to reply,
-- or it asks again after a refusal. It stands nowhere if it has to ask for another reason, or has settled its reply
-- itself: that follows in the same step.
abbrev pub stand : List Event → ℕ → Option Stand
stand before n =
    first_stand
    (stands (waits n (pool before).waiting) Waits
    ∷ opens (smallest (is_for n) (pool before))
    ∷ stands (is_some (due_for before n)) (Sends (site before n))
    ∷ stands (has_to_reply before n) Replies
    ∷ stands (asks_again (tries before n)) Asks
    ∷ [])
