-- Defines the tries of a call to get a connection that serves it.
use Rattle.std.specs.Prelude.{ℕ, ◌==◌, ◌+◌, nat_lt, Bool, true, false, ◌&&◌, List, [], ◌∷◌, length, cond}
use Rattle.dsql_history_work.specs.driver.Kinds.{is_bad}
use Rattle.dsql_history.specs.declared.record.Try.{Try}
use Rattle.dsql_history.specs.declared.record.Try.TheVariants.{Served, Lost, Refused}
use Rattle.dsql_history_work.specs.driver.declared.call.DriverCall.{DriverCall}
use Rattle.dsql_history_work.specs.driver.declared.call.DriverCall.TheVariants.{Reset, Prepare, Exec, Query, Next}
use Rattle.dsql_history_work.specs.driver.declared.call.DriverCall.TheVariants as calls
use Rattle.dsql_history_work.specs.driver.declared.answer.DriverAnswer.{DriverAnswer}
use Rattle.dsql_history_work.specs.driver.declared.answer.DriverAnswer.TheVariants as answers
use Rattle.dsql_history_work.specs.journal.declared.entry.Entry.{Entry}
use Rattle.dsql_pool.specs.declared.moves.Move.TheVariants.{Lend, Fell}
use Rattle.dsql_history.specs.declared.event.Event.{Event}
use Rattle.dsql_history.specs.declared.event.Event.TheVariants.{Heard, Pool}
use Rattle.dsql_history.specs.declared.work.Work.{Work}
use Rattle.dsql_history.specs.declared.work.Task.TheVariants.{ReadOne}
use Rattle.dsql_history.specs.declared.work.Work.TheVariants.{Statement}
use Rattle.dsql_history.specs.Readers.Works.{work, asks}

-- Returns the most tries that a call has.
abbrev pub most_tries : ℕ
most_tries = 3

abbrev pub with_try : Bool → Try → List Try → List Try
with_try true newest earlier = newest ∷ earlier
with_try false newest earlier = earlier

-- Returns the tries after the newest one is lost, if the call was served in it. Other tries stay as they are.
abbrev pub lost : List Try → List Try
lost (Served ∷ earlier) = Lost ∷ earlier
lost tries = tries

-- Returns the number of the newest try. It is 1 if the call has had no try, because the call is then in its
-- first.
abbrev pub try_number : List Try → ℕ
try_number [] = 1
try_number (newest ∷ earlier) = length (newest ∷ earlier)

-- Is true if the try came to nothing because a connection was bad.
abbrev pub came_to_nothing : Try → Bool
came_to_nothing Served = false
came_to_nothing Lost = true
came_to_nothing (Refused answer) = is_bad answer

-- Is true if the call has another try: its first, or one more after the newest came to nothing. It has at most
-- `most_tries`.
abbrev pub has_a_try : List Try → Bool
has_a_try [] = true
has_a_try (newest ∷ earlier) = came_to_nothing newest && nat_lt (length (newest ∷ earlier)) most_tries

-- Is true if the next try is the last one.
abbrev pub asks_last : List Try → Bool
asks_last tries = length tries + 1 == most_tries

-- Is true if the call was served in its newest try, and that try isn't lost.
abbrev pub was_served : List Try → Bool
was_served (Served ∷ earlier) = true
was_served tries = false

-- Is true if the newest try was refused, because the connection to be opened for the call was bad, and the call
-- has another try.
abbrev pub asks_again : List Try → Bool
asks_again (Refused answer ∷ earlier) = has_a_try (Refused answer ∷ earlier)
asks_again tries = false

-- Returns the answer in the newest event.
abbrev pub newest_answer : List Event → DriverAnswer
newest_answer (Heard e ∷ before) = e.answer
newest_answer _ = answers.Bad

-- Is true if a call with this work sends the driver call before anything is decided for it. If the answer is
-- Bad, the server has done nothing, so the layer may send it again on another connection. This isn't so for a
-- ping.
abbrev pub is_tried : Work → DriverCall → Bool
is_tried work Reset = true
is_tried work (Prepare text) = true
is_tried work (Exec input params) = true
is_tried work (Query input params) = true
is_tried work (calls.Begin level read_only) = true
is_tried (Statement scope (ReadOne dests)) (Next rows) = true
is_tried work call = false

-- Is true if the answer says that the connection of this try is bad.
abbrev pub loses : Work → Entry → Bool
loses work e = is_tried work e.call && is_bad e.answer

-- Returns the tries of call n, newest first: the lendings to it, among them the lost ones, and the refused
-- connections that fell to it.
abbrev pub tries : List Event → ℕ → List Try
tries [] n = []
tries (Heard e ∷ before) n = cond ((e.call_no == n) && loses (work before n) e) (lost (tries before n)) (tries before n)
tries (Pool (Lend c tenure owner m) ∷ before) n = with_try (m == n) Served (tries before n)
tries (Pool (Fell c m) ∷ before) n = with_try (m == n) (Refused (newest_answer before)) (tries before n)
tries (_ ∷ before) n = tries before n

-- Is true if a call with this work asks again after its connection turns out to be bad in this try. A call in a
-- transaction never does.
abbrev pub tries_again : Work → ℕ → Bool
tries_again work number = asks work && nat_lt number most_tries
