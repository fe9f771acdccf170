-- Defines the events of one step.
use Rattle.std.specs.Prelude.{ℕ, Bool, not, ◌&&◌, cond, List, ◌∷◌, Option, Some, None, Result, Err, is_some, ◌≡◌, ◌==◌, true, false, [], ◌++◌}
use Rattle.dsql_laws.specs.history.declared.limits.TheConstants.{MAX_EVENTS}
use Rattle.dsql_laws.specs.journal.declared.entry.Entry.{Entry}
use Rattle.dsql_laws.specs.journal.Kinds.{is_house, number_of}
use Rattle.dsql_laws.specs.pool.declared.conn.Place.{Place}
use Rattle.dsql_laws.specs.pool.declared.conn.Place.TheVariants.{Lent}
use Rattle.dsql_laws.specs.pool.declared.request.Asked.{Asked}
use Rattle.dsql_laws.specs.pool.declared.request.AskFault.{AskFault}
use Rattle.dsql_laws.specs.pool.declared.request.AskFault.TheVariants as faults
use Rattle.dsql_laws.specs.history.declared.event.Event.{Event}
use Rattle.dsql_laws.specs.history.declared.event.Event.TheVariants.{Entered, Heard, Replied, Ended, Pool, Waits}
use Rattle.dsql_laws.specs.history.declared.event.Op.{Op}
use Rattle.dsql_laws.specs.history.declared.event.Control.{Control}
use Rattle.dsql_laws.specs.history.declared.reply.Reply.{Reply}
use Rattle.dsql_laws.specs.history.declared.reply.Reply.TheVariants.{TooMany}
use Rattle.dsql_laws.specs.history.Readers.Unfinished.{is_unfinished}
use Rattle.dsql_laws.specs.history.Readers.Pool.{place}
use Rattle.dsql_laws.specs.history.Readers.Owed.{given_back, owed}
use Rattle.dsql_laws.specs.history.Readers.Calls.{next_call, reply_due, rests, rests_with}
use Rattle.dsql_laws.specs.history.Rules.Asking.{may_ask, ask_outcome}
use Rattle.dsql_laws.specs.history.Rules.Line.{due_for, is_used}
use Rattle.dsql_laws.specs.Asked.{with_asked}
use Rattle.dsql_laws.specs.OwedMade.{with_moves}
use Rattle.dsql_laws.specs.history.Readers.Controls.{told_after}
use Rattle.std.specs.List.{list_all}

-- Returns the number of events at which a run stops.
abbrev pub most_events : ℕ
most_events = MAX_EVENTS

-- Returns the history after the moves that the pool owes.
abbrev pub with_owed : List Event → List Event
with_owed past = with_moves (owed past) past

-- Returns the history after this connection, if any, is given back.
abbrev pub given_up : Option ℕ → List Event → List Event
given_up (Some c) past = with_moves (given_back past c) past
given_up None past = past

-- Returns the history after call n replies this, if anything. The call first gives back a connection with which
-- it rests.
abbrev pub after_reply : ℕ → Option Reply → List Event → List Event
after_reply n (Some reply) past = Replied n reply ∷ given_up (rests_with past n) past
after_reply n None past = past

-- Is true if the call has no reply, and no driver call of it is due.
abbrev pub sends_nothing : List Event → ℕ → Bool
sends_nothing past n = is_unfinished past n && not (is_some (due_for past n))

-- Returns the history after a call goes on at once that rests with a connection which it was lent in this step.
abbrev pub unless_resting : ℕ → List Event → List Event
unless_resting n past = cond (sends_nothing past n && rests past n) (after_reply n (reply_due past n) past) past

-- Returns the history after call n asked with this outcome.
abbrev pub asked_so : ℕ → Result Asked AskFault → List Event → List Event
asked_so n (Err faults.TooMany) past = Replied n TooMany ∷ past
asked_so n outcome past = unless_resting n (with_asked n outcome past)

-- Returns the history after call n asks for a connection, if it may.
abbrev pub after_asking : ℕ → List Event → List Event
after_asking n past = cond (may_ask past n) (asked_so n (ask_outcome past n) past) past

-- Returns the history after call n replies what is settled, or asks if nothing is.
abbrev pub after_settling : ℕ → Option Reply → List Event → List Event
after_settling n None past = after_asking n past
after_settling n due past = after_reply n due past

-- Returns the history after call n goes on by itself as far as it can. If no driver call of it is due, it
-- replies what is settled, or otherwise asks for a connection if it may. There is no call 0.
abbrev pub gone_on : ℕ → List Event → List Event
gone_on n past = cond (sends_nothing past n) (after_settling n (reply_due past n) past) past

-- Returns the history after a call enters.
abbrev pub after_enter : List Event → ℕ → Op → List Event
after_enter past client op = gone_on (next_call past) (with_owed (Entered client (next_call past) op ∷ past))

-- Returns the history after connection c is given back, if it isn't in use. It is lent to call n, or to the
-- transaction that call n began.
abbrev pub let_go : ℕ → ℕ → List Event → List Event
let_go c n past = cond (is_used past n) past (with_moves (given_back past c) past)

abbrev pub heard_at : Option Place → Entry → List Event → List Event
heard_at (Some (Lent tenure owner)) e past =
    cond (is_house owner) (with_owed (Heard e ∷ past))
    (gone_on e.call_no (let_go e.conn (number_of owner) (Heard e ∷ past)))
heard_at _ e past = with_owed (Heard e ∷ past)

-- Returns the history after a driver's answer is heard.
abbrev pub after_heard : List Event → Entry → List Event
after_heard past e = heard_at (place past e.conn) e past

-- Returns the history after a limit or the present moment is set.
abbrev pub after_control : List Event → Control → List Event
after_control past control = with_owed (told_after past control ∷ past)

-- Returns the history after the run ends.
abbrev pub after_end : List Event → List Event
after_end past = with_owed (Ended ∷ past)

-- Is true if the event may come in a step of call n after its first event. It is a move of the pool, or a wait or a
-- reply of the call.
abbrev pub is_later_of : ℕ → Event → Bool
is_later_of n (Pool move) = true
is_later_of n (Waits m) = m == n
is_later_of n (Replied m reply) = m == n
is_later_of n _ = false

-- Holds if these events, newest first, are a first event and the later ones of a step of call n that it causes.
pub record IsGroup (first : Event) (n : ℕ) (events : List Event) : Type 0 where
  pub more : List Event
  pub whole : events ≡ more ++ first ∷ []
  pub later : list_all (is_later_of n) more ≡ true
