-- What a call that goes on requires, and what it ensures.
use Rattle.std.specs.Prelude.{◌≡◌, ◌≤◌, ◌<◌, ◌+◌, ℕ, true, false, List, length, Option, Some, is_some, option_map}
use Rattle.dsql_laws_calls.specs.works.Limits.{most_within_a_step}
use Rattle.dsql_laws_calls.specs.history.declared.event.Event.{Event}
use Rattle.dsql_laws_calls.specs.history.declared.record.Flight.{Flight}
use Rattle.dsql_laws_calls.specs.history.Readers.Unfinished.{is_unfinished}
use Rattle.dsql_laws_calls.specs.history.Rules.Flights.{is_in_flight, permitted}
use Rattle.dsql_laws_calls.specs.history.Readers.Calls.{reply_due, rests_with}
use Rattle.dsql_laws_calls.specs.history.Rules.Line.{due_for}
use Rattle.dsql_laws_calls.specs.history.Rules.Replies.{gave_back}
use Rattle.dsql_laws_calls.specs.history.Rules.Settled.{Settled, is_settled_but}
use Rattle.dsql_laws_calls.specs.history.Rules.Stands.{stand}
use Rattle.dsql_laws_calls.specs.history.Rules.Sent.{asked_by}
use Rattle.dsql_laws_steps.specs.Groups.{given_up}
use Rattle.dsql_engine_exchanged.specs.declared.bare.BareCall.{BareCall}
use Rattle.dsql_engine_exchanged.specs.Filled.{filled}
use Rattle.dsql_engine_pooling.specs.UnderWay.{UnderWay}
use Rattle.dsql_engine_desk.specs.declared.desk.Desk.{Desk}
use Rattle.dsql_engine_desk.specs.Desk.{trimmed, past, Stands}
use Rattle.dsql_engine_going.specs.declared.next.Next.{Next}
use Rattle.dsql_engine_going.specs.Answers.{next_for}

-- Holds if there is memory for this many events, and the run isn't too long with them.
pub record CanPay (desk : Desk) (events : ℕ) : Type 0 where
  pub stands : Stands desk
  pub paid : events ≤ desk.paid
  pub few : length (past desk) + events ≤ most_within_a_step

-- Holds if call n gave back the connection with which it rested, if it did. Its reply is still to come and is
-- unchanged, and all else is settled.
pub record GivesUp (old new : Desk) (n : ℕ) : Type 0 where
  pub stands : Stands new
  pub paid : 0 < new.paid
  pub few : length (past new) < most_within_a_step
  pub history : past new ≡ given_up (rests_with (past old) n) (past old)
  pub trimmed : trimmed new ≡ trimmed old
  pub unfinished : is_unfinished (past new) n ≡ true
  pub silent : is_some (due_for (past new) n) ≡ false
  pub gave : gave_back (past new) n ≡ true
  pub due : reply_due (past new) n ≡ reply_due (past old) n
  pub settled : is_settled_but n (past new) ≡ true

-- Holds if a step led to this history, which is settled.
pub record Reaches (new : Desk) (history : List Event) : Type 0 where
  pub stands : Stands new
  pub settled : Settled (past new)
  pub group : past new ≡ history

-- Holds if an unfinished call with no driver call under way goes on, and all except it is settled.
pub record MayGoOn (past : List Event) (flights : UnderWay) (n : ℕ) : Type 0 where
  pub settled : is_settled_but n past ≡ true
  pub unfinished : is_unfinished past n ≡ true
  pub parked : is_in_flight n flights.flights ≡ false
  pub spare : 0 < flights.spare

-- Holds if this is the driver call that is due for call n, without its statement, or none is due.
abbrev pub IsDue : List Event → ℕ → Option BareCall → Type 0
IsDue past n due = option_map (filled (asked_by past n)) due ≡ due_for past n

-- Holds if the call has gone on, and these driver calls were under way before.
pub record HasGoneOn (now : List Event) (before after : List Flight) (n : ℕ) (next : Next) : Type 0 where
  pub answers : next_for now before n ≡ Some next
  pub flights : after ≡ permitted n (stand now n) before
