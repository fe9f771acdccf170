-- What the event methods of the desk require, and what they ensure.
use Rattle.std.specs.Prelude.{ℕ, Bool, true, false, ◌≡◌, ◌<◌, ◌≤◌, ◌+◌, List, [], ◌∷◌, length, Option, Some, None, Result, Ok}
use Rattle.dsql_laws_calls.specs.driver.declared.answer.DriverAnswer.{DriverAnswer}
use Rattle.dsql_laws_calls.specs.journal.declared.entry.Entry.{Entry}
use Rattle.dsql_laws_calls.specs.journal.declared.entry.Owner.{Owner}
use Rattle.dsql_laws_calls.specs.works.Limits.{most_within_a_step}
use Rattle.dsql_laws_calls.specs.pool.declared.moves.Fate.{Fate}
use Rattle.dsql_laws_calls.specs.pool.declared.moves.Move.TheVariants.{OpenStart, Lend}
use Rattle.dsql_laws_calls.specs.pool.declared.request.Asked.{Asked}
use Rattle.dsql_laws_calls.specs.pool.declared.request.Asked.TheVariants as asked
use Rattle.dsql_laws_calls.specs.pool.declared.request.AskFault.{AskFault}
use Rattle.dsql_laws_calls.specs.history.declared.event.Event.{Event}
use Rattle.dsql_laws_calls.specs.history.declared.event.Event.TheVariants.{Pool, Waits}
use Rattle.dsql_laws_calls.specs.history.declared.event.Op.{Op}
use Rattle.dsql_laws_calls.specs.history.declared.event.Op.TheVariants.{DbClose}
use Rattle.dsql_laws_calls.specs.history.declared.reply.Reply.{Reply}
use Rattle.dsql_laws_calls.specs.history.Readers.Calls.{reply_due}
use Rattle.dsql_laws_calls.specs.history.Readers.Owed.{fate, given_back, owed}
use Rattle.dsql_laws_calls.specs.history.Readers.Tries.{try_number, tries}
use Rattle.dsql_laws_calls.specs.history.Readers.Unfinished.{is_unfinished}
use Rattle.dsql_laws_calls.specs.history.Readers.Works.{work}
use Rattle.dsql_laws_calls.specs.history.Rules.Asking.{may_ask, ask_outcome}
use Rattle.dsql_laws_calls.specs.history.Rules.Settled.{is_settled_but}
use Rattle.dsql_laws_calls.specs.history.Legal.{Allowed}
use Rattle.dsql_laws_calls.specs.laws.Asked.{with_asked}
use Rattle.dsql_laws_calls.specs.laws.Leaving.{MayLeave}
use Rattle.dsql_laws_calls.specs.laws.OwedMade.{with_moves}
use Rattle.dsql_engine_desk.specs.declared.desk.Desk.{Desk}
use Rattle.dsql_engine_desk.specs.Desk.{trimmed, past, Stands}
use Rattle.dsql_engine_calls.specs.Settling.{reply_or}
use Rattle.dsql_engine_effects.specs.Heard.{Decides}

-- Holds if the event may come next, and there is memory for it and for the moves that it makes due.
pub record MayAppend (desk : Desk) (event : Event) : Type 0 where
  pub stands : Stands desk
  pub paid : length (owed (event ∷ past desk)) < desk.paid
  pub allowed : Allowed (past desk) event
  pub few : length (past desk) < most_within_a_step

-- Holds if `copy` is the entry's answer, and `reply` is what the answer to a Query or a Next decides for its
-- call. Claims nothing about `reply` if the call isn't unfinished.
pub record DecidesNow (past : List Event) (entry : Entry) (copy : DriverAnswer) (reply : Option Reply) : Type 0 where
  pub same : copy ≡ entry.answer
  pub decides : is_unfinished past entry.call_no ≡ true
      → Decides (try_number (tries past entry.call_no)) (work past entry.call_no) entry copy reply

-- Holds if the event came, and then the moves that it made due.
pub record Appends (old new : Desk) (added : Event) : Type 0 where
  pub stands : Stands new
  pub paid : new.paid + length (owed (added ∷ past old)) + 1 ≡ old.paid
  pub event : past new ≡ with_moves (owed (added ∷ past old)) (added ∷ past old)
  pub trimmed : trimmed new ≡ trimmed old

-- Holds if the owed moves came.
pub record Makes (old new : Desk) : Type 0 where
  pub stands : Stands new
  pub paid : new.paid + length (owed (past old)) ≡ old.paid
  pub moves : past new ≡ with_moves (owed (past old)) (past old)
  pub trimmed : trimmed new ≡ trimmed old

-- Holds if connection c may leave its call, its journal gives it this fate, and there is memory for the moves
-- that this makes.
pub record MayGiveBack (desk : Desk) (c : ℕ) (told : Fate) : Type 0 where
  pub stands : Stands desk
  pub leaves : MayLeave (past desk) c
  pub fate : told ≡ fate (past desk) c
  pub paid : length (given_back (past desk) c) ≤ desk.paid
  pub few : length (past desk) < most_within_a_step

-- Holds if connection c was given back and its moves came.
pub record GivesBack (old new : Desk) (c : ℕ) : Type 0 where
  pub stands : Stands new
  pub paid : new.paid + length (given_back (past old) c) ≡ old.paid
  pub moves : past new ≡ with_moves (given_back (past old) c) (past old)
  pub trimmed : trimmed new ≡ trimmed old

-- Holds if call n may ask for a connection, all else is settled, and there is memory for what follows.
pub record MayAskNow (desk : Desk) (n : ℕ) : Type 0 where
  pub stands : Stands desk
  pub owing : owed (past desk) ≡ []
  pub asks : may_ask (past desk) n ≡ true
  pub settled : is_settled_but n (past desk) ≡ true
  pub paid : 0 < desk.paid
  pub few : length (past desk) < most_within_a_step

-- Holds if call n asked, and what follows from the pool's outcome came.
pub record Asks (old new : Desk) (n : ℕ) : Type 0 where
  pub stands : Stands new
  pub paid : new.paid + 1 ≡ old.paid
  pub event : past new ≡ with_asked n (ask_outcome (past old) n) (past old)
  pub trimmed : trimmed new ≡ trimmed old

-- Returns the event that follows if call n asks for a tenure of this owner, if there is one.
abbrev pub event_asked : ℕ → Owner → Result Asked AskFault → Option Event
event_asked n owner (Ok (asked.Lent c tenure)) = Some (Pool (Lend c tenure owner n))
event_asked n owner (Ok (asked.Opening c)) = Some (Pool (OpenStart c n))
event_asked n owner (Ok asked.Queued) = Some (Waits n)
event_asked n owner _ = None

-- Returns the reply of call n, if that is settled.
abbrev pub reply_now : List Event → ℕ → Reply
reply_now past n = reply_or (reply_due past n)

-- Is true if the operation closes the database.
abbrev pub is_close : Op → Bool
is_close DbClose = true
is_close _ = false
