-- Which answers may be heard, and what is let go after them.
use Rattle.std.specs.Prelude.{◌≡◌, ◌+◌, ◌≤◌, ℕ, true, false, cond, List, Option, Some, None, is_some}
use Rattle.dsql_engine_going.specs.journal.declared.entry.Entry.{Entry}
use Rattle.dsql_engine_going.specs.journal.Kinds.{is_house, number_of}
use Rattle.dsql_engine_going.specs.journal.HandlesAndCursors.{fits_at_its_place}
use Rattle.dsql_engine_going.specs.journal.Readers.{went_bad}
use Rattle.dsql_engine_going.specs.pool.declared.conn.Place.{Place}
use Rattle.dsql_engine_going.specs.pool.declared.moves.Fate.{Fate}
use Rattle.dsql_engine_going.specs.pool.declared.conn.Place.TheVariants.{Lent}
use Rattle.dsql_engine_going.specs.history.declared.event.Event.{Event}
use Rattle.dsql_engine_going.specs.history.declared.event.Event.TheVariants.{Heard}
use Rattle.dsql_engine_going.specs.history.Readers.HandedOut.{handed_out}
use Rattle.dsql_engine_going.specs.history.Readers.Journals.{journal}
use Rattle.dsql_engine_going.specs.history.Readers.Transactions.{transactions}
use Rattle.dsql_engine_going.specs.history.Readers.Owed.{fate}
use Rattle.dsql_engine_going.specs.history.Readers.Works.{work}
use Rattle.dsql_engine_going.specs.history.Rules.Line.{due_for, is_used, keeps_line}
use Rattle.dsql_engine_going.specs.history.Rules.Moves.{keeps_sets}
use Rattle.dsql_engine_going.specs.history.Rules.Settled.{Settled}
use Rattle.dsql_engine_going.specs.history.Legal.{Allowed}
use Rattle.dsql_engine_going.specs.laws_calls.Bounds.{most_given_back}
use Rattle.dsql_engine_going.specs.laws_steps.Groups.{let_go}
use Rattle.dsql_engine_going.specs.desk.declared.desk.Desk.{Desk}
use Rattle.dsql_engine_going.specs.desk.Appending.{DecidesNow}
use Rattle.dsql_engine_going.specs.desk.Desk.{trimmed, past, Stands}
use Rattle.dsql_engine_going.specs.effects.Heard.{HearsBegin, HearsRows}
use Rattle.dsql_engine_going.specs.laws_due.Carried.{carried}
use Rattle.dsql_engine_hearing.specs.declared.hear.Hearing.{Hearing}

-- Holds if the driver call may be heard now, and its answer fits at its place in the journal. Nothing more is
-- required of the answer.
pub record IsWelcome (past : List Event) (e : Entry) : Type 0 where
  pub sets : keeps_sets past (Heard e) ≡ true
  pub line : keeps_line past (Heard e) ≡ true
  pub carries : e.tx ≡ carried e.owner e.call e.answer
  pub fits : fits_at_its_place (journal past e.conn) e ≡ true

-- Holds if the history is settled, the answer may come next, and all is ready for its step.
pub record MayHear (past : List Event) (e : Entry) (ready : Hearing) : Type 0 where
  pub settled : Settled past
  pub allowed : Allowed past (Heard e)
  pub rows : HearsRows (work past e.call_no) e.call_no e.call (handed_out past)
  pub begin : HearsBegin e.call_no e.call (transactions past)
  pub decides : DecidesNow past e ready.copy ready.reply

-- Returns the call to which, or to whose transaction, a connection in this place is lent, if it is lent to one.
abbrev pub lent_to : Option Place → Option ℕ
lent_to (Some (Lent tenure owner)) = cond (is_house owner) None (Some (number_of owner))
lent_to _ = None

-- Holds if connection c, which was lent to call n or to its transaction, was given back unless it was still in
-- use.
pub record LetsGo (old new : Desk) (c n : ℕ) : Type 0 where
  pub stands : Stands new
  pub paid : old.paid ≤ new.paid + most_given_back
  pub history : past new ≡ let_go c n (past old)
  pub trimmed : trimmed new ≡ trimmed old

-- Holds if call m has the same to send after connection c, which is lent to call n or its transaction, was let go. What
-- the call has to send keeps the connection in use.
pub record StaysDue (past : List Event) (c n m : ℕ) : Type 0 where
  pub used : is_some (due_for past m) ≡ true → is_used past n ≡ true
  pub same : due_for (let_go c n past) m ≡ due_for past m

-- Holds if the newest answer on connection c gives it this fate, or the connection is known to be bad.
abbrev pub TellsOfIt : List Event → ℕ → Fate → Type 0
TellsOfIt past c newest = went_bad (journal past c) ≡ false → newest ≡ fate past c
