-- The events of a step after its first, and those that follow from it.
use Rattle.std.proofs.Common.{◌≡◌, ℕ, Bool, true, false, ◌&&◌, cond, List, [], ◌∷◌, ◌++◌, Option, Some, None, refl, sym, ap, ◌∙◌}
use Rattle.std.specs.Prelude.{Result, Ok, Err}
use Rattle.std.specs.List.{list_all}
use Rattle.std.proofs.lemmas.List.{append_assoc}
use Rattle.std.proofs.lemmas.List.Folds.{list_all-append}
use Rattle.dsql_engine_hearing.specs.journal.declared.entry.Entry.{Entry}
use Rattle.dsql_engine_hearing.specs.journal.Kinds.{is_house, number_of}
use Rattle.dsql_engine_hearing.specs.pool.declared.conn.Place.{Place}
use Rattle.dsql_engine_hearing.specs.pool.declared.conn.Place.TheVariants.{Lent}
use Rattle.dsql_engine_hearing.specs.pool.declared.moves.Move.{Move}
use Rattle.dsql_engine_hearing.specs.pool.declared.request.Asked.{Asked}
use Rattle.dsql_engine_hearing.specs.pool.declared.request.Asked.TheVariants as asked
use Rattle.dsql_engine_hearing.specs.pool.declared.request.AskFault.{AskFault}
use Rattle.dsql_engine_hearing.specs.pool.declared.request.AskFault.TheVariants as faults
use Rattle.dsql_engine_hearing.specs.history.declared.event.Event.{Event}
use Rattle.dsql_engine_hearing.specs.history.declared.event.Event.TheVariants.{Heard, Pool, Replied}
use Rattle.dsql_engine_hearing.specs.history.declared.reply.Reply.{Reply}
use Rattle.dsql_engine_hearing.specs.history.Readers.Calls.{rests, rests_with, reply_due}
use Rattle.dsql_engine_hearing.specs.history.Readers.Owed.{given_back, owed}
use Rattle.dsql_engine_hearing.specs.history.Rules.Asking.{ask_outcome, may_ask}
use Rattle.dsql_engine_hearing.specs.history.Rules.Line.{is_used}
use Rattle.dsql_engine_hearing.specs.history.Legal.{Lawful}
use Rattle.dsql_engine_hearing.specs.laws.Asked.{with_asked}
use Rattle.dsql_engine_hearing.specs.laws.OwedMade.{with_moves}
use Rattle.dsql_engine_hearing.proofs.laws.Splits.{Lawful-older}
use Rattle.dsql_engine_hearing.proofs.laws.Tests.{same_itself, together}
use Rattle.dsql_engine_hearing.specs.laws_steps.Groups.{after_reply, given_up, unless_resting, after_settling, asked_so, gone_on, heard_at, let_go, sends_nothing, with_owed, is_later_of}

-- Holds if K is the history H with later events of a step of call n.
pub record Later (n : ℕ) (H K : List Event) : Type 0 where
  pub events : List Event
  pub whole : K ≡ events ++ H
  pub later : list_all (is_later_of n) events ≡ true

pub lawful_older : (n : ℕ) (H K : List Event) → Later n H K → Lawful K → Lawful H
lawful_older n H K more l = let k : Lawful (more.events ++ H) = rw (sym more.whole) l in Lawful-older H more.events k

none_later : (n : ℕ) (H : List Event) → Later n H H
none_later n H = record { events = []; whole = refl; later = refl }

one_later : (n : ℕ) (H : List Event) (x : Event) → is_later_of n x ≡ true → Later n H (x ∷ H)
one_later n H x h = record { events = x ∷ []; whole = refl; later = together (is_later_of n x) true h refl }

joined : (n : ℕ) (H K L : List Event) → Later n H K → Later n K L → Later n H L
joined n H K L a b = record {
  events = b.events ++ a.events;
  whole = b.whole ∙ (ap (λ G. b.events ++ G) a.whole ∙ sym (append_assoc b.events a.events H));
  later = list_all-append (is_later_of n) b.events a.events ∙ together (list_all (is_later_of n) b.events) (list_all (is_later_of n) a.events) b.later a.later;
}

pub moves_later : (n : ℕ) (moves : List Move) (H : List Event) → Later n H (with_moves moves H)
moves_later n [] H = none_later n H
moves_later n (move ∷ moves) H = joined n H (Pool move ∷ H) (with_moves moves (Pool move ∷ H)) (one_later n H (Pool move) refl) (moves_later n moves (Pool move ∷ H))

either_later : (n : ℕ) (b : Bool) (H K L : List Event) → Later n H K → Later n H L → Later n H (cond b K L)
either_later n true H K L a b = a
either_later n false H K L a b = b

given_up_later : (n : ℕ) (o : Option ℕ) (H : List Event) → Later n H (given_up o H)
given_up_later n None H = none_later n H
given_up_later n (Some c) H = moves_later n (given_back H c) H

reply_later : (n : ℕ) (due : Option Reply) (H : List Event) → Later n H (after_reply n due H)
reply_later n None H = none_later n H
reply_later n (Some reply) H =
    let G = given_up (rests_with H n) H in joined n H G (Replied n reply ∷ G) (given_up_later n (rests_with H n) H) (one_later n G (Replied n reply) (same_itself n))

resting_later : (n : ℕ) (H : List Event) → Later n H (unless_resting n H)
resting_later n H = either_later n (sends_nothing H n && rests H n) H (after_reply n (reply_due H n) H) H (reply_later n (reply_due H n) H) (none_later n H)

asked_one : (n : ℕ) (outcome : Result Asked AskFault) (H : List Event) → Later n H (with_asked n outcome H)
asked_one n (Ok (asked.Lent c t)) H = one_later n H _ refl
asked_one n (Ok (asked.Opening c)) H = one_later n H _ refl
asked_one n (Ok asked.Queued) H = one_later n H _ (same_itself n)
asked_one n (Ok asked.Closed) H = none_later n H
asked_one n (Err why) H = none_later n H

asked_later : (n : ℕ) (outcome : Result Asked AskFault) (H : List Event) → Later n H (asked_so n outcome H)
asked_later n (Err faults.TooMany) H = one_later n H _ (same_itself n)
asked_later n (Err faults.Memory) H = joined n H (with_asked n (Err faults.Memory) H) (asked_so n (Err faults.Memory) H) (asked_one n (Err faults.Memory) H) (resting_later n (with_asked n (Err faults.Memory) H))
asked_later n (Ok it) H = joined n H (with_asked n (Ok it) H) (asked_so n (Ok it) H) (asked_one n (Ok it) H) (resting_later n (with_asked n (Ok it) H))

settling_later : (n : ℕ) (due : Option Reply) (H : List Event) → Later n H (after_settling n due H)
settling_later n (Some reply) H = reply_later n (Some reply) H
settling_later n None H = either_later n (may_ask H n) H (asked_so n (ask_outcome H n) H) H (asked_later n (ask_outcome H n) H) (none_later n H)

-- A call that goes on by itself adds later events only.
pub gone_later : (n : ℕ) (H : List Event) → Later n H (gone_on n H)
gone_later n H = either_later n (sends_nothing H n) H (after_settling n (reply_due H n) H) H (settling_later n (reply_due H n) H) (none_later n H)

let_go_later : (n c k : ℕ) (H : List Event) → Later n H (let_go c k H)
let_go_later n c k H = either_later n (is_used H k) H H (with_moves (given_back H c) H) (none_later n H) (moves_later n (given_back H c) H)

owed_later : (n : ℕ) (H : List Event) → Later n H (with_owed H)
owed_later n H = moves_later n (owed H) H

-- After a call has entered, it adds later events only, with the moves that its entry makes due.
pub entered_later : (n : ℕ) (H : List Event) → Later n H (gone_on n (with_owed H))
entered_later n H = joined n H (with_owed H) (gone_on n (with_owed H)) (owed_later n H) (gone_later n (with_owed H))

-- After an answer, only later events of its call's step come.
pub heard_later : (H : List Event) (e : Entry) (at : Option Place) → Later e.call_no (Heard e ∷ H) (heard_at at e H)
heard_later H e (Some (Lent t own)) =
    let n : ℕ = e.call_no in
    let G : List Event = Heard e ∷ H in
    let left : List Event = let_go e.conn (number_of own) G in
    either_later n (is_house own) G (with_owed G) (gone_on n left) (owed_later n G) (joined n G left (gone_on n left) (let_go_later n e.conn (number_of own) G) (gone_later n left))
heard_later H e _ = owed_later e.call_no (Heard e ∷ H)
