-- Bounds how much longer a history is after a step, so that there is room for the end after it.
use Rattle.std.proofs.Common.{◌≡◌, ◌≤◌, ◌<◌, ◌+◌, ◌&&◌, arith, ℕ, Bool, true, false, cond, List, [], ◌∷◌, length, Option, Some, None, subst, sym, ◌∙◌}
use Rattle.std.specs.Prelude.{Result, Ok, Err}
use Rattle.dsql_engine_hearing.specs.journal.declared.entry.Entry.{Entry}
use Rattle.dsql_engine_hearing.specs.journal.Kinds.{is_house, number_of}
use Rattle.dsql_engine_hearing.specs.pool.declared.conn.Place.{Place}
use Rattle.dsql_engine_hearing.specs.pool.declared.conn.Place.TheVariants.{Lent}
use Rattle.dsql_engine_hearing.specs.pool.declared.moves.Move.{Move}
use Rattle.dsql_engine_hearing.specs.pool.declared.request.Asked.{Asked}
use Rattle.dsql_engine_hearing.specs.pool.declared.request.Asked.TheVariants as asked
use Rattle.dsql_engine_hearing.specs.pool.declared.request.AskFault.{AskFault}
use Rattle.dsql_engine_hearing.specs.pool.declared.request.AskFault.TheVariants as faults
use Rattle.dsql_engine_hearing.specs.history.declared.event.Event.{Event}
use Rattle.dsql_engine_hearing.specs.history.declared.event.Event.TheVariants.{Entered, Heard, Pool, Ended}
use Rattle.dsql_engine_hearing.specs.history.declared.event.Op.{Op}
use Rattle.dsql_engine_hearing.specs.history.declared.event.Control.{Control}
use Rattle.dsql_engine_hearing.specs.history.Readers.Controls.{told_after}
use Rattle.dsql_engine_hearing.specs.history.declared.reply.Reply.{Reply}
use Rattle.dsql_engine_hearing.specs.history.Readers.Calls.{next_call, reply_due, rests, rests_with}
use Rattle.dsql_engine_hearing.specs.history.Readers.Owed.{given_back, owed}
use Rattle.dsql_engine_hearing.specs.history.Readers.Pool.{place}
use Rattle.dsql_engine_hearing.specs.history.Rules.Asking.{ask_outcome, may_ask}
use Rattle.dsql_engine_hearing.specs.history.Rules.Settled.{Settled}
use Rattle.dsql_engine_hearing.specs.history.Legal.{Lawful}
use Rattle.dsql_engine_hearing.specs.laws.Asked.{with_asked}
use Rattle.dsql_engine_hearing.specs.laws.OwedMade.{with_moves}
use Rattle.dsql_engine_hearing.specs.laws_calls.Bounds.{most_given_back, most_moves}
use Rattle.dsql_engine_hearing.proofs.laws_calls.Owed.{few_given_back, few_next}
use Rattle.dsql_engine_hearing.proofs.desk.Moves.{leaves}
use Rattle.dsql_engine_hearing.specs.going.Stepping.{events_of_a_step, most_going_on}
use Rattle.dsql_engine_hearing.proofs.Letting.{few_let_go}
use Rattle.dsql_engine_hearing.specs.laws_steps.Groups.{after_control, after_end, after_enter, after_heard, after_reply, after_settling, asked_so, given_up, gone_on, heard_at, let_go, sends_nothing, unless_resting, with_owed, most_events}
use Rattle.dsql_engine.specs.Core.{HasRoomForEnd}

-- Moves lengthen the history by their number.

moves_add : (ms : List Move) (H : List Event) → length (with_moves ms H) ≡ length ms + length H
moves_add [] H = omega arith
moves_add (m ∷ ms) H = let rest = moves_add ms (Pool m ∷ H) in omega (arith, rest)

-- A call that goes on adds few events.

either_adds : (b : Bool) (K H : List Event) (k : ℕ) → length K ≤ length H + k → length (cond b K H) ≤ length H + k
either_adds true K H k few = few
either_adds false K H k few = omega arith

given_up_adds : (o : Option ℕ) (H : List Event) → length (given_up o H) ≤ length H + most_given_back
given_up_adds None H = omega arith
given_up_adds (Some c) H = let longer = moves_add (given_back H c) H in let few = few_given_back H c in omega (arith, longer, few)

reply_adds : (n : ℕ) (o : Option Reply) (H : List Event) → length (after_reply n o H) ≤ length H + (most_given_back + 1)
reply_adds n None H = omega arith
reply_adds n (Some reply) H = let few = given_up_adds (rests_with H n) H in omega (arith, few)

resting_adds : (n : ℕ) (H : List Event) → length (unless_resting n H) ≤ length H + (most_given_back + 1)
resting_adds n H = either_adds (sends_nothing H n && rests H n) (after_reply n (reply_due H n) H) H (most_given_back + 1) (reply_adds n (reply_due H n) H)

asked_adds : (n : ℕ) (a : Result Asked AskFault) (H : List Event) → length (asked_so n a H) ≤ length H + most_going_on
asked_adds n (Ok (asked.Lent c t)) H = let few = resting_adds n (with_asked n (Ok (asked.Lent c t)) H) in omega (arith, few)
asked_adds n (Ok (asked.Opening c)) H = let few = resting_adds n (with_asked n (Ok (asked.Opening c)) H) in omega (arith, few)
asked_adds n (Ok asked.Queued) H = let few = resting_adds n (with_asked n (Ok asked.Queued) H) in omega (arith, few)
asked_adds n (Ok asked.Closed) H = let few = resting_adds n H in omega (arith, few)
asked_adds n (Err faults.TooMany) H = omega arith
asked_adds n (Err faults.Memory) H = let few = resting_adds n H in omega (arith, few)

settling_adds : (n : ℕ) (o : Option Reply) (H : List Event) → length (after_settling n o H) ≤ length H + most_going_on
settling_adds n (Some reply) H = let few = reply_adds n (Some reply) H in omega (arith, few)
settling_adds n None H = either_adds (may_ask H n) (asked_so n (ask_outcome H n) H) H most_going_on (asked_adds n (ask_outcome H n) H)

gone_adds : (n : ℕ) (H : List Event) → length (gone_on n H) ≤ length H + most_going_on
gone_adds n H = either_adds (sends_nothing H n) (after_settling n (reply_due H n) H) H most_going_on (settling_adds n (reply_due H n) H)

-- An event adds itself and the moves that it makes due.

event_adds_few : (H : List Event) (e : Event) → Lawful H → Settled H → length (with_owed (e ∷ H)) ≤ length H + 1 + most_moves
event_adds_few H e l settled =
    let few = few_next H e l settled.nothing_owed in
    let longer = moves_add (owed (e ∷ H)) (e ∷ H) in
    omega (arith, few, longer)

-- Therefore a step adds few events.

entered_adds_few : (H : List Event) (client : ℕ) (op : Op) → Lawful H → Settled H → length (after_enter H client op) ≤ length H + events_of_a_step
entered_adds_few H client op l settled =
    let e = Entered client (next_call H) op in
    let entered = event_adds_few H e l settled in
    let gone = gone_adds (next_call H) (with_owed (e ∷ H)) in
    omega (arith, entered, gone)

rest_adds_few : (H : List Event) (e : Event) → Lawful H → Settled H → length (with_owed (e ∷ H)) ≤ length H + events_of_a_step
rest_adds_few H e l settled = let few = event_adds_few H e l settled in omega (arith, few)

heard_at_adds_few : (H : List Event) (e : Entry) (at : Option Place) → Lawful H → Settled H → length (heard_at at e H) ≤ length H + events_of_a_step
heard_at_adds_few H e (Some (Lent t owner)) l settled = by (is_house owner)
  where
    K : List Event
    K = Heard e ∷ H

    by : (b : Bool) → length (cond b (with_owed K) (gone_on e.call_no (let_go e.conn (number_of owner) K))) ≤ length H + events_of_a_step
    by true = rest_adds_few H (Heard e) l settled
    by false =
        let left = few_let_go K e.conn (number_of owner) in
        let gone = gone_adds e.call_no (let_go e.conn (number_of owner) K) in
        omega (arith, left, gone)
heard_at_adds_few H e _ l settled = rest_adds_few H (Heard e) l settled

-- A step that begins before the run is full leaves room for the end.

room_after : (H K G : List Event) → K ≡ G → length G ≤ length H + events_of_a_step → length H < most_events → HasRoomForEnd K
room_after H K G is few short = subst (λ (P : List Event). HasRoomForEnd P) (sym is) (λ running. omega (arith, few, short))

pub room_after_gone : (H K : List Event) (n : ℕ) → K ≡ gone_on n H → length H < most_events → HasRoomForEnd K
room_after_gone H K n is short = let one = gone_adds n H in room_after H K (gone_on n H) is (omega (arith, one)) short

pub room_after_enter : (H K : List Event) (client : ℕ) (op : Op) → K ≡ after_enter H client op → Lawful H → Settled H → length H < most_events → HasRoomForEnd K
room_after_enter H K client op is l settled short = room_after H K (after_enter H client op) is (entered_adds_few H client op l settled) short

pub room_after_heard : (H K : List Event) (e : Entry) → K ≡ after_heard H e → Lawful H → Settled H → length H < most_events → HasRoomForEnd K
room_after_heard H K e is l settled short = room_after H K (after_heard H e) is (heard_at_adds_few H e (place H e.conn) l settled) short

pub room_after_control : (H K : List Event) (control : Control) → K ≡ after_control H control → Lawful H → Settled H → length H < most_events → HasRoomForEnd K
room_after_control H K control is l settled short = room_after H K (after_control H control) is (rest_adds_few H (told_after H control) l settled) short

-- After the end, no room for another end is needed, because the end comes once.
pub room_after_end : (H K : List Event) → K ≡ after_end H → HasRoomForEnd K
room_after_end H K is =
    let G = Ended ∷ H in
    let left = leaves (owed G) G in
    subst (λ (P : List Event). HasRoomForEnd P) (sym is) (λ running. let clash : true ≡ false = sym left.has_ended ∙ running in absurd cc)
