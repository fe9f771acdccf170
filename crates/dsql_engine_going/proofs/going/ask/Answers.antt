use Rattle.std.proofs.Common.{◌≡◌, ℕ, ◌∷◌, true, false, length, Some, is_some, refl, sym, ap, subst, ◌∙◌, arith}
use Rattle.std.specs.Prelude.{Ok, Err}
use Rattle.dsql_laws_calls.specs.pool.declared.moves.Move.TheVariants.{OpenStart, Lend}
use Rattle.dsql_laws_calls.specs.pool.declared.request.Asked.TheVariants as asked
use Rattle.dsql_laws_calls.specs.pool.declared.request.AskFault.TheVariants as faults
use Rattle.dsql_laws_calls.specs.pool.Places.{is_for}
use Rattle.dsql_laws_calls.specs.history.declared.event.Event.TheVariants.{Pool, Waits, Replied}
use Rattle.dsql_laws_calls.specs.history.declared.record.Stand.TheVariants as stands_at
use Rattle.dsql_laws_calls.specs.history.declared.reply.Reply.TheVariants.{TooMany}
use Rattle.dsql_laws_calls.specs.history.Readers.Pool.{smallest, pool}
use Rattle.dsql_laws_calls.specs.history.Readers.Calls.{rests}
use Rattle.dsql_laws_calls.specs.history.Readers.Unfinished.{is_unfinished}
use Rattle.dsql_laws_calls.specs.history.Readers.Works.{owner_of}
use Rattle.dsql_laws_calls.specs.history.Rules.Asking.{ask_outcome, is_too_many, may_ask}
use Rattle.dsql_laws_calls.specs.history.Rules.Line.{due_for}
use Rattle.dsql_laws_calls.specs.history.Rules.Settled.{Settled, is_settled_but}
use Rattle.dsql_laws_calls.specs.history.Legal.{Allowed, Lawful}
use Rattle.dsql_laws_calls.specs.laws.Asked.{with_asked}
use Rattle.dsql_laws_steps.specs.Groups.{asked_so, unless_resting}
use Rattle.dsql_engine_desk.specs.declared.desk.Desk.{Desk}
use Rattle.dsql_engine_desk.specs.Appending.{Asks}
use Rattle.dsql_engine_desk.specs.Desk.{past, Stands}
use Rattle.dsql_engine_going.specs.Reaching.{HasGoneOn, Reaches}
use Rattle.dsql_engine_going.specs.declared.next.Next.TheVariants as nexts
use Rattle.dsql_engine_going.specs.declared.next.Why.TheVariants as whys
use Rattle.dsql_engine_going.proofs.Asking.{asking_silent, never_closed, never_memory, settled_asked, settled_lent, stands_opened, stands_queued}
use Rattle.dsql_engine_going.proofs.Resting.{asking_gave, asking_restless, opening_group, queued_group, rests_unless_due}
use Rattle.dsql_engine_going.proofs.Replying.{goes_replying, many_cause, reply_allowed, settled_replied}
use Rattle.dsql_engine_going.proofs.Standing.{goes_blocked, number_in}
use Rattle.dsql_engine_going.proofs.going.ask.Goals as goal

-- The step reaches its history if the call asked, was lent no connection, and not too many connections were
-- open.
reaches_asked : (old new : Desk) (n : ℕ) → Stands old → is_settled_but n (past old) ≡ true → may_ask (past old) n ≡ true → is_too_many (ask_outcome (past old) n) ≡ false → Asks old new n
    → rests (with_asked n (ask_outcome (past old) n) (past old)) n ≡ false → asked_so n (ask_outcome (past old) n) (past old) ≡ with_asked n (ask_outcome (past old) n) (past old)
    → Reaches new (asked_so n (ask_outcome (past old) n) (past old))
unfolding Stands
reaches_asked old new n s settled may few asks restless group = record {
  stands = asks.stands;
  settled = subst (λ K. Settled K) (sym asks.event) (settled_asked (past old) n s.tables.lawful settled may few restless);
  group = asks.event ∙ sym group;
}

-- Holds if a connection was lent to the call just before.
record IsLent (old new : Desk) (n c t : ℕ) : Type 0 where
  came : past new ≡ Pool (Lend c t (owner_of (past old) n) n) ∷ past old
  lawful : Lawful (Pool (Lend c t (owner_of (past old) n) n) ∷ past old)

is_lent : (old new : Desk) (n c t : ℕ) → Asks old new n → ask_outcome (past old) n ≡ Ok (asked.Lent c t) → IsLent old new n c t
unfolding Stands
is_lent old new n c t asks out =
    let came : past new ≡ Pool (Lend c t (owner_of (past old) n) n) ∷ past old = asks.event ∙ ap (λ a. with_asked n a (past old)) out in
    record { came = came; lawful = subst (λ K. Lawful K) came asks.stands.tables.lawful }

pub go_on_lent-requires-clause-pays : goal.go_on_lent-requires-clause-pays
go_on_lent-requires-clause-pays c =
    let n = c.args.call in
    let asks = c.ask.ensures.asks in
    let out : ask_outcome (past c.args.desk.now) n ≡ Ok (asked.Lent c.in-Ok-Lent.field-0-0 c.in-Ok-Lent.field-0-1) = sym c.ask.ensures.outcome ∙ (c.in-Ok-Lent.is ∙ ap (λ it. Ok it) c.in-Ok-Lent.field-0-is) in
    let lent = is_lent c.args.desk.now c.ask.new.self n c.in-Ok-Lent.field-0-0 c.in-Ok-Lent.field-0-1 asks out in
    let longer = ap length lent.came in
    record {
      stands = asks.stands;
      paid = let before = c.requires.pays.paid in let after = asks.paid in omega (arith, before, after);
      few = let room = c.requires.pays.few in omega (arith, longer, room);
    }

pub go_on_lent-requires-clause-may : goal.go_on_lent-requires-clause-may
go_on_lent-requires-clause-may c =
    let H = past c.args.desk.now in
    let n = c.args.call in
    let may = c.requires.may in
    let conn = c.in-Ok-Lent.field-0-0 in
    let tenure = c.in-Ok-Lent.field-0-1 in
    let out : ask_outcome H n ≡ Ok (asked.Lent conn tenure) = sym c.ask.ensures.outcome ∙ (c.in-Ok-Lent.is ∙ ap (λ it. Ok it) c.in-Ok-Lent.field-0-is) in
    let lent = is_lent c.args.desk.now c.ask.new.self n conn tenure c.ask.ensures.asks out in
    record {
      settled = subst (λ K. is_settled_but n K ≡ true) (sym lent.came) (settled_lent H conn tenure n lent.lawful may.settled c.requires.asks out);
      unfinished = ap (λ K. is_unfinished K n) lent.came ∙ may.unfinished;
      parked = may.parked;
      spare = may.spare;
    }

pub go_on_lent-requires-clause-rests : goal.go_on_lent-requires-clause-rests
go_on_lent-requires-clause-rests c = λ silent.
    let n = c.args.call in
    let out : ask_outcome (past c.args.desk.now) n ≡ Ok (asked.Lent c.in-Ok-Lent.field-0-0 c.in-Ok-Lent.field-0-1) = sym c.ask.ensures.outcome ∙ (c.in-Ok-Lent.is ∙ ap (λ it. Ok it) c.in-Ok-Lent.field-0-is) in
    let lent = is_lent c.args.desk.now c.ask.new.self n c.in-Ok-Lent.field-0-0 c.in-Ok-Lent.field-0-1 c.ask.ensures.asks out in
    ap (λ K. rests K n) lent.came
    ∙ rests_unless_due (past c.args.desk.now) c.in-Ok-Lent.field-0-0 c.in-Ok-Lent.field-0-1 (owner_of (past c.args.desk.now) n) n lent.lawful (sym (ap (λ K. is_some (due_for K n)) lent.came) ∙ silent)

pub tell-requires : goal.tell-requires
unfolding Stands
tell-requires c =
    let H = past c.args.desk.now in
    let n = c.args.call in
    let asks = c.ask.ensures.asks in
    let may = c.requires.may in
    let out : ask_outcome H n ≡ Err faults.TooMany = sym c.ask.ensures.outcome ∙ (c.in-Err-TooMany.is ∙ ap (λ it. Err it) c.in-Err-TooMany.field-0-is) in
    let same : past c.ask.new.self ≡ H = asks.event ∙ ap (λ a. with_asked n a H) out in
    let allowed : Allowed H (Replied n TooMany)
    = reply_allowed H n TooMany may.unfinished (asking_silent H n c.requires.pays.stands.tables.lawful c.requires.asks) (asking_gave H n c.requires.asks) (many_cause H n c.requires.asks (ap is_too_many out)) may.settled in
    record {
      stands = asks.stands;
      paid = let before = c.requires.pays.paid in let after = asks.paid in omega (arith, before, after);
      allowed = subst (λ K. Allowed K (Replied n TooMany)) (sym same) allowed;
      few = let room = c.requires.pays.few in let long = ap length same in omega (arith, room, long);
    }

pub unreachable-requires : goal.unreachable-requires
unreachable-requires c =
    never_closed (past c.args.desk.now) c.args.call c.requires.asks (sym c.ask.ensures.outcome ∙ (c.in-Ok-Closed.is ∙ ap (λ it. Ok it) c.in-Ok-Closed.field-0-is))

pub unreachable-requires-in-Err-Memory : goal.unreachable-requires-in-Err-Memory
unreachable-requires-in-Err-Memory c =
    never_memory (past c.args.desk.now) c.args.call (sym c.ask.ensures.outcome ∙ (c.in-Err-Memory.is ∙ ap (λ it. Err it) c.in-Err-Memory.field-0-is))

pub returns-in-Ok-Lent-clause-reaches : goal.returns-in-Ok-Lent-clause-reaches
returns-in-Ok-Lent-clause-reaches c =
    let H = past c.args.desk.now in
    let n = c.args.call in
    let out : ask_outcome H n ≡ Ok (asked.Lent c.in-Ok-Lent.field-0-0 c.in-Ok-Lent.field-0-1) = sym c.ask.ensures.outcome ∙ (c.in-Ok-Lent.is ∙ ap (λ it. Ok it) c.in-Ok-Lent.field-0-is) in
    let r = c.go_on_lent.ensures.reaches in
    let group = ap (unless_resting n) c.ask.ensures.asks.event ∙ (ap (λ a. unless_resting n (with_asked n a H)) out ∙ sym (ap (λ a. asked_so n a H) out)) in
    record { stands = r.stands; settled = r.settled; group = r.group ∙ group }

pub returns-in-Ok-Opening-clause-reaches : goal.returns-in-Ok-Opening-clause-reaches
unfolding Stands
returns-in-Ok-Opening-clause-reaches c =
    let H = past c.args.desk.now in
    let n = c.args.call in
    let out : ask_outcome H n ≡ Ok (asked.Opening c.in-Ok-Opening.field-0-0) = sym c.ask.ensures.outcome ∙ (c.in-Ok-Opening.is ∙ ap (λ it. Ok it) c.in-Ok-Opening.field-0-is) in
    let restless : rests (with_asked n (ask_outcome H n) H) n ≡ false = ap (λ a. rests (with_asked n a H) n) out ∙ asking_restless H n c.requires.asks in
    let group = ap (λ a. asked_so n a H) out ∙ (opening_group n c.in-Ok-Opening.field-0-0 H c.requires.asks ∙ sym (ap (λ a. with_asked n a H) out)) in
    reaches_asked c.args.desk.now c.ask.new.self n c.requires.pays.stands c.requires.may.settled c.requires.asks (ap is_too_many out) c.ask.ensures.asks restless group

pub returns-in-Ok-Opening-clause-goes : goal.returns-in-Ok-Opening-clause-goes
unfolding Stands
returns-in-Ok-Opening-clause-goes c =
    let H = past c.args.desk.now in
    let n = c.args.call in
    let flights = c.args.flights.now.flights in
    let asks = c.ask.ensures.asks in
    let d = c.in-Ok-Opening.field-0-0 in
    let out : ask_outcome H n ≡ Ok (asked.Opening d) = sym c.ask.ensures.outcome ∙ (c.in-Ok-Opening.is ∙ ap (λ it. Ok it) c.in-Ok-Opening.field-0-is) in
    let came : past c.ask.new.self ≡ Pool (OpenStart d n) ∷ H = asks.event ∙ ap (λ a. with_asked n a H) out in
    let l : Lawful (Pool (OpenStart d n) ∷ H) = subst (λ K. Lawful K) came asks.stands.tables.lawful in
    let at = stands_opened H n d l c.requires.asks in
    subst (λ K. HasGoneOn K flights flights n (nexts.Blocked whys.Opening)) (sym came)
    (goes_blocked (Pool (OpenStart d n) ∷ H) n flights (Some (stands_at.Opens (number_in (smallest (is_for n) (pool (Pool (OpenStart d n) ∷ H)))))) whys.Opening c.requires.may.unfinished at refl refl)

pub returns-in-Ok-Queued-clause-reaches : goal.returns-in-Ok-Queued-clause-reaches
unfolding Stands
returns-in-Ok-Queued-clause-reaches c =
    let H = past c.args.desk.now in
    let n = c.args.call in
    let out : ask_outcome H n ≡ Ok asked.Queued = sym c.ask.ensures.outcome ∙ (c.in-Ok-Queued.is ∙ ap (λ it. Ok it) c.in-Ok-Queued.field-0-is) in
    let restless : rests (with_asked n (ask_outcome H n) H) n ≡ false = ap (λ a. rests (with_asked n a H) n) out ∙ asking_restless H n c.requires.asks in
    let group = ap (λ a. asked_so n a H) out ∙ (queued_group n H c.requires.asks ∙ sym (ap (λ a. with_asked n a H) out)) in
    reaches_asked c.args.desk.now c.ask.new.self n c.requires.pays.stands c.requires.may.settled c.requires.asks (ap is_too_many out) c.ask.ensures.asks restless group

pub returns-in-Ok-Queued-clause-goes : goal.returns-in-Ok-Queued-clause-goes
returns-in-Ok-Queued-clause-goes c =
    let H = past c.args.desk.now in
    let n = c.args.call in
    let flights = c.args.flights.now.flights in
    let out : ask_outcome H n ≡ Ok asked.Queued = sym c.ask.ensures.outcome ∙ (c.in-Ok-Queued.is ∙ ap (λ it. Ok it) c.in-Ok-Queued.field-0-is) in
    let came : past c.ask.new.self ≡ Waits n ∷ H = c.ask.ensures.asks.event ∙ ap (λ a. with_asked n a H) out in
    subst (λ K. HasGoneOn K flights flights n (nexts.Blocked whys.Connection)) (sym came)
    (goes_blocked (Waits n ∷ H) n flights (Some stands_at.Waits) whys.Connection c.requires.may.unfinished (stands_queued H n) refl refl)

pub returns-in-Err-TooMany-clause-reaches : goal.returns-in-Err-TooMany-clause-reaches
returns-in-Err-TooMany-clause-reaches c =
    let H = past c.args.desk.now in
    let n = c.args.call in
    let out : ask_outcome H n ≡ Err faults.TooMany = sym c.ask.ensures.outcome ∙ (c.in-Err-TooMany.is ∙ ap (λ it. Err it) c.in-Err-TooMany.field-0-is) in
    let same : past c.ask.new.self ≡ H = c.ask.ensures.asks.event ∙ ap (λ a. with_asked n a H) out in
    let came : past c.tell.new.self ≡ Replied n TooMany ∷ H = c.tell.ensures.event ∙ ap (λ K. Replied n TooMany ∷ K) same in
    record {
      stands = c.tell.ensures.stands;
      settled = subst (λ K. Settled K) (sym came) (settled_replied H n TooMany (asking_gave H n c.requires.asks) c.requires.may.settled);
      group = came ∙ sym (ap (λ a. asked_so n a H) out);
    }

pub returns-in-Err-TooMany-clause-goes : goal.returns-in-Err-TooMany-clause-goes
returns-in-Err-TooMany-clause-goes c =
    let H = past c.args.desk.now in
    let n = c.args.call in
    let flights = c.args.flights.now.flights in
    let out : ask_outcome H n ≡ Err faults.TooMany = sym c.ask.ensures.outcome ∙ (c.in-Err-TooMany.is ∙ ap (λ it. Err it) c.in-Err-TooMany.field-0-is) in
    let same : past c.ask.new.self ≡ H = c.ask.ensures.asks.event ∙ ap (λ a. with_asked n a H) out in
    let came : past c.tell.new.self ≡ Replied n TooMany ∷ H = c.tell.ensures.event ∙ ap (λ K. Replied n TooMany ∷ K) same in
    subst (λ K. HasGoneOn K flights flights n (nexts.Reply n)) (sym came) (goes_replying H n TooMany flights)
