-- A call enters in a step, and may go on.
use Rattle.std.proofs.Common.{◌≡◌, ◌≢◌, ℕ, ◌+◌, ◌≤◌, ◌==◌, Bool, true, false, ◌||◌, List, [], ◌∷◌, length, refl, sym, ap, subst, ◌∙◌, arith}
use Rattle.std.proofs.lemmas.Bool.{or_right}
use Rattle.dsql_laws_calls.specs.works.Limits.{most_within_a_step}
use Rattle.dsql_laws_calls.specs.journal.Readers.{has}
use Rattle.dsql_laws_calls.specs.pool.declared.moves.Move.{Move}
use Rattle.dsql_laws_calls.specs.history.declared.event.Event.{Event}
use Rattle.dsql_laws_calls.specs.history.declared.event.Event.TheVariants.{Entered, Pool}
use Rattle.dsql_laws_calls.specs.history.declared.event.Op.{Op}
use Rattle.dsql_laws_calls.specs.history.declared.record.Flight.{Flight}
use Rattle.dsql_laws_calls.specs.history.Readers.Calls.{is_busy, next_call}
use Rattle.dsql_laws_calls.specs.history.Readers.Labels.{names_fit}
use Rattle.dsql_laws_calls.specs.history.Readers.Owed.{owed}
use Rattle.dsql_laws_calls.specs.history.Readers.Unfinished.{unfinished, is_unfinished}
use Rattle.dsql_laws_calls.specs.history.Rules.Flights.{is_in_flight}
use Rattle.dsql_laws_calls.specs.history.Legal.{Lawful}
use Rattle.dsql_laws_calls.specs.laws.OwedMade.{with_moves}
use Rattle.dsql_laws_calls.proofs.laws.Tests.{both, other_number, same_itself}
use Rattle.dsql_laws_calls.specs.Bounds.{most_moves}
use Rattle.dsql_laws_calls.proofs.laws_work.Rows.{has_push}
use Rattle.dsql_laws_calls.proofs.Owed.{few_next}
use Rattle.dsql_laws_ends.proofs.Whose.{unfinished_entered}
use Rattle.dsql_engine_pooling.specs.UnderWay.{UnderWay}
use Rattle.dsql_engine_desk.specs.declared.desk.Desk.{Desk}
use Rattle.dsql_engine_desk.specs.Appending.{Appends, MayAppend}
use Rattle.dsql_engine_desk.specs.Desk.{past, Stands}
use Rattle.dsql_engine_going.specs.Reaching.{CanPay, MayGoOn}
use Rattle.dsql_engine_going.specs.Stepping.{most_going_on, are_of_unfinished, events_of_a_step, MayStep}
use Rattle.dsql_engine_going.proofs.Settling.{entered_settled, entry_allowed}
use Rattle.dsql_laws_others.proofs.GivenUp.{moves_add}

lawful_kept : (desk : Desk) → Stands desk → Lawful (past desk)
unfolding Stands
lawful_kept desk s = s.tables.lawful

-- Moves change no call.

same_unfinished : (ms : List Move) (H : List Event) → unfinished (with_moves ms H) ≡ unfinished H
same_unfinished [] H = refl
same_unfinished (m ∷ ms) H = same_unfinished ms (Pool m ∷ H)

-- No driver call is under way for a call that enters.

next_is_new : (H : List Event) → Lawful H → is_unfinished H (next_call H) ≡ false
next_is_new H l = by (is_unfinished H (next_call H)) refl
  where
    by : (b : Bool) → is_unfinished H (next_call H) ≡ b → is_unfinished H (next_call H) ≡ false
    by true is = let old = unfinished_entered H (next_call H) l is in absurd (omega (arith, old))
    by false is = is

parked : (H : List Event) (n : ℕ) (flights : List Flight) → is_unfinished H n ≡ false → are_of_unfinished H flights ≡ true → is_in_flight n flights ≡ false
parked H n [] new h = refl
parked H n (x ∷ xs) new h =
    let a = both (is_unfinished H x.call) (are_of_unfinished H xs) h in
    let apart : x.call ≢ n = λ same. (let clash : true ≡ false = sym a.0 ∙ (ap (is_unfinished H) same ∙ new) in absurd cc) in
    ap (λ (b : Bool). b || is_in_flight n xs) (other_number x.call n apart) ∙ parked H n xs new a.1

-- The call may enter, and the moves that this makes due may come.

pub may_append : (desk : Desk) (flights : UnderWay) (client n : ℕ) (op : Op) → n ≡ next_call (past desk) → CanPay desk events_of_a_step → MayStep (past desk) flights → is_busy client (past desk) ≡ false → names_fit (past desk) op ≡ true → MayAppend desk (Entered client n op)
may_append desk flights client n op next pays may free fit =
    let few = few_next (past desk) (Entered client n op) (lawful_kept desk pays.stands) may.settled.nothing_owed in
    record {
      stands = pays.stands;
      paid = let paid = pays.paid in omega (arith, few, paid);
      allowed = entry_allowed (past desk) client n op next may.begun free fit may.settled;
      few = let room = pays.few in omega (arith, room);
    }

-- There is memory for the events with which the call goes on.
pub may_pay : (old new : Desk) (flights : UnderWay) (client n : ℕ) (op : Op) → CanPay old events_of_a_step → length (past old) + events_of_a_step ≤ most_within_a_step → MayStep (past old) flights → Appends old new (Entered client n op) → CanPay new most_going_on
may_pay old new flights client n op pays short may appends =
    let K = Entered client n op ∷ past old in
    let few : length (owed K) ≤ most_moves = few_next (past old) (Entered client n op) (lawful_kept old pays.stands) may.settled.nothing_owed in
    let many : length (past new) ≡ length (owed K) + length K = ap length appends.event ∙ moves_add (owed K) K in
    let one : length K ≡ length (past old) + 1 = omega arith in
    record {
      stands = appends.stands;
      paid = let before = pays.paid in let after = appends.paid in omega (arith, few, before, after);
      few = omega (arith, few, many, one, short);
    }

-- The call may go on.
pub may_go_on : (old new : Desk) (flights : UnderWay) (client n : ℕ) (op : Op) → n ≡ next_call (past old) → CanPay old events_of_a_step → MayStep (past old) flights → is_busy client (past old) ≡ false → names_fit (past old) op ≡ true → Appends old new (Entered client n op) → MayGoOn (past new) flights n
may_go_on old new flights client n op next pays may free fit appends =
    let H = past old in
    let K = Entered client n op ∷ H in
    let l : Lawful H = lawful_kept old pays.stands in
    subst (λ (P : List Event). MayGoOn P flights n) (sym appends.event)
    (record {
      settled = entered_settled H client n op (l, entry_allowed H client n op next may.begun free fit may.settled) may.settled;
      unfinished = ap (λ (ns : List ℕ). has n ns) (same_unfinished (owed K) K) ∙ (has_push n n (unfinished H) ∙ or_right (has n (unfinished H)) (n == n) (same_itself n));
      parked = parked H n flights.flights (ap (is_unfinished H) next ∙ next_is_new H l) may.known;
      spare = may.spare;
    })
