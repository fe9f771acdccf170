-- What holds after an answer on a lent connection, and after that connection was let go.
use Rattle.std.proofs.Common.{◌≡◌, ◌≢◌, ℕ, ◌+◌, ◌≤◌, ◌==◌, Bool, true, cond, List, [], ◌∷◌, length, Some, refl, sym, ap, subst, ◌∙◌, arith}
use Rattle.dsql_engine_going.specs.works.Limits.{most_within_a_step}
use Rattle.dsql_engine_going.specs.journal.declared.entry.Entry.{Entry}
use Rattle.dsql_engine_going.specs.history.declared.event.Event.{Event}
use Rattle.dsql_engine_going.specs.history.declared.event.Event.TheVariants.{Heard}
use Rattle.dsql_engine_going.specs.history.declared.record.Flight.{Flight}
use Rattle.dsql_engine_going.specs.history.Readers.Owed.{owed}
use Rattle.dsql_engine_going.specs.history.Readers.Pool.{place}
use Rattle.dsql_engine_going.specs.history.Rules.Settled.{is_settled_but}
use Rattle.dsql_engine_going.specs.history.Legal.{Calm, Lawful}
use Rattle.dsql_engine_going.specs.laws.OwedMade.{with_moves}
use Rattle.dsql_engine_going.proofs.laws.Tests.{other_number}
use Rattle.dsql_engine_going.specs.laws_calls.Bounds.{most_given_back}
use Rattle.dsql_engine_going.specs.laws_steps.Groups.{let_go}
use Rattle.dsql_engine_going.specs.desk.declared.desk.Desk.{Desk}
use Rattle.dsql_engine_going.specs.desk.Appending.{Appends}
use Rattle.dsql_engine_going.specs.desk.Desk.{past, Stands}
use Rattle.dsql_engine_going.specs.declared.next.Next.{Next}
use Rattle.dsql_engine_going.specs.declared.next.Next.TheVariants.{Quiet}
use Rattle.dsql_engine_going.specs.Reaching.{CanPay, HasGoneOn}
use Rattle.dsql_engine_going.specs.Stepping.{most_going_on, events_of_a_step, GoesOnOrRests, Rests}
use Rattle.dsql_engine_hearing.specs.declared.hear.Hearing.{Hearing}
use Rattle.dsql_engine_hearing.specs.Hearing.{LetsGo, MayHear, lent_to}
use Rattle.dsql_engine_hearing.proofs.Letting.{LentTo, few_let_go, lent_place, none_owed, settled_let_go}

-- Holds if the answer was heard on a connection that is lent to call n or to its transaction.
pub record IsHeard (old new : Desk) (e : Entry) (n : ℕ) : Type 0 where
  pub before : Lawful (past old)
  pub calm : Calm (past old)
  pub lawful : Lawful (Heard e ∷ past old)
  pub at : LentTo (place (past old) e.conn) n
  pub came : past new ≡ Heard e ∷ past old
  pub settled : is_settled_but e.call_no (let_go e.conn n (Heard e ∷ past old)) ≡ true
  pub paid : most_given_back + most_going_on ≤ new.paid
  pub few : length (past new) + (most_given_back + most_going_on) ≤ most_within_a_step

pub heard_there : (old new : Desk) (e : Entry) (ready : Hearing) (n : ℕ) → CanPay old events_of_a_step → length (past old) + events_of_a_step ≤ most_within_a_step → MayHear (past old) e ready
    → lent_to (place (past old) e.conn) ≡ Some n → Appends old new (Heard e) → IsHeard old new e n
unfolding Stands
heard_there old new e ready n pays short may lent heard =
    let H = past old in
    let K : List Event = Heard e ∷ H in
    let at = lent_place (place H e.conn) n lent in
    let none : owed K ≡ [] = none_owed H e n at in
    let came : past new ≡ K = heard.event ∙ ap (λ ms. with_moves ms K) none in
    let lawful : Lawful K = (pays.stands.tables.lawful, may.allowed) in
    let calm = pays.stands.tables.calm in
    let longer : length (past new) ≡ length K = ap length came in
    let nothing : length (owed K) ≡ 0 = ap length none in
    let paid = pays.paid in
    let left = heard.paid in
    record {
      before = pays.stands.tables.lawful;
      calm = calm;
      lawful = lawful;
      at = at;
      came = came;
      settled = settled_let_go H e n lawful calm may.settled at;
      paid = omega (arith, paid, left, nothing);
      few = omega (arith, short, longer);
    }

pub can_give_back : (old new : Desk) (e : Entry) (n : ℕ) → IsHeard old new e n → Stands new → CanPay new most_given_back
can_give_back old new e n h stands = record { stands = stands; paid = let paid = h.paid in omega (arith, paid); few = let few = h.few in omega (arith, few) }

-- Holds if the answer was heard and the connection was then let go.
pub record IsLeft (old new : Desk) (e : Entry) (n : ℕ) : Type 0 where
  pub came : past new ≡ let_go e.conn n (Heard e ∷ past old)
  pub pays : CanPay new most_going_on
  pub settled : is_settled_but e.call_no (past new) ≡ true

pub left_there : (old heard new : Desk) (e : Entry) (n : ℕ) → IsHeard old heard e n → LetsGo heard new e.conn n → IsLeft old new e n
left_there old heard new e n h left =
    let K : List Event = Heard e ∷ past old in
    let came : past new ≡ let_go e.conn n K = left.history ∙ ap (let_go e.conn n) h.came in
    let few = h.few in
    let more = few_let_go K e.conn n in
    let longer : length (past new) ≡ length (let_go e.conn n K) = ap length came in
    let same : length (past heard) ≡ length K = ap length h.came in
    let paid = h.paid in
    let spent = left.paid in
    record {
      came = came;
      pays = record { stands = left.stands; paid = omega (arith, paid, spent); few = omega (arith, few, more, longer, same) };
      settled = subst (λ P. is_settled_but e.call_no P ≡ true) (sym came) h.settled;
    }

-- A call goes on, and the layer, as call 0, rests.

pub rests_at_zero : (P : List Event) (flights : List Flight) (n : ℕ) → n ≡ 0 → GoesOnOrRests P flights flights n Quiet
rests_at_zero P flights n none =
    subst (λ (b : Bool). cond {A = Type 0} b (Rests flights flights Quiet) (HasGoneOn P flights flights n Quiet)) (sym (ap (λ m. m == 0) none)) (record { quiet = refl; same = refl })

pub goes_unless_zero : (P : List Event) (before after : List Flight) (n : ℕ) (next : Next) → n ≢ 0 → HasGoneOn P before after n next → GoesOnOrRests P before after n next
goes_unless_zero P before after n next some it =
    subst (λ (b : Bool). cond {A = Type 0} b (Rests before after next) (HasGoneOn P before after n next)) (sym (other_number n 0 some)) it
