-- The step for an answer: what it needs, and what it ensures.
use Rattle.std.proofs.Common.{◌≡◌, ◌≢◌, ℕ, ◌==◌, Bool, true, false, not, ◌&&◌, ◌||◌, cond, List, [], ◌∷◌, Option, Some, None, is_some, refl, sym, ap, subst, ◌∙◌, arith}
use Rattle.dsql_engine_going.specs.driver.Fits.{is_invalid}
use Rattle.dsql_engine_going.specs.driver.Kinds.{is_bad}
use Rattle.dsql_engine_going.specs.journal.declared.entry.Entry.{Entry}
use Rattle.dsql_engine_going.specs.journal.Kinds.{is_house, number_of}
use Rattle.dsql_engine_going.specs.journal.Readers.{is_empty, went_bad}
use Rattle.dsql_engine_going.specs.pool.declared.conn.Place.{Place}
use Rattle.dsql_engine_going.specs.pool.declared.conn.Place.TheVariants.{Lent}
use Rattle.dsql_engine_going.specs.pool.declared.moves.Fate.{Fate}
use Rattle.dsql_engine_going.specs.pool.Places.{is_lent}
use Rattle.dsql_engine_going.specs.history.declared.event.Event.{Event}
use Rattle.dsql_engine_going.specs.history.declared.event.Event.TheVariants.{Heard}
use Rattle.dsql_engine_going.specs.history.declared.record.Flight.{Flight}
use Rattle.dsql_engine_going.specs.history.Readers.Calls.{reply_due}
use Rattle.dsql_engine_going.specs.history.Readers.Journals.{journal}
use Rattle.dsql_engine_going.specs.history.Readers.Owed.{fate_when}
use Rattle.dsql_engine_going.specs.history.Readers.Pool.{place}
use Rattle.dsql_engine_going.specs.history.Readers.Unfinished.{is_unfinished}
use Rattle.dsql_engine_going.specs.history.Rules.Flights.{is_in_flight, without_flight}
use Rattle.dsql_engine_going.specs.history.Rules.Line.{due_for}
use Rattle.dsql_engine_going.specs.history.Rules.Settled.{Settled, calls_stand_but, is_settled_but, owes_nothing, uses_what_is_lent}
use Rattle.dsql_engine_going.specs.history.Legal.{Allowed, Lawful}
use Rattle.dsql_engine_going.proofs.laws.Numbered.{unfinished_from_one}
use Rattle.dsql_engine_going.proofs.laws.OwedAllowed.{owed_made}
use Rattle.dsql_engine_going.proofs.laws.Places.{neither}
use Rattle.dsql_engine_going.proofs.laws.Tests.{both, same_itself}
use Rattle.dsql_engine_going.proofs.laws_calls.Owed.{few_next}
use Rattle.dsql_engine_going.proofs.laws_calls.Owners.{owner_is_of}
use Rattle.dsql_engine_going.proofs.laws_calls.Coming.{stays_with_its_call}
use Rattle.dsql_laws_answers.proofs.House.{answer_carried}
use Rattle.dsql_engine_going.specs.laws_steps.Groups.{after_settling, gone_on, heard_at, let_go, with_owed}
use Rattle.dsql_engine_going.specs.desk.declared.desk.Desk.{Desk}
use Rattle.dsql_engine_going.specs.desk.Appending.{MayAppend}
use Rattle.dsql_engine_going.specs.desk.Desk.{past, Stands}
use Rattle.dsql_engine_going.proofs.desk.Fates.{fate_heard}
use Rattle.dsql_engine_going.specs.Reaching.{CanPay}
use Rattle.dsql_engine_going.specs.Stepping.{events_of_a_step}
use Rattle.dsql_engine_hearing.specs.declared.hear.Hearing.{Hearing}
use Rattle.dsql_engine_hearing.specs.Hearing.{IsWelcome, MayHear, TellsOfIt, lent_to}
use Rattle.dsql_engine_hearing.proofs.Letting.{LentTo, comes_there, same_let_go}
use Rattle.dsql_engine_hearing.proofs.Welcome.{house_number}

pub may_append : (desk : Desk) (e : Entry) (ready : Hearing) → CanPay desk events_of_a_step → MayHear (past desk) e ready → MayAppend desk (Heard e)
unfolding Stands
may_append desk e ready pays may = record {
  stands = pays.stands;
  paid =
      let few = few_next (past desk) (Heard e) pays.stands.tables.lawful may.settled.nothing_owed in
      let paid = pays.paid in
      omega (arith, few, paid);
  allowed = may.allowed;
  few = let room = pays.few in omega (arith, room);
}

-- Connections by whether they are lent to a call or a transaction.

unlent_at : (H : List Event) (c : ℕ) (at : Option Place) → Lawful H → place H c ≡ at → lent_to at ≡ None → is_lent at ≡ false
unlent_at H c (Some (Lent t o)) l is house = let of_it = owner_is_of H c t o l is in by (is_house o) of_it.0 house
  where
    by : (b : Bool) → b ≡ false → cond b None (Some (number_of o)) ≡ None → true ≡ false
    by true owned h = owned
    by false owned h = absurd cc
unlent_at H c _ l is house = refl

unlent : (H : List Event) (c : ℕ) → Lawful H → lent_to (place H c) ≡ None → is_lent (place H c) ≡ false
unlent H c l house = unlent_at H c (place H c) l refl house

pub settled_house : (H : List Event) (e : Entry) → Lawful H → Allowed H (Heard e) → Settled H → lent_to (place H e.conn) ≡ None → Settled (with_owed (Heard e ∷ H))
settled_house H e l a s house =
    let carried = answer_carried H e (l, a) (unlent H e.conn l house) in
    record { nothing_owed = ap is_empty (owed_made (Heard e ∷ H)); used = carried.used s.used; somewhere = carried.somewhere 0 s.somewhere }

pub layer_calls : (H : List Event) (e : Entry) → Lawful H → IsWelcome H e → lent_to (place H e.conn) ≡ None → e.call_no ≡ 0
layer_calls H e l w house = house_number H e (place H e.conn) w.carries (unlent H e.conn l house) w.sets

pub house_group : (H : List Event) (e : Entry) (at : Option Place) → lent_to at ≡ None → heard_at at e H ≡ with_owed (Heard e ∷ H)
house_group H e (Some (Lent t o)) house = by (is_house o) house
  where
    by : (b : Bool) → cond b None (Some (number_of o)) ≡ None → cond b (with_owed (Heard e ∷ H)) (gone_on e.call_no (let_go e.conn (number_of o) (Heard e ∷ H))) ≡ with_owed (Heard e ∷ H)
    by true h = refl
    by false h = absurd cc
house_group H e _ house = refl

pub lent_group : (H : List Event) (e : Entry) (at : Option Place) (n : ℕ) → lent_to at ≡ Some n → heard_at at e H ≡ gone_on e.call_no (let_go e.conn n (Heard e ∷ H))
lent_group H e (Some (Lent t o)) n lent = by (is_house o) lent
  where
    by : (b : Bool) → cond b None (Some (number_of o)) ≡ Some n
        → cond b (with_owed (Heard e ∷ H)) (gone_on e.call_no (let_go e.conn (number_of o) (Heard e ∷ H))) ≡ gone_on e.call_no (let_go e.conn n (Heard e ∷ H))
    by true h = absurd cc
    by false h = let same : number_of o ≡ n = cc in ap (λ i. gone_on e.call_no (let_go e.conn i (Heard e ∷ H))) same
lent_group H e _ n lent = absurd cc

-- The fate that the answer gives its connection, if that isn't known to be bad.

pub answer_tells : (H : List Event) (e : Entry) (told : Fate) → told ≡ fate_when (is_bad e.answer) (is_invalid e.answer) → TellsOfIt (Heard e ∷ H) e.conn told
answer_tells H e told is good =
    let now : (is_bad e.answer || went_bad (journal H e.conn)) ≡ false = sym (ap (λ b. went_bad (cond b (e ∷ journal H e.conn) (journal H e.conn))) (same_itself e.conn)) ∙ good in
    let parts = neither (is_bad e.answer) (went_bad (journal H e.conn)) now in
    is ∙ sym (fate_heard H e parts.1)

-- There is no call 0.

pub nobody_left : (P : List Event) → Lawful P → is_unfinished P 0 ≡ false
nobody_left P l = by (is_unfinished P 0) refl
  where
    by : (b : Bool) → is_unfinished P 0 ≡ b → is_unfinished P 0 ≡ false
    by true is = absurd (unfinished_from_one P 0 l is refl)
    by false is = is

pub nobody_goes : (P : List Event) (n : ℕ) → Lawful P → n ≡ 0 → gone_on n P ≡ P
nobody_goes P n l none =
    ap (λ m. gone_on m P) none
    ∙ ap (λ (b : Bool). cond (b && not (is_some (due_for P 0))) (after_settling 0 (reply_due P 0) P) P) (nobody_left P l)

pub settled_nobody : (P : List Event) (n : ℕ) → n ≡ 0 → is_settled_but n P ≡ true → Settled P
settled_nobody P n none h =
    let h0 : is_settled_but 0 P ≡ true = subst (λ m. is_settled_but m P ≡ true) none h in
    let a = both (owes_nothing P) (uses_what_is_lent P && calls_stand_but 0 P) h0 in
    let b = both (uses_what_is_lent P) (calls_stand_but 0 P) a.1 in
    record { nothing_owed = a.0; used = b.0; somewhere = b.1 }

pub unfinished_on : (H : List Event) (e : Entry) (n : ℕ) → Lawful H → Allowed H (Heard e) → LentTo (place H e.conn) n → e.call_no ≢ 0 → is_unfinished (let_go e.conn n (Heard e ∷ H)) e.call_no ≡ true
unfinished_on H e n l a at some =
    let it = stays_with_its_call H e l (comes_there H e n a at) in
    same_let_go (Heard e ∷ H) e.conn n e.call_no ∙ it.unfinished some

-- No driver call of the answer's call is under way any more.
pub landed_apart : (n : ℕ) (flights : List Flight) → is_in_flight n (without_flight n flights) ≡ false
landed_apart n [] = refl
landed_apart n (x ∷ xs) = by (x.call == n) refl (landed_apart n xs)
  where
    by : (b : Bool) → (x.call == n) ≡ b → is_in_flight n (without_flight n xs) ≡ false → is_in_flight n (cond (not b) (x ∷ without_flight n xs) (without_flight n xs)) ≡ false
    by true is rest = rest
    by false is rest = ap (λ b. b || is_in_flight n (without_flight n xs)) is ∙ rest
