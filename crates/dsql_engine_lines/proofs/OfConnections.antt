-- The record of a lent connection is what was heard there in its tenure. The proof is an induction over the
-- history since the lending.
use Rattle.std.proofs.Common.{◌≡◌, ◌≢◌, ℕ, ◌==◌, ◌⊎◌, inl, inr, Bool, true, false, not, ◌&&◌, ◌||◌, cond, List, [], ◌∷◌, Option, Some, None, refl, sym, ap, subst, ◌∙◌}
use Rattle.std.specs.List.{list_all}
use Rattle.dsql_laws_calls.specs.driver.Kinds.{is_bad, is_connect, is_shut}
use Rattle.dsql_laws_calls.specs.journal.declared.entry.Entry.{Entry}
use Rattle.dsql_laws_calls.specs.journal.declared.entry.Owner.{Owner}
use Rattle.dsql_laws_calls.specs.journal.declared.entry.Owner.TheVariants as owners
use Rattle.dsql_laws_calls.specs.journal.Kinds.{number_of, same_owner}
use Rattle.dsql_laws_calls.specs.journal.Readers.{of_tenure, went_bad}
use Rattle.dsql_laws_calls.specs.pool.declared.conn.Place.TheVariants.{Lent}
use Rattle.dsql_laws_calls.specs.pool.declared.moves.Move.TheVariants.{Lend}
use Rattle.dsql_laws_calls.specs.works.Exchanges.{exchanges, step_of, with_exchange}
use Rattle.dsql_laws_calls.specs.works.Journals.{ends_invalid}
use Rattle.dsql_laws_calls.specs.course.declared.call.Due.{Due}
use Rattle.dsql_engine_exchanged.specs.Exchanged.{exchanged_in, then_heard as then_exchanged}
use Rattle.dsql_laws_calls.proofs.laws.Tests.{both, same_itself, same_number}
use Rattle.dsql_laws_calls.proofs.laws_work.Rows.{same_or_not}
use Rattle.dsql_laws_calls.proofs.KeptThere.{made_by, kept_there}
use Rattle.dsql_laws_calls.specs.history.declared.event.Event.{Event}
use Rattle.dsql_laws_calls.specs.history.declared.event.Event.TheVariants.{Heard, Pool}
use Rattle.dsql_laws_calls.specs.history.declared.work.Work.{Work}
use Rattle.dsql_laws_calls.specs.history.declared.work.Work.TheVariants.{Begin}
use Rattle.dsql_laws_calls.specs.history.Readers.Works.{owner_as, work}
use Rattle.dsql_laws_calls.specs.history.Readers.Journals.{heard_in, journal}
use Rattle.dsql_laws_calls.specs.history.Readers.Lines.{is_of_line, line_among}
use Rattle.dsql_laws_calls.specs.history.Readers.Pool.{pool, place}
use Rattle.dsql_laws_calls.specs.history.Rules.Moves.{hears_in}
use Rattle.dsql_laws_calls.specs.history.Legal.{Allowed, Lawful}
use Rattle.dsql_laws_calls.proofs.laws.AtRest.{keeps_of}
use Rattle.dsql_laws_calls.proofs.Beginnings.{Beginnings}
use Rattle.dsql_laws_calls.proofs.BeginningsAt.{beginnings, heard_more, heard_other}
use Rattle.dsql_laws_calls.proofs.Lent.{Lends, lent_before, move_facts}
use Rattle.dsql_laws_calls.proofs.Looks.{heard_there}
use Rattle.dsql_laws_calls.proofs.Owners.{owner_is_of, same_owner_is}
use Rattle.dsql_laws_calls.proofs.Plain.{begins}
use Rattle.dsql_laws_calls.proofs.Spared.{opened_when, was_heard, was_opened}
use Rattle.dsql_laws_calls.proofs.Tenures.{fresh_lending}
use Rattle.dsql_laws_calls.proofs.Unspoilt.{fine, fine_from}
use Rattle.dsql_engine_exchanged.specs.Beginning.{beginning_in, begun_if}
use Rattle.dsql_engine_exchanged.specs.Ending.{ending_in, then_ended}
use Rattle.dsql_engine_exchanged.proofs.Begun.{begin_heard}
use Rattle.dsql_engine_exchanged.proofs.Ended.{heard_bad}
use Rattle.dsql_engine_lines.specs.There.{heard_on, nothing_there, then_there}

-- What holds of a record as its connection is lent, and stays with each answer heard there, holds as long as
-- the connection is lent.

AtLending : ℕ → ℕ → Owner → (List Entry → List Entry → Type 0) → Type 0
AtLending c t own Q = (H : List Event) (k : ℕ) → Lawful H → Allowed H (Pool (Lend c t own k)) → Q (journal H c) []

WithEach : ℕ → ℕ → Owner → (List Entry → List Entry → Type 0) → Type 0
WithEach c t own Q = (H : List Event) (e : Entry) → Allowed H (Heard e) → place H e.conn ≡ Some (Lent t own) → Q (journal H c) (heard_in H c t) → Q (e ∷ journal H c) (e ∷ heard_in H c t)

heard_here : (c t : ℕ) (own : Owner) (Q : List Entry → List Entry → Type 0) → WithEach c t own Q → (H : List Event) (e : Entry) → Allowed H (Heard e) → place H c ≡ Some (Lent t own)
    → Q (journal H c) (heard_in H c t) → Q (journal (Heard e ∷ H) c) (heard_in (Heard e ∷ H) c t)
unfolding WithEach
heard_here c t own Q more H e a is q = by (same_or_not e.conn c)
  where
    by : (e.conn ≡ c) ⊎ (e.conn ≢ c) → Q (journal (Heard e ∷ H) c) (heard_in (Heard e ∷ H) c t)
    by (inl here) =
        let grown : journal (Heard e ∷ H) c ≡ e ∷ journal H c = ap (λ b. cond b (e ∷ journal H c) (journal H c)) (ap (λ j. j == c) here ∙ same_itself c) in
        subst (λ J. Q J (heard_in (Heard e ∷ H) c t)) (sym grown)
        (subst (λ L. Q (e ∷ journal H c) L) (sym (heard_more H e c t own a is here)) (more H e a (ap (place H) here ∙ is) q))
    by (inr apart) = subst (λ J. Q J (of_tenure t J)) (sym (heard_other H e c apart)) q

event_there : (c t : ℕ) (own : Owner) (Q : List Entry → List Entry → Type 0) → WithEach c t own Q → (H : List Event) (e : Event) → Allowed H e → place H c ≡ Some (Lent t own)
    → Q (journal H c) (heard_in H c t) → Q (journal (e ∷ H) c) (heard_in (e ∷ H) c t)
event_there c t own Q more H (Heard e) a is q = heard_here c t own Q more H e a is q
event_there c t own Q more H e a is q = q

throughout : (c t : ℕ) (own : Owner) (Q : List Entry → List Entry → Type 0) → AtLending c t own Q → WithEach c t own Q → (H : List Event) → Lawful H → place H c ≡ Some (Lent t own) → Q (journal H c) (heard_in H c t)
unfolding AtLending
throughout c t own Q first more [] l is = absurd cc
throughout c t own Q first more (e ∷ H) l is = by (lent_before H e c t own l.0 is) (throughout c t own Q first more H l.0)
  where
    by : (place H c ≡ Some (Lent t own)) ⊎ Lends e c t own → (place H c ≡ Some (Lent t own) → Q (journal H c) (heard_in H c t)) → Q (journal (e ∷ H) c) (heard_in (e ∷ H) c t)
    by (inl before) earlier = event_there c t own Q more H e l.1 before (earlier before)
    by (inr lends_it) earlier =
        let a : Allowed H (Pool (Lend c t own lends_it.0)) = subst (λ x. Allowed H x) lends_it.1 l.1 in
        subst (λ x. Q (journal (x ∷ H) c) (heard_in (x ∷ H) c t)) (sym lends_it.1)
        (subst (λ L. Q (journal H c) L) (sym (fresh_lending H c t own lends_it.0 l.0 a)) (first H lends_it.0 l.0 a))

-- What is heard on a lent connection has the connection's owner.
pub heard_owner : (H : List Event) (e : Entry) (t : ℕ) (own : Owner) → Allowed H (Heard e) → place H e.conn ≡ Some (Lent t own) → e.owner ≡ own
heard_owner H e t own a is =
    let there = heard_there H e a in
    let hears : hears_in (pool H) (Some (Lent t own)) e ≡ true = subst (λ at. hears_in (pool H) at e ≡ true) is there.sets in
    let x = both (not (is_connect e.call || is_shut e.call)) ((e.tenure == t) && same_owner e.owner own) hears in
    let y = both (e.tenure == t) (same_owner e.owner own) x.1 in
    same_owner_is e.owner own y.1

are_of : ℕ → List Entry → Bool
are_of n L = list_all (λ e. number_of e.owner == n) L

owned : (H : List Event) (c t : ℕ) (own : Owner) → Lawful H → place H c ≡ Some (Lent t own) → are_of (number_of own) (heard_in H c t) ≡ true
unfolding are_of AtLending WithEach
owned H c t own l is =
    throughout c t own (λ J L. are_of (number_of own) L ≡ true) (λ before k lawful a. refl)
    (λ before e a at so.
    ap (λ b. b && are_of (number_of own) (heard_in before c t)) (ap (λ o. number_of o == number_of own) (heard_owner before e t own a at) ∙ same_itself (number_of own)) ∙ so)
    H l is

-- A connection that is known to be bad isn't lent.

first_false : (a b : Bool) → (a || b) ≡ false → a ≡ false
first_false true b h = absurd cc
first_false false b h = refl

lent_well : (H : List Event) (c t : ℕ) (own : Owner) (k : ℕ) → Lawful H → Allowed H (Pool (Lend c t own k)) → went_bad (journal H c) ≡ false
lent_well H c t own k l a =
    let f = move_facts H (Lend c t own k) a in
    first_false (went_bad (journal H c)) (ends_invalid (journal H c))
    (fine_from (was_heard c H) (was_opened c H) (journal H c) (place H c) (fine H l c) f.moves (opened_when H c (Lend c t own k) l (keeps_of H (Pool (Lend c t own k)) a) (same_itself c)))

pub bad_there : (H : List Event) (c t : ℕ) (own : Owner) → Lawful H → place H c ≡ Some (Lent t own) → went_bad (heard_in H c t) ≡ went_bad (journal H c)
unfolding AtLending WithEach
bad_there H c t own l is =
    throughout c t own (λ J L. went_bad L ≡ went_bad J) (λ before k lawful a. sym (lent_well before c t own k lawful a)) (λ before e a at so. ap (λ b. is_bad e.answer || b) so) H l is

-- The parts of the record, one by one.

made_so : (L : List Entry) → (made_by nothing_there then_there L).made ≡ exchanged_in L
made_so [] = refl
made_so (e ∷ L) = ap (then_exchanged e) (made_so L)

ending_so : (L : List Entry) → (made_by nothing_there then_there L).ending ≡ ending_in L
ending_so [] = refl
ending_so (e ∷ L) = ap (then_ended e) (ending_so L)

-- A line without exchanges had none before its newest entry.
had_none : (n : ℕ) (e : Entry) (L : List Entry) → exchanges (line_among n (e ∷ L)) ≡ [] → exchanges (line_among n L) ≡ []
had_none n e L h = by (is_of_line n e (line_among n L)) h
  where
    earlier : (o : Option Due) → with_exchange o e.answer (exchanges (line_among n L)) ≡ [] → exchanges (line_among n L) ≡ []
    earlier None k = k
    earlier (Some d) k = absurd cc

    by : (b : Bool) → exchanges (cond b (e ∷ line_among n L) (line_among n L)) ≡ [] → exchanges (line_among n L) ≡ []
    by true k = earlier (step_of e.call) k
    by false k = k

beginning_so : (n : ℕ) (L : List Entry) → are_of n L ≡ true → exchanges (line_among n L) ≡ [] → (made_by nothing_there then_there L).beginning ≡ beginning_in (line_among n L)
unfolding are_of
beginning_so n [] own none = refl
beginning_so n (e ∷ L) own none =
    let each = both (number_of e.owner == n) (are_of n L) own in
    let before = had_none n e L none in
    begin_heard n e L (made_by nothing_there then_there L).beginning (begun_if (number_of e.owner) e (made_by nothing_there then_there L).beginning)
    (ap (λ k. begun_if k e (made_by nothing_there then_there L).beginning) (same_number (number_of e.owner) n each.0)) before (beginning_so n L each.1 before)

pub kept_made : (H : List Event) (c t : ℕ) (own : Owner) → Lawful H → place H c ≡ Some (Lent t own) → (heard_on H c).made ≡ exchanged_in (heard_in H c t)
kept_made H c t own l is = ap (λ it. it.made) (kept_there nothing_there then_there H c t own l is) ∙ made_so (heard_in H c t)

pub kept_ending : (H : List Event) (c t : ℕ) (own : Owner) → Lawful H → place H c ≡ Some (Lent t own) → (heard_on H c).ending ≡ ending_in (heard_in H c t)
kept_ending H c t own l is = ap (λ it. it.ending) (kept_there nothing_there then_there H c t own l is) ∙ ending_so (heard_in H c t)

pub kept_bad : (H : List Event) (c t : ℕ) (own : Owner) → Lawful H → place H c ≡ Some (Lent t own) → (heard_on H c).ending.bad ≡ went_bad (journal H c)
kept_bad H c t own l is = ap (λ it. it.bad) (kept_ending H c t own l is) ∙ heard_bad (heard_in H c t) ∙ bad_there H c t own l is

-- A transaction's tenures are those of a call that begins it.
tx_begins : (w : Work) (n : ℕ) → owners.Tx n ≡ owner_as w n → begins w ≡ true
tx_begins (Begin label level read_only) n h = refl
tx_begins w n h = absurd cc

pub kept_beginning : (H : List Event) (c t n : ℕ) → Lawful H → place H c ≡ Some (Lent t (owners.Tx n)) → (heard_on H c).beginning ≡ beginning_in (line_among n (heard_in H c t))
kept_beginning H c t n l is =
    let of_it = owner_is_of H c t (owners.Tx n) l is in
    let none = Beginnings.steps (beginnings H l) c t (owners.Tx n) is (tx_begins (work H n) n of_it.1) in
    ap (λ it. it.beginning) (kept_there nothing_there then_there H c t (owners.Tx n) l is) ∙ beginning_so n (heard_in H c t) (owned H c t (owners.Tx n) l is) none
