-- A call to which a connection is lent was served in its newest try, unless that connection is known to be bad.
use Rattle.std.proofs.Common.{◌≡◌, ◌≢◌, ℕ, ◌==◌, ◌⊎◌, inl, inr, Bool, true, false, ◌&&◌, ◌||◌, cond, List, [], ◌∷◌, Some, refl, sym, ap, subst, ◌∙◌, arith}
use Rattle.dsql_laws_calls.specs.driver.Kinds.{is_bad}
use Rattle.dsql_laws_calls.specs.journal.declared.entry.Entry.{Entry}
use Rattle.dsql_laws_calls.specs.journal.declared.entry.Owner.{Owner}
use Rattle.dsql_laws_calls.specs.journal.Kinds.{number_of}
use Rattle.dsql_laws_calls.specs.journal.Readers.{went_bad}
use Rattle.dsql_laws_calls.specs.pool.declared.conn.Place.TheVariants.{Lent}
use Rattle.dsql_laws_calls.specs.pool.declared.moves.Move.TheVariants.{Lend, Fell}
use Rattle.dsql_laws_calls.specs.history.declared.record.Try.{Try}
use Rattle.dsql_laws_calls.specs.history.declared.record.Try.TheVariants.{Served, Refused}
use Rattle.dsql_laws_calls.specs.history.Readers.Tries.{with_try, lost, was_served, newest_answer, is_tried, tries, loses}
use Rattle.dsql_laws_calls.proofs.laws.Tests.{both, other_number, same_itself, same_number}
use Rattle.dsql_laws_calls.proofs.laws_work.Rows.{same_or_not}
use Rattle.dsql_laws_calls.specs.history.declared.event.Event.{Event}
use Rattle.dsql_laws_calls.specs.history.declared.event.Event.TheVariants.{Heard, Pool}
use Rattle.dsql_laws_calls.specs.history.Readers.Journals.{journal}
use Rattle.dsql_laws_calls.specs.history.Readers.Pool.{pool, place}
use Rattle.dsql_laws_calls.specs.history.Readers.Works.{work}
use Rattle.dsql_laws_calls.specs.history.Legal.{Lawful}
use Rattle.dsql_laws_calls.proofs.laws.Tried.{lends_to}
use Rattle.dsql_laws_calls.proofs.laws.Wanted.{wanted}
use Rattle.dsql_laws_calls.proofs.Lent.{Lends, lent_before}
use Rattle.dsql_laws_calls.proofs.Own.{asks_own}
use Rattle.dsql_laws_calls.proofs.Owners.{lent_asks, lent_number}
use Rattle.dsql_laws_calls.proofs.Untried.{fallen_wanted}
use Rattle.dsql_laws_calls.proofs.Wanted.{lent_wants_none}
use Rattle.dsql_laws_answers.proofs.Turns.{heard_at}

abbrev ServedOrBad : List Try → Bool → Type 0
ServedOrBad ts bad = (was_served ts ≡ true) ⊎ (bad ≡ true)

worse : (a bad : Bool) (ts : List Try) → ServedOrBad ts bad → ServedOrBad ts (a || bad)
worse a bad ts (inl served) = inl served
worse true bad ts (inr is) = inr refl
worse false bad ts (inr is) = inr is

heard_so : (H : List Event) (e : Entry) (c t : ℕ) (own : Owner) → Lawful (Heard e ∷ H) → place H c ≡ Some (Lent t own) → ServedOrBad (tries H (number_of own)) (went_bad (journal H c)) → ServedOrBad (tries (Heard e ∷ H) (number_of own)) (went_bad (journal (Heard e ∷ H) c))
heard_so H e c t own l is before = by ((e.call_no == number_of own) && loses (work H (number_of own)) e) refl
  where
    n : ℕ
    n = number_of own

    here : (b : Bool) → (e.conn == c) ≡ b → ServedOrBad (tries H n) (went_bad (cond b (e ∷ journal H c) (journal H c)))
    here true at = worse (is_bad e.answer) (went_bad (journal H c)) (tries H n) before
    here false at = before

    by : (b : Bool) → ((e.call_no == n) && loses (work H n) e) ≡ b → ServedOrBad (cond b (lost (tries H n)) (tries H n)) (went_bad (journal (Heard e ∷ H) c))
    by false kept = here (e.conn == c) refl
    by true lost_it =
        let a = both (e.call_no == n) (loses (work H n) e) lost_it in
        let b = both (is_tried (work H n) e.call) (is_bad e.answer) a.1 in
        let same = same_number e.call_no n a.0 in
        let at = heard_at H e n c t own l is (asks_own H n (lent_asks H c t own l.0 is)) (lent_number H c t own l.0 is) same in
        inr (ap (λ x. went_bad (cond x (e ∷ journal H c) (journal H c))) (ap (λ d. d == c) at ∙ same_itself c) ∙ ap (λ x. x || went_bad (journal H c)) b.1)

lend_so : (b bad : Bool) (ts : List Try) → ServedOrBad ts bad → ServedOrBad (with_try b Served ts) bad
lend_so true bad ts before = inl refl
lend_so false bad ts before = before

fell_so : (H : List Event) (d k c t : ℕ) (own : Owner) → Lawful (Pool (Fell d k) ∷ H) → place H c ≡ Some (Lent t own) → ServedOrBad (tries H (number_of own)) (went_bad (journal H c)) → ServedOrBad (tries (Pool (Fell d k) ∷ H) (number_of own)) (went_bad (journal H c))
fell_so H d k c t own l is before = by (same_or_not k (number_of own))
  where
    by : (k ≡ number_of own) ⊎ (k ≢ number_of own) → ServedOrBad (tries (Pool (Fell d k) ∷ H) (number_of own)) (went_bad (journal H c))
    by (inl same) =
        let none = lent_wants_none H c t own l.0 is in
        let some = fallen_wanted H d k l.1 (λ zero. lent_number H c t own l.0 is (sym same ∙ zero)) in
        absurd (omega (arith, ap (λ n. wanted n (pool H)) same, none, some))
    by (inr apart) = subst (λ b. ServedOrBad (with_try b (Refused (newest_answer H)) (tries H (number_of own))) (went_bad (journal H c))) (sym (other_number k (number_of own) apart)) before

so_on : (H : List Event) (last : Event) (c t : ℕ) (own : Owner) → Lawful (last ∷ H) → place H c ≡ Some (Lent t own) → ServedOrBad (tries H (number_of own)) (went_bad (journal H c)) → ServedOrBad (tries (last ∷ H) (number_of own)) (went_bad (journal (last ∷ H) c))
so_on H (Heard e) c t own l is before = heard_so H e c t own l is before
so_on H (Pool (Lend d u o k)) c t own l is before = lend_so (k == number_of own) (went_bad (journal H c)) (tries H (number_of own)) before
so_on H (Pool (Fell d k)) c t own l is before = fell_so H d k c t own l is before
so_on H _ c t own l is before = before

pub served_or_bad : (H : List Event) (c t : ℕ) (own : Owner) → Lawful H → place H c ≡ Some (Lent t own) → (was_served (tries H (number_of own)) ≡ true) ⊎ (went_bad (journal H c) ≡ true)
served_or_bad [] c t own l is = absurd cc
served_or_bad (last ∷ H) c t own l is = by (λ before. served_or_bad H c t own l.0 before) (lent_before H last c t own l.0 is)
  where
    lent_now : (k : ℕ) → last ≡ Pool (Lend c t own k) → Lawful (Pool (Lend c t own k) ∷ H) → was_served (tries (Pool (Lend c t own k) ∷ H) (number_of own)) ≡ true
    lent_now k same lk = ap (λ b. was_served (with_try b Served (tries H (number_of own)))) (ap (λ j. j == number_of own) (lends_to H c t own k lk.1) ∙ same_itself (number_of own))

    by : (place H c ≡ Some (Lent t own) → ServedOrBad (tries H (number_of own)) (went_bad (journal H c))) → (place H c ≡ Some (Lent t own)) ⊎ Lends last c t own → ServedOrBad (tries (last ∷ H) (number_of own)) (went_bad (journal (last ∷ H) c))
    by earlier (inl before) = so_on H last c t own l before (earlier before)
    by earlier (inr w) = inl (ap (λ e. was_served (tries (e ∷ H) (number_of own))) w.1 ∙ lent_now w.0 w.1 (subst (λ e. Lawful (e ∷ H)) w.1 l))
