-- What it says of the journal that a transaction goes on.
use Rattle.std.proofs.Common.{◌≡◌, ℕ, Bool, true, false, cond, not, ◌==◌, ◌&&◌, ◌||◌, inl, inr, List, [], ◌∷◌, Option, None, Some, refl}
use Rattle.std.specs.List.{list_all, list_any, filter}
use native.Mathlib.Omega.{arith}
use Rattle.std.proofs.lemmas.Bool.Decides.{nat_tests}
use Rattle.dsql_history.specs.driver.declared.call.DriverCall.{DriverCall}
use Rattle.dsql_history.specs.driver.declared.call.DriverCall.TheVariants.{Valid, Begin, Exec, Query}
use Rattle.dsql_history.specs.driver.declared.call.Input.TheVariants.{Text, Handle}
use Rattle.dsql_history.specs.driver.declared.answer.DriverAnswer.{DriverAnswer}
use Rattle.dsql_history.specs.driver.declared.answer.DriverAnswer.TheVariants.{Done, Invalid}
use Rattle.dsql_history.specs.driver.Fits.{fits_of, is_done, is_failure, is_invalid}
use Rattle.dsql_history.specs.driver.Kinds.{is_bad, is_begin, is_ending, is_reset, is_shut, is_valid}
use Rattle.dsql_history.specs.journal.declared.entry.Entry.{Entry}
use Rattle.dsql_history.specs.journal.Kinds.{◌⇒◌, if_any}
use Rattle.dsql_history.specs.journal.Readers.{begins, is_empty, last_tenure, of_tenure, of_transaction, went_bad, went_invalid, bad_tenure, was_shut}
use Rattle.dsql_history.specs.journal.Tenure.{body, earlier, is_body, is_refused_begin, is_tx_body}
use Rattle.dsql_history.specs.journal.Facts.{MayFollow}
use Rattle.dsql_history.proofs.journal.Conjunctions.{if_so, parts2, join2}
use Rattle.dsql_laws_tenures.specs.Tenures.{IsBegun, IsOfTransaction, GoesOn}
use Rattle.dsql_laws_tenures.proofs.Numbers.{same_number, is_itself, impossible, true_false, not_true, neither, neither_of}
use Rattle.dsql_laws_tenures.proofs.Entries.{newest, tx_of_begin}
use Rattle.dsql_laws_tenures.proofs.OneTenure.{begun_when, stands, all_stand}

-- A Begin that is done is of the body of the transaction.
begins_body : (q : DriverCall) (a : DriverAnswer) → is_begin q && is_done a ≡ true → not (is_reset q || is_valid q) ≡ true
begins_body (Begin level read_only) a h = refl
begins_body _ a h = absurd cc

not_alone : (L : List Entry) → list_any begins L ≡ true → is_empty (filter is_body L) ≡ false
not_alone [] h = absurd (impossible h)
not_alone (x ∷ L) h = by_begin (begins x) refl h (λ rest. not_alone L rest)
  where
    kept : (b : Bool) → is_empty (filter is_body L) ≡ false → is_empty (cond b (x ∷ filter is_body L) (filter is_body L)) ≡ false
    kept true h = refl
    kept false h = h

    by_begin : (b : Bool) → begins x ≡ b → b || list_any begins L ≡ true → (list_any begins L ≡ true → is_empty (filter is_body L) ≡ false) → is_empty (cond (is_body x) (x ∷ filter is_body L) (filter is_body L)) ≡ false
    by_begin true is k rest = rw (begins_body x.call x.answer is) refl
    by_begin false is k rest = kept (is_body x) (rest k)

begun_some : (L : List Entry) → list_any begins L ≡ true → is_empty L ≡ false
begun_some [] h = absurd (impossible h)
begun_some (x ∷ L) h = refl

-- A Begin that was refused has the number 0, and is of the body.
refused_parts : (q : DriverCall) (a : DriverAnswer) (zero : Bool) → is_begin q && is_failure a && zero ≡ true → (not (is_reset q || is_valid q) ≡ true) × (zero ≡ true) × (is_done a ≡ false)
refused_parts (Begin level read_only) Done zero h = absurd cc
refused_parts (Begin level read_only) a true h = (refl, refl, not_done a h)
  where
    not_done : (b : DriverAnswer) → true && is_failure b && true ≡ true → is_done b ≡ false
    not_done Done k = absurd cc
    not_done _ k = refl
refused_parts (Begin level read_only) a false h = absurd (both (is_failure a) h)
  where
    both : (b : Bool) → true && b && false ≡ true → ⊥
    both true k = cc
    both false k = cc
refused_parts _ a zero h = absurd cc

cant_be : (alone : Bool) (n x : ℕ) (rest : Bool) → alone ≡ false → (n == 0) ≡ false → (x == 0) ≡ true → alone && true || not (n == 0) && (x == n) && rest ≡ true → ⊥
cant_be alone n x rest one some zero h = absurd (grind (arith, nat_tests, one, some, zero, h))

-- In the tenure of a transaction that was begun, no Begin was refused.
pub none_refused : (k t : ℕ) (J : List Entry) → IsBegun k t J → list_any is_refused_begin (of_tenure t J) ≡ false
none_refused k t [] s = refl
none_refused k t (e ∷ J) s =
    let w = newest k t e J s.tenure in
    let m = w.may in
    elim (begun_when k t e J s) [
      | inl before ↦
          let r = stands k t J (record { tenure = w.before; begun = before }) in
          by_tenure (e.tenure == t) refl
          (λ at. by_refused (is_refused_begin e) refl (λ is.
          let p = refused_parts e.call e.answer (e.tx == 0) is in
          let in_body : is_tx_body k J e ≡ true = rw (w.owner at) at (m.tenure.in_body p.0) in
          cant_be (is_empty (body J e)) k e.tx (not (list_any is_refused_begin (earlier J e))) (rw (same_number e.tenure t at) (not_alone (of_tenure t J) before)) r.numbered p.1 (rw is at in_body)))
          (none_refused k t J (record { tenure = w.before; begun = before }))
      | inr now ↦
          let x = tx_of_begin k t e J w now.0 now.1 in
          by_tenure (e.tenure == t) refl
          (λ at. by_refused (is_refused_begin e) refl (λ is.
          let p = refused_parts e.call e.answer (e.tx == 0) is in
          true_false (is_done e.answer) (parts2 (is_begin e.call) (is_done e.answer) now.1).1 p.2))
          (rw (same_number e.tenure t now.0) at x.2)
    ]
  where
    by_refused : (b : Bool) → is_refused_begin e ≡ b → (is_refused_begin e ≡ true → ⊥) → is_refused_begin e ≡ false
    by_refused true is h = absurd (h is)
    by_refused false is h = is

    by_tenure : (b : Bool) → (e.tenure == t) ≡ b → ((e.tenure == t) ≡ true → is_refused_begin e ≡ false) → list_any is_refused_begin (of_tenure t J) ≡ false
        → list_any is_refused_begin (cond b (e ∷ of_tenure t J) (of_tenure t J)) ≡ false
    by_tenure true is h rest = neither_of (is_refused_begin e) (list_any is_refused_begin (of_tenure t J)) (h is) rest
    by_tenure false is h rest = rest

-- A Begin is no Reset.
begin_only : (q : DriverCall) (a : DriverAnswer) → is_begin q && is_done a ≡ true → is_reset q ≡ false
begin_only (Begin level read_only) a h = refl
begin_only _ a h = absurd cc

-- In that tenure no Reset was answered Bad.
pub no_bad_reset : (k t : ℕ) (J : List Entry) → IsBegun k t J → list_any (λ x. is_reset x.call && is_bad x.answer) (of_tenure t J) ≡ false
no_bad_reset k t [] s = refl
no_bad_reset k t (e ∷ J) s =
    let w = newest k t e J s.tenure in
    let m = w.may in
    elim (begun_when k t e J s) [
      | inl before ↦
          by_tenure (e.tenure == t) refl
          (λ at. by_reset (is_reset e.call) refl (λ is.
          let alone = if_so (is_reset e.call) (is_empty (earlier J e)) m.tenure.reset_first is in
          true_false (is_empty (of_tenure t J)) (rw (same_number e.tenure t at) at alone) (begun_some (of_tenure t J) before)))
          (no_bad_reset k t J (record { tenure = w.before; begun = before }))
      | inr now ↦
          by_tenure (e.tenure == t) refl
          (λ at. begin_only e.call e.answer now.1)
          (not_true (list_any (λ x. is_reset x.call && is_bad x.answer) (of_tenure t J)) (rw (same_number e.tenure t now.0) at m.tenure.not_after_bad_reset))
    ]
  where
    by_reset : (b : Bool) → is_reset e.call ≡ b → (is_reset e.call ≡ true → ⊥) → is_reset e.call ≡ false
    by_reset true is h = absurd (h is)
    by_reset false is h = is

    by_tenure : (b : Bool) → (e.tenure == t) ≡ b → ((e.tenure == t) ≡ true → is_reset e.call ≡ false) → list_any (λ x. is_reset x.call && is_bad x.answer) (of_tenure t J) ≡ false
        → list_any (λ x. is_reset x.call && is_bad x.answer) (cond b (e ∷ of_tenure t J) (of_tenure t J)) ≡ false
    by_tenure true is h rest = rw (h is) rest
    by_tenure false is h rest = rest

-- Only a Valid is answered Invalid.
pub invalid_only : (q : DriverCall) (a : DriverAnswer) → fits_of q a ≡ true → is_valid q ≡ false → is_invalid a ≡ false
invalid_only Valid a fit h = absurd cc
invalid_only (Exec (Text text) params) Invalid fit h = absurd (impossible fit)
invalid_only (Exec (Handle handle) params) Invalid fit h = absurd (impossible fit)
invalid_only (Query (Text text) params) Invalid fit h = absurd (impossible fit)
invalid_only (Query (Handle handle) params) Invalid fit h = absurd (impossible fit)
invalid_only q Invalid fit h = absurd (impossible fit)
invalid_only q _ fit h = refl

-- What is known of the answers that say that the connection is bad. None is Invalid, and the first Bad, if there is
-- one, is of tenure t.
pub record Known (t : ℕ) (J : List Entry) : Type 0 where
  pub not_invalid : went_invalid J ≡ false
  pub bad_here : if_any (bad_tenure J) (λ n. t == n) ≡ true

not_if : (b c : Bool) → b ⇒ c ≡ true → c ≡ false → b ≡ false
not_if true c h k = absurd (true_false c h k)
not_if false c h k = refl

without : (o : Option ℕ) (t : ℕ) (shut : Bool) → shut ≡ false → if_any o (λ n. (t == n) || shut) ≡ true → if_any o (λ n. t == n) ≡ true
without None t shut off h = refl
without (Some n) t shut off h = by_it (t == n) h
  where
    by_it : (b : Bool) → b || shut ≡ true → b ≡ true
    by_it true k = refl
    by_it false k = absurd (true_false shut k off)

known_first : (t : ℕ) (e : Entry) (J : List Entry) → MayFollow J e → e.tenure ≡ t → is_valid e.call ≡ false → is_shut e.call ≡ false → Known t (e ∷ J)
known_first t e J m at untested unshut = record {
  not_invalid = neither_of (is_invalid e.answer) (went_invalid J) (invalid_only e.call e.answer m.answer.fitting untested) (not_if (went_invalid J) (is_shut e.call) m.whole_journal.shut_when_invalid unshut);
  bad_here = by_bad (went_bad J) (is_bad e.answer) (rw at at (without (bad_tenure J) e.tenure (is_shut e.call) unshut m.whole_journal.in_bad_tenure));
}
  where
    by_bad : (b c : Bool) → if_any (bad_tenure J) (λ n. t == n) ≡ true → if_any (cond b (bad_tenure J) (cond c (Some e.tenure) None)) (λ n. t == n) ≡ true
    by_bad true c h = h
    by_bad false true h = rw at (is_itself t)
    by_bad false false h = refl

-- This holds in a transaction's tenure that is under way, if nothing was tested or shut there.
pub known : (k t : ℕ) (J : List Entry) → IsOfTransaction k t J → is_empty J ≡ false → last_tenure J ≡ t → list_any (λ x. is_valid x.call) (of_tenure t J) ≡ false → was_shut J ≡ false → Known t J
known k t [] s some at untested unshut = absurd cc
known k t (e ∷ J) s some at untested unshut =
    let w = newest k t e J s in
    let here : (e.tenure == t) ≡ true = rw at (is_itself t) in
    let no_test = neither (is_valid e.call) (list_any (λ x. is_valid x.call) (of_tenure t J)) (rw here at untested) in
    let no_shut = neither (is_shut e.call) (was_shut J) unshut in
    known_first t e J w.may at no_test.0 no_shut.0

-- If no entry of the tenure passes the test, no entry of the transaction does, since all its entries are in
-- that tenure.
none_in : (test : Entry → Bool) (k t : ℕ) (xs : List Entry) → list_all (λ x. (x.tx == k) ⇒ (x.tenure == t)) xs ≡ true → list_any test (of_tenure t xs) ≡ false
    → (list_any test (of_transaction k xs) ≡ false) × (list_all (λ x. x.tenure == t) (of_transaction k xs) ≡ true)
none_in test k t [] all none = (refl, refl)
none_in test k t (x ∷ xs) all none =
    let p = parts2 ((x.tx == k) ⇒ (x.tenure == t)) (list_all (λ y. (y.tx == k) ⇒ (y.tenure == t)) xs) all in
    by_tenure (x.tenure == t) refl none (λ rest. none_in test k t xs p.1 rest) (λ is. if_so (x.tx == k) (x.tenure == t) p.0 is)
  where
    by_tx : (b : Bool) → (x.tx == k) ≡ b → (b ≡ true → ((x.tenure == t) ≡ true) × (test x ≡ false)) → (list_any test (of_transaction k xs) ≡ false) × (list_all (λ y. y.tenure == t) (of_transaction k xs) ≡ true)
        → (list_any test (cond b (x ∷ of_transaction k xs) (of_transaction k xs)) ≡ false) × (list_all (λ y. y.tenure == t) (cond b (x ∷ of_transaction k xs) (of_transaction k xs)) ≡ true)
    by_tx true is here rest =
        let h = here refl in
        (neither_of (test x) (list_any test (of_transaction k xs)) h.1 rest.0, join2 (x.tenure == t) (list_all (λ y. y.tenure == t) (of_transaction k xs)) h.0 rest.1)
    by_tx false is here rest = rest

    by_tenure : (b : Bool) → (x.tenure == t) ≡ b → list_any test (cond b (x ∷ of_tenure t xs) (of_tenure t xs)) ≡ false
        → (list_any test (of_tenure t xs) ≡ false → (list_any test (of_transaction k xs) ≡ false) × (list_all (λ y. y.tenure == t) (of_transaction k xs) ≡ true))
        → ((x.tx == k) ≡ true → (x.tenure == t) ≡ true)
        → (list_any test (of_transaction k (x ∷ xs)) ≡ false) × (list_all (λ y. y.tenure == t) (of_transaction k (x ∷ xs)) ≡ true)
    by_tenure true is none rest own =
        let q = neither (test x) (list_any test (of_tenure t xs)) none in
        by_tx (x.tx == k) refl (λ _. (is, q.0)) (rest q.1)
    by_tenure false is none rest own = by_tx (x.tx == k) refl (λ yes. absurd (true_false (x.tenure == t) (own yes) is)) (rest none)

any_some : (t : ℕ) (xs : List Entry) → list_any (λ x. x.tenure == t) xs ≡ true → is_empty xs ≡ false
any_some t [] h = absurd (impossible h)
any_some t (x ∷ xs) h = refl

pub filter_some : (test : Entry → Bool) (xs : List Entry) → is_empty (filter test xs) ≡ false → is_empty xs ≡ false
filter_some test [] h = absurd cc
filter_some test (x ∷ xs) h = refl

-- All that is known of such a journal.
pub record Standing (k t : ℕ) (J : List Entry) : Type 0 where
  pub opened : is_empty J ≡ false
  pub numbered : (k == 0) ≡ false
  pub some : is_empty (of_transaction k J) ≡ false
  pub one_tenure : list_all (λ x. x.tenure == t) (of_transaction k J) ≡ true
  pub not_ended : list_any (λ x. is_ending x.call) (of_transaction k J) ≡ false
  pub none_refused : list_any is_refused_begin (of_tenure t J) ≡ false
  pub no_bad_reset : list_any (λ x. is_reset x.call && is_bad x.answer) (of_tenure t J) ≡ false
  pub not_invalid : went_invalid J ≡ false
  pub bad_here : if_any (bad_tenure J) (λ n. t == n) ≡ true

pub standing : (c k t : ℕ) (J : List Entry) → GoesOn c k t J → Standing k t J
standing c k t J s =
    let st = stands k t J s.begun in
    let one = none_in (λ x. is_ending x.call) k t J (all_stand k t J s.begun) s.not_ended in
    let some : is_empty (of_transaction k J) ≡ false = any_some t (of_transaction k J) st.some in
    let opened : is_empty J ≡ false = filter_some (λ x. x.tx == k) J some in
    let b = s.begun in
    let kn = known k t J b.tenure opened s.under_way s.not_tested s.not_shut in
    record {
      opened = opened;
      numbered = st.numbered;
      some = some;
      one_tenure = one.1;
      not_ended = one.0;
      none_refused = none_refused k t J s.begun;
      no_bad_reset = no_bad_reset k t J s.begun;
      not_invalid = kn.not_invalid;
      bad_here = kn.bad_here;
    }
