-- A transaction that was begun in a tenure has entries in that tenure only.
use Rattle.std.proofs.Common.{◌≡◌, ◌≢◌, ℕ, Bool, true, false, cond, ◌==◌, ◌&&◌, ◌||◌, ◌⊎◌, inl, inr, List, [], ◌∷◌, refl}
use Rattle.std.specs.List.{list_all, list_any}
use native.Mathlib.Omega.{arith}
use Rattle.std.proofs.lemmas.Bool.Decides.{nat_tests}
use Rattle.dsql_history.specs.journal.declared.entry.Entry.{Entry}
use Rattle.dsql_history.specs.journal.Kinds.{◌⇒◌}
use Rattle.dsql_history.specs.journal.Readers.{begins, of_tenure, of_transaction}
use Rattle.dsql_history.specs.journal.Facts.{KeepsTransaction}
use Rattle.dsql_history.proofs.journal.Conjunctions.{parts2, join2}
use Rattle.dsql_laws_tenures.specs.Tenures.{IsBegun}
use Rattle.dsql_laws_tenures.proofs.Numbers.{same_number, is_itself, impossible, or_later}
use Rattle.dsql_laws_tenures.proofs.Entries.{newest, tx_of_begin}

-- The transaction was begun by the newest entry, or before it.
pub begun_when : (k t : ℕ) (e : Entry) (J : List Entry) → IsBegun k t (e ∷ J) → (list_any begins (of_tenure t J) ≡ true) ⊎ (((e.tenure == t) ≡ true) × (begins e ≡ true))
begun_when k t e J s = by_tenure (e.tenure == t) refl s.begun
  where
    by_begin : (b : Bool) → (e.tenure == t) ≡ true → begins e ≡ b → b || list_any begins (of_tenure t J) ≡ true → (list_any begins (of_tenure t J) ≡ true) ⊎ (((e.tenure == t) ≡ true) × (begins e ≡ true))
    by_begin true at is h = inr (at, is)
    by_begin false at is h = inl h

    by_tenure : (b : Bool) → (e.tenure == t) ≡ b → list_any begins (cond b (e ∷ of_tenure t J) (of_tenure t J)) ≡ true
        → (list_any begins (of_tenure t J) ≡ true) ⊎ (((e.tenure == t) ≡ true) × (begins e ≡ true))
    by_tenure true is h = by_begin (begins e) is refl h
    by_tenure false is h = inl h

-- Holds if the transaction has a number, and an entry in the tenure.
pub record Stands (k t : ℕ) (J : List Entry) : Type 0 where
  pub some : list_any (λ x. x.tenure == t) (of_transaction k J) ≡ true
  pub numbered : (k == 0) ≡ false

kept : (k t : ℕ) (e : Entry) (J : List Entry) (b : Bool) → list_any (λ x. x.tenure == t) (of_transaction k J) ≡ true
    → list_any (λ x. x.tenure == t) (cond b (e ∷ of_transaction k J) (of_transaction k J)) ≡ true
kept k t e J true h = or_later (e.tenure == t) (list_any (λ x. x.tenure == t) (of_transaction k J)) h
kept k t e J false h = h

pub stands : (k t : ℕ) (J : List Entry) → IsBegun k t J → Stands k t J
stands k t [] s = absurd (impossible s.begun)
stands k t (e ∷ J) s =
    let w = newest k t e J s.tenure in
    elim (begun_when k t e J s) [
      | inl earlier ↦
          let r = stands k t J (record { tenure = w.before; begun = earlier }) in
          record { some = kept k t e J (e.tx == k) r.some; numbered = r.numbered }
      | inr now ↦
          let x = tx_of_begin k t e J w now.0 now.1 in
          record { some = rw x.1 (rw (is_itself k) (rw now.0 refl)); numbered = x.0 }
    ]

-- If all entries are in one tenure, it is the tenure of each of them.
pub meets : (t u : ℕ) (xs : List Entry) → list_any (λ x. x.tenure == t) xs ≡ true → list_all (λ x. x.tenure == u) xs ≡ true → (u == t) ≡ true
meets t u [] some all = absurd (impossible some)
meets t u (x ∷ xs) some all =
    let p = parts2 (x.tenure == u) (list_all (λ y. y.tenure == u) xs) all in
    by_head (x.tenure == t) refl some p.0 (λ later. meets t u xs later p.1)
  where
    by_head : (b : Bool) → (x.tenure == t) ≡ b → b || list_any (λ y. y.tenure == t) xs ≡ true → (x.tenure == u) ≡ true → (list_any (λ y. y.tenure == t) xs ≡ true → (u == t) ≡ true) → (u == t) ≡ true
    by_head true is h at rest = grind (arith, nat_tests)
    by_head false is h at rest = rest h

not_zero : (n k : ℕ) → n ≡ k → (k == 0) ≡ false → n ≢ 0
not_zero n k same h is = absurd (true_false_at (rw (← same, is) at h))
  where
    true_false_at : true ≡ false → ⊥
    true_false_at j = cc

-- If all entries of the transaction are in the tenure, each entry of the journal is in it or isn't the
-- transaction's.
all_of : (k t : ℕ) (xs : List Entry) → list_all (λ x. x.tenure == t) (of_transaction k xs) ≡ true → list_all (λ x. (x.tx == k) ⇒ (x.tenure == t)) xs ≡ true
all_of k t [] h = refl
all_of k t (x ∷ xs) h = by_tx (x.tx == k) h (λ rest. all_of k t xs rest)
  where
    by_tx : (b : Bool) → list_all (λ y. y.tenure == t) (cond b (x ∷ of_transaction k xs) (of_transaction k xs)) ≡ true
        → (list_all (λ y. y.tenure == t) (of_transaction k xs) ≡ true → list_all (λ y. (y.tx == k) ⇒ (y.tenure == t)) xs ≡ true)
        → (b ⇒ (x.tenure == t)) && list_all (λ y. (y.tx == k) ⇒ (y.tenure == t)) xs ≡ true
    by_tx true all rest =
        let p = parts2 (x.tenure == t) (list_all (λ y. y.tenure == t) (of_transaction k xs)) all in
        join2 (x.tenure == t) (list_all (λ y. (y.tx == k) ⇒ (y.tenure == t)) xs) p.0 (rest p.1)
    by_tx false all rest = rest all

-- All entries of the transaction are in the tenure in which it was begun.
pub all_stand : (k t : ℕ) (J : List Entry) → IsBegun k t J → list_all (λ x. (x.tx == k) ⇒ (x.tenure == t)) J ≡ true
all_stand k t [] s = refl
all_stand k t (e ∷ J) s =
    let w = newest k t e J s.tenure in
    let m = w.may in
    elim (begun_when k t e J s) [
      | inl earlier ↦
          let before : IsBegun k t J = record { tenure = w.before; begun = earlier } in
          let r = stands k t J before in
          join2 ((e.tx == k) ⇒ (e.tenure == t)) (list_all (λ x. (x.tx == k) ⇒ (x.tenure == t)) J)
          (by_tx (e.tx == k) refl (λ is. let same = same_number e.tx k is in
          let keeps : KeepsTransaction J e = m.transaction (not_zero e.tx k same r.numbered) in
          meets t e.tenure (of_transaction k J) r.some (rw same at keeps.one_tenure)))
          (all_stand k t J before)
      | inr now ↦
          let x = tx_of_begin k t e J w now.0 now.1 in
          let keeps : KeepsTransaction J e = m.transaction (not_zero e.tx k x.1 x.0) in
          join2 ((e.tx == k) ⇒ (e.tenure == t)) (list_all (λ y. (y.tx == k) ⇒ (y.tenure == t)) J)
          (by_tx (e.tx == k) refl (λ _. now.0))
          (all_of k t J (rw (x.1, same_number e.tenure t now.0) at keeps.one_tenure))
    ]
  where
    by_tx : (b : Bool) → (e.tx == k) ≡ b → ((e.tx == k) ≡ true → (e.tenure == t) ≡ true) → b ⇒ (e.tenure == t) ≡ true
    by_tx true is h = h is
    by_tx false is h = refl
