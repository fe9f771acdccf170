-- A journal in which one of a connection's tenures comes first after the Connect, and what this journal has of
-- the tenure.
use Rattle.std.proofs.Common.{◌≡◌, ℕ, Bool, true, false, cond, ◌==◌, ◌&&◌, ◌||◌, List, [], ◌∷◌, refl, ap}
use Rattle.std.specs.List.{list_all, list_any}
use Rattle.dsql_history.specs.driver.declared.answer.DriverAnswer.TheVariants.{Done}
use Rattle.dsql_history.specs.journal.declared.entry.Entry.{Entry}
use Rattle.dsql_history.specs.journal.Entries.{connect_entry}
use Rattle.dsql_history.specs.journal.Kinds.{◌⇒◌}
use Rattle.dsql_history.specs.journal.Readers.{begins, begun, cursors, handles, of_tenure, went_bad}
use Rattle.dsql_history.specs.journal.Tenure.{has_closed_cursors, has_closed_handles, has_ended_transactions, is_whole_tenure}
use Rattle.dsql_history.proofs.journal.Conjunctions.{join2, parts2}

abbrev pub as_first : ℕ → ℕ → List Entry → List Entry
as_first c t [] = connect_entry c Done ∷ []
as_first c t (e ∷ J) = cond (e.tenure == t) (e ∷ as_first c t J) (as_first c t J)

-- Before anything was heard in the tenure, this journal is only the Connect.
pub first_new : (c t : ℕ) (J : List Entry) → of_tenure t J ≡ [] → as_first c t J ≡ connect_entry c Done ∷ []
first_new c t [] none = refl
first_new c t (e ∷ J) none = by_tenure (e.tenure == t) none (λ rest. first_new c t J rest)
  where
    by_tenure : (b : Bool) → cond b (e ∷ of_tenure t J) (of_tenure t J) ≡ [] → (of_tenure t J ≡ [] → as_first c t J ≡ connect_entry c Done ∷ [])
        → cond b (e ∷ as_first c t J) (as_first c t J) ≡ connect_entry c Done ∷ []
    by_tenure true h later = absurd cc
    by_tenure false h later = later h

pub first_tenure : (c t : ℕ) (J : List Entry) → (1 == t) ≡ false → of_tenure t (as_first c t J) ≡ of_tenure t J
first_tenure c t [] later = rw later refl
first_tenure c t (e ∷ J) later = by_tenure (e.tenure == t) refl (first_tenure c t J later)
  where
    by_tenure : (b : Bool) → (e.tenure == t) ≡ b → of_tenure t (as_first c t J) ≡ of_tenure t J → of_tenure t (cond b (e ∷ as_first c t J) (as_first c t J)) ≡ cond b (e ∷ of_tenure t J) (of_tenure t J)
    by_tenure true is same = rw (is, same) refl
    by_tenure false is same = same

pub first_begun : (c t : ℕ) (J : List Entry) → begun (as_first c t J) ≡ begun (of_tenure t J)
first_begun c t [] = refl
first_begun c t (e ∷ J) = by_tenure (e.tenure == t) (first_begun c t J)
  where
    by_tenure : (b : Bool) → begun (as_first c t J) ≡ begun (of_tenure t J) → begun (cond b (e ∷ as_first c t J) (as_first c t J)) ≡ begun (cond b (e ∷ of_tenure t J) (of_tenure t J))
    by_tenure true same = ap (λ ns. cond (begins e) (e.tx ∷ ns) ns) same
    by_tenure false same = same

-- If only entries of the tenure pass a test, some entry of one journal passes it exactly if some entry of the
-- other does.
pub first_any : (test : Entry → Bool) (c t : ℕ) (J : List Entry) → test (connect_entry c Done) ≡ false → list_all (λ x. test x ⇒ (x.tenure == t)) J ≡ true → list_any test (as_first c t J) ≡ list_any test J
first_any test c t [] none here = rw none refl
first_any test c t (e ∷ J) none here =
    let p = parts2 (test e ⇒ (e.tenure == t)) (list_all (λ x. test x ⇒ (x.tenure == t)) J) here in
    by_tenure (e.tenure == t) p.0 (first_any test c t J none p.1)
  where
    off : (b : Bool) → b ⇒ false ≡ true → b ≡ false
    off true h = absurd cc
    off false h = refl

    by_tenure : (b : Bool) → test e ⇒ b ≡ true → list_any test (as_first c t J) ≡ list_any test J → list_any test (cond b (e ∷ as_first c t J) (as_first c t J)) ≡ test e || list_any test J
    by_tenure true own same = ap (λ (b : Bool). test e || b) same
    by_tenure false own same = rw (off (test e) own) same

-- If the tenure is whole in this journal, it is whole.
pub first_whole : (c t : ℕ) (J : List Entry) → begun (as_first c t J) ≡ [] → handles J ≡ handles (as_first c t J) → cursors J ≡ cursors (as_first c t J) → went_bad (as_first c t J) ≡ went_bad J
    → is_whole_tenure t (as_first c t J) ≡ true → is_whole_tenure t J ≡ true
first_whole c t J none live open_rows bad whole =
    let F : List Entry = as_first c t J in
    let p = parts2 (has_ended_transactions t F) (went_bad F || has_closed_cursors t F && has_closed_handles t F) whole in
    let none_there : begun (of_tenure t J) ≡ [] = rw (first_begun c t J) at none in
    join2 (has_ended_transactions t J) (went_bad J || has_closed_cursors t J && has_closed_handles t J) (rw none_there refl) (rw (live, open_rows, ← bad) p.1)
