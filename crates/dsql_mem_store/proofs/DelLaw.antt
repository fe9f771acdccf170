-- A DEL removes its own key, and no other.
use Rattle.std.proofs.Common.{◌≡◌, ℕ, List, Bool, true, cond, None, ap, sym, ◌∙◌}
use Rattle.std.specs.Cmp.Lexicographic.{slice_cmp}
use Rattle.std.specs.Map.{keys_of}
use Rattle.std.specs.Ordering.{is_eq, nat_cmp, eq_by_cmp}
use Rattle.std.proofs.lemmas.Cmp.{eq_by_cmp_equiv, nat_list_cmp_total}
use Rattle.std.proofs.lemmas.Map.{lookup-remove_entry}
use Rattle.std.proofs.lemmas.Map.Keys.{IsDistinct-from_sorted}
use Rattle.std.proofs.lemmas.Map.Text.{is_eq-slice_cmp}
use Rattle.std.proofs.lemmas.Slice.Eq.{bytes_eq-Decides}
use Rattle.dsql_mem_store.specs.Entries.{value_at}
use Rattle.dsql_mem_store.specs.Laws.{DeletesOneKey}

-- Returns the test that finds one key.
abbrev is_at : List ℕ → List ℕ → Bool
is_at key = λ k. is_eq (slice_cmp nat_cmp key k)

is_at-same : (key other : List ℕ) → is_at key other ≡ true → key ≡ other
is_at-same key other h = (bytes_eq-Decides key other).0 (sym (is_eq-slice_cmp key other) ∙ h)

pub deletes_one_key : DeletesOneKey
deletes_one_key key store other sorted =
    lookup-remove_entry {eq = eq_by_cmp (slice_cmp nat_cmp)} (eq_by_cmp_equiv nat_list_cmp_total) (is_at key)
    (λ x y h. ap (λ (k : List ℕ). is_at k y) (is_at-same key x h)) other store
    (IsDistinct-from_sorted (slice_cmp nat_cmp) (keys_of store) sorted)
    ∙ ap (λ test. cond test None (value_at other store)) (is_eq-slice_cmp key other)
