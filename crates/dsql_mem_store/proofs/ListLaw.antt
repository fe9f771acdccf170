-- A list has exactly the keys with its prefix.
use Rattle.std.proofs.Common.{◌≡◌, ℕ, List, [], ◌∷◌, Bool, true, false, cond, Option, Some, None, eqb, ap, sym, refl, ◌∙◌}
use Rattle.std.specs.Cmp.Lexicographic.{slice_cmp}
use Rattle.std.specs.List.{starts_with}
use Rattle.std.specs.Ordering.{is_eq, nat_cmp}
use Rattle.std.proofs.lemmas.Map.Text.{is_eq-slice_cmp}
use Rattle.std.proofs.lemmas.Slice.Eq.{bytes_eq-Decides}
use Rattle.dsql_value.specs.declared.value.Value.{Value}
use Rattle.dsql_mem_store.specs.Entries.{Entries, value_at, listed}
use Rattle.dsql_mem_store.specs.Laws.{ListsPrefix}
use Rattle.dsql_mem_store.proofs.Ascending.{ascending-filter}

-- If a list has exactly the keys with the prefix, so has the list with one more entry. That entry is listed if its key
-- begins so.
one_more : (begins is key_begins : Bool) (key : List ℕ) (e : List ℕ × Value) (found : Entries) (rest : Option Value) → is ≡ is_eq (slice_cmp nat_cmp key e.0) → (is ≡ true → begins ≡ key_begins) → value_at key found ≡ cond key_begins rest None → value_at key (cond begins (e ∷ found) found) ≡ cond key_begins (cond is (Some e.1) rest) None
one_more true true p key e found rest at same h =
    ap (λ b. cond b (Some e.1) (value_at key found)) (sym at) ∙ ap (λ b. cond b (Some e.1) None) (same refl)
one_more true false p key e found rest at same h = ap (λ b. cond b (Some e.1) (value_at key found)) (sym at) ∙ h
one_more false true p key e found rest at same h =
    h ∙ ap (λ b. cond b rest None) (sym (same refl)) ∙ ap (λ b. cond b (Some e.1) None) (same refl)
one_more false false p key e found rest at same h = h

same_both : {X : Type 0} (b : Bool) (x : X) → x ≡ cond b x x
same_both true x = refl
same_both false x = refl

lists_values : (prefix : List ℕ) (store : Entries) (key : List ℕ) → value_at key (listed prefix store) ≡ cond (starts_with eqb key prefix) (value_at key store) None
lists_values prefix [] key = same_both (starts_with eqb key prefix) None
lists_values prefix (e ∷ store) key =
    one_more (starts_with eqb e.0 prefix) (is_eq (slice_cmp nat_cmp key e.0)) (starts_with eqb key prefix) key e (listed prefix store)
    (value_at key store) refl
    (λ h. ap (λ k. starts_with eqb k prefix) (sym ((bytes_eq-Decides key e.0).0 (sym (is_eq-slice_cmp key e.0) ∙ h))))
    (lists_values prefix store key)

pub lists_prefix : ListsPrefix
lists_prefix =
    record { values = lists_values; ascending = λ prefix store h. ascending-filter _ store h }
