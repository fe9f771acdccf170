-- The entries of a map whose keys are texts, with the keys read as bytes, in a removal, a lookup and a clone.
use Rattle.std.proofs.Common.{◌≡◌, ℕ, List, [], ◌∷◌, map, ap, refl, ◌∙◌, Bool, true, false, cond, Some, String, string_bytes}
use Rattle.std.specs.BTreeMap.{insert_entry}
use Rattle.std.specs.Cmp.Lexicographic.{slice_cmp}
use Rattle.std.specs.List.{AllZip, AllByRecursion}
use Rattle.std.specs.List.Sorted.{IsStrictlySortedBy}
use Rattle.std.specs.Map.{keys_of, lookup, remove_entry}
use Rattle.std.specs.Ordering.{nat_cmp, match_ordering}
use Rattle.std.specs.String.{string_cmp}
use Rattle.std.specs.declared.cmp.Ordering.{Ordering}
use Rattle.std.specs.declared.cmp.Ordering.TheVariants.{Less, Equal, Greater}

-- Returns an entry with its key read as bytes.
abbrev pub entry_of : {Y X : Type 0} → String Y × X → List ℕ × X
entry_of e = (string_bytes e.0, e.1)

map-match_ordering : {A B : Type 0} (f : A → B) (o : Ordering) (xs ys zs : List A) → map f (match_ordering o xs ys zs) ≡ match_ordering o (map f xs) (map f ys) (map f zs)
map-match_ordering f Less xs ys zs = refl
map-match_ordering f Equal xs ys zs = refl
map-match_ordering f Greater xs ys zs = refl

pub map-insert_entry : {Y X : Type 0} (key : String Y) (value : X) (es : List (String Y × X)) → map entry_of (insert_entry string_cmp es key value) ≡ insert_entry (slice_cmp nat_cmp) (map entry_of es) (string_bytes key) value
map-insert_entry key value [] = refl
map-insert_entry key value (e ∷ es) =
    map-match_ordering entry_of (string_cmp key e.0) ((key, value) ∷ e ∷ es) ((e.0, value) ∷ es) (e ∷ insert_entry string_cmp es key value)
    ∙ ap (λ rest. match_ordering (string_cmp key e.0) ((string_bytes key, value) ∷ entry_of e ∷ map entry_of es) ((string_bytes e.0, value) ∷ map entry_of es) (entry_of e ∷ rest)) (map-insert_entry key value es)

map-cond : {A B : Type 0} (f : A → B) (b : Bool) (xs ys : List A) → map f (cond b xs ys) ≡ cond b (map f xs) (map f ys)
map-cond f true xs ys = refl
map-cond f false xs ys = refl

-- Removing an entry by a test of its key's bytes removes the same entry from the list that has the keys as
-- bytes.
pub map-remove_entry : {Y X : Type 0} (test : List ℕ → Bool) (es : List (String Y × X)) → map entry_of (remove_entry (λ (k : String Y). test (string_bytes k)) es) ≡ remove_entry test (map entry_of es)
map-remove_entry test [] = refl
map-remove_entry test (e ∷ es) =
    map-cond entry_of (test (string_bytes e.0)) es (e ∷ remove_entry (λ k. test (string_bytes k)) es)
    ∙ ap (λ rest. cond (test (string_bytes e.0)) (map entry_of es) (entry_of e ∷ rest)) (map-remove_entry test es)

-- A test of a key's bytes finds the same value among the entries and in the list that has the keys as bytes.
pub lookup-entry_of : {Y X : Type 0} (test : List ℕ → Bool) (es : List (String Y × X)) → lookup (λ (k : String Y). test (string_bytes k)) es ≡ lookup test (map entry_of es)
lookup-entry_of test [] = refl
lookup-entry_of test (e ∷ es) = ap (λ found. cond (test (string_bytes e.0)) (Some e.1) found) (lookup-entry_of test es)

-- A clone of the entries has the same keys and values.
pub map-clone : {Y X : Type 0} (es cs : List (String Y × X)) → AllZip (λ (p q : String Y × X). (string_bytes q.0 ≡ string_bytes p.0) × (q.1 ≡ p.1)) es cs → map entry_of cs ≡ map entry_of es
map-clone [] [] h = refl
map-clone [] (c ∷ cs) h = absurd h
map-clone (e ∷ es) [] h = absurd h
map-clone (e ∷ es) (c ∷ cs) h =
    ap (λ key. (key, c.1) ∷ map entry_of cs) h.0.0
    ∙ ap (λ value. (string_bytes e.0, value) ∷ map entry_of cs) h.0.1
    ∙ ap (λ rest. entry_of e ∷ rest) (map-clone es cs h.1)

first_below : {Y X : Type 0} (k : String Y) (es : List (String Y × X)) → AllByRecursion (λ (y : String Y). string_cmp k y ≡ Less) (keys_of es) → AllByRecursion (λ (y : List ℕ). slice_cmp nat_cmp (string_bytes k) y ≡ Less) (keys_of (map entry_of es))
first_below k [] h = tt
first_below k (e ∷ es) h = (h.0, first_below k es h.1)

-- If keys ascend, their bytes ascend.
pub ascending-bytes : {Y X : Type 0} (es : List (String Y × X)) → IsStrictlySortedBy string_cmp (keys_of es) → IsStrictlySortedBy (slice_cmp nat_cmp) (keys_of (map entry_of es))
unfolding IsStrictlySortedBy
ascending-bytes [] h = tt
ascending-bytes (e ∷ es) h = (first_below e.0 es h.0, ascending-bytes es h.1)
