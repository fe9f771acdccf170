-- The keys that begin with a prefix are the first of those that don't come before it. A key between the prefix and a
-- text that begins with it begins with it too.
use Rattle.std.proofs.Common.{◌≡◌, ◌&&◌, ◌++◌, ℕ, List, [], ◌∷◌, Bool, true, false, cond, eqb, map, String, string_bytes, append_assoc, ap, sym, refl, subst, ◌∙◌}
use Rattle.std.specs.BTreeMap.Range.{entries_between}
use Rattle.std.specs.Cmp.{nat_cmp_is}
use Rattle.std.specs.Cmp.Lexicographic.{slice_cmp}
use Rattle.std.specs.List.{AllByRecursion, filter, starts_with}
use Rattle.std.specs.List.Sorted.{IsStrictlySortedBy}
use Rattle.std.specs.Map.{keys_of}
use Rattle.std.specs.Ordering.{is_le, nat_cmp, ordering_then, ordering_reverse}
use Rattle.std.specs.String.{string_cmp}
use Rattle.std.specs.declared.cmp.Ordering.{Ordering}
use Rattle.std.specs.declared.cmp.Ordering.TheVariants.{Less, Equal, Greater}
use Rattle.std.specs.declared.ops.Bound.TheVariants.{Included, Unbounded}
use Rattle.std.proofs.lemmas.Bool.{and_parts, and_from, eqb-true, false≢true}
use Rattle.std.proofs.lemmas.Cmp.{nat_cmp_total}
use Rattle.dsql_value.specs.declared.value.Value.{Value}
use Rattle.dsql_mem_store.specs.Entries.{Entries, AreAscending, listed}
use Rattle.dsql_mem_store.proofs.Ascending.{ascending-filter}
use Rattle.dsql_mem_store.proofs.EntryLemmas.{entry_of}

abbrev compared : List ℕ → List ℕ → Ordering
compared x y = slice_cmp nat_cmp x y

abbrev begins : List ℕ → List ℕ → Bool
begins key prefix = starts_with eqb key prefix

less_not_equal : Less ≡ Equal → ⊥
less_not_equal h = false≢true (ap is_equal h) where
  is_equal : Ordering → Bool
  is_equal Equal = true
  is_equal _ = false

greater_not_equal : Greater ≡ Equal → ⊥
greater_not_equal h = false≢true (ap is_equal h) where
  is_equal : Ordering → Bool
  is_equal Equal = true
  is_equal _ = false

greater_not_less : Greater ≡ Less → ⊥
greater_not_less h = false≢true (ap is_less h) where
  is_less : Ordering → Bool
  is_less Less = true
  is_less _ = false

equal_byte : (lt eq : Bool) → cond lt Less (cond eq Equal Greater) ≡ Equal → eq ≡ true
equal_byte true eq h = absurd (less_not_equal h)
equal_byte false true h = refl
equal_byte false false h = absurd (greater_not_equal h)

-- A text that begins with the prefix doesn't come before it.
from_prefix : (p k : List ℕ) → begins k p ≡ true → is_le (compared p k) ≡ true
from_prefix [] [] h = refl
from_prefix [] (b ∷ k) h = refl
from_prefix (a ∷ p) [] h = absurd (false≢true h)
from_prefix (a ∷ p) (b ∷ k) h =
    let parts = and_parts (eqb a b) (begins k p) h in
    ap (λ o. is_le (ordering_then o (compared p k))) (sym (nat_cmp_is a b Equal (eqb-true a b parts.0)))
    ∙ from_prefix p k parts.1

-- If neither the first bytes nor the rest are out of order, the first bytes are the same.
first_same : (o x z : Ordering) → is_le (ordering_then o x) ≡ true → ordering_then (ordering_reverse o) z ≡ Less → o ≡ Equal
first_same Less x z h g = absurd (greater_not_less g)
first_same Equal x z h g = refl
first_same Greater x z h g = absurd (false≢true h)

between : (p k y : List ℕ) → is_le (compared p k) ≡ true → compared k y ≡ Less → begins y p ≡ true → begins k p ≡ true
between [] k y h g s = refl
between (a ∷ p) [] y h g s = absurd (false≢true h)
between (a ∷ p) (b ∷ k) [] h g s = absurd (greater_not_less g)
between (a ∷ p) (b ∷ k) (c ∷ y) h g s =
    let parts = and_parts (eqb a c) (begins y p) s in
    let turned : nat_cmp b c ≡ ordering_reverse (nat_cmp a b)
    = ap (λ n. nat_cmp b n) (sym (eqb-true a c parts.0)) ∙ nat_cmp_total.antisymm b a in
    let same : nat_cmp a b ≡ Equal
    = first_same (nat_cmp a b) (compared p k) (compared k y) h (ap (λ o. ordering_then o (compared k y)) (sym turned) ∙ g) in
    let after : nat_cmp b c ≡ Equal = turned ∙ ap ordering_reverse same in
    and_from (eqb a b) (begins k p) (equal_byte _ (eqb a b) same)
    (between p k y (ap (λ o. is_le (ordering_then o (compared p k))) (sym same) ∙ h) (ap (λ o. ordering_then o (compared k y)) (sym after) ∙ g) parts.1)

-- Entries whose keys ascend, and don't come before the prefix.
pub record AreAhead (prefix : List ℕ) (entries : Entries) : Type 0 where
  pub ascending : AreAscending entries
  pub from : AllByRecursion (λ key. is_le (compared prefix key) ≡ true) (keys_of entries)

pub ahead_rest : (p : List ℕ) (e : List ℕ × Value) (es : Entries) → AreAhead p (e ∷ es) → AreAhead p es
unfolding IsStrictlySortedBy
ahead_rest p e es h = record { ascending = h.ascending.1; from = h.from.1 }

-- An entry that isn't listed leaves the list as it is.
left_out : {X : Type 0} (b : Bool) (x : X) (xs ys : List X) → (b ≡ true → false ≡ true) → xs ≡ ys → xs ≡ cond b (x ∷ ys) ys
left_out true x xs ys lists h = absurd (false≢true (lists refl))
left_out false x xs ys lists h = h

none_begin : (p k : List ℕ) (es : Entries) → is_le (compared p k) ≡ true → begins k p ≡ false → AllByRecursion (λ y. compared k y ≡ Less) (keys_of es) → [] ≡ listed p es
none_begin p k [] h s a = refl
none_begin p k (e ∷ es) h s a =
    left_out (begins e.0 p) e [] (listed p es) (λ is. sym s ∙ between p k e.0 h a.0 is) (none_begin p k es h s a.1)

-- If the first of the entries doesn't begin with the prefix, none does.
pub none_listed : (p : List ℕ) (e : List ℕ × Value) (es : Entries) → AreAhead p (e ∷ es) → begins e.0 p ≡ false → listed p (e ∷ es) ≡ []
unfolding IsStrictlySortedBy
none_listed p e es h s =
    ap (λ b. cond b (e ∷ listed p es) (listed p es)) s ∙ sym (none_begin p e.0 es h.from.0 s h.ascending.0)

-- If it does, it is the first of those that are listed.
pub one_listed : (p : List ℕ) (e : List ℕ × Value) (es done all : Entries) → begins e.0 p ≡ true → done ++ listed p (e ∷ es) ≡ all → (done ++ e ∷ []) ++ listed p es ≡ all
one_listed p e es done all s h =
    append_assoc done (e ∷ []) (listed p es)
    ∙ ap (λ b. done ++ cond b (e ∷ listed p es) (listed p es)) (sym s)
    ∙ h

abbrev ahead_of : List ℕ → Entries → Entries
ahead_of p es = filter (λ e. is_le (compared p e.0)) es

one_ahead : (p : List ℕ) (e : List ℕ × Value) (es fs : Entries) (b : Bool) → (begins e.0 p ≡ true → b ≡ true) → listed p fs ≡ listed p es → listed p (cond b (e ∷ fs) fs) ≡ listed p (e ∷ es)
one_ahead p e es fs true is h = ap (λ rest. cond (begins e.0 p) (e ∷ rest) rest) h
one_ahead p e es fs false is h = left_out (begins e.0 p) e (listed p fs) (listed p es) is h

listed_ahead : (p : List ℕ) (es : Entries) → listed p (ahead_of p es) ≡ listed p es
listed_ahead p [] = refl
listed_ahead p (e ∷ es) =
    one_ahead p e es (ahead_of p es) (is_le (compared p e.0)) (from_prefix p e.0) (listed_ahead p es)

one_from : (p : List ℕ) (e : List ℕ × Value) (fs : Entries) (b : Bool) → b ≡ is_le (compared p e.0) → AllByRecursion (λ key. is_le (compared p key) ≡ true) (keys_of fs) → AllByRecursion (λ key. is_le (compared p key) ≡ true) (keys_of (cond b (e ∷ fs) fs))
one_from p e fs true is h = (sym is, h)
one_from p e fs false is h = h

all_from : (p : List ℕ) (es : Entries) → AllByRecursion (λ key. is_le (compared p key) ≡ true) (keys_of (ahead_of p es))
all_from p [] = tt
all_from p (e ∷ es) = one_from p e (ahead_of p es) (is_le (compared p e.0)) refl (all_from p es)

map_one : {A B : Type 0} (f : A → B) (b : Bool) (x : A) (xs : List A) (ys : List B) → map f xs ≡ ys → map f (cond (b && true) (x ∷ xs) xs) ≡ cond b (f x ∷ ys) ys
map_one f true x xs ys h = ap (λ rest. f x ∷ rest) h
map_one f false x xs ys h = h

map_range : {Y X : Type 0} (from : String Y) (es : List (String Y × X)) → map entry_of (entries_between string_cmp (Included from) Unbounded es) ≡ filter (λ e. is_le (compared (string_bytes from) e.0)) (map entry_of es)
map_range from [] = refl
map_range from (e ∷ es) = map_one entry_of (is_le (string_cmp from e.0)) e _ _ (map_range from es)

-- The range from a prefix on has all entries that begin with it.
pub range_lists : {Y : Type 0} (from : String Y) (es range : List (String Y × Value)) → range ≡ entries_between string_cmp (Included from) Unbounded es → listed (string_bytes from) (map entry_of range) ≡ listed (string_bytes from) (map entry_of es)
range_lists from es range is =
    ap (λ r. listed (string_bytes from) (map entry_of r)) is
    ∙ ap (listed (string_bytes from)) (map_range from es)
    ∙ listed_ahead (string_bytes from) (map entry_of es)

-- Its entries are ahead.
pub range_ahead : {Y : Type 0} (from : String Y) (es range : List (String Y × Value)) → range ≡ entries_between string_cmp (Included from) Unbounded es → AreAscending (map entry_of es) → AreAhead (string_bytes from) (map entry_of range)
range_ahead from es range is sorted =
    subst (λ (found : Entries). AreAhead (string_bytes from) found) (sym (ap (map entry_of) is ∙ map_range from es))
    (record { ascending = ascending-filter _ (map entry_of es) sorted; from = all_from (string_bytes from) (map entry_of es) })
