-- Keys that ascend still ascend after a write, and in a list.
use Rattle.std.proofs.Common.{◌≡◌, ℕ, List, [], ◌∷◌, Bool, true, false, cond, Option, Some, None, ◌⊎◌, ◌≢◌, inl, inr, sym, ap, refl, ◌∙◌}
use Rattle.std.specs.Cmp.Lexicographic.{slice_cmp}
use Rattle.std.specs.List.{AllByRecursion, filter}
use Rattle.std.specs.List.Sorted.{IsStrictlySortedBy}
use Rattle.std.specs.Map.{keys_of, remove_entry}
use Rattle.std.specs.Ordering.{nat_cmp, match_ordering, ordering_reverse}
use Rattle.std.specs.declared.cmp.Ordering.{Ordering}
use Rattle.std.specs.declared.cmp.Ordering.TheVariants.{Less, Equal, Greater}
use Rattle.std.proofs.lemmas.Cmp.{nat_list_cmp_total}
use Rattle.dsql_value.specs.declared.value.Value.{Value}
use Rattle.dsql_mem_store.specs.Entries.{Entries, AreAscending, with_state, with_value}

abbrev compared : List ℕ → List ℕ → Ordering
compared x y = slice_cmp nat_cmp x y

abbrev Keys : (List ℕ → Type 0) → Entries → Type 0
Keys P es = AllByRecursion P (keys_of es)

-- What holds of all keys and of an inserted one holds of all keys after the insertion.
all-insert_first : (P : List ℕ → Type 0) (key : List ℕ) (value : Value) (e : List ℕ × Value) (es rest : Entries) (o : Ordering) → Keys P (e ∷ es) → P key → Keys P rest → Keys P (match_ordering o ((key, value) ∷ e ∷ es) ((e.0, value) ∷ es) (e ∷ rest))
all-insert_first P key value e es rest Less h p r = (p, h)
all-insert_first P key value e es rest Equal h p r = h
all-insert_first P key value e es rest Greater h p r = (h.0, r)

all-insert : (P : List ℕ → Type 0) (key : List ℕ) (value : Value) (es : Entries) → Keys P es → P key → Keys P (with_value key value es)
all-insert P key value [] h p = (p, tt)
all-insert P key value (e ∷ es) h p =
    all-insert_first P key value e es (with_value key value es) (compared key e.0) h p (all-insert P key value es h.1 p)

below-all : (key other : List ℕ) (es : Entries) → compared key other ≡ Less → Keys (λ y. compared other y ≡ Less) es → Keys (λ y. compared key y ≡ Less) es
below-all key other [] less h = tt
below-all key other (e ∷ es) less h =
    (nat_list_cmp_total.trans key other e.0 less h.0, below-all key other es less h.1)

ascending-insert_first : (key : List ℕ) (value : Value) (e : List ℕ × Value) (es rest : Entries) (o : Ordering) → o ≡ compared key e.0 → AreAscending (e ∷ es) → AreAscending rest → Keys (λ y. compared e.0 y ≡ Less) rest ⊎ (o ≢ Greater) → AreAscending (match_ordering o ((key, value) ∷ e ∷ es) ((e.0, value) ∷ es) (e ∷ rest))
unfolding IsStrictlySortedBy
ascending-insert_first key value e es rest Less is h r a = ((sym is, below-all key e.0 es (sym is) h.0), h)
ascending-insert_first key value e es rest Equal is h r a = h
ascending-insert_first key value e es rest Greater is h r (inl a) = (a, r)
ascending-insert_first key value e es rest Greater is h r (inr a) = absurd (a refl)

greater-less : (key other : List ℕ) → Greater ≡ compared key other → compared other key ≡ Less
greater-less key other is = nat_list_cmp_total.antisymm other key ∙ ap ordering_reverse (sym is)

above_first : (key : List ℕ) (value : Value) (e : List ℕ × Value) (es : Entries) (o : Ordering) → o ≡ compared key e.0 → Keys (λ y. compared e.0 y ≡ Less) es → Keys (λ y. compared e.0 y ≡ Less) (with_value key value es) ⊎ (o ≢ Greater)
above_first key value e es Greater is h =
    inl (all-insert (λ y. compared e.0 y ≡ Less) key value es h (greater-less key e.0 is))
above_first key value e es _ is h = inr (λ no. (cc))

ascending-with_value : (key : List ℕ) (value : Value) (es : Entries) → AreAscending es → AreAscending (with_value key value es)
unfolding IsStrictlySortedBy
ascending-with_value key value [] h = (tt, tt)
ascending-with_value key value (e ∷ es) h =
    ascending-insert_first key value e es (with_value key value es) (compared key e.0) refl h (ascending-with_value key value es h.1)
    (above_first key value e es (compared key e.0) refl h.0)

all-remove : (P : List ℕ → Type 0) (test : List ℕ → Bool) (es : Entries) → Keys P es → Keys P (remove_entry test es)
all-remove P test [] h = tt
all-remove P test (e ∷ es) h = step (test e.0) (all-remove P test es h.1) where
  step : (b : Bool) → Keys P (remove_entry test es) → Keys P (cond b es (e ∷ remove_entry test es))
  step true r = h.1
  step false r = (h.0, r)

removed_first : (b : Bool) (e : List ℕ × Value) (es rest : Entries) → AreAscending (e ∷ es) → AreAscending rest → Keys (λ y. compared e.0 y ≡ Less) rest → AreAscending (cond b es (e ∷ rest))
unfolding IsStrictlySortedBy
removed_first true e es rest h r a = h.1
removed_first false e es rest h r a = (a, r)

ascending-remove : (test : List ℕ → Bool) (es : Entries) → AreAscending es → AreAscending (remove_entry test es)
unfolding IsStrictlySortedBy
ascending-remove test [] h = tt
ascending-remove test (e ∷ es) h =
    removed_first (test e.0) e es (remove_entry test es) h (ascending-remove test es h.1)
    (all-remove (λ y. compared e.0 y ≡ Less) test es h.0)

pub ascending-with_state : (key : List ℕ) (state : Option Value) (es : Entries) → AreAscending es → AreAscending (with_state key state es)
ascending-with_state key (Some value) es h = ascending-with_value key value es h
ascending-with_state key None es h = ascending-remove _ es h

all-filter : (P : List ℕ → Type 0) (test : List ℕ × Value → Bool) (es : Entries) → Keys P es → Keys P (filter test es)
all-filter P test [] h = tt
all-filter P test (e ∷ es) h = step (test e) (all-filter P test es h.1) where
  step : (b : Bool) → Keys P (filter test es) → Keys P (cond b (e ∷ filter test es) (filter test es))
  step true r = (h.0, r)
  step false r = r

filtered_first : (b : Bool) (e : List ℕ × Value) (rest : Entries) → AreAscending rest → Keys (λ y. compared e.0 y ≡ Less) rest → AreAscending (cond b (e ∷ rest) rest)
unfolding IsStrictlySortedBy
filtered_first true e rest r a = (a, r)
filtered_first false e rest r a = r

pub ascending-filter : (test : List ℕ × Value → Bool) (es : Entries) → AreAscending es → AreAscending (filter test es)
unfolding IsStrictlySortedBy
ascending-filter test [] h = tt
ascending-filter test (e ∷ es) h =
    filtered_first (test e) e (filter test es) (ascending-filter test es h.1)
    (all-filter (λ y. compared e.0 y ≡ Less) test es h.0)
