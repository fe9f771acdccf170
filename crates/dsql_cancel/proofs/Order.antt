-- Lists of entries whose keys rise in a total order, and how their keys compare.
use Rattle.std.proofs.Common.{◌≡◌, ℕ, zero, suc, ◌<◌, Bool, true, false, ◌&&◌, List, [], ◌∷◌, length, get_or, refl, sym, ap, ◌∙◌, arith, add-one}
use Rattle.std.specs.declared.cmp.Ordering.{Ordering}
use Rattle.std.specs.declared.cmp.Ordering.TheVariants.{Less, Equal, Greater}
use Rattle.std.specs.Ordering.{is_lt, ordering_reverse, ordering_index}
use Rattle.std.specs.Cmp.{IsTotalOrder, alike_right}
use Rattle.std.specs.FinMap.Entries.{below_all, is_sorted}
use Rattle.std.specs.List.Sorted.{IsNonDecreasingBy}
use Rattle.std.proofs.lemmas.List.Sorted.{searchable_from_sorted}

pub left : (a b : Bool) → (a && b) ≡ true → a ≡ true
left true b h = refl
left false b h = h

pub right : (a b : Bool) → (a && b) ≡ true → b ≡ true
right true b h = h
right false b h = cc

less : (r : Ordering) → is_lt r ≡ true → r ≡ Less
less Less h = refl
less _ h = cc

module _ {K : Type 0} {R : K → K → Ordering} (o : IsTotalOrder R) where
  pub from_less : (x y : K) → R x y ≡ Less → R y x ≡ Greater
  from_less x y e = o.antisymm y x ∙ ap ordering_reverse e

  pub from_equal : (x y : K) → R x y ≡ Equal → R y x ≡ Equal
  from_equal x y e = o.antisymm y x ∙ ap ordering_reverse e

  pub from_greater : (x y : K) → R x y ≡ Greater → R y x ≡ Less
  from_greater x y e = o.antisymm y x ∙ ap ordering_reverse e

  -- A key below one of two equal keys is below the other.
  pub less_tied : (x y z : K) → R x y ≡ Less → R y z ≡ Equal → R x z ≡ Less
  less_tied x y z p e = sym (alike_right o y z x e) ∙ p

module _ {K X : Type 0} {R : K → K → Ordering} (o : IsTotalOrder R) where
  pub first_below : (e : K × X) (es : List (K × X)) → is_sorted R (e ∷ es) ≡ true → below_all R e.0 es ≡ true
  first_below e es h = left (below_all R e.0 es) (is_sorted R es) h

  pub rest_sorted : (e : K × X) (es : List (K × X)) → is_sorted R (e ∷ es) ≡ true → is_sorted R es ≡ true
  rest_sorted e es h = right (below_all R e.0 es) (is_sorted R es) h

  pub below_at : (x : K) (es : List (K × X)) (i : ℕ) (d : K × X) → below_all R x es ≡ true → i < length es → R x (get_or es i d).0 ≡ Less
  below_at x [] i d h lt = absurd (omega arith)
  below_at x (e ∷ es) zero d h lt = less (R x e.0) (left (is_lt (R x e.0)) (below_all R x es) h)
  below_at x (e ∷ es) (suc i) d h lt = below_at x es i d (right (is_lt (R x e.0)) (below_all R x es) h) (omega arith)

  adjacent : (es : List (K × X)) (i : ℕ) (d : K × X) → is_sorted R es ≡ true → suc i < length es → is_lt (R (get_or es (suc i) d).0 (get_or es i d).0) ≡ false
  adjacent [] i d h lt = absurd (omega arith)
  adjacent (e ∷ es) zero d h lt = ap is_lt (from_less o e.0 (get_or es zero d).0 (below_at e.0 es zero d (first_below e es h) (omega arith)))
  adjacent (e ∷ es) (suc i) d h lt = adjacent es i d (rest_sorted e es h) (omega arith)

  -- The comparisons with a key rise along the list, as a binary search requires.
  pub comparisons_rise : (es : List (K × X)) (q : K) → is_sorted R es ≡ true → IsNonDecreasingBy (λ (e : K × X). ordering_index (R e.0 q)) es
  comparisons_rise es q h = searchable_from_sorted o (λ e. e.0) es q (λ k d low high. rw add-one (adjacent es k d h (omega arith)))
