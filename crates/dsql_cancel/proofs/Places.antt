-- What stands at the place that a search finds, and what an edit there makes of the list. The proofs go by
-- induction on the list.
use Rattle.std.proofs.Common.{◌≡◌, ℕ, zero, suc, ◌<◌, ◌≤◌, true, cond, List, [], ◌∷◌, map, length, get_or, set, Some, None, refl, sym, ap, ◌∙◌, arith}
use Rattle.std.specs.declared.cmp.Ordering.{Ordering}
use Rattle.std.specs.declared.cmp.Ordering.TheVariants.{Less, Equal, Greater}
use Rattle.std.specs.Ordering.{is_lt, is_eq, eq_by_cmp}
use Rattle.std.specs.Cmp.{IsTotalOrder}
use Rattle.std.specs.List.{insert, HoldsAt, AllWithin}
use Rattle.std.specs.FinMap.Entries.{below_all, is_sorted, find, put, by_order}
use Rattle.dsql_cancel.proofs.Order.{from_less, from_equal, from_greater, less_tied, first_below, rest_sorted, below_at, right}

module _ {K X : Type 0} {R : K → K → Ordering} (o : IsTotalOrder R) where
  -- A key below one that equals q is below q.
  above_first : (q : K) (e : K × X) (es : List (K × X)) (i : ℕ) → is_sorted R (e ∷ es) ≡ true → i < length es → HoldsAt (λ x. R x.0 q ≡ Equal) es i → R q e.0 ≡ Greater
  above_first q e es i s lt at = from_less o e.0 q (less_tied o e.0 (get_or es i e).0 q (below_at o e.0 es i e (first_below o e es s) lt) (at e))

  pub find_at : (q : K) (es : List (K × X)) (i : ℕ) → is_sorted R es ≡ true → i < length es → HoldsAt (λ x. R x.0 q ≡ Equal) es i → (d : K × X) → find R q es ≡ Some (get_or es i d).1
  find_at q [] i s lt at d = absurd (omega arith)
  find_at q (e ∷ es) zero s lt at d = ap (λ r. cond (is_eq r) (Some e.1) (find R q es)) (from_equal o e.0 q (at d))
  find_at q (e ∷ es) (suc i) s lt at d =
      ap (λ r. cond (is_eq r) (Some e.1) (find R q es)) (above_first q e es i s (omega arith) at)
      ∙ find_at q es i (rest_sorted o e es s) (omega arith) at d

  -- Returns the list with the value at a key changed.
  abbrev pub changed_at : (X → X) → K → List (K × X) → List (K × X)
  changed_at f q es = map (λ e. (e.0, cond (eq_by_cmp R q e.0) (f e.1) e.1)) es

  -- A key above q doesn't change.
  unchanged_above : (f : X → X) (q : K) (es : List (K × X)) (x : K) → R x q ≡ Equal → below_all R x es ≡ true → changed_at f q es ≡ es
  unchanged_above f q [] x t h = refl
  unchanged_above f q (e ∷ es) x t h =
      let lower : R x e.0 ≡ Less = below_at o x (e ∷ es) zero e h (omega arith) in
      let same : R q e.0 ≡ Less = sym (o.congr x q e.0 t) ∙ lower in
      ap (λ r. (e.0, cond (is_eq r) (f e.1) e.1) ∷ changed_at f q es) same
      ∙ ap (λ r. e ∷ r) (unchanged_above f q es x t (right (is_lt (R x e.0)) (below_all R x es) h))

  -- Writing at the place of a key changes that key alone.
  pub set_at : (f : X → X) (q : K) (es : List (K × X)) (i : ℕ) → is_sorted R es ≡ true → i < length es → HoldsAt (λ x. R x.0 q ≡ Equal) es i → (d : K × X) → set es i ((get_or es i d).0, f (get_or es i d).1) ≡ changed_at f q es
  set_at f q [] i s lt at d = absurd (omega arith)
  set_at f q (e ∷ es) zero s lt at d =
      ap (λ r. (e.0, f e.1) ∷ r) (sym (unchanged_above f q es e.0 (at d) (first_below o e es s)))
      ∙ ap (λ r. (e.0, cond (is_eq r) (f e.1) e.1) ∷ changed_at f q es) (sym (from_equal o e.0 q (at d)))
  set_at f q (e ∷ es) (suc i) s lt at d =
      ap (λ r. e ∷ r) (set_at f q es i (rest_sorted o e es s) (omega arith) at d)
      ∙ ap (λ r. (e.0, cond (is_eq r) (f e.1) e.1) ∷ changed_at f q es) (sym (above_first q e es i s (omega arith) at))

  -- A key with a gap isn't found.
  pub find_gap : (q : K) (es : List (K × X)) (i : ℕ) → AllWithin (λ x. R x.0 q ≡ Less) es 0 i → AllWithin (λ x. R x.0 q ≡ Greater) es i (length es) → find R q es ≡ None
  find_gap q [] i lows highs = refl
  find_gap q (e ∷ es) zero lows highs =
      ap (λ r. cond (is_eq r) (Some e.1) (find R q es)) (from_greater o e.0 q (highs zero e (omega arith) (omega arith)))
      ∙ find_gap q es zero (λ k d low high. absurd (omega arith)) (λ k d low high. highs (suc k) d (omega arith) (omega arith))
  find_gap q (e ∷ es) (suc i) lows highs =
      ap (λ r. cond (is_eq r) (Some e.1) (find R q es)) (from_less o e.0 q (lows zero e (omega arith) (omega arith)))
      ∙ find_gap q es i (λ k d low high. lows (suc k) d (omega arith) (omega arith)) (λ k d low high. highs (suc k) d (omega arith) (omega arith))

  -- Inserting a key and its value in the key's gap puts them into the list.
  pub insert_gap : (q : K) (v : X) (es : List (K × X)) (i : ℕ) → i ≤ length es → AllWithin (λ x. R x.0 q ≡ Less) es 0 i → AllWithin (λ x. R x.0 q ≡ Greater) es i (length es) → insert es i (q, v) ≡ put R q v es
  insert_gap q v [] zero le lows highs = refl
  insert_gap q v [] (suc i) le lows highs = absurd (omega arith)
  insert_gap q v (e ∷ es) zero le lows highs =
      ap (λ r. by_order r ((q, v) ∷ e ∷ es) ((e.0, v) ∷ es) (e ∷ put R q v es)) (sym (from_greater o e.0 q (highs zero e (omega arith) (omega arith))))
  insert_gap q v (e ∷ es) (suc i) le lows highs =
      ap (λ r. e ∷ r) (insert_gap q v es i (omega arith) (λ k d low high. lows (suc k) d (omega arith) (omega arith)) (λ k d low high. highs (suc k) d (omega arith) (omega arith)))
      ∙ ap (λ r. by_order r ((q, v) ∷ e ∷ es) ((e.0, v) ∷ es) (e ∷ put R q v es)) (sym (from_less o e.0 q (lows zero e (omega arith) (omega arith))))
