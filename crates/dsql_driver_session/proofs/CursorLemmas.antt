-- The cursors of a session after one of them gave its next row: the first with its number is advanced, and the
-- others stay.
use Rattle.std.proofs.Common.{◌≡◌, ℕ, zero, suc, ◌+◌, ◌<◌, ◌≤◌, List, [], ◌∷◌, length, get_or, Bool, true, false, cond, not, Some, None, eqb, ap, sym, refl, ◌∙◌, arith}
use Rattle.std.specs.List.{position, position_or_len}
use Rattle.std.proofs.Math.ListN.{set}
use Rattle.std.proofs.lemmas.Bool.{ltb-false, cond-true, cond-false}
use Rattle.std.proofs.lemmas.Option.{none-some}
use Rattle.std.proofs.lemmas.List.Quantifiers.{position-Some}
use Rattle.dsql_driver_session.specs.Rows.{CursorState, advanced, with_advanced}

-- Is true if the cursor has this number.
abbrev is_at : ℕ → CursorState → Bool
is_at rows c = eqb c.number rows

-- Holds if the number stands first at this place.
record StandsAt (rows : ℕ) (cs : List CursorState) (at : ℕ) (d : CursorState) : Type 0 where
  within : at < length cs
  here : is_at rows (get_or cs at d) ≡ true
  before : (k : ℕ) → k < at → is_at rows (get_or cs k d) ≡ false

at-place : (rows : ℕ) (cs : List CursorState) (at : ℕ) (d new : CursorState) → StandsAt rows cs at d → new ≡ advanced (get_or cs at d) → set cs at new ≡ with_advanced rows cs
at-place rows [] at d new h is = absurd (omega (arith, h.within))
at-place rows (c ∷ cs) zero d new h is =
    ap (λ x. x ∷ cs) is ∙ sym (cond-true (is_at rows c) (advanced c ∷ cs) (c ∷ with_advanced rows cs) h.here)
at-place rows (c ∷ cs) (suc at) d new h is =
    let rest : StandsAt rows cs at d = record { within = omega (arith, h.within); here = h.here; before = λ k below. h.before (suc k) (omega arith) } in
    ap (λ xs. c ∷ xs) (at-place rows cs at d new rest is)
    ∙ sym (cond-false (is_at rows c) (advanced c ∷ cs) (c ∷ with_advanced rows cs) (h.before 0 (omega arith)))

pub with_advanced-found : (rows : ℕ) (cs : List CursorState) (at : ℕ) (d new : CursorState) → position (λ (c : CursorState). eqb c.number rows) cs ≡ Some at → new ≡ advanced (get_or cs at d) → set cs at new ≡ with_advanced rows cs
with_advanced-found rows cs at d new found is =
    let h = position-Some (is_at rows) cs at d found in
    at-place rows cs at d new (record { within = h.0; here = h.1; before = h.2 }) is

past : (rows : ℕ) (cs : List CursorState) → length cs ≤ position_or_len (is_at rows) cs → with_advanced rows cs ≡ cs
past rows [] h = refl
past rows (c ∷ cs) h = step (is_at rows c) h (past rows cs) where
  step : (b : Bool) → suc (length cs) ≤ cond (not b) (1 + position_or_len (is_at rows) cs) 0 → (length cs ≤ position_or_len (is_at rows) cs → with_advanced rows cs ≡ cs) → cond b (advanced c ∷ cs) (c ∷ with_advanced rows cs) ≡ c ∷ cs
  step true h rest = absurd (omega arith)
  step false h rest = ap (λ xs. c ∷ xs) (rest (omega arith))

pub with_advanced-none : (rows : ℕ) (cs : List CursorState) → position (λ (c : CursorState). eqb c.number rows) cs ≡ None → with_advanced rows cs ≡ cs
with_advanced-none rows cs none = past rows cs (ltb-false _ _ (step _ _ none)) where
  step : (b : Bool) (at : ℕ) → cond b (Some at) None ≡ None → b ≡ false
  step true at h = absurd (none-some at (sym h))
  step false at h = refl
