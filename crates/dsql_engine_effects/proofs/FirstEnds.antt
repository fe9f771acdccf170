-- Things that a call ends once: what is over stays over, and nobody has ended what isn't over. The argument
-- compares a thing before each event and after it.
use Rattle.std.proofs.Common.{◌≡◌, ◌≢◌, ℕ, ◌⊎◌, inl, inr, Bool, true, false, cond, eqb, List, [], ◌∷◌, ◌++◌, Option, Some, None, refl, sym, ap, subst, ◌∙◌, arith, eqb-true}
use Rattle.std.specs.Prelude.{option_map}
use Rattle.std.proofs.lemmas.Bool.Decides.{nat_tests}
use Rattle.dsql_history.specs.numbered.Numbered.{Numbered, thing_of, changed}
use Rattle.dsql_history.proofs.numbered.Numbers.{changes_one_number}
use Rattle.dsql_history.specs.declared.event.Event.{Event}
use Rattle.dsql_engine_effects.proofs.MadeOnce.{each}

-- A property of two numbers holds if it holds for equal numbers and for different ones.
pub by_number : (k n : ℕ) (P : Type 0) → (n ≡ k → P) → (n ≢ k → P) → P
by_number k n P same apart = by (same_or_not k n)
  where
    same_or_not : (k n : ℕ) → (n ≡ k) ⊎ (n ≢ k)
    same_or_not k n = grind (arith, nat_tests)

    by : (n ≡ k) ⊎ (n ≢ k) → P
    by (inl is) = same is
    by (inr other) = apart other

-- A thing that is found after each was changed by itself is the changed thing.
pub each_of : {X : Type 0} (change : ℕ → X → X) (n : ℕ) (things : Numbered X) → thing_of n (each change things) ≡ option_map (change n) (thing_of n things)
each_of change n [] = refl
each_of {X = X} change n (it ∷ later) =
    elim (eqb n it.0) as (λ b. eqb n it.0 ≡ b → cond b (Some (change it.0 it.1)) (thing_of n (each change later)) ≡ option_map (change n) (cond b (Some it.1) (thing_of n later))) [
      | true ↦ λ is. ap (λ (k : ℕ). Some (change k it.1)) (sym (eqb-true n it.0 is))
      | false ↦ λ other. each_of change n later
    ] refl

module _ {X : Type 0} (lives : Option X → Bool) where
  -- Holds of a thing before something and after it if what was made stays made, and what lives lived before or
  -- is new.
  abbrev pub Goes : Option X → Option X → Type 0
  Goes before after = (after ≡ None → before ≡ None) × (lives after ≡ true → (lives before ≡ true) ⊎ (before ≡ None))

  -- Holds if the change revives nothing.
  abbrev pub RevivesNone : (X → X) → Type 0
  RevivesNone change = (x : X) → lives (Some (change x)) ≡ true → lives (Some x) ≡ true

  pub stays : (o : Option X) → Goes o o
  stays o = (λ none. none, λ is. inl is)

  pub mapped : (change : X → X) → RevivesNone change → (o : Option X) → Goes o (option_map change o)
  mapped change dead None = (λ none. refl, λ is. inr refl)
  mapped change dead (Some x) = (λ none. absurd cc, λ is. inl (dead x is))

  pub changed_goes : (change : X → X) → RevivesNone change → (k n : ℕ) (things : Numbered X) → Goes (thing_of n things) (thing_of n (changed change k things))
  changed_goes change dead k n things =
      by_number k n (Goes (thing_of n things) (thing_of n (changed change k things)))
      (λ is. subst (λ (i : ℕ). Goes (thing_of i things) (thing_of i (changed change k things))) (sym is)
      (subst (λ (o : Option X). Goes (thing_of k things) o) (sym (changes_one_number.changes change k things)) (mapped change dead (thing_of k things))))
      (λ apart. subst (λ (o : Option X). Goes (thing_of n things) o) (sym (changes_one_number.others change k n things apart)) (stays (thing_of n things)))

  pub each_goes : (change : ℕ → X → X) → ((n : ℕ) → RevivesNone (change n)) → (n : ℕ) (things : Numbered X) → Goes (thing_of n things) (thing_of n (each change things))
  each_goes change dead n things = subst (λ (o : Option X). Goes (thing_of n things) o) (sym (each_of change n things)) (mapped (change n) (dead n) (thing_of n things))

  -- What is found is also found with more at the end.
  pub found_first : (n m : ℕ) (new : X) (things : Numbered X) → Goes (thing_of n things) (thing_of n (things ++ (m, new) ∷ []))
  found_first n m new [] = (λ none. refl, λ is. inr refl)
  found_first n m new (it ∷ later) =
      elim (eqb n it.0) as (λ b. Goes (cond b (Some it.1) (thing_of n later)) (cond b (Some it.1) (thing_of n (later ++ (m, new) ∷ [])))) [ true ↦ stays (Some it.1) | false ↦ found_first n m new later ]

  -- Says what is found of such things at each moment, whose event ends one, and who has ended it.
  pub record AreEnded (at : List Event → ℕ → Option X) (whose : Event → ℕ) (ender : List Event → ℕ → ℕ) : Type 0 where
    pub nothing : lives None ≡ false
    pub first : (n : ℕ) → ender [] n ≡ 0
    pub next : (H : List Event) (e : Event) (n : ℕ) → ender (e ∷ H) n ≡ cond (lives (at H n)) (cond (lives (at (e ∷ H) n)) 0 (whose e)) (ender H n)
    pub goes : (H : List Event) (e : Event) (n : ℕ) → Goes (at H n) (at (e ∷ H) n)

  module _ (at : List Event → ℕ → Option X) (whose : Event → ℕ) (ender : List Event → ℕ → ℕ) (are : AreEnded at whose ender) where
    ender_where : (H : List Event) (e : Event) (n : ℕ) (before after : Bool) → lives (at H n) ≡ before → lives (at (e ∷ H) n) ≡ after → ender (e ∷ H) n ≡ cond before (cond after 0 (whose e)) (ender H n)
    ender_where H e n before after was is =
        are.next H e n
        ∙ (ap (λ (b : Bool). cond b (cond (lives (at (e ∷ H) n)) 0 (whose e)) (ender H n)) was ∙ ap (λ (b : Bool). cond before (cond b 0 (whose e)) (ender H n)) is)

    -- Nobody has ended what wasn't made.
    unmade_unended : (H : List Event) (n : ℕ) → at H n ≡ None → ender H n ≡ 0
    unmade_unended [] n none = are.first n
    unmade_unended (e ∷ H) n none =
        let g = are.goes H e n in
        let before : at H n ≡ None = g.0 none in
        ender_where H e n false false (ap lives before ∙ are.nothing) (ap lives none ∙ are.nothing) ∙ unmade_unended H n before

    pub live_unended : (H : List Event) (n : ℕ) → lives (at H n) ≡ true → ender H n ≡ 0
    live_unended [] n is = are.first n
    live_unended (e ∷ H) n is = let g = are.goes H e n in by (g.1 is)
      where
        by : (lives (at H n) ≡ true) ⊎ (at H n ≡ None) → ender (e ∷ H) n ≡ 0
        by (inl lived) = ender_where H e n true true lived is
        by (inr none) = ender_where H e n false true (ap lives none ∙ are.nothing) is ∙ unmade_unended H n none

    -- If an event ends nothing that lived, the ender stays the same.
    pub ender_stays : (H : List Event) (e : Event) (n : ℕ) → (lives (at H n) ≡ true → lives (at (e ∷ H) n) ≡ true) → ender (e ∷ H) n ≡ ender H n
    ender_stays H e n on = by (lives (at H n)) refl
      where
        by : (b : Bool) → lives (at H n) ≡ b → ender (e ∷ H) n ≡ ender H n
        by true is = ender_where H e n true true is (on is) ∙ sym (live_unended H n is)
        by false is = ender_where H e n false (lives (at (e ∷ H) n)) is refl

    -- An event of no call changes no ender.
    pub ender_of_none : (H : List Event) (e : Event) (n : ℕ) → whose e ≡ 0 → ender (e ∷ H) n ≡ ender H n
    ender_of_none H e n none = by (lives (at H n)) refl (lives (at (e ∷ H) n)) refl
      where
        by : (b : Bool) → lives (at H n) ≡ b → (d : Bool) → lives (at (e ∷ H) n) ≡ d → ender (e ∷ H) n ≡ ender H n
        by true is true after = ender_where H e n true true is after ∙ sym (live_unended H n is)
        by true is false after = ender_where H e n true false is after ∙ (none ∙ sym (live_unended H n is))
        by false is d after = ender_where H e n false d is after

    -- What is kept of an ender stays right, whether or not the event ends the thing.
    pub ender_kept : (H : List Event) (e : Event) (m : ℕ) (ends : Bool) (was now : ℕ) → now ≡ cond ends (whose e) was → was ≡ ender H m → (ends ≡ true → (lives (at H m) ≡ true) × (lives (at (e ∷ H) m) ≡ false))
        → (ends ≡ false → lives (at H m) ≡ true → lives (at (e ∷ H) m) ≡ true) → now ≡ ender (e ∷ H) m
    ender_kept H e m true was now is had over keeps = let o = over refl in is ∙ sym (ender_where H e m true false o.0 o.1)
    ender_kept H e m false was now is had over keeps = is ∙ (had ∙ sym (ender_stays H e m (keeps refl)))
