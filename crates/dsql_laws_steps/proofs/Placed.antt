-- Which of the passed events is the oldest, and which are later.
use Rattle.std.proofs.Common.{◌≡◌, Bool, true, false, not, ◌||◌, List, [], ◌∷◌, ◌++◌, Option, Some, None, refl, ap, ◌∙◌}
use Rattle.std.specs.List.{list_all}
use Rattle.dsql_laws.proofs.Truths.{or_first, or_second}
use Rattle.dsql_laws.proofs.Tests.{both, together}
use Rattle.dsql_follows.specs.Moments.{Passed}
use Rattle.dsql_follows.specs.Sentences.{oldest, later}

-- An event after other events isn't the oldest.
pub later_behind : (newer : List Passed) (p : Passed) (older : List Passed) → later (newer ++ p ∷ older) ≡ newer ++ later (p ∷ older)
later_behind [] p older = refl
later_behind (x ∷ []) p older = refl
later_behind (x ∷ z ∷ zs) p older = ap (λ ps. x ∷ ps) (later_behind (z ∷ zs) p older)

pub oldest_behind : (newer : List Passed) (p : Passed) (older : List Passed) → oldest (newer ++ p ∷ older) ≡ oldest (p ∷ older)
oldest_behind [] p older = refl
oldest_behind (x ∷ []) p older = refl
oldest_behind (x ∷ z ∷ zs) p older = oldest_behind (z ∷ zs) p older

is_of : (Passed → Bool) → Option Passed → Bool
is_of f None = false
is_of f (Some p) = f p

-- A condition on each event that begins a step holds if no event begins one.
pub none_begins : (f : Passed → Bool) (ps : List Passed) → list_all (λ p. not p.begins) ps ≡ true → list_all (λ p. not p.begins || f p) ps ≡ true
none_begins f [] none = refl
none_begins f (p ∷ ps) none =
    let a = both (not p.begins) (list_all (λ it. not it.begins) ps) none in
    together (not p.begins || f p) _ (or_first (not p.begins) (f p) a.0) (none_begins f ps a.1)

-- For the events of one step the condition holds if it holds of the first event.
pub one_begins : (f : Passed → Bool) (ps : List Passed) (first : Passed) → list_all (λ p. not p.begins) (later ps) ≡ true → oldest ps ≡ Some first → f first ≡ true
    → list_all (λ p. not p.begins || f p) ps ≡ true
unfolding is_of
one_begins f [] first none o is = refl
one_begins f (p ∷ []) first none o is = together (not p.begins || f p) true (or_second (not p.begins) (f p) (ap (is_of f) o ∙ is)) refl
one_begins f (p ∷ q ∷ ps) first none o is =
    let a = both (not p.begins) (list_all (λ it. not it.begins) (later (q ∷ ps))) none in
    together (not p.begins || f p) _ (or_first (not p.begins) (f p) a.0) (one_begins f (q ∷ ps) first a.1 o is)
