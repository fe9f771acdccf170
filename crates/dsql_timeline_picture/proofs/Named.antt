-- What stands in a part of a line, if the line has that part.
use Rattle.std.proofs.Common.{◌≡◌, ℕ, List, [], Option, Some, None, Bor, refl, sym, ap, ◌∙◌, option_map, unwrap_or}

pub now_of : (part : Option (Bor (List ℕ))) (other result : Bor (List ℕ)) (found : Option (List ℕ)) → result ≡ unwrap_or part other → option_map (λ (x : Bor (List ℕ)). x.now) part ≡ found → other.now ≡ []
    → result.now ≡ unwrap_or found []
now_of None other result found is same empty = ap (λ (x : Bor (List ℕ)). x.now) is ∙ (empty ∙ rw (← same) refl)
now_of (Some x) other result found is same empty = ap (λ (y : Bor (List ℕ)). y.now) is ∙ rw (← same) refl
