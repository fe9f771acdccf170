-- Proves which numbers a list has without one of them.
use Rattle.std.proofs.Common.{◌≡◌, ℕ, not, ◌&&◌, ◌||◌, ◌==◌, List, [], ◌∷◌, arith}
use Rattle.std.proofs.lemmas.Bool.Decides.{nat_tests}
use Rattle.dsql_laws.specs.journal.Readers.{has}
use Rattle.dsql_laws.specs.pool.Pooled.{without}

pub has-without : (x y : ℕ) (xs : List ℕ) → has x (without y xs) ≡ (not (x == y) && has x xs)
has-without x y [] = grind (arith, nat_tests)
has-without x y (z ∷ xs) = grind (arith, nat_tests, has-without x y xs)
