-- Splits a proof by whether two call numbers are the same.
use Rattle.std.proofs.Common.{◌≡◌, ℕ, ◌==◌, true, false, refl}
use Rattle.dsql_laws.proofs.Tests.{same_number}

-- What follows from the sameness of two numbers, and also from their difference, holds.
pub by_call : (k n : ℕ) (P : Type 0) → ((k ≡ n) → P) → ((k == n) ≡ false → P) → P
by_call k n P same other = elim (k == n) as (λ b. (k == n) ≡ b → P) [ true ↦ λ is. same (same_number k n is) | false ↦ λ is. other is ] refl
