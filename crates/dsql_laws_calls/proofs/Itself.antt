-- Bytes, numbers, truths, names and levels are like themselves.
use Rattle.std.proofs.Common.{◌≡◌, ℕ, Bool, true, false, List, [], ◌∷◌, Option, Some, None, refl, arith}
use Rattle.std.specs.Prelude.{bytes_eq, ℤ}
use Rattle.std.specs.Ordering.{int_eq}
use Rattle.std.proofs.lemmas.Grind.{common_steps}
use Rattle.dsql_laws.specs.driver.declared.call.Level.{Level}
use Rattle.dsql_laws.specs.driver.declared.call.Level.TheVariants as levels
use Rattle.dsql_laws.specs.works.Same.{same_name, same_truth}
use Rattle.dsql_laws.specs.history.Same.{same_level}
use Rattle.dsql_laws.proofs.Tests.{same_itself}

pub bytes_itself : (xs : List ℕ) → bytes_eq xs xs ≡ true
bytes_itself [] = refl
bytes_itself (x ∷ xs) = rw (same_itself x) (bytes_itself xs)

pub int_itself : (z : ℤ) → int_eq z z ≡ true
int_itself z = grind (arith, common_steps)

pub truth_itself : (b : Bool) → same_truth b b ≡ true
truth_itself true = refl
truth_itself false = refl

pub name_itself : (name : Option (List ℕ)) → same_name name name ≡ true
name_itself None = refl
name_itself (Some name) = bytes_itself name

pub level_itself : (level : Level) → same_level level level ≡ true
level_itself levels.Default = refl
level_itself _ = refl
