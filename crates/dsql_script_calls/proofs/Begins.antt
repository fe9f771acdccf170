-- A begin with fewer words than it needs is refused.
use Rattle.std.proofs.Common.{◌≡◌, ℕ, ◌<◌, List, [], ◌∷◌, length, Option, Err, refl, arith, Bor}
use Rattle.dsql_script_forms.specs.declared.fault.LineFault.TheVariants.{BadShape}
use Rattle.dsql_script_calls.proofs.LineWords.{texts}
use Rattle.dsql_script_calls.specs.ScriptBegins.{begin_of}

pub begin_of_fewer : (words : List (Bor (List ℕ))) (array : Option (List ℕ)) → length words < 2 → begin_of (texts words) array ≡ Err BadShape
begin_of_fewer [] array few = refl
begin_of_fewer (label ∷ []) array few = refl
begin_of_fewer (label ∷ target ∷ options) array few = absurd (omega arith)
