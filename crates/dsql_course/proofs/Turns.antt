-- What the newest turn of a line says: the earlier turns are a line, its call was the one due, and its answer
-- fits.
use Rattle.std.proofs.Common.{◌≡◌, ℕ, true, ◌&&◌, List, ◌∷◌, map, refl, ap}
use Rattle.std.proofs.lemmas.Bool.{and_parts, eqb-true}
use Rattle.dsql_driver.specs.declared.caps.Caps.{Caps}
use Rattle.dsql_course.specs.declared.course.Course.{Course}
use Rattle.dsql_course.specs.declared.call.Due.{Due}
use Rattle.dsql_course.specs.declared.call.Due.TheVariants as call
use Rattle.dsql_course.specs.Line.{Turn, exchange, comes_next, may_get, same_call, is_line, IsLine}

pub same_call-sound : (a b : Due) → same_call a b ≡ true → a ≡ b
same_call-sound call.Text call.Text h = refl
same_call-sound call.Prepare call.Prepare h = refl
same_call-sound (call.Handle a) (call.Handle b) h = ap (λ (n : ℕ). call.Handle n) (eqb-true a b h)
same_call-sound (call.Next a) (call.Next b) h = ap (λ (n : ℕ). call.Next n) (eqb-true a b h)
same_call-sound (call.CloseRows a) (call.CloseRows b) h = ap (λ (n : ℕ). call.CloseRows n) (eqb-true a b h)
same_call-sound (call.CloseStmt a) (call.CloseStmt b) h = ap (λ (n : ℕ). call.CloseStmt n) (eqb-true a b h)
same_call-sound call.Ping call.Ping h = refl
same_call-sound call.Begin call.Begin h = refl
same_call-sound call.Rollback call.Rollback h = refl
same_call-sound call.Over call.Over h = refl
same_call-sound _ _ h = cc

pub record Newest (c : Course) (can : Caps) (args : ℕ) (turn : Turn) (earlier : List Turn) : Type 0 where
  pub line : IsLine c can args earlier
  pub next : turn.call ≡ comes_next c can args turn.found (map exchange earlier)
  pub answers : may_get c turn.call turn.answer ≡ true

pub newest : (c : Course) (can : Caps) (args : ℕ) (turn : Turn) (earlier : List Turn) → IsLine c can args (turn ∷ earlier) → Newest c can args turn earlier
newest c can args turn earlier h =
    let next = comes_next c can args turn.found (map exchange earlier) in
    let both = and_parts (is_line c can args earlier && same_call turn.call next) (may_get c turn.call turn.answer) h in
    let first = and_parts (is_line c can args earlier) (same_call turn.call next) both.0 in
    record { line = first.0; next = same_call-sound turn.call next first.1; answers = both.1 }
