-- Proves that a result that fails with an error is that error, which `?` passes on. The argument looks at the
-- two kinds of results.
use Rattle.std.proofs.Common.{◌≡◌, ap}
use Rattle.std.specs.Prelude.{Result, Ok, Err, IsErrAnd}

pub err_is : {T E : Type 0} (r : Result T E) (e : E) → IsErrAnd r (λ y. y ≡ e) → r ≡ Err e
err_is (Ok x) e h = absurd h
err_is (Err y) e h = ap Err h
