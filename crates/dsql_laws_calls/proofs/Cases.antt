-- Proves facts about truth values, and that no setting changes the connections or how many were opened.
use Rattle.std.proofs.Common.{◌≡◌, Bool, true, false, refl}
use Rattle.dsql_laws.specs.pool.Pooled.{Pooled}
use Rattle.dsql_laws.specs.history.declared.event.Control.{Control}
use Rattle.dsql_laws.specs.history.declared.event.Setting.TheVariants.{MaxOpen}
use Rattle.dsql_laws.specs.history.declared.event.Control.TheVariants.{Set}
use Rattle.dsql_laws.specs.history.Readers.Pool.{with_control}

pub true_false : (b : Bool) → b ≡ true → b ≡ false → ⊥
true_false b h k = cc

pub is_false : (b : Bool) → (b ≡ true → ⊥) → b ≡ false
is_false true h = absurd (h refl)
is_false false h = refl

pub control_conns : (control : Control) (p : Pooled) → (with_control control p).conns ≡ p.conns
control_conns (Set MaxOpen k) p = refl
control_conns _ p = refl

pub control_opened : (control : Control) (p : Pooled) → (with_control control p).opened ≡ p.opened
control_opened (Set MaxOpen k) p = refl
control_opened _ p = refl
