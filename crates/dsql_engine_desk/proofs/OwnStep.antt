-- A call is in its own step exactly if it is the call that `own_step` returns.
use Rattle.std.proofs.Common.{◌≡◌, ◌≢◌, ◌==◌, ℕ, Bool, true, false, cond, List, [], ◌∷◌, refl, sym}
use Rattle.dsql_laws_calls.specs.journal.Readers.{is_empty}
use Rattle.dsql_laws_calls.proofs.laws.Tests.{other_number}
use Rattle.dsql_laws_calls.specs.pool.declared.moves.Move.TheVariants.{Lend}
use Rattle.dsql_laws_calls.specs.history.declared.event.Event.{Event}
use Rattle.dsql_laws_calls.specs.history.declared.event.Event.TheVariants.{Entered, Heard, Pool}
use Rattle.dsql_laws_calls.specs.history.Readers.Owed.{owed}
use Rattle.dsql_laws_calls.specs.history.Rules.Stands.{is_own_step}
use Rattle.dsql_engine_desk.specs.Step.{own_step}

not_the_layer : (n : ℕ) → n ≢ 0 → false ≡ (0 == n)
not_the_layer n some = sym (other_number 0 n (λ none. some (sym none)))

same_either : (b : Bool) (m n : ℕ) (own : Bool) → own ≡ (m == n) → own ≡ (cond b m m == n)
same_either true m n own is = is
same_either false m n own is = is

lent_or : (b : Bool) (m k n : ℕ) (own : Bool) → own ≡ (k == n) → cond b (m == n) own ≡ (cond b m k == n)
lent_or true m k n own is = refl
lent_or false m k n own is = is

pub own_step_is : (H : List Event) (n : ℕ) → n ≢ 0 → is_own_step H n ≡ (own_step H == n)
own_step_is [] n some = not_the_layer n some
own_step_is (Entered client m op ∷ H) n some = refl
own_step_is (Heard e ∷ H) n some = refl
own_step_is (Pool (Lend c t own m) ∷ H) n some = lent_or (is_empty (owed H)) m (own_step H) n (is_own_step H n) (own_step_is H n some)
own_step_is (Pool move ∷ H) n some = same_either (is_empty (owed H)) (own_step H) n (is_own_step H n) (own_step_is H n some)
own_step_is (_ ∷ H) n some = not_the_layer n some
