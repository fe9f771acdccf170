-- Proves that a run that has ended stays so, and that each call that enters has a number.
use Rattle.std.proofs.Common.{◌≡◌, ◌≢◌, ℕ, ◌==◌, true, not, ◌&&◌, List, ◌∷◌, length, refl, arith}
use Rattle.dsql_laws_calls.proofs.laws.Tests.{both, same_number}
use Rattle.dsql_laws_calls.specs.history.declared.event.Event.{Event}
use Rattle.dsql_laws_calls.specs.history.declared.event.Event.TheVariants.{Entered, Ended}
use Rattle.dsql_laws_calls.specs.history.declared.event.Op.{Op}
use Rattle.dsql_laws_calls.specs.history.Readers.Calls.{calls, next_call, is_busy}
use Rattle.dsql_laws_calls.specs.history.Readers.Labels.{names_fit}
use Rattle.dsql_laws_calls.specs.history.Readers.Course.{has_ended}
use Rattle.dsql_laws_calls.specs.history.Legal.{Allowed}
use Rattle.dsql_laws_calls.proofs.laws.Numbered.{some_calls}

pub ended_still : (H : List Event) (e : Event) → has_ended H ≡ true → has_ended (e ∷ H) ≡ true
ended_still H Ended h = refl
ended_still H _ h = h

pub entered_number : (H : List Event) (client n : ℕ) (op : Op) → Allowed H (Entered client n op) → n ≢ 0
unfolding Allowed
entered_number H client n op a =
    let b = both (n == next_call H) (not (is_busy client H) && names_fit H op) a.numbers in
    let number : n ≡ length (calls H) = same_number n (next_call H) b.0 in
    let so_many = some_calls H in
    λ none. omega (arith, number, so_many, none)
