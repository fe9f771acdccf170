-- Proves that no unfinished call of a lawful history is call 0. The argument is that calls are numbered from 1.
use Rattle.std.proofs.Common.{◌≡◌, ◌≢◌, ℕ, ◌≤◌, ◌==◌, Bool, true, false, not, ◌&&◌, cond, List, [], ◌∷◌, length, length-set, refl, ◌∙◌, arith}
use Rattle.std.specs.List.{list_all}
use Rattle.std.proofs.lemmas.Bool.Decides.{nat_tests}
use Rattle.std.proofs.lemmas.List.Folds.{list_all-append}
use Rattle.std.proofs.lemmas.List.{length-append}
use Rattle.dsql_history.specs.journal.Readers.{has}
use Rattle.dsql_history.specs.pool.Pooled.{without}
use Rattle.dsql_history.specs.declared.event.Event.{Event}
use Rattle.dsql_history.specs.declared.event.Event.TheVariants.{Entered, Heard, Replied}
use Rattle.dsql_history.specs.declared.event.Op.{Op}
use Rattle.dsql_history.specs.Readers.Unfinished.{unfinished, is_unfinished}
use Rattle.dsql_history.specs.Readers.Calls.{calls, entering, next_call, is_busy}
use Rattle.dsql_history.specs.Readers.Labels.{names_fit}
use Rattle.dsql_history.specs.Legal.{Allowed, Lawful}
use Rattle.dsql_laws.proofs.Tests.{both, together, same_number}

pub some_calls : (H : List Event) → 1 ≤ length (calls H)
some_calls [] = omega arith
some_calls (Entered client n op ∷ H) = let more = length-append (calls H) (entering H client op ∷ []) in omega (arith, more)
some_calls (Heard e ∷ H) = let so_many = some_calls H in grind (arith, length-set, so_many)
some_calls (Replied n reply ∷ H) = let so_many = some_calls H in grind (arith, length-set, so_many)
some_calls (_ ∷ H) = some_calls H

abbrev from_one : ℕ → Bool
from_one n = not (n == 0)

abbrev all_from_one : List ℕ → Bool
all_from_one ns = list_all from_one ns

without_some : (n : ℕ) (ns : List ℕ) → all_from_one ns ≡ true → all_from_one (without n ns) ≡ true
without_some n [] h = refl
without_some n (m ∷ ns) h =
    let a = both (from_one m) (all_from_one ns) h in
    let rest = without_some n ns a.1 in
    elim (not (m == n)) as (λ b. all_from_one (cond b (m ∷ without n ns) (without n ns)) ≡ true) [
      | true ↦ together (from_one m) (all_from_one (without n ns)) a.0 rest
      | false ↦ rest
    ]

entered_number : (H : List Event) (client n : ℕ) (op : Op) → Allowed H (Entered client n op) → n ≡ next_call H
unfolding Allowed
entered_number H client n op a = let b = both (n == next_call H) (not (is_busy client H) && names_fit H op) a.numbers in same_number n (next_call H) b.0

numbered : (H : List Event) → Lawful H → all_from_one (unfinished H) ≡ true
numbered [] l = refl
numbered (Entered client n op ∷ H) l =
    let number = entered_number H client n op l.1 in
    let so_many = some_calls H in
    let above : from_one n ≡ true = grind (arith, nat_tests, number, so_many) in
    list_all-append from_one (unfinished H) (n ∷ []) ∙ together (all_from_one (unfinished H)) (all_from_one (n ∷ [])) (numbered H l.0) (together (from_one n) true above refl)
numbered (Replied n reply ∷ H) l = without_some n (unfinished H) (numbered H l.0)
numbered (_ ∷ H) l = numbered H l.0

not_zero : (n : ℕ) (ns : List ℕ) → all_from_one ns ≡ true → has n ns ≡ true → n ≢ 0
not_zero n [] h k = absurd cc
not_zero n (m ∷ ns) h k =
    let a = both (from_one m) (all_from_one ns) h in
    let rest = not_zero n ns a.1 in
    grind (arith, nat_tests, a, k, rest)

pub unfinished_from_one : (H : List Event) (n : ℕ) → Lawful H → is_unfinished H n ≡ true → n ≢ 0
unfinished_from_one H n l h = not_zero n (unfinished H) (numbered H l) h
