-- A call that gets a connection, or on which a refusal falls, had another try.
use Rattle.std.proofs.Common.{◌≡◌, ◌≢◌, ℕ, ◌<◌, ◌⊎◌, inl, inr, true, List, [], ◌∷◌, length, arith}
use Rattle.std.specs.Prelude.{nat_lt}
use Rattle.std.proofs.lemmas.Bool.Decides.{nat_tests}
use Rattle.dsql_laws_calls.specs.journal.declared.entry.Owner.{Owner}
use Rattle.dsql_laws_calls.specs.pool.declared.moves.Move.TheVariants.{Lend, Fell}
use Rattle.dsql_laws_calls.specs.pool.Calls.{wants}
use Rattle.dsql_laws_calls.specs.history.declared.event.Event.{Event}
use Rattle.dsql_laws_calls.specs.history.declared.event.Event.TheVariants.{Pool}
use Rattle.dsql_laws_calls.specs.history.declared.record.Try.{Try}
use Rattle.dsql_laws_calls.specs.history.Readers.Pool.{pool}
use Rattle.dsql_laws_calls.specs.history.Readers.Tries.{has_a_try, came_to_nothing, most_tries, tries}
use Rattle.dsql_laws_calls.specs.history.Rules.Asking.{may_ask}
use Rattle.dsql_laws_calls.specs.history.Legal.{Allowed, Lawful}
use Rattle.dsql_laws_calls.proofs.laws.Asker.{asker}
use Rattle.dsql_laws_calls.proofs.laws.Tests.{both}
use Rattle.dsql_laws_calls.proofs.Idle.{lends_from}
use Rattle.dsql_laws_calls.proofs.Untried.{fallen_wanted, wanting_has_try, wants_has_try}

few_of : (ts : List Try) → has_a_try ts ≡ true → length ts < most_tries
few_of [] left = omega arith
few_of (t ∷ ts) left =
    let a = both (came_to_nothing t) (nat_lt (length (t ∷ ts)) most_tries) left in
    let less : nat_lt (length (t ∷ ts)) most_tries ≡ true = a.1 in
    grind (arith, nat_tests, less)

pub few_lent : (H : List Event) (c t : ℕ) (o : Owner) (n : ℕ) → Lawful H → Allowed H (Pool (Lend c t o n)) → n ≢ 0 → length (tries H n) < most_tries
few_lent H c t o n l a some = few_of (tries H n) (by (lends_from H c t o n l a))
  where
    by : (may_ask H n ≡ true) ⊎ (wants n (pool H) ≡ true) → has_a_try (tries H n) ≡ true
    by (inl may) = (asker H n may).try_left
    by (inr waits) = wants_has_try H n l some waits

pub few_fallen : (H : List Event) (c n : ℕ) → Lawful H → Allowed H (Pool (Fell c n)) → n ≢ 0 → length (tries H n) < most_tries
few_fallen H c n l a some = few_of (tries H n) (wanting_has_try H n l some (fallen_wanted H c n a some))
