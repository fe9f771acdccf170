-- The unfinished call of a client.
use Rattle.std.proofs.Common.{◌≡◌, ℕ, ◌==◌, Bool, true, false, ◌||◌, cond, List, [], ◌∷◌, Some, ap}
use Rattle.std.proofs.lemmas.Bool.{or_right}
use Rattle.std.specs.Prelude.{find}
use Rattle.std.specs.List.{list_any}
use Rattle.dsql_engine_hearing.specs.journal.Readers.{has}
use Rattle.dsql_engine_hearing.specs.history.declared.event.Event.{Event}
use Rattle.dsql_engine_hearing.specs.history.Readers.Calls.{is_busy}
use Rattle.dsql_engine_hearing.specs.history.Readers.Clients.{call_of, client_of}
use Rattle.dsql_engine_hearing.specs.history.Readers.Pool.{or_none}
use Rattle.dsql_engine_hearing.specs.history.Readers.Unfinished.{is_unfinished, unfinished}
use Rattle.dsql_engine_hearing.proofs.laws.Tests.{same_itself}

found_in : (q : ℕ → Bool) (xs : List ℕ) → list_any q xs ≡ true → has (or_none (find q xs)) xs ≡ true
found_in q [] h = absurd cc
found_in q (x ∷ xs) h = by (found_in q xs) (q x) h
  where
    by : (list_any q xs ≡ true → has (or_none (find q xs)) xs ≡ true) → (b : Bool) → (b || list_any q xs) ≡ true → has (or_none (cond b (Some x) (find q xs))) (x ∷ xs) ≡ true
    by rest true k = ap (λ b. b || has x xs) (same_itself x)
    by rest false k = or_right (x == or_none (find q xs)) (has (or_none (find q xs)) xs) (rest k)

-- The call of a busy client has no reply.
pub busy_unfinished : (H : List Event) (client : ℕ) → is_busy client H ≡ true → is_unfinished H (call_of H client) ≡ true
busy_unfinished H client busy = found_in (λ n. client_of H n == client) (unfinished H) busy
