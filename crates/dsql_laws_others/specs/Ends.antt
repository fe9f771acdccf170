-- Transactions that a call ends on entry.
use Rattle.std.specs.Prelude.{ℕ, Bool, true, false, ◌&&◌, List, ◌∷◌}
use Rattle.dsql_laws_calls.specs.tx.declared.end.TxEnd.{TxEnd}
use Rattle.dsql_laws_calls.specs.tx.declared.end.TxEnd.TheVariants as ends
use Rattle.dsql_laws_calls.specs.history.declared.event.Event.{Event}
use Rattle.dsql_laws_calls.specs.history.declared.event.Op.{Op}
use Rattle.dsql_laws_calls.specs.history.declared.event.Op.TheVariants.{Commit, Rollback}
use Rattle.dsql_laws_calls.specs.history.Readers.Transactions.{is_over, goes_on}

-- Is true if the operation ends a transaction.
abbrev pub ends_transaction : Op → Bool
ends_transaction (Commit tx) = true
ends_transaction (Rollback tx) = true
ends_transaction op = false

-- Returns how the operation ends its transaction.
abbrev pub end_by : Op → TxEnd
end_by (Commit tx) = ends.Commit
end_by op = ends.Rollback

-- Is true if this event ends transaction k.
abbrev pub ends_now : List Event → Event → ℕ → Bool
ends_now before e k = goes_on before k && is_over (e ∷ before) k
