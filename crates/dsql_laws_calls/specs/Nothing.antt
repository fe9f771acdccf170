-- A call that has nothing, and a call that works on another call's connection.
use Rattle.std.specs.Prelude.{◌≡◌, ℕ, Bool, true, false, not, List, None}
use Rattle.dsql_laws.specs.pool.Calls.{wants}
use Rattle.dsql_laws.specs.history.Readers.Pool.{smallest, is_home, pool}
use Rattle.dsql_laws.specs.history.declared.event.Event.{Event}
use Rattle.dsql_laws.specs.history.declared.work.Work.{Work}
use Rattle.dsql_laws.specs.history.declared.work.Work.TheVariants.{Fetch, End}
use Rattle.dsql_laws.specs.history.Readers.HandedOut.{rows_by}
use Rattle.dsql_laws.specs.history.Readers.Works.{asks_in, scope}

-- Holds if call n wants no connection, has none, and has made no rows.
pub record HasNothing (history : List Event) (n : ℕ) : Type 0 where
  pub unwanting : wants n (pool history) ≡ false
  pub homeless : smallest (is_home n) (pool history) ≡ None
  pub rowless : rows_by history n ≡ None

-- Is true if the call fetches a row, ends a transaction, or carries its statement out in a transaction.
abbrev pub is_elsewhere : Work → Bool
is_elsewhere (Fetch k) = true
is_elsewhere (End k) = true
is_elsewhere it = not (asks_in (scope it))
