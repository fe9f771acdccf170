-- No connection has the number 0, and none has the next number. The argument is that an open connection has a
-- number that was given.
use Rattle.std.proofs.Common.{◌≡◌, ℕ, ◌<◌, ◌≤◌, List, Option, Some, None, refl, arith}
use Rattle.dsql_laws_calls.specs.pool.declared.conn.Conn.{Conn}
use Rattle.dsql_laws_calls.specs.pool.Places.{conn_of}
use Rattle.dsql_laws_calls.specs.pool.Pooled.{next_number}
use Rattle.dsql_laws_calls.specs.history.declared.event.Event.{Event}
use Rattle.dsql_laws_calls.specs.history.Readers.Pool.{pool}
use Rattle.dsql_laws_callers.proofs.Tenures.{open_opened}

none_there : (H : List Event) (c : ℕ) → (0 < c → c ≤ (pool H).opened → ⊥) → conn_of c (pool H).conns ≡ None
none_there H c never = by (conn_of c (pool H).conns) refl
  where
    by : (o : Option Conn) → conn_of c (pool H).conns ≡ o → o ≡ None
    by None is = refl
    by (Some x) is = let given = open_opened H c x is in absurd (never given.0 given.1)

pub none_zero : (H : List Event) → conn_of 0 (pool H).conns ≡ None
none_zero H = none_there H 0 (λ some within. omega (arith, some))

pub none_next : (H : List Event) → conn_of (next_number (pool H)) (pool H).conns ≡ None
none_next H = none_there H (next_number (pool H)) (λ some within. omega (arith, within))
