-- Defines what contracts see of connections and driver calls that are under way.
use Rattle.std.specs.Prelude.{Bool, true, false, Option, Some, ℕ, List}
use Rattle.dsql_laws.specs.pool.declared.conn.Place.{Place}
use Rattle.dsql_laws.specs.pool.declared.conn.Place.TheVariants.{Opening, Closing}
use Rattle.dsql_laws.specs.history.declared.record.Flight.{Flight}

-- Is true if the connection in this place is being opened or closed.
abbrev pub is_under_way : Option Place → Bool
is_under_way (Some (Opening wanted)) = true
is_under_way (Some Closing) = true
is_under_way _ = false

-- The driver calls that are under way, oldest first, and the number of further ones for which there is memory.
pub record UnderWay : Type 0 where
  pub flights : List Flight
  pub spare : ℕ
