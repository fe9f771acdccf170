-- A call that keeps the connection that it uses.
use Rattle.std.specs.Prelude.{◌≡◌, ℕ, false, List, Some}
use Rattle.dsql_laws.specs.journal.declared.entry.Owner.{Owner}
use Rattle.dsql_laws.specs.journal.Kinds.{is_house, number_of}
use Rattle.dsql_laws.specs.pool.declared.conn.Place.TheVariants.{Lent}
use Rattle.dsql_laws.specs.history.declared.event.Event.{Event}
use Rattle.dsql_laws.specs.history.Readers.Calls.{site}
use Rattle.dsql_laws.specs.history.Readers.Pool.{place}
use Rattle.dsql_laws.specs.history.Readers.Works.{borrower}

-- Holds if the connection that call n uses is lent to its borrower: to call n itself, or to the transaction in
-- which it works.
pub record KeepsItsConnection (history : List Event) (n : ℕ) : Type 0 where
  pub tenure : ℕ
  pub owner : Owner
  pub not_house : is_house owner ≡ false
  pub borrowed : number_of owner ≡ borrower history n
  pub lent : place history (site history n) ≡ Some (Lent tenure owner)
