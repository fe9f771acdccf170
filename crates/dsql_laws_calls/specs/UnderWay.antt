-- An answer that is under way, and the call or the transaction whose connection it uses.
use Rattle.std.specs.Prelude.{◌≡◌, ◌≢◌, true, false, List, Some}
use Rattle.dsql_laws.specs.journal.declared.entry.Entry.{Entry}
use Rattle.dsql_laws.specs.journal.declared.entry.Owner.{Owner}
use Rattle.dsql_laws.specs.journal.Kinds.{is_house, number_of}
use Rattle.dsql_laws.specs.pool.declared.conn.Place.TheVariants.{Lent}
use Rattle.dsql_laws.specs.history.declared.event.Event.{Event}
use Rattle.dsql_laws.specs.history.Readers.Calls.{site}
use Rattle.dsql_laws.specs.history.Readers.Pool.{place}
use Rattle.dsql_laws.specs.history.Readers.Unfinished.{is_unfinished}
use Rattle.dsql_laws.specs.history.Readers.Works.{borrower}

-- Holds if the entry's connection is lent in the entry's tenure to an owner other than the layer. If the entry
-- isn't the layer's, its call is unfinished and uses that connection.
pub record StaysWithItsCall (history : List Event) (e : Entry) : Type 0 where
  pub owner : Owner
  pub lent : place history e.conn ≡ Some (Lent e.tenure owner)
  pub not_house : is_house owner ≡ false
  pub used : e.call_no ≢ 0 → borrower history e.call_no ≡ number_of owner
  pub site : e.call_no ≢ 0 → site history e.call_no ≡ e.conn
  pub unfinished : e.call_no ≢ 0 → is_unfinished history e.call_no ≡ true
