-- Defines when a connection may leave its call or its transaction.
use Rattle.std.specs.Prelude.{ℕ, ◌≡◌, true, false, List, [], Some}
use Rattle.dsql_history.specs.journal.declared.entry.Owner.{Owner}
use Rattle.dsql_history.specs.journal.Kinds.{is_house, number_of}
use Rattle.dsql_history.specs.journal.Tenure.{is_whole_tenure}
use Rattle.dsql_history.specs.pool.declared.conn.Place.TheVariants.{Lent}
use Rattle.dsql_history.specs.declared.event.Event.{Event}
use Rattle.dsql_history.specs.Readers.Journals.{journal}
use Rattle.dsql_history.specs.Readers.Owed.{owed}
use Rattle.dsql_history.specs.Readers.Pool.{place}
use Rattle.dsql_history.specs.Rules.Causes.{goes_in_turn}
use Rattle.dsql_history.specs.Rules.Line.{is_used}

-- Holds if nothing is owed, connection c is lent to a call or a transaction and isn't in use, and its tenure is
-- whole. If a call rests with it, all else is settled.
pub record MayLeave (history : List Event) (c : ℕ) : Type 0 where
  pub owing : owed history ≡ []
  pub tenure : ℕ
  pub owner : Owner
  pub lent : place history c ≡ Some (Lent tenure owner)
  pub owned : is_house owner ≡ false
  pub turn : goes_in_turn history (place history c) ≡ true
  pub unused : is_used history (number_of owner) ≡ false
  pub whole : is_whole_tenure tenure (journal history c) ≡ true
