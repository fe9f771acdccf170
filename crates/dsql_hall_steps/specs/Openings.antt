-- What the house carries out of the hall to open a connection, and what comes of it.
use Rattle.std.specs.Prelude.{◌≡◌, ◌<◌, Bool, true, List, [], Option}
use Rattle.dsql_engine_laws.specs.driver.Kinds.{is_connect}
use Rattle.dsql_engine_laws.specs.driver.Wires.{WireTold}
use Rattle.dsql_engine_laws.specs.journal.declared.entry.Entry.{Entry}
use Rattle.dsql_engine_laws.specs.history.Readers.Journals.{journal}
use Rattle.dsql_engine_laws.specs.wire.Journaled.{Journaled}
use Rattle.dsql_engine_laws.specs.wire.Opening.{opens}
use Rattle.dsql_player_wires.specs.Asked.{Answers}
use Rattle.dsql_player_wires.specs.Made.{Made, aside_on, no_aside}
use Rattle.dsql_player_wires.specs.WiresFit.{OpensWire, RecordsAside}
use Rattle.dsql_hall_bonds.specs.Work.{Work}
use Rattle.dsql_hall_steps.specs.Halls.{house}

-- Holds of the work of a connection that is to be opened. The permit may open it. Nothing was heard on it yet, and no
-- fault is planned on its wire.
pub record IsOpening (made : List Made) (work : Work) : Type 0 where
  pub conn : work.conn ≡ work.permit.conn
  pub number : work.conn < house
  pub layer : work.permit.call_no ≡ 0
  pub connects : is_connect work.permit.call ≡ true
  pub opens : opens work.permit ≡ true
  pub unheard : journal work.past work.permit.conn ≡ []
  pub unplanned : aside_on made work.permit.conn ≡ no_aside

-- What came of a request for a connection: the work, the entry that the answer made, and the wire, unless the driver
-- refused.
pub record Found (W : Type 0) : Type 0 where
  pub work : Work
  pub entry : Entry
  pub wire : Option (Journaled W)

-- Holds of what came of a request for a connection. If every wire keeps a record, this one does.
pub record IsFound {W : Type 0} (heard : W
    → Option WireTold) (telling : Bool) (made : List Made) (it : Found W) : Type 0 where
  pub opening : IsOpening made it.work
  pub answers : Answers it.work.permit [] it.entry
  pub wire : OpensWire heard telling it.entry it.wire
  pub unplanned : RecordsAside heard no_aside it.wire
