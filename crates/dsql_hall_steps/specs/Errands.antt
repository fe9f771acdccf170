-- What is carried out of the hall and back: a driver call that is to be made, with the wire of its connection.
use Rattle.std.specs.Prelude.{ℕ, ◌≡◌, ◌≢◌, ◌<◌, ◌⊎◌, ◌^◌, ◌∷◌, Bool, true, List, Option, Some, is_some}
use Rattle.dsql_engine_laws.specs.driver.Wires.{WireTold}
use Rattle.dsql_engine_laws.specs.journal.declared.entry.Entry.{Entry}
use Rattle.dsql_engine_laws.specs.journal.HandlesAndCursors.{fits_at_its_place}
use Rattle.dsql_engine_laws.specs.tenure.Judged.{answered}
use Rattle.dsql_engine_laws.specs.history.Readers.Clients.{client_of}
use Rattle.dsql_engine_laws.specs.history.Readers.Journals.{journal}
use Rattle.dsql_engine_laws.specs.wire.Journaled.{Journaled, MayBeSent}
use Rattle.dsql_player_wires.specs.Made.{Made, aside_on}
use Rattle.dsql_player_wires.specs.WiresFit.{RecordsAside, SameHeard, Wants}
use Rattle.dsql_hall_bonds.specs.Work.{Work}

-- An errand: the work that is out, the client whose call makes the driver call, and the wire.
pub record Sent (W : Type 0) : Type 0 where
  pub work : Work
  pub client : ℕ
  pub wire : Journaled W

-- What comes back of an errand: the same, with the entry that the driver's answer made.
pub record Brought (W : Type 0) : Type 0 where
  pub work : Work
  pub client : ℕ
  pub wire : Journaled W
  pub entry : Entry

-- Holds if the work is a driver call on its own connection, and the client is the one whose call makes it. The layer's
-- own driver calls have no client. A connection's number has 32 bits.
pub record IsWorkOf (work : Work) (its : ℕ) : Type 0 where
  pub conn : work.conn ≡ work.permit.conn
  pub number : work.permit.conn < 2 ^ 32
  pub client : work.permit.call_no ≢ 0 → its ≡ client_of work.past work.permit.call_no

-- Holds if the wire is that of the work's connection, and has its plans and wants. If all wires keep a record, it keeps
-- one.
pub record IsWireFor {W : Type 0} (heard : W
    → Option WireTold) (telling : Bool) (made : List Made) (work : Work) (wire : Journaled W) : Type 0 where
  pub conn : wire.conn ≡ work.permit.conn
  pub tells : telling ≡ true → is_some (heard wire.wire) ≡ true
  pub plans : RecordsAside heard (aside_on made work.permit.conn) (Some wire)

-- Holds of an errand: its wire has the journal that its connection had as the work went out, and takes the driver call.
pub record IsErrand {W : Type 0} (heard : W
    → Option WireTold) (telling : Bool) (made : List Made) (it : Sent W) : Type 0 where
  pub work : IsWorkOf it.work it.client
  pub wire : IsWireFor heard telling made it.work it.wire
  pub journal : it.wire.journal ≡ journal it.work.past it.work.permit.conn
  pub sends : MayBeSent it.wire.conn it.wire.journal it.work.permit

-- Holds of what comes back: the entry is what an answer made of the permit, and it fits at its place. The wire has
-- heard it, and nothing besides.
pub record IsBack {W : Type 0} (heard : W
    → Option WireTold) (telling : Bool) (made : List Made) (it : Brought W) : Type 0 where
  pub work : IsWorkOf it.work it.client
  pub wire : IsWireFor heard telling made it.work it.wire
  pub entry : it.entry ≡ answered it.work.permit it.entry.answer
  pub fits : fits_at_its_place (journal it.work.past it.work.permit.conn) it.entry ≡ true
  pub journal : it.wire.journal ≡ it.entry ∷ journal it.work.past it.work.permit.conn

-- Holds of an errand and of what came back of it without an answer. Either the judge had no room for the answer, and
-- the driver wasn't asked. Then the wire has heard and recorded what it had before. Or the driver answered Memory, and
-- its record shows that.
abbrev pub LacksAnswer : {W : Type 0} → (W → Option WireTold) → Sent W → Sent W → Type 0
LacksAnswer heard before after =
    ((before.wire.spare ≡ 0) × SameHeard heard before.wire after.wire)
    ⊎ Wants heard before.work.permit.call before.wire after.wire

-- Holds of an errand that came back without an answer, because memory was wanting.
pub record IsUnheard {W : Type 0} (it : Sent W) : Type 0 where
  pub work : IsWorkOf it.work it.client
  pub conn : it.wire.conn ≡ it.work.permit.conn
  pub journal : it.wire.journal ≡ journal it.work.past it.work.permit.conn
