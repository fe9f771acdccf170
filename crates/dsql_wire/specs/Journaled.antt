-- Defines what contracts see of a wire with its journal, whether the entries are kept or not, and how the two
-- agree.
use Rattle.std.specs.Prelude.{ℕ, ◌≡◌, Bool, true, false, ◌&&◌, ◌==◌, List, Option, IfSome}
use Rattle.std.specs.List.{list_any, list_all}
use Rattle.dsql_driver.specs.Wires as wires
use Rattle.dsql_driver.specs.Wires.{WireTold, has_number}
use Rattle.dsql_tenure_journal.specs.declared.entry.Entry.{Entry}
use Rattle.dsql_tenure_journal.specs.declared.entry.Permit.{Permit}
use Rattle.dsql_tenure_journal.specs.Readers as journals
use Rattle.dsql_tenure_journal.specs.Readers.{is_empty}
use Rattle.dsql_tenure.specs.Judged.{MaySend}
use Rattle.dsql_wire.specs.Told.{TellsOf}
use Rattle.dsql_wire.specs.declared.fault.WireFault.{WireFault}
use Rattle.dsql_wire.specs.declared.fault.WireFault.TheVariants.{Stray, Memory}

-- A wire with its journal: the connection's number, its journal, for how many entries there is memory, and the driver's
-- wire. The newest entry of the journal stands first.
pub record Journaled (W : Type 0) : Type 0 where
  pub conn : ℕ
  pub journal : List Entry
  pub spare : ℕ
  pub wire : W

-- Returns what contracts see of this wire if its entries are kept. Each entry then takes memory of its own, so there is
-- none for the next one.
abbrev pub keeping : {W : Type 0} → Journaled W → Journaled W
keeping wire = record wire { spare = 0 }

-- Holds if the judge of this connection and this journal lets the permit be sent, however much room the judge
-- has.
abbrev pub MayBeSent : ℕ → List Entry → Permit → Type 0
MayBeSent conn journal permit = MaySend (record { conn = conn; journal = journal; spare = 0 }) permit

-- Is true if each handle that is live in the journal is live on the wire.
abbrev pub has_handles : List ℕ → List journals.LiveHandle → Bool
has_handles on live = list_all (λ h. has_number h.number on) live

-- Is true if the cursor is live on the wire with as many columns.
abbrev pub has_cursor : List wires.LiveCursor → journals.LiveCursor → Bool
has_cursor on c = list_any (λ w. (w.0 == c.number) && (w.1 == c.columns)) on

-- Is true if each cursor that is live in the journal is live on the wire with as many columns.
abbrev pub has_cursors : List wires.LiveCursor → List journals.LiveCursor → Bool
has_cursors on live = list_all (has_cursor on) live

-- Holds if a wire's state agrees with a connection's journal, which isn't empty. If the wire reports its calls,
-- it reports the connection's number and exactly the journal. Each handle and cursor that is live in the
-- journal is live on the wire.
pub record Agrees (told : Option WireTold) (handles : List ℕ) (cursors : List wires.LiveCursor) (conn : ℕ)
    (journal : List Entry) : Type 0 where
  pub started : is_empty journal ≡ false
  pub tells : IfSome told (TellsOf conn journal)
  pub handles_live : has_handles handles (journals.handles journal) ≡ true
  pub cursors_live : has_cursors cursors (journals.cursors journal) ≡ true

-- Returns the permit that a fault hands back.
abbrev pub permit_of : WireFault → Permit
permit_of (Stray permit) = permit
permit_of (Memory permit) = permit
