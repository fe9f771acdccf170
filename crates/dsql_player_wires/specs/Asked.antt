-- A driver call and its answer, as the wires see it.
use Rattle.std.specs.Prelude.{ℕ, ◌≡◌, ◌≢◌, ◌⊎◌, Bool, true, false, List, Option, Some, None, IfSome}
use Rattle.dsql_history.specs.driver.Fits.{is_memory}
use Rattle.dsql_history.specs.driver.Wires.{WireTold, FleetTold, Plan, plans_after}
use Rattle.dsql_history.specs.journal.declared.entry.Entry.{Entry}
use Rattle.dsql_history.specs.journal.declared.entry.Permit.{Permit}
use Rattle.dsql_history.specs.journal.HandlesAndCursors.{fits_at_its_place}
use Rattle.dsql_tenure.specs.Judged.{answered}
use Rattle.dsql_wire.specs.Journaled.{Journaled}
use Rattle.dsql_player_wires.specs.Made.{no_aside}
use Rattle.dsql_player_wires.specs.WiresFit.{slot, HearsEntry, HearsPlan, OpensWire, RecordsAside, SameWires, WantsIn}

-- Holds if the entry is what an answer makes of the permit, and fits after this journal.
pub record Answers (permit : Permit) (journal : List Entry) (heard : Entry) : Type 0 where
  pub entry : heard ≡ answered permit heard.answer
  pub fits : fits_at_its_place journal heard ≡ true
  pub no_want : is_memory heard.answer ≡ false

-- Holds if the wire of the permit's connection heard the answer, and no other slot changed.
pub record Performs {W : Type 0} (heard : W
    → Option WireTold) (permit : Permit) (e : Entry) (before after : List (Option (Journaled W))) : Type 0 where
  pub entry : e ≡ answered permit e.answer
  pub others : (c : ℕ) → c ≢ permit.conn → slot after c ≡ slot before c
  pub noted : HearsEntry heard e (slot before permit.conn) (slot after permit.conn)

-- Holds if the wire of the permit's connection answered the permit's call Memory, and no other slot changed.
pub record WantsCall {W : Type 0} (heard : W
    → Option WireTold) (permit : Permit) (before after : List (Option (Journaled W))) : Type 0 where
  pub others : (c : ℕ) → c ≢ permit.conn → slot after c ≡ slot before c
  pub wanted : WantsIn heard permit.call (slot before permit.conn) (slot after permit.conn)

-- Holds if the wire's judge has no room for one more entry.
abbrev pub LacksRoom : {W : Type 0} → Option (Journaled W) → Type 0
LacksRoom wire = IfSome wire (λ w. w.spare ≡ 0)

-- Holds if memory was wanting for the permit's call. Either the driver answered it Memory, or its wire's judge had no
-- room for the answer. The driver wasn't asked then, and all wires are as they were.
abbrev pub LacksMemory : {W : Type 0} → (W → Option WireTold) → Permit → List (Option (Journaled W))
    → List (Option (Journaled W)) → Type 0
LacksMemory heard permit before after =
    (LacksRoom (slot before permit.conn) × SameWires heard before after) ⊎ WantsCall heard permit before after

-- Holds if the wire that the permit's Connect opened, unless it was refused, is in its slot with no plan and no want.
-- No other slot changed.
pub record Connects {W : Type 0} (heard : W
    → Option WireTold) (telling : Bool) (permit : Permit) (e : Entry)
    (before after : List (Option (Journaled W))) : Type 0 where
  pub entry : e ≡ answered permit e.answer
  pub others : (c : ℕ) → c ≢ permit.conn → slot after c ≡ slot before c
  pub wire : OpensWire heard telling e (slot after permit.conn)
  pub unplanned : RecordsAside heard no_aside (slot after permit.conn)

-- Says what is in a slot after a fault was planned for its connection, and what the fleet records then.
abbrev pub TakesPlan : {W : Type 0} → (W → Option WireTold) → ℕ → Plan → Option FleetTold → Option FleetTold
    → Option (Journaled W) → Option (Journaled W) → Type 0
TakesPlan heard c plan before after None now = (now ≡ None) × (after ≡ plans_after (c, plan) before)
TakesPlan heard c plan before after (Some wire) None = ⊥
TakesPlan heard c plan before after (Some wire) (Some now) = HearsPlan heard plan wire now × (after ≡ before)

-- Holds if a fault was planned for a connection: on its wire if it has one, and with the fleet otherwise. No
-- other slot changed.
pub record Plans {W : Type 0} (heard : W
    → Option WireTold) (c : ℕ) (plan : Plan) (before after : Option FleetTold)
    (slots now : List (Option (Journaled W))) : Type 0 where
  pub here : TakesPlan heard c plan before after (slot slots c) (slot now c)
  pub others : (d : ℕ) → d ≢ c → slot now d ≡ slot slots d
