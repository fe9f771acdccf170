-- Which connections have a wire, and what each wire has heard.
use Rattle.std.specs.Prelude.{ℕ, ◌+◌, ◌≡◌, Bool, true, not, ◌&&◌, cond, List, [], ◌∷◌, length, slice_index_or, Option, Some, None, is_some, option_map, IfSome, MatchBool}
use Rattle.std.specs.List.{list_any}
use Rattle.dsql_history.specs.driver.Fits.{is_done}
use Rattle.dsql_history.specs.driver.Kinds.{is_connect}
use Rattle.dsql_history.specs.driver.Wires.{WireTold, Plan, told_after, planned_after, with_call}
use Rattle.dsql_history.specs.driver.declared.call.DriverCall.{DriverCall}
use Rattle.dsql_history.specs.driver.declared.answer.DriverAnswer.TheVariants.{Memory}
use Rattle.dsql_history.specs.journal.declared.entry.Entry.{Entry}
use Rattle.dsql_history.specs.journal.Readers.{was_shut}
use Rattle.dsql_history.specs.declared.event.Event.{Event}
use Rattle.dsql_history.specs.declared.event.Event.TheVariants.{Heard}
use Rattle.dsql_history.specs.Readers.Journals.{journal}
use Rattle.dsql_wire.specs.Journaled.{Journaled}
use Rattle.dsql_wire.specs.Told.{TellsOf}
use Rattle.dsql_player_wires.specs.Made.{Aside, Made, PlannedAhead, PlannedOn, aside_of, aside_on, no_aside}

-- Returns the wire of connection c, if it has one.
abbrev pub slot : {W : Type 0} → List (Option W) → ℕ → Option W
slot slots c = slice_index_or slots c None

-- Is true if the Connect was answered Done.
abbrev pub was_opened : List Entry → Bool
was_opened entries = list_any (λ x. is_connect x.call && is_done x.answer) entries

-- Is true if the connection of this journal has a wire: it was opened and not shut.
abbrev pub is_wired : List Entry → Bool
is_wired entries = was_opened entries && not (was_shut entries)

-- A wire of connection c with exactly this journal. If all wires keep a record, this one does, and its record
-- is its journal.
pub record IsWireOf {W : Type 0} (heard : W
    → Option WireTold) (telling : Bool) (c : ℕ) (entries : List Entry) (wire : Journaled W) : Type 0 where
  pub conn : wire.conn ≡ c
  pub journal : wire.journal ≡ entries
  pub tells : telling ≡ true → is_some (heard wire.wire) ≡ true

-- Holds if there is a wire, and it is one of connection c with exactly this journal.
abbrev pub HoldsWire : {W : Type 0} → (W → Option WireTold) → Bool → ℕ → List Entry → Option (Journaled W) → Type 0
HoldsWire heard telling c entries None = ⊥
HoldsWire heard telling c entries (Some wire) = IsWireOf heard telling c entries wire

-- Holds if the slot of connection c has its wire with its journal, or is empty if the connection has none.
abbrev pub FitsAt : {W : Type 0} → (W → Option WireTold) → Bool → ℕ → List Entry → Option (Journaled W) → Type 0
FitsAt heard telling c entries wire =
    MatchBool (is_wired entries) (HoldsWire heard telling c entries wire) (wire ≡ None)

-- Holds if each connection that was opened and not shut has its wire, whose journal is the connection's, and no
-- other connection has one.
abbrev pub WiresFit : {W : Type 0} → (W → Option WireTold) → Bool → List Event → List (Option (Journaled W)) → Type 0
WiresFit heard telling past slots = (c : ℕ) → FitsAt heard telling c (journal past c) (slot slots c)

-- Returns how many Connects were heard.
abbrev pub connects_heard : List Event → ℕ
connects_heard [] = 0
connects_heard (Heard e ∷ before) = cond (is_connect e.call) (connects_heard before + 1) (connects_heard before)
connects_heard (_ ∷ before) = connects_heard before

-- Returns a fault that is planned for connection c after this history. It stands with the number of calls that the
-- connection's wire has heard, or with the number of Connects if the connection has no wire.
abbrev pub made_at : ℕ → Plan → List Event → Made
made_at c plan past =
    cond (is_wired (journal past c)) (PlannedOn c (length (journal past c), plan))
    (PlannedAhead (connects_heard past, (c, plan)))

-- Holds if the slot is empty, or if its wire records exactly these plans and wants. A wire may also keep no record.
abbrev pub RecordsAside : {W : Type 0} → (W → Option WireTold) → Aside → Option (Journaled W) → Type 0
RecordsAside heard aside wire = IfSome wire (λ w. IfSome (heard w.wire) (λ told. aside_of told ≡ aside))

-- Holds if what is in a connection's slot fits the plans and wants of its wire. Before anything was heard of the
-- connection there were none.
pub record PlansAt {W : Type 0} (heard : W
    → Option WireTold) (aside : Aside) (entries : List Entry) (wire : Option (Journaled W)) : Type 0 where
  pub unheard : entries ≡ [] → aside ≡ no_aside
  pub told : RecordsAside heard aside wire

-- Holds if each wire that keeps a record records exactly its plans and wants.
abbrev pub PlansFit : {W : Type 0} → (W → Option WireTold) → List Made → List Event → List (Option (Journaled W))
    → Type 0
PlansFit heard made past slots = (c : ℕ) → PlansAt heard (aside_on made c) (journal past c) (slot slots c)

-- Holds if a wire hears one more entry.
pub record Hears {W : Type 0} (heard : W → Option WireTold) (e : Entry) (before after : Journaled W) : Type 0 where
  pub conn : after.conn ≡ before.conn
  pub journal : after.journal ≡ e ∷ before.journal
  pub told : heard after.wire ≡ option_map (with_call (e.call, e.answer)) (heard before.wire)

-- Holds if the wire in a slot hears one more entry.
abbrev pub HearsEntry : {W : Type 0} → (W → Option WireTold) → Entry → Option (Journaled W) → Option (Journaled W)
    → Type 0
HearsEntry heard e (Some before) (Some after) = Hears heard e before after
HearsEntry heard e _ _ = ⊥

-- Holds if a wire has heard what it had heard before, with the same plans and wants.
pub record SameHeard {W : Type 0} (heard : W → Option WireTold) (before after : Journaled W) : Type 0 where
  pub conn : after.conn ≡ before.conn
  pub journal : after.journal ≡ before.journal
  pub told : heard after.wire ≡ heard before.wire

-- Holds if the same is true of the wire in a slot, or if an empty slot is still empty.
abbrev pub SameHeardIn : {W : Type 0} → (W → Option WireTold) → Option (Journaled W) → Option (Journaled W) → Type 0
SameHeardIn heard None after = after ≡ None
SameHeardIn heard (Some before) None = ⊥
SameHeardIn heard (Some before) (Some after) = SameHeard heard before after

-- Holds if a wire has heard what it had heard before, and answered this call Memory.
pub record Wants {W : Type 0} (heard : W
    → Option WireTold) (call : DriverCall) (before after : Journaled W) : Type 0 where
  pub conn : after.conn ≡ before.conn
  pub journal : after.journal ≡ before.journal
  pub told : heard after.wire ≡ told_after call Memory (heard before.wire)

-- Holds if the wire in a slot answered this call Memory.
abbrev pub WantsIn : {W : Type 0} → (W → Option WireTold) → DriverCall → Option (Journaled W) → Option (Journaled W)
    → Type 0
WantsIn heard call (Some before) (Some after) = Wants heard call before after
WantsIn heard call _ _ = ⊥

-- Holds if a fault is planned on a wire that recorded exactly its journal before.
pub record HearsPlan {W : Type 0} (heard : W
    → Option WireTold) (plan : Plan) (before after : Journaled W) : Type 0 where
  pub conn : after.conn ≡ before.conn
  pub journal : after.journal ≡ before.journal
  pub exact : IfSome (heard before.wire) (TellsOf before.conn before.journal)
  pub told : heard after.wire ≡ planned_after plan (heard before.wire)

-- Holds if a fault is planned on the wire in a slot.
abbrev pub HearsPlanIn : {W : Type 0} → (W → Option WireTold) → Plan → Option (Journaled W) → Option (Journaled W)
    → Type 0
HearsPlanIn heard plan (Some before) (Some after) = HearsPlan heard plan before after
HearsPlanIn heard plan _ _ = ⊥

-- Holds if there is a new wire whose journal is this entry, provided that the Connect was answered Done, and
-- otherwise none.
abbrev pub OpensWire : {W : Type 0} → (W → Option WireTold) → Bool → Entry → Option (Journaled W) → Type 0
OpensWire heard telling e wire =
    MatchBool (is_done e.answer) (HoldsWire heard telling e.conn (e ∷ []) wire) (wire ≡ None)

-- Holds if wires that fit the old history fit the new one afterwards, whether or not all keep a record.
abbrev pub KeepsFit : {W : Type 0} → (W → Option WireTold) → List Event → List Event → List (Option (Journaled W))
    → List (Option (Journaled W)) → Type 0
KeepsFit heard old new before after =
    (telling : Bool) → WiresFit heard telling old before → WiresFit heard telling new after

-- Holds if each wire records exactly its plans and wants afterwards, provided that it did before. No more come.
abbrev pub KeepsPlans : {W : Type 0} → (W → Option WireTold) → List Event → List Event
    → List (Option (Journaled W)) → List (Option (Journaled W)) → Type 0
KeepsPlans heard old new before after =
    (made : List Made) → PlansFit heard made old before → PlansFit heard made new after

-- Holds if each wire has heard what it had heard before. The wires still fit every history that they fitted, and so do
-- their plans and wants.
pub record SameWires {W : Type 0} (heard : W
    → Option WireTold) (before after : List (Option (Journaled W))) : Type 0 where
  pub each : (c : ℕ) → SameHeardIn heard (slot before c) (slot after c)
  pub fits : (past : List Event) → KeepsFit heard past past before after
  pub plans : (past : List Event) → KeepsPlans heard past past before after
