-- What wires and a fleet record if an act has to stop. They record the run's history, with at most one of two things
-- more. One is an answer that may come next by every rule, but couldn't be taken in. The other is the want of a call
-- that was due. A run that is full has neither.
use Rattle.std.specs.Prelude.{ℕ, ◌≡◌, ◌<◌, ◌≤◌, ◌⊎◌, true, false, cond, zero, suc, List, [], ◌∷◌, ◌++◌, length, Option, is_some, IfSome, option_map}
use Rattle.dsql_history.specs.driver.Kinds.{is_connect}
use Rattle.dsql_history.specs.driver.Wires.{WireTold, FleetTold, RetiredWire, with_retired}
use Rattle.dsql_history.specs.driver.declared.answer.DriverAnswer.{DriverAnswer}
use Rattle.dsql_history.specs.journal.HandlesAndCursors.{fits_at_its_place}
use Rattle.dsql_history.specs.journal.declared.entry.Entry.{Entry}
use Rattle.dsql_history.specs.journal.declared.entry.Permit.{Permit}
use Rattle.dsql_history.specs.declared.event.Event.{Event}
use Rattle.dsql_history.specs.declared.event.Event.TheVariants.{Heard}
use Rattle.dsql_history.specs.declared.limits.TheConstants.{MAX_EVENTS}
use Rattle.dsql_history.specs.Legal.{Allowed}
use Rattle.dsql_history.specs.Readers.Journals.{journal}
use Rattle.dsql_tenure.specs.Judged.{answered}
use Rattle.dsql_wire.specs.Journaled.{Journaled}
use Rattle.dsql_wire.specs.Told.{TellsOf}
use Rattle.dsql_player_wires.specs.Made.{Made, WantedConnect, WantedOn, aside_on}
use Rattle.dsql_player_wires.specs.Told.{FleetTells, TellsJust, fleet_told, tells_of, with_told}
use Rattle.dsql_player_wires.specs.WiresFit.{KeepsFit, PlansFit, WiresFit, is_wired}

-- What the driver was asked for more than a run shows: nothing, or one call. Either its answer couldn't be taken in, or
-- it was answered Memory. Such a call is given by its permit.
pub data Surplus : Type 0 where
  NoSurplus : Surplus
  Untaken : Entry → Surplus
  WantedMemory : Permit → Surplus

-- Returns the history with the answer that couldn't be taken in, if there is one.
abbrev pub with_answer : Surplus → List Event → List Event
with_answer (Untaken e) past = Heard e ∷ past
with_answer _ past = past

-- Returns the want of a permit's call. The fleet has that of a Connect, and the connection's wire has any other.
abbrev pub want_of : Permit → Made
want_of permit = cond (is_connect permit.call) (WantedConnect permit.conn) (WantedOn permit.conn permit.call)

-- Returns the want of the call that was answered Memory, if there is one.
abbrev pub wants_of : Surplus → List Made
wants_of (WantedMemory permit) = want_of permit ∷ []
wants_of _ = []

-- Holds if the permit's call is due: each answer that fits at its place may come next by every rule.
abbrev pub TakesAnyAnswer : List Event → Permit → Type 0
TakesAnyAnswer past permit =
    (answer : DriverAnswer) → fits_at_its_place (journal past permit.conn) (answered permit answer) ≡ true
    → Allowed past (Heard (answered permit answer))

-- Holds if the run has room for the events of one more step.
abbrev pub HasRoom : List Event → Type 0
HasRoom past = length past < MAX_EVENTS

-- Holds if the answer that wasn't taken in may come next by every rule, or if the call that was answered Memory was
-- due. The run had room for the answer's events, since a run that is full makes no call.
abbrev pub MayCome : List Event → Surplus → Type 0
MayCome past NoSurplus = Unit {0}
MayCome past (Untaken e) = HasRoom past × Allowed past (Heard e)
MayCome past (WantedMemory permit) = HasRoom past × TakesAnyAnswer past permit

-- Holds of an act that had to stop, in which no connection was opened or shut. Wires that fitted the old history fit
-- the new one with at most one answer more, or they have at most one want more. The fleet has nothing to record of it,
-- and no fault was planned.
pub record HearsAtMost {W : Type 0} (heard : W
    → Option WireTold) (old new : List Event) (before after : List (Option (Journaled W))) : Type 0 where
  pub surplus : Surplus
  pub may : MayCome new surplus
  pub fits : KeepsFit heard old (with_answer surplus new) before after
  pub plans : (made : List Made) → PlansFit heard made old before
      → PlansFit heard (wants_of surplus ++ made) (with_answer surplus new) after
  pub told : (made : List Made) → fleet_told (wants_of surplus ++ made) (with_answer surplus new) ≡ fleet_told made old

-- Says which of the faults that an act was to plan it has planned as it had to stop. It planned all of them, or nothing
-- came of the act.
abbrev pub PlansAllOrNothing : List Made → Surplus → List Made → List Event → List Event → Type 0
PlansAllOrNothing planning surplus planned old new =
    (planned ≡ planning) ⊎ ((planned ≡ []) × (surplus ≡ NoSurplus) × (new ≡ old))

-- Holds of an act that had to stop. The fleet and the wires record exactly the new history with at most one answer
-- more, or with at most one want more. All faults that were to be planned were, or nothing came of the act.
pub record RecordsAtMost {W : Type 0} (heard : W
    → Option WireTold) (planning : List Made) (before after : Option FleetTold) (old new : List Event)
    (slots now : List (Option (Journaled W))) : Type 0 where
  pub surplus : Surplus
  pub may : MayCome new surplus
  pub planned : List Made
  pub which : PlansAllOrNothing planning surplus planned old new
  pub tells : FleetTells heard (wants_of surplus ++ planned) before after old (with_answer surplus new) slots now
  pub wires : WiresFit heard (is_some after) (with_answer surplus new) now

-- Holds if the slot is empty, or if its wire records exactly its connection's number and journal. A wire may also keep
-- no record.
abbrev pub RecordsJournal : {W : Type 0} → (W → Option WireTold) → Option (Journaled W) → Type 0
RecordsJournal heard wire = IfSome wire (λ w. IfSome (heard w.wire) (TellsOf w.conn w.journal))

-- Returns the wire of connection c with its record, if the connection has a wire after this history and with these
-- plans and wants.
abbrev pub wire_left : List Made → List Event → ℕ → List RetiredWire
wire_left made past c =
    cond (is_wired (journal past c)) ((c, tells_of c (aside_on made c) (journal past c)) ∷ []) []

-- Returns the wires of all connections with a smaller number, the largest number first.
abbrev pub wires_left : List Made → List Event → ℕ → List RetiredWire
wires_left made past zero = []
wires_left made past (suc c) = wire_left made past c ++ wires_left made past c

-- Holds if a fleet records exactly this history and these plans and wants, after what it recorded as the history began.
-- Then it was given back every wire that was left, the largest number first. Their numbers are all smaller than
-- `below`.
pub record GotAllBack (made : List Made) (told now : Option FleetTold) (past : List Event) : Type 0 where
  pub below : ℕ
  pub none : (c : ℕ) → below ≤ c → is_wired (journal past c) ≡ false
  pub records : now ≡ option_map (with_retired (wires_left made past below)) (with_told made told past)

-- Holds of a part of a run that had to stop, and after which every wire was given back. The fleet records exactly the
-- new history and these wires, with at most one answer or want more. No fault was planned.
pub record GivesAllBack {W : Type 0} (heard : W
    → Option WireTold) (before after : Option FleetTold) (old new : List Event)
    (slots : List (Option (Journaled W))) : Type 0 where
  pub surplus : Surplus
  pub may : MayCome new surplus
  pub back : (made : List Made) (told : Option FleetTold) → TellsJust heard made told before old slots
      → GotAllBack (wants_of surplus ++ made) told after (with_answer surplus new)
