-- What the fleet of a run records, with the faults that the lines of its script plan.
use Rattle.std.specs.Prelude.{◌≡◌, ◌⊎◌, List, [], ◌∷◌, ◌++◌, reverse, Option, is_some}
use Rattle.dsql_hall.specs.driver.Wires.{WireTold, FleetTold}
use Rattle.dsql_hall.specs.driver.declared.wire.Fleet.{Ghosts}
use Rattle.dsql_hall.specs.wire.Journaled.{Journaled}
use Rattle.dsql_hall.specs.history.declared.event.Event.{Event}
use Rattle.dsql_hall.specs.follows.declared.line.Line.{Line}
use Rattle.dsql_hall.specs.follows.Sentences.{Part}
use Rattle.dsql_hall.specs.follows.Follows.{told}
use Rattle.dsql_hall.specs.player_wires.Made.{Made}
use Rattle.dsql_hall.specs.player_wires.Stopped.{GotAllBack, MayCome, NoSurplus, Surplus, wants_of, with_answer}
use Rattle.dsql_hall.specs.player_wires.Told.{TellsJust}
use Rattle.dsql_hall.specs.player_wires.WiresFit.{WiresFit}
use Rattle.dsql_hall.specs.player.Planned.{plans_of, plans_made}
use Rattle.dsql_run_outcome.specs.Followed.{StopsShort, lines_of}

-- A fleet that is lent to a run: what it recorded as the run began, what it records at present, and its wires.
pub record Lent (W : Type 0) : Type 0 where
  pub heard : W → Option WireTold
  pub first : Option FleetTold
  pub now : Option FleetTold
  pub slots : List (Option (Journaled W))

abbrev pub lent : {F W : Type 0} → Ghosts F W → (W → Option WireTold) → F → F → List (Option (Journaled W)) → Lent W
lent fleet heard first now slots =
    record { heard = heard; first = fleet.told first; now = fleet.told now; slots = slots }

-- Returns the same fleet with what it and its wires record later.
abbrev pub later : {W : Type 0} → Lent W → Option FleetTold → List (Option (Journaled W)) → Lent W
later lent now slots = record lent { now = now; slots = slots }

-- Holds if the fleet and the wires record exactly this history and these plans and wants.
abbrev pub TellsOf : {W : Type 0} → Lent W → List Made → List Event → Type 0
TellsOf lent made past = TellsJust lent.heard made lent.first lent.now past lent.slots

-- Holds if the last of these lines, which comes after these parts, plans this.
pub record IsPlanOfLast (run : Event) (lines : List Line) (parts : List Part) (plans : List Made) : Type 0 where
  pub line : Line
  pub is_of : reverse lines ≡ line ∷ lines_of parts
  pub are : plans ≡ plans_of line (told run parts)

-- Holds if nothing came of the last line, or of the script's end: no event, no plan, and no call beside them.
pub record NothingCame (events : List Event) (plans : List Made) (surplus : Surplus) : Type 0 where
  pub no_event : events ≡ []
  pub no_plan : plans ≡ []
  pub no_call : surplus ≡ NoSurplus

-- Says what the line in which a run stopped has planned. Either these parts are those of all lines, or the last line
-- planned all that it plans, or nothing came of it.
abbrev pub LastPlans : Event → List Line → List Part → List Event → Surplus → List Made → Type 0
LastPlans run lines parts events surplus plans =
    ((lines_of parts ≡ reverse lines) × (plans ≡ []))
    ⊎ (IsPlanOfLast run lines parts plans ⊎ NothingCame events plans surplus)

-- Holds if a run had to stop, and these faults were planned: those of the lines before and of the last line. If nothing
-- came of the last line, its fault wasn't planned.
pub record StopsPlanning (run : Event) (lines : List Line) (past : List Event) (surplus : Surplus)
    (made : List Made) : Type 0 where
  pub short : StopsShort run lines past
  pub last : List Made
  pub which : LastPlans run lines short.parts short.more surplus last
  pub all : made ≡ last ++ plans_made run short.parts

-- Holds if a run had to stop in its lines. The fleet and the wires record exactly the run up to then and these faults,
-- with at most one of two things more. One is an answer that may come next by every rule, but couldn't be taken in. The
-- other is the want of a call that was due.
pub record StopsTelling {W : Type 0} (run : Event) (lines : List Line) (past : List Event)
    (lent : Lent W) : Type 0 where
  pub made : List Made
  pub surplus : Surplus
  pub stops : StopsPlanning run lines past surplus made
  pub may : MayCome past surplus
  pub tells : TellsOf lent (wants_of surplus ++ made) (with_answer surplus past)
  pub wires : WiresFit lent.heard (is_some lent.now) (with_answer surplus past) lent.slots

-- Holds if a run had to stop, and the fleet was given back every wire. It records exactly the run, these faults and
-- these wires, with at most one of two things more. One is an answer that may come next by every rule, but couldn't be
-- taken in. The other is the want of a call that was due.
pub record StopsAsking (run : Event) (lines : List Line) (past : List Event)
    (before after : Option FleetTold) : Type 0 where
  pub made : List Made
  pub surplus : Surplus
  pub stops : StopsPlanning run lines past surplus made
  pub may : MayCome past surplus
  pub records : GotAllBack (wants_of surplus ++ made) before after (with_answer surplus past)
