-- What is kept as a part of a run is carried out, and which part follows its line.
use Rattle.std.specs.Prelude.{ℕ, ◌≡◌, ◌⊎◌, true, List, [], ◌++◌, Option, Result, OnOk, OnErr, is_some}
use Rattle.dsql_engine_laws.specs.driver.Wires.{WireTold}
use Rattle.dsql_engine_laws.specs.driver.declared.wire.Fleet.{Ghosts}
use Rattle.dsql_engine_laws.specs.history.declared.event.Event.{Event}
use Rattle.dsql_engine_laws.specs.history.Legal.{Legal}
use Rattle.dsql_engine_laws.specs.history.Readers.Journals.{journal}
use Rattle.dsql_engine_laws.specs.follows.declared.line.Line.{Line}
use Rattle.dsql_engine_laws.specs.follows.Moments.{Moment, met, at_end}
use Rattle.dsql_engine_laws.specs.follows.Sentences.{Part, after_part, enters_at_once, runs_in_turn, runs_on, sets_at_once}
use Rattle.dsql_engine_laws.specs.follows.Follows.{MakesSteps, FollowsLine, FollowsEnd, ends_in_turn}
use Rattle.dsql_engine_laws.specs.wire.Journaled.{Journaled}
use Rattle.dsql_player_wires.specs.Made.{Made}
use Rattle.dsql_player_wires.specs.Stopped.{HearsAtMost, RecordsAtMost}
use Rattle.dsql_player_wires.specs.Told.{fleet_told, FleetTells, SameAbility}
use Rattle.dsql_player_wires.specs.WiresFit.{KeepsFit, KeepsPlans, WiresFit}
use Rattle.dsql_player.specs.declared.halt.Halt.{Halt}
use Rattle.dsql_player.specs.Playing.{Playing, IsAt, IsReady}

-- Holds if a part of a run is carried out, in which these faults are planned. The fleet and the wires record the new
-- history and these plans, and the wires fit the history. If the part can't be carried out, they record the new history
-- with at most one answer or want more. That answer couldn't be taken in. Then either all of the plans were made or
-- none.
pub record KeepsRunPlanning {A F W : Type 0} (plans : List Made) (fleet : Ghosts F W) (heard : W
    → Option WireTold) (result : Result A Halt) (before after : F) (old new : Playing)
    (slots now : List (Option (Journaled W))) : Type 0 where
  pub ready : OnOk result (IsReady new)
  pub told : OnOk result (FleetTells heard plans (fleet.told before) (fleet.told after) old.past new.past slots now)
  pub asked : OnErr result
      (RecordsAtMost heard plans (fleet.told before) (fleet.told after) old.past new.past slots now)
  pub wires : OnOk result (WiresFit heard (is_some (fleet.told after)) new.past now)
  pub able : SameAbility fleet before after
  pub legal : Legal new.past

-- The same for a part of a run in which no fault is planned.
abbrev pub KeepsRun : {A F W : Type 0} → Ghosts F W → (W → Option WireTold) → Result A Halt → F → F → Playing
    → Playing → List (Option (Journaled W)) → List (Option (Journaled W)) → Type 0
KeepsRun fleet heard result before after old new slots now =
    KeepsRunPlanning [] fleet heard result before after old new slots now

-- Holds of a part of a run in which no connection is opened or shut. Its wires fit the new history, and the fleet has
-- nothing to record of it. If the part can't be carried out, the wires have at most one answer or want more. That
-- answer couldn't be taken in.
pub record KeepsWires {A W : Type 0} (heard : W
    → Option WireTold) (result : Result A Halt) (old new : Playing)
    (before after : List (Option (Journaled W))) : Type 0 where
  pub ready : OnOk result (IsReady new)
  pub wires : OnOk result (KeepsFit heard old.past new.past before after)
  pub plans : OnOk result (KeepsPlans heard old.past new.past before after)
  pub told : OnOk result ((made : List Made) → fleet_told made new.past ≡ fleet_told made old.past)
  pub stops : OnErr result (HearsAtMost heard old.past new.past before after)
  pub legal : Legal new.past

-- Holds if nothing was heard between the two histories.
pub record HearsNothing (old new : List Event) : Type 0 where
  pub journals : (c : ℕ) → journal new c ≡ journal old c
  pub told : (made : List Made) → fleet_told made new ≡ fleet_told made old

-- Returns the part of a line with these events.
abbrev pub part : Line → List Event → Part
part line events = record { line = line; events = events }

-- Holds if the line was carried out, and its part follows it.
pub record Carries (m : Moment) (line : Line) (before after : Playing) : Type 0 where
  pub events : List Event
  pub grows : after.past ≡ events ++ before.past
  pub follows : FollowsLine m (part line events)
  pub at : IsAt (after_part m (part line events)) after

-- Holds if the line runs on, and what came of it began with its own step, if it has one.
pub record BeginsOnItsOwn (m : Moment) (line : Line) (events : List Event) : Type 0 where
  pub runs : runs_on line ≡ true
  pub entered : enters_at_once m (part line events) ≡ true
  pub set : sets_at_once m (part line events) ≡ true

-- Holds if nothing came of the line yet, or a beginning of what it asks for, or all of it.
abbrev pub IsBeginningOf : Moment → Line → List Event → Type 0
IsBeginningOf m line events = (events ≡ []) ⊎ (BeginsOnItsOwn m line events ⊎ FollowsLine m (part line events))

-- Holds if the line couldn't be carried out to its end. Its part is a beginning of what it asks for, in whole
-- steps in the order of the lines. If the line runs on, each step came in its turn.
pub record StopsInLine (m : Moment) (line : Line) (before after : List Event) : Type 0 where
  pub events : List Event
  pub grows : after ≡ events ++ before
  pub begins : IsBeginningOf m line events
  pub steps : MakesSteps (met line m) events
  pub in_turn : runs_in_turn m (part line events) ≡ true

-- Holds if the script's end was carried out, and its part follows it.
pub record CarriesEnd (m : Moment) (before after : List Event) : Type 0 where
  pub events : List Event
  pub grows : after ≡ events ++ before
  pub follows : FollowsEnd m events

-- Holds if the script's end couldn't be carried out. Its part has whole steps in the order of the lines, each
-- in its turn.
pub record StopsInEnd (m : Moment) (before after : List Event) : Type 0 where
  pub events : List Event
  pub grows : after ≡ events ++ before
  pub steps : MakesSteps (at_end m) events
  pub in_turn : ends_in_turn m events ≡ true
