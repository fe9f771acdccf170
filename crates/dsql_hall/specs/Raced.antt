-- What a race does with the lines of its script: which faults it plans, which limits it sets, and which calls enter.
use Rattle.std.specs.Prelude.{ℕ, ◌≡◌, ◌==◌, Bool, true, not, ◌&&◌, ◌||◌, List, [], ◌∷◌, ◌++◌, length, drop, Option, Some, None, filter_map, map, reverse}
use Rattle.std.specs.List.{list_all}
use Rattle.dsql_hall_steps.specs.driver.Wires.{WirePlan}
use Rattle.dsql_hall_steps.specs.history.declared.event.Control.{Control}
use Rattle.dsql_hall_steps.specs.journal.Readers.{is_empty}
use Rattle.dsql_hall_steps.specs.history.declared.event.Event.{Event}
use Rattle.dsql_hall_steps.specs.history.declared.event.Event.TheVariants.{Ended}
use Rattle.dsql_hall_steps.specs.history.Legal.{Legal}
use Rattle.dsql_hall_steps.specs.history.Readers.Clients.{is_free, made_by}
use Rattle.dsql_hall_steps.specs.history.Readers.Course.{has_ended}
use Rattle.dsql_hall_steps.specs.follows.declared.line.Line.{Line}
use Rattle.dsql_hall_steps.specs.follows.declared.line.Line.TheVariants as lines
use Rattle.dsql_hall_steps.specs.follows.Moments.{lines_of}
use Rattle.dsql_hall_steps.specs.follows.Turns.{clients}
use Rattle.dsql_hall_steps.specs.Limits.{are_set_first, set_in, settings_first, settings_of}
use Rattle.dsql_hall_steps.specs.Racing.{Races, RacesAll}
use Rattle.dsql_hall_steps.specs.player.Carried.{HearsNothing}
use Rattle.dsql_hall_steps.specs.player.Playing.{Playing}
use Rattle.dsql_hall_steps.specs.player_wires.Extends.{Extends}
use Rattle.dsql_hall_steps.specs.player_wires.Made.{Made, PlannedAhead}

-- Returns the fault that a line plans, with its connection and the number of its call, if the line plans one.
abbrev pub plan_of : Line → Option WirePlan
plan_of (lines.Fault conn nth what) = Some (conn, (nth, what))
plan_of _ = None

-- Returns the faults that the lines plan, newest first. All are planned before a connection is opened, so with the
-- fleet.
abbrev pub plans_first : List Line → List Made
plans_first lines = map (λ plan. PlannedAhead (0, plan)) (reverse (filter_map plan_of lines))

-- Holds if the first of these limits were set in their order, and no others.
pub record SetsSome (settings : List Control) (past : List Event) : Type 0 where
  pub left : List Control
  pub whole : set_in past ++ left ≡ settings

-- Holds of a player that set the first of these limits, and no others, in a race of these lines. Meanwhile no client
-- entered a line, nothing was heard, and the run didn't end. So if limits were set before each call, they still are.
pub record SetsLimits (script : List Line) (limits : List Control) (old new : Playing) : Type 0 where
  pub grows : Extends old.past new.past
  pub races : (run : Event) → Races run script old.past → Races run script new.past
  pub settings : SetsSome (set_in old.past ++ limits) new.past
  pub first : (many : ℕ) → are_set_first many old.past ≡ true → are_set_first many new.past ≡ true
  pub unheard : HearsNothing old.past new.past
  pub ended : has_ended new.past ≡ has_ended old.past
  pub trimmed : new.trimmed ≡ old.trimmed
  pub legal : Legal new.past

-- Is true if the client has a call without a reply, or has entered all of these lines, the newest first.
abbrev pub is_busy_or_done : List Line → List Event → ℕ → Bool
is_busy_or_done newest past client =
    not (is_free past client) || is_empty (drop (made_by past client) (lines_of newest client))

-- Is true if the run, if it has ended, ended after all limits of these lines were set. Each client had a call without a
-- reply then, or had entered all of its lines.
abbrev pub ends_last : List Line → List Event → Bool
ends_last lines [] = true
ends_last lines (Ended ∷ past) =
    (length (set_in past) == length (settings_of lines))
    && list_all (is_busy_or_done (reverse lines) past) (clients (reverse lines))
ends_last lines (_ ∷ past) = ends_last lines past

-- Holds if a race carried these lines out, the oldest first. From the run's first event on each client's lines were
-- entered in their order, each once, and each call has its reply. The limits of the lines were set in their order, and
-- no others. No line of a race holds a call. The limits before the first line of a client were set before any call
-- entered. The run ended after that.
pub record RacesThrough (run : Event) (lines : List Line) (past : List Event) : Type 0 where
  pub all : RacesAll run lines past
  pub settings : set_in past ≡ settings_of lines
  pub first : are_set_first (length (settings_first lines)) past ≡ true
  pub last : ends_last lines past ≡ true

-- Holds if a race had to stop in these lines. Each client's lines that were entered are its first ones, in their order,
-- each once. The limits that were set are the first ones, in their order. No line of a race holds a call. No call
-- entered before the limits that stand before the first line of a client were set. The run, if it ended, ended last.
pub record RacesInPart (run : Event) (lines : List Line) (past : List Event) : Type 0 where
  pub some : Races run lines past
  pub settings : SetsSome (settings_of lines) past
  pub first : are_set_first (length (settings_first lines)) past ≡ true
  pub last : ends_last lines past ≡ true
