-- Defines the parts of lines while they are played.
use Rattle.std.specs.Prelude.{◌≡◌, ℕ, ◌≤◌, true, cond, List, length}
use Rattle.dsql_laws_calls.specs.history.declared.event.Event.{Event}
use Rattle.dsql_laws_calls.specs.history.Readers.Clients.{made_by}
use Rattle.dsql_follows.specs.declared.line.Line.{Line}
use Rattle.dsql_follows.specs.Moments.{Moment, at_end, lines_of, met}
use Rattle.dsql_follows.specs.Follows.{FollowsLine}
use Rattle.dsql_follows.specs.Sentences.{Part, after_part, come_in_turn, enters_at_once, has_own_step, later, passed, sets_at_once}
use Rattle.dsql_laws_steps.specs.Whole.{Steps}

-- Holds if the line's own step came first in its part, if the line has one.
pub record BeginsAsItShould (m : Moment) (part : Part) : Type 0 where
  pub entered : enters_at_once m part ≡ true
  pub set : sets_at_once m part ≡ true

-- Holds if the events are the part, so far, of a line that runs on: whole steps, each in its turn. The line's
-- own step is exempt and comes first.
pub record RunsOn (m : Moment) (line : Line) (events : List Event) (now : Moment) : Type 0 where
  pub steps : Steps (met line m) events now
  pub begins : BeginsAsItShould m (record { line = line; events = events })
  pub in_turn : come_in_turn (cond (has_own_step m line) (later (passed (met line m) events))
      (passed (met line m) events)) ≡ true

-- Holds if the events are the part, so far, of the script's end: whole steps, each in its turn.
pub record RunsToEnd (m : Moment) (events : List Event) (now : Moment) : Type 0 where
  pub steps : Steps (at_end m) events now
  pub in_turn : come_in_turn (passed (at_end m) events) ≡ true

-- Holds if these events follow the line and lead to this moment.
abbrev pub FollowsTo : Moment → Line → List Event → Moment → Type 0
FollowsTo m line events now =
    FollowsLine m (record { line = line; events = events })
    × (after_part m (record { line = line; events = events }) ≡ now)

-- Holds if each client has at least as many lines as it has made calls, so that a line of its client made every
-- call.
abbrev pub AllMade : Moment → Type 0
AllMade m = (client : ℕ) → made_by m.past client ≤ length (lines_of m.lines client)
