-- When a history follows the lines of a script.
use Rattle.std.specs.Prelude.{◌≡◌, ◌⊎◌, true, List, ◌∷◌, ◌++◌, reverse, map}
use Rattle.dsql_hall.specs.history.declared.event.Event.{Event}
use Rattle.dsql_hall.specs.follows.declared.line.Line.{Line}
use Rattle.dsql_hall.specs.follows.Moments.{met, at_end}
use Rattle.dsql_hall.specs.follows.Sentences.{Part, runs_in_turn}
use Rattle.dsql_hall.specs.follows.Follows.{Played, MakesSteps, FollowsLines, Follows, ends_in_turn, after, told, script, history}
use Rattle.dsql_hall.specs.player.Carried.{IsBeginningOf, part}

-- Returns the lines of these parts, the last one first.
abbrev pub lines_of : List Part → List Line
lines_of parts = map (λ part. part.line) parts

-- Holds if this history, from the run's first event on, follows these lines, the oldest first, and the script's
-- end.
pub record FollowsAll (run : Event) (lines : List Line) (past : List Event) : Type 0 where
  pub played : Played
  pub begins : played.run ≡ run
  pub follows : Follows played
  pub is_of : script played ≡ reverse lines
  pub is : history played ≡ past

-- Holds if these lines, the oldest first, were carried out, and nothing more happened.
pub record FollowsSoFar (run : Event) (lines : List Line) (parts : List Part) (past : List Event) : Type 0 where
  pub follows : FollowsLines run parts
  pub is_of : lines_of parts ≡ reverse lines
  pub is : past ≡ told run parts

-- Holds if the run stopped in the last of the lines. The part of that line is a beginning of what the line asks
-- for, in whole steps.
pub record StopsInLast (run : Event) (lines : List Line) (parts : List Part) (more : List Event) : Type 0 where
  pub line : Line
  pub is_of : reverse lines ≡ line ∷ lines_of parts
  pub begins : IsBeginningOf (after run parts) line more
  pub steps : MakesSteps (met line (after run parts)) more
  pub in_turn : runs_in_turn (after run parts) (part line more) ≡ true

-- Holds if the run stopped in the script's end, or before any of it.
pub record StopsInTheEnd (run : Event) (lines : List Line) (parts : List Part) (more : List Event) : Type 0 where
  pub is_of : lines_of parts ≡ reverse lines
  pub steps : MakesSteps (at_end (after run parts)) more
  pub in_turn : ends_in_turn (after run parts) more ≡ true

-- Holds if a run had to stop: its history follows the lines before. After their parts come whole steps of the
-- last line, or of the script's end.
pub record StopsShort (run : Event) (lines : List Line) (past : List Event) : Type 0 where
  pub parts : List Part
  pub more : List Event
  pub follows : FollowsLines run parts
  pub is : past ≡ more ++ told run parts
  pub stops : StopsInLast run lines parts more ⊎ StopsInTheEnd run lines parts more
