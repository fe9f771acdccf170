-- Defines races, in which clients enter their lines on threads of their own. Says which entries follow the lines, and
-- at which moment a player stands between its steps.
use Rattle.std.specs.Prelude.{ℕ, ◌≡◌, true, List, [], ◌∷◌, ◌++◌, reverse}
use Rattle.dsql_engine_laws.specs.history.declared.event.Event.{Event}
use Rattle.dsql_engine_laws.specs.follows.declared.line.Line.{Line}
use Rattle.dsql_engine_laws.specs.follows.Moments.{Moment}
use Rattle.dsql_engine_laws.specs.follows.Sentences.{enters_in_order}
use Rattle.dsql_engine_laws.specs.follows.Follows.{leaves_nothing}
use Rattle.dsql_player.specs.Playing.{Playing}

-- Returns the moment of a race at which its run has just begun. The lines, oldest first, were all read, and no call is
-- held.
abbrev pub raced : Event → List Line → Moment
raced run lines = record { past = run ∷ []; stepper = 0; flights = []; lines = reverse lines; released = true }

-- Returns the moment of a race at which the player stands. Steps of different calls may follow each other in any
-- order, so it is nobody's step.
abbrev pub resting : List Line → Playing → Moment
resting lines p = record { past = p.past; stepper = 0; flights = p.flights; lines = reverse lines; released = true }

-- Holds of each step, whatever its first event is.
abbrev pub IsAnyStep : Event → ℕ → Type 0
IsAnyStep first call = Unit {0}

-- Holds if the run began with this event, and each client entered its lines in their order since then. A call that
-- enters is the first of its client's lines that hasn't entered yet, and the client is free.
pub record Races (run : Event) (lines : List Line) (past : List Event) : Type 0 where
  pub events : List Event
  pub is : past ≡ events ++ run ∷ []
  pub ordered : enters_in_order (raced run lines) events ≡ true

-- Holds if every line was entered too, and each call has its reply.
pub record RacesAll (run : Event) (lines : List Line) (past : List Event) : Type 0 where
  pub races : Races run lines past
  pub done : leaves_nothing (raced run lines) races.events ≡ true
