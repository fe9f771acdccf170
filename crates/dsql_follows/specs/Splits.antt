-- Defines how to find the parts from a script and a history alone. The events before a line settle its part. The part
-- of a single step is one step or none. A line that runs on does so exactly until nobody has the turn. So the events
-- are dealt out to the lines, oldest first.
use Rattle.std.specs.Prelude.{Bool, true, false, Option, Some, ℕ, not, ◌&&◌, ◌||◌, cond, List, [], ◌∷◌, reverse, is_some}
use Rattle.dsql_history.specs.declared.record.Stand.{Stand}
use Rattle.dsql_history.specs.declared.record.Stand.TheVariants.{Sends}
use Rattle.dsql_history.specs.journal.Readers.{is_empty}
use Rattle.dsql_history.specs.declared.event.Event.{Event}
use Rattle.dsql_history.specs.Rules.Stands.{stand}
use Rattle.dsql_follows.specs.declared.line.Line.{Line}
use Rattle.dsql_follows.specs.declared.line.Line.TheVariants.{Start, Step, StepHouse}
use Rattle.dsql_history.specs.Readers.Clients.{call_of, is_free}
use Rattle.dsql_history.specs.Rules.Flights.{is_in_flight}
use Rattle.dsql_follows.specs.Moments.{Moment, just_begun, met, begins_step, at_rest, rested, with_event, kept}
use Rattle.dsql_follows.specs.Turns.{can_move, first_chore, has_run_out}
use Rattle.dsql_follows.specs.Sentences.{Part, after_part, enters_now, has_own_step, runs_on}
use Rattle.dsql_follows.specs.Follows.{Played}

abbrev pub is_sending : Option Stand → Bool
is_sending (Some (Sends c)) = true
is_sending _ = false

-- Is true if the history shows a step of the call: its answer is heard, or it goes on and doesn't only send.
abbrev pub shows : Moment → ℕ → Bool
shows m n = is_in_flight n m.flights || (can_move m n && not (is_sending (stand m.past n)))

-- Is true if the line's part begins with a step that is settled before it. That is the line's own step, or the single
-- step that it asks for.
abbrev pub begins_at_once : Moment → Line → Bool
begins_at_once m (Start client op) = enters_now m client
begins_at_once m (Step client) =
    cond (is_free m.past client) (not (is_empty (kept m client))) (shows m (call_of m.past client))
begins_at_once m StepHouse = is_some (first_chore m)
begins_at_once m line = has_own_step m line

-- The events of a part so far, newest first, and the remaining events, oldest first.
pub record Taken : Type 0 where
  pub part : List Event
  pub left : List Event

-- Is true if the part takes no more events. A step would begin with this event, and no step has to come at once. The
-- line doesn't run on, or has run out.
abbrev pub is_full : Bool → Bool → Moment → Event → Bool
is_full runs at_once m e = begins_step m e && (not at_once && (not runs || has_run_out (at_rest m)))

abbrev pub on : Moment → Event → Moment
on m e = with_event e (rested (begins_step m e) m)

-- Returns the part after it takes events until it is full. The flag `at_once` is true if a step has to come at
-- once.
abbrev pub take_part : Bool → Bool → Moment → List Event → List Event → Taken
take_part runs at_once m part [] = record { part = part; left = [] }
take_part runs at_once m part (e ∷ later) =
    elim (is_full runs at_once m e) as
    (λ it. Taken) [
      | true ↦ record { part = part; left = e ∷ later }
      | false ↦ take_part runs false (on m e)
          (e ∷ part) later
    ]

-- The result so far: the moment after the events that are dealt out, the parts, newest first, and the remaining
-- events, oldest first.
pub record Dealt : Type 0 where
  pub moment : Moment
  pub parts : List Part
  pub left : List Event

abbrev pub gives : Part → List Event → Dealt → Dealt
gives part left d = record { moment = after_part d.moment part; parts = part ∷ d.parts; left = left }

abbrev pub gives_taken : Line → Taken → Dealt → Dealt
gives_taken line taken d = gives (record { line = line; events = taken.part }) taken.left d

abbrev pub deal_line : Line → Dealt → Dealt
deal_line line d =
    gives_taken line (take_part (runs_on line) (begins_at_once d.moment line) (met line d.moment) [] d.left) d

-- Returns the result after dealing events to these lines, oldest first.
abbrev pub deal : List Line → Dealt → Dealt
deal [] d = d
deal (line ∷ lines) d = deal lines (deal_line line d)

abbrev pub as_played : Event → Dealt → Played
as_played run d = record { run = run; parts = d.parts; last = reverse d.left }

-- Returns the parts of a history for the lines of a script. The history is this first event and these later
-- ones. The arguments are all oldest first.
abbrev pub split : List Line → Event → List Event → Played
split lines run events = as_played run (deal lines (record { moment = just_begun run; parts = []; left = events }))
