-- Defines the moments of a run: what happened, whose step it was, which permits are in flight, and which lines
-- were read.
use Rattle.std.specs.Prelude.{ℕ, ◌==◌, ◌-◌, Bool, true, false, not, ◌&&◌, ◌||◌, cond, List, [], ◌∷◌, ◌++◌, drop, slice_index_or, Option, Some}
use Rattle.dsql_history.specs.journal.Readers.{is_empty}
use Rattle.dsql_history.specs.journal.Kinds.{number_of}
use Rattle.dsql_history.specs.pool.declared.conn.Place.{Place}
use Rattle.dsql_history.specs.pool.declared.conn.Place.TheVariants.{Lent, Opening}
use Rattle.dsql_history.specs.pool.declared.moves.Move.{Move}
use Rattle.dsql_history.specs.pool.declared.moves.Move.TheVariants.{OpenStart, Lend, Back, CloseStart}
use Rattle.dsql_history.specs.declared.event.Event.{Event}
use Rattle.dsql_history.specs.declared.event.Event.TheVariants.{Entered, Heard, Pool, Waits, Replied}
use Rattle.dsql_history.specs.declared.record.Flight.{Flight}
use Rattle.dsql_history.specs.Readers.Pool.{place}
use Rattle.dsql_history.specs.Readers.Owed.{owed}
use Rattle.dsql_history.specs.Readers.Calls.{rests}
use Rattle.dsql_history.specs.Rules.Course.{is_run, is_from_outside}
use Rattle.dsql_history.specs.Rules.Flights.{permitted, without_flight}
use Rattle.dsql_history.specs.Rules.Stands.{stand}
use Rattle.dsql_follows.specs.declared.line.Line.{Line}
use Rattle.dsql_follows.specs.declared.line.Line.TheVariants.{Skip, Client, Start}
use Rattle.dsql_history.specs.Readers.Clients.{made_by}

-- A moment of a run. Its events and the lines that were read are newest first. The newest event belongs to a
-- step of the call `stepper`, or of the layer or a line if that is 0. At the script's end the calls that were
-- held are released.
pub record Moment : Type 0 where
  pub past : List Event
  pub stepper : ℕ
  pub flights : List Flight
  pub lines : List Line
  pub released : Bool

-- Returns the moment right after the run began, at which no line was read.
abbrev pub just_begun : Event → Moment
just_begun run = record { past = run ∷ []; stepper = 0; flights = []; lines = []; released = false }

-- Returns the moment after the line is read.
abbrev pub met : Line → Moment → Moment
met line m = record m { lines = line ∷ m.lines }

-- Returns the moment at the script's end.
abbrev pub at_end : Moment → Moment
at_end m = record m { released = true }

-- Steps.

-- Returns the call whose step it is as a connection in this place leaves its call. It is that call if it rested,
-- otherwise the call whose step was under way.
abbrev pub leaver : List Event → ℕ → Option Place → ℕ
leaver past m (Some (Lent tenure owner)) = cond (rests past (number_of owner)) (number_of owner) m
leaver past m (Some (Opening (Some owner))) = cond (rests past (number_of owner)) (number_of owner) m
leaver past m _ = m

-- Returns the call whose step it is at a move that the pool doesn't owe. It is a call that asks, or that gives
-- back the connection with which it rested. Otherwise it is the call whose step was under way.
abbrev pub mover : List Event → ℕ → Move → ℕ
mover past m (OpenStart c n) = n
mover past m (Lend c tenure owner n) = n
mover past m (Back c) = leaver past m (place past c)
mover past m (CloseStart c cause) = leaver past m (place past c)
mover past m move = m

-- Returns the call whose step it is at this event. A call asks and replies in its own steps alone. A move that
-- the pool owes belongs to the step that made it due.
abbrev pub stepping : Moment → Event → ℕ
stepping m (Entered client n op) = n
stepping m (Heard e) = e.call_no
stepping m (Waits n) = n
stepping m (Replied n reply) = n
stepping m (Pool move) = cond (is_empty (owed m.past)) (mover m.past m.stepper move) m.stepper
stepping m _ = 0

-- Is true if a step begins with this event. The run begins, the event comes from outside, or a call goes on whose step
-- wasn't under way. The moment right before it is a free one.
abbrev pub begins_step : Moment → Event → Bool
begins_step m e = is_run e || (is_from_outside e || not (stepping m e == m.stepper))

-- Flights.

abbrev pub takes_permit : ℕ → Moment → Moment
takes_permit n m = record m { flights = permitted n (stand m.past n) m.flights }

-- Returns the free moment, at which the permit of the call that stepped last is in flight, if one is due.
abbrev pub at_rest : Moment → Moment
at_rest m = takes_permit m.stepper m

-- Returns the flights after this event. A permit is in flight until its answer is heard.
abbrev pub landed : Event → List Flight → List Flight
landed (Heard e) flights = without_flight e.call_no flights
landed _ flights = flights

abbrev pub with_event : Event → Moment → Moment
with_event e m = record m { past = e ∷ m.past; stepper = stepping m e; flights = landed e m.flights }

-- Walks over events.

-- An event, and the moment right before it, which is a free one if a step begins with the event.
pub record Passed : Type 0 where
  pub event : Event
  pub before : Moment
  pub begins : Bool

-- The moment after some events, and the events, newest first.
pub record Walk : Type 0 where
  pub now : Moment
  pub passed : List Passed

abbrev pub passes : Event → Bool → Moment → List Passed → Walk
passes e begins m passed =
    record { now = with_event e m; passed = record { event = e; before = m; begins = begins } ∷ passed }

-- Returns the moment right before an event, which is a free one if a step begins with the event.
abbrev pub rested : Bool → Moment → Moment
rested begins m = record m { flights = cond begins (at_rest m).flights m.flights }

abbrev pub goes_over : Event → Bool → Walk → Walk
goes_over e begins w = passes e begins (rested begins w.now) w.passed

abbrev pub with_next : Event → Walk → Walk
with_next e w = goes_over e (begins_step w.now e) w

-- Returns the walk from this moment over these events, newest first.
abbrev pub walk : Moment → List Event → Walk
walk m [] = record { now = m; passed = [] }
walk m (e ∷ rest) = with_next e (walk m rest)

-- Returns the free moment after these events.
abbrev pub after_events : Moment → List Event → Moment
after_events m events = at_rest (walk m events).now

-- Kept lines and held calls.

abbrev pub is_line_of : ℕ → Line → Bool
is_line_of client (Client k op) = k == client
is_line_of client (Start k op) = k == client
is_line_of client line = false

-- Returns the client's calls as the script has them, oldest first.
abbrev pub lines_of : List Line → ℕ → List Line
lines_of [] client = []
lines_of (line ∷ earlier) client =
    cond (is_line_of client line) (lines_of earlier client ++ line ∷ []) (lines_of earlier client)

-- Returns the client's lines that are kept because they haven't entered yet, oldest first.
abbrev pub kept : Moment → ℕ → List Line
kept m client = drop (made_by m.past client) (lines_of m.lines client)

-- Returns the line of the call that the client made last.
abbrev pub last_entered : Moment → ℕ → Line
last_entered m client = slice_index_or (lines_of m.lines client) (made_by m.past client - 1) Skip

abbrev pub is_start : Line → Bool
is_start (Start client op) = true
is_start _ = false

-- Is true if the client's call is held: a start line made it, and the script isn't at its end.
abbrev pub is_held : Moment → ℕ → Bool
is_held m client = not m.released && is_start (last_entered m client)
