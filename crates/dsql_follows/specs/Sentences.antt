-- Defines the sentences that a part has to satisfy, one by one. Events are newest first.
use Rattle.std.specs.Prelude.{ℕ, ◌==◌, Bool, true, false, not, ◌&&◌, ◌||◌, cond, List, [], ◌∷◌, Option, Some, None, is_none}
use Rattle.std.specs.List.{list_all}
use Rattle.std.specs.Ordering.{int_eq}
use Rattle.dsql_history.specs.journal.Readers.{is_empty}
use Rattle.dsql_history.specs.declared.event.Op.{Op}
use Rattle.dsql_history.specs.declared.event.Event.{Event}
use Rattle.dsql_history.specs.declared.event.Event.TheVariants.{Entered, Heard, Ticked, SetLimit}
use Rattle.dsql_history.specs.declared.event.Control.{Control}
use Rattle.dsql_history.specs.declared.event.Control.TheVariants.{Tick, Set}
use Rattle.dsql_history.specs.declared.record.Stand.{Stand}
use Rattle.dsql_history.specs.declared.record.Stand.TheVariants.{Sends}
use Rattle.dsql_history.specs.Rules.Course.{is_from_outside}
use Rattle.dsql_history.specs.Rules.Stands.{stand}
use Rattle.dsql_follows.specs.declared.line.Line.{Line}
use Rattle.dsql_follows.specs.declared.line.Line.TheVariants as lines
use Rattle.dsql_follows.specs.declared.line.Line.TheVariants.{Client, Start, Step, StepHouse}
use Rattle.dsql_follows.specs.Same.{same_op, same_setting}
use Rattle.dsql_history.specs.Readers.Clients.{call_of, is_free}
use Rattle.dsql_history.specs.Readers.Controls.{taken}
use Rattle.dsql_history.specs.declared.record.Flight.{Flight}
use Rattle.dsql_history.specs.Rules.Flights.{is_in_flight}
use Rattle.dsql_follows.specs.Moments.{Moment, Passed, met, stepping, begins_step, takes_permit, walk, after_events, kept}
use Rattle.dsql_follows.specs.Turns.{can_move, first_chore, is_chore, comes_in_turn, has_run_out}

-- Steps. Here `m` is the moment after the line is read, or at the script's end. These events follow it.

abbrev pub passed : Moment → List Event → List Passed
passed m events = (walk m events).passed

-- Returns the oldest event, if any.
abbrev pub oldest : List Passed → Option Passed
oldest [] = None
oldest (p ∷ []) = Some p
oldest (p ∷ earlier) = oldest earlier

-- Returns all events except the oldest one.
abbrev pub later : List Passed → List Passed
later [] = []
later (p ∷ []) = []
later (p ∷ earlier) = p ∷ later earlier

abbrev pub begins : Option Passed → Bool
begins None = true
begins (Some p) = p.begins

-- Is true if the oldest event begins a step, so that each event of the part belongs to a step that begins in
-- it.
abbrev pub begins_with_step : Moment → List Event → Bool
begins_with_step m [] = true
begins_with_step m (e ∷ []) = begins_step m e
begins_with_step m (e ∷ earlier) = begins_with_step m earlier

-- Is true if, at this free moment, the call that stepped last can go no further. It has its reply, its permit is in
-- flight, or it is blocked.
abbrev pub is_whole : Moment → Bool
is_whole m = is_in_flight m.stepper m.flights || not (can_move m m.stepper)

-- Is true if each step was whole before another began.
abbrev pub were_whole : List Passed → Bool
were_whole events = list_all (λ p. not p.begins || is_whole p.before) events

-- Is true if each step goes as far as it can.
abbrev pub makes_whole_steps : Moment → List Event → Bool
makes_whole_steps m events = were_whole (passed m events) && is_whole (after_events m events)

-- Is true if the first of these lines makes this operation.
abbrev pub is_next : Op → List Line → Bool
is_next op (Client client it ∷ later) = same_op op it
is_next op (Start client it ∷ later) = same_op op it
is_next op _ = false

abbrev pub may_enter : Moment → Event → Bool
may_enter m (Entered client n op) = is_free m.past client && is_next op (kept m client)
may_enter m _ = true

-- Is true if the lines of each client enter in their order, each once. A call that enters is the first of its
-- client's lines that hasn't entered yet, and the client is free.
abbrev pub enters_in_order : Moment → List Event → Bool
enters_in_order m events = list_all (λ p. may_enter p.before p.event) (passed m events)

-- Is true if each step comes in its turn.
abbrev pub come_in_turn : List Passed → Bool
come_in_turn events = list_all (λ p. not p.begins || comes_in_turn p.before p.event) events

-- Parts of lines. Here `m` is the moment before the line.

-- A line of the script with the events of its part.
pub record Part : Type 0 where
  pub line : Line
  pub events : List Event

-- Returns the events of the part, each with the moment before it.
abbrev pub passed_in : Moment → Part → List Passed
passed_in m part = passed (met part.line m) part.events

abbrev pub woken_flights : Moment → Line → Moment → List Flight
woken_flights before (Step client) m =
    cond (can_move before (call_of before.past client)) (takes_permit (call_of before.past client) m).flights m.flights
woken_flights before _ m = m.flights

-- Returns the moment after the line wakes a call. A step of a client whose call could move before it gives that
-- call its permit, if one is due.
abbrev pub woken : Moment → Line → Moment → Moment
woken before line m = record m { flights = woken_flights before line m }

-- Returns the free moment after a line and its part.
abbrev pub after_part : Moment → Part → Moment
after_part m part = woken m part.line (after_events (met part.line m) part.events)

-- Is true if the events are exactly one step.
abbrev pub is_one_step : List Passed → Bool
is_one_step events = not (is_empty events) && (begins (oldest events) && list_all (λ p. not p.begins) (later events))

-- Is true if a line of the client would enter at its own place: the client is free and has no kept line.
abbrev pub enters_now : Moment → ℕ → Bool
enters_now m client = is_free m.past client && is_empty (kept m client)

abbrev pub enters_for : ℕ → Event → Bool
enters_for client (Entered k n op) = k == client
enters_for client _ = false

abbrev pub is_entry_of : ℕ → Option Passed → Bool
is_entry_of client None = false
is_entry_of client (Some p) = enters_for client p.event

abbrev pub enters_first : Moment → ℕ → Part → Bool
enters_first m client part = not (enters_now m client) || is_entry_of client (oldest (passed_in m part))

abbrev pub enters_at : Moment → Part → Line → Bool
enters_at m part (Client client op) = enters_first m client part
enters_at m part (Start client op) = enters_first m client part
enters_at m part line = true

-- Is true unless a client's line should enter at its own place and doesn't. If the client is free and has no
-- kept line, the part begins with the line's entry.
abbrev pub enters_at_once : Moment → Part → Bool
enters_at_once m part = enters_at m part part.line

-- Is true if the event sets this limit or this moment.
abbrev pub is_told : Control → Event → Bool
is_told (Tick now) (Ticked moment) = now == moment
is_told (Set setting n) (SetLimit it k) = same_setting setting it && int_eq n k
is_told _ _ = false

abbrev pub is_set_in : Control → Option Passed → Bool
is_set_in control None = false
is_set_in control (Some p) = is_told (taken p.before.past control) p.event

abbrev pub sets_at : List Passed → Line → Bool
sets_at events (lines.Control control) = is_set_in control (oldest events)
sets_at events line = true

-- Is true unless the line sets a limit or the moment, and its part doesn't begin with that. Time never goes
-- back: a moment before the present one counts as the present one.
abbrev pub sets_at_once : Moment → Part → Bool
sets_at_once m part = sets_at (passed_in m part) part.line

-- Single steps.

abbrev pub starts_at : Moment → List Passed → Line → Bool
starts_at m events (Start client op) = cond (enters_now m client) (is_one_step events) (is_empty events)
starts_at m events line = true

-- Is true unless the line holds its call, and its part isn't the step in which the call enters. No answer is
-- heard in that step. If the line is kept, its part is empty.
abbrev pub starts_alone : Moment → Part → Bool
starts_alone m part = starts_at m (passed_in m part) part.line

abbrev pub is_answer_to : ℕ → Event → Bool
is_answer_to n (Heard e) = e.call_no == n
is_answer_to n _ = false

abbrev pub hears : ℕ → Option Passed → Bool
hears n None = false
hears n (Some p) = is_answer_to n p.event

-- Is true if call n goes on by itself at this event.
abbrev pub goes_on_by_itself : ℕ → Option Passed → Bool
goes_on_by_itself n None = false
goes_on_by_itself n (Some p) = not (is_from_outside p.event) && (stepping p.before p.event == n)

-- Is true if these events are how call n goes on, which can move and stands so. If a driver call of it is due,
-- it only sends, and the history shows nothing of that.
abbrev pub wakes : ℕ → List Passed → Option Stand → Bool
wakes n events (Some (Sends c)) = is_empty events
wakes n events it = is_one_step events && goes_on_by_itself n (oldest events)

abbrev pub steps_call : Moment → List Passed → ℕ → Bool
steps_call m events n =
    cond (is_in_flight n m.flights) (is_one_step events
    && hears n (oldest events)) (cond (can_move m n) (wakes n events (stand m.past n)) (is_empty events))

abbrev pub steps_free : Moment → List Passed → ℕ → Bool
steps_free m events client =
    cond (is_empty (kept m client)) (is_empty events) (is_one_step events && is_entry_of client (oldest events))

abbrev pub steps_at : Moment → List Passed → Line → Bool
steps_at m events (Step client) =
    cond (is_free m.past client) (steps_free m events client) (steps_call m events (call_of m.past client))
steps_at m events line = true

-- Is true unless the line asks for a single step of a client, and its part isn't that step.
--
-- - If the client's call has a permit in flight, its answer is heard.
-- - Otherwise, if the call can move, it goes on. The history shows that unless the call only sends.
-- - A free client enters its first kept line.
-- - Otherwise there is nothing to do, and the part is empty.
abbrev pub steps_once : Moment → Part → Bool
steps_once m part = steps_at m (passed_in m part) part.line

abbrev pub is_chore_of : Moment → Event → Bool
is_chore_of m (Heard e) = is_chore m e
is_chore_of m _ = false

abbrev pub carries : Moment → Option Passed → Bool
carries m None = false
carries m (Some p) = is_chore_of m p.event

abbrev pub tidies_at : Moment → List Passed → Line → Bool
tidies_at m events StepHouse =
    cond (is_none (first_chore m)) (is_empty events) (is_one_step events && carries m (oldest events))
tidies_at m events line = true

-- Is true unless the line asks for a single step of the layer, and its part isn't the first chore. If there is
-- no chore, the part is empty.
abbrev pub tidies_once : Moment → Part → Bool
tidies_once m part = tidies_at m (passed_in m part) part.line

-- Lines that run on.

-- Is true if everything goes on after the line until nobody may go on.
abbrev pub runs_on : Line → Bool
runs_on (Start client op) = false
runs_on (Step client) = false
runs_on StepHouse = false
runs_on line = true

-- Is true if the line makes a step of its own at once.
abbrev pub has_own_step : Moment → Line → Bool
has_own_step m (lines.Control control) = true
has_own_step m (Client client op) = enters_now m client
has_own_step m line = false

-- Is true unless the line runs on, and a step in its part other than its own comes out of turn. So its part
-- sets no other limit or moment, and doesn't end the run.
abbrev pub runs_in_turn : Moment → Part → Bool
runs_in_turn m part =
    not (runs_on part.line)
    || come_in_turn (cond (has_own_step m part.line) (later (passed_in m part)) (passed_in m part))

-- Is true unless the line runs on, and somebody may go on after its part.
abbrev pub runs_out : Moment → Part → Bool
runs_out m part = not (runs_on part.line) || has_run_out (after_part m part)
