-- Defines when a history follows the lines of a script.
use Rattle.std.specs.Prelude.{◌≡◌, Bool, true, ◌&&◌, List, [], ◌∷◌, ◌++◌, map}
use Rattle.std.specs.List.{list_all}
use Rattle.dsql_history.specs.journal.Readers.{is_empty}
use Rattle.dsql_history.specs.declared.event.Event.{Event}
use Rattle.dsql_history.specs.Readers.Course.{has_ended}
use Rattle.dsql_history.specs.Rules.Course.{is_run}
use Rattle.dsql_follows.specs.declared.line.Line.{Line}
use Rattle.dsql_history.specs.Readers.Clients.{is_free}
use Rattle.dsql_follows.specs.Moments.{Moment, just_begun, met, at_end, after_events, kept}
use Rattle.dsql_follows.specs.Turns.{clients, has_run_out}
use Rattle.dsql_follows.specs.Sentences.{Part, after_part, passed, begins_with_step, makes_whole_steps, enters_in_order, come_in_turn, enters_at_once, sets_at_once, starts_alone, steps_once, tidies_once, runs_in_turn, runs_out}

-- A run: its first event, its lines with their parts, the last line first, and the part of the script's end.
-- Events are newest first.
pub record Played : Type 0 where
  pub run : Event
  pub parts : List Part
  pub last : List Event

-- Returns the events of the run and of these parts.
abbrev pub told : Event → List Part → List Event
told run [] = run ∷ []
told run (part ∷ earlier) = part.events ++ told run earlier

-- Returns the whole history, newest first.
abbrev pub history : Played → List Event
history it = it.last ++ told it.run it.parts

-- Returns the lines of the script, the last line first.
abbrev pub script : Played → List Line
script it = map (λ part. part.line) it.parts

-- Returns the free moment after these parts.
abbrev pub after : Event → List Part → Moment
after run [] = just_begun run
after run (part ∷ earlier) = after_part (after run earlier) part

-- Holds if these events are whole steps that enter lines in their order. The moment is the one after a line is
-- read, or at the script's end.
pub record MakesSteps (m : Moment) (events : List Event) : Type 0 where
  pub begins : begins_with_step m events ≡ true
  pub whole : makes_whole_steps m events ≡ true
  pub ordered : enters_in_order m events ≡ true

-- Holds if this part, after this moment, follows its line.
pub record FollowsLine (m : Moment) (part : Part) : Type 0 where
  pub steps : MakesSteps (met part.line m) part.events
  pub entered : enters_at_once m part ≡ true
  pub set : sets_at_once m part ≡ true
  pub started : starts_alone m part ≡ true
  pub stepped : steps_once m part ≡ true
  pub tidied : tidies_once m part ≡ true
  pub in_turn : runs_in_turn m part ≡ true
  pub run_out : runs_out m part ≡ true

-- The part of the script's end. The moment before it is `m`.

-- Is true if each step of the end comes in its turn. Calls that were held go on like all others until nobody
-- may go on. Then the run ends, and the rest goes on in turn.
abbrev pub ends_in_turn : Moment → List Event → Bool
ends_in_turn m events = come_in_turn (passed (at_end m) events)

-- Returns the free moment after the end's part.
abbrev pub over : Moment → List Event → Moment
over m events = after_events (at_end m) events

-- Is true if the end's part goes on until nobody may go on.
abbrev pub ends_run_out : Moment → List Event → Bool
ends_run_out m events = has_run_out (over m events)

abbrev pub ends_the_run : Moment → List Event → Bool
ends_the_run m events = has_ended (over m events).past

abbrev pub is_done : Moment → Bool
is_done m = list_all (λ client. is_free m.past client && is_empty (kept m client)) (clients m.lines)

-- Is true if every line was entered and each call has its reply.
abbrev pub leaves_nothing : Moment → List Event → Bool
leaves_nothing m events = is_done (over m events)

-- Holds if these events, after this moment, are the part of the script's end.
pub record FollowsEnd (m : Moment) (events : List Event) : Type 0 where
  pub steps : MakesSteps (at_end m) events
  pub in_turn : ends_in_turn m events ≡ true
  pub run_out : ends_run_out m events ≡ true
  pub ended : ends_the_run m events ≡ true
  pub done : leaves_nothing m events ≡ true

-- Holds if the run has begun with this event, and each part follows its line.
abbrev pub FollowsLines : Event → List Part → Type 0
FollowsLines run [] = is_run run ≡ true
FollowsLines run (part ∷ earlier) = FollowsLines run earlier × FollowsLine (after run earlier) part

pub record Follows (it : Played) : Type 0 where
  pub lines : FollowsLines it.run it.parts
  pub end : FollowsEnd (after it.run it.parts) it.last

-- The same definitions as tests.

abbrev pub makes_steps : Moment → List Event → Bool
makes_steps m events = begins_with_step m events && (makes_whole_steps m events && enters_in_order m events)

abbrev pub follows_line : Moment → Part → Bool
follows_line m part =
    makes_steps (met part.line m) part.events
    && (enters_at_once m part
    && (sets_at_once m part
    && (starts_alone m part
    && (steps_once m part && (tidies_once m part && (runs_in_turn m part && runs_out m part))))))

abbrev pub follows_end : Moment → List Event → Bool
follows_end m events =
    makes_steps (at_end m) events
    && (ends_in_turn m events && (ends_run_out m events && (ends_the_run m events && leaves_nothing m events)))

-- A moment, with a flag that is true if all events before it followed.
pub record Judged : Type 0 where
  pub moment : Moment
  pub fine : Bool

abbrev pub judge_line : Part → Judged → Judged
judge_line part j = record { moment = after_part j.moment part; fine = j.fine && follows_line j.moment part }

abbrev pub judged : Event → List Part → Judged
judged run [] = record { moment = just_begun run; fine = is_run run }
judged run (part ∷ earlier) = judge_line part (judged run earlier)

abbrev pub ends_well : List Event → Judged → Bool
ends_well events j = j.fine && follows_end j.moment events

-- Is true if the parts follow their lines, and the last part follows the script's end.
abbrev pub follows : Played → Bool
follows it = ends_well it.last (judged it.run it.parts)
