-- How a run goes: what stops it, where the sink fails, and what is written.
use Rattle.std.specs.Prelude.{ℕ, ◌≡◌, ◌⊎◌, Bool, true, false, ◌||◌, List, [], ◌∷◌, Option, IfSome, Result, Ok, Err}
use Rattle.std.specs.List.{list_all}
use Rattle.dsql_hall.specs.driver.declared.caps.Caps.{Caps}
use Rattle.dsql_hall.specs.driver.Wires.{WireTold}
use Rattle.dsql_hall.specs.wire.Journaled.{Journaled}
use Rattle.dsql_hall.specs.history.declared.event.Event.{Event}
use Rattle.dsql_hall.specs.history.Readers.Course.{has_ended}
use Rattle.dsql_hall.specs.follows.declared.line.Line.{Line}
use Rattle.dsql_hall.specs.follows.Moments.{Moment}
use Rattle.dsql_hall.specs.follows.Sentences.{Part}
use Rattle.dsql_hall.specs.follows.Follows.{told}
use Rattle.dsql_hall.specs.player_wires.WiresFit.{WiresFit}
use Rattle.dsql_hall.specs.player.declared.halt.Halt.{Halt}
use Rattle.dsql_hall.specs.player.declared.halt.Halt.TheVariants as halts
use Rattle.dsql_hall.specs.player.Playing.{Playing, IsAt, IsReady}
use Rattle.dsql_script_report.specs.Lines.{text_of}
use Rattle.dsql_script_show.specs.Report.{with_text, ShowsFront, StopsBetween, Shows}
use Rattle.dsql_script_show.specs.declared.showing.ShowFault.{ShowFault}
use Rattle.dsql_script_show.specs.declared.showing.ShowFault.TheVariants as shows
use Rattle.dsql_script_source.specs.Plays.{PlaysBy, saying}
use Rattle.dsql_script_source.specs.Script.{is_skip}
use Rattle.dsql_script_source.specs.declared.stop.Stop.{Stop}
use Rattle.dsql_script_source.specs.declared.stop.Stop.TheVariants.{Read, Write, Memory, Refused, Full}
use Rattle.dsql_run_outcome.specs.Followed.{FollowsAll, lines_of}

-- What stops a run.

-- Returns what stops a run that can't be carried on.
abbrev pub stop_of_halt : Halt → Stop
stop_of_halt halts.Memory = Memory
stop_of_halt halts.Full = Full

-- Returns what stops a run by what stops its race, if anything does.
abbrev pub stop_of : Result Unit Halt → Result Unit Stop
stop_of (Ok done) = Ok tt
stop_of (Err halt) = Err (stop_of_halt halt)

abbrev pub stop_of_show : ShowFault → Stop
stop_of_show shows.Failed = Write
stop_of_show shows.Memory = Memory

-- Holds if this can stop a line as it is carried out and shown.
abbrev pub IsPlayStop : Stop → Type 0
IsPlayStop Read = ⊥
IsPlayStop (Refused number fault) = ⊥
IsPlayStop _ = Unit {0}

-- Holds if this can stop events from being shown.
abbrev pub IsShowStop : Stop → Type 0
IsShowStop Write = Unit {0}
IsShowStop Memory = Unit {0}
IsShowStop _ = ⊥

-- Is true if the run was carried out to its end, whatever stopped its script: it lacked neither memory nor room
-- for its events.
abbrev pub ran_out : Result Unit Stop → Bool
ran_out (Err Memory) = false
ran_out (Err Full) = false
ran_out _ = true

abbrev pub is_write_fault : Result Unit Stop → Bool
is_write_fault (Err Write) = true
is_write_fault _ = false

-- Is true if no write of a run failed that this stopped.
abbrev pub no_write_failed : Result Unit Stop → Bool
no_write_failed (Ok _) = true
no_write_failed (Err Read) = true
no_write_failed (Err (Refused number fault)) = true
no_write_failed _ = false

abbrev pub wanted_memory : Result Unit Stop → Bool
wanted_memory (Err Memory) = true
wanted_memory _ = false

-- Holds if the lines of a script came to an end: at its end, at a refused line, or at a fault of the source.
abbrev pub IsLinesEnd : Result Unit Stop → Type 0
IsLinesEnd (Err Write) = ⊥
IsLinesEnd (Err Memory) = ⊥
IsLinesEnd (Err Full) = ⊥
IsLinesEnd _ = Unit {0}

-- Is true if nothing more may be written.
abbrev pub is_cut : Result Unit Stop → Result Unit Stop → Bool
is_cut played ended = is_write_fault played || wanted_memory ended

-- Returns the stop of a run that was ended, if its last events couldn't be shown.
abbrev pub later_stop : Result Unit Stop → ShowFault → Stop
later_stop ended shows.Memory = Memory
later_stop (Err Full) shows.Failed = Full
later_stop ended shows.Failed = Write

-- Holds if the stop is the same or a later one. A later one is want of memory, or a fault of the sink if the
-- run could be ended with the earlier stop.
abbrev pub Finishes : Result Unit Stop → Result Unit Stop → Type 0
Finishes ended result = (result ≡ ended) ⊎ ((result ≡ Err Memory) ⊎ ((result ≡ Err Write) × (ran_out ended ≡ true)))

-- How a run stands.

-- A run between two lines: the player is at a free moment, the run hasn't ended, and each wire has heard its
-- connection's journal.
pub record Between {W : Type 0} (heard : W
    → Option WireTold) (telling : Bool) (player : Playing) (slots : List (Option (Journaled W))) : Type 0 where
  pub ready : IsReady player
  pub running : has_ended player.past ≡ false
  pub wires : WiresFit heard telling player.past slots
  pub moment : Moment
  pub at : IsAt moment player

-- Where the sink failed.

-- Holds if the sink failed as the events of the last of these parts were written. Everything before that line
-- was written, and not all of the line.
pub record CutInLast (w : Option (List ℕ)) (run : Event) (parts : List Part) (now : Option (List ℕ)) : Type 0 where
  pub part : Part
  pub earlier : List Part
  pub are : parts ≡ part ∷ earlier
  pub written : StopsBetween w (text_of (told run earlier)) (text_of (told run parts)) now

-- Holds if the sink failed as the run's first event was written, before any line that isn't skipped.
pub record CutAtFirst (w : Option (List ℕ)) (run : Event) (parts : List Part) (now : Option (List ℕ)) : Type 0 where
  pub begun : told run parts ≡ run ∷ []
  pub skipped : list_all is_skip (lines_of parts) ≡ true
  pub written : StopsBetween w [] (text_of (run ∷ [])) now

-- Holds if the sink failed before the lines came to an end.
abbrev pub CutAtLine : Option (List ℕ) → Event → List Part → Option (List ℕ) → Type 0
CutAtLine w run parts now = CutInLast w run parts now ⊎ CutAtFirst w run parts now

-- Holds if the sink failed as the end of the run was written. Everything before the end was written, and not
-- all of the end. The lines had come to an end, and the record says what the run had of them. The script is for a race
-- if the flag is true.
pub record CutAtEnd (race : Bool) (before after : Option (List ℕ)) (asked : Option Caps) (lines : List Line)
    (source_failed : Bool) (w : Option (List ℕ)) (rest past : List Event) (now : Option (List ℕ)) : Type 0 where
  pub played : Result Unit Stop
  pub over : IsLinesEnd played
  pub plays : PlaysBy race played before after (saying asked lines)
  pub read : played ≡ Ok tt → IfSome after (λ bytes. bytes ≡ [])
  pub caused : played ≡ Err Read → source_failed ≡ true
  pub written : StopsBetween w (text_of rest) (text_of past) now

-- Holds if the sink failed at a line or at the end of a run whose history follows its lines and the script's
-- end.
pub record CutShort (before after : Option (List ℕ)) (asked : Option Caps) (lines : List Line)
    (source_failed : Bool) (w : Option (List ℕ)) (run : Event) (past : List Event)
    (now : Option (List ℕ)) : Type 0 where
  pub all : FollowsAll run lines past
  pub cut : CutAtLine w run all.played.parts now
      ⊎ CutAtEnd false before after asked lines source_failed w (told run all.played.parts) past now

-- What was written.

-- Holds if this was written when so many events were shown. A write fault or want of memory leaves a beginning
-- of the text.
abbrev pub Wrote : Result Unit Stop → Option (List ℕ) → ℕ → List Event → Option (List ℕ) → Type 0
Wrote (Err Write) w shown past now = ShowsFront w (text_of past) now
Wrote (Err Memory) w shown past now = ShowsFront w (text_of past) now
Wrote _ w shown past now = Shows w shown past now

-- Holds if this was written at the end: all of the text, or a beginning of it after a fault or for want of
-- memory.
abbrev pub Writes : Result Unit Stop → Bool → Option (List ℕ) → List Event → Option (List ℕ) → Type 0
Writes (Err Write) faulty w past now = ShowsFront w (text_of past) now
Writes (Err Memory) faulty w past now = ShowsFront w (text_of past) now
Writes (Err Full) true w past now = ShowsFront w (text_of past) now
Writes _ _ w past now = now ≡ with_text w (text_of past)
