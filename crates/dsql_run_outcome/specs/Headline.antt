-- What a run of the program did, as one history shows it.
use Rattle.std.specs.Prelude.{ℕ, ◌≡◌, ◌≤◌, ◌⊎◌, Bool, true, false, List, [], length, Option, IfSome, Result, Ok, Err}
use Rattle.dsql_hall.specs.driver.declared.caps.Caps.{Caps}
use Rattle.dsql_hall.specs.driver.declared.stream.Source as sources
use Rattle.dsql_hall.specs.driver.declared.stream.Sink as sinks
use Rattle.dsql_hall.specs.driver.declared.wire.Fleet as fleets
use Rattle.dsql_hall.specs.driver.Streams.{HasRisen, has_risen}
use Rattle.dsql_hall.specs.driver.Wires.{FleetTold, Preferred}
use Rattle.dsql_hall.specs.history.pool.Pooled.{open_count}
use Rattle.dsql_hall.specs.history.declared.event.Event.{Event}
use Rattle.dsql_hall.specs.history.declared.event.Event.TheVariants.{Run}
use Rattle.dsql_hall.specs.history.Legal.{Legal}
use Rattle.dsql_hall.specs.history.Readers.Course.{has_ended}
use Rattle.dsql_hall.specs.history.Readers.Pool.{pool}
use Rattle.dsql_hall.specs.history.Readers.Unfinished.{unfinished}
use Rattle.dsql_hall.specs.history.Rules.House.{is_quiet}
use Rattle.dsql_hall.specs.follows.declared.line.Line.{Line}
use Rattle.dsql_laws_apart.specs.Apart.{are_apart}
use Rattle.dsql_hall.specs.laws_steps.Groups.{most_events}
use Rattle.dsql_hall.specs.player_wires.Told.{with_told}
use Rattle.dsql_script_report.specs.Lines.{text_of}
use Rattle.dsql_script_show.specs.Report.{with_text, ShowsFront}
use Rattle.dsql_script_source.specs.Plays.{PlaysBy, saying}
use Rattle.dsql_script_source.specs.Reading.{Prefers}
use Rattle.dsql_script_source.specs.Script.{SaysBy, whole}
use Rattle.dsql_script_source.specs.Stops.{no_read_failed}
use Rattle.dsql_script_source.specs.declared.stop.Stop.{Stop}
use Rattle.dsql_script_source.specs.declared.stop.Stop.TheVariants.{Read, Write, Memory, Full}
use Rattle.dsql_run_outcome.specs.Notes.{Tells, usage_note}
use Rattle.dsql_run_outcome.specs.Ways.{CarriesOut, FailsToWrite, HasToStop, plans_in}
use Rattle.dsql_run_outcome.specs.Runs.{ran_out, no_write_failed, IsLinesEnd, Writes}

-- A view of the source, the sink and the fleet, before a run or after it.
pub record Seen : Type 0 where
  pub left : Option (List ℕ)
  pub read_faults : ℕ
  pub written : Option (List ℕ)
  pub write_faults : ℕ
  pub told : Option FleetTold
  pub ability : Caps
  pub preferred : Preferred

-- Returns the view of this source, this sink and this fleet.
abbrev pub seen : {S K F W : Type 0} → sources.Ghosts S → sinks.Ghosts K → fleets.Ghosts F W → S → K → F → Seen
seen source sink fleet input output lent = record {
  left = source.left input;
  read_faults = source.faults input;
  written = sink.written output;
  write_faults = sink.faults output;
  told = fleet.told lent;
  ability = fleet.ability lent;
  preferred = fleet.preferred lent;
}

-- A run of a script, which is raced if the flag is true, and played otherwise. There is one legal history, what stopped
-- the run, and the lines of the script that the history carries out. The record also says what was asked for, written
-- and read. It says what the fleet was asked for, which faults were planned with it and on its wires, and what it got
-- back.
pub record Ran (race : Bool) (stopped : Result Unit Stop) (before after : Seen) : Type 0 where
  pub history : List Event
  pub asked : Option Caps
  pub lines : List Line
  pub legal : Legal history
  pub apart : are_apart history ≡ true
  pub plays : PlaysBy race stopped before.left after.left (saying asked lines)
  pub follows : ran_out stopped ≡ true → CarriesOut race (Run 1 after.ability) lines history
  pub short : ran_out stopped ≡ false → HasToStop race (Run 1 after.ability) lines history before.told after.told
  pub prefers : Prefers asked before.preferred after.preferred before.ability after.ability
  pub ended : ran_out stopped ≡ true → has_ended history ≡ true
  pub quiet : ran_out stopped ≡ true → is_quiet history ≡ true
  pub replied : ran_out stopped ≡ true → unfinished history ≡ []
  pub read : stopped ≡ Ok tt → IfSome after.left (λ bytes. bytes ≡ [])
  pub writes : Writes stopped (has_risen before.write_faults after.write_faults) before.written history after.written
  pub cut : stopped ≡ Err Write
      → FailsToWrite race before.left after.left asked lines (has_risen before.read_faults after.read_faults)
      before.written (Run 1 after.ability) history after.written
  pub empty : ran_out stopped ≡ true → open_count (pool history) ≡ 0
  pub told : (ran : ran_out stopped ≡ true)
      → after.told ≡ with_told (plans_in race (Run 1 after.ability) lines history (follows ran)) before.told history
  pub read_fault : stopped ≡ Err Read → HasRisen before.read_faults after.read_faults
  pub write_fault : stopped ≡ Err Write → HasRisen before.write_faults after.write_faults
  pub read_well : no_read_failed stopped ≡ true → after.read_faults ≡ before.read_faults
  pub written_well : no_write_failed stopped ≡ true → after.write_faults ≡ before.write_faults
  pub full : stopped ≡ Err Full → most_events ≤ length history

-- A played run with this history. If its lines came to an end, so many lines of its script were read.
pub record RanSo (stopped : Result Unit Stop) (before after : Seen) (past : List Event) (read_lines : ℕ) : Type 0 where
  pub ran : Ran false stopped before after
  pub is : ran.history ≡ past
  pub counted : IsLinesEnd stopped → length ran.lines ≡ read_lines

-- Holds if the run stopped for want of memory before it began. The source, the sink and the fleet look as before.
pub record NotBegun (stopped : Result Unit Stop) (before after : Seen) : Type 0 where
  pub memory : stopped ≡ Err Memory
  pub same : after ≡ before

-- Holds if a script was raced or played, and this stopped it, if anything did.
abbrev pub IsRun : Bool → Result Unit Stop → Seen → Seen → Type 0
IsRun race stopped before after = Ran race stopped before after ⊎ NotBegun stopped before after

-- Holds if a script was played, and this stopped it, if anything did.
abbrev pub IsPlayed : Result Unit Stop → Seen → Seen → Type 0
IsPlayed stopped before after = IsRun false stopped before after

-- A view of the notes: what they hold, and how often they failed.
pub record SeenNotes : Type 0 where
  pub written : Option (List ℕ)
  pub faults : ℕ

abbrev pub seen_notes : {E : Type 0} → sinks.Ghosts E → E → SeenNotes
seen_notes sink notes = record { written = sink.written notes; faults = sink.faults notes }

-- Holds if a script was raced or played, and the notes and the status report what stopped it, if anything did.
pub record RunsAndTells (race : Bool) (before after : Seen) (notes_before notes_after : SeenNotes)
    (status : ℕ) : Type 0 where
  pub stopped : Result Unit Stop
  pub ran : IsRun race stopped before after
  pub told : Tells stopped
      (has_risen notes_before.faults notes_after.faults) notes_before.written notes_after.written status

-- Holds if a script was played, and the notes and the status report what stopped it, if anything did.
abbrev pub PlaysAndTells : Seen → Seen → SeenNotes → SeenNotes → ℕ → Type 0
PlaysAndTells before after notes_before notes_after status =
    RunsAndTells false before after notes_before notes_after status

-- The same of a script that was raced.
abbrev pub RacesAndTells : Seen → Seen → SeenNotes → SeenNotes → ℕ → Type 0
RacesAndTells before after notes_before notes_after status =
    RunsAndTells true before after notes_before notes_after status

-- Holds if the whole of a script was raced or played. One legal history, which keeps callers apart, carries the script
-- out, and what was written is this text of it. The fleet records exactly that history and the faults that the
-- script's lines plan. Nothing was noted.
pub record RunsWhole (race : Bool) (text : List Line → List Event
    → List ℕ) (before after : Seen) (notes_before notes_after : SeenNotes) : Type 0 where
  pub history : List Event
  pub asked : Option Caps
  pub lines : List Line
  pub legal : Legal history
  pub apart : are_apart history ≡ true
  pub says : SaysBy race before.left (whole (saying asked lines))
  pub follows : CarriesOut race (Run 1 after.ability) lines history
  pub prefers : Prefers asked before.preferred after.preferred before.ability after.ability
  pub ended : has_ended history ≡ true
  pub quiet : is_quiet history ≡ true
  pub replied : unfinished history ≡ []
  pub empty : open_count (pool history) ≡ 0
  pub read : IfSome after.left (λ bytes. bytes ≡ [])
  pub written : after.written ≡ with_text before.written (text lines history)
  pub told : after.told ≡ with_told (plans_in race (Run 1 after.ability) lines history follows) before.told history
  pub read_well : after.read_faults ≡ before.read_faults
  pub written_well : after.write_faults ≡ before.write_faults
  pub untold : notes_after.written ≡ notes_before.written

-- Returns the report of a history.
abbrev pub report : List Line → List Event → List ℕ
report lines history = text_of history

-- Holds if the whole of a script was played, and its report is the text of the history.
abbrev pub PlaysWhole : Seen → Seen → SeenNotes → SeenNotes → Type 0
PlaysWhole before after notes_before notes_after = RunsWhole false report before after notes_before notes_after

-- Holds if the whole of a script was raced, and its report is the text of the history.
abbrev pub RacesWhole : Seen → Seen → SeenNotes → SeenNotes → Type 0
RacesWhole before after notes_before notes_after = RunsWhole true report before after notes_before notes_after

-- Holds if the words aren't accepted and the notes say so, or if the notes failed.
pub record RefusesWords (notes_before notes_after : SeenNotes) (status : ℕ) : Type 0 where
  pub told : status ≡ 2 → notes_after.written ≡ with_text notes_before.written usage_note
  pub status_is : (status ≡ 2) ⊎ (status ≡ 4)
  pub front : status ≡ 4 → ShowsFront notes_before.written usage_note notes_after.written
  pub caused : status ≡ 4 → HasRisen notes_before.faults notes_after.faults
  pub well : status ≡ 2 → notes_after.faults ≡ notes_before.faults
