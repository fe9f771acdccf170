-- What a run does if its summary is asked for instead of its report, and what a generated script is.
use Rattle.std.specs.Prelude.{ℕ, ◌≡◌, ◌⊎◌, Bool, true, false, List, length, Option, Some, None, Result, Ok, Err}
use Rattle.dsql_hall.specs.driver.Streams.{HasRisen, has_risen}
use Rattle.dsql_hall.specs.history.declared.event.Event.{Event}
use Rattle.dsql_hall.specs.follows.declared.line.Line.{Line}
use Rattle.dsql_script_show.specs.Report.{with_text, ShowsFront}
use Rattle.dsql_script_show.specs.Summary.{line_of, summary_of}
use Rattle.dsql_script_generator.specs.Script.{generated}
use Rattle.dsql_script_source.specs.declared.stop.Stop.{Stop}
use Rattle.dsql_script_source.specs.declared.stop.Stop.TheVariants.{Write, Memory, Full}
use Rattle.dsql_script_generator.specs.declared.words.Command.{Command}
use Rattle.dsql_script_generator.specs.declared.words.Command.TheVariants.{Play, Race, Summarize, Generate}
use Rattle.dsql_run_outcome.specs.Headline.{NotBegun, Ran, RunsWhole, Seen, SeenNotes}
use Rattle.dsql_run_outcome.specs.Notes.{Tells}
use Rattle.dsql_run_outcome.specs.Runs.{Finishes, is_write_fault}

-- Returns the summary of a run of these lines with this history.
abbrev pub summary : List Line → List Event → List ℕ
summary lines history = line_of (summary_of (length lines) history)

-- Returns the view of the outside if no report is written.
abbrev pub unreported : Seen → Seen
unreported seen = record seen { written = None; write_faults = 0 }

-- Holds if this was written of a text in one piece: all of it, or a beginning of it after a write fault.
-- Nothing was written for want of memory, or in a run that was too long.
abbrev pub WritesPiece : Result Unit Stop → List ℕ → Option (List ℕ) → Option (List ℕ) → Type 0
WritesPiece (Err Write) text w now = ShowsFront w text now
WritesPiece (Err Memory) text w now = now ≡ w
WritesPiece (Err Full) text w now = now ≡ w
WritesPiece _ text w now = now ≡ with_text w text

-- Holds if a run was played without its report, this stopped it, and so much of its summary was written.
pub record Summarized (stopped told : Result Unit Stop) (before after : Seen) : Type 0 where
  pub ran : Ran false stopped (unreported before) (unreported after)
  pub written : WritesPiece told (summary ran.lines ran.history) before.written after.written

-- Holds if a script was played for its summary. The notes and the status report what stopped it, or what stopped the
-- writing of the summary.
pub record SumsUpAndTells (before after : Seen) (notes_before notes_after : SeenNotes) (status : ℕ) : Type 0 where
  pub stopped : Result Unit Stop
  pub told : Result Unit Stop
  pub finishes : Finishes stopped told
  pub ran : Summarized stopped told before after ⊎ NotBegun told before after
  pub write_fault : told ≡ Err Write → HasRisen before.write_faults after.write_faults
  pub written_well : is_write_fault told ≡ false → after.write_faults ≡ before.write_faults
  pub tells : Tells told
      (has_risen notes_before.faults notes_after.faults) notes_before.written notes_after.written status

-- Holds if the whole of a script was played, and its summary was written.
abbrev pub SumsUpWhole : Seen → Seen → SeenNotes → SeenNotes → Type 0
SumsUpWhole before after notes_before notes_after = RunsWhole false summary before after notes_before notes_after

-- A view of an output: what it holds, and how often it failed.
abbrev pub SeenOutput : Type 0
SeenOutput = SeenNotes

-- Holds if so many lines of a script were written, or a beginning of them, and the notes and the status report
-- what stopped that.
pub record GeneratesAndTells (lines : ℕ) (before after : SeenOutput) (notes_before notes_after : SeenNotes)
    (status : ℕ) : Type 0 where
  pub told : Result Unit Stop
  pub whole : told ≡ Ok tt → after.written ≡ with_text before.written (generated lines)
  pub front : ShowsFront before.written (generated lines) after.written
  pub kinds : (told ≡ Ok tt) ⊎ ((told ≡ Err Write) ⊎ (told ≡ Err Memory))
  pub write_fault : told ≡ Err Write → HasRisen before.faults after.faults
  pub written_well : is_write_fault told ≡ false → after.faults ≡ before.faults
  pub tells : Tells told
      (has_risen notes_before.faults notes_after.faults) notes_before.written notes_after.written status

-- Holds if this holds of the number of lines that the command generates, or if it generates none.
abbrev pub IfGenerates : Option Command → (ℕ → Type 0) → Type 0
IfGenerates (Some (Generate n)) holds = holds n
IfGenerates _ holds = Unit {0}

-- Is true if the command runs a script: it plays it, or races it.
abbrev pub runs_a_script : Option Command → Bool
runs_a_script (Some Play) = true
runs_a_script (Some Race) = true
runs_a_script (Some Summarize) = true
runs_a_script _ = false
