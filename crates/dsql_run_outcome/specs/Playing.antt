-- What holds after each part of playing a script.
use Rattle.std.specs.Prelude.{ℕ, ◌≡◌, ◌≤◌, ◌+◌, ◌⊎◌, Bool, true, false, List, [], length, Option, IfSome, Result, Ok, Err, OnOk}
use Rattle.std.specs.List.{list_all}
use Rattle.dsql_hall.specs.driver.declared.caps.Caps.{Caps}
use Rattle.dsql_hall.specs.driver.declared.wire.Fleet.{Ghosts}
use Rattle.dsql_hall.specs.driver.Streams.{HasRisen}
use Rattle.dsql_hall.specs.driver.Wires.{FleetTold}
use Rattle.dsql_hall.specs.history.pool.Pooled.{open_count}
use Rattle.dsql_hall.specs.history.declared.event.Event.{Event}
use Rattle.dsql_hall.specs.history.Legal.{Legal}
use Rattle.dsql_hall.specs.history.Readers.Course.{has_ended}
use Rattle.dsql_hall.specs.history.Readers.Pool.{pool}
use Rattle.dsql_hall.specs.history.Readers.Unfinished.{unfinished}
use Rattle.dsql_hall.specs.history.Rules.House.{is_quiet}
use Rattle.dsql_hall.specs.follows.declared.line.Line.{Line}
use Rattle.dsql_hall.specs.follows.Sentences.{Part}
use Rattle.dsql_hall.specs.follows.Follows.{after}
use Rattle.dsql_hall.specs.player_wires.Extends.{Extends}
use Rattle.dsql_hall.specs.player_wires.Told.{SameAbility, with_told}
use Rattle.dsql_hall.specs.player.Naming.{times}
use Rattle.dsql_hall.specs.player.Planned.{plans_made}
use Rattle.dsql_hall.specs.player.Playing.{Playing, IsAt}
use Rattle.dsql_script_reader.specs.ScriptHead.{Progress}
use Rattle.dsql_script_reader.specs.declared.script.ScriptLine.{ScriptLine}
use Rattle.dsql_script_report.specs.Lines.{text_of}
use Rattle.dsql_script_show.specs.Report.{with_text, StopsBetween}
use Rattle.dsql_script_source.specs.Naming.{known, times_next}
use Rattle.dsql_script_source.specs.Plays.{Plays, saying}
use Rattle.dsql_script_source.specs.Position.{Position}
use Rattle.dsql_script_source.specs.Reading.{ReadTo, came}
use Rattle.dsql_script_source.specs.Script.{is_skip}
use Rattle.dsql_script_source.specs.Stops.{is_read_fault, no_read_failed}
use Rattle.dsql_script_source.specs.declared.stop.Stop.{Stop}
use Rattle.dsql_script_source.specs.declared.stop.Stop.TheVariants.{Read, Write}
use Rattle.dsql_run_outcome.specs.Followed.{FollowsAll, FollowsSoFar}
use Rattle.dsql_run_outcome.specs.Lent.{Lent, StopsAsking, StopsTelling, TellsOf}
use Rattle.dsql_run_outcome.specs.Runs.{ran_out, no_write_failed, CutAtLine, CutShort, IsLinesEnd, Wrote}

-- Holds if a run goes on: its history extends the old one and is legal, and its fleet can do what it could.
pub record RunsOn {F W : Type 0} (fleet : Ghosts F W) (before after : F) (old new : List Event) : Type 0 where
  pub extends : Extends old new
  pub able : SameAbility fleet before after
  pub legal : Legal new

-- Holds if the run has ended, each call has its reply, and no connection is open.
pub record IsOver (past : List Event) : Type 0 where
  pub quiet : is_quiet past ≡ true
  pub replied : unfinished past ≡ []
  pub ended : has_ended past ≡ true
  pub empty : open_count (pool past) ≡ 0

-- Holds if the first lines of a script ask for this, and these of them are skipped as they are played. After them, this
-- was read.
pub record HasHead (first : Result (Option ScriptLine) Stop) (before : Option (List ℕ)) (reader : Position)
    (left : Option (List ℕ)) (asked : Option Caps) (skipped : List Line) : Type 0 where
  pub silent : list_all is_skip skipped ≡ true
  pub counted : length skipped + came first ≡ reader.reader.lines
  pub reads : ReadTo first before reader left (saying asked skipped)

-- Holds if the lines that were read make each label as often as the run and the next line do together. The run makes a
-- label by its calls and its kept lines.
abbrev pub MatchesLabels : Option ScriptLine → Progress → Playing → Type 0
MatchesLabels line reader player =
    (label : List ℕ) → known label reader ≡ times_next label line + times label player.past player.seats

-- Says what was written of a line if all of the history before it was written, and how many events were shown.
pub record WritesLine (stopped : Result Unit Stop) (old new : List Event) (held : Option (List ℕ)) (count : ℕ)
    (holds : Option (List ℕ)) : Type 0 where
  pub shown : OnOk stopped (count ≡ length new)
  pub within : count ≤ length new
  pub wrote : (w : Option (List ℕ)) → held ≡ with_text w (text_of old) → Wrote stopped w count new holds
  pub cut : (w : Option (List ℕ)) → held ≡ with_text w (text_of old) → stopped ≡ Err Write
      → StopsBetween w (text_of old) (text_of new) holds

-- Says what was written of all lines that were played, and how many events were shown.
pub record WritesLines (stopped : Result Unit Stop) (past : List Event) (held : Option (List ℕ)) (count : ℕ)
    (holds : Option (List ℕ)) : Type 0 where
  pub shown : IsLinesEnd stopped → count ≡ length past
  pub within : count ≤ length past
  pub wrote : Wrote stopped held count past holds

-- The lines of a script that were played. If they came to an end, so many were read. If the run could go on, the
-- history follows their parts, and the fleet and the wires record their plans. Otherwise the run stopped in them. If
-- the sink failed, it failed at the last of them, or at the run's first event.
pub record LinesPlayed {W : Type 0} (stopped : Result Unit Stop) (before left : Option (List ℕ)) (read_lines : ℕ)
    (asked : Option Caps) (run : Event) (player : Playing) (w now : Option (List ℕ)) (lent : Lent W) : Type 0 where
  pub lines : List Line
  pub parts : List Part
  pub counted : IsLinesEnd stopped → length lines ≡ read_lines
  pub plays : Plays stopped before left (saying asked lines)
  pub read : stopped ≡ Ok tt → IfSome left (λ bytes. bytes ≡ [])
  pub follows : ran_out stopped ≡ true → FollowsSoFar run lines parts player.past
  pub at : ran_out stopped ≡ true → IsAt (after run parts) player
  pub told : ran_out stopped ≡ true → TellsOf lent (plans_made run parts) player.past
  pub short : ran_out stopped ≡ false → StopsTelling run lines player.past lent
  pub cut : stopped ≡ Err Write → CutAtLine w run parts now

-- The lines of a script that were played up to the run's end. What the history follows of them, and what the fleet
-- records of them. If they came to an end, so many were read.
pub record ScriptPlayed (stopped : Result Unit Stop) (before left : Option (List ℕ)) (read_lines : ℕ)
    (asked : Option Caps) (source_failed : Bool) (run : Event) (past : List Event) (w now : Option (List ℕ))
    (lent_before lent_after : Option FleetTold) : Type 0 where
  pub lines : List Line
  pub counted : IsLinesEnd stopped → length lines ≡ read_lines
  pub plays : Plays stopped before left (saying asked lines)
  pub read : stopped ≡ Ok tt → IfSome left (λ bytes. bytes ≡ [])
  pub follows : ran_out stopped ≡ true → FollowsAll run lines past
  pub told : (ran : ran_out stopped ≡ true)
      → lent_after ≡ with_told (plans_made run (follows ran).played.parts) lent_before past
  pub short : ran_out stopped ≡ false → StopsAsking run lines past lent_before lent_after
  pub cut : stopped ≡ Err Write → CutShort before left asked lines source_failed w run past now

-- Says how a source's count of faults grew as the lines after the first ones were played. If a read fault
-- stopped the run, it came as the first ones were read, or later.
pub record ReadsLater (first : Result (Option ScriptLine) Stop) (stopped : Result Unit Stop)
    (before after : ℕ) : Type 0 where
  pub caused : stopped ≡ Err Read → first ≡ Err Read ⊎ HasRisen before after
  pub counted : before ≤ after
  pub through : no_read_failed stopped ≡ true → is_read_fault first ≡ false

-- Says how a sink's count of faults grew, if this stopped the run.
pub record WritesWell (stopped : Result Unit Stop) (before after : ℕ) : Type 0 where
  pub caused : stopped ≡ Err Write → HasRisen before after
  pub faultless : no_write_failed stopped ≡ true → after ≡ before
