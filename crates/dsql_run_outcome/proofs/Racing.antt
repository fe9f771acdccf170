-- A race by its last stop. The argument joins what stopped the reading of its script, what stopped the race, and the
-- last stop.
use Rattle.std.proofs.Common.{◌≡◌, ℕ, Bool, true, false, List, [], Option, Some, None, refl, ap, sym, subst, ◌∙◌, inl, inr}
use Rattle.std.specs.Prelude.{Result, Ok, Err, IfErr, IfSome}
use Rattle.std.proofs.lemmas.List.{append-nil}
use Rattle.dsql_driver_stream.specs.Faults.{CountsFaults}
use Rattle.dsql_hall.specs.driver.Streams.{HasRisen, has_risen}
use Rattle.dsql_hall.specs.driver.declared.caps.Caps.{Caps}
use Rattle.dsql_hall.specs.history.declared.event.Event.{Event}
use Rattle.dsql_hall.specs.history.declared.event.Event.TheVariants.{Run}
use Rattle.dsql_laws_apart.specs.Apart.{are_apart}
use Rattle.dsql_hall.specs.follows.declared.line.Line.{Line}
use Rattle.dsql_script_report.specs.Lines.{text_of}
use Rattle.dsql_script_show.specs.Report.{Shows, ShowsFront, StopsBetween, oldest, with_text}
use Rattle.dsql_script_source.specs.Plays.{PlaysBy, saying}
use Rattle.dsql_script_source.specs.Reading.{ReadsScript}
use Rattle.dsql_script_source.specs.Stops.{IsReadStop, is_read_fault}
use Rattle.dsql_script_source.specs.declared.stop.Stop.{Stop}
use Rattle.dsql_script_source.specs.declared.stop.Stop.TheVariants.{Read, Write, Memory, Full}
use Rattle.dsql_run_outcome.specs.Headline.{Ran, Seen}
use Rattle.dsql_run_outcome.specs.Racing.{LinesRaced}
use Rattle.dsql_run_outcome.specs.Runs.{Finishes, Writes, Wrote, is_write_fault, no_write_failed, ran_out}
use Rattle.dsql_run_outcome.specs.Ways.{FailsToWrite}
use Rattle.dsql_run_outcome.proofs.Asking.{not_read, read_played}
use Rattle.dsql_run_outcome.proofs.Ending.{done_played, final_ran, lines_over, plays_finished, so_ran}

-- No write fails as a script is read.
pub unwritten_yet : (read : Result (Unit {0}) Stop) → IfErr read IsReadStop → is_write_fault read ≡ false
unwritten_yet (Err Write) kind = absurd kind
unwritten_yet _ kind = refl

-- If the source's fault is the last stop, it stopped the reading.
pub read_first_of_all : (read ended final : Result (Unit {0}) Stop) → (ran_out ended ≡ true → ended ≡ read) → Finishes ended final → final ≡ Err Read → read ≡ Err Read
read_first_of_all read ended final same (inl is) failed =
    let it : ended ≡ Err Read = sym is ∙ failed in
    sym (same (ap ran_out it)) ∙ it
read_first_of_all read ended final same (inr (inl memory)) failed = absurd (cc (sym memory ∙ failed))
read_first_of_all read ended final same (inr (inr write)) failed = absurd (cc (sym write.0 ∙ failed))

-- If the last stop is that the run is full, the race was full.
pub full_before : (ended final : Result (Unit {0}) Stop) → Finishes ended final → final ≡ Err Full → ended ≡ Err Full
full_before ended final (inl is) full = sym is ∙ full
full_before ended final (inr (inl memory)) full = absurd (cc (sym memory ∙ full))
full_before ended final (inr (inr write)) full = absurd (cc (sym write.0 ∙ full))

-- If the sink failed, all lines had been read.
pub race_cut : (read ended final : Result (Unit {0}) Stop) (before left : Option (List ℕ)) (asked : Option Caps) (lines : List Line) (source_failed : Bool) (run : Event) (past : List Event) (w now : Option (List ℕ))
    → (ran_out ended ≡ true → ended ≡ read) → Finishes ended final → IfErr read IsReadStop → PlaysBy true read before left (saying asked lines) → (read ≡ Ok tt → IfSome left (λ bytes. bytes ≡ [])) → (read ≡ Err Read → source_failed ≡ true)
    → (is_write_fault read ≡ false → final ≡ Err Write → StopsBetween w (text_of (oldest 0 past)) (text_of past) now) → final ≡ Err Write → FailsToWrite true before left asked lines source_failed w run past now
race_cut read ended final before left asked lines source_failed run past w now same finishes kind plays over_read caused stops failed =
    let through = so_ran ended final finishes failed in
    let unfailed = unwritten_yet read kind in
    record {
      played = read;
      over = lines_over read (subst (λ (r : Result (Unit {0}) Stop). ran_out r ≡ true) (same through) through) unfailed;
      plays = plays;
      read = over_read;
      caused = caused;
      written = stops unfailed failed;
    }

-- Before the report of a race is written, the sink holds none of it.

all_before : (w : Option (List ℕ)) → w ≡ with_text w []
all_before None = refl
all_before (Some bytes) = ap Some (sym (append-nil bytes))

none_before : (w : Option (List ℕ)) (text : List ℕ) → ShowsFront w text w
none_before w text = record { front = []; begins = record { rest = text; parts = refl }; written = all_before w }

pub shows_none : (w : Option (List ℕ)) (n : ℕ) (past : List Event) → n ≡ 0 → Shows w n past w
shows_none w n past none = subst (λ k. Shows w k past w) (sym none) (all_before w)

pub wrote_none : (read : Result (Unit {0}) Stop) (w : Option (List ℕ)) (n : ℕ) (past : List Event) → n ≡ 0 → Wrote read w n past w
wrote_none (Err Write) w n past none = none_before w (text_of past)
wrote_none (Err Memory) w n past none = none_before w (text_of past)
wrote_none _ w n past none = shows_none w n past none

-- What was done of a race whose report was written, or was to be.
pub record WritesRace (read ended final : Result (Unit {0}) Stop) (before after : Seen) (past : List Event) : Type 0 where
  pub same : ran_out ended ≡ true → ended ≡ read
  pub finishes : Finishes ended final
  pub writes : Writes final (has_risen before.write_faults after.write_faults) before.written past after.written
  pub stops : is_write_fault read ≡ false → final ≡ Err Write → StopsBetween before.written (text_of (oldest 0 past)) (text_of past) after.written
  pub failed : final ≡ Err Write → HasRisen before.write_faults after.write_faults
  pub well : no_write_failed final ≡ true → after.write_faults ≡ before.write_faults

-- A race whose script was read, whose lines were raced and whose report was written is a run.
pub race_ran : (read ended final : Result (Unit {0}) Stop) (before after : Seen) (lines : List Line) (past : List Event) → IfErr read IsReadStop → CountsFaults (is_read_fault read) before.read_faults after.read_faults
    → ReadsScript read lines before.left after.left before.preferred after.preferred before.ability after.ability → LinesRaced ended (Run 1 after.ability) lines past before.told after.told → are_apart past ≡ true
    → WritesRace read ended final before after past → Ran true final before after
race_ran read ended final before after lines past kind faults script raced apart wrote =
    let through : ran_out final ≡ true → ran_out ended ≡ true = final_ran ended final wrote.finishes in
    record {
      history = past;
      asked = script.asked;
      lines = lines;
      legal = raced.legal;
      apart = apart;
      plays = plays_finished true read ended final before.left after.left (saying script.asked lines) wrote.same wrote.finishes script.plays;
      follows = λ ran. raced.through (through ran);
      short = λ out. raced.in_part;
      prefers = script.prefers;
      ended = λ ran. (raced.over (through ran)).ended;
      quiet = λ ran. (raced.over (through ran)).quiet;
      replied = λ ran. (raced.over (through ran)).replied;
      read = λ done. script.ended (done_played read ended final wrote.same wrote.finishes done);
      writes = wrote.writes;
      cut = race_cut read ended final before.left after.left script.asked lines (has_risen before.read_faults after.read_faults) (Run 1 after.ability) past before.written after.written wrote.same wrote.finishes kind script.plays script.ended
          (λ failed. faults.caused (ap is_read_fault failed)) wrote.stops;
      empty = λ ran. (raced.over (through ran)).empty;
      told = λ ran. raced.told (through ran);
      read_fault = λ failed. faults.caused (ap is_read_fault (read_first_of_all read ended final wrote.same wrote.finishes failed));
      write_fault = wrote.failed;
      read_well = λ well. faults.faultless (not_read read (read_played read ended final wrote.same wrote.finishes well));
      written_well = wrote.well;
      full = λ is. raced.full (full_before ended final wrote.finishes is);
    }
