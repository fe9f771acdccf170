-- What was written of a line that was carried out, and of one that couldn't be.
use Rattle.std.proofs.Common.{◌≡◌, ℕ, ◌≤◌, List, Option, length, sym, ap, subst, ◌∙◌, arith}
use Rattle.std.specs.Prelude.{Err, Result, IfErr, OnErr, OnOk}
use Rattle.std.proofs.lemmas.List.{length-append}
use Rattle.std.proofs.lemmas.Result.{IfErr-at_err, on_err_weaker, on_ok_weaker}
use Rattle.dsql_run_outcome.specs.history.declared.event.Event.{Event}
use Rattle.dsql_run_outcome.specs.player.declared.halt.Halt.{Halt}
use Rattle.dsql_run_outcome.specs.script_report.Lines.{text_of}
use Rattle.dsql_run_outcome.specs.script_show.Report.{with_text, StopsBetween, oldest, Shows}
use Rattle.dsql_run_outcome.specs.script_source.declared.stop.Stop.{Stop}
use Rattle.dsql_run_outcome.specs.player_wires.Extends.{Extends}
use Rattle.dsql_run_outcome.specs.Playing.{WritesLine}
use Rattle.dsql_run_outcome.specs.Runs.{IsShowStop, Wrote, is_write_fault, stop_of_halt}
use Rattle.dsql_run_outcome.proofs.Writing.{shows_older_all, stops_after_older, wrote_halted, wrote_shown}
use Rattle.dsql_run.proofs.Going.{halted_writes}

pub grown : (old new : List Event) → Extends old new → length old ≤ length new
grown old new e = omega (arith, ap length e.whole, length-append e.added old)

-- If a line couldn't be carried out, nothing more was written.
pub line_halted : (stop : Stop) (halt : Halt) (old new : List Event) (held : Option (List ℕ)) (n : ℕ) → stop ≡ stop_of_halt halt → Extends old new → n ≡ length old → WritesLine (Err stop) old new held n held
line_halted stop halt old new held n is e all = record {
  shown = tt;
  within = omega (arith, all, grown old new e);
  wrote = λ w shown. subst (λ s. Wrote (Err s) w n new held) (sym is) (wrote_halted halt w held n old new e all shown);
  cut = λ w shown failed. absurd (cc (sym (ap is_write_fault failed) ∙ halted_writes stop halt is));
}

-- If a line was carried out, its events were written, or the sink stopped.
pub line_shown : (r : Result (Unit {0}) Stop) (old new : List Event) (held holds : Option (List ℕ)) (n count : ℕ) → Extends old new → n ≡ length old → IfErr r IsShowStop → OnOk r (count ≡ length new) → count ≤ length new
    → OnOk r ((w : Option (List ℕ)) → Shows w n new held → holds ≡ with_text w (text_of new)) → OnErr r ((w : Option (List ℕ)) → Shows w n new held → StopsBetween w (text_of (oldest n new)) (text_of new) holds)
    → WritesLine r old new held count holds
line_shown r old new held holds n count e all kind shown within shows stops = record {
  shown = shown;
  within = within;
  wrote = λ w before.
      wrote_shown r w holds count n new kind shown (on_ok_weaker r (λ s. s w (shows_older_all w held n old new e all before)) shows)
      (on_err_weaker r (λ s. s w (shows_older_all w held n old new e all before)) stops);
  cut = λ w before failed.
      stops_after_older w holds n old new e all
      (IfErr-at_err (λ _. (v : Option (List ℕ)) → Shows v n new held → StopsBetween v (text_of (oldest n new)) (text_of new) holds) failed stops w (shows_older_all w held n old new e all before));
}
