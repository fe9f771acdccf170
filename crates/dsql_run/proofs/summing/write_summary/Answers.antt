use Rattle.std.proofs.Common.{◌≡◌, refl, ap, sym, ◌∙◌, take, drop}
use Rattle.std.specs.Prelude.{reverse}
use Rattle.std.proofs.lemmas.List.{take-append-drop}
use Rattle.dsql_run_outcome.specs.script_show.Report.{with_text}
use Rattle.dsql_run_outcome.specs.script_show.Summary.{line_of, summary_of}
use Rattle.dsql_run.proofs.Summaries.{all_kept, whole_piece}
use Rattle.dsql_run.proofs.summing.write_summary.Goals as goal

pub returns-in-Ok-write_whole-clause-written : goal.returns-in-Ok-write_whole-clause-written
returns-in-Ok-write_whole-clause-written g c =
    let lines = c.in-Some.kept.script.reader.lines in
    let past = c.in-Some.kept.player.past in
    let w = g.K.Sink.written c.args.output.now in
    let text : c.as_bytes.result.now ≡ line_of (summary_of lines past) =
    c.as_bytes.ensures.value
    ∙ (c.in-Ok.ensures ∙ ap line_of (c.summary_of.ensures ∙ (ap (λ n. summary_of n (reverse c.history.result.now)) (c.from-lines.ensures ∙ c.count.ensures) ∙ ap (summary_of lines) (all_kept past c.history.result.now (c.history.ensures.all (rw c.in-Some.is at c.requires.whole))))))
    in
    rw c.in-Some.is (whole_piece c.args.stopped (line_of (summary_of lines past)) w (g.K.Sink.written c.write_whole.new.sink) (c.if-not-lines_ended.ensures.over refl) (c.in-Ok-write_whole.ensures.ok ∙ ap (with_text w) text))

pub returns-clause-written : goal.returns-clause-written
returns-clause-written g c =
    let lines = c.in-Some.kept.script.reader.lines in
    let past = c.in-Some.kept.player.past in
    let text : c.as_bytes.result.now ≡ line_of (summary_of lines past) =
    c.as_bytes.ensures.value
    ∙ (c.in-Ok.ensures ∙ ap line_of (c.summary_of.ensures ∙ (ap (λ n. summary_of n (reverse c.history.result.now)) (c.from-lines.ensures ∙ c.count.ensures) ∙ ap (summary_of lines) (all_kept past c.history.result.now (c.history.ensures.all (rw c.in-Some.is at c.requires.whole))))))
    in
    rw c.in-Some.is
    (record {
      front = take c.in-Err.field-0.written c.as_bytes.result.now;
      begins = record { rest = drop c.in-Err.field-0.written c.as_bytes.result.now; parts = sym text ∙ sym (take-append-drop c.in-Err.field-0.written c.as_bytes.result.now) };
      written = c.in-Err.ensures.front;
    })
