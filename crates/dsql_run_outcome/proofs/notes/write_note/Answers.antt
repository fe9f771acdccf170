use Rattle.std.proofs.Common.{◌≡◌, sym, ◌∙◌, take, drop}
use Rattle.std.specs.Prelude.{Err}
use Rattle.std.proofs.lemmas.List.{take-append-drop}
use Rattle.dsql_run_outcome.specs.Notes.{note_of}
use Rattle.dsql_script_show.specs.declared.showing.ShowFault.TheVariants as faults
use Rattle.dsql_script_source.proofs.Errors.{err_is}
use Rattle.dsql_run_outcome.proofs.notes.write_note.Goals as goal

pub returns-in_err-write_whole-clause-err : goal.returns-in_err-write_whole-clause-err
returns-in_err-write_whole-clause-err g c =
    let is : c.from_residual-in_err-write_whole.result ≡ Err faults.Failed = err_is c.from_residual-in_err-write_whole.result faults.Failed c.from_residual-in_err-write_whole.ensures.1 in
    let text : c.as_bytes.result.now ≡ note_of c.args.stop.now = c.as_bytes.ensures.value ∙ c.in_ok-line.ensures in
    rw is
    (record {
      front = take c.in_err-write_whole.field-0.0.written c.as_bytes.result.now;
      begins = record {
        rest = drop c.in_err-write_whole.field-0.0.written c.as_bytes.result.now;
        parts = sym text ∙ sym (take-append-drop c.in_err-write_whole.field-0.0.written c.as_bytes.result.now);
      };
      written = c.in_err-write_whole.ensures.front;
    })
