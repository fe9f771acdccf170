use Rattle.std.proofs.Common.{◌≡◌, length, ap, sym, ◌∙◌, take, drop, refl, arith, length-take-le}
use Rattle.std.specs.Prelude.{Err, reverse}
use Rattle.std.proofs.lemmas.List.{take-append-drop}
use Rattle.dsql_script_report.specs.Lines.{text_of}
use Rattle.dsql_script_show.specs.declared.showing.ShowFault.TheVariants as faults
use Rattle.dsql_script_show.proofs.Errors.{err_is}
use Rattle.dsql_script_show.proofs.Texts.{stops_before}
use Rattle.dsql_script_show.proofs.showing.show_piece.Goals as goal

pub returns-in_err-spell-clause-err : goal.returns-in_err-spell-clause-err
returns-in_err-spell-clause-err g c =
    let is : c.from_residual.result ≡ Err faults.Memory = err_is c.from_residual.result faults.Memory c.from_residual.ensures.1 in
    rw is (stops_before (g.K.Sink.written c.args.output.now) c.args.events.now c.in_err-spell.ensures.err)

pub returns-in_err-write_whole-clause-err : goal.returns-in_err-write_whole-clause-err
returns-in_err-write_whole-clause-err g c =
    let is : c.from_residual-in_err-write_whole.result ≡ Err faults.Failed = err_is c.from_residual-in_err-write_whole.result faults.Failed c.from_residual-in_err-write_whole.ensures.1 in
    let piece = c.as_slice.result.now in
    let written = c.in_err-write_whole.field-0.0.written in
    let text : piece ≡ text_of (reverse c.args.events.now) = c.as_slice.ensures.value ∙ c.in_ok-spell.ensures.ok in
    rw is
    (record {
      front = take written piece;
      holds = record { rest = take written piece; parts = refl };
      short = omega (arith, ap length text, c.in_err-write_whole.ensures.cut, length-take-le written piece (omega (arith, c.in_err-write_whole.ensures.cut)));
      begins = record { rest = drop written piece; parts = sym text ∙ sym (take-append-drop written piece) };
      written = c.in_err-write_whole.ensures.front;
    })
