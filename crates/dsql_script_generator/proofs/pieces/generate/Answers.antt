use Rattle.std.proofs.Common.{◌≡◌, ◌+◌, ◌++◌, ◌∙◌, sym, ap, arith}
use Rattle.std.specs.Prelude.{Err}
use Rattle.dsql_script_show.proofs.Errors.{err_is}
use Rattle.dsql_script_generator.specs.Script.{generated}
use Rattle.dsql_script_generator.specs.declared.pieces.GenerateFault.TheVariants as faults
use Rattle.dsql_script_generator.proofs.ScriptLemmas.{front_of_shorter, front_in_piece}
use Rattle.dsql_script_generator.proofs.pieces.generate.Goals as goal

pub returns-in_err-spell-clause-front : goal.returns-in_err-spell-clause-front
returns-in_err-spell-clause-front g c =
    let is : c.from_residual.result ≡ Err faults.Memory = err_is c.from_residual.result faults.Memory c.from_residual.ensures.1 in
    rw is (front_of_shorter (g.K.Sink.written c.args.output.now) (g.K.Sink.written c.loop-written.output) c.loop-written.written c.args.lines c.loop-written.invariant.within c.loop-written.invariant.holds)

pub returns-in_err-write_whole-clause-front : goal.returns-in_err-write_whole-clause-front
returns-in_err-write_whole-clause-front g c =
    let is : c.from_residual-in_err-write_whole.result ≡ Err faults.Failed = err_is c.from_residual-in_err-write_whole.result faults.Failed c.from_residual-in_err-write_whole.ensures.1 in
    let done = c.loop-written.written in
    let next = done + c.min.result in
    let piece = c.deref.result.now in
    let parts : generated next ≡ generated done ++ piece = c.in_ok-spell.ensures ∙ ap (λ t. generated done ++ t) (sym c.deref.ensures.value) in
    rw is (front_in_piece (g.K.Sink.written c.args.output.now) (g.K.Sink.written c.loop-written.output) (g.K.Sink.written c.write_whole.new.sink)
    c.in_err-write_whole.field-0.0.written done next c.args.lines piece (omega arith) c.loop-written.invariant.holds parts c.in_err-write_whole.ensures.front)
