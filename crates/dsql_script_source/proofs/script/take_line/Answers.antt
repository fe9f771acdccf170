use Rattle.std.proofs.Common.{◌≡◌, true}
use Rattle.std.specs.Prelude.{Err}
use Rattle.dsql_driver_stream.specs.Lines.{ahead, HandsOut}
use Rattle.dsql_script_reader.specs.ScriptHead.{after}
use Rattle.dsql_script_source.proofs.Errors.{err_is}
use Rattle.dsql_script_source.proofs.Learning.{learns}
use Rattle.dsql_script_source.proofs.Reading.{reads_on, stops_reading}
use Rattle.dsql_script_source.proofs.script.take_line.Goals as goal

pub returns-in_err-read_line-clause-stopped : goal.returns-in_err-read_line-clause-stopped
returns-in_err-read_line-clause-stopped g c =
    let is : c.from_residual-in_err-read_line.result ≡ Err c.in_err-read_line.field-0.0 = err_is c.from_residual-in_err-read_line.result c.in_err-read_line.field-0.0 c.from_residual-in_err-read_line.ensures.1 in
    let there : c.in_ok-next_line.field-0 ≡ true = c.if-branch.true in
    let bytes : c.deref.result.now ≡ c.next_line.new.line.items = c.deref.ensures.value in
    let out : HandsOut c.in_ok-next_line.field-0 (ahead c.args.lines.now (g.S.Source.left c.args.input.now)) (ahead c.next_line.new.self (g.S.Source.left c.next_line.new.source)) c.deref.result.now = rw bytes c.in_ok-next_line.ensures.handed_out in
    rw is
    (stops_reading c.args.reader.now c.in_ok-next_line.field-0 (ahead c.args.lines.now (g.S.Source.left c.args.input.now)) (ahead c.next_line.new.self (g.S.Source.left c.next_line.new.source))
    c.deref.result.now c.in_err-read_line.field-0.0 there out c.in_err-read_line.ensures.refused)

pub returns-then-branch-clause-read : goal.returns-then-branch-clause-read
returns-then-branch-clause-read g c =
    let counted : c.read_line.new.reader ≡ after c.args.reader.now c.in_ok-read_line.field-0 = c.in_ok-read_line.ensures.counted in
    let there : c.in_ok-next_line.field-0 ≡ true = c.if-branch.true in
    let bytes : c.deref.result.now ≡ c.next_line.new.line.items = c.deref.ensures.value in
    let out : HandsOut c.in_ok-next_line.field-0 (ahead c.args.lines.now (g.S.Source.left c.args.input.now)) (ahead c.next_line.new.self (g.S.Source.left c.next_line.new.source)) c.deref.result.now = rw bytes c.in_ok-next_line.ensures.handed_out in
    rw counted
    (reads_on c.args.reader.now c.in_ok-next_line.field-0 (ahead c.args.lines.now (g.S.Source.left c.args.input.now)) (ahead c.next_line.new.self (g.S.Source.left c.next_line.new.source))
    c.deref.result.now c.in_ok-read_line.field-0 there out c.in_ok-read_line.ensures.ok)

pub returns-then-branch-clause-named : goal.returns-then-branch-clause-named
returns-then-branch-clause-named g c = rw c.in_ok-read_line.ensures.counted (learns c.args.reader.now c.deref.result.now c.in_ok-read_line.field-0 c.in_ok-read_line.ensures.ok)
