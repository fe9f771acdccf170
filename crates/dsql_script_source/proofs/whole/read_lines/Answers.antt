use Rattle.std.proofs.Common.{◌≡◌, ◌∙◌, true, refl}
use Rattle.std.specs.Prelude.{Err}
use Rattle.dsql_script_source.specs.declared.stop.Stop.TheVariants.{Memory}
use Rattle.dsql_script_source.proofs.Errors.{err_is}
use Rattle.dsql_script_source.proofs.WholeScript.{counted_next, named_once, nothing_read, raced_next, whole_lacks, whole_next}
use Rattle.dsql_script_source.proofs.whole.read_lines.Goals as goal

pub returns-in_err-script-clause-reads : goal.returns-in_err-script-clause-reads
returns-in_err-script-clause-reads g c =
    let is : c.from_residual.result ≡ Err Memory = err_is c.from_residual.result Memory c.from_residual.ensures.1 in
    let left = g.S.Source.left c.args.input.now in
    rw is (nothing_read c.args.lines.now.items left left (g.F.Fleet.preferred c.args.fleet.now) (g.F.Fleet.ability c.args.fleet.now) c.requires)

pub returns-in_err-line-clause-once : goal.returns-in_err-line-clause-once
returns-in_err-line-clause-once g c = named_once c.loop-script.lines.items c.loop-script.script.reader c.loop-script.invariant.counted

pub loop-script-preserved : goal.loop-script-preserved
loop-script-preserved g c =
    let read = c.in_ok-line.field-0 in
    let old = c.loop-script.lines.items in
    let new = c.keep_line.new.lines.items in
    let more = c.in_ok-keep_line.ensures.ok in
    record {
      so_far = whole_next read c.in-Some.line old new (g.S.Source.left c.args.input.now) c.loop-script.script c.next.new.self (g.S.Source.left c.loop-script.input) (g.S.Source.left c.next.new.input) (g.F.Fleet.preferred c.args.fleet.now) (g.F.Fleet.preferred c.loop-script.fleet)
          (g.F.Fleet.preferred c.keep_line.new.fleet) (g.F.Fleet.ability c.args.fleet.now) (g.F.Fleet.ability c.loop-script.fleet) (g.F.Fleet.ability c.keep_line.new.fleet) c.in-Some.is c.loop-script.invariant.so_far c.in_ok-line.ensures.body
          (c.in_ok-line.ensures.reads true (g.S.Source.left c.args.input.now)) more c.in_ok-keep_line.ensures.prefers;
      race = c.next.ensures.race ∙ c.loop-script.invariant.race;
      raced = raced_next read c.in-Some.line old new c.in-Some.is c.loop-script.invariant.raced (c.in_ok-line.ensures.raced c.loop-script.invariant.race) more;
      counted = counted_next read c.in-Some.line old new c.loop-script.script.reader c.next.new.self.reader c.in-Some.is c.loop-script.invariant.counted c.in_ok-line.ensures.named more;
      faultless = c.in_ok-line.ensures.faults.faultless refl ∙ c.loop-script.invariant.faultless;
      untold = c.keep_line.ensures.untold ∙ c.loop-script.invariant.untold;
    }

pub returns-in_err-keep_line-clause-reads : goal.returns-in_err-keep_line-clause-reads
returns-in_err-keep_line-clause-reads g c =
    let is : c.from_residual-in_err-keep_line.result ≡ Err Memory = err_is c.from_residual-in_err-keep_line.result Memory c.from_residual-in_err-keep_line.ensures.1 in
    rw (is, c.in_err-keep_line.ensures.err, c.in_err-keep_line.ensures.unasked)
    (whole_lacks c.loop-script.lines.items (g.S.Source.left c.args.input.now) c.loop-script.script (g.S.Source.left c.loop-script.input) (g.S.Source.left c.next.new.input) (g.F.Fleet.preferred c.args.fleet.now) (g.F.Fleet.preferred c.loop-script.fleet)
    (g.F.Fleet.ability c.args.fleet.now) (g.F.Fleet.ability c.loop-script.fleet) c.loop-script.invariant.so_far)

pub returns-in_err-keep_line-clause-once : goal.returns-in_err-keep_line-clause-once
returns-in_err-keep_line-clause-once g c = rw c.in_err-keep_line.ensures.err (named_once c.loop-script.lines.items c.loop-script.script.reader c.loop-script.invariant.counted)

pub returns-clause-once : goal.returns-clause-once
returns-clause-once g c = named_once c.loop-script.lines.items c.loop-script.script.reader c.loop-script.invariant.counted
