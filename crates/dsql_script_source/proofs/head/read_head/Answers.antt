use Rattle.dsql_script_source.proofs.Learning.{learned_then}
use Rattle.dsql_script_source.proofs.head.read_head.Goals as goal

pub returns-in_default-line-clause-named : goal.returns-in_default-line-clause-named
returns-in_default-line-clause-named g c = rw c.in-Some.is at (learned_then c.in_ok-line.field-0 c.args.script.now.reader c.loop-line.script.reader c.next.new.self.reader c.loop-line.invariant.labels c.in_ok-line.ensures.named)
