use Rattle.std.proofs.Common.{ap, arith}
use Rattle.dsql_engine_desk.proofs.Present.{few_openings}
use Rattle.dsql_engine_desk.proofs.desk.Desk.note_control.Goals as goal

pub control_pool-requires-clause-drawn : goal.control_pool-requires-clause-drawn
control_pool-requires-clause-drawn c =
    let few = few_openings c.args.self.now c.requires.may.stands c.requires.may.few in
    let same = ap (λ q. q.pooled.drawn) c.add_beside.ensures.pool in
    omega (arith, few, same)
