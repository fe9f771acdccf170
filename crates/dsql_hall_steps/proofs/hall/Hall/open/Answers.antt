use Rattle.dsql_hall_steps.proofs.Ends.{opened, owned}
use Rattle.dsql_hall_steps.proofs.hall.Hall.open.Goals as goal

pub invariant_of-hall : goal.invariant_of-hall
invariant_of-hall g c =
    opened _ _ _ _ _ c.requires.ready c.requires.at c.requires.keeps c.requires.wires c.requires.plans c.requires.silent _ c.tie_own-bond.ensures.out

pub returns-clause-own : goal.returns-clause-own
returns-clause-own g c =
    owned _ _ _ _ _ c.requires.ready c.requires.at c.requires.keeps c.requires.wires c.requires.plans c.requires.silent _ c.tie_own-bond.ensures.bond
