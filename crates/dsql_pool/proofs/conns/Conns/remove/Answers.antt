use Rattle.dsql_pool.proofs.Rows.{drawn_gone}
use Rattle.dsql_pool.proofs.conns.Conns.remove.Goals as goal

pub invariant_of-self : goal.invariant_of-self
invariant_of-self c = drawn_gone c.self.inside.drawn c.args.conn c.self.inside.opened c.self.inside.rows.items c.remove_from.new.rows.items c.remove_from.ensures.rows c.self.invariant
