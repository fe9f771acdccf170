use Rattle.dsql_pool.specs.Changes.{unwanted_by}
use Rattle.dsql_pool.proofs.Rows.{drawn_map, withdrawn_drawn}
use Rattle.dsql_pool.proofs.conns.Conns.withdraw.Goals as goal

pub invariant_of-self : goal.invariant_of-self
invariant_of-self c = drawn_map c.self.inside.drawn c.self.inside.opened (unwanted_by c.args.call) c.self.inside.rows.items c.withdraw_from.new.rows.items (withdrawn_drawn c.self.inside.drawn c.args.call) c.withdraw_from.ensures.rows c.self.invariant
