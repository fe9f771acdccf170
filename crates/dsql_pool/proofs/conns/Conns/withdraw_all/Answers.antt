use Rattle.dsql_pool.specs.Changes.{unwanted}
use Rattle.dsql_pool.proofs.Rows.{drawn_map, unwanted_drawn}
use Rattle.dsql_pool.proofs.conns.Conns.withdraw_all.Goals as goal

pub invariant_of-self : goal.invariant_of-self
invariant_of-self c = drawn_map c.self.inside.drawn c.self.inside.opened unwanted c.self.inside.rows.items c.withdraw_all_from.new.rows.items (unwanted_drawn c.self.inside.drawn) c.withdraw_all_from.ensures.rows c.self.invariant
