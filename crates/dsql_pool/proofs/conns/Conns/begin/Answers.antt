-- A connection that begins to be opened was never lent.
use Rattle.std.proofs.Common.{refl, ap}
use Rattle.dsql_pool.specs.declared.conn.Conn.{Conn}
use Rattle.dsql_pool.proofs.Rows.{drawn_begun}
use Rattle.dsql_pool.proofs.conns.Conns.begin.Goals as goal

pub invariant_of-self : goal.invariant_of-self
invariant_of-self c =
    drawn_begun c.self.inside.drawn c.self.inside.opened _ c.opening.result c.self.inside.rows.items c.push_reserved.new.self.items refl
    (ap (λ (x : Conn). x.lends) c.opening.ensures) (ap (λ (x : Conn). x.uses) c.opening.ensures) c.push_reserved.ensures.items c.self.invariant
