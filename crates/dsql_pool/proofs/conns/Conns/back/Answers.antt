-- The argument changes the row that was found.
use Rattle.std.proofs.Common.{◌≤◌, refl, sym, ap, ◌∙◌, subst, arith}
use Rattle.dsql_pool.specs.declared.conn.Conn.{Conn}
use Rattle.dsql_pool.specs.Places.{Numbered}
use Rattle.dsql_pool.specs.Changes.{back, conn_changed}
use Rattle.dsql_pool.proofs.Rows.{changed_found, changed_missing, drawn_put}
use Rattle.dsql_pool.proofs.conns.Conns.back.Goals as goal

pub invariant_of-self : goal.invariant_of-self
invariant_of-self c =
    let d = c.self.inside.drawn in
    let lends : c.back.result.lends ≤ d = subst (λ (y : Conn). y.lends ≤ d) (sym c.back.ensures) (subst (λ (t : Numbered). c.in-Some.row.lends ≤ t.drawn) (sym c.self.view_is) c.in-Some.ensures.lends) in
    let uses : c.back.result.uses ≤ d = subst (λ (y : Conn). y.uses ≤ d) (sym c.back.ensures) (subst (λ (t : Numbered). c.in-Some.row.uses ≤ t.drawn) (sym c.self.view_is) c.in-Some.ensures.uses) in
    drawn_put d d c.back.result.number c.back.result c.self.inside.opened c.self.inside.rows.items c.put.new.rows.items (omega arith) c.put.ensures.rows lends uses c.self.invariant

pub returns-in-Some-clause-conns : goal.returns-in-Some-clause-conns
returns-in-Some-clause-conns c =
    let conns = c.args.self.now.conns in
    c.put.ensures.rows
    ∙ (ap (λ (y : Conn). conn_changed y.number (λ _. y) c.self.inside.rows.items) c.back.ensures
    ∙ (ap (λ (t : Numbered). conn_changed ((back c.args.moment) c.in-Some.row).number (λ _. (back c.args.moment) c.in-Some.row) t.conns) c.self.view_is
    ∙ changed_found c.args.conn (back c.args.moment) c.in-Some.row conns c.in-Some.ensures.conn refl))

pub returns-in_default-clause-conns : goal.returns-in_default-clause-conns
returns-in_default-clause-conns c = sym (changed_missing c.args.conn (back c.args.moment) c.args.self.now.conns c.in_default.ensures.conn)
