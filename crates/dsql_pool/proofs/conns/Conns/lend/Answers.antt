-- The argument changes the row that was found.
use Rattle.std.proofs.Common.{◌+◌, ◌≤◌, ℕ, cond, true, false, Some, refl, sym, ap, ◌∙◌, subst, arith}
use Rattle.dsql_tenure_journal.specs.declared.entry.Owner.{Owner}
use Rattle.dsql_tenure_journal.specs.Kinds.{is_house}
use Rattle.dsql_pool.specs.declared.conn.Conn.{Conn}
use Rattle.dsql_pool.specs.Places.{Numbered, conn_of}
use Rattle.dsql_pool.specs.Changes.{lent, conn_changed}
use Rattle.dsql_pool.proofs.Rows.{changed_found, changed_missing, found_drawn, drawn_put, drawn_on}
use Rattle.dsql_pool.proofs.conns.Conns.lend.Goals as goal

lent_within : (d tenure moment : ℕ) (owner : Owner) (x : Conn) → x.lends ≤ d → x.uses ≤ d → ((lent tenure owner moment x).lends ≤ d + 1) × ((lent tenure owner moment x).uses ≤ d + 1)
lent_within d tenure moment owner x lends uses =
    (omega arith, elim (is_house owner) as (λ b. cond b x.uses (x.uses + 1) ≤ d + 1) [ true ↦ omega arith | false ↦ omega arith ])

pub invariant_of-self : goal.invariant_of-self
invariant_of-self c =
    let d = c.self.inside.drawn in
    let x = c.in-Some.row in
    let found = found_drawn d c.args.conn c.self.inside.rows.items (Some x) (sym c.in-Some.is ∙ (c.at-found.ensures.conn ∙ ap (λ (t : Numbered). conn_of c.args.conn t.conns) (sym c.self.view_is))) c.self.invariant.lent in
    let within = lent_within d c.args.tenure c.args.moment c.args.owner x found.0 found.1 in
    drawn_put d (d + 1) c.lent.result.number c.lent.result c.self.inside.opened c.self.inside.rows.items c.put.new.rows.items (omega arith) c.put.ensures.rows
    (subst (λ (y : Conn). y.lends ≤ d + 1) (sym c.lent.ensures) within.0)
    (subst (λ (y : Conn). y.uses ≤ d + 1) (sym c.lent.ensures) within.1)
    c.self.invariant

pub invariant_of-self-in_default : goal.invariant_of-self-in_default
invariant_of-self-in_default c = drawn_on c.self.inside.drawn (c.self.inside.drawn + 1) c.self.inside.opened c.self.inside.rows.items (omega arith) c.self.invariant

pub returns-in-Some-clause-conns : goal.returns-in-Some-clause-conns
returns-in-Some-clause-conns c =
    let conns = c.args.self.now.conns in
    c.put.ensures.rows
    ∙ (ap (λ (y : Conn). conn_changed y.number (λ _. y) c.self.inside.rows.items) c.lent.ensures
    ∙ (ap (λ (t : Numbered). conn_changed ((lent c.args.tenure c.args.owner c.args.moment) c.in-Some.row).number (λ _. (lent c.args.tenure c.args.owner c.args.moment) c.in-Some.row) t.conns) c.self.view_is
    ∙ changed_found c.args.conn (lent c.args.tenure c.args.owner c.args.moment) c.in-Some.row conns c.in-Some.ensures.conn refl))

pub returns-in_default-clause-conns : goal.returns-in_default-clause-conns
returns-in_default-clause-conns c =
    ap (λ (t : Numbered). t.conns) c.self.view_is
    ∙ sym (changed_missing c.args.conn (lent c.args.tenure c.args.owner c.args.moment) c.args.self.now.conns c.in_default.ensures.conn)
