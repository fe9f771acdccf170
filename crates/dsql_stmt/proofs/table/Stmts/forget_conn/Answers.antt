-- The handles that stay are all that aren't on the connection.
use Rattle.std.proofs.Common.{rules, ◌≡◌, List, not, ap, sym, subst, ◌∙◌}
use Rattle.indexmap.proofs.CallerLemmas.{filter-RetainsPairs}
use Rattle.dsql_stmt.specs.Statements.{Statements, Live, is_on, without_conn, IsOneEach}
use Rattle.dsql_stmt.proofs.OneEach.{one_in_part}
use Rattle.dsql_stmt.proofs.table.Stmts.forget_conn.Goals as goal

stay : (c : goal.After-retain) → c.retain.new.self.entries ≡ without_conn c.args.conn c.self.inside.live.entries
stay c = filter-RetainsPairs _ _ _ (λ k v b w g call. search rules) _ _ c.retain.ensures.filtered

pub returns-clause-live : goal.returns-clause-live
returns-clause-live c = stay c ∙ ap (λ (t : Statements). without_conn c.args.conn t.live) c.self.view_is

pub invariant_of-self : goal.invariant_of-self
invariant_of-self c =
    subst (λ (live : List Live). IsOneEach live) (sym (stay c))
    (one_in_part (λ l. not (is_on c.args.conn l)) c.self.inside.live.entries c.self.invariant)
