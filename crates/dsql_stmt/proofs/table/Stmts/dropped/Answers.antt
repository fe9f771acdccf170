-- The handles that stay are all except the dropped one.
use Rattle.std.proofs.Common.{rules, ◌≡◌, List, not, ap, sym, subst, ◌∙◌}
use Rattle.indexmap.proofs.CallerLemmas.{filter-RetainsPairs}
use Rattle.dsql_stmt.specs.Statements.{Statements, Live, is_handle, without_handle, IsOneEach}
use Rattle.dsql_stmt.proofs.OneEach.{one_in_part}
use Rattle.dsql_stmt.proofs.table.Stmts.dropped.Goals as goal

stay : (c : goal.After-retain) → c.retain.new.self.entries ≡ without_handle c.args.conn c.args.handle c.self.inside.live.entries
stay c = filter-RetainsPairs _ _ _ (λ k v b w g call. search rules) _ _ c.retain.ensures.filtered

pub returns-clause-live : goal.returns-clause-live
returns-clause-live c = stay c ∙ ap (λ (t : Statements). without_handle c.args.conn c.args.handle t.live) c.self.view_is

pub invariant_of-self : goal.invariant_of-self
invariant_of-self c =
    subst (λ (live : List Live). IsOneEach live) (sym (stay c))
    (one_in_part (λ l. not (is_handle c.args.conn c.args.handle l)) c.self.inside.live.entries c.self.invariant)
