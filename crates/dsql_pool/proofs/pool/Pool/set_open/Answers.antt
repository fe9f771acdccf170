-- The surplus idle connections close, and then openings begin.
use Rattle.std.proofs.Common.{◌≡◌, ap, ◌∙◌, rules}
use Rattle.dsql_time.specs.declared.Limits.{Limits}
use Rattle.dsql_pool.specs.Pooled.{Pooled}
use Rattle.dsql_pool.specs.Moved.{made, limited, with_open}
use Rattle.dsql_pool.specs.Decisions.{closings_of_setting}
use Rattle.dsql_pool.specs.Calls.{open_set}
use Rattle.dsql_pool.proofs.Due.{pool_then}
use Rattle.dsql_pool.proofs.pool.Pool.set_open.Goals as goal

pub returns-clause-ok : goal.returns-clause-ok
returns-clause-ok c =
    let p = c.args.self.now.pooled in
    let q = c.make_ready.new.self.pooled in
    let set = open_set c.args.n p in
    let limits : c.open_limits-limits.result ≡ with_open c.args.n p.limits = search rules in
    let start : limited c.open_limits-limits.result q ≡ set = ap (λ (l : Limits). limited l q) limits ∙ ap (limited (with_open c.args.n p.limits)) c.in_ok-make_ready.ensures.pooled in
    pool_then (closings_of_setting set) set c.close_surplus.new.self.pooled _
    (c.close_surplus.ensures.pooled ∙ ap (λ (s : Pooled). made (closings_of_setting s) s) start)
    c.begin_due.ensures.pooled
