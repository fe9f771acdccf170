use Rattle.std.proofs.Common.{ap, ◌∙◌}
use Rattle.std.specs.List.{list_all}
use Rattle.dsql_pool.specs.Decisions.{starts_closing}
use Rattle.dsql_pool.proofs.Closed.{outdated_close}
use Rattle.dsql_pool.proofs.pool.Pool.close_outdated.Goals as goal

pub close_noted-requires : goal.close_noted-requires
close_noted-requires c =
    let p = c.args.self.now.pooled in
    ap (list_all starts_closing) c.note_outdated.ensures.moves ∙ outdated_close p.limits p.moment p.conns p.idle
