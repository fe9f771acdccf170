use Rattle.std.proofs.Common.{ap, ◌∙◌, ◌-◌, length, take}
use Rattle.std.specs.List.{list_all}
use Rattle.dsql_pool.specs.declared.moves.CloseCause.TheVariants.{IdleFull}
use Rattle.dsql_pool.specs.Decisions.{starts_closing}
use Rattle.dsql_pool.proofs.Closed.{closings_close}
use Rattle.dsql_pool.proofs.pool.Pool.close_surplus.Goals as goal

pub close_noted-requires : goal.close_noted-requires
close_noted-requires c =
    let p = c.limit.new.self.pooled in
    ap (list_all starts_closing) c.note_surplus.ensures.moves ∙ closings_close IdleFull (take (length p.idle - p.limits.max_idle) p.idle)
