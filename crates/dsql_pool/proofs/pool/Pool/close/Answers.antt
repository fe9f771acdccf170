use Rattle.std.proofs.Common.{ap, ◌∙◌}
use Rattle.std.specs.List.{list_all}
use Rattle.dsql_pool.specs.declared.moves.CloseCause.TheVariants.{DbClosed}
use Rattle.dsql_pool.specs.Decisions.{starts_closing}
use Rattle.dsql_pool.proofs.Closed.{closings_close}
use Rattle.dsql_pool.proofs.pool.Pool.close.Goals as goal

pub close_noted-requires : goal.close_noted-requires
close_noted-requires c = ap (list_all starts_closing) c.note_idle.ensures.moves ∙ closings_close DbClosed c.shut.new.self.pooled.idle
