-- Defines the rule that the pool opens no more connections than may be open.
use Rattle.std.specs.Prelude.{nat_lt, Bool, true, List}
use Rattle.dsql_pool.specs.declared.moves.Move.TheVariants.{OpenStart}
use Rattle.dsql_pool.specs.Pooled.{open_count, most_allowed}
use Rattle.dsql_history.specs.declared.event.Event.{Event}
use Rattle.dsql_history.specs.declared.event.Event.TheVariants.{Pool}
use Rattle.dsql_history.specs.Readers.Pool.{pool}

-- Is true unless the event starts an opening while as many connections are open as may be.
abbrev pub keeps_limit : List Event → Event → Bool
keeps_limit before (Pool (OpenStart c n)) = nat_lt (open_count (pool before)) (most_allowed (pool before))
keeps_limit before _ = true
