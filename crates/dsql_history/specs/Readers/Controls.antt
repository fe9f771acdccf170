-- Defines how the layer takes a moment or a limit from outside.
use Rattle.std.specs.Prelude.{max, List}
use Rattle.dsql_history.specs.declared.event.Control.{Control}
use Rattle.dsql_history.specs.declared.event.Control.TheVariants.{Tick, Set}
use Rattle.dsql_history.specs.declared.event.Event.{Event}
use Rattle.dsql_history.specs.declared.event.Event.TheVariants.{Ticked, SetLimit}
use Rattle.dsql_history.specs.Readers.Pool.{pool}

abbrev pub told : Control → Event
told (Tick now) = Ticked now
told (Set setting n) = SetLimit setting n

-- Returns the control as the layer takes it. Time never goes back: a moment before the present one counts as
-- the present one.
abbrev pub taken : List Event → Control → Control
taken before (Tick now) = Tick (max (pool before).moment now)
taken before (Set setting n) = Set setting n

abbrev pub told_after : List Event → Control → Event
told_after before control = told (taken before control)
