-- When one history goes on from another.
use Rattle.std.specs.Prelude.{◌≡◌, ◌++◌, List}
use Rattle.dsql_history.specs.declared.event.Event.{Event}

-- Holds if one history goes on from another. The newest event comes first.
pub record Extends (old new : List Event) : Type 0 where
  pub added : List Event
  pub whole : new ≡ added ++ old
