-- What contracts see of a run's events.
use Rattle.std.specs.Prelude.{ℕ, List}
use Rattle.dsql_laws.specs.history.declared.event.Event.{Event}

-- A run's events, newest first; the number of its oldest events that were trimmed; and the number of further
-- events for which there is memory.
pub record Logged : Type 0 where
  pub past : List Event
  pub trimmed : ℕ
  pub spare : ℕ
