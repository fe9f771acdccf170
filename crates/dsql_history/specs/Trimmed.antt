-- Defines what remains of a history after its oldest events are trimmed.
use Rattle.std.specs.Prelude.{ℕ, ◌≡◌, ◌≤◌, List, drop, length, reverse}
use Rattle.dsql_history.specs.declared.event.Event.{Event}

-- Holds if these events, oldest first, remain of a history after this many of its oldest events are trimmed.
pub record IsLeftOf (past : List Event) (trimmed : ℕ) (kept : List Event) : Type 0 where
  pub rest : kept ≡ drop trimmed (reverse past)
  pub within : trimmed ≤ length past
