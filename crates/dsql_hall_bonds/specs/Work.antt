-- The work that threads took out of the lock.
use Rattle.std.specs.Prelude.{◌==◌, ℕ, List, [], ◌∷◌, Option, Some, None, cond}
use Rattle.dsql_history.specs.declared.event.Event.{Event}
use Rattle.dsql_history.specs.journal.declared.entry.Permit.{Permit}

-- Work that is out: its connection, the driver call that is made there, and the history as the work went out. What
-- held of the connection then is read off that history.
pub record Work : Type 0 where
  pub conn : ℕ
  pub permit : Permit
  pub past : List Event

-- Returns the newest work that is out on a connection, if there is any.
abbrev pub find : ℕ → List Work → Option Work
find conn [] = None
find conn (work ∷ older) = cond (work.conn == conn) (Some work) (find conn older)

-- Returns the work that is out on other connections than this one.
abbrev pub without : ℕ → List Work → List Work
without conn [] = []
without conn (work ∷ older) = cond (work.conn == conn) (without conn older) (work ∷ without conn older)
