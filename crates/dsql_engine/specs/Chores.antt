-- The layer's own driver calls.
use Rattle.std.specs.Prelude.{◌≡◌, ℕ, List, Option, Some, None, option_map}
use Rattle.dsql_engine_hearing.specs.history.declared.event.Event.{Event}
use Rattle.dsql_engine_hearing.specs.history.Rules.House.{chore_due}
use Rattle.dsql_engine_hearing.specs.going.declared.next.Next.{Next}
use Rattle.dsql_engine_hearing.specs.going.declared.next.Next.TheVariants.{Send, Quiet}
use Rattle.dsql_engine_hearing.specs.going.Permits.{chore_permit}
use Rattle.dsql_engine.specs.Core.{Core}

abbrev pub chore_next : List Event → Option ℕ → Option Next
chore_next past None = Some Quiet
chore_next past (Some c) = option_map Send (chore_permit past c)

-- Holds if `next` is the layer's own driver call that comes first, or says that there is none. That driver call
-- is recorded as under way.
pub record IsChore (past : List Event) (next : Next) (now : Core) : Type 0 where
  pub next_is : chore_next past (chore_due past) ≡ Some next
  pub chore : now.chore ≡ chore_due past
