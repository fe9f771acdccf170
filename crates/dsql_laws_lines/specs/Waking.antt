-- Defines what a call does if it may move and has no driver call in flight.
use Rattle.std.specs.Prelude.{◌≡◌, ℕ, false, List, Some}
use Rattle.dsql_laws_calls.specs.history.declared.event.Event.{Event}
use Rattle.dsql_laws_calls.specs.history.declared.record.Stand.TheVariants.{Sends}
use Rattle.dsql_laws_calls.specs.history.Rules.Stands.{stand}
use Rattle.dsql_follows.specs.Moments.{Moment}
use Rattle.dsql_follows.specs.Splits.{is_sending}
use Rattle.dsql_laws_steps.specs.Groups.{gone_on}
use Rattle.dsql_laws_steps.specs.Steps.{GoesByItself}

-- Holds if the call has a driver call due, so that it only sends, which adds no event.
pub record OnlySends (past : List Event) (n : ℕ) : Type 0 where
  pub conn : ℕ
  pub stands : stand past n ≡ Some (Sends conn)
  pub silent : gone_on n past ≡ past

-- Holds if the call goes on by itself in one step.
pub record GoesOn (m : Moment) (n : ℕ) : Type 0 where
  pub stands : is_sending (stand m.past n) ≡ false
  pub goes : GoesByItself m n (gone_on n m.past)
