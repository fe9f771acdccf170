-- What adding an event to the history and to the tables, beside the pool, requires and ensures.
use Rattle.std.specs.Prelude.{◌≡◌, ◌<◌, ◌≤◌, ◌+◌, ◌∷◌, Bool, true, false, List, length}
use Rattle.dsql_laws_calls.specs.driver.declared.answer.DriverAnswer.{DriverAnswer}
use Rattle.dsql_laws_calls.specs.driver.declared.call.DriverCall.{DriverCall}
use Rattle.dsql_laws_calls.specs.driver.declared.call.DriverCall.TheVariants.{Connect, Shut}
use Rattle.dsql_laws_calls.specs.pool.declared.moves.Move.{Move}
use Rattle.dsql_laws_calls.specs.pool.declared.moves.Move.TheVariants.{Fell}
use Rattle.dsql_laws_calls.specs.history.declared.event.Event.{Event}
use Rattle.dsql_laws_calls.specs.history.declared.event.Event.TheVariants.{Ticked, SetLimit, Waits}
use Rattle.dsql_laws_calls.specs.history.Readers.Tries.{newest_answer}
use Rattle.dsql_laws_calls.specs.history.Legal.{Lawful, Calm}
use Rattle.dsql_laws_calls.specs.laws.OwedMade.{with_moves}
use Rattle.dsql_engine_desk.specs.declared.desk.Desk.{Desk}
use Rattle.dsql_engine_desk.specs.Desk.{trimmed, past, Tables}
use Rattle.dsql_engine_desk.specs.Step.{own_step}

-- Holds if the tables stand, the event may come next, and there is memory for it.
pub record MayAdd (desk : Desk) (event : Event) : Type 0 where
  pub tables : Tables desk
  pub lawful : Lawful (event ∷ past desk)
  pub calm : Calm (event ∷ past desk)
  pub paid : 0 < desk.paid

-- Holds if the event came, the tables stand with it, and the pool is unchanged.
pub record Adds (old new : Desk) (added : Event) : Type 0 where
  pub tables : Tables new
  pub event : past new ≡ added ∷ past old
  pub trimmed : trimmed new ≡ trimmed old
  pub paid : new.paid + 1 ≡ old.paid
  pub closed_by : new.closed_by ≡ old.closed_by
  pub pool : new.pool ≡ old.pool

-- Holds if the driver gave this answer directly before these moves, or the first of them is no refusal.
abbrev pub IsAnswerBefore : DriverAnswer → List Move → List Event → Type 0
IsAnswerBefore answer (Fell c n ∷ moves) history = answer ≡ newest_answer history
IsAnswerBefore answer _ history = Unit {0}

-- Holds if the tables stand, and these moves may come, one after another.
pub record MayAddMoves (desk : Desk) (moves : List Move) (answer : DriverAnswer) : Type 0 where
  pub tables : Tables desk
  pub lawful : Lawful (with_moves moves (past desk))
  pub answered : IsAnswerBefore answer moves (past desk)
  pub step : own_step (with_moves moves (past desk)) ≡ own_step (past desk)
  pub paid : length moves ≤ desk.paid

-- Holds if the moves came, and the tables stand with them.
pub record AddsMoves (old new : Desk) (moves : List Move) : Type 0 where
  pub tables : Tables new
  pub came : past new ≡ with_moves moves (past old)
  pub trimmed : trimmed new ≡ trimmed old
  pub paid : new.paid + length moves ≡ old.paid
  pub closed_by : new.closed_by ≡ old.closed_by
  pub pool : new.pool ≡ old.pool

-- Is true if the event changes no table except the history.
abbrev pub is_beside : Event → Bool
is_beside (Ticked now) = true
is_beside (SetLimit setting n) = true
is_beside (Waits n) = true
is_beside _ = false

abbrev pub is_refusal : Move → Bool
is_refusal (Fell c n) = true
is_refusal _ = false

-- Is true if this driver call opens or closes a connection. The layer itself makes such calls.
abbrev pub opens_or_shuts : DriverCall → Bool
opens_or_shuts Connect = true
opens_or_shuts Shut = true
opens_or_shuts _ = false
