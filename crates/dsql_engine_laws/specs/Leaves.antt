-- Defines what leave for a driver call says of the history.
use Rattle.std.specs.Prelude.{◌≡◌, ◌≢◌, true, List, Some}
use Rattle.dsql_engine_hearing.specs.driver.declared.answer.DriverAnswer.{DriverAnswer}
use Rattle.dsql_engine_hearing.specs.journal.declared.entry.Permit.{Permit}
use Rattle.dsql_engine_hearing.specs.journal.Permits.{entry_of}
use Rattle.dsql_engine_hearing.specs.pool.declared.conn.Place.TheVariants.{Lent}
use Rattle.dsql_engine_hearing.specs.history.declared.event.Event.{Event}
use Rattle.dsql_engine_hearing.specs.history.Readers.Pool.{place}
use Rattle.dsql_engine_hearing.specs.history.Rules.Sent.{asked_by}
use Rattle.dsql_engine_hearing.specs.history.Rules.Line.{may_come}
use Rattle.dsql_engine_hearing.specs.exchanged.Filled.{Carries}
use Rattle.dsql_engine_hearing.specs.going.Permits.{tx_carried}

-- Holds if the permit is leave for a driver call that a client's call may still make: whatever the answer is,
-- it may come. The driver call carries what its call asks, and the transaction in which it stands.
pub record IsLeave (past : List Event) (permit : Permit) : Type 0 where
  pub of_a_call : permit.call_no ≢ 0
  pub tx : permit.tx ≡ tx_carried permit.owner permit.call
  pub lent : place past permit.conn ≡ Some (Lent permit.tenure permit.owner)
  pub carries : Carries (asked_by past permit.call_no) permit.call
  pub comes : (answer : DriverAnswer) → may_come past (entry_of permit answer) ≡ true
