-- The layer's own driver calls, as a program makes them.
use Rattle.std.specs.Prelude.{◌≡◌, ◌==◌, ℕ, Bool, true, false, List, []}
use Rattle.dsql_engine_hearing.specs.driver.declared.answer.DriverAnswer.{DriverAnswer}
use Rattle.dsql_engine_hearing.specs.driver.Kinds.{is_connect}
use Rattle.dsql_engine_hearing.specs.journal.declared.entry.Permit.{Permit}
use Rattle.dsql_engine_hearing.specs.journal.HandlesAndCursors.{fits_at_its_place}
use Rattle.dsql_tenure.specs.Judged.{answered}
use Rattle.dsql_wire.specs.Journaled.{MayBeSent}
use Rattle.dsql_wire.specs.Opening.{opens}
use Rattle.dsql_engine_hearing.specs.history.declared.event.Event.{Event}
use Rattle.dsql_engine_hearing.specs.history.declared.event.Event.TheVariants.{Heard}
use Rattle.dsql_engine_hearing.specs.history.Readers.Journals.{journal}
use Rattle.dsql_engine_hearing.specs.history.Rules.Sent.{asked_by}
use Rattle.dsql_engine_hearing.specs.exchanged.Filled.{Carries}
use Rattle.dsql_engine_hearing.specs.going.Permits.{tx_carried}
use Rattle.dsql_engine_hearing.specs.Hearing.{IsWelcome}

-- Holds if the layer's own driver call may be made on connection c, and has no statement. A Connect opens a
-- connection on which nothing was heard yet. The journal lets the driver call be sent, and each answer that
-- fits is welcome.
pub record MayBeMade (past : List Event) (c : ℕ) (permit : Permit) : Type 0 where
  pub conn : permit.conn ≡ c
  pub layer : permit.call_no ≡ 0
  pub tx : permit.tx ≡ tx_carried permit.owner permit.call
  pub carries : Carries (asked_by past 0) permit.call
  pub first : is_connect permit.call ≡ true → (opens permit ≡ true) × (journal past c ≡ [])
  pub sent : MayBeSent c (journal past c) permit
  pub welcome : (answer : DriverAnswer) → fits_at_its_place (journal past c) (answered permit answer) ≡ true
      → IsWelcome past (answered permit answer)

-- Is true if the event is an answer on connection c.
abbrev pub hears_on : ℕ → Event → Bool
hears_on c (Heard e) = e.conn == c
hears_on c _ = false
