-- Defines which permit may open a connection, and which answer a refusal is.
use Rattle.std.specs.Prelude.{◌≡◌, ◌<◌, Bool, ◌&&◌, ◌==◌, [], Option, Some, None}
use Rattle.dsql_driver.specs.declared.answer.DriverAnswer.{DriverAnswer}
use Rattle.dsql_driver.specs.declared.answer.DriverAnswer.TheVariants as answers
use Rattle.dsql_driver.specs.declared.wire.Refused.{Refused}
use Rattle.dsql_driver.specs.declared.wire.Refused.TheVariants.{Bad, Fail, Memory}
use Rattle.dsql_tenure_journal.specs.declared.entry.Permit.{Permit}
use Rattle.dsql_tenure_journal.specs.Kinds.{is_house}
use Rattle.dsql_driver.specs.Kinds.{is_connect}
use Rattle.dsql_tenure.specs.Judged.{Judged}
use Rattle.dsql_wire.specs.Journaled.{MayBeSent}

-- Is true if the permit is for a Connect by the House in tenure 1, with no call number and no transaction.
abbrev pub opens : Permit → Bool
opens p = is_connect p.call && is_house p.owner && (p.tenure == 1) && (p.call_no == 0) && (p.tx == 0)

-- Holds if the permit may come first, and the journal is of its connection, is empty, and has memory for an
-- entry.
pub record IsReady (permit : Permit) (journal : Judged) : Type 0 where
  pub conn : journal.conn ≡ permit.conn
  pub nothing : journal.journal ≡ []
  pub room : 0 < journal.spare
  pub may : MayBeSent permit.conn [] permit

-- Returns the answer that a refusal is, of the same kind and with the same text, or `None` for a lack of
-- memory.
abbrev pub refusal : Refused → Option DriverAnswer
refusal Bad = Some answers.Bad
refusal (Fail text) = Some (answers.Fail text)
refusal Memory = None
