-- A call with its outcome, which stands for all entries that differ only in the contents of their answers.
use Rattle.std.specs.Prelude.{[]}
use Rattle.dsql_driver.specs.declared.answer.DriverAnswer.{DriverAnswer}
use Rattle.dsql_driver.specs.declared.answer.DriverAnswer.TheVariants.{Done, End, Bad, Fail}
use Rattle.dsql_tenure_journal.specs.declared.entry.Entry.{Entry}
use Rattle.dsql_tenure_asked.specs.declared.asked.Outcome.{Outcome}
use Rattle.dsql_tenure_asked.specs.declared.asked.Outcome.TheVariants as is
use Rattle.dsql_tenure_asked.specs.declared.asked.Asked.{Asked}

-- Returns the outcome of an answer.
abbrev pub outcome_of : DriverAnswer → Outcome
outcome_of Done = is.Done
outcome_of Bad = is.Bad
outcome_of (Fail text) = is.Failed
outcome_of _ = is.Other

-- Returns an answer of that outcome.
abbrev pub answer_like : Outcome → DriverAnswer
answer_like is.Done = Done
answer_like is.Bad = Bad
answer_like is.Failed = Fail []
answer_like is.Other = End

-- Returns an entry that the call stands for.
abbrev pub entry_like : Asked → Entry
entry_like asked =
    record {
      conn = asked.conn;
      tenure = asked.tenure;
      owner = asked.owner;
      call_no = asked.call_no;
      tx = asked.tx;
      call = asked.call.now;
      answer = answer_like asked.outcome;
    }
