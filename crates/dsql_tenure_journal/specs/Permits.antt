-- The entry that an answer makes of a permit.
use Rattle.dsql_driver.specs.declared.answer.DriverAnswer.{DriverAnswer}
use Rattle.dsql_tenure_journal.specs.declared.entry.Entry.{Entry}
use Rattle.dsql_tenure_journal.specs.declared.entry.Permit.{Permit}

abbrev pub entry_of : Permit → DriverAnswer → Entry
entry_of p answer =
    record {
      conn = p.conn;
      tenure = p.tenure;
      owner = p.owner;
      call_no = p.call_no;
      tx = p.tx;
      call = p.call;
      answer = answer;
    }
