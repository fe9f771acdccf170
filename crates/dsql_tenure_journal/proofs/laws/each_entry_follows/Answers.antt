use Rattle.std.proofs.Common.{List, subst, sym}
use Rattle.dsql_tenure_journal.specs.declared.entry.Entry.{Entry}
use Rattle.dsql_tenure_journal.specs.Journal.{IsJournalPrefix}
use Rattle.dsql_tenure_journal.proofs.Beginnings.{IsJournalPrefix-at, IsJournalPrefix-from_each}
use Rattle.dsql_tenure_journal.proofs.laws.each_entry_follows.Goals as goal

pub returns : goal.returns
returns c = record {
  each = λ journal later before e h is. IsJournalPrefix-at later e before (subst (λ (j : List Entry). IsJournalPrefix j) (sym is) h);
  all = IsJournalPrefix-from_each;
}
