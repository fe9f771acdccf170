use Rattle.dsql_tenure_journal.proofs.Examples.{whole_samples, refused_in_tenure, refused_in_transaction, refused_in_handles, refused_in_whole}
use Rattle.dsql_tenure_journal.proofs.worked.worked_journals.Goals as goal

pub returns : goal.returns
returns c = record {
  whole = whole_samples;
  tenure = refused_in_tenure;
  transaction = refused_in_transaction;
  handles = refused_in_handles;
  order = refused_in_whole;
}
