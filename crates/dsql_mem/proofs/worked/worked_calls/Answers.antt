use Rattle.dsql_mem.proofs.Examples.{worked_numbers, worked_texts, worked_handles, worked_queries, worked_transactions, worked_plans}
use Rattle.dsql_mem.proofs.worked.worked_calls.Goals as goal

pub returns : goal.returns
returns c =
    record {
      numbers = worked_numbers;
      texts = worked_texts;
      handles = worked_handles;
      queries = worked_queries;
      transactions = worked_transactions;
      plans = worked_plans;
    }
