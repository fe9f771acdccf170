-- The recorded lines of calls in transactions.
use Rattle.dsql_engine_lines.specs.declared.lines.Lines.{Lines}
use Rattle.dsql_engine_lines.specs.Inside.{InTransactions}

abbrev pub in_transactions : Lines → InTransactions
in_transactions it = record { calls = it.calls.items; «open» = it.open.items }
