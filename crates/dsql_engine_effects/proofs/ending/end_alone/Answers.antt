use Rattle.std.proofs.Common.{sym, ◌∙◌}
use Rattle.dsql_history.specs.tx.Transactions.{ended_by}
use Rattle.dsql_engine_effects.proofs.EndedRows.{unmade}
use Rattle.dsql_engine_effects.proofs.ending.end_alone.Goals as goal

pub returns-else-was_made-clause-txs : goal.returns-else-was_made-clause-txs
returns-else-was_made-clause-txs c = unmade (ended_by c.args.by) c.args.tx c.args.txs.now.txs (sym c.was_made.ensures ∙ c.if-was_made.false)
