-- The invariant of the loop: the transactions before the index are ended, and the room is as it was.
use Rattle.std.proofs.Common.{◌≡◌}
use Rattle.indexmap.specs.IndexMap.{spare}
use Rattle.dsql_tx.specs.Transactions.{ended_by}
use Rattle.dsql_tx.specs.declared.end.TxEnd.TheVariants.{EndOfRun}
use Rattle.dsql_value_numbered.proofs.EachThing.{changed_before}
use Rattle.dsql_tx.proofs.table.Txs.end_all.Given as goal

abbrev pub invariant-loop-index : goal.invariant-loop-index
invariant-loop-index l =
    (l.self-inside.txs.entries ≡ changed_before (ended_by EndOfRun) l.index l.initial.self-inside.txs.entries)
    × (spare l.self-inside.txs ≡ spare l.initial.self-inside.txs)
