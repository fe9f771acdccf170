-- Proves that `end_all` ends one transaction after another in its place.
use Rattle.std.proofs.Common.{length, slice_get, ap, sym, ◌∙◌, arith}
use Rattle.std.specs.Map.{values_of}
use Rattle.indexmap.specs.IndexMap.{set_value_at}
use Rattle.dsql_value_numbered.specs.Numbered.{Numbered, all_changed}
use Rattle.dsql_value_numbered.proofs.EachThing.{length-changed_before, changed_before-end, changed_before-next}
use Rattle.dsql_tx.specs.declared.tx.Tx.{Tx}
use Rattle.dsql_tx.specs.declared.end.TxEnd.TheVariants.{EndOfRun}
use Rattle.dsql_tx.specs.Transactions.{Transactions, ended_by}
use Rattle.dsql_tx.proofs.table.Txs.end_all.Goals as goal

pub index_mut-requires : goal.index_mut-requires
index_mut-requires c =
    omega (arith, ap length c.loop-index.invariant.0, length-changed_before (ended_by EndOfRun) c.loop-index.index c.self.inside.txs.entries)

pub loop-index-preserved : goal.loop-index-preserved
loop-index-preserved c =
    let index = c.loop-index.index in
    let old = c.self.inside.txs.entries in
    let now = c.loop-index.invariant.0 in (
      ap (λ (tx : Tx). set_value_at c.loop-index.self-inside.txs.entries index tx) c.end.ensures.tx
          ∙ (ap (λ (es : Numbered Tx). set_value_at es index (ended_by EndOfRun c.index_mut.result.now)) now
          ∙ changed_before-next (ended_by EndOfRun) index old c.index_mut.result.now (ap (λ (es : Numbered Tx). slice_get (values_of es) index) (sym now) ∙ c.index_mut.ensures.value)),
      c.loop-index.invariant.1,
    )

pub returns-clause-txs : goal.returns-clause-txs
returns-clause-txs c =
    c.loop-index.invariant.0
    ∙ (changed_before-end (ended_by EndOfRun) c.loop-index.index c.self.inside.txs.entries (omega arith)
    ∙ ap (λ (t : Transactions). all_changed (ended_by EndOfRun) t.txs) c.self.view_is)
