-- Proves that `end` ends the transaction with that number in its place.
use Rattle.std.proofs.Common.{ap, sym, ◌∙◌, eqb}
use Rattle.std.specs.Map.{set_value}
use Rattle.dsql_value_numbered.specs.Numbered.{Numbered, changed}
use Rattle.dsql_value_numbered.proofs.Changes.{set_value-changed}
use Rattle.dsql_tx.specs.declared.tx.Tx.{Tx}
use Rattle.dsql_tx.specs.Transactions.{Transactions, ended_by}
use Rattle.dsql_tx.proofs.table.Txs.end.Goals as goal

pub returns-clause-txs : goal.returns-clause-txs
returns-clause-txs c =
    let txs = c.self.inside.txs.entries in
    let view = ap (λ (t : Transactions). t.txs) c.self.view_is in
    (c.get_mut.follows.holds c.end.new.self).0
    ∙ (ap (λ (tx : Tx). set_value (λ k. eqb c.args.n k) txs tx) c.end.ensures.tx
    ∙ (set_value-changed (ended_by c.args.by) c.args.n txs c.in-Some.tx.now (sym c.in-Some.ensures.value)
    ∙ ap (λ (es : Numbered Tx). changed (ended_by c.args.by) c.args.n es) view))
