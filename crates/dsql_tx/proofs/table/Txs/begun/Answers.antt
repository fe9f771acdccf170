-- Proves that `begun` appends a new number.
use Rattle.std.proofs.Common.{◌∷◌, [], ◌++◌, ap, ◌∙◌, eqb}
use Rattle.indexmap.proofs.CallerLemmas.{insert_entry-new}
use Rattle.dsql_value_numbered.specs.Numbered.{Numbered, was_made}
use Rattle.dsql_value_numbered.proofs.Changes.{not_made}
use Rattle.dsql_tx.specs.declared.tx.Tx.{Tx}
use Rattle.dsql_tx.specs.Transactions.{Transactions, begun_on}
use Rattle.dsql_tx.proofs.table.Txs.begun.Goals as goal

pub returns-clause-ok : goal.returns-clause-ok
returns-clause-ok c =
    let view = ap (λ (t : Transactions). t.txs) c.self.view_is in
    let new = begun_on c.args.conn c.args.tenure c.args.token in
    let none = not_made c.args.n c.self.inside.txs.entries (ap (λ (es : Numbered Tx). was_made c.args.n es) view ∙ c.requires) in
    c.in_ok-insert.ensures.entries
    ∙ (insert_entry-new eqb c.self.inside.txs c.args.n new none
    ∙ ap (λ (es : Numbered Tx). es ++ (c.args.n, new) ∷ []) view)
