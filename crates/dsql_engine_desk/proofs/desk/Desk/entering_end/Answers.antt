use Rattle.std.proofs.Common.{ap, ◌∙◌}
use Rattle.dsql_engine_desk.specs.Desk.{past, Stands}
use Rattle.dsql_engine_effects.specs.Starting.{told_on}
use Rattle.dsql_engine_desk.proofs.AtEntry.{starts_end, told_named}
use Rattle.dsql_engine_desk.proofs.desk.Desk.entering_end.Goals as goal

pub returns : goal.returns
unfolding Stands
returns c =
    let H = past c.args.self.now in
    let label = c.args.label.now in
    starts_end H label c.args.by c.tx_maker-tx.result c.ending_of-ends.result c.in_ok-told.told c.over_end.result c.over_end.ensures c.tx_maker-tx.ensures c.ending_of-ends.ensures
    (c.in_ok-told.ensures.told ∙ (ap (told_on label c.tx_named.result) c.requires.tables.txs ∙ told_named H label c.tx_named.result c.tx_named.ensures))
