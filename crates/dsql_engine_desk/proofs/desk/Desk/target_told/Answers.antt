use Rattle.dsql_engine_desk.specs.Desk.{past, Stands}
use Rattle.dsql_engine_desk.proofs.AtEntry.{told_target}
use Rattle.dsql_engine_desk.proofs.desk.Desk.target_told.Goals as goal

pub returns-in-Label : goal.returns-in-Label
unfolding Stands
returns-in-Label c =
    let d = c.args.self.now in
    told_target (past d) c.args.target.now c.in-Label.tx c.tx_named.result d.txs.txs c.told_on.result c.in-Label.is c.tx_named.ensures c.requires.tables.txs c.told_on.ensures.told
