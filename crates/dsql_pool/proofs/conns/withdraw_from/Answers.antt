use Rattle.std.proofs.Common.{◌<◌, length, arith}
use Rattle.std.proofs.lemmas.List.Edits.{map_over_more}
use Rattle.dsql_pool.specs.Changes.{unwanted_by}
use Rattle.dsql_pool.proofs.conns.withdraw_from.Goals as goal

pub loop-at-preserved : goal.loop-at-preserved
loop-at-preserved c =
    let i = c.loop-at.at in
    let at : c.loop-at.at < length c.args.rows.now.items = omega arith in (
      rw c.unwanted_by.ensures (map_over_more (unwanted_by c.args.call) c.args.rows.now.items c.loop-at.rows.items i c.index.result.now at c.loop-at.invariant.0 c.index.ensures),
      c.loop-at.invariant.1,
    )
