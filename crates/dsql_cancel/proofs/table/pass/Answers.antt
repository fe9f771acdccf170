use Rattle.std.proofs.Common.{◌<◌, length, get_or, arith}
use Rattle.std.proofs.lemmas.List.{get_or_default}
use Rattle.std.proofs.lemmas.List.Edits.{map_over_more}
use Rattle.dsql_cancel.specs.declared.token.Token.{Token}
use Rattle.dsql_cancel.specs.Registry.{Name}
use Rattle.dsql_cancel.specs.Token.{at_moment}
use Rattle.dsql_cancel.proofs.table.pass.Goals as goal

pub loop-entry-preserved : goal.loop-entry-preserved
loop-entry-preserved c =
    let i = c.loop-entry.entry-index in
    let item = c.entry-item.result in
    let at : c.loop-entry.entry-index < length c.args.table.now = omega arith in
    let within : c.loop-entry.entry-index < length c.loop-entry.table = omega arith in
    rw c.at_moment-entry.ensures (map_over_more (λ (e : Name × Token). (e.0, at_moment c.args.now e.1)) c.args.table.now c.loop-entry.table i (get_or c.loop-entry.table i item) at c.loop-entry.invariant (get_or_default c.loop-entry.table i item _ within))
