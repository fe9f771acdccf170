use Rattle.std.proofs.Common.{◌<◌, ◌∙◌, ap, false, length, set, get_or, arith}
use Rattle.std.proofs.lemmas.List.{get_or_default}
use Rattle.std.proofs.lemmas.List.Edits.{map_over_more}
use Rattle.dsql_tenure_asked.specs.declared.live.Cursor.{Cursor}
use Rattle.dsql_tenure.specs.Heard.{over_if}
use Rattle.dsql_tenure.proofs.heard.end_each.Goals as goal

pub loop-cursor-preserved : goal.loop-cursor-preserved
loop-cursor-preserved c =
    let none : Cursor = record { number = 0; tenure = 0; tx = 0; columns = 0; over = false } in
    let at : c.loop-cursor.cursor-index < length c.args.cursors.now = omega arith in
    let within : c.loop-cursor.cursor-index < length c.loop-cursor.cursors = omega arith in
    ap (λ (x : Cursor). set c.loop-cursor.cursors c.loop-cursor.cursor-index x) c.over_if.ensures
    ∙ map_over_more (over_if c.args.number) c.args.cursors.now c.loop-cursor.cursors c.loop-cursor.cursor-index (get_or c.loop-cursor.cursors c.loop-cursor.cursor-index none) at c.loop-cursor.invariant
    (get_or_default c.loop-cursor.cursors c.loop-cursor.cursor-index none _ within)
