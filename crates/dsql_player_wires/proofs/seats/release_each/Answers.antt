use Rattle.std.proofs.Common.{◌<◌, length, get_or, arith}
use Rattle.std.proofs.lemmas.List.{get_or_default}
use Rattle.std.proofs.lemmas.List.Edits.{map_over_more}
use Rattle.dsql_player_wires.specs.Seats.{released}
use Rattle.dsql_player_wires.proofs.seats.release_each.Goals as goal

pub loop-at_hand-preserved : goal.loop-at_hand-preserved
loop-at_hand-preserved c =
    let now = c.loop-at_hand.seats in
    let at = c.loop-at_hand.at_hand-index in
    let item = c.at_hand-item.result in
    let before : c.loop-at_hand.at_hand-index < length c.args.seats.now = omega arith in
    let within : c.loop-at_hand.at_hand-index < length c.loop-at_hand.seats = omega arith in
    rw c.hold.ensures (map_over_more released c.args.seats.now now at (get_or now at item) before c.loop-at_hand.invariant (get_or_default now at item _ within))
