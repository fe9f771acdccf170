use Rattle.std.proofs.Common.{◌≡◌, ◌∙◌, Bool, false, List, length, reverse, sym, subst}
use Rattle.dsql_hall_steps.specs.follows.declared.line.Line.{Line}
use Rattle.dsql_hall_steps.specs.Racing.{resting}
use Rattle.dsql_hall_steps.specs.player.Playing.{IsAt}
use Rattle.dsql_hall_steps.proofs.player.Ended.{on_ok2}
use Rattle.dsql_hall_steps.specs.player_wires.WiresFit.{WiresFit}
use Rattle.dsql_hall.proofs.Finished.{finished, full_or, halted, ok_so}
use Rattle.dsql_hall.proofs.Plans.{tells_closed}
use Rattle.dsql_hall.proofs.ending.end_race.Goals as goal

pub run_through-stopped-requires-clause-ready : goal.run_through-stopped-requires-clause-ready
run_through-stopped-requires-clause-ready g c = λ κs h. (c.close-player.ensures.well c.in-None.is).ready

pub run_through-stopped-requires-clause-at : goal.run_through-stopped-requires-clause-at
run_through-stopped-requires-clause-at g c = λ κs h.
    let p = c.close-player.result.player in
    subst (λ (lines : List Line). IsAt (resting lines p) p) c.requires.lines (c.close-player.ensures.well c.in-None.is).at

pub run_through-stopped-requires-clause-wires : goal.run_through-stopped-requires-clause-wires
run_through-stopped-requires-clause-wires g c = λ κs h.
    let same = c.requires.telling c.if-not-cut.true in
    subst (λ (telling : Bool). WiresFit g.F.Wire.Wire.told telling c.close-player.result.player.past c.close-player.result.wires) (sym same) (c.close-player.ensures.well c.in-None.is).wires

pub returns-in-None-clause-ends : goal.returns-in-None-clause-ends
returns-in-None-clause-ends g c =
    let through = c.run_through-stopped.ensures in
    finished
    g.K.Race.terms
    (reverse c.args.lines.now.items) c.close-player.result.settings.items c.run_through-stopped.result c.close-player.result.player c.run_through-stopped.new.player c.requires.lines c.close-player.ensures.keeps through.all
    through.some through.set through.some_set through.first through.last through.over through.ended through.quiet through.legal through.full through.trimmed

pub returns-in-None-clause-uncut : goal.returns-in-None-clause-uncut
returns-in-None-clause-uncut g c = ok_so c.run_through-stopped.result (c.args.cut ≡ false) c.if-not-cut.true

pub returns-in-None-clause-told : goal.returns-in-None-clause-told
returns-in-None-clause-told g c =
    let closed = c.close-player.ensures.well c.in-None.is in
    on_ok2 c.run_through-stopped.result
    (λ empty tells first was. c.retire_all.ensures.unasked empty
    ∙ tells_closed g.F.Wire.Wire.told g.K.Race.terms.made (g.F.Fleet.told c.args.fleet.now) (g.F.Fleet.told c.run_through-stopped.new.fleet) first c.args.own.past c.close-player.result.player.past c.run_through-stopped.new.player.past
    c.close-player.result.wires c.run_through-stopped.new.wires closed.plans closed.told tells was)
    c.run_through-stopped.ensures.empty c.run_through-stopped.ensures.told

pub returns-in_default-clause-ends : goal.returns-in_default-clause-ends
returns-in_default-clause-ends g c =
    let p = c.close-player.result.player in
    halted
    g.K.Race.terms
    c.unwrap_or.result c.close-player.result.settings.items p c.close-player.ensures.keeps
    (λ is. full_or c.close-player.result.stopped (length p.past) c.close-player.ensures.full (sym c.unwrap_or.ensures ∙ is))
