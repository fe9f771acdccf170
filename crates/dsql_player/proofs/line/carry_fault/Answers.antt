use Rattle.std.proofs.Common.{Bool, is_some, refl, sym, subst}
use Rattle.std.proofs.lemmas.Result.{err_from_is_err_and, on_ok_weaker, on_err_weaker}
use Rattle.dsql_engine_laws.specs.follows.declared.line.Line.{Line}
use Rattle.dsql_engine_laws.specs.follows.declared.line.Line.TheVariants.{Fault}
use Rattle.dsql_player_wires.specs.WiresFit.{WiresFit}
use Rattle.dsql_player_wires.proofs.Planned.{plan_fits, plan_tells}
use Rattle.dsql_player.proofs.Keeping.{run_then, run_unasked}
use Rattle.dsql_player.proofs.Lines.{begun_done, begun_fault, begun_stops, stops_at_once}
use Rattle.dsql_player.proofs.line.carry_fault.Goals as goal

pub returns-in_err-plan : goal.returns-in_err-plan
returns-in_err-plan g c =
    let old = c.args.player.now in
    let line : Line = Fault c.args.conn c.args.nth c.args.what in
    let p = err_from_is_err_and c.from_residual.result c.from_residual.ensures.1 in
    rw p.1
    (record {
      carries = tt;
      stops = λ m at. stops_at_once m line old old.past refl at;
      course = tt;
      run = run_unasked _ g.F.Fleet g.F.Wire.Wire.told _ c.args.fleet.now c.plan.new.fleet old old c.args.wires.now c.plan.new.wires refl c.requires.wires refl c.in_err-plan.ensures.unplanned c.in_err-plan.ensures.same c.plan.ensures.able c.requires.ready.legal;
      full = λ h. absurd (cc (h, p.2));
      trimmed = refl;
    })

pub run_on-requires-clause-wires : goal.run_on-requires-clause-wires
run_on-requires-clause-wires g c = λ κs h.
    let heard = g.F.Wire.Wire.told in
    let telling = is_some (g.F.Fleet.told c.args.fleet.now) in
    let past = c.args.player.now.past in
    let tells =
    plan_tells heard telling c.args.conn (c.args.nth, c.args.what) (g.F.Fleet.told c.args.fleet.now) (g.F.Fleet.told c.plan.new.fleet) past c.args.wires.now c.plan.new.wires c.requires.wires c.in_ok-plan.ensures.plans in
    subst (λ (b : Bool). WiresFit heard b past c.plan.new.wires) (sym tells.telling)
    (plan_fits heard c.args.conn (c.args.nth, c.args.what) (g.F.Fleet.told c.args.fleet.now) (g.F.Fleet.told c.plan.new.fleet) past c.args.wires.now c.plan.new.wires c.in_ok-plan.ensures.plans telling c.requires.wires)

pub returns-clause-carries : goal.returns-clause-carries
returns-clause-carries g c =
    let old = c.args.player.now in
    let line : Line = Fault c.args.conn c.args.nth c.args.what in
    on_ok_weaker c.run_on.result (λ out m at. begun_done m line old old c.run_on.new.player (begun_fault m c.args.conn c.args.nth c.args.what old at) refl out) c.run_on.ensures.out

pub returns-clause-stops : goal.returns-clause-stops
returns-clause-stops g c =
    let old = c.args.player.now in
    let line : Line = Fault c.args.conn c.args.nth c.args.what in
    on_err_weaker c.run_on.result (λ stops m at. begun_stops m line old old c.run_on.new.player.past (begun_fault m c.args.conn c.args.nth c.args.what old at) refl stops) c.run_on.ensures.so_far

pub returns-clause-run : goal.returns-clause-run
returns-clause-run g c =
    let heard = g.F.Wire.Wire.told in
    let old = c.args.player.now in
    let tells =
    plan_tells heard (is_some (g.F.Fleet.told c.args.fleet.now)) c.args.conn (c.args.nth, c.args.what) (g.F.Fleet.told c.args.fleet.now) (g.F.Fleet.told c.plan.new.fleet) old.past c.args.wires.now c.plan.new.wires c.requires.wires
    c.in_ok-plan.ensures.plans in
    run_then _ g.F.Fleet heard c.run_on.result c.args.fleet.now c.plan.new.fleet c.run_on.new.fleet old old c.run_on.new.player c.args.wires.now c.plan.new.wires c.run_on.new.wires tells c.plan.ensures.able c.run_on.ensures.run
