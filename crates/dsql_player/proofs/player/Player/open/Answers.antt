use Rattle.std.proofs.Common.{◌≡◌, is_some}
use Rattle.std.proofs.lemmas.Result.{err_from_is_err_and, on_ok_weaker}
use Rattle.dsql_engine_laws.specs.journal.declared.entry.Permit.{Permit}
use Rattle.dsql_engine_laws.specs.tenure.Judged.{answered}
use Rattle.dsql_player_wires.proofs.Asking.{no_wire}
use Rattle.dsql_player.specs.Acts.{TakesAnswer}
use Rattle.dsql_player.proofs.Housekeeping.{chore_may_want, made_so}
use Rattle.dsql_player.proofs.Keeping.{run_unconnected}
use Rattle.dsql_player.proofs.Opened.{connect_answered, opened_run}
use Rattle.dsql_player.proofs.Taken.{at_err}
use Rattle.dsql_player.proofs.player.Player.open.Goals as goal

pub connect_wire-requires-clause-empty : goal.connect_wire-requires-clause-empty
connect_wire-requires-clause-empty g c = λ κs h.
    no_wire g.F.Wire.Wire.told (is_some (g.F.Fleet.told c.args.fleet.now)) c.args.self.now.past c.args.permit.conn c.args.wires.now c.requires.wires
    ((made_so c.args.self.now c.args.permit c.requires.to_make).first c.requires.opens).1

pub connect_wire-requires-clause-opens : goal.connect_wire-requires-clause-opens
connect_wire-requires-clause-opens g c = λ κs h. ((made_so c.args.self.now c.args.permit c.requires.to_make).first c.requires.opens).0

pub take_in-requires : goal.take_in-requires
take_in-requires g c = record {
  answered = connect_answered c.args.self.now c.args.permit c.in_ok-heard.heard c.requires.to_make c.requires.opens c.in_ok-heard.ensures.heard;
}

pub returns-clause-taken : goal.returns-clause-taken
returns-clause-taken g c =
    let e = c.in_ok-heard.heard in
    let p = c.args.self.now in
    let now = c.take_in.new.self in
    on_ok_weaker c.take_in.result
    (λ (takes : (permit : Permit) → e ≡ answered permit e.answer → TakesAnswer permit e p now). record { entry = e; takes = takes c.args.permit c.in_ok-heard.ensures.heard.entry })
    c.take_in.ensures.takes

pub returns-clause-run : goal.returns-clause-run
returns-clause-run g c =
    let e = c.in_ok-heard.heard in
    let p = c.args.self.now in
    let now = c.take_in.new.self in
    opened_run g.F.Fleet g.F.Wire.Wire.told c.take_in.result c.args.fleet.now c.connect_wire.new.fleet c.args.permit e p now c.args.wires.now c.connect_wire.new.wires c.requires.to_make
    c.requires.opens c.requires.wires
    (record { answers = c.in_ok-heard.ensures.heard; others = c.in_ok-heard.ensures.others; wire = c.in_ok-heard.ensures.wire; unplanned = c.in_ok-heard.ensures.unplanned; told = c.in_ok-heard.ensures.asked; able = c.connect_wire.ensures.able })
    (connect_answered p c.args.permit e c.requires.to_make c.requires.opens c.in_ok-heard.ensures.heard)
    (on_ok_weaker c.take_in.result (λ (takes : (permit : Permit) → e ≡ answered permit e.answer → TakesAnswer permit e p now). takes c.args.permit c.in_ok-heard.ensures.heard.entry) c.take_in.ensures.takes)
    c.take_in.ensures.fails.same c.take_in.ensures.legal

pub returns-in_err-heard-clause-run : goal.returns-in_err-heard-clause-run
returns-in_err-heard-clause-run g c =
    let q = err_from_is_err_and c.from_residual.result c.from_residual.ensures.1 in
    run_unconnected g.F.Fleet g.F.Wire.Wire.told c.from_residual.result c.args.fleet.now c.connect_wire.new.fleet c.args.permit c.args.self.now c.args.wires.now c.connect_wire.new.wires (at_err c.from_residual.result q.0 q.1) c.requires.wires
    c.in_err-heard.ensures.same c.in_err-heard.ensures.wants c.requires.opens (chore_may_want c.args.self.now c.args.permit c.requires.to_make) c.connect_wire.ensures.able c.requires.to_make.ready.legal
