use Rattle.std.proofs.Common.{◌≡◌, is_some}
use Rattle.std.proofs.lemmas.Result.{err_from_is_err_and, on_ok_weaker}
use Rattle.dsql_engine_laws.specs.journal.declared.entry.Permit.{Permit}
use Rattle.dsql_engine_laws.specs.tenure.Judged.{answered}
use Rattle.dsql_player_wires.proofs.Asking.{wire_sends}
use Rattle.dsql_player.specs.Acts.{TakesAnswer}
use Rattle.dsql_player.proofs.Housekeeping.{chore_may_want, made_so}
use Rattle.dsql_player.proofs.Keeping.{run_lacks}
use Rattle.dsql_player.proofs.Taken.{at_err}
use Rattle.dsql_player.proofs.Tidied.{AsksWire, asks_wire, tidied_run}
use Rattle.dsql_player.proofs.player.Player.tidy.Goals as goal

pub perform-requires : goal.perform-requires
perform-requires g c =
    let p = c.args.self.now in
    wire_sends g.F.Wire.Wire.told (is_some (g.F.Fleet.told c.args.fleet.now)) p.past c.args.permit c.args.wires.now c.requires.wires (made_so p c.args.permit c.requires.to_make).sent c.requires.opens

pub take_in-requires : goal.take_in-requires
take_in-requires g c =
    let asks : AsksWire g.F.Wire.Wire.told c.args.permit c.in_ok-heard.heard c.args.self.now c.args.wires.now c.perform.new.self =
    asks_wire g.F.Wire.Wire.told (is_some (g.F.Fleet.told c.args.fleet.now)) c.args.permit c.in_ok-heard.heard c.args.self.now c.args.wires.now c.perform.new.self c.requires.to_make c.requires.wires
    (record { entry = c.in_ok-heard.ensures.entry; others = c.perform.ensures.others; noted = c.in_ok-heard.ensures.noted }) c.in_ok-heard.ensures.fits in
    record { answered = asks.answered }

pub returns-clause-taken : goal.returns-clause-taken
returns-clause-taken g c =
    let e = c.in_ok-heard.heard in
    let p = c.args.self.now in
    let now = c.take_in.new.self in
    on_ok_weaker c.take_in.result
    (λ (takes : (permit : Permit) → e ≡ answered permit e.answer → TakesAnswer permit e p now). record { entry = e; takes = takes c.args.permit c.in_ok-heard.ensures.entry })
    c.take_in.ensures.takes

pub returns-clause-run : goal.returns-clause-run
returns-clause-run g c =
    let e = c.in_ok-heard.heard in
    let p = c.args.self.now in
    let now = c.take_in.new.self in
    tidied_run g.F.Fleet g.F.Wire.Wire.told c.take_in.result c.args.fleet.now c.args.permit e p now c.args.wires.now c.perform.new.self c.requires.opens c.requires.shuts c.requires.wires
    (asks_wire g.F.Wire.Wire.told (is_some (g.F.Fleet.told c.args.fleet.now)) c.args.permit e p c.args.wires.now c.perform.new.self c.requires.to_make c.requires.wires
    (record { entry = c.in_ok-heard.ensures.entry; others = c.perform.ensures.others; noted = c.in_ok-heard.ensures.noted }) c.in_ok-heard.ensures.fits)
    (on_ok_weaker c.take_in.result (λ (takes : (permit : Permit) → e ≡ answered permit e.answer → TakesAnswer permit e p now). takes c.args.permit c.in_ok-heard.ensures.entry) c.take_in.ensures.takes)
    c.take_in.ensures.fails.same c.take_in.ensures.legal

pub returns-in_err-heard-clause-run : goal.returns-in_err-heard-clause-run
returns-in_err-heard-clause-run g c =
    let q = err_from_is_err_and c.from_residual.result c.from_residual.ensures.1 in
    run_lacks g.F.Fleet g.F.Wire.Wire.told c.from_residual.result c.args.fleet.now c.args.permit c.args.self.now c.args.wires.now c.perform.new.self (at_err c.from_residual.result q.0 q.1) c.requires.wires c.in_err-heard.ensures.err
    c.requires.opens (chore_may_want c.args.self.now c.args.permit c.requires.to_make) c.requires.to_make.ready.legal
