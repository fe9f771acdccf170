use Rattle.std.proofs.Common.{◌≡◌, ◌∙◌, true, false, is_some, sym}
use Rattle.std.proofs.lemmas.Result.{err_from_is_err_and, on_ok_weaker}
use Rattle.dsql_engine_laws.specs.history.Readers.Clients.{call_of}
use Rattle.dsql_engine_laws.specs.history.Rules.Flights.{is_in_flight}
use Rattle.dsql_engine_laws.specs.laws_ends.Over.{may_move}
use Rattle.dsql_player_wires.specs.Seats.{seat}
use Rattle.dsql_player.proofs.Singles.{blocked_steps, parked_ready}
use Rattle.dsql_player.proofs.Stepped.{answered_steps, wires_stay, woken_steps, woken_wires}
use Rattle.dsql_player.proofs.Taken.{at_err}
use Rattle.dsql_player.proofs.single.step_call.Goals as goal

pub make_call-requires-clause-leave : goal.make_call-requires-clause-leave
make_call-requires-clause-leave g c = sym c.has_leave.ensures ∙ c.if-has_leave.true

pub returns-then-has_leave-clause-carries : goal.returns-then-has_leave-clause-carries
returns-then-has_leave-clause-carries g c =
    let old = c.args.player.now in
    let some : is_some (seat old.seats c.args.client).permit ≡ true = sym c.has_leave.ensures ∙ c.if-has_leave.true in
    on_ok_weaker c.make_call.result
    (λ hears m at. answered_steps m old c.make_call.new.self c.args.client c.requires.ready c.make_call.ensures.run.legal.lawful c.requires.busy some hears at)
    c.make_call.ensures.hears

pub wake-requires-clause-parked : goal.wake-requires-clause-parked
wake-requires-clause-parked g c = parked_ready c.args.player.now c.args.client c.requires.ready (sym c.has_leave.ensures ∙ c.if-has_leave.false)

pub wake-requires-clause-moves : goal.wake-requires-clause-moves
wake-requires-clause-moves g c = sym c.may_move.ensures ∙ c.if-not-may_move.false

pub returns-then-not-may_move-clause-carries : goal.returns-then-not-may_move-clause-carries
returns-then-not-may_move-clause-carries g c = λ m at.
    let old = c.args.player.now in
    let still : may_move old.past old.flights (call_of old.past c.args.client) ≡ false = sym c.may_move.ensures ∙ c.if-not-may_move.true in
    let parked : is_in_flight (call_of old.past c.args.client) old.flights ≡ false = parked_ready old c.args.client c.requires.ready (sym c.has_leave.ensures ∙ c.if-has_leave.false) in
    blocked_steps m old c.args.client c.requires.ready.legal.lawful at c.requires.busy parked still

pub returns-clause-carries : goal.returns-clause-carries
returns-clause-carries g c = λ m at.
    let old = c.args.player.now in
    let e = c.in_ok-wake.ensures in
    let moves : may_move old.past old.flights (call_of old.past c.args.client) ≡ true = sym c.may_move.ensures ∙ c.if-not-may_move.false in
    let parked : is_in_flight (call_of old.past c.args.client) old.flights ≡ false = parked_ready old c.args.client c.requires.ready (sym c.has_leave.ensures ∙ c.if-has_leave.false) in
    woken_steps c.in_ok-wake.field-0 m old c.wake.new.self c.args.client c.requires.ready e.act.ready c.requires.busy parked moves e.group e.leave e.grows e.wakes at

pub returns-clause-run : goal.returns-clause-run
returns-clause-run g c = woken_wires g.W.Wire.told c.in_ok-wake.field-0 _ c.args.player.now c.wake.new.self c.args.wires.now c.in_ok-wake.ensures.act

pub returns-in_err-wake-clause-run : goal.returns-in_err-wake-clause-run
returns-in_err-wake-clause-run g c =
    let q = err_from_is_err_and c.from_residual.result c.from_residual.ensures.1 in
    let act = c.in_err-wake.ensures.act in
    wires_stay g.W.Wire.told c.from_residual.result c.args.player.now c.wake.new.self c.args.wires.now (at_err c.from_residual.result q.0 q.1) act.unheard act.legal
