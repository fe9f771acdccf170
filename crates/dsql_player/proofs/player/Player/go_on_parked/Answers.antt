use Rattle.std.proofs.Common.{◌≡◌, ◌<◌, ◌∙◌, false, true, List, length, sym, subst}
use Rattle.std.specs.Prelude.{OnErr, OnOk}
use Rattle.std.proofs.lemmas.Result.{err_from_is_err_and, on_ok_weaker}
use Rattle.dsql_engine_laws.specs.history.declared.event.Event.{Event}
use Rattle.dsql_engine_laws.specs.history.Readers.Clients.{call_of}
use Rattle.dsql_engine_laws.specs.follows.Moments.{Moment}
use Rattle.dsql_engine_laws.specs.laws_steps.Groups.{most_events}
use Rattle.dsql_player_wires.specs.WiresFit.{WiresFit}
use Rattle.dsql_player.specs.Playing.{IsAt}
use Rattle.dsql_player.specs.Stepping.{Wakes}
use Rattle.dsql_player.proofs.Fitting.{fits_unheard, plans_unheard, stops_unheard}
use Rattle.dsql_player.proofs.Ran.{answer_after, course_then, itself_next, keeps_from, moves_to_go}
use Rattle.dsql_player.proofs.player.Player.go_on_parked.Goals as goal

pub wake-requires-clause-ready : goal.wake-requires-clause-ready
wake-requires-clause-ready g c = c.requires.ready

pub wake-requires-clause-room : goal.wake-requires-clause-room
wake-requires-clause-room g c = c.requires.room

pub wake-requires-clause-busy : goal.wake-requires-clause-busy
wake-requires-clause-busy g c = c.requires.busy

pub wake-requires-clause-parked : goal.wake-requires-clause-parked
wake-requires-clause-parked g c = c.requires.parked

pub wake-requires-clause-moves : goal.wake-requires-clause-moves
wake-requires-clause-moves g c = moves_to_go c.args.self.now c.args.client c.requires.first c.requires.busy

pub returns-in_err-wake : goal.returns-in_err-wake
returns-in_err-wake g c =
    let p = err_from_is_err_and c.from_residual.result c.from_residual.ensures.1 in
    let act = c.in_err-wake.ensures.act in
    rw p.1
    (record {
      steps = tt;
      grows = tt;
      course = tt;
      run = record { ready = tt; wires = tt; plans = tt; told = tt; stops = stops_unheard g.W.Wire.told c.args.self.now.past c.wake.new.self.past c.args.wires.now act.unheard; legal = act.legal };
      fails = record { same = act.fails.same; memory = rw p.2 act.fails.memory };
      trimmed = c.wake.ensures.trimmed;
    })

pub returns-then-branch : goal.returns-then-branch
returns-then-branch g c =
    let old = c.args.self.now in
    let new = c.wake.new.self in
    let act = c.in_ok-wake.ensures.act in
    let wakes : (m : Moment) → IsAt m old → Wakes true m (call_of old.past c.args.client) old new =
    subst (λ b. (m : Moment) → IsAt m old → Wakes b m (call_of old.past c.args.client) old new) c.if-branch.true c.in_ok-wake.ensures.wakes
    in
    record {
      steps = itself_next old new c.args.client c.requires.ready c.requires.no_chore c.requires.first c.requires.busy c.requires.parked wakes;
      grows = c.in_ok-wake.ensures.grows c.if-branch.true;
      course = c.in_ok-wake.ensures.course;
      run = record { ready = act.ready; wires = fits_unheard g.W.Wire.told old.past new.past c.args.wires.now act.unheard; plans = plans_unheard g.W.Wire.told old.past new.past c.args.wires.now act.unheard; told = act.unheard.told; stops = tt; legal = act.legal };
      fails = record { same = tt; memory = tt };
      trimmed = c.wake.ensures.trimmed;
    }

pub make_call-requires : goal.make_call-requires
make_call-requires g c =
    let old = c.args.self.now in
    let mid = c.wake.new.self in
    let same = c.in_ok-wake.ensures.same c.if-branch.false in
    record {
      ready = c.in_ok-wake.ensures.act.ready;
      room = subst (λ (past : List Event). length past < most_events) (sym same) c.requires.room;
      leave = c.in_ok-wake.ensures.leave c.if-branch.false;
      wires = subst (λ (past : List Event). WiresFit g.W.Wire.told false past c.args.wires.now) (sym same) c.requires.wires;
    }

pub returns : goal.returns
returns g c =
    let old = c.args.self.now in
    let mid = c.wake.new.self in
    let new = c.make_call.new.self in
    let same = c.in_ok-wake.ensures.same c.if-branch.false in
    let made = c.make_call.ensures in
    let wakes : (m : Moment) → IsAt m old → Wakes false m (call_of old.past c.args.client) old mid =
    subst (λ b. (m : Moment) → IsAt m old → Wakes b m (call_of old.past c.args.client) old mid) c.if-branch.false c.in_ok-wake.ensures.wakes
    in
    record {
      steps = answer_after c.make_call.result old mid new c.args.client c.requires.ready c.requires.no_chore c.requires.first c.requires.busy same wakes made.run.legal made.hears;
      grows = subst (λ (past : List Event). OnOk c.make_call.result (length past < length new.past)) same made.grows;
      course = on_ok_weaker c.make_call.result (course_then old mid new c.in_ok-wake.ensures.course) made.course;
      run = keeps_from g.W.Wire.told c.make_call.result old mid new c.args.wires.now c.make_call.new.wires same made.run;
      fails = record { same = subst (λ (past : List Event). OnErr c.make_call.result (new.past ≡ past)) same made.fails.same; memory = made.fails.memory };
      trimmed = made.trimmed ∙ c.wake.ensures.trimmed;
    }
