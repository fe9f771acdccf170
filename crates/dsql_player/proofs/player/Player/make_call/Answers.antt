use Rattle.std.proofs.Common.{◌≡◌, ◌∙◌, refl}
use Rattle.std.proofs.lemmas.Result.{err_from_is_err_and, on_err_weaker, on_ok_weaker}
use Rattle.dsql_player_wires.specs.Asked.{Performs}
use Rattle.dsql_player_wires.specs.Stopped.{HearsAtMost}
use Rattle.dsql_engine_laws.specs.laws_steps.Groups.{after_heard}
use Rattle.dsql_player.specs.Apart.{AnswersLeave}
use Rattle.dsql_player.proofs.Answering.{HasLeave, leave_at, wire_takes}
use Rattle.dsql_player.proofs.Asked.{Asks, answers_leave, asks_plans, asks_told, asks_wires, call_lacks, call_untaken}
use Rattle.dsql_player.proofs.Fitting.{stops_there, stops_unheard}
use Rattle.dsql_player.proofs.Hearing.{hears_none}
use Rattle.dsql_player.proofs.player.Player.make_call.Goals as goal

pub returns-in_err-permit : goal.returns-in_err-permit
returns-in_err-permit g c =
    let past = c.args.self.now.past in
    let p = err_from_is_err_and c.from_residual.result c.from_residual.ensures.1 in
    rw p.1
    (record {
      hears = tt;
      grows = tt;
      course = tt;
      run = record { ready = tt; wires = tt; plans = tt; told = tt; stops = stops_unheard g.W.Wire.told past past c.args.wires.now (hears_none past past refl); legal = c.requires.ready.legal };
      fails = record { same = refl; memory = p.2 ∙ c.in_err-permit.ensures.memory };
      trimmed = refl;
    })

pub perform-requires : goal.perform-requires
perform-requires g c =
    let old = c.args.self.now in
    let permit = c.in_ok-permit.permit in
    wire_takes g.W.Wire.told old c.args.client permit c.args.wires.now c.requires.ready.legal.lawful (leave_at old c.args.client permit c.requires.ready c.in_ok-permit.ensures.permit) c.requires.wires

pub returns-in_err-heard : goal.returns-in_err-heard
returns-in_err-heard g c =
    let old = c.args.self.now in
    let permit = c.in_ok-permit.permit in
    let has : HasLeave old c.args.client permit = leave_at old c.args.client permit c.requires.ready c.in_ok-permit.ensures.permit in
    let p = err_from_is_err_and c.from_residual-in_err-heard.result c.from_residual-in_err-heard.ensures.1 in
    rw p.1
    (record {
      hears = tt;
      grows = tt;
      course = tt;
      run = record {
        ready = tt;
        wires = tt;
        plans = tt;
        told = tt;
        stops = call_lacks g.W.Wire.told old c.args.client permit c.args.wires.now c.perform.new.self c.requires.ready c.requires.room has c.requires.wires c.in_err-heard.ensures.err;
        legal = c.requires.ready.legal;
      };
      fails = record { same = refl; memory = p.2 };
      trimmed = refl;
    })

pub hear-requires-clause-answers : goal.hear-requires-clause-answers
hear-requires-clause-answers g c =
    answers_leave g.W.Wire.told c.args.self.now c.args.client c.in_ok-permit.permit c.in_ok-heard.heard c.args.wires.now c.requires.wires c.in_ok-permit.ensures.permit c.in_ok-heard.ensures.entry c.in_ok-heard.ensures.fits

pub returns-clause-run : goal.returns-clause-run
returns-clause-run g c =
    let told = g.W.Wire.told in
    let old = c.args.self.now in
    let new = c.hear.new.self in
    let me = c.args.client in
    let permit = c.in_ok-permit.permit in
    let e = c.in_ok-heard.heard in
    let wires = c.args.wires.now in
    let now = c.perform.new.self in
    let has : HasLeave old me permit = leave_at old me permit c.requires.ready c.in_ok-permit.ensures.permit in
    let performs : Performs told permit e wires now = record { entry = c.in_ok-heard.ensures.entry; others = c.perform.ensures.others; noted = c.in_ok-heard.ensures.noted } in
    let answers : AnswersLeave old me e = answers_leave told old me permit e wires c.requires.wires c.in_ok-permit.ensures.permit c.in_ok-heard.ensures.entry c.in_ok-heard.ensures.fits in
    let stops : HearsAtMost told old.past old.past wires now = call_untaken told old me permit e wires now c.requires.ready c.requires.room has answers performs in
    let asks = λ (past : new.past ≡ after_heard old.past e).
    let a : Asks told permit e old.past new.past wires now = record { lawful = c.requires.ready.legal.lawful; leave = has.leave; performs = performs; past = past; lawful_then = c.hear.ensures.legal.lawful } in a in
    record {
      ready = c.hear.ensures.ready;
      wires = on_ok_weaker c.hear.result (λ past. asks_wires told permit e old.past new.past wires now (asks past)) c.hear.ensures.past;
      plans = on_ok_weaker c.hear.result (λ past. asks_plans told permit e old.past new.past wires now (asks past)) c.hear.ensures.past;
      told = on_ok_weaker c.hear.result (λ past. asks_told told permit e old.past new.past wires now (asks past)) c.hear.ensures.past;
      stops = on_err_weaker c.hear.result (λ same. stops_there told old.past new.past wires now same stops) c.hear.ensures.fails.same;
      legal = c.hear.ensures.legal;
    }
