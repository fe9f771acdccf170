use Rattle.std.proofs.Common.{false, true, [], arith, refl, subst, ◌∙◌}
use Rattle.std.proofs.lemmas.Result.{err_from_is_err_and}
use Rattle.dsql_player.specs.Stepping.{GoesOn}
use Rattle.dsql_player.proofs.Going.{runs_more, runs_none}
use Rattle.dsql_player.proofs.Keeping.{able_same, able_then, run_then}
use Rattle.dsql_player_wires.proofs.Telling.{tells_none, tells_then}
use Rattle.dsql_player.proofs.Ran.{course_then, out_after, so_far_as, still_due, still_nobody}
use Rattle.dsql_player.proofs.running.run_on.Goals as goal

pub loop-init : goal.loop-init
loop-init g c =
    let p = c.args.player.now in
    record {
      ready = c.requires.ready;
      runs = λ m at. runs_none m p at;
      course = record { ended = refl; released = refl; named = λ label. omega arith };
      told = tells_none g.F.Wire.Wire.told (g.F.Fleet.told c.args.fleet.now) p.past p.past c.args.wires.now c.args.wires.now (λ made. refl) (λ made its. its);
      wires = c.requires.wires;
      able = able_same g.F.Fleet c.args.fleet.now;
      trimmed = refl;
    }

pub go_on-requires-clause-ready : goal.go_on-requires-clause-ready
go_on-requires-clause-ready g c = λ κs h. c.loop.invariant.ready

pub go_on-requires-clause-wires : goal.go_on-requires-clause-wires
go_on-requires-clause-wires g c = λ κs h. c.loop.invariant.wires

pub loop-preserved : goal.loop-preserved
loop-preserved g c =
    let old = c.args.player.now in
    let mid = c.loop.player in
    let new = c.go_on.new.player in
    let done = c.loop.invariant in
    let more = c.in_ok-go_on.ensures in
    let step : GoesOn true mid new = subst (λ b. GoesOn b mid new) c.if-branch.true more.goes in
    record {
      ready = more.run.ready;
      runs = λ m at. runs_more m old mid new (done.runs m at) step.1;
      course = course_then old mid new done.course more.course;
      told =
          tells_then g.F.Wire.Wire.told [] (g.F.Fleet.told c.args.fleet.now) (g.F.Fleet.told c.loop.fleet) (g.F.Fleet.told c.go_on.new.fleet) old.past mid.past new.past c.args.wires.now c.loop.wires c.go_on.new.wires
          done.told more.run.told;
      wires = more.run.wires;
      able = able_then g.F.Fleet c.args.fleet.now c.loop.fleet c.go_on.new.fleet done.able more.run.able;
      trimmed = more.trimmed ∙ done.trimmed;
    }

pub loop-smaller : goal.loop-smaller
loop-smaller g c =
    let mid = c.loop.player in
    let new = c.go_on.new.player in
    let more = c.in_ok-go_on.ensures in
    let step : GoesOn true mid new = subst (λ b. GoesOn b mid new) c.if-branch.true more.goes in
    let grows = step.0 in
    let room = more.room in
    omega (arith, grows, room)

pub returns-in_err-go_on : goal.returns-in_err-go_on
returns-in_err-go_on g c =
    let old = c.args.player.now in
    let mid = c.loop.player in
    let new = c.go_on.new.player in
    let done = c.loop.invariant in
    let more = c.in_err-go_on.ensures in
    let p = err_from_is_err_and c.from_residual.result c.from_residual.ensures.1 in
    rw p.1
    (record {
      out = tt;
      so_far = λ m at. so_far_as m old mid new more.same (done.runs m at);
      no_chore = tt;
      nobody = tt;
      course = tt;
      run =
          run_then [] g.F.Fleet g.F.Wire.Wire.told _ c.args.fleet.now c.loop.fleet c.go_on.new.fleet old mid new c.args.wires.now c.loop.wires c.go_on.new.wires done.told done.able
          (record { ready = tt; told = tt; asked = more.run.asked; wires = tt; able = more.run.able; legal = more.run.legal });
      full = λ h. more.full (cc (h, p.2));
      trimmed = more.trimmed ∙ done.trimmed;
    })

pub returns : goal.returns
returns g c =
    let old = c.args.player.now in
    let mid = c.loop.player in
    let new = c.go_on.new.player in
    let done = c.loop.invariant in
    let more = c.in_ok-go_on.ensures in
    let last : GoesOn false mid new = subst (λ b. GoesOn b mid new) c.if-branch.false more.goes in
    record {
      out = λ m at. out_after m old mid new more.run.ready (done.runs m at) last;
      so_far = tt;
      no_chore = still_due mid new last;
      nobody = still_nobody mid new last;
      course = course_then old mid new done.course more.course;
      run =
          run_then [] g.F.Fleet g.F.Wire.Wire.told _ c.args.fleet.now c.loop.fleet c.go_on.new.fleet old mid new c.args.wires.now c.loop.wires c.go_on.new.wires done.told done.able
          (record { ready = more.run.ready; told = more.run.told; asked = tt; wires = more.run.wires; able = more.run.able; legal = more.run.legal });
      full = λ h. absurd cc;
      trimmed = more.trimmed ∙ done.trimmed;
    }
