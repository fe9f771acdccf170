use Rattle.std.proofs.Common.{◌<◌, false, true, [], length, refl, ap, sym, subst, ◌∙◌}
use Rattle.std.proofs.lemmas.Result.{err_from_is_err_and}
use Rattle.dsql_engine_laws.specs.history.Rules.House.{chore_due}
use Rattle.dsql_engine_laws.specs.laws_steps.Groups.{most_events}
use Rattle.dsql_player.specs.Playing.{Playing}
use Rattle.dsql_player.specs.Stepping.{MakesChore}
use Rattle.dsql_player.proofs.Fitting.{untelling}
use Rattle.dsql_player.proofs.Keeping.{run_goes, run_stays, run_stops_on, run_then}
use Rattle.dsql_player.proofs.Ran.{course_then, goes_after, goes_by_chore, goes_no_more}
use Rattle.dsql_player.proofs.running.go_on.Goals as goal

pub returns-in_err-check_room : goal.returns-in_err-check_room
returns-in_err-check_room g c =
    let old = c.args.player.now in
    let p = err_from_is_err_and c.from_residual.result c.from_residual.ensures.1 in
    rw p.1
    (record {
      goes = tt;
      room = tt;
      same = refl;
      course = tt;
      run = run_stays [] g.F.Fleet g.F.Wire.Wire.told _ c.args.fleet.now old old c.args.wires.now refl c.requires.wires refl c.in_err-check_room.ensures.legal;
      full = λ h. c.in_err-check_room.ensures.full;
      trimmed = refl;
    })

pub make_first_chore-requires-clause-ready : goal.make_first_chore-requires-clause-ready
make_first_chore-requires-clause-ready g c = λ κs h. c.requires.ready

pub make_first_chore-requires-clause-room : goal.make_first_chore-requires-clause-room
make_first_chore-requires-clause-room g c = λ κs h. c.in_ok-check_room.ensures.ok

pub make_first_chore-requires-clause-wires : goal.make_first_chore-requires-clause-wires
make_first_chore-requires-clause-wires g c = λ κs h. c.requires.wires

pub returns-in_err-make_first_chore : goal.returns-in_err-make_first_chore
returns-in_err-make_first_chore g c =
    let e = c.in_err-make_first_chore.ensures in
    let p = err_from_is_err_and c.from_residual-in_err-make_first_chore.result c.from_residual-in_err-make_first_chore.ensures.1 in
    rw p.1
    (record {
      goes = tt;
      room = tt;
      same = e.fails.same;
      course = tt;
      run = record { ready = tt; told = tt; asked = e.run.asked; wires = tt; able = e.run.able; legal = e.run.legal };
      full = λ h. absurd (cc (h, p.2, e.fails.memory));
      trimmed = e.trimmed;
    })

pub returns-then-branch : goal.returns-then-branch
returns-then-branch g c =
    let old = c.args.player.now in
    let new = c.make_first_chore.new.player in
    let done = c.in_ok-make_first_chore.ensures in
    let made : MakesChore true old new = subst (λ b. MakesChore b old new) c.if-branch.true done.makes in
    record {
      goes = goes_by_chore old new made;
      room = c.in_ok-check_room.ensures.ok;
      same = tt;
      course = done.course;
      run = record { ready = done.run.ready; told = done.run.told; asked = tt; wires = done.run.wires; able = done.run.able; legal = done.run.legal };
      full = λ h. absurd cc;
      trimmed = done.trimmed;
    }

pub next_client-requires : goal.next_client-requires
next_client-requires g c = record { ready = c.in_ok-make_first_chore.ensures.run.ready }

pub go_on_with-requires : goal.go_on_with-requires
go_on_with-requires g c =
    let old = c.args.player.now in
    let mid = c.make_first_chore.new.player in
    let done = c.in_ok-make_first_chore.ensures in
    let made : MakesChore false old mid = subst (λ b. MakesChore b old mid) c.if-branch.false done.makes in
    record {
      ready = done.run.ready;
      room = subst (λ (p : Playing). length p.past < most_events) (sym made.0) c.in_ok-check_room.ensures.ok;
      no_chore = ap (λ (p : Playing). chore_due p.past) made.0 ∙ made.1;
      first = c.in-Some.ensures;
      wires = untelling g.F.Wire.Wire.told _ mid.past c.make_first_chore.new.wires done.run.wires;
    }

pub returns-in_err-go_on_with-in-Some : goal.returns-in_err-go_on_with-in-Some
returns-in_err-go_on_with-in-Some g c =
    let old = c.args.player.now in
    let mid = c.make_first_chore.new.player in
    let new = c.go_on_with.new.self in
    let done = c.in_ok-make_first_chore.ensures in
    let made : MakesChore false old mid = subst (λ b. MakesChore b old mid) c.if-branch.false done.makes in
    let e = c.in_err-go_on_with-in-Some.ensures in
    let p = err_from_is_err_and c.from_residual-in_err-go_on_with-in-Some.result c.from_residual-in_err-go_on_with-in-Some.ensures.1 in
    rw p.1
    (record {
      goes = tt;
      room = tt;
      same = e.fails.same ∙ ap (λ (p : Playing). p.past) made.0;
      course = tt;
      run =
          run_then [] g.F.Fleet g.F.Wire.Wire.told _ c.args.fleet.now c.make_first_chore.new.fleet c.make_first_chore.new.fleet old mid new c.args.wires.now c.make_first_chore.new.wires c.go_on_with.new.wires done.run.told done.run.able
          (run_stops_on g.F.Fleet g.F.Wire.Wire.told _ c.make_first_chore.new.fleet mid new c.make_first_chore.new.wires c.go_on_with.new.wires refl done.run.wires e.run.stops e.run.legal);
      full = λ h. absurd (cc (h, p.2, e.fails.memory));
      trimmed = e.trimmed ∙ done.trimmed;
    })

pub returns-in_ok-go_on_with-in-Some : goal.returns-in_ok-go_on_with-in-Some
returns-in_ok-go_on_with-in-Some g c =
    let old = c.args.player.now in
    let mid = c.make_first_chore.new.player in
    let new = c.go_on_with.new.self in
    let done = c.in_ok-make_first_chore.ensures in
    let made : MakesChore false old mid = subst (λ b. MakesChore b old mid) c.if-branch.false done.makes in
    let more = c.in_ok-go_on_with-in-Some.ensures in
    record {
      goes = goes_after old mid new made more.grows more.steps;
      room = c.in_ok-check_room.ensures.ok;
      same = tt;
      course = course_then old mid new done.course more.course;
      run =
          run_then [] g.F.Fleet g.F.Wire.Wire.told _ c.args.fleet.now c.make_first_chore.new.fleet c.make_first_chore.new.fleet old mid new c.args.wires.now c.make_first_chore.new.wires c.go_on_with.new.wires done.run.told done.run.able
          (run_goes g.F.Fleet g.F.Wire.Wire.told _ c.make_first_chore.new.fleet mid new c.make_first_chore.new.wires c.go_on_with.new.wires done.run.wires more.run.ready more.run.wires more.run.plans more.run.told more.run.legal);
      full = λ h. absurd cc;
      trimmed = more.trimmed ∙ done.trimmed;
    }

pub returns-in-None : goal.returns-in-None
returns-in-None g c =
    let old = c.args.player.now in
    let new = c.make_first_chore.new.player in
    let done = c.in_ok-make_first_chore.ensures in
    let made : MakesChore false old new = subst (λ b. MakesChore b old new) c.if-branch.false done.makes in
    record {
      goes = goes_no_more old new made c.in-None.ensures;
      room = c.in_ok-check_room.ensures.ok;
      same = tt;
      course = done.course;
      run = record { ready = done.run.ready; told = done.run.told; asked = tt; wires = done.run.wires; able = done.run.able; legal = done.run.legal };
      full = λ h. absurd cc;
      trimmed = done.trimmed;
    }
