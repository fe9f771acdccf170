use Rattle.std.proofs.Common.{◌≡◌, refl, true}
use Rattle.std.proofs.lemmas.Result.{err_from_is_err_and, on_ok_weaker, on_err_weaker}
use Rattle.dsql_engine_laws.specs.follows.Labels.{times_in}
use Rattle.dsql_engine_laws.specs.follows.Sentences.{runs_on}
use Rattle.dsql_player.proofs.Fitting.{fits_unheard, untelling}
use Rattle.dsql_player.proofs.Keeping.{run_after, run_of_wires, run_stays}
use Rattle.dsql_player.proofs.Lines.{begun_done, begun_stops, stops_at_once}
use Rattle.dsql_player.proofs.Ran.{takes_up_then}
use Rattle.dsql_player.proofs.Singles.{started}
use Rattle.dsql_player.proofs.Stepped.{not_full, plans_none, run_unheard, runs_then}
use Rattle.dsql_player.proofs.line.carry_line.Goals as goal

pub returns-in_err-check_room : goal.returns-in_err-check_room
returns-in_err-check_room g c =
    let old = c.args.player.now in
    let p = err_from_is_err_and c.from_residual.result c.from_residual.ensures.1 in
    rw p.1
    (record {
      carries = tt;
      stops = λ m at. stops_at_once m c.args.line old old.past refl at;
      course = tt;
      run = run_stays _ g.F.Fleet g.F.Wire.Wire.told _ c.args.fleet.now old old c.args.wires.now refl c.requires.wires refl c.in_err-check_room.ensures.legal;
      full = λ h. c.in_err-check_room.ensures.full;
      trimmed = refl;
    })

pub returns-in_err-admit-in-Start : goal.returns-in_err-admit-in-Start
returns-in_err-admit-in-Start g c =
    let old = c.args.player.now in
    let e = c.in_err-admit-in-Start.ensures in
    let p = err_from_is_err_and c.from_residual-in_err-admit-in-Start.result c.from_residual-in_err-admit-in-Start.ensures.1 in
    rw p.1
    (record {
      carries = tt;
      stops = λ m at. stops_at_once m c.args.line old c.admit.new.player.past e.act.fails.same at;
      course = tt;
      run = run_stays _ g.F.Fleet g.F.Wire.Wire.told _ c.args.fleet.now old c.admit.new.player c.args.wires.now refl c.requires.wires e.act.fails.same e.act.legal;
      full = λ h. absurd (cc (h, p.2, e.act.fails.memory));
      trimmed = e.trimmed;
    })

pub returns-in_ok-admit-in-Start-clause-carries : goal.returns-in_ok-admit-in-Start-clause-carries
returns-in_ok-admit-in-Start-clause-carries g c =
    rw c.in-Start.is
    (λ m at. started m c.in-Start.client c.in-Start.op c.args.player.now c.admit.new.player c.in_ok-admit-in-Start.field-0 at (c.in_ok-admit-in-Start.ensures.admits m at))

pub returns-in_ok-admit-in-Start-clause-run : goal.returns-in_ok-admit-in-Start-clause-run
returns-in_ok-admit-in-Start-clause-run g c =
    rw c.in-Start.is (run_unheard g.F.Fleet g.F.Wire.Wire.told _ _ c.args.fleet.now c.args.player.now c.admit.new.player c.args.wires.now c.requires.wires c.in_ok-admit-in-Start.ensures.act)

pub step_client-requires-clause-wires : goal.step_client-requires-clause-wires
step_client-requires-clause-wires g c = untelling g.F.Wire.Wire.told _ c.args.player.now.past c.args.wires.now c.requires.wires

pub returns-in-Step-clause-carries : goal.returns-in-Step-clause-carries
returns-in-Step-clause-carries g c = rw c.in-Step.is c.step_client.ensures.carries

pub returns-in-Step-clause-stops : goal.returns-in-Step-clause-stops
returns-in-Step-clause-stops g c =
    on_err_weaker c.step_client.result (λ same m at. stops_at_once m c.args.line c.args.player.now c.step_client.new.player.past same at) c.step_client.ensures.fails.same

pub returns-in-Step-clause-run : goal.returns-in-Step-clause-run
returns-in-Step-clause-run g c =
    rw c.in-Step.is
    (run_of_wires g.F.Fleet g.F.Wire.Wire.told c.step_client.result c.args.fleet.now c.args.player.now c.step_client.new.player c.args.wires.now c.step_client.new.wires c.requires.wires c.step_client.ensures.run)

pub returns-in-Step-clause-full : goal.returns-in-Step-clause-full
returns-in-Step-clause-full g c = not_full c.step_client.result _ c.step_client.ensures.fails.memory

pub returns-in-StepHouse-clause-carries : goal.returns-in-StepHouse-clause-carries
returns-in-StepHouse-clause-carries g c = rw c.in-StepHouse.is c.step_house.ensures.carries

pub returns-in-StepHouse-clause-stops : goal.returns-in-StepHouse-clause-stops
returns-in-StepHouse-clause-stops g c =
    on_err_weaker c.step_house.result (λ same m at. stops_at_once m c.args.line c.args.player.now c.step_house.new.player.past same at) c.step_house.ensures.fails.same

pub returns-in-StepHouse-clause-run : goal.returns-in-StepHouse-clause-run
returns-in-StepHouse-clause-run g c = rw c.in-StepHouse.is c.step_house.ensures.run

pub returns-in-StepHouse-clause-full : goal.returns-in-StepHouse-clause-full
returns-in-StepHouse-clause-full g c = not_full c.step_house.result _ c.step_house.ensures.fails.memory

pub begin-requires-clause-runs : goal.begin-requires-clause-runs
begin-requires-clause-runs g c =
    runs_then c.args.line (λ client op is. c.in_default.not-Start client op is) (λ client is. c.in_default.not-Step client is) c.in_default.not-StepHouse

pub run_on-requires-clause-wires : goal.run_on-requires-clause-wires
run_on-requires-clause-wires g c = λ κs h. fits_unheard g.F.Wire.Wire.told c.args.player.now.past c.begin.new.player.past c.args.wires.now c.begin.ensures.act.unheard _ c.requires.wires

pub returns-in_err-begin-in_default : goal.returns-in_err-begin-in_default
returns-in_err-begin-in_default g c =
    let old = c.args.player.now in
    let e = c.in_err-begin-in_default.ensures in
    let p = err_from_is_err_and c.from_residual-in_err-begin-in_default.result c.from_residual-in_err-begin-in_default.ensures.1 in
    rw p.1
    (record {
      carries = tt;
      stops = λ m at. stops_at_once m c.args.line old c.begin.new.player.past e.act.fails.same at;
      course = tt;
      run = run_stays _ g.F.Fleet g.F.Wire.Wire.told _ c.args.fleet.now old c.begin.new.player c.args.wires.now refl c.requires.wires e.act.fails.same e.act.legal;
      full = λ h. absurd (cc (h, p.2, e.act.fails.memory));
      trimmed = e.trimmed;
    })

pub returns-in_ok-begin-in_default-clause-carries : goal.returns-in_ok-begin-in_default-clause-carries
returns-in_ok-begin-in_default-clause-carries g c =
    let runs : runs_on c.args.line ≡ true = runs_then c.args.line (λ client op is. c.in_default.not-Start client op is) (λ client is. c.in_default.not-Step client is) c.in_default.not-StepHouse in
    on_ok_weaker c.run_on.result
    (λ out m at. begun_done m c.args.line c.args.player.now c.begin.new.player c.run_on.new.player (c.in_ok-begin-in_default.ensures.begins m at) runs out)
    c.run_on.ensures.out

pub returns-in_ok-begin-in_default-clause-stops : goal.returns-in_ok-begin-in_default-clause-stops
returns-in_ok-begin-in_default-clause-stops g c =
    let runs : runs_on c.args.line ≡ true = runs_then c.args.line (λ client op is. c.in_default.not-Start client op is) (λ client is. c.in_default.not-Step client is) c.in_default.not-StepHouse in
    on_err_weaker c.run_on.result
    (λ stops m at. begun_stops m c.args.line c.args.player.now c.begin.new.player c.run_on.new.player.past (c.in_ok-begin-in_default.ensures.begins m at) runs stops)
    c.run_on.ensures.so_far

pub returns-in_ok-begin-in_default-clause-run : goal.returns-in_ok-begin-in_default-clause-run
returns-in_ok-begin-in_default-clause-run g c =
    rw (plans_none c.args.line c.args.player.now.past (λ conn nth what is. c.in_default.not-Fault conn nth what is))
    (run_after g.F.Fleet g.F.Wire.Wire.told c.run_on.result c.args.fleet.now c.run_on.new.fleet c.args.player.now c.begin.new.player c.run_on.new.player c.args.wires.now c.run_on.new.wires c.begin.ensures.act.unheard
    c.run_on.ensures.run)

pub returns-in-Fault : goal.returns-in-Fault
returns-in-Fault g c = rw c.in-Fault.is c.carry_fault.ensures

pub admit-requires-clause-names : goal.admit-requires-clause-names
admit-requires-clause-names g c = rw c.in-Start.is at c.requires.names

pub returns-in_ok-admit-in-Start-clause-course : goal.returns-in_ok-admit-in-Start-clause-course
returns-in_ok-admit-in-Start-clause-course g c = rw c.in-Start.is c.in_ok-admit-in-Start.ensures.course

pub returns-in-Step-clause-course : goal.returns-in-Step-clause-course
returns-in-Step-clause-course g c = rw c.in-Step.is c.step_client.ensures.course

pub returns-in-StepHouse-clause-course : goal.returns-in-StepHouse-clause-course
returns-in-StepHouse-clause-course g c = rw c.in-StepHouse.is c.step_house.ensures.course

pub returns-in_ok-begin-in_default-clause-course : goal.returns-in_ok-begin-in_default-clause-course
returns-in_ok-begin-in_default-clause-course g c =
    on_ok_weaker c.run_on.result
    (λ same. takes_up_then (λ label. times_in label c.args.line) c.args.player.now c.begin.new.player c.run_on.new.player c.in_ok-begin-in_default.ensures.course same)
    c.run_on.ensures.course
