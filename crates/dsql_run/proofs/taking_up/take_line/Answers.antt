use Rattle.std.proofs.Common.{refl, arith}
use Rattle.std.proofs.lemmas.Result.{on_ok_weaker}
use Rattle.dsql_run_outcome.proofs.hall.Plans.{fault_told}
use Rattle.dsql_run_outcome.proofs.player.Keeping.{able_same}
use Rattle.dsql_run_outcome.proofs.player.Meeting.{met_at}
use Rattle.dsql_run.proofs.TakingUp.{no_call, no_label, no_plan, none_planned}
use Rattle.dsql_run.proofs.taking_up.take_line.Goals as goal

-- A client's line is kept.

pub keep-requires-clause-names : goal.keep-requires-clause-names
keep-requires-clause-names g c = rw c.in-Client.is at c.requires.once

pub returns-in-Client-clause-at : goal.returns-in-Client-clause-at
returns-in-Client-clause-at g c = rw c.in-Client.is c.keep.ensures.keeps

pub returns-in-Client-clause-named : goal.returns-in-Client-clause-named
returns-in-Client-clause-named g c = rw c.in-Client.is (on_ok_weaker c.keep.result (λ up. up.named) c.keep.ensures.course)

pub returns-in-Client-clause-told : goal.returns-in-Client-clause-told
returns-in-Client-clause-told g c = rw c.in-Client.is (on_ok_weaker c.keep.result (λ kept. none_planned _ (g.F.Fleet.told c.args.fleet.now) refl) c.keep.ensures.course)

pub returns-in-Client-clause-able : goal.returns-in-Client-clause-able
returns-in-Client-clause-able g c = able_same g.F.Fleet c.args.fleet.now

-- A fault is planned.

pub returns-in_ok-plan-in-Fault-clause-at : goal.returns-in_ok-plan-in-Fault-clause-at
returns-in_ok-plan-in-Fault-clause-at g c = rw c.in-Fault.is (λ m at. met_at m c.args.player.now _ (λ client. refl) at)

pub returns-in_ok-plan-in-Fault-clause-named : goal.returns-in_ok-plan-in-Fault-clause-named
returns-in_ok-plan-in-Fault-clause-named g c = rw c.in-Fault.is (λ label. omega arith)

pub returns-in_ok-plan-in-Fault-clause-told : goal.returns-in_ok-plan-in-Fault-clause-told
returns-in_ok-plan-in-Fault-clause-told g c = rw c.in-Fault.is
    (λ script first caps was. fault_told script c.in-Fault.conn c.in-Fault.nth c.in-Fault.what caps first (g.F.Fleet.told c.args.fleet.now) (g.F.Fleet.told c.plan.new.self) c.in_ok-plan-in-Fault.ensures.told was)

-- Nothing comes of a line that is skipped, or sets a limit.

pub returns-in-Skip-clause-at : goal.returns-in-Skip-clause-at
returns-in-Skip-clause-at g c = λ m at. met_at m c.args.player.now c.args.line (λ client. no_call c.args.line client c.in-Skip.is) at

pub returns-in-Skip-clause-named : goal.returns-in-Skip-clause-named
returns-in-Skip-clause-named g c = λ label. omega (arith, no_label c.args.line label c.in-Skip.is)

pub returns-in-Skip-clause-told : goal.returns-in-Skip-clause-told
returns-in-Skip-clause-told g c = none_planned c.args.line (g.F.Fleet.told c.args.fleet.now) (no_plan c.args.line c.in-Skip.is)

pub returns-in-Skip-clause-able : goal.returns-in-Skip-clause-able
returns-in-Skip-clause-able g c = able_same g.F.Fleet c.args.fleet.now
