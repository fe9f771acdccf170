use Rattle.std.proofs.Common.{Result, sym, subst, ◌∙◌}
use Rattle.dsql_run_outcome.specs.history.declared.event.Event.TheVariants.{Run}
use Rattle.dsql_run_outcome.specs.player.declared.halt.Halt.{Halt}
use Rattle.dsql_run_outcome.specs.Racing.{LinesRaced}
use Rattle.dsql_run_outcome.specs.Runs.{stop_of}
use Rattle.dsql_run_outcome.proofs.player.Keeping.{able_same}
use Rattle.dsql_run.proofs.Going.{halted}
use Rattle.dsql_run.proofs.Raced.{read_so_far, unraced}
use Rattle.dsql_run.proofs.racing_lines.race_read.Goals as goal

-- Memory was wanting as the script was read.

pub returns-then-is_halted-clause-raced : goal.returns-then-is_halted-clause-raced
returns-then-is_halted-clause-raced g c =
    unraced c.args.read.stopped (g.F.Fleet.ability c.args.fleet.now) c.args.read.lines.items c.args.player.past (g.F.Fleet.told c.args.fleet.now) (c.is_halted.ensures.halts c.if-is_halted.true) c.requires.readable c.requires.begun c.requires.ready.legal

pub returns-then-is_halted-clause-able : goal.returns-then-is_halted-clause-able
returns-then-is_halted-clause-able g c = able_same g.F.Fleet c.args.fleet.now

-- The lines were raced to their end.

pub returns-in-Ok-clause-raced : goal.returns-in-Ok-clause-raced
returns-in-Ok-clause-raced g c =
    let run = Run 1 (g.F.Fleet.ability c.args.fleet.now) in
    let told = g.F.Fleet.told c.args.fleet.now in
    let now = g.F.Fleet.told c.race_lines-player.new.fleet in
    read_so_far c.args.read.stopped run c.args.read.lines.items c.race_lines-player.result.player.past told now c.requires.readable
    (subst (λ (r : Result (Unit {0}) Halt). LinesRaced (stop_of r) run c.args.read.lines.items c.race_lines-player.result.player.past told now) c.in-Ok.is c.race_lines-player.ensures.raced)

-- The race had to stop.

pub returns-in-Err-clause-raced : goal.returns-in-Err-clause-raced
returns-in-Err-clause-raced g c =
    let run = Run 1 (g.F.Fleet.ability c.args.fleet.now) in
    let told = g.F.Fleet.told c.args.fleet.now in
    let now = g.F.Fleet.told c.race_lines-player.new.fleet in
    rw c.stop_of_halt.ensures
    (subst (λ (r : Result (Unit {0}) Halt). LinesRaced (stop_of r) run c.args.read.lines.items c.race_lines-player.result.player.past told now) c.in-Err.is c.race_lines-player.ensures.raced)

pub returns-in-Err-clause-same : goal.returns-in-Err-clause-same
returns-in-Err-clause-same g c = λ ran. absurd (cc (sym (halted c.stop_of_halt.result c.in-Err.halt c.stop_of_halt.ensures) ∙ ran))

pub returns-in-Err-clause-kept : goal.returns-in-Err-clause-kept
returns-in-Err-clause-kept g c = λ out. absurd (cc (sym out ∙ c.is_halted.ensures.goes_on c.if-is_halted.false))
