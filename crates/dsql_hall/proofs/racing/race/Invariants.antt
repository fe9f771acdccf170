use Rattle.std.proofs.Common.{is_some}
use Rattle.std.specs.Prelude.{reverse}
use Rattle.dsql_hall_steps.specs.history.declared.event.Event.TheVariants.{Run}
use Rattle.dsql_hall.specs.Raced.{plans_first}
use Rattle.dsql_hall.proofs.racing.race.Given as goal

abbrev pub ghosts-run-K-CellName : goal.ghosts-run-K-CellName
ghosts-run-K-CellName g a = record { cell = a.unnamed }

abbrev pub ghosts-run-K-Race : goal.ghosts-run-K-Race
ghosts-run-K-Race g a = record {
  terms = record {
    run = Run 1 (g.F.Fleet.ability a.fleet.now);
    lines = reverse a.lines.now.items;
    telling = is_some (g.F.Fleet.told a.fleet.now);
    made = plans_first (reverse a.lines.now.items);
  };
}
