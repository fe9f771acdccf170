use Rattle.std.proofs.Common.{reverse, sym, subst}
use Rattle.dsql_hall_steps.specs.history.declared.event.Event.TheVariants.{Run}
use Rattle.dsql_hall_steps.specs.player.Playing.{Playing}
use Rattle.dsql_hall.specs.Raced.{RacesInPart}
use Rattle.dsql_hall.proofs.Finished.{unended}
use Rattle.dsql_hall.proofs.racing.race.Goals as goal

pub returns-in_default-clause-in_part : goal.returns-in_default-clause-in_part
returns-in_default-clause-in_part g c =
    let run = Run 1 (g.F.Fleet.ability c.args.fleet.now) in
    let script = reverse c.args.lines.items in
    subst (λ (p : Playing). RacesInPart run script p.past) (sym c.unraced.ensures.player)
    (unended run script c.args.settings.items c.args.player.past c.requires.races c.requires.limits c.requires.first c.requires.running)
