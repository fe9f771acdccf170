use Rattle.std.proofs.Common.{◌≡◌, ◌-◌, [], length, is_some}
use Rattle.dsql_engine_laws.specs.follows.Moments.{Moment}
use Rattle.dsql_engine_laws.specs.laws_steps.Groups.{most_events}
use Rattle.dsql_player_wires.specs.Told.{FleetTells, SameAbility}
use Rattle.dsql_player_wires.specs.WiresFit.{WiresFit}
use Rattle.dsql_player.specs.Acts.{RunsTo}
use Rattle.dsql_player.specs.Playing.{IsAt, IsReady}
use Rattle.dsql_player.specs.Keeping.{SameCourse}
use Rattle.dsql_player.proofs.running.run_on.Given as goal

abbrev pub invariant-loop : goal.invariant-loop
invariant-loop g l = record {
  ready : IsReady l.player;
  runs : (m : Moment) → IsAt m l.fn.player → RunsTo m l.fn.player l.player;
  course : SameCourse l.fn.player l.player;
  told : FleetTells g.F.Wire.Wire.told [] (g.F.Fleet.told l.fn.fleet) (g.F.Fleet.told l.fleet) l.fn.player.past l.player.past l.fn.wires l.wires;
  wires : WiresFit g.F.Wire.Wire.told (is_some (g.F.Fleet.told l.fleet)) l.player.past l.wires;
  able : SameAbility g.F.Fleet l.fn.fleet l.fleet;
  trimmed : l.player.trimmed ≡ l.fn.player.trimmed;
}

abbrev pub decreases-loop : goal.decreases-loop
decreases-loop g l = most_events - length l.player.past
