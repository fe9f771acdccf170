use Rattle.std.proofs.Common.{◌≡◌, false}
use Rattle.dsql_hall.specs.Fleets.{KeepsHouse}
use Rattle.dsql_hall.proofs.shared.SharedHall.keep_house.Given as goal

abbrev pub invariant-loop : goal.invariant-loop
invariant-loop g l = record {
  same : l.house.fleet.ghost_name ≡ l.initial.house.fleet.ghost_name;
  uncut : l.house.cut ≡ false;
  keeps : KeepsHouse g.F.Fleet g.K.Race.terms.made l.initial.house.fleet.now l.house.fleet.now l.initial.house.own l.house.own l.house.cut;
}
