use Rattle.std.proofs.Common.{◌≡◌, map, take}
use Rattle.sqlite_value.specs.Value.{owned}
use Rattle.sqlite_driver.specs.Values.{sql_values}
use Rattle.sqlite_driver.proofs.parameters.by_place.Given as goal

abbrev pub invariant-loop-param : goal.invariant-loop-param
invariant-loop-param l = map owned l.values.items ≡ sql_values (take l.param-index l.params)
