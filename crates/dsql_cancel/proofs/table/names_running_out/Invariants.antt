use Rattle.std.proofs.Common.{◌≡◌, take}
use Rattle.dsql_cancel.specs.Registry.{running_out}
use Rattle.dsql_cancel.proofs.table.names_running_out.Given as goal

abbrev pub invariant-loop-name : goal.invariant-loop-name
invariant-loop-name l = l.names.items ≡ running_out l.now (take l.name-index l.table)
