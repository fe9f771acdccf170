use Rattle.std.proofs.Common.{◌≡◌, ◌++◌, map, take, drop}
use Rattle.dsql_cancel.specs.Token.{at_moment}
use Rattle.dsql_cancel.proofs.table.pass.Given as goal

abbrev pub invariant-loop-entry : goal.invariant-loop-entry
invariant-loop-entry l = l.table ≡ map (λ e. (e.0, at_moment l.now e.1)) (take l.entry-index l.initial.table) ++ drop l.entry-index l.initial.table
