use Rattle.std.proofs.Common.{◌≡◌, ◌++◌, map, take, drop}
use Rattle.dsql_tenure.specs.Heard.{over_if}
use Rattle.dsql_tenure.proofs.heard.end_each.Given as goal

abbrev pub invariant-loop-cursor : goal.invariant-loop-cursor
invariant-loop-cursor l = l.cursors ≡ map (over_if l.number) (take l.cursor-index l.initial.cursors) ++ drop l.cursor-index l.initial.cursors
