-- No call so far has rows to close.
use Rattle.std.proofs.Common.{◌≡◌}
use Rattle.dsql_engine_desk.specs.Desk.{past}
use Rattle.dsql_engine_desk.proofs.FirstClosing.{closing_from}
use Rattle.dsql_engine_desk.proofs.desk.Desk.first_closing.Given as goal

abbrev pub invariant-loop-query : goal.invariant-loop-query
invariant-loop-query l = closing_from (past l.self) l.tx 0 ≡ closing_from (past l.self) l.tx l.query
