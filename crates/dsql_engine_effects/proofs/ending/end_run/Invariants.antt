-- The rows of the calls so far.
use Rattle.std.proofs.Common.{◌≡◌}
use Rattle.dsql_engine_effects.specs.Ended.{rows_ended, works_inside, works_of}
use Rattle.dsql_engine_effects.proofs.ending.end_run.Given as goal

abbrev pub invariant-loop-query : goal.invariant-loop-query
invariant-loop-query l = (l.rows.rows ≡ rows_ended works_inside 0 (works_of l.calls.items) l.query l.fn.rows.rows) × (l.rows.spare ≡ l.fn.rows.spare)
