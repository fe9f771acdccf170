-- The rows of the calls so far, and who ended them.
use Rattle.std.proofs.Common.{◌≡◌, ◌≤◌, max, vec_len, vec_capacity}
use Rattle.dsql_history.specs.Readers.Works.{hands_out_in}
use Rattle.dsql_engine_effects.specs.Ended.{calls_ended, rows_ended, works_of}
use Rattle.dsql_engine_effects.proofs.ending.end_rows_in.Given as goal

abbrev pub invariant-loop-query : goal.invariant-loop-query
invariant-loop-query l =
    (l.calls.items ≡ calls_ended (hands_out_in l.tx) l.tx (works_of l.fn.calls.items) l.call l.fn.rows.rows l.query l.fn.calls.items)
    × (vec_len l.calls ≡ vec_len l.fn.calls)
    × (vec_capacity l.calls ≡ vec_capacity l.fn.calls)
    × (l.rows.rows ≡ rows_ended (hands_out_in l.tx) l.tx (works_of l.fn.calls.items) l.query l.fn.rows.rows)
    × (l.rows.spare ≡ l.fn.rows.spare)
    × (l.query ≤ max l.tx l.query-end)
