-- The calls so far have heard the answer.
use Rattle.std.proofs.Common.{◌≡◌, take, vec_len, vec_capacity}
use Rattle.dsql_engine_lines.specs.Inside.{hear_all}
use Rattle.dsql_engine_effects.specs.Ended.{works_of}
use Rattle.dsql_engine_lines.proofs.inside.hear_all.Given as goal

abbrev pub invariant-loop-call : goal.invariant-loop-call
invariant-loop-call l =
    (l.lines.items ≡ hear_all (works_of l.rows.items) l.entry (take l.call-index l.listeners) l.fn.lines.items)
    × (vec_len l.lines ≡ vec_len l.fn.lines)
    × (vec_capacity l.lines ≡ vec_capacity l.fn.lines)
