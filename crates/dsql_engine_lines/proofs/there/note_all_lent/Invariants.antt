-- The moves so far are recorded.
use Rattle.std.proofs.Common.{◌≡◌, ◌+◌, ◌≤◌, take, vec_len, vec_capacity}
use Rattle.dsql_engine_lines.specs.There.{lent_by_all}
use Rattle.dsql_engine_lines.proofs.there.note_all_lent.Given as goal

abbrev pub invariant-loop-it : goal.invariant-loop-it
invariant-loop-it l =
    (l.there.items ≡ lent_by_all (take l.it-index l.moves) l.fn.there.items)
    × (vec_len l.there ≤ vec_len l.fn.there + l.it-index)
    × (vec_capacity l.there ≡ vec_capacity l.fn.there)
