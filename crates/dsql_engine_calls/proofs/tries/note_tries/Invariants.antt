-- The tries of the moves so far are recorded.
use Rattle.std.proofs.Common.{◌≡◌, take, vec_len, vec_capacity}
use Rattle.dsql_engine_calls.specs.Tries.{tried_by_all}
use Rattle.dsql_engine_calls.proofs.MovesMade.{answer_after}
use Rattle.dsql_engine_calls.proofs.tries.note_tries.Given as goal

abbrev pub invariant-loop-it : goal.invariant-loop-it
invariant-loop-it l =
    (l.calls.items ≡ tried_by_all l.fn.answer (take l.it-index l.moves) l.fn.calls.items)
    × (vec_len l.calls ≡ vec_len l.fn.calls)
    × (vec_capacity l.calls ≡ vec_capacity l.fn.calls)
    × (l.newest ≡ answer_after l.fn.answer (take l.it-index l.moves))
