-- Runs in which the end's part doesn't follow. Each follows except for one thing. Events are oldest first.
use Rattle.std.specs.Prelude.{[], ◌∷◌}
use Rattle.dsql_history.specs.pool.declared.moves.CloseCause.TheVariants as causes
use Rattle.dsql_history.specs.declared.event.Event.TheVariants.{Replied, Ended}
use Rattle.dsql_history.specs.declared.reply.DbEnd.TheVariants as ends
use Rattle.dsql_history.specs.declared.reply.Reply.TheVariants as replies
use Rattle.dsql_cases_histories.specs.CallWords.{enters_exec, stats, fetches, asks_for_stats, close, gone, sets_open}
use Rattle.dsql_follows.specs.Follows.{Played}
use Rattle.dsql_cases_runs.specs.CallWords.{set_a, r, shuts, tests, closes_rows, tests_after, is_told}
use Rattle.dsql_cases_runs.specs.FollowedCalls.{one_exec, closed_while_waiting, waits_until_the_end}
use Rattle.dsql_cases_runs.specs.FollowedSteps.{stepped_by_hand, answered_after_a_close, two_at_once, released_at_the_end}
use Rattle.dsql_cases_runs.specs.CallEdits.{with_last, puts_off_to_the_end}

-- A lending stands in the end's part although its connection was opened in the last line's part.
abbrev pub lends_at_the_end : Played
lends_at_the_end = puts_off_to_the_end 1 released_at_the_end

-- A call that was entered at the end has no reply.
abbrev pub leaves_a_call_at_the_end : Played
leaves_a_call_at_the_end =
    with_last (Ended
    ∷ closes_rows 1 2 1 0
    ∷ tests_after 1 2 1 0
    ∷ close 1 causes.DbClosed
    ∷ shuts 1 3
    ∷ gone 1
    ∷ Replied 2 (replies.DbClosed ends.EndOfRun)
    ∷ fetches 2 3 r
    ∷ [])
    waits_until_the_end

-- Another operation is entered than the kept line has.
abbrev pub enters_another_at_the_end : Played
enters_another_at_the_end =
    with_last (Ended
    ∷ closes_rows 1 2 1 0
    ∷ tests_after 1 2 1 0
    ∷ close 1 causes.DbClosed
    ∷ shuts 1 3
    ∷ gone 1
    ∷ Replied 2 (replies.DbClosed ends.EndOfRun)
    ∷ enters_exec 2 3 set_a
    ∷ Replied 3 (replies.DbClosed ends.EndOfRun)
    ∷ [])
    waits_until_the_end

-- A limit is set at the end.
abbrev pub sets_at_the_end : Played
sets_at_the_end = with_last (sets_open 1 ∷ Ended ∷ close 1 causes.DbClosed ∷ shuts 1 3 ∷ gone 1 ∷ []) one_exec

-- The run ends beside a call that can move.
abbrev pub ends_beside_a_call : Played
ends_beside_a_call =
    with_last (Ended
    ∷ close 1 causes.DbClosed
    ∷ shuts 1 3
    ∷ gone 1
    ∷ tests 2 2 2
    ∷ close 2 causes.DbClosed
    ∷ is_told 2
    ∷ shuts 2 3
    ∷ gone 2
    ∷ [])
    stepped_by_hand

-- The run ends beside a line that may be entered.
abbrev pub ends_beside_a_line : Played
ends_beside_a_line =
    with_last (tests 1 2 1
    ∷ close 1 causes.IdleFull
    ∷ is_told 1
    ∷ shuts 1 3
    ∷ gone 1
    ∷ Ended
    ∷ close 3 causes.DbClosed
    ∷ close 2 causes.DbClosed
    ∷ shuts 2 3
    ∷ gone 2
    ∷ shuts 3 3
    ∷ gone 3
    ∷ asks_for_stats 3 4
    ∷ Replied 4 (stats 0 0 0 0 0 1)
    ∷ [])
    two_at_once

-- A kept line is entered before a chore.
abbrev pub enters_before_a_chore : Played
enters_before_a_chore =
    with_last (tests 1 2 1
    ∷ close 1 causes.IdleFull
    ∷ is_told 1
    ∷ asks_for_stats 3 4
    ∷ Replied 4 (stats 0 3 1 2 0 1)
    ∷ shuts 1 3
    ∷ gone 1
    ∷ Ended
    ∷ close 3 causes.DbClosed
    ∷ close 2 causes.DbClosed
    ∷ shuts 2 3
    ∷ gone 2
    ∷ shuts 3 3
    ∷ gone 3
    ∷ [])
    two_at_once

-- The run ends twice.
abbrev pub ends_twice : Played
ends_twice = with_last (Ended ∷ Ended ∷ []) answered_after_a_close

-- A chore is left over.
abbrev pub leaves_a_chore : Played
leaves_a_chore = with_last (Ended ∷ close 1 causes.DbClosed ∷ []) one_exec

-- The run doesn't end.
abbrev pub never_ends : Played
never_ends = with_last [] answered_after_a_close

-- A held call is left over.
abbrev pub leaves_a_held_call : Played
leaves_a_held_call =
    with_last (Ended
    ∷ closes_rows 1 2 1 0
    ∷ tests_after 1 2 1 0
    ∷ close 1 causes.DbClosed
    ∷ shuts 1 3
    ∷ gone 1
    ∷ [])
    closed_while_waiting

-- A line is never entered.
abbrev pub loses_a_line_at_the_end : Played
loses_a_line_at_the_end =
    with_last (Ended
    ∷ closes_rows 1 2 1 0
    ∷ tests_after 1 2 1 0
    ∷ close 1 causes.DbClosed
    ∷ shuts 1 3
    ∷ gone 1
    ∷ Replied 2 (replies.DbClosed ends.EndOfRun)
    ∷ [])
    waits_until_the_end
