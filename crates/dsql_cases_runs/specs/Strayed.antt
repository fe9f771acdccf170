-- Runs whose parts don't follow their lines. Each follows except for one thing. Events are oldest first.
use Rattle.std.specs.Prelude.{[], ◌∷◌, true}
use Rattle.dsql_history.specs.driver.declared.call.DriverCall.TheVariants.{Reset, Next, CloseRows}
use Rattle.dsql_history.specs.driver.declared.answer.DriverAnswer.TheVariants.{Done}
use Rattle.dsql_history.specs.pool.declared.moves.CloseCause.TheVariants.{DbClosed}
use Rattle.dsql_history.specs.declared.event.Event.TheVariants.{Replied, Ended}
use Rattle.dsql_history.specs.declared.reply.Reply.TheVariants.{Truth}
use Rattle.dsql_cases_histories.specs.Words.{y, exec, one_changed, row, executes, executes_in, rolls_back, lend_tx, back, close, gone, within, beside}
use Rattle.dsql_cases_histories.specs.Words as words
use Rattle.dsql_follows.specs.Follows.{Played}
use Rattle.dsql_cases_runs.specs.Words.{shuts, begun, committed, rolled_back, tests, is_done, is_told}
use Rattle.dsql_cases_runs.specs.Edits.{with_events, with_last, brings_forward}
use Rattle.dsql_cases_runs.specs.Followed.{commit_waits_for_the_turn, told_beside_a_call, begun_after_another, rolled_back_at_the_end}

-- A commit is answered while another call has the turn.
abbrev pub takes_the_turn : Played
takes_the_turn = with_events 5 (committed 1 2 1 3 ∷ []) commit_waits_for_the_turn

-- A commit is answered in the step that sends it.
abbrev pub answered_as_it_wakes : Played
answered_as_it_wakes = brings_forward 10 commit_waits_for_the_turn

-- A step line makes no step although the transaction of its call has ended.
abbrev pub passes_the_end : Played
passes_the_end = with_events 5 [] told_beside_a_call

-- A call replies that its transaction has ended when the commit enters.
abbrev pub told_a_line_early : Played
told_a_line_early = brings_forward 4 told_beside_a_call

-- A kept line is entered before the begin has its reply.
abbrev pub enters_a_kept_line_early : Played
enters_a_kept_line_early =
    with_events 5
    (rolls_back 1 3 words.x
    ∷ rolled_back 1 2 1 3
    ∷ tests 1 2 1 3
    ∷ back 1
    ∷ lend_tx 1 3 2
    ∷ is_done 3
    ∷ beside 1 3 2 2 Reset Done
    ∷ executes_in y 2 4
    ∷ begun 1 3 2
    ∷ is_done 2
    ∷ within 1 3 2 4 exec one_changed
    ∷ is_told 4
    ∷ [])
    begun_after_another

-- A call asks of the database what its line asks of the transaction.
abbrev pub asks_the_database : Played
asks_the_database = with_events 5 (executes 2 5 ∷ []) rolled_back_at_the_end

-- The layer rolls back before the run ends.
abbrev pub rolls_back_early : Played
rolls_back_early =
    with_last
    (within 1 2 1 4 (Next 1) row
    ∷ Replied 4 (Truth true)
    ∷ within 1 2 1 5 exec one_changed
    ∷ is_told 5
    ∷ within 1 2 1 0 (CloseRows 1) Done
    ∷ rolled_back 1 2 1 0
    ∷ tests 1 2 1 0
    ∷ back 1
    ∷ Ended
    ∷ close 2 DbClosed
    ∷ close 1 DbClosed
    ∷ shuts 1 3
    ∷ gone 1
    ∷ shuts 2 3
    ∷ gone 2
    ∷ [])
    rolled_back_at_the_end

-- The layer shuts a connection before it rolls back.
abbrev pub shuts_first : Played
shuts_first =
    with_last
    (within 1 2 1 4 (Next 1) row
    ∷ Replied 4 (Truth true)
    ∷ within 1 2 1 5 exec one_changed
    ∷ is_told 5
    ∷ Ended
    ∷ close 2 DbClosed
    ∷ shuts 2 3
    ∷ gone 2
    ∷ within 1 2 1 0 (CloseRows 1) Done
    ∷ rolled_back 1 2 1 0
    ∷ tests 1 2 1 0
    ∷ close 1 DbClosed
    ∷ shuts 1 3
    ∷ gone 1
    ∷ [])
    rolled_back_at_the_end
