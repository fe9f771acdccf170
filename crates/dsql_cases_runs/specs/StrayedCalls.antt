-- Runs in which a line's part doesn't follow. Each follows except for one thing. Events are oldest first.
use Rattle.std.specs.Prelude.{[], ◌∷◌}
use Rattle.dsql_history.specs.declared.event.Event.TheVariants.{Waits, Replied, Ended}
use Rattle.dsql_history.specs.declared.reply.Reply.TheVariants as replies
use Rattle.dsql_cases_histories.specs.CallWords.{enters_exec, stats, closes, asks_for_stats, lend, back, gone, sets_open}
use Rattle.dsql_follows.specs.declared.line.Line.TheVariants.{Skip, Step}
use Rattle.dsql_follows.specs.Follows.{Played}
use Rattle.dsql_cases_runs.specs.CallWords.{set_a, set_b, set_c, set_d, r, limits, connects, shuts, resets, runs, tests, closes_rows, tests_after, is_told}
use Rattle.dsql_cases_runs.specs.FollowedCalls.{rows_hold_the_connection, served_in_order, closed_while_waiting, limit_lowered}
use Rattle.dsql_cases_runs.specs.FollowedSteps.{held_and_kept, stepped_by_hand, stepped_in_the_other_order, shared_rows, answered_after_a_close, released_at_the_end}
use Rattle.dsql_cases_runs.specs.CallEdits.{with_events, with_line, without_part, puts_off, brings_forward}

-- The wait of a call stands in the part of the next line.
abbrev pub waits_a_line_later : Played
waits_a_line_later = puts_off 3 1 rows_hold_the_connection

-- A lending stands in the part of the line after the one in which the connection was opened.
abbrev pub lends_a_line_later : Played
lends_a_line_later = puts_off 3 1 stepped_by_hand

-- A connection is opened in the part of a start line.
abbrev pub opens_a_line_early : Played
opens_a_line_early = brings_forward 2 0 held_and_kept

-- The part of a start line goes on after the start.
abbrev pub runs_on_after_a_start : Played
runs_on_after_a_start =
    with_events 3 (enters_exec 2 2 set_b ∷ Waits 2 ∷ connects 1 ∷ lend 1 2 1 ∷ []) released_at_the_end

-- A start line is entered while its client has a call.
abbrev pub starts_beside_a_call : Played
starts_beside_a_call = with_events 4 (enters_exec 1 2 set_b ∷ Waits 2 ∷ []) held_and_kept

-- An answer stands in the part of the next line, a step of the layer.
abbrev pub answers_a_line_later : Played
answers_a_line_later = puts_off 7 1 held_and_kept

-- A step line makes two steps.
abbrev pub makes_two_steps : Played
makes_two_steps = brings_forward 6 0 stepped_in_the_other_order

-- A call that was blocked sends and is answered in one step.
abbrev pub wakes_and_is_answered : Played
wakes_and_is_answered = brings_forward 5 0 stepped_in_the_other_order

-- A step line makes no step although the permit of its call is in flight.
abbrev pub passes_an_answer : Played
passes_an_answer = puts_off 6 1 stepped_in_the_other_order

-- A step line makes no step although a line is kept.
abbrev pub passes_a_kept_line : Played
passes_a_kept_line = with_events 10 [] held_and_kept

-- A step line makes no step although its call is to reply that the database is closed.
abbrev pub passes_a_reply : Played
passes_a_reply = with_events 7 [] closed_while_waiting

-- A step line names another client than the one that steps.
abbrev pub steps_another : Played
steps_another = with_line 6 (Step 1) stepped_in_the_other_order

-- The part of a step line goes on after the step.
abbrev pub runs_on_after_a_step : Played
runs_on_after_a_step = with_events 9 (tests 1 2 1 ∷ back 1 ∷ lend 1 3 2 ∷ is_told 1 ∷ resets 1 3 2 ∷ []) held_and_kept

-- A call that waits for its turn is answered by a step.
abbrev pub steps_out_of_turn : Played
steps_out_of_turn = with_line 5 (Step 1) shared_rows

-- A step of the layer makes nothing although there is a chore.
abbrev pub passes_a_chore : Played
passes_a_chore = with_events 3 [] stepped_by_hand

-- A step of the layer does two chores.
abbrev pub makes_two_chores : Played
makes_two_chores = brings_forward 3 0 stepped_in_the_other_order

-- A step of the layer takes the chore that comes last.
abbrev pub takes_the_last_chore : Played
takes_the_last_chore = with_events 3 (connects 2 ∷ lend 2 2 2 ∷ []) stepped_by_hand

-- A step of the layer is a client's step.
abbrev pub tidies_for_a_client : Played
tidies_for_a_client = with_events 7 (runs 1 2 1 set_a ∷ []) stepped_by_hand

-- A held call moves by itself.
abbrev pub moves_a_held_call : Played
moves_a_held_call =
    with_events 3 (enters_exec 2 2 set_b ∷ Waits 2 ∷ connects 1 ∷ lend 1 2 1 ∷ runs 1 2 1 set_a ∷ []) served_in_order

-- A call that a kept start line made moves by itself.
abbrev pub moves_a_kept_start : Played
moves_a_kept_start =
    with_events 12 (resets 1 3 2
    ∷ runs 1 3 2 set_c
    ∷ tests 1 3 2
    ∷ back 1
    ∷ lend 1 4 4
    ∷ is_told 2
    ∷ resets 1 4 4
    ∷ [])
    held_and_kept

-- A held call goes on in the last line's part, before the script ends.
abbrev pub releases_in_a_line : Played
releases_in_a_line =
    with_events 15 (asks_for_stats 3 5
    ∷ Replied 5 (stats 1 1 1 0 2 0)
    ∷ runs 1 4 4 set_b
    ∷ tests 1 4 4
    ∷ back 1
    ∷ is_told 4
    ∷ [])
    held_and_kept

-- A chore comes after a client's step.
abbrev pub puts_a_chore_off : Played
puts_a_chore_off =
    with_events 8 (closes 1 3 r
    ∷ closes_rows 1 2 1 3
    ∷ tests_after 1 2 1 3
    ∷ back 1
    ∷ Replied 3 replies.Ok
    ∷ shuts 2 3
    ∷ gone 2
    ∷ [])
    (without_part 8 limit_lowered)

-- A client with a larger number goes first.
abbrev pub lets_a_larger_client_go_first : Played
lets_a_larger_client_go_first =
    with_events 9 (resets 1 3 2
    ∷ runs 1 3 2 set_b
    ∷ tests 1 3 2
    ∷ back 1
    ∷ lend 1 4 3
    ∷ is_told 2
    ∷ resets 1 4 3
    ∷ enters_exec 2 4 set_d
    ∷ Waits 4
    ∷ runs 1 4 3 set_c
    ∷ tests 1 4 3
    ∷ back 1
    ∷ lend 1 5 4
    ∷ is_told 3
    ∷ resets 1 5 4
    ∷ runs 1 5 4 set_d
    ∷ tests 1 5 4
    ∷ back 1
    ∷ is_told 4
    ∷ [])
    served_in_order

-- A kept line is lost.
abbrev pub loses_a_kept_line : Played
loses_a_kept_line =
    with_events 9 (resets 1 3 2
    ∷ runs 1 3 2 set_b
    ∷ tests 1 3 2
    ∷ back 1
    ∷ lend 1 4 3
    ∷ is_told 2
    ∷ resets 1 4 3
    ∷ runs 1 4 3 set_c
    ∷ tests 1 4 3
    ∷ back 1
    ∷ is_told 3
    ∷ [])
    served_in_order

-- Kept lines are swapped.
abbrev pub swaps_kept_lines : Played
swaps_kept_lines = with_events 10 (enters_exec 1 3 set_b ∷ Waits 3 ∷ []) held_and_kept

-- A kept line is entered twice.
abbrev pub enters_a_kept_line_twice : Played
enters_a_kept_line_twice = with_events 11 (asks_for_stats 1 4 ∷ Replied 4 (stats 1 1 1 0 1 0) ∷ []) held_and_kept

-- Another text is entered than the line has.
abbrev pub enters_another_text : Played
enters_another_text = with_events 4 (enters_exec 3 3 set_d ∷ Waits 3 ∷ []) served_in_order

-- The line of a free client is entered a line later.
abbrev pub enters_a_line_later : Played
enters_a_line_later = puts_off 2 2 stepped_by_hand

-- The call of a free client isn't entered in its line's part.
abbrev pub enters_nothing : Played
enters_nothing = with_events 5 [] rows_hold_the_connection

-- A limit is set after a chore.
abbrev pub sets_too_late : Played
sets_too_late = with_events 3 (connects 2 ∷ lend 2 2 2 ∷ sets_open 1 ∷ []) limit_lowered

-- A limit isn't set.
abbrev pub sets_nothing_at_all : Played
sets_nothing_at_all = with_events 1 [] rows_hold_the_connection

-- Another limit is set than the line says.
abbrev pub sets_another : Played
sets_another = with_line 1 (limits 2) rows_hold_the_connection

-- A limit is set in the part of a comment.
abbrev pub sets_in_a_comment : Played
sets_in_a_comment = with_line 1 Skip rows_hold_the_connection

-- A line stops while a client may go on.
abbrev pub stops_too_early : Played
stops_too_early = puts_off 4 5 rows_hold_the_connection

-- A line stops before a chore.
abbrev pub stops_before_a_chore : Played
stops_before_a_chore = puts_off 3 2 served_in_order

-- Nothing goes on at a comment.
abbrev pub passes_over_a_comment : Played
passes_over_a_comment = with_events 9 [] served_in_order

-- The run ends in a line's part.
abbrev pub ends_in_a_line : Played
ends_in_a_line = with_line 8 Skip (with_events 8 (shuts 1 3 ∷ gone 1 ∷ Ended ∷ []) answered_after_a_close)
