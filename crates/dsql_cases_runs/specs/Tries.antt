-- Runs in which a call is tried again: two follow their script, the others are damaged.
use Rattle.std.specs.Prelude.{[], ◌∷◌}
use Rattle.dsql_history.specs.driver.declared.call.DriverCall.TheVariants.{Connect}
use Rattle.dsql_history.specs.driver.declared.answer.DriverAnswer.TheVariants as answers
use Rattle.dsql_history.specs.pool.declared.moves.CloseCause.TheVariants as causes
use Rattle.dsql_history.specs.declared.event.Event.TheVariants.{Ended}
use Rattle.dsql_cases_histories.specs.CallWords.{exec, open_start, lend, back, close, gone, fell, house, enters_exec, sent}
use Rattle.dsql_follows.specs.declared.line.Line.TheVariants.{Skip, Step, StepHouse}
use Rattle.dsql_follows.specs.Follows.{Played}
use Rattle.dsql_cases_runs.specs.CallWords.{set_a, calls_exec, starts_exec, connects, shuts, runs, tests, is_told, part, played}
use Rattle.dsql_cases_runs.specs.CallEdits.{with_events, puts_off, brings_forward}

-- An exec finds its connection bad, and asks for another one in the same step.
abbrev pub lost_and_asked_again : Played
lost_and_asked_again =
    played
    (part (calls_exec 1 set_a) (enters_exec 1 1 set_a
    ∷ open_start 1 1
    ∷ connects 1
    ∷ lend 1 2 1
    ∷ sent 1 2 1 1 (exec set_a) answers.Bad
    ∷ close 1 causes.Bad
    ∷ open_start 2 1
    ∷ shuts 1 3
    ∷ gone 1
    ∷ connects 2
    ∷ lend 2 2 1
    ∷ runs 2 2 1 set_a
    ∷ tests 2 2 1
    ∷ back 2
    ∷ is_told 1
    ∷ [])
    ∷ part Skip []
    ∷ [])
    (Ended
    ∷ close 2 causes.DbClosed
    ∷ shuts 2 3
    ∷ gone 2
    ∷ [])

-- The `Connect` for a held exec is answered as bad, and the exec asks for another connection at its next step.
abbrev pub refused_and_asked_again : Played
refused_and_asked_again =
    played
    (part (starts_exec 1 set_a) (enters_exec 1 1 set_a
    ∷ open_start 1 1
    ∷ [])
    ∷ part StepHouse (house 1 1 Connect answers.Bad
    ∷ fell 1 1
    ∷ [])
    ∷ part (Step 1) (open_start 2 1
    ∷ [])
    ∷ [])
    (connects 2
    ∷ lend 2 2 1
    ∷ runs 2 2 1 set_a
    ∷ tests 2 2 1
    ∷ back 2
    ∷ is_told 1
    ∷ Ended
    ∷ close 2 causes.DbClosed
    ∷ shuts 2 3
    ∷ gone 2
    ∷ [])

-- A call that lost its connection asks again in the part of the next line.
abbrev pub asks_a_line_later : Played
asks_a_line_later = puts_off 1 9 lost_and_asked_again

-- A line stops before its call has asked again.
abbrev pub stops_before_the_next_try : Played
stops_before_the_next_try =
    with_events 1
    (enters_exec 1 1 set_a
    ∷ open_start 1 1
    ∷ house 1 1 Connect answers.Bad
    ∷ fell 1 1
    ∷ [])
    lost_and_asked_again

-- A call asks again in the step of the layer.
abbrev pub asks_in_the_step_of_the_layer : Played
asks_in_the_step_of_the_layer = brings_forward 2 0 refused_and_asked_again

-- A step line makes no step although its call is to ask again.
abbrev pub passes_the_next_try : Played
passes_the_next_try = with_events 3 [] refused_and_asked_again
