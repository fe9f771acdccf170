-- Runs in which pings rest with their connections: one follows its script, the others are damaged. The driver
-- can neither ping nor test.
use Rattle.std.specs.Prelude.{ℕ, [], ◌∷◌, reverse}
use Rattle.dsql_history.specs.pool.declared.moves.CloseCause.TheVariants as causes
use Rattle.dsql_history.specs.declared.event.Event.TheVariants.{Waits, Replied, Ended}
use Rattle.dsql_history.specs.declared.event.Op.TheVariants.{Ping}
use Rattle.dsql_history.specs.declared.reply.Reply.TheVariants as replies
use Rattle.dsql_cases_histories.specs.CallWords.{run_untested, pings, open_start, lend, back, close, gone, sets_open}
use Rattle.dsql_follows.specs.declared.line.Line.{Line}
use Rattle.dsql_follows.specs.declared.line.Line.TheVariants.{Start, Step, StepHouse}
use Rattle.dsql_follows.specs.Follows.{Played}
use Rattle.dsql_cases_runs.specs.CallWords.{limits, connects, shuts, part}
use Rattle.dsql_cases_runs.specs.CallEdits.{with_events, with_line, puts_off_to_the_end, brings_forward}

abbrev pub starts_ping : ℕ → Line
starts_ping client = Start client Ping

-- Two pings rest with one connection, one after the other, each until its own step. A third ping is lent it on
-- entry, and goes on at once.
abbrev pub pings_rest : Played
pings_rest =
    record {
      run = run_untested;
      parts =
          reverse
          (part (limits 1) (sets_open 1 ∷ [])
          ∷ part (starts_ping 1) (pings 1 1
          ∷ open_start 1 1
          ∷ [])
          ∷ part (starts_ping 2) (pings 2 2
          ∷ Waits 2
          ∷ [])
          ∷ part StepHouse (connects 1
          ∷ lend 1 2 1
          ∷ [])
          ∷ part (Step 1) (back 1
          ∷ lend 1 3 2
          ∷ Replied 1 replies.Ok
          ∷ [])
          ∷ part (Step 2) (back 1
          ∷ Replied 2 replies.Ok
          ∷ [])
          ∷ part (starts_ping 1) (pings 1 3
          ∷ lend 1 4 3
          ∷ back 1
          ∷ Replied 3 replies.Ok
          ∷ [])
          ∷ []);
      last =
          reverse
          (Ended
          ∷ close 1 causes.DbClosed
          ∷ shuts 1 5
          ∷ gone 1
          ∷ []);
    }

-- A ping gives its connection back in the step of the layer.
abbrev pub gives_back_in_the_step_of_the_layer : Played
gives_back_in_the_step_of_the_layer = brings_forward 4 0 pings_rest

-- A step line makes no step although its call rests.
abbrev pub rests_a_step_longer : Played
rests_a_step_longer = with_events 5 [] pings_rest

-- A connection is given back in the step of another call than the one that rests with it.
abbrev pub gives_back_for_another : Played
gives_back_for_another = with_line 5 (Step 2) pings_rest

-- A ping rests with a connection that it was lent when it asked.
abbrev pub rests_where_it_asked : Played
rests_where_it_asked = puts_off_to_the_end 2 pings_rest
