-- Runs in which time passes: two follow their script, the others are damaged.
use Rattle.std.specs.Prelude.{[], ◌∷◌, pos, negsuc}
use Rattle.dsql_history.specs.pool.declared.moves.CloseCause.TheVariants as causes
use Rattle.dsql_history.specs.declared.event.Event.TheVariants.{Waits, Replied, Ended, SetLimit}
use Rattle.dsql_history.specs.declared.event.Setting.TheVariants.{MaxLife, MaxIdleTime}
use Rattle.dsql_history.specs.declared.event.Control.TheVariants.{Set}
use Rattle.dsql_history.specs.declared.reply.Reply.TheVariants as replies
use Rattle.dsql_cases_histories.specs.CallWords.{query, columns, cursor, closes, asks_for_stats, open_start, lend, back, close, gone, enters_exec, queries, sets_life, stats_of_times, stats_of_a_wait, sets_open, sent}
use Rattle.dsql_cases_histories.specs.CallWords as events
use Rattle.dsql_follows.specs.declared.line.Line.TheVariants.{Skip, Step, StepHouse}
use Rattle.dsql_follows.specs.declared.line.Line.TheVariants as lines
use Rattle.dsql_follows.specs.Follows.{Played}
use Rattle.dsql_cases_runs.specs.CallWords.{set_a, r, limits, ticks, calls_exec, calls_query, calls_close, calls_stats, starts_stats, connects, shuts, resets, runs, tests, closes_rows, tests_after, is_told, part, played}
use Rattle.dsql_cases_runs.specs.CallEdits.{with_events, with_line, puts_off, brings_forward}

-- An exec waits until the moment 50, and a tick to an earlier moment changes nothing.
abbrev pub waited : Played
waited =
    played
    (part (limits 1) (sets_open 1 ∷ [])
    ∷ part (calls_query 1 r) (queries 1 1 r
    ∷ open_start 1 1
    ∷ connects 1
    ∷ lend 1 2 1
    ∷ sent 1 2 1 1 query cursor
    ∷ Replied 1 (replies.Rows columns)
    ∷ [])
    ∷ part (calls_exec 2 set_a) (enters_exec 2 2 set_a
    ∷ Waits 2
    ∷ [])
    ∷ part (ticks 50) (events.ticks 50 ∷ [])
    ∷ part (calls_close 1 r) (closes 1 3 r
    ∷ closes_rows 1 2 1 3
    ∷ tests_after 1 2 1 3
    ∷ back 1
    ∷ lend 1 3 2
    ∷ Replied 3 replies.Ok
    ∷ resets 1 3 2
    ∷ runs 1 3 2 set_a
    ∷ tests 1 3 2
    ∷ back 1
    ∷ is_told 2
    ∷ [])
    ∷ part (calls_stats 1) (asks_for_stats 1 4
    ∷ Replied 4 (stats_of_a_wait 50)
    ∷ [])
    ∷ part (ticks 20) (events.ticks 50 ∷ [])
    ∷ [])
    (Ended
    ∷ close 1 causes.DbClosed
    ∷ shuts 1 4
    ∷ gone 1
    ∷ [])

-- A connection may live a hundred nanoseconds.
abbrev pub lived : Played
lived =
    played
    (part (lines.Control (Set MaxLife (pos 100))) (sets_life 100 ∷ [])
    ∷ part (calls_exec 1 set_a) (enters_exec 1 1 set_a
    ∷ open_start 1 1
    ∷ connects 1
    ∷ lend 1 2 1
    ∷ runs 1 2 1 set_a
    ∷ tests 1 2 1
    ∷ back 1
    ∷ is_told 1
    ∷ [])
    ∷ part (ticks 100) (events.ticks 100 ∷ [])
    ∷ part (ticks 101) (events.ticks 101
    ∷ close 1 causes.Lifetime
    ∷ shuts 1 3
    ∷ gone 1
    ∷ [])
    ∷ part (lines.Control (Set MaxIdleTime (negsuc 4))) (SetLimit MaxIdleTime (negsuc 4) ∷ [])
    ∷ part (starts_stats 1) (asks_for_stats 1 2
    ∷ Replied 2 (stats_of_times 0 1)
    ∷ [])
    ∷ part (Step 1) []
    ∷ part StepHouse []
    ∷ part Skip []
    ∷ [])
    (Ended
    ∷ [])

-- A moment before the present one is reported.
abbrev pub tells_lower : Played
tells_lower = with_events 7 (events.ticks 20 ∷ []) waited

abbrev pub tells_later : Played
tells_later = with_events 4 (events.ticks 51 ∷ []) waited

abbrev pub ticks_twice : Played
ticks_twice = with_events 4 (events.ticks 50 ∷ events.ticks 50 ∷ []) waited

-- A tick comes before its line.
abbrev pub ticks_early : Played
ticks_early = brings_forward 3 0 waited

-- A tick comes after the part of its line.
abbrev pub ticks_late : Played
ticks_late = puts_off 4 1 waited

-- Another limit is set than the line says.
abbrev pub sets_idle_for_life : Played
sets_idle_for_life = with_line 1 (lines.Control (Set MaxIdleTime (pos 100))) lived

-- A connection that has lived too long closes a line later.
abbrev pub closes_later : Played
closes_later = puts_off 4 3 lived

-- A tick comes in the part of a start line.
abbrev pub ticks_in_start : Played
ticks_in_start = with_events 6 (asks_for_stats 1 2 ∷ Replied 2 (stats_of_times 0 1) ∷ events.ticks 101 ∷ []) lived
