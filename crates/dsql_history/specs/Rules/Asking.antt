-- Defines what a call that asks for a connection brings about.
use Rattle.std.specs.Prelude.{ℕ, Bool, true, false, not, ◌&&◌, ◌||◌, List, Result, Ok, Err, is_none}
use Rattle.dsql_history_work.specs.journal.Readers.{is_empty}
use Rattle.dsql_pool.specs.declared.moves.Move.{Move}
use Rattle.dsql_pool.specs.declared.moves.Move.TheVariants.{OpenStart, Lend}
use Rattle.dsql_pool.specs.declared.request.Asked.{Asked}
use Rattle.dsql_pool.specs.declared.request.Asked.TheVariants.{Queued}
use Rattle.dsql_pool.specs.declared.request.AskFault.{AskFault}
use Rattle.dsql_pool.specs.declared.request.AskFault.TheVariants.{TooMany}
use Rattle.dsql_pool.specs.Decisions as pools
use Rattle.dsql_pool.specs.Calls.{wants, moves_asked}
use Rattle.dsql_history.specs.declared.event.Event.{Event}
use Rattle.dsql_history.specs.declared.event.Event.TheVariants.{Waits, Pool}
use Rattle.dsql_history.specs.Same.{is_first}
use Rattle.dsql_history.specs.Readers.Tries.{has_a_try, tries}
use Rattle.dsql_history.specs.Readers.Pool.{smallest, is_home, pool, request}
use Rattle.dsql_history.specs.Readers.Works.{work, asks}
use Rattle.dsql_history.specs.Readers.Owed.{owed}
use Rattle.dsql_history.specs.Readers.Calls.{reply_due}
use Rattle.dsql_history.specs.Readers.HandedOut.{rows_by}
use Rattle.dsql_history.specs.Readers.Unfinished.{is_unfinished}
use Rattle.dsql_history.specs.Rules.Settled.{is_settled_but}

-- Is true if the call has a try left, and has neither a connection nor rows of an earlier try.
abbrev pub may_try : List Event → ℕ → Bool
may_try before n =
    has_a_try (tries before n) && (is_none (smallest (is_home n) (pool before)) && is_none (rows_by before n))

-- Is true if the call works on a connection of its own and has a try left. Nothing of an earlier try is still
-- to come, and its reply isn't settled.
abbrev pub may_ask : List Event → ℕ → Bool
may_ask before n =
    is_unfinished before n
    && (asks (work before n)
    && (may_try before n && (not (wants n (pool before)) && is_none (reply_due before n))))

-- Returns what the pool answers call n.
abbrev pub ask_outcome : List Event → ℕ → Result Asked AskFault
ask_outcome before n = pools.ask_outcome (request before n) (pool before)

abbrev pub is_queued : Result Asked AskFault → Bool
is_queued (Ok Queued) = true
is_queued _ = false

abbrev pub is_too_many : Result Asked AskFault → Bool
is_too_many (Err TooMany) = true
is_too_many _ = false

-- Is true if call n may ask, and all is settled except for this call, so that it asks in a step of its own.
abbrev pub asks_by_itself : List Event → ℕ → Bool
asks_by_itself before n = may_ask before n && is_settled_but n before

-- Is true if call n asks, and this move follows from it.
abbrev pub is_asked_for : List Event → ℕ → Move → Bool
is_asked_for before n move =
    asks_by_itself before n && is_first (moves_asked (request before n) (ask_outcome before n)) move

-- Is true if the pool owes a move, or this move follows because call n asks. A lending or an opening that the
-- pool doesn't owe follows from a call that asks.
abbrev pub unless_owed : List Event → ℕ → Move → Bool
unless_owed before n move = not (is_empty (owed before)) || is_asked_for before n move

abbrev pub keeps_asking : List Event → Event → Bool
keeps_asking before (Pool (OpenStart c n)) = unless_owed before n (OpenStart c n)
keeps_asking before (Pool (Lend c tenure owner n)) = unless_owed before n (Lend c tenure owner n)
keeps_asking before (Waits n) = asks_by_itself before n && is_queued (ask_outcome before n)
keeps_asking before _ = true
