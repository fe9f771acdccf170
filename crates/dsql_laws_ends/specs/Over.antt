-- Defines a run in which nothing is left to do, and a run that is over.
use Rattle.std.specs.Prelude.{ℕ, ◌≡◌, ◌==◌, ◌⊎◌, Bool, true, false, not, ◌&&◌, ◌||◌, List, [], Option, Some, None}
use Rattle.std.specs.List.{list_all, list_any}
use Rattle.dsql_laws_calls.specs.journal.declared.entry.Entry.{Entry}
use Rattle.dsql_laws_calls.specs.journal.Journal.{IsWhole}
use Rattle.dsql_laws_calls.specs.pool.Pooled.{open_count}
use Rattle.dsql_laws_calls.specs.tx.declared.end.TxEnd.{TxEnd}
use Rattle.dsql_laws_calls.specs.tx.declared.tx.Tx.{Tx}
use Rattle.dsql_laws_calls.specs.history.declared.record.Flight.{Flight}
use Rattle.dsql_laws_calls.specs.history.Rules.Flights.{is_in_flight, is_blocked}
use Rattle.dsql_laws_calls.specs.history.declared.event.Event.{Event}
use Rattle.dsql_laws_calls.specs.history.Readers.Journals.{heard_in, journal}
use Rattle.dsql_laws_calls.specs.history.Readers.Pool.{place, pool}
use Rattle.dsql_laws_calls.specs.history.Readers.Transactions.{goes_on, tx_by, tx_ender}
use Rattle.dsql_laws_calls.specs.history.Readers.Unfinished.{is_unfinished, unfinished}
use Rattle.dsql_laws_calls.specs.history.Rules.Ending.{ended_by_call}
use Rattle.dsql_laws_calls.specs.history.Rules.House.{chore_due}
use Rattle.dsql_laws_calls.specs.history.Rules.Line.{is_due}
use Rattle.dsql_laws_calls.specs.history.Rules.Stands.{stand}

-- Is true if the call has no reply, and its permit is in flight or it isn't blocked.
abbrev pub may_move : List Event → List Flight → ℕ → Bool
may_move past flights n = is_unfinished past n && (is_in_flight n flights || not (is_blocked flights n (stand past n)))

-- Holds if no call may move and the layer has no driver call of its own to make. Each call with a driver call
-- in flight has no reply.
pub record HasRunOut (past : List Event) (flights : List Flight) : Type 0 where
  pub known : list_all (λ flight. is_unfinished past flight.call) flights ≡ true
  pub idle : chore_due past ≡ None
  pub still : (n : ℕ) → may_move past flights n ≡ false

-- Is true if this entry ends the transaction at the driver with the given end. Call m ended the transaction, or
-- the layer did if m is 0.
abbrev pub ends_so : ℕ → Option TxEnd → Entry → Bool
ends_so m None e = false
ends_so m (Some end) e = (e.call_no == m) && is_due (Some (ended_by_call end)) e.call

-- Is true if such an answer was heard in the tenure of the transaction that call m ended, or there is no
-- transaction.
abbrev pub was_ended : List Event → ℕ → Option Tx → Bool
was_ended past m None = true
was_ended past m (Some tx) = list_any (ends_so m tx.ended) (heard_in past tx.conn tx.tenure)

-- Holds if each call has its reply, no connection is open, and the journal of every connection that ever was is whole.
-- No transaction goes on. The Commit or the Rollback that ended each transaction was heard. The call that ended it made
-- it. If only the end of the run ended it, the layer made a Rollback.
pub record IsOver (past : List Event) : Type 0 where
  pub replied : unfinished past ≡ []
  pub none_open : open_count (pool past) ≡ 0
  pub nowhere : (c : ℕ) → place past c ≡ None
  pub whole : (c : ℕ) → (journal past c ≡ []) ⊎ IsWhole (journal past c)
  pub none_goes_on : (k : ℕ) → goes_on past k ≡ false
  pub ended : (k : ℕ) → was_ended past (tx_ender past k) (tx_by past k) ≡ true
