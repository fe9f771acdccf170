-- What the end of a transaction, and the end of the run, do to the calls, the rows and the transactions.
use Rattle.std.specs.Prelude.{ℕ, zero, suc, min, nat_le, Bool, true, false, not, ◌&&◌, List, map, length, slice_index_or, Option, Some, None, is_some}
use Rattle.dsql_history.specs.numbered.Numbered.{Numbered, thing_of, changed}
use Rattle.dsql_history.specs.rows.declared.end.RowsEnd.TheVariants as ends
use Rattle.dsql_history.specs.rows.OpenRows.{rows_of}
use Rattle.dsql_history.specs.rows.OpenRows as open_rows
use Rattle.dsql_history.specs.tx.declared.tx.Tx.{Tx}
use Rattle.dsql_history.specs.tx.Transactions.{ended_by}
use Rattle.dsql_history.specs.works.HandedOut.{Made}
use Rattle.dsql_history.specs.Readers.HandedOut.{live}
use Rattle.dsql_engine_calls.specs.Tried.{most_counted}
use Rattle.dsql_history.specs.declared.work.Scope.{Scope}
use Rattle.dsql_history.specs.declared.work.Scope.TheVariants as scopes
use Rattle.dsql_history.specs.declared.work.Work.{Work}
use Rattle.dsql_history.specs.declared.work.Work.TheVariants.{Look}
use Rattle.dsql_history.specs.Readers.Transactions.{end_of}
use Rattle.dsql_history.specs.Readers.Works.{hands_out_in, scope}
use Rattle.dsql_engine_calls.specs.declared.call.CallRow.{CallRow}
use Rattle.dsql_engine_calls.specs.declared.call.Ending.{Ending}
use Rattle.dsql_engine_calls.specs.Calls.{with_row, with_tx_ender}
use Rattle.dsql_engine_effects.specs.Heard.{ended_for}

-- Returns the works of the calls.
abbrev pub works_of : List CallRow → List Work
works_of calls = map (λ row. row.work) calls

-- Returns how many of the works have a number.
abbrev pub numbered : List Work → ℕ
numbered works = min (length works) most_counted

-- Is true if the scope is a transaction.
abbrev pub is_inside : Scope → Bool
is_inside scopes.Db = false
is_inside (scopes.Held k) = true

abbrev pub works_inside : Work → Bool
works_inside work = is_inside (scope work)

-- Is true if call i has such work and isn't before the call `from`.
abbrev pub is_such : (Work → Bool) → ℕ → List Work → ℕ → Bool
is_such such from works i = nat_le from i && such (slice_index_or works i Look)

-- Returns the rows after those of call i were ended with their transaction, if they were.
abbrev pub ended_if : Bool → ℕ → Made → Made
ended_if true i rows = changed (open_rows.ended_by ends.TxEnded) i rows
ended_if false i rows = rows

-- Returns the rows after those of calls with such work were ended with their transaction, from one call on and
-- below another.
abbrev pub rows_ended : (Work → Bool) → ℕ → List Work → ℕ → Made → Made
rows_ended such from works zero rows = rows
rows_ended such from works (suc i) rows = ended_if (is_such such from works i) i (rows_ended such from works i rows)

-- Returns the calls after call n has ended those of these rows that were live.
abbrev pub calls_ended : (Work → Bool) → ℕ → List Work → ℕ → Made → ℕ → List CallRow → List CallRow
calls_ended such from works n rows zero calls = calls
calls_ended such from works n rows (suc i) calls =
    ended_for (is_such such from works i && live (rows_of i rows)) i n (calls_ended such from works n rows i calls)

-- Is true if the transaction was begun and nothing has ended it.
abbrev pub going : Option Tx → Bool
going tx = is_some tx && not (is_some (end_of tx))

-- Returns the calls after call n has ended the transaction that call k began, if it has.
abbrev pub tx_ended_for : Bool → ℕ → ℕ → List CallRow → List CallRow
tx_ended_for true k n calls = with_row k (with_tx_ender n) calls
tx_ended_for false k n calls = calls

-- Returns the transactions after a call has ended one in this way, if it ends one. The next two definitions do
-- the same for the rows and for the calls.
abbrev pub txs_with_end : Option Ending → Numbered Tx → Numbered Tx
txs_with_end None txs = txs
txs_with_end (Some it) txs = changed (ended_by it.by) it.tx txs

abbrev pub rows_with_end : Option Ending → List Work → Made → Made
rows_with_end None works rows = rows
rows_with_end (Some it) works rows = rows_ended (hands_out_in it.tx) it.tx works (numbered works) rows

abbrev pub calls_with_end : Option Ending → ℕ → Numbered Tx → Made → List CallRow → List CallRow
calls_with_end None n txs rows calls = calls
calls_with_end (Some it) n txs rows calls =
    calls_ended (hands_out_in it.tx) it.tx (works_of calls) n rows (numbered (works_of calls))
    (tx_ended_for (going (thing_of it.tx txs)) it.tx n calls)
