-- Defines the transactions that calls began, and what and who ended each first.
use Rattle.std.specs.Prelude.{ℕ, Bool, not, ◌&&◌, cond, List, [], ◌∷◌, ◌++◌, Option, Some, None, is_some}
use Rattle.dsql_history_work.specs.driver.Kinds.{is_begin}
use Rattle.dsql_history_work.specs.driver.Fits.{is_done}
use Rattle.dsql_history_work.specs.journal.declared.entry.Entry.{Entry}
use Rattle.dsql_value_numbered.specs.Numbered.{Numbered, thing_of, changed, all_changed}
use Rattle.dsql_tx.specs.declared.end.TxEnd.{TxEnd}
use Rattle.dsql_tx.specs.declared.end.TxEnd.TheVariants as ends
use Rattle.dsql_tx.specs.declared.tx.Tx.{Tx}
use Rattle.dsql_tx.specs.Transactions.{begun_on, ended_by}
use Rattle.dsql_history.specs.declared.event.Event.{Event}
use Rattle.dsql_history.specs.declared.event.Event.TheVariants.{Entered, Heard, Ended}
use Rattle.dsql_history.specs.declared.event.Op.{Op}
use Rattle.dsql_history.specs.declared.event.Op.TheVariants.{Commit, Rollback}
use Rattle.dsql_history.specs.Readers.Unfinished.{is_unfinished}
use Rattle.dsql_history.specs.Readers.Works.{works, tx_maker}

-- Returns the transactions after a call enters that ends the transaction with this label. It ends it only if
-- its begin has replied.
abbrev pub ends_as : List Event → List ℕ → TxEnd → Numbered Tx → Numbered Tx
ends_as before label by txs =
    cond (is_unfinished before (tx_maker (works before) label)) txs
    (changed (ended_by by) (tx_maker (works before) label) txs)

abbrev pub tx_entered : List Event → Op → Numbered Tx → Numbered Tx
tx_entered before (Commit tx) txs = ends_as before tx ends.Commit txs
tx_entered before (Rollback tx) txs = ends_as before tx ends.Rollback txs
tx_entered before op txs = txs

-- Returns the transactions after this entry. A Begin that is done begins the transaction of its call.
abbrev pub tx_heard : Entry → Numbered Tx → Numbered Tx
tx_heard e txs = cond (is_begin e.call && is_done e.answer) (txs ++ (e.call_no, begun_on e.conn e.tenure None) ∷ []) txs

-- Returns the transactions with the numbers of the calls that began them. A commit or a rollback ends one as it
-- enters, and the end of the run ends all.
abbrev pub transactions : List Event → Numbered Tx
transactions [] = []
transactions (Entered client n op ∷ before) = tx_entered before op (transactions before)
transactions (Heard e ∷ before) = tx_heard e (transactions before)
transactions (Ended ∷ before) = all_changed (ended_by ends.EndOfRun) (transactions before)
transactions (_ ∷ before) = transactions before

-- Returns the transaction that call k began, if any.
abbrev pub tx_by : List Event → ℕ → Option Tx
tx_by before k = thing_of k (transactions before)

-- Returns what ended the transaction, if there is one and something has ended it.
abbrev pub end_of : Option Tx → Option TxEnd
end_of None = None
end_of (Some tx) = tx.ended

abbrev pub tx_end : List Event → ℕ → Option TxEnd
tx_end before k = end_of (tx_by before k)

-- Is true if call k began a transaction.
abbrev pub is_begun : List Event → ℕ → Bool
is_begun before k = is_some (tx_by before k)

-- Is true if call k began a transaction and something has ended it.
abbrev pub is_over : List Event → ℕ → Bool
is_over before k = is_some (tx_end before k)

-- Is true if call k began a transaction and nothing has ended it.
abbrev pub goes_on : List Event → ℕ → Bool
goes_on before k = is_begun before k && not (is_over before k)

-- Returns the call of an event that ends transactions, 0 for the end of the run.
abbrev pub ending_call : Event → ℕ
ending_call (Entered client n op) = n
ending_call _ = 0

-- Returns the call that ended transaction k as it entered, 0 if no call did. What `tx_end` returns says whether the
-- run's end ended it or nothing has.
abbrev pub tx_ender : List Event → ℕ → ℕ
tx_ender [] k = 0
tx_ender (e ∷ before) k = cond (goes_on before k) (cond (goes_on (e ∷ before) k) 0 (ending_call e)) (tx_ender before k)
