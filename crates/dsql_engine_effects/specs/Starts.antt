-- Defines what is kept of a call that enters.
use Rattle.std.specs.Prelude.{◌≡◌, ℕ, true, List, Option, Some, None, bytes_eq, if◌then◌else◌, cond, string_bytes, option_map}
use Rattle.dsql_history.specs.rows.declared.end.RowsEnd.TheVariants as ends
use Rattle.dsql_history.specs.numbered.Numbered.{changed}
use Rattle.dsql_history.specs.rows.OpenRows.{was_made, ended_by, rows_of}
use Rattle.dsql_history.specs.works.HandedOut.{Made}
use Rattle.dsql_history.specs.tx.declared.end.TxEnd.{TxEnd}
use Rattle.dsql_history.specs.Readers.HandedOut.{live, handed_out, rows_entered}
use Rattle.dsql_history.specs.declared.event.Event.{Event}
use Rattle.dsql_history.specs.declared.event.Op.{Op}
use Rattle.dsql_history.specs.declared.work.Work.{Work}
use Rattle.dsql_history.specs.declared.work.Task.TheVariants.{HandOut}
use Rattle.dsql_history.specs.declared.work.Work.TheVariants.{Statement, Begin}
use Rattle.dsql_history.specs.Readers.Course.{caps}
use Rattle.dsql_history.specs.Readers.Calls.{params_at_entry, told_at_entry}
use Rattle.dsql_history.specs.Readers.Decisions.{statement}
use Rattle.dsql_history.specs.Readers.Transactions.{transactions, tx_entered}
use Rattle.dsql_history.specs.Readers.Unfinished.{is_unfinished}
use Rattle.dsql_history.specs.Readers.Works.{tx_maker, works, work_of}
use Rattle.dsql_engine_calls.specs.declared.call.CallRow.{CallRow}
use Rattle.dsql_engine_calls.specs.declared.call.CallStart.{CallStart}
use Rattle.dsql_engine_calls.specs.declared.call.Ending.{Ending}
use Rattle.dsql_engine_effects.specs.Ended.{rows_with_end, txs_with_end}
use Rattle.dsql_engine_effects.specs.Heard.{ended_for}

-- Returns the call that a label has after call n has entered. The first argument is the label that call n
-- makes, if it makes one. The last one is the call that the label had before.
abbrev pub labelled : Option (List ℕ) → ℕ → List ℕ → Option ℕ → Option ℕ
labelled None n label earlier = earlier
labelled (Some made) n label (Some m) = Some m
labelled (Some made) n label None = if bytes_eq made label then Some n else None

-- Returns the rows after the rows of this call were closed, if a call is given.
abbrev pub closed_rows : Option ℕ → Made → Made
closed_rows None rows = rows
closed_rows (Some k) rows = changed (ended_by ends.Close) k rows

abbrev pub AreMade : Option ℕ → Made → Type 0
AreMade None rows = Unit {0}
AreMade (Some k) rows = was_made k rows ≡ true

-- Returns the label of the rows that a call hands out, if it hands out rows.
abbrev pub label_made : Work → Option (List ℕ)
label_made (Statement it (HandOut label)) = Some label
label_made _ = None

-- Returns the label of the transaction that a call begins, if it begins one.
abbrev pub tx_label_made : Work → Option (List ℕ)
tx_label_made (Begin label level read_only) = Some label
tx_label_made _ = None

-- Returns the calls after call n has closed rows, if it closed any.
abbrev pub closed_by : Option ℕ → ℕ → Made → List CallRow → List CallRow
closed_by None n rows calls = calls
closed_by (Some k) n rows calls = ended_for (live (rows_of k rows)) k n calls

-- Returns what a call ends as it enters to end a transaction in this way. That is the transaction that has the label,
-- if its begin has replied.
abbrev pub ending_of : List Event → List ℕ → TxEnd → Option Ending
ending_of past tx by =
    cond (is_unfinished past (tx_maker (works past) tx)) None (Some (record { tx = tx_maker (works past) tx; by = by }))

-- Holds if this is kept of a call that enters with this operation.
pub record Starts (past : List Event) (op : Op) (it : CallStart) : Type 0 where
  pub work : it.work ≡ work_of (works past) op
  pub text : it.text ≡ statement op
  pub params : it.params ≡ params_at_entry (caps past) op
  pub decided : it.decided ≡ told_at_entry past op
  pub label : option_map string_bytes it.label ≡ label_made (work_of (works past) op)
  pub tx_label : option_map string_bytes it.tx_label ≡ tx_label_made (work_of (works past) op)
  pub made : AreMade it.closes (handed_out past)
  pub rows : rows_with_end it.ends (works past) (closed_rows it.closes (handed_out past))
      ≡ rows_entered past op (handed_out past)
  pub txs : txs_with_end it.ends (transactions past) ≡ tx_entered past op (transactions past)
