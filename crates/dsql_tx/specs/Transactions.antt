-- Defines the transactions that were begun, and what ended each first.
use Rattle.std.specs.Prelude.{ℕ, List, Option, Some, None, Result, Ok, Err, unwrap_or}
use Rattle.dsql_value_numbered.specs.Numbered.{Numbered}
use Rattle.dsql_tx.specs.declared.end.TxEnd.{TxEnd}
use Rattle.dsql_tx.specs.declared.end.TxDone.{TxDone}
use Rattle.dsql_tx.specs.declared.tx.Tx.{Tx}

-- Transactions with the numbers of the calls that began them. The second field says for how many more calls
-- there is memory.
pub record Transactions : Type 0 where
  pub txs : Numbered Tx
  pub spare : ℕ

-- Returns a transaction as it was begun.
abbrev pub begun_on : ℕ → ℕ → Option (List ℕ) → Tx
begun_on conn tenure token = record { conn = conn; tenure = tenure; token = token; ended = None }

-- Returns the transaction ended by this, or by what ended it first.
abbrev pub ended_by : TxEnd → Tx → Tx
ended_by by tx = record tx { ended = Some (unwrap_or tx.ended by) }

-- Returns the result for a call on the transaction: nothing, or an error with what has ended the transaction.
abbrev pub told : Option TxEnd → Result (Unit {0}) TxDone
told None = Ok tt
told (Some by) = Err (record { by = by })

abbrev pub admitted : Tx → Result (Unit {0}) TxDone
admitted tx = told tx.ended
