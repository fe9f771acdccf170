-- Defines what the table of transactions promises, as laws.
use Rattle.std.specs.Prelude.{◌≡◌, ℕ, List, [], ◌∷◌, ◌++◌, Option, Some, None, Ok, Err, fold}
use Rattle.dsql_value_numbered.specs.Numbered.{Numbered, thing_of, changed, all_changed}
use Rattle.dsql_tx.specs.declared.end.TxEnd.{TxEnd}
use Rattle.dsql_tx.specs.declared.end.TxEnd.TheVariants.{EndOfRun}
use Rattle.dsql_tx.specs.declared.tx.Tx.{Tx}
use Rattle.dsql_tx.specs.Transactions.{begun_on, ended_by, admitted}

-- A change of the table: a transaction is begun, one is ended, or the end of the run ends all.
pub data Change : Type 0 where
  Begins : ℕ → Tx → Change
  Ends : ℕ → TxEnd → Change
  EndsAll : Change

abbrev pub after : Numbered Tx → Change → Numbered Tx
after txs (Begins n tx) = txs ++ (n, tx) ∷ []
after txs (Ends n by) = changed (ended_by by) n txs
after txs EndsAll = all_changed (ended_by EndOfRun) txs

-- Returns what ended the transaction, if one was begun and something has ended it.
abbrev pub end_in : Option Tx → Option TxEnd
end_in None = None
end_in (Some tx) = tx.ended

abbrev pub end_of : ℕ → Numbered Tx → Option TxEnd
end_of n txs = end_in (thing_of n txs)

-- Holds if the first end of a transaction stays, whatever is begun and ended later.
pub record FirstEndStays : Type 0 where
  pub live : (conn tenure : ℕ) (token : Option (List ℕ)) → admitted (begun_on conn tenure token) ≡ Ok tt
  pub first : (by : TxEnd) (tx : Tx) → tx.ended ≡ None → admitted (ended_by by tx) ≡ Err (record { by = by })
  pub stays : (by later : TxEnd) (tx : Tx) → ended_by later (ended_by by tx) ≡ ended_by by tx
  pub whatever_comes : (n : ℕ) (by : TxEnd) (txs : Numbered Tx) (later : List Change) → end_of n txs ≡ Some by
      → end_of n (fold after txs later) ≡ Some by

-- Holds if an end changes nothing of a transaction except what ended it.
pub record EndsAlone : Type 0 where
  pub conn : (by : TxEnd) (tx : Tx) → (ended_by by tx).conn ≡ tx.conn
  pub tenure : (by : TxEnd) (tx : Tx) → (ended_by by tx).tenure ≡ tx.tenure
  pub token : (by : TxEnd) (tx : Tx) → (ended_by by tx).token ≡ tx.token
