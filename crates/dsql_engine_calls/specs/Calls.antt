-- The recorded rows of calls, compared with the history.
use Rattle.std.specs.Prelude.{ℕ, Bool, ◌≡◌, true, List, map, slice_set, slice_index_or, Option, Some, None}
use Rattle.dsql_history.specs.driver.declared.call.Level.{Level}
use Rattle.dsql_history.specs.declared.record.Try.{Try}
use Rattle.dsql_engine_calls.specs.Tried.{untried, kept, one_more}
use Rattle.dsql_history.specs.declared.event.Event.{Event}
use Rattle.dsql_history.specs.declared.work.Work.{Work}
use Rattle.dsql_history.specs.declared.work.Work.TheVariants.{Begin, End, Fetch, Close, Look}
use Rattle.dsql_history.specs.Readers.Calls as told
use Rattle.dsql_history.specs.Readers.HandedOut as given
use Rattle.dsql_history.specs.Readers.Transactions as begun
use Rattle.dsql_history.specs.Readers.Tries.{tries}
use Rattle.dsql_history.specs.Readers.Unfinished.{is_unfinished}
use Rattle.dsql_history.specs.Readers.Works.{borrower_in, scope}
use Rattle.dsql_history.specs.Readers.Works as kinds
use Rattle.dsql_engine_calls.specs.declared.call.CallRow.{CallRow}

-- The row of no call: there is no call 0.
abbrev pub nobody : CallRow
nobody = record { call = told.nobody; work = Look; tried = untried; ender = 0; tx_ender = 0 }

-- Returns the row of call n.
abbrev pub row_at : List CallRow → ℕ → CallRow
row_at rows n = slice_index_or rows n nobody

-- Returns the rows with that of call n changed.
abbrev pub with_row : ℕ → (CallRow → CallRow) → List CallRow → List CallRow
with_row n change rows = slice_set rows n (change (row_at rows n))

-- Returns the row with one more try.
abbrev pub with_try : Try → CallRow → CallRow
with_try it row = record row { tried = one_more it row.tried }

abbrev pub with_ender : ℕ → CallRow → CallRow
with_ender n row = record row { ender = n }

abbrev pub with_tx_ender : ℕ → CallRow → CallRow
with_tx_ender n row = record row { tx_ender = n }

-- Returns the call on whose rows a call with this work works, if it works on rows.
abbrev pub rows_worked : Work → Option ℕ
rows_worked (Fetch k) = Some k
rows_worked (Close k) = Some k
rows_worked _ = None

-- Returns the call whose transaction a call with this work ends, if it ends one.
abbrev pub tx_worked : Work → Option ℕ
tx_worked (End k) = Some k
tx_worked _ = None

-- Returns the level of the transaction that a call with this work begins, if it begins one, and whether that
-- transaction only reads.
abbrev pub options_of : Work → Option (Level × Bool)
options_of (Begin label level read_only) = Some (level, read_only)
options_of _ = None

-- Returns the call to which the connection is lent that call n, with this work, uses.
abbrev pub borrower_as : List CallRow → Work → ℕ → ℕ
borrower_as rows (Fetch k) n = borrower_in (scope (row_at rows k).work) k
borrower_as rows (Close k) n = borrower_in (scope (row_at rows k).work) k
borrower_as rows (End k) n = k
borrower_as rows it n = borrower_in (scope it) n

abbrev pub borrower : List CallRow → ℕ → ℕ
borrower rows n = borrower_as rows (row_at rows n).work n

-- Holds if the rows record the calls of the history by their numbers. A call's tries count as long as it has no
-- reply.
pub record KeepsCalls (past : List Event) (rows : List CallRow) : Type 0 where
  pub calls : map (λ row. row.call) rows ≡ told.calls past
  pub works : map (λ row. row.work) rows ≡ kinds.works past
  pub tried : (n : ℕ) → is_unfinished past n ≡ true → (row_at rows n).tried ≡ kept (tries past n)
  pub ender : (n : ℕ) → (row_at rows n).ender ≡ given.ender past n
  pub tx_ender : (n : ℕ) → (row_at rows n).tx_ender ≡ begun.tx_ender past n
