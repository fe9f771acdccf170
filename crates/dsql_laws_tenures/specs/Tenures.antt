-- What the laws say of the tenure of a transaction, and of what is live in it.
use Rattle.std.specs.Prelude.{◌≡◌, ◌==◌, ℕ, false, List, [], ◌∷◌, true}
use Rattle.std.specs.List.{list_all, list_any}
use Rattle.dsql_history.specs.driver.Kinds.{is_ending, is_valid}
use Rattle.dsql_history.specs.course.Made.{Exchange, rows_are_over}
use Rattle.dsql_history.specs.journal.declared.entry.Entry.{Entry}
use Rattle.dsql_history.specs.journal.declared.entry.Owner.TheVariants.{Tx}
use Rattle.dsql_history.specs.journal.Journal.{IsJournalPrefix}
use Rattle.dsql_history.specs.journal.Kinds.{is_tx_number}
use Rattle.dsql_history.specs.journal.Readers.{LiveHandle, LiveCursor, begins, of_tenure, last_tenure, was_refused, was_shut, handles_named, cursors_named}
use Rattle.dsql_history.specs.works.Exchanges.{exchanges}
use Rattle.dsql_history.specs.Readers.Lines.{line_among}

-- Returns what the line of call n has exchanged in tenure t.
abbrev pub made_by : ℕ → ℕ → List Entry → List Exchange
made_by n t J = exchanges (line_among n (of_tenure t J))

-- Holds if tenure t is transaction k's in this beginning of a journal.
pub record IsOfTransaction (k t : ℕ) (J : List Entry) : Type 0 where
  pub beginning : IsJournalPrefix J
  pub owner : list_all (λ x. is_tx_number k x.owner) (of_tenure t J) ≡ true

-- Holds if the transaction was begun in that tenure.
pub record IsBegun (k t : ℕ) (J : List Entry) : Type 0 where
  pub tenure : IsOfTransaction k t J
  pub begun : list_any begins (of_tenure t J) ≡ true

-- Holds if the transaction goes on in that tenure of connection c, which is the tenure under way. It was begun
-- and isn't ended, and the connection wasn't tested there and is neither refused nor shut.
pub record GoesOn (c k t : ℕ) (J : List Entry) : Type 0 where
  pub begun : IsBegun k t J
  pub one_connection : list_all (λ x. x.conn == c) J ≡ true
  pub under_way : last_tenure J ≡ t
  pub not_ended : list_any (λ x. is_ending x.call) (of_tenure t J) ≡ false
  pub not_tested : list_any (λ x. is_valid x.call) (of_tenure t J) ≡ false
  pub not_refused : was_refused J ≡ false
  pub not_shut : was_shut J ≡ false

-- Holds if the entry is of that transaction.
pub record IsIn (c k t : ℕ) (e : Entry) : Type 0 where
  pub conn : e.conn ≡ c
  pub tenure : e.tenure ≡ t
  pub owner : e.owner ≡ Tx k
  pub tx : e.tx ≡ k

-- Holds if one cursor of this number is live, and transaction k opened it in tenure t. It isn't over, unless
-- these exchanges ended its rows.
pub record HasLiveCursor (k t rows : ℕ) (made : List Exchange) (J : List Entry) : Type 0 where
  pub cursor : LiveCursor
  pub only : cursors_named rows J ≡ cursor ∷ []
  pub tenure : cursor.tenure ≡ t
  pub tx : cursor.tx ≡ k
  pub not_over : rows_are_over made ≡ false → cursor.over ≡ false

-- Holds if one handle of this number is live, and transaction k prepared it in tenure t.
pub record HasLiveHandle (k t handle : ℕ) (J : List Entry) : Type 0 where
  pub live : LiveHandle
  pub only : handles_named handle J ≡ live ∷ []
  pub tenure : live.tenure ≡ t
  pub owner : live.owner ≡ Tx k
  pub tx : live.tx ≡ k
