-- What the laws say of a connection's journal: it is open, it is quiet between two tenures, and one tenure has it
-- alone.
use Rattle.std.specs.Prelude.{◌≡◌, ◌==◌, ◌≤◌, ℕ, true, false, List, []}
use Rattle.std.specs.List.{list_all}
use Rattle.dsql_history.specs.driver.Fits.{is_invalid}
use Rattle.dsql_history.specs.driver.Kinds.{is_bad}
use Rattle.dsql_history.specs.journal.declared.entry.Entry.{Entry}
use Rattle.dsql_history.specs.journal.Journal.{IsJournalPrefix}
use Rattle.dsql_history.specs.journal.Kinds.{◌⇒◌}
use Rattle.dsql_history.specs.journal.Readers.{is_empty, last_tenure, handles, cursors, was_refused, was_shut, went_bad, went_invalid}
use Rattle.dsql_history.specs.journal.Tenure.{is_whole_tenure}

-- Holds if connection c was opened, and isn't refused or shut.
pub record IsOpen (c : ℕ) (J : List Entry) : Type 0 where
  pub beginning : IsJournalPrefix J
  pub one_connection : list_all (λ x. x.conn == c) J ≡ true
  pub opened : is_empty J ≡ false
  pub not_refused : was_refused J ≡ false
  pub not_shut : was_shut J ≡ false

-- Holds if the connection is open, and nothing is left of its tenures. Each tenure is whole, so each
-- transaction that was begun there has ended, and nothing is live. No answer was Bad, and no test failed.
pub record IsQuiet (c : ℕ) (J : List Entry) : Type 0 where
  pub is_open : IsOpen c J
  pub whole : (n : ℕ) → is_whole_tenure n J ≡ true
  pub no_handles : handles J ≡ []
  pub no_cursors : cursors J ≡ []
  pub not_bad : went_bad J ≡ false
  pub not_invalid : went_invalid J ≡ false

-- Holds if the connection is open, and tenure t, its last one or a later one, has it alone, whatever its owner.
-- Each other tenure is whole, and what is live is of tenure t. In no other tenure was an answer Bad or did a
-- test fail.
pub record IsAlone (c t : ℕ) (J : List Entry) : Type 0 where
  pub is_open : IsOpen c J
  pub rising : last_tenure J ≤ t
  pub whole_elsewhere : (n : ℕ) → (n == t) ≡ false → is_whole_tenure n J ≡ true
  pub handles_here : list_all (λ x. x.tenure == t) (handles J) ≡ true
  pub cursors_here : list_all (λ x. x.tenure == t) (cursors J) ≡ true
  pub bad_here : list_all (λ x. is_bad x.answer ⇒ (x.tenure == t)) J ≡ true
  pub invalid_here : list_all (λ x. is_invalid x.answer ⇒ (x.tenure == t)) J ≡ true
