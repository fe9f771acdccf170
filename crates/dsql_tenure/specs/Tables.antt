-- What a judge keeps: each table equals a reader of the journal.
use Rattle.std.specs.Prelude.{◌≡◌, ℕ, ◌+◌, ◌≤◌, ◌==◌, IsTrue, List, length, map, nat_eq, vec_len, vec_capacity}
use Rattle.std.specs.List.{list_all}
use Rattle.indexmap.specs.IndexSet.{contains, spare, index_set_len}
use Rattle.dsql_tenure_journal.specs.declared.entry.Entry.{Entry}
use Rattle.dsql_tenure_journal.specs.Readers as told
use Rattle.dsql_tenure_journal.specs.Readers.{LiveHandle, LiveCursor}
use Rattle.dsql_tenure_journal.specs.Journal.{IsJournalPrefix}
use Rattle.dsql_tenure.specs.SoFar as tenures
use Rattle.dsql_tenure.specs.Open.{open_in}
use Rattle.dsql_tenure_asked.specs.declared.live.Handle.{Handle}
use Rattle.dsql_tenure_asked.specs.declared.live.Cursor.{Cursor}
use Rattle.dsql_tenure.specs.declared.tables.Tables.{Tables}

-- Returns the entries so far, the newest first.
abbrev pub past : Tables → List Entry
past tables = tables.past.items

-- Returns what the judge keeps of a live handle.
abbrev pub kept_handle : LiveHandle → Handle
kept_handle handle = record { number = handle.number; tenure = handle.tenure; owner = handle.owner; tx = handle.tx }

-- Returns what the judge keeps of a live cursor.
abbrev pub kept_cursor : LiveCursor → Cursor
kept_cursor cursor =
    record {
      number = cursor.number;
      tenure = cursor.tenure;
      tx = cursor.tx;
      columns = cursor.columns;
      over = cursor.over;
    }

-- Holds if each table has room for the entries that memory was taken for.
pub record HasRoom (tables : Tables) : Type 0 where
  pub handles : vec_len tables.handles + tables.room ≤ vec_capacity tables.handles
  pub cursors : vec_len tables.cursors + tables.room ≤ vec_capacity tables.cursors
  pub unended : vec_len tables.unended + tables.room ≤ vec_capacity tables.unended
  pub begun : tables.room ≤ spare tables.begun

pub record Keeps (tables : Tables) : Type 0 where
  pub prefix : IsJournalPrefix (past tables)
  pub one : IsTrue (list_all (λ x. x.conn == tables.conn) (past tables))
  pub tenure : tables.tenure ≡ told.last_tenure (past tables)
  pub so_far : tables.so_far ≡ tenures.so_far (told.of_tenure (told.last_tenure (past tables)) (past tables))
  pub refused : tables.refused ≡ told.was_refused (past tables)
  pub shut : tables.shut ≡ told.was_shut (past tables)
  pub bad_tenure : tables.bad_tenure ≡ told.bad_tenure (past tables)
  pub invalid : tables.invalid ≡ told.went_invalid (past tables)
  pub handles : tables.handles.items ≡ map kept_handle (told.handles (past tables))
  pub cursors : tables.cursors.items ≡ map kept_cursor (told.cursors (past tables))
  pub unended : tables.unended.items ≡ open_in (past tables)
  pub begun : (n : ℕ) → contains nat_eq tables.begun n ≡ told.has n (told.begun (past tables))
  pub count : index_set_len tables.begun ≡ length (told.begun (past tables))
  pub room : HasRoom tables

-- Holds if the tables keep what the judge carries from one entry to the next and doesn't look into.
unfoldable pub Stands : Tables → Type 0
Stands tables = Keeps tables
