-- What a statement does to the connection to SQLite, by the definitions of the crate sqlite. This is said if the disk
-- gave back what was written to it, as memory always does, and of parameters that stand in their places.
use Rattle.std.specs.Prelude.{◌≡◌, ◌⊎◌, ℕ, ℤ, pos, min, Bool, true, false, not, List, [], length, is_some, Result, Ok, is_ok, codes}
use Rattle.std.specs.List.{list_all}
use Rattle.dsql_driver_session.specs.Rows.{ResultSetState}
use Rattle.dsql_value.specs.declared.value.Param.{Param}
use Rattle.sqlite.specs.Files.{over_files}
use Rattle.sqlite.specs.Held.{Held, state}
use Rattle.sqlite.specs.Listing.{understood}
use Rattle.sqlite.specs.Outline.{Outline}
use Rattle.sqlite.specs.State.{Executes, HasCleanDisk, IsUnchanged, Shown}
use Rattle.sqlite.specs.Steps.{Outlines, over_memory}
use Rattle.sqlite.specs.declared.error.Error.{Error}
use Rattle.sqlite_trees.specs.declared.store.Store.{Ghosts}
use Rattle.sqlite_value.specs.Order.{Row}
use Rattle.sqlite_driver.specs.Values.{ShowsRows, sql_values}
use Rattle.sqlite_driver.specs.declared.connection.SqliteConnection.{SqliteConnection}
use Rattle.sqlite_driver.specs.declared.connection.SqliteConnection.TheVariants.{Memory, File}
use Rattle.sqlite_driver.specs.declared.statements.Executed.{Executed}

-- Is true if the parameter stands for the input in its place: it has no name.
abbrev pub is_by_place : Param → Bool
is_by_place param = not (is_some param.name)

-- Is true if all parameters stand for the inputs in their places.
abbrev pub are_by_place : List Param → Bool
are_by_place params = list_all is_by_place params

-- Returns the number of rows that a result has, which is at most the largest one.
abbrev pub count_of : ℕ → ℤ
count_of rows = pos (min rows 9223372036854775807)

module _ {S : Type 0} (g : Ghosts S) where
  -- Holds if SQLite compiled the text, which has this many inputs, and did no more.
  pub record Compiled (text : List ℕ) (inputs : ℕ) (old new : Held S) : Type 0 where
    pub outline : Outline
    pub outlines : Outlines (understood (state g old).now.schema text) outline
    pub inputs_are : inputs ≡ length outline.parameters
    pub unchanged : IsUnchanged (state g old) (state g new)

  -- Holds if SQLite executed the text with these parameters, and says this of it.
  pub record Ran (text : List ℕ) (params : List Param) (executed : Executed) (old new : Held S) : Type 0 where
    pub changed : ℕ
    pub executes : Executes text (sql_values params) (state g old) (state g new) (Ok changed)
    pub last_is : executed.last ≡ (state g new).last_rowid
    pub affected_is : executed.affected ≡ count_of changed

  -- Holds if SQLite answered the text with these rows and columns. It was compiled before.
  pub record Found (text : List ℕ) (params : List Param) (set : ResultSetState) (old new : Held S) : Type 0 where
    pub compiled : Held S
    pub outline : Outline
    pub rows : List Row
    pub unchanged : IsUnchanged (state g old) (state g compiled)
    pub outlines : Outlines (understood (state g old).now.schema text) outline
    pub shown : Shown text (sql_values params) (state g compiled) (state g new) rows
    pub columns_are : set.columns ≡ outline.columns
    pub rows_are : ShowsRows rows set.rows

  -- Holds if SQLite ran the text without parameters, and did it or failed.
  pub record Issued (text : List ℕ) (is_done : Bool) (old new : Held S) : Type 0 where
    pub outcome : Result ℕ Error
    pub executes : Executes text [] (state g old) (state g new) outcome
    pub done_is : is_ok outcome ≡ is_done

  -- Holds if SQLite did nothing. It may have compiled a text.
  abbrev pub RestsOver : Held S → Held S → Type 0
  RestsOver old new = HasCleanDisk (state g new) → IsUnchanged (state g old) (state g new)

  abbrev pub CompilesOver : List ℕ → ℕ → Held S → Held S → Type 0
  CompilesOver text inputs old new = HasCleanDisk (state g new) → Compiled text inputs old new

  abbrev pub RunsOver : List ℕ → List Param → Executed → Held S → Held S → Type 0
  RunsOver text params executed old new =
      HasCleanDisk (state g new) → are_by_place params ≡ true → Ran text params executed old new

  abbrev pub FindsOver : List ℕ → List Param → ResultSetState → Held S → Held S → Type 0
  FindsOver text params set old new =
      HasCleanDisk (state g new) → are_by_place params ≡ true → Found text params set old new

  abbrev pub IssuesOver : List ℕ → Bool → Held S → Held S → Type 0
  IssuesOver text is_done old new = HasCleanDisk (state g new) → Issued text is_done old new

-- Holds if the relation holds between what the connections hold, which are over the same kind of store.
abbrev pub Between : ((S : Type 0) → Ghosts S → Held S → Held S → Type 0) → SqliteConnection → SqliteConnection → Type 0
Between R (Memory old) (Memory new) = R _ over_memory old new
Between R (File old) (File new) = R _ over_files old new
Between R _ _ = ⊥

-- Holds if SQLite did nothing. It may have compiled a text.
abbrev pub Rests : SqliteConnection → SqliteConnection → Type 0
Rests old new = Between (λ S g. RestsOver g) old new

-- Holds if SQLite compiled the text, which has this many inputs, and did no more.
abbrev pub Compiles : List ℕ → ℕ → SqliteConnection → SqliteConnection → Type 0
Compiles text inputs old new = Between (λ S g. CompilesOver g text inputs) old new

-- Holds if SQLite executed the text with these parameters, and says this of it.
abbrev pub Runs : List ℕ → List Param → Executed → SqliteConnection → SqliteConnection → Type 0
Runs text params executed old new = Between (λ S g. RunsOver g text params executed) old new

-- Holds if SQLite answered the text, with these parameters, with these rows and columns.
abbrev pub Finds : List ℕ → List Param → ResultSetState → SqliteConnection → SqliteConnection → Type 0
Finds text params set old new = Between (λ S g. FindsOver g text params set) old new

-- Holds if SQLite ran the text without parameters, and did it or failed.
abbrev pub Issues : List ℕ → Bool → SqliteConnection → SqliteConnection → Type 0
Issues text is_done old new = Between (λ S g. IssuesOver g text is_done) old new

-- Is true if a transaction is open.
abbrev pub in_transaction : SqliteConnection → Bool
in_transaction (Memory connection) = connection.in_transaction
in_transaction (File connection) = connection.in_transaction

-- Holds if no transaction was open and nothing was done, or SQLite rolled back.
abbrev pub RollsBack : SqliteConnection → SqliteConnection → Type 0
RollsBack old new =
    ((in_transaction old ≡ false) × (new ≡ old)) ⊎ ((is_done : Bool) × Issues (codes "ROLLBACK") is_done old new)
