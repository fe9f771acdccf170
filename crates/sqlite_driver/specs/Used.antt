-- What a driver call of a wire does to the database that the wires share.
use Rattle.std.specs.Prelude.{◌≡◌, ◌⊎◌, ℕ, Bool, true, false, List, Option, Some, None, codes}
use Rattle.dsql_driver.specs.Fits.{is_done}
use Rattle.dsql_driver.specs.declared.answer.DriverAnswer.{DriverAnswer}
use Rattle.dsql_driver.specs.declared.answer.DriverAnswer.TheVariants.{Bad, Result}
use Rattle.dsql_driver.specs.declared.call.DriverCall.{DriverCall}
use Rattle.dsql_driver.specs.declared.call.DriverCall.TheVariants.{Reset, Prepare, Exec, Query, Begin, Commit, Rollback, Shut}
use Rattle.dsql_driver.specs.declared.call.Input.{Input}
use Rattle.dsql_driver.specs.declared.call.Input.TheVariants as input
use Rattle.dsql_driver.specs.declared.call.Level.{Level}
use Rattle.dsql_driver.specs.declared.call.Level.TheVariants.{Default, Serializable}
use Rattle.dsql_driver_session.specs.Calls.{handle_given, opened}
use Rattle.dsql_driver_session.specs.Rows.{ResultSetState}
use Rattle.dsql_driver_session.specs.Session.{SessionState, text_of}
use Rattle.dsql_value.specs.declared.value.Param.{Param}
use Rattle.sqlite_driver.specs.Connection.{Compiles, Finds, Issues, Rests, RollsBack, Runs, in_transaction}
use Rattle.sqlite_driver.specs.Holder.{MayHold, ends_own_transaction, ends_transaction, is_cut_off, is_held_by, is_held_by_other, locked, needs_database}
use Rattle.sqlite_driver.specs.Served.{is_fail, numbers_spent}
use Rattle.sqlite_driver.specs.declared.connection.SqliteConnection.{SqliteConnection}
use Rattle.sqlite_driver.specs.declared.database.Database.{Database}
use Rattle.sqlite_driver.specs.declared.statements.Executed.{Executed}

-- Returns the text that is to be run, if its handle is live.
abbrev pub input_text : Input → SessionState → Option (List ℕ)
input_text (input.Text text) session = Some text
input_text (input.Handle handle) session = text_of handle session

-- Holds if SQLite compiled the text that has the handle now.
pub record Prepares (text : List ℕ) (answer : DriverAnswer) (before : SessionState)
    (old new : SqliteConnection) : Type 0 where
  pub inputs : ℕ
  pub answer_is : answer ≡ (handle_given before text inputs numbers_spent).1
  pub compiles : Compiles text inputs old new

-- Holds if SQLite executed the text, and the answer says what SQLite does.
pub record Execs (what : Input) (params : List Param) (answer : DriverAnswer) (before : SessionState)
    (old new : SqliteConnection) : Type 0 where
  pub text : List ℕ
  pub executed : Executed
  pub text_is : input_text what before ≡ Some text
  pub answer_is : answer ≡ Result executed.last executed.affected
  pub runs : Runs text params executed old new

-- Holds if SQLite answered the text, and the cursor of the answer has the rows and the columns.
pub record Queries (what : Input) (params : List Param) (answer : DriverAnswer) (before after : SessionState)
    (old new : SqliteConnection) : Type 0 where
  pub text : List ℕ
  pub set : ResultSetState
  pub text_is : input_text what before ≡ Some text
  pub answer_is : answer ≡ (opened before set numbers_spent).1
  pub after_is : after ≡ (opened before set numbers_spent).0
  pub finds : Finds text params set old new

-- Is true if SQLite's transactions have this isolation.
abbrev pub is_level : Level → Bool
is_level Default = true
is_level Serializable = true
is_level _ = false

-- Holds if SQLite began a transaction, which may write and has the isolation that was asked for.
pub record Begins (level : Level) (read_only : Bool) (old new : SqliteConnection) : Type 0 where
  pub level_is : is_level level ≡ true
  pub writes : read_only ≡ false
  pub issues : Issues (codes "BEGIN") true old new

-- Holds if a wire that held the database rolled back, or tried to. After Bad its transaction is open still, and it
-- holds the database on. A wire that didn't hold the database left it as it was.
pub record Releases (who : ℕ) (answer : DriverAnswer) (old new : Database) : Type 0 where
  pub idle : is_held_by who old.holder ≡ false → new ≡ old
  pub rolls_back : is_held_by who old.holder ≡ true → RollsBack old.connection new.connection
  pub stays_open : answer ≡ Bad → in_transaction new.connection ≡ true
  pub holds_on : answer ≡ Bad → is_held_by who new.holder ≡ true

-- Holds if SQLite did for the call what the answer says. Of a call that needs SQLite and fails, this says nothing. The
-- other calls leave the database as it was.
abbrev pub Does : ℕ → DriverCall → DriverAnswer → SessionState → SessionState → Database → Database → Type 0
Does who (Prepare text) answer before after old new =
    is_fail answer ≡ false → Prepares text answer before old.connection new.connection
Does who (Exec what params) answer before after old new =
    is_fail answer ≡ false → Execs what params answer before old.connection new.connection
Does who (Query what params) answer before after old new =
    is_fail answer ≡ false → Queries what params answer before after old.connection new.connection
Does who (Begin level read_only) answer before after old new =
    is_fail answer ≡ false → Begins level read_only old.connection new.connection
Does who Commit answer before after old new =
    is_fail answer ≡ false → Issues (codes "COMMIT") true old.connection new.connection
Does who Rollback answer before after old new =
    is_fail answer ≡ false → RollsBack old.connection new.connection
Does who Reset answer before after old new = Releases who answer old new
Does who Shut answer before after old new = Releases who answer old new
Does who _ answer before after old new = new ≡ old

-- Holds if a call of this wire, which was answered so, used the database as it may. While another wire holds the
-- database, it stays as it was, and a call that needs it is refused. So is one of a wire whose transaction a failure
-- ended, until the wire ends the transaction too. Only a wire that holds the database ends a transaction, and leaves
-- the database to other wires then.
pub record Uses (who : ℕ) (call : DriverCall) (answer : DriverAnswer) (before after : SessionState)
    (old new : Database) : Type 0 where
  pub does : Does who call answer before after old new
  pub held : is_held_by_other who old.holder ≡ true → new ≡ old
  pub refused : needs_database call ≡ true → is_held_by_other who old.holder ≡ true → answer ≡ locked
  pub fails : needs_database call ≡ true → is_cut_off who old.connection old.holder ≡ true → is_fail answer ≡ true
  pub rests : needs_database call ≡ true → is_cut_off who old.connection old.holder ≡ true → new ≡ old
  pub had : ends_own_transaction call ≡ true → is_done answer ≡ true → is_held_by who old.holder ≡ true
  pub over : ends_transaction call ≡ true → is_done answer ≡ true → is_held_by who new.holder ≡ false
  pub holds : MayHold who old.holder new.holder

-- Holds if a call used the database as it may. If a fault takes the call's place, the database stays as it was.
abbrev pub UsesUnless : Option DriverAnswer → ℕ → DriverCall → DriverAnswer → SessionState → SessionState → Database
    → Database → Type 0
UsesUnless None who call answer before after old new = Uses who call answer before after old new
UsesUnless (Some fault) who call answer before after old new = new ≡ old

-- Holds if nothing was done in the database. SQLite may have compiled a text.
abbrev pub LeavesAlone : Database → Database → Type 0
LeavesAlone old new = (new ≡ old) ⊎ ((new.holder ≡ old.holder) × Rests old.connection new.connection)
