-- The wire that holds the database: its transaction is open.
use Rattle.std.specs.Prelude.{◌≡◌, ◌⊎◌, ℕ, ◌==◌, Bool, true, false, not, ◌&&◌, Option, Some, None, codes}
use Rattle.dsql_driver.specs.declared.answer.DriverAnswer.{DriverAnswer}
use Rattle.dsql_driver.specs.declared.answer.DriverAnswer.TheVariants.{Fail}
use Rattle.dsql_driver.specs.declared.call.DriverCall.{DriverCall}
use Rattle.dsql_driver.specs.declared.call.DriverCall.TheVariants.{Reset, Prepare, Exec, Query, Begin, Commit, Rollback, Shut}
use Rattle.sqlite_driver.specs.Connection.{in_transaction}
use Rattle.sqlite_driver.specs.declared.connection.SqliteConnection.{SqliteConnection}

-- Is true if this wire holds the database.
abbrev pub is_held_by : ℕ → Option ℕ → Bool
is_held_by who None = false
is_held_by who (Some holder) = holder == who

-- Is true if another wire than this one holds the database.
abbrev pub is_held_by_other : ℕ → Option ℕ → Bool
is_held_by_other who None = false
is_held_by_other who (Some holder) = not (holder == who)

-- Is true if a wire holds the database, unless no transaction is open.
abbrev pub is_guarded : SqliteConnection → Option ℕ → Bool
is_guarded connection None = not (in_transaction connection)
is_guarded connection (Some holder) = true

-- Is true if this wire holds the database though no transaction is open: a failure ended it.
abbrev pub is_cut_off : ℕ → SqliteConnection → Option ℕ → Bool
is_cut_off who connection holder = is_held_by who holder && not (in_transaction connection)

-- Holds if the same wire holds the database as before, or none, or this one.
abbrev pub MayHold : ℕ → Option ℕ → Option ℕ → Type 0
MayHold who old new = (new ≡ old) ⊎ ((new ≡ None) ⊎ (new ≡ Some who))

-- Is true if the call reads or writes the database.
abbrev pub needs_database : DriverCall → Bool
needs_database (Prepare text) = true
needs_database (Exec input params) = true
needs_database (Query input params) = true
needs_database (Begin level read_only) = true
needs_database _ = false

-- Is true if the call ends the wire's transaction when it is answered Done.
abbrev pub ends_transaction : DriverCall → Bool
ends_transaction Reset = true
ends_transaction Commit = true
ends_transaction Rollback = true
ends_transaction Shut = true
ends_transaction _ = false

-- Is true if the call ends the transaction that its wire began.
abbrev pub ends_own_transaction : DriverCall → Bool
ends_own_transaction Commit = true
ends_own_transaction Rollback = true
ends_own_transaction _ = false

-- The answer while another wire holds the database.
abbrev pub locked : DriverAnswer
locked = Fail (codes "database is locked")
