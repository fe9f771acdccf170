-- Which wire holds the database, and what a call does that another wire's hold refuses. The argument is by cases.
use Rattle.std.proofs.Common.{◌≡◌, ℕ, Bool, true, false, not, Option, Some, None, refl, sym, inl}
use Rattle.dsql_driver.specs.declared.call.DriverCall.{DriverCall}
use Rattle.dsql_driver.specs.declared.call.DriverCall.TheVariants.{Prepare, Exec, Query, Begin}
use Rattle.dsql_driver_session.specs.Session.{SessionState}
use Rattle.sqlite_driver.specs.Connection.{in_transaction}
use Rattle.sqlite_driver.specs.Holder.{is_guarded, is_held_by, is_held_by_other, locked, needs_database}
use Rattle.sqlite_driver.specs.Used.{Does, Uses}
use Rattle.sqlite_driver.specs.declared.connection.SqliteConnection.{SqliteConnection}
use Rattle.sqlite_driver.specs.declared.database.Database.{Database}

-- A wire doesn't hold a database that another wire holds.
pub other-not_held : (who : ℕ) (holder : Option ℕ) → is_held_by_other who holder ≡ true → is_held_by who holder ≡ false
other-not_held who None h = refl
other-not_held who (Some holder) h = not-false _ h where
  not-false : (b : Bool) → not b ≡ true → b ≡ false
  not-false true k = sym k
  not-false false k = refl

-- A database that a wire holds is guarded.
pub held-is_guarded : (who : ℕ) (holder : Option ℕ) (connection : SqliteConnection) → is_held_by who holder ≡ true → is_guarded connection holder ≡ true
held-is_guarded who None connection h = cc
held-is_guarded who (Some holder) connection h = refl

-- A database without an open transaction is guarded.
pub idle-is_guarded : (holder : Option ℕ) (connection : SqliteConnection) → not (in_transaction connection) ≡ true → is_guarded connection holder ≡ true
idle-is_guarded None connection h = h
idle-is_guarded (Some holder) connection h = refl

-- A database stays guarded if SQLite doesn't begin a transaction.
pub stays-is_guarded : (holder : Option ℕ) (old new : SqliteConnection) → is_guarded old holder ≡ true → (in_transaction old ≡ false → in_transaction new ≡ false) → is_guarded new holder ≡ true
stays-is_guarded None old new h mode = rw (mode (not-true _ h)) where
  not-true : (b : Bool) → not b ≡ true → b ≡ false
  not-true true k = sym k
  not-true false k = refl
stays-is_guarded (Some holder) old new h mode = refl

-- A call that is refused because another wire holds the database does nothing there.
locked-Does : (who : ℕ) (call : DriverCall) (session : SessionState) (database : Database) → needs_database call ≡ true → Does who call locked session session database database
locked-Does who (Prepare text) session database h = λ succeeded. cc
locked-Does who (Exec what params) session database h = λ succeeded. cc
locked-Does who (Query what params) session database h = λ succeeded. cc
locked-Does who (Begin level read_only) session database h = λ succeeded. cc
locked-Does who _ session database h = cc

pub locked-Uses : (who : ℕ) (call : DriverCall) (session : SessionState) (database : Database) → needs_database call ≡ true → Uses who call locked session session database database
locked-Uses who call session database h = record {
  does = locked-Does who call session database h;
  held = λ other. refl;
  refused = λ needs other. refl;
  fails = λ needs cut. refl;
  rests = λ needs cut. refl;
  had = λ ends done. cc;
  over = λ ends done. cc;
  holds = inl refl;
}
