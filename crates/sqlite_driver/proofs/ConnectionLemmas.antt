-- What a statement does to the connection, over memory and over a file. The argument is by cases.
use Rattle.std.proofs.Common.{ℕ, List}
use Rattle.sqlite_driver.specs.Connection.{Compiles, Rests}
use Rattle.sqlite_driver.specs.declared.connection.SqliteConnection.{SqliteConnection}
use Rattle.sqlite_driver.specs.declared.connection.SqliteConnection.TheVariants.{Memory, File}

-- SQLite does nothing as it compiles a text.
pub Compiles-Rests : (text : List ℕ) (inputs : ℕ) (old new : SqliteConnection) → Compiles text inputs old new → Rests old new
Compiles-Rests text inputs (Memory old) (Memory new) h = λ clean. (h clean).unchanged
Compiles-Rests text inputs (File old) (File new) h = λ clean. (h clean).unchanged
Compiles-Rests text inputs (Memory old) (File new) h = absurd h
Compiles-Rests text inputs (File old) (Memory new) h = absurd h
