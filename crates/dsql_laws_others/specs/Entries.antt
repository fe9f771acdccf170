-- What a call touches on entry.
use Rattle.std.specs.Prelude.{Bool, true, false}
use Rattle.dsql_laws_calls.specs.history.declared.event.Op.{Op}
use Rattle.dsql_laws_calls.specs.history.declared.event.Op.TheVariants.{RowsClose, Commit, Rollback, DbClose}

-- Is true if the operation closes neither rows nor the database, and ends no transaction.
abbrev pub is_plain : Op → Bool
is_plain (RowsClose rows) = false
is_plain (Commit tx) = false
is_plain (Rollback tx) = false
is_plain DbClose = false
is_plain _ = true
