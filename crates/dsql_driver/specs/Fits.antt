-- The table of shapes: which answers fit which call. Memory fits every call.
use Rattle.std.specs.Prelude.{Bool, true, false, ◌||◌, negsuc, int_le}
use Rattle.dsql_driver.specs.declared.call.DriverCall.{DriverCall}
use Rattle.dsql_driver.specs.declared.call.DriverCall.TheVariants.{Valid, Prepare, Exec, Query, Next}
use Rattle.dsql_driver.specs.declared.answer.DriverAnswer.{DriverAnswer}
use Rattle.dsql_driver.specs.declared.answer.DriverAnswer.TheVariants.{Done, Prepared, Result, Cursor, Row, End, Invalid, Skip, Bad, Fail, Memory}
use Rattle.dsql_driver.specs.declared.call.Input.TheVariants.{Text, Handle}

-- Is true if the answer is Bad or Fail. A driver may give these answers to every call except Valid.
abbrev pub is_failure : DriverAnswer → Bool
is_failure Bad = true
is_failure (Fail text) = true
is_failure _ = false

abbrev pub is_memory : DriverAnswer → Bool
is_memory Memory = true
is_memory _ = false

abbrev pub is_done : DriverAnswer → Bool
is_done Done = true
is_done _ = false

abbrev pub is_invalid : DriverAnswer → Bool
is_invalid Invalid = true
is_invalid _ = false

abbrev pub is_skip : DriverAnswer → Bool
is_skip Skip = true
is_skip _ = false

abbrev pub is_result : DriverAnswer → Bool
is_result (Result last affected) = true
is_result _ = false

abbrev pub is_cursor : DriverAnswer → Bool
is_cursor (Cursor rows columns) = true
is_cursor _ = false

-- Is true if the answer is a Prepared with -1, 0 or more inputs. -1 says that the driver doesn't know the
-- number.
abbrev pub is_prepared : DriverAnswer → Bool
is_prepared (Prepared handle inputs) = int_le (negsuc 0) inputs
is_prepared _ = false

abbrev pub is_row_or_end : DriverAnswer → Bool
is_row_or_end (Row values) = true
is_row_or_end End = true
is_row_or_end _ = false

-- Is true if the answer fits the call and is neither Memory, Bad nor Fail. Skip and Invalid are among these
-- answers.
abbrev pub is_success : DriverCall → DriverAnswer → Bool
is_success (Prepare text) answer = is_prepared answer
is_success (Exec (Text text) params) answer = is_result answer || is_skip answer
is_success (Exec (Handle handle) params) answer = is_result answer
is_success (Query (Text text) params) answer = is_cursor answer || is_skip answer
is_success (Query (Handle handle) params) answer = is_cursor answer
is_success (Next rows) answer = is_row_or_end answer
is_success Valid answer = is_done answer || is_invalid answer
is_success _ answer = is_done answer

-- Is true if a driver may answer the call with Bad or Fail.
abbrev pub may_fail : DriverCall → Bool
may_fail Valid = false
may_fail _ = true

abbrev pub fits_of : DriverCall → DriverAnswer → Bool
fits_of call Memory = true
fits_of call Bad = may_fail call
fits_of call (Fail text) = may_fail call
fits_of call answer = is_success call answer

-- Is true if the wire counts the answer as a fault.
abbrev pub is_fault : DriverAnswer → Bool
is_fault Invalid = true
is_fault answer = is_failure answer
