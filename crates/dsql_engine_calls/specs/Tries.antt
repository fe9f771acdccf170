-- How the pool's moves change the tries of calls.
use Rattle.std.specs.Prelude.{List, [], ◌∷◌}
use Rattle.dsql_history.specs.driver.declared.answer.DriverAnswer.{DriverAnswer}
use Rattle.dsql_history.specs.driver.declared.answer.DriverAnswer.TheVariants.{Bad}
use Rattle.dsql_history.specs.pool.declared.moves.Move.{Move}
use Rattle.dsql_history.specs.pool.declared.moves.Move.TheVariants.{Lend, Fell}
use Rattle.dsql_history.specs.declared.record.Try.TheVariants.{Served, Refused}
use Rattle.dsql_engine_calls.specs.declared.call.CallRow.{CallRow}
use Rattle.dsql_engine_calls.specs.Calls.{with_row, with_try}

-- Returns the rows after a move, with the driver's answer just before it. A lending serves its call, and a
-- refused connection falls on its call.
abbrev pub tried_by : DriverAnswer → Move → List CallRow → List CallRow
tried_by answer (Lend c tenure owner n) calls = with_row n (with_try Served) calls
tried_by answer (Fell c n) calls = with_row n (with_try (Refused answer)) calls
tried_by answer _ calls = calls

-- Returns the rows after these moves, the first of which follows the answer directly.
abbrev pub tried_by_all : DriverAnswer → List Move → List CallRow → List CallRow
tried_by_all answer [] calls = calls
tried_by_all answer (move ∷ moves) calls = tried_by_all Bad moves (tried_by answer move calls)
