-- The steps and the knowledge of the program, translated into those of the definitions.
use Rattle.dsql_course.specs.Steps.{Step, RunText, PrepareText, RunHandle, FetchRow, CloseCursor, CloseHandle, PingIt, BeginIt, UndoIt}
use Rattle.dsql_course.specs.declared.step.Step.{Step as OwnStep}
use Rattle.dsql_course.specs.declared.step.Step.TheVariants as own
use Rattle.dsql_course.specs.declared.line.Found.{Found as OwnFound}
use Rattle.dsql_course.specs.Line.{Found}

abbrev pub meant : OwnStep → Step
meant own.RunText = RunText
meant own.PrepareText = PrepareText
meant own.RunHandle = RunHandle
meant own.FetchRow = FetchRow
meant own.CloseCursor = CloseCursor
meant own.CloseHandle = CloseHandle
meant own.PingIt = PingIt
meant own.BeginIt = BeginIt
meant own.UndoIt = UndoIt

abbrev pub known : OwnFound → Found
known found = record { stopped = found.stopped; bad = found.bad }
