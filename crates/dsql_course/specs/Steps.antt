-- The steps of each course, in the order in which they are taken.
use Rattle.std.specs.Prelude.{Bool, true, false, if◌then◌else◌, List, [], ◌∷◌, Option}
use Rattle.dsql_course.specs.declared.course.Course.{Course}
use Rattle.dsql_course.specs.declared.course.Course.TheVariants as course
use Rattle.dsql_course.specs.declared.call.Due.{Due}
use Rattle.dsql_course.specs.declared.call.Due.TheVariants as call

-- A step of a call. It runs or prepares the text, runs or closes the handle, fetches a row, or closes its cursor. Or it
-- pings the connection, begins a transaction, or rolls it back.
pub data Step : Type 0 where
  RunText : Step
  PrepareText : Step
  RunHandle : Step
  FetchRow : Step
  CloseCursor : Step
  CloseHandle : Step
  PingIt : Step
  BeginIt : Step
  UndoIt : Step

-- Returns the steps that a course may take, in their order. Each is taken once or not at all.
abbrev pub steps : Course → List Step
steps course.One = RunText ∷ PrepareText ∷ RunHandle ∷ FetchRow ∷ CloseCursor ∷ CloseHandle ∷ []
steps course.Prepare = PrepareText ∷ CloseHandle ∷ []
steps (course.Run reads one live) = PrepareText ∷ RunHandle ∷ FetchRow ∷ CloseCursor ∷ CloseHandle ∷ []
steps course.Ping = PingIt ∷ []
steps course.Begin = BeginIt ∷ UndoIt ∷ []
steps _ = RunText ∷ PrepareText ∷ RunHandle ∷ CloseHandle ∷ []

-- Returns the step that a driver call takes.
abbrev pub step_of : Due → Option Step
step_of call.Text = Option.Some RunText
step_of call.Prepare = Option.Some PrepareText
step_of (call.Handle handle) = Option.Some RunHandle
step_of (call.Next rows) = Option.Some FetchRow
step_of (call.CloseRows rows) = Option.Some CloseCursor
step_of (call.CloseStmt handle) = Option.Some CloseHandle
step_of call.Ping = Option.Some PingIt
step_of call.Begin = Option.Some BeginIt
step_of call.Rollback = Option.Some UndoIt
step_of call.Over = Option.None

abbrev pub same_step : Step → Step → Bool
same_step RunText RunText = true
same_step PrepareText PrepareText = true
same_step RunHandle RunHandle = true
same_step FetchRow FetchRow = true
same_step CloseCursor CloseCursor = true
same_step CloseHandle CloseHandle = true
same_step PingIt PingIt = true
same_step BeginIt BeginIt = true
same_step UndoIt UndoIt = true
same_step _ _ = false

-- Returns the steps after this one.
abbrev pub behind : Step → List Step → List Step
behind step [] = []
behind step (first ∷ later) = if same_step step first then later else behind step later
