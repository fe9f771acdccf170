-- Defines the events that a line can record: they are well formed, and each number fits its type.
use Rattle.std.specs.Prelude.{ℕ, ◌<◌, ◌^◌, List, FitsSigned, All, ◌≡◌, true}
use Rattle.std.specs.Int.{w32, w64}
use Rattle.hex.specs.Hex.{IsBytes}
use Rattle.dsql_history.specs.value.declared.arg.Named.{Named}
use Rattle.dsql_history.specs.value.declared.value.Value.{Value}
use Rattle.dsql_history.specs.value.declared.value.Value.TheVariants as value
use Rattle.dsql_history.specs.value.declared.value.Param.{Param}
use Rattle.dsql_history.specs.scan.declared.cell.Cell.{Cell}
use Rattle.dsql_history.specs.scan.declared.cell.Cell.TheVariants as cell
use Rattle.dsql_history.specs.driver.declared.call.Input.{Input}
use Rattle.dsql_history.specs.driver.declared.call.Input.TheVariants as input
use Rattle.dsql_history.specs.driver.declared.call.DriverCall.{DriverCall}
use Rattle.dsql_history.specs.driver.declared.call.DriverCall.TheVariants as call
use Rattle.dsql_history.specs.driver.declared.answer.DriverAnswer.{DriverAnswer}
use Rattle.dsql_history.specs.driver.declared.answer.DriverAnswer.TheVariants as answer
use Rattle.dsql_history.specs.journal.declared.entry.Owner.{Owner}
use Rattle.dsql_history.specs.journal.declared.entry.Owner.TheVariants as owner
use Rattle.dsql_history.specs.journal.declared.entry.Entry.{Entry}
use Rattle.dsql_history.specs.journal.Kinds.{number_of}
use Rattle.dsql_history.specs.pool.declared.moves.Move.{Move}
use Rattle.dsql_history.specs.pool.declared.moves.Move.TheVariants.{OpenStart, Lend, Back, CloseStart, Gone, Fell}
use Rattle.dsql_history.specs.pool.declared.stats.Stats.{Stats}
use Rattle.dsql_script_read_back.specs.ReadBack.{IsInRange}
use Rattle.dsql_history.specs.declared.event.Op.{Op}
use Rattle.dsql_history.specs.declared.event.Op.TheVariants as op
use Rattle.dsql_history.specs.declared.reply.Reply.{Reply}
use Rattle.dsql_history.specs.declared.reply.Reply.TheVariants as reply
use Rattle.dsql_history.specs.declared.event.Event.{Event}
use Rattle.dsql_history.specs.declared.event.Event.TheVariants.{Run, Entered, Heard, Pool, Waits, Ticked, SetLimit, Replied, Ended}
use Rattle.dsql_script_event_lines.specs.WellFormed.{is_well_formed}

-- Holds if the number fits a u32, or a u64 in `IsLong`.
abbrev pub IsNumber : ℕ → Type 0
IsNumber n = n < 2 ^ 32

abbrev pub IsLong : ℕ → Type 0
IsLong n = n < 2 ^ 64

abbrev pub OwnerFits : Owner → Type 0
OwnerFits (owner.Call n) = IsNumber n
OwnerFits (owner.Tx n) = IsNumber n
OwnerFits (owner.Pin n) = IsNumber n
OwnerFits owner.House = Unit {0}

abbrev pub MoveFits : Move → Type 0
MoveFits (OpenStart conn call) = IsNumber conn × IsNumber call
MoveFits (Lend conn tenure owner call) = IsNumber conn × IsNumber tenure × OwnerFits owner
MoveFits (Back conn) = IsNumber conn
MoveFits (CloseStart conn cause) = IsNumber conn
MoveFits (Gone conn) = IsNumber conn
MoveFits (Fell conn call) = IsNumber conn × IsNumber call

abbrev pub ValueFits : Value → Type 0
ValueFits (value.Int n) = FitsSigned w64 n
ValueFits (value.Bytes bytes) = IsBytes bytes
ValueFits (value.Time n) = FitsSigned w64 n
ValueFits _ = Unit {0}

abbrev pub ParamFits : Param → Type 0
ParamFits p = ValueFits p.value

abbrev pub CellFits : Cell → Type 0
CellFits (cell.Bytes bytes) = IsBytes bytes
CellFits (cell.Int n) = FitsSigned w64 n
CellFits (cell.Uint n) = IsLong n
CellFits (cell.Time n) = FitsSigned w64 n
CellFits _ = Unit {0}

abbrev pub InputFits : Input → Type 0
InputFits (input.Text text) = Unit {0}
InputFits (input.Handle handle) = IsNumber handle

abbrev pub CallFits : DriverCall → Type 0
CallFits (call.CloseStmt handle) = IsNumber handle
CallFits (call.Exec input params) = InputFits input × All ParamFits params
CallFits (call.Query input params) = InputFits input × All ParamFits params
CallFits (call.Next rows) = IsNumber rows
CallFits (call.CloseRows rows) = IsNumber rows
CallFits _ = Unit {0}

abbrev pub AnswerFits : DriverAnswer → Type 0
AnswerFits (answer.Prepared handle inputs) = IsNumber handle × FitsSigned w32 inputs
AnswerFits (answer.Result last affected) = FitsSigned w64 last × FitsSigned w64 affected
AnswerFits (answer.Cursor rows columns) = IsNumber rows
AnswerFits (answer.Row values) = All ValueFits values
AnswerFits _ = Unit {0}

abbrev pub EntryFits : Entry → Type 0
EntryFits e =
    IsNumber e.conn × IsNumber e.tenure × OwnerFits e.owner × IsNumber e.call_no × IsNumber e.tx × CallFits e.call
    × AnswerFits e.answer

abbrev pub ArgsFit : List Named → Type 0
ArgsFit args = All (λ named. IsInRange named.arg) args

abbrev pub StatsFit : Stats → Type 0
StatsFit s =
    (IsLong s.max_open_connections × IsLong s.open_connections × IsLong s.in_use)
    × (IsLong s.idle × IsLong s.wait_count × IsLong s.wait_duration)
    × (IsLong s.max_idle_closed × IsLong s.max_idle_time_closed × IsLong s.max_lifetime_closed)

-- Returns the move as its line shows it. The line doesn't show for which call a connection is lent, so the
-- owner's number stands for it.
abbrev pub shown_move : Move → Move
shown_move (Lend conn tenure owner call) = Lend conn tenure owner (number_of owner)
shown_move move = move

abbrev pub OpFits : Op → Type 0
OpFits (op.Exec target text args) = ArgsFit args
OpFits (op.Query label target text args) = ArgsFit args
OpFits (op.One target dests text args) = ArgsFit args
OpFits _ = Unit {0}

abbrev pub ReplyFits : Reply → Type 0
ReplyFits (reply.Result last affected) = FitsSigned w64 last × FitsSigned w64 affected
ReplyFits (reply.Cells cells) = All CellFits cells
ReplyFits (reply.BadConn tries) = IsNumber tries
ReplyFits (reply.NumArgs want got) = IsNumber want × IsNumber got
ReplyFits (reply.HighBit n) = IsLong n
ReplyFits (reply.DestCount want got) = IsNumber want × IsNumber got
ReplyFits (reply.Scan column fault) = IsNumber column
ReplyFits (reply.Stats stats) = StatsFit stats
ReplyFits _ = Unit {0}

-- Holds if each number of an event fits its type, as it does in every event that a program holds.
abbrev pub NumbersFit : Event → Type 0
NumbersFit (Run version caps) = version < 2 ^ 8
NumbersFit (Entered client n op) = (client < 2 ^ 8) × IsNumber n × OpFits op
NumbersFit (Heard entry) = EntryFits entry
NumbersFit (Pool move) = MoveFits move
NumbersFit (Waits n) = IsNumber n
NumbersFit (Ticked now) = IsLong now
NumbersFit (SetLimit setting n) = FitsSigned w64 n
NumbersFit (Replied n reply) = IsNumber n × ReplyFits reply
NumbersFit Ended = Unit {0}

abbrev pub Fits : Event → Type 0
Fits e = (is_well_formed e ≡ true) × NumbersFit e

-- Returns the event as its line shows it. The line doesn't show for which call a connection is lent.
abbrev pub shown : Event → Event
shown (Pool move) = Pool (shown_move move)
shown e = e
