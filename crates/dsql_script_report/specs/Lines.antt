-- Defines the line of an event in a report: a compact JSON array and a line feed.
use Rattle.std.specs.Prelude.{ℕ, List, [], ◌∷◌, ◌++◌, codes, decimal}
use Rattle.serde_json.specs.Data.{Data, string}
use Rattle.dsql_history.specs.journal.declared.entry.Owner.{Owner}
use Rattle.dsql_history.specs.journal.declared.entry.Owner.TheVariants.{Call, Tx, Pin, House}
use Rattle.dsql_history.specs.journal.declared.entry.Entry.{Entry}
use Rattle.dsql_history.specs.pool.declared.moves.CloseCause.{CloseCause}
use Rattle.dsql_history.specs.pool.declared.moves.CloseCause.TheVariants as cause
use Rattle.dsql_history.specs.pool.declared.moves.Move.{Move}
use Rattle.dsql_history.specs.pool.declared.moves.Move.TheVariants.{OpenStart, Lend, Back, CloseStart, Gone, Fell}
use Rattle.dsql_history.specs.declared.event.Setting.{Setting}
use Rattle.dsql_history.specs.declared.event.Setting.TheVariants.{MaxOpen, MaxIdle, MaxLife, MaxIdleTime}
use Rattle.dsql_script_spelling.specs.LineValues.{worded, natural, integer, texts_data}
use Rattle.dsql_script_report.specs.LineCalls.{call_data, answer_data}
use Rattle.serde_json.specs.Written.{compact_text}
use Rattle.dsql_history.specs.declared.event.Event.{Event}
use Rattle.dsql_history.specs.declared.event.Event.TheVariants.{Run, Entered, Heard, Pool, Waits, Ticked, SetLimit, Replied, Ended}
use Rattle.dsql_script_spelling.specs.CapsNames.{caps_names}
use Rattle.dsql_script_report.specs.LineOps.{entered_data}
use Rattle.dsql_script_report.specs.LineReplies.{reply_data}

-- Returns the word for the owner of a connection, with its number.
abbrev pub owner_word : Owner → List ℕ
owner_word (Call n) = codes "call:" ++ decimal n
owner_word (Tx n) = codes "tx:" ++ decimal n
owner_word (Pin n) = codes "pin:" ++ decimal n
owner_word House = codes "house"

abbrev pub cause_word : CloseCause → List ℕ
cause_word cause.Bad = codes "bad"
cause_word cause.Invalid = codes "invalid"
cause_word cause.OverLimit = codes "over_limit"
cause_word cause.IdleFull = codes "idle_full"
cause_word cause.Lifetime = codes "lifetime"
cause_word cause.IdleTime = codes "idle_time"
cause_word cause.DbClosed = codes "db_closed"
cause_word cause.Discarded = codes "discarded"

abbrev pub limit_word : Setting → List ℕ
limit_word MaxOpen = codes "maxopen"
limit_word MaxIdle = codes "maxidle"
limit_word MaxLife = codes "maxlife"
limit_word MaxIdleTime = codes "maxidletime"

-- Returns the data of a move. A lending doesn't show for which call the connection is lent, because the owner's
-- number says it. An opening for no call is shown as one for call 0.
abbrev pub move_data : Move → Data
move_data (OpenStart conn call) = worded (codes "open") (natural conn ∷ natural call ∷ [])
move_data (Lend conn tenure owner call) =
    worded (codes "lend") (natural conn ∷ natural tenure ∷ string (owner_word owner) ∷ [])
move_data (Back conn) = worded (codes "back") (natural conn ∷ [])
move_data (CloseStart conn cause) = worded (codes "close") (natural conn ∷ string (cause_word cause) ∷ [])
move_data (Gone conn) = worded (codes "gone") (natural conn ∷ [])
move_data (Fell conn call) = worded (codes "fell") (natural conn ∷ natural call ∷ [])

abbrev pub entry_data : Entry → Data
entry_data e =
    worded (codes "heard")
    (natural e.conn ∷ natural e.tenure ∷ string
    (owner_word e.owner) ∷ natural e.call_no ∷ natural e.tx ∷ call_data e.call ∷ answer_data e.answer ∷ [])

-- Returns the array of an event, which begins with its word.
abbrev pub json_of : Event → Data
json_of (Run version caps) = worded (codes "run") (natural version ∷ texts_data (caps_names caps) ∷ [])
json_of (Entered client n op) = entered_data client n op
json_of (Heard entry) = entry_data entry
json_of (Pool move) = move_data move
json_of (Waits n) = worded (codes "wait") (natural n ∷ [])
json_of (Ticked now) = worded (codes "tick") (natural now ∷ [])
json_of (SetLimit setting n) = worded (codes "set") (string (limit_word setting) ∷ integer n ∷ [])
json_of (Replied n reply) = worded (codes "reply") (natural n ∷ reply_data reply ∷ [])
json_of Ended = worded (codes "ended") []

abbrev pub line_of : Event → List ℕ
line_of e = compact_text (json_of e) ++ 10 ∷ []

-- Returns the text of a report of these events, which are given newest first.
abbrev pub text_of : List Event → List ℕ
text_of [] = []
text_of (e ∷ before) = text_of before ++ line_of e
