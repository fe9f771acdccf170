-- Defines what the bar of an event shows, and which later event ends it.
use Rattle.std.specs.Prelude.{ℕ, ◌==◌, ◌+◌, Bool, true, false, not, ◌&&◌, ◌||◌, if◌then◌else◌, List, length, Option, unwrap_or, position}
use Rattle.dsql_history.specs.driver.Fits.{is_done, is_failure, is_invalid, is_skip}
use Rattle.dsql_history.specs.driver.Kinds.{is_begin, is_ending}
use Rattle.dsql_history.specs.journal.declared.entry.Entry.{Entry}
use Rattle.dsql_history.specs.journal.Kinds.{number_of}
use Rattle.dsql_history.specs.pool.declared.moves.Move.{Move}
use Rattle.dsql_history.specs.pool.declared.moves.Move.TheVariants.{OpenStart, Lend, Back, CloseStart, Gone, Fell}
use Rattle.dsql_history.specs.declared.reply.Reply.{Reply}
use Rattle.dsql_history.specs.declared.event.Event.{Event}
use Rattle.dsql_history.specs.declared.event.Event.TheVariants.{Run, Entered, Heard, Pool, Waits, Ticked, SetLimit, Replied, Ended}
use Rattle.dsql_script_show.specs.Summary.{is_ok}
use Rattle.dsql_timeline_page.specs.declared.bar.Class.{Class}
use Rattle.dsql_timeline_page.specs.declared.bar.Class.TheVariants as class
use Rattle.dsql_timeline_picture.specs.Lanes.{conn_of}

-- Is true if the driver begins a transaction.
abbrev pub begins : Entry → Bool
begins entry = is_begin entry.call && is_done entry.answer

-- Returns the class of a driver call, by its answer.
abbrev pub class_of_entry : Entry → Class
class_of_entry entry =
    if is_failure entry.answer || is_invalid entry.answer then class.Fault
    else (if is_skip entry.answer then class.Refusal
    else (if begins entry then class.Transaction
    else class.Done))

-- Returns the class of a move: the set to which the connection moves, or its end.
abbrev pub class_of_move : Move → Class
class_of_move (OpenStart conn call) = class.Opening
class_of_move (Lend conn tenure owner call) = class.Lent
class_of_move (Back conn) = class.Idle
class_of_move (CloseStart conn cause) = class.Closing
class_of_move (Gone conn) = class.Gone
class_of_move (Fell conn call) = class.Refusal

abbrev pub class_of_reply : Reply → Class
class_of_reply reply = if is_ok reply then class.Done else class.Fault

-- Returns what the bar of an event shows.
abbrev pub class_of : Event → Class
class_of (Run version caps) = class.Edge
class_of (Entered client n op) = class.Call
class_of (Heard entry) = class_of_entry entry
class_of (Pool step) = class_of_move step
class_of (Waits n) = class.Waiting
class_of (Ticked now) = class.Moment
class_of (SetLimit setting n) = class.Limit
class_of (Replied n reply) = class_of_reply reply
class_of Ended = class.Edge

-- Returns the number of the call or of the owner, which decides the colour of a bar, or 0.
abbrev pub owner_of : Event → ℕ
owner_of (Entered client n op) = n
owner_of (Pool (Lend conn tenure owner call)) = number_of owner
owner_of _ = 0

-- Is true if the event replies to this call.
abbrev pub replies_to : ℕ → Event → Bool
replies_to n (Replied other reply) = other == n
replies_to n _ = false

-- Is true if this call waits no more: it is lent a connection, one is opened for it, or it has its reply.
abbrev pub serves : ℕ → Event → Bool
serves n (Pool (Lend conn tenure owner call)) = call == n
serves n (Pool (OpenStart conn call)) = call == n
serves n event = replies_to n event

-- Is true if the event moves this connection.
abbrev pub moves : ℕ → Event → Bool
moves conn (Pool step) = conn_of step == conn
moves conn _ = false

-- Is true if a transaction on this connection ends: by a commit or a rollback, or because the connection moves.
abbrev pub ends_transaction : ℕ → Event → Bool
ends_transaction conn (Heard entry) = entry.conn == conn && is_ending entry.call
ends_transaction conn event = moves conn event

-- Is true if a connection isn't there after the move.
abbrev pub is_last : Move → Bool
is_last (Gone conn) = true
is_last (Fell conn call) = true
is_last _ = false

-- Is true if the bar of the first event ends where the second one stands. A bar that shows a moment ends at the next
-- event.
unfoldable pub ends : Event → Event → Bool
ends (Entered client n op) later = replies_to n later
ends (Heard entry) later = not (begins entry) || ends_transaction entry.conn later
ends (Pool step) later = is_last step || moves (conn_of step) later
ends (Waits n) later = serves n later
ends _ later = true

-- Returns how many columns the bar of an event is wide, if these events follow it. A bar that nothing ends goes to
-- the last column.
abbrev pub width : Event → List Event → ℕ
width event later = unwrap_or (position (λ other. ends event other) later) (length later) + 1
