-- Defines how the moves and the owners of connections are read.
use Rattle.std.specs.Prelude.{ℕ, List, length, codes, drop, if◌then◌else◌, Option, Some, None, option_map, option_and_then}
use Rattle.std.specs.Option.{option_or}
use Rattle.std.specs.Str.{bytes_eq}
use Rattle.serde_json.specs.Data.{Data}
use Rattle.dsql_history.specs.journal.declared.entry.Owner.{Owner}
use Rattle.dsql_history.specs.journal.declared.entry.Owner.TheVariants.{Call, Tx, Pin, House}
use Rattle.dsql_history.specs.journal.Kinds.{number_of}
use Rattle.dsql_history.specs.pool.declared.moves.CloseCause.{CloseCause}
use Rattle.dsql_history.specs.pool.declared.moves.CloseCause.TheVariants as cause
use Rattle.dsql_history.specs.pool.declared.moves.Move.{Move}
use Rattle.dsql_history.specs.pool.declared.moves.Move.TheVariants.{OpenStart, Lend, Back, CloseStart, Gone, Fell}
use Rattle.dsql_script_calls.specs.ScriptWords.{begins_with, moment_of}
use Rattle.dsql_script_event_lines.specs.Parts.{word_sized, number_at, text_at}

-- Returns the number that these digits are, if it fits a u32.
abbrev pub numbered : List ℕ → Option ℕ
numbered digits = option_and_then word_sized (moment_of digits)

-- Returns the number after the word for a kind of owner, if the word begins with that.
abbrev pub number_behind : List ℕ → List ℕ → Option ℕ
number_behind kind word = if begins_with word kind then numbered (drop (length kind) word) else None

-- Returns the owner of a connection that a word names, if any.
abbrev pub owner_of : List ℕ → Option Owner
owner_of word =
    if bytes_eq word (codes "house") then Some House
    else option_or (option_map Call (number_behind (codes "call:") word))
    (option_or (option_map Tx (number_behind (codes "tx:") word)) (option_map Pin (number_behind (codes "pin:") word)))

abbrev pub owner_at : ℕ → Data → Option Owner
owner_at i d = option_and_then owner_of (text_at i d)

abbrev pub cause_of : List ℕ → Option CloseCause
cause_of word =
    if bytes_eq word (codes "bad") then Some cause.Bad
    else if bytes_eq word (codes "invalid") then Some cause.Invalid
    else if bytes_eq word (codes "over_limit") then Some cause.OverLimit
    else if bytes_eq word (codes "idle_full") then Some cause.IdleFull
    else if bytes_eq word (codes "lifetime") then Some cause.Lifetime
    else if bytes_eq word (codes "idle_time") then Some cause.IdleTime
    else if bytes_eq word (codes "db_closed") then Some cause.DbClosed
    else if bytes_eq word (codes "discarded") then Some cause.Discarded
    else None

-- Returns the move that lends a connection. A line doesn't show for which call, so the owner's number stands
-- for it.
abbrev pub lending : ℕ → ℕ → Owner → Move
lending conn tenure owner = Lend conn tenure owner (number_of owner)

abbrev pub lend_of : Data → Option Move
lend_of d =
    option_and_then (λ conn. option_and_then (λ tenure. option_map (lending conn tenure) (owner_at 3 d))
    (number_at 2 d)) (number_at 1 d)

abbrev pub close_of : Data → Option Move
close_of d =
    option_and_then (λ conn. option_map (CloseStart conn) (option_and_then cause_of (text_at 2 d))) (number_at 1 d)

-- Returns a move that has a connection and a call.
abbrev pub opening_of : (ℕ → ℕ → Move) → Data → Option Move
opening_of move d = option_and_then (λ conn. option_map (move conn) (number_at 2 d)) (number_at 1 d)

-- Returns a move by its word.
abbrev pub move_by : List ℕ → Data → Option Move
move_by word d =
    if bytes_eq word (codes "open") then opening_of OpenStart d
    else if bytes_eq word (codes "lend") then lend_of d
    else if bytes_eq word (codes "back") then option_map Back (number_at 1 d)
    else if bytes_eq word (codes "close") then close_of d
    else if bytes_eq word (codes "gone") then option_map Gone (number_at 1 d)
    else if bytes_eq word (codes "fell") then opening_of Fell d
    else None
