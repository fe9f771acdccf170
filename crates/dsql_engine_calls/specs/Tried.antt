-- Defines what the layer keeps of a call's tries, and what follows from it.
use Rattle.std.specs.Prelude.{ℕ, min, ◌==◌, ◌+◌, nat_lt, Bool, true, false, ◌&&◌, List, [], ◌∷◌, length, Option, Some, None}
use Rattle.dsql_history.specs.declared.record.Try.{Try}
use Rattle.dsql_history.specs.declared.record.Try.TheVariants.{Served, Lost, Refused}
use Rattle.dsql_history.specs.Readers.Tries.{came_to_nothing, most_tries}
use Rattle.dsql_engine_calls.specs.declared.tried.Tried.{Tried}

-- Returns what is kept before the first try.
abbrev pub untried : Tried
untried = record { newest = None; count = 0 }

-- Returns what is kept of these tries, which are listed newest first: the newest one and their number.
abbrev pub kept : List Try → Tried
kept [] = untried
kept (newest ∷ earlier) = record { newest = Some newest; count = length (newest ∷ earlier) }

abbrev pub most_counted : ℕ
most_counted = 4294967295

-- Returns what is kept after one more try. The count stops at the end of its type.
abbrev pub one_more : Try → Tried → Tried
one_more it tried = record { newest = Some it; count = min (tried.count + 1) most_counted }

-- Returns the newest try, which is lost if it was served.
abbrev pub as_lost : Option Try → Option Try
as_lost (Some Served) = Some Lost
as_lost newest = newest

abbrev pub newest_lost : Tried → Tried
newest_lost tried = record tried { newest = as_lost tried.newest }

-- Returns the number of the newest try. A call that has had no try is in its first.
abbrev pub number_among : ℕ → Option Try → ℕ
number_among count None = 1
number_among count (Some newest) = count

abbrev pub number : Tried → ℕ
number tried = number_among tried.count tried.newest

-- Is true if another try is left.
abbrev pub leaves_another : ℕ → Option Try → Bool
leaves_another count None = true
leaves_another count (Some newest) = came_to_nothing newest && nat_lt count most_tries

abbrev pub has_another : Tried → Bool
has_another tried = leaves_another tried.count tried.newest

-- Is true if the next try is the last one.
abbrev pub next_is_last : Tried → Bool
next_is_last tried = tried.count + 1 == most_tries

-- Is true if the newest try was refused.
abbrev pub is_refused : Option Try → Bool
is_refused (Some (Refused answer)) = true
is_refused newest = false

-- Is true if a connection that was to be opened was bad, and another try is left.
abbrev pub asks_again : Tried → Bool
asks_again tried = is_refused tried.newest && has_another tried
