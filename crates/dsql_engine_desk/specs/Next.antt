-- The connection on which a call sends next, and what may be wanted from rows.
use Rattle.std.specs.Prelude.{◌≡◌, ℕ, ◌==◌, Bool, true, false, cond, List, Option, Some, None, is_some, slice_index_or}
use Rattle.dsql_laws_calls.specs.course.declared.course.Wish.{Wish}
use Rattle.dsql_laws_calls.specs.course.declared.course.Wish.TheVariants as wishes
use Rattle.dsql_laws_calls.specs.journal.Kinds.{number_of}
use Rattle.dsql_laws_calls.specs.pool.declared.conn.Place.{Place}
use Rattle.dsql_laws_calls.specs.pool.declared.conn.Place.TheVariants.{Lent}
use Rattle.dsql_laws_calls.specs.history.declared.event.Event.{Event}
use Rattle.dsql_laws_calls.specs.history.declared.work.Work.{Work}
use Rattle.dsql_laws_calls.specs.history.declared.work.Work.TheVariants.{Fetch, Close, End}
use Rattle.dsql_laws_calls.specs.history.Readers.HandedOut.{rows_by}
use Rattle.dsql_laws_calls.specs.history.Readers.Pool.{place, home}
use Rattle.dsql_engine_lines.specs.declared.there.HeardThere.{HeardThere}
use Rattle.dsql_engine_lines.specs.There.{heard_there, nothing_there}

-- Returns connection c, in this place, if it is lent to call n or its transaction.
abbrev pub lent_at : ℕ → ℕ → Option Place → Option ℕ
lent_at n c (Some (Lent tenure owner)) = cond (number_of owner == n) (Some c) None
lent_at n c _ = None

-- Returns the connection that is lent to call n or its transaction, if one is.
abbrev pub lent_under : List Event → ℕ → Option ℕ
lent_under past n = lent_at n (home past n) (place past (home past n))

-- Returns what was heard on connection c since it was lent.
abbrev pub there_at : List Event → ℕ → HeardThere
there_at past c = slice_index_or (heard_there past) c nothing_there

-- Is true if a call with this work has a line of its own: it works over no rows and ends no transaction.
abbrev pub has_line : Work → Bool
has_line (Fetch k) = false
has_line (Close k) = false
has_line (End k) = false
has_line it = true

-- Holds if nothing is wanted, or the rows of call k were made.
abbrev pub IsWanted : List Event → ℕ → Wish → Type 0
IsWanted past k wishes.Nothing = Unit {0}
IsWanted past k wish = is_some (rows_by past k) ≡ true
