-- Defines the layer's own driver calls in their order. Those that tidy up rows and transactions come before a
-- Shut, and a Shut before a Connect. Among equals the connection with the smallest number comes first.
use Rattle.std.specs.Prelude.{ℕ, Bool, false, not, List, Option, Some, is_none, is_some, ◌&&◌}
use Rattle.std.specs.List.{list_all}
use Rattle.dsql_history_work.specs.course.Made.{or_else}
use Rattle.dsql_history_work.specs.journal.Kinds.{is_house, number_of}
use Rattle.dsql_pool.specs.declared.conn.Place.{Place}
use Rattle.dsql_pool.specs.declared.conn.Place.TheVariants.{Lent}
use Rattle.dsql_pool.specs.Places.{is_closing, is_opening}
use Rattle.dsql_history.specs.Readers.Pool.{smallest, pool}
use Rattle.dsql_history.specs.Rules.Stands.{is_waiting, stand}
use Rattle.dsql_history.specs.declared.event.Event.{Event}
use Rattle.dsql_history.specs.Readers.Unfinished.{unfinished}
use Rattle.dsql_history.specs.Rules.Line.{tidying}

-- Returns the connection that is to be shut first, if any.
abbrev pub shut_due : List Event → Option ℕ
shut_due before = smallest (λ place. is_closing (Some place)) (pool before)

-- Returns the connection that is to be connected first, if any.
abbrev pub connect_due : List Event → Option ℕ
connect_due before = smallest (λ place. is_opening (Some place)) (pool before)

-- Is true if the connection in this place has rows to close or a transaction to end that no call ended.
abbrev pub is_untidy : List Event → Place → Bool
is_untidy before (Lent tenure owner) = not (is_house owner) && is_some (tidying before (number_of owner))
is_untidy before _ = false

-- Returns the connection that is to be tidied up first, if any.
abbrev pub tidy_due : List Event → Option ℕ
tidy_due before = smallest (is_untidy before) (pool before)

-- Returns the connection on which the layer makes its first own driver call, if it has one to make.
abbrev pub chore_due : List Event → Option ℕ
chore_due before = or_else (tidy_due before) (or_else (shut_due before) (connect_due before))

-- Is true if the layer has no driver call of its own to make.
abbrev pub has_no_chore : List Event → Bool
has_no_chore before = is_none (chore_due before)

-- Is true if every call has its reply or waits, and the layer has no chore.
abbrev pub is_quiet : List Event → Bool
is_quiet before = list_all (λ n. is_waiting (stand before n)) (unfinished before) && has_no_chore before
