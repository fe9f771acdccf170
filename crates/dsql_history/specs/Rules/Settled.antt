-- Defines what holds at each free moment, and right before a reply except for the call that replies. It
-- follows, by a law, that the pool is at rest if it owes nothing.
use Rattle.std.specs.Prelude.{ℕ, ◌≡◌, ◌==◌, Bool, true, ◌&&◌, ◌||◌, List, is_some}
use Rattle.std.specs.List.{list_all}
use Rattle.dsql_history_work.specs.journal.Readers.{is_empty}
use Rattle.dsql_pool.specs.declared.conn.Place.{Place}
use Rattle.dsql_pool.specs.declared.conn.Place.TheVariants.{Lent}
use Rattle.dsql_history_work.specs.journal.Kinds.{number_of}
use Rattle.dsql_history.specs.declared.event.Event.{Event}
use Rattle.dsql_history.specs.Readers.Unfinished.{unfinished}
use Rattle.dsql_history.specs.Readers.Pool.{pool}
use Rattle.dsql_history.specs.Readers.Owed.{owed}
use Rattle.dsql_history.specs.Readers.Calls.{rests}
use Rattle.dsql_history.specs.Rules.Line.{is_used}
use Rattle.dsql_history.specs.Rules.Stands.{stand}

-- Is true if the pool owes no move.
abbrev pub owes_nothing : List Event → Bool
owes_nothing before = is_empty (owed before)

-- Is true if the connection that is lent to call n is in use, or call n rests with it.
abbrev pub is_kept : List Event → ℕ → Bool
is_kept before n = is_used before n || rests before n

abbrev pub is_in_use : List Event → Place → Bool
is_in_use before (Lent tenure owner) = is_kept before (number_of owner)
is_in_use before _ = true

abbrev pub uses_what_is_lent : List Event → Bool
uses_what_is_lent before = list_all (λ conn. is_in_use before conn.place) (pool before).conns

-- Is true if each unfinished call except call n stands somewhere.
abbrev pub calls_stand_but : ℕ → List Event → Bool
calls_stand_but n before = list_all (λ m. (m == n) || is_some (stand before m)) (unfinished before)

-- Is true if each unfinished call stands somewhere. There is no call 0.
abbrev pub calls_stand : List Event → Bool
calls_stand before = calls_stand_but 0 before

-- Is true if all is settled except for call n.
abbrev pub is_settled_but : ℕ → List Event → Bool
is_settled_but n before = owes_nothing before && (uses_what_is_lent before && calls_stand_but n before)

pub record Settled (before : List Event) : Type 0 where
  pub nothing_owed : owes_nothing before ≡ true
  pub used : uses_what_is_lent before ≡ true
  pub somewhere : calls_stand before ≡ true
