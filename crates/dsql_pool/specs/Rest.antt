-- What holds if the pool is at rest.
use Rattle.std.specs.Prelude.{◌≡◌, ◌==◌, ℕ, suc, Bool, true, not, ◌&&◌, ◌||◌, nat_le, cond, List, [], ◌∷◌, length, is_none}
use Rattle.std.specs.List.{list_all}
use Rattle.dsql_tenure_journal.specs.Readers.{is_empty}
use Rattle.dsql_pool.specs.Places.{conn_of, is_idle}
use Rattle.dsql_pool.specs.Pooled.{Pooled, place_at, open_count, free_openings, most_allowed, most_open}
use Rattle.dsql_pool.specs.Decisions.{cause_at}

-- Returns how often a number stands in a list.
abbrev pub times : ℕ → List ℕ → ℕ
times d [] = 0
times d (e ∷ es) = cond (e == d) (suc (times d es)) (times d es)

-- Holds if a connection is among the idle ones once if its place is idle, and otherwise not at all.
abbrev pub IsPlaced : Pooled → Type 0
IsPlaced p = (c : ℕ) → times c p.idle ≡ cond (is_idle (place_at p c)) 1 0

-- Is true if at most a thousand connections are open, whatever the limits are.
abbrev pub keeps_most : Pooled → Bool
keeps_most p = nat_le (open_count p) most_open

-- Is true if as many connections are open as may be. It is also true if the waiting requests aren't more than the
-- openings under way for no request of their own.
abbrev pub opens_enough : Pooled → Bool
opens_enough p = nat_le (length p.waiting) (free_openings p) || nat_le (most_allowed p) (open_count p)

-- Is true if no connection is idle while a request waits that isn't its call's last try.
abbrev pub serves_those_that_wait : Pooled → Bool
serves_those_that_wait p = is_empty p.idle || list_all (λ r. r.last) p.waiting

abbrev pub keeps_idle_limit : Pooled → Bool
keeps_idle_limit p = nat_le (length p.idle) p.limits.max_idle

-- Is true if no idle connection is past its idle time or its lifetime.
abbrev pub keeps_no_old_one : Pooled → Bool
keeps_no_old_one p = list_all (λ c. is_none (cause_at p.limits p.moment (conn_of c p.conns))) p.idle

-- Is true if, after the database was closed, no connection is idle and no request waits.
abbrev pub is_empty_when_closed : Pooled → Bool
is_empty_when_closed p = not p.closed || (is_empty p.idle && is_empty p.waiting)

-- Is true if all these tests pass.
abbrev pub is_at_rest : Pooled → Bool
is_at_rest p =
    keeps_most p && opens_enough p && serves_those_that_wait p && keeps_idle_limit p && keeps_no_old_one p
    && is_empty_when_closed p

pub record AtRest (p : Pooled) : Type 0 where
  pub placed : IsPlaced p
  pub most : keeps_most p ≡ true
  pub enough : opens_enough p ≡ true
  pub served : serves_those_that_wait p ≡ true
  pub few : keeps_idle_limit p ≡ true
  pub young : keeps_no_old_one p ≡ true
  pub none : is_empty_when_closed p ≡ true
