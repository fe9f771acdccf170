-- The numbers that bound a pool, and when a connection has outlived one of them.
use Rattle.std.specs.Prelude.{ℕ, ℤ, pos, negsuc, ◌+◌, min, Bool, ◌&&◌, nat_lt, ◌==◌, if◌then◌else◌}
use Rattle.dsql_time.specs.declared.TheConstants.{STANDARD_MAX_IDLE}

-- Returns a number of connections or a duration as it was set, or 0 if it is negative.
abbrev pub positive_part : ℤ → ℕ
positive_part (pos n) = n
positive_part (negsuc n) = 0

abbrev pub largest_count : ℕ
largest_count = 4294967295

-- How many idle connections are kept if no other number was set.
abbrev pub standard_max_idle : ℕ
standard_max_idle = STANDARD_MAX_IDLE

-- Returns how many connections the number n stands for.
abbrev pub count_limit : ℤ → ℕ
count_limit n = min (positive_part n) largest_count

-- Returns how long the duration d stands for; 0 is no limit.
abbrev pub duration_limit : ℤ → ℕ
duration_limit d = positive_part d

-- Returns the idle limit beside an open limit. An open limit of 0 is none.
abbrev pub idle_limit : ℕ → ℕ → ℕ
idle_limit most idle = if most == 0 then idle else min idle most

-- Is true if what began at a moment lies more than the limit in the past. A limit of 0 is none.
abbrev pub is_past : ℕ → ℕ → ℕ → Bool
is_past since limit now = nat_lt 0 limit && nat_lt (since + limit) now

-- Is true if a connection has lived longer than the limit.
abbrev pub has_expired : ℕ → ℕ → ℕ → Bool
has_expired created limit now = is_past created limit now

-- Is true if a connection has been idle for longer than the limit.
abbrev pub has_idled_out : ℕ → ℕ → ℕ → Bool
has_idled_out returned limit now = is_past returned limit now
