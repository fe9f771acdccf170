-- Worked values of the limits.
use Rattle.std.specs.Prelude.{◌≡◌, true, false, pos, negsuc}
use Rattle.dsql_time.specs.Limits.{count_limit, duration_limit, idle_limit, has_expired, has_idled_out}

pub record WorkedCounts : Type 0 where
  pub below_zero : count_limit (negsuc 4) ≡ 0
  pub zero_is_zero : count_limit (pos 0) ≡ 0
  pub five : count_limit (pos 5) ≡ 5
  pub largest : count_limit (pos 4294967295) ≡ 4294967295
  pub above_largest : count_limit (pos 4294967296) ≡ 4294967295
  pub longest : duration_limit (pos 9223372036854775807) ≡ 9223372036854775807
  pub no_duration : duration_limit (negsuc 0) ≡ 0

-- The first number is the open limit.
pub record WorkedIdleLimits : Type 0 where
  pub no_open_limit : idle_limit 0 2 ≡ 2
  pub lowered : idle_limit 1 2 ≡ 1
  pub same : idle_limit 2 2 ≡ 2
  pub not_raised : idle_limit 5 2 ≡ 2
  pub lowered_then_lifted : idle_limit 0 (idle_limit 1 2) ≡ 1

pub record WorkedExpiries : Type 0 where
  pub at_the_limit : has_expired 0 100 100 ≡ false
  pub past_the_limit : has_expired 0 100 101 ≡ true
  pub unlimited : has_expired 0 0 101 ≡ false
  pub beyond_all_moments : has_expired 18446744073709551615 1 18446744073709551615 ≡ false
  pub idle_at_the_limit : has_idled_out 101 10 111 ≡ false
  pub idle_past_the_limit : has_idled_out 101 10 112 ≡ true
  pub idle_unlimited : has_idled_out 101 0 112 ≡ false
