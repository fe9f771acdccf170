-- What the limits mean, as laws.
use Rattle.std.specs.Prelude.{◌≡◌, ◌↔◌, true, false, ℕ, pos, negsuc, ◌+◌, ◌<◌, ◌≤◌, Bool}
use Rattle.dsql_time.specs.Limits.{largest_count, count_limit, idle_limit}

-- Holds if a count is kept as it is up to the largest, and no further.
pub record CountsAreHeld : Type 0 where
  pub kept : (n : ℕ) → n ≤ largest_count → count_limit (pos n) ≡ n
  pub capped : (n : ℕ) → largest_count ≤ n → count_limit (pos n) ≡ largest_count
  pub none : (n : ℕ) → count_limit (negsuc n) ≡ 0

-- Holds if the idle limit beside an open limit is the greatest that exceeds neither its former value nor a
-- positive open limit.
pub record IdleIsLowered : Type 0 where
  pub not_raised : (most idle : ℕ) → idle_limit most idle ≤ idle
  pub under_open : (most idle : ℕ) → 0 < most → idle_limit most idle ≤ most
  pub no_lower_than_it_must : (most idle other : ℕ) → other ≤ idle → (0 < most → other ≤ most)
      → other ≤ idle_limit most idle

-- Holds if an idle limit that an open limit lowered stays as low when the open limit is raised or lifted.
pub record IdleStaysLowered : Type 0 where
  pub when_raised : (low high idle : ℕ) → 0 < low → low ≤ high → idle_limit high (idle_limit low idle)
      ≡ idle_limit low idle
  pub when_lifted : (low idle : ℕ) → idle_limit 0 (idle_limit low idle) ≡ idle_limit low idle

-- Holds if a test of three moments is true exactly if strictly more than a positive limit has gone by.
pub record IsStrict (test : ℕ → ℕ → ℕ → Bool) : Type 0 where
  pub means : (since limit now : ℕ) → (test since limit now ≡ true) ↔ ((0 < limit) × (since + limit < now))
  pub not_at_the_limit : (since limit : ℕ) → test since limit (since + limit) ≡ false
  pub unlimited : (since now : ℕ) → test since 0 now ≡ false
  pub once_and_for_all : (since limit now later : ℕ) → now ≤ later → test since limit now ≡ true
      → test since limit later ≡ true
