-- Counts of faults, and what a read takes.
use Rattle.std.specs.Prelude.{ℕ, ◌≡◌, ◌+◌, ◌<◌, ◌≤◌, Bool, ◌||◌, nat_lt, nat_le, IsTrue, List, [], length, min, take, drop, Option, Some, None}

-- Returns the largest value of a count. A count stays there after reaching it.
abbrev pub last_count : ℕ
last_count = 18446744073709551615

-- Returns one more than a count, or the largest value if the count is already there.
abbrev pub one_more : ℕ → ℕ
one_more n = min (n + 1) last_count

-- Is true if the count rose. A count at its largest value counts as risen.
abbrev pub has_risen : ℕ → ℕ → Bool
has_risen before after = nat_lt before after || nat_le last_count after

abbrev pub HasRisen : ℕ → ℕ → Type 0
HasRisen before after = IsTrue (has_risen before after)

-- Holds if the read took the first n bytes that were left into the front of the buffer, and the rest is left.
-- If the buffer isn't empty, n = 0 means the end.
pub record TakesFront (n : ℕ) (before : List ℕ) (after : Option (List ℕ)) (buf : List ℕ) : Type 0 where
  pub enough : n ≤ length before
  pub front : take n buf ≡ take n before
  pub rest : after ≡ Some (drop n before)
  pub end : 0 < length buf → n ≡ 0 → before ≡ []

abbrev pub Takes : ℕ → Option (List ℕ) → Option (List ℕ) → List ℕ → Type 0
Takes n None after buf = after ≡ None
Takes n (Some before) after buf = TakesFront n before after buf
