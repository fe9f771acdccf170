-- Defines what a call has in the pool.
use Rattle.std.specs.Prelude.{ℕ, ◌==◌, ◌+◌, count_by}
use Rattle.dsql_history.specs.pool.Pooled.{Pooled}
use Rattle.dsql_history.specs.Readers.Pool.{is_home}

-- Returns how many requests of call n wait.
abbrev pub waits_of : ℕ → Pooled → ℕ
waits_of n p = count_by (λ r. r.call == n) p.waiting

-- Returns how many connections are lent to call n or are being opened for it.
abbrev pub homes_of : ℕ → Pooled → ℕ
homes_of n p = count_by (λ conn. is_home n conn.place) p.conns

-- Returns how many requests and connections call n has in the pool.
abbrev pub holdings : ℕ → Pooled → ℕ
holdings n p = waits_of n p + homes_of n p
