-- Counts and sums.
use Rattle.std.specs.Prelude.{ℕ, min, ◌+◌, ◌-◌, Option, Some, None}
use Rattle.dsql_wait.specs.declared.request.Request.{Request}
use Rattle.dsql_pool.specs.declared.moves.CloseCause.{CloseCause}
use Rattle.dsql_pool.specs.declared.moves.CloseCause.TheVariants.{IdleFull, Lifetime, IdleTime}
use Rattle.dsql_pool.specs.declared.stats.Counts.{Counts}

abbrev pub largest_total : ℕ
largest_total = 18446744073709551615

-- Returns a count or a sum, or the largest value of its type if it is above that.
abbrev pub saturated : ℕ → ℕ
saturated n = min n largest_total

abbrev pub no_counts : Counts
no_counts = record { waits = 0; waited = 0; idle_full = 0; idle_time = 0; lifetime = 0 }

-- Returns the counts with one more connection closed for this cause.
abbrev pub closed_for : CloseCause → Counts → Counts
closed_for IdleFull counts = record counts { idle_full = saturated (counts.idle_full + 1) }
closed_for IdleTime counts = record counts { idle_time = saturated (counts.idle_time + 1) }
closed_for Lifetime counts = record counts { lifetime = saturated (counts.lifetime + 1) }
closed_for _ counts = counts

-- Returns the counts with one more request that waits.
abbrev pub one_waits : Counts → Counts
one_waits counts = record counts { waits = saturated (counts.waits + 1) }

-- Returns the time waited, with the wait of a request that ends now.
abbrev pub with_wait : ℕ → ℕ → Request → ℕ
with_wait moment waited request = saturated (waited + (moment - request.asked))

-- Returns the counts with the wait of this request, if there is one, ended now.
abbrev pub wait_over : ℕ → Option Request → Counts → Counts
wait_over moment None counts = counts
wait_over moment (Some request) counts = record counts { waited = with_wait moment counts.waited request }
