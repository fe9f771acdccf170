-- Defines how many events a history may have.
use Rattle.std.specs.Prelude.{ℕ}

-- Returns the bound on the events at the begin of a step. Steps are proved for fewer events than this, so that
-- the events which a step appends can still be counted.
abbrev pub most_within_a_step : ℕ
most_within_a_step = 5000000
