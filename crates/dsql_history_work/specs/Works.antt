-- Defines the work of each call.
use Rattle.std.specs.Prelude.{ℕ, Option, Some, None}

abbrev pub or_zero : Option ℕ → ℕ
or_zero None = 0
or_zero (Some n) = n
