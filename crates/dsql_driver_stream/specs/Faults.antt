-- How often a stream failed, and that nothing comes after a fault.
use Rattle.std.specs.Prelude.{◌≡◌, ℕ, ◌≤◌, Bool, true, false}
use Rattle.dsql_driver.specs.declared.stream.Sink.{Ghosts}
use Rattle.dsql_driver.specs.Streams.{HasRisen}

-- Holds if a stream's count of faults rose when a fault stopped the work, and stayed the same when none did.
pub record CountsFaults (faulty : Bool) (before after : ℕ) : Type 0 where
  pub caused : faulty ≡ true → HasRisen before after
  pub counted : before ≤ after
  pub faultless : faulty ≡ false → after ≡ before

-- Holds if a sink that failed was given up: it holds what it held when it last stood without a fault.
pub record GivenUp {K : Type 0} (sink : Ghosts K) (before after : K) : Type 0 where
  pub last : K
  pub well : sink.faults last ≡ sink.faults before
  pub kept : sink.written after ≡ sink.written last
