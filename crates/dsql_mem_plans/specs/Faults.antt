-- How often a wire or a fleet answered with a fault.
use Rattle.std.specs.Prelude.{ℕ, if◌then◌else◌}
use Rattle.dsql_driver.specs.Fits.{is_fault}
use Rattle.dsql_driver.specs.Streams.{one_more}
use Rattle.dsql_driver.specs.declared.answer.DriverAnswer.{DriverAnswer}

-- Returns a count of faults after an answer.
abbrev pub faults_after : ℕ → DriverAnswer → ℕ
faults_after faults answer = if is_fault answer then one_more faults else faults
