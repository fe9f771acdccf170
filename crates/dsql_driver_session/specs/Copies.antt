-- An answer in two copies.
use Rattle.dsql_driver.specs.declared.answer.DriverAnswer.{DriverAnswer}
use Rattle.dsql_driver.specs.declared.wire.Answered.{Answered}

abbrev pub copies_of : DriverAnswer → Answered
copies_of answer = record { answer = answer; copy = answer }
