use Rattle.std.proofs.Common.{◌∙◌}
use Rattle.sqlite_driver.proofs.statements.inputs.Goals as goal

pub returns-in-Ok-clause-compiles : goal.returns-in-Ok-clause-compiles
returns-in-Ok-clause-compiles g c = λ clean. record {
  outline = c.in_ok-statement.statement;
  outlines = c.in_ok-statement.ensures.outlines clean;
  inputs_are = c.in-Ok.ensures.1 ∙ c.parameter_count.ensures;
  unchanged = c.in_ok-statement.ensures.unchanged clean;
}
