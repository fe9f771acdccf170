use Rattle.std.proofs.Common.{◌∙◌}
use Rattle.dsql_history.specs.driver.declared.answer.DriverAnswer.TheVariants.{Row}
use Rattle.dsql_engine_effects.proofs.Fetched.{shows, stays_over, closed_over}
use Rattle.dsql_engine_effects.proofs.rows.show_row.Goals as goal

pub returns-in-Ok-clause-rows : goal.returns-in-Ok-clause-rows
returns-in-Ok-clause-rows c = c.in-Ok.ensures.ok ∙ shows c.args.values c.args.query c.args.rows.now.rows c.in-Ok.ensures.live

pub returns-in-Err-clause-rows : goal.returns-in-Err-clause-rows
returns-in-Err-clause-rows c =
    c.in-Err.ensures.err
    ∙ stays_over (Row c.args.values) c.args.query c.args.rows.now.rows (closed_over c.args.query c.args.rows.now.rows c.in-Err.field-0 c.in-Err.ensures.closed)
