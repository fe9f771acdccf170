use Rattle.std.proofs.Common.{◌≡◌, ap, ◌∙◌}
use Rattle.sqlite.specs.Values.{bound}
use Rattle.sqlite_driver.specs.Values.{sql_values}
use Rattle.sqlite_driver.proofs.ValueLemmas.{bound-values}
use Rattle.sqlite_driver.proofs.statements.ask.Goals as goal

pub returns-clause-shown : goal.returns-clause-shown
returns-clause-shown g c = λ clean.
    let values : bound c.as_slice.result.now ≡ sql_values c.args.params.now = ap bound c.as_slice.ensures.value ∙ bound-values _ _ c.in_ok-values.ensures in
    rw values at (c.in_ok-rows.ensures.ok clean)
