use Rattle.std.proofs.Common.{rules, ◌≡◌, w64, to_z, of_z, ◌∙◌}
use Rattle.sqlite_driver.proofs.statements.execute.Goals as goal

pub returns : goal.returns
returns g c = λ clean by_place.
    let last : to_z w64 (of_z w64 c.last_insert_rowid.result) ≡ c.last_insert_rowid.result = search rules in
    let affected : to_z w64 (of_z w64 c.count_of.result) ≡ c.count_of.result = search rules in
    record {
      changed = c.in_ok-changed.changed;
      executes = c.in_ok-changed.ensures by_place clean;
      last_is = last ∙ c.last_insert_rowid.ensures;
      affected_is = affected ∙ c.count_of.ensures;
    }
