use Rattle.std.proofs.Common.{◌∙◌}
use Rattle.dsql_tenure.proofs.TableFacts.{left_whole}
use Rattle.dsql_tenure.proofs.tables.Tables.is_whole_tenure.Goals as goal

pub returns : goal.returns
returns c =
    c.could_end.ensures
    ∙ rw (c.deref.ensures.value, c.deref-2.ensures.value, c.deref-3.ensures.value, c.went_bad.ensures)
    (left_whole c.args.self.now c.requires.stands c.args.number c.requires.last)
