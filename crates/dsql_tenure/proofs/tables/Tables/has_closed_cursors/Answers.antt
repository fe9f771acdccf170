use Rattle.std.proofs.Common.{◌==◌, not, List, ◌∙◌, ap}
use Rattle.std.specs.List.{list_all}
use Rattle.dsql_tenure_asked.specs.declared.live.Cursor.{Cursor}
use Rattle.dsql_tenure.proofs.TableFacts.{closed_cursors}
use Rattle.dsql_tenure.proofs.tables.Tables.has_closed_cursors.Goals as goal

pub returns : goal.returns
returns c =
    c.no_cursor_of_tenure.ensures
    ∙ ap (λ (cs : List Cursor). list_all (λ x. not (x.tenure == c.args.number)) cs) c.deref.ensures.value
    ∙ closed_cursors c.args.self.now c.requires c.args.number
