use Rattle.std.proofs.Common.{◌==◌, not, List, ◌∙◌, ap}
use Rattle.std.specs.List.{list_all}
use Rattle.dsql_tenure_asked.specs.declared.live.Cursor.{Cursor}
use Rattle.dsql_tenure.proofs.TableFacts.{no_cursor_of}
use Rattle.dsql_tenure.proofs.tables.Tables.has_no_cursor_of.Goals as goal

pub returns : goal.returns
returns c =
    c.no_cursor_of_transaction.ensures
    ∙ ap (λ (cs : List Cursor). list_all (λ x. not (x.tx == c.args.number)) cs) c.deref.ensures.value
    ∙ no_cursor_of c.args.self.now c.requires c.args.number
