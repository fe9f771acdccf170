use Rattle.std.proofs.Common.{◌==◌, not, List, ◌∙◌, ap, sym}
use Rattle.std.specs.List.{list_any}
use Rattle.dsql_tenure_asked.specs.declared.live.Cursor.{Cursor}
use Rattle.dsql_tenure.proofs.Answered.{no_cursor}
use Rattle.dsql_tenure.proofs.tables.Tables.gives_new_cursor.Goals as goal

pub returns-in-Some : goal.returns-in-Some
returns-in-Some c =
    ap not c.has_cursor.ensures
    ∙ ap (λ (cs : List Cursor). not (list_any (λ x. x.number == c.in-Some.number) cs)) c.deref.ensures.value
    ∙ no_cursor c.args.self.now c.requires c.args.entry.now.answer c.in-Some.number (sym c.in-Some.ensures)
