use Rattle.std.proofs.Common.{◌==◌, ◌||◌, not, List, ◌∙◌, ap, sym}
use Rattle.std.specs.List.{list_all}
use Rattle.dsql_tenure_asked.specs.declared.live.Cursor.{Cursor}
use Rattle.dsql_tenure.specs.MayBeAsked as may
use Rattle.dsql_tenure.proofs.Answered.{width}
use Rattle.dsql_tenure.proofs.tables.Tables.has_width_of_cursor.Goals as goal

pub returns-in-Some : goal.returns-in-Some
returns-in-Some c =
    c.is_as_wide.ensures
    ∙ ap (λ (cs : List Cursor). list_all (λ x. not (x.number == c.in-Some.number) || may.is_as_wide c.args.entry.now.answer x) cs) c.deref.ensures.value
    ∙ width c.args.self.now c.requires c.args.entry.now c.in-Some.number (sym c.in-Some.ensures)
