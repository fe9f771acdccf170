use Rattle.std.proofs.Common.{◌==◌, not, List, ◌∙◌, ap, sym}
use Rattle.std.specs.List.{list_any}
use Rattle.dsql_tenure_asked.specs.declared.live.Handle.{Handle}
use Rattle.dsql_tenure.proofs.Answered.{no_handle}
use Rattle.dsql_tenure.proofs.tables.Tables.gives_new_handle.Goals as goal

pub returns-in-Some : goal.returns-in-Some
returns-in-Some c =
    ap not c.has_handle.ensures
    ∙ ap (λ (hs : List Handle). not (list_any (λ h. h.number == c.in-Some.number) hs)) c.deref.ensures.value
    ∙ no_handle c.args.self.now c.requires c.args.entry.now.answer c.in-Some.number (sym c.in-Some.ensures)
