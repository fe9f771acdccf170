use Rattle.std.proofs.Common.{refl, ◌==◌, ◌&&◌, ◌||◌, not, List, ◌∙◌, ap}
use Rattle.std.specs.List.{list_all, list_any}
use Rattle.dsql_tenure_asked.specs.declared.live.Cursor.{Cursor}
use Rattle.dsql_tenure_asked.specs.Asked.{entry_like}
use Rattle.dsql_tenure_asked.specs.Live.{serves_cursor}
use Rattle.dsql_tenure.proofs.Served.{cursor_served}
use Rattle.dsql_tenure.proofs.tables.Tables.keeps_cursor.Goals as goal

pub returns-in-Some : goal.returns-in-Some
returns-in-Some c =
    let t = c.args.self.now in
    let e = entry_like c.args.asked.now in
    c.serves_cursor.ensures
    ∙ ap (λ (hs : List Cursor). list_any (λ h. h.number == c.in-Some.number) hs && list_all (λ h. not (h.number == c.in-Some.number) || serves_cursor h e) hs) c.deref.ensures.value
    ∙ cursor_served t c.requires e c.in-Some.number
    ∙ rw (← c.in-Some.ensures) refl
