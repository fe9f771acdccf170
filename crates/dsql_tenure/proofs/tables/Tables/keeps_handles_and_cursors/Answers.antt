use Rattle.std.proofs.Common.{◌∙◌, sym}
use Rattle.dsql_tenure_journal.specs.HandlesAndCursors.{keeps_handles_and_cursors as keeps_both}
use Rattle.dsql_tenure_asked.specs.Asked.{entry_like}
use Rattle.dsql_tenure.specs.Parts.{keeps_handle, keeps_cursor}
use Rattle.dsql_tenure.specs.Tables.{past}
use Rattle.dsql_tenure.proofs.Groups.{and-then, and-else}
use Rattle.dsql_tenure.proofs.Served.{keeps_handles_and_cursors-groups}
use Rattle.dsql_tenure.proofs.tables.Tables.keeps_handles_and_cursors.Goals as goal

pub returns-then-keeps_handle : goal.returns-then-keeps_handle
returns-then-keeps_handle c =
    let j = past c.args.self.now in
    let e = entry_like c.args.asked.now in
    c.keeps_cursor.ensures
    ∙ and-then (keeps_handle j e) (keeps_cursor j e) (keeps_both j e) (keeps_handles_and_cursors-groups j e) (sym c.keeps_handle.ensures ∙ c.if-keeps_handle.true)

pub returns-else-keeps_handle : goal.returns-else-keeps_handle
returns-else-keeps_handle c =
    let j = past c.args.self.now in
    let e = entry_like c.args.asked.now in
    c.if-keeps_handle.false
    ∙ and-else (keeps_handle j e) (keeps_cursor j e) (keeps_both j e) (keeps_handles_and_cursors-groups j e) (sym c.keeps_handle.ensures ∙ c.if-keeps_handle.false)
