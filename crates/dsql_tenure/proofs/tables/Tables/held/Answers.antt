use Rattle.std.proofs.Common.{◌≡◌, length, ◌∙◌, ap, arith}
use Rattle.std.proofs.lemmas.List.{length-map}
use Rattle.dsql_tenure_journal.specs.Readers.{handles, cursors}
use Rattle.dsql_tenure.specs.Tables.{past, kept_handle, kept_cursor}
use Rattle.dsql_tenure.proofs.Keeping.{keeps_of}
use Rattle.dsql_tenure.proofs.tables.Tables.held.Goals as goal

pub overflow_add-result : goal.overflow_add-result
overflow_add-result c = omega (arith, c.len.ensures.small, c.count_live.ensures.small)

pub returns : goal.returns
returns c =
    let journal = past c.args.self.now in
    let keeps = keeps_of c.args.self.now c.requires in
    let live : length c.deref.result.now ≡ length (handles journal) = ap length (c.deref.ensures.value ∙ keeps.handles) ∙ length-map (handles journal) kept_handle in
    let open_still : length c.deref-2.result.now ≡ length (cursors journal) = ap length (c.deref-2.ensures.value ∙ keeps.cursors) ∙ length-map (cursors journal) kept_cursor in
    omega (arith, c.count_live.ensures.sum, c.len.ensures.len, live, open_still, keeps.count)
