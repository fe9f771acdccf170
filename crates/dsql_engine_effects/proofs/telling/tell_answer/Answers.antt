use Rattle.std.proofs.Common.{sym, ap, subst, ◌∙◌, refl}
use Rattle.dsql_engine_calls.specs.declared.call.CallRow.{CallRow}
use Rattle.dsql_engine_calls.specs.Calls.{row_at}
use Rattle.dsql_engine_calls.specs.Tried.{number}
use Rattle.dsql_engine_effects.specs.Heard.{HearsRows, call_row_after}
use Rattle.dsql_engine_calls.proofs.CallRows.{same_at}
use Rattle.dsql_engine_effects.proofs.telling.tell_answer.Goals as goal

pub note_rows-requires-clause-rows : goal.note_rows-requires-clause-rows
note_rows-requires-clause-rows c =
    let e = c.args.entry.now in
    let n = e.call_no in
    let calls = c.args.calls.now.items in
    let w = (row_at calls n).work in
    subst (λ it. HearsRows it n e.call c.args.rows.now.rows)
    (sym (ap (λ rs. (row_at rs n).work) c.decide.ensures.items ∙ same_at (λ (row : CallRow). row.work) (call_row_after (number (row_at calls n).tried) w e) n calls n (λ row. refl))) c.requires.rows
