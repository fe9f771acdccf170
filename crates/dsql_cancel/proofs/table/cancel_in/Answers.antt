use Rattle.std.proofs.Common.{◌∙◌, sym}
use Rattle.dsql_cancel.proofs.Search.{made_at, runs_at, canceled_at, not_made_in_gap}
use Rattle.dsql_cancel.proofs.table.cancel_in.Goals as goal

pub returns-in-Ok-clause-after : goal.returns-in-Ok-clause-after
returns-in-Ok-clause-after c = rw c.stopped-entry.ensures (canceled_at c.args.name.now c.args.table.now c.requires c.in-Ok.at c.in-Ok.ensures.found c.index-table-at.result)

pub returns-in-Ok-clause-ran : goal.returns-in-Ok-clause-ran
returns-in-Ok-clause-ran c = c.runs-ran.ensures ∙ sym (runs_at c.args.name.now c.args.table.now c.requires c.in-Ok.at c.in-Ok.ensures.found c.index-table-at.result)

pub returns-in-Ok-clause-made : goal.returns-in-Ok-clause-made
returns-in-Ok-clause-made c = made_at c.args.name.now c.args.table.now c.requires c.in-Ok.at c.in-Ok.ensures.found

pub returns-in-Err-clause-none : goal.returns-in-Err-clause-none
returns-in-Err-clause-none c = not_made_in_gap c.args.name.now c.args.table.now c.in-Err.field-0 c.in-Err.ensures.absent
