use Rattle.std.proofs.Common.{◌∙◌}
use Rattle.dsql_cancel.proofs.Search.{made_at, not_made_in_gap, with_token_in_gap, on_ok}
use Rattle.dsql_cancel.proofs.table.add.Goals as goal
use Rattle.dsql_cancel.proofs.table.add.Goals.{in-Ok-insert, in-Err-insert}

pub returns-in-Ok-clause-exists : goal.returns-in-Ok-clause-exists
returns-in-Ok-clause-exists c told = made_at c.args.name c.args.table.now.items c.requires c.in-Ok.field-0 (rw c.deref.ensures.value at c.in-Ok.ensures.found)

pub returns-clause-ok : goal.returns-clause-ok
returns-clause-ok c =
    elim c.match-insert.branch [
      | in-Ok-insert w ↦ rw w.result-is (w.in-Ok-insert.ensures.items ∙ with_token_in_gap c.args.name c.args.token c.args.table.now.items c.in-Err.at (rw c.deref.ensures.value at c.in-Err.ensures.absent))
      | in-Err-insert w ↦ rw w.result-is tt
    ]

pub returns-clause-fresh : goal.returns-clause-fresh
returns-clause-fresh c = on_ok c.match-insert.result (not_made_in_gap c.args.name c.args.table.now.items c.in-Err.at (rw c.deref.ensures.value at c.in-Err.ensures.absent))

pub returns-clause-full : goal.returns-clause-full
returns-clause-full c =
    elim c.match-insert.branch [
      | in-Ok-insert w ↦ rw w.result-is tt
      | in-Err-insert w ↦ rw w.result-is (λ told. (not_made_in_gap c.args.name c.args.table.now.items c.in-Err.at (rw c.deref.ensures.value at c.in-Err.ensures.absent), w.in-Err-insert.ensures.full))
    ]
