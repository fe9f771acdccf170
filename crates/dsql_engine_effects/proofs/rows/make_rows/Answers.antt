use Rattle.std.proofs.Common.{ap, ◌∙◌}
use Rattle.dsql_history.specs.rows.declared.end.RowsEnd.TheVariants.{TxEnded}
use Rattle.dsql_history.specs.numbered.Numbered.{changed}
use Rattle.dsql_history.specs.rows.OpenRows.{was_made, ended_by}
use Rattle.dsql_history.specs.works.HandedOut.{Made}
use Rattle.dsql_engine_effects.proofs.Born.{made_now, changed_new, made_late}
use Rattle.dsql_engine_effects.proofs.rows.make_rows.Goals as goal

pub close-requires : goal.close-requires
close-requires c = ap (λ (rows : Made). was_made c.args.query rows) c.in-Ok.ensures.ok ∙ made_now c.args.query _ c.args.rows.now.rows c.requires.new

pub returns-then-late-clause-rows : goal.returns-then-late-clause-rows
returns-then-late-clause-rows c =
    c.close.ensures.rows
    ∙ (ap (λ (rows : Made). changed (ended_by TxEnded) c.args.query rows) c.in-Ok.ensures.ok
    ∙ (changed_new (ended_by TxEnded) c.args.query _ c.args.rows.now.rows c.requires.new
    ∙ made_late c.args.late c.args.query c.args.answer c.in-Cursor.cursor c.in-Cursor.columns c.args.rows.now.rows c.in-Cursor.is c.if-late.true))
