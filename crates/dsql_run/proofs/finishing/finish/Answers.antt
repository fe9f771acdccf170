use Rattle.std.proofs.Common.{◌≡◌, ◌∙◌, true, sym}
use Rattle.dsql_run_outcome.specs.Runs.{is_cut}
use Rattle.dsql_run_outcome.proofs.Finished.{finish_none}
use Rattle.dsql_run.proofs.finishing.finish.Goals as goal

pub returns-then-is_cut-clause-wrote : goal.returns-then-is_cut-clause-wrote
returns-then-is_cut-clause-wrote g c =
    let cut : is_cut c.args.played c.args.ended ≡ true = sym c.is_cut.ensures ∙ c.if-is_cut.true in
    λ w wrote. finish_none c.args.played c.args.ended w (g.K.Sink.written c.args.output.now) c.args.shown.now c.args.player.now.past _ c.requires.same cut wrote
