use Rattle.std.proofs.Common.{ap, sym, ◌∙◌}
use Rattle.dsql_hall_bonds.specs.Work.{find}
use Rattle.dsql_hall_steps.proofs.Ends.{closed, none_stopped}
use Rattle.dsql_hall_steps.proofs.hall.Hall.close.Goals as goal

pub returns-clause-well : goal.returns-clause-well
returns-clause-well g c = λ runs.
    let by = none_stopped _ _ (sym c.stopped_by-stopped.ensures ∙ runs) in
    closed _ _ _ _ c.self.invariant by.0 by.1 c.requires.own (ap (λ k. find k c.self.inside.keeper) (sym c.requires.own.conn) ∙ c.untie.ensures.was_out)
