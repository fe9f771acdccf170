use Rattle.std.proofs.Common.{ap, ◌∙◌}
use Rattle.dsql_hall_bonds.specs.Work.{find, without}
use Rattle.dsql_hall_bonds.proofs.Finding.{find_without}
use Rattle.dsql_hall_steps.specs.Halls.{house}
use Rattle.dsql_hall_steps.proofs.returning.renew.Goals as goal

pub tie-requires-clause-free : goal.tie-requires-clause-free
tie-requires-clause-free g c κs within =
    ap (λ w. find w.conn c.untie.new.self) c.requires.work
    ∙ (ap (find house) (c.untie.ensures.now ∙ ap (λ k. without k c.args.keeper.now) c.requires.own) ∙ find_without house c.args.keeper.now)
