use Rattle.dsql_player.proofs.Stepped.{house_stepped}
use Rattle.dsql_player.proofs.single.step_house.Goals as goal

pub returns-clause-carries : goal.returns-clause-carries
returns-clause-carries g c = λ m at. house_stepped c.in_ok-make_first_chore.field-0 m c.args.player.now c.make_first_chore.new.player c.in_ok-make_first_chore.ensures.makes at
