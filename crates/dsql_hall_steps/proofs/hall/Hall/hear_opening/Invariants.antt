use Rattle.dsql_hall_steps.specs.House.{own_work}
use Rattle.dsql_hall_steps.proofs.hall.Hall.hear_opening.Given as goal

abbrev pub ghosts-renew : goal.ghosts-renew
ghosts-renew g a = record { work = own_work a.player.now.past }
