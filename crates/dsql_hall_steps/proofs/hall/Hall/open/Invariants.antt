use Rattle.dsql_hall_steps.specs.House.{own_work}
use Rattle.dsql_hall_steps.proofs.hall.Hall.open.Given as goal

abbrev pub ghosts-tie_own : goal.ghosts-tie_own
ghosts-tie_own g a = record { work = own_work a.player.now.past }
