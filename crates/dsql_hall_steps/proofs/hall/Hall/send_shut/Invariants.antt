use Rattle.dsql_hall_steps.proofs.hall.Hall.send_shut.Given as goal

abbrev pub ghosts-tie : goal.ghosts-tie
ghosts-tie g a = record { work = record { conn = a.permit.now.conn; permit = a.permit.now; past = a.player.now.past } }
