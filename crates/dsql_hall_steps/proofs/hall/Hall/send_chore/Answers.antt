use Rattle.dsql_player.proofs.Tidied.{no_connect, no_shut}
use Rattle.dsql_hall_steps.proofs.hall.Hall.send_chore.Goals as goal

pub unreachable-requires : goal.unreachable-requires
unreachable-requires g c = c.requires.kind (no_connect c.args.permit.call c.in_default.not-Connect) (no_shut c.args.permit.call c.in_default.not-Shut)
