use Rattle.std.proofs.Common.{ap}
use Rattle.dsql_engine_laws.specs.driver.Kinds.{is_connect, is_shut}
use Rattle.dsql_player.proofs.Tidied.{no_connect, no_shut}
use Rattle.dsql_player.proofs.chores.make_chore.Goals as goal

pub open-requires-clause-opens : goal.open-requires-clause-opens
open-requires-clause-opens g c = λ κs h. ap is_connect c.in-Connect.is

pub shut-requires-clause-shuts : goal.shut-requires-clause-shuts
shut-requires-clause-shuts g c = λ κs h. ap is_shut c.in-Shut.is

pub tidy-requires-clause-opens : goal.tidy-requires-clause-opens
tidy-requires-clause-opens g c = λ κs h. no_connect c.args.permit.call c.in_default.not-Connect

pub tidy-requires-clause-shuts : goal.tidy-requires-clause-shuts
tidy-requires-clause-shuts g c = λ κs h. no_shut c.args.permit.call c.in_default.not-Shut
