use Rattle.dsql_laws_tenures.proofs.Examples.{two_readers_are, given_again_is, opened_twice_is, out_of_order_is, no_ping_is}
use Rattle.dsql_laws_tenures.proofs.worked.worked_tenures.Goals as goal

pub returns : goal.returns
returns c = record { readers = two_readers_are; again = given_again_is; twice = opened_twice_is; order = out_of_order_is; ping = no_ping_is }
