-- The worked tenures are as their specs say.
use Rattle.std.proofs.Common.{refl}
use Rattle.dsql_laws_tenures.specs.Worked.{GivenAgain, NoPing, OpenedTwice, OutOfOrder, TwoReaders}

pub two_readers_are : TwoReaders
two_readers_are = record {
  goes_on = record {
    begun = record { tenure = record { beginning = refl; owner = refl }; begun = refl };
    one_connection = refl;
    under_way = refl;
    not_ended = refl;
    not_tested = refl;
    not_refused = refl;
    not_shut = refl;
  };
  first = refl;
  second = refl;
  in_order = refl;
  fetched = refl;
  closed = refl;
  fetch_follows = refl;
  close_follows = refl;
  no_end = refl;
}

pub given_again_is : GivenAgain
given_again_is = record { beginning = refl; old = refl; closing = refl; new = refl }

pub opened_twice_is : OpenedTwice
opened_twice_is = record { beginning = refl; twice = refl; live = refl; not_had = refl; no_end = refl }

pub out_of_order_is : OutOfOrder
out_of_order_is = record { beginning = refl; order = refl; run = refl; refused = refl }

pub no_ping_is : NoPing
no_ping_is = record { beginning = refl; ping = refl; refused = refl }
