-- The worked journals are as their specs say.
use Rattle.std.proofs.Common.{true, [], refl}
use native.Mathlib.Omega.{arith}
use Rattle.dsql_history.specs.course.declared.course.Wish.TheVariants.{Nothing}
use Rattle.dsql_history.specs.driver.declared.answer.DriverAnswer.TheVariants.{Done}
use Rattle.dsql_history.specs.driver.declared.call.DriverCall.TheVariants.{Commit}
use Rattle.dsql_history.specs.journal.Samples.{after, begin, in_tx}
use Rattle.dsql_laws_tenures.specs.Calls.{IsLentToCall}
use Rattle.dsql_laws_tenures.specs.Connections.{IsAlone, IsQuiet}
use Rattle.dsql_laws_tenures.specs.WorkedTenures.{AfterCommit, NotQuiet, NotTested, NotWhole, able, asked, committed, not_ended, was_reset}
use Rattle.dsql_laws_tenures.proofs.Alone.{alone_on}
use Rattle.dsql_laws_tenures.proofs.TenureQuiet.{alone_first, quiet_again, quiet_opened}

begun_alone : IsAlone 1 2 not_ended
begun_alone = alone_on 1 2 (after []) (in_tx 1 begin Done) (alone_first 1 2 (after []) (quiet_opened 1) (omega arith)) refl refl refl

committed_quiet : IsQuiet 1 committed
committed_quiet = quiet_again 1 1 2 committed (alone_on 1 2 not_ended (in_tx 2 Commit Done) begun_alone refl refl refl) (record { beginning = refl; owner = refl }) refl refl refl

was_lent : IsLentToCall able true asked 1 3 3 was_reset committed
was_lent = record {
  quiet = committed_quiet;
  above = omega arith;
  beginning = refl;
  sent = (tt, record { conn = refl; tenure = refl; owner = refl; tx = refl }, record { wish = Nothing; due = refl });
}

pub after_commit : AfterCommit
after_commit = record {
  quiet = committed_quiet;
  lent = was_lent;
  own = record { conn = refl; tenure = refl; owner = refl; tx = refl };
  due = record { wish = Nothing; due = refl };
  follows = refl;
  follows_failing = refl;
  beginning = refl;
  nothing_more = refl;
  whole = refl;
}

pub not_whole : NotWhole
not_whole = record { beginning = refl; not_whole = refl; no_call = refl; left = refl; left_open = refl; no_call_then = refl }

pub not_tested : NotTested
not_tested = record { beginning = refl; whole = refl; no_call = refl }

pub not_quiet : NotQuiet
not_quiet = record { beginning = refl; whole = refl; some = refl }
