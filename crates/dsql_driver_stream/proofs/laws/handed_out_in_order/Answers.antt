use Rattle.dsql_driver_stream.proofs.AllLines.{uncut_first, cut_where_long}
use Rattle.dsql_driver_stream.proofs.laws.handed_out_in_order.Goals as goal

pub returns-clause-uncut : goal.returns-clause-uncut
returns-clause-uncut c = uncut_first

pub returns-clause-cut : goal.returns-clause-cut
returns-clause-cut c = cut_where_long
