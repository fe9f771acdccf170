use Rattle.dsql_laws_tenures.proofs.LinesKept.{lines_first, lines_sent, lines_stepless, lines_elsewhere, lines_more, lines_once, lines_prepare_once}
use Rattle.dsql_laws_tenures.proofs.laws.what_is_due_keeps_the_lines.Goals as goal

pub returns : goal.returns
returns c = record { first = lines_first; sent = lines_sent; stepless = lines_stepless; elsewhere = lines_elsewhere; more = lines_more; once = lines_once; prepares = lines_prepare_once }
