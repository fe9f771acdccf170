use Rattle.dsql_laws_tenures.proofs.BeginKeeps.{begin_begins, begin_keeps, whole_line}
use Rattle.dsql_laws_tenures.proofs.begins.what_a_begin_sends_keeps_its_tenure.Goals as goal

pub returns : goal.returns
returns c = record { sent = begin_keeps; begun = begin_begins; line = whole_line }
