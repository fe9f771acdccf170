use Rattle.dsql_laws_tenures.proofs.TenureExamples.{after_commit, not_quiet, not_tested, not_whole}
use Rattle.dsql_laws_tenures.proofs.worked_tenures.worked_connections.Goals as goal

pub returns : goal.returns
returns c = record { after_commit = after_commit; not_whole = not_whole; not_tested = not_tested; not_quiet = not_quiet }
