use Rattle.dsql_script_report.proofs.replies.write_reply.Goals as goal

pub returns-in-NoNextYet : goal.returns-in-NoNextYet
returns-in-NoNextYet c = rw c.in-NoNextYet.is c.write_error-in-NoNextYet.ensures

pub returns-in-NoRows : goal.returns-in-NoRows
returns-in-NoRows c = rw c.in-NoRows.is c.write_error-in-NoRows.ensures

pub returns-in-TooMany : goal.returns-in-TooMany
returns-in-TooMany c = rw c.in-TooMany.is c.write_too_many.ensures

pub returns-in-Stats : goal.returns-in-Stats
returns-in-Stats c = rw c.in-Stats.is c.write_stats.ensures
