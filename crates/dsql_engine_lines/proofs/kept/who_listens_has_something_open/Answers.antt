use Rattle.dsql_engine_lines.proofs.Listening.{standing, Standing}
use Rattle.dsql_engine_lines.proofs.kept.who_listens_has_something_open.Goals as goal

pub returns-clause-listens : goal.returns-clause-listens
returns-clause-listens c history n = Standing.open_so (standing history) n

pub returns-clause-once : goal.returns-clause-once
returns-clause-once c history = Standing.once (standing history)
