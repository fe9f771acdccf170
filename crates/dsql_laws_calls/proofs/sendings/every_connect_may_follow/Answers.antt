use Rattle.dsql_laws_calls.proofs.FirstAnswers.{follows_connect}
use Rattle.dsql_laws_calls.proofs.sendings.every_connect_may_follow.Goals as goal

pub returns : goal.returns
returns c = record { connect = follows_connect }
