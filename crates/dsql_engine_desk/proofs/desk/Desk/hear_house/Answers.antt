use Rattle.dsql_laws_calls.specs.history.Legal.{Allowed}
use Rattle.dsql_laws_calls.specs.history.Readers.Pool.{place, pool}
use Rattle.dsql_engine_desk.specs.Desk.{past}
use Rattle.dsql_engine_desk.proofs.HouseCalls.{opened_for_no_call}
use Rattle.dsql_engine_desk.proofs.Present.{few_openings}
use Rattle.dsql_engine_desk.proofs.desk.Desk.hear_house.Goals as goal

pub answer-requires-clause-drawn : goal.answer-requires-clause-drawn
answer-requires-clause-drawn c = few_openings c.args.self.now c.requires.may.stands c.requires.may.few

pub add_house_answer-requires-clause-house : goal.add_house_answer-requires-clause-house
unfolding Allowed
add_house_answer-requires-clause-house c =
    let H = past c.args.self.now in
    opened_for_no_call c.args.entry (pool H) (place H c.args.entry.conn) c.requires.may.allowed.sets c.requires.opens
