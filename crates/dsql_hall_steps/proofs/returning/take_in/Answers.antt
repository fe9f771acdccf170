use Rattle.dsql_hall_steps.proofs.ChoreAnswered.{only_past}
use Rattle.dsql_hall_steps.proofs.returning.take_in.Goals as goal

pub returns-clause-player : goal.returns-clause-player
returns-clause-player c =
    only_past _ _ _ _ c.requires.ready c.hear_chore.ensures.ready c.hear_chore.ensures.past c.hear_chore.ensures.flights c.hear_chore.ensures.seats c.hear_chore.ensures.released
    c.hear_chore.ensures.trimmed
