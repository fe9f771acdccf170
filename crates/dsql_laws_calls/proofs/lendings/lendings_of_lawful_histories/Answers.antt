use Rattle.dsql_laws_calls.proofs.lendings.lendings_of_lawful_histories.Goals as goal
use Rattle.dsql_laws_calls.proofs.Owners.{owner_is_of, lent_number, lent_asks, at_home}
use Rattle.dsql_laws_calls.proofs.Lent.{stays_lent}

pub returns-clause-owner : goal.returns-clause-owner
returns-clause-owner c = owner_is_of

pub returns-clause-numbered : goal.returns-clause-numbered
returns-clause-numbered c = lent_number

pub returns-clause-asks : goal.returns-clause-asks
returns-clause-asks c = lent_asks

pub returns-clause-home : goal.returns-clause-home
returns-clause-home c = at_home

pub returns-clause-stays : goal.returns-clause-stays
returns-clause-stays c = stays_lent
