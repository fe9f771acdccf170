use Rattle.dsql_laws_ends.proofs.Steps.{entry_client, entry_ended, entry_its, entry_made, entry_made_others, entry_others}
use Rattle.dsql_laws_ends.proofs.clients.an_entry_touches_no_other_client.Goals as goal

pub returns-clause-others : goal.returns-clause-others
returns-clause-others c = entry_others

pub returns-clause-its : goal.returns-clause-its
returns-clause-its c = entry_its

pub returns-clause-client : goal.returns-clause-client
returns-clause-client c = entry_client

pub returns-clause-made : goal.returns-clause-made
returns-clause-made c = entry_made

pub returns-clause-made_by_others : goal.returns-clause-made_by_others
returns-clause-made_by_others c = entry_made_others

pub returns-clause-ended : goal.returns-clause-ended
returns-clause-ended c = entry_ended
