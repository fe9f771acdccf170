use Rattle.dsql_laws_ends.proofs.Whose.{busy_own, busy_unfinished, busy_with, free_idle}
use Rattle.dsql_laws_ends.proofs.clients.a_busy_client_has_a_call.Goals as goal

pub returns-clause-busy : goal.returns-clause-busy
returns-clause-busy c = busy_with

pub returns-clause-unfinished : goal.returns-clause-unfinished
returns-clause-unfinished c = busy_unfinished

pub returns-clause-own : goal.returns-clause-own
returns-clause-own c = busy_own

pub returns-clause-free : goal.returns-clause-free
returns-clause-free c = free_idle
