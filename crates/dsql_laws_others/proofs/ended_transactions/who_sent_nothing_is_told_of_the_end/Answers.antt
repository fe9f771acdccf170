use Rattle.dsql_laws_others.proofs.ToldEnd.{replies_end, rows_end, stands_end}
use Rattle.dsql_laws_others.proofs.ended_transactions.who_sent_nothing_is_told_of_the_end.Goals as goal

pub returns-clause-told : goal.returns-clause-told
returns-clause-told c = λ history client n m k op l ends now apart u inner silent none.
    replies_end history client n op m k (record { lawful = l; ends = ends; now = now; apart = apart; unfinished = u; inner = inner; silent = silent; undecided = none })

pub returns-clause-stands : goal.returns-clause-stands
returns-clause-stands c = λ history client n m k op l ends now apart u inner silent none.
    stands_end history client n op m k (record { lawful = l; ends = ends; now = now; apart = apart; unfinished = u; inner = inner; silent = silent; undecided = none })

pub returns-clause-rows : goal.returns-clause-rows
returns-clause-rows c = λ history client n j k op. rows_end history client n op j k
