use Rattle.dsql_laws_answers.proofs.House.{answer_carried}
use Rattle.dsql_laws_answers.proofs.serving.an_answer_of_the_layer_serves_or_tells.Goals as goal

pub returns-clause-used : goal.returns-clause-used
returns-clause-used c = λ history e l off. let it = answer_carried history e l off in it.used

pub returns-clause-somewhere : goal.returns-clause-somewhere
returns-clause-somewhere c = λ history e k l off. let it = answer_carried history e l off in it.somewhere k
