use Rattle.dsql_scan.proofs.TableLaws.{memory_is_no_answer}
use Rattle.dsql_scan.proofs.laws.memory_is_no_answer_of_the_table.Goals as goal

pub returns : goal.returns
returns c = memory_is_no_answer
