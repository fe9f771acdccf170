use Rattle.std.proofs.Common.{sym}
use Rattle.dsql_mem_session.proofs.WordLemmas.{statement_of_parts-many, words_of-some}
use Rattle.dsql_mem_session.proofs.statement.Statement.parse.Goals as goal

pub returns-in-Some-split_word : goal.returns-in-Some-split_word
returns-in-Some-split_word c =
    rw (c.in_ok-verb.ensures, c.in-Some.ensures, c.in-Some-split_word.ensures)
    (sym (statement_of_parts-many c.in_ok-verb.verb.now c.in-Some.key.now c.in-Some-split_word.field-0.0.now _ (words_of-some c.in-Some-split_word.field-0.1.now)))
