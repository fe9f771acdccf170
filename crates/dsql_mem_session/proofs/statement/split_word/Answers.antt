use Rattle.std.proofs.Common.{lit<}
use Rattle.std.proofs.lemmas.Str.Pattern.{split_parts}
use Rattle.dsql_mem_session.proofs.WordLemmas.{words_of-parts}
use Rattle.dsql_mem_session.proofs.statement.split_word.Goals as goal

pub returns : goal.returns
returns c =
    words_of-parts c.args.text.now c.split_once.result
    (split_parts 32 c.args.text.now c.split_once.result c.split_once.ensures.cases (lit< tt))
