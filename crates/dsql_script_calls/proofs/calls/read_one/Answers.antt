use Rattle.dsql_script_calls.proofs.FirstWords.{first_two_words}
use Rattle.dsql_script_calls.proofs.calls.read_one.Goals as goal

pub returns-in-len2-up : goal.returns-in-len2-up
returns-in-len2-up c =
    let words = first_two_words c.args.words.now _ c.in-len2-up.len_at_least in
    rw words c.read_into.ensures
