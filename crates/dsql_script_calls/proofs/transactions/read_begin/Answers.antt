use Rattle.std.specs.Option.{option_copied}
use Rattle.dsql_script_calls.proofs.FirstWords.{first_two_words}
use Rattle.dsql_script_calls.proofs.Begins.{begin_of_fewer}
use Rattle.dsql_script_calls.proofs.transactions.read_begin.Goals as goal

pub returns-in-len2-up : goal.returns-in-len2-up
returns-in-len2-up c =
    let words = first_two_words c.args.words.now _ c.in-len2-up.len_at_least in
    rw words c.read_begin_as.ensures

pub returns-in_default : goal.returns-in_default
returns-in_default c = λ _. begin_of_fewer c.args.words.now (option_copied c.args.array) c.in_default.len_below
