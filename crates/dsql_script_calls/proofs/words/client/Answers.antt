use Rattle.std.proofs.Common.{sym, lit<}
use Rattle.std.proofs.lemmas.Str.{encode_ascii}
use Rattle.dsql_script_calls.proofs.ScriptClients.{client_of_without}
use Rattle.dsql_script_calls.proofs.words.client.Goals as goal

pub returns-in-None : goal.returns-in-None
returns-in-None c =
    sym (client_of_without c.args.word.now (λ rest e. c.in-None.ensures.cases rest (rw (encode_ascii 99 (lit< tt)) e)))
