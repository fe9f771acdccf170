use Rattle.std.proofs.Common.{sym, lit<}
use Rattle.std.proofs.lemmas.Str.{encode_ascii}
use Rattle.dsql_script_calls.proofs.ScriptClients.{is_token_without}
use Rattle.dsql_script_calls.proofs.targets.is_token.Goals as goal

pub returns-in-None : goal.returns-in-None
returns-in-None c =
    sym (is_token_without c.args.word.now (λ rest e. c.in-None.ensures.cases rest (rw (encode_ascii 64 (lit< tt)) e)))
