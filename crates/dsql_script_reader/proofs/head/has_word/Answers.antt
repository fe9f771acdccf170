use Rattle.std.proofs.Common.{sym, ◌∙◌}
use Rattle.std.specs.Str.{bytes_eq}
use Rattle.dsql_script_calls.proofs.LineWords.{list_any-map}
use Rattle.dsql_script_reader.proofs.head.has_word.Goals as goal

pub returns : goal.returns
returns c = c.contains.ensures.value ∙ sym (list_any-map (λ word. bytes_eq word c.args.name.now) (λ w. w.now) c.args.words.now)
