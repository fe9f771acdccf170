use Rattle.std.proofs.Common.{sym, ◌∙◌}
use Rattle.std.specs.Str.{bytes_eq}
use Rattle.dsql_script_calls.proofs.LineWords.{pointwise-map}
use Rattle.dsql_script_reader.proofs.head.are_equal.Goals as goal

pub returns : goal.returns
returns c = c.eq.ensures ∙ sym (pointwise-map bytes_eq (λ w. w.now) c.args.names.now c.args.words.now)
