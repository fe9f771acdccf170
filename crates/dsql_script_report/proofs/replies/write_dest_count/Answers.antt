use Rattle.std.proofs.Common.{ℕ, List, [], ◌∷◌, codes, subst, ◌∙◌}
use Rattle.serde_json.specs.Data.{string}
use Rattle.dsql_script_spelling.specs.LineValues.{worded, natural}
use Rattle.dsql_script_spelling.specs.Spelling.{Spells}
use Rattle.dsql_script_report.proofs.replies.write_dest_count.Goals as goal

pub returns : goal.returns
returns c =
    let P : List ℕ → Type 0 = λ text. Spells c.write_count_error.result c.args.json.now c.write_count_error.new.json
    (worded (codes "err") (string (codes "dest_count") ∷ natural c.args.want ∷ natural c.args.got ∷ string text ∷ [])) in
    subst P (c.as_str.ensures.value ∙ c.in_ok-text.ensures) c.write_count_error.ensures
