use Rattle.std.proofs.Common.{ℕ, List, [], ◌∷◌, codes, map, subst}
use Rattle.serde_json.specs.Data.{string}
use Rattle.dsql_script_spelling.specs.LineValues.{list_data, worded, natural}
use Rattle.dsql_script_spelling.specs.Spelling.{Spells}
use Rattle.dsql_script_report.proofs.replies.write_stats.Goals as goal

pub returns : goal.returns
returns c =
    let P : List ℕ → Type 0 = λ numbers. Spells c.write_counted.result c.args.json.now c.write_counted.new.json
    (worded (codes "ok") (string (codes "stats") ∷ list_data (map natural numbers) ∷ [])) in
    subst P c.numbers_of-numbers.ensures c.write_counted.ensures
