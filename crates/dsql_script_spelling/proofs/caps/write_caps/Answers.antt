use Rattle.std.proofs.Common.{ℕ, List, ap, map, subst, ◌∙◌}
use Rattle.dsql_script_spelling.specs.LineValues.{texts_data}
use Rattle.dsql_script_spelling.specs.Spelling.{Spells}
use Rattle.dsql_script_spelling.proofs.caps.write_caps.Goals as goal

pub returns : goal.returns
returns c =
    let P : List (List ℕ) → Type 0 = λ names. Spells c.write_names.result c.args.json.now c.write_names.new.json (texts_data names) in
    subst P (ap (λ ns. map (λ n. n.now) ns) c.as_slice.ensures.value ∙ c.in_ok-names.ensures) c.write_names.ensures
