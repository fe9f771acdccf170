use Rattle.std.proofs.Common.{◌≡◌, ℤ, [], ◌∷◌, ◌++◌, rules, codes, decimal, w64, ap, subst, append_assoc, ◌∙◌}
use Rattle.std.proofs.lemmas.Int.{to_z-of_z}
use Rattle.std.proofs.lemmas.Result.{on_ok_weaker}
use Rattle.json.specs.Token.{begin_array, end_array, number, string}
use Rattle.dsql_script_spelling.specs.LineValues.{worded, natural, integer}
use Rattle.dsql_script_spelling.specs.Spelling.{tokens_of}
use Rattle.dsql_script_report.proofs.calls.write_prepared.Goals as goal

pub returns : goal.returns
returns c =
    let old = c.args.json.now.tokens in
    let begun = begin_array ∷ string (codes "prepared") ∷ number (decimal c.args.handle) ∷ [] in
    let inputs = tokens_of (integer c.args.inputs) in
    let P : ℤ → Type 0 = λ z. c.write_integer.new.json.tokens ≡ c.begin_numbered.new.json.tokens ++ tokens_of (integer z) in
    let written : P c.args.inputs = subst P (to_z-of_z w64 c.args.inputs (search (rules, c.ranges.inputs.sfits))) c.in_ok-write_integer.ensures.0 in
    let closed : c.end_array.new.self.tokens ≡ c.write_integer.new.json.tokens ++ end_array ∷ []
    → c.end_array.new.self.tokens ≡ old ++ tokens_of (worded (codes "prepared") (natural c.args.handle ∷ integer c.args.inputs ∷ []))
    = λ added. added ∙ ap (λ ts. ts ++ end_array ∷ []) (written ∙ ap (λ ts. ts ++ inputs) c.in_ok-begin_numbered.ensures.0)
    ∙ append_assoc (old ++ begun) inputs (end_array ∷ []) ∙ append_assoc old begun (inputs ++ end_array ∷ []) in
    (on_ok_weaker c.end_array.result closed c.end_array.ensures.ok, c.end_array.ensures.room.0 ∙ c.in_ok-write_integer.ensures.1 ∙ c.in_ok-begin_numbered.ensures.1)
