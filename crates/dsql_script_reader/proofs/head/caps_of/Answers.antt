use Rattle.std.proofs.Common.{◌≡◌, Some, refl, sym, ap, ◌∙◌}
use Rattle.std.specs.Cmp.Lexicographic.{pointwise}
use Rattle.std.specs.Str.{bytes_eq}
use Rattle.dsql_script_spelling.specs.CapsNames.{caps_names}
use Rattle.dsql_script_reader.specs.ScriptHead.{caps_among}
use Rattle.dsql_script_reader.proofs.ScriptCaps.{caps_of_names, caps_of_others}
use Rattle.dsql_script_calls.proofs.LineWords.{texts}
use Rattle.dsql_script_reader.proofs.head.caps_of.Goals as goal

pub returns-then-not-are_equal : goal.returns-then-not-are_equal
returns-then-not-are_equal c = λ _.
    let words = texts c.args.words.now in
    let names : texts c.deref.result.now ≡ caps_names (caps_among words) = ap texts c.deref.ensures.value ∙ c.in_ok-names.ensures ∙ ap caps_names c.caps_among-caps.ensures in
    (refl, caps_of_others words (ap (λ ns. pointwise bytes_eq ns words) (sym names) ∙ sym c.are_equal.ensures ∙ c.if-not-are_equal.true))

pub returns : goal.returns
returns c =
    let words = texts c.args.words.now in
    let names : texts c.deref.result.now ≡ caps_names (caps_among words) = ap texts c.deref.ensures.value ∙ c.in_ok-names.ensures ∙ ap caps_names c.caps_among-caps.ensures in
    caps_of_names words (ap (λ ns. pointwise bytes_eq ns words) (sym names) ∙ sym c.are_equal.ensures ∙ c.if-not-are_equal.false)
    ∙ ap Some (sym c.caps_among-caps.ensures)
