use Rattle.std.proofs.Common.{rules, ◌≡◌, false, w64, to_z, of_z, sym, ap, ◌∙◌}
use Rattle.std.specs.Fmt.{signed_decimal}
use Rattle.std.specs.Str.{bytes_eq}
use Rattle.dsql_mem_session.proofs.NumberLemmas.{SpellsNone-refused, SpellsNone-read, number_of-none}
use Rattle.dsql_mem_session.proofs.number.number.Goals as goal

pub returns-in_err-number-clause-value : goal.returns-in_err-number-clause-value
returns-in_err-number-clause-value c =
    c.from_residual.ensures
    ∙ sym (number_of-none c.args.word.now (SpellsNone-refused c.args.word.now c.parse.result c.parse.ensures.value.0 (sym c.in_err-number.ensures.value)))

pub returns-in_err-number-clause-other : goal.returns-in_err-number-clause-other
returns-in_err-number-clause-other c =
    rw c.from_residual.ensures
    (SpellsNone-refused c.args.word.now c.parse.result c.parse.ensures.value.0 (sym c.in_err-number.ensures.value)).none

pub returns-else-eq-clause-other : goal.returns-else-eq-clause-other
returns-else-eq-clause-other c =
    let same : to_z w64 (of_z w64 c.in_ok-number.number) ≡ c.in_ok-number.number = search rules in
    let text : c.format.result.now ≡ signed_decimal c.in_ok-number.number =
    c.format.ensures.text ∙ ap signed_decimal same in
    let other : bytes_eq (signed_decimal c.in_ok-number.number) c.args.word.now ≡ false =
    ap (λ t. bytes_eq t c.args.word.now) (sym text) ∙ sym c.if-eq.ensures in
    (SpellsNone-read c.args.word.now c.in_ok-number.number c.parse.result c.parse.ensures.value.0 (sym c.in_ok-number.ensures.value) other).none
