use Rattle.std.proofs.Common.{sym, ◌∙◌}
use Rattle.std.specs.Fmt.{decimal}
use Rattle.dsql_script_generator.proofs.CountLemmas.{AsksNone-refused, asked_count-none, asked_count-some, AsksNone-other, same_text}
use Rattle.dsql_script_generator.proofs.count.count_of.Goals as goal

pub returns-in_err-count-clause-value : goal.returns-in_err-count-clause-value
returns-in_err-count-clause-value c =
    c.from_residual.ensures
    ∙ sym (asked_count-none c.args.word.now (AsksNone-refused c.args.word.now c.parse.result c.parse.ensures.value.0 (sym c.in_err-count.ensures.value)))

pub returns-in_err-count-clause-other : goal.returns-in_err-count-clause-other
returns-in_err-count-clause-other c =
    rw c.from_residual.ensures
    (AsksNone-refused c.args.word.now c.parse.result c.parse.ensures.value.0 (sym c.in_err-count.ensures.value)).none

pub returns-then-count-le-MOST-clause-value : goal.returns-then-count-le-MOST-clause-value
returns-then-count-le-MOST-clause-value c =
    sym (asked_count-some c.args.word.now c.in_ok-count.count
    (record { text = same_text c.format.result.now c.args.word.now (decimal c.in_ok-count.count) c.format.ensures.text (sym c.if-eq.ensures); some = c.if-count-ge1.true; most = c.if-count-le-MOST.true }))

pub returns-else-eq-clause-value : goal.returns-else-eq-clause-value
returns-else-eq-clause-value c =
    sym (asked_count-none c.args.word.now
    (AsksNone-other c.args.word.now c.format.result.now c.in_ok-count.count c.parse.result c.eq.result c.parse.ensures.value.0 (sym c.in_ok-count.ensures.value) c.format.ensures.text c.eq.ensures c.else-eq.either))

pub returns-else-eq-clause-other : goal.returns-else-eq-clause-other
returns-else-eq-clause-other c =
    (AsksNone-other c.args.word.now c.format.result.now c.in_ok-count.count c.parse.result c.eq.result c.parse.ensures.value.0 (sym c.in_ok-count.ensures.value) c.format.ensures.text c.eq.ensures c.else-eq.either).none
