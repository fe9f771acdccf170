use Rattle.std.proofs.Common.{◌∙◌, ap, sym, refl, take, arith}
use Rattle.std.proofs.lemmas.List.{take_all, length-take-le}
use Rattle.dsql_script_show.specs.Summary.{summary_of, with_event}
use Rattle.dsql_script_show.proofs.Counts.{one_more, newest_first, below}
use Rattle.dsql_script_show.proofs.summary.summary_of.Goals as goal

pub returns : goal.returns
returns c =
    let h = c.args.history.now in
    c.loop-event.invariant ∙ (ap (summary_of c.args.lines) (take_all c.loop-event.event-index h c.loop-event-test.false) ∙ sym (newest_first c.args.lines h))

pub loop-event-init : goal.loop-event-init
loop-event-init c = refl

pub loop-event-preserved : goal.loop-event-preserved
loop-event-preserved c =
    let h = c.args.history.now in
    let i = c.loop-event.event-index in
    c.add.ensures
    ∙ (ap (with_event c.event-item.result) c.loop-event.invariant
    ∙ (ap (λ e. with_event e (summary_of c.args.lines (take i h))) c.event-item.is ∙ sym (one_more c.args.lines h i c.event-item.result c.loop-event-test.true)))

pub add-requires : goal.add-requires
add-requires c =
    let h = c.args.history.now in
    let i = c.loop-event.event-index in
    let few = length-take-le i h c.loop-event.auto.event-index-end in
    let within = c.loop-event-test.true in
    rw c.loop-event.invariant (below c.args.lines (take i h) 18446744073709551615 (omega (arith, few, within)))
