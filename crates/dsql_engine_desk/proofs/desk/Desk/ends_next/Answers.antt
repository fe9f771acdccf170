use Rattle.std.proofs.Common.{ap, ◌∙◌, sym}
use Rattle.dsql_engine_exchanged.specs.declared.ending.Ending.{Ending}
use Rattle.dsql_engine_desk.specs.Desk.{past, Stands}
use Rattle.dsql_laws_calls.specs.history.Rules.Ending.{end_after}
use Rattle.dsql_engine_desk.proofs.desk.Desk.ends_next.Goals as goal

pub returns : goal.returns
unfolding Stands
returns c asked heard is =
    let H = past c.args.self.now in
    let same = is ∙ sym c.ending_on.ensures in
    c.next.ensures asked H heard (sym c.requires.tables.caps) (ap (λ (it : Ending). it.ended) same) (ap (λ (it : Ending). it.tested) same)
    ∙ ap (λ (it : Ending). end_after H it.bad c.args.end heard) c.ending_on.ensures
