use Rattle.std.proofs.Common.{ap, ◌∙◌, sym}
use Rattle.dsql_laws_calls.specs.driver.declared.call.DriverCall.TheVariants.{Begin}
use Rattle.dsql_laws_calls.specs.driver.declared.caps.Caps.{Caps}
use Rattle.dsql_engine_desk.specs.Desk.{past, Stands}
use Rattle.dsql_laws_calls.specs.history.Readers.Course.{caps}
use Rattle.dsql_laws_calls.specs.history.Rules.Sent.{begin_line}
use Rattle.dsql_engine_desk.proofs.desk.Desk.begins_next.Goals as goal

pub returns : goal.returns
unfolding Stands
returns c asked line heard =
    let begin = Begin c.args.level c.args.read_only in
    let H = past c.args.self.now in
    c.next.ensures asked line (heard ∙ sym c.beginning_on.ensures)
    ∙ (ap (λ (can : Caps). begin_line can c.is_reset_due-reset_due.result begin line) c.requires.tables.caps ∙ ap (λ due. begin_line (caps H) due begin line) c.is_reset_due-reset_due.ensures)
