use Rattle.std.proofs.Common.{◌≡◌, sym, ap, ◌∙◌}
use Rattle.std.specs.Prelude.{position}
use Rattle.std.specs.Option.{option_copied}
use Rattle.indexmap.specs.IndexMap.{get_by_text}
use Rattle.dsql_laws_calls.specs.works.Works.{or_zero}
use Rattle.dsql_laws_calls.specs.history.Readers.Works.{begins_as, works}
use Rattle.dsql_engine_desk.specs.Desk.{past, Stands}
use Rattle.dsql_engine_desk.proofs.desk.Desk.tx_maker.Goals as goal

pub returns-in-Some : goal.returns-in-Some
unfolding Stands
returns-in-Some c =
    let label = c.args.label.now in
    let found : position (begins_as label) (works (past c.args.self.now)) ≡ option_copied c.get.result
    = sym (c.requires.tables.tx_labels label) ∙ ap (get_by_text c.args.self.now.tx_labels) (sym c.as_str.ensures) ∙ sym c.get.ensures.value in
    sym (ap or_zero (found ∙ ap option_copied c.in-Some.is))

pub returns-in-None : goal.returns-in-None
unfolding Stands
returns-in-None c =
    let label = c.args.label.now in
    let found : position (begins_as label) (works (past c.args.self.now)) ≡ option_copied c.get.result
    = sym (c.requires.tables.tx_labels label) ∙ ap (get_by_text c.args.self.now.tx_labels) (sym c.as_str.ensures) ∙ sym c.get.ensures.value in
    sym (ap or_zero (found ∙ ap option_copied c.in-None.is))
