use Rattle.std.proofs.Common.{◌++◌}
use Rattle.dsql_player_wires.proofs.Journals.{unheard_event, unheard}
use Rattle.dsql_player_wires.proofs.Wiring.{event_fits, unheard_fits}
use Rattle.dsql_player_wires.proofs.Reading.{unheard_event_told, unheard_told}
use Rattle.dsql_player_wires.proofs.Plans.{unheard_plans}
use Rattle.dsql_player_wires.proofs.Telling.{tells_none}
use Rattle.dsql_player_wires.proofs.laws.what_is_not_heard_changes_no_wire.Goals as goal

pub returns-clause-journal : goal.returns-clause-journal
returns-clause-journal g c = unheard_event

pub returns-clause-wires : goal.returns-clause-wires
returns-clause-wires g c = event_fits g.W.Wire.told

pub returns-clause-told : goal.returns-clause-told
returns-clause-told g c = unheard_event_told

pub returns-clause-all_journals : goal.returns-clause-all_journals
returns-clause-all_journals g c = unheard

pub returns-clause-all_wires : goal.returns-clause-all_wires
returns-clause-all_wires g c = unheard_fits g.W.Wire.told

pub returns-clause-all_told : goal.returns-clause-all_told
returns-clause-all_told g c = unheard_told

pub returns-clause-tells : goal.returns-clause-tells
returns-clause-tells g c = λ fleet more past slots quiet.
    tells_none g.W.Wire.told fleet past (more ++ past) slots slots (λ made. unheard_told made more past quiet) (λ made. unheard_plans g.W.Wire.told made more past slots quiet)
