use Rattle.std.proofs.Common.{refl, [], ◌∷◌}
use Rattle.dsql_history.specs.declared.event.Event.TheVariants.{Run}
use Rattle.dsql_player_wires.proofs.Plans.{fresh_plans}
use Rattle.dsql_player_wires.proofs.Wiring.{fresh_fits}
use Rattle.dsql_player_wires.proofs.wires.Wires.new.Goals as goal

pub returns-clause-fitting : goal.returns-clause-fitting
returns-clause-fitting g c = λ telling version caps. fresh_fits g.W.Wire.told telling (Run version caps ∷ []) _ (λ c. refl) c.new.ensures.items

pub returns-clause-unplanned : goal.returns-clause-unplanned
returns-clause-unplanned g c = λ version caps. fresh_plans g.W.Wire.told (Run version caps ∷ []) _ c.new.ensures.items
