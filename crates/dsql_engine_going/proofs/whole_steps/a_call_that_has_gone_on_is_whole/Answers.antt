use Rattle.std.proofs.Common.{◌≡◌, true, not, ◌||◌, sym, subst}
use Rattle.dsql_laws_calls.specs.history.Rules.Flights.{is_in_flight}
use Rattle.dsql_laws_ends.specs.Over.{may_move}
use Rattle.dsql_engine_going.proofs.GoneOn.{call_whole, layer_whole}
use Rattle.dsql_engine_going.proofs.whole_steps.a_call_that_has_gone_on_is_whole.Goals as goal

pub returns-clause-call : goal.returns-clause-call
returns-clause-call c =
    λ m n before next l is gone. subst (λ k. (is_in_flight k m.flights || not (may_move m.past m.flights k)) ≡ true) (sym is) (call_whole m.past n before m.flights next l gone)

pub returns-clause-layer : goal.returns-clause-layer
returns-clause-layer c =
    λ m l is. subst (λ k. (is_in_flight k m.flights || not (may_move m.past m.flights k)) ≡ true) (sym is) (layer_whole m.past m.flights l)
