use Rattle.std.proofs.Common.{rules, ap, ◌∙◌}
use Rattle.std.proofs.lemmas.Fn.{filter_same}
use Rattle.dsql_laws.specs.history.Rules.Flights.{without_flight}
use Rattle.dsql_engine_pooling.specs.UnderWay.{UnderWay}
use Rattle.dsql_engine_pooling.proofs.flights.Flights.land.Goals as goal

pub returns-clause-flights : goal.returns-clause-flights
returns-clause-flights c =
    filter_same _ _ _ (λ x b f' k. search rules) _ _ c.retain.ensures.filtered
    ∙ ap (λ (it : UnderWay). without_flight c.args.call it.flights) c.self.view_is
