use Rattle.std.proofs.Common.{◌≡◌, ◌∷◌, sym, subst}
use Rattle.dsql_engine_going.specs.history.declared.event.Event.TheVariants.{Heard}
use Rattle.dsql_engine_going.specs.history.Rules.Settled.{Settled}
use Rattle.dsql_engine_going.specs.laws_steps.Groups.{with_owed}
use Rattle.dsql_engine_going.specs.desk.Desk.{past, Stands}
use Rattle.dsql_engine_hearing.proofs.Steps.{may_append, settled_house}
use Rattle.dsql_engine_hearing.proofs.hear.hear_house.Goals as goal

pub hear-requires-clause-may : goal.hear-requires-clause-may
hear-requires-clause-may c = may_append c.args.desk.now c.args.entry c.args.ready c.requires.pays c.requires.may

pub hear-requires-clause-settled : goal.hear-requires-clause-settled
hear-requires-clause-settled c = c.requires.may.settled

pub hear-requires-clause-decides : goal.hear-requires-clause-decides
hear-requires-clause-decides c = c.requires.may.decides

pub hear-requires-clause-rows : goal.hear-requires-clause-rows
hear-requires-clause-rows c = c.requires.may.rows

pub hear-requires-clause-begin : goal.hear-requires-clause-begin
hear-requires-clause-begin c = c.requires.may.begin

pub returns-clause-reaches : goal.returns-clause-reaches
unfolding Stands
returns-clause-reaches c =
    let H = past c.args.desk.now in
    let e = c.args.entry in
    let may = c.requires.may in
    let came : past c.hear.new.self ≡ with_owed (Heard e ∷ H) = c.hear.ensures.event in
    record {
      stands = c.hear.ensures.stands;
      settled = subst (λ K. Settled K) (sym came) (settled_house H e c.requires.pays.stands.tables.lawful may.allowed may.settled c.requires.house);
      group = came;
    }
