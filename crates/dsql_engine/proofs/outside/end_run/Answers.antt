use Rattle.std.proofs.Common.{arith}
use Rattle.dsql_engine_hearing.specs.history.declared.event.Event.TheVariants.{Ended}
use Rattle.dsql_engine_hearing.proofs.laws_calls.Owed.{few_next}
use Rattle.dsql_engine_hearing.specs.desk.Desk.{past, Stands}
use Rattle.dsql_engine.proofs.Appended.{end_allowed, settled_end}
use Rattle.dsql_engine.proofs.outside.end_run.Goals as goal

pub end-requires-clause-may : goal.end-requires-clause-may
unfolding Stands
end-requires-clause-may c =
    let H = past c.args.desk.now in
    let few = few_next H Ended c.requires.pays.stands.tables.lawful c.requires.settled.nothing_owed in
    let paid = c.requires.pays.paid in
    record {
      stands = c.requires.pays.stands;
      paid = omega (arith, few, paid);
      allowed = end_allowed H c.requires.begun c.requires.settled c.requires.quiet c.requires.running;
      few = let room = c.requires.pays.few in omega (arith, room);
    }

pub returns-clause-reaches : goal.returns-clause-reaches
unfolding Stands
returns-clause-reaches c =
    let H = past c.args.desk.now in
    let s = c.end.ensures in
    record {
      stands = s.stands;
      settled = rw s.event (settled_end H c.requires.pays.stands.tables.lawful c.requires.begun c.requires.settled c.requires.quiet c.requires.running);
      group = s.event;
    }
