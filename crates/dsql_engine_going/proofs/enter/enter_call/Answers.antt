use Rattle.std.proofs.Common.{◌∷◌, ap, subst, ◌∙◌}
use Rattle.dsql_laws_calls.specs.history.declared.event.Event.TheVariants.{Entered}
use Rattle.dsql_engine_desk.specs.Desk.{past}
use Rattle.dsql_engine_going.specs.Reaching.{HasGoneOn}
use Rattle.dsql_laws_steps.specs.Groups.{gone_on, with_owed}
use Rattle.dsql_engine_going.proofs.Stepping.{may_append, may_go_on, may_pay}
use Rattle.dsql_engine_going.proofs.enter.enter_call.Goals as goal

pub note_entry-requires-clause-may : goal.note_entry-requires-clause-may
note_entry-requires-clause-may c =
    may_append c.args.desk.now c.args.flights.now c.args.client c.next_call-call.result c.args.op c.next_call-call.ensures c.requires.pays c.requires.may c.requires.free c.requires.names

pub go_on-requires-clause-pays : goal.go_on-requires-clause-pays
go_on-requires-clause-pays c =
    may_pay c.args.desk.now c.note_entry.new.desk c.args.flights.now c.args.client c.next_call-call.result c.args.op c.requires.pays c.requires.few c.requires.may c.note_entry.ensures

pub go_on-requires-clause-may : goal.go_on-requires-clause-may
go_on-requires-clause-may c =
    may_go_on c.args.desk.now c.note_entry.new.desk c.args.flights.now c.args.client c.next_call-call.result c.args.op c.next_call-call.ensures c.requires.pays c.requires.may c.requires.free c.requires.names c.note_entry.ensures

pub returns-clause-reaches : goal.returns-clause-reaches
returns-clause-reaches c =
    let H = past c.args.desk.now in
    let n = c.next_call-call.result in
    let r = c.go_on.ensures.reaches in
    record {
      stands = r.stands;
      settled = r.settled;
      group = r.group ∙ (ap (gone_on n) c.note_entry.ensures.event ∙ ap (λ k. gone_on k (with_owed (Entered c.args.client k c.args.op ∷ H))) c.next_call-call.ensures);
    }

pub returns-clause-goes : goal.returns-clause-goes
returns-clause-goes c =
    subst (λ k. HasGoneOn (past c.go_on.new.desk) c.args.flights.now.flights c.go_on.new.flights.flights k c.go_on.result) c.next_call-call.ensures c.go_on.ensures.goes
