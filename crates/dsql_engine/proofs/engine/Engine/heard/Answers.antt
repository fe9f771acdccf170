use Rattle.std.proofs.Common.{◌≡◌, ◌<◌, length, true, sym, ap, subst, ◌∙◌}
use Rattle.dsql_engine_hearing.specs.journal.Readers.{is_empty}
use Rattle.dsql_engine_hearing.specs.desk.Desk.{past}
use Rattle.dsql_engine_hearing.proofs.desk.KeptOfCalls.{lawful_kept}
use Rattle.dsql_engine_hearing.specs.going.Stepping.{are_of_unfinished}
use Rattle.dsql_engine_hearing.specs.laws_steps.Groups.{most_events}
use Rattle.dsql_engine.specs.Core.{Core}
use Rattle.dsql_engine.proofs.Legality.{legal_kept, legal_of}
use Rattle.dsql_engine.proofs.Lengths.{room_after_heard}
use Rattle.dsql_engine.proofs.Stepped.{begun_heard, heard_flies}
use Rattle.dsql_engine.proofs.engine.Engine.heard.Goals as goal

pub invariant_of-self : goal.invariant_of-self
invariant_of-self c =
    let H = past c.prepare.new.desk in
    let e = c.into_entry-entry.result in
    let K = past c.hear_answer.new.desk in
    let before = c.prepare.new.flights.flights in
    let r = c.hear_answer.ensures.reaches in
    let flying : are_of_unfinished H before ≡ true = rw (c.prepare.ensures.past, c.prepare.ensures.flights) c.self.invariant.3 in
    let short : length H < most_events = rw c.prepare.ensures.past (subst (λ (v : Core). length v.past < most_events) (sym c.self.view_is) c.requires.room) in (
      r.stands,
      r.settled,
      ap is_empty r.group ∙ begun_heard H e,
      heard_flies H e K before c.hear_answer.new.flights.flights c.hear_answer.result r.group flying c.hear_answer.ensures.goes,
      room_after_heard H K e r.group (lawful_kept c.prepare.new.desk c.prepare.ensures.stands) (rw c.prepare.ensures.past c.self.invariant.1) short,
    )

pub returns-in-Ok-clause-legal : goal.returns-in-Ok-clause-legal
returns-in-Ok-clause-legal c =
    let H = past c.prepare.new.desk in
    let r = c.hear_answer.ensures.reaches in
    legal_of c.hear_answer.new.desk r.stands r.settled (ap is_empty r.group ∙ begun_heard H c.into_entry-entry.result)

pub returns-in-Err-clause-legal : goal.returns-in-Err-clause-legal
returns-in-Err-clause-legal c = legal_kept c.self.inside.desk c.prepare.new.desk c.prepare.ensures.stands c.prepare.ensures.past c.self.invariant.1 c.self.invariant.2
