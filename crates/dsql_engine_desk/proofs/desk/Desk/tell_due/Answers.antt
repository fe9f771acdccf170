use Rattle.std.proofs.Common.{◌≡◌, ◌∷◌, arith, ap, sym, subst, ◌∙◌}
use Rattle.dsql_laws_calls.specs.history.Legal.{Allowed}
use Rattle.dsql_laws_calls.specs.history.declared.event.Event.TheVariants.{Replied}
use Rattle.dsql_laws_calls.specs.history.Readers.Calls.{reply_due}
use Rattle.std.specs.Prelude.{is_some}
use Rattle.dsql_engine_desk.specs.Adding.{MayAdd}
use Rattle.dsql_engine_desk.specs.Appending.{reply_now}
use Rattle.dsql_engine_calls.specs.Calls.{row_at}
use Rattle.dsql_engine_calls.proofs.Settled.{settled_as}
use Rattle.dsql_engine_desk.specs.Desk.{past, Stands}
use Rattle.dsql_engine_calls.specs.Settling.{reply_or, settled_in}
use Rattle.dsql_engine_desk.proofs.desk.Desk.tell_due.Goals as goal

pub add_due_reply-requires-clause-may : goal.add_due_reply-requires-clause-may
unfolding Stands Allowed
add_due_reply-requires-clause-may c =
    let d = c.args.self.now in
    let H = past d in
    let n = c.args.call in
    let may = c.requires.may in
    let s = may.stands in
    let same : settled_in d.closed_by c.ended_before-ended_by.result d.caps.pinger (row_at d.calls.items n) ≡ reply_due H n = settled_as H n d.closed_by c.ended_before-ended_by.result d.caps d.calls.items s.tables.calls s.closed_by c.ended_before-ended_by.ensures s.tables.caps may.allowed.numbers c.requires.due in
    subst (λ told. MayAdd d (Replied n (reply_or told))) (sym same)
    (record { tables = s.tables; lawful = (s.tables.lawful, may.allowed); calm = (s.tables.calm, λ outside. absurd cc); paid = omega (arith, may.paid) })

pub add_due_reply-requires-clause-due : goal.add_due_reply-requires-clause-due
unfolding Stands Allowed
add_due_reply-requires-clause-due c =
    let d = c.args.self.now in
    let s = c.requires.may.stands in
    ap (λ told. is_some told) (settled_as (past d) c.args.call d.closed_by c.ended_before-ended_by.result d.caps d.calls.items s.tables.calls s.closed_by c.ended_before-ended_by.ensures s.tables.caps c.requires.may.allowed.numbers c.requires.due) ∙ c.requires.due

pub returns : goal.returns
unfolding Stands Allowed
returns c =
    let d = c.args.self.now in
    let H = past d in
    let n = c.args.call in
    let may = c.requires.may in
    let s = may.stands in
    let added = c.add_due_reply.ensures in
    let same : settled_in d.closed_by c.ended_before-ended_by.result d.caps.pinger (row_at d.calls.items n) ≡ reply_due H n = settled_as H n d.closed_by c.ended_before-ended_by.result d.caps d.calls.items s.tables.calls s.closed_by c.ended_before-ended_by.ensures s.tables.caps may.allowed.numbers c.requires.due in
    let p : past c.add_due_reply.new.self ≡ Replied n (reply_now H n) ∷ H = added.event ∙ ap (λ told. Replied n (reply_or told) ∷ H) same in
    record {
      stands = record {
        tables = added.tables;
        closed_by = rw p (added.closed_by ∙ s.closed_by);
        pool = rw p (ap (λ q. q.pooled) added.pool ∙ s.pool);
        room = let spare = ap (λ q. q.spare) added.pool in omega (arith, spare, s.room, added.paid);
      };
      paid = omega (arith, added.paid);
      event = p;
      trimmed = added.trimmed;
    }
