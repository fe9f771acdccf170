use Rattle.std.proofs.Common.{◌≡◌, ◌∷◌, arith, true, is_some, subst, sym, ap, ◌∙◌}
use Rattle.dsql_laws_calls.specs.history.declared.event.Event.TheVariants.{Replied}
use Rattle.dsql_laws_calls.specs.history.Readers.Calls.{reply_due}
use Rattle.dsql_laws_calls.specs.history.Readers.Unfinished.{is_unfinished}
use Rattle.dsql_laws_calls.specs.history.Rules.Settled.{Settled}
use Rattle.dsql_engine_calls.specs.Settling.{reply_or}
use Rattle.dsql_engine_desk.specs.Appending.{reply_now}
use Rattle.dsql_engine_desk.specs.Desk.{past}
use Rattle.dsql_engine_going.proofs.Groups.{replied_group}
use Rattle.dsql_engine_going.proofs.Replying.{due_cause, replied_finished, reply_allowed, settled_replied}
use Rattle.dsql_engine_going.proofs.going.reply.Goals as goal

pub tell_due-requires-clause-may : goal.tell_due-requires-clause-may
tell_due-requires-clause-may c =
    let G = past c.give_up.new.desk in
    let n = c.args.call in
    let gave = c.give_up.ensures in
    let told : is_some (reply_due G n) ≡ true = ap (λ o. is_some o) gave.due ∙ c.requires.due in
    record {
      stands = gave.stands;
      paid = let paid = gave.paid in omega (arith, paid);
      allowed = reply_allowed G n (reply_now G n) gave.unfinished gave.silent gave.gave (due_cause G n told) gave.settled;
      few = gave.few;
    }

pub tell_due-requires-clause-due : goal.tell_due-requires-clause-due
tell_due-requires-clause-due c = ap (λ o. is_some o) c.give_up.ensures.due ∙ c.requires.due

pub returns-clause-reaches : goal.returns-clause-reaches
returns-clause-reaches c =
    let H = past c.args.desk.now in
    let G = past c.give_up.new.desk in
    let n = c.args.call in
    let gave = c.give_up.ensures in
    let came : past c.tell_due.new.self ≡ Replied n (reply_now G n) ∷ G = c.tell_due.ensures.event in
    record {
      stands = c.tell_due.ensures.stands;
      settled = subst (λ K. Settled K) (sym came) (settled_replied G n (reply_now G n) gave.gave gave.settled);
      group =
          came
          ∙ (ap (λ o. Replied n (reply_or o) ∷ G) gave.due
          ∙ (ap (λ K. Replied n (reply_or (reply_due H n)) ∷ K) gave.history ∙ sym (replied_group n (reply_due H n) H c.requires.due)));
    }

pub returns-clause-finished : goal.returns-clause-finished
returns-clause-finished c =
    let G = past c.give_up.new.desk in
    let n = c.args.call in
    ap (λ K. is_unfinished K n) c.tell_due.ensures.event ∙ replied_finished G n (reply_now G n)
