use Rattle.std.proofs.Common.{◌≡◌, true, false, None, Some, is_some, refl, sym, ap, subst, ◌∙◌, arith}
use Rattle.dsql_laws_calls.specs.wait.Requests.{waits}
use Rattle.dsql_laws_calls.specs.pool.Places.{is_for}
use Rattle.dsql_laws_calls.specs.history.declared.record.Stand.TheVariants.{Opens}
use Rattle.dsql_laws_calls.specs.history.Readers.Calls.{reply_due}
use Rattle.dsql_laws_calls.specs.history.Readers.Pool.{smallest, pool}
use Rattle.dsql_laws_calls.specs.history.Rules.Asking.{may_ask}
use Rattle.dsql_laws_calls.specs.history.Rules.Line.{due_for}
use Rattle.dsql_laws_calls.proofs.laws.Numbered.{unfinished_from_one}
use Rattle.dsql_laws_calls.proofs.laws.Standing.{stands_sending, stands_waiting}
use Rattle.dsql_engine_desk.specs.Desk.{past, Stands}
use Rattle.dsql_engine_going.specs.Reaching.{HasGoneOn}
use Rattle.dsql_engine_going.specs.declared.next.Why.TheVariants.{Opening}
use Rattle.dsql_engine_going.proofs.Groups.{due_group, settled_group, asking_group, waiting_group}
use Rattle.dsql_engine_going.proofs.Leaves.{due_told}
use Rattle.dsql_engine_going.proofs.Replying.{goes_finished}
use Rattle.dsql_engine_going.proofs.Standing.{goes_blocked, number_in, opens_somewhere, settled_itself, wanting}
use Rattle.dsql_engine_going.proofs.going.go_on_with.Goals as goal

pub returns-in-Some-clause-reaches : goal.returns-in-Some-clause-reaches
unfolding Stands
returns-in-Some-clause-reaches c =
    let H = past c.args.desk.now in
    let n = c.args.call in
    let s = c.requires.pays.stands in
    let l = s.tables.lawful in
    let due : is_some (due_for H n) ≡ true = due_told H n c.args.due (Some c.in-Some.due) c.requires.due c.in-Some.is in
    let at = stands_sending H n l (unfinished_from_one H n l c.requires.may.unfinished) due in
    record { stands = s; settled = settled_itself H n c.requires.may.settled (ap (λ it. is_some it) at); group = sym (due_group H n due) }

pub reply-requires-clause-pays : goal.reply-requires-clause-pays
reply-requires-clause-pays c =
    let pays = c.requires.pays in
    record { stands = pays.stands; paid = let paid = pays.paid in omega (arith, paid); few = let room = pays.few in omega (arith, room) }

pub returns-then-is_settled-clause-reaches : goal.returns-then-is_settled-clause-reaches
returns-then-is_settled-clause-reaches c =
    let H = past c.args.desk.now in
    let n = c.args.call in
    let silent : is_some (due_for H n) ≡ false = due_told H n c.args.due None c.requires.due c.in_default.is in
    let told : is_some (reply_due H n) ≡ true = sym c.is_settled.ensures ∙ c.if-is_settled.true in
    let r = c.reply.ensures.reaches in
    record { stands = r.stands; settled = r.settled; group = r.group ∙ sym (settled_group H n c.requires.may.unfinished silent told) }

pub returns-then-is_settled-clause-goes : goal.returns-then-is_settled-clause-goes
returns-then-is_settled-clause-goes c =
    let n = c.args.call in
    let flights = c.args.flights.now.flights in
    subst (λ next. HasGoneOn (past c.reply.new.desk) flights flights n next) (sym c.reply.ensures.next) (goes_finished (past c.reply.new.desk) n flights c.reply.ensures.finished)

pub returns-then-may_ask-clause-reaches : goal.returns-then-may_ask-clause-reaches
returns-then-may_ask-clause-reaches c =
    let H = past c.args.desk.now in
    let n = c.args.call in
    let silent : is_some (due_for H n) ≡ false = due_told H n c.args.due None c.requires.due c.in_default.is in
    let untold : is_some (reply_due H n) ≡ false = sym c.is_settled.ensures ∙ c.if-is_settled.false in
    let may : may_ask H n ≡ true = sym c.may_ask.ensures ∙ c.if-may_ask.true in
    let r = c.ask.ensures.reaches in
    record { stands = r.stands; settled = r.settled; group = r.group ∙ sym (asking_group H n c.requires.may.unfinished silent untold may) }

pub returns-then-waits-clause-reaches : goal.returns-then-waits-clause-reaches
returns-then-waits-clause-reaches c =
    let H = past c.args.desk.now in
    let n = c.args.call in
    let silent : is_some (due_for H n) ≡ false = due_told H n c.args.due None c.requires.due c.in_default.is in
    let untold : is_some (reply_due H n) ≡ false = sym c.is_settled.ensures ∙ c.if-is_settled.false in
    let may : may_ask H n ≡ false = sym c.may_ask.ensures ∙ c.if-may_ask.false in
    let waiting : waits n (pool H).waiting ≡ true = sym c.waits.ensures ∙ c.if-waits.true in
    record {
      stands = c.requires.pays.stands;
      settled = settled_itself H n c.requires.may.settled (ap (λ it. is_some it) (stands_waiting H n waiting));
      group = sym (waiting_group H n c.requires.may.unfinished silent untold may);
    }

pub returns-else-waits-clause-reaches : goal.returns-else-waits-clause-reaches
unfolding Stands
returns-else-waits-clause-reaches c =
    let H = past c.args.desk.now in
    let n = c.args.call in
    let l = c.requires.pays.stands.tables.lawful in
    let u = c.requires.may.unfinished in
    let silent : is_some (due_for H n) ≡ false = due_told H n c.args.due None c.requires.due c.in_default.is in
    let untold : is_some (reply_due H n) ≡ false = sym c.is_settled.ensures ∙ c.if-is_settled.false in
    let may : may_ask H n ≡ false = sym c.may_ask.ensures ∙ c.if-may_ask.false in
    let unwaiting : waits n (pool H).waiting ≡ false = sym c.waits.ensures ∙ c.if-waits.false in
    let at = opens_somewhere H n l u unwaiting (wanting H n l c.requires.may.settled u silent untold may) in
    record {
      stands = c.requires.pays.stands;
      settled = settled_itself H n c.requires.may.settled (ap (λ it. is_some it) at);
      group = sym (waiting_group H n u silent untold may);
    }

pub returns-else-waits-clause-goes : goal.returns-else-waits-clause-goes
unfolding Stands
returns-else-waits-clause-goes c =
    let H = past c.args.desk.now in
    let n = c.args.call in
    let l = c.requires.pays.stands.tables.lawful in
    let u = c.requires.may.unfinished in
    let silent : is_some (due_for H n) ≡ false = due_told H n c.args.due None c.requires.due c.in_default.is in
    let untold : is_some (reply_due H n) ≡ false = sym c.is_settled.ensures ∙ c.if-is_settled.false in
    let may : may_ask H n ≡ false = sym c.may_ask.ensures ∙ c.if-may_ask.false in
    let unwaiting : waits n (pool H).waiting ≡ false = sym c.waits.ensures ∙ c.if-waits.false in
    let at = opens_somewhere H n l u unwaiting (wanting H n l c.requires.may.settled u silent untold may) in
    goes_blocked H n c.args.flights.now.flights (Some (Opens (number_in (smallest (is_for n) (pool H))))) Opening u at refl refl
