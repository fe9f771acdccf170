use Rattle.std.proofs.Common.{◌≡◌, arith, true, false, length, is_none, Some, is_some, subst, sym, ap, ◌∙◌}
use Rattle.dsql_laws_calls.specs.history.Readers.Calls.{reply_due, rests_with}
use Rattle.dsql_laws_calls.specs.history.Readers.Unfinished.{is_unfinished}
use Rattle.dsql_laws_calls.specs.history.Rules.Line.{due_for}
use Rattle.dsql_laws_calls.specs.history.Rules.Settled.{is_settled_but}
use Rattle.dsql_laws_calls.proofs.Owed.{few_given_back}
use Rattle.dsql_laws_others.proofs.GivenUp.{gives_up}
use Rattle.dsql_laws_steps.specs.Groups.{given_up}
use Rattle.dsql_engine_desk.specs.Desk.{past, Stands}
use Rattle.dsql_engine_going.proofs.going.give_up.Goals as goal

pub give_back-requires : goal.give_back-requires
unfolding Stands
give_back-requires c =
    let H = past c.args.desk.now in
    let conn = c.in-Some.conn in
    let pays = c.requires.pays in
    let g = gives_up H c.args.call conn pays.stands.tables.lawful c.requires.settled c.requires.unfinished c.requires.silent (sym c.rests_with.ensures ∙ c.in-Some.is) in
    record {
      stands = pays.stands;
      leaves = g.leaves;
      fate = sym g.good;
      paid = let few = few_given_back H conn in let paid = pays.paid in omega (arith, few, paid);
      few = let room = pays.few in omega (arith, room);
    }

pub returns-in-Some : goal.returns-in-Some
unfolding Stands
returns-in-Some c =
    let H = past c.args.desk.now in
    let n = c.args.call in
    let conn = c.in-Some.conn in
    let pays = c.requires.pays in
    let is : rests_with H n ≡ Some conn = sym c.rests_with.ensures ∙ c.in-Some.is in
    let g = gives_up H n conn pays.stands.tables.lawful c.requires.settled c.requires.unfinished c.requires.silent is in
    let came = c.give_back.ensures.moves in
    let longer = ap length came in
    record {
      stands = c.give_back.ensures.stands;
      paid = let few = few_given_back H conn in let left = c.give_back.ensures.paid in let paid = pays.paid in omega (arith, few, left, paid);
      few = let few = g.few in let room = pays.few in omega (arith, few, longer, room);
      history = came ∙ sym (ap (λ o. given_up o H) is);
      trimmed = c.give_back.ensures.trimmed;
      unfinished = subst (λ K. is_unfinished K n ≡ true) (sym came) g.unfinished;
      silent = subst (λ K. is_some (due_for K n) ≡ false) (sym came) g.silent;
      gave = ap (λ K. is_none (rests_with K n)) came ∙ ap (λ o. is_none o) g.homeless;
      due = ap (λ K. reply_due K n) came ∙ g.due;
      settled = subst (λ K. is_settled_but n K ≡ true) (sym came) g.settled;
    }
