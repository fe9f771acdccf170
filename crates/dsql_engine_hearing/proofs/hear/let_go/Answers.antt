use Rattle.std.proofs.Common.{◌≡◌, Bool, true, false, cond, refl, sym, ap, ◌∙◌, arith}
use Rattle.dsql_engine_going.specs.history.Readers.Owed.{given_back}
use Rattle.dsql_engine_going.specs.history.Rules.Line.{is_used}
use Rattle.dsql_engine_going.specs.laws.OwedMade.{with_moves}
use Rattle.dsql_engine_going.proofs.laws_calls.Owed.{few_given_back}
use Rattle.dsql_engine_going.specs.desk.Desk.{past}
use Rattle.dsql_engine_hearing.proofs.hear.let_go.Goals as goal

pub give_back-requires : goal.give_back-requires
give_back-requires c =
    let K = past c.args.desk.now in
    let spared : c.is_used.result ≡ false = grind (arith, c.if-not-is_used.true) in
    record {
      stands = c.requires.pays.stands;
      leaves = c.requires.leaves (sym c.is_used.ensures ∙ spared);
      fate = c.fate_now-fate.ensures;
      paid = let few = few_given_back K c.args.conn in let paid = c.requires.pays.paid in omega (arith, few, paid);
      few = let room = c.requires.pays.few in omega (arith, room);
    }

pub returns-then-not-is_used : goal.returns-then-not-is_used
returns-then-not-is_used c =
    let K = past c.args.desk.now in
    let spared : c.is_used.result ≡ false = grind (arith, c.if-not-is_used.true) in
    let unused : is_used K c.args.borrower ≡ false = sym c.is_used.ensures ∙ spared in
    record {
      stands = c.give_back.ensures.stands;
      paid = let few = few_given_back K c.args.conn in let paid = c.give_back.ensures.paid in omega (arith, few, paid);
      history = c.give_back.ensures.moves ∙ sym (ap (λ (b : Bool). cond b K (with_moves (given_back K c.args.conn) K)) unused);
      trimmed = c.give_back.ensures.trimmed;
    }

pub returns-else-not-is_used : goal.returns-else-not-is_used
returns-else-not-is_used c =
    let K = past c.args.desk.now in
    let busy : c.is_used.result ≡ true = grind (arith, c.if-not-is_used.false) in
    let used : is_used K c.args.borrower ≡ true = sym c.is_used.ensures ∙ busy in
    record {
      stands = c.requires.pays.stands;
      paid = omega (arith);
      history = sym (ap (λ (b : Bool). cond b K (with_moves (given_back K c.args.conn) K)) used);
      trimmed = refl;
    }
