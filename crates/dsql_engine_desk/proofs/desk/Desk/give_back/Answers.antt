use Rattle.std.proofs.Common.{◌≡◌, ◌≤◌, length, arith, ap, sym, subst, ◌∙◌}
use Rattle.dsql_laws_calls.specs.driver.declared.answer.DriverAnswer.TheVariants.{Bad}
use Rattle.dsql_laws_calls.specs.pool.Moved.{made}
use Rattle.dsql_laws_calls.specs.pool.Decisions.{when_given_back}
use Rattle.dsql_laws_calls.specs.pool.Calls.{moves_given_back}
use Rattle.dsql_laws_calls.specs.history.Legal.{Lawful}
use Rattle.dsql_laws_calls.specs.history.Readers.Owed.{fate, given_back}
use Rattle.dsql_laws_calls.specs.history.Readers.Pool.{pool}
use Rattle.dsql_laws_calls.specs.laws.OwedMade.{with_moves}
use Rattle.dsql_laws_calls.proofs.laws.GivenBack.{back_lawful, back_pool}
use Rattle.dsql_engine_desk.specs.Adding.{IsAnswerBefore}
use Rattle.dsql_engine_desk.specs.Desk.{past, Stands}
use Rattle.dsql_engine_desk.proofs.Kept.{back_unrefused}
use Rattle.dsql_engine_desk.specs.Step.{own_step}
use Rattle.dsql_engine_desk.proofs.Moves.{leaves}
use Rattle.dsql_engine_desk.proofs.OwnSteps.{back_step}
use Rattle.dsql_engine_desk.proofs.Present.{beside_pool, few_openings, some_move}
use Rattle.dsql_engine_desk.proofs.desk.Desk.give_back.Goals as goal

pub give_back-requires-clause-drawn : goal.give_back-requires-clause-drawn
give_back-requires-clause-drawn c = few_openings c.args.self.now c.requires.stands c.requires.few

pub add_moves-requires : goal.add_moves-requires
unfolding Stands
add_moves-requires c =
    let d = c.args.self.now in
    let H = past d in
    let conn = c.args.conn in
    let s = c.requires.stands in
    let t = s.tables in
    let all : c.give_back.new.pool.moves ≡ given_back H conn
    = c.give_back.ensures.moves ∙ (ap (λ q. moves_given_back c.args.fate conn q) s.pool ∙ ap (λ f. moves_given_back f conn (pool H)) c.requires.fate) in
    let many : length c.give_back.new.pool.moves ≡ length (given_back H conn) = ap length all in
    record {
      tables = beside_pool c.args.self.now c.give_back.new.pool t;
      lawful = subst (λ ms. Lawful (with_moves ms H)) (sym all) (back_lawful H conn t.lawful c.requires.leaves);
      answered = subst (λ ms. IsAnswerBefore Bad ms H) (sym all) (back_unrefused conn (pool H) (when_given_back (fate H conn) conn (pool H)) H);
      step = ap (λ ms. own_step (with_moves ms H)) all ∙ back_step H conn c.requires.leaves.owing;
      paid = omega (arith, many, c.requires.paid);
    }

pub returns : goal.returns
unfolding Stands
returns c =
    let d = c.args.self.now in
    let H = past d in
    let conn = c.args.conn in
    let s = c.requires.stands in
    let added = c.add_moves.ensures in
    let all : moves_given_back c.args.fate conn d.pool.pooled ≡ given_back H conn
    = ap (λ q. moves_given_back c.args.fate conn q) s.pool ∙ ap (λ f. moves_given_back f conn (pool H)) c.requires.fate in
    let moves : c.give_back.new.pool.moves ≡ given_back H conn = c.give_back.ensures.moves ∙ all in
    let many : length c.give_back.new.pool.moves ≡ length (given_back H conn) = ap length moves in
    let some : 1 ≤ length (given_back H conn) = some_move conn (pool H) (when_given_back (fate H conn) conn (pool H)) in
    let p : past c.add_moves.new.self ≡ with_moves (given_back H conn) H = added.came ∙ ap (λ ms. with_moves ms H) moves in
    let rest = leaves (given_back H conn) H in
    record {
      stands = record {
        tables = added.tables;
        closed_by = rw p (added.closed_by ∙ (s.closed_by ∙ sym rest.db_end));
        pool =
            rw p
            (ap (λ q. q.pooled) added.pool
            ∙ (c.give_back.ensures.pooled ∙ (ap (λ ms. made ms d.pool.pooled) all ∙ ap (made (given_back H conn)) s.pool) ∙ sym (back_pool H conn)));
        room = let same = ap (λ q. q.spare) added.pool in omega (arith, same, s.room, c.give_back.ensures.spare, some, many, added.paid);
      };
      paid = omega (arith, added.paid, many);
      moves = p;
      trimmed = added.trimmed;
    }
