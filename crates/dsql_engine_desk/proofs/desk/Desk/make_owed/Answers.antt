use Rattle.std.proofs.Common.{◌≡◌, length, arith, ap, sym, subst, ◌∙◌}
use Rattle.dsql_laws_calls.specs.history.Legal.{Lawful}
use Rattle.dsql_laws_calls.specs.history.Readers.Owed.{owed}
use Rattle.dsql_laws_calls.specs.laws.OwedMade.{with_moves}
use Rattle.dsql_laws_calls.proofs.laws.OwedAllowed.{owed_lawful, owed_pool}
use Rattle.dsql_engine_desk.specs.Desk.{past, Stands, Owes}
use Rattle.dsql_engine_desk.proofs.Moves.{leaves}
use Rattle.dsql_engine_desk.proofs.Kept.{answered_before}
use Rattle.dsql_engine_desk.proofs.OwnSteps.{owed_step}
use Rattle.dsql_engine_desk.proofs.desk.Desk.make_owed.Goals as goal

pub add_moves-requires : goal.add_moves-requires
unfolding Owes
add_moves-requires c =
    let d = c.args.self.now in
    let H = past d in
    let o = c.requires.owes in
    let many : length d.pool.moves ≡ length (owed H) = ap length o.moves in
    record {
      tables = o.tables;
      lawful = subst (λ ms. Lawful (with_moves ms H)) (sym o.moves) (owed_lawful H o.tables.lawful);
      answered = answered_before c.args.answer d.pool.moves H c.requires.answer;
      step = owed_step d.pool.moves H (sym o.moves);
      paid = omega (arith, many, o.paid);
    }

pub returns : goal.returns
unfolding Stands Owes
returns c =
    let d = c.args.self.now in
    let H = past d in
    let o = c.requires.owes in
    let added = c.add_moves.ensures in
    let many : length d.pool.moves ≡ length (owed H) = ap length o.moves in
    let p : past c.add_moves.new.self ≡ with_moves (owed H) H = added.came ∙ ap (λ ms. with_moves ms H) o.moves in
    let rest = leaves (owed H) H in
    record {
      stands = record {
        tables = added.tables;
        closed_by = rw p (added.closed_by ∙ (o.closed_by ∙ sym rest.db_end));
        pool = rw p (ap (λ q. q.pooled) added.pool ∙ (o.pool ∙ sym (owed_pool H)));
        room = let same = ap (λ q. q.spare) added.pool in omega (arith, same, o.room, added.paid);
      };
      paid = omega (arith, added.paid, many);
      moves = p;
      trimmed = added.trimmed;
    }
