use Rattle.std.proofs.Common.{◌≡◌, ◌∷◌, [], length, arith, ap, sym, ◌∙◌}
use Rattle.dsql_laws_calls.specs.history.Legal.{Allowed}
use Rattle.dsql_laws_calls.specs.history.declared.event.Event.TheVariants.{Heard}
use Rattle.dsql_laws_calls.specs.history.Readers.Owed.{owed}
use Rattle.dsql_laws_calls.specs.history.Readers.Pool.{place, pool}
use Rattle.dsql_laws_calls.specs.laws.OwedMade.{with_moves}
use Rattle.dsql_engine_desk.specs.Desk.{past, Stands}
use Rattle.dsql_engine_desk.proofs.HouseCalls.{lent_owes_none}
use Rattle.dsql_engine_desk.proofs.desk.Desk.hear_lent.Goals as goal

pub returns : goal.returns
unfolding Stands Allowed
returns c =
    let H = past c.args.self.now in
    let e = c.args.entry in
    let K = Heard e ∷ H in
    let s = c.requires.may.stands in
    let added = c.add_answer.ensures in
    let none : owed K ≡ [] = lent_owes_none e (pool H) (place H e.conn) c.requires.may.allowed.sets c.requires.lent in
    let many : length (owed K) ≡ 0 = ap length none in
    let p = added.event in
    record {
      stands = record {
        tables = added.tables;
        closed_by = rw p (added.closed_by ∙ s.closed_by);
        pool = rw p (ap (λ q. q.pooled) added.pool ∙ s.pool);
        room = let same = ap (λ q. q.spare) added.pool in omega (arith, same, s.room, added.paid);
      };
      paid = omega (arith, many, added.paid);
      event = p ∙ ap (λ ms. with_moves ms K) (sym none);
      trimmed = added.trimmed;
    }
