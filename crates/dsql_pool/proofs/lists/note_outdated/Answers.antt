use Rattle.std.proofs.Common.{ap, arith, vec_len, vec_capacity}
use Rattle.dsql_pool.specs.Decisions.{closing_at}
use Rattle.dsql_pool.proofs.Closed.{closings_more, closings_same}
use Rattle.dsql_pool.proofs.lists.note_outdated.Goals as goal
use Rattle.dsql_pool.proofs.lists.note_outdated.Goals.{in-Some, in_default}

pub loop-conn-preserved : goal.loop-conn-preserved
loop-conn-preserved c =
    let closing = closing_at c.args.limits c.args.moment c.args.conns.now.conns in
    let idle = c.args.idle.now in
    let i = c.loop-conn.conn-index in
    elim c.match-closing_at.branch [
      | in-Some w ↦ (
        rw (w.moves-is, closings_more closing idle i c.closing_at.result c.loop-conn-test.true c.closing_at.ensures, w.in-Some.is) (cc (w.push_reserved.ensures.items)),
        omega (arith, ap vec_len w.moves-is, w.push_reserved.ensures.len, c.loop-conn.invariant.1),
        omega (arith, ap vec_capacity w.moves-is, w.push_reserved.ensures.capacity, c.loop-conn.invariant.2),
      )
      | in_default w ↦ (
        rw (w.moves-is, closings_same closing idle i c.closing_at.result c.loop-conn-test.true c.closing_at.ensures w.in_default.is) c.loop-conn.invariant.0,
        omega (arith, ap vec_len w.moves-is, c.loop-conn.invariant.1),
        omega (arith, ap vec_capacity w.moves-is, c.loop-conn.invariant.2),
      )
    ]
