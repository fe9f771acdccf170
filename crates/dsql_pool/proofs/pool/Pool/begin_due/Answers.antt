use Rattle.std.proofs.Common.{◌<◌, ap, ◌∙◌, arith, subst, ℕ}
use Rattle.dsql_pool.specs.Pooled.{Pooled, open_count, next_number}
use Rattle.dsql_pool.specs.Decisions.{due_openings}
use Rattle.dsql_pool.proofs.Due.{moves_next, drawn_so_far, open_so_far, pool_next, due_is_allowed, allowed_most}
use Rattle.dsql_pool.proofs.pool.Pool.begin_due.Goals as goal

pub make_opening-requires-clause-room : goal.make_opening-requires-clause-room
make_opening-requires-clause-room c = omega arith

pub make_opening-requires-clause-few : goal.make_opening-requires-clause-few
make_opening-requires-clause-few c =
    let p = c.args.self.now.pooled in
    let k = c.loop-k._k in
    let opened = ap open_count c.loop-k.invariant.0 ∙ open_so_far k (next_number p) p in
    let due : k < due_openings p = subst (λ (n : ℕ). k < n) c.due_openings-due.ensures c.loop-k-test.true in
    let allowed = due_is_allowed k p due in
    let most = allowed_most p in
    omega (arith, opened, allowed, most)

pub make_opening-requires-clause-space : goal.make_opening-requires-clause-space
make_opening-requires-clause-space c =
    let p = c.args.self.now.pooled in
    let k = c.loop-k._k in
    let due : k < due_openings p = subst (λ (n : ℕ). k < n) c.due_openings-due.ensures c.loop-k-test.true in
    let allowed = due_is_allowed k p due in
    let most = allowed_most p in
    omega (arith, c.loop-k.invariant.3, c.loop-k.invariant.4, c.requires.space, allowed, most)

pub make_opening-requires-clause-drawn : goal.make_opening-requires-clause-drawn
make_opening-requires-clause-drawn c =
    let p = c.args.self.now.pooled in
    let k = c.loop-k._k in
    let drawn = ap (λ (q : Pooled). q.drawn) c.loop-k.invariant.0 ∙ drawn_so_far k (next_number p) p in
    let due : k < due_openings p = subst (λ (n : ℕ). k < n) c.due_openings-due.ensures c.loop-k-test.true in
    let allowed = due_is_allowed k p due in
    let most = allowed_most p in
    omega (arith, drawn, allowed, most, c.requires.drawn)

pub loop-k-preserved : goal.loop-k-preserved
loop-k-preserved c =
    let p = c.args.self.now.pooled in
    let k = c.loop-k._k in (
      pool_next k (next_number p) p c.loop-k.self.pooled _ c.loop-k.invariant.0 c.make_opening.ensures.pooled,
      moves_next k p c.loop-k.self.pooled c.args.self.now.moves c.loop-k.self.moves _ c.loop-k.invariant.0 c.loop-k.invariant.1 c.make_opening.ensures.moves,
      omega arith,
      omega arith,
      omega arith,
    )
