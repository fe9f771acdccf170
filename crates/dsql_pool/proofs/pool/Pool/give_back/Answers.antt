-- The connection comes back and goes to the oldest request, in the tenure that was its next before.
use Rattle.dsql_pool.proofs.Due.{moves_served, pool_served}
use Rattle.dsql_pool.proofs.pool.Pool.give_back.Goals as goal

pub returns-in-Serves-clause-moves : goal.returns-in-Serves-clause-moves
returns-in-Serves-clause-moves c =
    moves_served c.args.fate c.args.conn c.args.self.now.pooled c.make_ready.new.self.pooled c.make_back.new.self.pooled _ _ _
    c.in_ok-make_ready.ensures.pooled c.in-Serves.ensures c.in_ok-make_ready.ensures.moves c.make_back.ensures.moves c.make_back.ensures.pooled c.serve_oldest.ensures.moves

pub returns-in-Serves-clause-ok : goal.returns-in-Serves-clause-ok
returns-in-Serves-clause-ok c =
    pool_served c.args.fate c.args.conn c.args.self.now.pooled c.make_ready.new.self.pooled c.make_back.new.self.pooled _
    c.in_ok-make_ready.ensures.pooled c.in-Serves.ensures c.make_back.ensures.pooled c.serve_oldest.ensures.pooled
