use Rattle.std.proofs.Common.{subst}
use Rattle.dsql_engine_hearing.specs.history.Legal.{Legal}
use Rattle.dsql_engine.specs.Core.{Core}
use Rattle.dsql_engine.proofs.Legality.{legal_of}
use Rattle.dsql_engine.proofs.engine.Engine.history.Goals as goal

pub returns-clause-legal : goal.returns-clause-legal
returns-clause-legal c = subst (λ (v : Core). Legal v.past) c.self.view_is (legal_of c.self.inside.desk c.self.invariant.0 c.self.invariant.1 c.self.invariant.2)
