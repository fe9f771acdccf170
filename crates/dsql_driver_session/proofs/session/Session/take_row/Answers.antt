use Rattle.dsql_driver_session.proofs.SessionLemmas.{AreSound-advanced}
use Rattle.dsql_driver_session.proofs.session.Session.take_row.Goals as goal

pub invariant_of-self : goal.invariant_of-self
invariant_of-self c = rw c.advance.ensures (AreSound-advanced _ _ _ _ _ c.self.invariant)
