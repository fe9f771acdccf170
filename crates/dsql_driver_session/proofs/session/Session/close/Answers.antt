use Rattle.dsql_driver_session.proofs.SessionLemmas.{AreSound-closed}
use Rattle.dsql_driver_session.proofs.session.Session.close.Goals as goal

pub invariant_of-self : goal.invariant_of-self
invariant_of-self c = rw c.take_out.ensures (AreSound-closed _ _ _ _ _ c.self.invariant)
