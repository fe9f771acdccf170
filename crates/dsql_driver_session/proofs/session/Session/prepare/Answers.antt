use Rattle.dsql_driver_session.proofs.SessionLemmas.{AreSound-prepared}
use Rattle.dsql_driver_session.proofs.session.Session.prepare.Goals as goal

pub invariant_of-self-2 : goal.invariant_of-self-2
invariant_of-self-2 c = rw (c.push_reserved.ensures.items, c.reserve.ensures.items) (AreSound-prepared _ _ _ _ _ c.self.invariant)
