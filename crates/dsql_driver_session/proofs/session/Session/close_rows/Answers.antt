use Rattle.dsql_driver_session.proofs.SessionLemmas.{AreSound-rows_closed}
use Rattle.dsql_driver_session.proofs.session.Session.close_rows.Goals as goal

pub invariant_of-self : goal.invariant_of-self
invariant_of-self c = rw c.take_out_cursor.ensures (AreSound-rows_closed _ _ _ _ _ c.self.invariant)
