use Rattle.dsql_driver_session.proofs.LawfulLemmas.{heard-fits, heard-handles, heard-cursors}
use Rattle.sqlite_driver.proofs.WireLemmas.{Hears-IsHeard}
use Rattle.sqlite_driver.proofs.wire.SqliteWireWire.call.Goals as goal

pub returns-clause-fitting : goal.returns-clause-fitting
returns-clause-fitting g c =
    let h = c.answer.ensures in
    heard-fits _ _ _ _ (Hears-IsHeard _ _ _ _ h.sound h.heard h.wants)

pub returns-clause-handles : goal.returns-clause-handles
returns-clause-handles g c =
    let h = c.answer.ensures in
    rw (← c.self.view_is) (heard-handles _ _ _ _ (Hears-IsHeard _ _ _ _ h.sound h.heard h.wants))

pub returns-clause-cursors : goal.returns-clause-cursors
returns-clause-cursors g c =
    let h = c.answer.ensures in
    rw (← c.self.view_is) (heard-cursors _ _ _ _ (Hears-IsHeard _ _ _ _ h.sound h.heard h.wants))
