use Rattle.std.proofs.Common.{◌↔◌, IsTrue, subst}
use Rattle.dsql_wire.specs.Journaled.{Journaled, MayBeSent}
use Rattle.dsql_wire.proofs.thin.ThinWire.may_send.Goals as goal

pub returns : goal.returns
returns g c =
    subst (λ (j : Journaled _). IsTrue c.may_send.result ↔ MayBeSent j.conn j.journal c.args.permit.now) c.self.view_is c.may_send.ensures
