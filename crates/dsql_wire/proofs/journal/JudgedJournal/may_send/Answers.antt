use Rattle.std.proofs.Common.{◌↔◌, IsTrue, subst}
use Rattle.dsql_tenure.specs.Judged.{Judged, MaySend}
use Rattle.dsql_wire.proofs.journal.JudgedJournal.may_send.Goals as goal

pub returns : goal.returns
returns c =
    subst (λ (j : Judged). IsTrue c.may_send.result ↔ MaySend j c.args.permit.now) c.self.view_is c.may_send.ensures
