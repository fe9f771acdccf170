use Rattle.std.proofs.Common.{◌↔◌, IsTrue, ◌∙◌, sym, subst}
use Rattle.dsql_tenure.specs.Judged.{Judged, MaySend}
use Rattle.dsql_tenure.specs.Tables.{past}
use Rattle.dsql_tenure.proofs.Keeping.{keeps_of}
use Rattle.dsql_tenure.proofs.Sending.{all_may, may_all}
use Rattle.dsql_tenure.proofs.judge.Judge.may_send.Goals as goal

pub returns : goal.returns
returns c =
    let t = c.self.inside.tables in
    let k = keeps_of t c.self.invariant in
    let p = c.args.permit.now in
    subst (λ (j : Judged). IsTrue c.may_send.result ↔ MaySend j p) c.self.view_is
    ((λ is. all_may t.conn (past t) k.prefix k.one p (sym c.may_send.ensures ∙ is)), (λ every. c.may_send.ensures ∙ may_all t.conn (past t) k.prefix k.one p every))
