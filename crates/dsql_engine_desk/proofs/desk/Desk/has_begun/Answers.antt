use Rattle.std.proofs.Common.{◌≡◌, ◌==◌, true, not, ◌&&◌, refl, sym, ap, ◌∙◌}
use Rattle.dsql_laws_calls.proofs.laws.Tests.{other_number}
use Rattle.dsql_engine_desk.specs.Desk.{past, Stands}
use Rattle.dsql_engine_lines.specs.Sent.{sent_on}
use Rattle.dsql_engine_desk.proofs.BegunToSend.{begun_so}
use Rattle.dsql_engine_desk.proofs.desk.Desk.has_begun.Goals as goal

pub returns-then-conn-ne0 : goal.returns-then-conn-ne0
unfolding Stands
returns-then-conn-ne0 c =
    let conn = c.site-conn.result in
    sym
    (begun_so (past c.args.self.now) c.args.call conn c.sent_on.result c.requires.stands.tables.lawful c.requires.inside c.site-conn.ensures c.sent_on.ensures
    ∙ ap (λ b. not b && (c.sent_on.result == conn)) (other_number conn 0 c.if-conn-ne0.true))

pub returns-else-conn-ne0 : goal.returns-else-conn-ne0
unfolding Stands
returns-else-conn-ne0 c =
    let conn = c.site-conn.result in
    let H = past c.args.self.now in
    let none : (conn == 0) ≡ true = ap (λ n. n == 0) c.if-conn-ne0.false in
    ap not none
    ∙ sym
    (begun_so H c.args.call conn (sent_on H c.args.call) c.requires.stands.tables.lawful c.requires.inside c.site-conn.ensures refl
    ∙ ap (λ b. not b && (sent_on H c.args.call == conn)) none)
