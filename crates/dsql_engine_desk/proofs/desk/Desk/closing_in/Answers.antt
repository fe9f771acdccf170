use Rattle.std.proofs.Common.{◌≡◌, true, cond, None, sym, ap, ◌∙◌}
use Rattle.dsql_engine_calls.proofs.Borrowers.{row_work}
use Rattle.dsql_engine_desk.specs.Desk.{past, Stands}
use Rattle.dsql_laws_calls.specs.history.Readers.Works.{hands_out_in, work}
use Rattle.dsql_laws_calls.specs.history.Rules.Sent.{close_due}
use Rattle.dsql_engine_desk.proofs.desk.Desk.closing_in.Goals as goal

pub returns-then-hands_out_in : goal.returns-then-hands_out_in
unfolding Stands
returns-then-hands_out_in c asked =
    let d = c.args.self.now in
    let H = past d in
    let n = c.args.query in
    let hands : hands_out_in c.args.tx (work H n) ≡ true = sym (ap (hands_out_in c.args.tx) (row_work H d.calls.items n c.requires.tables.calls)) ∙ (sym c.hands_out_in.ensures ∙ c.if-hands_out_in.true) in
    c.close_due.ensures asked ∙ sym (ap (λ b. cond b (close_due H n) None) hands)
