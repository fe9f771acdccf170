use Rattle.std.proofs.Common.{◌≡◌, true, false, is_some, sym, ap, ◌∙◌}
use Rattle.dsql_engine_desk.specs.Desk.{past, Stands}
use Rattle.dsql_engine_going.proofs.Leaves.{leave_given, permit_there}
use Rattle.dsql_engine_going.proofs.permits.leave_for.Goals as goal

pub unreachable-requires : goal.unreachable-requires
unfolding Stands
unreachable-requires c =
    let H = past c.args.desk.now in
    let m = c.args.call in
    let l = c.requires.stands.tables.lawful in
    let given = permit_there H m c.args.conn c.args.due c.place-place.result c.statement-statement.result c.sent_at.result c.requires.site c.requires.due c.place-place.ensures c.statement-statement.ensures c.sent_at.ensures in
    let clash : true ≡ false = sym (leave_given H m l (ap (λ o. is_some o) (sym c.requires.due))) ∙ (ap (λ o. is_some o) (sym given) ∙ ap (λ o. is_some o) c.in-None.is) in
    absurd cc

pub returns : goal.returns
returns c =
    let H = past c.args.desk.now in
    let m = c.args.call in
    sym (permit_there H m c.args.conn c.args.due c.place-place.result c.statement-statement.result c.sent_at.result c.requires.site c.requires.due c.place-place.ensures c.statement-statement.ensures c.sent_at.ensures) ∙ c.in-Some.is
