use Rattle.std.proofs.Common.{◌≡◌, true, length, ap, ◌∙◌}
use Rattle.dsql_driver_session.specs.Rows.{are_wide}
use Rattle.dsql_driver_session.proofs.SessionLemmas.{AreSound-opened}
use Rattle.dsql_driver_session.proofs.session.Session.open.Goals as goal

pub invariant_of-self-2 : goal.invariant_of-self-2
invariant_of-self-2 c =
    let parts = c.into_parts-columns in
    let width : length c.as_slice-width.result.now ≡ length c.args.set.columns = ap length (c.as_slice-width.ensures ∙ parts.ensures.columns) in
    let wide : are_wide (length c.as_slice-width.result.now) parts.result.1 ≡ true = rw (width, parts.ensures.rows) parts.ensures.wide in
    rw (c.push_reserved.ensures.items, c.reserve.ensures.items, c.new.ensures) (AreSound-opened _ _ _ _ _ _ wide c.self.invariant)
