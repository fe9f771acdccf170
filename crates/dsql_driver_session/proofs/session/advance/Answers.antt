use Rattle.std.proofs.Common.{◌≡◌, Some, None, eqb, sym, ap, ◌∙◌}
use Rattle.std.specs.List.{position}
use Rattle.dsql_driver_session.specs.Rows.{CursorState, advanced}
use Rattle.dsql_driver_session.proofs.CursorLemmas.{with_advanced-found, with_advanced-none}
use Rattle.dsql_driver_session.proofs.session.advance.Goals as goal

pub returns-in-Some : goal.returns-in-Some
returns-in-Some c =
    let found : position (λ (d : CursorState). eqb d.number c.args.rows) c.args.cursors.now.items ≡ Some c.in-Some.at = ap (position (λ (d : CursorState). eqb d.number c.args.rows)) (sym c.deref.ensures.value) ∙ sym c.place_of.ensures ∙ c.in-Some.is in
    with_advanced-found _ _ _ _ _ found (c.advance.ensures ∙ ap advanced c.index_mut-cursor.ensures.value)

pub returns-in_default : goal.returns-in_default
returns-in_default c =
    let none : position (λ (d : CursorState). eqb d.number c.args.rows) c.args.cursors.now.items ≡ None = ap (position (λ (d : CursorState). eqb d.number c.args.rows)) (sym c.deref.ensures.value) ∙ sym c.place_of.ensures ∙ c.in_default.is in
    sym (with_advanced-none c.args.rows c.args.cursors.now.items none)
