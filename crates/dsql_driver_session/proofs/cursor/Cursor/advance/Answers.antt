use Rattle.std.proofs.Common.{ap, sym, ◌∙◌}
use Rattle.std.proofs.lemmas.List.{drop-drop}
use Rattle.dsql_driver_session.specs.Rows.{advanced}
use Rattle.dsql_driver_session.proofs.cursor.Cursor.advance.Goals as goal

pub returns-then-self-as_slice : goal.returns-then-self-as_slice
returns-then-self-as_slice c =
    ap (λ left. record { number = c.self.inside.number; width = c.self.inside.width; left = left }) (sym (drop-drop 1 c.self.inside.given c.self.inside.rows))
    ∙ ap advanced c.self.view_is
