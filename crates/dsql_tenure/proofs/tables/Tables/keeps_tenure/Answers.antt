use Rattle.std.proofs.Common.{ap, ◌∙◌, sym}
use Rattle.dsql_tenure_journal.specs.Readers.{of_tenure}
use Rattle.dsql_tenure_journal.specs.Tenure.{keeps_tenure as keeps}
use Rattle.dsql_tenure.specs.declared.so_far.SoFar.{SoFar}
use Rattle.dsql_tenure_asked.specs.Asked.{entry_like}
use Rattle.dsql_tenure.specs.SoFar.{so_far}
use Rattle.dsql_tenure.specs.TenureParts.{keeps_shape, keeps_rest}
use Rattle.dsql_tenure.specs.Tables.{past}
use Rattle.dsql_tenure.proofs.Keeping.{keeps_of}
use Rattle.dsql_tenure.proofs.Groups.{and-then, and-else}
use Rattle.dsql_tenure.proofs.Owned.{served}
use Rattle.dsql_tenure.proofs.TenureRules.{keeps_tenure-groups}
use Rattle.dsql_tenure.proofs.tables.Tables.keeps_tenure.Goals as goal

pub returns-then-keeps_shape : goal.returns-then-keeps_shape
returns-then-keeps_shape c =
    let t = c.args.self.now in
    let e = entry_like c.args.asked.now in
    let s = so_far (of_tenure e.tenure (past t)) in
    c.keeps_rest.ensures
    ∙ ap (λ (x : SoFar). keeps_rest x (past t) e) c.so_far_of-so_far.ensures
    ∙ and-then (keeps_shape s e) (keeps_rest s (past t) e) (keeps (past t) e)
    (keeps_tenure-groups (past t) e (keeps_of t c.requires.stands).prefix c.requires.last (served (past t) e c.requires.uses))
    (ap (λ (x : SoFar). keeps_shape x e) (sym c.so_far_of-so_far.ensures) ∙ sym c.keeps_shape.ensures ∙ c.if-keeps_shape.true)

pub returns-else-keeps_shape : goal.returns-else-keeps_shape
returns-else-keeps_shape c =
    let t = c.args.self.now in
    let e = entry_like c.args.asked.now in
    let s = so_far (of_tenure e.tenure (past t)) in
    c.if-keeps_shape.false
    ∙ and-else (keeps_shape s e) (keeps_rest s (past t) e) (keeps (past t) e)
    (keeps_tenure-groups (past t) e (keeps_of t c.requires.stands).prefix c.requires.last (served (past t) e c.requires.uses))
    (ap (λ (x : SoFar). keeps_shape x e) (sym c.so_far_of-so_far.ensures) ∙ sym c.keeps_shape.ensures ∙ c.if-keeps_shape.false)
