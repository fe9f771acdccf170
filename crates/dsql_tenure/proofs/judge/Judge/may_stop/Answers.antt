use Rattle.std.proofs.Common.{◌≡◌, true, false, ◌||◌, Bool, ◌∙◌, ap, sym}
use native.Mathlib.Omega.{arith}
use Rattle.dsql_tenure_journal.specs.Journal.{is_whole}
use Rattle.dsql_tenure.specs.Judged.{Judged}
use Rattle.dsql_tenure.specs.Tables.{past}
use Rattle.dsql_tenure.proofs.Standing.{stands-whole}
use Rattle.dsql_tenure.proofs.judge.Judge.may_stop.Goals as goal

pub returns-then-self : goal.returns-then-self
returns-then-self c =
    let whole = stands-whole c.self.inside.tables c.self.invariant in
    let is : is_whole (past c.self.inside.tables) ≡ true = grind (arith, whole, c.if-self.true) in
    c.if-self.true ∙ sym is ∙ ap (λ (j : Judged). is_whole j.journal) c.self.view_is

pub returns-else-self : goal.returns-else-self
returns-else-self c =
    let whole = stands-whole c.self.inside.tables c.self.invariant in
    first c.self.inside.tables.refused c.self.inside.tables.shut (is_whole (past c.self.inside.tables)) whole c.if-self.false
    ∙ ap (λ (j : Judged). is_whole j.journal) c.self.view_is
  where
    first : (a b w : Bool) → (a || b) ≡ w → a ≡ false → b ≡ w
    first true b w h is = grind (arith, is)
    first false b w h is = h
