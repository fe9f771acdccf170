use Rattle.std.proofs.Common.{◌<◌, List, ◌∙◌, ap, sym}
use native.Mathlib.Omega.{arith}
use Rattle.std.proofs.lemmas.Bool.Decides.{nat_tests}
use Rattle.dsql_tenure_journal.specs.declared.entry.Entry.{Entry}
use Rattle.dsql_tenure_journal.specs.Readers.{last_tenure}
use Rattle.dsql_tenure_journal.proofs.Tenures.{of_tenure-new}
use Rattle.dsql_tenure.specs.SoFar.{so_far}
use Rattle.dsql_tenure.specs.Tables.{past}
use Rattle.dsql_tenure.proofs.Keeping.{keeps_of}
use Rattle.dsql_tenure.proofs.tables.Tables.so_far_of.Goals as goal

pub returns-else-number-self : goal.returns-else-number-self
returns-else-number-self c =
    let t = c.args.self.now in
    let last = (keeps_of t c.requires.stands).tenure in
    let above : last_tenure (past t) < c.args.number = grind (arith, nat_tests, last, c.requires.last, c.if-number-self.false) in
    c.nothing.ensures ∙ ap (λ (xs : List Entry). so_far xs) (sym (of_tenure-new c.args.number (past t) (keeps_of t c.requires.stands).prefix above))
