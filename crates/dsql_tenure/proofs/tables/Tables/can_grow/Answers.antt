use Rattle.std.proofs.Common.{◌≡◌, true, Some, ◌∙◌, ap}
use native.Mathlib.Omega.{arith}
use Rattle.dsql_tenure_journal.specs.declared.entry.Owner.{Owner}
use Rattle.dsql_tenure_journal.specs.Readers.{went_bad as bad_in}
use Rattle.dsql_tenure.specs.Tables.{past}
use Rattle.dsql_tenure.proofs.Standing.{stands-grows}
use Rattle.dsql_tenure.proofs.tables.Tables.can_grow.Goals as goal

pub returns-in-Tx : goal.returns-in-Tx
returns-in-Tx c =
    let bad : bad_in (past c.args.self.now) ≡ true = grind (arith, c.went_bad.ensures, c.if-not-went_bad.false) in
    c.is_open.ensures ∙ stands-grows c.args.self.now c.requires.stands c.in-Tx.number (c.requires.owner ∙ ap (λ (o : Owner). Some o) c.in-Tx.is) c.if-self.false c.if-self-2.false bad
