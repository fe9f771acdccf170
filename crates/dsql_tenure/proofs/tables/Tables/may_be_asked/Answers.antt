use Rattle.std.proofs.Common.{◌≡◌, Bool, true, false, ◌&&◌, ◌∙◌, sym, refl}
use native.Mathlib.Omega.{arith}
use Rattle.std.proofs.lemmas.Bool.Decides.{nat_tests}
use Rattle.dsql_tenure_journal.specs.WholeJournal.{keeps_whole_journal}
use Rattle.dsql_tenure_journal.specs.HandlesAndCursors.{keeps_handles_and_cursors}
use Rattle.dsql_tenure_journal.specs.Tenure.{keeps_tenure}
use Rattle.dsql_tenure_journal.specs.Transaction.{keeps_transaction}
use Rattle.dsql_tenure_asked.specs.Asked.{entry_like}
use Rattle.dsql_tenure.specs.Tables.{past}
use Rattle.dsql_tenure.proofs.TransactionRules.{Rises, rises}
use Rattle.dsql_tenure.proofs.tables.Tables.may_be_asked.Goals as goal

unused : (w t x u : Bool) → u ≡ false → false ≡ (w && t && x && u)
unused w t x true h = sym h ∙ absurd_of h
  where
    absurd_of : true ≡ false → true ≡ (w && t && x && true)
    absurd_of h = grind (arith, h)
unused w t x false h = never (w && t && x)
  where
    never : (b : Bool) → false ≡ (b && false)
    never true = refl
    never false = refl

pub returns-then-not-keeps_handles_and_cursors : goal.returns-then-not-keeps_handles_and_cursors
returns-then-not-keeps_handles_and_cursors c =
    let j = past c.args.self.now in
    let e = entry_like c.args.asked.now in
    let uses : keeps_handles_and_cursors j e ≡ false = grind (arith, c.keeps_handles_and_cursors.ensures, c.if-not-keeps_handles_and_cursors.true) in
    unused (keeps_whole_journal j e) (keeps_tenure j e) (keeps_transaction j e) (keeps_handles_and_cursors j e) uses

pub keeps_tenure-requires-clause-last : goal.keeps_tenure-requires-clause-last
keeps_tenure-requires-clause-last c =
    let j = past c.args.self.now in
    let e = entry_like c.args.asked.now in
    let whole : keeps_whole_journal j e ≡ true = grind (arith, c.keeps_whole_journal.ensures, c.if-not-keeps_whole_journal.false) in
    let r : Rises j e = rises j e whole in
    grind (arith, nat_tests, r.rising)
