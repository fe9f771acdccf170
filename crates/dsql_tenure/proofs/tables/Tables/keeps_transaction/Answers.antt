use Rattle.std.proofs.Common.{◌≢◌, ◌∙◌, sym}
use native.Mathlib.Omega.{arith}
use Rattle.std.proofs.lemmas.Bool.Decides.{nat_tests}
use Rattle.dsql_tenure_journal.specs.Transaction.{keeps_transaction as keeps, has_owner_of_transaction}
use Rattle.dsql_tenure_asked.specs.Asked.{entry_like}
use Rattle.dsql_tenure.specs.Open.{keeps_number}
use Rattle.dsql_tenure.specs.Tables.{past}
use Rattle.dsql_tenure.proofs.Keeping.{keeps_of}
use Rattle.dsql_tenure.proofs.Groups.{and-then, and-else}
use Rattle.dsql_tenure.proofs.Owned.{served}
use Rattle.dsql_tenure.proofs.TransactionRules.{rises, keeps_transaction-is}
use Rattle.dsql_tenure.proofs.tables.Tables.keeps_transaction.Goals as goal

pub returns-then-owns_transaction : goal.returns-then-owns_transaction
returns-then-owns_transaction c =
    let t = c.args.self.now in
    let e = entry_like c.args.asked.now in
    let some : e.tx ≢ 0 = λ is. grind (arith, nat_tests, c.if-asked-eq0.false, is) in
    c.keeps_number.ensures
    ∙ and-then (has_owner_of_transaction e) (keeps_number (past t) e) (keeps (past t) e)
    (keeps_transaction-is (past t) e (keeps_of t c.requires.stands).prefix (rises (past t) e c.requires.whole) some (served (past t) e c.requires.uses))
    (sym c.owns_transaction.ensures ∙ c.if-owns_transaction.true)

pub returns-else-owns_transaction : goal.returns-else-owns_transaction
returns-else-owns_transaction c =
    let t = c.args.self.now in
    let e = entry_like c.args.asked.now in
    let some : e.tx ≢ 0 = λ is. grind (arith, nat_tests, c.if-asked-eq0.false, is) in
    c.if-owns_transaction.false
    ∙ and-else (has_owner_of_transaction e) (keeps_number (past t) e) (keeps (past t) e)
    (keeps_transaction-is (past t) e (keeps_of t c.requires.stands).prefix (rises (past t) e c.requires.whole) some (served (past t) e c.requires.uses))
    (sym c.owns_transaction.ensures ∙ c.if-owns_transaction.false)
