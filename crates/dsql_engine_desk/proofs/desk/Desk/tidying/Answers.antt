use Rattle.std.proofs.Common.{◌≡◌, ◌==◌, true, false, cond, None, sym, ap, ◌∙◌}
use Rattle.dsql_engine_desk.specs.Desk.{past}
use Rattle.dsql_laws_calls.specs.history.Readers.HandedOut.{ender}
use Rattle.dsql_laws_calls.specs.history.Readers.Transactions.{is_begun, tx_ender}
use Rattle.dsql_laws_calls.specs.history.Rules.Ending.{ending}
use Rattle.dsql_laws_calls.specs.history.Rules.Sent.{close_due}
use Rattle.dsql_engine_desk.proofs.desk.Desk.tidying.Goals as goal

pub returns-then-tx_ender-eq0 : goal.returns-then-tx_ender-eq0
returns-then-tx_ender-eq0 c asked =
    let H = past c.args.self.now in
    let n = c.args.call in
    let begun : is_begun H n ≡ true = sym c.is_begun.ensures ∙ c.if-is_begun.true in
    let unended : (tx_ender H n == 0) ≡ true = ap (λ m. m == 0) (sym c.tx_ender.ensures ∙ c.if-tx_ender-eq0.true) in
    c.ending.ensures asked
    ∙ sym
    (ap (λ b. cond b (cond (tx_ender H n == 0) (ending H n) None) (cond (ender H n == 0) (close_due H n) None)) begun
    ∙ ap (λ b. cond b (ending H n) None) unended)

pub returns-then-ender-eq0 : goal.returns-then-ender-eq0
returns-then-ender-eq0 c asked =
    let H = past c.args.self.now in
    let n = c.args.call in
    let begun : is_begun H n ≡ false = sym c.is_begun.ensures ∙ c.if-is_begun.false in
    let unended : (ender H n == 0) ≡ true = ap (λ m. m == 0) (sym c.ender.ensures ∙ c.if-ender-eq0.true) in
    c.close_due.ensures asked
    ∙ sym
    (ap (λ b. cond b (cond (tx_ender H n == 0) (ending H n) None) (cond (ender H n == 0) (close_due H n) None)) begun
    ∙ ap (λ b. cond b (close_due H n) None) unended)
