use Rattle.std.proofs.Common.{◌≡◌, ◌==◌, true, ◌∙◌, ap, sym}
use Rattle.std.specs.List.{list_all}
use Rattle.dsql_tenure_asked.specs.Asked.{entry_like}
use Rattle.dsql_tenure.specs.Parts.{keeps_order, keeps_bad}
use Rattle.dsql_tenure.specs.Tables.{past}
use Rattle.dsql_tenure.proofs.Keeping.{keeps_of}
use Rattle.dsql_tenure_journal.specs.WholeJournal.{keeps_whole_journal as keeps_whole}
use Rattle.dsql_tenure.proofs.Groups.{keeps_whole_journal-groups, and-then, and-else}
use Rattle.dsql_tenure.proofs.tables.Tables.keeps_whole_journal.Goals as goal

pub returns-then-keeps_order : goal.returns-then-keeps_order
returns-then-keeps_order c =
    let t = c.args.self.now in
    let e = entry_like c.args.asked.now in
    let one : list_all (λ x. x.conn == e.conn) (past t) ≡ true = ap (λ n. list_all (λ x. x.conn == n) (past t)) c.requires.conn ∙ (keeps_of t c.requires.stands).one in
    c.keeps_bad.ensures
    ∙ and-then (keeps_order (past t) e) (keeps_bad (past t) e) (keeps_whole (past t) e) (keeps_whole_journal-groups (past t) e one) (sym c.keeps_order.ensures ∙ c.if-keeps_order.true)

pub returns-else-keeps_order : goal.returns-else-keeps_order
returns-else-keeps_order c =
    let t = c.args.self.now in
    let e = entry_like c.args.asked.now in
    let one : list_all (λ x. x.conn == e.conn) (past t) ≡ true = ap (λ n. list_all (λ x. x.conn == n) (past t)) c.requires.conn ∙ (keeps_of t c.requires.stands).one in
    c.if-keeps_order.false
    ∙ and-else (keeps_order (past t) e) (keeps_bad (past t) e) (keeps_whole (past t) e) (keeps_whole_journal-groups (past t) e one) (sym c.keeps_order.ensures ∙ c.if-keeps_order.false)
