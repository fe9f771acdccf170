use Rattle.std.proofs.Common.{◌≡◌, ◌==◌, true, false, ◌∙◌, ◌∷◌}
use native.Mathlib.Omega.{arith}
use Rattle.std.proofs.lemmas.Bool.Decides.{nat_tests}
use Rattle.dsql_tenure_journal.specs.Journal.{may_follow as may_come}
use Rattle.dsql_tenure.specs.Beginnings.{is_beginning_of}
use Rattle.dsql_tenure.specs.Tables.{past}
use Rattle.dsql_tenure.proofs.Groups.{and-then, and-else}
use Rattle.dsql_tenure.proofs.Standing.{stands-more}
use Rattle.dsql_tenure.proofs.tables.Tables.accepts.Goals as goal

pub returns-then-entry-self : goal.returns-then-entry-self
returns-then-entry-self c =
    let t = c.args.self.now in
    let e = c.args.entry.now in
    let same : (e.conn == t.conn) ≡ true = grind (arith, nat_tests, c.if-entry-self.true) in
    c.may_follow.ensures ∙ and-then (e.conn == t.conn) (may_come (past t) e) (is_beginning_of t.conn (e ∷ past t)) (stands-more t c.requires e) same

pub returns-else-entry-self : goal.returns-else-entry-self
returns-else-entry-self c =
    let t = c.args.self.now in
    let e = c.args.entry.now in
    let other : (e.conn == t.conn) ≡ false = grind (arith, nat_tests, c.if-entry-self.false) in
    other ∙ and-else (e.conn == t.conn) (may_come (past t) e) (is_beginning_of t.conn (e ∷ past t)) (stands-more t c.requires e) other
