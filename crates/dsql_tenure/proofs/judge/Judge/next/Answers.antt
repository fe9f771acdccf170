use Rattle.std.proofs.Common.{◌≡◌, ℕ, true, false, List, ◌∷◌, ◌∙◌, ap, subst}
use native.Mathlib.Omega.{arith}
use Rattle.dsql_tenure_journal.specs.declared.entry.Entry.{Entry}
use Rattle.dsql_tenure_journal.specs.Readers.{last_tenure}
use Rattle.dsql_tenure.specs.Beginnings.{is_beginning_of, IsBeginningOf, phase}
use Rattle.dsql_tenure.specs.Judged.{Judged}
use Rattle.dsql_tenure.specs.Tables.{past}
use Rattle.dsql_tenure.proofs.Keeping.{keeps_of}
use Rattle.dsql_tenure.proofs.Standing.{stands-beginning}
use Rattle.dsql_tenure.proofs.judge.Judge.next.Goals as goal

pub returns-then-not-accepts-clause-refused : goal.returns-then-not-accepts-clause-refused
returns-then-not-accepts-clause-refused c =
    let t = c.self.inside.tables in
    let stray : is_beginning_of t.conn (c.args.entry.now ∷ past t) ≡ false = grind (arith, c.accepts.ensures, c.if-not-accepts.true) in
    subst (λ (j : Judged). (is_beginning_of j.conn (c.args.entry.now ∷ j.journal) ≡ false) × (c.phase.result ≡ phase j.journal) × (t.tenure ≡ last_tenure j.journal))
    c.self.view_is (stray, c.phase.ensures, (keeps_of t c.self.invariant).tenure)

pub returns-then-not-accepts-clause-beginning : goal.returns-then-not-accepts-clause-beginning
returns-then-not-accepts-clause-beginning c =
    subst (λ (j : Judged). IsBeginningOf j.conn j.journal) c.self.view_is (stands-beginning c.self.inside.tables c.self.invariant)

pub returns-in-Err-clause-beginning : goal.returns-in-Err-clause-beginning
returns-in-Err-clause-beginning c = stands-beginning c.reserve.new.self c.in-Err.ensures.stands

pub hear-requires-clause-follows : goal.hear-requires-clause-follows
hear-requires-clause-follows c =
    let t = c.self.inside.tables in
    let good : is_beginning_of t.conn (c.args.entry.now ∷ past t) ≡ true = grind (arith, c.accepts.ensures, c.if-not-accepts.false) in
    ap (λ (n : ℕ). is_beginning_of n (c.args.entry.now ∷ past c.reserve.new.self)) c.in_default.ensures.conn
    ∙ ap (λ (j : List Entry). is_beginning_of t.conn (c.args.entry.now ∷ j)) c.in_default.ensures.past
    ∙ good
