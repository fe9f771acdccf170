use Rattle.std.proofs.Common.{sym, ap, ◌∙◌}
use Rattle.dsql_engine_going.specs.history.Readers.Owed.{fate_when}
use Rattle.dsql_engine_going.specs.works.Journals.{ends_invalid}
use Rattle.dsql_engine_going.specs.history.Readers.Journals.{journal}
use Rattle.dsql_engine_going.specs.desk.Desk.{past}
use Rattle.dsql_engine_hearing.proofs.hear.fate_now.Goals as goal

pub returns-then-is_known_bad : goal.returns-then-is_known_bad
returns-then-is_known_bad c =
    let J = journal (past c.args.desk.now) c.args.conn in
    sym (ap (λ b. fate_when b (ends_invalid J)) (sym c.is_known_bad.ensures ∙ c.if-is_known_bad.true))

pub returns-else-is_known_bad : goal.returns-else-is_known_bad
returns-else-is_known_bad c = c.requires.newest (sym c.is_known_bad.ensures ∙ c.if-is_known_bad.false)
