use Rattle.std.proofs.Common.{length, arith, ap, ◌∙◌}
use Rattle.dsql_laws_calls.specs.history.Readers.Owed.{owed}
use Rattle.dsql_laws_calls.specs.laws.OwedMade.{with_moves}
use Rattle.dsql_engine_desk.proofs.desk.Desk.hear.Goals as goal

pub returns-then-opens_or_shuts : goal.returns-then-opens_or_shuts
returns-then-opens_or_shuts c =
    let made = c.make_owed.ensures in
    let heard = c.hear_house.ensures in
    let many = ap (λ past. length (owed past)) heard.event in
    record { stands = made.stands; paid = omega (arith, made.paid, heard.paid, many); event = made.moves ∙ ap (λ past. with_moves (owed past) past) heard.event; trimmed = made.trimmed ∙ heard.trimmed }
