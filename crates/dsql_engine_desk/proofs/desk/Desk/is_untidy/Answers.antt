use Rattle.std.proofs.Common.{◌≡◌, false, not, ◌&&◌, is_some, sym, ap, ◌∙◌}
use Rattle.dsql_laws_calls.specs.journal.Kinds.{is_house, number_of}
use Rattle.dsql_engine_desk.specs.Desk.{past}
use Rattle.dsql_laws_calls.specs.history.Rules.House.{is_untidy}
use Rattle.dsql_laws_calls.specs.history.Rules.Line.{tidying}
use Rattle.dsql_engine_desk.proofs.desk.Desk.is_untidy.Goals as goal

pub returns-then-not-is_house : goal.returns-then-not-is_house
returns-then-not-is_house c =
    let H = past c.args.self.now in
    let owner = c.in-Lent.owner in
    let free : is_house owner ≡ false = sym c.is_house.ensures ∙ c.if-not-is_house.true in
    c.is_tidying.ensures
    ∙ (ap (λ n. is_some (tidying H n)) c.number.ensures ∙ sym (ap (is_untidy H) c.in-Lent.is ∙ ap (λ b. not b && is_some (tidying H (number_of owner))) free))
