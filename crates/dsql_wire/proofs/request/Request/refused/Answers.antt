use Rattle.std.proofs.Common.{Some, sym, ◌∙◌, ap}
use Rattle.dsql_tenure_journal.specs.declared.entry.Permit.{Permit}
use Rattle.dsql_tenure.specs.Judged.{answered}
use Rattle.dsql_wire.proofs.Answered.{makes, by_its_own}
use Rattle.dsql_wire.proofs.Opens.{fits_refused}
use Rattle.dsql_wire.proofs.request.Request.refused.Goals as goal

pub returns-in-Some-clause-answer : goal.returns-in-Some-clause-answer
returns-in-Some-clause-answer g c =
    let made = makes c.self.inside.permit c.in-Some.answer c.new.result (c.new.ensures ∙ c.answered.ensures) in
    sym c.in-Some.ensures ∙ ap Some (sym made.answer)

pub returns-in-Some-clause-entry : goal.returns-in-Some-clause-entry
returns-in-Some-clause-entry g c =
    by_its_own c.self.inside.permit c.in-Some.answer c.new.result (c.new.ensures ∙ c.answered.ensures)
    ∙ ap (λ (p : Permit). answered p c.new.result.answer) c.self.view_is

pub returns-in-Some-clause-fits : goal.returns-in-Some-clause-fits
returns-in-Some-clause-fits g c =
    fits_refused c.args.refused c.self.inside.permit c.in-Some.answer c.new.result c.self.invariant.may (sym c.in-Some.ensures) (c.new.ensures ∙ c.answered.ensures)
