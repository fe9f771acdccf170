use Rattle.std.proofs.Common.{◌≡◌, ◌∷◌, [], refl, ap, ◌∙◌}
use Rattle.dsql_driver.specs.declared.answer.DriverAnswer.TheVariants.{Done}
use Rattle.dsql_tenure_journal.specs.declared.entry.Permit.{Permit}
use Rattle.dsql_tenure.specs.Judged.{answered}
use Rattle.dsql_wire.proofs.Answered.{makes, by_its_own}
use Rattle.dsql_wire.proofs.Fitting.{same_beginning}
use Rattle.dsql_wire.proofs.Opens.{begins_done, fits_done, agrees_new}
use Rattle.dsql_wire.proofs.request.Request.opened.Goals as goal

pub note-requires-clause-follows : goal.note-requires-clause-follows
note-requires-clause-follows g c =
    let r = c.self.invariant in
    same_beginning _ _ _ _ _ _ r.conn c.answered-entry.ensures r.nothing (begins_done c.self.inside.permit r.may)

pub of-requires : goal.of-requires
of-requires g c =
    let r = c.self.invariant in
    let is : c.answered-entry.result ≡ answered c.self.inside.permit Done = c.answered-entry.ensures in
    let grows : c.note.new.self.journal ≡ answered c.self.inside.permit Done ∷ [] = c.note.ensures.journal ∙ rw (is, r.nothing) refl in
    let conn : c.note.new.self.conn ≡ c.self.inside.permit.conn = c.note.ensures.conn ∙ r.conn in
    rw (grows, conn) (agrees_new _ _ _ c.self.inside.permit r.may (rw (← c.self.view_is) at c.requires.told))

pub returns-clause-fits : goal.returns-clause-fits
returns-clause-fits g c =
    let is : c.new.result ≡ answered c.self.inside.permit Done = c.new.ensures ∙ c.answered-entry.ensures in
    rw is (fits_done c.self.inside.permit c.self.invariant.may)

pub returns-clause-entry : goal.returns-clause-entry
returns-clause-entry g c =
    by_its_own c.self.inside.permit Done c.new.result (c.new.ensures ∙ c.answered-entry.ensures)
    ∙ ap (λ (p : Permit). answered p c.new.result.answer) c.self.view_is

pub returns-clause-answer : goal.returns-clause-answer
returns-clause-answer g c = (makes c.self.inside.permit Done c.new.result (c.new.ensures ∙ c.answered-entry.ensures)).answer
