use Rattle.std.proofs.Common.{◌∙◌, ap, sym, refl}
use Rattle.dsql_tenure_journal.specs.declared.entry.Entry.{Entry}
use Rattle.dsql_tenure_journal.specs.HandlesAndCursors.{fits_at_its_place as fits_there}
use Rattle.dsql_tenure_journal.specs.Journal.{may_follow as may_come}
use Rattle.dsql_tenure.specs.MayBeAsked as may
use Rattle.dsql_tenure.specs.Tables.{past}
use Rattle.dsql_tenure.proofs.Groups.{and-then, and-else}
use Rattle.dsql_tenure.proofs.Answered.{may_be_asked-like}
use Rattle.dsql_tenure.proofs.tables.Tables.may_follow.Goals as goal

pub returns-then-may_be_asked : goal.returns-then-may_be_asked
returns-then-may_be_asked c =
    let j = past c.args.self.now in
    let e = c.args.entry.now in
    c.fits_at_its_place.ensures
    ∙ and-then (may.may_be_asked j e) (fits_there j e) (may_come j e) refl
    (may_be_asked-like j e ∙ sym (ap (λ (x : Entry). may.may_be_asked j x) c.of.ensures) ∙ sym c.may_be_asked.ensures ∙ c.if-may_be_asked.true)

pub returns-else-may_be_asked : goal.returns-else-may_be_asked
returns-else-may_be_asked c =
    let j = past c.args.self.now in
    let e = c.args.entry.now in
    c.if-may_be_asked.false
    ∙ and-else (may.may_be_asked j e) (fits_there j e) (may_come j e) refl
    (may_be_asked-like j e ∙ sym (ap (λ (x : Entry). may.may_be_asked j x) c.of.ensures) ∙ sym c.may_be_asked.ensures ∙ c.if-may_be_asked.false)
