-- What an answer says of its connection.
use Rattle.std.proofs.Common.{◌≡◌, Bool, true, false, cond, List, ◌∷◌, ◌||◌, refl, ap, ◌∙◌}
use Rattle.dsql_laws_calls.specs.driver.Fits.{is_invalid}
use Rattle.dsql_laws_calls.specs.driver.Kinds.{is_bad}
use Rattle.dsql_laws_calls.specs.journal.declared.entry.Entry.{Entry}
use Rattle.dsql_laws_calls.specs.journal.Readers.{went_bad}
use Rattle.dsql_laws_calls.specs.works.Journals.{ends_invalid}
use Rattle.dsql_laws_calls.specs.history.declared.event.Event.{Event}
use Rattle.dsql_laws_calls.specs.history.declared.event.Event.TheVariants.{Heard}
use Rattle.dsql_laws_calls.specs.history.Readers.Journals.{journal}
use Rattle.dsql_laws_calls.specs.history.Readers.Owed.{fate_when, fate}
use Rattle.dsql_laws_calls.proofs.laws.Tests.{same_itself}

or_no : (a b : Bool) → b ≡ false → a || b ≡ a
or_no true b h = refl
or_no false b h = h

-- The newest answer alone decides the fate of a connection if no earlier answer was bad.
pub fate_heard : (H : List Event) (e : Entry) → went_bad (journal H e.conn) ≡ false → fate (Heard e ∷ H) e.conn ≡ fate_when (is_bad e.answer) (is_invalid e.answer)
fate_heard H e good =
    ap (λ (b : Bool). fate_when (went_bad (cond b (e ∷ journal H e.conn) (journal H e.conn))) (ends_invalid (cond b (e ∷ journal H e.conn) (journal H e.conn)))) (same_itself e.conn)
    ∙ ap (λ (b : Bool). fate_when b (is_invalid e.answer)) (or_no (is_bad e.answer) (went_bad (journal H e.conn)) good)
