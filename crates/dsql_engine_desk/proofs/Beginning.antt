-- What the desk records as a run begins.
use Rattle.std.proofs.Common.{◌≡◌, ℕ, List, [], ◌∷◌, None, sym, ap, subst, ◌∙◌}
use Rattle.std.specs.Prelude.{position}
use Rattle.indexmap.specs.IndexMap.{get_by_text}
use Rattle.dsql_laws_calls.specs.driver.declared.caps.Caps.{Caps}
use Rattle.dsql_laws_calls.specs.history.declared.event.Event.{Event}
use Rattle.dsql_laws_calls.specs.history.declared.event.Event.TheVariants.{Run}
use Rattle.dsql_laws_calls.specs.history.Readers.HandedOut.{handed_out}
use Rattle.dsql_laws_calls.specs.history.Readers.Works.{begins_as, hands_out_as, works}
use Rattle.dsql_engine_effects.specs.Once.{AreMadeOnce}
use Rattle.dsql_engine_desk.specs.declared.desk.Desk.{Desk}
use Rattle.dsql_engine_desk.specs.Desk.{past, Stands}

-- The desk of a run that begins stands, because no rows were made and no call has a label.
pub stands_begun : (d : Desk) (version : ℕ) (can : Caps) → past d ≡ Run version can ∷ [] → ((label : List ℕ) → get_by_text d.labels label ≡ None) → ((label : List ℕ) → get_by_text d.tx_labels label ≡ None)
    → (AreMadeOnce (handed_out (past d)) → ((label : List ℕ) → get_by_text d.labels label ≡ position (hands_out_as label) (works (past d))) → ((label : List ℕ) → get_by_text d.tx_labels label ≡ position (begins_as label) (works (past d))) → Stands d) → Stands d
stands_begun d version can is none no_tx stands =
    stands (subst (λ (H : List Event). AreMadeOnce (handed_out H)) (sym is) tt)
    (λ label. none label ∙ sym (ap (λ (H : List Event). position (hands_out_as label) (works H)) is))
    (λ label. no_tx label ∙ sym (ap (λ (H : List Event). position (begins_as label) (works H)) is))
