-- A call made a label exactly if one of the maps of labels has a call for it. The argument goes from call to call.
use Rattle.std.proofs.Common.{◌≡◌, ℕ, Bool, true, false, ◌||◌, List, [], ◌∷◌, ◌++◌, length, Option, Some, None, is_some, inl, inr, refl, sym, ap, ◌∙◌}
use Rattle.std.specs.Prelude.{bytes_eq, position}
use Rattle.std.proofs.lemmas.Bool.{cases_Bool}
use Rattle.dsql_laws_calls.specs.history.declared.event.Event.{Event}
use Rattle.dsql_laws_calls.specs.history.declared.event.Event.TheVariants.{Entered}
use Rattle.dsql_laws_calls.specs.history.declared.event.Op.{Op}
use Rattle.dsql_laws_calls.specs.history.declared.event.Op.TheVariants.{Query, Begin}
use Rattle.dsql_laws_calls.specs.history.declared.work.Work.{Work}
use Rattle.dsql_laws_calls.specs.history.Readers.Labels.{is_made, makes}
use Rattle.dsql_laws_calls.specs.history.Readers.Works.{begins_as, hands_out_as, work_of, works}
use Rattle.dsql_engine_effects.specs.Starts.{labelled, label_made, tx_label_made}
use Rattle.dsql_engine_effects.proofs.Labelled.{labelled_pushed, tx_labelled_pushed}

-- A label has a call after one has entered if it is the label that this call makes, or had one before.
has_call : (own label : List ℕ) (n : ℕ) (earlier : Option ℕ) → is_some (labelled (Some own) n label earlier) ≡ (bytes_eq own label || is_some earlier)
has_call own label n (Some m) = elim (cases_Bool (bytes_eq own label)) [ inl same ↦ rw same refl | inr other ↦ rw other refl ]
has_call own label n None = elim (cases_Bool (bytes_eq own label)) [ inl same ↦ rw same refl | inr other ↦ rw other refl ]

or_within : (a b c : Bool) → ((a || b) || c) ≡ (a || (b || c))
or_within true b c = refl
or_within false b c = refl

or_before : (a b c : Bool) → (b || (a || c)) ≡ (a || (b || c))
or_before true true c = refl
or_before true false c = refl
or_before false b c = refl

made_by_one : (ws : List Work) (op : Op) (label : List ℕ) (n : ℕ) (rows tx : Option ℕ)
    → (is_some (labelled (label_made (work_of ws op)) n label rows) || is_some (labelled (tx_label_made (work_of ws op)) n label tx)) ≡ (makes label op || (is_some rows || is_some tx))
made_by_one ws (Query own target text args) label n rows tx =
    ap (λ b. b || is_some tx) (has_call own label n rows) ∙ or_within (bytes_eq own label) (is_some rows) (is_some tx)
made_by_one ws (Begin own level read_only) label n rows tx =
    ap (λ b. is_some rows || b) (has_call own label n tx) ∙ or_before (bytes_eq own label) (is_some rows) (is_some tx)
made_by_one ws op label n rows tx = refl

pub made_known : (H : List Event) (label : List ℕ) → (is_some (position (hands_out_as label) (works H)) || is_some (position (begins_as label) (works H))) ≡ is_made H label
made_known [] label = refl
made_known (Entered client n op ∷ H) label =
    let ws : List Work = works H in
    let w : Work = work_of ws op in
    let rows = ap (λ (o : Option ℕ). is_some o) (sym (labelled_pushed ws w (length ws) label refl)) in
    let tx = ap (λ (o : Option ℕ). is_some o) (sym (tx_labelled_pushed ws w (length ws) label refl)) in
    ap (λ b. b || is_some (position (begins_as label) (ws ++ w ∷ []))) rows
    ∙ (ap (λ b. is_some (labelled (label_made w) (length ws) label (position (hands_out_as label) ws)) || b) tx
    ∙ (made_by_one ws op label (length ws) (position (hands_out_as label) ws) (position (begins_as label) ws)
    ∙ ap (λ b. makes label op || b) (made_known H label)))
made_known (_ ∷ H) label = made_known H label
