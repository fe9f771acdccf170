-- Argues by the first work in a list that has a label. A work that is added at the end is the first only if no
-- earlier work has the label.
use Rattle.std.proofs.Common.{◌≡◌, ℕ, Bool, true, false, cond, List, refl, sym, ap, ◌∙◌, Option, Some, None, is_some, ◌+◌, ◌≤◌, nat_lt, eqb, [], ◌∷◌, ◌++◌, length, arith, inl, inr, length-append}
use Rattle.std.specs.Prelude.{bytes_eq, not, position}
use Rattle.std.proofs.lemmas.Slice.Eq.{bytes_eq-Decides}
use Rattle.dsql_engine_effects.specs.Starts.{labelled, label_made, tx_label_made}
use Rattle.std.specs.List.{position_or_len}
use Rattle.std.proofs.lemmas.List.Sums.{prefix_len-le-length}
use Rattle.std.proofs.lemmas.Bool.{cases_Bool}
use Rattle.std.proofs.lemmas.Bool.Decides.{nat_tests}
use Rattle.std.proofs.lemmas.List.Folds.{position_or_len_push}
use Rattle.dsql_history.specs.declared.work.Work.{Work}
use Rattle.dsql_history.specs.declared.work.Task.TheVariants.{HandOut}
use Rattle.dsql_history.specs.declared.work.Work.TheVariants.{Statement, Begin}
use Rattle.dsql_history.specs.Readers.Works.{begins_as, hands_out_as}

-- A label that is put into a map.

chosen : Bool → ℕ → Option ℕ → Option ℕ
chosen b n (Some m) = Some m
chosen b n None = cond b (Some n) None

chosen_as : (b : Bool) (n : ℕ) (earlier : Option ℕ) → (b ≡ true → is_some earlier ≡ false) → cond b (Some n) earlier ≡ chosen b n earlier
unfolding chosen
chosen_as b n None new = refl
chosen_as true n (Some m) new = absurd (cc (new refl))
chosen_as false n (Some m) new = refl

labelled_chosen : (own other : List ℕ) (n : ℕ) (earlier : Option ℕ) → chosen (bytes_eq own other) n earlier ≡ labelled (Some own) n other earlier
unfolding chosen
labelled_chosen own other n None = refl
labelled_chosen own other n (Some m) = refl

-- After a label without a call was put with call n, each label has the call that `labelled` returns.
pub labelled_put : (find : List ℕ → Option ℕ) (own other : List ℕ) (n : ℕ) (next : Option ℕ) → is_some (find own) ≡ false → next ≡ cond (bytes_eq own other) (Some n) (find other) → next ≡ labelled (Some own) n other (find other)
labelled_put find own other n next new is =
    is
    ∙ chosen_as (bytes_eq own other) n (find other) (λ same. ap (λ l. is_some (find l)) (sym ((bytes_eq-Decides own other).0 same)) ∙ new)
    ∙ labelled_chosen own other n (find other)

found : ℕ → ℕ → Option ℕ
found k n = cond (nat_lt k n) (Some k) None

-- Returns the first element of a list that passes a test, after element n was added at the end. The first
-- argument says whether n passes. The last one is the first earlier element that passes, if there is one.
with_last : Bool → ℕ → Option ℕ → Option ℕ
with_last b n (Some m) = Some m
with_last true n None = Some n
with_last false n None = None

first_pushed : (b : Bool) (k n : ℕ) → k ≤ n → found (cond (eqb k n) (n + cond b 0 1) k) (n + 1) ≡ with_last b n (found k n)
unfolding found with_last
first_pushed true k n within = elim (cases_Bool (nat_lt k n)) [ inl less ↦ grind (arith, nat_tests, less) | inr not ↦ grind (arith, nat_tests, not) ]
first_pushed false k n within = elim (cases_Bool (nat_lt k n)) [ inl less ↦ grind (arith, nat_tests, less) | inr not ↦ grind (arith, nat_tests, not) ]

position_pushed : {A : Type 0} (p : A → Bool) (xs : List A) (x : A) → position p (xs ++ x ∷ []) ≡ with_last (p x) (length xs) (position p xs)
unfolding found
position_pushed p xs x =
    let k = position_or_len p xs in
    let within : k ≤ length xs = prefix_len-le-length (λ y. not (p y)) xs in
    let len : length (xs ++ x ∷ []) ≡ length xs + 1 = length-append xs (x ∷ []) in
    rw (position_or_len_push p xs x, len) (first_pushed (p x) k (length xs) within)

rows_as : (w : Work) (n : ℕ) (label : List ℕ) (earlier : Option ℕ) → labelled (label_made w) n label earlier ≡ with_last (hands_out_as label w) n earlier
unfolding with_last
rows_as (Statement it (HandOut made)) n label None = elim (cases_Bool (bytes_eq made label)) [ inl same ↦ rw same refl | inr other ↦ rw other refl ]
rows_as (Statement it (HandOut made)) n label (Some m) = refl
rows_as w n label (Some m) = refl
rows_as w n label None = refl

tx_as : (w : Work) (n : ℕ) (label : List ℕ) (earlier : Option ℕ) → labelled (tx_label_made w) n label earlier ≡ with_last (begins_as label w) n earlier
unfolding with_last
tx_as (Begin made level read_only) n label None = elim (cases_Bool (bytes_eq made label)) [ inl same ↦ rw same refl | inr other ↦ rw other refl ]
tx_as (Begin made level read_only) n label (Some m) = refl
tx_as w n label (Some m) = refl
tx_as w n label None = refl

-- What a label of rows has after call n has entered with this work.
pub labelled_pushed : (works : List Work) (w : Work) (n : ℕ) (label : List ℕ) → n ≡ length works → labelled (label_made w) n label (position (hands_out_as label) works) ≡ position (hands_out_as label) (works ++ w ∷ [])
labelled_pushed works w n label next =
    ap (λ k. labelled (label_made w) k label (position (hands_out_as label) works)) next
    ∙ rows_as w (length works) label (position (hands_out_as label) works)
    ∙ sym (position_pushed (hands_out_as label) works w)

-- What a label of a transaction has after call n has entered with this work.
pub tx_labelled_pushed : (works : List Work) (w : Work) (n : ℕ) (label : List ℕ) → n ≡ length works → labelled (tx_label_made w) n label (position (begins_as label) works) ≡ position (begins_as label) (works ++ w ∷ [])
tx_labelled_pushed works w n label next =
    ap (λ k. labelled (tx_label_made w) k label (position (begins_as label) works)) next
    ∙ tx_as w (length works) label (position (begins_as label) works)
    ∙ sym (position_pushed (begins_as label) works w)
