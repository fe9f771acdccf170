-- Proves that the work of a call stays as it was when the call entered, and so does the call whose connection
-- it uses.
use Rattle.std.proofs.Common.{◌≡◌, ◌≢◌, ℕ, zero, suc, ◌+◌, ◌<◌, ◌≤◌, Bool, true, false, cond, ltb, List, [], ◌∷◌, length, Some, None, refl, ap, ◌∙◌, ◌⊎◌, inl, inr, arith}
use Rattle.std.specs.Prelude.{position}
use Rattle.std.specs.List.{position_or_len}
use Rattle.std.proofs.lemmas.Bool.{ltb-true}
use Rattle.std.proofs.lemmas.List.{length-append}
use Rattle.dsql_laws_calls.specs.works.Works.{or_zero}
use Rattle.dsql_laws_calls.proofs.Cases.{true_false}
use Rattle.dsql_laws_calls.proofs.laws_work.Rows.{same_or_not, row_old, row_new}
use Rattle.dsql_laws_calls.proofs.Stays.{has_entered}
use Rattle.dsql_laws_calls.specs.history.declared.event.Event.{Event}
use Rattle.dsql_laws_calls.specs.history.declared.event.Event.TheVariants.{Entered}
use Rattle.dsql_laws_calls.specs.history.declared.event.Op.{Op}
use Rattle.dsql_laws_calls.specs.history.declared.event.Op.TheVariants as ops
use Rattle.dsql_laws_calls.specs.history.declared.work.Work.{Work}
use Rattle.dsql_laws_calls.specs.history.declared.work.Work.TheVariants.{End, Fetch, Close, Look}
use Rattle.dsql_laws_calls.specs.history.Readers.Works.{works, work, work_of, hands_out_as, scope, asks, borrower_in, borrower}

-- Holds if the call whose rows the work is for is among the first n.
abbrev pub RefersWithin : ℕ → Work → Type 0
RefersWithin n (Fetch k) = k < n
RefersWithin n (Close k) = k < n
RefersWithin n _ = Unit {0}

further : (n m : ℕ) (it : Work) → n ≤ m → RefersWithin n it → RefersWithin m it
further n m (Fetch k) up h = omega (arith, h)
further n m (Close k) up h = omega (arith, h)
further n m _ up h = tt

position_within : (p : Work → Bool) (ws : List Work) → 0 < length ws → or_zero (position p ws) < length ws
position_within p ws some =
    elim (ltb (position_or_len p ws) (length ws)) as (λ b. ltb (position_or_len p ws) (length ws) ≡ b → or_zero (cond b (Some (position_or_len p ws)) None) < length ws) [
      | true ↦ λ within. ltb-true (position_or_len p ws) (length ws) within
      | false ↦ λ past. some
    ] refl

-- The works are never empty: call 0 has one.
pub some_works : (H : List Event) → 0 < length (works H)
some_works [] = omega arith
some_works (Entered client n op ∷ H) = let more = length-append (works H) (work_of (works H) op ∷ []) in omega (arith, more)
some_works (_ ∷ H) = some_works H

maker_within : (H : List Event) (p : Work → Bool) → or_zero (position p (works H)) < length (works H)
maker_within H p = position_within p (works H) (some_works H)

new_refers : (H : List Event) (op : Op) → RefersWithin (length (works H)) (work_of (works H) op)
new_refers H (ops.Next rows) = maker_within H (hands_out_as rows)
new_refers H (ops.RowsClose rows) = maker_within H (hands_out_as rows)
new_refers H _ = tt

-- A call is only for rows of an earlier one.
pub refers_within : (H : List Event) (m : ℕ) → RefersWithin (length (works H)) (work H m)
refers_within [] zero = tt
refers_within [] (suc m) = tt
refers_within (Entered client n op ∷ H) m =
    let more : length (works (Entered client n op ∷ H)) ≡ length (works H) + 1 = length-append (works H) (work_of (works H) op ∷ []) in
    by (same_or_not m (length (works H))) (omega (arith, more)) (refers_within H m)
  where
    by : (m ≡ length (works H)) ⊎ (m ≢ length (works H)) → length (works H) ≤ length (works (Entered client n op ∷ H)) → RefersWithin (length (works H)) (work H m)
        → RefersWithin (length (works (Entered client n op ∷ H))) (work (Entered client n op ∷ H) m)
    by (inl new) up earlier = rw (row_new (works H) (work_of (works H) op) m Look new) (further (length (works H)) (length (works (Entered client n op ∷ H))) (work_of (works H) op) up (new_refers H op))
    by (inr old) up earlier = rw (row_old (works H) (work_of (works H) op) m Look old) (further (length (works H)) (length (works (Entered client n op ∷ H))) (work H m) up earlier)
refers_within (_ ∷ H) m = refers_within H m

-- The work of a call stays, whatever event comes.
pub work_stays : (H : List Event) (e : Event) (m : ℕ) → m < length (works H) → work (e ∷ H) m ≡ work H m
work_stays H (Entered client n op) m old = row_old (works H) (work_of (works H) op) m Look (λ is. absurd (omega (arith, old, is)))
work_stays H _ m old = refl

pub works_stay : (H : List Event) (e : Event) (m : ℕ) → m < length (works H) → m < length (works (e ∷ H))
works_stay H (Entered client n op) m old = let more = length-append (works H) (work_of (works H) op ∷ []) in omega (arith, more, old)
works_stay H _ m old = old

-- Returns the call whose connection is used for this work of call n.
abbrev borrower_for : List Event → Work → ℕ → ℕ
borrower_for H (Fetch k) n = borrower_in (scope (work H k)) k
borrower_for H (Close k) n = borrower_in (scope (work H k)) k
borrower_for H (End k) n = k
borrower_for H it n = borrower_in (scope it) n

rows_borrower : (H : List Event) (e : Event) (k : ℕ) → k < length (works H) → borrower_in (scope (work (e ∷ H) k)) k ≡ borrower_in (scope (work H k)) k
rows_borrower H e k old = ap (λ it. borrower_in (scope it) k) (work_stays H e k old)

same_borrower : (H : List Event) (e : Event) (it : Work) (m : ℕ) → RefersWithin (length (works H)) it → borrower_for (e ∷ H) it m ≡ borrower_for H it m
same_borrower H e (Fetch k) m old = rows_borrower H e k old
same_borrower H e (Close k) m old = rows_borrower H e k old
same_borrower H e _ m old = refl

-- The call whose connection an entered call uses stays the same.
pub borrower_stays : (H : List Event) (e : Event) (m : ℕ) → m < length (works H) → borrower (e ∷ H) m ≡ borrower H m
borrower_stays H e m old = ap (λ it. borrower_for (e ∷ H) it m) (work_stays H e m old) ∙ same_borrower H e (work H m) m (refers_within H m)

-- A call that asks for a connection of its own still does so after an event.
pub asks_still : (H : List Event) (e : Event) (m : ℕ) → asks (work H m) ≡ true → asks (work (e ∷ H) m) ≡ true
asks_still H e m own = ap asks (work_stays H e m (has_entered H m (λ none. true_false (asks (work H m)) own (ap asks none)))) ∙ own
