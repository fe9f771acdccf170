-- A call that works in a transaction goes on doing so, and has entered.
use Rattle.std.proofs.Common.{◌≡◌, ◌≢◌, ℕ, ◌<◌, ◌+◌, ◌⊎◌, inl, inr, true, false, List, ◌∷◌, ◌++◌, [], length, refl, sym, ap, ◌∙◌, arith}
use Rattle.std.proofs.lemmas.List.{length-append}
use Rattle.dsql_laws_calls.proofs.laws_work.Rows.{same_or_not}
use Rattle.dsql_laws_calls.proofs.Stays.{as_many, has_entered}
use Rattle.dsql_laws_calls.specs.history.declared.event.Event.{Event}
use Rattle.dsql_laws_calls.specs.history.declared.event.Event.TheVariants.{Entered}
use Rattle.dsql_laws_calls.specs.history.declared.event.Op.{Op}
use Rattle.dsql_laws_calls.specs.history.declared.work.Work.{Work}
use Rattle.dsql_laws_calls.specs.history.declared.work.Work.TheVariants.{Fetch, Close, Look}
use Rattle.dsql_laws_calls.specs.history.Readers.Works.{scope, work, work_of, works}
use Rattle.dsql_laws_calls.specs.history.Legal.{Allowed}
use Rattle.dsql_laws_callers.proofs.Works.{RefersWithin, refers_within, work_stays}
use Rattle.dsql_laws_calls.proofs.Works.{enters_next}
use Rattle.dsql_engine_lines.specs.Inside.{is_inside, work_inside, works_inside}

inside_busy : (H : List Event) (n : ℕ) → works_inside H n ≡ true → work H n ≡ Look → ⊥
inside_busy H n is look = let wrong : false ≡ true = sym (ap (work_inside H) look) ∙ is in cc

pub inside_entered : (H : List Event) (n : ℕ) → works_inside H n ≡ true → n < length (works H)
inside_entered H n is = has_entered H n (inside_busy H n is)

inside_as : (H : List Event) (e : Event) (it : Work) → RefersWithin (length (works H)) it → work_inside (e ∷ H) it ≡ work_inside H it
inside_as H e (Fetch k) old = ap (λ w. is_inside (scope w)) (work_stays H e k old)
inside_as H e (Close k) old = ap (λ w. is_inside (scope w)) (work_stays H e k old)
inside_as H e _ old = refl

pub inside_stays : (H : List Event) (e : Event) (n : ℕ) → n < length (works H) → works_inside (e ∷ H) n ≡ works_inside H n
inside_stays H e n old = ap (work_inside (e ∷ H)) (work_stays H e n old) ∙ inside_as H e (work H n) (refers_within H n)

-- A call that works in a transaction after a call has entered is that call, or was there before.
pub new_or_old : (H : List Event) (client m : ℕ) (op : Op) (n : ℕ) → Allowed H (Entered client m op) → works_inside (Entered client m op ∷ H) n ≡ true → (n ≡ m) ⊎ (n < length (works H))
new_or_old H client m op n a is = by (same_or_not n m)
  where
    by : (n ≡ m) ⊎ (n ≢ m) → (n ≡ m) ⊎ (n < length (works H))
    by (inl new) = inl new
    by (inr apart) =
        let less = inside_entered (Entered client m op ∷ H) n is in
        let more = length-append (works H) (work_of (works H) op ∷ []) in
        let next = enters_next H client m op a in
        let many = as_many H in
        inr (below (λ same. apart (same ∙ (many ∙ sym next))) less more)
      where
        below : (n ≡ length (works H) → ⊥) → n < length (works (Entered client m op ∷ H)) → length (works H ++ work_of (works H) op ∷ []) ≡ length (works H) + 1 → n < length (works H)
        below other less more = grind (arith, other, less, more)
