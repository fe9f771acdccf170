-- Rows that were made are of a call that has entered. The argument goes back over the history, event by event.
use Rattle.std.proofs.Common.{◌≡◌, ℕ, ◌<◌, ◌⊎◌, inl, inr, Bool, true, false, ◌==◌, cond, List, [], ◌∷◌, ◌++◌, length, Some, None, refl, sym, subst, ◌∙◌, arith, is_some, eqb-true}
use Rattle.std.proofs.lemmas.List.{length-append}
use Rattle.dsql_history.specs.driver.declared.call.DriverCall.{DriverCall}
use Rattle.dsql_history.specs.driver.declared.call.DriverCall.TheVariants.{Query, Next}
use Rattle.dsql_history.specs.driver.declared.answer.DriverAnswer.{DriverAnswer}
use Rattle.dsql_history.specs.driver.declared.answer.DriverAnswer.TheVariants as answers
use Rattle.dsql_history.specs.rows.declared.end.RowsEnd.TheVariants as ends
use Rattle.dsql_history.specs.rows.declared.rows.Rows.{Rows}
use Rattle.dsql_history.specs.rows.OpenRows.{fresh, rows_of, was_made, ended_by}
use Rattle.dsql_history.specs.works.HandedOut.{Made}
use Rattle.dsql_history.specs.Readers.HandedOut.{fetched, born, ended_with, handed_out, is_late, last_end, rows_entered, rows_heard}
use Rattle.dsql_history.specs.declared.event.Event.{Event}
use Rattle.dsql_history.specs.declared.event.Event.TheVariants.{Entered, Heard, Ended}
use Rattle.dsql_history.specs.declared.event.Op.{Op}
use Rattle.dsql_history.specs.declared.event.Op.TheVariants.{RowsClose, Commit, Rollback}
use Rattle.dsql_history.specs.declared.work.Work.{Work}
use Rattle.dsql_history.specs.declared.work.Task.TheVariants.{HandOut}
use Rattle.dsql_history.specs.declared.work.Work.TheVariants.{Statement, Fetch}
use Rattle.dsql_history.specs.Readers.Unfinished.{is_unfinished}
use Rattle.dsql_history.specs.Readers.Works.{hands_out_in, rows_maker, scope, tx_maker, work, work_of, works}
use Rattle.dsql_engine_effects.specs.Starts.{label_made}
use Rattle.dsql_engine_effects.proofs.AsEntered.{known}
use Rattle.dsql_engine_effects.proofs.MadeOnce.{made_changed, made_each}

abbrev hands_out : Work → Bool
hands_out work = is_some (label_made work)

closed_made : (H : List Event) (label : List ℕ) (n : ℕ) (rows : Made) → was_made n (rows_entered H (RowsClose label) rows) ≡ was_made n rows
closed_made H label n rows = by (is_unfinished H (rows_maker (works H) label)) refl
  where
    by : (b : Bool) → is_unfinished H (rows_maker (works H) label) ≡ b → was_made n (rows_entered H (RowsClose label) rows) ≡ was_made n rows
    by true is = rw is refl
    by false is = rw is (made_changed (ended_by ends.Close) (rows_maker (works H) label) n rows)

with_made : (H : List Event) (tx : List ℕ) (n : ℕ) (rows : Made) → was_made n (ended_with H tx rows) ≡ was_made n rows
with_made H tx n rows = by (is_unfinished H (tx_maker (works H) tx)) refl
  where
    by : (b : Bool) → is_unfinished H (tx_maker (works H) tx) ≡ b → was_made n (ended_with H tx rows) ≡ was_made n rows
    by true is = rw is refl
    by false is = rw is (made_each (λ q r. born (hands_out_in (tx_maker (works H) tx) (work H q)) r) n rows)

entered_made : (H : List Event) (op : Op) (n : ℕ) (rows : Made) → was_made n (rows_entered H op rows) ≡ was_made n rows
entered_made H (RowsClose label) n rows = closed_made H label n rows
entered_made H (Commit tx) n rows = with_made H tx n rows
entered_made H (Rollback tx) n rows = with_made H tx n rows
entered_made H op n rows = refl

pushed_made : (n m : ℕ) (new : Rows) (rows : Made) → was_made n (rows ++ (m, new) ∷ []) ≡ true → (was_made n rows ≡ true) ⊎ (n ≡ m)
pushed_made n m new [] is = by (n == m) refl is
  where
    by : (b : Bool) → (n == m) ≡ b → is_some (cond b (Some new) None) ≡ true → (is_some (rows_of n []) ≡ true) ⊎ (n ≡ m)
    by true same h = inr (eqb-true n m same)
    by false apart h = absurd cc
pushed_made n m new (it ∷ later) is =
    elim (n == it.0) as (λ b. is_some (cond b (Some it.1) (rows_of n (later ++ (m, new) ∷ []))) ≡ true → (is_some (cond b (Some it.1) (rows_of n later)) ≡ true) ⊎ (n ≡ m)) [ true ↦ λ h. inl refl | false ↦ λ h. pushed_made n m new later h ] is

heard_made : (H : List Event) (it : Work) (m n : ℕ) (call : DriverCall) (answer : DriverAnswer) (rows : Made) → was_made n (rows_heard H it m call answer rows) ≡ true → (was_made n rows ≡ true) ⊎ ((n ≡ m) × (hands_out it ≡ true))
heard_made H (Statement it (HandOut label)) m n (Query input params) (answers.Cursor cursor columns) rows is = by (pushed_made n m (born (is_late H it) (fresh cursor columns)) rows is)
  where
    by : (was_made n rows ≡ true) ⊎ (n ≡ m) → (was_made n rows ≡ true) ⊎ ((n ≡ m) × (true ≡ true))
    by (inl old) = inl old
    by (inr new) = inr (new, refl)
heard_made H (Fetch k) m n (Next cursor) answer rows is = inl (sym (made_changed (fetched answer) k n rows) ∙ is)
heard_made H it m n call answer rows is = inl is

pub made_known : (H : List Event) (n : ℕ) → was_made n (handed_out H) ≡ true → n < length (works H)
made_known [] n is = absurd cc
made_known (Entered client m op ∷ H) n is =
    let earlier = made_known H n (sym (entered_made H op n (handed_out H)) ∙ is) in
    let more = length-append (works H) (work_of (works H) op ∷ []) in
    omega (arith, earlier, more)
made_known (Heard e ∷ H) n is = by (made_known H n) (heard_made H (work H e.call_no) e.call_no n e.call e.answer (handed_out H) is)
  where
    by : (was_made n (handed_out H) ≡ true → n < length (works H)) → (was_made n (handed_out H) ≡ true) ⊎ ((n ≡ e.call_no) × (hands_out (work H e.call_no) ≡ true)) → n < length (works H)
    by earlier (inl old) = earlier old
    by earlier (inr new) = known hands_out (works H) n refl (subst (λ i. hands_out (work H i) ≡ true) (sym new.0) new.1)
made_known (Ended ∷ H) n is = made_known H n (sym (made_each (λ q r. ended_by (last_end (scope (work H q))) r) n (handed_out H)) ∙ is)
made_known (e ∷ H) n is = made_known H n is
