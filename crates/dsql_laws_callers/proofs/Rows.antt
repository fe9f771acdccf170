-- Proves that rows which are over, and which no call ended, were ended by the end of the run or handed out in a
-- transaction.
use Rattle.std.proofs.Common.{◌≡◌, ℕ, ◌==◌, Bool, true, false, not, cond, List, [], ◌∷◌, ◌++◌, map, Option, Some, None, refl, sym, ap, ◌∙◌, ◌⊎◌, inl, inr}
use Rattle.std.specs.Option.{option_or}
use Rattle.dsql_laws_calls.specs.driver.declared.call.DriverCall.{DriverCall}
use Rattle.dsql_laws_calls.specs.driver.declared.call.DriverCall.TheVariants as calls
use Rattle.dsql_laws_calls.specs.driver.declared.answer.DriverAnswer.{DriverAnswer}
use Rattle.dsql_laws_calls.specs.driver.declared.answer.DriverAnswer.TheVariants as answers
use Rattle.dsql_laws_calls.specs.journal.declared.entry.Entry.{Entry}
use Rattle.dsql_laws_calls.specs.rows.declared.rows.Rows.{Rows}
use Rattle.dsql_laws_calls.specs.rows.declared.end.RowsEnd.TheVariants as ends
use Rattle.dsql_laws_calls.specs.numbered.Numbered.{changed}
use Rattle.dsql_laws_calls.specs.rows.OpenRows.{fresh, ended_by, rows_of}
use Rattle.dsql_laws_calls.specs.works.HandedOut.{Made}
use Rattle.dsql_laws_calls.proofs.laws.Tests.{same_number}
use Rattle.dsql_laws_calls.specs.history.Readers.HandedOut.{fetched, live, over, born, is_late, rows_heard, end_in, ended_with, rows_entered, last_end, handed_out, rows_by, are_live, are_over, caller, ended_at, ender}
use Rattle.dsql_laws_calls.proofs.Cases.{true_false}
use Rattle.dsql_laws_calls.proofs.LiveRows.{live_not_over, over_not_live}
use Rattle.dsql_laws_calls.proofs.Stays.{has_entered}
use Rattle.dsql_laws_calls.specs.history.declared.event.Event.{Event}
use Rattle.dsql_laws_calls.specs.history.declared.event.Event.TheVariants.{Entered, Heard, Ended}
use Rattle.dsql_laws_calls.specs.history.declared.event.Op.{Op}
use Rattle.dsql_laws_calls.specs.history.declared.event.Op.TheVariants as ops
use Rattle.dsql_laws_calls.specs.history.declared.work.Scope.{Scope}
use Rattle.dsql_laws_calls.specs.history.declared.work.Scope.TheVariants.{Db, Held}
use Rattle.dsql_laws_calls.specs.history.declared.work.Work.{Work}
use Rattle.dsql_laws_calls.specs.history.declared.work.Task.TheVariants.{HandOut}
use Rattle.dsql_laws_calls.specs.history.declared.work.Work.TheVariants.{Statement, Fetch, Look}
use Rattle.dsql_laws_calls.specs.history.Readers.Course.{has_ended}
use Rattle.dsql_laws_calls.specs.history.Readers.Unfinished.{is_unfinished}
use Rattle.dsql_laws_calls.specs.history.Readers.Works.{works, work, rows_maker, tx_maker, scope}
use Rattle.dsql_laws_calls.specs.history.Legal.{Lawful}
use Rattle.dsql_laws_callers.proofs.Ended.{ended_still, entered_number}
use Rattle.dsql_laws_callers.proofs.Things.{with_new, none_changed, none_mapped}
use Rattle.dsql_laws_callers.proofs.Works.{some_works, work_stays}

-- Is true if the work hands out rows in a transaction.
abbrev pub hands_out_inside : Work → Bool
hands_out_inside (Statement (Held k) (HandOut label)) = true
hands_out_inside _ = false

-- Rows that weren't made before an answer are made by it. They are over after it only if they are late.

late_inside : (H : List Event) (s : Scope) (label : List ℕ) (rows : Rows) → live (Some rows) ≡ true → over (Some (born (is_late H s) rows)) ≡ true → hands_out_inside (Statement s (HandOut label)) ≡ true
late_inside H (Held k) label rows lives h = refl
late_inside H Db label rows lives h = absurd (true_false _ h (ap not lives))

new_over : (H : List Event) (s : Scope) (label : List ℕ) (m n : ℕ) (rows : Rows) → live (Some rows) ≡ true → over (cond (n == m) (Some (born (is_late H s) rows)) None) ≡ true → (n ≡ m) × (hands_out_inside (Statement s (HandOut label)) ≡ true)
new_over H s label m n rows lives h = by (n == m) refl h
  where
    by : (b : Bool) → (n == m) ≡ b → over (cond b (Some (born (is_late H s) rows)) None) ≡ true → (n ≡ m) × (hands_out_inside (Statement s (HandOut label)) ≡ true)
    by true same k = (same_number n m same, late_inside H s label rows lives k)
    by false apart k = absurd cc

none_over : (o : Option Rows) → o ≡ None → over o ≡ true → ⊥
none_over o none h = true_false _ h (ap over none)

heard_none : (H : List Event) (it : Work) (m : ℕ) (call : DriverCall) (answer : DriverAnswer) (rows : Made) (n : ℕ) → rows_of n rows ≡ None → over (rows_of n (rows_heard H it m call answer rows)) ≡ true → (n ≡ m) × (hands_out_inside it ≡ true)
heard_none H (Statement s (HandOut label)) m (calls.Query input params) (answers.Cursor cursor columns) rows n none h =
    let there : rows_of n (rows ++ (m, born (is_late H s) (fresh cursor columns)) ∷ []) ≡ cond (n == m) (Some (born (is_late H s) (fresh cursor columns))) None =
    with_new n m (born (is_late H s) (fresh cursor columns)) rows ∙ ap (λ (o : Option Rows). option_or o (cond (n == m) (Some (born (is_late H s) (fresh cursor columns))) None)) none
    in
    new_over H s label m n (fresh cursor columns) refl (sym (ap over there) ∙ h)
heard_none H (Fetch k) m (calls.Next cursor) answer rows n none h = absurd (none_over (rows_of n (changed (fetched answer) k rows)) (none_changed (fetched answer) k n rows none) h)
heard_none H it m call answer rows n none h = absurd (none_over (rows_of n rows) none h)

-- No other event makes rows.

entered_none : (H : List Event) (op : Op) (rows : Made) (n : ℕ) → rows_of n rows ≡ None → rows_of n (rows_entered H op rows) ≡ None
entered_none H op rows n none = by op
  where
    with_tx : (tx : List ℕ) → rows_of n (ended_with H tx rows) ≡ None
    with_tx tx =
        elim (is_unfinished H (tx_maker (works H) tx)) as (λ b. rows_of n (cond b rows (map (end_in H (tx_maker (works H) tx)) rows)) ≡ None) [
          | true ↦ none
          | false ↦ none_mapped (end_in H (tx_maker (works H) tx)) n rows (λ it. refl) none
        ]

    by : (op : Op) → rows_of n (rows_entered H op rows) ≡ None
    by (ops.RowsClose label) =
        elim (is_unfinished H (rows_maker (works H) label)) as (λ b. rows_of n (cond b rows (changed (ended_by ends.Close) (rows_maker (works H) label) rows)) ≡ None) [
          | true ↦ none
          | false ↦ none_changed (ended_by ends.Close) (rows_maker (works H) label) n rows none
        ]
    by (ops.Commit tx) = with_tx tx
    by (ops.Rollback tx) = with_tx tx
    by _ = none

-- Rows that are over, and that weren't made before the event, are handed out in a transaction.
made_over : (H : List Event) (e : Event) (n : ℕ) → rows_by H n ≡ None → are_over (e ∷ H) n ≡ true → hands_out_inside (work H n) ≡ true
made_over H (Heard e) n none h =
    let f = heard_none H (work H e.call_no) e.call_no e.call e.answer (handed_out H) n none h in ap (λ m. hands_out_inside (work H m)) f.0 ∙ f.1
made_over H (Entered client m op) n none h = absurd (none_over (rows_by (Entered client m op ∷ H) n) (entered_none H op (handed_out H) n none) h)
made_over H Ended n none h =
    absurd (none_over (rows_by (Ended ∷ H) n) (none_mapped (λ (it : ℕ × Rows). (it.0, ended_by (last_end (scope (work H it.0))) it.1)) n (handed_out H) (λ it. refl) none) h)
made_over H _ n none h = absurd (none_over (rows_by H n) none h)

-- Call 0 has no work, so what the layer sends changes no rows.
no_work : (H : List Event) → work H 0 ≡ Look
no_work [] = refl
no_work (e ∷ H) = work_stays H e 0 (some_works H) ∙ no_work H

layer_heard : (H : List Event) (e : Entry) → e.call_no ≡ 0 → handed_out (Heard e ∷ H) ≡ handed_out H
layer_heard H e none = ap (λ it. rows_heard H it e.call_no e.call e.answer (handed_out H)) (ap (work H) none ∙ no_work H)

neither : (o : Option Rows) → live o ≡ false → over o ≡ false → o ≡ None
neither None h k = refl
neither (Some rows) h k = by (live (Some rows)) h k
  where
    by : (b : Bool) → b ≡ false → not b ≡ false → Some rows ≡ None
    by true x y = absurd cc
    by false x y = absurd cc

-- If an event of no call ended live rows, the run has ended.
ended_now : (H : List Event) (e : Event) (n : ℕ) → Lawful (e ∷ H) → are_live H n ≡ true → are_over (e ∷ H) n ≡ true → caller e ≡ 0 → has_ended (e ∷ H) ≡ true
ended_now H (Entered client m op) n l lives is none = absurd (entered_number H client m op l.1 none)
ended_now H Ended n l lives is none = refl
ended_now H (Heard e) n l lives is none = absurd (true_false _ (sym (ap (λ rows. over (rows_of n rows)) (layer_heard H e none)) ∙ is) (live_not_over (rows_by H n) lives))
ended_now H _ n l lives is none = absurd (true_false _ is (live_not_over (rows_by H n) lives))

inside_stays : (H : List Event) (e : Event) (n : ℕ) → hands_out_inside (work H n) ≡ true → hands_out_inside (work (e ∷ H) n) ≡ true
inside_stays H e n h = ap hands_out_inside (work_stays H e n (has_entered H n (λ none. true_false _ h (ap hands_out_inside none)))) ∙ h

-- If rows are over and no call ended them, the run has ended or they were handed out in a transaction.
pub over_unended : (H : List Event) (n : ℕ) → Lawful H → are_over H n ≡ true → ender H n ≡ 0 → (has_ended H ≡ true) ⊎ (hands_out_inside (work H n) ≡ true)
over_unended [] n l is none = absurd cc
over_unended (e ∷ H) n l is none = by (are_over H n) refl (are_live H n) refl (λ was ended. over_unended H n l.0 was ended)
  where
    on : (has_ended H ≡ true) ⊎ (hands_out_inside (work H n) ≡ true) → (has_ended (e ∷ H) ≡ true) ⊎ (hands_out_inside (work (e ∷ H) n) ≡ true)
    on (inl ended) = inl (ended_still H e ended)
    on (inr inside) = inr (inside_stays H e n inside)

    unless_live : (b : Bool) → are_live H n ≡ b → cond b (ended_at e (are_live (e ∷ H) n)) (ender H n) ≡ 0
    unless_live b lives = sym (ap (λ b. cond b (ended_at e (are_live (e ∷ H) n)) (ender H n)) lives) ∙ none

    by : (b : Bool) → are_over H n ≡ b → (d : Bool) → are_live H n ≡ d → (are_over H n ≡ true → ender H n ≡ 0 → (has_ended H ≡ true) ⊎ (hands_out_inside (work H n) ≡ true))
        → (has_ended (e ∷ H) ≡ true) ⊎ (hands_out_inside (work (e ∷ H) n) ≡ true)
    by true was d lives earlier = on (earlier was (unless_live false (over_not_live (rows_by H n) was)))
    by false was true lives earlier =
        let rested : are_live (e ∷ H) n ≡ false = over_not_live (rows_by (e ∷ H) n) is in
        let by_none : caller e ≡ 0 = sym (ap (ended_at e) rested) ∙ unless_live true lives in
        inl (ended_now H e n l lives is by_none)
    by false was false lives earlier = inr (inside_stays H e n (made_over H e n (neither (rows_by H n) lives was) is))
