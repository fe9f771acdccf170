-- A call that ended rows of a query on the database works on those rows. A call that ended a transaction has the work
-- of ending it. Both are shown by induction on the history.
use Rattle.std.proofs.Common.{◌≡◌, ◌≢◌, ℕ, ◌⊎◌, inl, inr, Bool, true, false, not, ◌&&◌, cond, List, [], ◌∷◌, Option, Some, None, is_some, refl, sym, ap, subst, ◌∙◌}
use Rattle.std.specs.Option.{option_map}
use Rattle.std.specs.Prelude.{map}
use Rattle.dsql_laws_calls.specs.driver.declared.call.DriverCall.{DriverCall}
use Rattle.dsql_laws_calls.specs.driver.declared.call.DriverCall.TheVariants.{Next}
use Rattle.dsql_laws_calls.specs.driver.declared.answer.DriverAnswer.{DriverAnswer}
use Rattle.dsql_laws_calls.specs.numbered.Numbered.{changed, thing_of}
use Rattle.dsql_laws_calls.proofs.numbered.Numbers.{changes_one_number as changes_one_thing}
use Rattle.dsql_laws_calls.specs.rows.declared.end.RowsEnd.TheVariants as ends
use Rattle.dsql_laws_calls.specs.rows.declared.rows.Rows.{Rows}
use Rattle.dsql_laws_calls.specs.rows.OpenRows.{ended_by, rows_of}
use Rattle.dsql_laws_calls.proofs.rows.Numbers.{changes_one_number}
use Rattle.dsql_laws_calls.specs.tx.declared.end.TxEnd.{TxEnd}
use Rattle.dsql_laws_calls.specs.tx.declared.end.TxEnd.TheVariants as tx_ends
use Rattle.dsql_laws_calls.specs.tx.declared.tx.Tx.{Tx}
use Rattle.dsql_laws_calls.specs.tx.Transactions.{ended_by as tx_ended_by}
use Rattle.dsql_laws_calls.specs.works.HandedOut.{Made}
use Rattle.dsql_laws_calls.specs.history.Readers.HandedOut.{fetched, live, are_live, born, caller, end_in, ended_at, ended_with, ender, handed_out, rows_by, rows_entered, rows_heard}
use Rattle.dsql_laws_calls.proofs.Cases.{true_false}
use Rattle.dsql_laws_calls.proofs.laws_work.Rows.{same_or_not}
use Rattle.dsql_laws_calls.specs.history.declared.event.Event.{Event}
use Rattle.dsql_laws_calls.specs.history.declared.event.Event.TheVariants.{Entered, Heard}
use Rattle.dsql_laws_calls.specs.history.declared.event.Op.{Op}
use Rattle.dsql_laws_calls.specs.history.declared.event.Op.TheVariants.{RowsClose, Commit, Rollback}
use Rattle.dsql_laws_calls.specs.history.declared.work.Scope.TheVariants.{Db, Held as InTx}
use Rattle.dsql_laws_calls.specs.history.declared.work.Work.{Work}
use Rattle.dsql_laws_calls.specs.history.declared.work.Task.TheVariants.{HandOut}
use Rattle.dsql_laws_calls.specs.history.declared.work.Work.TheVariants.{Statement, Fetch, Close, End}
use Rattle.dsql_laws_calls.specs.history.Readers.Transactions.{end_of, ending_call, ends_as, goes_on, transactions, tx_by, tx_ender}
use Rattle.dsql_laws_calls.specs.history.Readers.Unfinished.{is_unfinished}
use Rattle.dsql_laws_calls.specs.history.Readers.Works.{asks, hands_out_in, rows_maker, tx_maker, work, work_of, works}
use Rattle.dsql_laws_calls.specs.history.Legal.{Lawful}
use Rattle.dsql_laws_calls.proofs.EndedRows.{ender_over, mapped_rows}
use Rattle.dsql_laws_calls.proofs.LiveRows.{live_some, over_some}
use Rattle.dsql_laws_calls.proofs.Makers.{hands_no_look, rows_hand_out}
use Rattle.dsql_laws_calls.proofs.Rows.{ender_works, is_worker, worker_sends}
use Rattle.dsql_laws_calls.proofs.TxEnders.{same_going}
use Rattle.dsql_laws_calls.proofs.Works.{enters_next, is_look, new_work, work_stays}

-- Holds if the call fetches from the rows of call n, or closes them.
abbrev pub WorksOn : Work → ℕ → Type 0
WorksOn it n = (it ≡ Fetch n) ⊎ (it ≡ Close n)

-- Only calls on rows of a query on the database end these rows.

outside : (it : Work) (k : ℕ) → asks it ≡ true → hands_out_in k it ≡ false
outside (Statement Db (HandOut label)) k own = refl
outside (Statement (InTx j) (HandOut label)) k own = absurd cc
outside it k own = refl

abbrev lives_in : ℕ → Made → Bool
lives_in n rows = live (rows_of n rows)

same_lives : (n : ℕ) (R S : Made) → rows_of n S ≡ rows_of n R → lives_in n R ≡ true → lives_in n S ≡ false → ⊥
same_lives n R S same was now = true_false (lives_in n S) (ap live same ∙ was) now

-- The end of a transaction leaves rows of a query on the database.
ended_others : (H : List Event) (label : List ℕ) (n : ℕ) → asks (work H n) ≡ true → lives_in n (ended_with H label (handed_out H)) ≡ are_live H n
ended_others H label n own = by (is_unfinished H k)
  where
    k : ℕ
    k = tx_maker (works H) label

    unborn : (o : Option Rows) → live (option_map (born false) o) ≡ live o
    unborn None = refl
    unborn (Some r) = refl

    by : (b : Bool) → lives_in n (cond b (handed_out H) (map (end_in H k) (handed_out H))) ≡ are_live H n
    by true = refl
    by false =
        ap live (mapped_rows (λ j r. born (hands_out_in k (work H j)) r) n (handed_out H))
        ∙ (ap (λ b. live (option_map (born b) (rows_by H n))) (outside (work H n) k own) ∙ unborn (rows_by H n))

-- A call that ends such rows as it enters closes them.
closes_on : (H : List Event) (op : Op) (n : ℕ) → asks (work H n) ≡ true → are_live H n ≡ true → lives_in n (rows_entered H op (handed_out H)) ≡ false → WorksOn (work_of (works H) op) n
closes_on H (RowsClose label) n own was now = by (same_or_not n j)
  where
    j : ℕ
    j = rows_maker (works H) label

    by_reply : (b : Bool) → n ≢ j → lives_in n (cond b (handed_out H) (changed (ended_by ends.Close) j (handed_out H))) ≡ false → ⊥
    by_reply true apart dead = true_false (are_live H n) was dead
    by_reply false apart dead = let l = changes_one_number in same_lives n (handed_out H) (changed (ended_by ends.Close) j (handed_out H)) (l.others (ended_by ends.Close) j n (handed_out H) apart) was dead

    by : (n ≡ j) ⊎ (n ≢ j) → WorksOn (Close j) n
    by (inl same) = inr (ap Close (sym same))
    by (inr apart) = absurd (by_reply (is_unfinished H j) apart now)
closes_on H (Commit tx) n own was now = absurd (true_false (are_live H n) was (sym (ended_others H tx n own) ∙ now))
closes_on H (Rollback tx) n own was now = absurd (true_false (are_live H n) was (sym (ended_others H tx n own) ∙ now))
closes_on H op n own was now = absurd (true_false (are_live H n) was now)

-- An answer that ends such rows is to a call that fetches from them.
fetches_on : (H : List Event) (it : Work) (m : ℕ) (q : DriverCall) (a : DriverAnswer) (R : Made) (n : ℕ) → is_worker it ≡ true → lives_in n R ≡ true → lives_in n (rows_heard H it m q a R) ≡ false → WorksOn it n
fetches_on H (Fetch k) m (Next cursor) a R n works was now = by (same_or_not n k)
  where
    by : (n ≡ k) ⊎ (n ≢ k) → WorksOn (Fetch k) n
    by (inl same) = inl (ap Fetch (sym same))
    by (inr apart) = let l = changes_one_number in absurd (same_lives n R (changed (fetched a) k R) (l.others (fetched a) k n R apart) was now)
fetches_on H (Fetch k) m q a R n works was now = absurd (true_false (lives_in n R) was now)
fetches_on H (Close k) m q a R n works was now = absurd (true_false (lives_in n R) was now)
fetches_on H (End k) m q a R n works was now = absurd (true_false (lives_in n R) was now)
fetches_on H it m q a R n works was now = absurd cc

ends_on : (H : List Event) (e : Event) (n : ℕ) → Lawful (e ∷ H) → asks (work H n) ≡ true → are_live H n ≡ true → are_live (e ∷ H) n ≡ false → caller e ≢ 0 → is_worker (work (e ∷ H) (caller e)) ≡ true
    → WorksOn (work (e ∷ H) (caller e)) n
ends_on H (Entered client m op) n l own was now some works =
    subst (λ (it : Work). WorksOn it n) (sym (new_work H client m op (enters_next H client m op l.1))) (closes_on H op n own was now)
ends_on H (Heard e) n l own was now some works = fetches_on H (work H e.call_no) e.call_no e.call e.answer (handed_out H) n works was now
ends_on H _ n l own was now some works = absurd (some refl)

-- A call that has made rows and works on the database after an event did so before it.
asked_before : (H : List Event) (e : Event) (n : ℕ) → is_some (rows_by H n) ≡ true → asks (work (e ∷ H) n) ≡ true → asks (work H n) ≡ true
asked_before H e n made own = ap asks (sym (work_stays H e n (hands_no_look (work H n) (rows_hand_out H n made)))) ∙ own

-- The ender of rows after an event is the one that the event names if the rows were live before, and otherwise
-- the one before.
pub ender_now : (H : List Event) (e : Event) (n : ℕ) (b : Bool) → are_live H n ≡ b → ender (e ∷ H) n ≡ cond b (ended_at e (are_live (e ∷ H) n)) (ender H n)
ender_now H e n b was = ap (λ (a : Bool). cond a (ended_at e (are_live (e ∷ H) n)) (ender H n)) was

pub ender_works_on : (H : List Event) (n : ℕ) → Lawful H → asks (work H n) ≡ true → ender H n ≢ 0 → WorksOn (work H (ender H n)) n
ender_works_on [] n l own some = absurd (some refl)
ender_works_on (e ∷ H) n l own some = by (ender_works_on H n l.0) (are_live H n) (are_live (e ∷ H) n) refl refl
  where
    K : List Event
    K = e ∷ H

    works : is_worker (work K (ender K n)) ≡ true
    works = ender_works K n l some

    by : (asks (work H n) ≡ true → ender H n ≢ 0 → WorksOn (work H (ender H n)) n) → (b c : Bool) → are_live H n ≡ b → are_live K n ≡ c → WorksOn (work K (ender K n)) n
    by earlier true true was now = absurd (some (ender_now H e n true was ∙ ap (ended_at e) now))
    by earlier true false was now =
        let its : ender K n ≡ caller e = ender_now H e n true was ∙ ap (ended_at e) now in
        let before = asked_before H e n (live_some (rows_by H n) was) own in
        subst (λ m. WorksOn (work K m) n) (sym its) (ends_on H e n l before was now (λ none. some (its ∙ none)) (ap (λ m. is_worker (work K m)) (sym its) ∙ works))
    by earlier false c was now =
        let its : ender K n ≡ ender H n = ender_now H e n false was in
        let before : ender H n ≢ 0 = λ none. some (its ∙ none) in
        let asked = asked_before H e n (over_some (rows_by H n) (ender_over H n before)) own in
        let stays = work_stays H e (ender H n) (worker_sends (work H (ender H n)) (ender_works H n l.0 before)) in
        subst (λ m. WorksOn (work K m) n) (sym its) (subst (λ (it : Work). WorksOn it n) (sym stays) (earlier asked before))

-- A transaction is ended by a call on the transaction itself.

ends_its_own : (H : List Event) (label : List ℕ) (by : TxEnd) (k : ℕ) → goes_on H k ≡ true → (is_some (thing_of k (ends_as H label by (transactions H))) && not (is_some (end_of (thing_of k (ends_as H label by (transactions H)))))) ≡ false
    → End (tx_maker (works H) label) ≡ End k
ends_its_own H label by k was now = split (same_or_not k j)
  where
    j : ℕ
    j = tx_maker (works H) label

    unchanged : (b : Bool) → k ≢ j → thing_of k (cond b (transactions H) (changed (tx_ended_by by) j (transactions H))) ≡ tx_by H k
    unchanged true apart = refl
    unchanged false apart = let l = changes_one_thing {X = Tx} in l.others (tx_ended_by by) j k (transactions H) apart

    split : (k ≡ j) ⊎ (k ≢ j) → End j ≡ End k
    split (inl same) = ap End (sym same)
    split (inr apart) =
        absurd (true_false (goes_on H k) was (sym (same_going (tx_by H k) (thing_of k (ends_as H label by (transactions H))) (unchanged (is_unfinished H j) apart)) ∙ now))

entry_ends : (H : List Event) (client m : ℕ) (op : Op) (k : ℕ) → goes_on H k ≡ true → goes_on (Entered client m op ∷ H) k ≡ false → work_of (works H) op ≡ End k
entry_ends H client m (Commit tx) k was now = ends_its_own H tx tx_ends.Commit k was now
entry_ends H client m (Rollback tx) k was now = ends_its_own H tx tx_ends.Rollback k was now
entry_ends H client m op k was now = absurd (true_false (goes_on H k) was now)

tx_ends_on : (H : List Event) (e : Event) (k : ℕ) → Lawful (e ∷ H) → goes_on H k ≡ true → goes_on (e ∷ H) k ≡ false → ending_call e ≢ 0 → work (e ∷ H) (ending_call e) ≡ End k
tx_ends_on H (Entered client m op) k l was now some = new_work H client m op (enters_next H client m op l.1) ∙ entry_ends H client m op k was now
tx_ends_on H e k l was now some = absurd (some refl)

-- If a transaction went on before an event, its ender after it is the one that the event names. Otherwise it is the one
-- before.
pub tx_ender_now : (H : List Event) (e : Event) (k : ℕ) (b : Bool) → goes_on H k ≡ b → tx_ender (e ∷ H) k ≡ cond b (cond (goes_on (e ∷ H) k) 0 (ending_call e)) (tx_ender H k)
tx_ender_now H e k b was = ap (λ (a : Bool). cond a (cond (goes_on (e ∷ H) k) 0 (ending_call e)) (tx_ender H k)) was

pub tx_ender_ends : (H : List Event) (k : ℕ) → Lawful H → tx_ender H k ≢ 0 → work H (tx_ender H k) ≡ End k
tx_ender_ends [] k l some = absurd (some refl)
tx_ender_ends (e ∷ H) k l some = by (tx_ender_ends H k l.0) (goes_on H k) (goes_on (e ∷ H) k) refl refl
  where
    K : List Event
    K = e ∷ H

    by : (tx_ender H k ≢ 0 → work H (tx_ender H k) ≡ End k) → (b c : Bool) → goes_on H k ≡ b → goes_on K k ≡ c → work K (tx_ender K k) ≡ End k
    by earlier true true was now = absurd (some (tx_ender_now H e k true was ∙ ap (λ (c : Bool). cond c 0 (ending_call e)) now))
    by earlier true false was now =
        let its : tx_ender K k ≡ ending_call e = tx_ender_now H e k true was ∙ ap (λ (c : Bool). cond c 0 (ending_call e)) now in
        ap (work K) its ∙ tx_ends_on H e k l was now (λ none. some (its ∙ none))
    by earlier false c was now =
        let its : tx_ender K k ≡ tx_ender H k = tx_ender_now H e k false was in
        let before : work H (tx_ender H k) ≡ End k = earlier (λ none. some (its ∙ none)) in
        ap (work K) its ∙ (work_stays H e (tx_ender H k) (ap is_look before) ∙ before)
