-- When a call ends a transaction on entry, what is due stays the same for each other call that doesn't use the
-- transaction's connection.
use Rattle.std.proofs.Common.{◌≡◌, ◌≢◌, ℕ, ◌==◌, ◌⊎◌, inl, inr, Bool, true, false, not, ◌&&◌, ◌||◌, cond, List, Option, Some, None, is_some, is_none, refl, sym, ap, ◌∙◌}
use Rattle.dsql_laws_calls.specs.course.declared.course.Wish.{Wish}
use Rattle.dsql_laws_calls.specs.course.declared.course.Wish.TheVariants as wishes
use Rattle.dsql_laws_calls.specs.driver.declared.call.DriverCall.{DriverCall}
use Rattle.dsql_laws_calls.specs.numbered.Numbered.{thing_of}
use Rattle.dsql_laws_calls.specs.rows.OpenRows.{rows_of}
use Rattle.dsql_laws_calls.specs.tx.declared.end.TxEnd.{TxEnd}
use Rattle.dsql_laws_calls.specs.tx.declared.end.TxEnd.TheVariants as tx_ends
use Rattle.dsql_laws_calls.specs.history.Readers.HandedOut.{live, ended_with, handed_out, is_late, rows_by, are_live, ender}
use Rattle.dsql_laws_calls.specs.history.Rules.Wishes.{wish_as}
use Rattle.dsql_laws_calls.proofs.laws.Tests.{both, together, same_number}
use Rattle.dsql_laws_calls.proofs.Cases.{true_false}
use Rattle.dsql_laws_calls.proofs.DueWay.{borrow_same}
use Rattle.dsql_laws_calls.specs.history.declared.event.Event.{Event}
use Rattle.dsql_laws_calls.specs.history.declared.event.Event.TheVariants.{Entered}
use Rattle.dsql_laws_calls.specs.history.declared.event.Op.{Op}
use Rattle.dsql_laws_calls.specs.history.declared.event.Op.TheVariants as ops
use Rattle.dsql_laws_calls.specs.history.declared.work.Scope.{Scope}
use Rattle.dsql_laws_calls.specs.history.declared.work.Scope.TheVariants.{Db, Held}
use Rattle.dsql_laws_calls.specs.history.declared.work.Work.{Work}
use Rattle.dsql_laws_calls.specs.history.declared.work.Task.TheVariants.{HandOut}
use Rattle.dsql_laws_calls.specs.history.declared.work.Work.TheVariants.{Statement, End, Fetch, Close, Look}
use Rattle.dsql_laws_calls.specs.history.Readers.Calls.{decided, has_begun_to_send}
use Rattle.dsql_laws_calls.specs.history.Readers.Transactions.{ends_as, transactions, tx_by, end_of, is_begun, is_over, goes_on, tx_ender}
use Rattle.dsql_laws_calls.specs.history.Readers.Unfinished.{is_unfinished}
use Rattle.dsql_laws_calls.specs.history.Readers.Works.{works, work, borrower, hands_out_in, is_fetch, scope, tx_maker}
use Rattle.dsql_laws_calls.specs.history.Rules.Ending.{ending}
use Rattle.dsql_laws_calls.specs.history.Rules.Line.{sends_in, due_inside, due_in, due_for}
use Rattle.dsql_laws_calls.specs.history.Rules.Sent.{line_of, closes, sent_for, wish}
use Rattle.dsql_laws_calls.specs.history.Legal.{Lawful}
use Rattle.dsql_laws_calls.proofs.laws.Numbered.{unfinished_from_one}
use Rattle.dsql_laws_calls.proofs.Enders.{same_ender}
use Rattle.dsql_laws_calls.proofs.Inside.{inside_uses, live_goes}
use Rattle.dsql_laws_calls.proofs.Makers.{rows_hand_out, some_entered}
use Rattle.dsql_laws_calls.proofs.TxEnders.{same_going}
use Rattle.dsql_laws_calls.proofs.UnderWay.{ending_over}
use Rattle.dsql_laws_calls.proofs.Works.{old_unfinished}
use Rattle.dsql_laws_others.proofs.Alike.{same_tx_ender}
use Rattle.dsql_laws_others.proofs.Entries.{next_work, concerned_old}
use Rattle.dsql_laws_others.proofs.LentOthers.{none_made, no_wish}
use Rattle.dsql_laws_others.specs.Ends.{ends_transaction, ends_now}
use Rattle.dsql_laws_others.proofs.EndedTx.{entered_end}
use Rattle.dsql_laws_others.proofs.Entered.{Enters, enters, ending_same, kept_work, kept_decided, kept_line, kept_sent}
use Rattle.dsql_laws_others.proofs.Turned.{Turns, EndsNow, end_turn, ended_now, tx_turn}

-- Another call, which uses no connection of what the entry ends.
pub record Outside (H : List Event) (client n : ℕ) (op : Op) (m : ℕ) : Type 0 where
  pub lawful : Lawful (enters H client n op)
  pub ends : ends_transaction op ≡ true
  pub apart : m ≢ n
  pub away : (k : ℕ) → ends_now H (Entered client n op) k ≡ true → borrower H m ≢ k

entry : (H : List Event) (client n : ℕ) (op : Op) (m : ℕ) → Outside H client n op m → Enters H client n op
entry H client n op m o = entered_end H client n op o.lawful o.ends

-- The transaction that the other call uses stays as it was.
same_tx : (H : List Event) (client n : ℕ) (op : Op) (m k : ℕ) → Outside H client n op m → borrower H m ≡ k → tx_by (enters H client n op) k ≡ tx_by H k
same_tx H client n op m k o uses = elim (tx_turn H client n op k) [
  | inl same ↦ same
  | inr w ↦ absurd (o.away k (together (goes_on H k) (is_over (enters H client n op) k) w.0 w.1) uses)
]

-- What the other call sends in a transaction, or to end one, stays the same.

inner_same : (H : List Event) (client n : ℕ) (op : Op) (m k : ℕ) → Outside H client n op m → borrower H m ≡ k → due_inside (enters H client n op) m (Held k) ≡ due_inside H m (Held k)
inner_same H client n op m k o uses =
    let K = enters H client n op in
    let x = entry H client n op m o in
    ap (λ b. cond (b || (goes_on K k && is_none (decided K m))) (line_of K m wishes.Nothing) None) (kept_sent H client n op m x o.apart)
    ∙ (ap (λ b. cond (has_begun_to_send H m || (b && is_none (decided K m))) (line_of K m wishes.Nothing) None) (same_going (tx_by H k) (tx_by K k) (same_tx H client n op m k o uses))
    ∙ (ap (λ r. cond (has_begun_to_send H m || (goes_on H k && is_none r)) (line_of K m wishes.Nothing) None) (kept_decided H client n op m x o.apart)
    ∙ ap (λ d. cond (sends_in H m k) d None) (kept_line H client n op m wishes.Nothing x o.apart)))

ends_same : (H : List Event) (client n : ℕ) (op : Op) (m k : ℕ) → Outside H client n op m → borrower H m ≡ k → due_in (enters H client n op) m (End k) ≡ due_in H m (End k)
ends_same H client n op m k o uses =
    ap (λ i. cond (i == m) (ending K k) None) (same_tx_ender H (Entered client n op) k (same_going (tx_by H k) (tx_by K k) txs)) ∙ ap (λ d. cond (tx_ender H k == m) d None) (by (is_over H k) refl)
  where
    K : List Event
    K = enters H client n op

    txs : tx_by (enters H client n op) k ≡ tx_by H k
    txs = same_tx H client n op m k o uses

    none : (d : Option DriverCall) → (is_some d ≡ true → ⊥) → d ≡ None
    none None h = refl
    none (Some q) h = absurd (h refl)

    by : (b : Bool) → is_over H k ≡ b → ending (enters H client n op) k ≡ ending H k
    by true gone = ending_same H client n op k (entry H client n op m o) gone
    by false on =
        none (ending K k) (λ some. true_false (is_over H k) (sym (ap (λ t. is_some (end_of t)) txs) ∙ ending_over K k some) on)
        ∙ sym (none (ending H k) (λ some. true_false (is_over H k) (ending_over H k some) on))

-- The rows on which the other call works stay as they were.

rows_ended : (H : List Event) (client n : ℕ) (op : Op) (tx : List ℕ) (by : TxEnd) (m j : ℕ) → Outside H client n op m → borrower H m ≡ borrower H j
    → ((k : ℕ) → is_some (end_of (thing_of k (ends_as H tx by (transactions H)))) ≡ true → is_over (enters H client n op) k ≡ true) → rows_of j (ended_with H tx (handed_out H)) ≡ rows_by H j
rows_ended H client n op tx by m j o user over = of (end_turn H tx j)
  where
    k : ℕ
    k = tx_maker (works H) tx

    uses : (w : Work) → work H j ≡ w → hands_out_in k w ≡ true → borrower H j ≡ k
    uses (Statement (Held i) (HandOut label)) is h = rw is refl ∙ same_number i k h
    uses (Statement Db (HandOut label)) is h = absurd cc
    uses w is h = absurd cc

    of : (rows_of j (ended_with H tx (handed_out H)) ≡ rows_by H j) ⊎ (Turns (rows_by H j) (rows_of j (ended_with H tx (handed_out H))) × EndsNow H tx j) → rows_of j (ended_with H tx (handed_out H)) ≡ rows_by H j
    of (inl same) = same
    of (inr it) = turned it.0 it.1
      where
        turned : Turns (rows_by H j) (rows_of j (ended_with H tx (handed_out H))) → EndsNow H tx j → rows_of j (ended_with H tx (handed_out H)) ≡ rows_by H j
        turned (inl same) e = same
        turned (inr w) e =
            let l = o.lawful in
            let goes = live_goes H j k l.0 w.0 e.hands in
            let b = both (is_begun H k) (not (is_over H k)) goes in
            let now = over k (ended_now H tx by k refl e.replied b.0) in
            absurd (o.away k (together (goes_on H k) (is_over (enters H client n op) k) goes now) (user ∙ uses (work H j) refl e.hands))

same_rows : (H : List Event) (client n : ℕ) (op : Op) (m j : ℕ) → Outside H client n op m → borrower H m ≡ borrower H j → rows_by (enters H client n op) j ≡ rows_by H j
same_rows H client n (ops.Commit tx) m j o user = rows_ended H client n (ops.Commit tx) tx tx_ends.Commit m j o user (λ k h. h)
same_rows H client n (ops.Rollback tx) m j o user = rows_ended H client n (ops.Rollback tx) tx tx_ends.Rollback m j o user (λ k h. h)
same_rows H client n op m j o user = let never : ends_transaction op ≡ true = o.ends in absurd cc

same_late : (H : List Event) (client n : ℕ) (op : Op) (m j : ℕ) → Outside H client n op m → borrower H m ≡ borrower H j → is_late (enters H client n op) (scope (work H j)) ≡ is_late H (scope (work H j))
same_late H client n op m j o user = by (scope (work H j)) refl
  where
    by : (s : Scope) → scope (work H j) ≡ s → is_late (enters H client n op) s ≡ is_late H s
    by Db is = refl
    by (Held k) is = ap (λ t. is_some (end_of t)) (same_tx H client n op m k o (user ∙ inside_uses H j k is))

sent_as : (K H : List Event) (j : ℕ) (w v : Wish) → v ≡ w → ((u : Wish) → line_of K j u ≡ line_of H j u) → sent_for K j v ≡ sent_for H j w
sent_as K H j w v same lines = ap (sent_for K j) same ∙ by w
  where
    by : (u : Wish) → sent_for K j u ≡ sent_for H j u
    by wishes.Nothing = refl
    by wishes.Fetch = lines wishes.Fetch
    by wishes.Close = lines wishes.Close

rows_same : (H : List Event) (client n : ℕ) (op : Op) (m j : ℕ) → Outside H client n op m → m ≢ 0 → (work H m ≡ Fetch j) ⊎ (work H m ≡ Close j) → sent_for (enters H client n op) j (wish (enters H client n op) m j) ≡ sent_for H j (wish H m j)
rows_same H client n op m j o some its = by (is_some (rows_by H j)) refl
  where
    K : List Event
    K = enters H client n op

    x : Enters H client n op
    x = entry H client n op m o

    old : j ≢ n
    old = concerned_old H m n j (next_work H client n op o.lawful) o.apart (inr its)

    made : is_some (rows_by H j) ≡ true → sent_for (enters H client n op) j (wish (enters H client n op) m j) ≡ sent_for H j (wish H m j)
    made h =
        let user = borrow_same H m j its (rows_hand_out H j h) in
        let rows = same_rows H client n op m j o user in
        let lives : are_live K j ≡ are_live H j = ap live rows in
        let closing : closes K m j ≡ closes H m j =
        ap (λ e. (e == m) && (not (is_late K (scope (work K j))) || has_begun_to_send K m)) (same_ender H (Entered client n op) j lives)
        ∙ (ap (λ w. (ender H j == m) && (not (is_late K (scope w)) || has_begun_to_send K m)) (kept_work H client n op j x old)
        ∙ (ap (λ b. (ender H j == m) && (not b || has_begun_to_send K m)) (same_late H client n op m j o user)
        ∙ ap (λ b. (ender H j == m) && (not (is_late H (scope (work H j))) || b)) (kept_sent H client n op m x o.apart)))
        in
        let wanted : wish K m j ≡ wish H m j =
        ap (λ b. wish_as b (is_fetch (work K m) && (are_live K j && is_none (decided K m)))) closing
        ∙ (ap (λ w. wish_as (closes H m j) (is_fetch w && (are_live K j && is_none (decided K m)))) (kept_work H client n op m x o.apart)
        ∙ (ap (λ b. wish_as (closes H m j) (is_fetch (work H m) && (b && is_none (decided K m)))) lives
        ∙ ap (λ d. wish_as (closes H m j) (is_fetch (work H m) && (are_live H j && is_none d))) (kept_decided H client n op m x o.apart)))
        in
        sent_as K H j (wish H m j) (wish K m j) wanted (λ w. kept_line H client n op j w x old)

    by : (b : Bool) → is_some (rows_by H j) ≡ b → sent_for (enters H client n op) j (wish (enters H client n op) m j) ≡ sent_for H j (wish H m j)
    by true h = made h
    by false h =
        ap (sent_for K j) (no_wish K m j some (none_made (rows_by K j) (some_entered H op j (handed_out H) ∙ h))) ∙ sym (ap (sent_for H j) (no_wish H m j some (none_made (rows_by H j) h)))

-- So what is due for the other call stays the same.

pub due_outside : (H : List Event) (client n : ℕ) (op : Op) (m : ℕ) → Outside H client n op m → due_for (enters H client n op) m ≡ due_for H m
due_outside H client n op m o =
    ap (λ b. cond b (due_in K m (work K m)) None) (old_unfinished H client n op m o.apart)
    ∙ (ap (λ w. cond (is_unfinished H m) (due_in K m w) None) (kept_work H client n op m x o.apart) ∙ of (is_unfinished H m) refl)
  where
    K : List Event
    K = enters H client n op

    x : Enters H client n op
    x = entry H client n op m o

    line : line_of (enters H client n op) m wishes.Nothing ≡ line_of H m wishes.Nothing
    line = kept_line H client n op m wishes.Nothing (entry H client n op m o) o.apart

    by : m ≢ 0 → (w : Work) → work H m ≡ w → due_in (enters H client n op) m w ≡ due_in H m w
    by some (Statement (Held k) task) is = inner_same H client n op m k o (rw is refl)
    by some (End k) is = ends_same H client n op m k o (rw is refl)
    by some (Fetch j) is = rows_same H client n op m j o some (inl is)
    by some (Close j) is = rows_same H client n op m j o some (inr is)
    by some Look is = refl
    by some _ is = line

    of : (b : Bool) → is_unfinished H m ≡ b → cond b (due_in (enters H client n op) m (work H m)) None ≡ cond b (due_in H m (work H m)) None
    of false u = refl
    of true u = let l = o.lawful in by (unfinished_from_one H m l.0 u) (work H m) refl
