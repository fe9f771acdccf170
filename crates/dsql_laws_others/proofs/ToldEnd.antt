-- A call that has sent nothing in a transaction that another call ends on entry replies that the transaction
-- has ended. The rows of the transaction are over.
use Rattle.std.proofs.Common.{◌≡◌, ◌≢◌, ℕ, ◌⊎◌, inl, inr, Bool, true, false, not, ◌&&◌, ◌||◌, cond, List, Option, Some, None, is_some, is_none, unwrap_or, refl, sym, ap, ◌∙◌}
use Rattle.std.specs.List.{list_any}
use Rattle.std.specs.Option.{option_map}
use Rattle.dsql_laws_calls.specs.course.declared.course.Wish.TheVariants as wishes
use Rattle.dsql_laws_calls.specs.course.Made.{or_else}
use Rattle.dsql_laws_calls.specs.numbered.Numbered.{thing_of, changed}
use Rattle.dsql_laws_calls.proofs.numbered.Numbers.{changes_one_number}
use Rattle.dsql_laws_calls.specs.wait.Requests.{waits}
use Rattle.dsql_laws_calls.specs.pool.Calls.{wants}
use Rattle.dsql_laws_calls.specs.pool.Places.{is_for}
use Rattle.dsql_laws_calls.specs.pool.Pooled.{Pooled}
use Rattle.dsql_laws_calls.specs.tx.declared.end.TxEnd.{TxEnd}
use Rattle.dsql_laws_calls.specs.tx.declared.end.TxEnd.TheVariants as tx_ends
use Rattle.dsql_laws_calls.specs.tx.declared.tx.Tx.{Tx as Trans}
use Rattle.dsql_laws_calls.specs.tx.Transactions as of_txs
use Rattle.dsql_laws_calls.specs.history.declared.record.Stand.TheVariants.{Replies}
use Rattle.dsql_laws_calls.specs.history.Readers.Pool.{smallest, pool}
use Rattle.dsql_laws_calls.specs.history.Readers.Tries.{asks_again, tries}
use Rattle.dsql_laws_calls.proofs.laws.Truths.{or_second}
use Rattle.dsql_laws_calls.proofs.laws.Places.{neither, none_opens}
use Rattle.dsql_laws_calls.proofs.laws.Tests.{both, together, other_number}
use Rattle.dsql_laws_calls.proofs.Cases.{true_false}
use Rattle.dsql_laws_calls.proofs.laws_work.Rows.{same_or_not}
use Rattle.dsql_laws_others.proofs.Answered.{rests_there, replies_first}
use Rattle.dsql_laws_calls.specs.history.declared.event.Event.{Event}
use Rattle.dsql_laws_calls.specs.history.declared.event.Event.TheVariants.{Entered}
use Rattle.dsql_laws_calls.specs.history.declared.event.Op.{Op}
use Rattle.dsql_laws_calls.specs.history.declared.event.Op.TheVariants as ops
use Rattle.dsql_laws_calls.specs.history.declared.reply.Reply.TheVariants.{TxDone}
use Rattle.dsql_laws_calls.specs.history.declared.work.Scope.TheVariants.{Held}
use Rattle.dsql_laws_calls.specs.history.declared.work.Work.{Work}
use Rattle.dsql_laws_calls.specs.history.declared.work.Work.TheVariants.{Statement}
use Rattle.dsql_laws_calls.specs.history.Readers.Calls.{decided, done_with, has_begun_to_send, reply_due, rests_with, site, told_at_lending, told_by_others, told_by_scope, told_of_work}
use Rattle.dsql_laws_calls.specs.history.Readers.HandedOut.{rows_by, are_live}
use Rattle.dsql_laws_calls.specs.history.Readers.Transactions.{ends_as, transactions, tx_by, end_of, tx_end, is_begun, is_over, goes_on}
use Rattle.dsql_laws_calls.specs.history.Readers.Unfinished.{is_unfinished}
use Rattle.dsql_laws_calls.specs.history.Readers.Works.{works, work, asks, hands_out_in, scope, tx_maker}
use Rattle.dsql_laws_calls.specs.history.Rules.Line.{due_inside, due_in, due_for}
use Rattle.dsql_laws_calls.specs.history.Rules.Sent.{line_of}
use Rattle.dsql_laws_calls.specs.history.Rules.Stands.{is_own_step, is_settled_for, has_to_reply, stand}
use Rattle.dsql_laws_calls.specs.history.Legal.{Lawful}
use Rattle.dsql_laws_calls.proofs.laws.Numbered.{unfinished_from_one}
use Rattle.dsql_laws_calls.proofs.laws.Wanting.{wants_its_own}
use Rattle.dsql_laws_calls.proofs.Inside.{live_goes, was_live}
use Rattle.dsql_laws_calls.proofs.LiveRows.{live_some}
use Rattle.dsql_laws_others.specs.Told.{where_told}
use Rattle.dsql_laws_others.specs.Ends.{ends_transaction, end_by, ends_now}
use Rattle.dsql_laws_others.proofs.EndedTx.{entered_end}
use Rattle.dsql_laws_others.proofs.Entered.{Enters, enters, kept_work, kept_decided, kept_sent, no_rows_yet}
use Rattle.dsql_laws_others.proofs.StillUsed.{not_over}

-- How the transaction is ended.

ended_so : (H : List Event) (tx : List ℕ) (by : TxEnd) (k : ℕ) → goes_on H k ≡ true → is_some (end_of (thing_of k (ends_as H tx by (transactions H)))) ≡ true → end_of (thing_of k (ends_as H tx by (transactions H))) ≡ Some by
ended_so H tx by k goes gone = split (is_unfinished H (tx_maker (works H) tx)) gone
  where
    maker : ℕ
    maker = tx_maker (works H) tx

    never : {A : Type 0} → is_over H k ≡ true → A
    never over = absurd (true_false (is_over H k) over (not_over H k goes))

    begun : is_begun H k ≡ true
    begun = let b = both (is_begun H k) (not (is_over H k)) goes in b.0

    named : (o : Option Trans) → is_some o ≡ true → is_some (end_of o) ≡ false → end_of (option_map (of_txs.ended_by by) o) ≡ Some by
    named None h on = absurd cc
    named (Some t) h on = ap (λ e. Some (unwrap_or e by)) (none t.ended on)
      where
        none : (e : Option TxEnd) → is_some e ≡ false → e ≡ None
        none None x = refl
        none (Some z) x = absurd cc

    changes : (k ≡ maker) ⊎ (k ≢ maker) → is_some (end_of (thing_of k (changed (of_txs.ended_by by) (tx_maker (works H) tx) (transactions H)))) ≡ true → end_of (thing_of k (changed (of_txs.ended_by by) (tx_maker (works H) tx) (transactions H))) ≡ Some by
    changes (inl same) h =
        let l = changes_one_number {X = Trans} in
        ap (λ i. end_of (thing_of k (changed (of_txs.ended_by by) i (transactions H)))) (sym same)
        ∙ (ap end_of (l.changes (of_txs.ended_by by) k (transactions H)) ∙ named (tx_by H k) begun (not_over H k goes))
    changes (inr apart) h =
        let l = changes_one_number {X = Trans} in never (sym (ap (λ o. is_some (end_of o)) (l.others (of_txs.ended_by by) (tx_maker (works H) tx) k (transactions H) apart)) ∙ h)

    split : (b : Bool) → is_some (end_of (thing_of k (cond b (transactions H) (changed (of_txs.ended_by by) maker (transactions H))))) ≡ true → end_of (thing_of k (cond b (transactions H) (changed (of_txs.ended_by by) maker (transactions H)))) ≡ Some by
    split true h = never h
    split false h = changes (same_or_not k (tx_maker (works H) tx)) h

end_named : (H : List Event) (client n : ℕ) (op : Op) (k : ℕ) → ends_transaction op ≡ true → ends_now H (Entered client n op) k ≡ true → tx_end (enters H client n op) k ≡ Some (end_by op)
end_named H client n (ops.Commit tx) k ends h = let b = both (goes_on H k) (is_over (enters H client n (ops.Commit tx)) k) h in ended_so H tx tx_ends.Commit k b.0 b.1
end_named H client n (ops.Rollback tx) k ends h = let b = both (goes_on H k) (is_over (enters H client n (ops.Rollback tx)) k) h in ended_so H tx tx_ends.Rollback k b.0 b.1
end_named H client n op k ends h = absurd cc

-- A call in the transaction that has sent nothing and settled nothing.
pub record Unsent (H : List Event) (client n : ℕ) (op : Op) (m k : ℕ) : Type 0 where
  pub lawful : Lawful (enters H client n op)
  pub ends : ends_transaction op ≡ true
  pub now : ends_now H (Entered client n op) k ≡ true
  pub apart : m ≢ n
  pub unfinished : is_unfinished H m ≡ true
  pub inner : scope (work H m) ≡ Held k
  pub silent : has_begun_to_send H m ≡ false
  pub undecided : decided H m ≡ None

told_within : (L : List Event) (m k : ℕ) (w : Work) → scope w ≡ Held k → told_of_work L m w ≡ told_by_scope L m w (Held k)
told_within L m k (Statement s task) is = ap (told_by_scope L m (Statement s task)) is
told_within L m k w is = absurd cc

due_within : (L : List Event) (m k : ℕ) (w : Work) → scope w ≡ Held k → due_in L m w ≡ due_inside L m (Held k)
due_within L m k (Statement s task) is = ap (due_inside L m) is
due_within L m k w is = absurd cc

asks_within : (w : Work) (k : ℕ) → scope w ≡ Held k → asks w ≡ false
asks_within (Statement (Held j) task) k is = refl
asks_within w k is = absurd cc

told_so : (H : List Event) (client n : ℕ) (op : Op) (m k : ℕ) → Unsent H client n op m k → told_by_others (enters H client n op) m ≡ Some (TxDone (end_by op))
told_so H client n op m k u =
    let K = enters H client n op in
    let x = entered_end H client n op u.lawful u.ends in
    ap (told_of_work K m) (kept_work H client n op m x u.apart)
    ∙ (told_within K m k (work H m) u.inner
    ∙ (ap (λ b. cond b None (done_with (tx_end K k))) (kept_sent H client n op m x u.apart ∙ u.silent) ∙ ap done_with (end_named H client n op k u.ends u.now)))

undecided_still : (H : List Event) (client n : ℕ) (op : Op) (m k : ℕ) → Unsent H client n op m k → decided (enters H client n op) m ≡ None
undecided_still H client n op m k u = kept_decided H client n op m (entered_end H client n op u.lawful u.ends) u.apart ∙ u.undecided

pub replies_end : (H : List Event) (client n : ℕ) (op : Op) (m k : ℕ) → Unsent H client n op m k → reply_due (enters H client n op) m ≡ Some (TxDone (end_by op))
replies_end H client n op m k u =
    let K = enters H client n op in
    ap (λ o. or_else (or_else o (told_by_others K m)) (told_at_lending K m)) (undecided_still H client n op m k u)
    ∙ ap (λ o. or_else o (told_at_lending K m)) (told_so H client n op m k u)

-- The call sends nothing.

silent_now : (H : List Event) (client n : ℕ) (op : Op) (m k : ℕ) → Unsent H client n op m k → is_some (due_for (enters H client n op) m) ≡ false
silent_now H client n op m k u =
    ap (λ d. is_some (cond (is_unfinished K m) d None)) (ap (due_in K m) (kept_work H client n op m x u.apart) ∙ due_within K m k (work H m) u.inner)
    ∙ (ap (λ b. is_some (cond (is_unfinished K m) (cond (b || (goes_on K k && is_none (decided K m))) (line_of K m wishes.Nothing) None) None)) (kept_sent H client n op m x u.apart ∙ u.silent)
    ∙ (ap (λ b. is_some (cond (is_unfinished K m) (cond ((is_begun K k && not b) && is_none (decided K m)) (line_of K m wishes.Nothing) None) None)) gone ∙ none (is_unfinished K m) (is_begun K k)))
  where
    K : List Event
    K = enters H client n op

    x : Enters H client n op
    x = entered_end H client n op u.lawful u.ends

    gone : is_over (enters H client n op) k ≡ true
    gone = let b = both (goes_on H k) (is_over (enters H client n op) k) u.now in b.1

    none : (a b : Bool) → is_some (cond a (cond ((b && false) && is_none (decided (enters H client n op) m)) (line_of (enters H client n op) m wishes.Nothing) None) None) ≡ false
    none true true = refl
    none true false = refl
    none false b = refl

unwanting : (H : List Event) (m k : ℕ) → Lawful H → m ≢ 0 → scope (work H m) ≡ Held k → wants m (pool H) ≡ false
unwanting H m k l some inner = by (wants m (pool H)) refl
  where
    by : (b : Bool) → wants m (pool H) ≡ b → b ≡ false
    by false is = refl
    by true is = absurd (true_false (asks (work H m)) (wants_its_own H m l some is) (asks_within (work H m) k inner))

pub stands_end : (H : List Event) (client n : ℕ) (op : Op) (m k : ℕ) → Unsent H client n op m k → stand (enters H client n op) m ≡ Some Replies
stands_end H client n op m k u =
    let K = enters H client n op in
    let x = entered_end H client n op u.lawful u.ends in
    let l = u.lawful in
    let none = neither (waits m (pool H).waiting) (list_any (λ conn. is_for m conn.place) (pool H).conns) (unwanting H m k l.0 (unfinished_from_one H m l.0 u.unfinished) u.inner) in
    let settled : is_settled_for K m ≡ true =
    or_second (is_some (rests_with K m)) (is_none (decided K m) && is_some (told_by_others K m))
    (together (is_none (decided K m)) (is_some (told_by_others K m)) (ap (λ d. is_none d) (undecided_still H client n op m k u)) (ap (λ o. is_some o) (told_so H client n op m k u)))
    in
    let apart : is_own_step K m ≡ false = other_number n m (λ same. apart_from m n u.apart same) in
    rests_there (waits m (pool K).waiting) (is_some (due_for K m)) (smallest (is_for m) (pool K)) (site K m) (where_told K m) (ap (λ (p : Pooled). waits m p.waiting) x.pool ∙ none.0)
    (ap (smallest (is_for m)) x.pool ∙ none_opens m (pool H) none.1) (silent_now H client n op m k u)
    ∙ replies_first (has_to_reply K m) (asks_again (tries K m)) (together (not (is_own_step K m)) (is_settled_for K m) (ap not apart) settled)
  where
    apart_from : (a b : ℕ) → a ≢ b → b ≡ a → ⊥
    apart_from a b away same = away (sym same)

-- The rows of the transaction are over.
pub rows_end : (H : List Event) (client n : ℕ) (op : Op) (j k : ℕ) → Lawful (enters H client n op) → ends_transaction op ≡ true → ends_now H (Entered client n op) k ≡ true → hands_out_in k (work H j) ≡ true → are_live (enters H client n op) j ≡ false
rows_end H client n op j k l ends h hands = by (are_live (enters H client n op) j) refl
  where
    K : List Event
    K = enters H client n op

    by : (b : Bool) → are_live (enters H client n op) j ≡ b → b ≡ false
    by false is = refl
    by true is =
        let b = both (goes_on H k) (is_over K k) h in
        let made = live_some (rows_by H j) (was_live H client n op j is) in
        let old : j ≢ n = λ same. no_rows_yet H client n op l (ap (λ i. is_some (rows_by H i)) (sym same) ∙ made) in
        let goes = live_goes K j k l is (ap (hands_out_in k) (kept_work H client n op j (entered_end H client n op l ends) old) ∙ hands) in
        absurd (true_false (is_over K k) b.1 (not_over K k goes))
