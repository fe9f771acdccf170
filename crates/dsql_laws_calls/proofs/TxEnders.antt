-- Which call ended a transaction, what makes a transaction go on, and the calls for which something was heard.
use Rattle.std.proofs.Common.{◌≡◌, ◌≢◌, ℕ, ◌<◌, ◌≤◌, ◌==◌, ◌⊎◌, inl, inr, Bool, true, false, not, ◌&&◌, ◌||◌, cond, List, [], ◌∷◌, Option, Some, None, length, length-set, get_or, is_some, refl, sym, ap, subst, ◌∙◌, arith}
use Rattle.std.specs.Option.{option_map}
use Rattle.std.proofs.lemmas.List.{length-append}
use Rattle.dsql_laws.specs.history.Readers.Tries.{try_number, tries}
use Rattle.dsql_laws.specs.driver.Kinds.{is_begin}
use Rattle.dsql_laws.specs.journal.declared.entry.Entry.{Entry}
use Rattle.dsql_laws.specs.tx.declared.end.TxEnd.{TxEnd}
use Rattle.dsql_laws.specs.tx.declared.end.TxEnd.TheVariants as tx_ends
use Rattle.dsql_laws.specs.history.declared.work.Work.{Work}
use Rattle.dsql_laws.specs.tx.declared.tx.Tx.{Tx}
use Rattle.dsql_laws.specs.tx.Transactions.{ended_by}
use Rattle.dsql_laws.proofs.Tests.{same_number}
use Rattle.dsql_laws_work.proofs.Rows.{within_rows}
use Rattle.dsql_laws.specs.history.declared.event.Event.{Event}
use Rattle.dsql_laws.specs.history.declared.event.Event.TheVariants.{Entered, Heard, Replied, Ended}
use Rattle.dsql_laws.specs.history.declared.event.Op.{Op}
use Rattle.dsql_laws.specs.history.declared.event.Op.TheVariants as ops
use Rattle.dsql_laws.specs.history.declared.work.Work.TheVariants.{Look}
use Rattle.dsql_laws.specs.history.Readers.Calls.{calls, nobody, entering, decided_by}
use Rattle.dsql_laws.specs.history.Readers.Journals.{journal}
use Rattle.dsql_laws.specs.history.Readers.Lines.{has_sent}
use Rattle.dsql_laws.specs.history.Readers.Pool.{place}
use Rattle.dsql_laws.specs.history.Readers.Works.{works, work, work_of}
use Rattle.dsql_laws.specs.history.Readers.Transactions.{tx_by, end_of, goes_on, ending_call, tx_ender}
use Rattle.dsql_laws.specs.history.Legal.{Allowed, Lawful}
use Rattle.dsql_laws_calls.proofs.Works.{is_look, work_stays, enters_next, new_work}
use Rattle.dsql_laws_calls.proofs.Looks.{sent_no_look, heard_there, comes}
use Rattle.dsql_laws_calls.proofs.Rows.{is_worker}
use Rattle.dsql_laws_calls.proofs.Begun.{entered_tx, heard_tx, ended_tx}
use Rattle.dsql_laws_calls.proofs.Stays.{as_many}

never : true ≡ false → ⊥
never h = cc

-- If a call ends a transaction as it enters, `is_worker` is true of its work.
ends_only : (H : List Event) (client m : ℕ) (op : Op) (k : ℕ) → goes_on H k ≡ true → goes_on (Entered client m op ∷ H) k ≡ false → is_worker (work_of (works H) op) ≡ true
ends_only H client m (ops.Commit tx) k was now = refl
ends_only H client m (ops.Rollback tx) k was now = refl
ends_only H client m (ops.Next rows) k was now = refl
ends_only H client m (ops.RowsClose rows) k was now = refl
ends_only H client m op k was now = absurd (never (sym was ∙ now))

end_work : (H : List Event) (e : Event) (k : ℕ) → Lawful (e ∷ H) → goes_on H k ≡ true → goes_on (e ∷ H) k ≡ false → ending_call e ≢ 0 → is_worker (work (e ∷ H) (ending_call e)) ≡ true
end_work H (Entered client m op) k l was now some =
    let new = enters_next H client m op l.1 in
    ap is_worker (new_work H client m op new) ∙ ends_only H client m op k was now
end_work H e k l was now some = absurd (some refl)

worker_sends : (H : List Event) (n : ℕ) → is_worker (work H n) ≡ true → is_look (work H n) ≡ false
worker_sends H n h = by (is_look (work H n)) refl
  where
    both_ways : (w : Work) → is_worker w ≡ true → is_look w ≡ true → ⊥
    both_ways Look x y = cc
    both_ways w x y = cc

    by : (b : Bool) → is_look (work H n) ≡ b → b ≡ false
    by true is = absurd (both_ways (work H n) h is)
    by false is = refl

-- If a call ended a transaction, `is_worker` is true of its work.
pub tx_ender_works : (H : List Event) (k : ℕ) → Lawful H → tx_ender H k ≢ 0 → is_worker (work H (tx_ender H k)) ≡ true
tx_ender_works [] k l some = absurd (some refl)
tx_ender_works (e ∷ H) k l some = by (tx_ender_works H k l.0) (goes_on H k) (goes_on (e ∷ H) k) refl refl some
  where
    by : (tx_ender H k ≢ 0 → is_worker (work H (tx_ender H k)) ≡ true) → (a b : Bool) → goes_on H k ≡ a → goes_on (e ∷ H) k ≡ b → cond a (cond b 0 (ending_call e)) (tx_ender H k) ≢ 0
        → is_worker (work (e ∷ H) (cond a (cond b 0 (ending_call e)) (tx_ender H k))) ≡ true
    by earlier true true was now x = absurd (x refl)
    by earlier true false was now x = end_work H e k l was now x
    by earlier false b was now x =
        let before = earlier x in ap is_worker (work_stays H e (tx_ender H k) (worker_sends H (tx_ender H k) before)) ∙ before

-- Holds if the event is the answer to the Begin of transaction k. A transaction that goes on went on before the
-- event, unless this holds.
pub record BegunNow (e : Event) (k : ℕ) : Type 0 where
  pub entry : Entry
  pub heard : e ≡ Heard entry
  pub begin : is_begin entry.call ≡ true
  pub own : k ≡ entry.call_no

pub same_going : (o p : Option Tx) → p ≡ o → (is_some p && not (is_some (end_of p))) ≡ (is_some o && not (is_some (end_of o)))
same_going o p same = ap (λ x. is_some x && not (is_some (end_of x))) same

ended_going : (by : TxEnd) (o p : Option Tx) → p ≡ option_map (ended_by by) o → (is_some p && not (is_some (end_of p))) ≡ true → ⊥
ended_going by None p is h = let k : false ≡ true = sym (ap (λ x. is_some x && not (is_some (end_of x))) is) ∙ h in cc
ended_going by (Some x) p is h = let k : false ≡ true = sym (ap (λ x. is_some x && not (is_some (end_of x))) is) ∙ h in cc

pub went_on : (H : List Event) (e : Event) (k : ℕ) → goes_on (e ∷ H) k ≡ true → (goes_on H k ≡ true) ⊎ BegunNow e k
went_on H (Entered client m op) k h =
    elim (entered_tx H client m op k) [
      | inl same ↦ inl (sym (same_going (tx_by H k) (tx_by (Entered client m op ∷ H) k) same) ∙ h)
      | inr it ↦ absurd (ended_going it.by (tx_by H k) (tx_by (Entered client m op ∷ H) k) it.so h)
    ]
went_on H (Heard e) k h =
    elim (heard_tx H e k) [
      | inl same ↦ inl (sym (same_going (tx_by H k) (tx_by (Heard e ∷ H) k) same) ∙ h)
      | inr it ↦ inr (record { entry = e; heard = refl; begin = it.begin; own = it.own })
    ]
went_on H Ended k h = absurd (ended_going tx_ends.EndOfRun (tx_by H k) (tx_by (Ended ∷ H) k) (ended_tx H k) h)
went_on H _ k h = inl h

pub none_goes_at_end : (H : List Event) (k : ℕ) → goes_on (Ended ∷ H) k ≡ false
none_goes_at_end H k = by (goes_on (Ended ∷ H) k) refl
  where
    by : (b : Bool) → goes_on (Ended ∷ H) k ≡ b → b ≡ false
    by true is = absurd (ended_going tx_ends.EndOfRun (tx_by H k) (tx_by (Ended ∷ H) k) (ended_tx H k) is)
    by false is = refl

-- Answers are heard only for calls that have entered.

busy_entered : (H : List Event) (n : ℕ) → is_look (work H n) ≡ false → n < length (calls H)
busy_entered H n busy = by (within_rows (works H) n Look)
  where
    by : (n < length (works H)) ⊎ ((length (works H) ≤ n) × (work H n ≡ Look)) → n < length (calls H)
    by (inl less) = let same = as_many H in omega (arith, less, same)
    by (inr none) = let k : true ≡ false = sym (ap is_look none.1) ∙ busy in absurd cc

sent_now : (H : List Event) (e : Entry) (n : ℕ) → Allowed H (Heard e) → (e.call_no == n) ≡ true → n ≢ 0 → n < length (calls H)
sent_now H e n a is some =
    let same = same_number e.call_no n is in
    let there = heard_there H e a in
    let number : (e.call_no == 0) ≡ false = numbered (e.call_no == 0) refl same in
    let busy = sent_no_look H e (comes H e (place H e.conn) there.sets there.line number) number in
    subst (λ k. k < length (calls H)) same (busy_entered H e.call_no busy)
  where
    numbered : (b : Bool) → (e.call_no == 0) ≡ b → e.call_no ≡ n → b ≡ false
    numbered true zero_now same = absurd (some (sym same ∙ same_number e.call_no 0 zero_now))
    numbered false other same = refl

-- The number of calls never falls.
pub more_calls : (H : List Event) (e : Event) → length (calls H) ≤ length (calls (e ∷ H))
more_calls H (Entered client m op) = let more = length-append (calls H) (entering H client op ∷ []) in omega (arith, more)
more_calls H (Heard e) = let same = length-set (calls H) e.call_no (decided_by (try_number (tries H e.call_no)) (work H e.call_no) e (get_or (calls H) e.call_no nobody)) in omega (arith, same)
more_calls H (Replied n reply) = let same = length-set (calls H) n (record (get_or (calls H) n nobody) { decided = None }) in omega (arith, same)
more_calls H _ = omega arith

pub sent_entered : (H : List Event) (c n : ℕ) → Lawful H → n ≢ 0 → has_sent n (journal H c) ≡ true → n < length (calls H)
sent_entered [] c n l some h = absurd cc
sent_entered (Heard e ∷ H) c n l some h =
    let more = more_calls H (Heard e) in
    let before = by (sent_entered H c n l.0 some) (e.conn == c) (e.call_no == n) refl h in
    omega (arith, more, before)
  where
    by : (has_sent n (journal H c) ≡ true → n < length (calls H)) → (here its : Bool) → (e.call_no == n) ≡ its → has_sent n (cond here (e ∷ journal H c) (journal H c)) ≡ true → n < length (calls H)
    by rest true true is k = sent_now H e n l.1 is some
    by rest true false is k = rest (sym (ap (λ b. b || has_sent n (journal H c)) is) ∙ k)
    by rest false its is k = rest k
sent_entered (Entered client m op ∷ H) c n l some h = let more = more_calls H (Entered client m op) in let before = sent_entered H c n l.0 some h in omega (arith, more, before)
sent_entered (Replied m reply ∷ H) c n l some h = let more = more_calls H (Replied m reply) in let before = sent_entered H c n l.0 some h in omega (arith, more, before)
sent_entered (_ ∷ H) c n l some h = sent_entered H c n l.0 some h
