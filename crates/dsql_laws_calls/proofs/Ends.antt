-- Once the run has ended, nothing is due for any call: each had its reply by then, or waited in vain.
use Rattle.std.proofs.Common.{◌≡◌, ◌≢◌, ℕ, zero, suc, ◌≤◌, ◌==◌, ◌⊎◌, inl, inr, Bool, true, false, not, ◌&&◌, ◌||◌, cond, List, [], ◌∷◌, ◌++◌, length, Option, None, is_some, is_none, refl, sym, ap, subst, ◌∙◌, arith}
use Rattle.std.specs.Prelude.{slice_index_or}
use Rattle.dsql_laws.specs.driver.declared.call.DriverCall.{DriverCall}
use Rattle.dsql_laws.specs.rows.OpenRows.{rows_of}
use Rattle.dsql_laws.specs.course.declared.course.Wish.TheVariants as wishes
use Rattle.dsql_laws.specs.journal.declared.entry.Entry.{Entry}
use Rattle.dsql_laws.specs.history.Readers.HandedOut.{live, rows_heard, handed_out, are_live, ended_at, ender, is_late}
use Rattle.dsql_laws.specs.history.Rules.Wishes.{wish_as}
use Rattle.dsql_laws.proofs.Tests.{same_number, other_number}
use Rattle.dsql_laws.proofs.Tried.{lent_count, shut_fewer}
use Rattle.dsql_laws.proofs.Wanted.{wants_counts}
use Rattle.dsql_laws_work.proofs.Rows.{same_or_not}
use Rattle.dsql_laws.specs.history.declared.work.Work.{Work}
use Rattle.dsql_laws.specs.history.declared.work.Work.TheVariants.{Statement, Begin, End, Ping as Pings, Fetch, Close, Look}
use Rattle.dsql_laws.specs.history.Readers.Works.{asks, works, work, work_of, is_fetch, scope}
use Rattle.dsql_laws.specs.history.Rules.Line.{due_in, due_for, is_due_at, parts, may_come, sends_in}
use Rattle.dsql_laws.specs.history.declared.event.Event.{Event}
use Rattle.dsql_laws.specs.history.declared.event.Event.TheVariants.{Entered, Heard, Replied, Ended}
use Rattle.dsql_laws.specs.history.declared.event.Op.{Op}
use Rattle.dsql_laws.specs.history.Readers.Course.{has_ended}
use Rattle.dsql_laws.specs.history.Readers.Pool.{pool, place}
use Rattle.dsql_laws.specs.history.Readers.Unfinished.{is_unfinished}
use Rattle.dsql_laws.specs.history.Readers.Calls.{site, decided, calls, has_begun_to_send}
use Rattle.dsql_laws.specs.history.Rules.Sent.{wish, sent_for, line_of}
use Rattle.dsql_laws.specs.history.Legal.{Allowed, Lawful}
use Rattle.dsql_laws.proofs.Numbered.{some_calls, unfinished_from_one}
use Rattle.dsql_laws.proofs.Wanting.{wants_its_own}
use Rattle.dsql_laws_calls.proofs.Works.{enters_next, old_unfinished, still_unfinished, old_work}
use Rattle.dsql_laws_calls.proofs.Looks.{due_there, heard_there, comes}
use Rattle.dsql_laws_calls.proofs.Rows.{is_worker, ender_works, none_at_end, entering_revives_none}
use Rattle.dsql_laws.specs.history.declared.work.Scope.TheVariants.{Db, Held}
use Rattle.dsql_laws.specs.history.Readers.Journals.{journal}
use Rattle.dsql_laws.specs.history.Readers.Lines.{has_sent}
use Rattle.dsql_laws.specs.history.Readers.Transactions.{goes_on, ending_call, tx_ender}
use Rattle.dsql_laws.specs.history.Rules.Ending.{ending}
use Rattle.dsql_laws_calls.proofs.AtEnd.{no_work_yet, waits_at_end, wants_at_end, waiting_unlent, unlent_stays}
use Rattle.dsql_laws_calls.proofs.Own.{sender_wants_none, some_due}
use Rattle.dsql_laws_calls.proofs.Idle.{lent_asks, due_lent, came_of}
use Rattle.dsql_laws_calls.proofs.TxEnders.{BegunNow, tx_ender_works, went_on, none_goes_at_end, sent_entered}
use Rattle.dsql_laws_calls.proofs.Begun.{begin_heard}
use Rattle.dsql_laws_calls.proofs.Plain.{begins}
use Rattle.dsql_laws_calls.proofs.Stays.{as_many}

never : true ≡ false → ⊥
never h = cc

-- Holds if nothing is due for any call. No connection is lent to a call without a reply, no rows are live, and
-- no transaction goes on. No such call ended rows or a transaction, and none has sent anything on another
-- call's connection.
record Idle (H : List Event) : Type 0 where
  lent : (n : ℕ) → is_unfinished H n ≡ true → lent_count n (pool H) ≡ 0
  live : (k : ℕ) → are_live H k ≡ false
  going : (k : ℕ) → goes_on H k ≡ false
  ender : (m k : ℕ) → is_unfinished H m ≡ true → ender H k ≢ m
  tx_ender : (m k : ℕ) → is_unfinished H m ≡ true → tx_ender H k ≢ m
  sent : (m c : ℕ) → is_unfinished H m ≡ true → asks (work H m) ≡ false → has_sent m (journal H c) ≡ false

-- Holds if all of `Idle` holds, and no driver call of a call is under way. This is so once the run has ended.
pub record Over (H : List Event) : Type 0 where
  pub lent : (n : ℕ) → is_unfinished H n ≡ true → lent_count n (pool H) ≡ 0
  pub live : (k : ℕ) → are_live H k ≡ false
  pub going : (k : ℕ) → goes_on H k ≡ false
  pub ender : (m k : ℕ) → is_unfinished H m ≡ true → ender H k ≢ m
  pub tx_ender : (m k : ℕ) → is_unfinished H m ≡ true → tx_ender H k ≢ m
  pub sent : (m c : ℕ) → is_unfinished H m ≡ true → asks (work H m) ≡ false → has_sent m (journal H c) ≡ false
  pub layer : (e : Entry) → may_come H e ≡ true → (e.call_no == 0) ≡ true

idle_of : (H : List Event) → Over H → Idle H
idle_of H o = record { lent = o.lent; live = o.live; going = o.going; ender = o.ender; tx_ender = o.tx_ender; sent = o.sent }

over_of : (H : List Event) → Idle H → ((e : Entry) → may_come H e ≡ true → (e.call_no == 0) ≡ true) → Over H
over_of H i layer = record { lent = i.lent; live = i.live; going = i.going; ender = i.ender; tx_ender = i.tx_ender; sent = i.sent; layer = layer }

-- So nothing is due.

nothing_wanted : (a b x y z : Bool) → a ≡ false → y ≡ false → wish_as (a && b) (x && (y && z)) ≡ wishes.Nothing
nothing_wanted true b x y z h k = absurd cc
nothing_wanted false b true true z h k = absurd cc
nothing_wanted false b true false z h k = refl
nothing_wanted false b false y z h k = refl

none_sent : (a b c d : Bool) (q : Option DriverCall) → a ≡ false → b ≡ false → is_some (cond (a || (b && c)) q None) ≡ false
none_sent true b c d q h k = absurd cc
none_sent false true c d q h k = absurd cc
none_sent false false c d q h k = refl

nothing_due : (H : List Event) → Idle H → (n : ℕ) → is_some (due_for H n) ≡ false
nothing_due H i n = by (is_unfinished H n) refl
  where
    none_in : (b : Bool) → is_some (due_in H n (work H n)) ≡ b → asks (work H n) ≡ true → is_unfinished H n ≡ true → b ≡ false
    none_in false is own u = refl
    none_in true is own u = let some = due_lent H n own is in let none = i.lent n u in absurd (omega (arith, some, none))

    none_over : (k : ℕ) → is_unfinished H n ≡ true → is_some (sent_for H k (wish H n k)) ≡ false
    none_over k u =
        let other : (ender H k == n) ≡ false = other_number (ender H k) n (i.ender n k u) in
        ap (λ w. is_some (sent_for H k w)) (nothing_wanted (ender H k == n) (not (is_late H (scope (work H k))) || has_begun_to_send H n) (is_fetch (work H n)) (are_live H k) (is_none (decided H n)) other (i.live k))

    none_ending : (k : ℕ) → is_unfinished H n ≡ true → is_some (cond (tx_ender H k == n) (ending H k) None) ≡ false
    none_ending k u = ap (λ b. is_some (cond b (ending H k) None)) (other_number (tx_ender H k) n (i.tx_ender n k u))

    none_inside : (k : ℕ) → asks (work H n) ≡ false → is_unfinished H n ≡ true → is_some (cond (sends_in H n k) (line_of H n wishes.Nothing) None) ≡ false
    none_inside k idle u = none_sent (has_begun_to_send H n) (goes_on H k) (is_none (decided H n)) true (line_of H n wishes.Nothing) (i.sent n (site H n) u idle) (i.going k)

    asking : (w : Work) → work H n ≡ w → asks w ≡ true → is_unfinished H n ≡ true → is_some (due_in H n w) ≡ false
    asking w is own u = subst (λ v. is_some (due_in H n v) ≡ false) is (none_in (is_some (due_in H n (work H n))) refl (ap asks is ∙ own) u)

    none_of : (w : Work) → work H n ≡ w → is_unfinished H n ≡ true → is_some (due_in H n w) ≡ false
    none_of (Statement Db task) is u = asking (Statement Db task) is refl u
    none_of (Begin label level read_only) is u = asking (Begin label level read_only) is refl u
    none_of Pings is u = asking Pings is refl u
    none_of (Statement (Held k) task) is u = none_inside k (ap asks is) u
    none_of (Fetch k) is u = none_over k u
    none_of (Close k) is u = none_over k u
    none_of (End k) is u = none_ending k u
    none_of Look is u = refl

    by : (b : Bool) → is_unfinished H n ≡ b → is_some (cond b (due_in H n (work H n)) None) ≡ false
    by true u = none_of (work H n) refl u
    by false u = refl

-- An entry that may come is due, or could come before the event.
layer_only : (H : List Event) (last : Event) → ((n : ℕ) → is_some (due_for (last ∷ H) n) ≡ false) → ((e : Entry) → may_come H e ≡ true → not (parts last e) ≡ true → (e.call_no == 0) ≡ true)
    → (e : Entry) → may_come (last ∷ H) e ≡ true → (e.call_no == 0) ≡ true
layer_only H last none before e h = by_layer (e.call_no == 0) refl
  where
    by : (a b : Bool) → is_due_at (last ∷ H) (place (last ∷ H) e.conn) e ≡ a → (a || (b && may_come H e)) ≡ true → not (parts last e) ≡ b → (e.call_no == 0) ≡ false → ⊥
    by true b now k apart some =
        let due = due_there (last ∷ H) (place (last ∷ H) e.conn) e now some in
        never (sym (some_due (due_for (last ∷ H) e.call_no) e.call due) ∙ none e.call_no)
    by false true now k apart some = never (sym (before e k apart) ∙ some)
    by false false now k apart some = absurd cc

    by_layer : (b : Bool) → (e.call_no == 0) ≡ b → (e.call_no == 0) ≡ true
    by_layer true is = is
    by_layer false is = absurd (by (is_due_at (last ∷ H) (place (last ∷ H) e.conn) e) (not (parts last e)) refl h refl is)

-- The run ends.

ends_lent : (H : List Event) → Lawful (Ended ∷ H) → (n : ℕ) → is_unfinished H n ≡ true → lent_count n (pool (Ended ∷ H)) ≡ 0
ends_lent H l n u =
    let none = waiting_unlent H n l.0 (unfinished_from_one H n l.0 u) (waits_at_end H n l.1 u) in
    let few = shut_fewer n (pool H) in
    omega (arith, none, few)

worker_asks : (w : Work) → is_worker w ≡ true → asks w ≡ false
worker_asks (Fetch k) h = refl
worker_asks (Close k) h = refl
worker_asks (End k) h = refl
worker_asks _ h = absurd cc

ends_ender : (H : List Event) → Lawful (Ended ∷ H) → (m k : ℕ) → is_unfinished H m ≡ true → ender (Ended ∷ H) k ≢ m
ends_ender H l m k u is = by (are_live H k) is
  where
    some : m ≢ 0
    some = unfinished_from_one H m l.0 u

    none_now : (b : Bool) → ended_at Ended b ≡ 0
    none_now true = refl
    none_now false = refl

    by : (b : Bool) → cond b (ended_at Ended (are_live (Ended ∷ H) k)) (ender H k) ≡ m → ⊥
    by true j = some (sym j ∙ none_now (are_live (Ended ∷ H) k))
    by false j =
        let works : is_worker (work H m) ≡ true = subst (λ i. is_worker (work H i) ≡ true) j (ender_works H k l.0 (λ none. some (sym j ∙ none))) in
        never (sym (wants_its_own H m l.0 some (wants_at_end H m l.1 u)) ∙ worker_asks (work H m) works)

ends_layer : (H : List Event) → Lawful (Ended ∷ H) → (e : Entry) → may_come H e ≡ true → (e.call_no == 0) ≡ true
ends_layer H l e h = by (e.call_no == 0) refl
  where
    by : (b : Bool) → (e.call_no == 0) ≡ b → (e.call_no == 0) ≡ true
    by true is = is
    by false is =
        let s = came_of H e l.0 h is in
        let n = e.call_no in
        let some : n ≢ 0 = unfinished_from_one H n l.0 s.unfinished in
        let wanting = wants_at_end H n l.1 s.unfinished in
        let none = sender_wants_none H e l.0 h is (wants_its_own H n l.0 some wanting) in
        let wanted_one = wants_counts n (pool H) wanting in
        absurd (omega (arith, none, wanted_one))

ends_tx_ender : (H : List Event) → Lawful (Ended ∷ H) → (m k : ℕ) → is_unfinished H m ≡ true → tx_ender (Ended ∷ H) k ≢ m
ends_tx_ender H l m k u is = by (goes_on H k) (goes_on (Ended ∷ H) k) is
  where
    some : m ≢ 0
    some = unfinished_from_one H m l.0 u

    by : (a b : Bool) → cond a (cond b 0 0) (tx_ender H k) ≡ m → ⊥
    by true true j = some (sym j)
    by true false j = some (sym j)
    by false b j =
        let works : is_worker (work H m) ≡ true = subst (λ i. is_worker (work H i) ≡ true) j (tx_ender_works H k l.0 (λ none. some (sym j ∙ none))) in
        never (sym (wants_its_own H m l.0 some (wants_at_end H m l.1 u)) ∙ worker_asks (work H m) works)

ends_sent : (H : List Event) → Lawful (Ended ∷ H) → (m c : ℕ) → is_unfinished H m ≡ true → asks (work H m) ≡ false → has_sent m (journal H c) ≡ false
ends_sent H l m c u idle = absurd (never (sym (wants_its_own H m l.0 (unfinished_from_one H m l.0 u) (wants_at_end H m l.1 u)) ∙ idle))

over_at_end : (H : List Event) → Lawful (Ended ∷ H) → Over (Ended ∷ H)
over_at_end H l =
    let i : Idle (Ended ∷ H) = record {
      lent = ends_lent H l;
      live = none_at_end H;
      going = none_goes_at_end H;
      ender = ends_ender H l;
      tx_ender = ends_tx_ender H l;
      sent = ends_sent H l;
    }
    in
    over_of (Ended ∷ H) i (layer_only H Ended (nothing_due (Ended ∷ H) i) (λ e h apart. ends_layer H l e h))

-- The run has ended before the event.

first_work : (ws : List Work) (w : Work) → 1 ≤ length ws → slice_index_or ws 0 Look ≡ Look → slice_index_or (ws ++ w ∷ []) 0 Look ≡ Look
first_work [] w some h = absurd (omega (arith, some))
first_work (v ∷ ws) w some h = h

pub zero_work : (H : List Event) → work H 0 ≡ Look
zero_work [] = refl
zero_work (Entered client m op ∷ H) = let a = as_many H in let b = some_calls H in first_work (works H) (work_of (works H) op) (omega (arith, a, b)) (zero_work H)
zero_work (_ ∷ H) = zero_work H

heard_of_layer : (H : List Event) (e : Entry) → Allowed H (Heard e) → Over H → (e.call_no == 0) ≡ true
heard_of_layer H e a o = by (e.call_no == 0) refl
  where
    by : (b : Bool) → (e.call_no == 0) ≡ b → (e.call_no == 0) ≡ true
    by true is = is
    by false is = let there = heard_there H e a in o.layer e (comes H e (place H e.conn) there.sets there.line is)

live_after : (H : List Event) (e : Event) → Allowed H e → Over H → (k : ℕ) → are_live (e ∷ H) k ≡ false
live_after H (Heard e) a o k =
    let none : e.call_no ≡ 0 = same_number e.call_no 0 (heard_of_layer H e a o) in
    let looks : work H e.call_no ≡ Look = ap (work H) none ∙ zero_work H in
    ap (λ w. live (rows_of k (rows_heard H w e.call_no e.call e.answer (handed_out H)))) looks ∙ o.live k
live_after H (Entered client m op) a o k = entering_revives_none H client m op k (o.live k)
live_after H Ended a o k = none_at_end H k
live_after H _ a o k = o.live k

-- A call that enters has no connection, and ended no rows.
pub new_unlent : (H : List Event) (client m : ℕ) (op : Op) → Lawful H → Allowed H (Entered client m op) → lent_count m (pool H) ≡ 0
new_unlent H client m op l a = by (lent_count m (pool H)) refl
  where
    by : (k : ℕ) → lent_count m (pool H) ≡ k → lent_count m (pool H) ≡ 0
    by zero is = is
    by (suc k) is =
        let new = enters_next H client m op a in
        let many = some_calls H in
        let some : m ≢ 0 = λ none. absurd (omega (arith, new, many, none)) in
        let looks = no_work_yet H m (omega (arith, new)) in
        absurd (never (sym (lent_asks H m l some (omega (arith, is))) ∙ ap asks looks))

entered_lent : (H : List Event) (client m : ℕ) (op : Op) → Lawful (Entered client m op ∷ H) → Over H → (n : ℕ) → is_unfinished (Entered client m op ∷ H) n ≡ true → lent_count n (pool H) ≡ 0
entered_lent H client m op l o n u = by (same_or_not n m)
  where
    by : (n ≡ m) ⊎ (n ≢ m) → lent_count n (pool H) ≡ 0
    by (inl same) = ap (λ k. lent_count k (pool H)) same ∙ new_unlent H client m op l.0 l.1
    by (inr apart) = o.lent n (sym (old_unfinished H client m op n apart) ∙ u)

lent_after : (H : List Event) (e : Event) → Lawful (e ∷ H) → has_ended H ≡ true → Over H → (n : ℕ) → is_unfinished (e ∷ H) n ≡ true → lent_count n (pool (e ∷ H)) ≡ 0
lent_after H (Entered client m op) l h o n u = unlent_stays H (Entered client m op) n l h (entered_lent H client m op l o n u)
lent_after H (Replied m reply) l h o n u = let b = still_unfinished H m reply n u in unlent_stays H (Replied m reply) n l h (o.lent n b.1)
lent_after H e l h o n u = unlent_stays H e n l h (o.lent n u)

going_after : (H : List Event) (e : Event) → Allowed H e → Over H → (k : ℕ) → goes_on (e ∷ H) k ≡ false
going_after H e a o k = by (goes_on (e ∷ H) k) refl
  where
    from : (x : Event) → x ≡ e → (goes_on H k ≡ true) ⊎ BegunNow x k → ⊥
    from x is (inl were) = never (sym were ∙ o.going k)
    from x is (inr it) =
        let heard : Allowed H (Heard it.entry) = subst (λ y. Allowed H y) (sym is ∙ it.heard) a in
        let there = heard_there H it.entry heard in
        let none : it.entry.call_no ≡ 0 = same_number it.entry.call_no 0 (heard_of_layer H it.entry heard o) in
        let begins_it = begin_heard H it.entry (place H it.entry.conn) there.sets there.line it.begin in
        never (sym begins_it ∙ (ap (λ j. begins (work H j)) none ∙ ap begins (zero_work H)))

    by : (b : Bool) → goes_on (e ∷ H) k ≡ b → b ≡ false
    by true is = absurd (from e refl (went_on H e k is))
    by false is = refl

old_tx_ender : (H : List Event) (e : Event) → Lawful (e ∷ H) → Over H → (m k : ℕ) → is_unfinished (e ∷ H) m ≡ true → tx_ender H k ≢ m
old_tx_ender H (Entered client n op) l o m k u is = by (same_or_not m n)
  where
    by : (m ≡ n) ⊎ (m ≢ n) → ⊥
    by (inl same) =
        let new = enters_next H client n op l.1 in
        let many = some_calls H in
        let some : m ≢ 0 = λ none. absurd (omega (arith, new, many, none, same)) in
        let works : is_worker (work H m) ≡ true = subst (λ i. is_worker (work H i) ≡ true) is (tx_ender_works H k l.0 (λ none. some (sym is ∙ none))) in
        never (sym works ∙ ap is_worker (no_work_yet H m (omega (arith, new, same))))
    by (inr apart) = o.tx_ender m k (sym (old_unfinished H client n op m apart) ∙ u) is
old_tx_ender H (Replied n reply) l o m k u is = let b = still_unfinished H n reply m u in o.tx_ender m k b.1 is
old_tx_ender H e l o m k u is = o.tx_ender m k u is

same_tx_ender : (H : List Event) (e : Event) (k : ℕ) → goes_on H k ≡ false → tx_ender (e ∷ H) k ≡ tx_ender H k
same_tx_ender H e k none = ap (λ b. cond b (cond (goes_on (e ∷ H) k) 0 (ending_call e)) (tx_ender H k)) none

sent_after : (H : List Event) (e : Event) → Lawful (e ∷ H) → Over H → (m c : ℕ) → is_unfinished (e ∷ H) m ≡ true → asks (work (e ∷ H) m) ≡ false → has_sent m (journal (e ∷ H) c) ≡ false
sent_after H (Entered client n op) l o m c u idle = by (same_or_not m n)
  where
    new : n ≡ length (calls H)
    new = enters_next H client n op l.1

    silent : (b : Bool) → has_sent m (journal H c) ≡ b → m ≡ n → b ≡ false
    silent false is same = refl
    silent true is same =
        let many = some_calls H in
        let less = sent_entered H c m l.0 (λ none. absurd (omega (arith, new, many, none, same))) is in
        absurd (omega (arith, new, same, less))

    by : (m ≡ n) ⊎ (m ≢ n) → has_sent m (journal H c) ≡ false
    by (inl same) = silent (has_sent m (journal H c)) refl same
    by (inr apart) = o.sent m c (sym (old_unfinished H client n op m apart) ∙ u) (sym (ap asks (old_work H client n op m new apart)) ∙ idle)
sent_after H (Heard e) l o m c u idle = by (e.conn == c)
  where
    other : (e.call_no == m) ≡ false
    other =
        let none = same_number e.call_no 0 (heard_of_layer H e l.1 o) in
        other_number e.call_no m (λ same. unfinished_from_one H m l.0 u (sym same ∙ none))

    by : (b : Bool) → has_sent m (cond b (e ∷ journal H c) (journal H c)) ≡ false
    by true = ap (λ b. b || has_sent m (journal H c)) other ∙ o.sent m c u idle
    by false = o.sent m c u idle
sent_after H (Replied n reply) l o m c u idle = let b = still_unfinished H n reply m u in o.sent m c b.1 idle
sent_after H e l o m c u idle = o.sent m c u idle

same_ender : (H : List Event) (e : Event) (k : ℕ) → are_live H k ≡ false → ender (e ∷ H) k ≡ ender H k
same_ender H e k none = ap (λ b. cond b (ended_at e (are_live (e ∷ H) k)) (ender H k)) none

old_ender : (H : List Event) (e : Event) → Lawful (e ∷ H) → Over H → (m k : ℕ) → is_unfinished (e ∷ H) m ≡ true → ender H k ≢ m
old_ender H (Entered client n op) l o m k u is = by (same_or_not m n)
  where
    by : (m ≡ n) ⊎ (m ≢ n) → ⊥
    by (inl same) =
        let new = enters_next H client n op l.1 in
        let many = some_calls H in
        let some : m ≢ 0 = λ none. absurd (omega (arith, new, many, none, same)) in
        let works : is_worker (work H m) ≡ true = subst (λ i. is_worker (work H i) ≡ true) is (ender_works H k l.0 (λ none. some (sym is ∙ none))) in
        never (sym works ∙ ap is_worker (no_work_yet H m (omega (arith, new, same))))
    by (inr apart) = o.ender m k (sym (old_unfinished H client n op m apart) ∙ u) is
old_ender H (Replied n reply) l o m k u is = let b = still_unfinished H n reply m u in o.ender m k b.1 is
old_ender H _ l o m k u is = o.ender m k u is

over_after : (H : List Event) (e : Event) → Lawful (e ∷ H) → has_ended H ≡ true → Over H → Over (e ∷ H)
over_after H e l h o =
    let i : Idle (e ∷ H) = record {
      lent = lent_after H e l h o;
      live = live_after H e l.1 o;
      going = going_after H e l.1 o;
      ender = λ m k u is. old_ender H e l o m k u (sym (same_ender H e k (o.live k)) ∙ is);
      tx_ender = λ m k u is. old_tx_ender H e l o m k u (sym (same_tx_ender H e k (o.going k)) ∙ is);
      sent = sent_after H e l o;
    }
    in
    over_of (e ∷ H) i (layer_only H e (nothing_due (e ∷ H) i) (λ x k apart. o.layer x k))

pub over_once_ended : (H : List Event) → Lawful H → has_ended H ≡ true → Over H
over_once_ended [] l h = absurd cc
over_once_ended (Ended ∷ H) l h = over_at_end H l
over_once_ended (e1 ∷ H) l h = over_after H e1 l h (over_once_ended H l.0 h)

pub none_due_once_ended : (H : List Event) (n : ℕ) → Lawful H → has_ended H ≡ true → is_some (due_for H n) ≡ false
none_due_once_ended H n l h = nothing_due H (idle_of H (over_once_ended H l h)) n
