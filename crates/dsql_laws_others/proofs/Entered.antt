-- Let a call enter that doesn't close the database. For each other call, what was due stays due, or others have settled
-- its reply. The argument takes the kinds of work apart.
use Rattle.std.proofs.Common.{◌≡◌, ◌≢◌, ℕ, ◌+◌, ◌==◌, ◌⊎◌, inl, inr, Bool, true, false, not, ◌&&◌, ◌||◌, cond, List, [], ◌∷◌, length, get_or, suc, Option, Some, None, is_some, is_none, refl, sym, ap, subst, ◌∙◌, arith}
use Rattle.dsql_laws_calls.specs.course.declared.course.Wish.{Wish}
use Rattle.dsql_laws_calls.specs.course.declared.course.Wish.TheVariants as wishes
use Rattle.dsql_laws_calls.specs.course.Made.{or_else}
use Rattle.dsql_laws_calls.specs.pool.Pooled.{Pooled, place_at}
use Rattle.dsql_laws_calls.specs.tx.declared.end.TxEnd.{TxEnd}
use Rattle.dsql_laws_calls.specs.history.Readers.HandedOut.{live, over, rows_by, are_live, are_over, ender, ended_at, is_late}
use Rattle.dsql_laws_calls.specs.history.Readers.Pool.{is_home, or_none, smallest, pool, home}
use Rattle.dsql_laws_calls.specs.history.Rules.Wishes.{wish_as}
use Rattle.dsql_laws_calls.proofs.laws.Truths.{or_first, or_second}
use Rattle.dsql_laws_calls.proofs.laws.Tests.{both, together, same_number, same_itself, other_number}
use Rattle.dsql_laws_calls.proofs.Cases.{true_false}
use Rattle.dsql_laws_calls.specs.history.declared.event.Event.{Event}
use Rattle.dsql_laws_calls.specs.history.declared.event.Event.TheVariants.{Entered}
use Rattle.dsql_laws_calls.specs.history.declared.event.Op.{Op}
use Rattle.dsql_laws_calls.specs.history.declared.reply.Reply.TheVariants.{Truth}
use Rattle.dsql_laws_calls.specs.history.declared.work.Scope.{Scope}
use Rattle.dsql_laws_calls.specs.history.declared.work.Scope.TheVariants.{Db, Held}
use Rattle.dsql_laws_calls.specs.history.declared.work.Work.{Work}
use Rattle.dsql_laws_calls.specs.history.declared.work.Work.TheVariants.{Statement, Begin, End, Ping, Fetch, Close, Look}
use Rattle.dsql_laws_calls.specs.history.Readers.Calls.{decided, done_with, has_begun_to_send, told_by_scope, told_of_work}
use Rattle.dsql_laws_calls.specs.history.Readers.Course.{db_end}
use Rattle.dsql_laws_calls.specs.history.Readers.Journals.{journal}
use Rattle.dsql_laws_calls.specs.history.Readers.Lines.{has_sent}
use Rattle.dsql_laws_calls.specs.history.Readers.Transactions.{tx_by, end_of, tx_end, is_begun, is_over, goes_on, tx_ender, ending_call}
use Rattle.dsql_laws_calls.specs.history.Readers.Unfinished.{is_unfinished}
use Rattle.dsql_laws_calls.specs.history.Readers.Works.{works, work, work_of, scope, is_fetch, hands_out_in}
use Rattle.dsql_laws_calls.specs.history.Rules.Ending.{first_closing, ending}
use Rattle.dsql_laws_calls.specs.history.Rules.Line.{sends_in, due_inside, due_in, due_for}
use Rattle.dsql_laws_calls.specs.history.Rules.Sent.{line_of, closes, wish, sent_for, close_due}
use Rattle.dsql_laws_calls.specs.history.Legal.{Lawful}
use Rattle.dsql_laws_calls.proofs.laws.Numbered.{unfinished_from_one}
use Rattle.dsql_laws_calls.proofs.AtEnd.{no_work_yet}
use Rattle.dsql_laws_calls.proofs.EndedRows.{ender_over}
use Rattle.dsql_laws_calls.proofs.Inside.{live_goes}
use Rattle.dsql_laws_calls.proofs.LiveRows.{live_some, over_not_live}
use Rattle.dsql_laws_calls.proofs.Makers.{hands_out, rows_hand_out}
use Rattle.dsql_laws_calls.proofs.TxEnders.{same_going}
use Rattle.dsql_laws_calls.proofs.UnderWay.{ending_over}
use Rattle.dsql_laws_calls.proofs.Works.{enters_next, old_record, old_work, old_unfinished}
use Rattle.dsql_laws_others.proofs.Alike.{closing_alike, ends_alike, late_scope}
use Rattle.dsql_laws_others.proofs.Entries.{next_work, other_line, concerned_old, over_old, first_push, sent_entered}
use Rattle.dsql_laws_others.proofs.Closers.{Closer, closers}
use Rattle.dsql_laws_others.proofs.Turned.{Turns, rows_turn, tx_turn}

abbrev pool_of : List Event → Pooled
pool_of H = pool H

-- A call that enters leaves the pool as it is, and what closed the database.
pub record Enters (H : List Event) (client n : ℕ) (op : Op) : Type 0 where
  pub lawful : Lawful (Entered client n op ∷ H)
  pub pool : pool_of (Entered client n op ∷ H) ≡ pool_of H
  pub end : db_end (Entered client n op ∷ H) ≡ db_end H

abbrev pub enters : List Event → ℕ → ℕ → Op → List Event
enters H client n op = Entered client n op ∷ H

-- What ends a transaction that is over stays the same.

abbrev home_in : ℕ → Pooled → ℕ
home_in n p = or_none (smallest (is_home n) p)

pub first_same : (H K : List Event) (k n : ℕ) (ws : List Work) → ((j : ℕ) → hands_out_in k (get_or ws j Look) ≡ true → close_due K (n + j) ≡ close_due H (n + j)) → first_closing K k n ws ≡ first_closing H k n ws
first_same H K k n [] same = refl
first_same H K k n (it ∷ ws) same =
    let number : n + 0 ≡ n = omega arith in
    ap (λ d. or_else d (first_closing K k (n + 1) ws)) (here (hands_out_in k it) (same 0) number)
    ∙ ap (or_else (cond (hands_out_in k it) (close_due H n) None))
    (first_same H K k (n + 1) ws (λ j hands. let number : n + suc j ≡ n + 1 + j = omega arith in subst (λ i. close_due K i ≡ close_due H i) number (same (suc j) hands)))
  where
    here : (b : Bool) → (b ≡ true → close_due K (n + 0) ≡ close_due H (n + 0)) → n + 0 ≡ n → cond b (close_due K n) None ≡ cond b (close_due H n) None
    here true so number = subst (λ i. close_due K i ≡ close_due H i) number (so refl)
    here false so number = refl

pub no_rows_yet : (H : List Event) (client n : ℕ) (op : Op) → Lawful (enters H client n op) → is_some (rows_by H n) ≡ true → ⊥
no_rows_yet H client n op l some =
    let new = enters_next H client n op l.1 in
    let looks : work H n ≡ Look = no_work_yet H n (omega (arith, new)) in
    let clash : false ≡ true = sym (ap hands_out looks) ∙ rows_hand_out H n some in
    cc

pub closing_new : (H : List Event) (client n : ℕ) (op : Op) → Lawful (enters H client n op) → close_due (enters H client n op) n ≡ None
closing_new H client n op l = by (are_over (enters H client n op) n) refl
  where
    never : Turns (rows_by H n) (rows_by (enters H client n op) n) → are_over (enters H client n op) n ≡ true → ⊥
    never (inl same) h = over_old H client n op n l (sym (ap over same) ∙ h) refl
    never (inr w) h = no_rows_yet H client n op l (live_some (rows_by H n) w.0)

    by : (b : Bool) → are_over (enters H client n op) n ≡ b → cond b (line_of (enters H client n op) n wishes.Close) None ≡ None
    by false is = refl
    by true is = absurd (never (rows_turn H client n op n) is)

pub ended_same : (H : List Event) (client n : ℕ) (op : Op) (k : ℕ) → is_over H k ≡ true → tx_by (enters H client n op) k ≡ tx_by H k
ended_same H client n op k gone = elim (tx_turn H client n op k) [
  | inl same ↦ same
  | inr w ↦ let b = both (is_begun H k) (not (is_over H k)) w.0 in let clash : false ≡ true = sym (ap not gone) ∙ b.1 in absurd cc
]

closing_same : (H : List Event) (client n : ℕ) (op : Op) (k j : ℕ) → Enters H client n op → is_over H k ≡ true → hands_out_in k (work H j) ≡ true → close_due (enters H client n op) j ≡ close_due H j
closing_same H client n op k j x gone hands =
    let l = x.lawful in
    closing_alike H (enters H client n op) j (rows (rows_turn H client n op j)) (λ over. other_line H client n op j wishes.Close l (over_old H client n op j l over) x.pool)
  where
    rows : Turns (rows_by H j) (rows_by (enters H client n op) j) → rows_by (enters H client n op) j ≡ rows_by H j
    rows (inl same) = same
    rows (inr w) =
        let l = x.lawful in
        let b = both (is_begun H k) (not (is_over H k)) (live_goes H j k l.0 w.0 hands) in
        let clash : false ≡ true = sym (ap not gone) ∙ b.1 in
        absurd cc

pub ending_same : (H : List Event) (client n : ℕ) (op : Op) (k : ℕ) → Enters H client n op → is_over H k ≡ true → ending (enters H client n op) k ≡ ending H k
ending_same H client n op k x gone =
    let l = x.lawful in
    let K = enters H client n op in
    let last : close_due K (0 + length (works H)) ≡ None = let number : 0 + length (works H) ≡ n = let new = next_work H client n op l in omega (arith, new) in ap (close_due K) number ∙ closing_new H client n op l in
    ends_alike H K k (ended_same H client n op k gone) (ap (home_in k) x.pool) (ap (λ p. place_at p (home H k)) x.pool)
    (record {
      first = first_push K k 0 (works H) (work_of (works H) op) last ∙ first_same H K k 0 (works H) (λ j hands. let number : 0 + j ≡ j = omega arith in subst (λ i. close_due K i ≡ close_due H i) (sym number) (closing_same H client n op k j x gone hands));
      can = refl;
      heard = refl;
    })

-- Something stays due for a call, or others have settled its reply.

-- A call that has settled nothing itself and whose reply others have settled.
pub record Told (H K : List Event) (m : ℕ) : Type 0 where
  pub undecided : is_none (decided H m) ≡ true
  pub told : is_some (told_of_work K m (work H m)) ≡ true

-- What is due for rows.

-- Returns the call that began the transaction of a scope, or 0 on the database.
abbrev home_scope : Scope → ℕ
home_scope (Held k) = k
home_scope Db = 0

record Over (H : List Event) (client n : ℕ) (op : Op) (m j : ℕ) : Type 0 where
  it : Enters H client n op
  apart : m ≢ n
  some : (m == 0) ≡ false
  its : (work H m ≡ Fetch j) ⊎ (work H m ≡ Close j)

not_new : (H : List Event) (client n : ℕ) (op : Op) (m j : ℕ) → Over H client n op m j → j ≢ n
not_new H client n op m j o = let e = o.it in concerned_old H m n j (next_work H client n op e.lawful) o.apart (inr o.its)

pub kept_work : (H : List Event) (client n : ℕ) (op : Op) (j : ℕ) → Enters H client n op → j ≢ n → work (enters H client n op) j ≡ work H j
kept_work H client n op j x apart = let l = x.lawful in old_work H client n op j (enters_next H client n op l.1) apart

pub kept_decided : (H : List Event) (client n : ℕ) (op : Op) (j : ℕ) → Enters H client n op → j ≢ n → decided (enters H client n op) j ≡ decided H j
kept_decided H client n op j x apart = let l = x.lawful in ap (λ r. r.decided) (old_record H client n op j (enters_next H client n op l.1) apart)

pub kept_line : (H : List Event) (client n : ℕ) (op : Op) (j : ℕ) (w : Wish) → Enters H client n op → j ≢ n → line_of (enters H client n op) j w ≡ line_of H j w
kept_line H client n op j w x apart = other_line H client n op j w x.lawful apart x.pool

pub kept_sent : (H : List Event) (client n : ℕ) (op : Op) (j : ℕ) → Enters H client n op → j ≢ n → has_begun_to_send (enters H client n op) j ≡ has_begun_to_send H j
kept_sent H client n op j x apart = sent_entered H client n op j x.lawful x.pool apart

-- A call that closes rows goes on, unless it has sent nothing and the rows' transaction is ended.
closes_on : (H : List Event) (client n : ℕ) (op : Op) (m j : ℕ) → Over H client n op m j → closes H m j ≡ true → is_some (line_of H j wishes.Close) ≡ true
    → (is_some (sent_for (enters H client n op) j (wish (enters H client n op) m j)) ≡ true) ⊎ Told H (enters H client n op) m
closes_on H client n op m j o ends line = by (has_begun_to_send H m) (is_late K (scope (work H j))) refl refl
  where
    K : List Event
    K = enters H client n op

    parts : ((ender H j == m) ≡ true) × ((not (is_late H (scope (work H j))) || has_begun_to_send H m) ≡ true)
    parts = both (ender H j == m) (not (is_late H (scope (work H j))) || has_begun_to_send H m) ends

    ended : ender H j ≡ m
    ended = let p = parts in same_number (ender H j) m p.0

    some : m ≢ 0
    some none = true_false (m == 0) (ap (λ i. i == 0) none) o.some

    gone : are_over H j ≡ true
    gone = ender_over H j (λ none. some (sym ended ∙ none))

    still : ender K j ≡ m
    still = ap (λ b. cond b (ended_at (Entered client n op) (are_live K j)) (ender H j)) (over_not_live (rows_by H j) gone) ∙ ended

    goes : (not (is_late K (scope (work H j))) || has_begun_to_send H m) ≡ true → is_some (sent_for K j (wish K m j)) ≡ true
    goes h =
        let it = o.it in
        let old = not_new H client n op m j o in
        let closes_now : closes K m j ≡ true =
        ap (λ e. (e == m) && (not (is_late K (scope (work K j))) || has_begun_to_send K m)) still
        ∙ (ap (λ b. b && (not (is_late K (scope (work K j))) || has_begun_to_send K m)) (same_itself m)
        ∙ (ap (λ w. not (is_late K (scope w)) || has_begun_to_send K m) (kept_work H client n op j it old)
        ∙ (ap (λ b. not (is_late K (scope (work H j))) || b) (kept_sent H client n op m it o.apart) ∙ h)))
        in
        ap (λ b. is_some (sent_for K j (wish_as b (is_fetch (work K m) && (are_live K j && is_none (decided K m)))))) closes_now
        ∙ (ap (λ d. is_some d) (kept_line H client n op j wishes.Close it old) ∙ line)

    told : Closer H j m (home_scope (scope (work H j))) → has_begun_to_send H m ≡ false → Told H K m
    told c unsent = of c.sent
      where
        of : (has_sent m (journal H (home H (home_scope (scope (work H j))))) ≡ true) ⊎ ((decided H m ≡ None) × (work H m ≡ Close j)) → Told H K m
        of (inl sent) = absurd (true_false (has_begun_to_send H m) (ap (λ i. has_sent m (journal H (home H i))) c.uses ∙ sent) unsent)
        of (inr w) = record { undecided = ap (λ d. is_none d) w.0; told = ap (λ it. is_some (told_of_work K m it)) w.1 }

    late_now : has_begun_to_send H m ≡ false → is_late K (scope (work H j)) ≡ true → Told H K m
    late_now unsent late =
        let p = parts in
        let on : not (is_late H (scope (work H j))) ≡ true = first_only (not (is_late H (scope (work H j)))) (ap (λ b. not (is_late H (scope (work H j))) || b) (sym unsent) ∙ p.1) in
        let s = late_scope K (scope (work H j)) late in
        let over_now : is_over K s.0 ≡ true = sym (ap (is_late K) s.1) ∙ late in
        let was_on : is_over H s.0 ≡ false = off (is_over H s.0) (sym (ap (λ t. not (is_late H t)) s.1) ∙ on) in
        let going = went s.0 (tx_turn H client n op s.0) over_now was_on in
        let it = o.it in
        let l = it.lawful in
        told (subst (λ k. Closer H j m k) (sym (ap home_scope s.1)) (closers H j m s.0 l.0 s.1 going some ended)) unsent
      where
        first_only : (b : Bool) → (b || false) ≡ true → b ≡ true
        first_only true h = refl
        first_only false h = h

        off : (b : Bool) → not b ≡ true → b ≡ false
        off true h = absurd cc
        off false h = refl

        went : (k : ℕ) → (tx_by K k ≡ tx_by H k) ⊎ ((goes_on H k ≡ true) × (is_over K k ≡ true)) → is_over K k ≡ true → is_over H k ≡ false → goes_on H k ≡ true
        went k (inr w) a b = w.0
        went k (inl same) a b = let clash : true ≡ false = sym a ∙ (ap (λ t. is_some (end_of t)) same ∙ b) in absurd cc

    by : (s b : Bool) → has_begun_to_send H m ≡ s → is_late K (scope (work H j)) ≡ b → (is_some (sent_for K j (wish K m j)) ≡ true) ⊎ Told H K m
    by true b sent late = inl (goes (or_second (not (is_late K (scope (work H j)))) (has_begun_to_send H m) sent))
    by false false sent late = inl (goes (or_first (not (is_late K (scope (work H j)))) (has_begun_to_send H m) (ap not late)))
    by false true sent late = inr (late_now sent late)

-- A call that fetches from live rows goes on, unless the rows are ended.
fetches_on : (H : List Event) (client n : ℕ) (op : Op) (m j : ℕ) → Over H client n op m j → is_fetch (work H m) ≡ true → are_live H j ≡ true → is_none (decided H m) ≡ true → is_some (line_of H j wishes.Fetch) ≡ true
    → (is_some (sent_for (enters H client n op) j (wish (enters H client n op) m j)) ≡ true) ⊎ Told H (enters H client n op) m
fetches_on H client n op m j o fetch lives undecided line = by (rows_turn H client n op j)
  where
    K : List Event
    K = enters H client n op

    by : Turns (rows_by H j) (rows_by (enters H client n op) j) → (is_some (sent_for (enters H client n op) j (wish (enters H client n op) m j)) ≡ true) ⊎ Told H (enters H client n op) m
    by (inr w) = inr (record { undecided = undecided; told = told o.its })
      where
        told : (work H m ≡ Fetch j) ⊎ (work H m ≡ Close j) → is_some (told_of_work (enters H client n op) m (work H m)) ≡ true
        told (inl is) = ap (λ it. is_some (told_of_work (enters H client n op) m it)) is ∙ ap (λ b. is_some (cond b (Some (Truth false)) None)) w.1
        told (inr is) = ap (λ it. is_some (told_of_work (enters H client n op) m it)) is
    by (inl same) =
        let it = o.it in
        let old = not_new H client n op m j o in
        let still : are_live K j ≡ true = ap live same ∙ lives in
        let none : ender K j ≡ 0 = ap (λ b. cond b (ended_at (Entered client n op) (are_live K j)) (ender H j)) lives ∙ ap (ended_at (Entered client n op)) still in
        let unclosed : closes K m j ≡ false =
        ap (λ e. (e == m) && (not (is_late K (scope (work K j))) || has_begun_to_send K m)) none
        ∙ ap (λ b. b && (not (is_late K (scope (work K j))) || has_begun_to_send K m)) (other_number 0 m (λ same. true_false (m == 0) (ap (λ i. i == 0) (sym same)) o.some))
        in
        let fetches : (is_fetch (work K m) && (are_live K j && is_none (decided K m))) ≡ true =
        together (is_fetch (work K m)) (are_live K j && is_none (decided K m)) (ap is_fetch (kept_work H client n op m it o.apart) ∙ fetch)
        (together (are_live K j) (is_none (decided K m)) still (ap (λ d. is_none d) (kept_decided H client n op m it o.apart) ∙ undecided))
        in
        inl (ap (λ b. is_some (sent_for K j (wish_as b (is_fetch (work K m) && (are_live K j && is_none (decided K m)))))) unclosed
        ∙ (ap (λ b. is_some (sent_for K j (wish_as false b))) fetches ∙ (ap (λ d. is_some d) (kept_line H client n op j wishes.Fetch it old) ∙ line)))

rows_on : (H : List Event) (client n : ℕ) (op : Op) (m j : ℕ) → Over H client n op m j → is_some (sent_for H j (wish H m j)) ≡ true
    → (is_some (sent_for (enters H client n op) j (wish (enters H client n op) m j)) ≡ true) ⊎ Told H (enters H client n op) m
rows_on H client n op m j o sent = by (closes H m j) (is_fetch (work H m) && (are_live H j && is_none (decided H m))) refl refl sent
  where
    by : (b f : Bool) → closes H m j ≡ b → (is_fetch (work H m) && (are_live H j && is_none (decided H m))) ≡ f → is_some (sent_for H j (wish_as b f)) ≡ true
        → (is_some (sent_for (enters H client n op) j (wish (enters H client n op) m j)) ≡ true) ⊎ Told H (enters H client n op) m
    by true f ends fetches h = closes_on H client n op m j o ends h
    by false true ends fetches h =
        let a = both (is_fetch (work H m)) (are_live H j && is_none (decided H m)) fetches in
        let b = both (are_live H j) (is_none (decided H m)) a.1 in
        fetches_on H client n op m j o a.0 b.0 b.1 h
    by false false ends fetches h = absurd cc

-- What is due in a transaction.

inner_on : (H : List Event) (client n : ℕ) (op : Op) (m k : ℕ) → Enters H client n op → m ≢ n → ((K : List Event) → told_of_work K m (work H m) ≡ told_by_scope K m (work H m) (Held k)) → is_some (due_inside H m (Held k)) ≡ true
    → (is_some (due_inside (enters H client n op) m (Held k)) ≡ true) ⊎ Told H (enters H client n op) m
inner_on H client n op m k x apart tells due = by (has_begun_to_send H m) (goes_on H k && is_none (decided H m)) refl refl due
  where
    K : List Event
    K = enters H client n op

    line : is_some (line_of H m wishes.Nothing) ≡ true → sends_in K m k ≡ true → is_some (due_inside K m (Held k)) ≡ true
    line h sends = ap (λ b. is_some (cond b (line_of K m wishes.Nothing) None)) sends ∙ (ap (λ d. is_some d) (kept_line H client n op m wishes.Nothing x apart) ∙ h)

    begun : has_begun_to_send H m ≡ true → sends_in K m k ≡ true
    begun h = or_first (has_begun_to_send K m) (goes_on K k && is_none (decided K m)) (kept_sent H client n op m x apart ∙ h)

    going : (tx_by K k ≡ tx_by H k) ⊎ ((goes_on H k ≡ true) × (is_over K k ≡ true)) → has_begun_to_send H m ≡ false → goes_on H k ≡ true → is_none (decided H m) ≡ true → is_some (line_of H m wishes.Nothing) ≡ true
        → (is_some (due_inside K m (Held k)) ≡ true) ⊎ Told H K m
    going (inl same) unsent goes undecided h =
        inl (line h (or_second (has_begun_to_send K m) (goes_on K k && is_none (decided K m))
        (together (goes_on K k) (is_none (decided K m)) (same_going (tx_by H k) (tx_by K k) same ∙ goes) (ap (λ d. is_none d) (kept_decided H client n op m x apart) ∙ undecided))))
    going (inr w) unsent goes undecided h =
        inr (record { undecided = undecided; told = ap (λ o. is_some o) (tells K) ∙ (ap (λ b. is_some (cond b None (done_with (tx_end K k)))) (kept_sent H client n op m x apart ∙ unsent) ∙ done (tx_end K k) w.1) })
      where
        done : (o : Option TxEnd) → is_some o ≡ true → is_some (done_with o) ≡ true
        done None i = absurd cc
        done (Some end) i = refl

    by : (s g : Bool) → has_begun_to_send H m ≡ s → (goes_on H k && is_none (decided H m)) ≡ g → is_some (cond (s || g) (line_of H m wishes.Nothing) None) ≡ true → (is_some (due_inside K m (Held k)) ≡ true) ⊎ Told H K m
    by true g sent goes h = inl (line h (begun sent))
    by false true sent goes h = let b = both (goes_on H k) (is_none (decided H m)) goes in going (tx_turn H client n op k) sent b.0 b.1 h
    by false false sent goes h = absurd cc

-- What is due at the end of a transaction.

ends_on : (H : List Event) (client n : ℕ) (op : Op) (m k : ℕ) → Enters H client n op → is_some (cond (tx_ender H k == m) (ending H k) None) ≡ true → is_some (cond (tx_ender (enters H client n op) k == m) (ending (enters H client n op) k) None) ≡ true
ends_on H client n op m k x due = by (tx_ender H k == m) refl due
  where
    K : List Event
    K = enters H client n op

    by : (b : Bool) → (tx_ender H k == m) ≡ b → is_some (cond b (ending H k) None) ≡ true → is_some (cond (tx_ender K k == m) (ending K k) None) ≡ true
    by false is h = absurd cc
    by true is h =
        let gone = ending_over H k h in
        let off : goes_on H k ≡ false = ap (λ b. is_begun H k && not b) gone ∙ none (is_begun H k) in
        let same : tx_ender K k ≡ tx_ender H k = ap (λ b. cond b (cond (goes_on K k) 0 (ending_call (Entered client n op))) (tx_ender H k)) off in
        ap (λ e. is_some (cond (e == m) (ending K k) None)) same ∙ (ap (λ b. is_some (cond b (ending K k) None)) is ∙ (ap (λ d. is_some d) (ending_same H client n op k x gone) ∙ h))
      where
        none : (b : Bool) → (b && false) ≡ false
        none true = refl
        none false = refl

-- What is due, by the call's work.

pub due_on : (H : List Event) (client n : ℕ) (op : Op) (m : ℕ) → Enters H client n op → m ≢ n → is_unfinished H m ≡ true → is_some (due_for H m) ≡ true → (is_some (due_for (enters H client n op) m) ≡ true) ⊎ Told H (enters H client n op) m
due_on H client n op m x apart u due = by (work H m) refl (sym (ap (λ b. is_some (cond b (due_in H m (work H m)) None)) u) ∙ due)
  where
    K : List Event
    K = enters H client n op

    now : is_some (due_in (enters H client n op) m (work H m)) ≡ true → is_some (due_for (enters H client n op) m) ≡ true
    now h =
        ap (λ b. is_some (cond b (due_in K m (work K m)) None)) (old_unfinished H client n op m apart ∙ u) ∙ (ap (λ w. is_some (due_in K m w)) (kept_work H client n op m x apart) ∙ h)

    own : (w : Work) → work H m ≡ w → due_in (enters H client n op) m w ≡ line_of (enters H client n op) m wishes.Nothing → is_some (line_of H m wishes.Nothing) ≡ true → (is_some (due_for (enters H client n op) m) ≡ true) ⊎ Told H (enters H client n op) m
    own w is its h = inl (now (ap (λ v. is_some (due_in K m v)) is ∙ (ap (λ d. is_some d) (its ∙ kept_line H client n op m wishes.Nothing x apart) ∙ h)))

    inner : (w : Work) (k : ℕ) → work H m ≡ w → due_in (enters H client n op) m w ≡ due_inside (enters H client n op) m (Held k) → ((L : List Event) → told_of_work L m w ≡ told_by_scope L m w (Held k)) → is_some (due_inside H m (Held k)) ≡ true
        → (is_some (due_for (enters H client n op) m) ≡ true) ⊎ Told H (enters H client n op) m
    inner w k is its tells h = elim (inner_on H client n op m k x apart (λ L. ap (told_of_work L m) is ∙ (tells L ∙ ap (λ v. told_by_scope L m v (Held k)) (sym is))) h) [
      | inl goes ↦ inl (now (ap (λ v. is_some (due_in K m v)) is ∙ (ap (λ d. is_some d) its ∙ goes)))
      | inr told ↦ inr told
    ]

    some : (m == 0) ≡ false
    some = let l = x.lawful in other_number m 0 (unfinished_from_one H m l.0 u)

    rows : (j : ℕ) → (work H m ≡ Fetch j) ⊎ (work H m ≡ Close j) → due_in (enters H client n op) m (work H m) ≡ sent_for (enters H client n op) j (wish (enters H client n op) m j) → is_some (sent_for H j (wish H m j)) ≡ true
        → (is_some (due_for (enters H client n op) m) ≡ true) ⊎ Told H (enters H client n op) m
    rows j its is h = elim (rows_on H client n op m j (record { it = x; apart = apart; some = some; its = its }) h) [
      | inl goes ↦ inl (now (ap (λ d. is_some d) is ∙ goes))
      | inr told ↦ inr told
    ]

    by : (w : Work) → work H m ≡ w → is_some (due_in H m w) ≡ true → (is_some (due_for (enters H client n op) m) ≡ true) ⊎ Told H (enters H client n op) m
    by (Statement Db task) is h = own (Statement Db task) is refl h
    by (Begin label level read_only) is h = own (Begin label level read_only) is refl h
    by Ping is h = own Ping is refl h
    by (Statement (Held k) task) is h = inner (Statement (Held k) task) k is refl (λ L. refl) h
    by (Fetch j) is h = rows j (inl is) (ap (due_in K m) is) h
    by (Close j) is h = rows j (inr is) (ap (due_in K m) is) h
    by (End k) is h = inl (now (ap (λ v. is_some (due_in K m v)) is ∙ ends_on H client n op m k x h))
    by Look is h = absurd cc
