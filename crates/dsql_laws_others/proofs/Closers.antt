-- A call that ended rows of a transaction that goes on has begun to send, or it closes the rows and has settled
-- nothing yet. The argument goes from event to event after the rows were ended.
use Rattle.std.proofs.Common.{◌≡◌, ◌≢◌, ℕ, ◌==◌, ◌<◌, ◌⊎◌, inl, inr, Bool, true, false, not, ◌&&◌, ◌||◌, cond, List, [], ◌∷◌, ◌++◌, length, Option, Some, None, is_some, refl, sym, ap, subst, ◌∙◌, arith}
use Rattle.dsql_laws_calls.specs.driver.declared.answer.DriverAnswer.{DriverAnswer}
use Rattle.dsql_laws_calls.specs.driver.declared.call.DriverCall.{DriverCall}
use Rattle.dsql_laws_calls.specs.driver.declared.call.DriverCall.TheVariants.{Next, Query}
use Rattle.dsql_laws_calls.specs.driver.declared.answer.DriverAnswer.TheVariants.{Cursor}
use Rattle.dsql_laws_calls.specs.journal.declared.entry.Entry.{Entry}
use Rattle.dsql_laws_calls.specs.journal.Kinds.{is_house, number_of}
use Rattle.dsql_laws_calls.specs.numbered.Numbered.{thing_of}
use Rattle.dsql_laws_calls.specs.rows.declared.rows.Rows.{Rows}
use Rattle.dsql_laws_calls.specs.rows.OpenRows.{fresh, rows_of}
use Rattle.dsql_laws_calls.specs.works.HandedOut.{Made}
use Rattle.dsql_laws_calls.proofs.rows.Numbers.{changes_one_number as rows_changes}
use Rattle.dsql_laws_calls.specs.history.Readers.HandedOut.{fetched, live, born, ended_with, is_late, rows_by, rows_heard, handed_out, are_live, caller, ended_at, ender}
use Rattle.dsql_laws_calls.proofs.laws.Truths.{or_second}
use Rattle.dsql_laws_calls.proofs.laws.Tests.{both, same_itself, same_number, other_number}
use Rattle.dsql_laws_calls.proofs.Cases.{true_false}
use Rattle.dsql_laws_calls.proofs.laws_work.Rows.{read_set, same_or_not}
use Rattle.dsql_laws_calls.specs.tx.declared.end.TxEnd.{TxEnd}
use Rattle.dsql_laws_calls.specs.tx.declared.end.TxEnd.TheVariants as tx_ends
use Rattle.dsql_laws_calls.specs.history.declared.event.Event.{Event}
use Rattle.dsql_laws_calls.specs.history.declared.event.Event.TheVariants.{Entered, Heard, Replied}
use Rattle.dsql_laws_calls.specs.history.declared.event.Op.TheVariants as ops
use Rattle.dsql_laws_calls.specs.history.declared.reply.Reply.TheVariants as reply
use Rattle.dsql_laws_calls.specs.history.declared.work.Scope.TheVariants.{Held}
use Rattle.dsql_laws_calls.specs.history.declared.work.Work.{Work}
use Rattle.dsql_laws_calls.specs.history.declared.work.Task.TheVariants.{HandOut}
use Rattle.dsql_laws_calls.specs.history.declared.work.Work.TheVariants.{Statement, Fetch, Close, Look}
use Rattle.dsql_laws_calls.specs.history.Readers.Calls.{calls, call_record, decided, nobody, told_at_entry}
use Rattle.dsql_laws_calls.specs.history.Readers.Decisions.{rows_reply}
use Rattle.dsql_laws_calls.specs.history.Readers.Journals.{journal}
use Rattle.dsql_laws_calls.specs.history.Readers.Lines.{has_sent}
use Rattle.dsql_laws_calls.specs.history.Readers.Pool.{home}
use Rattle.dsql_laws_calls.specs.history.Readers.Transactions.{ends_as, transactions, end_of, is_begun, is_over, goes_on}
use Rattle.dsql_laws_calls.specs.history.Readers.Works.{works, work, borrower, hands_out_in, is_in, rows_maker, scope, tx_maker}
use Rattle.dsql_laws_calls.specs.history.Legal.{Lawful}
use Rattle.dsql_laws_callers.proofs.Heard.{heard_lent}
use Rattle.dsql_laws_callers.proofs.KeptApart.{uses_its_own}
use Rattle.dsql_laws_callers.proofs.Works.{borrower_stays, work_stays}
use Rattle.dsql_laws_calls.proofs.AtEnd.{no_work_yet}
use Rattle.dsql_laws_calls.proofs.BeginningsAt.{heard_same}
use Rattle.dsql_laws_calls.proofs.Begun.{begun_begins, stays_over}
use Rattle.dsql_laws_calls.proofs.EndedRows.{ender_over}
use Rattle.dsql_laws_calls.proofs.HandedRows.{rows_begun}
use Rattle.dsql_laws_calls.proofs.Lent.{stays_lent}
use Rattle.dsql_laws_calls.proofs.Makers.{hands_no_look, hands_out, rows_hand_out}
use Rattle.dsql_laws_calls.proofs.LiveRows.{live_some, over_some}
use Rattle.dsql_laws_calls.proofs.Own.{going_used}
use Rattle.dsql_laws_calls.proofs.Owners.{at_home}
use Rattle.dsql_laws_calls.proofs.Plain.{begins}
use Rattle.dsql_laws_calls.proofs.RowsKept.{Borrows, tx_borrows}
use Rattle.dsql_laws_calls.proofs.Stays.{as_many, has_entered}
use Rattle.dsql_laws_calls.proofs.Works.{enters_next, new_record, new_work, old_record, old_work, other_heard, other_replied}
use Rattle.dsql_laws_calls.proofs.Works as works_of
use Rattle.dsql_laws_others.proofs.Turned.{Turns, ClosesNow, EndsNow, close_turn, end_turn, ended_now}

pub record Closer (H : List Event) (j m k : ℕ) : Type 0 where
  pub uses : borrower H m ≡ k
  pub sent : (has_sent m (journal H (home H k)) ≡ true) ⊎ ((decided H m ≡ None) × (work H m ≡ Close j))

-- The connection of a transaction that goes on stays the same.

record Stays (H : List Event) (e : Event) (k : ℕ) : Type 0 where
  same : home (e ∷ H) k ≡ home H k
  at : Borrows H k
  there : home H k ≡ at.conn

stays : (H : List Event) (e : Event) (k : ℕ) → Lawful (e ∷ H) → goes_on H k ≡ true → Stays H e k
stays H e k l going =
    let b = tx_borrows H k l.0 going in
    let used = ap (λ i. goes_on H i) b.number ∙ going in
    let after = stays_lent H e b.conn b.tenure b.owner l.0 l.1 b.lent (going_used H (number_of b.owner) used) in
    let was : home H k ≡ b.conn = ap (home H) (sym b.number) ∙ at_home H b.conn b.tenure b.owner l.0 b.lent in
    record { same = ap (home (e ∷ H)) (sym b.number) ∙ (at_home (e ∷ H) b.conn b.tenure b.owner l after ∙ sym was); at = b; there = was }

-- A call that has sent there has still sent there after the event.

sent_still : (H : List Event) (e : Event) (m c : ℕ) → has_sent m (journal H c) ≡ true → has_sent m (journal (e ∷ H) c) ≡ true
sent_still H (Heard x) m c h = by (x.conn == c)
  where
    by : (b : Bool) → has_sent m (cond b (x ∷ journal H c) (journal H c)) ≡ true
    by true = or_second (x.call_no == m) (has_sent m (journal H c)) h
    by false = h
sent_still H e m c h = ap (has_sent m) (heard_same H e c refl) ∙ h

pub no_house : (e : Entry) → e.call_no ≢ 0 → (b : Bool) → (b && (e.call_no == 0)) ≡ false
no_house e some true = other_number e.call_no 0 some
no_house e some false = refl

-- An entry of a call that uses the transaction's connection is heard there.
sends_there : (H : List Event) (e : Entry) (k : ℕ) → Lawful (Heard e ∷ H) → e.call_no ≢ 0 → borrower H e.call_no ≡ k → has_sent e.call_no (journal (Heard e ∷ H) (home H k)) ≡ true
sends_there H e k l some uses =
    let f = heard_lent H e l.1 (no_house e some (is_house e.owner)) in
    let here : e.conn ≡ home H k = sym (at_home H e.conn e.tenure e.owner l.0 f.lent) ∙ ap (home H) (sym (uses_its_own H e l some) ∙ uses) in
    ap (λ b. has_sent e.call_no (cond b (e ∷ journal H (home H k)) (journal H (home H k)))) (ap (λ d. e.conn == d) (sym here) ∙ same_itself e.conn)
    ∙ ap (λ b. b || has_sent e.call_no (journal H (home H k))) (same_itself e.call_no)

-- The call that ends rows with this event.

no_reply : (o : Option Rows) (label : List ℕ) → live o ≡ true → rows_reply o (ops.RowsClose label) ≡ None
no_reply None label h = absurd cc
no_reply (Some r) label h = ap (λ (b : Bool). cond b None (Some reply.Ok)) h

closing_now : (H : List Event) (client n : ℕ) (label : List ℕ) (j k : ℕ) → Lawful (Entered client n (ops.RowsClose label) ∷ H) → scope (work H j) ≡ Held k → are_live H j ≡ true → are_live (Entered client n (ops.RowsClose label) ∷ H) j ≡ false
    → Closer (Entered client n (ops.RowsClose label) ∷ H) j n k
closing_now H client n label j k l inner lives dead = by (close_turn H label j)
  where
    K : List Event
    K = Entered client n (ops.RowsClose label) ∷ H

    by : (rows_by (Entered client n (ops.RowsClose label) ∷ H) j ≡ rows_by H j) ⊎ (Turns (rows_by H j) (rows_by (Entered client n (ops.RowsClose label) ∷ H) j) × ClosesNow H label j) → Closer (Entered client n (ops.RowsClose label) ∷ H) j n k
    by (inl same) = absurd (true_false (are_live H j) lives (sym (ap live same) ∙ dead))
    by (inr it) =
        let c = it.1 in
        let new = enters_next H client n (ops.RowsClose label) l.1 in
        let its : work K n ≡ Close j = new_work H client n (ops.RowsClose label) new ∙ ap Close (sym c.maker) in
        let old : j ≢ n = older in
        let within : scope (work K j) ≡ Held k = ap scope (old_work H client n (ops.RowsClose label) j new old) ∙ inner in
        record {
          uses = rw (its, within) refl;
          sent = inr (ap (λ r. r.decided) (new_record H client n (ops.RowsClose label) new) ∙ told, its);
        }
      where
        older : j ≢ n
        older same =
            let new = enters_next H client n (ops.RowsClose label) l.1 in
            let looks : work H j ≡ Look = no_work_yet H j (omega (arith, new, same)) in
            let clash : false ≡ true = sym (ap hands_out looks) ∙ rows_hand_out H j (live_some (rows_by H j) lives) in
            cc

        told : told_at_entry H (ops.RowsClose label) ≡ None
        told =
            let c = it.1 in
            ap (λ b. rows_reply (cond b None (rows_by H (rows_maker (works H) label))) (ops.RowsClose label)) c.replied
            ∙ (ap (λ i. rows_reply (rows_by H i) (ops.RowsClose label)) (sym c.maker) ∙ no_reply (rows_by H j) label lives)

ending_now : (H : List Event) (tx : List ℕ) (by : TxEnd) (j k : ℕ) → Lawful H → scope (work H j) ≡ Held k → are_live H j ≡ true → live (rows_of j (ended_with H tx (handed_out H))) ≡ false
    → is_some (end_of (thing_of k (ends_as H tx by (transactions H)))) ≡ false → ⊥
ending_now H tx by j k l inner lives dead on = at (end_turn H tx j)
  where
    scoped : (w : Work) (i : ℕ) → hands_out_in i w ≡ true → scope w ≡ Held k → k ≡ i
    scoped (Statement (Held x) (HandOut label)) i h s = number s ∙ same_number x i h
      where
        number : Held x ≡ Held k → k ≡ x
        number y = cc
    scoped w i h s = absurd cc

    at : (rows_of j (ended_with H tx (handed_out H)) ≡ rows_by H j) ⊎ (Turns (rows_by H j) (rows_of j (ended_with H tx (handed_out H))) × EndsNow H tx j) → ⊥
    at (inl same) = true_false (are_live H j) lives (sym (ap live same) ∙ dead)
    at (inr it) =
        let e = it.1 in
        let its = scoped (work H j) (tx_maker (works H) tx) e.hands inner in
        let hands : hands_out_in k (work H j) ≡ true = ap (λ i. hands_out_in i (work H j)) its ∙ e.hands in
        let begun = rows_begun H j k l (live_some (rows_by H j) lives) hands in
        true_false (is_some (end_of (thing_of k (ends_as H tx by (transactions H))))) (ended_now H tx by k its e.replied begun) on

-- Only a fetch that gets no row ends rows by an answer.
fetches : (H : List Event) (it : Work) (m : ℕ) (q : DriverCall) (a : DriverAnswer) (j : ℕ) (R : Made) → live (rows_of j R) ≡ true → live (rows_of j (rows_heard H it m q a R)) ≡ false → it ≡ Fetch j
fetches H (Statement s (HandOut label)) m (Query input params) (Cursor cursor columns) j R lives dead = absurd (true_false (live (rows_of j (R ++ (m, born (is_late H s) (fresh cursor columns)) ∷ []))) (more R lives) dead)
  where
    more : (S : Made) → live (rows_of j S) ≡ true → live (rows_of j (S ++ (m, born (is_late H s) (fresh cursor columns)) ∷ [])) ≡ true
    more [] h = absurd cc
    more (x ∷ S) h = by (j == x.0) h (more S)
      where
        by : (b : Bool) → live (cond b (Some x.1) (rows_of j S)) ≡ true → (live (rows_of j S) ≡ true → live (rows_of j (S ++ (m, born (is_late H s) (fresh cursor columns)) ∷ [])) ≡ true)
            → live (cond b (Some x.1) (rows_of j (S ++ (m, born (is_late H s) (fresh cursor columns)) ∷ []))) ≡ true
        by true k rest = k
        by false k rest = rest k
fetches H (Fetch i) m (Next cursor) a j R lives dead = by (same_or_not j i)
  where
    by : (j ≡ i) ⊎ (j ≢ i) → Fetch i ≡ Fetch j
    by (inl same) = ap Fetch (sym same)
    by (inr apart) = let l = rows_changes in absurd (true_false (live (rows_of j R)) lives (sym (ap live (l.others (fetched a) i j R apart)) ∙ dead))
fetches H _ m q a j R lives dead = absurd (true_false (live (rows_of j R)) lives dead)

fetching_now : (H : List Event) (e : Entry) (j k : ℕ) → Lawful (Heard e ∷ H) → e.call_no ≢ 0 → goes_on H k ≡ true → scope (work H j) ≡ Held k → are_live H j ≡ true → are_live (Heard e ∷ H) j ≡ false → Closer (Heard e ∷ H) j e.call_no k
fetching_now H e j k l some going inner lives dead =
    let its = fetches H (work H e.call_no) e.call_no e.call e.answer j (handed_out H) lives dead in
    let uses : borrower H e.call_no ≡ k = rw (its, inner) refl in
    let s = stays H (Heard e) k l going in
    record { uses = uses; sent = inl (ap (λ d. has_sent e.call_no (journal (Heard e ∷ H) d)) s.same ∙ sends_there H e k l some uses) }

ends_now : (H : List Event) (e : Event) (j k : ℕ) → Lawful (e ∷ H) → caller e ≢ 0 → goes_on H k ≡ true → is_over (e ∷ H) k ≡ false → scope (work H j) ≡ Held k → are_live H j ≡ true → are_live (e ∷ H) j ≡ false → Closer (e ∷ H) j (caller e) k
ends_now H (Entered client n (ops.RowsClose label)) j k l some going on inner lives dead = closing_now H client n label j k l inner lives dead
ends_now H (Entered client n (ops.Commit tx)) j k l some going on inner lives dead = absurd (ending_now H tx tx_ends.Commit j k l.0 inner lives dead on)
ends_now H (Entered client n (ops.Rollback tx)) j k l some going on inner lives dead = absurd (ending_now H tx tx_ends.Rollback j k l.0 inner lives dead on)
ends_now H (Entered client n op) j k l some going on inner lives dead = absurd (true_false (are_live H j) lives dead)
ends_now H (Heard e) j k l some going on inner lives dead = fetching_now H e j k l some going inner lives dead
ends_now H e j k l some going on inner lives dead = absurd (some refl)

-- The call that ended rows before this event.

same_decided : (H : List Event) (e : Event) (m k : ℕ) → Lawful (e ∷ H) → m < length (works H) → m ≢ 0 → borrower H m ≡ k → goes_on H k ≡ true → decided H m ≡ None
    → (has_sent m (journal (e ∷ H) (home H k)) ≡ true) ⊎ (decided (e ∷ H) m ≡ None)
same_decided H (Entered client n op) m k l less some uses going none =
    let new = enters_next H client n op l.1 in
    let many = as_many H in
    inr (ap (λ r. r.decided) (old_record H client n op m new (λ same. absurd (omega (arith, less, new, many, same)))) ∙ none)
same_decided H (Heard e) m k l less some uses going none = by (same_or_not m e.call_no)
  where
    by : (m ≡ e.call_no) ⊎ (m ≢ e.call_no) → (has_sent m (journal (Heard e ∷ H) (home H k)) ≡ true) ⊎ (decided (Heard e ∷ H) m ≡ None)
    by (inl same) =
        inl (ap (λ i. has_sent i (journal (Heard e ∷ H) (home H k))) same ∙ sends_there H e k l (λ zero. some (same ∙ zero)) (ap (borrower H) (sym same) ∙ uses))
    by (inr apart) = inr (ap (λ r. r.decided) (other_heard H e m apart) ∙ none)
same_decided H (Replied n reply) m k l less some uses going none = inr (by (same_or_not m n))
  where
    by : (m ≡ n) ⊎ (m ≢ n) → decided (Replied n reply ∷ H) m ≡ None
    by (inr apart) = ap (λ r. r.decided) (other_replied H n reply m apart) ∙ none
    by (inl same) = elim (read_set (calls H) n (record (call_record H n) { decided = None }) m nobody) [
      | inl w ↦ ap (λ r. r.decided) w.2
      | inr w ↦ ap (λ r. r.decided) w.1 ∙ none
    ]
same_decided H e m k l less some uses going none = inr none

stays_closer : (H : List Event) (e : Event) (j m k : ℕ) → Lawful (e ∷ H) → m ≢ 0 → goes_on H k ≡ true → Closer H j m k → Closer (e ∷ H) j m k
stays_closer H e j m k l some going c =
    let s = stays H e k l going in
    record { uses = borrower_stays H e m less ∙ c.uses; sent = by s.same c.sent }
  where
    begun : is_begun H k ≡ true
    begun = let b = both (is_begun H k) (not (is_over H k)) going in b.0

    less : m < length (works H)
    less = has_entered H m (λ look.
        let same : m ≡ k = sym (rw look refl) ∙ c.uses in
        let clash : false ≡ true = sym (ap begins look) ∙ (ap (λ i. begins (work H i)) same ∙ begun_begins H k l.0 begun) in
        cc)

    by : home (e ∷ H) k ≡ home H k → (has_sent m (journal H (home H k)) ≡ true) ⊎ ((decided H m ≡ None) × (work H m ≡ Close j)) → (has_sent m (journal (e ∷ H) (home (e ∷ H) k)) ≡ true) ⊎ ((decided (e ∷ H) m ≡ None) × (work (e ∷ H) m ≡ Close j))
    by same (inl h) = inl (ap (λ d. has_sent m (journal (e ∷ H) d)) same ∙ sent_still H e m (home H k) h)
    by same (inr w) = elim (same_decided H e m k l less some c.uses going w.0) [
      | inl h ↦ inl (ap (λ d. has_sent m (journal (e ∷ H) d)) same ∙ h)
      | inr none ↦ inr (none, work_stays H e m less ∙ w.1)
    ]

-- Rows in a transaction are rows of a transaction that was begun.
rows_in : (H : List Event) (j k : ℕ) → Lawful H → is_some (rows_by H j) ≡ true → scope (work H j) ≡ Held k → is_begun H k ≡ true
rows_in H j k l made inner = rows_begun H j k l made (hands (work H j) (rows_hand_out H j made) inner)
  where
    hands : (w : Work) → hands_out w ≡ true → scope w ≡ Held k → hands_out_in k w ≡ true
    hands (Statement s (HandOut label)) x y = ap (is_in k) y ∙ same_itself k
    hands w x y = absurd cc

pub closers : (H : List Event) (j m k : ℕ) → Lawful H → scope (work H j) ≡ Held k → goes_on H k ≡ true → m ≢ 0 → ender H j ≡ m → Closer H j m k
closers [] j m k l inner going some is = absurd (some (sym is))
closers (e ∷ H) j m k l inner going some is = by (closers H j m k l.0) (are_live H j) (are_live (e ∷ H) j) refl refl is
  where
    on : is_over (e ∷ H) k ≡ false
    on = let b = both (is_begun (e ∷ H) k) (not (is_over (e ∷ H) k)) going in off (is_over (e ∷ H) k) b.1
      where
        off : (b : Bool) → not b ≡ true → b ≡ false
        off true h = absurd cc
        off false h = refl

    went_on : is_some (rows_by H j) ≡ true → scope (work H j) ≡ Held k → goes_on H k ≡ true
    went_on made within = ap (λ b. b && not (is_over H k)) (rows_in H j k l.0 made within) ∙ ap (λ b. not b) (still_on (is_over H k) refl)
      where
        still_on : (b : Bool) → is_over H k ≡ b → b ≡ false
        still_on true gone = absurd (true_false (is_over (e ∷ H) k) (stays_over H e k gone) on)
        still_on false gone = refl

    before : is_some (rows_by H j) ≡ true → scope (work H j) ≡ Held k
    before made = ap scope (sym (works_of.work_stays H e j (hands_no_look (work H j) (rows_hand_out H j made)))) ∙ inner

    by : (scope (work H j) ≡ Held k → goes_on H k ≡ true → m ≢ 0 → ender H j ≡ m → Closer H j m k) → (b c : Bool) → are_live H j ≡ b → are_live (e ∷ H) j ≡ c → cond b (ended_at e c) (ender H j) ≡ m → Closer (e ∷ H) j m k
    by earlier true true lives now x = absurd (some (sym x))
    by earlier true false lives now x =
        let made = live_some (rows_by H j) lives in
        subst (λ i. Closer (e ∷ H) j i k) x
        (ends_now H e j k l (λ none. some (sym x ∙ none)) (went_on made (before made)) on (before made) lives now)
    by earlier false c dead now x =
        let made = over_some (rows_by H j) (ender_over H j (λ none. some (sym x ∙ none))) in
        let within = before made in
        let goes = went_on made within in
        stays_closer H e j m k l some goes (earlier within goes some x)
