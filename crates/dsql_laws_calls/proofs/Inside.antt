-- A call that sends in a transaction sends in one that was begun. Live rows of a transaction belong to one that
-- goes on.
use Rattle.std.proofs.Common.{◌≡◌, ◌≢◌, ℕ, ◌==◌, ◌⊎◌, inl, inr, Bool, true, false, not, ◌&&◌, ◌||◌, cond, List, [], ◌∷◌, ◌++◌, map, Option, Some, None, is_some, is_none, refl, sym, ap, ◌∙◌, arith}
use Rattle.std.proofs.lemmas.Bool.{or_cases}
use Rattle.std.specs.Option.{option_map}
use Rattle.dsql_laws.specs.driver.declared.call.DriverCall.{DriverCall}
use Rattle.dsql_laws.specs.driver.declared.call.DriverCall.TheVariants.{Query, Next}
use Rattle.dsql_laws.specs.driver.declared.answer.DriverAnswer.{DriverAnswer}
use Rattle.dsql_laws.specs.driver.declared.answer.DriverAnswer.TheVariants.{Cursor}
use Rattle.dsql_laws.specs.course.declared.course.Wish.TheVariants as wishes
use Rattle.dsql_laws.specs.journal.declared.entry.Entry.{Entry}
use Rattle.dsql_laws.specs.journal.Kinds.{number_of}
use Rattle.dsql_laws.specs.numbered.Numbered.{thing_of, changed}
use Rattle.dsql_laws.specs.rows.declared.rows.Rows.{Rows}
use Rattle.dsql_laws.specs.rows.declared.end.RowsEnd.TheVariants as ends
use Rattle.dsql_laws.specs.rows.OpenRows.{fresh, is_live, rows_of}
use Rattle.dsql_laws.specs.tx.declared.end.TxEnd.{TxEnd}
use Rattle.dsql_laws.specs.tx.declared.end.TxEnd.TheVariants as tx_ends
use Rattle.dsql_laws.specs.tx.declared.tx.Tx.{Tx as Trans}
use Rattle.dsql_laws.proofs.numbered.Numbers.{changes_one_number}
use Rattle.dsql_laws.proofs.rows.Numbers.{changes_one_number as rows_changes}
use Rattle.dsql_laws_work.proofs.Rows.{same_or_not}
use Rattle.dsql_laws.specs.tx.Transactions as of_txs
use Rattle.dsql_laws.specs.works.HandedOut.{Made}
use Rattle.dsql_laws.specs.history.Readers.HandedOut.{fetched, live, born, is_late, end_in, ended_with, handed_out, rows_by, rows_heard, are_live}
use Rattle.dsql_laws.proofs.Tests.{both, same_number}
use Rattle.dsql_laws.specs.history.declared.event.Event.{Event}
use Rattle.dsql_laws.specs.history.declared.event.Event.TheVariants.{Entered, Heard, Ended}
use Rattle.dsql_laws.specs.history.declared.event.Op.{Op}
use Rattle.dsql_laws.specs.history.declared.event.Op.TheVariants as ops
use Rattle.dsql_laws.specs.history.declared.work.Scope.{Scope}
use Rattle.dsql_laws.specs.history.declared.work.Scope.TheVariants.{Db, Held}
use Rattle.dsql_laws.specs.history.declared.work.Work.{Work}
use Rattle.dsql_laws.specs.history.declared.work.Task.TheVariants.{HandOut}
use Rattle.dsql_laws.specs.history.declared.work.Work.TheVariants.{Statement, Fetch, Look}
use Rattle.dsql_laws.specs.history.Readers.Unfinished.{is_unfinished}
use Rattle.dsql_laws.specs.history.Readers.Works.{works, work, scope, is_in, hands_out_in, borrower, tx_maker}
use Rattle.dsql_laws.specs.history.Readers.Journals.{journal}
use Rattle.dsql_laws.specs.history.Readers.Lines.{has_sent}
use Rattle.dsql_laws.specs.history.Readers.Pool.{place}
use Rattle.dsql_laws.specs.history.Readers.Transactions.{ends_as, transactions, tx_by, is_begun, is_over, goes_on}
use Rattle.dsql_laws.specs.history.Readers.Calls.{decided, site, has_begun_to_send}
use Rattle.dsql_laws.specs.history.Rules.Sent.{line_of}
use Rattle.dsql_laws.specs.history.Rules.Line.{sends_in, due_in, due_for, tidying, is_due, is_due_at, parts, may_come}
use Rattle.dsql_laws.specs.history.Legal.{Allowed, Lawful}
use Rattle.dsql_laws_calls.proofs.EndedRows.{mapped_rows, fetch_stays}
use Rattle.dsql_laws_calls.proofs.Stays.{work_stays}
use Rattle.dsql_laws_calls.proofs.Works as of_works
use Rattle.dsql_laws_calls.proofs.Works.{enters_next, old_work}
use Rattle.dsql_laws_calls.proofs.Looks.{sent_no_look, heard_there, comes}
use Rattle.dsql_laws_calls.proofs.Rows.{ended_live, none_at_end, entering_revives_none}
use Rattle.dsql_laws_calls.proofs.Makers.{hands_out, rows_hand_out}
use Rattle.dsql_laws_calls.proofs.Begun.{BeginsIt, heard_tx, stays_begun}
use Rattle.dsql_laws_calls.proofs.TxEnders.{same_going, sent_entered}
use Rattle.dsql_laws_calls.proofs.Own.{due_now, due_of}
use Rattle.dsql_laws_calls.proofs.Ends.{zero_work}
use Rattle.dsql_laws_calls.proofs.LiveRows.{live_some}

-- A call in a transaction has something to do.
pub inside_busy : (w : Work) (k : ℕ) → scope w ≡ Held k → w ≡ Look → ⊥
inside_busy w k is look = let wrong : Db ≡ Held k = sym (ap scope look) ∙ is in cc

pub scope_stays : (H : List Event) (e : Event) (m k : ℕ) → scope (work H m) ≡ Held k → scope (work (e ∷ H) m) ≡ Held k
scope_stays H e m k is = ap scope (work_stays H e m (inside_busy (work H m) k is)) ∙ is

-- A call in a transaction uses the transaction's connection.
pub inside_uses : (H : List Event) (m k : ℕ) → scope (work H m) ≡ Held k → borrower H m ≡ k
inside_uses H m k is = by (work H m) refl is
  where
    number : (n : ℕ) → Held n ≡ Held k → n ≡ k
    number n h = cc

    by : (w : Work) → work H m ≡ w → scope w ≡ Held k → borrower H m ≡ k
    by (Statement (Held n) task) its h = rw its (number n h)
    by w its h = absurd cc

-- Holds if call m sends in transaction k, and this driver call is due in its line.
pub record DueInside (H : List Event) (m k : ℕ) (q : DriverCall) : Type 0 where
  pub sends : sends_in H m k ≡ true
  pub due : is_due (line_of H m wishes.Nothing) q ≡ true

pub due_within : (H : List Event) (m k : ℕ) (q : DriverCall) (w : Work) → scope w ≡ Held k → is_due (due_in H m w) q ≡ true → DueInside H m k q
due_within H m k q w is h = by w is h
  where
    when : (n : ℕ) (b : Bool) → sends_in H m n ≡ b → Held n ≡ Held k → is_due (cond b (line_of H m wishes.Nothing) None) q ≡ true → DueInside H m k q
    when n true sends same x = let number : n ≡ k = cc in record { sends = ap (sends_in H m) (sym number) ∙ sends; due = x }
    when n false sends same x = absurd cc

    by : (v : Work) → scope v ≡ Held k → is_due (due_in H m v) q ≡ true → DueInside H m k q
    by (Statement (Held n) task) same x = when n (sends_in H m n) refl same x
    by v same x = absurd cc

-- Holds if, for a call in a transaction, something was heard or may come only if the transaction was begun.
pub record Inside (H : List Event) : Type 0 where
  pub sent : (m k c : ℕ) → has_sent m (journal H c) ≡ true → scope (work H m) ≡ Held k → is_begun H k ≡ true
  pub coming : (e : Entry) (k : ℕ) → may_come H e ≡ true → scope (work H e.call_no) ≡ Held k → is_begun H k ≡ true

pub number_not : (H : List Event) (m k : ℕ) → scope (work H m) ≡ Held k → (m == 0) ≡ false
number_not H m k is = by (m == 0) refl
  where
    by : (b : Bool) → (m == 0) ≡ b → b ≡ false
    by true zero_now =
        let looks : work H m ≡ Look = ap (work H) (same_number m 0 zero_now) ∙ zero_work H in
        absurd (inside_busy (work H m) k is looks)
    by false other = refl

due_begun : (H : List Event) (e : Entry) (k : ℕ) → ((m j c : ℕ) → has_sent m (journal H c) ≡ true → scope (work H m) ≡ Held j → is_begun H j ≡ true) → is_due_at H (place H e.conn) e ≡ true → scope (work H e.call_no) ≡ Held k → is_begun H k ≡ true
due_begun H e k sent h is =
    let d = due_now H e h in
    let some = number_not H e.call_no k is in
    let its : is_due (due_for H e.call_no) e.call ≡ true = ap (λ b. is_due (cond b (tidying H (number_of d.owner)) (due_for H e.call_no)) e.call) (sym some) ∙ d.due in
    let o = due_of H e.call_no e.call its in
    let inside = due_within H e.call_no k e.call (work H e.call_no) is o.due in
    elim (or_cases (has_begun_to_send H e.call_no) (goes_on H k && is_none (decided H e.call_no)) inside.sends) [
      | inl begun ↦ sent e.call_no k (site H e.call_no) begun is
      | inr goes ↦ (let g = both (goes_on H k) (is_none (decided H e.call_no)) goes in let b = both (is_begun H k) (not (is_over H k)) g.0 in b.0)
    ]

still_coming : (H : List Event) (last : Event) → Inside H → ((m k c : ℕ) → has_sent m (journal (last ∷ H) c) ≡ true → scope (work (last ∷ H) m) ≡ Held k → is_begun (last ∷ H) k ≡ true)
    → ((e : Entry) (k : ℕ) → may_come H e ≡ true → scope (work (last ∷ H) e.call_no) ≡ Held k → scope (work H e.call_no) ≡ Held k) → Inside (last ∷ H)
still_coming H last i sent before = record { sent = sent; coming = come }
  where
    come : (e : Entry) (k : ℕ) → may_come (last ∷ H) e ≡ true → scope (work (last ∷ H) e.call_no) ≡ Held k → is_begun (last ∷ H) k ≡ true
    come e k h is =
        elim (or_cases (is_due_at (last ∷ H) (place (last ∷ H) e.conn) e) (not (parts last e) && may_come H e) h) [
          | inl now ↦ due_begun (last ∷ H) e k sent now is
          | inr could ↦ (let b = both (not (parts last e)) (may_come H e) could in stays_begun H last k (i.coming e k b.1 (before e k b.1 is)))
        ]

-- If an answer to a call may come, the call worked in the same transaction before the event.
was_inside : (H : List Event) (last : Event) (e : Entry) (k : ℕ) → may_come H e ≡ true → scope (work (last ∷ H) e.call_no) ≡ Held k → scope (work H e.call_no) ≡ Held k
was_inside H last e k may is =
    let some = number_not (last ∷ H) e.call_no k is in
    sym (ap scope (of_works.work_stays H last e.call_no (sent_no_look H e may some))) ∙ is

sent_heard : (H : List Event) (e : Entry) → Allowed H (Heard e) → Inside H → (m k c : ℕ) → has_sent m (journal (Heard e ∷ H) c) ≡ true → scope (work H m) ≡ Held k → is_begun H k ≡ true
sent_heard H e a i m k c h is = by (e.conn == c) (e.call_no == m) refl h
  where
    by : (b own : Bool) → (e.call_no == m) ≡ own → has_sent m (cond b (e ∷ journal H c) (journal H c)) ≡ true → is_begun H k ≡ true
    by true true its x =
        let same = same_number e.call_no m its in
        let scoped : scope (work H e.call_no) ≡ Held k = ap (λ j. scope (work H j)) same ∙ is in
        let there = heard_there H e a in
        i.coming e k (comes H e (place H e.conn) there.sets there.line (number_not H e.call_no k scoped)) scoped
    by true false its x = i.sent m k c (sym (ap (λ b. b || has_sent m (journal H c)) its) ∙ x) is
    by false own its x = i.sent m k c x is

sent_entering : (H : List Event) (client n : ℕ) (op : Op) → Lawful (Entered client n op ∷ H) → Inside H → (m k c : ℕ) → has_sent m (journal H c) ≡ true → scope (work (Entered client n op ∷ H) m) ≡ Held k → is_begun H k ≡ true
sent_entering H client n op l i m k c h is =
    let numbered : m ≢ 0 = λ none. absurd (wrong (ap (λ j. j == 0) none) (number_not (Entered client n op ∷ H) m k is)) in
    let less = sent_entered H c m l.0 numbered h in
    let new = enters_next H client n op l.1 in
    i.sent m k c h (sym (ap scope (old_work H client n op m new (λ same. absurd (omega (arith, less, new, same))))) ∙ is)
  where
    wrong : (m == 0) ≡ true → (m == 0) ≡ false → ⊥
    wrong x y = cc

pub inside : (H : List Event) → Lawful H → Inside H
inside [] l = record { sent = λ m k c h is. absurd cc; coming = λ e k h is. absurd cc }
inside (Heard e ∷ H) l =
    let i = inside H l.0 in
    still_coming H (Heard e) i (λ m k c h is. stays_begun H (Heard e) k (sent_heard H e l.1 i m k c h is)) (was_inside H (Heard e))
inside (Entered client n op ∷ H) l =
    let i = inside H l.0 in
    still_coming H (Entered client n op) i (λ m k c h is. stays_begun H (Entered client n op) k (sent_entering H client n op l i m k c h is)) (was_inside H (Entered client n op))
inside (e ∷ H) l = let i = inside H l.0 in still_coming H e i (λ m k c h is. stays_begun H e k (i.sent m k c h is)) (was_inside H e)

-- Live rows of a transaction belong to one that goes on.

not_live : (o : Option Rows) (f : Rows → Rows) → ((r : Rows) → is_live r ≡ false → is_live (f r) ≡ false) → live (option_map f o) ≡ true → live o ≡ true
not_live None f stays h = h
not_live (Some r) f stays h = by (is_live r) refl
  where
    by : (b : Bool) → is_live r ≡ b → b ≡ true
    by true is = refl
    by false is = let wrong : true ≡ false = sym h ∙ stays r is in absurd cc

pub was_live : (H : List Event) (client m : ℕ) (op : Op) (n : ℕ) → are_live (Entered client m op ∷ H) n ≡ true → are_live H n ≡ true
was_live H client m op n h = by (are_live H n) refl
  where
    by : (b : Bool) → are_live H n ≡ b → b ≡ true
    by true is = refl
    by false is = let wrong : true ≡ false = sym h ∙ entering_revives_none H client m op n is in absurd cc

pub hands_same : (H : List Event) (e : Event) (n k : ℕ) → is_some (rows_by H n) ≡ true → hands_out_in k (work (e ∷ H) n) ≡ true → hands_out_in k (work H n) ≡ true
hands_same H e n k some is = sym (ap (hands_out_in k) (work_stays H e n (busy (work H n) (rows_hand_out H n some)))) ∙ is
  where
    busy : (w : Work) → hands_out w ≡ true → w ≡ Look → ⊥
    busy w h look = let wrong : false ≡ true = sym (ap hands_out look) ∙ h in cc

-- If a call leaves rows of a transaction live as it enters, it doesn't end that transaction.
ended_rows : (H : List Event) (tx : List ℕ) (by_end : TxEnd) (n k : ℕ) → goes_on H k ≡ true → hands_out_in k (work H n) ≡ true → live (rows_of n (ended_with H tx (handed_out H))) ≡ true
    → thing_of k (ends_as H tx by_end (transactions H)) ≡ tx_by H k
ended_rows H tx by_end n k goes hands lives = split (is_unfinished H maker) (same_or_not k maker) lives
  where
    maker : ℕ
    maker = tx_maker (works H) tx

    split : (b : Bool) → (k ≡ maker) ⊎ (k ≢ maker) → live (rows_of n (cond b (handed_out H) (map (end_in H maker) (handed_out H)))) ≡ true
        → thing_of k (cond b (transactions H) (changed (of_txs.ended_by by_end) maker (transactions H))) ≡ tx_by H k
    split true x h = refl
    split false (inl same) h =
        let rows = mapped_rows (λ j. born (hands_out_in maker (work H j))) n (handed_out H) in
        let own : hands_out_in maker (work H n) ≡ true = ap (λ j. hands_out_in j (work H n)) (sym same) ∙ hands in
        let dead : live (option_map (born true) (rows_by H n)) ≡ true = sym (ap (λ b. live (option_map (born b) (rows_by H n))) own) ∙ (sym (ap live rows) ∙ h) in
        absurd (none_left (rows_by H n) dead)
      where
        none_left : (o : Option Rows) → live (option_map (born true) o) ≡ true → ⊥
        none_left None x = cc
        none_left (Some r) x = let wrong : true ≡ false = sym x ∙ ended_live ends.TxEnded r in cc
    split false (inr apart) h = let l = changes_one_number {X = Trans} in l.others (of_txs.ended_by by_end) maker k (transactions H) apart

entered_goes : (H : List Event) (client m : ℕ) (op : Op) (n k : ℕ) → goes_on H k ≡ true → hands_out_in k (work H n) ≡ true → are_live (Entered client m op ∷ H) n ≡ true → goes_on (Entered client m op ∷ H) k ≡ true
entered_goes H client m (ops.Commit tx) n k goes hands lives = same_going (tx_by H k) (tx_by (Entered client m (ops.Commit tx) ∷ H) k) (ended_rows H tx tx_ends.Commit n k goes hands lives) ∙ goes
entered_goes H client m (ops.Rollback tx) n k goes hands lives = same_going (tx_by H k) (tx_by (Entered client m (ops.Rollback tx) ∷ H) k) (ended_rows H tx tx_ends.Rollback n k goes hands lives) ∙ goes
entered_goes H client m op n k goes hands lives = goes

-- Rows that are live after an answer were live before it, or the answer made them.
pub heard_live : (H : List Event) (it : Work) (m : ℕ) (q : DriverCall) (a : DriverAnswer) (n : ℕ) (R : Made) → live (rows_of n (rows_heard H it m q a R)) ≡ true
    → (live (rows_of n R) ≡ true) ⊎ ((n ≡ m) × ((k : ℕ) → hands_out_in k it ≡ true → is_over H k ≡ false))
heard_live H (Statement s (HandOut label)) m (Query input params) (Cursor cursor columns) n R h = more R h
  where
    late : is_live (born (is_late H s) (fresh cursor columns)) ≡ true → (k : ℕ) → is_in k s ≡ true → is_over H k ≡ false
    late lives k its = by s its lives
      where
        when : (b : Bool) → is_live (born b (fresh cursor columns)) ≡ true → b ≡ false
        when true x = let wrong : true ≡ false = sym x ∙ ended_live ends.TxEnded (fresh cursor columns) in absurd cc
        when false x = refl

        by : (t : Scope) → is_in k t ≡ true → is_live (born (is_late H t) (fresh cursor columns)) ≡ true → is_over H k ≡ false
        by (Held j) i x = when (is_over H k) (ap (λ b. is_live (born b (fresh cursor columns))) (ap (is_over H) (sym (same_number j k i))) ∙ x)
        by Db i x = absurd cc

    more : (S : Made) → live (rows_of n (S ++ (m, born (is_late H s) (fresh cursor columns)) ∷ [])) ≡ true → (live (rows_of n S) ≡ true) ⊎ ((n ≡ m) × ((k : ℕ) → is_in k s ≡ true → is_over H k ≡ false))
    more [] x = by (n == m) refl x
      where
        by : (b : Bool) → (n == m) ≡ b → live (cond b (Some (born (is_late H s) (fresh cursor columns))) None) ≡ true → (live (rows_of n []) ≡ true) ⊎ ((n ≡ m) × ((k : ℕ) → is_in k s ≡ true → is_over H k ≡ false))
        by true is y = inr (same_number n m is, late y)
        by false is y = absurd cc
    more (z ∷ S) x = by (more S) (n == z.0) x
      where
        by : (live (rows_of n (S ++ (m, born (is_late H s) (fresh cursor columns)) ∷ [])) ≡ true → (live (rows_of n S) ≡ true) ⊎ ((n ≡ m) × ((k : ℕ) → is_in k s ≡ true → is_over H k ≡ false))) → (b : Bool)
            → live (cond b (Some z.1) (rows_of n (S ++ (m, born (is_late H s) (fresh cursor columns)) ∷ []))) ≡ true
            → (live (cond b (Some z.1) (rows_of n S)) ≡ true) ⊎ ((n ≡ m) × ((k : ℕ) → is_in k s ≡ true → is_over H k ≡ false))
        by rest true y = inl y
        by rest false y = rest y
heard_live H (Fetch k) m (Next cursor) a n R h = inl (kept (same_or_not n k))
  where
    kept : (n ≡ k) ⊎ (n ≢ k) → live (rows_of n R) ≡ true
    kept (inl same) =
        let l = rows_changes in
        not_live (rows_of n R) (fetched a) (fetch_stays a) (sym (ap live (ap (λ j. rows_of n (changed (fetched a) j R)) (sym same) ∙ l.changes (fetched a) n R)) ∙ h)
    kept (inr apart) = let l = rows_changes in sym (ap live (l.others (fetched a) k n R apart)) ∙ h
heard_live H _ m q a n R h = inl h

pub live_goes : (H : List Event) (n k : ℕ) → Lawful H → are_live H n ≡ true → hands_out_in k (work H n) ≡ true → goes_on H k ≡ true
live_goes [] n k l lives hands = absurd cc
live_goes (Entered client m op ∷ H) n k l lives hands =
    let were = was_live H client m op n lives in
    let its = hands_same H (Entered client m op) n k (live_some (rows_by H n) were) hands in
    entered_goes H client m op n k (live_goes H n k l.0 were its) its lives
live_goes (Heard e ∷ H) n k l lives hands = by (live_goes H n k l.0) (heard_live H (work H e.call_no) e.call_no e.call e.answer n (handed_out H) lives)
  where
    still : (b : Bool) → (tx_by (Heard e ∷ H) k ≡ tx_by H k) ⊎ BeginsIt H e k (tx_by (Heard e ∷ H) k) → is_begun H k ≡ true → goes_on H k ≡ true → goes_on (Heard e ∷ H) k ≡ true
    still b (inl same) begun goes = same_going (tx_by H k) (tx_by (Heard e ∷ H) k) same ∙ goes
    still b (inr it) begun goes = let wrong : false ≡ true = sym (ap is_some it.new) ∙ begun in absurd cc

    going : goes_on H k ≡ true → goes_on (Heard e ∷ H) k ≡ true
    going goes = let b = both (is_begun H k) (not (is_over H k)) goes in still true (heard_tx H e k) b.0 goes

    scoped : (w : Work) → hands_out_in k w ≡ true → scope w ≡ Held k
    scoped (Statement (Held j) (HandOut label)) x = ap Held (same_number j k x)
    scoped (Statement Db (HandOut label)) x = absurd cc
    scoped w x = absurd cc

    by : (are_live H n ≡ true → hands_out_in k (work H n) ≡ true → goes_on H k ≡ true) → (live (rows_by H n) ≡ true) ⊎ ((n ≡ e.call_no) × ((j : ℕ) → hands_out_in j (work H e.call_no) ≡ true → is_over H j ≡ false)) → goes_on (Heard e ∷ H) k ≡ true
    by rest (inl were) = going (rest were hands)
    by rest (inr new) =
        let its : hands_out_in k (work H e.call_no) ≡ true = ap (λ j. hands_out_in k (work H j)) (sym new.0) ∙ hands in
        let in_it = scoped (work H e.call_no) its in
        let i = inside H l.0 in
        let there = heard_there H e l.1 in
        let begun = i.coming e k (comes H e (place H e.conn) there.sets there.line (number_not H e.call_no k in_it)) in_it in
        going (ap (λ b. b && not (is_over H k)) begun ∙ ap (λ b. not b) (new.1 k its))
live_goes (Ended ∷ H) n k l lives hands = let wrong : true ≡ false = sym lives ∙ none_at_end H n in absurd cc
live_goes (_ ∷ H) n k l lives hands = live_goes H n k l.0 lives hands
