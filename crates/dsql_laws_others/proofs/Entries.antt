-- A call that enters touches no other call, unless it closes rows or the database or ends a transaction. The
-- entry changes neither the pool, the rows nor the transactions.
use Rattle.std.proofs.Common.{◌≡◌, ℕ, Bool, true, false, ◌&&◌, cond, List, [], ◌∷◌, refl, sym, ap, ◌∙◌, arith, ◌≢◌, ◌+◌, ◌==◌, ◌⊎◌, inl, inr, ◌||◌, ◌++◌, length, ◌<◌, ◌≤◌, Option, Some, None, is_some, is_none, nat_le, subst}
use Rattle.std.specs.Prelude.{◌+◌, count_by}
use Rattle.std.specs.List.{list_all}
use Rattle.dsql_laws_calls.proofs.pool.Frees.{count-cons}
use Rattle.dsql_laws_calls.specs.pool.declared.conn.Conn.{Conn}
use Rattle.dsql_laws_calls.proofs.laws.Tried.{is_lent_out, is_lent_to}
use Rattle.std.specs.Option.{option_map, option_map_or}
use Rattle.std.proofs.lemmas.List.Folds.{list_all-append}
use Rattle.dsql_laws_calls.specs.course.declared.course.Wish.{Wish}
use Rattle.dsql_laws_calls.specs.course.declared.course.Wish.TheVariants as wishes
use Rattle.dsql_laws_calls.specs.course.Made.{or_else}
use Rattle.dsql_laws_calls.specs.driver.declared.call.DriverCall.{DriverCall}
use Rattle.dsql_laws_calls.specs.journal.Kinds.{number_of}
use Rattle.dsql_laws_calls.specs.numbered.Numbered.{thing_of}
use Rattle.dsql_laws_calls.specs.pool.declared.conn.Place.{Place}
use Rattle.dsql_laws_calls.specs.pool.declared.conn.Place.TheVariants.{Lent}
use Rattle.dsql_laws_calls.specs.pool.Places.{conn_of, is_for}
use Rattle.dsql_laws_calls.specs.pool.Pooled.{Pooled, place_at}
use Rattle.dsql_laws_calls.specs.wait.Requests.{waits}
use Rattle.dsql_laws_calls.specs.rows.OpenRows.{rows_of}
use Rattle.dsql_laws_calls.specs.works.Line.{Asked}
use Rattle.dsql_laws_calls.specs.history.declared.record.Try.{Try}
use Rattle.dsql_laws_calls.specs.history.Readers.HandedOut.{live, over, handed_out, rows_by, are_over, is_late}
use Rattle.dsql_laws_calls.specs.history.Readers.Pool.{is_home, or_none, smallest, pool, place, home}
use Rattle.dsql_laws_calls.specs.history.Readers.Tries.{try_number, has_a_try, tries, tries_again}
use Rattle.dsql_laws_calls.proofs.laws.Tests.{together, other_number, same_itself}
use Rattle.dsql_laws_calls.proofs.laws_work.Rows.{within_rows}
use Rattle.dsql_laws_others.proofs.Untouched.{still_stands}
use Rattle.dsql_laws_calls.specs.history.declared.event.Event.{Event}
use Rattle.dsql_laws_calls.specs.history.declared.event.Event.TheVariants.{Entered}
use Rattle.dsql_laws_calls.specs.history.declared.event.Op.{Op}
use Rattle.dsql_laws_calls.specs.history.declared.event.Op.TheVariants as ops
use Rattle.dsql_laws_calls.specs.history.declared.record.CallRecord.{CallRecord}
use Rattle.dsql_laws_calls.specs.history.declared.reply.Reply.TheVariants.{DbClosed, Truth}
use Rattle.dsql_laws_calls.specs.history.declared.work.Scope.{Scope}
use Rattle.dsql_laws_calls.specs.history.declared.work.Scope.TheVariants.{Db, Held}
use Rattle.dsql_laws_calls.specs.history.declared.work.Work.{Work}
use Rattle.dsql_laws_calls.specs.history.declared.work.Work.TheVariants.{Statement, Begin, Ping, Fetch, Look}
use Rattle.dsql_laws_calls.specs.history.Readers.Course.{caps, db_end}
use Rattle.dsql_laws_calls.specs.history.Readers.Calls.{call_record, decided, has_begun_to_send, done_with, told_by_tries, told_by_scope, told_of_work, told_by_others, last_told, asks_nothing, rests, rests_with}
use Rattle.dsql_laws_calls.specs.history.Readers.Journals.{journal}
use Rattle.dsql_laws_calls.specs.history.Readers.Lines.{has_sent}
use Rattle.dsql_laws_calls.specs.history.Readers.Transactions.{transactions, tx_by, end_of, tx_end, goes_on}
use Rattle.dsql_laws_calls.specs.history.Readers.Unfinished.{unfinished, is_unfinished}
use Rattle.dsql_laws_calls.specs.history.Readers.Works.{works, work, work_of, aim_of, scope, hands_out_in, borrower}
use Rattle.dsql_laws_calls.specs.history.Rules.Ending.{first_closing, ending}
use Rattle.dsql_laws_calls.specs.history.Rules.Line.{due_for, is_used}
use Rattle.dsql_laws_calls.specs.history.Rules.Sent.{line_at, line_of, close_due}
use Rattle.dsql_laws_calls.specs.history.Rules.Settled.{is_in_use, is_kept, uses_what_is_lent, calls_stand_but}
use Rattle.dsql_laws_calls.specs.history.Rules.Stands.{is_own_step, is_settled_for, stand}
use Rattle.dsql_laws_calls.specs.history.Legal.{Lawful}
use Rattle.dsql_laws_callers.proofs.Works.{RefersWithin, refers_within, borrower_stays}
use Rattle.dsql_laws_calls.proofs.Works.{enters_next, old_record, old_work, old_unfinished}
use Rattle.dsql_laws_calls.proofs.TxEnders.{same_going}
use Rattle.dsql_laws_calls.proofs.Enders.{same_ender}
use Rattle.dsql_laws_calls.proofs.Ends.{new_unlent}
use Rattle.dsql_laws_calls.proofs.AtEnd.{no_work_yet}
use Rattle.dsql_laws_calls.proofs.LiveRows.{over_some}
use Rattle.dsql_laws_calls.proofs.Makers.{hands_out, rows_hand_out}
use Rattle.dsql_laws_calls.proofs.Stays.{as_many}
use Rattle.dsql_laws_others.specs.Entries.{is_plain}
use Rattle.dsql_laws_others.proofs.Alike.{Concerns, Alike, due_alike, used_alike, line_asked, ends_alike, first_alike, closing_alike, same_tx_ender}
use Rattle.dsql_laws_others.proofs.Settling.{apart_of, each_stands}

-- If nothing is lent to call n, tests that agree on connections that aren't lent to it hold of all connections
-- alike.
pub all_unlent : (n : ℕ) (q r : Conn → Bool) (conns : List Conn) → count_by (is_lent_out n) conns ≡ 0 → ((x : Conn) → is_lent_out n x ≡ false → q x ≡ r x) → list_all q conns ≡ list_all r conns
all_unlent n q r [] none same = refl
all_unlent n q r (x ∷ xs) none same = by (λ k. all_unlent n q r xs k same) (is_lent_out n x) refl (sym (count-cons (is_lent_out n) x xs) ∙ none)
  where
    by : (count_by (is_lent_out n) xs ≡ 0 → list_all q xs ≡ list_all r xs) → (b : Bool) → is_lent_out n x ≡ b → cond {A = ℕ} (is_lent_out n x) 1 0 + count_by (is_lent_out n) xs ≡ 0
        → list_all q (x ∷ xs) ≡ list_all r (x ∷ xs)
    by rest true is k = let one : cond {A = ℕ} (is_lent_out n x) 1 0 ≡ 1 = ap (λ (b : Bool). cond {A = ℕ} b 1 0) is in absurd (omega (arith, one, k))
    by rest false is k = ap (λ b. b && list_all q xs) (same x is) ∙ ap (λ b. r x && b) (rest (omega (arith, k)))

-- What such an entry leaves: the pool, the rows, the transactions, and what closed the database.
record Leaves (H K : List Event) : Type 0 where
  pool : pool K ≡ pool H
  rows : handed_out K ≡ handed_out H
  txs : transactions K ≡ transactions H
  end : db_end K ≡ db_end H

leaves : (H : List Event) (client n : ℕ) (op : Op) → is_plain op ≡ true → Leaves H (Entered client n op ∷ H)
leaves H client n (ops.RowsClose rows) h = absurd cc
leaves H client n (ops.Commit tx) h = absurd cc
leaves H client n (ops.Rollback tx) h = absurd cc
leaves H client n ops.DbClose h = absurd cc
leaves H client n op h = record { pool = refl; rows = refl; txs = refl; end = refl }

-- Each other call uses the connection that it used.

pub next_work : (H : List Event) (client n : ℕ) (op : Op) → Lawful (Entered client n op ∷ H) → n ≡ length (works H)
next_work H client n op l = enters_next H client n op l.1 ∙ sym (as_many H)

pub same_borrower : (H : List Event) (client n : ℕ) (op : Op) (j : ℕ) → Lawful (Entered client n op ∷ H) → j ≢ n → borrower (Entered client n op ∷ H) j ≡ borrower H j
same_borrower H client n op j l apart = by (within_rows (works H) j Look)
  where
    by : (j < length (works H)) ⊎ ((length (works H) ≤ j) × (work H j ≡ Look)) → borrower (Entered client n op ∷ H) j ≡ borrower H j
    by (inl less) = borrower_stays H (Entered client n op) j less
    by (inr beyond) =
        let before = beyond.1 in
        let now : work (Entered client n op ∷ H) j ≡ Look = old_work H client n op j (enters_next H client n op l.1) apart ∙ before in
        rw (now, before) refl

-- Each other call asks what it asked, so its line stays the same.

abbrev pub stated : CallRecord → Work → Asked
stated r it = record { text = r.text; params = r.params; aim = aim_of it }

pub asked_same : (r s : CallRecord) (it jt : Work) → r ≡ s → it ≡ jt → stated r it ≡ stated s jt
asked_same r s it jt same is = ap (λ x. stated x it) same ∙ ap (stated s) is

abbrev home_in : ℕ → Pooled → ℕ
home_in n p = or_none (smallest (is_home n) p)

pub other_line : (H : List Event) (client n : ℕ) (op : Op) (j : ℕ) (w : Wish) → Lawful (Entered client n op ∷ H) → j ≢ n → pool (Entered client n op ∷ H) ≡ pool H → line_of (Entered client n op ∷ H) j w ≡ line_of H j w
other_line H client n op j w l apart same =
    let K = Entered client n op ∷ H in
    let new = enters_next H client n op l.1 in
    let uses = same_borrower H client n op j l apart in
    let b = borrower H j in
    ap (λ i. line_at K j w (home K i) (place K (home K i))) uses
    ∙ (ap (λ p. line_at K j w (home_in b p) (place_at p (home_in b p))) same
    ∙ line_asked H K j w (home H b) (place H (home H b))
    (record {
      asked = asked_same (call_record K j) (call_record H j) (work K j) (work H j) (old_record H client n op j new apart) (old_work H client n op j new apart);
      resets = ap (λ (p : Pooled). (caps H).resetter && nat_le 2 (option_map_or (λ conn. conn.uses) (conn_of (home H b) p.conns) 0)) same;
      can = refl;
      its_work = old_work H client n op j new apart;
      uses = uses;
      heard = refl;
    }))

-- The lines in which another call sends are not the new call's.

pub concerned_old : (H : List Event) (m n j : ℕ) → n ≡ length (works H) → m ≢ n → Concerns H m j → j ≢ n
concerned_old H m n j new apart (inl same) is = apart (sym same ∙ is)
concerned_old H m n j new apart (inr (inl its)) is = let r : j < length (works H) = subst (RefersWithin (length (works H))) its (refers_within H m) in absurd (omega (arith, r, is, new))
concerned_old H m n j new apart (inr (inr its)) is = let r : j < length (works H) = subst (RefersWithin (length (works H))) its (refers_within H m) in absurd (omega (arith, r, is, new))

-- The new call has no rows.

pub over_old : (H : List Event) (client n : ℕ) (op : Op) (j : ℕ) → Lawful (Entered client n op ∷ H) → are_over H j ≡ true → j ≢ n
over_old H client n op j l h is =
    let makes = rows_hand_out H j (over_some (rows_by H j) h) in
    let new = enters_next H client n op l.1 in
    let looks : work H j ≡ Look = no_work_yet H j (omega (arith, new, is)) in
    let clash : false ≡ true = sym (ap hands_out looks) ∙ makes in
    cc

abbrev first_none : Bool → Option DriverCall
first_none b = or_else (cond b None None) None

pub first_push : (H : List Event) (k n : ℕ) (ws : List Work) (it : Work) → close_due H (n + length ws) ≡ None → first_closing H k n (ws ++ it ∷ []) ≡ first_closing H k n ws
first_push H k n [] it none =
    let same : n + 0 ≡ n = omega arith in
    ap (λ d. or_else (cond (hands_out_in k it) d None) None) (sym (ap (close_due H) same) ∙ none) ∙ nothing (hands_out_in k it)
  where
    nothing : (b : Bool) → first_none b ≡ None
    nothing true = refl
    nothing false = refl
first_push H k n (v ∷ ws) it none =
    let same : n + 1 + length ws ≡ n + length (v ∷ ws) = omega arith in
    ap (or_else (cond (hands_out_in k v) (close_due H n) None)) (first_push H k (n + 1) ws it (ap (close_due H) same ∙ none))

entered_closing : (H : List Event) (client n : ℕ) (op : Op) (j : ℕ) → Lawful (Entered client n op ∷ H) → Leaves H (Entered client n op ∷ H) → close_due (Entered client n op ∷ H) j ≡ close_due H j
entered_closing H client n op j l k =
    closing_alike H (Entered client n op ∷ H) j (ap (rows_of j) k.rows) (λ over. other_line H client n op j wishes.Close l (over_old H client n op j l over) k.pool)

entered_ends : (H : List Event) (client n : ℕ) (op : Op) (j : ℕ) → Lawful (Entered client n op ∷ H) → Leaves H (Entered client n op ∷ H) → ending (Entered client n op ∷ H) j ≡ ending H j
entered_ends H client n op j l k =
    let K = Entered client n op ∷ H in
    let last : close_due K (0 + length (works H)) ≡ None =
    let number : 0 + length (works H) ≡ n = let new = next_work H client n op l in omega (arith, new) in
    ap (close_due K) number ∙ (entered_closing H client n op n l k ∙ by (are_over H n) refl)
    in
    ends_alike H K j (ap (thing_of j) k.txs) (ap (home_in j) k.pool) (ap (λ p. place_at p (home H j)) k.pool)
    (record {
      first = first_push K j 0 (works H) (work_of (works H) op) last ∙ first_alike H K j 0 (works H) (λ i. entered_closing H client n op i l k);
      can = refl;
      heard = refl;
    })
  where
    by : (b : Bool) → are_over H n ≡ b → cond b (line_of H n wishes.Close) None ≡ None
    by true is = absurd (over_old H client n op n l is refl)
    by false is = refl

pub sent_entered : (H : List Event) (client n : ℕ) (op : Op) (m : ℕ) → Lawful (Entered client n op ∷ H) → pool (Entered client n op ∷ H) ≡ pool H → m ≢ n → has_begun_to_send (Entered client n op ∷ H) m ≡ has_begun_to_send H m
sent_entered H client n op m l same apart =
    ap (λ i. has_sent m (journal H (home (Entered client n op ∷ H) i))) (same_borrower H client n op m l apart)
    ∙ ap (λ p. has_sent m (journal H (home_in (borrower H m) p))) same

entered_alike : (H : List Event) (client n : ℕ) (op : Op) (m : ℕ) → Lawful (Entered client n op ∷ H) → Leaves H (Entered client n op ∷ H) → m ≢ n → Alike H (Entered client n op ∷ H) m
entered_alike H client n op m l k apart =
    let K = Entered client n op ∷ H in
    let new = enters_next H client n op l.1 in
    let place = next_work H client n op l in
    record {
      unfinished = old_unfinished H client n op m apart;
      its_work = old_work H client n op m new apart;
      live = λ j. ap (λ R. live (rows_of j R)) k.rows;
      enders = λ j. same_ender H (Entered client n op) j (ap (λ R. live (rows_of j R)) k.rows);
      late = λ j its. late j (concerned_old H m n j place apart its);
      going = λ j. going j;
      tx_enders = λ j. same_tx_ender H (Entered client n op) j (going j);
      endings = λ j. entered_ends H client n op j l k;
      lines = λ j w its. other_line H client n op j w l (concerned_old H m n j place apart its) k.pool;
      sent = inl (sent_entered H client n op m l k.pool apart);
      decided = ap (λ r. r.decided) (old_record H client n op m new apart);
    }
  where
    going : (j : ℕ) → goes_on (Entered client n op ∷ H) j ≡ goes_on H j
    going j = same_going (tx_by H j) (tx_by (Entered client n op ∷ H) j) (ap (thing_of j) k.txs)

    late : (j : ℕ) → j ≢ n → is_late (Entered client n op ∷ H) (scope (work (Entered client n op ∷ H) j)) ≡ is_late H (scope (work H j))
    late j away = ap (λ it. is_late (Entered client n op ∷ H) (scope it)) (old_work H client n op j (enters_next H client n op l.1) away) ∙ late_in (scope (work H j))
      where
        late_in : (s : Scope) → is_late (Entered client n op ∷ H) s ≡ is_late H s
        late_in Db = refl
        late_in (Held i) = ap (λ T. is_some (end_of (thing_of i T))) k.txs

pub due_entered : (H : List Event) (client n : ℕ) (op : Op) (m : ℕ) → Lawful (Entered client n op ∷ H) → is_plain op ≡ true → m ≢ n → due_for (Entered client n op ∷ H) m ≡ due_for H m
due_entered H client n op m l plain apart = due_alike H (Entered client n op ∷ H) m (entered_alike H client n op m l (leaves H client n op plain) apart)

-- Each other call rests as before.
pub rests_entered : (H : List Event) (client n : ℕ) (op : Op) (j : ℕ) → Lawful (Entered client n op ∷ H) → j ≢ n → rests (Entered client n op ∷ H) j ≡ rests H j
rests_entered H client n op j l apart =
    ap (λ b. b && asks_nothing (caps H) (work (Entered client n op ∷ H) j) (tries H j)) (old_unfinished H client n op j apart)
    ∙ ap (λ it. is_unfinished H j && asks_nothing (caps H) it (tries H j)) (old_work H client n op j (enters_next H client n op l.1) apart)

-- Lent connections are in use as before if the entry leaves the connections and the use of each.
pub lent_as_entered : (H : List Event) (client n : ℕ) (op : Op) → Lawful (Entered client n op ∷ H) → (pool (Entered client n op ∷ H)).conns ≡ (pool H).conns
    → ((j : ℕ) → j ≢ n → is_used (Entered client n op ∷ H) j ≡ is_used H j) → uses_what_is_lent (Entered client n op ∷ H) ≡ uses_what_is_lent H
lent_as_entered H client n op l conns used =
    ap (λ cs. list_all (λ conn. is_in_use K conn.place) cs) conns
    ∙ all_unlent n (λ conn. is_in_use K conn.place) (λ conn. is_in_use H conn.place) (pool H).conns (new_unlent H client n op l.0 l.1) (λ x. beside x.place)
  where
    K : List Event
    K = Entered client n op ∷ H

    others : (j : ℕ) → j ≢ n → is_kept K j ≡ is_kept H j
    others j apart = ap (λ b. b || rests K j) (used j apart) ∙ ap (λ b. is_used H j || b) (rests_entered H client n op j l apart)

    beside : (p : Place) → is_lent_to n p ≡ false → is_in_use K p ≡ is_in_use H p
    beside (Lent t owner) away = others (number_of owner) (apart_of (number_of owner) n away)
    beside _ away = refl

pub used_entered : (H : List Event) (client n : ℕ) (op : Op) → Lawful (Entered client n op ∷ H) → is_plain op ≡ true → uses_what_is_lent (Entered client n op ∷ H) ≡ uses_what_is_lent H
used_entered H client n op l plain =
    let k = leaves H client n op plain in
    lent_as_entered H client n op l (ap (λ (p : Pooled). p.conns) k.pool)
    (λ j apart. used_alike H (Entered client n op ∷ H) j (ap (thing_of j) k.txs) (ap (rows_of j) k.rows) (entered_ends H client n op j l k) (λ w. other_line H client n op j w l apart k.pool))

-- Where each other call stands.

tries_alike : (H K : List Event) (w : Work) (ts : List Try) → db_end K ≡ db_end H → told_by_tries K w ts ≡ told_by_tries H w ts
tries_alike H K w ts same = ap (λ end. cond (has_a_try ts) (option_map DbClosed end) (last_told (tries_again w (try_number ts)) (try_number ts) ts)) same

inside_told : (H : List Event) (client n : ℕ) (op : Op) (m : ℕ) (it : Work) (s : Scope) → Lawful (Entered client n op ∷ H) → Leaves H (Entered client n op ∷ H) → m ≢ n → told_by_scope (Entered client n op ∷ H) m it s ≡ told_by_scope H m it s
inside_told H client n op m it Db l k apart = tries_alike H (Entered client n op ∷ H) it (tries H m) k.end
inside_told H client n op m it (Held j) l k apart =
    ap (λ b. cond b None (done_with (tx_end (Entered client n op ∷ H) j))) (sent_entered H client n op m l k.pool apart)
    ∙ ap (λ T. cond (has_begun_to_send H m) None (done_with (end_of (thing_of j T)))) k.txs

work_alike : (H : List Event) (client n : ℕ) (op : Op) (m : ℕ) (it : Work) → Lawful (Entered client n op ∷ H) → Leaves H (Entered client n op ∷ H) → m ≢ n → told_of_work (Entered client n op ∷ H) m it ≡ told_of_work H m it
work_alike H client n op m (Fetch k) l same apart = ap (λ R. cond (over (rows_of k R)) (Some (Truth false)) None) same.rows
work_alike H client n op m (Statement s task) l same apart = inside_told H client n op m (Statement s task) s l same apart
work_alike H client n op m (Begin label level read_only) l same apart = inside_told H client n op m (Begin label level read_only) Db l same apart
work_alike H client n op m Ping l same apart = inside_told H client n op m Ping Db l same apart
work_alike H client n op m _ l same apart = refl

settled_entered : (H : List Event) (client n : ℕ) (op : Op) (m : ℕ) → Lawful (Entered client n op ∷ H) → Leaves H (Entered client n op ∷ H) → m ≢ n → is_settled_for (Entered client n op ∷ H) m ≡ is_settled_for H m
settled_entered H client n op m l k apart =
    let K = Entered client n op ∷ H in
    let new = enters_next H client n op l.1 in
    let told : told_by_others K m ≡ told_by_others H m = work_alike H client n op m (work K m) l k apart ∙ ap (told_of_work H m) (old_work H client n op m new apart) in
    ap (λ p. is_some (cond (rests K m) (smallest (is_home m) p) None) || (is_none (decided K m) && is_some (told_by_others K m))) k.pool
    ∙ (ap (λ b. is_some (cond b (smallest (is_home m) (pool H)) None) || (is_none (decided K m) && is_some (told_by_others K m))) (rests_entered H client n op m l apart)
    ∙ (ap (λ r. is_some (rests_with H m) || (is_none r.decided && is_some (told_by_others K m))) (old_record H client n op m new apart) ∙ ap (λ o. is_some (rests_with H m) || (is_none (decided H m) && is_some o)) told))

stand_entered : (H : List Event) (client n : ℕ) (op : Op) (m : ℕ) → Lawful (Entered client n op ∷ H) → is_plain op ≡ true → m ≢ n → is_some (stand H m) ≡ true → is_some (stand (Entered client n op ∷ H) m) ≡ true
stand_entered H client n op m l plain apart h =
    let K = Entered client n op ∷ H in
    let k = leaves H client n op plain in
    let own : is_own_step K m ≡ false = other_number n m (λ same. apart (sym same)) in
    still_stands H K m refl (λ x. ap (λ (p : Pooled). waits m p.waiting) k.pool ∙ x) (λ x. ap (λ p. is_some (smallest (is_for m) p)) k.pool ∙ x) (λ x. ap (λ d. is_some d) (due_entered H client n op m l plain apart) ∙ x)
    (λ x. absurd (never (sym own ∙ x))) (λ x. settled_entered H client n op m l k apart ∙ x) h
  where
    never : false ≡ true → ⊥
    never x = cc

pub goes_on_entered : (H : List Event) (client n : ℕ) (op : Op) → Lawful (Entered client n op ∷ H) → is_plain op ≡ true → calls_stand_but n H ≡ true → calls_stand_but n (Entered client n op ∷ H) ≡ true
goes_on_entered H client n op l plain h =
    let K = Entered client n op ∷ H in
    list_all-append (λ m. (m == n) || is_some (stand K m)) (unfinished H) (n ∷ [])
    ∙ together (list_all (λ m. (m == n) || is_some (stand K m)) (unfinished H)) (((n == n) || is_some (stand K n)) && true)
    (each_stands n n (unfinished H) H K (λ m u apart was. stand_entered H client n op m l plain apart (was apart)) h)
    (together ((n == n) || is_some (stand K n)) true (ap (λ b. b || is_some (stand K n)) (same_itself n)) refl)
