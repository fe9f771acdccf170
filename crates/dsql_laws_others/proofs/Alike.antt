-- If two histories are alike in lines, rows, transactions and settled replies, the same driver calls are due in
-- both. Lent connections are used alike.
use Rattle.std.proofs.Common.{◌≡◌, ℕ, ◌+◌, ◌==◌, Bool, true, false, not, ◌&&◌, ◌||◌, cond, List, [], ◌∷◌, length, ◌<◌, ◌≤◌, Option, Some, None, is_some, is_none, refl, sym, ap, ◌∙◌, ◌⊎◌, inl, inr}
use Rattle.std.specs.List.{list_all, list_any}
use Rattle.dsql_laws_calls.specs.driver.declared.caps.Caps.{Caps}
use Rattle.dsql_laws_calls.specs.driver.declared.call.DriverCall.{DriverCall}
use Rattle.dsql_laws_calls.specs.driver.Kinds.{is_valid, is_ending}
use Rattle.dsql_laws_calls.specs.course.declared.course.Wish.{Wish}
use Rattle.dsql_laws_calls.specs.course.declared.course.Wish.TheVariants as wishes
use Rattle.dsql_laws_calls.specs.course.Made.{or_else}
use Rattle.dsql_laws_calls.specs.journal.declared.entry.Entry.{Entry}
use Rattle.dsql_laws_calls.specs.journal.Kinds.{number_of}
use Rattle.dsql_laws_calls.specs.journal.Readers.{of_tenure, went_bad}
use Rattle.dsql_laws_calls.specs.pool.declared.conn.Conn.{Conn}
use Rattle.dsql_laws_calls.specs.pool.declared.conn.Place.{Place}
use Rattle.dsql_laws_calls.specs.pool.declared.conn.Place.TheVariants.{Lent}
use Rattle.dsql_laws_calls.specs.rows.declared.rows.Rows.{Rows}
use Rattle.dsql_laws_calls.specs.rows.OpenRows.{is_live}
use Rattle.dsql_laws_calls.specs.tx.declared.end.TxEnd.{TxEnd}
use Rattle.dsql_laws_calls.specs.tx.declared.tx.Tx.{Tx as Trans}
use Rattle.dsql_laws_calls.specs.works.Line.{test_of, Asked}
use Rattle.dsql_laws_calls.specs.history.Readers.HandedOut.{live, over, is_late, rows_by, are_live, are_over, ender}
use Rattle.dsql_laws_calls.specs.history.Rules.Wishes.{wish_as}
use Rattle.dsql_laws_calls.proofs.laws_work.Rows.{read_set}
use Rattle.dsql_laws_calls.specs.history.declared.event.Event.{Event}
use Rattle.dsql_laws_calls.specs.history.declared.event.Event.TheVariants.{Replied}
use Rattle.dsql_laws_calls.specs.history.declared.reply.Reply.{Reply}
use Rattle.dsql_laws_calls.specs.history.declared.record.CallRecord.{CallRecord}
use Rattle.dsql_laws_calls.specs.history.declared.work.Scope.{Scope}
use Rattle.dsql_laws_calls.specs.history.declared.work.Scope.TheVariants.{Db, Held}
use Rattle.dsql_laws_calls.specs.history.declared.work.Work.{Work}
use Rattle.dsql_laws_calls.specs.history.declared.work.Work.TheVariants.{Statement, Begin, End, Ping, Fetch, Close, Look}
use Rattle.dsql_laws_calls.specs.history.Readers.Course.{caps}
use Rattle.dsql_laws_calls.specs.history.Readers.Journals.{journal, heard_in}
use Rattle.dsql_laws_calls.specs.history.Readers.Lines.{line_in}
use Rattle.dsql_laws_calls.specs.history.Readers.Calls.{calls, call_record, nobody, decided, site, has_begun_to_send}
use Rattle.dsql_laws_calls.specs.history.Readers.Transactions.{tx_by, end_of, tx_end, is_begun, is_over, goes_on, ending_call, tx_ender}
use Rattle.dsql_laws_calls.specs.history.Readers.Pool.{pool, place, home}
use Rattle.dsql_laws_calls.specs.history.Readers.Unfinished.{is_unfinished}
use Rattle.dsql_laws_calls.specs.history.Readers.Works.{works, work, aim_of, scope, is_fetch, hands_out_in, borrower}
use Rattle.dsql_laws_calls.specs.history.Rules.Sent.{is_reset_due, asked_by, sender, line_with, line_at, line_of, closes, wish, sent_for, close_due}
use Rattle.dsql_laws_calls.specs.history.Rules.Ending.{first_closing, ended_by_call, end_after, ending_at, ending_with, ending}
use Rattle.dsql_laws_calls.specs.history.Rules.Line.{sends_in, due_inside, due_in, due_for, rest_with, is_used}
use Rattle.dsql_laws_calls.specs.history.Rules.Settled.{is_in_use, is_kept, uses_what_is_lent}
use Rattle.dsql_laws_calls.proofs.Inside.{inside_uses}
use Rattle.dsql_laws_calls.proofs.Begun.{stays_begun, stays_over}
use Rattle.dsql_laws_calls.proofs.Lines.{same_sender}

-- Holds if call m sends in the line of call j: in its own line, or for the rows of call j.
abbrev pub Concerns : List Event → ℕ → ℕ → Type 0
Concerns H m j = (j ≡ m) ⊎ ((work H m ≡ Fetch j) ⊎ (work H m ≡ Close j))

-- Two histories that are alike in what call m sends, whatever is wanted of rows.
pub record Alike (H K : List Event) (m : ℕ) : Type 0 where
  pub unfinished : is_unfinished K m ≡ is_unfinished H m
  pub its_work : work K m ≡ work H m
  pub live : (k : ℕ) → are_live K k ≡ are_live H k
  pub enders : (k : ℕ) → ender K k ≡ ender H k
  pub late : (k : ℕ) → Concerns H m k → is_late K (scope (work K k)) ≡ is_late H (scope (work H k))
  pub going : (k : ℕ) → goes_on K k ≡ goes_on H k
  pub tx_enders : (k : ℕ) → tx_ender K k ≡ tx_ender H k
  pub endings : (k : ℕ) → ending K k ≡ ending H k
  pub lines : (n : ℕ) (w : Wish) → Concerns H m n → line_of K n w ≡ line_of H n w
  pub sent : (has_begun_to_send K m ≡ has_begun_to_send H m) ⊎ ((n : ℕ) (w : Wish) → borrower H n ≡ borrower H m → line_of H n w ≡ None)
  pub decided : decided K m ≡ decided H m

sent_alike : (H K : List Event) (k : ℕ) (w : Wish) → ((v : Wish) → line_of K k v ≡ line_of H k v) → sent_for K k w ≡ sent_for H k w
sent_alike H K k wishes.Nothing same = refl
sent_alike H K k wishes.Fetch same = same wishes.Fetch
sent_alike H K k wishes.Close same = same wishes.Close

pub none_sent : (H : List Event) (k : ℕ) (w : Wish) → ((v : Wish) → line_of H k v ≡ None) → sent_for H k w ≡ None
none_sent H k wishes.Nothing none = refl
none_sent H k wishes.Fetch none = none wishes.Fetch
none_sent H k wishes.Close none = none wishes.Close

wish_alike : (H K : List Event) (m k : ℕ) → Alike H K m → closes K m k ≡ closes H m k → wish K m k ≡ wish H m k
wish_alike H K m k a same =
    ap (λ b. wish_as b (is_fetch (work K m) && (are_live K k && is_none (decided K m)))) same
    ∙ (ap (λ w. wish_as (closes H m k) (is_fetch w && (are_live K k && is_none (decided K m)))) a.its_work
    ∙ (ap (λ b. wish_as (closes H m k) (is_fetch (work H m) && (b && is_none (decided K m)))) (a.live k)
    ∙ ap (λ d. wish_as (closes H m k) (is_fetch (work H m) && (are_live H k && is_none d))) a.decided))

closes_alike : (H K : List Event) (m k : ℕ) → Alike H K m → Concerns H m k → closes K m k ≡ ((ender H k == m) && (not (is_late H (scope (work H k))) || has_begun_to_send K m))
closes_alike H K m k a its =
    ap (λ e. (e == m) && (not (is_late K (scope (work K k))) || has_begun_to_send K m)) (a.enders k)
    ∙ ap (λ b. (ender H k == m) && (not b || has_begun_to_send K m)) (a.late k its)

in_time : (x late a b : Bool) → late ≡ false → (x && (not late || a)) ≡ (x && (not late || b))
in_time x late a b is = rw is refl

pub late_scope : (H : List Event) (s : Scope) → is_late H s ≡ true → (j : ℕ) × (s ≡ Held j)
late_scope H Db h = absurd cc
late_scope H (Held j) h = (j, refl)

rows_uses : (H : List Event) (m k j : ℕ) → (work H m ≡ Fetch k) ⊎ (work H m ≡ Close k) → scope (work H k) ≡ Held j → borrower H m ≡ j
rows_uses H m k j (inl is) s = rw (is, s) refl
rows_uses H m k j (inr is) s = rw (is, s) refl

over_alike : (H K : List Event) (m k : ℕ) → (work H m ≡ Fetch k) ⊎ (work H m ≡ Close k) → Alike H K m → sent_for K k (wish K m k) ≡ sent_for H k (wish H m k)
over_alike H K m k its a = by a.sent (is_late H (scope (work H k))) refl
  where
    with_wish : closes K m k ≡ closes H m k → sent_for K k (wish K m k) ≡ sent_for H k (wish H m k)
    with_wish same = ap (sent_for K k) (wish_alike H K m k a same) ∙ sent_alike H K k (wish H m k) (λ v. a.lines k v (inr its))

    by : (has_begun_to_send K m ≡ has_begun_to_send H m) ⊎ ((n : ℕ) (w : Wish) → borrower H n ≡ borrower H m → line_of H n w ≡ None) → (b : Bool) → is_late H (scope (work H k)) ≡ b
        → sent_for K k (wish K m k) ≡ sent_for H k (wish H m k)
    by (inl same) b is = with_wish (closes_alike H K m k a (inr its) ∙ ap (λ b. (ender H k == m) && (not (is_late H (scope (work H k))) || b)) same)
    by (inr none) false is = with_wish (closes_alike H K m k a (inr its) ∙ in_time (ender H k == m) (is_late H (scope (work H k))) (has_begun_to_send K m) (has_begun_to_send H m) is)
    by (inr none) true is =
        let s = late_scope H (scope (work H k)) is in
        let its_own : borrower H k ≡ borrower H m = inside_uses H k s.0 s.1 ∙ sym (rows_uses H m k s.0 its s.1) in
        none_sent K k (wish K m k) (λ v. a.lines k v (inr its) ∙ none k v its_own) ∙ sym (none_sent H k (wish H m k) (λ v. none k v its_own))

pub none_anyway : (b : Bool) (d : Option DriverCall) → d ≡ None → cond b d None ≡ None
none_anyway true d h = h
none_anyway false d h = refl

inside_alike : (H K : List Event) (m : ℕ) (s : Scope) → Alike H K m → due_inside K m s ≡ due_inside H m s
inside_alike H K m Db a = a.lines m wishes.Nothing (inl refl)
inside_alike H K m (Held k) a = by a.sent
  where
    by : (has_begun_to_send K m ≡ has_begun_to_send H m) ⊎ ((n : ℕ) (w : Wish) → borrower H n ≡ borrower H m → line_of H n w ≡ None) → due_inside K m (Held k) ≡ due_inside H m (Held k)
    by (inl same) =
        ap (λ b. cond (b || (goes_on K k && is_none (decided K m))) (line_of K m wishes.Nothing) None) same
        ∙ (ap (λ b. cond (has_begun_to_send H m || (b && is_none (decided K m))) (line_of K m wishes.Nothing) None) (a.going k)
        ∙ (ap (λ r. cond (has_begun_to_send H m || (goes_on H k && is_none r)) (line_of K m wishes.Nothing) None) a.decided
        ∙ ap (λ d. cond (sends_in H m k) d None) (a.lines m wishes.Nothing (inl refl))))
    by (inr none) =
        let here = none m wishes.Nothing refl in
        none_anyway (sends_in K m k) (line_of K m wishes.Nothing) (a.lines m wishes.Nothing (inl refl) ∙ here) ∙ sym (none_anyway (sends_in H m k) (line_of H m wishes.Nothing) here)

in_alike : (H K : List Event) (m : ℕ) (w : Work) → work H m ≡ w → Alike H K m → due_in K m w ≡ due_in H m w
in_alike H K m (Fetch k) is a = over_alike H K m k (inl is) a
in_alike H K m (Close k) is a = over_alike H K m k (inr is) a
in_alike H K m (End k) is a = ap (λ e. cond (e == m) (ending K k) None) (a.tx_enders k) ∙ ap (λ d. cond (tx_ender H k == m) d None) (a.endings k)
in_alike H K m Look is a = refl
in_alike H K m (Statement s task) is a = inside_alike H K m s a
in_alike H K m (Begin label level read_only) is a = inside_alike H K m Db a
in_alike H K m Ping is a = inside_alike H K m Db a

pub due_alike : (H K : List Event) (m : ℕ) → Alike H K m → due_for K m ≡ due_for H m
due_alike H K m a =
    ap (λ b. cond b (due_in K m (work K m)) None) a.unfinished
    ∙ (ap (λ w. cond (is_unfinished H m) (due_in K m w) None) a.its_work ∙ ap (λ d. cond (is_unfinished H m) d None) (in_alike H K m (work H m) refl a))

-- Lent connections are used alike.

rest_alike : (H K : List Event) (n : ℕ) (o : Option Rows) → ((w : Wish) → line_of K n w ≡ line_of H n w) → rest_with K n o ≡ rest_with H n o
rest_alike H K n None same = same wishes.Nothing
rest_alike H K n (Some rows) same = ap (λ d. cond (is_live rows) None d) (same wishes.Close)

used_as : (H K : List Event) (n : ℕ) (o p : Option Trans) (q r : Option Rows) (d e : Option DriverCall) → p ≡ o → r ≡ q → e ≡ d → rest_with K n q ≡ rest_with H n q
    → ((is_some p && not (is_some (end_of p))) || (live r || is_some (cond (is_some p) e (rest_with K n r)))) ≡ ((is_some o && not (is_some (end_of o))) || (live q || is_some (cond (is_some o) d (rest_with H n q))))
used_as H K n o p q r d e same rows ends rest = rw (same, rows, ends, rest) refl

pub used_alike : (H K : List Event) (n : ℕ) → tx_by K n ≡ tx_by H n → rows_by K n ≡ rows_by H n → ending K n ≡ ending H n → ((w : Wish) → line_of K n w ≡ line_of H n w) → is_used K n ≡ is_used H n
used_alike H K n txs rows ends same = used_as H K n (tx_by H n) (tx_by K n) (rows_by H n) (rows_by K n) (ending H n) (ending K n) txs rows ends (rest_alike H K n (rows_by H n) same)

pub in_use_alike : (H K : List Event) (place : Place) → ((n : ℕ) → is_kept K n ≡ is_kept H n) → is_in_use K place ≡ is_in_use H place
in_use_alike H K (Lent t owner) same = same (number_of owner)
in_use_alike H K _ same = refl

pub all_alike : (q r : Conn → Bool) (conns : List Conn) → ((x : Conn) → q x ≡ r x) → list_all q conns ≡ list_all r conns
all_alike q r [] same = refl
all_alike q r (x ∷ xs) same = ap (λ b. b && list_all q xs) (same x) ∙ ap (λ b. r x && b) (all_alike q r xs same)

pub lent_alike : (H K : List Event) → (pool K).conns ≡ (pool H).conns → ((n : ℕ) → is_kept K n ≡ is_kept H n) → uses_what_is_lent K ≡ uses_what_is_lent H
lent_alike H K conns same =
    ap (λ cs. list_all (λ conn. is_in_use K conn.place) cs) conns
    ∙ all_alike (λ conn. is_in_use K conn.place) (λ conn. is_in_use H conn.place) (pool H).conns (λ x. in_use_alike H K x.place same)

-- Two histories that are alike in everything on which a line on connection c depends.
pub record SameLine (H K : List Event) (n c : ℕ) : Type 0 where
  pub asked : asked_by K n ≡ asked_by H n
  pub resets : is_reset_due K c ≡ is_reset_due H c
  pub can : caps K ≡ caps H
  pub its_work : work K n ≡ work H n
  pub uses : borrower K n ≡ borrower H n
  pub heard : journal K c ≡ journal H c

pub line_asked : (H K : List Event) (n : ℕ) (w : Wish) (c : ℕ) (at : Option Place) → SameLine H K n c → line_at K n w c at ≡ line_at H n w c at
line_asked H K n w c (Some (Lent t own)) p =
    ap (λ b. cond (number_of own == b) (line_with (sender K n c w) (line_in own n (heard_in K c t))) None) p.uses
    ∙ ap (λ d. cond (number_of own == borrower H n) d None)
    (ap (λ J. line_with (sender K n c w) (line_in own n (of_tenure t J))) p.heard
    ∙ ap (λ S. line_with S (line_in own n (heard_in H c t))) (same_sender H K n c w p.can p.resets p.heard p.asked p.its_work))
line_asked H K n w c _ p = refl

-- What ends a transaction.

pub first_alike : (H K : List Event) (k n : ℕ) (ws : List Work) → ((j : ℕ) → close_due K j ≡ close_due H j) → first_closing K k n ws ≡ first_closing H k n ws
first_alike H K k n [] same = refl
first_alike H K k n (it ∷ later) same =
    ap (λ d. or_else (cond (hands_out_in k it) d None) (first_closing K k (n + 1) later)) (same n)
    ∙ ap (λ d. or_else (cond (hands_out_in k it) (close_due H n) None) d) (first_alike H K k (n + 1) later same)

-- Two histories that are alike in everything on which the end of transaction k on connection c depends.
pub record SameEnd (H K : List Event) (k c : ℕ) : Type 0 where
  pub first : first_closing K k 0 (works K) ≡ first_closing H k 0 (works H)
  pub can : caps K ≡ caps H
  pub heard : journal K c ≡ journal H c

abbrev end_after_with : Caps → Bool → TxEnd → List Entry → Option DriverCall
end_after_with can bad end heard = cond (list_any (λ e. is_ending e.call) heard) (cond (bad || list_any (λ e. is_valid e.call) heard) None (test_of can)) (Some (ended_by_call end))

pub ending_alike : (H K : List Event) (k c : ℕ) (end : TxEnd) (at : Option Place) → SameEnd H K k c → ending_at K k c end at ≡ ending_at H k c end at
ending_alike H K k c end (Some (Lent t own)) p =
    ap (λ f. cond (number_of own == k) (or_else f (end_after K (went_bad (journal K c)) end (heard_in K c t))) None) p.first
    ∙ ap (λ d. cond (number_of own == k) (or_else (first_closing H k 0 (works H)) d) None)
    (ap (λ J. end_after K (went_bad J) end (of_tenure t J)) p.heard ∙ after (caps K) p.can)
  where
    after : (can : Caps) → can ≡ caps H → end_after_with can (went_bad (journal H c)) end (heard_in H c t) ≡ end_after H (went_bad (journal H c)) end (heard_in H c t)
    after can same = ap (λ it. end_after_with it (went_bad (journal H c)) end (heard_in H c t)) same
ending_alike H K k c end _ p = refl

-- A transaction that is over is ended alike if its connection and its lines are alike.
pub ends_alike : (H K : List Event) (k : ℕ) → tx_by K k ≡ tx_by H k → home K k ≡ home H k → place K (home H k) ≡ place H (home H k) → SameEnd H K k (home H k) → ending K k ≡ ending H k
ends_alike H K k txs homes places p = ap (λ o. ending_with K k (end_of o)) txs ∙ with_end (tx_end H k)
  where
    with_end : (o : Option TxEnd) → ending_with K k o ≡ ending_with H k o
    with_end None = refl
    with_end (Some end) = ap (λ d. ending_at K k d end (place K d)) homes ∙ (ap (λ at. ending_at K k (home H k) end at) places ∙ ending_alike H K k (home H k) end (place H (home H k)) p)

pub closing_alike : (H K : List Event) (j : ℕ) → rows_by K j ≡ rows_by H j → (are_over H j ≡ true → line_of K j wishes.Close ≡ line_of H j wishes.Close) → close_due K j ≡ close_due H j
closing_alike H K j rows lines = ap (λ o. cond (over o) (line_of K j wishes.Close) None) rows ∙ by (are_over H j) lines
  where
    by : (b : Bool) → (b ≡ true → line_of K j wishes.Close ≡ line_of H j wishes.Close) → cond b (line_of K j wishes.Close) None ≡ cond b (line_of H j wishes.Close) None
    by true so = so refl
    by false so = refl

pub closings_alike : (H K : List Event) (k : ℕ) → works K ≡ works H → ((j : ℕ) → rows_by K j ≡ rows_by H j) → ((n : ℕ) (w : Wish) → line_of K n w ≡ line_of H n w) → first_closing K k 0 (works K) ≡ first_closing H k 0 (works H)
closings_alike H K k same rows lines = ap (first_closing K k 0) same ∙ first_alike H K k 0 (works H) (λ j. closing_alike H K j (rows j) (λ over. lines j wishes.Close))

-- The call that ended a transaction stays the same if whether the transaction goes on stays the same.

pub unended_tx : (H : List Event) (k : ℕ) → is_over H k ≡ false → tx_ender H k ≡ 0
unended_tx [] k h = refl
unended_tx (e ∷ H) k h = by (is_over H k) (is_begun H k) refl refl (unended_tx H k)
  where
    never : true ≡ false → ⊥
    never x = cc

    by : (o b : Bool) → is_over H k ≡ o → is_begun H k ≡ b → (o ≡ false → tx_ender H k ≡ 0) → cond (b && not o) (cond (goes_on (e ∷ H) k) 0 (ending_call e)) (tx_ender H k) ≡ 0
    by true b over begun rest = absurd (never (sym (stays_over H e k over) ∙ h))
    by false false over begun rest = rest refl
    by false true over begun rest =
        ap (λ x. cond {A = ℕ} (x && not (is_over (e ∷ H) k)) 0 (ending_call e)) (stays_begun H e k begun)
        ∙ ap (λ x. cond {A = ℕ} (not x) 0 (ending_call e)) h

pub same_tx_ender : (H : List Event) (e : Event) (k : ℕ) → goes_on (e ∷ H) k ≡ goes_on H k → tx_ender (e ∷ H) k ≡ tx_ender H k
same_tx_ender H e k same = by (is_begun H k) (is_over H k) refl refl
  where
    by : (b o : Bool) → is_begun H k ≡ b → is_over H k ≡ o → cond (goes_on H k) (cond (goes_on (e ∷ H) k) 0 (ending_call e)) (tx_ender H k) ≡ tx_ender H k
    by true false begun over =
        let goes : goes_on H k ≡ true = ap (λ x. x && not (is_over H k)) begun ∙ ap (λ x. not x) over in
        let none = unended_tx H k over in
        rw (same, goes, none) refl
    by true true begun over = let gone : goes_on H k ≡ false = ap (λ x. x && not (is_over H k)) begun ∙ ap (λ x. not x) over in rw gone refl
    by false o begun over = let gone : goes_on H k ≡ false = ap (λ x. x && not (is_over H k)) begun in rw gone refl

-- A reply leaves what each call asks.
pub asked_replied : (H : List Event) (m : ℕ) (reply : Reply) (n : ℕ) → asked_by (Replied m reply ∷ H) n ≡ asked_by H n
asked_replied H m reply n = by (read_set (calls H) m (record (call_record H m) { decided = None }) n nobody)
  where
    stated : CallRecord → Asked
    stated r = record { text = r.text; params = r.params; aim = aim_of (work H n) }

    by : ((n ≡ m) × (m < length (calls H)) × (call_record (Replied m reply ∷ H) n ≡ record (call_record H m) { decided = None }))
        ⊎ ((n ≡ m → length (calls H) ≤ m) × (call_record (Replied m reply ∷ H) n ≡ call_record H n))
        → asked_by (Replied m reply ∷ H) n ≡ asked_by H n
    by (inl w) = ap stated w.2 ∙ ap (λ k. stated (call_record H k)) (sym w.0)
    by (inr w) = ap stated w.1

pub replied_lines : (H : List Event) (m : ℕ) (reply : Reply) (n : ℕ) (w : Wish) → line_of (Replied m reply ∷ H) n w ≡ line_of H n w
replied_lines H m reply n w =
    line_asked H (Replied m reply ∷ H) n w (site H n) (place H (site H n)) (record { asked = asked_replied H m reply n; resets = refl; can = refl; its_work = refl; uses = refl; heard = refl })
