-- What is under way: the connection that it uses, and why that connection is in use.
use Rattle.std.proofs.Common.{◌≡◌, ◌≢◌, ℕ, ◌+◌, ◌==◌, ◌⊎◌, inl, inr, Bool, true, false, ◌&&◌, ◌||◌, cond, List, [], ◌∷◌, Option, Some, None, is_some, is_none, get_or, refl, sym, ap, subst, ◌∙◌, suc, arith}
use Rattle.dsql_laws.specs.driver.declared.call.DriverCall.{DriverCall}
use Rattle.dsql_laws.specs.driver.Kinds.{is_ending}
use Rattle.dsql_laws.specs.course.declared.course.Wish.{Wish}
use Rattle.dsql_laws.specs.course.declared.course.Wish.TheVariants as wishes
use Rattle.dsql_laws.specs.course.Made.{Exchange, or_else}
use Rattle.dsql_laws.specs.journal.declared.entry.Entry.{Entry}
use Rattle.dsql_laws.specs.journal.declared.entry.Owner.{Owner}
use Rattle.dsql_laws.specs.journal.Kinds.{is_call, number_of}
use Rattle.dsql_laws.specs.journal.Readers.{went_bad, of_tenure}
use Rattle.dsql_laws.specs.pool.declared.conn.Place.TheVariants.{Lent}
use Rattle.dsql_laws.specs.tx.declared.end.TxEnd.{TxEnd}
use Rattle.dsql_laws.specs.works.Exchanges.{exchanges}
use Rattle.dsql_laws.specs.works.Line.{handed}
use Rattle.dsql_laws.specs.works.declared.work.Aim.TheVariants as aims
use Rattle.dsql_laws_work.proofs.CallLines.{step}
use Rattle.dsql_laws_work.proofs.MadeLines.{MadeAt}
use Rattle.dsql_laws.specs.history.Readers.HandedOut.{over, rows_by, are_over}
use Rattle.dsql_laws.specs.history.Rules.Wishes.{newest_sender}
use Rattle.dsql_laws.proofs.Tests.{same_number, same_itself, other_number}
use Rattle.dsql_laws.specs.history.declared.event.Event.{Event}
use Rattle.dsql_laws.specs.history.declared.work.Scope.TheVariants.{Held}
use Rattle.dsql_laws.specs.history.declared.work.Work.{Work}
use Rattle.dsql_laws.specs.history.declared.work.Work.TheVariants.{Statement, Fetch, Close, Look}
use Rattle.dsql_laws.specs.history.Readers.Course.{caps}
use Rattle.dsql_laws.specs.history.Readers.Unfinished.{is_unfinished}
use Rattle.dsql_laws.specs.history.Readers.Works.{works, work, scope, borrower, hands_out_in, aim_of}
use Rattle.dsql_laws.specs.history.Readers.Journals.{journal, heard_in}
use Rattle.dsql_laws.specs.history.Readers.Lines.{line_among, has_sent}
use Rattle.dsql_laws.specs.history.Readers.Pool.{place, home}
use Rattle.dsql_laws.specs.history.Readers.Transactions.{tx_end, is_over, goes_on}
use Rattle.dsql_laws.specs.history.Readers.Calls.{decided, site, has_begun_to_send}
use Rattle.dsql_laws.specs.history.Rules.Sent.{asked_by, line_at, line_of, close_due}
use Rattle.dsql_laws.specs.history.Rules.Ending.{first_closing, ended_by_call, end_after, ending_at, ending_with, ending}
use Rattle.dsql_laws.specs.history.Rules.Line.{due_in, due_for, if_sending, holder_at, holder, is_due}
use Rattle.dsql_laws.specs.history.Legal.{Lawful}
use Rattle.dsql_laws_calls.specs.Chores.{is_lent_for}
use Rattle.dsql_laws_calls.proofs.Owners.{at_home}
use Rattle.dsql_laws_calls.proofs.Plain.{no_ending_due, at_ends}
use Rattle.dsql_laws_calls.proofs.Lines.{line_there, line_here}
use Rattle.dsql_laws_calls.proofs.Own.{DueNow}
use Rattle.dsql_laws_calls.proofs.Tidying.{ending_lent}
use Rattle.dsql_laws_calls.proofs.Inside.{inside_uses, number_not}
use Rattle.dsql_laws_calls.proofs.Quiet.{Quiet}
use Rattle.dsql_laws_calls.proofs.InnerLines.{Ordered}
use Rattle.dsql_laws_calls.proofs.CallTenures.{call_line}
use Rattle.dsql_laws_calls.proofs.Why.{ended_there, test_there, Closes, Left, Why, scoped}

-- What holds, on a lent connection, of the calls in its transaction.

-- Returns what was exchanged in the line of call m.
abbrev pub line_made : List Event → ℕ → ℕ → ℕ → List Exchange
line_made H c t m = exchanges (line_among m (heard_in H c t))

-- Is true if call m handed rows out there.
abbrev pub handed_there : List Event → ℕ → ℕ → ℕ → Bool
handed_there H c t m = is_some (handed (aim_of (work H m)) (line_made H c t m))

-- Holds if call m sent the newest driver call of the tenure, and no end of the transaction was heard. The
-- call's driver calls came in their order.
pub record Newest (H : List Event) (c t m : ℕ) : Type 0 where
  pub sender : newest_sender (heard_in H c t) ≡ m
  pub none : ended_there (heard_in H c t) ≡ false
  pub ordered : (asked_by H m).aim ≡ aims.ReadOne → went_bad (journal H c) ≡ false → Ordered (line_made H c t m)

-- Holds if a call that has begun to send handed rows out, sent the newest driver call, or has nothing more to
-- send for good.
abbrev pub Going : List Event → ℕ → ℕ → ℕ → Type 0
Going H c t m = (handed_there H c t m ≡ true) ⊎ (Newest H c t m ⊎ Quiet (caps H) (went_bad (journal H c)) (asked_by H m) (line_made H c t m))

-- What holds of each lent connection.
pub record Facts (H : List Event) : Type 0 where
  -- No end was heard for a transaction that isn't over.
  pub ends : (c t : ℕ) (own : Owner) → place H c ≡ Some (Lent t own) → is_over H (number_of own) ≡ false → ended_there (heard_in H c t) ≡ false
  pub going : (c t : ℕ) (own : Owner) → place H c ≡ Some (Lent t own) → (m : ℕ) → scope (work H m) ≡ Held (number_of own) → is_unfinished H m ≡ true → has_sent m (journal H c) ≡ true → Going H c t m
  -- What was exchanged in a call's tenure fits how far that tenure has come.
  pub made : (c t : ℕ) (own : Owner) → place H c ≡ Some (Lent t own) → is_call own ≡ true → MadeAt (caps H) (asked_by H (number_of own)) (step (heard_in H c t)) (exchanges (heard_in H c t))

-- Holds if this driver call is due in the line of call m, a call in a transaction. Either no end of the
-- transaction was heard, or the call handed rows out.
pub record InsideWay (H : List Event) (c t : ℕ) (own : Owner) (m : ℕ) (q : DriverCall) : Type 0 where
  pub due : is_due (line_there H c t own m wishes.Nothing) q ≡ true
  pub left : (ended_there (heard_in H c t) ≡ false) ⊎ (handed_there H c t m ≡ true)

pub record UnderWay (H : List Event) (e : Entry) : Type 0 where
  pub owner : Owner
  pub lent : place H e.conn ≡ Some (Lent e.tenure owner)
  pub borrowed : e.call_no ≢ 0 → borrower H e.call_no ≡ number_of owner
  pub unfinished : e.call_no ≢ 0 → is_unfinished H e.call_no ≡ true
  pub rowed : (j : ℕ) → (work H e.call_no ≡ Fetch j) ⊎ (work H e.call_no ≡ Close j) → is_some (rows_by H j) ≡ true
  pub why : Why H e.conn e.tenure owner e.call_no
  pub ending : is_ending e.call ≡ true → is_over H (number_of owner) ≡ true
  pub within : scope (work H e.call_no) ≡ Held (number_of owner) → InsideWay H e.conn e.tenure owner e.call_no e.call
  pub line : is_call owner ≡ true → (w : Wish) × (is_due (call_line H e.conn e.tenure owner w) e.call ≡ true)
  pub turn : (m : ℕ) → m ≢ e.call_no → newest_sender (heard_in H e.conn e.tenure) ≡ m → scope (work H m) ≡ Held (number_of owner) → is_unfinished H m ≡ true → is_some (line_there H e.conn e.tenure owner m wishes.Nothing) ≡ false

pub clash : {A : Type 0} → true ≡ false → A
clash h = absurd cc

-- If something is due for a transaction, something is left of that transaction.

pub at_number : (H : List Event) (k c t : ℕ) (own : Owner) → is_some (ending H k) ≡ true → home H k ≡ c → place H c ≡ Some (Lent t own) → number_of own ≡ k
at_number H k c t own some at is =
    let lent : is_lent_for k (Some (Lent t own)) ≡ true = sym (ap (is_lent_for k) (ap (place H) at ∙ is)) ∙ ending_lent H k some in
    same_number (number_of own) k lent

pub ending_over : (H : List Event) (k : ℕ) → is_some (ending H k) ≡ true → is_over H k ≡ true
ending_over H k h = by (tx_end H k) h
  where
    by : (o : Option TxEnd) → is_some (ending_with H k o) ≡ true → is_some o ≡ true
    by None x = absurd cc
    by (Some end) x = refl

record First (H : List Event) (k n : ℕ) (ws : List Work) : Type 0 where
  index : ℕ
  hands : hands_out_in k (get_or ws index Look) ≡ true
  some : is_some (close_due H (n + index)) ≡ true

first_of : (H : List Event) (k n : ℕ) (ws : List Work) → is_some (first_closing H k n ws) ≡ true → First H k n ws
first_of H k n [] h = absurd cc
first_of H k n (w ∷ ws) h = by (first_of H k (n + 1) ws) (hands_out_in k w) (close_due H n) refl refl h
  where
    by : (is_some (first_closing H k (n + 1) ws) ≡ true → First H k (n + 1) ws) → (b : Bool) (o : Option DriverCall) → hands_out_in k w ≡ b → close_due H n ≡ o → is_some (or_else (cond b o None) (first_closing H k (n + 1) ws)) ≡ true → First H k n (w ∷ ws)
    by rest true (Some q) hands is x = record { index = 0; hands = hands; some = subst (λ i. is_some (close_due H i) ≡ true) (omega arith) (ap (λ o. is_some o) is) }
    by rest true None hands is x = let f = rest x in record { index = suc f.index; hands = f.hands; some = subst (λ i. is_some (close_due H i) ≡ true) (omega arith) f.some }
    by rest false o hands is x = let f = rest x in record { index = suc f.index; hands = f.hands; some = subst (λ i. is_some (close_due H i) ≡ true) (omega arith) f.some }

closes_of : (H : List Event) (c t : ℕ) (own : Owner) (k : ℕ) → Lawful H → place H c ≡ Some (Lent t own) → hands_out_in (number_of own) (work H k) ≡ true → is_some (close_due H k) ≡ true → Closes H c t own k
closes_of H c t own k l is hands some = by (are_over H k) refl some
  where
    by : (b : Bool) → are_over H k ≡ b → is_some (cond b (line_of H k wishes.Close) None) ≡ true → Closes H c t own k
    by true over x = record { hands = hands; over = over; sends = ap (λ d. is_some d) (sym (line_here H c t own k wishes.Close l is (inside_uses H k (number_of own) (scoped (work H k) (number_of own) hands)))) ∙ x }
    by false over x = absurd cc

pub left_of : (H : List Event) (c t : ℕ) (own : Owner) → Lawful H → place H c ≡ Some (Lent t own) → is_some (ending H (number_of own)) ≡ true → Left H c t own
left_of H c t own l is some = by (tx_end H (number_of own)) some
  where
    tested : (b : Bool) (end : TxEnd) → ended_there (heard_in H c t) ≡ b → is_some (cond b (test_there H c t) (Some (ended_by_call end))) ≡ true → Left H c t own
    tested true end is x = inr (inr x)
    tested false end is x = inl is

    parts : (o : Option DriverCall) (end : TxEnd) → first_closing H (number_of own) 0 (works H) ≡ o → is_some (or_else o (end_after H (went_bad (journal H c)) end (heard_in H c t))) ≡ true → Left H c t own
    parts None end first x = tested (ended_there (heard_in H c t)) end refl x
    parts (Some q) end first x =
        let f = first_of H (number_of own) 0 (works H) (ap (λ o. is_some o) first) in
        inr (inl (f.index, closes_of H c t own f.index l is f.hands (subst (λ i. is_some (close_due H i) ≡ true) (omega arith) f.some)))

    here : (end : TxEnd) → is_some (ending_at H (number_of own) (home H (number_of own)) end (place H (home H (number_of own)))) ≡ true
        → is_some (or_else (first_closing H (number_of own) 0 (works H)) (end_after H (went_bad (journal H c)) end (heard_in H c t))) ≡ true
    here end x =
        sym (ap (λ d. is_some d)
        (ap (λ d. ending_at H (number_of own) d end (place H d)) (at_home H c t own l is) ∙ ap (λ at. ending_at H (number_of own) c end at) is
        ∙ ap (λ b. cond b (or_else (first_closing H (number_of own) 0 (works H)) (end_after H (went_bad (journal H c)) end (heard_in H c t))) None) (same_itself (number_of own))))
        ∙ x

    by : (o : Option TxEnd) → is_some (ending_with H (number_of own) o) ≡ true → Left H c t own
    by None x = absurd cc
    by (Some end) x = parts (first_closing H (number_of own) 0 (works H)) end refl (here end x)

-- A line that is due on a connection belongs to a call that uses the connection.
pub line_at_its : (H : List Event) (n c t : ℕ) (own : Owner) (w : Wish) (q : DriverCall) → site H n ≡ c → place H c ≡ Some (Lent t own) → is_due (line_of H n w) q ≡ true → number_of own ≡ borrower H n
line_at_its H n c t own w q at is h = by (number_of own == borrower H n) refl (ap (λ d. is_due d q) (sym here) ∙ h)
  where
    here : line_of H n w ≡ cond (number_of own == borrower H n) (line_there H c t own n w) None
    here = ap (λ d. line_at H n w d (place H d)) at ∙ ap (λ p. line_at H n w c p) is

    by : (b : Bool) → (number_of own == borrower H n) ≡ b → is_due (cond b (line_there H c t own n w) None) q ≡ true → number_of own ≡ borrower H n
    by true same k = same_number (number_of own) (borrower H n) same
    by false same k = absurd cc

-- A line ends no transaction.
pub no_ending : (H : List Event) (n : ℕ) (w : Wish) (q : DriverCall) → is_due (line_of H n w) q ≡ true → is_ending q ≡ false
no_ending H n w q h = no_ending_due (line_of H n w) q (at_ends H n w (site H n) (place H (site H n))) h

-- The call that has the turn.

pub newest_sent : (m t : ℕ) (J : List Entry) → newest_sender (of_tenure t J) ≡ m → m ≢ 0 → has_sent m J ≡ true
newest_sent m t [] h some = absurd (some (sym h))
newest_sent m t (e ∷ J) h some = by (newest_sent m t J) (e.tenure == t) h
  where
    later : (b : Bool) → has_sent m J ≡ true → (b || has_sent m J) ≡ true
    later true k = refl
    later false k = k

    by : (newest_sender (of_tenure t J) ≡ m → m ≢ 0 → has_sent m J ≡ true) → (b : Bool) → newest_sender (cond b (e ∷ of_tenure t J) (of_tenure t J)) ≡ m → ((e.call_no == m) || has_sent m J) ≡ true
    by rest true k = ap (λ b. b || has_sent m J) (ap (λ j. j == m) k ∙ same_itself m)
    by rest false k = later (e.call_no == m) (rest k some)

pub turn_of : (H : List Event) (e : Entry) → Lawful H → (d : DueNow H e) → (m : ℕ) → m ≢ e.call_no → newest_sender (heard_in H e.conn e.tenure) ≡ m → scope (work H m) ≡ Held (number_of d.owner) → is_unfinished H m ≡ true
    → is_some (line_there H e.conn e.tenure d.owner m wishes.Nothing) ≡ false
turn_of H e l d m apart newest is u = by (is_some (line_there H e.conn e.tenure d.owner m wishes.Nothing)) refl
  where
    at : borrower H m ≡ number_of d.owner
    at = inside_uses H m (number_of d.owner) is

    here : site H m ≡ e.conn
    here = ap (home H) at ∙ at_home H e.conn e.tenure d.owner l d.lent

    some : m ≢ 0
    some none = never (m == 0) (ap (λ j. j == 0) none) (number_not H m (number_of d.owner) is)
      where
        never : (b : Bool) → b ≡ true → b ≡ false → ⊥
        never b x y = cc

    begun_to : has_begun_to_send H m ≡ true
    begun_to = ap (λ c. has_sent m (journal H c)) here ∙ newest_sent m e.tenure (journal H e.conn) newest some

    sends : is_some (line_there H e.conn e.tenure d.owner m wishes.Nothing) ≡ true → is_some (due_for H m) ≡ true
    sends h =
        let line : is_some (line_of H m wishes.Nothing) ≡ true = ap (λ x. is_some x) (line_here H e.conn e.tenure d.owner m wishes.Nothing l d.lent at) ∙ h in
        ap (λ b. is_some (cond b (due_in H m (work H m)) None)) u ∙ within (work H m) is line
      where
        allowed : (k : ℕ) → is_some (line_of H m wishes.Nothing) ≡ true → is_some (cond (has_begun_to_send H m || (goes_on H k && is_none (decided H m))) (line_of H m wishes.Nothing) None) ≡ true
        allowed k x = ap (λ b. is_some (cond (b || (goes_on H k && is_none (decided H m))) (line_of H m wishes.Nothing) None)) begun_to ∙ x

        within : (w : Work) → scope w ≡ Held (number_of d.owner) → is_some (line_of H m wishes.Nothing) ≡ true → is_some (due_in H m w) ≡ true
        within (Statement (Held k) task) s x = allowed k x
        within w s x = absurd cc

    held : is_some (due_for H m) ≡ true → holder H e.conn ≡ m
    held h =
        ap (holder_at H e.conn) d.lent ∙ ap (if_sending H) newest ∙ ap (λ b. cond b m 0) h

    by : (b : Bool) → is_some (line_there H e.conn e.tenure d.owner m wishes.Nothing) ≡ b → b ≡ false
    by true x =
        let holds = held (sends x) in
        absurd (refused (m == 0) (m == e.call_no) (other_number m 0 some) (other_number m e.call_no apart) (sym (ap (λ j. (j == 0) || (j == e.call_no)) holds) ∙ d.turn))
      where
        refused : (a b : Bool) → a ≡ false → b ≡ false → (a || b) ≡ true → ⊥
        refused true b x y z = cc
        refused false true x y z = cc
        refused false false x y z = cc
    by false x = refl
