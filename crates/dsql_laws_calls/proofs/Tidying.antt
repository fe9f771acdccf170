-- The layer's own driver calls over rows and for transactions: the connections on which they go out, and that
-- they may come.
use Rattle.std.proofs.Common.{◌≡◌, ℕ, ◌==◌, Bool, true, false, ◌&&◌, ◌||◌, cond, List, Option, Some, None, is_some, refl, sym, ap, subst, ◌∙◌}
use Rattle.dsql_laws.specs.course.declared.course.Wish.{Wish}
use Rattle.dsql_laws.specs.course.declared.course.Wish.TheVariants as wishes
use Rattle.dsql_laws.specs.journal.declared.entry.Entry.{Entry}
use Rattle.dsql_laws.specs.journal.declared.entry.Owner.{Owner}
use Rattle.dsql_laws.specs.journal.Kinds.{number_of}
use Rattle.dsql_laws.specs.journal.Readers.{went_bad}
use Rattle.dsql_laws.specs.pool.declared.conn.Place.{Place}
use Rattle.dsql_laws.specs.pool.declared.conn.Place.TheVariants.{Lent}
use Rattle.dsql_laws.specs.history.Rules.Wishes.{newest_sender}
use Rattle.dsql_laws.proofs.Tests.{together, same_itself}
use Rattle.dsql_laws_calls.specs.Chores.{is_lent_for}
use Rattle.dsql_laws_calls.proofs.Ends.{none_due_once_ended}
use Rattle.dsql_laws.specs.history.Rules.Line.{is_due, tidying, due_for, due_from, holder_at, holder, has_turn, is_at, is_due_at, may_come}
use Rattle.dsql_laws.specs.history.declared.event.Event.{Event}
use Rattle.dsql_laws.specs.history.Readers.Course.{has_ended}
use Rattle.dsql_laws.specs.history.Readers.Journals.{heard_in, journal}
use Rattle.dsql_laws.specs.history.Readers.Pool.{place, home}
use Rattle.dsql_laws.specs.history.Readers.HandedOut.{ender, are_over}
use Rattle.dsql_laws.specs.history.Readers.Calls.{site}
use Rattle.dsql_laws.specs.history.Rules.Sent.{line_at, line_of, close_due}
use Rattle.dsql_laws.specs.history.Legal.{Lawful}
use Rattle.dsql_laws.proofs.Welcome.{due_may_come}
use Rattle.dsql_laws.specs.course.Made.{or_else}
use Rattle.dsql_laws.specs.tx.declared.end.TxEnd.{TxEnd}
use Rattle.dsql_laws.specs.history.declared.work.Work.{Work}
use Rattle.dsql_laws.specs.history.declared.work.Work.TheVariants.{Begin}
use Rattle.dsql_laws.specs.history.Readers.Works.{works, work, asks, borrower}
use Rattle.dsql_laws.specs.history.Readers.Transactions.{tx_end, is_begun, tx_ender}
use Rattle.dsql_laws.specs.history.Rules.Ending.{first_closing, end_after, ending_at, ending_with, ending}
use Rattle.dsql_laws_calls.proofs.Lines.{line_there}
use Rattle.dsql_laws_calls.proofs.Own.{asks_own}
use Rattle.dsql_laws_calls.proofs.Plain.{begins}
use Rattle.dsql_laws_calls.proofs.Begun.{begun_begins}

pub lent_where_due : (H : List Event) (n : ℕ) (w : Wish) (c : ℕ) (at : Option Place) → is_some (line_at H n w c at) ≡ true → is_lent_for (borrower H n) at ≡ true
lent_where_due H n w c (Some (Lent t o)) h = by (number_of o == borrower H n) h
  where
    by : (b : Bool) → is_some (cond b (line_there H c t o n w) None) ≡ true → b ≡ true
    by true k = refl
    by false k = absurd cc
lent_where_due H n w c _ h = absurd cc

ended_where_lent : (H : List Event) (k c : ℕ) (end : TxEnd) (at : Option Place) → is_some (ending_at H k c end at) ≡ true → is_lent_for k at ≡ true
ended_where_lent H k c end (Some (Lent t o)) h = by (number_of o == k) h
  where
    by : (b : Bool) → is_some (cond b (or_else (first_closing H k 0 (works H)) (end_after H (went_bad (journal H c)) end (heard_in H c t))) None) ≡ true → b ≡ true
    by true x = refl
    by false x = absurd cc
ended_where_lent H k c end _ h = absurd cc

pub ending_lent : (H : List Event) (k : ℕ) → is_some (ending H k) ≡ true → is_lent_for k (place H (home H k)) ≡ true
ending_lent H k h = by (tx_end H k) h
  where
    by : (o : Option TxEnd) → is_some (ending_with H k o) ≡ true → is_lent_for k (place H (home H k)) ≡ true
    by None x = absurd cc
    by (Some end) x = ended_where_lent H k (home H k) end (place H (home H k)) x

pub closing_lent : (H : List Event) (n : ℕ) → is_some (close_due H n) ≡ true → is_lent_for (borrower H n) (place H (site H n)) ≡ true
closing_lent H n h = by (are_over H n) h
  where
    by : (b : Bool) → is_some (cond b (line_of H n wishes.Close) None) ≡ true → is_lent_for (borrower H n) (place H (site H n)) ≡ true
    by true x = lent_where_due H n wishes.Close (site H n) (place H (site H n)) x
    by false x = absurd cc

begun_own : (H : List Event) (n : ℕ) → begins (work H n) ≡ true → borrower H n ≡ n
begun_own H n h = asks_own H n (by (work H n) h)
  where
    by : (w : Work) → begins w ≡ true → asks w ≡ true
    by (Begin label level read_only) k = refl
    by w k = absurd cc

pub tidied_where_lent : (H : List Event) (n : ℕ) → Lawful H → is_some (tidying H n) ≡ true → is_lent_for (borrower H n) (place H (site H n)) ≡ true
tidied_where_lent H n l h = by_begun (is_begun H n) refl h
  where
    by_ender : (b : Bool) → is_some (cond b (close_due H n) None) ≡ true → is_lent_for (borrower H n) (place H (site H n)) ≡ true
    by_ender true k = closing_lent H n k
    by_ender false k = absurd cc

    by_tx : (b : Bool) → is_begun H n ≡ true → is_some (cond b (ending H n) None) ≡ true → is_lent_for (borrower H n) (place H (site H n)) ≡ true
    by_tx true begun k =
        let own = begun_own H n (begun_begins H n l begun) in
        subst (λ m. is_lent_for m (place H (home H m)) ≡ true) (sym own) (ending_lent H n k)
    by_tx false begun k = absurd cc

    by_begun : (b : Bool) → is_begun H n ≡ b → is_some (cond b (cond (tx_ender H n == 0) (ending H n) None) (cond (ender H n == 0) (close_due H n) None)) ≡ true → is_lent_for (borrower H n) (place H (site H n)) ≡ true
    by_begun true is k = by_tx (tx_ender H n == 0) is k
    by_begun false is k = by_ender (ender H n == 0) k

-- What the layer sends in its turn may come.
pub tidying_comes : (H : List Event) (o : Owner) (e : Entry) → e.call_no ≡ 0 → place H e.conn ≡ Some (Lent e.tenure o) → holder H e.conn ≡ 0 → is_due (tidying H (number_of o)) e.call ≡ true → may_come H e ≡ true
tidying_comes H o e layer lent free due =
    let zero : (e.call_no == 0) ≡ true = ap (λ k. k == 0) layer in
    let there : is_at H e.call_no e.conn ≡ true = ap (λ b. b || (site H e.call_no == e.conn)) zero in
    let turn : has_turn H e.conn e.call_no ≡ true = ap (λ k. (k == 0) || (k == e.call_no)) free in
    let sends : is_due (due_from H e.call_no (number_of o)) e.call ≡ true = ap (λ b. is_due (cond b (tidying H (number_of o)) (due_for H e.call_no)) e.call) zero ∙ due in
    let now : is_due_at H (Some (Lent e.tenure o)) e ≡ true =
    together (e.tenure == e.tenure) (is_at H e.call_no e.conn && (has_turn H e.conn e.call_no && is_due (due_from H e.call_no (number_of o)) e.call)) (same_itself e.tenure)
    (together (is_at H e.call_no e.conn) (has_turn H e.conn e.call_no && is_due (due_from H e.call_no (number_of o)) e.call) there
    (together (has_turn H e.conn e.call_no) (is_due (due_from H e.call_no (number_of o)) e.call) turn sends))
    in
    due_may_come H e (ap (λ at. is_due_at H at e) lent ∙ now)

-- If no call has anything to send, no call holds the turn.
unheld : (H : List Event) (c : ℕ) (at : Option Place) → ((n : ℕ) → is_some (due_for H n) ≡ false) → holder_at H c at ≡ 0
unheld H c (Some (Lent t o)) none = ap (λ b. cond b (newest_sender (heard_in H c t)) 0) (none (newest_sender (heard_in H c t)))
unheld H c _ none = refl

pub unheld_once_ended : (H : List Event) (c : ℕ) → Lawful H → has_ended H ≡ true → holder H c ≡ 0
unheld_once_ended H c l h = unheld H c (place H c) (λ n. none_due_once_ended H n l h)
