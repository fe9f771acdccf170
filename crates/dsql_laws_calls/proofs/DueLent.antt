-- Nothing is due for a call whose connection isn't lent. The argument takes the works one by one: what is due is a line
-- on the connection, or the end of a transaction there.
use Rattle.std.proofs.Common.{◌≡◌, ◌≢◌, ℕ, ◌==◌, ◌⊎◌, inl, inr, Bool, true, false, cond, List, Option, Some, None, is_some, refl, ap, ◌∙◌}
use Rattle.dsql_laws.specs.driver.declared.call.DriverCall.{DriverCall}
use Rattle.dsql_laws.specs.course.declared.course.Wish.{Wish}
use Rattle.dsql_laws.specs.course.declared.course.Wish.TheVariants as wishes
use Rattle.dsql_laws.specs.pool.declared.conn.Place.{Place}
use Rattle.dsql_laws.specs.pool.declared.conn.Place.TheVariants.{Lent}
use Rattle.dsql_laws.specs.pool.Places.{is_lent}
use Rattle.dsql_laws.proofs.Tests.{other_number}
use Rattle.dsql_laws.specs.history.declared.event.Event.{Event}
use Rattle.dsql_laws.specs.history.declared.work.Scope.{Scope}
use Rattle.dsql_laws.specs.history.declared.work.Scope.TheVariants.{Db, Held}
use Rattle.dsql_laws.specs.history.declared.work.Work.{Work}
use Rattle.dsql_laws.specs.history.declared.work.Work.TheVariants.{Statement, Begin, End, Ping, Fetch, Close, Look}
use Rattle.dsql_laws.specs.history.Readers.Calls.{site}
use Rattle.dsql_laws.specs.history.Readers.Pool.{place, home}
use Rattle.dsql_laws.specs.history.Readers.Transactions.{tx_ender}
use Rattle.dsql_laws.specs.history.Readers.Unfinished.{is_unfinished}
use Rattle.dsql_laws.specs.history.Readers.Works.{work, borrower}
use Rattle.dsql_laws.specs.history.Rules.Ending.{ending}
use Rattle.dsql_laws.specs.history.Rules.Line.{due_inside, due_in, due_for, sends_in}
use Rattle.dsql_laws.specs.history.Rules.Sent.{line_of, wish, sent_for}
use Rattle.dsql_laws_calls.specs.Chores.{is_lent_for}
use Rattle.dsql_laws_calls.proofs.Cases.{true_false}
use Rattle.dsql_laws_calls.proofs.DueWay.{borrow_same}
use Rattle.dsql_laws_calls.proofs.Makers.{rows_hand_out, sent_made}
use Rattle.dsql_laws_calls.proofs.Tidying.{ending_lent, lent_where_due}

pub lent_out : (n : ℕ) (at : Option Place) → is_lent_for n at ≡ true → is_lent at ≡ true
lent_out n (Some (Lent t owner)) h = refl
lent_out n at h = absurd cc

sent_lent : (H : List Event) (k : ℕ) (w : Wish) → is_some (sent_for H k w) ≡ true → is_lent_for (borrower H k) (place H (site H k)) ≡ true
sent_lent H k wishes.Nothing h = absurd cc
sent_lent H k wishes.Fetch h = lent_where_due H k wishes.Fetch (site H k) (place H (site H k)) h
sent_lent H k wishes.Close h = lent_where_due H k wishes.Close (site H k) (place H (site H k)) h

-- What is due for a call is due on a connection that is lent to the call's borrower.
pub due_lent_for : (H : List Event) (m : ℕ) → m ≢ 0 → is_some (due_for H m) ≡ true → is_lent_for (borrower H m) (place H (site H m)) ≡ true
due_lent_for H m some h = started (is_unfinished H m) h
  where
    own : is_some (line_of H m wishes.Nothing) ≡ true → is_lent_for (borrower H m) (place H (site H m)) ≡ true
    own x = lent_where_due H m wishes.Nothing (site H m) (place H (site H m)) x

    of : (k : ℕ) → borrower H m ≡ k → is_lent_for k (place H (home H k)) ≡ true → is_lent_for (borrower H m) (place H (site H m)) ≡ true
    of k uses x = ap (λ i. is_lent_for i (place H (home H i))) uses ∙ x

    rows : (k : ℕ) → (work H m ≡ Fetch k) ⊎ (work H m ≡ Close k) → is_some (sent_for H k (wish H m k)) ≡ true → is_lent_for (borrower H m) (place H (site H m)) ≡ true
    rows k which x = of (borrower H k) (borrow_same H m k which (rows_hand_out H k (sent_made H m k (other_number m 0 some) x))) (sent_lent H k (wish H m k) x)

    inner : (s : Scope) → is_some (due_inside H m s) ≡ true → is_lent_for (borrower H m) (place H (site H m)) ≡ true
    inner Db x = own x
    inner (Held k) x = sends (sends_in H m k) x
      where
        sends : (b : Bool) → is_some (cond b (line_of H m wishes.Nothing) None) ≡ true → is_lent_for (borrower H m) (place H (site H m)) ≡ true
        sends true y = own y
        sends false y = absurd cc

    ends : (k : ℕ) (b : Bool) → borrower H m ≡ k → is_some (cond b (ending H k) None) ≡ true → is_lent_for (borrower H m) (place H (site H m)) ≡ true
    ends k true uses x = of k uses (ending_lent H k x)
    ends k false uses x = absurd cc

    by : (w : Work) → work H m ≡ w → is_some (due_in H m w) ≡ true → is_lent_for (borrower H m) (place H (site H m)) ≡ true
    by (Fetch k) is x = rows k (inl is) x
    by (Close k) is x = rows k (inr is) x
    by (End k) is x = ends k (tx_ender H k == m) (rw is refl) x
    by Look is x = absurd cc
    by (Statement s task) is x = inner s x
    by (Begin label level read_only) is x = own x
    by Ping is x = own x

    started : (b : Bool) → is_some (cond b (due_in H m (work H m)) None) ≡ true → is_lent_for (borrower H m) (place H (site H m)) ≡ true
    started true x = by (work H m) refl x
    started false x = absurd cc

pub none_due_unlent : (H : List Event) (m : ℕ) → m ≢ 0 → is_lent (place H (site H m)) ≡ false → due_for H m ≡ None
none_due_unlent H m some out = by (due_for H m) refl
  where
    by : (d : Option DriverCall) → due_for H m ≡ d → d ≡ None
    by None is = refl
    by (Some q) is = absurd (true_false (is_lent (place H (site H m))) (lent_out (borrower H m) (place H (site H m)) (due_lent_for H m some (ap (λ d. is_some d) is))) out)
