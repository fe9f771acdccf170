-- What may follow in a transaction that goes on: the rules that its driver calls share.
use Rattle.std.proofs.Common.{◌≡◌, ℕ, Bool, true, false, not, ◌==◌, ◌&&◌, ◌||◌, List, [], ◌∷◌, Option, None, Some, refl, nat_lt, nat_le}
use Rattle.std.specs.List.{list_all, list_any}
use native.Mathlib.Omega.{arith}
use Rattle.std.proofs.lemmas.Bool.Decides.{nat_tests}
use Rattle.dsql_history.specs.driver.declared.call.DriverCall.{DriverCall}
use Rattle.dsql_history.specs.driver.declared.call.DriverCall.TheVariants.{Prepare, Exec, Query, Next, CloseRows, CloseStmt, Commit, Rollback}
use Rattle.dsql_history.specs.driver.Kinds.{is_connect, is_reset, is_valid, is_begin, is_shut, is_work, is_ending}
use Rattle.dsql_history.specs.journal.declared.entry.Entry.{Entry}
use Rattle.dsql_history.specs.journal.declared.entry.Owner.{Owner}
use Rattle.dsql_history.specs.journal.declared.entry.Owner.TheVariants.{Tx}
use Rattle.dsql_history.specs.journal.Kinds.{if_any, is_tx_number, same_owner}
use Rattle.dsql_history.specs.journal.Readers.{is_empty, last_tenure, of_tenure, of_transaction, bad_tenure}
use Rattle.dsql_history.specs.journal.Tenure.{body, earlier, is_refused_begin, is_whole_tenure}
use Rattle.dsql_history.specs.journal.WholeJournal.{tidies_nothing_bad}
use Rattle.dsql_history.specs.journal.Transaction.{ends_without_cursors}
use Rattle.dsql_history.specs.journal.HandlesAndCursors.{fits_at_its_place, is_heard, is_fitting, gives_new_handle, gives_new_cursor, has_width_of_cursor}
use Rattle.dsql_history.specs.journal.Journal.{may_follow}
use Rattle.dsql_history.specs.journal.Facts.{KeepsWholeJournal, KeepsTenure, KeepsTransaction, KeepsHandlesAndCursors, FitsAtItsPlace}
use Rattle.dsql_history.proofs.journal.Conjunctions.{so_if, parts2, parts5, join2}
use Rattle.dsql_history.proofs.journal.Sentences.{of-MayFollow}
use Rattle.dsql_laws_tenures.specs.Tenures.{GoesOn, IsIn}
use Rattle.dsql_laws_tenures.proofs.Numbers.{is_itself, or_later}
use Rattle.dsql_laws_tenures.proofs.Standing.{Standing, standing}

-- What the kinds of driver calls that work in a transaction or end it exclude.
record Kind (q : DriverCall) : Type 0 where
  connect : is_connect q ≡ false
  reset : is_reset q ≡ false
  valid : is_valid q ≡ false
  begin : is_begin q ≡ false
  shut : is_shut q ≡ false

kind_of : (q : DriverCall) → is_work q || is_ending q ≡ true → Kind q
kind_of (Prepare text) h = record { connect = refl; reset = refl; valid = refl; begin = refl; shut = refl }
kind_of (Exec input params) h = record { connect = refl; reset = refl; valid = refl; begin = refl; shut = refl }
kind_of (Query input params) h = record { connect = refl; reset = refl; valid = refl; begin = refl; shut = refl }
kind_of (Next rows) h = record { connect = refl; reset = refl; valid = refl; begin = refl; shut = refl }
kind_of (CloseRows rows) h = record { connect = refl; reset = refl; valid = refl; begin = refl; shut = refl }
kind_of (CloseStmt handle) h = record { connect = refl; reset = refl; valid = refl; begin = refl; shut = refl }
kind_of Commit h = record { connect = refl; reset = refl; valid = refl; begin = refl; shut = refl }
kind_of Rollback h = record { connect = refl; reset = refl; valid = refl; begin = refl; shut = refl }
kind_of _ h = absurd cc

own_tx : (o : Owner) (k : ℕ) → is_tx_number k o ≡ true → same_owner o (Tx k) ≡ true
own_tx (Tx m) k h = h
own_tx _ k h = absurd cc

pub all_own : (k : ℕ) (L : List Entry) → list_all (λ x. is_tx_number k x.owner) L ≡ true → list_all (λ x. same_owner x.owner (Tx k)) L ≡ true
all_own k [] h = refl
all_own k (x ∷ L) h =
    let p = parts2 (is_tx_number k x.owner) (list_all (λ y. is_tx_number k y.owner) L) h in
    join2 (same_owner x.owner (Tx k)) (list_all (λ y. same_owner y.owner (Tx k)) L) (own_tx x.owner k p.0) (all_own k L p.1)

not_below : (n : ℕ) → nat_lt n n ≡ true → ⊥
not_below n h = grind (arith, nat_tests, h)

not_above : (n : ℕ) → nat_le n n ≡ true
not_above n = grind (arith, nat_tests)

or_shut : (o : Option ℕ) (t : ℕ) (shut : Bool) → if_any o (λ n. t == n) ≡ true → if_any o (λ n. (t == n) || shut) ≡ true
or_shut None t shut h = refl
or_shut (Some n) t shut h = rw h refl

last_of : (a b : Bool) (c d : Bool) → a ≡ false → b ≡ false → c || d ≡ true → a || b || c || d ≡ true
last_of a b c d ha hb h = rw (ha, hb) h

pub fits_of_place : (J : List Entry) (e : Entry) → fits_at_its_place J e ≡ true → FitsAtItsPlace J e
fits_of_place J e h =
    let p = parts5 (is_heard e) (is_fitting e) (gives_new_handle J e) (gives_new_cursor J e) (has_width_of_cursor J e) h in
    record { heard = p.0; fitting = p.1; new_handle = p.2; new_cursor = p.3; width = p.4 }

-- What else such a driver call must satisfy to follow.
pub record Owes (J : List Entry) (e : Entry) : Type 0 where
  pub kind : is_work e.call || is_ending e.call ≡ true
  pub tidies : tidies_nothing_bad J e ≡ true
  pub ends : ends_without_cursors J e ≡ true
  pub uses : KeepsHandlesAndCursors J e
  pub fits : fits_at_its_place J e ≡ true

keeps_order : (c k t : ℕ) (J : List Entry) (e : Entry) → GoesOn c k t J → IsIn c k t e → Standing k t J → Kind e.call → tidies_nothing_bad J e ≡ true → KeepsWholeJournal J e
keeps_order c k t J e g s st kind tidies = record {
  one_connection = rw s.conn g.one_connection;
  not_after_refusal = rw g.not_refused refl;
  after_whole_tenure = so_if (nat_lt (last_tenure J) e.tenure) (is_whole_tenure (last_tenure J) J) (λ less. absurd (not_below t (rw (g.under_way, s.tenure) at less)));
  connect_first = rw st.opened (rw kind.connect refl);
  not_after_shut = rw g.not_shut refl;
  rising = rw (g.under_way, s.tenure) (not_above t);
  from_one = rw st.opened refl;
  not_tidied_when_bad = tidies;
  in_bad_tenure = rw s.tenure (or_shut (bad_tenure J) t (is_shut e.call) st.bad_here);
  shut_when_invalid = rw st.not_invalid refl;
}

keeps_tenure : (c k t : ℕ) (J : List Entry) (e : Entry) → GoesOn c k t J → IsIn c k t e → Standing k t J → Kind e.call → KeepsTenure J e
keeps_tenure c k t J e g s st kind =
    let b = g.begun in
    let own = b.tenure in
    record {
      one_owner = rw (s.owner, s.tenure) (all_own k (of_tenure t J) own.owner);
      house_alone = rw s.owner refl;
      house_call = rw s.owner refl;
      house_numbers = rw s.owner refl;
      reset_first = rw kind.reset refl;
      not_after_valid = rw s.tenure (rw g.not_tested refl);
      whole_at_valid = rw kind.valid refl;
      tests = rw (kind.reset, kind.valid) refl;
      not_after_bad_reset = rw s.tenure (rw st.no_bad_reset refl);
      in_body = λ _. rw s.owner (or_later (is_empty (body J e) && is_refused_begin e) (not (k == 0) && (e.tx == k) && not (list_any is_refused_begin (earlier J e)))
          (rw (st.numbered, s.tx, is_itself k, s.tenure, st.none_refused) refl));
    }

keeps_transaction : (c k t : ℕ) (J : List Entry) (e : Entry) → GoesOn c k t J → IsIn c k t e → Standing k t J → Kind e.call → is_work e.call || is_ending e.call ≡ true → ends_without_cursors J e ≡ true → KeepsTransaction J e
keeps_transaction c k t J e g s st kind works ends = record {
  one_tenure = rw (s.tx, s.tenure) st.one_tenure;
  owner = rw (s.tx, s.owner, is_itself k) refl;
  begin_first = rw s.tx (rw st.some refl);
  begin_once = rw kind.begin refl;
  kind = last_of (is_empty (of_transaction e.tx J)) (is_begin e.call) (is_work e.call) (is_ending e.call) (rw s.tx st.some) kind.begin works;
  end_once = rw s.tx (rw st.not_ended refl);
  close_after_end = rw s.tx (rw st.not_ended refl);
  own_close = rw s.tx (rw st.not_ended refl);
  no_cursors = ends;
}

-- In a transaction that goes on, a driver call that works in it or ends it may follow. What it names has to be
-- live, and nothing may be left open at the end.
pub follows : (c k t : ℕ) (J : List Entry) (e : Entry) → GoesOn c k t J → IsIn c k t e → Owes J e → may_follow J e ≡ true
follows c k t J e g s o =
    let st = standing c k t J g in
    let kind = kind_of e.call o.kind in
    of-MayFollow J e (record {
      whole_journal = keeps_order c k t J e g s st kind o.tidies;
      tenure = keeps_tenure c k t J e g s st kind;
      transaction = λ _. keeps_transaction c k t J e g s st kind o.kind o.ends;
      handles = o.uses;
      answer = fits_of_place J e o.fits;
    })
