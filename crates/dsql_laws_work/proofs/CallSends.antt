-- Proves the rules that are the same for every driver call of a call on the database. Tenures come in order, and the
-- handle or cursor that it names is live.
use Rattle.std.proofs.Common.{◌≡◌, ℕ, ◌<◌, ◌≤◌, Bool, true, false, not, ◌&&◌, ◌||◌, List, [], ◌∷◌, None, Some, refl, nat_lt}
use Rattle.std.specs.List.{list_all, list_any}
use native.Mathlib.Omega.{arith}
use Rattle.std.proofs.lemmas.Bool.Decides.{nat_tests}
use Rattle.dsql_history_work.specs.driver.declared.call.DriverCall.{DriverCall}
use Rattle.dsql_history_work.specs.driver.declared.answer.DriverAnswer.{DriverAnswer}
use Rattle.dsql_history_work.specs.journal.declared.entry.Entry.{Entry}
use Rattle.dsql_history_work.specs.journal.declared.entry.Owner.TheVariants.{Call}
use Rattle.dsql_history_work.specs.journal.Kinds.{same_owner}
use Rattle.dsql_history_work.specs.driver.Kinds.{is_bad, is_connect, is_reset, is_valid, is_next, handle_of, cursor_of}
use Rattle.dsql_history_work.specs.journal.Readers.{is_empty, of_tenure, last_tenure, handles, handles_named, cursors, cursors_named, went_bad, bad_tenure}
use Rattle.dsql_history_work.specs.journal.Tenure.{is_body, resets_first, is_whole_at_valid, is_whole_tenure}
use Rattle.dsql_history_work.specs.journal.HandlesAndCursors.{each_cursor, fits_at_its_place, is_heard, is_fitting, gives_new_handle, gives_new_cursor, has_width_of_cursor}
use Rattle.dsql_history_work.specs.journal.Journal.{may_follow}
use Rattle.dsql_history_work.specs.journal.Facts.{KeepsWholeJournal, KeepsCallBody, KeepsHandlesAndCursors, FitsAtItsPlace}
use Rattle.dsql_history_work.proofs.journal.Conjunctions.{so_if, parts5}
use Rattle.dsql_history_work.proofs.journal.Sentences.{of-MayFollow}
use Rattle.dsql_history_work.proofs.journal.PlainJournals.{Good, is_whole_tenure-plain, went_bad-in}
use Rattle.dsql_laws_work.proofs.CallLines.{Step, WasTested, WasDropped, IsOther, step, goes, is_going, OneHandle, own_handle, own_cursor, SoFar, sent_entry}
use Rattle.dsql_laws_work.proofs.Rows.{is_itself}
use Rattle.dsql_laws_work.proofs.ServedCalls.{Served, plain_of}

-- What is known of call n's tenure t on connection c as it sends its next driver call.
pub record Sends (c t n : ℕ) (q : DriverCall) (J : List Entry) : Type 0 where
  pub served : Served c J
  pub good : Good J
  pub rising : last_tenure J ≤ t
  pub own : list_all (λ x. same_owner x.owner (Call n)) (of_tenure t J) ≡ true
  pub so_far : SoFar t n (step (of_tenure t J)) (of_tenure t J)
  pub live : handles J ≡ handles (of_tenure t J)
  pub open_rows : cursors J ≡ cursors (of_tenure t J)
  pub going : is_empty (of_tenure t J) ≡ false → last_tenure J ≡ t
  pub next : goes (step (of_tenure t J)) q ≡ true

-- Between two tenures no cursor is live.
between : (t : ℕ) (J : List Entry) → cursors J ≡ cursors (of_tenure t J) → (is_empty (of_tenure t J) ≡ false → last_tenure J ≡ t) → last_tenure J < t → cursors J ≡ []
between t J same going less = by_list (of_tenure t J) same going
  where
    by_list : (L : List Entry) → cursors J ≡ cursors L → (is_empty L ≡ false → last_tenure J ≡ t) → cursors J ≡ []
    by_list [] is at = is
    by_list (e ∷ L) is at = let same_tenure : last_tenure J ≡ t = at refl in absurd (omega (arith, same_tenure, less))

bad_tenure-none : (J : List Entry) → went_bad J ≡ false → bad_tenure J ≡ None
bad_tenure-none [] h = refl
bad_tenure-none (e ∷ J) h = grind (arith, h)

less_of : (a b : ℕ) → nat_lt a b ≡ true → a < b
less_of a b h = grind (arith, nat_tests, h)

-- What such a call sends keeps the order of tenures.
keeps_order : (c t n m : ℕ) (q : DriverCall) (a : DriverAnswer) (J : List Entry) → Sends c t n q J → is_connect q ≡ false → KeepsWholeJournal J (sent_entry c t n m q a)
keeps_order c t n m q a J s not_connect =
    let v = s.served in
    let good = s.good in
    record {
      one_connection = v.one;
      not_after_refusal = grind (arith, v.not_refused);
      after_whole_tenure =
          so_if (nat_lt (last_tenure J) t) (is_whole_tenure (last_tenure J) J) (λ less.
          is_whole_tenure-plain c (last_tenure J) J (plain_of c J v (between t J s.open_rows s.going (less_of (last_tenure J) t less))));
      connect_first = grind (arith, v.opened, not_connect);
      not_after_shut = grind (arith, v.not_shut);
      rising = grind (arith, nat_tests, s.rising);
      from_one = grind (arith, v.opened);
      not_tidied_when_bad = grind (arith, good.not_bad);
      in_bad_tenure = rw (bad_tenure-none J good.not_bad) refl;
      shut_when_invalid = grind (arith, good.not_invalid);
    }

fits_of_place : (J : List Entry) (e : Entry) → fits_at_its_place J e ≡ true → FitsAtItsPlace J e
fits_of_place J e h =
    let p = parts5 (is_heard e) (is_fitting e) (gives_new_handle J e) (gives_new_cursor J e) (has_width_of_cursor J e) h in
    record { heard = p.0; fitting = p.1; new_handle = p.2; new_cursor = p.3; width = p.4 }

any_tail : (here later : Bool) → here || later ≡ false → later ≡ false
any_tail true later h = grind (arith, h)
any_tail false later h = h

neither : (here later too : Bool) → here || later ≡ false → too && here ≡ false
neither true later too h = grind (arith, h)
neither false later true h = refl
neither false later false h = refl

any-both : {X : Type 0} (too test : X → Bool) (xs : List X) → list_any test xs ≡ false → list_any (λ x. too x && test x) xs ≡ false
any-both too test [] h = refl
any-both too test (x ∷ xs) h =
    let rest : list_any (λ x. too x && test x) xs ≡ false = any-both too test xs (any_tail (test x) (list_any test xs) h) in
    rw (neither (test x) (list_any test xs) (too x) h) rest

no_bad_reset : (t : ℕ) (J : List Entry) → went_bad J ≡ false → not (list_any (λ x. is_reset x.call && is_bad x.answer) (of_tenure t J)) ≡ true
no_bad_reset t J good = rw (any-both (λ x. is_reset x.call) (λ x. is_bad x.answer) (of_tenure t J) (went_bad-in t J good)) refl

going_on : (s : Step) (q : DriverCall) → goes s q ≡ true → is_going s ≡ true
going_on WasTested q h = absurd cc
going_on WasDropped q h = absurd cc
going_on IsOther q h = absurd cc
going_on _ q h = refl

no_valid : (c t n : ℕ) (q : DriverCall) (J : List Entry) → Sends c t n q J → not (list_any (λ x. is_valid x.call) (of_tenure t J)) ≡ true
no_valid c t n q J s = let so = s.so_far in rw (so.untested (going_on (step (of_tenure t J)) q s.next)) refl

-- What such a call sends may follow if it keeps the rules of its own tenure, and what it names is live.
pub follows : (c t n m : ℕ) (q : DriverCall) (a : DriverAnswer) (J : List Entry) → Sends c t n q J → is_connect q ≡ false → resets_first J (sent_entry c t n m q a) ≡ true
    → is_whole_at_valid J (sent_entry c t n m q a) ≡ true → (is_body (sent_entry c t n m q a) ≡ true → KeepsCallBody J (sent_entry c t n m q a))
    → KeepsHandlesAndCursors J (sent_entry c t n m q a) → fits_at_its_place J (sent_entry c t n m q a) ≡ true → may_follow J (sent_entry c t n m q a) ≡ true
follows c t n m q a J s not_connect first whole body uses fits =
    of-MayFollow J (sent_entry c t n m q a) (record {
      whole_journal = keeps_order c t n m q a J s not_connect;
      tenure = record {
        one_owner = s.own;
        house_alone = refl;
        house_call = refl;
        house_numbers = refl;
        reset_first = first;
        not_after_valid = no_valid c t n q J s;
        whole_at_valid = whole;
        tests = so_if (is_reset q || is_valid q) true (λ _. refl);
        not_after_bad_reset = no_bad_reset t J s.good.not_bad;
        in_body = body;
      };
      transaction = λ some. absurd (some refl);
      handles = uses;
      answer = fits_of_place J (sent_entry c t n m q a) fits;
    })

-- A driver call that names neither a handle nor a cursor keeps the rules for handles and cursors.
pub names_none : (c t n m : ℕ) (q : DriverCall) (a : DriverAnswer) (J : List Entry) → handle_of q ≡ None → cursor_of q ≡ None → KeepsHandlesAndCursors J (sent_entry c t n m q a)
names_none c t n m q a J handle cursor = record {
  live_handle = rw handle refl;
  live_cursor = rw cursor refl;
  not_over = so_if (is_next q) (each_cursor J (sent_entry c t n m q a) (λ x. not x.over)) (λ _. rw cursor refl);
  transaction_of_handle = rw handle refl;
  transaction_of_cursor = rw cursor refl;
  cursor_tenure = rw cursor refl;
  handle_tenure = rw handle refl;
  call_handle = rw handle refl;
}

-- A driver call that names this live handle of its own, and no cursor, keeps the rules for handles and cursors.
pub names_handle : (c t n m handle : ℕ) (q : DriverCall) (a : DriverAnswer) (J : List Entry) → OneHandle t n handle (handles J) → handle_of q ≡ Some handle → cursor_of q ≡ None
    → KeepsHandlesAndCursors J (sent_entry c t n m q a)
names_handle c t n m handle q a J one is cursor =
    let named : handles_named handle J ≡ own_handle t n handle one.inputs ∷ [] = rw one.is (rw (is_itself handle) refl) in
    record {
      live_handle = rw is (rw named refl);
      live_cursor = rw cursor refl;
      not_over = so_if (is_next q) (each_cursor J (sent_entry c t n m q a) (λ x. not x.over)) (λ _. rw cursor refl);
      transaction_of_handle = rw is (rw named refl);
      transaction_of_cursor = rw cursor refl;
      cursor_tenure = rw cursor refl;
      handle_tenure = rw is (rw named refl);
      call_handle = rw is (rw named refl);
    }

-- A driver call that names this live cursor of its tenure, and no handle, keeps the rules for handles and
-- cursors. A fetch does so only if the cursor isn't over.
pub names_cursor : (c t n m rows columns : ℕ) (over : Bool) (q : DriverCall) (a : DriverAnswer) (J : List Entry) → cursors J ≡ own_cursor t rows columns over ∷ []
    → handle_of q ≡ None → cursor_of q ≡ Some rows → (is_next q ≡ true → over ≡ false) → KeepsHandlesAndCursors J (sent_entry c t n m q a)
names_cursor c t n m rows columns over q a J is handle cursor fetches =
    let named : cursors_named rows J ≡ own_cursor t rows columns over ∷ [] = rw is (rw (is_itself rows) refl) in
    record {
      live_handle = rw handle refl;
      live_cursor = rw cursor (rw named refl);
      not_over = so_if (is_next q) (each_cursor J (sent_entry c t n m q a) (λ x. not x.over)) (λ fetched. rw cursor (rw named (rw (fetches fetched) refl)));
      transaction_of_handle = rw handle refl;
      transaction_of_cursor = rw cursor (rw named refl);
      cursor_tenure = rw cursor (rw named (rw (is_itself t) refl));
      handle_tenure = rw handle refl;
      call_handle = rw handle refl;
    }
