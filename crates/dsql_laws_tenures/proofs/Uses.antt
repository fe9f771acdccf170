-- An entry of a transaction names what is live in it.
use Rattle.std.proofs.Common.{◌≡◌, ℕ, true, false, not, List, None, Some, refl}
use Rattle.dsql_history.specs.driver.Kinds.{is_next, handle_of, cursor_of}
use Rattle.dsql_history.specs.course.Made.{Exchange}
use Rattle.dsql_history.specs.journal.declared.entry.Entry.{Entry}
use Rattle.dsql_history.specs.journal.HandlesAndCursors.{each_cursor}
use Rattle.dsql_history.specs.journal.Facts.{KeepsHandlesAndCursors}
use Rattle.dsql_history.proofs.journal.Conjunctions.{so_if}
use Rattle.dsql_laws_tenures.specs.Tenures.{IsIn, HasLiveCursor, HasLiveHandle}
use Rattle.dsql_laws_tenures.proofs.Numbers.{is_itself}

-- An entry that names nothing keeps the rules of handles and cursors.
pub uses_none : (J : List Entry) (e : Entry) → handle_of e.call ≡ None → cursor_of e.call ≡ None → KeepsHandlesAndCursors J e
uses_none J e handle cursor = record {
  live_handle = rw handle refl;
  live_cursor = rw cursor refl;
  not_over = so_if (is_next e.call) (each_cursor J e (λ x. not x.over)) (λ _. rw cursor refl);
  transaction_of_handle = rw handle refl;
  transaction_of_cursor = rw cursor refl;
  cursor_tenure = rw cursor refl;
  handle_tenure = rw handle refl;
  call_handle = rw handle refl;
}

-- An entry that names this live handle keeps the rules of handles and cursors.
pub uses_handle : (c k t handle : ℕ) (J : List Entry) (e : Entry) → IsIn c k t e → HasLiveHandle k t handle J → handle_of e.call ≡ Some handle → cursor_of e.call ≡ None → KeepsHandlesAndCursors J e
uses_handle c k t handle J e s one is cursor = record {
  live_handle = rw is (rw one.only refl);
  live_cursor = rw cursor refl;
  not_over = so_if (is_next e.call) (each_cursor J e (λ x. not x.over)) (λ _. rw cursor refl);
  transaction_of_handle = rw is (rw one.only (rw (one.tx, s.tx, is_itself k) refl));
  transaction_of_cursor = rw cursor refl;
  cursor_tenure = rw cursor refl;
  handle_tenure = rw is (rw one.only (rw (one.owner, one.tenure, s.tenure, is_itself t) refl));
  call_handle = rw is (rw one.only (rw one.owner refl));
}

-- An entry that names this live cursor, and doesn't fetch from one that is over, keeps the rules of handles and
-- cursors.
pub uses_cursor : (c k t rows : ℕ) (made : List Exchange) (J : List Entry) (e : Entry) → IsIn c k t e → (one : HasLiveCursor k t rows made J) → handle_of e.call ≡ None → cursor_of e.call ≡ Some rows
    → (is_next e.call ≡ true → one.cursor.over ≡ false) → KeepsHandlesAndCursors J e
uses_cursor c k t rows made J e s one handle is fetches = record {
  live_handle = rw handle refl;
  live_cursor = rw is (rw one.only refl);
  not_over = so_if (is_next e.call) (each_cursor J e (λ x. not x.over)) (λ fetched. rw is (rw one.only (rw (fetches fetched) refl)));
  transaction_of_handle = rw handle refl;
  transaction_of_cursor = rw is (rw one.only (rw (one.tx, s.tx, is_itself k) refl));
  cursor_tenure = rw is (rw one.only (rw (one.tenure, s.tenure, is_itself t) refl));
  handle_tenure = rw handle refl;
  call_handle = rw handle refl;
}
