-- In a transaction's own tenure, statements and rows are worked with in that transaction, and when it ends none
-- of its cursors is left.
use Rattle.std.proofs.Common.{◌≡◌, ◌≢◌, ℕ, Bool, true, false, cond, not, ◌&&◌, ◌||◌, ◌==◌, List, [], ◌∷◌, refl, sym, ◌∙◌, eqb→eq, is_some}
use Rattle.std.specs.List.{list_all, list_any}
use native.Mathlib.Omega.{arith}
use Rattle.std.proofs.lemmas.Bool.Decides.{nat_tests}
use Rattle.dsql_driver.specs.declared.call.DriverCall.{DriverCall}
use Rattle.dsql_driver.specs.declared.call.DriverCall.TheVariants.{Prepare, Exec, Query, Next, CloseRows, Commit, Rollback}
use Rattle.dsql_driver.specs.declared.call.Input.TheVariants.{Text, Handle}
use Rattle.dsql_driver.specs.declared.answer.DriverAnswer.{DriverAnswer}
use Rattle.dsql_driver.specs.declared.answer.DriverAnswer.TheVariants.{Prepared, Cursor}
use Rattle.dsql_driver.specs.Fits.{fits_of, is_memory}
use Rattle.dsql_tenure_journal.specs.declared.entry.Entry.{Entry}
use Rattle.dsql_tenure_journal.specs.declared.entry.Owner.{Owner}
use Rattle.dsql_tenure_journal.specs.declared.entry.Owner.TheVariants.{Tx}
use Rattle.dsql_tenure_journal.specs.Kinds.{◌⇒◌, is_number, same_owner}
use Rattle.dsql_driver.specs.Kinds.{is_bad, is_reset, is_valid, is_begin, is_ending, is_close_stmt, is_work, given_handle, given_cursor}
use Rattle.dsql_tenure_journal.specs.Readers.{LiveHandle, LiveCursor, is_empty, has, of_transaction, handles, cursors, cursors_after, ended, went_bad}
use Rattle.dsql_tenure_journal.specs.Tenure.{is_body, is_refused_begin, body, earlier}
use Rattle.dsql_tenure_journal.specs.Journal.{may_follow, is_journal_prefix, IsJournalPrefix}
use Rattle.dsql_tenure_journal.specs.Facts.{KeepsBody}
use Rattle.dsql_tenure_journal.proofs.Conjunctions.{parts2, join2, if_so, so_if}
use Rattle.dsql_tenure_journal.proofs.Beginnings.{answers_fit}
use Rattle.dsql_tenure.proofs.Lists.{list_all-so, list_all-and, list_all-filter, list_any-both, list_any-so}
use Rattle.dsql_tenure.proofs.Given.{gave_handle, gave_cursor, handles-given, cursors-given, list_all-kept, list_all-changed}
use Rattle.dsql_tenure.proofs.SoFarRules.{same_owner-is}
use Rattle.dsql_tenure.proofs.Transactions.{OnlyBegins, begin-only, has-ended}
use Rattle.dsql_tenure.proofs.WholeAtOnce.{mayfollow}
use Rattle.dsql_tenure.proofs.Members.{pick}
use Rattle.dsql_tenure.proofs.BadEnds.{both_false, same_owners}
use Rattle.dsql_tenure.proofs.Openers.{runs, cursor-runs, number-some}

-- Is true if, in transaction n's own tenure, an entry that works with statements and rows is of the
-- transaction.
abbrev pub works_in : Owner → Entry → Bool
works_in (Tx number) entry = is_work entry.call ⇒ not (number == 0) && (entry.tx == number)
works_in _ entry = true

work-body : (q : DriverCall) → is_work q ≡ true → not (is_reset q || is_valid q) ≡ true
work-body q h = go (is_reset q || is_valid q) refl
  where
    test-work : (q : DriverCall) → is_work q ≡ true → (is_reset q || is_valid q) ≡ false
    test-work (Prepare t) h = refl
    test-work (Next r) h = refl
    test-work (CloseRows r) h = refl
    test-work _ h = grind (arith, h)

    go : (b : Bool) → (is_reset q || is_valid q) ≡ b → not b ≡ true
    go true is = sym (test-work q h) ∙ is
    go false is = refl

work-no_begin : (q : DriverCall) → is_work q ≡ true → is_begin q ≡ false
work-no_begin q h = go (is_begin q) refl
  where
    go : (b : Bool) → is_begin q ≡ b → b ≡ false
    go true is = let only : OnlyBegins q = begin-only q is in sym h ∙ only.work
    go false is = refl

pub works-in : (journal : List Entry) → IsJournalPrefix journal → list_all (λ x. works_in x.owner x) journal ≡ true
works-in [] h = refl
works-in (e ∷ before) h =
    join2 (works_in e.owner e) (list_all (λ x. works_in x.owner x) before)
    (go e.owner (mayfollow before e h).tenure.in_body) (works-in before (parts2 (may_follow before e) (is_journal_prefix before) h).1)
  where
    of_tx : (a f x y r : Bool) → f ≡ false → (a && f || x && y && r) ≡ true → (x && y) ≡ true
    of_tx a true x y r none k = grind (arith, none)
    of_tx true false x y r none k = (parts2 (x && y) r k).0
    of_tx false false x y r none k = (parts2 (x && y) r k).0

    go : (o : Owner) → (is_body e ≡ true → KeepsBody o before e) → works_in o e ≡ true
    go (Tx n) kept =
        so_if (is_work e.call) (not (n == 0) && (e.tx == n))
        (λ work. of_tx (is_empty (body before e)) (is_refused_begin e) (not (n == 0)) (e.tx == n) (not (list_any is_refused_begin (earlier before e)))
        (rw (work-no_begin e.call work) refl) (kept (work-body e.call work)))
    go _ kept = refl

runs-work : (q : DriverCall) (a : DriverAnswer) → runs q a ≡ true → is_work q ≡ true
runs-work (Exec i p) a h = refl
runs-work (Query i p) a h = refl
runs-work _ a h = grind (arith, h)

prepared-work : (q : DriverCall) (a : DriverAnswer) → fits_of q a ≡ true → is_some (given_handle a) ≡ true → is_work q ≡ true
prepared-work q (Prepared handle inputs) f g = of_prepared q f
  where
    of_prepared : (q : DriverCall) → fits_of q (Prepared handle inputs) ≡ true → is_work q ≡ true
    of_prepared (Prepare t) f = refl
    of_prepared (Exec (Text t) p) f = refl
    of_prepared (Exec (Handle n) p) f = refl
    of_prepared (Query (Text t) p) f = refl
    of_prepared (Query (Handle n) p) f = refl
    of_prepared _ f = grind (arith, f)
prepared-work q _ f g = grind (arith, g)

-- Is true if the other entry's answer fits, it works in what its owner works in, and it has the owner of its
-- tenure.
abbrev pub ruled : Entry → Entry → Bool
ruled entry other = (fits_of other.call other.answer && not (is_memory other.answer)) && (works_in other.owner other && (not (other.tenure == entry.tenure) || same_owner other.owner entry.owner))

-- Is true of an entry of transaction n in tenure t, and of one that gave handle k.
abbrev pub stands : ℕ → ℕ → Entry → Bool
stands number tenure entry = (entry.tx == number) && (entry.tenure == tenure)

abbrev pub gives : ℕ → ℕ → ℕ → Entry → Bool
gives number tenure handle entry = (entry.tx == number) && ((entry.tenure == tenure) && is_number (given_handle entry.answer) handle)

-- Is true if a cursor or handle of tenure t is of transaction n, as is the entry that gave it.
abbrev pub cursor_of_it : ℕ → ℕ → List Entry → LiveCursor → Bool
cursor_of_it number tenure journal cursor = not (cursor.tenure == tenure) || ((not (number == 0) && (cursor.tx == number)) && list_any (stands number tenure) journal)

abbrev pub handle_of_it : ℕ → ℕ → List Entry → LiveHandle → Bool
handle_of_it number tenure journal handle = not (handle.tenure == tenure) || ((not (number == 0) && (handle.tx == number)) && list_any (gives number tenure handle.number) journal)

module _ (before : List Entry) (e : Entry) (h : IsJournalPrefix (e ∷ before)) (n : ℕ) (is : e.owner ≡ Tx n) where
  all_ruled : list_all (ruled e) (e ∷ before) ≡ true
  all_ruled =
      list_all-and (λ x. fits_of x.call x.answer && not (is_memory x.answer)) (λ x. works_in x.owner x && (not (x.tenure == e.tenure) || same_owner x.owner e.owner)) (e ∷ before)
      ∙ join2 _ _ (answers_fit (e ∷ before) h)
      (list_all-and (λ x. works_in x.owner x) (λ x. not (x.tenure == e.tenure) || same_owner x.owner e.owner) (e ∷ before)
      ∙ join2 _ _ (works-in (e ∷ before) h) (sym (list_all-filter (λ x. same_owner x.owner e.owner) (λ x. x.tenure == e.tenure) (e ∷ before)) ∙ same_owners before e h))

  -- An entry that gives a handle or a cursor in the tenure is of the transaction.
  of_it : (x : Entry) → ruled e x ≡ true → (x.tenure == e.tenure) ≡ true → (fits_of x.call x.answer ≡ true → is_work x.call ≡ true) → (not (n == 0) && (x.tx == n)) ≡ true
  of_it x k at work =
      let a = parts2 (fits_of x.call x.answer && not (is_memory x.answer)) (works_in x.owner x && (not (x.tenure == e.tenure) || same_owner x.owner e.owner)) k in
      let b = parts2 (works_in x.owner x) (not (x.tenure == e.tenure) || same_owner x.owner e.owner) a.1 in
      let same : same_owner x.owner e.owner ≡ true = rw at at b.1 in
      let own : x.owner ≡ Tx n = same_owner-is x.owner e.owner same ∙ is in
      let rule : (is_work x.call ⇒ not (n == 0) && (x.tx == n)) ≡ true = rw own at b.0 in
      if_so (is_work x.call) (not (n == 0) && (x.tx == n)) rule (work (parts2 (fits_of x.call x.answer) (not (is_memory x.answer)) a.0).0)

  -- A cursor of the tenure is of the transaction, as is the entry that gave it.
  pub cursors_of_it : list_all (cursor_of_it n e.tenure (e ∷ before)) (cursors (e ∷ before)) ≡ true
  cursors_of_it =
      list_all-so (λ c. list_any (gave_cursor c) (e ∷ before)) (cursor_of_it n e.tenure (e ∷ before))
      (λ c gave. go c (c.tenure == e.tenure) refl (list_any-both (gave_cursor c) (ruled e) (e ∷ before) gave all_ruled))
      (cursors (e ∷ before)) (cursors-given (e ∷ before))
    where
      one : (c : LiveCursor) (x : Entry) → (c.tenure == e.tenure) ≡ true → (gave_cursor c x && ruled e x) ≡ true → ((not (n == 0) && (c.tx == n)) ≡ true) × (stands n e.tenure x ≡ true)
      one c x at k =
          let a = parts2 (gave_cursor c x) (ruled e x) k in
          let b = parts2 (is_number (given_cursor x.answer) c.number) ((x.tenure == c.tenure) && (x.tx == c.tx)) a.0 in
          let d = parts2 (x.tenure == c.tenure) (x.tx == c.tx) b.1 in
          let here : (x.tenure == e.tenure) ≡ true = grind (arith, nat_tests, at, d.0) in
          let tx_is : x.tx ≡ c.tx = eqb→eq x.tx c.tx (grind (arith, nat_tests, d.1)) in
          let own = of_it x a.1 here (λ f. runs-work x.call x.answer (cursor-runs x.call x.answer f (number-some (given_cursor x.answer) c.number b.0))) in
          (rw (← tx_is) own, join2 (x.tx == n) (x.tenure == e.tenure) (parts2 (not (n == 0)) (x.tx == n) own).1 here)

      go : (c : LiveCursor) (b : Bool) → (c.tenure == e.tenure) ≡ b → list_any (λ x. gave_cursor c x && ruled e x) (e ∷ before) ≡ true
          → (not b || ((not (n == 0) && (c.tx == n)) && list_any (stands n e.tenure) (e ∷ before))) ≡ true
      go c false at gave = refl
      go c true at gave =
          join2 (not (n == 0) && (c.tx == n)) (list_any (stands n e.tenure) (e ∷ before))
          (pick ((not (n == 0) && (c.tx == n)) ≡ true) (λ x. gave_cursor c x && ruled e x) (e ∷ before) gave (λ x k. (one c x at k).0))
          (list_any-so (λ x. gave_cursor c x && ruled e x) (stands n e.tenure) (λ x k. (one c x at k).1) (e ∷ before) gave)

  -- A handle of the tenure is of the transaction, as is the entry that gave it.
  pub handles_of_it : list_all (handle_of_it n e.tenure (e ∷ before)) (handles (e ∷ before)) ≡ true
  handles_of_it =
      list_all-so (λ l. list_any (gave_handle l) (e ∷ before))
      (handle_of_it n e.tenure (e ∷ before))
      (λ l gave. go l (l.tenure == e.tenure) refl (list_any-both (gave_handle l) (ruled e) (e ∷ before) gave all_ruled))
      (handles (e ∷ before)) (handles-given (e ∷ before))
    where
      one : (l : LiveHandle) (x : Entry) → (l.tenure == e.tenure) ≡ true → (gave_handle l x && ruled e x) ≡ true
          → ((not (n == 0) && (l.tx == n)) ≡ true) × (gives n e.tenure l.number x ≡ true)
      one l x at k =
          let a = parts2 (gave_handle l x) (ruled e x) k in
          let b = parts2 (is_number (given_handle x.answer) l.number) ((x.tenure == l.tenure) && ((x.tx == l.tx) && same_owner x.owner l.owner)) a.0 in
          let c = parts2 (x.tenure == l.tenure) ((x.tx == l.tx) && same_owner x.owner l.owner) b.1 in
          let d = parts2 (x.tx == l.tx) (same_owner x.owner l.owner) c.1 in
          let here : (x.tenure == e.tenure) ≡ true = grind (arith, nat_tests, at, c.0) in
          let tx_is : x.tx ≡ l.tx = eqb→eq x.tx l.tx (grind (arith, nat_tests, d.0)) in
          let own = of_it x a.1 here (λ f. prepared-work x.call x.answer f (number-some (given_handle x.answer) l.number b.0)) in
          (rw (← tx_is) own, join2 (x.tx == n) ((x.tenure == e.tenure) && is_number (given_handle x.answer) l.number) (parts2 (not (n == 0)) (x.tx == n) own).1 (join2 (x.tenure == e.tenure) (is_number (given_handle x.answer) l.number) here b.0))

      go : (l : LiveHandle) (b : Bool) → (l.tenure == e.tenure) ≡ b → list_any (λ x. gave_handle l x && ruled e x) (e ∷ before) ≡ true
          → (not b || ((not (n == 0) && (l.tx == n)) && list_any (gives n e.tenure l.number) (e ∷ before))) ≡ true
      go l false at gave = refl
      go l true at gave =
          join2 (not (n == 0) && (l.tx == n)) (list_any (gives n e.tenure l.number) (e ∷ before))
          (pick ((not (n == 0) && (l.tx == n)) ≡ true) (λ x. gave_handle l x && ruled e x) (e ∷ before) gave (λ x k. (one l x at k).0))
          (list_any-so (λ x. gave_handle l x && ruled e x) (gives n e.tenure l.number) (λ x k. (one l x at k).1) (e ∷ before) gave)

cursors_after-closed : (n : ℕ) (e : Entry) (q : DriverCall) (a : DriverAnswer) (live : List LiveCursor) → ((e.tx == n) ≡ true → is_close_stmt q ≡ true)
    → list_all (λ c. not (c.tx == n)) live ≡ true → list_all (λ c. not (c.tx == n)) (cursors_after e q a live) ≡ true
cursors_after-closed n e (Query input params) (Cursor rows columns) live closing h = go (e.tx == n) closing
  where
    go : (b : Bool) → (b ≡ true → false ≡ true) → (not b && list_all (λ c. not (c.tx == n)) live) ≡ true
    go true closing = closing refl
    go false closing = h
cursors_after-closed n e (Next rows) a live closing h = list_all-changed (λ c. not (c.tx == n)) rows _ (λ c k. k) live h
cursors_after-closed n e (CloseRows rows) a live closing h = list_all-kept (λ c. not (c.tx == n)) (λ c. not (c.number == rows)) live h
cursors_after-closed n e _ _ live closing h = h

ending-cursors : (e : Entry) (q : DriverCall) (a : DriverAnswer) (live : List LiveCursor) → is_ending q ≡ true → cursors_after e q a live ≡ live
ending-cursors e Commit a live h = refl
ending-cursors e Rollback a live h = refl
ending-cursors e _ a live h = grind (arith, h)

-- No cursor of a transaction that has ended is live.
pub ended-closed : (n : ℕ) (journal : List Entry) → IsJournalPrefix journal → went_bad journal ≡ false → n ≢ 0 → has n (ended journal) ≡ true → list_all (λ c. not (c.tx == n)) (cursors journal) ≡ true
ended-closed n [] h good some over = refl
ended-closed n (e ∷ before) h good some over =
    let bad = both_false (is_bad e.answer) (went_bad before) good in
    go (is_ending e.call) (e.tx == n) refl refl over bad.1 (ended-closed n before (parts2 (may_follow before e) (is_journal_prefix before) h).1 bad.1 some)
  where
    -- After its end a transaction only closes statements.
    closing : has n (ended before) ≡ true → (e.tx == n) ≡ true → is_close_stmt e.call ≡ true
    closing over at =
        let is : e.tx ≡ n = eqb→eq e.tx n (grind (arith, nat_tests, at)) in
        if_so (list_any (λ x. is_ending x.call) (of_transaction e.tx before)) (is_close_stmt e.call) ((mayfollow before e h).transaction (λ z. some (sym is ∙ z))).close_after_end
        (sym (has-ended e.tx before) ∙ rw is over)

    or_more : (b c : Bool) → b ≡ false → (b || c) ≡ true → c ≡ true
    or_more true c z k = grind (arith, z)
    or_more false c z k = k

    go : (a b : Bool) → is_ending e.call ≡ a → (e.tx == n) ≡ b → has n (cond a (e.tx ∷ ended before) (ended before)) ≡ true → went_bad before ≡ false
        → (has n (ended before) ≡ true → list_all (λ c. not (c.tx == n)) (cursors before) ≡ true) → list_all (λ c. not (c.tx == n)) (cursors_after e e.call e.answer (cursors before)) ≡ true
    go true true ends at over good more =
        let is : e.tx ≡ n = eqb→eq e.tx n (grind (arith, nat_tests, at)) in
        let none : (went_bad before || list_all (λ c. not (c.tx == e.tx)) (cursors before)) ≡ true =
        if_so (is_ending e.call) (went_bad before || list_all (λ c. not (c.tx == e.tx)) (cursors before)) ((mayfollow before e h).transaction (λ z. some (sym is ∙ z))).no_cursors ends in
        rw (ending-cursors e e.call e.answer (cursors before) ends) (rw is at (or_more (went_bad before) (list_all (λ c. not (c.tx == e.tx)) (cursors before)) good none))
    go true false ends at over good more =
        rw (ending-cursors e e.call e.answer (cursors before) ends) (more (or_more (e.tx == n) (has n (ended before)) at over))
    go false b ends at over good more = cursors_after-closed n e e.call e.answer (cursors before) (closing over) (more over)
