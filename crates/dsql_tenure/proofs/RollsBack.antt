-- The argument that a beginning in which an answer was Bad has a whole end, by induction over the open
-- transactions.
use Rattle.std.proofs.Common.{◌≡◌, ◌≢◌, ℕ, zero, suc, ◌+◌, ◌≤◌, Bool, true, false, cond, not, ◌&&◌, ◌||◌, ◌==◌, nat_le, List, [], ◌∷◌, ◌++◌, length, append_assoc, refl, sym, ◌∙◌, ap, subst, eqb→eq}
use Rattle.std.specs.List.{filter, list_all}
use native.Mathlib.Omega.{arith}
use Rattle.std.proofs.lemmas.Bool.Decides.{nat_tests}
use Rattle.std.proofs.lemmas.List.Folds.{list_all-append}
use Rattle.dsql_driver.specs.declared.answer.DriverAnswer.TheVariants.{Done}
use Rattle.dsql_tenure_journal.specs.declared.entry.Entry.{Entry}
use Rattle.dsql_tenure_journal.specs.Entries.{shut_entry}
use Rattle.dsql_tenure_journal.specs.Readers.{is_empty, has, last_tenure, begins, begun, went_bad, was_shut, was_refused}
use Rattle.dsql_tenure_journal.specs.Tenure.{is_whole_tenure, has_ended_transactions, has_closed_cursors, has_closed_handles}
use Rattle.dsql_tenure_journal.specs.Journal.{may_follow, is_journal_prefix, IsJournalPrefix, IsWhole}
use Rattle.dsql_tenure_journal.proofs.Conjunctions.{parts2, join2}
use Rattle.dsql_tenure_journal.proofs.Beginnings.{IsJournalPrefix-longer}
use Rattle.dsql_tenure_journal.proofs.Tenures.{IsWhole-shut}
use Rattle.dsql_tenure.specs.Open.{open_in}
use Rattle.dsql_tenure.specs.Ends.{HasWholeEnd}
use Rattle.dsql_tenure.proofs.Given.{eqb-refl}
use Rattle.dsql_tenure.proofs.Standing.{whole-is}
use Rattle.dsql_tenure.proofs.Transactions.{begins-number, has-open}
use Rattle.dsql_tenure.proofs.Places.{has_ended-last}
use Rattle.dsql_tenure.proofs.WholeAtOnce.{mayfollow}
use Rattle.dsql_tenure.proofs.BadEnds.{rolled, may_roll}

-- No transaction has the number 0.
pub zero-unbegun : (journal : List Entry) → IsJournalPrefix journal → has 0 (begun journal) ≡ false
zero-unbegun [] h = refl
zero-unbegun (e ∷ before) h = go (begins e) refl (zero-unbegun before (parts2 (may_follow before e) (is_journal_prefix before) h).1)
  where
    numbered : (b : Bool) → (e.tx == 0) ≡ b → begins e ≡ true → b ≡ false
    numbered true z is = absurd (begins-number before e (mayfollow before e h) is (eqb→eq e.tx 0 (grind (arith, nat_tests, z))))
    numbered false z is = refl

    neither : (a b : Bool) → a ≡ false → b ≡ false → (a || b) ≡ false
    neither true b x y = x
    neither false b x y = y

    go : (b : Bool) → begins e ≡ b → has 0 (begun before) ≡ false → has 0 (cond b (e.tx ∷ begun before) (begun before)) ≡ false
    go true is more = neither (e.tx == 0) (has 0 (begun before)) (numbered (e.tx == 0) refl is) more
    go false is more = more

-- A whole end after one entry more gives a whole end.
pub one_more : (r : Entry) (journal : List Entry) → r.tenure ≡ last_tenure journal → HasWholeEnd (r ∷ journal) → HasWholeEnd journal
one_more r journal same end = (
  end.0 ++ r ∷ [],
  subst (λ (j : List Entry). IsWhole j) (sym (append_assoc end.0 (r ∷ []) journal)) end.1,
  list_all-append (λ x. nat_le x.tenure (last_tenure journal + 1)) end.0 (r ∷ [])
      ∙ join2 (list_all (λ x. nat_le x.tenure (last_tenure journal + 1)) end.0) (nat_le r.tenure (last_tenure journal + 1) && true)
      (subst (λ (n : ℕ). list_all (λ x. nat_le x.tenure (n + 1)) end.0 ≡ true) same end.2) (join2 (nat_le r.tenure (last_tenure journal + 1)) true (grind (arith, nat_tests, same)) refl),
)

-- A whole tenure can be shut.
pub shut_end : (before : List Entry) (e : Entry) → IsJournalPrefix (e ∷ before) → was_refused (e ∷ before) ≡ false → was_shut (e ∷ before) ≡ false → is_whole_tenure e.tenure (e ∷ before) ≡ true
    → HasWholeEnd (e ∷ before)
shut_end before e h not_refused not_shut whole = (
  shut_entry e.conn (e.tenure + 1) Done ∷ [],
  IsWhole-shut (e ∷ before) e.conn (e.tenure + 1)
      (join2 (e.conn == e.conn) (list_all (λ x. x.conn == e.conn) before) (eqb-refl e.conn) (mayfollow before e h).whole_journal.one_connection) Done
      (record { beginning = h; opened = refl; not_refused = not_refused; not_shut = not_shut; whole = whole; above = omega arith }) refl refl,
  join2 (nat_le (e.tenure + 1) (e.tenure + 1)) true (grind (arith, nat_tests)) refl,
)

shorter : (m : ℕ) (ns : List ℕ) → length (filter (λ k. not (k == m)) ns) ≤ length ns
shorter m [] = omega arith
shorter m (n ∷ ns) = go (n == m) (shorter m ns)
  where
    go : (b : Bool) → length (filter (λ k. not (k == m)) ns) ≤ length ns → length (cond (not b) (n ∷ filter (λ k. not (k == m)) ns) (filter (λ k. not (k == m)) ns)) ≤ length (n ∷ ns)
    go true h = grind (arith, h)
    go false h = grind (arith, h)

-- After a Bad answer a tenure without open transactions is whole.
bad_whole : (before : List Entry) (e : Entry) → IsJournalPrefix (e ∷ before) → went_bad (e ∷ before) ≡ true → is_empty (open_in (e ∷ before)) ≡ true → is_whole_tenure e.tenure (e ∷ before) ≡ true
bad_whole before e h bad none =
    join2 (has_ended_transactions e.tenure (e ∷ before)) (went_bad (e ∷ before) || has_closed_cursors e.tenure (e ∷ before) && has_closed_handles e.tenure (e ∷ before))
    (has_ended-last (e ∷ before) h ∙ none) (rw bad refl)

-- The open transactions are rolled back, and then the connection is shut.
pub bad_end : (n : ℕ) (before : List Entry) (e : Entry) → IsJournalPrefix (e ∷ before) → was_refused (e ∷ before) ≡ false → was_shut (e ∷ before) ≡ false → went_bad (e ∷ before) ≡ true
    → length (open_in (e ∷ before)) ≤ n → HasWholeEnd (e ∷ before)
bad_end zero before e h not_refused not_shut bad few =
    shut_end before e h not_refused not_shut (bad_whole before e h bad (empty_list (open_in (e ∷ before)) few))
  where
    empty_list : (ns : List ℕ) → length ns ≤ 0 → is_empty ns ≡ true
    empty_list [] few = refl
    empty_list (n ∷ ns) few = absurd (omega arith)
bad_end (suc k) before e h not_refused not_shut bad few = go (open_in (e ∷ before)) refl few (λ r j a b c d f. bad_end k j r a b c d f)
  where
    go : (ns : List ℕ) → open_in (e ∷ before) ≡ ns → length ns ≤ suc k
        → ((r : Entry) (j : List Entry) → IsJournalPrefix (r ∷ j) → was_refused (r ∷ j) ≡ false → was_shut (r ∷ j) ≡ false → went_bad (r ∷ j) ≡ true → length (open_in (r ∷ j)) ≤ k → HasWholeEnd (r ∷ j))
        → HasWholeEnd (e ∷ before)
    go [] none few more = shut_end before e h not_refused not_shut (bad_whole before e h bad (rw none refl))
    go (m ∷ ns) is few more =
        let here : has m (open_in (e ∷ before)) ≡ true = rw (is, eqb-refl m) refl in
        let none : has 0 (open_in (e ∷ before)) ≡ false = has-open 0 (e ∷ before) h ∙ rw (zero-unbegun (e ∷ before) h) refl in
        let some : m ≢ 0 = λ z. zero_out (sym (ap (λ x. has x (open_in (e ∷ before))) z ∙ none) ∙ here) in
        let left : length (filter (λ x. not (x == m)) (open_in (e ∷ before))) ≤ k = rw (is, eqb-refl m) (omega (arith, shorter m ns)) in
        one_more (rolled e m) (e ∷ before) refl
        (more (rolled e m) (e ∷ before) (IsJournalPrefix-longer (e ∷ before) (rolled e m) h (may_roll before e h m here some bad not_shut not_refused)) not_refused not_shut bad left)
      where
        zero_out : false ≡ true → ⊥
        zero_out k = grind (arith, k)

-- A beginning in which an answer was Bad has a whole end.
pub bad-has_whole_end : (journal : List Entry) → IsJournalPrefix journal → went_bad journal ≡ true → HasWholeEnd journal
bad-has_whole_end [] h bad = grind (arith, bad)
bad-has_whole_end (e ∷ before) h bad = go (was_refused (e ∷ before)) (was_shut (e ∷ before)) refl refl
  where
    over : (was_refused (e ∷ before) || was_shut (e ∷ before)) ≡ true → HasWholeEnd (e ∷ before)
    over is = ([], whole-is (e ∷ before) h ∙ is, refl)

    go : (a b : Bool) → was_refused (e ∷ before) ≡ a → was_shut (e ∷ before) ≡ b → HasWholeEnd (e ∷ before)
    go true b refused shut = over (rw refused refl)
    go false true refused shut = over (rw (refused, shut) refl)
    go false false refused shut = bad_end (length (open_in (e ∷ before))) before e h refused shut bad (omega arith)
