-- The rules of a transaction, by which are begun and open and by what is live.
use Rattle.std.proofs.Common.{◌≡◌, ◌≢◌, ℕ, Bool, true, false, cond, not, ◌&&◌, ◌||◌, ◌==◌, nat_lt, nat_le, Some, List, [], ◌∷◌, refl, sym, ◌∙◌, ap, eqb→eq}
use Rattle.std.specs.List.{list_all, list_any}
use native.Mathlib.Omega.{arith}
use Rattle.std.proofs.lemmas.Bool.Decides.{nat_tests}
use Rattle.dsql_driver.specs.declared.call.DriverCall.{DriverCall}
use Rattle.dsql_driver.specs.declared.call.DriverCall.TheVariants.{Prepare, CloseStmt}
use Rattle.dsql_driver.specs.declared.answer.DriverAnswer.{DriverAnswer}
use Rattle.dsql_driver.specs.declared.answer.DriverAnswer.TheVariants.{Prepared}
use Rattle.dsql_driver.specs.Fits.{is_done}
use Rattle.dsql_tenure_journal.specs.declared.entry.Entry.{Entry}
use Rattle.dsql_tenure_journal.specs.declared.entry.Owner.{Owner}
use Rattle.dsql_tenure_journal.specs.declared.entry.Owner.TheVariants.{Call}
use Rattle.dsql_tenure_journal.specs.Kinds.{◌⇒◌, if_any, is_number, is_call, same_owner}
use Rattle.dsql_driver.specs.Kinds.{is_reset, is_valid, is_begin, is_ending, is_close_stmt, is_work, given_handle, handle_of}
use Rattle.dsql_tenure_journal.specs.Readers.{LiveHandle, is_empty, has, of_transaction, last_tenure, handles, handles_after, begun, ended}
use Rattle.dsql_tenure_journal.specs.Tenure.{is_whole_tenure}
use Rattle.dsql_tenure_journal.specs.Transaction as rule
use Rattle.dsql_tenure_journal.specs.WholeJournal as whole
use Rattle.dsql_tenure_journal.specs.WholeJournal.{keeps_whole_journal}
use Rattle.dsql_tenure_journal.specs.Journal.{may_follow, is_journal_prefix, IsJournalPrefix}
use Rattle.dsql_tenure_journal.specs.Facts.{KeepsBody, MayFollow}
use Rattle.dsql_tenure_journal.proofs.Conjunctions.{parts2, parts10, join2, if_so}
use Rattle.dsql_tenure_journal.proofs.Sentences.{MayFollow-of}
use Rattle.dsql_tenure.specs.Open.{open_in, begins_anew, goes_on_open, keeps_number}
use Rattle.dsql_tenure.proofs.Lists.{list_all-and, list_any-both, list_any-so}
use Rattle.dsql_tenure.proofs.Given.{gave_handle, handles-given, list_all-kept, list_any-filter}
use Rattle.dsql_tenure.proofs.Transactions.{OnlyBegins, begin-only, has-ended, has-open, of_transaction-begun}
use Rattle.dsql_tenure.proofs.Places.{open-last, one_tenure, has_ended-last, whole_ended, later_or_last}
use Rattle.dsql_tenure.proofs.Owned.{Served, found}

-- Holds of a call that is a CloseStmt.
pub record OnlyCloses (call : DriverCall) : Type 0 where
  pub work : is_work call ≡ true
  pub begin : is_begin call ≡ false
  pub ending : is_ending call ≡ false
  pub in_body : not (is_reset call || is_valid call) ≡ true

pub close-only : (q : DriverCall) → is_close_stmt q ≡ true → OnlyCloses q
close-only (CloseStmt n) h = record { work = refl; begin = refl; ending = refl; in_body = refl }
close-only _ h = record { work = grind (arith, h); begin = grind (arith, h); ending = grind (arith, h); in_body = grind (arith, h) }

-- A CloseStmt names a handle.
pub close-names : (q : DriverCall) → is_close_stmt q ≡ true → (n : ℕ) × (handle_of q ≡ Some n)
close-names (CloseStmt n) h = (n, refl)
close-names _ h = grind (arith, h)

-- Is true if the handle of a transaction wasn't prepared by a call on the database.
abbrev of_no_call : LiveHandle → Bool
of_no_call handle = (handle.tx == 0) || not (is_call handle.owner)

outside_if_call : (o : Owner) (before : List Entry) (e : Entry) → KeepsBody o before e → is_call o ≡ true → (e.tx == 0) ≡ true
outside_if_call (Call n) before e k is = k.no_transaction
outside_if_call _ before e k is = grind (arith, is)

handles_after-no_call : (e : Entry) (q : DriverCall) (a : DriverAnswer) (live : List LiveHandle) → (not (is_reset q || is_valid q) ≡ true → is_call e.owner ≡ true → (e.tx == 0) ≡ true)
    → list_all of_no_call live ≡ true → list_all of_no_call (handles_after e q a live) ≡ true
handles_after-no_call e (Prepare text) (Prepared handle inputs) live outside h =
    join2 ((e.tx == 0) || not (is_call e.owner)) (list_all of_no_call live) (go (is_call e.owner) (e.tx == 0) (outside refl)) h
  where
    go : (a b : Bool) → (a ≡ true → b ≡ true) → (b || not a) ≡ true
    go true true h = refl
    go true false h = grind (arith, h refl)
    go false true h = refl
    go false false h = refl
handles_after-no_call e (CloseStmt handle) a live outside h = list_all-kept of_no_call (λ x. not (x.number == handle)) live h
handles_after-no_call e _ _ live outside h = h

pub handles-no_call : (journal : List Entry) → IsJournalPrefix journal → list_all of_no_call (handles journal) ≡ true
handles-no_call [] h = refl
handles-no_call (e ∷ before) h =
    let p = parts2 (may_follow before e) (is_journal_prefix before) h in
    let m : MayFollow before e = MayFollow-of before e p.0 in
    handles_after-no_call e e.call e.answer (handles before) (λ body is. outside_if_call e.owner before e (m.tenure.in_body body) is) (handles-no_call before p.1)

-- Holds if the entry keeps the rules for tenures in the order of a whole journal.
pub record Rises (before : List Entry) (entry : Entry) : Type 0 where
  pub rising : nat_lt entry.tenure (last_tenure before) ≡ false
  pub whole : nat_lt (last_tenure before) entry.tenure ≡ true → is_whole_tenure (last_tenure before) before ≡ true

pub rises : (before : List Entry) (e : Entry) → keeps_whole_journal before e ≡ true → Rises before e
rises before e h =
    let p = parts10 (whole.has_one_connection before e) (whole.follows_no_refusal before) (whole.follows_whole_tenure before e) (whole.connects_first before e) (whole.follows_no_shut before) (whole.has_rising_tenure before e) (whole.starts_with_tenure_one before e) (whole.tidies_nothing_bad before e) (whole.stays_in_bad_tenure before e) (whole.shuts_after_invalid before e) h in
    let rising : nat_le (last_tenure before) e.tenure ≡ true = p.5 in
    record {
      rising = grind (arith, nat_tests, rising);
      whole = λ above. if_so (nat_lt (last_tenure before) e.tenure) (is_whole_tenure (last_tenure before) before) p.2 above;
    }

never_empty : (ns : List ℕ) (n : ℕ) → is_empty ns ≡ true → has n ns ≡ true → ⊥
never_empty [] n h k = grind (arith, k)
never_empty (m ∷ ns) n h k = grind (arith, h)

-- Is true if the entry, which stands in a transaction, may close a handle of number n.
abbrev tested : ℕ → Entry → LiveHandle → Bool
tested number entry handle = (not (handle.number == number) || (handle.tx == entry.tx)) && ((not (handle.number == number) || (not (is_call handle.owner) ⇒ handle.tenure == entry.tenure)) && of_no_call handle)

module _ (before : List Entry) (e : Entry) (h : IsJournalPrefix before) (r : Rises before e) (some : e.tx ≢ 0) where
  -- If the entry's transaction is open, its tenure goes on.
  open_here : has e.tx (open_in before) ≡ true → list_all (λ x. x.tenure == e.tenure) (of_transaction e.tx before) ≡ true
  open_here is =
      later_or_last (list_all (λ x. x.tenure == e.tenure) (of_transaction e.tx before) ≡ true) (last_tenure before) e.tenure
      (λ above. absurd (never_empty (open_in before) e.tx (sym (has_ended-last before h) ∙ whole_ended (last_tenure before) before (r.whole above)) is))
      (λ same. rw same (open-last e.tx before h some is))
      r.rising

  -- The rules agree if the entry begins a transaction.
  begin_case : is_begin e.call ≡ true
      → (rule.stands_in_one_tenure before e && rule.has_owner_of_transaction e && rule.starts_with_begin before e && rule.begins_once before e && rule.is_transaction_call before e
      && rule.ends_once before e && rule.closes_after_end before e && rule.closes_what_it_prepared before e && rule.ends_without_cursors before e)
      ≡ (rule.has_owner_of_transaction e && begins_anew before e)
  begin_case is =
      let only : OnlyBegins e.call = begin-only e.call is in
      go (of_transaction e.tx before) (has e.tx (begun before)) (of_transaction-begun e.tx before h some) only
    where
      go : (xs : List Entry) (b : Bool) → is_empty xs ≡ not b → OnlyBegins e.call
          → (list_all (λ x. x.tenure == e.tenure) xs && rule.has_owner_of_transaction e && (is_empty xs ⇒ is_begin e.call && is_done e.answer && (e.call_no == e.tx)) && (is_begin e.call ⇒ is_empty xs)
          && (is_empty xs || is_begin e.call || is_work e.call || is_ending e.call)
          && (list_any (λ x. is_ending x.call) xs ⇒ not (is_ending e.call)) && (list_any (λ x. is_ending x.call) xs ⇒ is_close_stmt e.call)
          && (list_any (λ x. is_ending x.call) xs ⇒ if_any (handle_of e.call) (λ n. list_any (λ x. is_number (given_handle x.answer) n) xs))
          && rule.ends_without_cursors before e)
          ≡ (rule.has_owner_of_transaction e && (is_done e.answer && (e.call_no == e.tx) && not b))
      go [] true none only = grind (arith, none)
      go [] false none only = rw (is, only.ending) (fresh (rule.has_owner_of_transaction e) (is_done e.answer) (e.call_no == e.tx))
        where
          fresh : (o d n : Bool) → (o && (d && n) && true && true && true && true && true && true) ≡ (o && (d && n && true))
          fresh true true true = refl
          fresh true true false = refl
          fresh true false n = refl
          fresh false d n = refl
      go (x ∷ xs) true none only = rw is (old (list_all (λ y. y.tenure == e.tenure) (x ∷ xs)) (rule.has_owner_of_transaction e) (is_done e.answer) (e.call_no == e.tx) _ _ _ _)
        where
          old : (a o d n p q r s : Bool) → (a && o && true && false && true && p && q && r && s) ≡ (o && (d && n && false))
          old true true true true p q r s = refl
          old true true true false p q r s = refl
          old true true false n p q r s = refl
          old true false d n p q r s = refl
          old false true true true p q r s = refl
          old false true true false p q r s = refl
          old false true false n p q r s = refl
          old false false d n p q r s = refl
      go (x ∷ xs) false none only = grind (arith, none)

  module _ (s : Served before e) where
    some_false : (e.tx == 0) ≡ false
    some_false = go (e.tx == 0) refl
      where
        go : (b : Bool) → (e.tx == 0) ≡ b → b ≡ false
        go true is = absurd (some (eqb→eq e.tx 0 (grind (arith, nat_tests, is))))
        go false is = refl

    -- The entry that gave the closed handle stands in the same transaction and tenure.
    gave_it : (n : ℕ) → handle_of e.call ≡ Some n → list_any (λ x. (x.tx == e.tx) && ((x.tenure == e.tenure) && is_number (given_handle x.answer) n)) before ≡ true
    gave_it n names =
        found (λ x. (x.number == n) && tested n e x) gave_handle (λ x. (x.tx == e.tx) && ((x.tenure == e.tenure) && is_number (given_handle x.answer) n)) before
        (λ x y p g.
        let k = parts2 (x.number == n) (tested n e x) p in
        let is : x.number ≡ n = eqb→eq x.number n (grind (arith, nat_tests, k.0)) in
        let at : (x.tx ≡ e.tx) × (x.tenure ≡ e.tenure) = place x k.0 k.1 in
        let q = parts2 (is_number (given_handle y.answer) x.number) ((y.tenure == x.tenure) && ((y.tx == x.tx) && same_owner y.owner x.owner)) g in
        let r = parts2 (y.tenure == x.tenure) ((y.tx == x.tx) && same_owner y.owner x.owner) q.1 in
        let z = parts2 (y.tx == x.tx) (same_owner y.owner x.owner) r.1 in
        join2 (y.tx == e.tx) ((y.tenure == e.tenure) && is_number (given_handle y.answer) n) (rw (← at.0) z.0)
        (join2 (y.tenure == e.tenure) (is_number (given_handle y.answer) n) (rw (← at.1) r.0) (rw (← is) q.0)))
        (handles before) (handles-given before)
        (list_any-both (λ x. x.number == n) (tested n e) (handles before) (by_name (λ m. list_any (λ x. x.number == m) (handles before)) s.handle) all_tested)
      where
        by_name : (f : ℕ → Bool) → if_any (handle_of e.call) f ≡ true → f n ≡ true
        by_name f k = rw names at k

        all_tested : list_all (tested n e) (handles before) ≡ true
        all_tested =
            list_all-and (λ x. not (x.number == n) || (x.tx == e.tx)) (λ x. (not (x.number == n) || (not (is_call x.owner) ⇒ x.tenure == e.tenure)) && of_no_call x) (handles before)
            ∙ join2 _ _ (by_name (λ m. list_all (λ x. not (x.number == m) || (x.tx == e.tx)) (handles before)) s.handle_tx)
            (list_all-and (λ x. not (x.number == n) || (not (is_call x.owner) ⇒ x.tenure == e.tenure)) of_no_call (handles before)
            ∙ join2 _ _ (by_name (λ m. list_all (λ x. not (x.number == m) || (not (is_call x.owner) ⇒ x.tenure == e.tenure)) (handles before)) s.handle_tenure) (handles-no_call before h))

        place : (x : LiveHandle) → (x.number == n) ≡ true → tested n e x ≡ true → (x.tx ≡ e.tx) × (x.tenure ≡ e.tenure)
        place x is k =
            let p = parts2 (not (x.number == n) || (x.tx == e.tx)) ((not (x.number == n) || (not (is_call x.owner) ⇒ x.tenure == e.tenure)) && of_no_call x) k in
            let q = parts2 (not (x.number == n) || (not (is_call x.owner) ⇒ x.tenure == e.tenure)) (of_no_call x) p.1 in
            let tx_is : x.tx ≡ e.tx = eqb→eq x.tx e.tx (grind (arith, nat_tests, rw is at p.0)) in
            let free : not (is_call x.owner) ≡ true = rw (tx_is, some_false) at q.1 in
            (tx_is, eqb→eq x.tenure e.tenure (grind (arith, nat_tests, rw (is, free) at q.0)))

    -- The rules agree if the entry closes a handle.
    close_case : is_close_stmt e.call ≡ true
        → (rule.stands_in_one_tenure before e && rule.has_owner_of_transaction e && rule.starts_with_begin before e && rule.begins_once before e && rule.is_transaction_call before e
        && rule.ends_once before e && rule.closes_after_end before e && rule.closes_what_it_prepared before e && rule.ends_without_cursors before e)
        ≡ rule.has_owner_of_transaction e
    close_case is =
        let only : OnlyCloses e.call = close-only e.call is in
        let names = close-names e.call is in
        let one = gave_it names.0 names.1 in
        let in_tenure : list_any (λ x. x.tenure == e.tenure) (of_transaction e.tx before) ≡ true =
        list_any-filter (λ x. x.tenure == e.tenure) (λ x. x.tx == e.tx) before
        ∙ list_any-so (λ x. (x.tx == e.tx) && ((x.tenure == e.tenure) && is_number (given_handle x.answer) names.0)) (λ x. (x.tx == e.tx) && (x.tenure == e.tenure)) (λ x k. first_two (x.tx == e.tx) (x.tenure == e.tenure) (is_number (given_handle x.answer) names.0) k) before one in
        let gave : list_any (λ x. is_number (given_handle x.answer) names.0) (of_transaction e.tx before) ≡ true =
        list_any-filter (λ x. is_number (given_handle x.answer) names.0) (λ x. x.tx == e.tx) before
        ∙ list_any-so (λ x. (x.tx == e.tx) && ((x.tenure == e.tenure) && is_number (given_handle x.answer) names.0)) (λ x. (x.tx == e.tx) && is_number (given_handle x.answer) names.0) (λ x k. outer_two (x.tx == e.tx) (x.tenure == e.tenure) (is_number (given_handle x.answer) names.0) k) before one in
        go (of_transaction e.tx before) names.0 names.1 (one_tenure e.tx e.tenure before h some in_tenure) gave only
      where
        first_two : (a b c : Bool) → (a && (b && c)) ≡ true → (a && b) ≡ true
        first_two true true c k = refl
        first_two true false c k = k
        first_two false b c k = k

        outer_two : (a b c : Bool) → (a && (b && c)) ≡ true → (a && c) ≡ true
        outer_two true true c k = k
        outer_two true false c k = grind (arith, k)
        outer_two false b c k = k

        go : (xs : List Entry) (n : ℕ) → handle_of e.call ≡ Some n → list_all (λ x. x.tenure == e.tenure) xs ≡ true → list_any (λ x. is_number (given_handle x.answer) n) xs ≡ true → OnlyCloses e.call
            → (list_all (λ x. x.tenure == e.tenure) xs && rule.has_owner_of_transaction e && (is_empty xs ⇒ is_begin e.call && is_done e.answer && (e.call_no == e.tx)) && (is_begin e.call ⇒ is_empty xs)
            && (is_empty xs || is_begin e.call || is_work e.call || is_ending e.call)
            && (list_any (λ x. is_ending x.call) xs ⇒ not (is_ending e.call)) && (list_any (λ x. is_ending x.call) xs ⇒ is_close_stmt e.call)
            && (list_any (λ x. is_ending x.call) xs ⇒ if_any (handle_of e.call) (λ m. list_any (λ x. is_number (given_handle x.answer) m) xs))
            && rule.ends_without_cursors before e)
            ≡ rule.has_owner_of_transaction e
        go [] n names all gave only = grind (arith, gave)
        go (x ∷ xs) n names all gave only =
            rw (all, only.begin, only.work, only.ending, is, names, gave) (eight (rule.has_owner_of_transaction e) (list_any (λ y. is_ending y.call) (x ∷ xs)))
          where
            eight : (o d : Bool) → (true && o && true && true && true && (d ⇒ true) && (d ⇒ true) && (d ⇒ true) && true) ≡ o
            eight true true = refl
            eight true false = refl
            eight false d = refl

  -- The rules agree if the entry works in the transaction or ends it, or is of no kind that a transaction has.
  other_case : is_begin e.call ≡ false → is_close_stmt e.call ≡ false
      → (rule.stands_in_one_tenure before e && rule.has_owner_of_transaction e && rule.starts_with_begin before e && rule.begins_once before e && rule.is_transaction_call before e
      && rule.ends_once before e && rule.closes_after_end before e && rule.closes_what_it_prepared before e && rule.ends_without_cursors before e)
      ≡ (rule.has_owner_of_transaction e && goes_on_open before e)
  other_case no_begin no_close =
      let known : has e.tx (open_in before) ≡ (not (is_empty (of_transaction e.tx before)) && not (list_any (λ x. is_ending x.call) (of_transaction e.tx before))) =
      has-open e.tx before h ∙ both (has e.tx (begun before)) (is_empty (of_transaction e.tx before)) (of_transaction-begun e.tx before h some) (has-ended e.tx before) in
      go (of_transaction e.tx before) (has e.tx (open_in before)) known open_here
    where
      both : (b x : Bool) → x ≡ not b → has e.tx (ended before) ≡ list_any (λ y. is_ending y.call) (of_transaction e.tx before)
          → (b && not (has e.tx (ended before))) ≡ (not x && not (list_any (λ y. is_ending y.call) (of_transaction e.tx before)))
      both true true k d = grind (arith, k)
      both true false k d = ap not d
      both false true k d = refl
      both false false k d = grind (arith, k)

      go : (xs : List Entry) (b : Bool) → b ≡ (not (is_empty xs) && not (list_any (λ x. is_ending x.call) xs)) → (b ≡ true → list_all (λ x. x.tenure == e.tenure) xs ≡ true)
          → (list_all (λ x. x.tenure == e.tenure) xs && rule.has_owner_of_transaction e && (is_empty xs ⇒ is_begin e.call && is_done e.answer && (e.call_no == e.tx)) && (is_begin e.call ⇒ is_empty xs)
          && (is_empty xs || is_begin e.call || is_work e.call || is_ending e.call)
          && (list_any (λ x. is_ending x.call) xs ⇒ not (is_ending e.call)) && (list_any (λ x. is_ending x.call) xs ⇒ is_close_stmt e.call)
          && (list_any (λ x. is_ending x.call) xs ⇒ if_any (handle_of e.call) (λ m. list_any (λ x. is_number (given_handle x.answer) m) xs))
          && rule.ends_without_cursors before e)
          ≡ (rule.has_owner_of_transaction e && ((is_work e.call || is_ending e.call) && b && rule.ends_without_cursors before e))
      go [] b is here = rw (no_begin, is) (nothing (rule.has_owner_of_transaction e) (is_work e.call || is_ending e.call) _ _)
        where
          nothing : (o k p j : Bool) → (true && o && false && true && p && true && true && true && j) ≡ (o && (k && false && j))
          nothing true true p j = refl
          nothing true false p j = refl
          nothing false k p j = refl
      go (x ∷ xs) b is here =
          rw (no_begin, no_close) (open_or_not (list_any (λ y. is_ending y.call) (x ∷ xs)) b is here)
        where
          live : (a o k j : Bool) → a ≡ true → (a && o && true && true && k && true && true && true && j) ≡ (o && (k && true && j))
          live true true true j is = refl
          live true true false j is = refl
          live true false k j is = refl
          live false o k j is = grind (arith, is)

          over : (a o k m p j : Bool) → (a && o && true && true && k && m && false && p && j) ≡ (o && (k && false && j))
          over true true true true p j = refl
          over true true true false p j = refl
          over true true false m p j = refl
          over true false k m p j = refl
          over false true true m p j = refl
          over false true false m p j = refl
          over false false k m p j = refl

          open_or_not : (d b : Bool) → b ≡ (true && not d) → (b ≡ true → list_all (λ y. y.tenure == e.tenure) (x ∷ xs) ≡ true)
              → (list_all (λ y. y.tenure == e.tenure) (x ∷ xs) && rule.has_owner_of_transaction e && true && true
              && (is_work e.call || is_ending e.call)
              && (d ⇒ not (is_ending e.call)) && (d ⇒ false)
              && (d ⇒ if_any (handle_of e.call) (λ m. list_any (λ y. is_number (given_handle y.answer) m) (x ∷ xs)))
              && rule.ends_without_cursors before e)
              ≡ (rule.has_owner_of_transaction e && ((is_work e.call || is_ending e.call) && b && rule.ends_without_cursors before e))
          open_or_not true b is here = rw is (over (list_all (λ y. y.tenure == e.tenure) (x ∷ xs)) (rule.has_owner_of_transaction e) (is_work e.call || is_ending e.call) (not (is_ending e.call)) _ (rule.ends_without_cursors before e))
          open_or_not false b is here = rw is (live (list_all (λ y. y.tenure == e.tenure) (x ∷ xs)) (rule.has_owner_of_transaction e) (is_work e.call || is_ending e.call) (rule.ends_without_cursors before e) (here is))

  -- All rules of a transaction hold exactly if the entry's owner may own the transaction and its number is
  -- kept.
  pub keeps_transaction-is : Served before e → rule.keeps_transaction before e ≡ (rule.has_owner_of_transaction e && keeps_number before e)
  keeps_transaction-is s =
      rw (some_false s) (go (is_begin e.call) (is_close_stmt e.call) refl refl)
    where
      last : (o : Bool) → o ≡ (o && true)
      last true = refl
      last false = refl

      go : (a b : Bool) → is_begin e.call ≡ a → is_close_stmt e.call ≡ b
          → (rule.stands_in_one_tenure before e && rule.has_owner_of_transaction e && rule.starts_with_begin before e && rule.begins_once before e && rule.is_transaction_call before e
          && rule.ends_once before e && rule.closes_after_end before e && rule.closes_what_it_prepared before e && rule.ends_without_cursors before e)
          ≡ (rule.has_owner_of_transaction e && cond a (begins_anew before e) (b || goes_on_open before e))
      go true b is closes = begin_case is
      go false true is closes = close_case s closes ∙ last (rule.has_owner_of_transaction e)
      go false false is closes = other_case is closes
