-- The argument that a call on the database has a cursor to close if its tenure isn't whole.
use Rattle.std.proofs.Common.{◌≡◌, ◌≢◌, ℕ, ◌≤◌, Bool, true, false, not, ◌&&◌, ◌||◌, ◌==◌, nat_lt, List, [], ◌∷◌, refl, sym, ◌∙◌, subst, eqb→eq}
use Rattle.std.specs.List.{filter, list_all, list_any}
use native.Mathlib.Omega.{arith}
use Rattle.std.proofs.lemmas.Bool.Decides.{nat_tests}
use Rattle.dsql_driver.specs.declared.call.DriverCall.{DriverCall}
use Rattle.dsql_driver.specs.declared.call.DriverCall.TheVariants.{Ping, CloseStmt, Exec, Query, CloseRows}
use Rattle.dsql_driver.specs.declared.call.Input.TheVariants.{Text, Handle}
use Rattle.dsql_driver.specs.declared.answer.DriverAnswer.{DriverAnswer}
use Rattle.dsql_driver.specs.declared.answer.DriverAnswer.TheVariants.{Bad}
use Rattle.dsql_tenure_journal.specs.declared.entry.Entry.{Entry}
use Rattle.dsql_tenure_journal.specs.declared.entry.Owner.{Owner}
use Rattle.dsql_tenure_journal.specs.declared.entry.Owner.TheVariants.{Call}
use Rattle.dsql_tenure_journal.specs.Kinds.{◌⇒◌, is_number, is_call, is_pin, is_tx_number, same_owner}
use Rattle.dsql_driver.specs.Kinds.{is_reset, is_valid, is_ping, is_next, is_bad, given_handle, given_cursor}
use Rattle.dsql_tenure_journal.specs.Readers.{LiveHandle, LiveCursor, is_empty, has, of_tenure, handles, cursors, cursors_named, went_bad}
use Rattle.dsql_tenure_journal.specs.HandlesAndCursors.{is_as_wide}
use Rattle.dsql_tenure_journal.specs.Tenure.{is_whole_tenure, has_ended_transactions, has_closed_cursors, has_closed_handles, is_body, place}
use Rattle.dsql_tenure_journal.specs.Journal.{may_follow, is_journal_prefix, IsJournalPrefix}
use Rattle.dsql_tenure_journal.specs.Facts.{KeepsBody, KeepsCallBody, MayFollow}
use Rattle.dsql_tenure_journal.proofs.Conjunctions.{parts2, join2, if_so}
use Rattle.dsql_tenure_journal.proofs.Numbers.{cursors_named-one}
use Rattle.dsql_tenure.specs.Open.{open_in}
use Rattle.dsql_tenure.specs.Ends.{HasWholeEnd}
use Rattle.dsql_tenure.proofs.Lists.{is_empty-filter, list_all-none, list_all-so, list_all-filter, list_all-and, list_any-both, list_any-so}
use Rattle.dsql_tenure.proofs.Given.{gave_handle, gave_cursor, handles-given, cursors-given, list_any-filter, eqb-refl}
use Rattle.dsql_tenure.proofs.SoFarRules.{same_owner-is, pinged-worked, next-place}
use Rattle.dsql_tenure.proofs.Transactions.{has-open}
use Rattle.dsql_tenure.proofs.Places.{has_ended-last}
use Rattle.dsql_tenure.proofs.WholeAtOnce.{mayfollow, whole-valid, empty_is}
use Rattle.dsql_tenure.proofs.Rollbacks.{open_owner, owned}
use Rattle.dsql_tenure.proofs.BadEnds.{both_false, same_owners}
use Rattle.dsql_tenure.proofs.RollsBack.{zero-unbegun}
use Rattle.dsql_tenure.proofs.Partly.{Partly, spoiled, spoiled_end}
use Rattle.dsql_tenure.proofs.Owned.{own_cursor}
use Rattle.dsql_tenure.proofs.Members.{pick, pick_in, clash, none-kept, all-any, only-one}
use Rattle.dsql_tenure.proofs.Openers.{runs, runs-body, opened, one_cursor, closed-one, call_body}

-- An open transaction has a number other than 0.
pub open-number : (journal : List Entry) → IsJournalPrefix journal → (m : ℕ) → has m (open_in journal) ≡ true → m ≢ 0
open-number journal h m is zero_so =
    let none : has 0 (open_in journal) ≡ false = has-open 0 journal h ∙ rw (zero-unbegun journal h) refl in
    let some : has 0 (open_in journal) ≡ true = rw (← zero_so) is in
    grind (arith, none, some)

pub all_wide : (cs : List LiveCursor) → list_all (is_as_wide Bad) cs ≡ true
all_wide [] = refl
all_wide (c ∷ cs) = all_wide cs

-- Is true if the other entry has an owner for its transaction, and the owner of the tenure if it stands in
-- that.
abbrev owned_in : Entry → Entry → Bool
owned_in entry other = ((other.tx == 0) || (is_tx_number other.tx other.owner || is_pin other.owner)) && (not (other.tenure == entry.tenure) || same_owner other.owner entry.owner)

module _ (before : List Entry) (e : Entry) (p : Partly before e) (n : ℕ) (is : e.owner ≡ Call n) where
  call_is : is_call e.owner ≡ true
  call_is = rw is refl

  -- No transaction of the tenure is open.
  ended : has_ended_transactions e.tenure (e ∷ before) ≡ true
  ended = has_ended-last (e ∷ before) p.beginning ∙ go (open_in (e ∷ before)) refl
    where
      go : (ns : List ℕ) → open_in (e ∷ before) ≡ ns → is_empty ns ≡ true
      go [] none = refl
      go (m ∷ ns) some =
          let here : has m (open_in (e ∷ before)) ≡ true = rw (some, eqb-refl m) refl in
          rw is at (open_owner before e p.beginning m here (open-number (e ∷ before) p.beginning m here))

  -- Each live handle of the tenure is a call's.
  closed_handles : has_closed_handles e.tenure (e ∷ before) ≡ true
  closed_handles =
      list_all-so (λ h. list_any (gave_handle h) (e ∷ before)) (λ h. (h.tenure == e.tenure) ⇒ is_call h.owner)
      (λ h gave. pick (((h.tenure == e.tenure) ⇒ is_call h.owner) ≡ true) (λ x. gave_handle h x && (not (x.tenure == e.tenure) || same_owner x.owner e.owner)) (e ∷ before)
      (list_any-both (gave_handle h) (λ x. not (x.tenure == e.tenure) || same_owner x.owner e.owner) (e ∷ before) gave all_same)
      (λ x k. of_call h x k))
      (handles (e ∷ before)) (handles-given (e ∷ before))
    where
      all_same : list_all (λ x. not (x.tenure == e.tenure) || same_owner x.owner e.owner) (e ∷ before) ≡ true
      all_same = sym (list_all-filter (λ x. same_owner x.owner e.owner) (λ x. x.tenure == e.tenure) (e ∷ before)) ∙ same_owners before e p.beginning

      of_call : (h : LiveHandle) (x : Entry) → (gave_handle h x && (not (x.tenure == e.tenure) || same_owner x.owner e.owner)) ≡ true → ((h.tenure == e.tenure) ⇒ is_call h.owner) ≡ true
      of_call h x k =
          let a = parts2 (gave_handle h x) (not (x.tenure == e.tenure) || same_owner x.owner e.owner) k in
          let b = parts2 (is_number (given_handle x.answer) h.number) ((x.tenure == h.tenure) && ((x.tx == h.tx) && same_owner x.owner h.owner)) a.0 in
          let c = parts2 (x.tenure == h.tenure) ((x.tx == h.tx) && same_owner x.owner h.owner) b.1 in
          let d = parts2 (x.tx == h.tx) (same_owner x.owner h.owner) c.1 in
          let at : x.tenure ≡ h.tenure = eqb→eq x.tenure h.tenure (grind (arith, nat_tests, c.0)) in
          let own : x.owner ≡ h.owner = same_owner-is x.owner h.owner d.1 in
          go (h.tenure == e.tenure) (rw (at, own) at a.1)
        where
          go : (b : Bool) → (not b || same_owner h.owner e.owner) ≡ true → (b ⇒ is_call h.owner) ≡ true
          go true k = rw (same_owner-is h.owner e.owner k) call_is
          go false k = refl

  -- So a cursor of the tenure is live.
  live : list_any (λ c. c.tenure == e.tenure) (cursors (e ∷ before)) ≡ true
  live = go (list_any (λ c. c.tenure == e.tenure) (cursors (e ∷ before))) (list_all-none (λ c. c.tenure == e.tenure) (cursors (e ∷ before)))
    where
      go : (b : Bool) → has_closed_cursors e.tenure (e ∷ before) ≡ not b → b ≡ true
      go true k = refl
      go false k =
          let whole : is_whole_tenure e.tenure (e ∷ before) ≡ true = rw (ended, p.not_bad, k, closed_handles) refl in
          sym p.partly ∙ whole

  ran : list_any (λ x. runs x.call x.answer) (of_tenure e.tenure (e ∷ before)) ≡ true
  ran = opened e.tenure (e ∷ before) p.beginning live

  all_calls : list_all (λ x. is_call x.owner) (of_tenure e.tenure before) ≡ true
  all_calls = list_all-so (λ (x : Entry). same_owner x.owner e.owner) (λ (x : Entry). is_call x.owner) (λ x k. rw (same_owner-is x.owner e.owner k) call_is) (of_tenure e.tenure before) (mayfollow before e p.beginning).tenure.one_owner

  only_run : (xs : List Entry) → xs ≡ [] → list_any (λ x. runs x.call x.answer) (e ∷ xs) ≡ true → runs e.call e.answer ≡ true
  only_run [] none k = last (runs e.call e.answer) k
    where
      last : (b : Bool) → (b || false) ≡ true → b ≡ true
      last true k = refl
      last false k = k
  only_run (x ∷ xs) none k = grind (arith, none)

  here : list_any (λ x. runs x.call x.answer) (e ∷ of_tenure e.tenure before) ≡ true
  here = rw (eqb-refl e.tenure) at ran

  -- Its last entry is no test.
  works : is_body e ≡ true
  works = go (is_reset e.call) (is_valid e.call) refl refl
    where
      reset_alone : is_reset e.call ≡ true → not (is_reset e.call || is_valid e.call) ≡ true
      reset_alone reset =
          let none : of_tenure e.tenure before ≡ [] = empty_is (of_tenure e.tenure before) (if_so (is_reset e.call) (is_empty (of_tenure e.tenure before)) (mayfollow before e p.beginning).tenure.reset_first reset) in
          runs-body e.call e.answer (only_run (of_tenure e.tenure before) none here)

      go : (a b : Bool) → is_reset e.call ≡ a → is_valid e.call ≡ b → not (a || b) ≡ true
      go true b reset valid = let k = reset_alone reset in grind (arith, reset, k)
      go false true reset valid = sym p.partly ∙ whole-valid before e p.beginning valid
      go false false reset valid = refl

  body : KeepsCallBody before e
  body = call_body e.owner before e call_is ((mayfollow before e p.beginning).tenure.in_body works)

  -- The tenure closed neither rows nor a statement.
  lower : (q : DriverCall) (top : ℕ) (b : Bool) → top ≤ 5 → (nat_lt (place q) top || is_next q && b) ≡ true → (nat_lt (place q) 5 || is_next q && false) ≡ true
  lower q top b low k = go (nat_lt (place q) top) (is_next q) refl (next-place q) k
    where
      under : (c d : Bool) → c ≡ true → (c || d) ≡ true
      under true d z = refl
      under false d z = grind (arith, z)

      go : (c d : Bool) → nat_lt (place q) top ≡ c → d ≡ (place q == 4) → (c || d && b) ≡ true → (nat_lt (place q) 5 || d && false) ≡ true
      go true d less next k = under (nat_lt (place q) 5) (d && false) (grind (arith, nat_tests, less, low))
      go false true less next k = under (nat_lt (place q) 5) false (grind (arith, nat_tests, next))
      go false false less next k = grind (arith, k)

  low : nat_lt (place e.call) 5 ≡ true
      → list_all (λ x. nat_lt (place x.call) 5 || is_next x.call && false) (filter is_body (e ∷ of_tenure e.tenure before)) ≡ true
  low less =
      rw works
      (join2 (nat_lt (place e.call) 5 || is_next e.call && false) (list_all (λ x. nat_lt (place x.call) 5 || is_next x.call && false) (filter is_body (of_tenure e.tenure before)))
      (lower e.call 5 false (omega arith) (rw less refl))
      (list_all-so (λ x. nat_lt (place x.call) (place e.call) || is_next x.call && is_next e.call) (λ x. nat_lt (place x.call) 5 || is_next x.call && false)
      (λ x k. lower x.call (place e.call) (is_next e.call) (grind (arith, nat_tests, less)) k) (filter is_body (of_tenure e.tenure before)) body.order))

  not_closed : (q : DriverCall) → e.call ≡ q → nat_lt (place e.call) 5 ≡ true
  not_closed (CloseStmt h) same =
      absurd (clash (λ c. c.tenure == e.tenure) (λ c. not (c.tenure == e.tenure)) (cursors before) (λ c a b. grind (arith, a, b))
      (rw same at live) (good (is_bad e.answer) (both_false (is_bad e.answer) (went_bad before) p.not_bad).0 (rw same at body.rows_first)))
    where
      good : (b : Bool) → b ≡ false → (b || has_closed_cursors e.tenure before) ≡ true → has_closed_cursors e.tenure before ≡ true
      good true z k = grind (arith, z)
      good false z k = k
  not_closed (CloseRows r) same =
      let m : MayFollow before e = mayfollow before e p.beginning in
      let some : not (is_empty (cursors_named r before)) ≡ true = rw same at m.handles.live_cursor in
      let here : list_all (λ c. c.tenure == e.tenure) (cursors_named r before) ≡ true = rw same at m.handles.cursor_tenure in
      let its_own : list_any (λ c. (c.number == r) && (c.tenure == e.tenure)) (cursors before) ≡ true =
      sym (list_any-filter (λ c. c.tenure == e.tenure) (λ c. c.number == r) (cursors before)) ∙ all-any (λ c. c.tenure == e.tenure) (cursors_named r before) some here in
      let none : list_any (λ c. c.tenure == e.tenure) (filter (λ c. not (c.number == r)) (cursors before)) ≡ false =
      closed-one e.tenure r (cursors before) (one_cursor e.tenure before (parts2 (may_follow before e) (is_journal_prefix before) p.beginning).1 all_calls) its_own in
      let left : list_any (λ c. c.tenure == e.tenure) (filter (λ c. not (c.number == r)) (cursors before)) ≡ true = rw same at live in
      absurd (grind (arith, none, left))
  not_closed (Exec (Text t) params) same = rw same refl
  not_closed (Exec (Handle h) params) same = rw same refl
  not_closed (Query (Text t) params) same = rw same refl
  not_closed (Query (Handle h) params) same = rw same refl
  not_closed _ same = rw same refl

  placed : list_all (λ x. nat_lt (place x.call) 5 || is_next x.call && false) (filter is_body (of_tenure e.tenure (e ∷ before))) ≡ true
  placed = rw (eqb-refl e.tenure) (low (not_closed e.call refl))

  -- The tenure didn't ping either.
  no_ping : list_any (λ x. is_ping x.call) (of_tenure e.tenure (e ∷ before)) ≡ false
  no_ping = rw (eqb-refl e.tenure) (go (is_ping e.call || list_any (λ x. is_ping x.call) (of_tenure e.tenure before)) refl)
    where
      ping_ran : (q : DriverCall) (a : DriverAnswer) → runs q a ≡ true → is_ping q ≡ false
      ping_ran Ping a k = grind (arith, k)
      ping_ran _ a k = refl

      worked : list_any is_body (of_tenure e.tenure before) ≡ true → is_empty (filter is_body (of_tenure e.tenure before)) ≡ true → true ≡ false
      worked some none = sym none ∙ is_empty-filter is_body (of_tenure e.tenure before) ∙ rw some refl

      some_worked : (b : Bool) → runs e.call e.answer ≡ b → (b || list_any (λ x. runs x.call x.answer) (of_tenure e.tenure before)) ≡ true
          → (is_ping e.call || list_any (λ x. is_ping x.call) (of_tenure e.tenure before)) ≡ true → list_any is_body (of_tenure e.tenure before) ≡ true
      some_worked true run k pings = pinged-worked (of_tenure e.tenure before) (rw (ping_ran e.call e.answer run) at pings)
      some_worked false run k pings = list_any-so (λ x. runs x.call x.answer) is_body (λ x z. runs-body x.call x.answer z) (of_tenure e.tenure before) k

      go : (b : Bool) → (is_ping e.call || list_any (λ x. is_ping x.call) (of_tenure e.tenure before)) ≡ b → b ≡ false
      go true pings =
          worked (some_worked (runs e.call e.answer) refl here pings)
          (if_so (is_ping e.call || list_any (λ x. is_ping x.call) (of_tenure e.tenure before)) (is_empty (filter is_body (of_tenure e.tenure before))) body.ping_alone pings)
      go false pings = refl

  no_bad : went_bad (of_tenure e.tenure (e ∷ before)) ≡ false
  no_bad = none-kept (λ x. is_bad x.answer) (λ x. x.tenure == e.tenure) (e ∷ before) p.not_bad

  -- Each live cursor of the tenure stands outside transactions.
  outside : list_all (λ c. not (c.tenure == e.tenure) || (c.tx == 0)) (cursors (e ∷ before)) ≡ true
  outside =
      list_all-so (λ c. list_any (gave_cursor c) (e ∷ before)) (λ c. not (c.tenure == e.tenure) || (c.tx == 0))
      (λ c gave. pick ((not (c.tenure == e.tenure) || (c.tx == 0)) ≡ true) (λ x. gave_cursor c x && owned_in e x) (e ∷ before)
      (list_any-both (gave_cursor c) (owned_in e) (e ∷ before) gave ruled)
      (λ x k. of_cursor c x k))
      (cursors (e ∷ before)) (cursors-given (e ∷ before))
    where
      ruled : list_all (owned_in e) (e ∷ before) ≡ true
      ruled =
          list_all-and (λ x. (x.tx == 0) || (is_tx_number x.tx x.owner || is_pin x.owner)) (λ x. not (x.tenure == e.tenure) || same_owner x.owner e.owner) (e ∷ before)
          ∙ join2 _ _ (owned (e ∷ before) p.beginning) (sym (list_all-filter (λ x. same_owner x.owner e.owner) (λ x. x.tenure == e.tenure) (e ∷ before)) ∙ same_owners before e p.beginning)

      of_cursor : (c : LiveCursor) (x : Entry) → (gave_cursor c x && owned_in e x) ≡ true → (not (c.tenure == e.tenure) || (c.tx == 0)) ≡ true
      of_cursor c x k =
          let a = parts2 (gave_cursor c x) (owned_in e x) k in
          let b = parts2 (is_number (given_cursor x.answer) c.number) ((x.tenure == c.tenure) && (x.tx == c.tx)) a.0 in
          let d = parts2 (x.tenure == c.tenure) (x.tx == c.tx) b.1 in
          let at : x.tenure ≡ c.tenure = eqb→eq x.tenure c.tenure (grind (arith, nat_tests, d.0)) in
          let tx_is : x.tx ≡ c.tx = eqb→eq x.tx c.tx (grind (arith, nat_tests, d.1)) in
          let r = parts2 ((x.tx == 0) || (is_tx_number x.tx x.owner || is_pin x.owner)) (not (x.tenure == e.tenure) || same_owner x.owner e.owner) a.1 in
          go (c.tenure == e.tenure) (rw at at r.1) (rw tx_is at r.0)
        where
          out : (b : Bool) → (b || false) ≡ true → b ≡ true
          out true k = refl
          out false k = k

          go : (b : Bool) → (not b || same_owner x.owner e.owner) ≡ true → ((c.tx == 0) || (is_tx_number c.tx x.owner || is_pin x.owner)) ≡ true → (not b || (c.tx == 0)) ≡ true
          go true same rule = let is_n : x.owner ≡ Call n = same_owner-is x.owner e.owner same ∙ is in out (c.tx == 0) (rw is_n at rule)
          go false same rule = refl

  -- The tenure's rows can be closed, and then the beginning has a whole end.
  pub call_end : HasWholeEnd (e ∷ before)
  call_end =
      pick_in (HasWholeEnd (e ∷ before)) (λ c. (c.tenure == e.tenure) && (not (c.tenure == e.tenure) || (c.tx == 0))) (cursors (e ∷ before))
      (list_any-both (λ c. c.tenure == e.tenure) (λ c. not (c.tenure == e.tenure) || (c.tx == 0)) (cursors (e ∷ before)) live outside)
      (λ c k found. close c (both (c.tenure == e.tenure) (c.tx == 0) k) found)
    where
      both : (a b : Bool) → (a && (not a || b)) ≡ true → (a && b) ≡ true
      both true b k = k
      both false b k = k

      close : (c : LiveCursor) → ((c.tenure == e.tenure) && (c.tx == 0)) ≡ true → ((q : LiveCursor → Bool) → q c ≡ true → list_any q (cursors (e ∷ before)) ≡ true) → HasWholeEnd (e ∷ before)
      close c k found =
          let all = only-one (λ d. d.number == c.number) (λ d. (d.tenure == e.tenure) && (d.tx == 0)) (cursors (e ∷ before)) (cursors_named-one c.number (e ∷ before) p.beginning)
          (found (λ d. (d.number == c.number) && ((d.tenure == e.tenure) && (d.tx == 0))) (join2 (c.number == c.number) ((c.tenure == e.tenure) && (c.tx == 0)) (eqb-refl c.number) k)) in
          let some : list_any (λ d. d.number == c.number) (cursors (e ∷ before)) ≡ true = found (λ d. d.number == c.number) (eqb-refl c.number) in
          let named : list_all (λ d. d.tenure == e.tenure) (cursors_named c.number (e ∷ before)) ≡ true =
          list_all-so (λ d. (d.tenure == e.tenure) && (d.tx == 0)) (λ d. d.tenure == e.tenure) (λ d z. (parts2 (d.tenure == e.tenure) (d.tx == 0) z).0) (cursors_named c.number (e ∷ before)) all in
          spoiled_end before e p 0 (CloseRows c.number) (record { connect = refl; reset = refl; valid = refl; fails = refl })
          (subst (λ (o : Owner). KeepsBody o (e ∷ before) (spoiled e 0 (CloseRows c.number))) (sym is)
          (record {
            kind = refl;
            ping_alone = rw no_ping refl;
            order = placed;
            own_cursor = own_cursor (e ∷ before) (spoiled e 0 (CloseRows c.number))
                (record { handle = refl; handle_tx = refl; handle_tenure = refl; cursor = some; cursor_tenure = sym (list_all-filter (λ d. d.tenure == e.tenure) (λ d. d.number == c.number) (cursors (e ∷ before))) ∙ named });
            own_close = refl;
            skip = refl;
            own_run = refl;
            not_after_bad = rw no_bad refl;
            rows_first = refl;
            no_transaction = refl;
          }))
          (λ number. absurd (number refl))
          (record {
            live_handle = refl;
            live_cursor = rw (is_empty-filter (λ d. d.number == c.number) (cursors (e ∷ before)), some) refl;
            not_over = refl;
            transaction_of_handle = refl;
            transaction_of_cursor = list_all-so (λ d. (d.tenure == e.tenure) && (d.tx == 0)) (λ d. d.tx == 0) (λ d z. (parts2 (d.tenure == e.tenure) (d.tx == 0) z).1) (cursors_named c.number (e ∷ before)) all;
            cursor_tenure = named;
            handle_tenure = refl;
            call_handle = refl;
          })
          (all_wide (cursors_named c.number (e ∷ before)))
