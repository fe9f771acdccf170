-- The argument that in a beginning with a Bad answer the open transactions can be ended, and then the
-- connection can be shut.
use Rattle.std.proofs.Common.{◌≡◌, ◌≢◌, ℕ, Bool, true, false, cond, not, ◌&&◌, ◌||◌, ◌==◌, None, Some, List, [], ◌∷◌, refl, sym, ◌∙◌, ap, eqb→eq}
use Rattle.std.specs.List.{list_all, list_any}
use native.Mathlib.Omega.{arith}
use Rattle.std.proofs.lemmas.Bool.Decides.{nat_tests}
use Rattle.dsql_driver.specs.declared.call.DriverCall.{DriverCall}
use Rattle.dsql_driver.specs.declared.call.DriverCall.TheVariants.{Valid, Exec, Query}
use Rattle.dsql_driver.specs.declared.call.Input.TheVariants.{Text, Handle}
use Rattle.dsql_driver.specs.declared.answer.DriverAnswer.{DriverAnswer}
use Rattle.dsql_driver.specs.declared.answer.DriverAnswer.TheVariants.{Invalid}
use Rattle.dsql_driver.specs.Fits.{fits_of, is_invalid}
use Rattle.dsql_tenure_journal.specs.declared.entry.Entry.{Entry}
use Rattle.dsql_tenure_journal.specs.Kinds.{◌⇒◌, is_pin, is_tx_number, same_owner}
use Rattle.dsql_driver.specs.Kinds.{is_valid, is_reset, is_bad, is_shut}
use Rattle.dsql_tenure_journal.specs.Readers.{has, of_tenure, last_tenure, begun, went_bad, bad_tenure, went_invalid, was_shut}
use Rattle.dsql_tenure_journal.specs.Tenure.{is_whole_tenure, is_body}
use Rattle.dsql_tenure_journal.specs.Journal.{may_follow, is_journal_prefix, IsJournalPrefix}
use Rattle.dsql_tenure_journal.proofs.Conjunctions.{parts2, join2, if_so}
use Rattle.dsql_tenure.specs.Open.{open_in}
use Rattle.dsql_tenure.proofs.Lists.{list_all-and, list_any-both, list_all-filter}
use Rattle.dsql_tenure.proofs.Given.{eqb-refl, list_any-filter, same_owner-refl}
use Rattle.dsql_tenure.proofs.Members.{pick}
use Rattle.dsql_tenure.proofs.SoFarRules.{same_owner-is}
use Rattle.dsql_tenure.proofs.Places.{begun-in, has-all, open-in_last}
use Rattle.dsql_tenure.proofs.WholeAtOnce.{mayfollow, whole-valid, whole-fell}

not_true : (b : Bool) → not b ≡ true → b ≡ false
not_true true h = sym h
not_true false h = refl

-- A tenure that isn't whole has no Valid.
pub none_valid : (before : List Entry) (e : Entry) → IsJournalPrefix (e ∷ before) → is_whole_tenure e.tenure (e ∷ before) ≡ false
    → list_any (λ x. is_valid x.call) (of_tenure e.tenure (e ∷ before)) ≡ false
none_valid before e h partly = rw (eqb-refl e.tenure) (go (is_valid e.call) refl (not_true (list_any (λ x. is_valid x.call) (of_tenure e.tenure before)) (mayfollow before e h).tenure.not_after_valid))
  where
    go : (b : Bool) → is_valid e.call ≡ b → list_any (λ x. is_valid x.call) (of_tenure e.tenure before) ≡ false → (b || list_any (λ x. is_valid x.call) (of_tenure e.tenure before)) ≡ false
    go true is none = sym (whole-valid before e h is) ∙ partly
    go false is none = none

-- A tenure that isn't whole has no Reset answered Bad.
pub none_fell : (before : List Entry) (e : Entry) → IsJournalPrefix (e ∷ before) → is_whole_tenure e.tenure (e ∷ before) ≡ false
    → list_any (λ x. is_reset x.call && is_bad x.answer) (of_tenure e.tenure (e ∷ before)) ≡ false
none_fell before e h partly = rw (eqb-refl e.tenure) (go (is_reset e.call && is_bad e.answer) refl (not_true (list_any (λ x. is_reset x.call && is_bad x.answer) (of_tenure e.tenure before)) (mayfollow before e h).tenure.not_after_bad_reset))
  where
    go : (b : Bool) → (is_reset e.call && is_bad e.answer) ≡ b → list_any (λ x. is_reset x.call && is_bad x.answer) (of_tenure e.tenure before) ≡ false
        → (b || list_any (λ x. is_reset x.call && is_bad x.answer) (of_tenure e.tenure before)) ≡ false
    go true is none = sym (whole-fell before e h is) ∙ partly
    go false is none = none

invalid-call : (q : DriverCall) → fits_of q Invalid ≡ true → is_valid q ≡ true
invalid-call Valid h = refl
invalid-call (Exec (Text t) p) h = h
invalid-call (Exec (Handle n) p) h = h
invalid-call (Query (Text t) p) h = h
invalid-call (Query (Handle n) p) h = h
invalid-call _ h = grind (arith, h)

invalid-is : (a : DriverAnswer) → is_invalid a ≡ true → a ≡ Invalid
invalid-is Invalid h = refl
invalid-is _ h = grind (arith, h)

-- No Valid was answered Invalid in a journal whose tenure under way isn't whole.
pub not_invalid : (before : List Entry) (e : Entry) → IsJournalPrefix (e ∷ before) → is_whole_tenure e.tenure (e ∷ before) ≡ false → was_shut (e ∷ before) ≡ false → went_invalid (e ∷ before) ≡ false
not_invalid before e h partly open_still = go (is_invalid e.answer) (went_invalid before) refl refl
  where
    shut_now : (s : Bool) → s ≡ true → (s || was_shut before) ≡ false → true ≡ false
    shut_now true is k = k
    shut_now false is k = sym is

    go : (a b : Bool) → is_invalid e.answer ≡ a → went_invalid before ≡ b → (a || b) ≡ false
    go true b is was =
        let fits : fits_of e.call Invalid ≡ true = ap (λ x. fits_of e.call x) (sym (invalid-is e.answer is)) ∙ (mayfollow before e h).answer.fitting in
        sym (whole-valid before e h (invalid-call e.call fits)) ∙ partly
    go false true is was = shut_now (is_shut e.call) (if_so (went_invalid before) (is_shut e.call) (mayfollow before e h).whole_journal.shut_when_invalid was) open_still
    go false false is was = refl

-- The first Bad answer stands in the last tenure.
pub bad_last : (journal : List Entry) → IsJournalPrefix journal → was_shut journal ≡ false → went_bad journal ≡ true → bad_tenure journal ≡ Some (last_tenure journal)
bad_last [] h open_still bad = grind (arith, bad)
bad_last (e ∷ before) h open_still bad =
    let p = parts2 (may_follow before e) (is_journal_prefix before) h in
    go (went_bad before) refl (is_bad e.answer) bad (is_shut e.call) (was_shut before) refl refl open_still (bad_last before p.1)
  where
    go : (w : Bool) → went_bad before ≡ w → (b : Bool) → (b || w) ≡ true → (s z : Bool) → is_shut e.call ≡ s → was_shut before ≡ z → (s || z) ≡ false
        → (was_shut before ≡ false → went_bad before ≡ true → bad_tenure before ≡ Some (last_tenure before))
        → cond w (bad_tenure before) (cond b (Some e.tenure) None) ≡ Some e.tenure
    go true was b k false false is old none earlier =
        let first = earlier old was in
        let at : ((e.tenure == last_tenure before) || false) ≡ true = rw (first, is) at (mayfollow before e h).whole_journal.in_bad_tenure in
        first ∙ ap (λ n. Some n) (sym (eqb→eq e.tenure (last_tenure before) (grind (arith, nat_tests, at))))
    go true was b k true z is old none earlier = grind (arith, none)
    go true was b k false true is old none earlier = grind (arith, none)
    go false was true k s z is old none earlier = refl
    go false was false k s z is old none earlier = grind (arith, k)

-- An entry of a transaction has an owner for it.
pub owned : (journal : List Entry) → IsJournalPrefix journal → list_all (λ x. (x.tx == 0) || (is_tx_number x.tx x.owner || is_pin x.owner)) journal ≡ true
owned [] h = refl
owned (e ∷ before) h =
    join2 ((e.tx == 0) || (is_tx_number e.tx e.owner || is_pin e.owner)) (list_all (λ x. (x.tx == 0) || (is_tx_number x.tx x.owner || is_pin x.owner)) before)
    (go (e.tx == 0) refl) (owned before (parts2 (may_follow before e) (is_journal_prefix before) h).1)
  where
    go : (b : Bool) → (e.tx == 0) ≡ b → (b || (is_tx_number e.tx e.owner || is_pin e.owner)) ≡ true
    go true is = refl
    go false is = ((mayfollow before e h).transaction (λ z. grind (arith, nat_tests, is, z))).owner

-- Tests stand in no transaction.
pub tests_outside : (journal : List Entry) → IsJournalPrefix journal → list_all (λ x. is_body x || (x.tx == 0)) journal ≡ true
tests_outside [] h = refl
tests_outside (e ∷ before) h =
    join2 (is_body e || (e.tx == 0)) (list_all (λ x. is_body x || (x.tx == 0)) before)
    (go (is_reset e.call || is_valid e.call) (mayfollow before e h).tenure.tests) (tests_outside before (parts2 (may_follow before e) (is_journal_prefix before) h).1)
  where
    go : (b : Bool) → (b ⇒ e.tx == 0) ≡ true → (not b || (e.tx == 0)) ≡ true
    go true k = k
    go false k = refl

zero_not : (n m : ℕ) → (n == m) ≡ true → m ≢ 0 → (n == 0) ≡ false
zero_not n m is some = go (n == 0) refl
  where
    go : (b : Bool) → (n == 0) ≡ b → b ≡ false
    go true z = absurd (some (grind (arith, nat_tests, is, z)))
    go false z = refl

-- If a transaction is open, the last tenure is the transaction's own or a pinned connection's.
pub open_owner : (before : List Entry) (e : Entry) → IsJournalPrefix (e ∷ before) → (m : ℕ) → has m (open_in (e ∷ before)) ≡ true → m ≢ 0 → (is_tx_number m e.owner || is_pin e.owner) ≡ true
open_owner before e h m is some =
    pick ((is_tx_number m e.owner || is_pin e.owner) ≡ true)
    (λ x. ((x.tx == m) && (x.tenure == e.tenure)) && (((x.tx == 0) || (is_tx_number x.tx x.owner || is_pin x.owner)) && (not (x.tenure == e.tenure) || same_owner x.owner e.owner)))
    (e ∷ before) (list_any-both (λ x. (x.tx == m) && (x.tenure == e.tenure)) (λ x. ((x.tx == 0) || (is_tx_number x.tx x.owner || is_pin x.owner)) && (not (x.tenure == e.tenure) || same_owner x.owner e.owner)) (e ∷ before) here ruled)
    (λ x k.
    let p = parts2 ((x.tx == m) && (x.tenure == e.tenure)) (((x.tx == 0) || (is_tx_number x.tx x.owner || is_pin x.owner)) && (not (x.tenure == e.tenure) || same_owner x.owner e.owner)) k in
    let q = parts2 (x.tx == m) (x.tenure == e.tenure) p.0 in
    let r = parts2 ((x.tx == 0) || (is_tx_number x.tx x.owner || is_pin x.owner)) (not (x.tenure == e.tenure) || same_owner x.owner e.owner) p.1 in
    let rule : (is_tx_number x.tx x.owner || is_pin x.owner) ≡ true = rw (zero_not x.tx m q.0 some) at r.0 in
    let same : same_owner x.owner e.owner ≡ true = rw q.1 at r.1 in
    let own : x.owner ≡ e.owner = same_owner-is x.owner e.owner same in
    let num : x.tx ≡ m = eqb→eq x.tx m (grind (arith, nat_tests, q.0)) in
    rw (← own, ← num) rule)
  where
    here : list_any (λ x. (x.tx == m) && (x.tenure == e.tenure)) (e ∷ before) ≡ true
    here =
        sym (list_any-filter (λ x. x.tenure == e.tenure) (λ x. x.tx == m) (e ∷ before))
        ∙ begun-in m e.tenure (e ∷ before) (has-all (λ n. has n (begun (of_tenure e.tenure (e ∷ before)))) m (open_in (e ∷ before)) (open-in_last (e ∷ before) h) is)

    ruled : list_all (λ x. ((x.tx == 0) || (is_tx_number x.tx x.owner || is_pin x.owner)) && (not (x.tenure == e.tenure) || same_owner x.owner e.owner)) (e ∷ before) ≡ true
    ruled =
        list_all-and (λ x. (x.tx == 0) || (is_tx_number x.tx x.owner || is_pin x.owner)) (λ x. not (x.tenure == e.tenure) || same_owner x.owner e.owner) (e ∷ before)
        ∙ join2 (list_all (λ x. (x.tx == 0) || (is_tx_number x.tx x.owner || is_pin x.owner)) (e ∷ before)) (list_all (λ x. not (x.tenure == e.tenure) || same_owner x.owner e.owner) (e ∷ before)) (owned (e ∷ before) h)
        (sym (list_all-filter (λ x. same_owner x.owner e.owner) (λ x. x.tenure == e.tenure) (e ∷ before)) ∙ all_same)
      where
        all_same : list_all (λ x. same_owner x.owner e.owner) (of_tenure e.tenure (e ∷ before)) ≡ true
        all_same = rw (eqb-refl e.tenure) (join2 (same_owner e.owner e.owner) (list_all (λ x. same_owner x.owner e.owner) (of_tenure e.tenure before)) (same_owner-refl e.owner) (mayfollow before e h).tenure.one_owner)
