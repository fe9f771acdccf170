-- The argument that a beginning in which an answer was Bad has a whole end: the Rollbacks of what is open, and
-- Shut.
use Rattle.std.proofs.Common.{◌≡◌, ◌≢◌, ℕ, Bool, true, false, cond, not, ◌&&◌, ◌||◌, ◌==◌, nat_lt, List, [], ◌∷◌, refl, sym, ◌∙◌, subst, eqb→eq}
use Rattle.std.specs.List.{list_all, list_any}
use native.Mathlib.Omega.{arith}
use Rattle.std.proofs.lemmas.Bool.Decides.{nat_tests}
use Rattle.dsql_driver.specs.declared.call.DriverCall.TheVariants.{Rollback}
use Rattle.dsql_driver.specs.declared.answer.DriverAnswer.TheVariants.{Done}
use Rattle.dsql_driver.specs.Fits.{is_failure}
use Rattle.dsql_tenure_journal.specs.declared.entry.Entry.{Entry}
use Rattle.dsql_tenure_journal.specs.declared.entry.Owner.{Owner}
use Rattle.dsql_tenure_journal.specs.declared.entry.Owner.TheVariants.{Call, Tx, Pin, House}
use Rattle.dsql_tenure_journal.specs.Kinds.{◌⇒◌, is_house, is_pin, is_tx_number, same_owner}
use Rattle.dsql_driver.specs.Kinds.{is_valid, is_reset, is_begin, is_ending}
use Rattle.dsql_tenure_journal.specs.Readers.{is_empty, has, of_tenure, of_transaction, begun, ended, went_bad, was_shut, was_refused}
use Rattle.dsql_tenure_journal.specs.Tenure.{is_whole_tenure, is_body, is_refused_begin, body}
use Rattle.dsql_tenure_journal.specs.Journal.{may_follow, is_journal_prefix, IsJournalPrefix}
use Rattle.dsql_tenure_journal.specs.Facts.{KeepsBody, MayFollow}
use Rattle.dsql_tenure_journal.proofs.Conjunctions.{parts2, join2}
use Rattle.dsql_tenure.specs.Open.{open_in}
use Rattle.dsql_tenure.proofs.Lists.{list_any-so, is_empty-filter}
use Rattle.dsql_tenure.proofs.Given.{eqb-refl, list_all-kept, list_any-filter, same_owner-refl}
use Rattle.dsql_tenure.proofs.SoFarRules.{same_owner-is}
use Rattle.dsql_tenure.proofs.Transactions.{OnlyBegins, begin-only, has-open, has-ended, of_transaction-begun}
use Rattle.dsql_tenure.proofs.Places.{begun-in, has-all, open-in_last, open-last, has_ended-last, whole_ended}
use Rattle.dsql_tenure.proofs.WholeAtOnce.{mayfollow}
use Rattle.dsql_tenure.proofs.Rollbacks.{none_valid, none_fell, not_invalid, bad_last, tests_outside, open_owner}

pub both_false : (a b : Bool) → (a || b) ≡ false → (a ≡ false) × (b ≡ false)
both_false true b h = grind (arith, h)
both_false false b h = (refl, h)

-- If transaction n has an entry in its tenure, no Begin was refused there.
pub unrefused : (t n : ℕ) (journal : List Entry) → IsJournalPrefix journal → list_all (λ x. same_owner x.owner (Tx n)) (of_tenure t journal) ≡ true
    → list_any (λ x. not (x.tx == 0)) (of_tenure t journal) ≡ true → list_any is_refused_begin (of_tenure t journal) ≡ false
unrefused t n [] h own some = refl
unrefused t n (e ∷ before) h own some =
    let p = parts2 (may_follow before e) (is_journal_prefix before) h in
    go (e.tenure == t) refl own some (unrefused t n before p.1)
  where
    outside : (xs : List Entry) → list_all (λ x. is_body x || (x.tx == 0)) xs ≡ true → list_any is_body xs ≡ false → list_any (λ x. not (x.tx == 0)) xs ≡ false
    outside [] k none = refl
    outside (x ∷ xs) k none =
        let q = parts2 (is_body x || (x.tx == 0)) (list_all (λ y. is_body y || (y.tx == 0)) xs) k in
        let r = both_false (is_body x) (list_any is_body xs) none in
        one (is_body x) (x.tx == 0) r.0 q.0 (outside xs q.1 r.1)
      where
        one : (a b : Bool) → a ≡ false → (a || b) ≡ true → list_any (λ y. not (y.tx == 0)) xs ≡ false → (not b || list_any (λ y. not (y.tx == 0)) xs) ≡ false
        one true b z k more = grind (arith, z)
        one false true z k more = more
        one false false z k more = grind (arith, k)

    kept : list_all (λ x. is_body x || (x.tx == 0)) (of_tenure e.tenure before) ≡ true
    kept = list_all-kept (λ x. is_body x || (x.tx == 0)) (λ x. x.tenure == e.tenure) before (tests_outside before (parts2 (may_follow before e) (is_journal_prefix before) h).1)

    -- Adding an entry of the body keeps this.
    in_body : (w r : Bool) → list_any is_body (of_tenure e.tenure before) ≡ w → list_any is_refused_begin (of_tenure e.tenure before) ≡ r
        → ((not w && is_refused_begin e) || (not (n == 0) && (e.tx == n) && not r)) ≡ true
        → (not (e.tx == 0) || list_any (λ x. not (x.tx == 0)) (of_tenure e.tenure before)) ≡ true
        → (is_refused_begin e || r) ≡ false
    in_body w r worked was k some =
        cases (is_refused_begin e) refl w worked (e.tx == 0) refl r k some
      where
        refused_zero : is_refused_begin e ≡ true → (e.tx == 0) ≡ true
        refused_zero is = (parts2 (is_begin e.call && is_failure e.answer) (e.tx == 0) is).1

        numbered : (m z : Bool) (r : Bool) → (e.tx == 0) ≡ z → (not (n == 0) && (e.tx == n) && not r) ≡ true → (z ≡ false) × (r ≡ false)
        numbered m z r is k =
            let a = parts2 (not (n == 0) && (e.tx == n)) (not r) k in
            let b = parts2 (not (n == 0)) (e.tx == n) a.0 in
            (grind (arith, nat_tests, is, b.0, b.1), grind (arith, a.1))

        cases : (f : Bool) → is_refused_begin e ≡ f → (w : Bool) → list_any is_body (of_tenure e.tenure before) ≡ w → (z : Bool) → (e.tx == 0) ≡ z → (r : Bool)
            → ((not w && f) || (not (n == 0) && (e.tx == n) && not r)) ≡ true → (not z || list_any (λ x. not (x.tx == 0)) (of_tenure e.tenure before)) ≡ true → (f || r) ≡ false
        cases true fis true worked z zis r k some =
            let q = numbered true z r zis k in
            let zero_too = refused_zero fis in
            grind (arith, q.0, zis, zero_too)
        cases true fis false worked z zis r k some =
            let zero_too = refused_zero fis in
            let none = outside (of_tenure e.tenure before) kept worked in
            grind (arith, zis, zero_too, none, some)
        cases false fis true worked z zis r k some = (numbered true z r zis k).1
        cases false fis false worked z zis r k some = (numbered true z r zis k).1

    go : (b : Bool) → (e.tenure == t) ≡ b → list_all (λ x. same_owner x.owner (Tx n)) (cond b (e ∷ of_tenure t before) (of_tenure t before)) ≡ true
        → list_any (λ x. not (x.tx == 0)) (cond b (e ∷ of_tenure t before) (of_tenure t before)) ≡ true
        → (list_all (λ x. same_owner x.owner (Tx n)) (of_tenure t before) ≡ true → list_any (λ x. not (x.tx == 0)) (of_tenure t before) ≡ true → list_any is_refused_begin (of_tenure t before) ≡ false)
        → list_any is_refused_begin (cond b (e ∷ of_tenure t before) (of_tenure t before)) ≡ false
    go false at own some more = more own some
    go true at own some more =
        let same : e.tenure ≡ t = eqb→eq e.tenure t (grind (arith, nat_tests, at)) in
        subst (λ (k : ℕ). list_all (λ x. same_owner x.owner (Tx n)) (e ∷ of_tenure k before) ≡ true → list_any (λ x. not (x.tx == 0)) (e ∷ of_tenure k before) ≡ true
        → (list_all (λ x. same_owner x.owner (Tx n)) (of_tenure k before) ≡ true → list_any (λ x. not (x.tx == 0)) (of_tenure k before) ≡ true → list_any is_refused_begin (of_tenure k before) ≡ false)
        → list_any is_refused_begin (e ∷ of_tenure k before) ≡ false) same here own some more
      where
        here : list_all (λ x. same_owner x.owner (Tx n)) (e ∷ of_tenure e.tenure before) ≡ true → list_any (λ x. not (x.tx == 0)) (e ∷ of_tenure e.tenure before) ≡ true
            → (list_all (λ x. same_owner x.owner (Tx n)) (of_tenure e.tenure before) ≡ true → list_any (λ x. not (x.tx == 0)) (of_tenure e.tenure before) ≡ true → list_any is_refused_begin (of_tenure e.tenure before) ≡ false)
            → list_any is_refused_begin (e ∷ of_tenure e.tenure before) ≡ false
        here own some more =
            let o = parts2 (same_owner e.owner (Tx n)) (list_all (λ x. same_owner x.owner (Tx n)) (of_tenure e.tenure before)) own in
            let is_tx : e.owner ≡ Tx n = same_owner-is e.owner (Tx n) o.0 in
            body_or (is_body e) refl is_tx some (more o.1)
          where
            body_or : (b : Bool) → is_body e ≡ b → e.owner ≡ Tx n → (not (e.tx == 0) || list_any (λ x. not (x.tx == 0)) (of_tenure e.tenure before)) ≡ true
                → (list_any (λ x. not (x.tx == 0)) (of_tenure e.tenure before) ≡ true → list_any is_refused_begin (of_tenure e.tenure before) ≡ false)
                → (is_refused_begin e || list_any is_refused_begin (of_tenure e.tenure before)) ≡ false
            body_or true is is_tx some more =
                let k : KeepsBody (Tx n) before e = subst (λ (o : Owner). KeepsBody o before e) is_tx ((mayfollow before e h).tenure.in_body is) in
                in_body (list_any is_body (of_tenure e.tenure before)) (list_any is_refused_begin (of_tenure e.tenure before)) refl refl (rw (sym (is_empty-filter is_body (of_tenure e.tenure before))) k) some
            body_or false is is_tx some more =
                let tests = (mayfollow before e h).tenure.tests in
                let z : (e.tx == 0) ≡ true = non_body (is_reset e.call || is_valid e.call) (e.tx == 0) is tests in
                let no_begin : is_refused_begin e ≡ false = never (is_begin e.call) refl in
                first (is_refused_begin e) (list_any is_refused_begin (of_tenure e.tenure before)) no_begin (more (rw z at some))
              where
                non_body : (b c : Bool) → not b ≡ false → (b ⇒ c) ≡ true → c ≡ true
                non_body true c x k = k
                non_body false c x k = grind (arith, x)

                never : (b : Bool) → is_begin e.call ≡ b → (b && is_failure e.answer && (e.tx == 0)) ≡ false
                never true is_b = let only : OnlyBegins e.call = begin-only e.call is_b in grind (arith, only.in_body, is)
                never false is_b = refl

                first : (a b : Bool) → a ≡ false → b ≡ false → (a || b) ≡ false
                first true b x y = x
                first false b x y = y

-- All entries of the last tenure have its owner.
pub same_owners : (before : List Entry) (e : Entry) → IsJournalPrefix (e ∷ before) → list_all (λ x. same_owner x.owner e.owner) (of_tenure e.tenure (e ∷ before)) ≡ true
same_owners before e h = rw (eqb-refl e.tenure) (join2 (same_owner e.owner e.owner) (list_all (λ x. same_owner x.owner e.owner) (of_tenure e.tenure before)) (same_owner-refl e.owner) (mayfollow before e h).tenure.one_owner)

-- If transaction m is open, the tenure isn't whole and has an entry of the transaction.
pub open_partly : (before : List Entry) (e : Entry) → IsJournalPrefix (e ∷ before) → (m : ℕ) → has m (open_in (e ∷ before)) ≡ true → is_whole_tenure e.tenure (e ∷ before) ≡ false
open_partly before e h m is = go (is_whole_tenure e.tenure (e ∷ before)) refl
  where
    some_number : (ns : List ℕ) → has m ns ≡ true → is_empty ns ≡ true → true ≡ false
    some_number [] k z = sym k
    some_number (n ∷ ns) k z = sym z

    go : (b : Bool) → is_whole_tenure e.tenure (e ∷ before) ≡ b → b ≡ false
    go true whole = some_number (open_in (e ∷ before)) is (sym (has_ended-last (e ∷ before) h) ∙ whole_ended e.tenure (e ∷ before) whole)
    go false whole = refl

pub some_of : (before : List Entry) (e : Entry) → IsJournalPrefix (e ∷ before) → (m : ℕ) → has m (open_in (e ∷ before)) ≡ true → m ≢ 0
    → list_any (λ x. not (x.tx == 0)) (of_tenure e.tenure (e ∷ before)) ≡ true
some_of before e h m is some =
    list_any-filter (λ x. not (x.tx == 0)) (λ x. x.tenure == e.tenure) (e ∷ before)
    ∙ list_any-so (λ x. (x.tx == m) && (x.tenure == e.tenure)) (λ x. (x.tenure == e.tenure) && not (x.tx == 0))
    (λ x k.
    let p = parts2 (x.tx == m) (x.tenure == e.tenure) k in
    join2 (x.tenure == e.tenure) (not (x.tx == 0)) p.1 (other x.tx (x.tx == 0) refl p.0))
    (e ∷ before)
    (sym (list_any-filter (λ x. x.tenure == e.tenure) (λ x. x.tx == m) (e ∷ before))
    ∙ begun-in m e.tenure (e ∷ before) (has-all (λ n. has n (begun (of_tenure e.tenure (e ∷ before)))) m (open_in (e ∷ before)) (open-in_last (e ∷ before) h) is))
  where
    other : (n : ℕ) (b : Bool) → (n == 0) ≡ b → (n == m) ≡ true → not b ≡ true
    other n true z k = absurd (some (grind (arith, nat_tests, z, k)))
    other n false z k = refl

not_house : (m : ℕ) (o : Owner) → (is_tx_number m o || is_pin o) ≡ true → is_house o ≡ false
not_house m House k = sym k
not_house m _ k = refl

-- Returns the Rollback of transaction m in the tenure under way.
abbrev pub rolled : Entry → ℕ → Entry
rolled entry number = record { conn = entry.conn; tenure = entry.tenure; owner = entry.owner; call_no = 0; tx = number; call = Rollback; answer = Done }

module _ (before : List Entry) (e : Entry) (h : IsJournalPrefix (e ∷ before)) (m : ℕ) (is : has m (open_in (e ∷ before)) ≡ true) (some : m ≢ 0)
    (bad : went_bad (e ∷ before) ≡ true) (not_shut : was_shut (e ∷ before) ≡ false) (not_refused : was_refused (e ∷ before) ≡ false) where
  partly : is_whole_tenure e.tenure (e ∷ before) ≡ false
  partly = open_partly before e h m is

  some_false : (m == 0) ≡ false
  some_false = go (m == 0) refl
    where
      go : (b : Bool) → (m == 0) ≡ b → b ≡ false
      go true z = absurd (some (eqb→eq m 0 (grind (arith, nat_tests, z))))
      go false z = refl

  roll_body : (o : Owner) → (is_tx_number m o || is_pin o) ≡ true → list_all (λ x. same_owner x.owner o) (of_tenure e.tenure (e ∷ before)) ≡ true → KeepsBody o (e ∷ before) (rolled e m)
  roll_body (Call n) own same = grind (arith, own)
  roll_body (Tx n) own same =
      let is_n : (n == m) ≡ true = first (n == m) own in
      let num : m ≡ n = grind (arith, nat_tests, is_n) in
      rw (unrefused e.tenure n (e ∷ before) h same (some_of before e h m is some)) (numbered (is_empty (body (e ∷ before) (rolled e m))) (n == 0) (m == n) (grind (arith, nat_tests, num, some_false)) (grind (arith, nat_tests, num)))
    where
      first : (a : Bool) → (a || false) ≡ true → a ≡ true
      first true k = refl
      first false k = k

      numbered : (x z k : Bool) → z ≡ false → k ≡ true → ((x && false) || (not z && k && not false)) ≡ true
      numbered x z k zf kt = rw (zf, kt) (last x)
        where
          last : (x : Bool) → ((x && false) || true) ≡ true
          last true = refl
          last false = refl
  roll_body (Pin n) own same = rw some_false refl
  roll_body House own same = tt

  known : has m (open_in (e ∷ before)) ≡ (has m (begun (e ∷ before)) && not (has m (ended (e ∷ before))))
  known = has-open m (e ∷ before) h

  begun_ended : (has m (begun (e ∷ before)) ≡ true) × (not (has m (ended (e ∷ before))) ≡ true)
  begun_ended = parts2 (has m (begun (e ∷ before))) (not (has m (ended (e ∷ before)))) (sym known ∙ is)

  never_ended : list_any (λ x. is_ending x.call) (of_transaction m (e ∷ before)) ≡ false
  never_ended = sym (has-ended m (e ∷ before)) ∙ flip (has m (ended (e ∷ before))) begun_ended.1
    where
      flip : (b : Bool) → not b ≡ true → b ≡ false
      flip true k = sym k
      flip false k = refl

  has_some : is_empty (of_transaction m (e ∷ before)) ≡ false
  has_some = of_transaction-begun m (e ∷ before) h some ∙ rw begun_ended.0 refl

  pub may_roll : MayFollow (e ∷ before) (rolled e m)
  may_roll =
      let own = open_owner before e h m is some in
      let house : is_house e.owner ≡ false = not_house m e.owner own in
      record {
        whole_journal = record {
          one_connection = join2 (e.conn == e.conn) (list_all (λ x. x.conn == e.conn) before) (eqb-refl e.conn) (mayfollow before e h).whole_journal.one_connection;
          not_after_refusal = rw not_refused refl;
          after_whole_tenure = same_again (nat_lt e.tenure e.tenure) (grind (arith, nat_tests));
          connect_first = refl;
          not_after_shut = rw not_shut refl;
          rising = grind (arith, nat_tests);
          from_one = refl;
          not_tidied_when_bad = rw bad refl;
          in_bad_tenure = rw (bad_last (e ∷ before) h not_shut bad, eqb-refl e.tenure) refl;
          shut_when_invalid = rw (not_invalid before e h partly not_shut) refl;
        };
        tenure = record {
          one_owner = same_owners before e h;
          house_alone = rw house refl;
          house_call = rw house refl;
          house_numbers = rw house refl;
          reset_first = refl;
          not_after_valid = rw (none_valid before e h partly) refl;
          whole_at_valid = refl;
          tests = refl;
          not_after_bad_reset = rw (none_fell before e h partly) refl;
          in_body = λ k. roll_body e.owner own (same_owners before e h);
        };
        transaction = λ z. record {
          one_tenure = open-last m (e ∷ before) h some is;
          owner = own;
          begin_first = rw has_some refl;
          begin_once = refl;
          kind = rw has_some refl;
          end_once = rw never_ended refl;
          close_after_end = rw never_ended refl;
          own_close = rw never_ended refl;
          no_cursors = rw bad refl;
        };
        handles = record {
          live_handle = refl;
          live_cursor = refl;
          not_over = refl;
          transaction_of_handle = refl;
          transaction_of_cursor = refl;
          cursor_tenure = refl;
          handle_tenure = refl;
          call_handle = refl;
        };
        answer = record { heard = refl; fitting = refl; new_handle = refl; new_cursor = refl; width = refl };
      }
    where
      same_again : (b : Bool) → b ≡ false → (b ⇒ is_whole_tenure e.tenure (e ∷ before)) ≡ true
      same_again true k = grind (arith, k)
      same_again false k = refl
