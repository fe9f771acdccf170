-- What a begin sends next may follow: its Reset, its Begin, and the test if that Begin failed.
use Rattle.std.proofs.Common.{◌≡◌, ◌≢◌, ◌<◌, ◌≤◌, ℕ, Bool, true, false, cond, not, ◌==◌, ◌&&◌, ◌||◌, List, [], ◌∷◌, refl, nat_le, nat_lt}
use Rattle.std.specs.List.{filter, list_all, list_any}
use native.Mathlib.Omega.{arith}
use Rattle.std.proofs.lemmas.Bool.Decides.{nat_tests}
use Rattle.dsql_history.specs.driver.declared.answer.DriverAnswer.{DriverAnswer}
use Rattle.dsql_history.specs.driver.declared.answer.DriverAnswer.TheVariants.{Bad, Done, Fail, Memory}
use Rattle.dsql_history.specs.driver.declared.call.DriverCall.{DriverCall}
use Rattle.dsql_history.specs.driver.declared.call.DriverCall.TheVariants.{Reset, Valid, Begin}
use Rattle.dsql_history.specs.driver.declared.caps.Caps.{Caps}
use Rattle.dsql_history.specs.driver.Fits.{fits_of, is_done, is_failure, is_invalid, is_memory}
use Rattle.dsql_history.specs.driver.Kinds.{is_bad, is_begin, is_reset, is_valid}
use Rattle.dsql_history.specs.journal.declared.entry.Entry.{Entry}
use Rattle.dsql_history.specs.journal.Kinds.{◌⇒◌}
use Rattle.dsql_history.specs.journal.Readers.{begins, is_empty, last_tenure, of_tenure, of_transaction, went_bad}
use Rattle.dsql_history.specs.journal.Tenure.{body, earlier, is_body, is_refused_begin, is_tx_body, is_whole_tenure}
use Rattle.dsql_history.specs.journal.HandlesAndCursors.{fits_at_its_place}
use Rattle.dsql_history.specs.journal.Journal.{may_follow}
use Rattle.dsql_history.specs.journal.Facts.{KeepsTransaction}
use Rattle.dsql_history.proofs.journal.Conjunctions.{if_so, parts2, so_if}
use Rattle.dsql_history.specs.Rules.Line.{is_due}
use Rattle.dsql_history.specs.Rules.Sent.{begin_line}
use Rattle.dsql_laws_tenures.specs.Begins.{IsLentTo, IsOfBegin}
use Rattle.dsql_laws_tenures.specs.Tenures.{IsOfTransaction}
use Rattle.dsql_laws_tenures.proofs.Numbers.{impossible, is_itself, neither, neither_of, or_later, true_false}
use Rattle.dsql_laws_tenures.proofs.BeginLines.{Turn, turn_of}
use Rattle.dsql_laws_tenures.proofs.EndTests.{no_bad_reset, no_bad_tenure}
use Rattle.dsql_laws_tenures.proofs.Entries.{newest}
use Rattle.dsql_laws_tenures.proofs.Follows.{fits_of_place}
use Rattle.dsql_laws_tenures.proofs.Quiet.{Quiet, follows, kind_of}
use Rattle.dsql_laws_tenures.proofs.Standing.{invalid_only}
use Rattle.dsql_laws_tenures.proofs.Unbegun.{whole_unbegun}

-- If only entries of the tenure can pass a test, and none of these does, no entry passes it.
none_anywhere : (test : Entry → Bool) (t : ℕ) (J : List Entry) → list_all (λ x. test x ⇒ (x.tenure == t)) J ≡ true → list_any test (of_tenure t J) ≡ false → list_any test J ≡ false
none_anywhere test t [] all none = refl
none_anywhere test t (e ∷ J) all none =
    let p = parts2 (test e ⇒ (e.tenure == t)) (list_all (λ x. test x ⇒ (x.tenure == t)) J) all in
    by_tenure (e.tenure == t) refl none (λ is. if_so (test e) (e.tenure == t) p.0 is) (λ rest. none_anywhere test t J p.1 rest)
  where
    by_test : (b : Bool) → test e ≡ b → (test e ≡ true → (e.tenure == t) ≡ true) → (e.tenure == t) ≡ false → b ≡ false
    by_test true is here off = absurd (true_false (e.tenure == t) (here is) off)
    by_test false is here off = refl

    by_tenure : (b : Bool) → (e.tenure == t) ≡ b → list_any test (cond b (e ∷ of_tenure t J) (of_tenure t J)) ≡ false → (test e ≡ true → (e.tenure == t) ≡ true)
        → (list_any test (of_tenure t J) ≡ false → list_any test J ≡ false) → list_any test (e ∷ J) ≡ false
    by_tenure true is h here rest =
        let both = neither (test e) (list_any test (of_tenure t J)) h in
        neither_of (test e) (list_any test J) both.0 (rest both.1)
    by_tenure false is h here rest = neither_of (test e) (list_any test J) (by_test (test e) refl here is) (rest h)

-- If nothing was tested in the tenure, no test failed there.
none_invalid : (k t : ℕ) (J : List Entry) → IsOfTransaction k t J → list_any (λ x. is_valid x.call) (of_tenure t J) ≡ false → list_any (λ x. is_invalid x.answer) (of_tenure t J) ≡ false
none_invalid k t [] s h = refl
none_invalid k t (e ∷ J) s h =
    let w = newest k t e J s in
    let m = w.may in
    by_tenure (e.tenure == t) h (λ off. invalid_only e.call e.answer m.answer.fitting off) (λ rest. none_invalid k t J w.before rest)
  where
    by_tenure : (b : Bool) → list_any (λ x. is_valid x.call) (cond b (e ∷ of_tenure t J) (of_tenure t J)) ≡ false → (is_valid e.call ≡ false → is_invalid e.answer ≡ false)
        → (list_any (λ x. is_valid x.call) (of_tenure t J) ≡ false → list_any (λ x. is_invalid x.answer) (of_tenure t J) ≡ false)
        → list_any (λ x. is_invalid x.answer) (cond b (e ∷ of_tenure t J) (of_tenure t J)) ≡ false
    by_tenure true h here rest =
        let both = neither (is_valid e.call) (list_any (λ x. is_valid x.call) (of_tenure t J)) h in
        neither_of (is_invalid e.answer) (list_any (λ x. is_invalid x.answer) (of_tenure t J)) (here both.0) (rest both.1)
    by_tenure false h here rest = rest h

is_below : (n t : ℕ) → nat_lt n t ≡ true → n < t
is_below n t h = grind (arith, nat_tests)

is_within : (n t : ℕ) → n ≤ t → nat_le n t ≡ true
is_within n t h = grind (arith, nat_tests)

quiet : (can : Caps) (reset_due : Bool) (begin : DriverCall) (c k t : ℕ) (J : List Entry) (q : DriverCall) → IsLentTo can reset_due begin c k t J → Turn q (of_tenure t J) → Quiet c k t J
quiet can reset_due begin c k t J q g turn =
    let own = g.tenure in
    let calm : went_bad J ≡ false = none_anywhere (λ x. is_bad x.answer) t J g.bad_here turn.not_bad in
    record {
      owner = own.owner;
      opened = g.opened;
      one_connection = g.one_connection;
      rising = is_within (last_tenure J) t g.rising;
      whole_before = so_if (nat_lt (last_tenure J) t) (is_whole_tenure (last_tenure J) J) (λ less. g.whole_before (is_below (last_tenure J) t less));
      not_bad = calm;
      no_bad_tenure = no_bad_tenure J calm;
      not_invalid = none_anywhere (λ x. is_invalid x.answer) t J g.invalid_here (none_invalid k t J own turn.not_tested);
      not_tested = turn.not_tested;
      no_bad_reset = no_bad_reset t J calm;
      not_refused = g.not_refused;
      not_shut = g.not_shut;
    }

-- A Begin that isn't answered Done was refused.
begin_refused : (q : DriverCall) (a : DriverAnswer) → is_begin q ≡ true → fits_of q a ≡ true → not (is_memory a) ≡ true → is_done a ≡ false → is_failure a ≡ true
begin_refused (Begin level read_only) Bad b fit heard off = refl
begin_refused (Begin level read_only) (Fail why) b fit heard off = refl
begin_refused (Begin level read_only) Done b fit heard off = absurd cc
begin_refused (Begin level read_only) Memory b fit heard off = absurd cc
begin_refused (Begin level read_only) _ b fit heard off = absurd (impossible fit)
begin_refused _ a b fit heard off = absurd (impossible b)

no_begin : (q : DriverCall) (a : DriverAnswer) → is_reset q || is_valid q ≡ true → is_begin q && is_done a ≡ false
no_begin Reset a h = refl
no_begin Valid a h = refl
no_begin _ a h = absurd (impossible h)

begin_of : (q : DriverCall) → is_reset q || is_begin q || is_valid q ≡ true → not (is_reset q || is_valid q) ≡ true → is_begin q ≡ true
begin_of (Begin level read_only) kind h = refl
begin_of Reset kind h = absurd (impossible h)
begin_of Valid kind h = absurd (impossible h)
begin_of _ kind h = absurd (impossible kind)

module _ (c k t : ℕ) (J : List Entry) (e : Entry) (numbered : (k == 0) ≡ false) (none : of_transaction k J ≡ []) (s : IsOfBegin c k t e) where
  zero : begins e ≡ false → e.tx ≡ 0
  zero off = rw (s.tx, off) refl

  own : begins e ≡ true → e.tx ≡ k
  own done = rw (s.tx, done) refl

  in_body : Turn e.call (of_tenure t J) → fits_of e.call e.answer ≡ true → not (is_memory e.answer) ≡ true → is_body e ≡ true → is_tx_body k J e ≡ true
  in_body turn fit heard here =
      let b = begin_of e.call turn.kind here in
      let first = turn.begin b in
      by_done (is_done e.answer) refl b first.0 first.1
    where
      by_done : (d : Bool) → is_done e.answer ≡ d → is_begin e.call ≡ true → is_empty (filter is_body (of_tenure t J)) ≡ true → list_any is_refused_begin (of_tenure t J) ≡ false → is_tx_body k J e ≡ true
      by_done true is b empty calm =
          or_later (is_empty (body J e) && is_refused_begin e) (not (k == 0) && (e.tx == k) && not (list_any is_refused_begin (earlier J e)))
          (rw (own (rw (b, is) refl), is_itself k, numbered, s.tenure, calm) refl)
      by_done false is b empty calm =
          let failed = begin_refused e.call e.answer b fit heard is in
          let none_yet : e.tx ≡ 0 = zero (rw (b, is) refl) in
          rw (s.tenure, empty, b, failed, none_yet) refl

  transaction : Turn e.call (of_tenure t J) → e.tx ≢ 0 → KeepsTransaction J e
  transaction turn some = by_begin (begins e) refl
    where
      by_begin : (b : Bool) → begins e ≡ b → KeepsTransaction J e
      by_begin false is = absurd (some (zero is))
      by_begin true is =
          let x : e.tx ≡ k = own is in
          let kind = kind_of e.call turn.kind in
          let p = parts2 (is_begin e.call) (is_done e.answer) is in
          record {
            one_tenure = rw (x, none) refl;
            owner = rw (x, s.owner, is_itself k) refl;
            begin_first = rw (x, none, p.0, p.1, s.call_no, is_itself k) refl;
            begin_once = so_if (is_begin e.call) (is_empty (of_transaction e.tx J)) (λ _. rw (x, none) refl);
            kind = rw (x, none) refl;
            end_once = rw (x, none) refl;
            close_after_end = rw (x, none) refl;
            own_close = rw (x, none) refl;
            no_cursors = rw kind.ending refl;
          }

pub begin_follows : (can : Caps) (reset_due : Bool) (begin : DriverCall) (c k t : ℕ) (J : List Entry) (e : Entry) → IsLentTo can reset_due begin c k t J → IsOfBegin c k t e
    → is_due (begin_line can reset_due begin (of_tenure t J)) e.call ≡ true → fits_at_its_place J e ≡ true → may_follow J e ≡ true
begin_follows can reset_due begin c k t J e g s due fits =
    let turn = turn_of can reset_due begin (of_tenure t J) e.call g.begins g.line due in
    let place = fits_of_place J e fits in
    follows c k t J e (quiet can reset_due begin c k t J e.call g turn) (record {
      conn = s.conn;
      tenure = s.tenure;
      owner = s.owner;
      kind = turn.kind;
      reset = turn.reset;
      whole = λ _. whole_unbegun can reset_due begin c k t J g;
      outside = λ is. let x : e.tx ≡ 0 = zero c k t J e g.numbered g.no_entries s (no_begin e.call e.answer is) in rw x refl;
      in_body = in_body c k t J e g.numbered g.no_entries s turn place.fitting place.heard;
      transaction = transaction c k t J e g.numbered g.no_entries s turn;
      fits = fits;
    })
