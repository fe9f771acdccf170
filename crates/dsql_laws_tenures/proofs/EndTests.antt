-- The test after the end of a transaction may follow.
use Rattle.std.proofs.Common.{◌≡◌, ℕ, Bool, true, false, ◌==◌, ◌&&◌, List, [], ◌∷◌, None, refl, cond, nat_lt, nat_le}
use Rattle.std.specs.List.{list_any}
use native.Mathlib.Omega.{arith}
use Rattle.std.proofs.lemmas.Bool.Decides.{nat_tests}
use Rattle.dsql_history.specs.driver.Kinds.{is_bad, is_ending, is_reset}
use Rattle.dsql_history.specs.journal.declared.entry.Entry.{Entry}
use Rattle.dsql_history.specs.journal.Readers.{is_empty, bad_tenure, last_tenure, of_tenure, went_bad}
use Rattle.dsql_history.specs.journal.Tenure.{is_whole_tenure}
use Rattle.dsql_history.specs.journal.HandlesAndCursors.{fits_at_its_place}
use Rattle.dsql_history.specs.journal.Journal.{may_follow}
use Rattle.dsql_history.proofs.journal.Conjunctions.{so_if}
use Rattle.dsql_history.specs.Readers.Lines.{has_cursor, has_handle}
use Rattle.dsql_laws_tenures.specs.Begins.{HasEnded, IsTestOf}
use Rattle.dsql_laws_tenures.specs.Orderly.{OpensOnce, PreparesOnce}
use Rattle.dsql_laws_tenures.specs.Tenures.{made_by}
use Rattle.dsql_laws_tenures.proofs.Numbers.{impossible, neither}
use Rattle.dsql_laws_tenures.proofs.Quiet.{Quiet, follows}
use Rattle.dsql_laws_tenures.proofs.Standing.{filter_some, known}
use Rattle.dsql_laws_tenures.proofs.WholeTenures.{whole_when_closed}

not_below : (n : ℕ) → nat_lt n n ≡ true → ⊥
not_below n h = grind (arith, nat_tests, h)

not_above : (n : ℕ) → nat_le n n ≡ true
not_above n = grind (arith, nat_tests)

some_of : (test : Entry → Bool) (L : List Entry) → list_any test L ≡ true → is_empty L ≡ false
some_of test [] h = absurd (impossible h)
some_of test (x ∷ L) h = refl

pub no_bad_tenure : (J : List Entry) → went_bad J ≡ false → bad_tenure J ≡ None
no_bad_tenure [] h = refl
no_bad_tenure (e ∷ J) h =
    let both = neither (is_bad e.answer) (went_bad J) h in
    rw (both.1, both.0) refl

-- If no answer was Bad, no Reset was answered Bad.
pub no_bad_reset : (t : ℕ) (J : List Entry) → went_bad J ≡ false → list_any (λ x. is_reset x.call && is_bad x.answer) (of_tenure t J) ≡ false
no_bad_reset t [] h = refl
no_bad_reset t (e ∷ J) h =
    let both = neither (is_bad e.answer) (went_bad J) h in
    by_tenure (e.tenure == t) (is_reset e.call) both.0 (no_bad_reset t J both.1)
  where
    by_tenure : (b c : Bool) → is_bad e.answer ≡ false → list_any (λ x. is_reset x.call && is_bad x.answer) (of_tenure t J) ≡ false
        → list_any (λ x. is_reset x.call && is_bad x.answer) (cond b (e ∷ of_tenure t J) (of_tenure t J)) ≡ false
    by_tenure true c calm rest = grind (arith, calm, rest)
    by_tenure false c calm rest = rest

quiet : (c k t : ℕ) (J : List Entry) → HasEnded c k t J → Quiet c k t J
quiet c k t J g =
    let opened : is_empty J ≡ false = filter_some (λ x. x.tenure == t) J (some_of (λ x. is_ending x.call) (of_tenure t J) g.ended) in
    let kn = known k t J g.tenure opened g.under_way g.not_tested g.not_shut in
    let own = g.tenure in
    record {
      owner = own.owner;
      opened = opened;
      one_connection = g.one_connection;
      rising = rw g.under_way (not_above t);
      whole_before = so_if (nat_lt (last_tenure J) t) (is_whole_tenure (last_tenure J) J) (λ less. absurd (not_below t (rw g.under_way at less)));
      not_bad = g.not_bad;
      no_bad_tenure = no_bad_tenure J g.not_bad;
      not_invalid = kn.not_invalid;
      not_tested = g.not_tested;
      no_bad_reset = no_bad_reset t J g.not_bad;
      not_refused = g.not_refused;
      not_shut = g.not_shut;
    }

pub test_follows : (c k t : ℕ) (J : List Entry) (e : Entry) → HasEnded c k t J → IsTestOf c k t e → OpensOnce t J → PreparesOnce t J
    → ((n rows : ℕ) → has_cursor (made_by n t J) rows ≡ false) → ((n handle : ℕ) → has_handle (made_by n t J) handle ≡ false) → fits_at_its_place J e ≡ true → may_follow J e ≡ true
test_follows c k t J e g s opens prepares no_cursor no_handle fits =
    follows c k t J e (quiet c k t J g) (record {
      conn = s.conn;
      tenure = s.tenure;
      owner = s.owner;
      kind = rw s.call refl;
      reset = λ is. absurd (impossible (rw s.call at is));
      whole = λ _. whole_when_closed k t J g.tenure opens prepares g.ended no_cursor no_handle;
      outside = λ _. rw s.tx refl;
      in_body = λ here. absurd (impossible (rw s.call at here));
      transaction = λ some. absurd (some s.tx);
      fits = fits;
    })
