-- Tenures in a beginning of a whole journal, and what may begin one.
use Rattle.std.proofs.Common.{◌≡◌, ℕ, ◌<◌, Bool, true, false, not, ◌==◌, ◌||◌, Option, None, Some, List, [], ◌∷◌, refl}
use Rattle.std.specs.List.{list_all}
use native.Mathlib.Omega.{arith}
use Rattle.std.proofs.lemmas.Bool.Decides.{nat_tests}
use Rattle.dsql_tenure_journal.specs.declared.entry.Entry.{Entry}
use Rattle.dsql_driver.specs.declared.call.DriverCall.TheVariants.{Shut}
use Rattle.dsql_driver.specs.declared.answer.DriverAnswer.{DriverAnswer}
use Rattle.dsql_driver.specs.declared.answer.DriverAnswer.TheVariants.{Prepared, Cursor}
use Rattle.dsql_tenure_journal.specs.Kinds.{◌⇒◌, if_any}
use Rattle.dsql_driver.specs.Kinds.{given_handle, given_cursor}
use Rattle.dsql_driver.specs.Fits.{fits_of, is_memory}
use Rattle.dsql_tenure_journal.specs.Readers.{of_tenure, last_tenure, is_empty, went_bad, went_invalid, bad_tenure, handles_named, cursors_named}
use Rattle.dsql_tenure_journal.specs.Journal.{may_follow, is_journal_prefix, IsJournalPrefix, IsWhole}
use Rattle.dsql_tenure_journal.specs.Facts.{MayFollow, MayShut}
use Rattle.dsql_tenure_journal.specs.Entries.{shut_entry}
use Rattle.dsql_tenure_journal.proofs.Conjunctions.{parts2, join2}
use Rattle.dsql_tenure_journal.proofs.Sentences.{MayFollow-of}
use Rattle.dsql_tenure_journal.proofs.Beginnings.{IsJournalPrefix-longer}

-- A number above the last tenure's has no entry yet.
pub of_tenure-new : (n : ℕ) (before : List Entry) → IsJournalPrefix before → last_tenure before < n → of_tenure n before ≡ []
of_tenure-new n [] h above = refl
of_tenure-new n (e ∷ before) h above =
    let p = parts2 (may_follow before e) (is_journal_prefix before) h in
    let m : MayFollow before e = MayFollow-of before e p.0 in
    let rest : of_tenure n before ≡ [] = of_tenure-new n before p.1 (grind (arith, nat_tests, m.whole_journal.rising, above)) in
    grind (arith, nat_tests, rest, above)

shut_anyway : (bad : Option ℕ) (t : ℕ) → if_any bad (λ n. t == n || true) ≡ true
shut_anyway None t = refl
shut_anyway (Some n) t = either (t == n)
  where
    either : (b : Bool) → b || true ≡ true
    either true = refl
    either false = refl

module _ (before : List Entry) (c t : ℕ) (one : list_all (λ x. x.conn == c) before ≡ true) where
  pub MayFollow-shut : (answer : DriverAnswer) → MayShut before t → fits_of Shut answer ≡ true → not (is_memory answer) ≡ true → MayFollow before (shut_entry c t answer)
  MayFollow-shut answer may fit heard =
      let new : of_tenure t before ≡ [] = of_tenure-new t before may.beginning may.above in
      record {
        whole_journal = record {
          one_connection = one;
          not_after_refusal = grind (arith, may.not_refused);
          after_whole_tenure = grind (arith, nat_tests, may.whole);
          connect_first = grind (arith, may.opened);
          not_after_shut = grind (arith, may.not_shut);
          rising = grind (arith, nat_tests, may.above);
          from_one = grind (arith, may.opened);
          not_tidied_when_bad = either (went_bad before);
          in_bad_tenure = shut_anyway (bad_tenure before) t;
          shut_when_invalid = either (went_invalid before);
        };
        tenure = record {
          one_owner = rw new refl;
          house_alone = rw new refl;
          house_call = refl;
          house_numbers = refl;
          reset_first = refl;
          not_after_valid = rw new refl;
          whole_at_valid = refl;
          tests = refl;
          not_after_bad_reset = rw new refl;
          in_body = λ is. tt;
        };
        transaction = λ some. absurd (some refl);
        handles = record {
          live_handle = refl;
          live_cursor = refl;
          not_over = refl;
          transaction_of_handle = refl;
          transaction_of_cursor = refl;
          cursor_tenure = refl;
          handle_tenure = refl;
          call_handle = refl;
        };
        answer = record { heard = heard; fitting = fit; new_handle = no_handle answer fit; new_cursor = no_cursor answer fit; width = refl };
      }
    where
      either : (b : Bool) → b ⇒ true ≡ true
      either true = refl
      either false = refl

      no_handle : (a : DriverAnswer) → fits_of Shut a ≡ true → if_any (given_handle a) (λ h. is_empty (handles_named h before)) ≡ true
      no_handle (Prepared h inputs) f = grind (arith, f)
      no_handle _ f = refl

      no_cursor : (a : DriverAnswer) → fits_of Shut a ≡ true → if_any (given_cursor a) (λ r. is_empty (cursors_named r before)) ≡ true
      no_cursor (Cursor r columns) f = grind (arith, f)
      no_cursor _ f = refl

  -- A beginning whose tenure under way is whole can be shut, and then it is whole.
  pub IsWhole-shut : (answer : DriverAnswer) → MayShut before t → fits_of Shut answer ≡ true → not (is_memory answer) ≡ true → IsWhole (shut_entry c t answer ∷ before)
  IsWhole-shut answer may fit heard =
      join2 (is_journal_prefix (shut_entry c t answer ∷ before)) true
      (IsJournalPrefix-longer before (shut_entry c t answer) may.beginning (MayFollow-shut answer may fit heard)) refl
