-- The argument that a tenure that isn't whole can have a further entry, answered Bad, and that the beginning
-- then has a whole end.
use Rattle.std.proofs.Common.{◌≡◌, ℕ, Bool, true, false, ◌==◌, nat_lt, None, List, ◌∷◌, refl, sym, ◌∙◌}
use Rattle.std.specs.List.{list_all}
use native.Mathlib.Omega.{arith}
use Rattle.std.proofs.lemmas.Bool.Decides.{nat_tests}
use Rattle.dsql_driver.specs.declared.call.DriverCall.{DriverCall}
use Rattle.dsql_driver.specs.declared.answer.DriverAnswer.TheVariants.{Bad}
use Rattle.dsql_driver.specs.Fits.{may_fail}
use Rattle.dsql_tenure_journal.specs.declared.entry.Entry.{Entry}
use Rattle.dsql_tenure_journal.specs.Kinds.{◌⇒◌, is_house}
use Rattle.dsql_driver.specs.Kinds.{is_connect, is_reset, is_valid, is_bad}
use Rattle.dsql_tenure_journal.specs.Readers.{bad_tenure, went_bad, was_refused, was_shut}
use Rattle.dsql_tenure_journal.specs.HandlesAndCursors.{has_width_of_cursor}
use Rattle.dsql_tenure_journal.specs.Tenure.{is_whole_tenure}
use Rattle.dsql_tenure_journal.specs.Journal.{IsJournalPrefix}
use Rattle.dsql_tenure_journal.specs.Facts.{KeepsBody, KeepsTenure, KeepsTransaction, KeepsHandlesAndCursors, KeepsWholeJournal, MayFollow}
use Rattle.dsql_tenure_journal.proofs.Conjunctions.{join2}
use Rattle.dsql_tenure_journal.proofs.Beginnings.{IsJournalPrefix-longer}
use Rattle.dsql_tenure.specs.Ends.{HasWholeEnd}
use Rattle.dsql_tenure.proofs.Given.{eqb-refl}
use Rattle.dsql_tenure.proofs.WholeAtOnce.{mayfollow, whole-house}
use Rattle.dsql_tenure.proofs.Rollbacks.{none_valid, none_fell, not_invalid}
use Rattle.dsql_tenure.proofs.BadEnds.{both_false, same_owners}
use Rattle.dsql_tenure.proofs.RollsBack.{one_more, bad-has_whole_end}

-- Holds of a beginning that goes on, if no answer was Bad and the tenure under way isn't whole.
pub record Partly (before : List Entry) (entry : Entry) : Type 0 where
  pub beginning : IsJournalPrefix (entry ∷ before)
  pub not_refused : was_refused (entry ∷ before) ≡ false
  pub not_shut : was_shut (entry ∷ before) ≡ false
  pub not_bad : went_bad (entry ∷ before) ≡ false
  pub partly : is_whole_tenure entry.tenure (entry ∷ before) ≡ false

-- Returns a call of the tenure under way, answered Bad.
abbrev pub spoiled : Entry → ℕ → DriverCall → Entry
spoiled entry tx call = record { conn = entry.conn; tenure = entry.tenure; owner = entry.owner; call_no = entry.call_no; tx = tx; call = call; answer = Bad }

-- Holds if the call is none of these.
pub record Works (call : DriverCall) : Type 0 where
  pub connect : is_connect call ≡ false
  pub reset : is_reset call ≡ false
  pub valid : is_valid call ≡ false
  pub fails : may_fail call ≡ true

none_bad : (before : List Entry) (e : Entry) → went_bad (e ∷ before) ≡ false → bad_tenure (e ∷ before) ≡ None
none_bad before e good =
    let p = both_false (is_bad e.answer) (went_bad before) good in
    rw (p.1, p.0) refl

module _ (before : List Entry) (e : Entry) (p : Partly before e) where
  pub no_house : is_house e.owner ≡ false
  no_house = go (is_house e.owner) refl
    where
      go : (b : Bool) → is_house e.owner ≡ b → b ≡ false
      go true is = sym (whole-house before e p.beginning is) ∙ p.partly
      go false is = refl

  whole_journal_kept : (tx : ℕ) (q : DriverCall) → Works q → KeepsWholeJournal (e ∷ before) (spoiled e tx q)
  whole_journal_kept tx q w =
      record {
        one_connection = join2 (e.conn == e.conn) (list_all (λ x. x.conn == e.conn) before) (eqb-refl e.conn) (mayfollow before e p.beginning).whole_journal.one_connection;
        not_after_refusal = rw p.not_refused refl;
        after_whole_tenure = same_again (nat_lt e.tenure e.tenure) (grind (arith, nat_tests));
        connect_first = rw w.connect refl;
        not_after_shut = rw p.not_shut refl;
        rising = grind (arith, nat_tests);
        from_one = refl;
        not_tidied_when_bad = rw p.not_bad refl;
        in_bad_tenure = rw (none_bad before e p.not_bad) refl;
        shut_when_invalid = rw (not_invalid before e p.beginning p.partly p.not_shut) refl;
      }
    where
      same_again : (b : Bool) → b ≡ false → (b ⇒ is_whole_tenure e.tenure (e ∷ before)) ≡ true
      same_again true k = grind (arith, k)
      same_again false k = refl

  tenure_kept : (tx : ℕ) (q : DriverCall) → Works q → KeepsBody e.owner (e ∷ before) (spoiled e tx q) → KeepsTenure (e ∷ before) (spoiled e tx q)
  tenure_kept tx q w body =
      record {
        one_owner = same_owners before e p.beginning;
        house_alone = rw no_house refl;
        house_call = rw no_house refl;
        house_numbers = rw no_house refl;
        reset_first = rw w.reset refl;
        not_after_valid = rw (none_valid before e p.beginning p.partly) refl;
        whole_at_valid = rw w.valid refl;
        tests = rw (w.reset, w.valid) refl;
        not_after_bad_reset = rw (none_fell before e p.beginning p.partly) refl;
        in_body = λ k. body;
      }

  -- A call that may follow, answered Bad, is followed by what makes the journal whole.
  pub spoiled_end : (tx : ℕ) (q : DriverCall) → Works q → KeepsBody e.owner (e ∷ before) (spoiled e tx q) → ((tx ≡ 0 → ⊥) → KeepsTransaction (e ∷ before) (spoiled e tx q))
      → KeepsHandlesAndCursors (e ∷ before) (spoiled e tx q) → has_width_of_cursor (e ∷ before) (spoiled e tx q) ≡ true → HasWholeEnd (e ∷ before)
  spoiled_end tx q w body transaction handles width =
      let may : MayFollow (e ∷ before) (spoiled e tx q) =
      record {
        whole_journal = whole_journal_kept tx q w;
        tenure = tenure_kept tx q w body;
        transaction = transaction;
        handles = handles;
        answer = record { heard = refl; fitting = w.fails; new_handle = refl; new_cursor = refl; width = width };
      } in
      one_more (spoiled e tx q) (e ∷ before) refl
      (bad-has_whole_end (spoiled e tx q ∷ e ∷ before) (IsJournalPrefix-longer (e ∷ before) (spoiled e tx q) p.beginning may) refl)
