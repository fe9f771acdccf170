-- The argument that each beginning of a whole journal has a whole end, by the state of the last tenure.
use Rattle.std.proofs.Common.{◌≡◌, ℕ, Bool, true, false, ◌||◌, List, [], ◌∷◌, refl, sym, ◌∙◌, subst}
use native.Mathlib.Omega.{arith}
use Rattle.dsql_driver.specs.declared.call.DriverCall.TheVariants.{Ping}
use Rattle.dsql_driver.specs.declared.answer.DriverAnswer.TheVariants.{Bad}
use Rattle.dsql_tenure_journal.specs.declared.entry.Entry.{Entry}
use Rattle.dsql_tenure_journal.specs.declared.entry.Owner.{Owner}
use Rattle.dsql_tenure_journal.specs.declared.entry.Owner.TheVariants.{Call, Tx, Pin, House}
use Rattle.dsql_tenure_journal.specs.Entries.{connect_entry}
use Rattle.dsql_tenure_journal.specs.Kinds.{is_house}
use Rattle.dsql_tenure_journal.specs.Readers.{went_bad, was_refused, was_shut}
use Rattle.dsql_tenure_journal.specs.Tenure.{is_whole_tenure}
use Rattle.dsql_tenure_journal.specs.Journal.{IsJournalPrefix}
use Rattle.dsql_tenure_journal.specs.Facts.{KeepsBody}
use Rattle.dsql_tenure.specs.Ends.{HasWholeEnd}
use Rattle.dsql_tenure.proofs.Standing.{whole-is}
use Rattle.dsql_tenure.proofs.RollsBack.{shut_end, bad-has_whole_end}
use Rattle.dsql_tenure.proofs.TxEnds.{tx_end}
use Rattle.dsql_tenure.proofs.CallEnds.{call_end}
use Rattle.dsql_tenure.proofs.Partly.{Partly, spoiled, spoiled_end, no_house}

-- A pinned connection can be pinged, so its tenure has a whole end.
pin_end : (before : List Entry) (e : Entry) → Partly before e → (n : ℕ) → e.owner ≡ Pin n → HasWholeEnd (e ∷ before)
pin_end before e p n is =
    spoiled_end before e p 0 Ping (record { connect = refl; reset = refl; valid = refl; fails = refl })
    (subst (λ (o : Owner). KeepsBody o (e ∷ before) (spoiled e 0 Ping)) (sym is) refl)
    (λ some. absurd (some refl))
    (record { live_handle = refl; live_cursor = refl; not_over = refl; transaction_of_handle = refl; transaction_of_cursor = refl; cursor_tenure = refl; handle_tenure = refl; call_handle = refl })
    refl

partly_end : (before : List Entry) (e : Entry) → Partly before e → (o : Owner) → e.owner ≡ o → HasWholeEnd (e ∷ before)
partly_end before e p (Call n) is = call_end before e p n is
partly_end before e p (Tx n) is = tx_end before e p n is
partly_end before e p (Pin n) is = pin_end before e p n is
partly_end before e p House is = absurd (never (subst (λ (o : Owner). is_house o ≡ false) is (no_house before e p)))
  where
    never : true ≡ false → ⊥
    never k = grind (arith, k)

-- Each beginning of a whole journal has a whole end.
pub has_whole_end : (journal : List Entry) → IsJournalPrefix journal → HasWholeEnd journal
has_whole_end [] h = (connect_entry 1 Bad ∷ [], refl, refl)
has_whole_end (e ∷ before) h =
    go (was_refused (e ∷ before)) (was_shut (e ∷ before)) (went_bad (e ∷ before)) (is_whole_tenure e.tenure (e ∷ before)) refl refl refl refl
  where
    over : (was_refused (e ∷ before) || was_shut (e ∷ before)) ≡ true → HasWholeEnd (e ∷ before)
    over is = ([], whole-is (e ∷ before) h ∙ is, refl)

    go : (a b c d : Bool) → was_refused (e ∷ before) ≡ a → was_shut (e ∷ before) ≡ b → went_bad (e ∷ before) ≡ c → is_whole_tenure e.tenure (e ∷ before) ≡ d → HasWholeEnd (e ∷ before)
    go true b c d refused shut bad whole = over (rw refused refl)
    go false true c d refused shut bad whole = over (rw (refused, shut) refl)
    go false false true d refused shut bad whole = bad-has_whole_end (e ∷ before) h bad
    go false false false true refused shut bad whole = shut_end before e h refused shut whole
    go false false false false refused shut bad whole =
        partly_end before e (record { beginning = h; not_refused = refused; not_shut = shut; not_bad = bad; partly = whole }) e.owner refl
