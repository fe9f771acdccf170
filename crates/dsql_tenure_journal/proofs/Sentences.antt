-- The argument that the test of an entry is true exactly if each rule is a fact.
use Rattle.std.proofs.Common.{◌≡◌, ◌≢◌, Bool, true, false, ◌==◌, ◌||◌, List, refl, eqb→eq}
use native.Mathlib.Omega.{arith}
use Rattle.std.proofs.lemmas.Bool.Decides.{nat_tests}
use Rattle.dsql_tenure_journal.specs.declared.entry.Entry.{Entry}
use Rattle.dsql_tenure_journal.specs.declared.entry.Owner.{Owner}
use Rattle.dsql_tenure_journal.specs.declared.entry.Owner.TheVariants.{Call, House}
use Rattle.dsql_tenure_journal.specs.Kinds.{◌⇒◌}
use Rattle.dsql_tenure_journal.specs.Tenure.{closes_own_handle, closes_rows_first, follows_no_bad, follows_no_bad_reset, follows_skip, goes_in_order, has_house_numbers, has_no_valid_before, has_one_owner, is_alone_of_house, is_body, is_call_body, is_house_call, is_outside_transactions, is_whole_at_valid, keeps_body, keeps_call_body, keeps_tenure, pings_alone, resets_first, runs_own_handle, tests_without_transaction, uses_own_cursor}
use Rattle.dsql_tenure_journal.specs.Transaction.{begins_once, closes_after_end, closes_what_it_prepared, ends_once, ends_without_cursors, has_owner_of_transaction, is_transaction_call, keeps_transaction, stands_in_one_tenure, starts_with_begin}
use Rattle.dsql_tenure_journal.specs.HandlesAndCursors.{fetches_before_the_end, fits_at_its_place, gives_new_cursor, gives_new_handle, has_live_cursor, has_live_handle, has_transaction_of_cursor, has_transaction_of_handle, has_width_of_cursor, is_fitting, is_heard, keeps_handles_and_cursors, uses_cursor_in_its_tenure, uses_handle_in_call_tenures, uses_handle_in_its_tenure}
use Rattle.dsql_tenure_journal.specs.WholeJournal.{connects_first, follows_no_refusal, follows_no_shut, follows_whole_tenure, has_one_connection, has_rising_tenure, keeps_whole_journal, shuts_after_invalid, starts_with_tenure_one, stays_in_bad_tenure, tidies_nothing_bad}
use Rattle.dsql_tenure_journal.specs.Journal.{may_follow}
use Rattle.dsql_tenure_journal.specs.Facts.{KeepsCallBody, KeepsBody, KeepsTenure, KeepsTransaction, KeepsHandlesAndCursors, FitsAtItsPlace, KeepsWholeJournal, MayFollow}
use Rattle.dsql_tenure_journal.proofs.Conjunctions.{if_so, so_if, join5, parts5, parts8, parts9, parts10}

KeepsCallBody-of : (before : List Entry) (e : Entry) → keeps_call_body before e ≡ true → KeepsCallBody before e
KeepsCallBody-of before e h =
    let p = parts10 (is_call_body e) (pings_alone before e) (goes_in_order before e) (uses_own_cursor before e) (closes_own_handle before e) (follows_skip before e) (runs_own_handle before e) (follows_no_bad before e) (closes_rows_first before e) (is_outside_transactions e) h in
    record { kind = p.0; ping_alone = p.1; order = p.2; own_cursor = p.3; own_close = p.4; skip = p.5; own_run = p.6; not_after_bad = p.7; rows_first = p.8; no_transaction = p.9 }

of-KeepsCallBody : (before : List Entry) (e : Entry) → KeepsCallBody before e → keeps_call_body before e ≡ true
of-KeepsCallBody before e h = grind (arith, h.kind, h.ping_alone, h.order, h.own_cursor, h.own_close, h.skip, h.own_run, h.not_after_bad, h.rows_first, h.no_transaction)

KeepsBody-of : (owner : Owner) (before : List Entry) (e : Entry) → keeps_body owner before e ≡ true → KeepsBody owner before e
KeepsBody-of (Call n) before e h = KeepsCallBody-of before e h
KeepsBody-of House before e h = tt
KeepsBody-of _ before e h = h

of-KeepsBody : (owner : Owner) (before : List Entry) (e : Entry) → KeepsBody owner before e → keeps_body owner before e ≡ true
of-KeepsBody (Call n) before e h = of-KeepsCallBody before e h
of-KeepsBody House before e h = refl
of-KeepsBody _ before e h = h

KeepsTenure-of : (before : List Entry) (e : Entry) → keeps_tenure before e ≡ true → KeepsTenure before e
KeepsTenure-of before e h =
    let p = parts10 (has_one_owner before e) (is_alone_of_house before e) (is_house_call e) (has_house_numbers e) (resets_first before e) (has_no_valid_before before e) (is_whole_at_valid before e) (tests_without_transaction e) (follows_no_bad_reset before e) ((is_body e ⇒ keeps_body e.owner before e)) h in
    record { one_owner = p.0; house_alone = p.1; house_call = p.2; house_numbers = p.3; reset_first = p.4; not_after_valid = p.5; whole_at_valid = p.6; tests = p.7; not_after_bad_reset = p.8; in_body = λ is. KeepsBody-of e.owner before e (if_so (is_body e) (keeps_body e.owner before e) p.9 is) }

of-KeepsTenure : (before : List Entry) (e : Entry) → KeepsTenure before e → keeps_tenure before e ≡ true
of-KeepsTenure before e h = grind (arith, h.one_owner, h.house_alone, h.house_call, h.house_numbers, h.reset_first, h.not_after_valid, h.whole_at_valid, h.tests, h.not_after_bad_reset, so_if (is_body e) (keeps_body e.owner before e) (λ is. of-KeepsBody e.owner before e (h.in_body is)))

-- The test of an entry of a transaction gives its rules.
or_else : (a b : Bool) → (a ≡ true → ⊥) → a || b ≡ true → b ≡ true
or_else true b never h = absurd (never refl)
or_else false b never h = h

KeepsTransaction-of : (before : List Entry) (e : Entry) → e.tx ≢ 0 → keeps_transaction before e ≡ true → KeepsTransaction before e
KeepsTransaction-of before e some h =
    let p = parts9 (stands_in_one_tenure before e) (has_owner_of_transaction e) (starts_with_begin before e) (begins_once before e) (is_transaction_call before e) (ends_once before e) (closes_after_end before e) (closes_what_it_prepared before e) (ends_without_cursors before e) (or_else (e.tx == 0) _ (λ is. some (eqb→eq e.tx 0 (grind (arith, nat_tests)))) h) in
    record { one_tenure = p.0; owner = p.1; begin_first = p.2; begin_once = p.3; kind = p.4; end_once = p.5; close_after_end = p.6; own_close = p.7; no_cursors = p.8 }

of-KeepsTransaction : (before : List Entry) (e : Entry) → KeepsTransaction before e → keeps_transaction before e ≡ true
of-KeepsTransaction before e h = grind (arith, h.one_tenure, h.owner, h.begin_first, h.begin_once, h.kind, h.end_once, h.close_after_end, h.own_close, h.no_cursors)

KeepsHandlesAndCursors-of : (before : List Entry) (e : Entry) → keeps_handles_and_cursors before e ≡ true → KeepsHandlesAndCursors before e
KeepsHandlesAndCursors-of before e h =
    let p = parts8 (has_live_handle before e) (has_live_cursor before e) (fetches_before_the_end before e) (has_transaction_of_handle before e) (has_transaction_of_cursor before e) (uses_cursor_in_its_tenure before e) (uses_handle_in_its_tenure before e) (uses_handle_in_call_tenures before e) h in
    record { live_handle = p.0; live_cursor = p.1; not_over = p.2; transaction_of_handle = p.3; transaction_of_cursor = p.4; cursor_tenure = p.5; handle_tenure = p.6; call_handle = p.7 }

of-KeepsHandlesAndCursors : (before : List Entry) (e : Entry) → KeepsHandlesAndCursors before e → keeps_handles_and_cursors before e ≡ true
of-KeepsHandlesAndCursors before e h = grind (arith, h.live_handle, h.live_cursor, h.not_over, h.transaction_of_handle, h.transaction_of_cursor, h.cursor_tenure, h.handle_tenure, h.call_handle)

FitsAtItsPlace-of : (before : List Entry) (e : Entry) → fits_at_its_place before e ≡ true → FitsAtItsPlace before e
FitsAtItsPlace-of before e h =
    let p = parts5 (is_heard e) (is_fitting e) (gives_new_handle before e) (gives_new_cursor before e) (has_width_of_cursor before e) h in
    record { heard = p.0; fitting = p.1; new_handle = p.2; new_cursor = p.3; width = p.4 }

of-FitsAtItsPlace : (before : List Entry) (e : Entry) → FitsAtItsPlace before e → fits_at_its_place before e ≡ true
of-FitsAtItsPlace before e h = grind (arith, h.heard, h.fitting, h.new_handle, h.new_cursor, h.width)

KeepsWholeJournal-of : (before : List Entry) (e : Entry) → keeps_whole_journal before e ≡ true → KeepsWholeJournal before e
KeepsWholeJournal-of before e h =
    let p = parts10 (has_one_connection before e) (follows_no_refusal before) (follows_whole_tenure before e) (connects_first before e) (follows_no_shut before) (has_rising_tenure before e) (starts_with_tenure_one before e) (tidies_nothing_bad before e) (stays_in_bad_tenure before e) (shuts_after_invalid before e) h in
    record { one_connection = p.0; not_after_refusal = p.1; after_whole_tenure = p.2; connect_first = p.3; not_after_shut = p.4; rising = p.5; from_one = p.6; not_tidied_when_bad = p.7; in_bad_tenure = p.8; shut_when_invalid = p.9 }

of-KeepsWholeJournal : (before : List Entry) (e : Entry) → KeepsWholeJournal before e → keeps_whole_journal before e ≡ true
of-KeepsWholeJournal before e h = grind (arith, h.one_connection, h.not_after_refusal, h.after_whole_tenure, h.connect_first, h.not_after_shut, h.rising, h.from_one, h.not_tidied_when_bad, h.in_bad_tenure, h.shut_when_invalid)

by_cases : (P : Type 0) (b : Bool) → (b ≡ true → P) → (b ≡ false → P) → P
by_cases P true yes_so not_so = yes_so refl
by_cases P false yes_so not_so = not_so refl

KeepsTransaction-test : (before : List Entry) (e : Entry) → (e.tx ≢ 0 → KeepsTransaction before e) → keeps_transaction before e ≡ true
KeepsTransaction-test before e h =
    by_cases (keeps_transaction before e ≡ true) (e.tx == 0)
    (λ is. grind (arith, is))
    (λ is. of-KeepsTransaction before e (h (λ zero_so. grind (arith, nat_tests, is, zero_so))))

pub MayFollow-of : (before : List Entry) (e : Entry) → may_follow before e ≡ true → MayFollow before e
MayFollow-of before e h =
    let p = parts5 (keeps_whole_journal before e) (keeps_tenure before e) (keeps_transaction before e) (keeps_handles_and_cursors before e) (fits_at_its_place before e) h in
    record {
      whole_journal = KeepsWholeJournal-of before e p.0;
      tenure = KeepsTenure-of before e p.1;
      transaction = λ some. KeepsTransaction-of before e some p.2;
      handles = KeepsHandlesAndCursors-of before e p.3;
      answer = FitsAtItsPlace-of before e p.4;
    }

pub of-MayFollow : (before : List Entry) (e : Entry) → MayFollow before e → may_follow before e ≡ true
of-MayFollow before e h =
    join5 (keeps_whole_journal before e) (keeps_tenure before e) (keeps_transaction before e) (keeps_handles_and_cursors before e) (fits_at_its_place before e)
    (of-KeepsWholeJournal before e h.whole_journal)
    (of-KeepsTenure before e h.tenure)
    (KeepsTransaction-test before e h.transaction)
    (of-KeepsHandlesAndCursors before e h.handles)
    (of-FitsAtItsPlace before e h.answer)
