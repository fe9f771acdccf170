-- What makes a tenure whole at once, in a beginning of a whole journal.
use Rattle.std.proofs.Common.{◌≡◌, ℕ, Bool, true, false, not, ◌&&◌, ◌||◌, ◌==◌, List, [], ◌∷◌, refl, sym, ◌∙◌, eqb→eq}
use Rattle.std.specs.List.{list_all, list_any}
use native.Mathlib.Omega.{arith}
use Rattle.std.proofs.lemmas.Bool.Decides.{nat_tests}
use Rattle.dsql_driver.specs.declared.call.DriverCall.{DriverCall}
use Rattle.dsql_driver.specs.declared.call.DriverCall.TheVariants.{Connect, Reset, Valid, CloseStmt, Shut}
use Rattle.dsql_driver.specs.declared.answer.DriverAnswer.{DriverAnswer}
use Rattle.dsql_tenure_journal.specs.declared.entry.Entry.{Entry}
use Rattle.dsql_tenure_journal.specs.Kinds.{◌⇒◌, is_house, is_call, is_number, same_owner}
use Rattle.dsql_driver.specs.Kinds.{is_valid, is_reset, is_bad, is_begin, is_connect, is_close_stmt, is_shut, given_cursor, given_handle}
use Rattle.dsql_tenure_journal.specs.Readers.{LiveHandle, LiveCursor, is_empty, of_tenure, handles, handles_after, cursors, cursors_after, went_bad}
use Rattle.dsql_tenure_journal.specs.Tenure.{is_whole_tenure, has_ended_transactions, has_closed_cursors, has_closed_handles}
use Rattle.dsql_driver.specs.Fits.{is_done}
use Rattle.dsql_tenure_journal.specs.Journal.{may_follow, is_journal_prefix, IsJournalPrefix}
use Rattle.dsql_tenure_journal.specs.Facts.{MayFollow}
use Rattle.dsql_tenure_journal.proofs.Conjunctions.{parts2, join2, if_so}
use Rattle.dsql_tenure_journal.proofs.Sentences.{MayFollow-of}
use Rattle.dsql_tenure.proofs.Lists.{list_all-so, list_any-so, is_empty-filter}
use Rattle.dsql_tenure.proofs.Given.{gave_handle, gave_cursor, handles-given, cursors-given, list_all-kept, eqb-refl}
use Rattle.dsql_tenure.proofs.Transactions.{OnlyBegins, begin-only}

valid-is : (q : DriverCall) → is_valid q ≡ true → q ≡ Valid
valid-is Valid h = refl
valid-is _ h = grind (arith, h)

reset-is : (q : DriverCall) → is_reset q ≡ true → q ≡ Reset
reset-is Reset h = refl
reset-is _ h = grind (arith, h)

worse : (a b c : Bool) → (b || c) ≡ true → ((a || b) || c) ≡ true
worse true b c h = refl
worse false b c h = h

pub mayfollow : (before : List Entry) (e : Entry) → IsJournalPrefix (e ∷ before) → MayFollow before e
mayfollow before e h = MayFollow-of before e (parts2 (may_follow before e) (is_journal_prefix before) h).0

-- A tenure is whole at its Valid.
pub whole-valid : (before : List Entry) (e : Entry) → IsJournalPrefix (e ∷ before) → is_valid e.call ≡ true → is_whole_tenure e.tenure (e ∷ before) ≡ true
whole-valid before e h is =
    let m = mayfollow before e h in
    let w = parts2 (has_ended_transactions e.tenure before) (went_bad before || has_closed_cursors e.tenure before && has_closed_handles e.tenure before) (if_so (is_valid e.call) (is_whole_tenure e.tenure before) m.tenure.whole_at_valid is) in
    rw (eqb-refl e.tenure, valid-is e.call is)
    (join2 (has_ended_transactions e.tenure before) ((is_bad e.answer || went_bad before) || has_closed_cursors e.tenure before && has_closed_handles e.tenure before) w.0
    (worse (is_bad e.answer) (went_bad before) (has_closed_cursors e.tenure before && has_closed_handles e.tenure before) w.1))

pub empty_is : (xs : List Entry) → is_empty xs ≡ true → xs ≡ []
empty_is [] h = refl
empty_is (x ∷ xs) h = grind (arith, h)

-- A tenure is whole at a Reset answered Bad, which is all that it has.
pub whole-fell : (before : List Entry) (e : Entry) → IsJournalPrefix (e ∷ before) → (is_reset e.call && is_bad e.answer) ≡ true → is_whole_tenure e.tenure (e ∷ before) ≡ true
whole-fell before e h is =
    let m = mayfollow before e h in
    let p = parts2 (is_reset e.call) (is_bad e.answer) is in
    let none : of_tenure e.tenure before ≡ [] = empty_is (of_tenure e.tenure before) (if_so (is_reset e.call) (is_empty (of_tenure e.tenure before)) m.tenure.reset_first p.0) in
    rw (eqb-refl e.tenure, none, reset-is e.call p.0, p.1) refl

-- Nothing of a tenure without an entry is live.
no_entry : (t : ℕ) (journal : List Entry) → of_tenure t journal ≡ [] → list_any (λ x. x.tenure == t) journal ≡ false
no_entry t journal none = go (list_any (λ x. x.tenure == t) journal) (sym (is_empty-filter (λ x. x.tenure == t) journal) ∙ rw none refl)
  where
    go : (b : Bool) → not b ≡ true → b ≡ false
    go true h = sym h
    go false h = refl

elsewhere : (b c : Bool) → (b ≡ true → c ≡ true) → c ≡ false → not b ≡ true
elsewhere true c h k = sym k ∙ h refl
elsewhere false c h k = refl

pub no_cursors : (t : ℕ) (journal : List Entry) → of_tenure t journal ≡ [] → list_all (λ c. not (c.tenure == t)) (cursors journal) ≡ true
no_cursors t journal none =
    list_all-so (λ c. list_any (gave_cursor c) journal) (λ c. not (c.tenure == t))
    (λ c gave. elsewhere (c.tenure == t) (list_any (λ x. x.tenure == t) journal)
    (λ at. list_any-so (gave_cursor c) (λ x. x.tenure == t) (λ x g.
    let p = parts2 (is_number (given_cursor x.answer) c.number) ((x.tenure == c.tenure) && (x.tx == c.tx)) g in
    let q = parts2 (x.tenure == c.tenure) (x.tx == c.tx) p.1 in
    let same : c.tenure ≡ t = eqb→eq c.tenure t (grind (arith, nat_tests, at)) in
    rw (← same) q.0) journal gave)
    (no_entry t journal none))
    (cursors journal) (cursors-given journal)

pub no_handles : (t : ℕ) (journal : List Entry) → of_tenure t journal ≡ [] → list_all (λ h. (h.tenure == t) ⇒ is_call h.owner) (handles journal) ≡ true
no_handles t journal none =
    list_all-so (λ h. list_any (gave_handle h) journal) (λ h. (h.tenure == t) ⇒ is_call h.owner)
    (λ h gave. off (h.tenure == t) (is_call h.owner) (elsewhere (h.tenure == t) (list_any (λ x. x.tenure == t) journal)
    (λ at. list_any-so (gave_handle h) (λ x. x.tenure == t) (λ x g.
    let p = parts2 (is_number (given_handle x.answer) h.number) ((x.tenure == h.tenure) && ((x.tx == h.tx) && same_owner x.owner h.owner)) g in
    let q = parts2 (x.tenure == h.tenure) ((x.tx == h.tx) && same_owner x.owner h.owner) p.1 in
    let same : h.tenure ≡ t = eqb→eq h.tenure t (grind (arith, nat_tests, at)) in
    rw (← same) q.0) journal gave)
    (no_entry t journal none)))
    (handles journal) (handles-given journal)
  where
    off : (b c : Bool) → not b ≡ true → (b ⇒ c) ≡ true
    off true c h = grind (arith, h)
    off false c h = refl

house_cursors : (e : Entry) (q : DriverCall) (a : DriverAnswer) (live : List LiveCursor) → (is_connect q || is_close_stmt q || is_shut q) ≡ true → cursors_after e q a live ≡ live
house_cursors e Connect a live h = refl
house_cursors e (CloseStmt n) a live h = refl
house_cursors e Shut a live h = refl
house_cursors e _ a live h = grind (arith, h)

house_handles : (t : ℕ) (e : Entry) (q : DriverCall) (a : DriverAnswer) (live : List LiveHandle) → (is_connect q || is_close_stmt q || is_shut q) ≡ true
    → list_all (λ h. (h.tenure == t) ⇒ is_call h.owner) live ≡ true → list_all (λ h. (h.tenure == t) ⇒ is_call h.owner) (handles_after e q a live) ≡ true
house_handles t e Connect a live h k = k
house_handles t e (CloseStmt n) a live h k = list_all-kept (λ x. (x.tenure == t) ⇒ is_call x.owner) (λ x. not (x.number == n)) live k
house_handles t e Shut a live h k = k
house_handles t e _ a live h k = grind (arith, h)

not_house_begin : (q : DriverCall) (d : Bool) → (is_connect q || is_close_stmt q || is_shut q) ≡ true → (is_begin q && d) ≡ false
not_house_begin q d h = go (is_begin q) refl
  where
    go : (b : Bool) → is_begin q ≡ b → (b && d) ≡ false
    go true is = let only : OnlyBegins q = begin-only q is in grind (arith, h, only.house)
    go false is = refl

or_all : (b c d : Bool) → c ≡ true → d ≡ true → (b || c && d) ≡ true
or_all true c d h k = refl
or_all false c d h k = join2 c d h k

-- A tenure of the house is whole with its one entry.
pub whole-house : (before : List Entry) (e : Entry) → IsJournalPrefix (e ∷ before) → is_house e.owner ≡ true → is_whole_tenure e.tenure (e ∷ before) ≡ true
whole-house before e h is =
    let m = mayfollow before e h in
    let none : of_tenure e.tenure before ≡ [] = empty_is (of_tenure e.tenure before) (if_so (is_house e.owner) (is_empty (of_tenure e.tenure before)) m.tenure.house_alone is) in
    let call = if_so (is_house e.owner) (is_connect e.call || is_close_stmt e.call || is_shut e.call) m.tenure.house_call is in
    join2 (has_ended_transactions e.tenure (e ∷ before)) (went_bad (e ∷ before) || has_closed_cursors e.tenure (e ∷ before) && has_closed_handles e.tenure (e ∷ before))
    (rw (eqb-refl e.tenure, none, not_house_begin e.call (is_done e.answer) call) refl)
    (or_all (went_bad (e ∷ before)) (has_closed_cursors e.tenure (e ∷ before)) (has_closed_handles e.tenure (e ∷ before))
    (rw (house_cursors e e.call e.answer (cursors before) call) (no_cursors e.tenure before none))
    (house_handles e.tenure e e.call e.answer (handles before) call (no_handles e.tenure before none)))
