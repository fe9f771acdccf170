-- The argument that in a beginning of a whole journal a number names at most one live handle and one live
-- cursor.
use Rattle.std.proofs.Common.{◌≡◌, ℕ, ◌≤◌, Bool, true, false, cond, not, ◌==◌, List, [], ◌∷◌, length, refl}
use Rattle.std.specs.List.{filter}
use native.Mathlib.Omega.{arith}
use Rattle.std.proofs.lemmas.Bool.Decides.{nat_tests}
use Rattle.dsql_tenure_journal.specs.declared.entry.Entry.{Entry}
use Rattle.dsql_driver.specs.declared.call.DriverCall.{DriverCall}
use Rattle.dsql_driver.specs.declared.call.DriverCall.TheVariants.{Prepare, CloseStmt, Query, Next, CloseRows}
use Rattle.dsql_driver.specs.declared.answer.DriverAnswer.{DriverAnswer}
use Rattle.dsql_driver.specs.declared.answer.DriverAnswer.TheVariants.{Prepared, Cursor}
use Rattle.dsql_tenure_journal.specs.Kinds.{if_any}
use Rattle.dsql_driver.specs.Kinds.{given_handle, given_cursor}
use Rattle.dsql_tenure_journal.specs.Readers.{is_empty, LiveHandle, LiveCursor, handles, handles_after, handles_named, cursors, cursors_after, cursors_named, cursor_changed, after_next}
use Rattle.dsql_tenure_journal.specs.Journal.{may_follow, is_journal_prefix, IsJournalPrefix}
use Rattle.dsql_tenure_journal.specs.Facts.{MayFollow}
use Rattle.dsql_tenure_journal.proofs.Conjunctions.{parts2}
use Rattle.dsql_tenure_journal.proofs.Sentences.{MayFollow-of}

-- Returns how many elements pass the test.
abbrev count : {X : Type 0} → (X → Bool) → List X → ℕ
count test xs = length (filter test xs)

less_if : {X : Type 0} (test : X → Bool) (b : Bool) (x : X) (xs ys : List X) → count test ys ≤ count test xs → count test (cond b (x ∷ ys) ys) ≤ count test (x ∷ xs)
less_if test true x xs ys h = go (test x)
  where
    go : (t : Bool) → length (cond t (x ∷ filter test ys) (filter test ys)) ≤ length (cond t (x ∷ filter test xs) (filter test xs))
    go true = grind (arith, h)
    go false = h
less_if test false x xs ys h = go (test x)
  where
    go : (t : Bool) → length (filter test ys) ≤ length (cond t (x ∷ filter test xs) (filter test xs))
    go true = grind (arith, h)
    go false = h

count-filter : {X : Type 0} (test keep : X → Bool) (xs : List X) → count test (filter keep xs) ≤ count test xs
count-filter test keep [] = grind (arith)
count-filter test keep (x ∷ xs) = less_if test (keep x) x xs (filter keep xs) (count-filter test keep xs)

one_more : {X : Type 0} (test : X → Bool) (x : X) (xs : List X) → count test xs ≤ 1 → (test x ≡ true → is_empty (filter test xs) ≡ true) → count test (x ∷ xs) ≤ 1
one_more test x xs h new = go (test x) (filter test xs) h new
  where
    go : (t : Bool) (ys : List _) → length ys ≤ 1 → (t ≡ true → is_empty ys ≡ true) → length (cond t (x ∷ ys) ys) ≤ 1
    go true [] h new = grind (arith)
    go true (y ∷ ys) h new = let no : false ≡ true = new refl in grind (arith, no)
    go false ys h new = h

handles_after-one : (n : ℕ) (e : Entry) (q : DriverCall) (a : DriverAnswer) (live : List LiveHandle) → count (λ h. h.number == n) live ≤ 1
    → if_any (given_handle a) (λ h. is_empty (filter (λ x. x.number == h) live)) ≡ true → count (λ h. h.number == n) (handles_after e q a live) ≤ 1
handles_after-one n e (Prepare text) (Prepared handle inputs) live h new =
    one_more (λ x. x.number == n) (record { number = handle; tenure = e.tenure; owner = e.owner; tx = e.tx; inputs = inputs }) live h
    (λ is. let same : handle ≡ n = grind (arith, nat_tests, is) in rw (← same) new)
handles_after-one n e (CloseStmt handle) a live h new =
    let less : count (λ x. x.number == n) (filter (λ x. not (x.number == handle)) live) ≤ count (λ x. x.number == n) live = count-filter (λ x. x.number == n) (λ x. not (x.number == handle)) live in
    grind (arith, less, h)
handles_after-one n e _ _ live h new = h

-- A number names at most one live handle.
pub handles_named-one : (n : ℕ) (journal : List Entry) → IsJournalPrefix journal → length (handles_named n journal) ≤ 1
handles_named-one n [] h = grind (arith)
handles_named-one n (e ∷ before) h =
    let p = parts2 (may_follow before e) (is_journal_prefix before) h in
    let m : MayFollow before e = MayFollow-of before e p.0 in
    handles_after-one n e e.call e.answer (handles before) (handles_named-one n before p.1) m.answer.new_handle

after_next-number : (a : DriverAnswer) (c : LiveCursor) → (after_next a c).number ≡ c.number
after_next-number a c = refl

length_if : (a b : Bool) (x c : LiveCursor) (xs ys : List LiveCursor) → a ≡ b → length xs ≡ length ys → length (cond a (x ∷ xs) xs) ≡ length (cond b (c ∷ ys) ys)
length_if true true x c xs ys same h = grind (arith, h)
length_if false false x c xs ys same h = h
length_if true false x c xs ys same h = grind (arith, same)
length_if false true x c xs ys same h = grind (arith, same)

same_head : (n : ℕ) (x c : LiveCursor) (xs ys : List LiveCursor) → x.number ≡ c.number → count (λ a. a.number == n) xs ≡ count (λ a. a.number == n) ys
    → count (λ a. a.number == n) (x ∷ xs) ≡ count (λ a. a.number == n) (c ∷ ys)
same_head n x c xs ys same h = length_if (x.number == n) (c.number == n) x c (filter (λ a. a.number == n) xs) (filter (λ a. a.number == n) ys) (cc same) h

picked-number : (b : Bool) (change : LiveCursor → LiveCursor) (c : LiveCursor) → (change c).number ≡ c.number → (cond b (change c) c).number ≡ c.number
picked-number true change c same = same
picked-number false change c same = refl

count-changed : (n rows : ℕ) (change : LiveCursor → LiveCursor) → ((c : LiveCursor) → (change c).number ≡ c.number) → (cs : List LiveCursor)
    → count (λ c. c.number == n) (cursor_changed rows change cs) ≡ count (λ c. c.number == n) cs
count-changed n rows change same [] = refl
count-changed n rows change same (c ∷ cs) =
    same_head n (cond (c.number == rows) (change c) c) c (cursor_changed rows change cs) cs (picked-number (c.number == rows) change c (same c)) (count-changed n rows change same cs)

cursors_after-one : (n : ℕ) (e : Entry) (q : DriverCall) (a : DriverAnswer) (live : List LiveCursor) → count (λ c. c.number == n) live ≤ 1
    → if_any (given_cursor a) (λ r. is_empty (filter (λ x. x.number == r) live)) ≡ true → count (λ c. c.number == n) (cursors_after e q a live) ≤ 1
cursors_after-one n e (Query input params) (Cursor rows columns) live h new =
    one_more (λ x. x.number == n) (record { number = rows; tenure = e.tenure; tx = e.tx; columns = length columns; over = false }) live h
    (λ is. let same : rows ≡ n = grind (arith, nat_tests, is) in rw (← same) new)
cursors_after-one n e (Next rows) a live h new = rw (count-changed n rows (after_next a) (after_next-number a) live) h
cursors_after-one n e (CloseRows rows) a live h new =
    let less : count (λ x. x.number == n) (filter (λ x. not (x.number == rows)) live) ≤ count (λ x. x.number == n) live = count-filter (λ x. x.number == n) (λ x. not (x.number == rows)) live in
    grind (arith, less, h)
cursors_after-one n e _ _ live h new = h

-- A number names at most one live cursor.
pub cursors_named-one : (n : ℕ) (journal : List Entry) → IsJournalPrefix journal → length (cursors_named n journal) ≤ 1
cursors_named-one n [] h = grind (arith)
cursors_named-one n (e ∷ before) h =
    let p = parts2 (may_follow before e) (is_journal_prefix before) h in
    let m : MayFollow before e = MayFollow-of before e p.0 in
    cursors_after-one n e e.call e.answer (cursors before) (cursors_named-one n before p.1) m.answer.new_cursor
