-- Each live handle or cursor was given by an entry of its own tenure and transaction.
use Rattle.std.proofs.Common.{◌≡◌, ℕ, Bool, true, false, cond, not, ◌&&◌, ◌||◌, ◌==◌, List, [], ◌∷◌, length, refl}
use Rattle.std.specs.List.{filter, list_any, list_all}
use native.Mathlib.Omega.{arith}
use Rattle.std.proofs.lemmas.Bool.Decides.{nat_tests}
use Rattle.dsql_driver.specs.declared.call.DriverCall.{DriverCall}
use Rattle.dsql_driver.specs.declared.call.DriverCall.TheVariants.{Prepare, CloseStmt, Query, Next, CloseRows}
use Rattle.dsql_driver.specs.declared.answer.DriverAnswer.{DriverAnswer}
use Rattle.dsql_driver.specs.declared.answer.DriverAnswer.TheVariants.{Prepared, Cursor}
use Rattle.dsql_tenure_journal.specs.declared.entry.Entry.{Entry}
use Rattle.dsql_tenure_journal.specs.declared.entry.Owner.{Owner}
use Rattle.dsql_tenure_journal.specs.declared.entry.Owner.TheVariants.{House}
use Rattle.dsql_tenure_journal.specs.Kinds.{is_number, same_owner}
use Rattle.dsql_driver.specs.Kinds.{given_handle, given_cursor}
use Rattle.dsql_tenure_journal.specs.Readers.{LiveHandle, LiveCursor, handles, handles_after, cursors, cursors_after, cursor_changed, after_next}
use Rattle.dsql_tenure_journal.proofs.Conjunctions.{parts2, join2}
use Rattle.dsql_tenure.proofs.Lists.{list_all-so}

pub same_owner-refl : (o : Owner) → same_owner o o ≡ true
same_owner-refl House = refl
same_owner-refl _ = grind (arith, nat_tests)

pub eqb-refl : (n : ℕ) → (n == n) ≡ true
eqb-refl n = grind (arith, nat_tests)

-- Is true if the entry gave this handle.
abbrev pub gave_handle : LiveHandle → Entry → Bool
gave_handle handle entry = is_number (given_handle entry.answer) handle.number && ((entry.tenure == handle.tenure) && ((entry.tx == handle.tx) && same_owner entry.owner handle.owner))

-- Is true if the entry gave this cursor.
abbrev pub gave_cursor : LiveCursor → Entry → Bool
gave_cursor cursor entry = is_number (given_cursor entry.answer) cursor.number && ((entry.tenure == cursor.tenure) && (entry.tx == cursor.tx))

or_first : (a b : Bool) → a ≡ true → (a || b) ≡ true
or_first true b h = refl
or_first false b h = grind (arith, h)

or_then : (a b : Bool) → b ≡ true → (a || b) ≡ true
or_then true b h = refl
or_then false b h = h

pub list_all-kept : {X : Type 0} (f g : X → Bool) (xs : List X) → list_all f xs ≡ true → list_all f (filter g xs) ≡ true
list_all-kept f g [] h = refl
list_all-kept f g (x ∷ xs) h = go (g x) (parts2 (f x) (list_all f xs) h) (list_all-kept f g xs (parts2 (f x) (list_all f xs) h).1)
  where
    go : (b : Bool) → (f x ≡ true) × (list_all f xs ≡ true) → list_all f (filter g xs) ≡ true → list_all f (cond b (x ∷ filter g xs) (filter g xs)) ≡ true
    go true p more = join2 (f x) (list_all f (filter g xs)) p.0 more
    go false p more = more

pub list_all-changed : (f : LiveCursor → Bool) (rows : ℕ) (change : LiveCursor → LiveCursor) → ((c : LiveCursor) → f c ≡ true → f (change c) ≡ true)
    → (cs : List LiveCursor) → list_all f cs ≡ true → list_all f (cursor_changed rows change cs) ≡ true
list_all-changed f rows change keep [] h = refl
list_all-changed f rows change keep (c ∷ cs) h =
    let p = parts2 (f c) (list_all f cs) h in
    join2 (f (cond (c.number == rows) (change c) c)) (list_all f (cursor_changed rows change cs))
    (pick (c.number == rows) p.0 (keep c p.0)) (list_all-changed f rows change keep cs p.1)
  where
    pick : (b : Bool) → f c ≡ true → f (change c) ≡ true → f (cond b (change c) c) ≡ true
    pick true h k = k
    pick false h k = h

handles_after-given : (e : Entry) (before : List Entry) (q : DriverCall) (a : DriverAnswer) (live : List LiveHandle) → e.answer ≡ a
    → list_all (λ h. list_any (gave_handle h) (e ∷ before)) live ≡ true → list_all (λ h. list_any (gave_handle h) (e ∷ before)) (handles_after e q a live) ≡ true
handles_after-given e before (Prepare text) (Prepared handle inputs) live is h =
    let new : LiveHandle = record { number = handle; tenure = e.tenure; owner = e.owner; tx = e.tx; inputs = inputs } in
    let gave : gave_handle new e ≡ true =
    rw is (join2 (handle == handle) _ (eqb-refl handle) (join2 (e.tenure == e.tenure) _ (eqb-refl e.tenure) (join2 (e.tx == e.tx) _ (eqb-refl e.tx) (same_owner-refl e.owner)))) in
    join2 (list_any (gave_handle new) (e ∷ before)) (list_all (λ h. list_any (gave_handle h) (e ∷ before)) live) (or_first (gave_handle new e) _ gave) h
handles_after-given e before (CloseStmt handle) a live is h = list_all-kept (λ h. list_any (gave_handle h) (e ∷ before)) (λ x. not (x.number == handle)) live h
handles_after-given e before _ _ live is h = h

-- Each live handle was given in its tenure and transaction.
pub handles-given : (journal : List Entry) → list_all (λ h. list_any (gave_handle h) journal) (handles journal) ≡ true
handles-given [] = refl
handles-given (e ∷ before) =
    handles_after-given e before e.call e.answer (handles before) refl
    (list_all-so (λ h. list_any (gave_handle h) before) (λ h. list_any (gave_handle h) (e ∷ before)) (λ h is. or_then (gave_handle h e) _ is) (handles before) (handles-given before))

cursors_after-given : (e : Entry) (before : List Entry) (q : DriverCall) (a : DriverAnswer) (live : List LiveCursor) → e.answer ≡ a
    → list_all (λ c. list_any (gave_cursor c) (e ∷ before)) live ≡ true → list_all (λ c. list_any (gave_cursor c) (e ∷ before)) (cursors_after e q a live) ≡ true
cursors_after-given e before (Query input params) (Cursor rows columns) live is h =
    let new : LiveCursor = record { number = rows; tenure = e.tenure; tx = e.tx; columns = length columns; over = false } in
    let gave : gave_cursor new e ≡ true =
    rw is (join2 (rows == rows) _ (eqb-refl rows) (join2 (e.tenure == e.tenure) _ (eqb-refl e.tenure) (eqb-refl e.tx))) in
    join2 (list_any (gave_cursor new) (e ∷ before)) (list_all (λ c. list_any (gave_cursor c) (e ∷ before)) live) (or_first (gave_cursor new e) _ gave) h
cursors_after-given e before (Next rows) a live is h = list_all-changed (λ c. list_any (gave_cursor c) (e ∷ before)) rows (after_next a) (λ c k. k) live h
cursors_after-given e before (CloseRows rows) a live is h = list_all-kept (λ c. list_any (gave_cursor c) (e ∷ before)) (λ x. not (x.number == rows)) live h
cursors_after-given e before _ _ live is h = h

-- Each live cursor was given in its tenure and transaction.
pub cursors-given : (journal : List Entry) → list_all (λ c. list_any (gave_cursor c) journal) (cursors journal) ≡ true
cursors-given [] = refl
cursors-given (e ∷ before) =
    cursors_after-given e before e.call e.answer (cursors before) refl
    (list_all-so (λ c. list_any (gave_cursor c) before) (λ c. list_any (gave_cursor c) (e ∷ before)) (λ c is. or_then (gave_cursor c e) _ is) (cursors before) (cursors-given before))

-- Some element that passes one test passes another exactly if some element of the list passes both.
pub list_any-filter : {X : Type 0} (f p : X → Bool) (xs : List X) → list_any f (filter p xs) ≡ list_any (λ x. p x && f x) xs
list_any-filter f p [] = refl
list_any-filter f p (x ∷ xs) = go (p x) (list_any-filter f p xs)
  where
    go : (b : Bool) → list_any f (filter p xs) ≡ list_any (λ y. p y && f y) xs → list_any f (cond b (x ∷ filter p xs) (filter p xs)) ≡ ((b && f x) || list_any (λ y. p y && f y) xs)
    go true h = rw h refl
    go false h = h
