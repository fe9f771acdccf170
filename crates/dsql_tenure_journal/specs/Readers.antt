-- The readers of a connection's journal so far. The journal is newest first: `e ∷ before` is `before`, and then
-- e.
use Rattle.std.specs.Prelude.{ℕ, ℤ, Bool, true, false, ◌&&◌, ◌||◌, not, ◌==◌, Option, Some, None, List, [], ◌∷◌, length, if◌then◌else◌}
use Rattle.std.specs.List.{filter, list_any}
use Rattle.dsql_driver.specs.declared.call.DriverCall.{DriverCall}
use Rattle.dsql_driver.specs.declared.call.DriverCall.TheVariants.{Prepare, CloseStmt, Query, Next, CloseRows}
use Rattle.dsql_driver.specs.declared.answer.DriverAnswer.{DriverAnswer}
use Rattle.dsql_driver.specs.declared.answer.DriverAnswer.TheVariants.{Prepared, Cursor}
use Rattle.dsql_driver.specs.Fits.{is_done, is_failure, is_invalid}
use Rattle.dsql_tenure_journal.specs.declared.entry.Entry.{Entry}
use Rattle.dsql_tenure_journal.specs.declared.entry.Owner.{Owner}
use Rattle.dsql_driver.specs.Kinds.{is_connect, is_shut, is_begin, is_ending, is_bad, ends_cursor}

abbrev pub is_empty : {X : Type 0} → List X → Bool
is_empty [] = true
is_empty (x ∷ xs) = false

-- Is true if n is in the list.
abbrev pub has : ℕ → List ℕ → Bool
has n ns = list_any (λ m. m == n) ns

-- Returns the entries of tenure n.
abbrev pub of_tenure : ℕ → List Entry → List Entry
of_tenure n journal = filter (λ x. x.tenure == n) journal

-- Returns the entries of transaction n.
abbrev pub of_transaction : ℕ → List Entry → List Entry
of_transaction n journal = filter (λ x. x.tx == n) journal

-- Returns the number of the last tenure, or 0 if the journal is empty.
abbrev pub last_tenure : List Entry → ℕ
last_tenure [] = 0
last_tenure (e ∷ before) = e.tenure

-- Returns the owner of the last tenure.
abbrev pub last_owner : List Entry → Option Owner
last_owner [] = None
last_owner (e ∷ before) = Some e.owner

-- A live handle: by which Prepare it was given, and with how many inputs.
pub record LiveHandle : Type 0 where
  pub number : ℕ
  pub tenure : ℕ
  pub owner : Owner
  pub tx : ℕ
  pub inputs : ℤ

-- A live cursor: by which Query it was given, how many columns it has, and whether its rows are over.
pub record LiveCursor : Type 0 where
  pub number : ℕ
  pub tenure : ℕ
  pub tx : ℕ
  pub columns : ℕ
  pub over : Bool

-- Returns the live handles after an entry.
abbrev pub handles_after : Entry → DriverCall → DriverAnswer → List LiveHandle → List LiveHandle
handles_after e (Prepare text) (Prepared handle inputs) live =
    record { number = handle; tenure = e.tenure; owner = e.owner; tx = e.tx; inputs = inputs } ∷ live
handles_after e (CloseStmt handle) answer live = filter (λ h. not (h.number == handle)) live
handles_after e _ _ live = live

-- Returns the live handles, newest first. A handle is live if a Prepare that gave it stands before, and no CloseStmt of
-- it after that. The answer to the CloseStmt doesn't matter.
abbrev pub handles : List Entry → List LiveHandle
handles [] = []
handles (e ∷ before) = handles_after e e.call e.answer (handles before)

-- Returns the cursor after a Next of it.
abbrev pub after_next : DriverAnswer → LiveCursor → LiveCursor
after_next answer c = record c { over = c.over || ends_cursor answer }

-- Returns the cursors with those of this number changed.
abbrev pub cursor_changed : ℕ → (LiveCursor → LiveCursor) → List LiveCursor → List LiveCursor
cursor_changed rows change [] = []
cursor_changed rows change (c ∷ cs) = (if c.number == rows then change c else c) ∷ cursor_changed rows change cs

-- Returns the live cursors after an entry.
abbrev pub cursors_after : Entry → DriverCall → DriverAnswer → List LiveCursor → List LiveCursor
cursors_after e (Query input params) (Cursor rows columns) live =
    record { number = rows; tenure = e.tenure; tx = e.tx; columns = length columns; over = false } ∷ live
cursors_after e (Next rows) answer live = cursor_changed rows (after_next answer) live
cursors_after e (CloseRows rows) answer live = filter (λ c. not (c.number == rows)) live
cursors_after e _ _ live = live

-- Returns the live cursors, newest first. A cursor is live if a Query that gave it stands before, and no CloseRows of
-- it after that. The answer to the CloseRows doesn't matter.
abbrev pub cursors : List Entry → List LiveCursor
cursors [] = []
cursors (e ∷ before) = cursors_after e e.call e.answer (cursors before)

-- Returns the live handles of a number: at most one, in a journal that keeps the rules.
abbrev pub handles_named : ℕ → List Entry → List LiveHandle
handles_named handle journal = filter (λ h. h.number == handle) (handles journal)

-- Returns the live cursors of a number: at most one, in a journal that keeps the rules.
abbrev pub cursors_named : ℕ → List Entry → List LiveCursor
cursors_named rows journal = filter (λ c. c.number == rows) (cursors journal)

-- Is true if the entry is a Begin answered Done.
abbrev pub begins : Entry → Bool
begins e = is_begin e.call && is_done e.answer

-- Returns the transactions that were begun, newest first.
abbrev pub begun : List Entry → List ℕ
begun [] = []
begun (e ∷ before) = if begins e then (e.tx ∷ begun before) else begun before

-- Returns the transactions that have their Commit or Rollback, whatever its answer was.
abbrev pub ended : List Entry → List ℕ
ended [] = []
ended (e ∷ before) = if is_ending e.call then (e.tx ∷ ended before) else ended before

-- Is true if a Bad answer stands in the list.
abbrev pub went_bad : List Entry → Bool
went_bad journal = list_any (λ x. is_bad x.answer) journal

-- Returns the tenure of the first Bad answer.
abbrev pub bad_tenure : List Entry → Option ℕ
bad_tenure [] = None
bad_tenure (e ∷ before) = if went_bad before then bad_tenure before else if is_bad e.answer then Some e.tenure else None

-- Is true if a Valid was answered Invalid.
abbrev pub went_invalid : List Entry → Bool
went_invalid journal = list_any (λ x. is_invalid x.answer) journal

-- Is true if the Connect was answered Bad or Fail.
abbrev pub was_refused : List Entry → Bool
was_refused journal = list_any (λ x. is_connect x.call && is_failure x.answer) journal

-- Is true if Shut was heard.
abbrev pub was_shut : List Entry → Bool
was_shut journal = list_any (λ x. is_shut x.call) journal
