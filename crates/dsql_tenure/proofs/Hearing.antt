-- What one entry changes in the readers of a journal is what it changes in the tables.
use Rattle.std.proofs.Common.{◌≡◌, ℕ, ◌+◌, Bool, true, false, cond, not, ◌||◌, ◌==◌, Option, None, Some, List, [], ◌∷◌, map, length, refl, sym, ◌∙◌, ap, is_some}
use native.Mathlib.Omega.{arith}
use Rattle.dsql_driver.specs.declared.call.DriverCall.{DriverCall}
use Rattle.dsql_driver.specs.declared.call.DriverCall.TheVariants.{Prepare, CloseStmt, Query, Next, CloseRows}
use Rattle.dsql_driver.specs.declared.answer.DriverAnswer.{DriverAnswer}
use Rattle.dsql_driver.specs.declared.answer.DriverAnswer.TheVariants.{Prepared, Cursor}
use Rattle.dsql_tenure_journal.specs.declared.entry.Entry.{Entry}
use Rattle.dsql_driver.specs.Kinds.{is_bad, ends_cursor}
use Rattle.dsql_tenure_journal.specs.Readers.{LiveHandle, LiveCursor, has, handles_after, cursors_after, cursor_changed, after_next, bad_tenure, went_bad, begun, begins, of_tenure}
use Rattle.dsql_tenure_journal.specs.Journal.{may_follow, IsJournalPrefix}
use Rattle.dsql_tenure_journal.specs.Facts.{MayFollow}
use Rattle.dsql_tenure_journal.proofs.Sentences.{MayFollow-of}
use Rattle.dsql_tenure.specs.SoFar.{so_far}
use Rattle.dsql_tenure.specs.Flags.{bad_with}
use Rattle.dsql_tenure.specs.Heard.{prepared_by, closed_by, opened_by, freed_by, finished_by, handles_with, cursors_with, over_if}
use Rattle.dsql_tenure.specs.Tables.{kept_handle, kept_cursor}
use Rattle.dsql_tenure.proofs.Lists.{filter-map}
use Rattle.dsql_tenure.proofs.Given.{eqb-refl}
use Rattle.dsql_tenure.proofs.Groups.{bad_tenure-some}
use Rattle.dsql_tenure.proofs.Transactions.{begins-number, first_if_begins, of_transaction-begun}

handles_by : (e : Entry) (q : DriverCall) (a : DriverAnswer) (live : List LiveHandle) → handles_with (prepared_by q a) (closed_by q) e (map kept_handle live) ≡ map kept_handle (handles_after e q a live)
handles_by e (Prepare text) (Prepared h n) live = refl
handles_by e (Prepare text) _ live = refl
handles_by e (CloseStmt h) a live = filter-map (λ x. not (x.number == h)) kept_handle live
handles_by e _ _ live = refl

-- The kept live handles change as the live handles do.
pub kept_handles : (e : Entry) (live : List LiveHandle) → handles_with (prepared_by e.call e.answer) (closed_by e.call) e (map kept_handle live) ≡ map kept_handle (handles_after e e.call e.answer live)
kept_handles e live = handles_by e e.call e.answer live

over_is : (rows : ℕ) (a : DriverAnswer) (cs : List LiveCursor) → ends_cursor a ≡ true → map (over_if rows) (map kept_cursor cs) ≡ map kept_cursor (cursor_changed rows (after_next a) cs)
over_is rows a [] over = refl
over_is rows a (c ∷ cs) over = rw (over_is rows a cs over) (ap (λ x. x ∷ map kept_cursor (cursor_changed rows (after_next a) cs)) (go (c.number == rows) refl))
  where
    last : (b : Bool) → (b || true) ≡ true
    last true = refl
    last false = refl

    go : (b : Bool) → (c.number == rows) ≡ b → cond b (record (kept_cursor c) { over = true }) (kept_cursor c) ≡ kept_cursor (cond b (after_next a c) c)
    go true is = rw (over, last c.over) refl
    go false is = refl

same_is : (rows : ℕ) (a : DriverAnswer) (cs : List LiveCursor) → ends_cursor a ≡ false → map kept_cursor cs ≡ map kept_cursor (cursor_changed rows (after_next a) cs)
same_is rows a [] over = refl
same_is rows a (c ∷ cs) over = rw (← same_is rows a cs over) (ap (λ x. x ∷ map kept_cursor cs) (go (c.number == rows)))
  where
    last : (b : Bool) → (b || false) ≡ b
    last true = refl
    last false = refl

    go : (b : Bool) → kept_cursor c ≡ kept_cursor (cond b (after_next a c) c)
    go true = rw (over, last c.over) refl
    go false = refl

cursors_by : (e : Entry) (q : DriverCall) (a : DriverAnswer) (live : List LiveCursor) → e.answer ≡ a
    → cursors_with (opened_by q a) (freed_by q) (finished_by q a) e (map kept_cursor live) ≡ map kept_cursor (cursors_after e q a live)
cursors_by e (Query input params) (Cursor rows columns) live is = rw is refl
cursors_by e (Query input params) _ live is = refl
cursors_by e (Next rows) a live is = go (ends_cursor a) refl
  where
    go : (b : Bool) → ends_cursor a ≡ b → cursors_with None None (cond b (Some rows) None) e (map kept_cursor live) ≡ map kept_cursor (cursor_changed rows (after_next a) live)
    go true over = over_is rows a live over
    go false over = same_is rows a live over
cursors_by e (CloseRows rows) a live is = filter-map (λ x. not (x.number == rows)) kept_cursor live
cursors_by e _ _ live is = refl

-- The kept live cursors change as the live cursors do.
pub kept_cursors : (e : Entry) (live : List LiveCursor) → cursors_with (opened_by e.call e.answer) (freed_by e.call) (finished_by e.call e.answer) e (map kept_cursor live) ≡ map kept_cursor (cursors_after e e.call e.answer live)
kept_cursors e live = cursors_by e e.call e.answer live refl

-- The tenure of the first Bad answer is kept with one entry more.
pub first_bad : (e : Entry) (before : List Entry) → bad_with (bad_tenure before) e ≡ bad_tenure (e ∷ before)
first_bad e before = go (bad_tenure before) (went_bad before) refl (bad_tenure-some before)
  where
    go : (o : Option ℕ) (b : Bool) → bad_tenure before ≡ o → is_some (bad_tenure before) ≡ b → bad_with o e ≡ cond b (bad_tenure before) (cond (is_bad e.answer) (Some e.tenure) None)
    go (Some n) true is some = sym is
    go (Some n) false is some = let no_one : true ≡ false = rw is at some in grind (arith, no_one)
    go None true is some = let no_one : false ≡ true = rw is at some in grind (arith, no_one)
    go None false is some = refl

-- What is kept of the tenure under way with an entry is what is kept of its entries with that one.
pub so_far_with : (e : Entry) (before : List Entry) → so_far (e ∷ of_tenure e.tenure before) ≡ so_far (of_tenure e.tenure (e ∷ before))
so_far_with e before = rw (eqb-refl e.tenure) refl

-- A transaction that an entry begins is added to the begun ones.
pub has_begun : (n : ℕ) (e : Entry) (before : List Entry) (b : Bool) → b ≡ has n (begun before)
    → cond (begins e) ((e.tx == n) || b) b ≡ has n (begun (e ∷ before))
has_begun n e before b is = go (begins e)
  where
    go : (c : Bool) → cond c ((e.tx == n) || b) b ≡ has n (cond c (e.tx ∷ begun before) (begun before))
    go true = ap (λ x. (e.tx == n) || x) is
    go false = is

pub count_begun : (e : Entry) (before : List Entry) (k : ℕ) → k ≡ length (begun before) → cond (begins e) (k + 1) k ≡ length (begun (e ∷ before))
count_begun e before k is = go (begins e)
  where
    go : (c : Bool) → cond c (k + 1) k ≡ length (cond c (e.tx ∷ begun before) (begun before))
    go true = grind (arith, is)
    go false = is

-- A transaction that begins is new.
pub begins_new : (e : Entry) (before : List Entry) → IsJournalPrefix before → may_follow before e ≡ true → begins e ≡ true → has e.tx (begun before) ≡ false
begins_new e before h follows is =
    let m : MayFollow before e = MayFollow-of before e follows in
    neither (has e.tx (begun before)) (sym (of_transaction-begun e.tx before h (begins-number before e m is)) ∙ first_if_begins before e m is)
  where
    neither : (b : Bool) → not b ≡ true → b ≡ false
    neither true h = sym h
    neither false h = refl
