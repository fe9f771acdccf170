-- Defines how far the tenure of a call on the database has come, and what is known of it. The call executes a
-- text, reads one row, hands out its rows or pings. Entries are newest first.
use Rattle.std.proofs.Common.{◌≡◌, ℕ, ◌≤◌, Bool, true, false, not, ◌==◌, ◌&&◌, List, [], ◌∷◌, Option, None, Some, refl, nat_le}
use Rattle.std.specs.Prelude.{ℤ}
use Rattle.std.specs.List.{list_all, list_any, filter}
use native.Mathlib.Omega.{arith}
use Rattle.std.proofs.lemmas.Bool.Decides.{nat_tests}
use Rattle.dsql_history_work.specs.driver.declared.call.DriverCall.{DriverCall}
use Rattle.dsql_history_work.specs.driver.declared.call.DriverCall.TheVariants.{Reset, Valid, Ping, Prepare, Exec, Query, Next, CloseRows, CloseStmt}
use Rattle.dsql_history_work.specs.driver.declared.call.Input.TheVariants.{Text, Handle}
use Rattle.dsql_history_work.specs.driver.declared.answer.DriverAnswer.{DriverAnswer}
use Rattle.dsql_history_work.specs.driver.declared.answer.DriverAnswer.TheVariants.{Prepared, Cursor, Skip, Bad}
use Rattle.dsql_history_work.specs.driver.Fits.{is_skip}
use Rattle.dsql_history_work.specs.journal.declared.entry.Entry.{Entry}
use Rattle.dsql_history_work.specs.journal.declared.entry.Owner.TheVariants.{Call}
use Rattle.dsql_history_work.specs.journal.Kinds.{◌⇒◌, is_number}
use Rattle.dsql_history_work.specs.driver.Kinds.{is_ping, is_prepare, is_valid, ends_cursor, runs_text, given_handle, given_cursor}
use Rattle.dsql_history_work.specs.journal.Readers.{LiveHandle, LiveCursor, handles, cursors}
use Rattle.dsql_history_work.specs.journal.Tenure.{is_body, place}

-- How far the tenure of a call has come. In order:
--
-- - It has no entry.
-- - Its Reset was answered.
-- - Its text was skipped.
-- - Its Prepare gave this handle.
-- - Its run gave this cursor, over a handle of its own or over none.
-- - It fetched from this cursor, which is over or not.
-- - Only this handle is left to close.
-- - Only a test can come.
-- - The test was answered.
-- - The driver answered Bad.
-- - Its entries aren't those of such a call.
pub data Step : Type 0 where
  Start : Step
  WasReset : Step
  WasSkipped : Step
  WasPrepared : ℕ → Step
  HasRows : Option ℕ → ℕ → Step
  HasRead : Option ℕ → ℕ → Bool → Step
  WasRun : ℕ → Step
  WasDone : Step
  WasTested : Step
  WasDropped : Step
  IsOther : Step

abbrev pub read_after : Step → Bool → Step
read_after (HasRows own rows) over = HasRead own rows over
read_after (HasRead own rows false) over = HasRead own rows over
read_after _ over = IsOther

-- Returns the step after its rows are closed.
abbrev pub left_of : Option ℕ → Step
left_of None = WasDone
left_of (Some handle) = WasRun handle

abbrev pub freed_after : Step → Step
freed_after (HasRows own rows) = left_of own
freed_after (HasRead own rows over) = left_of own
freed_after _ = IsOther

abbrev pub step_after : Step → DriverCall → DriverAnswer → Step
step_after s call Bad = WasDropped
step_after s Reset answer = WasReset
step_after s Ping answer = WasDone
step_after s (Exec (Text text) params) Skip = WasSkipped
step_after s (Exec (Text text) params) answer = WasDone
step_after s (Query (Text text) params) Skip = WasSkipped
step_after s (Query (Text text) params) (Cursor rows columns) = HasRows None rows
step_after s (Query (Text text) params) answer = WasDone
step_after s (Prepare text) (Prepared handle inputs) = WasPrepared handle
step_after s (Prepare text) answer = WasDone
step_after s (Exec (Handle handle) params) answer = WasRun handle
step_after s (Query (Handle handle) params) (Cursor rows columns) = HasRows (Some handle) rows
step_after s (Query (Handle handle) params) answer = WasRun handle
step_after s (Next rows) answer = read_after s (ends_cursor answer)
step_after s (CloseRows rows) answer = freed_after s
step_after s (CloseStmt handle) answer = WasDone
step_after s Valid answer = WasTested
step_after s _ answer = IsOther

abbrev pub step : List Entry → Step
step [] = Start
step (e ∷ earlier) = step_after (step earlier) e.call e.answer

-- Is true if such a call may send the driver call at this step.
abbrev pub goes : Step → DriverCall → Bool
goes Start Reset = true
goes Start Ping = true
goes Start Valid = true
goes Start (Exec (Text text) params) = true
goes Start (Query (Text text) params) = true
goes Start (Prepare text) = true
goes WasReset Ping = true
goes WasReset Valid = true
goes WasReset (Exec (Text text) params) = true
goes WasReset (Query (Text text) params) = true
goes WasReset (Prepare text) = true
goes WasSkipped (Prepare text) = true
goes (WasPrepared handle) (Exec (Handle h) params) = handle == h
goes (WasPrepared handle) (Query (Handle h) params) = handle == h
goes (WasPrepared handle) (CloseStmt h) = handle == h
goes (HasRows own rows) (Next r) = rows == r
goes (HasRows own rows) (CloseRows r) = rows == r
goes (HasRead own rows over) (Next r) = not over && (rows == r)
goes (HasRead own rows over) (CloseRows r) = rows == r
goes (WasRun handle) (CloseStmt h) = handle == h
goes WasDone Valid = true
goes _ call = false

-- Is true if such a call sends this driver call at any step.
abbrev pub is_sent : DriverCall → Bool
is_sent Reset = true
is_sent Valid = true
is_sent Ping = true
is_sent (Exec input params) = true
is_sent (Query input params) = true
is_sent (Prepare text) = true
is_sent (Next rows) = true
is_sent (CloseRows rows) = true
is_sent (CloseStmt handle) = true
is_sent _ = false

-- Returns how far the step is in the order of a call's work.
abbrev pub level : Step → ℕ
level Start = 0
level WasReset = 0
level WasSkipped = 1
level (WasPrepared handle) = 2
level (HasRows own rows) = 3
level (HasRead own rows over) = 4
level (WasRun handle) = 5
level _ = 6

-- Is true if its Prepare may still come, or it runs the handle that it prepared.
abbrev pub is_before_end : Step → Bool
is_before_end Start = true
is_before_end WasReset = true
is_before_end WasSkipped = true
is_before_end (WasPrepared handle) = true
is_before_end _ = false

-- Is true if nothing except its Reset was answered.
abbrev pub is_new : Step → Bool
is_new Start = true
is_new WasReset = true
is_new _ = false

-- Is true if no test was answered and no Bad dropped it.
abbrev pub is_going : Step → Bool
is_going WasTested = false
is_going WasDropped = false
is_going IsOther = false
is_going _ = true

-- Is true if it may still work on its text, so that it didn't ping.
abbrev pub is_at_work : Step → Bool
is_at_work WasDone = false
is_at_work s = is_going s

abbrev pub own_handle : ℕ → ℕ → ℕ → ℤ → LiveHandle
own_handle t n handle inputs = record { number = handle; tenure = t; owner = Call n; tx = 0; inputs = inputs }

abbrev pub own_cursor : ℕ → ℕ → ℕ → Bool → LiveCursor
own_cursor t rows columns over = record { number = rows; tenure = t; tx = 0; columns = columns; over = over }

-- Holds if the only live handle is this one, which call n prepared in tenure t.
pub record OneHandle (t n handle : ℕ) (live : List LiveHandle) : Type 0 where
  pub inputs : ℤ
  pub is : live ≡ own_handle t n handle inputs ∷ []

-- Holds if the only live cursor is this one, which was opened in tenure t and is over or not.
pub record OneCursor (t rows : ℕ) (over : Bool) (live : List LiveCursor) : Type 0 where
  pub columns : ℕ
  pub is : live ≡ own_cursor t rows columns over ∷ []

abbrev pub LiveOwn : ℕ → ℕ → Option ℕ → List LiveHandle → Type 0
LiveOwn t n None live = live ≡ []
LiveOwn t n (Some handle) live = OneHandle t n handle live

-- Holds if the live handles are those of a tenure at this step.
abbrev pub Live : ℕ → ℕ → Step → List LiveHandle → Type 0
Live t n (WasPrepared handle) live = OneHandle t n handle live
Live t n (HasRows own rows) live = LiveOwn t n own live
Live t n (HasRead own rows over) live = LiveOwn t n own live
Live t n (WasRun handle) live = OneHandle t n handle live
Live t n WasDropped live = Unit {0}
Live t n IsOther live = ⊥
Live t n _ live = live ≡ []

-- Holds if the live cursors are those of a tenure at this step.
abbrev pub Open : ℕ → Step → List LiveCursor → Type 0
Open t (HasRows own rows) live = OneCursor t rows false live
Open t (HasRead own rows over) live = OneCursor t rows over live
Open t WasDropped live = Unit {0}
Open t IsOther live = ⊥
Open t _ live = live ≡ []

-- Is true if each Prepare among these entries gave the handle, and some answer gave it.
abbrev pub gave : ℕ → List Entry → Bool
gave handle L = list_all (λ x. is_prepare x.call ⇒ is_number (given_handle x.answer) handle) L && list_any (λ x. is_number (given_handle x.answer) handle) L

-- Is true if a run among these entries gave the cursor.
abbrev pub opened : ℕ → List Entry → Bool
opened rows L = list_any (λ x. is_number (given_cursor x.answer) rows) L

abbrev pub GaveOwn : Option ℕ → List Entry → Type 0
GaveOwn None L = Unit {0}
GaveOwn (Some handle) L = gave handle L ≡ true

abbrev pub Given : Step → List Entry → Type 0
Given (WasPrepared handle) L = gave handle L ≡ true
Given (HasRows own rows) L = GaveOwn own L × (opened rows L ≡ true)
Given (HasRead own rows over) L = GaveOwn own L × (opened rows L ≡ true)
Given (WasRun handle) L = gave handle L ≡ true
Given _ L = Unit {0}

-- What is known of a tenure at this step.
pub record SoFar (t n : ℕ) (s : Step) (L : List Entry) : Type 0 where
  pub leveled : list_all (λ x. nat_le (place x.call) (level s)) L ≡ true
  pub unpinged : is_at_work s ≡ true → list_any (λ x. is_ping x.call) L ≡ false
  pub untested : is_going s ≡ true → list_any (λ x. is_valid x.call) L ≡ false
  pub skipped : is_before_end s ≡ true → list_all (λ x. runs_text x.call ⇒ is_skip x.answer) L ≡ true
  pub given : Given s L
  pub live : Live t n s (handles L)
  pub open_rows : Open t s (cursors L)
  pub first : s ≡ Start → L ≡ []
  pub no_body : is_new s ≡ true → filter is_body L ≡ []

-- Returns the entry of a driver call of call m on connection c, with its answer. The connection is lent to call n in
-- tenure t.
abbrev pub sent_entry : ℕ → ℕ → ℕ → ℕ → DriverCall → DriverAnswer → Entry
sent_entry c t n m q a = record { conn = c; tenure = t; owner = Call n; call_no = m; tx = 0; call = q; answer = a }

pub so_far-start : (t n : ℕ) → SoFar t n Start []
so_far-start t n =
    record { leveled = refl; unpinged = λ h. refl; untested = λ h. refl; skipped = λ h. refl; given = tt; live = refl; open_rows = refl; first = λ h. refl; no_body = λ h. refl }

pub raised : (p q : ℕ) (L : List Entry) → p ≤ q → list_all (λ x. nat_le (place x.call) p) L ≡ true → list_all (λ x. nat_le (place x.call) q) L ≡ true
raised p q [] h all = refl
raised p q (x ∷ L) h all = grind (arith, nat_tests, all, h, raised p q L h)
