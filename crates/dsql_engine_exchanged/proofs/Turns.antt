-- A line in which each entry was next gives no number again that it closed. The argument: after the first
-- close, only a handle is closed.
use Rattle.std.proofs.Common.{◌≡◌, ℕ, ℤ, Bool, true, false, not, ◌&&◌, ◌||◌, ◌⊎◌, inl, inr, if◌then◌else◌, List, [], ◌∷◌, length, refl, ap, ◌∙◌, Option, None, Some}
use Rattle.std.specs.List.{list_any}
use Rattle.std.specs.Option.{option_map}
use Rattle.dsql_history.specs.driver.declared.answer.DriverAnswer.{DriverAnswer}
use Rattle.dsql_history.specs.driver.declared.answer.DriverAnswer.TheVariants as answers
use Rattle.dsql_history.specs.driver.declared.call.DriverCall.{DriverCall}
use Rattle.dsql_history.specs.driver.declared.call.DriverCall.TheVariants as calls
use Rattle.dsql_history.specs.driver.declared.call.Input.TheVariants.{Text, Handle}
use Rattle.dsql_history.specs.driver.declared.caps.Caps.{Caps}
use Rattle.dsql_history.specs.driver.Fits.{fits_of}
use Rattle.dsql_history.specs.driver.Kinds.{is_close_stmt}
use Rattle.dsql_history.specs.course.declared.call.Due.{Due}
use Rattle.dsql_history.specs.course.declared.call.Due.TheVariants as due
use Rattle.dsql_history.specs.course.declared.call.Got.{Got}
use Rattle.dsql_history.specs.course.declared.course.Course.TheVariants as courses
use Rattle.dsql_history.specs.course.declared.course.Wish.{Wish}
use Rattle.dsql_history.specs.course.declared.course.Wish.TheVariants as wishes
use Rattle.dsql_history.specs.course.Line.{Found, comes_next, or_then, when}
use Rattle.dsql_history.specs.course.Made.{Exchange, or_else, own_cursor, own_handle, given_cursor, given_handle, is_bad, rows_are_over, was_skipped, went_bad}
use Rattle.dsql_history.specs.course.Rows.{no_more_wanted, closing_of, rows_next_if}
use Rattle.dsql_history.specs.journal.declared.entry.Entry.{Entry}
use Rattle.dsql_history.specs.works.declared.work.Aim.{Aim}
use Rattle.dsql_history.specs.works.declared.work.Aim.TheVariants as aims
use Rattle.dsql_history.specs.works.Exchanges.{exchanges, got_of, step_of, with_exchange}
use Rattle.dsql_history.specs.works.Line.{Asked, course_of, handed, run_for, sent_as, sent_over, body_after, body_with, found}
use Rattle.dsql_history.specs.Readers.Lines.{closes_cursor, closes_handle}
use Rattle.dsql_history.specs.Rules.Line.{is_due}
use Rattle.dsql_history.specs.Rules.Sent.{untested}
use Rattle.dsql_engine_exchanged.specs.Heard.{is_cursor_unclosed, is_handle_unclosed, none_given_again}
use Rattle.dsql_engine_exchanged.specs.Turns.{IsNext, ComesInTurn}

-- Is true if the step closes a cursor or a handle.
abbrev is_close : Due → Bool
is_close (due.CloseRows rows) = true
is_close (due.CloseStmt handle) = true
is_close _ = false

-- Is true if something was closed.
abbrev was_closed : List Exchange → Bool
was_closed made = list_any (λ x. is_close x.0) made

-- Is true if the newest step is a close.
abbrev closes_last : List Exchange → Bool
closes_last [] = false
closes_last (x ∷ earlier) = is_close x.0

-- Is true if the step closes a handle or sends nothing.
abbrev is_last : Due → Bool
is_last (due.CloseStmt handle) = true
is_last due.Over = true
is_last _ = false

abbrev is_stmt : Due → Bool
is_stmt (due.CloseStmt handle) = true
is_stmt _ = false

either : (a b : Bool) → a || b ≡ false → (a ≡ false) × (b ≡ false)
either true b h = absurd cc
either false b h = (refl, h)

-- What follows a close.

if_last : (b : Bool) (call : Due) → is_last call ≡ true → is_last (if b then due.Over else call) ≡ true
if_last true call h = refl
if_last false call h = h

handle_last : (b : Bool) (own : Option (ℕ × ℤ)) → is_last (or_then (if b then option_map (λ handle. due.CloseStmt handle.0) own else None) due.Over) ≡ true
handle_last true None = refl
handle_last true (Some handle) = refl
handle_last false own = refl

last_next : (aim : Aim) (can : Caps) (args : ℕ) (known : Found) (made : List Exchange) → closes_last made ≡ true → is_last (comes_next (course_of aim) can args known made) ≡ true
last_next aim can args known [] h = absurd cc
last_next aims.Execute can args known ((due.CloseRows rows, got) ∷ m) h = if_last (is_bad got || went_bad m) due.Over refl
last_next aims.ReadOne can args known ((due.CloseRows rows, got) ∷ m) h =
    if_last (is_bad got || went_bad m) _ (handle_last (not known.bad) (or_else (given_handle got) (own_handle m)))
last_next aims.HandOut can args known ((due.CloseRows rows, got) ∷ m) h = if_last (is_bad got || went_bad m) due.Over refl
last_next aims.Ping can args known ((due.CloseRows rows, got) ∷ m) h = if_last (is_bad got || went_bad m) due.Over refl
last_next aims.Execute can args known ((due.CloseStmt handle, got) ∷ m) h = if_last (is_bad got || went_bad m) due.Over refl
last_next aims.ReadOne can args known ((due.CloseStmt handle, got) ∷ m) h = if_last (is_bad got || went_bad m) due.Over refl
last_next aims.HandOut can args known ((due.CloseStmt handle, got) ∷ m) h = if_last (is_bad got || went_bad m) due.Over refl
last_next aims.Ping can args known ((due.CloseStmt handle, got) ∷ m) h = if_last (is_bad got || went_bad m) due.Over refl
last_next aim can args known ((_, got) ∷ m) h = absurd cc

last_sent : (can : Caps) (asked : Asked) (next : Due) (call : DriverCall) → is_last next ≡ true → is_due (sent_as (untested can) asked next) call ≡ true → is_close_stmt call ≡ true
last_sent can asked (due.CloseStmt handle) (calls.CloseStmt other) h sent = refl
last_sent can asked _ _ h sent = absurd cc

-- After a close, only a handle is closed.
only_handle : (can : Caps) (bad : Bool) (asked : Asked) (wish : Wish) (made : List Exchange) (call : DriverCall) → closes_last made ≡ true
    → (handed asked.aim made ≡ None) ⊎ (rows_are_over made ≡ true)
    → is_due (body_after (untested can) bad asked wish made) call ≡ true → is_close_stmt call ≡ true
only_handle can bad asked wish made call last settled sent = by (handed asked.aim made) settled sent
  where
    args : ℕ
    args = length asked.params

    over : (b : Bool) (rows : ℕ) → b ≡ true → is_due (sent_over (untested can) asked (rows_next_if b wish (closing_of courses.Query bad (untested can) args made) rows)) call ≡ true → is_close_stmt call ≡ true
    over true rows h due_so = last_sent can asked _ call (last_next aims.ReadOne (untested can) args (no_more_wanted bad) made last) due_so
    over false rows h due_so = absurd cc

    by : (rows : Option ℕ) → (rows ≡ None) ⊎ (rows_are_over made ≡ true) → is_due (body_with (untested can) bad asked wish made rows) call ≡ true → is_close_stmt call ≡ true
    by None h due_so = last_sent can asked _ call (last_next asked.aim (untested can) args (found bad) made last) due_so
    by (Some rows) (inl h) due_so = absurd cc
    by (Some rows) (inr h) due_so = over (rows_are_over made) rows h due_so

-- What comes before any close.

if_no_stmt : (b : Bool) (call : Due) → is_stmt call ≡ false → is_stmt (if b then due.Over else call) ≡ false
if_no_stmt true call h = refl
if_no_stmt false call h = h

-- The cursor of rows that aren't closed is closed first, and on a bad connection nothing is closed.
cursor_first : (bad : Bool) (own : Option ℕ) (handle : Option Due) (rows : ℕ) → own ≡ Some rows
    → is_stmt (or_then (if not bad then option_map (λ r. due.CloseRows r) own else None) (or_then (if not bad then handle else None) due.Over)) ≡ false
cursor_first true own handle rows h = refl
cursor_first false None handle rows h = absurd cc
cursor_first false (Some number) handle rows h = refl

-- A call that wants no more prepares nothing.
never_prepared : (b : Bool) (later : Due) → is_stmt later ≡ false → is_stmt (or_then (when (b && false) due.Prepare) later) ≡ false
never_prepared true later h = h
never_prepared false later h = h

no_handle_first : (can : Caps) (args : ℕ) (bad : Bool) (made : List Exchange) (rows : ℕ) → was_closed made ≡ false → own_cursor made ≡ Some rows
    → is_stmt (comes_next courses.One can args (no_more_wanted bad) made) ≡ false
no_handle_first can args bad [] rows none own = absurd cc
no_handle_first can args bad ((due.Text, got) ∷ m) rows none own =
    if_no_stmt (is_bad got || went_bad m) _ (never_prepared (not can.fast_query || was_skipped ((due.Text, got) ∷ m)) _ (cursor_first bad (own_cursor ((due.Text, got) ∷ m)) (option_map (λ handle. due.CloseStmt handle.0) (own_handle ((due.Text, got) ∷ m))) rows own))
no_handle_first can args bad ((due.Prepare, got) ∷ m) rows none own =
    if_no_stmt (is_bad got || went_bad m) _ (cursor_first bad (own_cursor ((due.Prepare, got) ∷ m)) (option_map (λ handle. due.CloseStmt handle.0) (own_handle ((due.Prepare, got) ∷ m))) rows own)
no_handle_first can args bad ((due.Handle number, got) ∷ m) rows none own =
    if_no_stmt (is_bad got || went_bad m) _ (cursor_first bad (own_cursor ((due.Handle number, got) ∷ m)) (option_map (λ handle. due.CloseStmt handle.0) (own_handle ((due.Handle number, got) ∷ m))) rows own)
no_handle_first can args bad ((due.Next number, got) ∷ m) rows none own =
    if_no_stmt (is_bad got || went_bad m) _ (cursor_first bad (own_cursor ((due.Next number, got) ∷ m)) (option_map (λ handle. due.CloseStmt handle.0) (own_handle ((due.Next number, got) ∷ m))) rows own)
no_handle_first can args bad ((due.Ping, got) ∷ m) rows none own = if_no_stmt (is_bad got || went_bad m) due.Over refl
no_handle_first can args bad ((due.Begin, got) ∷ m) rows none own = if_no_stmt (is_bad got || went_bad m) due.Over refl
no_handle_first can args bad ((due.Rollback, got) ∷ m) rows none own = if_no_stmt (is_bad got || went_bad m) due.Over refl
no_handle_first can args bad ((due.Over, got) ∷ m) rows none own = if_no_stmt (is_bad got || went_bad m) due.Over refl
no_handle_first can args bad (_ ∷ m) rows none own = absurd cc

-- A step that closes no handle isn't sent as a close of a handle.
no_stmt_sent : (can : Caps) (asked : Asked) (next : Due) (handle : ℕ) → is_stmt next ≡ false → is_due (sent_as (untested can) asked next) (calls.CloseStmt handle) ≡ false
no_stmt_sent can asked due.Text handle h = by asked.aim
  where
    by : (aim : Aim) → is_due (Some (run_for aim (Text asked.text) asked.params)) (calls.CloseStmt handle) ≡ false
    by aims.Execute = refl
    by _ = refl
no_stmt_sent can asked (due.Handle number) handle h = by asked.aim
  where
    by : (aim : Aim) → is_due (Some (run_for aim (Handle number) asked.params)) (calls.CloseStmt handle) ≡ false
    by aims.Execute = refl
    by _ = refl
no_stmt_sent can asked (due.CloseStmt number) handle h = absurd cc
no_stmt_sent can asked _ handle h = refl

handed_own : (aim : Aim) (made : List Exchange) (rows : ℕ) → handed aim made ≡ Some rows → own_cursor made ≡ Some rows
handed_own aims.HandOut made rows h = h
handed_own _ made rows h = absurd cc

-- If the first close is that of a handle, then no rows are handed out or they are over.
handle_settled : (can : Caps) (bad : Bool) (asked : Asked) (wish : Wish) (made : List Exchange) (handle : ℕ) → was_closed made ≡ false
    → is_due (body_after (untested can) bad asked wish made) (calls.CloseStmt handle) ≡ true
    → (handed asked.aim made ≡ None) ⊎ (rows_are_over made ≡ true)
handle_settled can bad asked wish made handle none sent = by (handed asked.aim made) refl sent
  where
    close : Due
    close = closing_of courses.Query bad (untested can) (length asked.params) made

    over : (b : Bool) (it : Wish) (rows : ℕ) → is_stmt close ≡ false → is_due (sent_over (untested can) asked (rows_next_if b it close rows)) (calls.CloseStmt handle) ≡ true → b ≡ true
    over true it rows other due_so = refl
    over false wishes.Nothing rows other due_so = absurd cc
    over false wishes.Fetch rows other due_so = absurd cc
    over false wishes.Close rows other due_so = absurd (let is = no_stmt_sent can asked close handle other in cc)

    by : (rows : Option ℕ) → handed asked.aim made ≡ rows → is_due (body_with (untested can) bad asked wish made rows) (calls.CloseStmt handle) ≡ true
        → (rows ≡ None) ⊎ (rows_are_over made ≡ true)
    by None is due_so = inl refl
    by (Some rows) is due_so = inr (over (rows_are_over made) wish rows (no_handle_first (untested can) (length asked.params) bad made rows none (handed_own asked.aim made rows is)) due_so)

-- What was given.

-- Holds if the answer gives neither a cursor nor a handle, as the answer to a close of a handle does.
pub record GivesNothing (answer : DriverAnswer) : Type 0 where
  pub cursor : given_cursor (got_of answer) ≡ None
  pub handle : given_handle (got_of answer) ≡ None

gives_nothing : (handle : ℕ) (answer : DriverAnswer) → fits_of (calls.CloseStmt handle) answer ≡ true → GivesNothing answer
gives_nothing handle answers.Done h = record { cursor = refl; handle = refl }
gives_nothing handle answers.Bad h = record { cursor = refl; handle = refl }
gives_nothing handle (answers.Fail text) h = record { cursor = refl; handle = refl }
gives_nothing handle answers.Memory h = record { cursor = refl; handle = refl }
gives_nothing handle _ h = absurd cc

no_cursor_closed : (made : List Exchange) (rows : ℕ) → was_closed made ≡ false → list_any (λ x. closes_cursor rows x.0) made ≡ false
no_cursor_closed [] rows h = refl
no_cursor_closed ((due.CloseRows number, got) ∷ m) rows h = absurd cc
no_cursor_closed ((due.CloseStmt number, got) ∷ m) rows h = absurd cc
no_cursor_closed (_ ∷ m) rows h = no_cursor_closed m rows h

no_handle_closed : (made : List Exchange) (handle : ℕ) → was_closed made ≡ false → list_any (λ x. closes_handle handle x.0) made ≡ false
no_handle_closed [] handle h = refl
no_handle_closed ((due.CloseRows number, got) ∷ m) handle h = absurd cc
no_handle_closed ((due.CloseStmt number, got) ∷ m) handle h = absurd cc
no_handle_closed (_ ∷ m) handle h = no_handle_closed m handle h

cursor_unclosed : (given : Option ℕ) (made : List Exchange) → was_closed made ≡ false → is_cursor_unclosed given made ≡ true
cursor_unclosed None made none = refl
cursor_unclosed (Some rows) made none = ap not (no_cursor_closed made rows none)

handle_unclosed : (given : Option (ℕ × ℤ)) (made : List Exchange) → was_closed made ≡ false → is_handle_unclosed given made ≡ true
handle_unclosed None made none = refl
handle_unclosed (Some handle) made none = ap not (no_handle_closed made handle.0 none)

all : (a b c : Bool) → a ≡ true → b ≡ true → c ≡ true → a && (b && c) ≡ true
all a b c p q r = cc

-- How far a line has come.

-- Holds if the newest step is a close, and no row is fetched any more.
pub record Closed (aim : Aim) (made : List Exchange) : Type 0 where
  pub last : closes_last made ≡ true
  pub settled : (handed aim made ≡ None) ⊎ (rows_are_over made ≡ true)

pub record Stands (aim : Aim) (made : List Exchange) : Type 0 where
  pub fresh : none_given_again made ≡ true
  pub closed : (was_closed made ≡ false) ⊎ Closed aim made

-- An answer before any close gives nothing again.
fresh_before : (call : Due) (got : Got) (made : List Exchange) → none_given_again made ≡ true → was_closed made ≡ false → none_given_again ((call, got) ∷ made) ≡ true
fresh_before call got made fresh none =
    all (is_cursor_unclosed (given_cursor got) made) (is_handle_unclosed (given_handle got) made) (none_given_again made)
    (cursor_unclosed (given_cursor got) made none) (handle_unclosed (given_handle got) made none) fresh

-- The answer to a close of a handle gives nothing again.
fresh_after : (handle : ℕ) (answer : DriverAnswer) (made : List Exchange) → none_given_again made ≡ true → GivesNothing answer → none_given_again ((due.CloseStmt handle, got_of answer) ∷ made) ≡ true
fresh_after handle answer made fresh nothing =
    all (is_cursor_unclosed (given_cursor (got_of answer)) made) (is_handle_unclosed (given_handle (got_of answer)) made) (none_given_again made)
    (ap (λ given. is_cursor_unclosed given made) nothing.cursor) (ap (λ given. is_handle_unclosed given made) nothing.handle) fresh

still_settled : (aim : Aim) (handle : ℕ) (answer : DriverAnswer) (made : List Exchange) → GivesNothing answer
    → (handed aim made ≡ None) ⊎ (rows_are_over made ≡ true)
    → (handed aim ((due.CloseStmt handle, got_of answer) ∷ made) ≡ None) ⊎ (rows_are_over ((due.CloseStmt handle, got_of answer) ∷ made) ≡ true)
still_settled aim handle answer made nothing (inr over) = inr over
still_settled aims.HandOut handle answer made nothing (inl none) = inl (ap (λ given. or_else given (own_cursor made)) nothing.cursor ∙ none)
still_settled _ handle answer made nothing (inl none) = inl refl

after_handle : (aim : Aim) (handle : ℕ) (answer : DriverAnswer) (made : List Exchange) → none_given_again made ≡ true → GivesNothing answer
    → (handed aim made ≡ None) ⊎ (rows_are_over made ≡ true) → Stands aim ((due.CloseStmt handle, got_of answer) ∷ made)
after_handle aim handle answer made fresh nothing settled = record {
  fresh = fresh_after handle answer made fresh nothing;
  closed = inr (record { last = refl; settled = still_settled aim handle answer made nothing settled });
}

before_close : (aim : Aim) (call : Due) (got : Got) (made : List Exchange) → none_given_again made ≡ true → was_closed made ≡ false → is_close call ≡ false → Stands aim ((call, got) ∷ made)
before_close aim call got made fresh none opens = record {
  fresh = fresh_before call got made fresh none;
  closed = inl (ap (λ b. b || was_closed made) opens ∙ none);
}

-- The next entry keeps the invariant before anything was closed.
step_before : (can : Caps) (bad : Bool) (asked : Asked) (wish : Wish) (made : List Exchange) (call : DriverCall) (answer : DriverAnswer)
    → none_given_again made ≡ true → was_closed made ≡ false
    → is_due (body_after (untested can) bad asked wish made) call ≡ true → fits_of call answer ≡ true → Stands asked.aim (with_exchange (step_of call) answer made)
step_before can bad asked wish made (calls.CloseStmt handle) answer fresh none sent fits =
    after_handle asked.aim handle answer made fresh (gives_nothing handle answer fits) (handle_settled can bad asked wish made handle none sent)
step_before can bad asked wish made (calls.CloseRows rows) answer fresh none sent fits = record {
  fresh = fresh_before (due.CloseRows rows) (got_of answer) made fresh none;
  closed = inr (record { last = refl; settled = inr refl });
}
step_before can bad asked wish made (calls.Exec (Text text) params) answer fresh none sent fits = before_close asked.aim due.Text (got_of answer) made fresh none refl
step_before can bad asked wish made (calls.Exec (Handle handle) params) answer fresh none sent fits = before_close asked.aim (due.Handle handle) (got_of answer) made fresh none refl
step_before can bad asked wish made (calls.Query (Text text) params) answer fresh none sent fits = before_close asked.aim due.Text (got_of answer) made fresh none refl
step_before can bad asked wish made (calls.Query (Handle handle) params) answer fresh none sent fits = before_close asked.aim (due.Handle handle) (got_of answer) made fresh none refl
step_before can bad asked wish made (calls.Prepare text) answer fresh none sent fits = before_close asked.aim due.Prepare (got_of answer) made fresh none refl
step_before can bad asked wish made (calls.Next rows) answer fresh none sent fits = before_close asked.aim (due.Next rows) (got_of answer) made fresh none refl
step_before can bad asked wish made calls.Ping answer fresh none sent fits = before_close asked.aim due.Ping (got_of answer) made fresh none refl
step_before can bad asked wish made _ answer fresh none sent fits = record { fresh = fresh; closed = inl none }

-- The next entry keeps the invariant after a close.
step_after : (aim : Aim) (made : List Exchange) (call : DriverCall) (answer : DriverAnswer) → none_given_again made ≡ true → Closed aim made
    → is_close_stmt call ≡ true → fits_of call answer ≡ true → Stands aim (with_exchange (step_of call) answer made)
step_after aim made (calls.CloseStmt handle) answer fresh closed is fits = after_handle aim handle answer made fresh (gives_nothing handle answer fits) closed.settled
step_after aim made _ answer fresh closed is fits = absurd cc

step : (can : Caps) (asked : Asked) (e : Entry) (earlier : List Entry) → IsNext can asked e earlier → Stands asked.aim (exchanges earlier) → Stands asked.aim (exchanges (e ∷ earlier))
step can asked e earlier next so = by so.closed
  where
    by : (was_closed (exchanges earlier) ≡ false) ⊎ Closed asked.aim (exchanges earlier) → Stands asked.aim (exchanges (e ∷ earlier))
    by (inl none) = step_before can next.bad asked next.wish (exchanges earlier) e.call e.answer so.fresh none next.due next.fits
    by (inr closed) =
        step_after asked.aim (exchanges earlier) e.call e.answer so.fresh closed (only_handle can next.bad asked next.wish (exchanges earlier) e.call closed.last closed.settled next.due) next.fits

stands : (can : Caps) (asked : Asked) (line : List Entry) → ComesInTurn can asked line → Stands asked.aim (exchanges line)
stands can asked [] so = record { fresh = refl; closed = inl refl }
stands can asked (e ∷ earlier) so = step can asked e earlier so.0 (stands can asked earlier so.1)

-- A line gives nothing again that it closed.
pub nothing_again : (can : Caps) (asked : Asked) (line : List Entry) → ComesInTurn can asked line → none_given_again (exchanges line) ≡ true
nothing_again can asked line so = (stands can asked line so).fresh
