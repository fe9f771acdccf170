-- Proves what the exchanges of a tenure are after one more driver call and its answer, by cases of the driver
-- call.
use Rattle.std.proofs.Common.{◌≡◌, ℕ, ℤ, Bool, true, false, cond, not, ◌&&◌, ◌||◌, if◌then◌else◌, List, [], ◌∷◌, length, Option, Some, None, refl, ap, ◌∙◌}
use Rattle.std.specs.Prelude.{option_map}
use Rattle.dsql_history_work.specs.value.declared.value.Param.{Param}
use Rattle.dsql_history_work.specs.driver.Fits.{fits_of, is_memory}
use Rattle.dsql_history_work.specs.driver.declared.caps.Caps.{Caps}
use Rattle.dsql_history_work.specs.driver.declared.call.DriverCall.{DriverCall}
use Rattle.dsql_history_work.specs.driver.declared.call.DriverCall.TheVariants.{Reset, Valid, Ping, Prepare, Exec, Query, Next, CloseRows, CloseStmt}
use Rattle.dsql_history_work.specs.driver.declared.call.Input.TheVariants.{Text, Handle}
use Rattle.dsql_history_work.specs.driver.declared.answer.DriverAnswer.{DriverAnswer}
use Rattle.dsql_history_work.specs.driver.declared.answer.DriverAnswer.TheVariants.{Done, Prepared, Result, Cursor, Row, End, Skip, Bad, Fail}
use Rattle.dsql_history_work.specs.course.declared.course.Wish.{Wish}
use Rattle.dsql_history_work.specs.course.declared.call.Due.{Due}
use Rattle.dsql_history_work.specs.course.declared.call.Due.TheVariants as due
use Rattle.dsql_history_work.specs.course.declared.call.Got.{Got}
use Rattle.dsql_history_work.specs.course.declared.call.Got.TheVariants as got
use Rattle.dsql_history_work.specs.course.Made.{Exchange, is_bad as is_bad_got, given_handle, given_cursor, went_bad, own_handle, own_cursor, rows_are_over, has_fast_way}
use Rattle.dsql_history_work.specs.course.Rows.{closing_next}
use Rattle.dsql_history_work.proofs.course.Handed.{rows_are_closed}
use Rattle.dsql_history_work.specs.driver.Kinds.{is_bad, is_valid, is_ping, ends_cursor}
use Rattle.dsql_history_work.specs.Exchanges.{step_of, got_of, with_exchange}
use Rattle.dsql_history_work.specs.declared.work.Aim.{Aim}
use Rattle.dsql_history_work.specs.declared.work.Aim.TheVariants as aims
use Rattle.dsql_history_work.specs.Line.{Asked, course_of, sent_as, test_of, handed, body_after, is_due_in_line}
use Rattle.dsql_laws_work.proofs.CallLines.{Step, Start, WasReset, WasSkipped, WasPrepared, HasRows, HasRead, WasRun, WasDone, step_after, freed_after, left_of, goes}
use Rattle.dsql_laws_work.proofs.MadeLines.{next_of, asking, has_text, MadeHandle, MadeRows, MadeRun, MadeAt, SendsRow, is_ended, body_before, executes, not_queried, first_call, first_of, goes_body}
use Rattle.dsql_laws_work.proofs.Rows.{same_number}

impossible : false ≡ true → ⊥
impossible h = cc

never : true ≡ false → ⊥
never h = cc

-- A call that queries its text executes nothing, and neither does a ping.
not_executed : aims.ReadOne ≡ aims.Execute → ⊥
not_executed h = cc

not_handed : aims.HandOut ≡ aims.Execute → ⊥
not_handed h = cc

not_pinged : aims.Ping ≡ aims.Execute → ⊥
not_pinged h = cc

-- A call whose first driver call is neither a Ping nor a test has a text.
first_has_text : (can : Caps) (text : List ℕ) (params : List Param) (aim : Aim) (w : Wish) (q : DriverCall) → is_ping q || is_valid q ≡ false
    → is_due_in_line (body_after can false (asking text params aim) w []) q ≡ true → has_text aim ≡ true
first_has_text can text params aims.Ping w q other h =
    by_can can.pinger q other (rw (body_before can (asking text params aims.Ping) w [] refl, first_of can text params aims.Ping) at h)
  where
    not_test : (b : Bool) (r : DriverCall) → is_ping r || is_valid r ≡ false → is_due_in_line (cond b (Some Valid) None) r ≡ true → ⊥
    not_test true Valid o k = cc
    not_test true _ o k = cc
    not_test false r o k = cc

    by_can : (b : Bool) (r : DriverCall) → is_ping r || is_valid r ≡ false → is_due_in_line (sent_as can (asking text params aims.Ping) (cond b due.Ping due.Over)) r ≡ true → false ≡ true
    by_can true Ping o k = absurd cc
    by_can true _ o k = absurd cc
    by_can false r o k = absurd (not_test can.validator r o k)
first_has_text can text params _ w q other h = refl

-- A text is run at once only if the driver has the fast way.
text_first : (can : Caps) (aim : Aim) → has_text aim ≡ true → first_call aim can ≡ cond (has_fast_way (course_of aim) can) due.Text due.Prepare
text_first can aims.Ping h = absurd cc
text_first can _ h = refl

has_fast : (can : Caps) (text : List ℕ) (params : List Param) (aim : Aim) (w : Wish) (q : DriverCall) → has_text aim ≡ true → ((t : List ℕ) → is_due_in_line (Some (Prepare t)) q ≡ false)
    → is_due_in_line (body_after can false (asking text params aim) w []) q ≡ true → has_fast_way (course_of aim) can ≡ true
has_fast can text params aim w q texts not_prepare h =
    by_fast (has_fast_way (course_of aim) can) (rw (body_before can (asking text params aim) w [] refl, first_of can text params aim, text_first can aim texts) at h)
  where
    by_fast : (b : Bool) → is_due_in_line (sent_as can (asking text params aim) (cond b due.Text due.Prepare)) q ≡ true → b ≡ true
    by_fast true k = refl
    by_fast false k = let n = not_prepare text in absurd cc

text_executed : (can : Caps) (text : List ℕ) (params : List Param) (aim : Aim) (w : Wish) (s : Step) (t : List ℕ) (ps : List Param) (a : DriverAnswer)
    → is_due_in_line (body_after can false (asking text params aim) w []) (Exec (Text t) ps) ≡ true → (fits_of (Exec (Text t) ps) a && not (is_memory a)) ≡ true
    → MadeAt can (asking text params aim) (step_after s (Exec (Text t) ps) a) ((due.Text, got_of a) ∷ [])
text_executed can text params aims.ReadOne w s t ps a h fit =
    let k = executes can (asking text params aims.ReadOne) (next_of can (asking text params aims.ReadOne) []) (Text t) ps h in absurd (not_executed k)
text_executed can text params aims.Ping w s t ps a h fit =
    let k = executes can (asking text params aims.Ping) (next_of can (asking text params aims.Ping) []) (Text t) ps h in absurd (not_pinged k)
text_executed can text params aims.HandOut w s t ps a h fit =
    let k = executes can (asking text params aims.HandOut) (next_of can (asking text params aims.HandOut) []) (Text t) ps h in absurd (not_handed k)
text_executed can text params aims.Execute w s t ps (Result last affected) h fit = λ it. rw (has_fast can text params aims.Execute w (Exec (Text t) ps) refl (λ x. refl) h) refl
text_executed can text params aims.Execute w s t ps (Fail why) h fit = λ it. rw (has_fast can text params aims.Execute w (Exec (Text t) ps) refl (λ x. refl) h) refl
text_executed can text params aims.Execute w s t ps Skip h fit = (refl, refl)
text_executed can text params aims.Execute w s t ps Bad h fit = tt
text_executed can text params aims.Execute w s t ps _ h fit = absurd (impossible fit)

-- After a run of the text that gave a cursor, the close of the rows closes that cursor.
text_gave_rows : (can : Caps) (args rows : ℕ) → closing_next can args ((due.Text, got.Cursor rows) ∷ []) ≡ due.CloseRows rows
text_gave_rows can args rows = let laws = rows_are_closed in laws.cursor can args rows (due.Text, got.Cursor rows) [] refl refl refl

text_queried : (can : Caps) (text : List ℕ) (params : List Param) (aim : Aim) (w : Wish) (s : Step) (t : List ℕ) (ps : List Param) (a : DriverAnswer)
    → is_due_in_line (body_after can false (asking text params aim) w []) (Query (Text t) ps) ≡ true → (fits_of (Query (Text t) ps) a && not (is_memory a)) ≡ true
    → MadeAt can (asking text params aim) (step_after s (Query (Text t) ps) a) ((due.Text, got_of a) ∷ [])
text_queried can text params aims.Execute w s t ps a h fit = absurd (not_queried can text params (next_of can (asking text params aims.Execute) []) (Text t) ps h)
text_queried can text params aims.Ping w s t ps a h fit = absurd (impossible (first_has_text can text params aims.Ping w (Query (Text t) ps) refl h))
text_queried can text params aims.ReadOne w s t ps (Cursor rows columns) h fit = record {
  reads = refl;
  handle = refl;
  cursor = refl;
  good = refl;
  are_over = refl;
  next_close = text_gave_rows can (length params) rows;
  sends = rw (has_fast can text params aims.ReadOne w (Query (Text t) ps) refl (λ x. refl) h) refl;
}
text_queried can text params aims.HandOut w s t ps (Cursor rows columns) h fit =
    record { reads = refl; handle = refl; cursor = refl; good = refl; are_over = refl; next_close = text_gave_rows can (length params) rows; sends = tt }
text_queried can text params aims.ReadOne w s t ps (Fail why) h fit = λ it. rw (has_fast can text params aims.ReadOne w (Query (Text t) ps) refl (λ x. refl) h) refl
text_queried can text params aims.HandOut w s t ps (Fail why) h fit = λ it. rw (has_fast can text params aims.HandOut w (Query (Text t) ps) refl (λ x. refl) h) refl
text_queried can text params aims.ReadOne w s t ps Skip h fit = (refl, refl)
text_queried can text params aims.HandOut w s t ps Skip h fit = (refl, refl)
text_queried can text params aims.ReadOne w s t ps Bad h fit = tt
text_queried can text params aims.HandOut w s t ps Bad h fit = tt
text_queried can text params aims.ReadOne w s t ps _ h fit = absurd (impossible fit)
text_queried can text params aims.HandOut w s t ps _ h fit = absurd (impossible fit)

-- The exchanges after a Prepare of the text, before which nothing was given, are those of the next step.
prepared_next : (can : Caps) (text : List ℕ) (params : List Param) (aim : Aim) (s : Step) (t : List ℕ) (a : DriverAnswer) (made : List Exchange) → has_text aim ≡ true → own_handle made ≡ None → own_cursor made ≡ None
    → went_bad made ≡ false → rows_are_over made ≡ false → (fits_of (Prepare t) a && not (is_memory a)) ≡ true
    → MadeAt can (asking text params aim) (step_after s (Prepare t) a) ((due.Prepare, got_of a) ∷ made)
prepared_next can text params aim s t (Prepared handle inputs) made texts own none good unread fit = record { texts = texts; inputs = inputs; own = refl; none = none; good = good; unread = unread; left = refl }
prepared_next can text params aims.Execute s t (Fail why) made texts own none good unread fit = λ it. rw (good, own) refl
prepared_next can text params aims.ReadOne s t (Fail why) made texts own none good unread fit = λ it. rw (good, own, none) refl
prepared_next can text params aims.Ping s t (Fail why) made texts own none good unread fit = absurd (impossible texts)
prepared_next can text params aims.HandOut s t (Fail why) made texts own none good unread fit = λ it. rw (none, good, own, none) refl
prepared_next can text params aim s t Bad made texts own none good unread fit = tt
prepared_next can text params aim s t _ made texts own none good unread fit = absurd (impossible fit)

-- What is due after the handle was prepared is what the course sends.
handle_due : (can : Caps) (asked : Asked) (w : Wish) (handle : ℕ) (q : DriverCall) (made : List Exchange) → MadeHandle asked handle made → is_due_in_line (body_after can false asked w made) q ≡ true
    → is_due_in_line (sent_as can asked (next_of can asked made)) q ≡ true
handle_due can asked w handle q made m h = rw (body_before can asked w made m.none) at h

no_cursor : (made : List Exchange) (rows : ℕ) → own_cursor made ≡ None → own_cursor made ≡ Some rows → ⊥
no_cursor made rows none is = cc

handle_executed : (can : Caps) (text : List ℕ) (params : List Param) (aim : Aim) (w : Wish) (s : Step) (handle : ℕ) (ps : List Param) (a : DriverAnswer) (made : List Exchange)
    → MadeHandle (asking text params aim) handle made → is_due_in_line (body_after can false (asking text params aim) w made) (Exec (Handle handle) ps) ≡ true
    → (fits_of (Exec (Handle handle) ps) a && not (is_memory a)) ≡ true → MadeAt can (asking text params aim) (step_after s (Exec (Handle handle) ps) a) ((due.Handle handle, got_of a) ∷ made)
handle_executed can text params aims.ReadOne w s handle ps a made m h fit =
    let k = executes can (asking text params aims.ReadOne) (next_of can (asking text params aims.ReadOne) made) (Handle handle) ps h in absurd (not_executed k)
handle_executed can text params aims.Ping w s handle ps a made m h fit = absurd (impossible m.texts)
handle_executed can text params aims.HandOut w s handle ps a made m h fit =
    let k = executes can (asking text params aims.HandOut) (next_of can (asking text params aims.HandOut) made) (Handle handle) ps
    (handle_due can (asking text params aims.HandOut) w handle (Exec (Handle handle) ps) made m h) in absurd (not_handed k)
handle_executed can text params aims.Execute w s handle ps (Result last affected) made m h fit = record { sends = λ it. rw (m.good, m.own) refl; are_over = λ rows is. absurd cc }
handle_executed can text params aims.Execute w s handle ps (Fail why) made m h fit = record { sends = λ it. rw (m.good, m.own) refl; are_over = λ rows is. absurd cc }
handle_executed can text params aims.Execute w s handle ps Bad made m h fit = tt
handle_executed can text params aims.Execute w s handle ps _ made m h fit = absurd (impossible fit)

-- After a run of a handle that gave a cursor, the close of the rows closes that cursor.
handle_gave_rows : (can : Caps) (args handle rows : ℕ) (made : List Exchange) → went_bad made ≡ false → closing_next can args ((due.Handle handle, got.Cursor rows) ∷ made) ≡ due.CloseRows rows
handle_gave_rows can args handle rows made good = let laws = rows_are_closed in laws.cursor can args rows (due.Handle handle, got.Cursor rows) made refl good refl

handle_queried : (can : Caps) (text : List ℕ) (params : List Param) (aim : Aim) (w : Wish) (s : Step) (handle : ℕ) (ps : List Param) (a : DriverAnswer) (made : List Exchange)
    → MadeHandle (asking text params aim) handle made → is_due_in_line (body_after can false (asking text params aim) w made) (Query (Handle handle) ps) ≡ true
    → (fits_of (Query (Handle handle) ps) a && not (is_memory a)) ≡ true → MadeAt can (asking text params aim) (step_after s (Query (Handle handle) ps) a) ((due.Handle handle, got_of a) ∷ made)
handle_queried can text params aims.Execute w s handle ps a made m h fit = absurd (not_queried can text params (next_of can (asking text params aims.Execute) made) (Handle handle) ps h)
handle_queried can text params aims.Ping w s handle ps a made m h fit = absurd (impossible m.texts)
handle_queried can text params aims.ReadOne w s handle ps (Cursor rows columns) made m h fit = record {
  reads = refl;
  handle = rw m.own refl;
  cursor = refl;
  good = m.good;
  are_over = m.unread;
  next_close = handle_gave_rows can (length params) handle rows made m.good;
  sends = rw m.good refl;
}
handle_queried can text params aims.HandOut w s handle ps (Cursor rows columns) made m h fit = record {
  reads = refl;
  handle = rw m.own refl;
  cursor = refl;
  good = m.good;
  are_over = m.unread;
  next_close = handle_gave_rows can (length params) handle rows made m.good;
  sends = tt;
}
handle_queried can text params aims.ReadOne w s handle ps (Fail why) made m h fit = record { sends = λ it. rw (m.good, m.own, m.none) refl; are_over = λ rows is. absurd cc }
handle_queried can text params aims.HandOut w s handle ps (Fail why) made m h fit =
    record { sends = λ it. rw (m.none, m.good, m.own, m.none) refl; are_over = λ rows is. absurd (no_cursor made rows m.none is) }
handle_queried can text params aims.ReadOne w s handle ps Bad made m h fit = tt
handle_queried can text params aims.HandOut w s handle ps Bad made m h fit = tt
handle_queried can text params aims.ReadOne w s handle ps _ made m h fit = absurd (impossible fit)
handle_queried can text params aims.HandOut w s handle ps _ made m h fit = absurd (impossible fit)

-- Holds if the answer gave neither a handle nor a cursor, and isn't Bad.
record GaveNothing (answer : Got) : Type 0 where
  handle : given_handle answer ≡ None
  cursor : given_cursor answer ≡ None
  good : is_bad_got answer ≡ false

gave_nothing : GaveNothing got.Done × GaveNothing got.Row × GaveNothing got.End × GaveNothing got.Fail
gave_nothing = (
  record { handle = refl; cursor = refl; good = refl },
  record { handle = refl; cursor = refl; good = refl },
  record { handle = refl; cursor = refl; good = refl },
  record { handle = refl; cursor = refl; good = refl },
)

-- After a fetch, a call that reads one row itself closes the cursor.
then_close : (can : Caps) (params : List Param) (aim : Aim) (rows : ℕ) (answer : Got) (made : List Exchange) → GaveNothing answer → went_bad made ≡ false → own_cursor made ≡ Some rows
    → SendsRow aim can (length params) ((due.Next rows, answer) ∷ made) (due.CloseRows rows)
then_close can params aims.ReadOne rows answer made n good cursor = rw (n.good, good, n.cursor, cursor) refl
then_close can params _ rows answer made n good cursor = tt

-- A fetch leaves its cursor, which is over if there was no row.
fetch_keeps : (can : Caps) (text : List ℕ) (params : List Param) (aim : Aim) (own : Option ℕ) (rows : ℕ) (it : Due) (a : DriverAnswer) (made : List Exchange)
    → MadeRows can (asking text params aim) own rows false it made → (fits_of (Next rows) a && not (is_memory a)) ≡ true → is_bad a ≡ false
    → MadeRows can (asking text params aim) own rows (ends_cursor a) (due.CloseRows rows) ((due.Next rows, got_of a) ∷ made)
fetch_keeps can text params aim own rows it (Row values) made m fit not_bad = record {
  reads = m.reads;
  handle = m.handle;
  cursor = m.cursor;
  good = m.good;
  are_over = m.are_over;
  next_close = let laws = rows_are_closed in laws.cursor can (length params) rows (due.Next rows, got.Row) made refl m.good m.cursor;
  sends = then_close can params aim rows got.Row made gave_nothing.1 m.good m.cursor;
}
fetch_keeps can text params aim own rows it End made m fit not_bad = record {
  reads = m.reads;
  handle = m.handle;
  cursor = m.cursor;
  good = m.good;
  are_over = refl;
  next_close = let laws = rows_are_closed in laws.cursor can (length params) rows (due.Next rows, got.End) made refl m.good m.cursor;
  sends = then_close can params aim rows got.End made gave_nothing.2 m.good m.cursor;
}
fetch_keeps can text params aim own rows it (Fail why) made m fit not_bad = record {
  reads = m.reads;
  handle = m.handle;
  cursor = m.cursor;
  good = m.good;
  are_over = refl;
  next_close = let laws = rows_are_closed in laws.cursor can (length params) rows (due.Next rows, got.Fail) made refl m.good m.cursor;
  sends = then_close can params aim rows got.Fail made gave_nothing.3 m.good m.cursor;
}
fetch_keeps can text params aim own rows it Bad made m fit not_bad = absurd (never not_bad)
fetch_keeps can text params aim own rows it _ made m fit not_bad = absurd (impossible fit)

first_fetched : (can : Caps) (text : List ℕ) (params : List Param) (aim : Aim) (own : Option ℕ) (rows : ℕ) (a : DriverAnswer) (made : List Exchange)
    → MadeRows can (asking text params aim) own rows false (due.Next rows) made → (fits_of (Next rows) a && not (is_memory a)) ≡ true
    → MadeAt can (asking text params aim) (step_after (HasRows own rows) (Next rows) a) ((due.Next rows, got_of a) ∷ made)
first_fetched can text params aim own rows Bad made m fit = tt
first_fetched can text params aim own rows a made m fit = fetch_keeps can text params aim own rows (due.Next rows) a made m fit refl

next_fetched : (can : Caps) (text : List ℕ) (params : List Param) (aim : Aim) (own : Option ℕ) (rows : ℕ) (a : DriverAnswer) (made : List Exchange)
    → MadeRows can (asking text params aim) own rows false (due.CloseRows rows) made → (fits_of (Next rows) a && not (is_memory a)) ≡ true
    → MadeAt can (asking text params aim) (step_after (HasRead own rows false) (Next rows) a) ((due.Next rows, got_of a) ∷ made)
next_fetched can text params aim own rows Bad made m fit = tt
next_fetched can text params aim own rows a made m fit = fetch_keeps can text params aim own rows (due.CloseRows rows) a made m fit refl

-- After the cursor is closed, the handle that is left is closed next.
left_handle : (can : Caps) (args rows handle : ℕ) (answer : Got) (made : List Exchange) (x : Option (ℕ × ℤ)) → own_handle ((due.CloseRows rows, answer) ∷ made) ≡ x
    → went_bad ((due.CloseRows rows, answer) ∷ made) ≡ false → option_map (λ h. h.0) x ≡ Some handle → closing_next can args ((due.CloseRows rows, answer) ∷ made) ≡ due.CloseStmt handle
left_handle can args rows handle answer made None own good is = absurd cc
left_handle can args rows handle answer made (Some h) own good is =
    let laws = rows_are_closed in
    let number : h.0 ≡ handle = cc in
    laws.handle can args rows h.0 h.1 answer made good own ∙ ap due.CloseStmt number

close_of : (x : Option (ℕ × ℤ)) (handle : ℕ) → option_map (λ h. h.0) x ≡ Some handle → option_map (λ h. due.CloseStmt h.0) x ≡ Some (due.CloseStmt handle)
close_of None handle h = absurd cc
close_of (Some p) handle h = ap (λ o. option_map (λ n. due.CloseStmt n) o) h

none_left : (x : Option (ℕ × ℤ)) → option_map (λ h. h.0) x ≡ None → x ≡ None
none_left None h = refl
none_left (Some p) h = absurd cc

handle_left : (can : Caps) (text : List ℕ) (params : List Param) (aim : Aim) (handle rows : ℕ) (over : Bool) (it : Due) (answer : Got) (made : List Exchange)
    → MadeRows can (asking text params aim) (Some handle) rows over it made → GaveNothing answer → MadeRun can (asking text params aim) handle ((due.CloseRows rows, answer) ∷ made)
handle_left can text params aims.Execute handle rows over it answer made m n = absurd (impossible m.reads)
handle_left can text params aims.Ping handle rows over it answer made m n = absurd (impossible m.reads)
handle_left can text params aims.ReadOne handle rows over it answer made m n =
    record { sends = λ w. rw (n.good, n.handle, m.good, close_of (own_handle made) handle m.handle) refl; are_over = λ r is. absurd cc }
handle_left can text params aims.HandOut handle rows over it answer made m n =
    let own : own_handle ((due.CloseRows rows, answer) ∷ made) ≡ own_handle made = rw n.handle refl in
    let good : went_bad ((due.CloseRows rows, answer) ∷ made) ≡ false = rw n.good m.good in
    record {
      sends = λ w. rw (n.cursor, m.cursor, left_handle can (length params) rows handle answer made (own_handle made) own good m.handle) refl;
      are_over = λ r is. refl;
    }

nothing_left : (can : Caps) (text : List ℕ) (params : List Param) (aim : Aim) (rows : ℕ) (over : Bool) (it : Due) (answer : Got) (made : List Exchange)
    → MadeRows can (asking text params aim) None rows over it made → GaveNothing answer → (w : Wish) → body_after can false (asking text params aim) w ((due.CloseRows rows, answer) ∷ made) ≡ test_of can
nothing_left can text params aims.Execute rows over it answer made m n w = absurd (impossible m.reads)
nothing_left can text params aims.Ping rows over it answer made m n w = absurd (impossible m.reads)
nothing_left can text params aims.ReadOne rows over it answer made m n w = rw (n.good, n.handle, m.good, none_left (own_handle made) m.handle) refl
nothing_left can text params aims.HandOut rows over it answer made m n w =
    let laws = rows_are_closed in
    let own : own_handle ((due.CloseRows rows, answer) ∷ made) ≡ None = rw n.handle (none_left (own_handle made) m.handle) in
    rw (n.cursor, m.cursor, laws.no_handle can (length params) rows answer made own) refl

-- After the rows are closed, their handle is left, or nothing.
rows_left : (can : Caps) (text : List ℕ) (params : List Param) (aim : Aim) (own : Option ℕ) (rows : ℕ) (over : Bool) (it : Due) (answer : Got) (made : List Exchange)
    → MadeRows can (asking text params aim) own rows over it made → GaveNothing answer → MadeAt can (asking text params aim) (left_of own) ((due.CloseRows rows, answer) ∷ made)
rows_left can text params aim None rows over it answer made m n = nothing_left can text params aim rows over it answer made m n
rows_left can text params aim (Some handle) rows over it answer made m n = handle_left can text params aim handle rows over it answer made m n

-- The close of the rows leaves the same, whether it comes before the first fetch or later.
rows_freed : (can : Caps) (text : List ℕ) (params : List Param) (aim : Aim) (s : Step) (own : Option ℕ) (rows : ℕ) (over : Bool) (it : Due) (a : DriverAnswer) (made : List Exchange)
    → freed_after s ≡ left_of own → MadeRows can (asking text params aim) own rows over it made → (fits_of (CloseRows rows) a && not (is_memory a)) ≡ true
    → MadeAt can (asking text params aim) (step_after s (CloseRows rows) a) ((due.CloseRows rows, got_of a) ∷ made)
rows_freed can text params aim s own rows over it Done made freed m fit =
    rw freed (rows_left can text params aim own rows over it got.Done made m gave_nothing.0)
rows_freed can text params aim s own rows over it (Fail why) made freed m fit =
    rw freed (rows_left can text params aim own rows over it got.Fail made m gave_nothing.3)
rows_freed can text params aim s own rows over it Bad made freed m fit = tt
rows_freed can text params aim s own rows over it _ made freed m fit = absurd (impossible fit)

-- After the close of its handle the course is over either way.
over_either_way : (b : Bool) → (if b then due.Over else due.Over) ≡ due.Over
over_either_way true = refl
over_either_way false = refl

handed_closed : (can : Caps) (text : List ℕ) (params : List Param) (w : Wish) (handle : ℕ) (answer : Got) (made : List Exchange) (x : Option ℕ) → own_cursor made ≡ x → GaveNothing answer
    → ((rows : ℕ) → own_cursor made ≡ Some rows → rows_are_over made ≡ true) → body_after can false (asking text params aims.HandOut) w ((due.CloseStmt handle, answer) ∷ made) ≡ test_of can
handed_closed can text params w handle answer made None is n ends =
    rw (n.cursor, is) (ap (sent_as can (asking text params aims.HandOut)) (over_either_way (went_bad ((due.CloseStmt handle, answer) ∷ made))))
handed_closed can text params w handle answer made (Some rows) is n ends =
    let laws = rows_are_closed in
    rw (n.cursor, is, ends rows is, laws.last can (length params) handle answer made) refl

closed_over : (can : Caps) (text : List ℕ) (params : List Param) (aim : Aim) (handle : ℕ) (answer : Got) (made : List Exchange) → GaveNothing answer
    → ((rows : ℕ) → handed aim made ≡ Some rows → rows_are_over made ≡ true) → (w : Wish) → body_after can false (asking text params aim) w ((due.CloseStmt handle, answer) ∷ made) ≡ test_of can
closed_over can text params aims.HandOut handle answer made n ends w = handed_closed can text params w handle answer made (own_cursor made) refl n ends
closed_over can text params x handle answer made n ends w =
    ap (sent_as can (asking text params x)) (over_either_way (went_bad ((due.CloseStmt handle, answer) ∷ made)))

handle_closed : (can : Caps) (text : List ℕ) (params : List Param) (aim : Aim) (s : Step) (handle : ℕ) (a : DriverAnswer) (made : List Exchange) → (fits_of (CloseStmt handle) a && not (is_memory a)) ≡ true
    → ((rows : ℕ) → handed aim made ≡ Some rows → rows_are_over made ≡ true) → MadeAt can (asking text params aim) (step_after s (CloseStmt handle) a) ((due.CloseStmt handle, got_of a) ∷ made)
handle_closed can text params aim s handle Done made fit ends = closed_over can text params aim handle got.Done made gave_nothing.0 ends
handle_closed can text params aim s handle (Fail why) made fit ends = closed_over can text params aim handle got.Fail made gave_nothing.3 ends
handle_closed can text params aim s handle Bad made fit ends = tt
handle_closed can text params aim s handle _ made fit ends = absurd (impossible fit)

-- If there is no cursor, no rows were handed out.
none_handed : (aim : Aim) (made : List Exchange) → own_cursor made ≡ None → (rows : ℕ) → handed aim made ≡ Some rows → rows_are_over made ≡ true
none_handed aims.HandOut made none rows is = absurd (no_cursor made rows none is)
none_handed _ made none rows is = absurd cc

-- After a Ping only the test comes, if the driver has one.
over_behind : (can : Caps) (text : List ℕ) (params : List Param) (aim : Aim) (answer : Got) → GaveNothing answer → (w : Wish)
    → body_after can false (asking text params aim) w ((due.Ping, answer) ∷ []) ≡ test_of can
over_behind can text params aims.HandOut answer n w = rw (n.cursor, n.good) refl
over_behind can text params _ answer n w = rw n.good refl

pinged_next : (can : Caps) (text : List ℕ) (params : List Param) (aim : Aim) (s : Step) (a : DriverAnswer) → (fits_of Ping a && not (is_memory a)) ≡ true
    → MadeAt can (asking text params aim) (step_after s Ping a) ((due.Ping, got_of a) ∷ [])
pinged_next can text params aim s Done fit = over_behind can text params aim got.Done gave_nothing.0
pinged_next can text params aim s (Fail why) fit = over_behind can text params aim got.Fail gave_nothing.3
pinged_next can text params aim s Bad fit = tt
pinged_next can text params aim s _ fit = absurd (impossible fit)

-- The exchanges after a driver call of the body that is due are those of the next step.
body_next : (can : Caps) (text : List ℕ) (params : List Param) (aim : Aim) (w : Wish) (s : Step) (q : DriverCall) (a : DriverAnswer) (made : List Exchange) → MadeAt can (asking text params aim) s made
    → is_due_in_line (body_after can false (asking text params aim) w made) q ≡ true → goes s q ≡ true → (fits_of q a && not (is_memory a)) ≡ true
    → MadeAt can (asking text params aim) (step_after s q a) (with_exchange (step_of q) a made)
body_next can text params aim w Start (Exec (Text t) ps) a made m h g fit = rw m (text_executed can text params aim w Start t ps a (rw m at h) fit)
body_next can text params aim w WasReset (Exec (Text t) ps) a made m h g fit = rw m (text_executed can text params aim w WasReset t ps a (rw m at h) fit)
body_next can text params aim w Start (Query (Text t) ps) a made m h g fit = rw m (text_queried can text params aim w Start t ps a (rw m at h) fit)
body_next can text params aim w WasReset (Query (Text t) ps) a made m h g fit = rw m (text_queried can text params aim w WasReset t ps a (rw m at h) fit)
body_next can text params aim w Start (Prepare t) a made m h g fit =
    prepared_next can text params aim Start t a made (first_has_text can text params aim w (Prepare t) refl (rw m at h)) (rw m refl) (rw m refl) (rw m refl) (rw m refl) fit
body_next can text params aim w WasReset (Prepare t) a made m h g fit =
    prepared_next can text params aim WasReset t a made (first_has_text can text params aim w (Prepare t) refl (rw m at h)) (rw m refl) (rw m refl) (rw m refl) (rw m refl) fit
body_next can text params aim w WasSkipped (Prepare t) a made m h g fit = prepared_next can text params aim WasSkipped t a made m.1 (rw m.0 refl) (rw m.0 refl) (rw m.0 refl) (rw m.0 refl) fit
body_next can text params aim w (WasPrepared given) (Exec (Handle handle) ps) a made m h g fit =
    let is : given ≡ handle = same_number given handle g in
    handle_executed can text params aim w (WasPrepared given) handle ps a made (rw is at m) h fit
body_next can text params aim w (WasPrepared given) (Query (Handle handle) ps) a made m h g fit =
    let is : given ≡ handle = same_number given handle g in
    handle_queried can text params aim w (WasPrepared given) handle ps a made (rw is at m) h fit
body_next can text params aim w (WasPrepared given) (CloseStmt handle) a made m h g fit = handle_closed can text params aim (WasPrepared given) handle a made fit (none_handed aim made m.none)
body_next can text params aim w (WasRun given) (CloseStmt handle) a made m h g fit = handle_closed can text params aim (WasRun given) handle a made fit m.are_over
body_next can text params aim w (HasRows own given) (Next rows) a made m h g fit =
    let is : given ≡ rows = same_number given rows g in
    rw is (first_fetched can text params aim own rows a made (rw is at m) fit)
body_next can text params aim w (HasRows own given) (CloseRows rows) a made m h g fit =
    let is : given ≡ rows = same_number given rows g in
    rw is (rows_freed can text params aim (HasRows own rows) own rows false (due.Next rows) a made refl (rw is at m) fit)
body_next can text params aim w (HasRead own given false) (Next rows) a made m h g fit =
    let is : given ≡ rows = same_number given rows g in
    rw is (next_fetched can text params aim own rows a made (rw is at m) fit)
body_next can text params aim w (HasRead own given true) (CloseRows rows) a made m h g fit =
    let is : given ≡ rows = same_number given rows g in
    rw is (rows_freed can text params aim (HasRead own rows true) own rows true (due.CloseRows rows) a made refl (rw is at m) fit)
body_next can text params aim w (HasRead own given false) (CloseRows rows) a made m h g fit =
    let is : given ≡ rows = same_number given rows g in
    rw is (rows_freed can text params aim (HasRead own rows false) own rows false (due.CloseRows rows) a made refl (rw is at m) fit)
body_next can text params aim w Start Ping a made m h g fit = rw m (pinged_next can text params aim Start a fit)
body_next can text params aim w WasReset Ping a made m h g fit = rw m (pinged_next can text params aim WasReset a fit)
body_next can text params aim w Start Valid Bad made m h g fit = tt
body_next can text params aim w Start Valid a made m h g fit = tt
body_next can text params aim w WasReset Valid Bad made m h g fit = tt
body_next can text params aim w WasReset Valid a made m h g fit = tt
body_next can text params aim w WasDone Valid Bad made m h g fit = tt
body_next can text params aim w WasDone Valid a made m h g fit = tt
body_next can text params aim w Start Reset Bad made m h g fit = tt
body_next can text params aim w Start Reset a made m h g fit = m
body_next can text params aim w _ q a made m h g fit = absurd (impossible g)

pub made_next : (can : Caps) (asked : Asked) (w : Wish) (s : Step) (q : DriverCall) (a : DriverAnswer) (made : List Exchange) → is_ended s ≡ false → MadeAt can asked s made
    → is_due_in_line (body_after can false asked w made) q ≡ true → (fits_of q a && not (is_memory a)) ≡ true → MadeAt can asked (step_after s q a) (with_exchange (step_of q) a made)
made_next can asked w s q a made going m h fit = body_next can asked.text asked.params asked.aim w s q a made m h (goes_body can asked w s made q going m h) fit

-- A Reset comes before all exchanges and adds none.
pub made_reset : (can : Caps) (asked : Asked) (a : DriverAnswer) → MadeAt can asked (step_after Start Reset a) (with_exchange (step_of Reset) a [])
made_reset can asked Bad = tt
made_reset can asked a = refl
