-- The driver call that is due for a call is due to itself, and neither opens nor shuts a connection.
use Rattle.std.proofs.Common.{◌≡◌, ℕ, ◌+◌, ◌==◌, Bool, true, false, ◌||◌, cond, List, [], ◌∷◌, length, Option, Some, None, refl, sym, ap, ◌∙◌}
use Rattle.std.specs.Prelude.{bytes_eq}
use Rattle.std.specs.List.{list_any}
use Rattle.dsql_engine_hearing.specs.value.declared.value.Param.{Param}
use Rattle.dsql_engine_hearing.specs.value.declared.value.Value.{Value}
use Rattle.dsql_engine_hearing.specs.value.declared.value.Value.TheVariants as values
use Rattle.dsql_engine_hearing.specs.driver.Fits.{is_done}
use Rattle.dsql_engine_hearing.specs.driver.Kinds.{is_bad, is_begin, is_connect, is_ending, is_shut, is_valid}
use Rattle.dsql_engine_hearing.specs.driver.declared.caps.Caps.{Caps}
use Rattle.dsql_engine_hearing.specs.driver.declared.call.DriverCall.{DriverCall}
use Rattle.dsql_engine_hearing.specs.driver.declared.call.DriverCall.TheVariants.{Connect, Reset, Valid, Prepare, CloseStmt, Exec, Query, Next, CloseRows, Begin, Shut}
use Rattle.dsql_engine_hearing.specs.driver.declared.call.Input.{Input}
use Rattle.dsql_engine_hearing.specs.driver.declared.call.Input.TheVariants.{Text, Handle}
use Rattle.dsql_engine_hearing.specs.driver.declared.call.Level.{Level}
use Rattle.dsql_engine_hearing.specs.course.declared.call.Due.{Due}
use Rattle.dsql_engine_hearing.specs.course.declared.call.Due.TheVariants as due
use Rattle.dsql_engine_hearing.specs.course.declared.course.Course.TheVariants as courses
use Rattle.dsql_engine_hearing.specs.course.declared.course.Wish.{Wish}
use Rattle.dsql_engine_hearing.specs.course.declared.course.Wish.TheVariants as wishes
use Rattle.dsql_engine_hearing.specs.course.Made.{Exchange, or_else}
use Rattle.dsql_engine_hearing.specs.course.Line.{comes_next}
use Rattle.dsql_engine_hearing.specs.course.Rows.{rows_next, rows_next_of}
use Rattle.dsql_engine_hearing.specs.journal.declared.entry.Entry.{Entry}
use Rattle.dsql_engine_hearing.specs.journal.Kinds.{number_of}
use Rattle.dsql_engine_hearing.specs.journal.Readers.{went_bad}
use Rattle.dsql_engine_hearing.specs.pool.declared.conn.Place.{Place}
use Rattle.dsql_engine_hearing.specs.pool.declared.conn.Place.TheVariants.{Lent}
use Rattle.dsql_engine_hearing.specs.tx.declared.end.TxEnd.{TxEnd}
use Rattle.dsql_engine_hearing.specs.tx.declared.end.TxEnd.TheVariants as ends
use Rattle.dsql_engine_hearing.specs.works.declared.work.Aim.{Aim}
use Rattle.dsql_engine_hearing.specs.works.declared.work.Aim.TheVariants as aims
use Rattle.dsql_engine_hearing.specs.works.Exchanges.{exchanges}
use Rattle.dsql_engine_hearing.specs.works.Line.{Asked, handed, line_after, run_for, sent_as, sent_over, test_of, body_with, found, body_after, course_of}
use Rattle.dsql_engine_hearing.specs.works.Same.{same_params, same_truth, same_value}
use Rattle.dsql_engine_hearing.proofs.laws.Tests.{same_itself, together}
use Rattle.dsql_engine_hearing.proofs.laws_calls.Itself.{bytes_itself, int_itself, level_itself, name_itself, truth_itself}
use Rattle.dsql_engine_hearing.specs.history.Same.{same_level}
use Rattle.dsql_engine_hearing.specs.history.declared.event.Event.{Event}
use Rattle.dsql_engine_hearing.specs.history.declared.work.Scope.{Scope}
use Rattle.dsql_engine_hearing.specs.history.declared.work.Scope.TheVariants.{Db, Held}
use Rattle.dsql_engine_hearing.specs.history.declared.work.Work.{Work}
use Rattle.dsql_engine_hearing.specs.history.declared.work.Task.TheVariants as tasks
use Rattle.dsql_engine_hearing.specs.history.declared.work.Work.TheVariants as works_of
use Rattle.dsql_engine_hearing.specs.history.Readers.Calls.{site}
use Rattle.dsql_engine_hearing.specs.history.Readers.Course.{caps}
use Rattle.dsql_engine_hearing.specs.history.Readers.HandedOut.{are_over}
use Rattle.dsql_engine_hearing.specs.history.Readers.Journals.{heard_in, journal}
use Rattle.dsql_engine_hearing.specs.history.Readers.Lines.{line_in}
use Rattle.dsql_engine_hearing.specs.history.Readers.Pool.{home, place}
use Rattle.dsql_engine_hearing.specs.history.Readers.Transactions.{tx_end, tx_ender}
use Rattle.dsql_engine_hearing.specs.history.Readers.Unfinished.{is_unfinished}
use Rattle.dsql_engine_hearing.specs.history.Readers.Works.{borrower, hands_out_in, scope, work, works}
use Rattle.dsql_engine_hearing.specs.history.Rules.Ending.{end_after, ended_by_call, ending, ending_at, ending_with, first_closing}
use Rattle.dsql_engine_hearing.specs.history.Rules.Line.{due_for, due_in, due_inside, is_due, sends_in}
use Rattle.dsql_engine_hearing.specs.history.Rules.Sent.{begin_after, begin_line, close_due, Sender, sender, line_at, line_for, line_of, line_with, sent_for, untested, wish}

-- A driver call other than a Connect or a Shut is due to itself.

value_itself : (v : Value) → same_value v v ≡ true
value_itself values.Nil = refl
value_itself (values.Int n) = int_itself n
value_itself (values.Bool b) = truth_itself b
value_itself (values.Bytes bytes) = bytes_itself bytes
value_itself (values.Text text) = bytes_itself text
value_itself (values.Time n) = int_itself n

params_itself : (params : List Param) → same_params params params ≡ true
params_itself [] = refl
params_itself (param ∷ params) = rw (name_itself param.name, value_itself param.value) (params_itself params)

-- Is true if there is no driver call, or it neither opens nor shuts a connection.
abbrev is_within : Option DriverCall → Bool
is_within None = true
is_within (Some Connect) = false
is_within (Some Shut) = false
is_within (Some call) = true

within_itself : (call : DriverCall) → is_within (Some call) ≡ true → is_due (Some call) call ≡ true
within_itself Connect h = absurd cc
within_itself Shut h = absurd cc
within_itself (Prepare text) h = bytes_itself text
within_itself (CloseStmt handle) h = same_itself handle
within_itself (Exec (Text text) params) h = together (bytes_eq text text) (same_params params params) (bytes_itself text) (params_itself params)
within_itself (Exec (Handle handle) params) h = together (handle == handle) (same_params params params) (same_itself handle) (params_itself params)
within_itself (Query (Text text) params) h = together (bytes_eq text text) (same_params params params) (bytes_itself text) (params_itself params)
within_itself (Query (Handle handle) params) h = together (handle == handle) (same_params params params) (same_itself handle) (params_itself params)
within_itself (Next rows) h = same_itself rows
within_itself (CloseRows rows) h = same_itself rows
within_itself (Begin level read_only) h = together (same_level level level) (same_truth read_only read_only) (level_itself level) (truth_itself read_only)
within_itself _ h = refl

-- What is sent in a line.

either_within : (b : Bool) (c d : Option DriverCall) → is_within c ≡ true → is_within d ≡ true → is_within (cond b c d) ≡ true
either_within true c d h k = h
either_within false c d h k = k

test_within : (can : Caps) → is_within (test_of can) ≡ true
test_within can = either_within can.validator (Some Valid) None refl refl

run_within : (aim : Aim) (input : Input) (params : List Param) → is_within (Some (run_for aim input params)) ≡ true
run_within aims.Execute input params = refl
run_within _ input params = refl

sent_within : (can : Caps) (asked : Asked) (d : Due) → is_within (sent_as can asked d) ≡ true
sent_within can asked due.Text = run_within asked.aim (Text asked.text) asked.params
sent_within can asked due.Prepare = refl
sent_within can asked (due.Handle handle) = run_within asked.aim (Handle handle) asked.params
sent_within can asked (due.Next rows) = refl
sent_within can asked (due.CloseRows rows) = refl
sent_within can asked (due.CloseStmt handle) = refl
sent_within can asked due.Ping = refl
sent_within can asked _ = test_within can

over_within : (can : Caps) (asked : Asked) (d : Option Due) → is_within (sent_over can asked d) ≡ true
over_within can asked None = refl
over_within can asked (Some d) = sent_within can asked d

body_within : (can : Caps) (asked : Asked) (w : Wish) (made : List Exchange) (rows : Option ℕ) → is_within (body_with can false asked w made rows) ≡ true
body_within can asked w made None = sent_within can asked (comes_next (course_of asked.aim) can (length asked.params) (found false) made)
body_within can asked w made (Some rows) = over_within can asked (rows_next w can (length asked.params) made rows)

line_within : (can : Caps) (reset : Bool) (asked : Asked) (w : Wish) (line : List Entry) → is_within (line_after can reset asked w line) ≡ true
line_within can reset asked w [] = either_within reset (Some Reset) (body_after can false asked w []) refl (body_within can asked w [] (handed asked.aim []))
line_within can reset asked w (e ∷ earlier) =
    let made = exchanges (e ∷ earlier) in
    either_within (is_bad e.answer || is_valid e.call) None (body_after can false asked w made) refl (body_within can asked w made (handed asked.aim made))

inner_within : (can : Caps) (bad : Bool) (asked : Asked) (w : Wish) (made : List Exchange) (rows : Option ℕ) → is_within (body_with can bad asked w made rows) ≡ true
inner_within can bad asked w made None = sent_within can asked (comes_next (course_of asked.aim) can (length asked.params) (found bad) made)
inner_within can bad asked w made (Some rows) = over_within can asked (rows_next_of courses.Query bad w can (length asked.params) made rows)

begin_within : (can : Caps) (reset : Bool) (level : Level) (read_only : Bool) (line : List Entry) → is_within (begin_line can reset (Begin level read_only) line) ≡ true
begin_within can reset level read_only [] = either_within reset (Some Reset) (Some (Begin level read_only)) refl refl
begin_within can reset level read_only (e ∷ earlier) =
    either_within (is_bad e.answer || is_valid e.call) None (begin_after can (Begin level read_only) e) refl
    (either_within (is_begin e.call) (cond (is_done e.answer) None (test_of can)) (Some (Begin level read_only)) (either_within (is_done e.answer) None (test_of can) refl (test_within can)) refl)

with_within : (S : Sender) (it : Work) (s : Scope) (line : List Entry) → is_within (line_for it s S line) ≡ true
with_within S (works_of.Begin label level read_only) s line = begin_within S.can S.reset_due level read_only line
with_within S it Db line = line_within S.can S.reset_due S.asked S.wish line
with_within S it (Held k) line = inner_within (untested S.can) S.bad S.asked S.wish (exchanges line) (handed S.asked.aim (exchanges line))

at_within : (H : List Event) (n : ℕ) (w : Wish) (c : ℕ) (at : Option Place) → is_within (line_at H n w c at) ≡ true
at_within H n w c (Some (Lent t own)) =
    let line = line_in own n (heard_in H c t) in
    either_within (number_of own == borrower H n) (line_with (sender H n c w) line) None (with_within (sender H n c w) (work H n) (scope (work H n)) line) refl
at_within H n w c at = refl

line_of_within : (H : List Event) (n : ℕ) (w : Wish) → is_within (line_of H n w) ≡ true
line_of_within H n w = at_within H n w (site H n) (place H (site H n))

over_rows_within : (H : List Event) (k : ℕ) (w : Wish) → is_within (sent_for H k w) ≡ true
over_rows_within H k wishes.Nothing = refl
over_rows_within H k wishes.Fetch = line_of_within H k wishes.Fetch
over_rows_within H k wishes.Close = line_of_within H k wishes.Close

-- What ends a transaction.

or_within : (c d : Option DriverCall) → is_within c ≡ true → is_within d ≡ true → is_within (or_else c d) ≡ true
or_within None d h k = k
or_within (Some call) d h k = h

first_within : (H : List Event) (k n : ℕ) (ws : List Work) → is_within (first_closing H k n ws) ≡ true
first_within H k n [] = refl
first_within H k n (w ∷ ws) =
    or_within (cond (hands_out_in k w) (close_due H n) None) (first_closing H k (n + 1) ws)
    (either_within (hands_out_in k w) (close_due H n) None (either_within (are_over H n) (line_of H n wishes.Close) None (line_of_within H n wishes.Close) refl) refl) (first_within H k (n + 1) ws)

ended_within : (end : TxEnd) → is_within (Some (ended_by_call end)) ≡ true
ended_within ends.Commit = refl
ended_within _ = refl

after_within : (H : List Event) (bad : Bool) (end : TxEnd) (heard : List Entry) → is_within (end_after H bad end heard) ≡ true
after_within H bad end heard =
    let tested = bad || list_any (λ e. is_valid e.call) heard in
    either_within (list_any (λ e. is_ending e.call) heard) (cond tested None (test_of (caps H))) (Some (ended_by_call end)) (either_within tested None (test_of (caps H)) refl (test_within (caps H))) (ended_within end)

ending_within : (H : List Event) (k : ℕ) → is_within (ending H k) ≡ true
ending_within H k = by (tx_end H k)
  where
    there : (c : ℕ) (end : TxEnd) (at : Option Place) → is_within (ending_at H k c end at) ≡ true
    there c end (Some (Lent t own)) =
        let first = first_closing H k 0 (works H) in
        let last = end_after H (went_bad (journal H c)) end (heard_in H c t) in
        either_within (number_of own == k) (or_else first last) None (or_within first last (first_within H k 0 (works H)) (after_within H (went_bad (journal H c)) end (heard_in H c t))) refl
    there c end at = refl

    by : (o : Option TxEnd) → is_within (ending_with H k o) ≡ true
    by None = refl
    by (Some end) = there (home H k) end (place H (home H k))

-- What is due.

inside_within : (H : List Event) (m : ℕ) (s : Scope) → is_within (due_inside H m s) ≡ true
inside_within H m Db = line_of_within H m wishes.Nothing
inside_within H m (Held k) = either_within (sends_in H m k) (line_of H m wishes.Nothing) None (line_of_within H m wishes.Nothing) refl

due_in_within : (H : List Event) (m : ℕ) (it : Work) → is_within (due_in H m it) ≡ true
due_in_within H m (works_of.Fetch k) = over_rows_within H k (wish H m k)
due_in_within H m (works_of.Close k) = over_rows_within H k (wish H m k)
due_in_within H m (works_of.End k) = either_within (tx_ender H k == m) (ending H k) None (ending_within H k) refl
due_in_within H m works_of.Look = refl
due_in_within H m (works_of.Statement s tasks.Execute) = inside_within H m s
due_in_within H m (works_of.Statement s (tasks.ReadOne dests)) = inside_within H m s
due_in_within H m (works_of.Statement s (tasks.HandOut label)) = inside_within H m s
due_in_within H m _ = inside_within H m Db

due_within : (H : List Event) (m : ℕ) → is_within (due_for H m) ≡ true
due_within H m = either_within (is_unfinished H m) (due_in H m (work H m)) None (due_in_within H m (work H m)) refl

-- The driver call that a call would send is due.
pub due_itself : (H : List Event) (m : ℕ) (call : DriverCall) → due_for H m ≡ Some call → is_due (due_for H m) call ≡ true
due_itself H m call is = ap (λ d. is_due d call) is ∙ within_itself call (ap is_within (sym is) ∙ due_within H m)

-- A due driver call neither opens nor shuts a connection.
pub due_of_call : (d : Option DriverCall) (call : DriverCall) → is_due d call ≡ true → (is_connect call ≡ false) × (is_shut call ≡ false)
due_of_call (Some (Exec (Text text) params)) Connect h = absurd cc
due_of_call (Some (Exec (Handle handle) params)) Connect h = absurd cc
due_of_call (Some (Query (Text text) params)) Connect h = absurd cc
due_of_call (Some (Query (Handle handle) params)) Connect h = absurd cc
due_of_call (Some (Exec (Text text) params)) Shut h = absurd cc
due_of_call (Some (Exec (Handle handle) params)) Shut h = absurd cc
due_of_call (Some (Query (Text text) params)) Shut h = absurd cc
due_of_call (Some (Query (Handle handle) params)) Shut h = absurd cc
due_of_call d Connect h = absurd cc
due_of_call d Shut h = absurd cc
due_of_call d call h = (refl, refl)
