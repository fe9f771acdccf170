-- What the layer sends to close rows and to end a transaction is due to itself, and neither connects nor shuts.
use Rattle.std.proofs.Common.{◌≡◌, ℕ, ◌==◌, ◌+◌, Bool, true, false, not, ◌||◌, cond, List, [], ◌∷◌, length, Option, Some, None, refl, sym, ap, ◌∙◌}
use Rattle.std.specs.List.{list_any}
use Rattle.dsql_engine_hearing.specs.value.declared.value.Param.{Param}
use Rattle.dsql_engine_hearing.specs.driver.declared.call.DriverCall.{DriverCall}
use Rattle.dsql_engine_hearing.specs.driver.declared.call.DriverCall.TheVariants as calls
use Rattle.dsql_engine_hearing.specs.driver.declared.call.Input.{Input}
use Rattle.dsql_engine_hearing.specs.driver.declared.call.Input.TheVariants.{Text, Handle}
use Rattle.dsql_engine_hearing.specs.driver.declared.call.Level.{Level}
use Rattle.dsql_engine_hearing.specs.driver.declared.caps.Caps.{Caps}
use Rattle.dsql_engine_hearing.specs.driver.Fits.{is_done}
use Rattle.dsql_engine_hearing.specs.driver.Kinds.{is_bad, is_begin, is_connect, is_ending, is_shut, is_valid}
use Rattle.dsql_engine_hearing.specs.course.declared.call.Due.{Due}
use Rattle.dsql_engine_hearing.specs.course.declared.call.Due.TheVariants as due
use Rattle.dsql_engine_hearing.specs.course.declared.course.Course.TheVariants as courses
use Rattle.dsql_engine_hearing.specs.course.declared.course.Wish.{Wish}
use Rattle.dsql_engine_hearing.specs.course.declared.course.Wish.TheVariants as wishes
use Rattle.dsql_engine_hearing.specs.course.Line.{comes_next}
use Rattle.dsql_engine_hearing.specs.course.Made.{Exchange, or_else}
use Rattle.dsql_engine_hearing.specs.course.Rows.{rows_next, rows_next_of}
use Rattle.dsql_engine_hearing.specs.journal.declared.entry.Entry.{Entry}
use Rattle.dsql_engine_hearing.specs.journal.Kinds.{number_of}
use Rattle.dsql_engine_hearing.specs.journal.Readers.{went_bad}
use Rattle.dsql_engine_hearing.specs.pool.declared.conn.Place.{Place}
use Rattle.dsql_engine_hearing.specs.pool.declared.conn.Place.TheVariants.{Lent}
use Rattle.dsql_engine_hearing.specs.tx.declared.end.TxEnd.{TxEnd}
use Rattle.dsql_engine_hearing.specs.tx.declared.end.TxEnd.TheVariants as ends
use Rattle.dsql_engine_hearing.specs.works.declared.work.Aim.{Aim}
use Rattle.dsql_engine_hearing.specs.works.declared.work.Aim.TheVariants as aims
use Rattle.dsql_engine_hearing.specs.works.Exchanges.{exchanges}
use Rattle.dsql_engine_hearing.specs.works.Line.{Asked, handed, run_for, sent_as, sent_over, test_of, body_with, found, body_after, course_of, line_after}
use Rattle.dsql_engine_hearing.specs.works.Same.{same_truth}
use Rattle.dsql_engine_hearing.proofs.laws.Tests.{same_itself, together}
use Rattle.dsql_engine_hearing.proofs.laws_calls.Itself.{level_itself, truth_itself}
use Rattle.dsql_engine_hearing.specs.exchanged.Filled.{carries_statement}
use Rattle.dsql_engine_hearing.specs.history.declared.event.Event.{Event}
use Rattle.dsql_engine_hearing.specs.history.declared.work.Scope.{Scope}
use Rattle.dsql_engine_hearing.specs.history.declared.work.Scope.TheVariants.{Db, Held}
use Rattle.dsql_engine_hearing.specs.history.declared.work.Work.{Work}
use Rattle.dsql_engine_hearing.specs.history.declared.work.Work.TheVariants as works_of
use Rattle.dsql_engine_hearing.specs.history.Same.{same_level}
use Rattle.dsql_engine_hearing.specs.history.Readers.Calls.{site}
use Rattle.dsql_engine_hearing.specs.history.Readers.Course.{caps}
use Rattle.dsql_engine_hearing.specs.history.Readers.HandedOut.{are_over, ender}
use Rattle.dsql_engine_hearing.specs.history.Readers.Journals.{heard_in, journal}
use Rattle.dsql_engine_hearing.specs.history.Readers.Lines.{line_in}
use Rattle.dsql_engine_hearing.specs.history.Readers.Pool.{home, place}
use Rattle.dsql_engine_hearing.specs.history.Readers.Transactions.{is_begun, tx_end, tx_ender}
use Rattle.dsql_engine_hearing.specs.history.Readers.Works.{borrower, hands_out_in, scope, work, works}
use Rattle.dsql_engine_hearing.specs.history.Rules.Ending.{end_after, ended_by_call, ending, ending_at, ending_with, first_closing}
use Rattle.dsql_engine_hearing.specs.history.Rules.Line.{is_due, tidying}
use Rattle.dsql_engine_hearing.specs.history.Rules.Sent.{begin_after, begin_line, close_due, Sender, sender, line_at, line_for, line_of, line_with, untested}
use Rattle.dsql_engine_hearing.specs.history.Legal.{Lawful}
use Rattle.dsql_engine_hearing.proofs.lines.OverRows.{to_tidy}

-- Is true if there is no driver call, or it neither connects nor shuts.
abbrev opens_none : Option DriverCall → Bool
opens_none None = true
opens_none (Some q) = not (is_connect q || is_shut q)

-- A choice between two driver calls neither connects nor shuts if both don't.

either : (b : Bool) (c d : Option DriverCall) → opens_none c ≡ true → opens_none d ≡ true → opens_none (cond b c d) ≡ true
either true c d h k = h
either false c d h k = k

first_or : (c d : Option DriverCall) → opens_none c ≡ true → opens_none d ≡ true → opens_none (or_else c d) ≡ true
first_or None d h k = k
first_or (Some q) d h k = h

-- The line of a call.

test_opens : (can : Caps) → opens_none (test_of can) ≡ true
test_opens can = either can.validator (Some calls.Valid) None refl refl

run_opens : (aim : Aim) (input : Input) (params : List Param) → opens_none (Some (run_for aim input params)) ≡ true
run_opens aims.Execute input params = refl
run_opens aim input params = refl

sent_opens : (can : Caps) (asked : Asked) (d : Due) → opens_none (sent_as can asked d) ≡ true
sent_opens can asked due.Text = run_opens asked.aim (Text asked.text) asked.params
sent_opens can asked due.Prepare = refl
sent_opens can asked (due.Handle handle) = run_opens asked.aim (Handle handle) asked.params
sent_opens can asked (due.Next rows) = refl
sent_opens can asked (due.CloseRows rows) = refl
sent_opens can asked (due.CloseStmt handle) = refl
sent_opens can asked due.Ping = refl
sent_opens can asked d = test_opens can

over_opens : (can : Caps) (asked : Asked) (d : Option Due) → opens_none (sent_over can asked d) ≡ true
over_opens can asked None = refl
over_opens can asked (Some d) = sent_opens can asked d

body_opens : (can : Caps) (asked : Asked) (w : Wish) (made : List Exchange) (o : Option ℕ) → opens_none (body_with can false asked w made o) ≡ true
body_opens can asked w made None = sent_opens can asked (comes_next (course_of asked.aim) can (length asked.params) (found false) made)
body_opens can asked w made (Some rows) = over_opens can asked (rows_next w can (length asked.params) made rows)

call_opens : (can : Caps) (reset : Bool) (asked : Asked) (w : Wish) (L : List Entry) → opens_none (line_after can reset asked w L) ≡ true
call_opens can reset asked w [] = either reset (Some calls.Reset) (body_after can false asked w []) refl (body_opens can asked w [] (handed asked.aim []))
call_opens can reset asked w (e ∷ earlier) =
    let made = exchanges (e ∷ earlier) in
    either (is_bad e.answer || is_valid e.call) None (body_after can false asked w made) refl (body_opens can asked w made (handed asked.aim made))

inner_opens : (can : Caps) (bad : Bool) (asked : Asked) (w : Wish) (made : List Exchange) (o : Option ℕ) → opens_none (body_with can bad asked w made o) ≡ true
inner_opens can bad asked w made None = sent_opens can asked (comes_next (course_of asked.aim) can (length asked.params) (found bad) made)
inner_opens can bad asked w made (Some rows) = over_opens can asked (rows_next_of courses.Query bad w can (length asked.params) made rows)

begin_opens : (can : Caps) (reset : Bool) (level : Level) (read_only : Bool) (L : List Entry) → opens_none (begin_line can reset (calls.Begin level read_only) L) ≡ true
begin_opens can reset level read_only [] = either reset (Some calls.Reset) (Some (calls.Begin level read_only)) refl refl
begin_opens can reset level read_only (e ∷ earlier) =
    either (is_bad e.answer || is_valid e.call) None (begin_after can (calls.Begin level read_only) e) refl
    (either (is_begin e.call) (cond (is_done e.answer) None (test_of can)) (Some (calls.Begin level read_only)) (either (is_done e.answer) None (test_of can) refl (test_opens can)) refl)

with_opens : (S : Sender) (it : Work) (s : Scope) (L : List Entry) → opens_none (line_for it s S L) ≡ true
with_opens S (works_of.Begin label level read_only) s L = begin_opens S.can S.reset_due level read_only L
with_opens S it Db L = call_opens S.can S.reset_due S.asked S.wish L
with_opens S it (Held k) L = inner_opens (untested S.can) S.bad S.asked S.wish (exchanges L) (handed S.asked.aim (exchanges L))

line_opens : (H : List Event) (n : ℕ) (w : Wish) (c : ℕ) (at : Option Place) → opens_none (line_at H n w c at) ≡ true
line_opens H n w c (Some (Lent t o)) =
    let L = line_in o n (heard_in H c t) in
    either (number_of o == borrower H n) (line_with (sender H n c w) L) None (with_opens (sender H n c w) (work H n) (scope (work H n)) L) refl
line_opens H n w c at = refl

-- What closes rows, and what ends a transaction.

closing_opens : (H : List Event) (n : ℕ) → opens_none (close_due H n) ≡ true
closing_opens H n = either (are_over H n) (line_of H n wishes.Close) None (line_opens H n wishes.Close (site H n) (place H (site H n))) refl

first_opens : (H : List Event) (k n : ℕ) (ws : List Work) → opens_none (first_closing H k n ws) ≡ true
first_opens H k n [] = refl
first_opens H k n (it ∷ later) =
    first_or (cond (hands_out_in k it) (close_due H n) None) (first_closing H k (n + 1) later) (either (hands_out_in k it) (close_due H n) None (closing_opens H n) refl) (first_opens H k (n + 1) later)

ended_opens : (end : TxEnd) → opens_none (Some (ended_by_call end)) ≡ true
ended_opens ends.Commit = refl
ended_opens end = refl

after_opens : (H : List Event) (bad : Bool) (end : TxEnd) (L : List Entry) → opens_none (end_after H bad end L) ≡ true
after_opens H bad end L =
    let tests = bad || list_any (λ e. is_valid e.call) L in
    either (list_any (λ e. is_ending e.call) L) (cond tests None (test_of (caps H))) (Some (ended_by_call end)) (either tests None (test_of (caps H)) refl (test_opens (caps H))) (ended_opens end)

ending_opens : (H : List Event) (k : ℕ) → opens_none (ending H k) ≡ true
ending_opens H k = by (tx_end H k)
  where
    at_home : (c : ℕ) (end : TxEnd) (at : Option Place) → opens_none (ending_at H k c end at) ≡ true
    at_home c end (Some (Lent t o)) =
        let rows = first_closing H k 0 (works H) in
        let after = end_after H (went_bad (journal H c)) end (heard_in H c t) in
        either (number_of o == k) (or_else rows after) None (first_or rows after (first_opens H k 0 (works H)) (after_opens H (went_bad (journal H c)) end (heard_in H c t))) refl
    at_home c end at = refl

    by : (o : Option TxEnd) → opens_none (ending_with H k o) ≡ true
    by None = refl
    by (Some end) = at_home (home H k) end (place H (home H k))

tidying_opens : (H : List Event) (n : ℕ) → opens_none (tidying H n) ≡ true
tidying_opens H n =
    either (is_begun H n) (cond (tx_ender H n == 0) (ending H n) None) (cond (ender H n == 0) (close_due H n) None)
    (either (tx_ender H n == 0) (ending H n) None (ending_opens H n) refl) (either (ender H n == 0) (close_due H n) None (closing_opens H n) refl)

pub neither : (H : List Event) (n : ℕ) (q : DriverCall) → tidying H n ≡ Some q → (is_connect q ≡ false) × (is_shut q ≡ false)
neither H n q is = by q (ap opens_none (sym is) ∙ tidying_opens H n)
  where
    by : (p : DriverCall) → opens_none (Some p) ≡ true → (is_connect p ≡ false) × (is_shut p ≡ false)
    by calls.Connect h = absurd cc
    by calls.Shut h = absurd cc
    by p h = (refl, refl)

-- A driver call that carries no statement is the same as itself.

call_itself : (q : DriverCall) → carries_statement q ≡ false → opens_none (Some q) ≡ true → is_due (Some q) q ≡ true
call_itself (calls.Begin level read_only) bare h = together (same_level level level) (same_truth read_only read_only) (level_itself level) (truth_itself read_only)
call_itself (calls.Next rows) bare h = same_itself rows
call_itself (calls.CloseRows rows) bare h = same_itself rows
call_itself (calls.CloseStmt handle) bare h = same_itself handle
call_itself calls.Reset bare h = refl
call_itself calls.Valid bare h = refl
call_itself calls.Ping bare h = refl
call_itself calls.Commit bare h = refl
call_itself calls.Rollback bare h = refl
call_itself q bare h = absurd cc

-- Therefore what tidies up is due to itself.
pub tidying_itself : (H : List Event) (n : ℕ) (q : DriverCall) → Lawful H → tidying H n ≡ Some q → is_due (Some q) q ≡ true
tidying_itself H n q l is = call_itself q (to_tidy H n q l is) (ap opens_none (sym is) ∙ tidying_opens H n)
