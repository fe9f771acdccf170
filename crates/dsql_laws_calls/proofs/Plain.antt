-- What calls send in their lines begins and ends no transaction, except in the line of a begin.
use Rattle.std.proofs.Common.{◌≡◌, ℕ, ◌==◌, Bool, true, false, not, ◌||◌, cond, List, [], ◌∷◌, Option, Some, None, length, refl}
use Rattle.dsql_laws.specs.value.declared.value.Param.{Param}
use Rattle.dsql_laws.specs.driver.declared.caps.Caps.{Caps}
use Rattle.dsql_laws.specs.driver.declared.call.DriverCall.{DriverCall}
use Rattle.dsql_laws.specs.driver.declared.call.DriverCall.TheVariants.{Reset, Exec, Query, Begin, Commit, Rollback}
use Rattle.dsql_laws.specs.driver.declared.call.Input.{Input}
use Rattle.dsql_laws.specs.driver.declared.call.Input.TheVariants.{Text, Handle}
use Rattle.dsql_laws.specs.driver.declared.call.Level.{Level}
use Rattle.dsql_laws.specs.driver.Kinds.{is_bad, is_valid, is_begin, is_ending}
use Rattle.dsql_laws.specs.driver.Fits.{is_done}
use Rattle.dsql_laws.specs.course.declared.call.Due.{Due}
use Rattle.dsql_laws.specs.course.declared.call.Due.TheVariants as due
use Rattle.dsql_laws.specs.course.declared.course.Wish.{Wish}
use Rattle.dsql_laws.specs.course.Made.{Exchange}
use Rattle.dsql_laws.specs.course.Line.{comes_next}
use Rattle.dsql_laws.specs.course.Rows.{rows_next, rows_next_of}
use Rattle.dsql_laws.specs.course.declared.course.Course.TheVariants as courses
use Rattle.dsql_laws.specs.journal.declared.entry.Entry.{Entry}
use Rattle.dsql_laws.specs.journal.Kinds.{number_of}
use Rattle.dsql_laws.specs.pool.declared.conn.Place.{Place}
use Rattle.dsql_laws.specs.pool.declared.conn.Place.TheVariants.{Lent}
use Rattle.dsql_laws.specs.works.declared.work.Aim.{Aim}
use Rattle.dsql_laws.specs.works.declared.work.Aim.TheVariants as aims
use Rattle.dsql_laws.specs.works.Exchanges.{exchanges}
use Rattle.dsql_laws.specs.works.Line.{Asked, test_of, run_for, sent_as, sent_over, handed, found, body_with, body_after, course_of, line_after}
use Rattle.dsql_laws.specs.history.declared.event.Event.{Event}
use Rattle.dsql_laws.specs.history.declared.work.Scope.{Scope}
use Rattle.dsql_laws.specs.history.declared.work.Scope.TheVariants.{Db, Held}
use Rattle.dsql_laws.specs.history.declared.work.Work.{Work}
use Rattle.dsql_laws.specs.history.declared.work.Work.TheVariants as works
use Rattle.dsql_laws.specs.history.Readers.Works.{work, scope, borrower}
use Rattle.dsql_laws.specs.history.Readers.Journals.{heard_in}
use Rattle.dsql_laws.specs.history.Readers.Pool.{place}
use Rattle.dsql_laws.specs.history.Readers.Lines.{line_in}
use Rattle.dsql_laws.specs.history.Readers.Calls.{site}
use Rattle.dsql_laws.specs.history.Rules.Sent.{untested, begin_after, begin_line, Sender, sender, line_for, line_with, line_at, line_of}
use Rattle.dsql_laws.specs.history.Rules.Line.{is_due}

-- Is true if the driver call neither begins nor ends a transaction.
abbrev pub is_plain : Option DriverCall → Bool
is_plain None = true
is_plain (Some q) = not (is_begin q || is_ending q)

-- Is true if the driver call ends no transaction.
abbrev pub ends_none : Option DriverCall → Bool
ends_none None = true
ends_none (Some q) = not (is_ending q)

-- Is true if the driver call begins no transaction.
abbrev pub begins_none : Option DriverCall → Bool
begins_none None = true
begins_none (Some q) = not (is_begin q)

pub plain_ends : (d : Option DriverCall) → is_plain d ≡ true → ends_none d ≡ true
plain_ends None h = refl
plain_ends (Some (Begin level read_only)) h = absurd cc
plain_ends (Some Commit) h = absurd cc
plain_ends (Some Rollback) h = absurd cc
plain_ends (Some q) h = refl

pub plain_begins : (d : Option DriverCall) → is_plain d ≡ true → begins_none d ≡ true
plain_begins None h = refl
plain_begins (Some (Begin level read_only)) h = absurd cc
plain_begins (Some Commit) h = absurd cc
plain_begins (Some Rollback) h = absurd cc
plain_begins (Some q) h = refl

-- The same holds for a driver call that is due.

pub no_ending_due : (d : Option DriverCall) (q : DriverCall) → ends_none d ≡ true → is_due d q ≡ true → is_ending q ≡ false
no_ending_due (Some Commit) q h k = absurd cc
no_ending_due (Some Rollback) q h k = absurd cc
no_ending_due (Some (Exec (Text x) params)) Commit h k = absurd cc
no_ending_due (Some (Exec (Handle x) params)) Commit h k = absurd cc
no_ending_due (Some (Query (Text x) params)) Commit h k = absurd cc
no_ending_due (Some (Query (Handle x) params)) Commit h k = absurd cc
no_ending_due (Some (Exec (Text x) params)) Rollback h k = absurd cc
no_ending_due (Some (Exec (Handle x) params)) Rollback h k = absurd cc
no_ending_due (Some (Query (Text x) params)) Rollback h k = absurd cc
no_ending_due (Some (Query (Handle x) params)) Rollback h k = absurd cc
no_ending_due d Commit h k = absurd cc
no_ending_due d Rollback h k = absurd cc
no_ending_due d q h k = refl

pub no_begin_due : (d : Option DriverCall) (q : DriverCall) → begins_none d ≡ true → is_due d q ≡ true → is_begin q ≡ false
no_begin_due (Some (Begin level read_only)) q h k = absurd cc
no_begin_due (Some (Exec (Text x) params)) (Begin level read_only) h k = absurd cc
no_begin_due (Some (Exec (Handle x) params)) (Begin level read_only) h k = absurd cc
no_begin_due (Some (Query (Text x) params)) (Begin level read_only) h k = absurd cc
no_begin_due (Some (Query (Handle x) params)) (Begin level read_only) h k = absurd cc
no_begin_due d (Begin level read_only) h k = absurd cc
no_begin_due d q h k = refl

-- Each line.

either_plain : (b : Bool) (c d : Option DriverCall) → is_plain c ≡ true → is_plain d ≡ true → is_plain (cond b c d) ≡ true
either_plain true c d h k = h
either_plain false c d h k = k

pub test_plain : (can : Caps) → is_plain (test_of can) ≡ true
test_plain can = elim can.validator as (λ b. is_plain (test_of (record can { validator = b })) ≡ true) [ true ↦ refl | false ↦ refl ]

run_plain : (aim : Aim) (input : Input) (params : List Param) → is_plain (Some (run_for aim input params)) ≡ true
run_plain aims.Execute input params = refl
run_plain _ input params = refl

sent_plain : (can : Caps) (asked : Asked) (d : Due) → is_plain (sent_as can asked d) ≡ true
sent_plain can asked due.Text = run_plain asked.aim (Text asked.text) asked.params
sent_plain can asked due.Prepare = refl
sent_plain can asked (due.Handle handle) = run_plain asked.aim (Handle handle) asked.params
sent_plain can asked (due.Next rows) = refl
sent_plain can asked (due.CloseRows rows) = refl
sent_plain can asked (due.CloseStmt handle) = refl
sent_plain can asked due.Ping = refl
sent_plain can asked _ = test_plain can

over_plain : (can : Caps) (asked : Asked) (o : Option Due) → is_plain (sent_over can asked o) ≡ true
over_plain can asked None = refl
over_plain can asked (Some d) = sent_plain can asked d

body_plain : (can : Caps) (asked : Asked) (w : Wish) (made : List Exchange) (o : Option ℕ) → is_plain (body_with can false asked w made o) ≡ true
body_plain can asked w made None = sent_plain can asked (comes_next (course_of asked.aim) can (length asked.params) (found false) made)
body_plain can asked w made (Some rows) = over_plain can asked (rows_next w can (length asked.params) made rows)

pub line_plain : (can : Caps) (reset : Bool) (asked : Asked) (w : Wish) (L : List Entry) → is_plain (line_after can reset asked w L) ≡ true
line_plain can reset asked w [] = either_plain reset (Some Reset) (body_after can false asked w []) refl (body_plain can asked w [] (handed asked.aim []))
line_plain can reset asked w (e ∷ earlier) =
    let made = exchanges (e ∷ earlier) in
    either_plain (is_bad e.answer || is_valid e.call) None (body_after can false asked w made) refl (body_plain can asked w made (handed asked.aim made))

inner_plain : (can : Caps) (bad : Bool) (asked : Asked) (w : Wish) (made : List Exchange) (o : Option ℕ) → is_plain (body_with can bad asked w made o) ≡ true
inner_plain can bad asked w made None = sent_plain can asked (comes_next (course_of asked.aim) can (length asked.params) (found bad) made)
inner_plain can bad asked w made (Some rows) = over_plain can asked (rows_next_of courses.Query bad w can (length asked.params) made rows)

-- Is true if the call begins a transaction.
abbrev pub begins : Work → Bool
begins (works.Begin label level read_only) = true
begins w = false

with_plain : (S : Sender) (it : Work) (s : Scope) (L : List Entry) → begins it ≡ false → is_plain (line_for it s S L) ≡ true
with_plain S (works.Begin label level read_only) s L not_begin = absurd cc
with_plain S it Db L not_begin = line_plain S.can S.reset_due S.asked S.wish L
with_plain S it (Held k) L not_begin = inner_plain (untested S.can) S.bad S.asked S.wish (exchanges L) (handed S.asked.aim (exchanges L))

at_plain : (H : List Event) (n : ℕ) (w : Wish) (c : ℕ) (at : Option Place) → begins (work H n) ≡ false → is_plain (line_at H n w c at) ≡ true
at_plain H n w c (Some (Lent t o)) not_begin =
    let L = line_in o n (heard_in H c t) in
    either_plain (number_of o == borrower H n) (line_with (sender H n c w) L) None (with_plain (sender H n c w) (work H n) (scope (work H n)) L not_begin) refl
at_plain H n w c _ not_begin = refl

pub line_of_plain : (H : List Event) (n : ℕ) (w : Wish) → begins (work H n) ≡ false → is_plain (line_of H n w) ≡ true
line_of_plain H n w not_begin = at_plain H n w (site H n) (place H (site H n)) not_begin

-- No line ends a transaction.

either_ends : (b : Bool) (c d : Option DriverCall) → ends_none c ≡ true → ends_none d ≡ true → ends_none (cond b c d) ≡ true
either_ends true c d h k = h
either_ends false c d h k = k

begin_ends : (can : Caps) (reset : Bool) (level : Level) (read_only : Bool) (L : List Entry) → ends_none (begin_line can reset (Begin level read_only) L) ≡ true
begin_ends can reset level read_only [] = either_ends reset (Some Reset) (Some (Begin level read_only)) refl refl
begin_ends can reset level read_only (e ∷ earlier) =
    either_ends (is_bad e.answer || is_valid e.call) None (begin_after can (Begin level read_only) e) refl
    (either_ends (is_begin e.call) (cond (is_done e.answer) None (test_of can)) (Some (Begin level read_only))
    (either_ends (is_done e.answer) None (test_of can) refl (plain_ends (test_of can) (test_plain can))) refl)

for_ends : (S : Sender) (it : Work) (s : Scope) (L : List Entry) → ends_none (line_for it s S L) ≡ true
for_ends S (works.Begin label level read_only) s L = begin_ends S.can S.reset_due level read_only L
for_ends S it s L = plain_ends (line_for it s S L) (with_plain S it s L refl)

pub with_ends : (S : Sender) (L : List Entry) → ends_none (line_with S L) ≡ true
with_ends S L = for_ends S S.work (scope S.work) L

pub at_ends : (H : List Event) (n : ℕ) (w : Wish) (c : ℕ) (at : Option Place) → ends_none (line_at H n w c at) ≡ true
at_ends H n w c (Some (Lent t o)) =
    let L = line_in o n (heard_in H c t) in
    either_ends (number_of o == borrower H n) (line_with (sender H n c w) L) None (with_ends (sender H n c w) L) refl
at_ends H n w c _ = refl
