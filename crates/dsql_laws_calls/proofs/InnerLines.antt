-- The line of a call in a transaction. Once such a call has nothing more to send, this stays so, whatever
-- answers are heard for other calls.
use Rattle.std.proofs.Common.{◌≡◌, ℕ, ℤ, Bool, true, false, not, ◌&&◌, ◌||◌, List, [], ◌∷◌, Option, Some, None, is_some, is_none, refl, sym, ap, ◌∙◌, if◌then◌else◌}
use Rattle.std.specs.List.{list_any}
use Rattle.std.specs.Option.{option_map}
use Rattle.dsql_laws.specs.value.Arguments.{count_fault}
use Rattle.dsql_laws.specs.driver.declared.caps.Caps.{Caps}
use Rattle.dsql_laws.specs.course.declared.course.Course.{Course}
use Rattle.dsql_laws.specs.course.declared.course.Course.TheVariants as courses
use Rattle.dsql_laws.specs.course.declared.call.Due.{Due}
use Rattle.dsql_laws.specs.course.declared.call.Due.TheVariants as due
use Rattle.dsql_laws.specs.course.Steps.{Step, RunText, PrepareText, RunHandle, FetchRow, CloseCursor, CloseHandle, PingIt, BeginIt, UndoIt}
use Rattle.dsql_laws.specs.course.Made.{Exchange, was_skipped, own_handle, own_cursor, or_else, has_fast_way, reads_one}
use Rattle.dsql_laws.specs.course.Line.{lets_handle_go, wanted, when, run_with, or_then, first_wanted, steps_left}
use Rattle.dsql_laws.specs.journal.Kinds.{is_number}
use Rattle.dsql_laws.specs.works.Line.{Asked, sent_as, found}
use Rattle.dsql_laws.specs.history.Readers.Lines.{closes_cursor, has_cursor}
use Rattle.dsql_laws.specs.history.Rules.Sent.{untested}

-- Is true if this step of a course is sent as a driver call.
abbrev pub sends : Caps → Asked → Due → Bool
sends can asked d = is_some (sent_as (untested can) asked d)

-- A call that sends on a bad connection would also send on a good one.

pub bad_sends : (can cn : Caps) (asked : Asked) (c : Course) (n : ℕ) (made : List Exchange) (ss : List Step) → sends can asked (first_wanted c cn n (found true) made ss) ≡ true → sends can asked (first_wanted c cn n (found false) made ss) ≡ true
bad_sends can cn asked c n made [] h = h
bad_sends can cn asked c n made (s ∷ later) h = by s (bad_sends can cn asked c n made later) h
  where
    rest : Bool → Due
    rest b = first_wanted c cn n (found b) made later

    same : (o : Option Due) → (sends can asked (rest true) ≡ true → sends can asked (rest false) ≡ true) → sends can asked (or_then o (rest true)) ≡ true → sends can asked (or_then o (rest false)) ≡ true
    same None more k = more k
    same (Some d) more k = k

    close_rows : (o : Option ℕ) → sends can asked (rest false) ≡ true → sends can asked (or_then (option_map (λ rows. due.CloseRows rows) o) (rest false)) ≡ true
    close_rows None k = k
    close_rows (Some rows) k = refl

    close_handle : (o : Option (ℕ × ℤ)) → sends can asked (rest false) ≡ true → sends can asked (or_then (option_map (λ (handle : ℕ × ℤ). due.CloseStmt handle.0) o) (rest false)) ≡ true
    close_handle None k = k
    close_handle (Some handle) k = refl

    unless_rows : (b : Bool) → sends can asked (rest false) ≡ true → sends can asked (or_then (if b && true then option_map (λ rows. due.CloseRows rows) (own_cursor made) else None) (rest false)) ≡ true
    unless_rows true k = close_rows (own_cursor made) k
    unless_rows false k = k

    unless_handle : (b : Bool) → sends can asked (rest false) ≡ true → sends can asked (or_then (if b && true then option_map (λ (handle : ℕ × ℤ). due.CloseStmt handle.0) (own_handle made) else None) (rest false)) ≡ true
    unless_handle true k = close_handle (own_handle made) k
    unless_handle false k = k

    dropped : (b : Bool) → (b && false) ≡ false
    dropped true = refl
    dropped false = refl

    by : (x : Step) → (sends can asked (rest true) ≡ true → sends can asked (rest false) ≡ true) → sends can asked (or_then (wanted c cn n (found true) made x) (rest true)) ≡ true → sends can asked (or_then (wanted c cn n (found false) made x) (rest false)) ≡ true
    by CloseCursor more k =
        let later_sends : sends can asked (rest true) ≡ true = sym (ap (λ b. sends can asked (or_then (if b then option_map (λ rows. due.CloseRows rows) (own_cursor made) else None) (rest true))) (dropped (reads_one c))) ∙ k in
        unless_rows (reads_one c) (more later_sends)
    by CloseHandle more k =
        let go = lets_handle_go c (found true) made in
        let later_sends : sends can asked (rest true) ≡ true =
        sym (ap (λ b. sends can asked (or_then (if b then option_map (λ (handle : ℕ × ℤ). due.CloseStmt handle.0) (own_handle made) else None) (rest true))) (dropped go)) ∙ k
        in
        unless_handle (lets_handle_go c (found false) made) (more later_sends)
    by RunText more k = same (wanted c cn n (found true) made RunText) more k
    by PrepareText more k = same (wanted c cn n (found true) made PrepareText) more k
    by RunHandle more k = same (wanted c cn n (found true) made RunHandle) more k
    by FetchRow more k = same (wanted c cn n (found true) made FetchRow) more k
    by PingIt more k = same (wanted c cn n (found true) made PingIt) more k
    by BeginIt more k = same (wanted c cn n (found true) made BeginIt) more k
    by UndoIt more k = same (wanted c cn n (found true) made UndoIt) more k

-- The course of a call that reads one row, step by step, on a good connection.

-- Holds if no cursor is open after these exchanges.
abbrev pub NoCursor : List Exchange → Type 0
NoCursor made = (r : ℕ) → has_cursor made r ≡ false

pub no_cursor : (made : List Exchange) → own_cursor made ≡ None → NoCursor made
no_cursor made none r = ap (λ o. is_number o r && not (list_any (λ x. closes_cursor r x.0) made)) none

-- Holds if the newest exchange belongs to such a course and closed the cursor before the handle.
abbrev pub Ordered : List Exchange → Type 0
Ordered [] = Unit {0}
Ordered ((due.Text, a) ∷ earlier) = Unit {0}
Ordered ((due.Prepare, a) ∷ earlier) = Unit {0}
Ordered ((due.Handle handle, a) ∷ earlier) = Unit {0}
Ordered ((due.Next rows, a) ∷ earlier) = Unit {0}
Ordered ((due.CloseRows rows, a) ∷ earlier) = NoCursor ((due.CloseRows rows, a) ∷ earlier)
Ordered ((due.CloseStmt handle, a) ∷ earlier) = NoCursor ((due.CloseStmt handle, a) ∷ earlier)
Ordered (x ∷ earlier) = ⊥

-- Holds if this may come next in such a course.
abbrev pub OneDue : List Exchange → Due → Type 0
OneDue made (due.CloseRows rows) = own_cursor made ≡ Some rows
OneDue made (due.CloseStmt handle) = NoCursor made
OneDue made due.Ping = ⊥
OneDue made due.Begin = ⊥
OneDue made due.Rollback = ⊥
OneDue made d = Unit {0}

abbrev one_wanted : Caps → ℕ → List Exchange → List Step → Due
one_wanted can n made ss = first_wanted courses.One can n (found false) made ss

tail_handle : (can : Caps) (n : ℕ) (made : List Exchange) → NoCursor made → OneDue made (one_wanted can n made (CloseHandle ∷ []))
tail_handle can n made closed = by (own_handle made)
  where
    by : (o : Option (ℕ × ℤ)) → OneDue made (or_then (option_map (λ (handle : ℕ × ℤ). due.CloseStmt handle.0) o) due.Over)
    by None = tt
    by (Some handle) = closed

tail_cursor : (can : Caps) (n : ℕ) (made : List Exchange) → OneDue made (one_wanted can n made (CloseCursor ∷ CloseHandle ∷ []))
tail_cursor can n made = by (own_cursor made) refl
  where
    by : (o : Option ℕ) → own_cursor made ≡ o → OneDue made (or_then (option_map (λ rows. due.CloseRows rows) o) (one_wanted can n made (CloseHandle ∷ [])))
    by None is = tail_handle can n made (no_cursor made is)
    by (Some rows) is = is

tail_fetch : (can : Caps) (n : ℕ) (made : List Exchange) → OneDue made (one_wanted can n made (FetchRow ∷ CloseCursor ∷ CloseHandle ∷ []))
tail_fetch can n made = by (own_cursor made)
  where
    by : (o : Option ℕ) → OneDue made (or_then (option_map (λ rows. due.Next rows) o) (one_wanted can n made (CloseCursor ∷ CloseHandle ∷ [])))
    by None = tail_cursor can n made
    by (Some rows) = tt

run_due : (made : List Exchange) (n : ℕ) (o : Option (ℕ × ℤ)) (d : Due) → OneDue made d → OneDue made (or_then (run_with n o) d)
run_due made n None d later = later
run_due made n (Some handle) d later = by (is_none (count_fault handle.1 n))
  where
    by : (b : Bool) → OneDue made (or_then (when b (due.Handle handle.0)) d)
    by true = tt
    by false = later

when_due : (made : List Exchange) (b : Bool) (e d : Due) → OneDue made e → OneDue made d → OneDue made (or_then (when b e) d)
when_due made true e d first later = first
when_due made false e d first later = later

tail_run : (can : Caps) (n : ℕ) (made : List Exchange) → OneDue made (one_wanted can n made (RunHandle ∷ FetchRow ∷ CloseCursor ∷ CloseHandle ∷ []))
tail_run can n made = run_due made n (or_else (own_handle made) None) (one_wanted can n made (FetchRow ∷ CloseCursor ∷ CloseHandle ∷ [])) (tail_fetch can n made)

tail_prepare : (can : Caps) (n : ℕ) (made : List Exchange) → OneDue made (one_wanted can n made (PrepareText ∷ RunHandle ∷ FetchRow ∷ CloseCursor ∷ CloseHandle ∷ []))
tail_prepare can n made =
    when_due made (true && (not (has_fast_way courses.One can) || was_skipped made) && true) due.Prepare (one_wanted can n made (RunHandle ∷ FetchRow ∷ CloseCursor ∷ CloseHandle ∷ [])) tt (tail_run can n made)

pub one_due : (can : Caps) (n : ℕ) (made : List Exchange) → Ordered made → OneDue made (one_wanted can n made (steps_left courses.One made))
one_due can n [] o = when_due [] (has_fast_way courses.One can && true) due.Text (one_wanted can n [] (PrepareText ∷ RunHandle ∷ FetchRow ∷ CloseCursor ∷ CloseHandle ∷ [])) tt (tail_prepare can n [])
one_due can n ((due.Text, a) ∷ earlier) o = tail_prepare can n ((due.Text, a) ∷ earlier)
one_due can n ((due.Prepare, a) ∷ earlier) o = tail_run can n ((due.Prepare, a) ∷ earlier)
one_due can n ((due.Handle handle, a) ∷ earlier) o = tail_fetch can n ((due.Handle handle, a) ∷ earlier)
one_due can n ((due.Next rows, a) ∷ earlier) o = tail_cursor can n ((due.Next rows, a) ∷ earlier)
one_due can n ((due.CloseRows rows, a) ∷ earlier) o = tail_handle can n ((due.CloseRows rows, a) ∷ earlier) o
one_due can n ((due.CloseStmt handle, a) ∷ earlier) o = tt
one_due can n (x ∷ earlier) o = absurd o

-- If nothing comes next, the call's cursor isn't open.

cursor_sends : (can cn : Caps) (asked : Asked) (n rows : ℕ) (made : List Exchange) → own_cursor made ≡ Some rows → sends can asked (one_wanted cn n made (CloseCursor ∷ CloseHandle ∷ [])) ≡ true
cursor_sends can cn asked n rows made is = rw is refl

fetch_sends : (can cn : Caps) (asked : Asked) (n rows : ℕ) (made : List Exchange) → own_cursor made ≡ Some rows → sends can asked (one_wanted cn n made (FetchRow ∷ CloseCursor ∷ CloseHandle ∷ [])) ≡ true
fetch_sends can cn asked n rows made is = rw is refl

run_sends : (can cn : Caps) (asked : Asked) (n rows : ℕ) (made : List Exchange) → own_cursor made ≡ Some rows → sends can asked (one_wanted cn n made (RunHandle ∷ FetchRow ∷ CloseCursor ∷ CloseHandle ∷ [])) ≡ true
run_sends can cn asked n rows made is = by (or_else (own_handle made) None)
  where
    later : Due
    later = one_wanted cn n made (FetchRow ∷ CloseCursor ∷ CloseHandle ∷ [])

    when_run : (b : Bool) (handle : ℕ) → sends can asked (or_then (when b (due.Handle handle)) later) ≡ true
    when_run true handle = refl
    when_run false handle = fetch_sends can cn asked n rows made is

    by : (o : Option (ℕ × ℤ)) → sends can asked (or_then (run_with n o) later) ≡ true
    by None = fetch_sends can cn asked n rows made is
    by (Some handle) = when_run (is_none (count_fault handle.1 n)) handle.0

prepare_sends : (can cn : Caps) (asked : Asked) (n rows : ℕ) (made : List Exchange) → own_cursor made ≡ Some rows → sends can asked (one_wanted cn n made (PrepareText ∷ RunHandle ∷ FetchRow ∷ CloseCursor ∷ CloseHandle ∷ [])) ≡ true
prepare_sends can cn asked n rows made is = by (true && (not (has_fast_way courses.One cn) || was_skipped made) && true)
  where
    by : (b : Bool) → sends can asked (or_then (when b due.Prepare) (one_wanted cn n made (RunHandle ∷ FetchRow ∷ CloseCursor ∷ CloseHandle ∷ []))) ≡ true
    by true = refl
    by false = run_sends can cn asked n rows made is

pub clash : {A : Type 0} → true ≡ false → A
clash h = absurd cc

pub ended_cursor : (can cn : Caps) (asked : Asked) (n : ℕ) (made : List Exchange) → Ordered made → sends can asked (one_wanted cn n made (steps_left courses.One made)) ≡ false → NoCursor made
ended_cursor can cn asked n made o none = by (own_cursor made) refl
  where
    open_sends : (rows : ℕ) (xs : List Exchange) → own_cursor xs ≡ Some rows → Ordered xs → sends can asked (one_wanted cn n xs (steps_left courses.One xs)) ≡ false → NoCursor xs
    open_sends rows [] is k h = absurd cc
    open_sends rows ((due.Text, a) ∷ earlier) is k h = clash (sym (prepare_sends can cn asked n rows ((due.Text, a) ∷ earlier) is) ∙ h)
    open_sends rows ((due.Prepare, a) ∷ earlier) is k h = clash (sym (run_sends can cn asked n rows ((due.Prepare, a) ∷ earlier) is) ∙ h)
    open_sends rows ((due.Handle handle, a) ∷ earlier) is k h = clash (sym (fetch_sends can cn asked n rows ((due.Handle handle, a) ∷ earlier) is) ∙ h)
    open_sends rows ((due.Next cursor, a) ∷ earlier) is k h = clash (sym (cursor_sends can cn asked n rows ((due.Next cursor, a) ∷ earlier) is) ∙ h)
    open_sends rows ((due.CloseRows cursor, a) ∷ earlier) is k h = k
    open_sends rows ((due.CloseStmt handle, a) ∷ earlier) is k h = k
    open_sends rows (x ∷ earlier) is k h = absurd k

    by : (c : Option ℕ) → own_cursor made ≡ c → NoCursor made
    by None is = no_cursor made is
    by (Some rows) is = open_sends rows made is o none
