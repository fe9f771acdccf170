-- The newest exchange of a line whose exchanges were each due when they were sent. A cursor that was fetched
-- from was opened, the cursor is closed before the handle, and the line closed only its own.
use Rattle.std.proofs.Common.{◌≡◌, ℕ, ℤ, ◌==◌, Bool, true, false, not, ◌&&◌, ◌||◌, List, [], ◌∷◌, Option, Some, None, is_some, length, refl, sym, ap, subst, ◌∙◌, if◌then◌else◌}
use Rattle.std.specs.List.{list_any}
use Rattle.std.specs.Option.{option_map}
use Rattle.dsql_laws_calls.specs.driver.declared.caps.Caps.{Caps}
use Rattle.dsql_laws_calls.specs.driver.declared.call.DriverCall.{DriverCall}
use Rattle.dsql_laws_calls.specs.driver.declared.call.DriverCall.TheVariants as calls
use Rattle.dsql_laws_calls.specs.driver.declared.call.Input.TheVariants.{Text, Handle}
use Rattle.dsql_laws_calls.specs.driver.declared.answer.DriverAnswer.{DriverAnswer}
use Rattle.dsql_laws_calls.specs.driver.declared.answer.DriverAnswer.TheVariants as answers
use Rattle.dsql_laws_calls.specs.driver.Fits.{fits_of, is_memory}
use Rattle.dsql_laws_calls.specs.course.declared.course.Course.TheVariants as courses
use Rattle.dsql_laws_calls.specs.course.declared.course.Wish.{Wish}
use Rattle.dsql_laws_calls.specs.course.declared.course.Wish.TheVariants as wishes
use Rattle.dsql_laws_calls.specs.course.declared.call.Due.{Due}
use Rattle.dsql_laws_calls.specs.course.declared.call.Due.TheVariants as due
use Rattle.dsql_laws_calls.specs.course.declared.call.Got.{Got}
use Rattle.dsql_laws_calls.specs.course.Steps.{PrepareText, RunHandle, FetchRow, CloseCursor, CloseHandle}
use Rattle.dsql_laws_calls.specs.course.Made.{Exchange, went_bad, was_skipped, own_cursor, own_handle, given_cursor, given_handle, or_else, has_fast_way, rows_are_over}
use Rattle.dsql_laws_calls.specs.course.Line.{Found, comes_next, first_wanted, or_then, run_with, steps_left, when}
use Rattle.dsql_laws_calls.specs.course.Rows.{no_more_wanted, closing_of, rows_next_if}
use Rattle.dsql_laws_calls.specs.journal.Kinds.{◌⇒◌, is_number}
use Rattle.dsql_laws_calls.specs.works.declared.work.Aim.{Aim}
use Rattle.dsql_laws_calls.specs.works.declared.work.Aim.TheVariants as aims
use Rattle.dsql_laws_calls.specs.works.Exchanges.{step_of, got_of, with_exchange}
use Rattle.dsql_laws_calls.specs.works.Line.{Asked, course_of, sent_as, sent_over, found, body_with, body_after}
use Rattle.dsql_laws_calls.proofs.laws.Tests.{both, same_number}
use Rattle.dsql_laws_calls.specs.history.Readers.Lines.{closes_cursor, closes_handle, has_cursor, has_handle, is_of}
use Rattle.dsql_laws_calls.specs.history.Rules.Sent.{untested}
use Rattle.dsql_laws_calls.specs.history.Rules.Line.{is_due}
use Rattle.dsql_laws_tenures.specs.Orderly.{asks_text}
use Rattle.dsql_laws_tenures.specs.Sent.{WasSent}
use Rattle.dsql_laws_tenures.proofs.CallAnswers.{asking}
use Rattle.dsql_laws_tenures.proofs.Orders.{is_free, Orderly}
use Rattle.dsql_laws_tenures.proofs.OrderSent.{sent_orderly}
use Rattle.dsql_laws_tenures.proofs.Sends.{Sends, body_sends}
use Rattle.dsql_laws_tenures.proofs.Steps.{plain_when}
use Rattle.dsql_laws_calls.proofs.InnerLines.{NoCursor, clash, no_cursor}
use Rattle.dsql_laws_calls.proofs.Quiet.{rows_give, stmt_gives}

-- Holds if no handle is open after these exchanges.
abbrev pub NoHandle : List Exchange → Type 0
NoHandle made = (handle : ℕ) → has_handle made handle ≡ false

pub no_handle : (made : List Exchange) → own_handle made ≡ None → NoHandle made
no_handle made none h = ap (λ o. is_of o h && not (list_any (λ x. closes_handle h x.0) made)) none

abbrev pub Tail : List Exchange → Type 0
Tail [] = Unit {0}
Tail ((due.Text, g) ∷ earlier) = Unit {0}
Tail ((due.Prepare, g) ∷ earlier) = Unit {0}
Tail ((due.Handle handle, g) ∷ earlier) = Unit {0}
Tail ((due.Next rows, g) ∷ earlier) = is_some (own_cursor ((due.Next rows, g) ∷ earlier)) ≡ true
Tail ((due.CloseRows rows, g) ∷ earlier) = (is_some (own_cursor ((due.CloseRows rows, g) ∷ earlier)) ≡ true) × NoCursor ((due.CloseRows rows, g) ∷ earlier)
Tail ((due.CloseStmt handle, g) ∷ earlier) = NoCursor ((due.CloseStmt handle, g) ∷ earlier) × NoHandle ((due.CloseStmt handle, g) ∷ earlier)
Tail (x ∷ earlier) = ⊥

-- The driver gave a line what the line has.

number_is : (o : Option ℕ) (r : ℕ) → is_number o r ≡ true → o ≡ Some r
number_is None r h = absurd cc
number_is (Some m) r h = ap Some (same_number m r h)

cursor_is : (made : List Exchange) (r : ℕ) → has_cursor made r ≡ true → own_cursor made ≡ Some r
cursor_is made r h = let b = both (is_number (own_cursor made) r) (not (list_any (λ x. closes_cursor r x.0) made)) h in number_is (own_cursor made) r b.0

handle_is : (made : List Exchange) (n : ℕ) → has_handle made n ≡ true → (inputs : ℤ) × (own_handle made ≡ Some (n, inputs))
handle_is made n h = let b = both (is_of (own_handle made) n) (not (list_any (λ x. closes_handle n x.0) made)) h in by (own_handle made) b.0
  where
    by : (o : Option (ℕ × ℤ)) → is_of o n ≡ true → (inputs : ℤ) × (o ≡ Some (n, inputs))
    by None k = absurd cc
    by (Some own) k = (own.1, ap (λ j. Some (j, own.1)) (same_number own.0 n k))

nothing : (b : Bool) → (b && false) ≡ false
nothing true = refl
nothing false = refl

-- Once the line's cursor is closed, it isn't open.
closed_cursor : (rows : ℕ) (g : Got) (made : List Exchange) → own_cursor made ≡ Some rows → given_cursor g ≡ None → NoCursor ((due.CloseRows rows, g) ∷ made)
closed_cursor rows g made own none r = by (rows == r) refl
  where
    cursor : own_cursor ((due.CloseRows rows, g) ∷ made) ≡ Some rows
    cursor = ap (λ o. or_else o (own_cursor made)) none ∙ own

    by : (b : Bool) → (rows == r) ≡ b → has_cursor ((due.CloseRows rows, g) ∷ made) r ≡ false
    by true its =
        ap (λ b. is_number (own_cursor ((due.CloseRows rows, g) ∷ made)) r && not (b || list_any (λ x. closes_cursor r x.0) made)) its
        ∙ nothing (is_number (own_cursor ((due.CloseRows rows, g) ∷ made)) r)
    by false its =
        ap (λ o. is_number o r && not (list_any (λ x. closes_cursor r x.0) ((due.CloseRows rows, g) ∷ made))) cursor
        ∙ ap (λ b. b && not (list_any (λ x. closes_cursor r x.0) ((due.CloseRows rows, g) ∷ made))) its

closed_handle : (n : ℕ) (inputs : ℤ) (g : Got) (made : List Exchange) → own_handle made ≡ Some (n, inputs) → given_handle g ≡ None → NoHandle ((due.CloseStmt n, g) ∷ made)
closed_handle n inputs g made own none h = by (n == h) refl
  where
    handle : own_handle ((due.CloseStmt n, g) ∷ made) ≡ Some (n, inputs)
    handle = ap (λ o. or_else o (own_handle made)) none ∙ own

    by : (b : Bool) → (n == h) ≡ b → has_handle ((due.CloseStmt n, g) ∷ made) h ≡ false
    by true its =
        ap (λ b. is_of (own_handle ((due.CloseStmt n, g) ∷ made)) h && not (b || list_any (λ x. closes_handle h x.0) made)) its
        ∙ nothing (is_of (own_handle ((due.CloseStmt n, g) ∷ made)) h)
    by false its =
        ap (λ o. is_of o h && not (list_any (λ x. closes_handle h x.0) ((due.CloseStmt n, g) ∷ made))) handle
        ∙ ap (λ b. b && not (list_any (λ x. closes_handle h x.0) ((due.CloseStmt n, g) ∷ made))) its

handle_none : (r : ℕ) (a : DriverAnswer) → fits_of (calls.CloseStmt r) a ≡ true → given_handle (got_of a) ≡ None
handle_none r (answers.Prepared handle inputs) h = absurd cc
handle_none r a h = refl

-- A close of the handle leaves a closed cursor closed.
cursor_after : (n : ℕ) (g : Got) (made : List Exchange) → given_cursor g ≡ None → NoCursor made → NoCursor ((due.CloseStmt n, g) ∷ made)
cursor_after n g made none closed r = ap (λ o. is_number (or_else o (own_cursor made)) r && not (list_any (λ x. closes_cursor r x.0) made)) none ∙ closed r

-- When a course that reads one row closes its handle, its cursor isn't open.

later : (o : Option Due) (d : Due) → ((e : Due) → o ≡ Some e → is_free e ≡ false) → is_free d ≡ false → is_free (or_then o d) ≡ false
later None d first h = h
later (Some e) d first h = first e refl

when_else : (b : Bool) (call e : Due) → is_free call ≡ false → when b call ≡ Some e → is_free e ≡ false
when_else b call e h is = plain_when (λ d. is_free d ≡ false) b call e h is

run_else : (b : Bool) (args : ℕ) (own : Option (ℕ × ℤ)) (e : Due) → (if b then None else run_with args own) ≡ Some e → is_free e ≡ false
run_else true args own e is = absurd cc
run_else false args None e is = absurd cc
run_else false args (Some it) e is = when_else _ (due.Handle it.0) e refl is

fetch_else : (b : Bool) (own : Option ℕ) (e : Due) → (if b then option_map (λ rows. due.Next rows) own else None) ≡ Some e → is_free e ≡ false
fetch_else false own e is = absurd cc
fetch_else true None e is = absurd cc
fetch_else true (Some r) e is = when_else true (due.Next r) e refl is

module _ (can : Caps) (args : ℕ) (f : Found) (good : f.bad ≡ false) (r : ℕ) where
  cursor_first : (made : List Exchange) → own_cursor made ≡ Some r → is_free (first_wanted courses.One can args f made (CloseCursor ∷ CloseHandle ∷ [])) ≡ false
  cursor_first made own = rw (good, own) refl

  fetch_first : (made : List Exchange) → own_cursor made ≡ Some r → is_free (first_wanted courses.One can args f made (FetchRow ∷ CloseCursor ∷ CloseHandle ∷ [])) ≡ false
  fetch_first made own =
      later _ (first_wanted courses.One can args f made (CloseCursor ∷ CloseHandle ∷ [])) (fetch_else (true && not f.stopped) (own_cursor made)) (cursor_first made own)

  run_first : (made : List Exchange) → own_cursor made ≡ Some r → is_free (first_wanted courses.One can args f made (RunHandle ∷ FetchRow ∷ CloseCursor ∷ CloseHandle ∷ [])) ≡ false
  run_first made own =
      later _ (first_wanted courses.One can args f made (FetchRow ∷ CloseCursor ∷ CloseHandle ∷ [])) (run_else f.stopped args (or_else (own_handle made) None)) (fetch_first made own)

  prepare_first : (made : List Exchange) → own_cursor made ≡ Some r → is_free (first_wanted courses.One can args f made (PrepareText ∷ RunHandle ∷ FetchRow ∷ CloseCursor ∷ CloseHandle ∷ [])) ≡ false
  prepare_first made own =
      later _ (first_wanted courses.One can args f made (RunHandle ∷ FetchRow ∷ CloseCursor ∷ CloseHandle ∷ []))
      (λ e is. when_else (true && (not (has_fast_way courses.One can) || was_skipped made) && not f.stopped) due.Prepare e refl is) (run_first made own)

  free_left : (made : List Exchange) → own_cursor made ≡ Some r → Tail made → is_free (first_wanted courses.One can args f made (steps_left courses.One made)) ≡ true → NoCursor made
  free_left [] own t h = absurd cc
  free_left ((due.Text, g) ∷ made) own t h = clash (sym h ∙ prepare_first ((due.Text, g) ∷ made) own)
  free_left ((due.Prepare, g) ∷ made) own t h = clash (sym h ∙ run_first ((due.Prepare, g) ∷ made) own)
  free_left ((due.Handle handle, g) ∷ made) own t h = clash (sym h ∙ fetch_first ((due.Handle handle, g) ∷ made) own)
  free_left ((due.Next rows, g) ∷ made) own t h = clash (sym h ∙ cursor_first ((due.Next rows, g) ∷ made) own)
  free_left ((due.CloseRows rows, g) ∷ made) own t h = t.1
  free_left ((due.CloseStmt handle, g) ∷ made) own t h = t.0
  free_left (x ∷ made) own t h = absurd t

one_free : (can : Caps) (args : ℕ) (f : Found) (made : List Exchange) → f.bad ≡ false → Tail made → is_free (comes_next courses.One can args f made) ≡ true → NoCursor made
one_free can args f made good t h = by (own_cursor made) refl
  where
    good_line : (b : Bool) → is_free (if b then due.Over else first_wanted courses.One can args f made (steps_left courses.One made)) ≡ true
        → is_free (first_wanted courses.One can args f made (steps_left courses.One made)) ≡ true
    good_line true k = absurd cc
    good_line false k = k

    by : (o : Option ℕ) → own_cursor made ≡ o → NoCursor made
    by None own = no_cursor made own
    by (Some r) own = free_left can args f good r made own t (good_line (went_bad made) h)

-- If a CloseStmt is due, the step is a close of the handle.
free_due : (can : Caps) (asked : Asked) (d : Due) (n : ℕ) → is_due (sent_as (untested can) asked d) (calls.CloseStmt n) ≡ true → is_free d ≡ true
free_due can asked (due.CloseStmt handle) n h = refl
free_due can asked due.Text n h = absurd (run_not asked.aim h)
  where
    run_not : (aim : Aim) → is_due (sent_as (untested can) (asking asked.text asked.params aim) due.Text) (calls.CloseStmt n) ≡ true → ⊥
    run_not aims.Execute k = cc
    run_not _ k = cc
free_due can asked (due.Handle handle) n h = absurd (run_not asked.aim h)
  where
    run_not : (aim : Aim) → is_due (sent_as (untested can) (asking asked.text asked.params aim) (due.Handle handle)) (calls.CloseStmt n) ≡ true → ⊥
    run_not aims.Execute k = cc
    run_not _ k = cc
free_due can asked d n h = absurd cc

-- If the handle is to be closed, the cursor isn't open.
freed : (can : Caps) (asked : Asked) (bad : Bool) (wish : Wish) (made : List Exchange) (n : ℕ) → asks_text asked.aim ≡ true → Orderly (course_of asked.aim) (untested can) made → Tail made → bad ≡ false
    → is_due (body_after (untested can) bad asked wish made) (calls.CloseStmt n) ≡ true → NoCursor made
freed can asked bad wish made n it o t good h = by_aim asked.aim it o h
  where
    none_read : (b : Bool) → (is_some (own_cursor made) ⇒ false) ≡ true → NoCursor made
    none_read b k = by (own_cursor made) refl k
      where
        by : (c : Option ℕ) → own_cursor made ≡ c → (is_some c ⇒ false) ≡ true → NoCursor made
        by None own j = no_cursor made own
        by (Some r) own j = absurd cc

    closes : is_due (sent_as (untested can) (asking asked.text asked.params aims.HandOut) (closing_of courses.Query bad (untested can) (length asked.params) made)) (calls.CloseStmt n) ≡ true → NoCursor made
    closes k =
        one_free (untested can) (length asked.params) (no_more_wanted bad) made good t
        (free_due can (asking asked.text asked.params aims.HandOut) (closing_of courses.Query bad (untested can) (length asked.params) made) n k)

    over_rows : (rows : ℕ) (b : Bool) (w : Wish)
        → is_due (sent_over (untested can) (asking asked.text asked.params aims.HandOut) (rows_next_if b w (closing_of courses.Query bad (untested can) (length asked.params) made) rows)) (calls.CloseStmt n) ≡ true → NoCursor made
    over_rows rows true w k = closes k
    over_rows rows false wishes.Close k = closes k
    over_rows rows false wishes.Fetch k = absurd cc
    over_rows rows false wishes.Nothing k = absurd cc

    handed_out : (own : Option ℕ) → own_cursor made ≡ own → is_due (body_with (untested can) bad (asking asked.text asked.params aims.HandOut) wish made own) (calls.CloseStmt n) ≡ true → NoCursor made
    handed_out None own k = no_cursor made own
    handed_out (Some rows) own k = over_rows rows (rows_are_over made) wish k

    by_aim : (x : Aim) → asks_text x ≡ true → Orderly (course_of x) (untested can) made → is_due (body_after (untested can) bad (asking asked.text asked.params x) wish made) (calls.CloseStmt n) ≡ true → NoCursor made
    by_aim aims.Execute a y k = none_read true y.reads
    by_aim aims.ReadOne a y k =
        one_free (untested can) (length asked.params) (found bad) made good t
        (free_due can (asking asked.text asked.params aims.ReadOne) (comes_next courses.One (untested can) (length asked.params) (found bad) made) n k)
    by_aim aims.HandOut a y k = handed_out (own_cursor made) refl k
    by_aim aims.Ping a y k = absurd cc

given_on : (g : Got) (made : List Exchange) → is_some (own_cursor made) ≡ true → is_some (or_else (given_cursor g) (own_cursor made)) ≡ true
given_on g made h = by (given_cursor g)
  where
    by : (o : Option ℕ) → is_some (or_else o (own_cursor made)) ≡ true
    by None = h
    by (Some r) = refl

tail_more : (can : Caps) (asked : Asked) (bad : Bool) (wish : Wish) (made : List Exchange) (q : DriverCall) (a : DriverAnswer) → asks_text asked.aim ≡ true → Orderly (course_of asked.aim) (untested can) made → Tail made
    → (fits_of q a && not (is_memory a)) ≡ true → is_due (body_after (untested can) bad asked wish made) q ≡ true → Tail (with_exchange (step_of q) a made)
tail_more can asked bad wish made q a it o t fit h = let f = both (fits_of q a) (not (is_memory a)) fit in by q (body_sends can asked bad wish made q it o.order h) f.0 h
  where
    by : (c : DriverCall) → Sends made bad c → fits_of c a ≡ true → is_due (body_after (untested can) bad asked wish made) c ≡ true → Tail (with_exchange (step_of c) a made)
    by (calls.Exec (Text text) params) s f d = tt
    by (calls.Exec (Handle handle) params) s f d = tt
    by (calls.Query (Text text) params) s f d = tt
    by (calls.Query (Handle handle) params) s f d = tt
    by (calls.Prepare text) s f d = tt
    by (calls.Next rows) s f d = given_on (got_of a) made (ap (λ o. is_some o) (cursor_is made rows s.0))
    by (calls.CloseRows rows) s f d =
        (given_on (got_of a) made (ap (λ o. is_some o) (cursor_is made rows s.0)), closed_cursor rows (got_of a) made (cursor_is made rows s.0) (rows_give rows a f))
    by (calls.CloseStmt handle) s f d =
        let own = handle_is made handle s.0 in
        (cursor_after handle (got_of a) made (stmt_gives handle a f) (freed can asked bad wish made handle it o t s.1 d), closed_handle handle own.0 (got_of a) made own.1 (handle_none handle a f))
    by c s f d = absurd s

pub tail_of : (can : Caps) (asked : Asked) (made : List Exchange) → asks_text asked.aim ≡ true → WasSent can asked made → Tail made
tail_of can asked [] it sent = tt
tail_of can asked (x ∷ made) it sent =
    let w = sent.1 in
    let d = w.due in
    subst Tail w.is (tail_more can asked d.bad d.wish made w.call w.answer it (sent_orderly can asked made it sent.0) (tail_of can asked made it sent.0) w.fits d.due)
