-- A line in which nothing more is due has neither a cursor nor a handle, unless the connection is known to be
-- bad.
use Rattle.std.proofs.Common.{◌≡◌, ℕ, ℤ, Bool, true, false, not, ◌&&◌, ◌||◌, List, [], ◌∷◌, Option, Some, None, is_some, is_none, length, refl, sym, ap, ◌∙◌, if◌then◌else◌}
use Rattle.std.specs.List.{list_any}
use Rattle.std.specs.Option.{option_map}
use Rattle.dsql_laws_calls.specs.value.Arguments.{count_fault}
use Rattle.dsql_laws_calls.specs.driver.declared.caps.Caps.{Caps}
use Rattle.dsql_laws_calls.specs.course.declared.course.Course.{Course}
use Rattle.dsql_laws_calls.specs.course.declared.course.Course.TheVariants as courses
use Rattle.dsql_laws_calls.specs.course.declared.course.Wish.{Wish}
use Rattle.dsql_laws_calls.specs.course.declared.course.Wish.TheVariants as wishes
use Rattle.dsql_laws_calls.specs.course.declared.call.Due.{Due}
use Rattle.dsql_laws_calls.specs.course.declared.call.Due.TheVariants as due
use Rattle.dsql_laws_calls.specs.course.Steps.{Step, PrepareText, RunHandle, FetchRow, CloseCursor, CloseHandle}
use Rattle.dsql_laws_calls.specs.course.Made.{Exchange, went_bad, was_skipped, own_cursor, own_handle, given_cursor, given_handle, or_else, has_fast_way, reads_one, rows_are_over, live_handle}
use Rattle.dsql_laws_calls.specs.course.Line.{Found, comes_next, first_wanted, lets_handle_go, or_then, run_with, steps_left, wanted, when}
use Rattle.dsql_laws_calls.specs.course.Rows.{no_more_wanted, closing_of, rows_next_if}
use Rattle.dsql_laws_calls.specs.journal.Kinds.{◌⇒◌}
use Rattle.dsql_laws_calls.specs.works.declared.work.Aim.{Aim}
use Rattle.dsql_laws_calls.specs.works.declared.work.Aim.TheVariants as aims
use Rattle.dsql_laws_calls.specs.works.Line.{Asked, course_of, sent_as, sent_over, handed, found, body_with, body_after}
use Rattle.dsql_laws_calls.specs.history.Rules.Sent.{untested}
use Rattle.dsql_laws_tenures.specs.Orderly.{asks_text, gives_cursor, gives_handle}
use Rattle.dsql_laws_tenures.specs.Sent.{WasSent}
use Rattle.dsql_laws_tenures.proofs.CallAnswers.{asking}
use Rattle.dsql_laws_tenures.proofs.Numbers.{neither}
use Rattle.dsql_laws_tenures.proofs.Orders.{Orderly}
use Rattle.dsql_laws_tenures.proofs.OrderSent.{sent_orderly}
use Rattle.dsql_laws_tenures.proofs.Steps.{plain_when}
use Rattle.dsql_laws_calls.proofs.InnerLines.{NoCursor, clash, no_cursor, sends}
use Rattle.dsql_laws_due.proofs.LineTails.{NoHandle, Tail, no_handle, tail_of}

-- Holds if neither a cursor nor a handle is open after these exchanges.
pub record IsShut (made : List Exchange) : Type 0 where
  pub cursor : NoCursor made
  pub handle : NoHandle made

-- A step that is wanted for a text, a cursor or a handle is sent.

abbrev Sent : Caps → Asked → Due → Type 0
Sent can asked d = sends can asked d ≡ true

some_sent : (can : Caps) (asked : Asked) (o : Option Due) (d : Due) → ((e : Due) → o ≡ Some e → Sent can asked e) → Sent can asked d → Sent can asked (or_then o d)
some_sent can asked None d first h = h
some_sent can asked (Some e) d first h = first e refl

run_sent : (can : Caps) (asked : Asked) (b : Bool) (args : ℕ) (own : Option (ℕ × ℤ)) (e : Due) → (if b then None else run_with args own) ≡ Some e → Sent can asked e
run_sent can asked true args own e is = absurd cc
run_sent can asked false args None e is = absurd cc
run_sent can asked false args (Some it) e is = plain_when (Sent can asked) (is_none (count_fault it.1 args)) (due.Handle it.0) e refl is

fetch_sent : (can : Caps) (asked : Asked) (b : Bool) (own : Option ℕ) (e : Due) → (if b then option_map (λ rows. due.Next rows) own else None) ≡ Some e → Sent can asked e
fetch_sent can asked false own e is = absurd cc
fetch_sent can asked true None e is = absurd cc
fetch_sent can asked true (Some r) e is = plain_when (Sent can asked) true (due.Next r) e refl is

close_sent : (can : Caps) (asked : Asked) (b : Bool) (own : Option ℕ) (e : Due) → (if b then option_map (λ rows. due.CloseRows rows) own else None) ≡ Some e → Sent can asked e
close_sent can asked false own e is = absurd cc
close_sent can asked true None e is = absurd cc
close_sent can asked true (Some r) e is = plain_when (Sent can asked) true (due.CloseRows r) e refl is

module _ (can : Caps) (asked : Asked) (c : Course) (cn : Caps) (args : ℕ) (f : Found) (made : List Exchange) where
  abbrev Left : List Step → Type 0
  Left steps = Sent can asked (first_wanted c cn args f made steps)

  on_prepare : (steps : List Step) → Left steps → Left (PrepareText ∷ steps)
  on_prepare steps =
      some_sent can asked (wanted c cn args f made PrepareText) (first_wanted c cn args f made steps)
      (λ e is. plain_when (Sent can asked) (is_none (live_handle c) && (not (has_fast_way c cn) || was_skipped made) && not f.stopped) due.Prepare e refl is)

  on_run : (steps : List Step) → Left steps → Left (RunHandle ∷ steps)
  on_run steps = some_sent can asked (wanted c cn args f made RunHandle) (first_wanted c cn args f made steps) (run_sent can asked f.stopped args (or_else (own_handle made) (live_handle c)))

  on_fetch : (steps : List Step) → Left steps → Left (FetchRow ∷ steps)
  on_fetch steps = some_sent can asked (wanted c cn args f made FetchRow) (first_wanted c cn args f made steps) (fetch_sent can asked (reads_one c && not f.stopped) (own_cursor made))

  on_close : (steps : List Step) → Left steps → Left (CloseCursor ∷ steps)
  on_close steps = some_sent can asked (wanted c cn args f made CloseCursor) (first_wanted c cn args f made steps) (close_sent can asked (reads_one c && not f.bad) (own_cursor made))

-- A course that reads one row. Its rows may have been handed out.

abbrev to_free : List Step
to_free = CloseHandle ∷ []

abbrev to_close : List Step
to_close = CloseCursor ∷ to_free

abbrev to_fetch : List Step
to_fetch = FetchRow ∷ to_close

abbrev to_run : List Step
to_run = RunHandle ∷ to_fetch

module _ (can : Caps) (asked : Asked) (cn : Caps) (args : ℕ) (f : Found) (good : f.bad ≡ false) where
  cursor_left : (made : List Exchange) (r : ℕ) → own_cursor made ≡ Some r → Left can asked courses.One cn args f made to_close
  cursor_left made r own = rw (good, own) refl

  handle_left : (made : List Exchange) (it : ℕ × ℤ) → own_handle made ≡ Some it → Left can asked courses.One cn args f made to_free
  handle_left made it own = rw (good, own) refl

  one_cursor : (made : List Exchange) (r : ℕ) → own_cursor made ≡ Some r → Tail made → sends can asked (first_wanted courses.One cn args f made (steps_left courses.One made)) ≡ false → NoCursor made
  one_cursor [] r own t h = absurd cc
  one_cursor ((due.Text, g) ∷ made) r own t h =
      let xs : List Exchange = (due.Text, g) ∷ made in
      clash (sym (on_prepare can asked courses.One cn args f xs to_run (on_run can asked courses.One cn args f xs to_fetch (on_fetch can asked courses.One cn args f xs to_close (cursor_left xs r own)))) ∙ h)
  one_cursor ((due.Prepare, g) ∷ made) r own t h =
      let xs : List Exchange = (due.Prepare, g) ∷ made in clash (sym (on_run can asked courses.One cn args f xs to_fetch (on_fetch can asked courses.One cn args f xs to_close (cursor_left xs r own))) ∙ h)
  one_cursor ((due.Handle handle, g) ∷ made) r own t h =
      let xs : List Exchange = (due.Handle handle, g) ∷ made in clash (sym (on_fetch can asked courses.One cn args f xs to_close (cursor_left xs r own)) ∙ h)
  one_cursor ((due.Next rows, g) ∷ made) r own t h = clash (sym (cursor_left ((due.Next rows, g) ∷ made) r own) ∙ h)
  one_cursor ((due.CloseRows rows, g) ∷ made) r own t h = t.1
  one_cursor ((due.CloseStmt handle, g) ∷ made) r own t h = t.0
  one_cursor (x ∷ made) r own t h = absurd t

  one_handle : (made : List Exchange) (it : ℕ × ℤ) → own_handle made ≡ Some it → Tail made → sends can asked (first_wanted courses.One cn args f made (steps_left courses.One made)) ≡ false → NoHandle made
  one_handle [] it own t h = absurd cc
  one_handle ((due.Text, g) ∷ made) it own t h =
      let xs : List Exchange = (due.Text, g) ∷ made in
      clash
      (sym (on_prepare can asked courses.One cn args f xs to_run (on_run can asked courses.One cn args f xs to_fetch (on_fetch can asked courses.One cn args f xs to_close (on_close can asked courses.One cn args f xs to_free (handle_left xs it own)))))
      ∙ h)
  one_handle ((due.Prepare, g) ∷ made) it own t h =
      let xs : List Exchange = (due.Prepare, g) ∷ made in
      clash (sym (on_run can asked courses.One cn args f xs to_fetch (on_fetch can asked courses.One cn args f xs to_close (on_close can asked courses.One cn args f xs to_free (handle_left xs it own)))) ∙ h)
  one_handle ((due.Handle handle, g) ∷ made) it own t h =
      let xs : List Exchange = (due.Handle handle, g) ∷ made in
      clash (sym (on_fetch can asked courses.One cn args f xs to_close (on_close can asked courses.One cn args f xs to_free (handle_left xs it own))) ∙ h)
  one_handle ((due.Next rows, g) ∷ made) it own t h =
      let xs : List Exchange = (due.Next rows, g) ∷ made in clash (sym (on_close can asked courses.One cn args f xs to_free (handle_left xs it own)) ∙ h)
  one_handle ((due.CloseRows rows, g) ∷ made) it own t h = clash (sym (handle_left ((due.CloseRows rows, g) ∷ made) it own) ∙ h)
  one_handle ((due.CloseStmt handle, g) ∷ made) it own t h = t.1
  one_handle (x ∷ made) it own t h = absurd t

  one_shut : (made : List Exchange) → Tail made → went_bad made ≡ false → sends can asked (comes_next courses.One cn args f made) ≡ false → IsShut made
  one_shut made t fine h = record { cursor = cursor (own_cursor made) refl; handle = handle (own_handle made) refl }
    where
      left : sends can asked (first_wanted courses.One cn args f made (steps_left courses.One made)) ≡ false
      left = sym (ap (λ b. sends can asked (if b then due.Over else first_wanted courses.One cn args f made (steps_left courses.One made))) fine) ∙ h

      cursor : (o : Option ℕ) → own_cursor made ≡ o → NoCursor made
      cursor None own = no_cursor made own
      cursor (Some r) own = one_cursor made r own t left

      handle : (o : Option (ℕ × ℤ)) → own_handle made ≡ o → NoHandle made
      handle None own = no_handle made own
      handle (Some it) own = one_handle made it own t left

-- A course that executes, or that hands rows out and hasn't done so yet.

abbrev IsShort : Course → Type 0
IsShort courses.Exec = Unit {0}
IsShort courses.Query = Unit {0}
IsShort c = ⊥

module _ (can : Caps) (asked : Asked) (c : Course) (cn : Caps) (args : ℕ) (f : Found) (good : f.bad ≡ false) where
  free_left : (made : List Exchange) (it : ℕ × ℤ) → lets_handle_go c f made ≡ true → own_handle made ≡ Some it → Left can asked c cn args f made (CloseHandle ∷ [])
  free_left made it goes own = rw (goes, good, own) refl

  run_left : (made : List Exchange) (it : ℕ × ℤ) → lets_handle_go c f made ≡ true → own_handle made ≡ Some it → Left can asked c cn args f made (RunHandle ∷ CloseHandle ∷ [])
  run_left made it goes own = on_run can asked c cn args f made (CloseHandle ∷ []) (free_left made it goes own)

  prepare_left : (made : List Exchange) (it : ℕ × ℤ) → lets_handle_go c f made ≡ true → own_handle made ≡ Some it → Left can asked c cn args f made (PrepareText ∷ RunHandle ∷ CloseHandle ∷ [])
  prepare_left made it goes own = on_prepare can asked c cn args f made (RunHandle ∷ CloseHandle ∷ []) (run_left made it goes own)

none_some : {A : Type 0} (o : Option A) → o ≡ None → is_some o ≡ true → ⊥
none_some o none h = let wrong : false ≡ true = sym (ap (λ x. is_some x) none) ∙ h in cc

short_handle : (can : Caps) (asked : Asked) (c : Course) (cn : Caps) (args : ℕ) (f : Found) (made : List Exchange) (it : ℕ × ℤ) → IsShort c → f.bad ≡ false → lets_handle_go c f made ≡ true → own_cursor made ≡ None
    → own_handle made ≡ Some it → Tail made → sends can asked (first_wanted c cn args f made (steps_left c made)) ≡ false → NoHandle made
short_handle can asked courses.Exec cn args f [] it s good goes none own t h = absurd cc
short_handle can asked courses.Exec cn args f ((due.Text, g) ∷ made) it s good goes none own t h = clash (sym (prepare_left can asked courses.Exec cn args f good ((due.Text, g) ∷ made) it goes own) ∙ h)
short_handle can asked courses.Exec cn args f ((due.Prepare, g) ∷ made) it s good goes none own t h = clash (sym (run_left can asked courses.Exec cn args f good ((due.Prepare, g) ∷ made) it goes own) ∙ h)
short_handle can asked courses.Exec cn args f ((due.Handle handle, g) ∷ made) it s good goes none own t h = clash (sym (free_left can asked courses.Exec cn args f good ((due.Handle handle, g) ∷ made) it goes own) ∙ h)
short_handle can asked courses.Exec cn args f ((due.Next rows, g) ∷ made) it s good goes none own t h = absurd (none_some (own_cursor ((due.Next rows, g) ∷ made)) none t)
short_handle can asked courses.Exec cn args f ((due.CloseRows rows, g) ∷ made) it s good goes none own t h = absurd (none_some (own_cursor ((due.CloseRows rows, g) ∷ made)) none t.0)
short_handle can asked courses.Exec cn args f ((due.CloseStmt handle, g) ∷ made) it s good goes none own t h = t.1
short_handle can asked courses.Exec cn args f (x ∷ made) it s good goes none own t h = absurd t
short_handle can asked courses.Query cn args f [] it s good goes none own t h = absurd cc
short_handle can asked courses.Query cn args f ((due.Text, g) ∷ made) it s good goes none own t h = clash (sym (prepare_left can asked courses.Query cn args f good ((due.Text, g) ∷ made) it goes own) ∙ h)
short_handle can asked courses.Query cn args f ((due.Prepare, g) ∷ made) it s good goes none own t h = clash (sym (run_left can asked courses.Query cn args f good ((due.Prepare, g) ∷ made) it goes own) ∙ h)
short_handle can asked courses.Query cn args f ((due.Handle handle, g) ∷ made) it s good goes none own t h = clash (sym (free_left can asked courses.Query cn args f good ((due.Handle handle, g) ∷ made) it goes own) ∙ h)
short_handle can asked courses.Query cn args f ((due.Next rows, g) ∷ made) it s good goes none own t h = absurd (none_some (own_cursor ((due.Next rows, g) ∷ made)) none t)
short_handle can asked courses.Query cn args f ((due.CloseRows rows, g) ∷ made) it s good goes none own t h = absurd (none_some (own_cursor ((due.CloseRows rows, g) ∷ made)) none t.0)
short_handle can asked courses.Query cn args f ((due.CloseStmt handle, g) ∷ made) it s good goes none own t h = t.1
short_handle can asked courses.Query cn args f (x ∷ made) it s good goes none own t h = absurd t
short_handle can asked c cn args f made it s good goes none own t h = absurd s

short_shut : (can : Caps) (asked : Asked) (c : Course) (cn : Caps) (args : ℕ) (f : Found) (made : List Exchange) → IsShort c → f.bad ≡ false → lets_handle_go c f made ≡ true → own_cursor made ≡ None → Tail made
    → went_bad made ≡ false → sends can asked (comes_next c cn args f made) ≡ false → IsShut made
short_shut can asked c cn args f made s good goes none t fine h = record { cursor = no_cursor made none; handle = by (own_handle made) refl }
  where
    left : sends can asked (first_wanted c cn args f made (steps_left c made)) ≡ false
    left = sym (ap (λ b. sends can asked (if b then due.Over else first_wanted c cn args f made (steps_left c made))) fine) ∙ h

    by : (o : Option (ℕ × ℤ)) → own_handle made ≡ o → NoHandle made
    by None own = no_handle made own
    by (Some it) own = short_handle can asked c cn args f made it s good goes none own t left

-- If nothing more is due in a line even when its rows are to be closed, the line has neither a cursor nor a
-- handle.
pub line_shut : (can : Caps) (asked : Asked) (made : List Exchange) → asks_text asked.aim ≡ true → WasSent can asked made → went_bad made ≡ false
    → is_some (body_after (untested can) false asked wishes.Close made) ≡ false → IsShut made
line_shut can asked made it sent fine h = by_aim asked.aim it (sent_orderly can asked made it sent) h
  where
    t : Tail made
    t = tail_of can asked made it sent

    none_read : (o : Option ℕ) → own_cursor made ≡ o → (is_some o ⇒ false) ≡ true → own_cursor made ≡ None
    none_read None own k = own
    none_read (Some r) own k = absurd cc

    closed : is_some (sent_as (untested can) (asking asked.text asked.params aims.HandOut) (closing_of courses.Query false (untested can) (length asked.params) made)) ≡ false → IsShut made
    closed k = one_shut can (asking asked.text asked.params aims.HandOut) (untested can) (length asked.params) (no_more_wanted false) refl made t fine k

    over_rows : (rows : ℕ) (b : Bool)
        → is_some (sent_over (untested can) (asking asked.text asked.params aims.HandOut) (rows_next_if b wishes.Close (closing_of courses.Query false (untested can) (length asked.params) made) rows)) ≡ false → IsShut made
    over_rows rows true k = closed k
    over_rows rows false k = closed k

    handed_out : (own : Option ℕ) → own_cursor made ≡ own → is_some (body_with (untested can) false (asking asked.text asked.params aims.HandOut) wishes.Close made own) ≡ false → IsShut made
    handed_out None own k =
        short_shut can (asking asked.text asked.params aims.HandOut) courses.Query (untested can) (length asked.params) (found false) made tt refl (ap (λ o. is_none o) own) own t fine k
    handed_out (Some rows) own k = over_rows rows (rows_are_over made) k

    by_aim : (x : Aim) → asks_text x ≡ true → Orderly (course_of x) (untested can) made → is_some (body_after (untested can) false (asking asked.text asked.params x) wishes.Close made) ≡ false → IsShut made
    by_aim aims.Execute a y k =
        short_shut can (asking asked.text asked.params aims.Execute) courses.Exec (untested can) (length asked.params) (found false) made tt refl refl (none_read (own_cursor made) refl y.reads) t fine k
    by_aim aims.ReadOne a y k = one_shut can (asking asked.text asked.params aims.ReadOne) (untested can) (length asked.params) (found false) refl made t fine k
    by_aim aims.HandOut a y k = handed_out (own_cursor made) refl k
    by_aim aims.Ping a y k = absurd cc

-- If a call handed no rows out, what it sends next doesn't depend on what is wanted of rows.
pub unhanded_wish : (can : Caps) (bad : Bool) (asked : Asked) (v w : Wish) (made : List Exchange) → handed asked.aim made ≡ None → body_after can bad asked v made ≡ body_after can bad asked w made
unhanded_wish can bad asked v w made none = ap (body_with can bad asked v made) none ∙ sym (ap (body_with can bad asked w made) none)

-- A line to which the driver gave nothing has neither a cursor nor a handle.
pub ungiven_shut : (made : List Exchange) → list_any (λ x. gives_cursor x || gives_handle x) made ≡ false → IsShut made
ungiven_shut made none = record { cursor = no_cursor made (cursor made none); handle = no_handle made (handle made none) }
  where
    unsome : {A : Type 0} (o p : Option A) → is_some o ≡ false → p ≡ None → or_else o p ≡ None
    unsome None p h k = k
    unsome (Some x) p h k = absurd cc

    cursor : (xs : List Exchange) → list_any (λ x. gives_cursor x || gives_handle x) xs ≡ false → own_cursor xs ≡ None
    cursor [] h = refl
    cursor (x ∷ xs) h =
        let a = neither (gives_cursor x || gives_handle x) (list_any (λ y. gives_cursor y || gives_handle y) xs) h in
        let b = neither (gives_cursor x) (gives_handle x) a.0 in
        unsome (given_cursor x.1) (own_cursor xs) b.0 (cursor xs a.1)

    handle : (xs : List Exchange) → list_any (λ x. gives_cursor x || gives_handle x) xs ≡ false → own_handle xs ≡ None
    handle [] h = refl
    handle (x ∷ xs) h =
        let a = neither (gives_cursor x || gives_handle x) (list_any (λ y. gives_cursor y || gives_handle y) xs) h in
        let b = neither (gives_cursor x) (gives_handle x) a.0 in
        unsome (given_handle x.1) (own_handle xs) b.1 (handle xs a.1)

-- On a connection that is known to be bad, nothing is sent to close rows.

stopped_none : (can cn : Caps) (asked : Asked) (args : ℕ) (made : List Exchange) → sends can asked (comes_next courses.One cn args (no_more_wanted true) made) ≡ false
stopped_none can cn asked args made = by (went_bad made) (left made)
  where
    no_when : (b : Bool) (call d : Due) → sends can asked d ≡ false → sends can asked (or_then (when (b && false) call) d) ≡ false
    no_when true call d h = h
    no_when false call d h = h

    left : (xs : List Exchange) → sends can asked (first_wanted courses.One cn args (no_more_wanted true) xs (steps_left courses.One xs)) ≡ false
    left [] = no_when (has_fast_way courses.One cn) due.Text (or_then (when ((true && (not (has_fast_way courses.One cn) || was_skipped [])) && false) due.Prepare) due.Over) (no_when (true && (not (has_fast_way courses.One cn) || was_skipped [])) due.Prepare due.Over refl)
    left ((due.Text, g) ∷ xs) = no_when (true && (not (has_fast_way courses.One cn) || was_skipped ((due.Text, g) ∷ xs))) due.Prepare due.Over refl
    left (_ ∷ xs) = refl

    by : (b : Bool) → sends can asked (first_wanted courses.One cn args (no_more_wanted true) made (steps_left courses.One made)) ≡ false
        → sends can asked (if b then due.Over else first_wanted courses.One cn args (no_more_wanted true) made (steps_left courses.One made)) ≡ false
    by true h = refl
    by false h = h

pub bad_none : (can : Caps) (asked : Asked) (w : Wish) (made : List Exchange) (rows : ℕ) → handed asked.aim made ≡ Some rows → (w ≡ wishes.Fetch → ⊥) → is_some (body_after (untested can) true asked w made) ≡ false
bad_none can asked w made rows own other = by_aim asked.aim own
  where
    closed : (x : Aim) → is_some (sent_as (untested can) (asking asked.text asked.params x) (closing_of courses.Query true (untested can) (length asked.params) made)) ≡ false
    closed x = stopped_none can (untested can) (asking asked.text asked.params x) (length asked.params) made

    over_rows : (b : Bool) (v : Wish) → (v ≡ wishes.Fetch → ⊥)
        → is_some (sent_over (untested can) (asking asked.text asked.params aims.HandOut) (rows_next_if b v (closing_of courses.Query true (untested can) (length asked.params) made) rows)) ≡ false
    over_rows true v apart = closed aims.HandOut
    over_rows false wishes.Close apart = closed aims.HandOut
    over_rows false wishes.Fetch apart = absurd (apart refl)
    over_rows false wishes.Nothing apart = refl

    by_aim : (x : Aim) → handed x made ≡ Some rows → is_some (body_after (untested can) true (asking asked.text asked.params x) w made) ≡ false
    by_aim aims.HandOut is = ap (λ o. is_some (body_with (untested can) true (asking asked.text asked.params aims.HandOut) w made o)) is ∙ over_rows (rows_are_over made) w other
    by_aim _ is = absurd cc
