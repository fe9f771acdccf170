-- The step that a course has next keeps what is known of its line.
use Rattle.std.proofs.Common.{◌≡◌, ℕ, ℤ, Bool, true, false, not, ◌&&◌, ◌||◌, if◌then◌else◌, List, [], ◌∷◌, Option, None, Some, is_none, refl, sym, nat_lt, nat_le, subst}
use Rattle.std.specs.Prelude.{is_some, option_map}
use Rattle.std.specs.List.{list_all, list_any}
use native.Mathlib.Omega.{arith}
use Rattle.std.proofs.lemmas.Bool.Decides.{nat_tests}
use Rattle.dsql_history.specs.value.Arguments.{count_fault}
use Rattle.dsql_history.specs.driver.declared.caps.Caps.{Caps}
use Rattle.dsql_history.specs.course.declared.course.Course.{Course}
use Rattle.dsql_history.specs.course.declared.course.Course.TheVariants as courses
use Rattle.dsql_history.specs.course.declared.call.Due.{Due}
use Rattle.dsql_history.specs.course.declared.call.Due.TheVariants as due
use Rattle.dsql_history.specs.course.declared.call.Got.{Got}
use Rattle.dsql_history.specs.course.Steps.{Step, RunText, PrepareText, RunHandle, FetchRow, CloseCursor, CloseHandle, PingIt, BeginIt, UndoIt, steps, step_of}
use Rattle.dsql_history.specs.course.Made.{Exchange, went_bad, own_handle, own_cursor, or_else, live_handle, has_fast_way, was_skipped, reads_one, rows_are_over, is_done}
use Rattle.dsql_history.specs.course.Line.{Found, wanted, when, run_with, or_then, lets_handle_go, first_wanted, behind_call, steps_left, comes_next, may_get}
use Rattle.dsql_history.proofs.journal.Conjunctions.{parts2, parts3, join2}
use Rattle.dsql_laws_tenures.specs.Orderly.{place, is_fetch, is_in_order}
use Rattle.dsql_laws_tenures.proofs.Numbers.{impossible, true_false}
use Rattle.dsql_laws_tenures.proofs.Steps.{within, step_place, TextCourse, nothing_below, plain_when, no_live, left_behind, all_left, all_below, itself}
use Rattle.dsql_laws_tenures.proofs.Orders.{is_free, Orderly, stands_behind, at_start}
use Rattle.dsql_laws_tenures.proofs.OrderSteps.{Fresh}
use Rattle.dsql_laws_tenures.proofs.OrderNext.{none_free, when_is, to_zero, fresh_text, fresh_prepare, fresh_run, fresh_next, fresh_close, fresh_free}

-- Holds if the step closes a handle only after the rows of the cursor, if there is one, are over.
abbrev pub Tidy : List Exchange → Due → Type 0
Tidy made d = is_free d ≡ true → is_some (own_cursor made) ≡ true → rows_are_over made ≡ true

-- Holds if the step comes next, provided that the driver may answer it so.
abbrev Comes : Course → Caps → List Exchange → Got → Due → Type 0
Comes c can made g d = may_get c d g ≡ true → Tidy made d → Fresh c can made d g

run_fresh : (c : Course) (can : Caps) (args p : ℕ) (stopped : Bool) (made : List Exchange) (d : Due) (g : Got) → Orderly c can made → within p made ≡ true → nat_lt p 3 ≡ true
    → (if stopped then None else run_with args (or_else (own_handle made) None)) ≡ Some d → Comes c can made g d
run_fresh c can args p true made d g o low k is = absurd cc
run_fresh c can args p false made d g o low k is = by_own (own_handle made) refl is
  where
    by_own : (own : Option (ℕ × ℤ)) → own_handle made ≡ own → run_with args (or_else own None) ≡ Some d → Comes c can made g d
    by_own None own h = absurd cc
    by_own (Some it) own h = plain_when (Comes c can made g) (is_none (count_fault it.1 args)) (due.Handle it.0) d (λ may _. fresh_run c can p it.0 it.1 made g o low k own may) h

fetch_fresh : (c : Course) (can : Caps) (p : ℕ) (wants : Bool) (made : List Exchange) (d : Due) (g : Got) → within p made ≡ true → nat_lt p 4 ≡ true → nat_lt p 6 ≡ true
    → (if wants then option_map (λ rows. due.Next rows) (own_cursor made) else None) ≡ Some d → Comes c can made g d
fetch_fresh c can p false made d g low k far is = absurd cc
fetch_fresh c can p true made d g low k far is = by_own (own_cursor made) is
  where
    by_own : (own : Option ℕ) → option_map (λ rows. due.Next rows) own ≡ Some d → Comes c can made g d
    by_own None h = absurd cc
    by_own (Some r) h = plain_when (Comes c can made g) true (due.Next r) d (λ may _. fresh_next c can r made g (stands_behind p (due.Next r) made low k) (none_free p made low far) may) h

close_fresh : (c : Course) (can : Caps) (p : ℕ) (wants : Bool) (made : List Exchange) (d : Due) (g : Got) → within p made ≡ true → nat_lt p 5 ≡ true
    → (if wants then option_map (λ rows. due.CloseRows rows) (own_cursor made) else None) ≡ Some d → Comes c can made g d
close_fresh c can p false made d g low k is = absurd cc
close_fresh c can p true made d g low k is = by_own (own_cursor made) is
  where
    by_own : (own : Option ℕ) → option_map (λ rows. due.CloseRows rows) own ≡ Some d → Comes c can made g d
    by_own None h = absurd cc
    by_own (Some r) h = plain_when (Comes c can made g) true (due.CloseRows r) d (λ may _. fresh_close c can p r made g low k may) h

free_fresh : (c : Course) (can : Caps) (p : ℕ) (wants : Bool) (made : List Exchange) (d : Due) (g : Got) → within p made ≡ true → nat_lt p 6 ≡ true
    → (if wants then option_map (λ handle. due.CloseStmt handle.0) (own_handle made) else None) ≡ Some d → Comes c can made g d
free_fresh c can p false made d g low k is = absurd cc
free_fresh c can p true made d g low k is = by_own (own_handle made) is
  where
    by_own : (own : Option (ℕ × ℤ)) → option_map (λ handle. due.CloseStmt handle.0) own ≡ Some d → Comes c can made g d
    by_own None h = absurd cc
    by_own (Some it) h = plain_when (Comes c can made g) true (due.CloseStmt it.0) d (λ may tidy. fresh_free c can p it.0 made g low k (tidy refl) may) h

-- A step of course b that is to be taken comes next in a line of course c, if both have the same fast way.
step_fresh : (b c : Course) (can : Caps) (args p : ℕ) (found : Found) (made : List Exchange) (s : Step) (d : Due) (g : Got) → TextCourse b → has_fast_way b can ≡ has_fast_way c can → Orderly c can made
    → within p made ≡ true → nat_lt p (step_place s) ≡ true → wanted b can args found made s ≡ Some d → Comes c can made g d
step_fresh b c can args p found made RunText d g it same o low k is =
    let w = when_is (has_fast_way b can && not found.stopped) due.Text d is in
    let fast = (parts2 (has_fast_way b can) (not found.stopped) w.0).0 in
    let nil : made ≡ [] = at_start made (rw (to_zero p k) at low) o.placed in
    subst (Comes c can made g) w.1 (λ may _. rw nil (fresh_text c can g may (rw same at fast)))
step_fresh b c can args p found made PrepareText d g it same o low k is =
    let w = when_is (is_none (live_handle b) && (not (has_fast_way b can) || was_skipped made) && not found.stopped) due.Prepare d is in
    let skipped = (parts3 (is_none (live_handle b)) (not (has_fast_way b can) || was_skipped made) (not found.stopped) w.0).1 in
    subst (Comes c can made g) w.1 (λ may _. fresh_prepare c can p made g o low k (rw same at skipped) may)
step_fresh b c can args p found made RunHandle d g it same o low k is = run_fresh c can args p found.stopped made d g o low k (rw (no_live b it) at is)
step_fresh b c can args p found made FetchRow d g it same o low k is = fetch_fresh c can p (reads_one b && not found.stopped) made d g low k (further p k) is
  where
    further : (q : ℕ) → nat_lt q 4 ≡ true → nat_lt q 6 ≡ true
    further q h = grind (arith, nat_tests, h)
step_fresh b c can args p found made CloseCursor d g it same o low k is = close_fresh c can p (reads_one b && not found.bad) made d g low k is
step_fresh b c can args p found made CloseHandle d g it same o low k is = free_fresh c can p (lets_handle_go b found made && not found.bad) made d g low k is
step_fresh b c can args p found made _ d g it same o low k is = absurd (nothing_below p k)

first_fresh : (b c : Course) (can : Caps) (args p : ℕ) (found : Found) (made : List Exchange) (left : List Step) (g : Got) → TextCourse b → has_fast_way b can ≡ has_fast_way c can → Orderly c can made
    → within p made ≡ true → list_all (λ s. nat_lt p (step_place s)) left ≡ true → Comes c can made g (first_wanted b can args found made left)
first_fresh b c can args p found made [] g it same o low k = λ may tidy. absurd (impossible may)
first_fresh b c can args p found made (s ∷ left) g it same o low k =
    let q = parts2 (nat_lt p (step_place s)) (list_all (λ x. nat_lt p (step_place x)) left) k in
    by_wanted (wanted b can args found made s) refl q.0 (first_fresh b c can args p found made left g it same o low q.1)
  where
    by_wanted : (w : Option Due) → wanted b can args found made s ≡ w → nat_lt p (step_place s) ≡ true → Comes c can made g (first_wanted b can args found made left)
        → Comes c can made g (or_then w (first_wanted b can args found made left))
    by_wanted None is here rest = rest
    by_wanted (Some d) is here rest = step_fresh b c can args p found made s d g it same o low here is

pub comes_fresh : (b c : Course) (can : Caps) (args : ℕ) (found : Found) (made : List Exchange) (g : Got) → TextCourse b → has_fast_way b can ≡ has_fast_way c can → Orderly c can made
    → Comes c can made g (comes_next b can args found made)
comes_fresh b c can args found made g it same o = by_bad (went_bad made) (left_fresh made o)
  where
    left_fresh : (xs : List Exchange) → Orderly c can xs → Comes c can xs g (first_wanted b can args found xs (steps_left b xs))
    left_fresh [] y = first_fresh b c can args 0 found [] (steps b) g it same y refl (all_left b it)
    left_fresh (x ∷ xs) y =
        let q = parts2 (is_in_order xs) (list_all (λ z. nat_lt (place z.0) (place x.0) || is_fetch x.0 && is_fetch z.0) xs) y.order in
        first_fresh b c can args (place x.0) found (x ∷ xs) (behind_call (step_of x.0) (steps b)) g it same y
        (join2 (nat_le (place x.0) (place x.0)) (within (place x.0) xs) (itself (place x.0)) (all_below x.0 xs q.1)) (left_behind b x.0 it)

    by_bad : (w : Bool) → Comes c can made g (first_wanted b can args found made (steps_left b made)) → Comes c can made g (if w then due.Over else first_wanted b can args found made (steps_left b made))
    by_bad true h = λ may tidy. absurd (impossible may)
    by_bad false h = h

-- Is true of the close of a handle. A course that reads one row closes its cursor before its handle.
abbrev freeing : Step → Bool
freeing CloseHandle = true
freeing _ = false

when_not_free : (b : Bool) (call d : Due) → is_free call ≡ false → when b call ≡ Some d → is_free d ≡ false
when_not_free b call d h is = let w = when_is b call d is in rw w.1 at h

not_free : (can : Caps) (args : ℕ) (found : Found) (made : List Exchange) (s : Step) (d : Due) → freeing s ≡ false → wanted courses.One can args found made s ≡ Some d → is_free d ≡ false
not_free can args found made RunText d f is = when_not_free (has_fast_way courses.One can && not found.stopped) due.Text d refl is
not_free can args found made PrepareText d f is = when_not_free (true && (not (has_fast_way courses.One can) || was_skipped made) && not found.stopped) due.Prepare d refl is
not_free can args found made RunHandle d f is = by_stopped found.stopped is
  where
    by_own : (own : Option (ℕ × ℤ)) → run_with args (or_else own None) ≡ Some d → is_free d ≡ false
    by_own None h = absurd cc
    by_own (Some it) h = when_not_free (is_none (count_fault it.1 args)) (due.Handle it.0) d refl h

    by_stopped : (b : Bool) → (if b then None else run_with args (or_else (own_handle made) None)) ≡ Some d → is_free d ≡ false
    by_stopped true h = absurd cc
    by_stopped false h = by_own (own_handle made) h
not_free can args found made FetchRow d f is = by_wants (true && not found.stopped) is
  where
    by_own : (own : Option ℕ) → option_map (λ rows. due.Next rows) own ≡ Some d → is_free d ≡ false
    by_own None h = absurd cc
    by_own (Some r) h = when_not_free true (due.Next r) d refl h

    by_wants : (b : Bool) → (if b then option_map (λ rows. due.Next rows) (own_cursor made) else None) ≡ Some d → is_free d ≡ false
    by_wants true h = by_own (own_cursor made) h
    by_wants false h = absurd cc
not_free can args found made CloseCursor d f is = by_wants (true && not found.bad) is
  where
    by_own : (own : Option ℕ) → option_map (λ rows. due.CloseRows rows) own ≡ Some d → is_free d ≡ false
    by_own None h = absurd cc
    by_own (Some r) h = when_not_free true (due.CloseRows r) d refl h

    by_wants : (b : Bool) → (if b then option_map (λ rows. due.CloseRows rows) (own_cursor made) else None) ≡ Some d → is_free d ≡ false
    by_wants true h = by_own (own_cursor made) h
    by_wants false h = absurd cc
not_free can args found made CloseHandle d f is = absurd cc
not_free can args found made PingIt d f is = when_not_free (can.pinger && not found.stopped) due.Ping d refl is
not_free can args found made BeginIt d f is = when_not_free (not found.stopped) due.Begin d refl is
not_free can args found made UndoIt d f is = when_not_free (found.stopped && list_any (λ x. is_done x.1) made) due.Rollback d refl is

later_free : (can : Caps) (args : ℕ) (found : Found) (made : List Exchange) (s : Step) (left : List Step) → freeing s ≡ false → is_free (first_wanted courses.One can args found made left) ≡ false
    → is_free (first_wanted courses.One can args found made (s ∷ left)) ≡ false
later_free can args found made s left f h = by_wanted (wanted courses.One can args found made s) refl
  where
    by_wanted : (w : Option Due) → wanted courses.One can args found made s ≡ w → is_free (or_then w (first_wanted courses.One can args found made left)) ≡ false
    by_wanted None is = h
    by_wanted (Some d) is = not_free can args found made s d f is

cursor_first : (can : Caps) (args r : ℕ) (found : Found) (made : List Exchange) → own_cursor made ≡ Some r → is_free (first_wanted courses.One can args found made (CloseCursor ∷ CloseHandle ∷ [])) ≡ false
cursor_first can args r found made own = by_bad found.bad
  where
    by_bad : (b : Bool)
        → is_free (or_then (if true && not b then option_map (λ rows. due.CloseRows rows) (own_cursor made) else None)
        (or_then (if true && not b then option_map (λ handle. due.CloseStmt handle.0) (own_handle made) else None) due.Over)) ≡ false
    by_bad true = refl
    by_bad false = rw own refl

never_free : (can : Caps) (args r : ℕ) (found : Found) (made : List Exchange) (x : Exchange) → own_cursor (x ∷ made) ≡ Some r → rows_are_over (x ∷ made) ≡ false
    → is_free (first_wanted courses.One can args found (x ∷ made) (behind_call (step_of x.0) (steps courses.One))) ≡ false
never_free can args r found made (due.Text, g) own over =
    later_free can args found ((due.Text, g) ∷ made) PrepareText (RunHandle ∷ FetchRow ∷ CloseCursor ∷ CloseHandle ∷ []) refl
    (later_free can args found ((due.Text, g) ∷ made) RunHandle (FetchRow ∷ CloseCursor ∷ CloseHandle ∷ []) refl
    (later_free can args found ((due.Text, g) ∷ made) FetchRow (CloseCursor ∷ CloseHandle ∷ []) refl (cursor_first can args r found ((due.Text, g) ∷ made) own)))
never_free can args r found made (due.Prepare, g) own over =
    later_free can args found ((due.Prepare, g) ∷ made) RunHandle (FetchRow ∷ CloseCursor ∷ CloseHandle ∷ []) refl
    (later_free can args found ((due.Prepare, g) ∷ made) FetchRow (CloseCursor ∷ CloseHandle ∷ []) refl (cursor_first can args r found ((due.Prepare, g) ∷ made) own))
never_free can args r found made (due.Handle handle, g) own over =
    later_free can args found ((due.Handle handle, g) ∷ made) FetchRow (CloseCursor ∷ CloseHandle ∷ []) refl (cursor_first can args r found ((due.Handle handle, g) ∷ made) own)
never_free can args r found made (due.Next rows, g) own over = cursor_first can args r found ((due.Next rows, g) ∷ made) own
never_free can args r found made (due.CloseRows rows, g) own over = absurd (impossible (sym over))
never_free can args r found made (due.CloseStmt handle, g) own over = refl
never_free can args r found made (_, g) own over = refl

-- When such a course closes its handle, its rows are over.
pub one_is_tidy : (can : Caps) (args : ℕ) (found : Found) (made : List Exchange) → Tidy made (comes_next courses.One can args found made)
one_is_tidy can args found made free some = by_over (rows_are_over made) refl
  where
    by_cursor : (xs : List Exchange) (own : Option ℕ) → own_cursor xs ≡ own → is_some own ≡ true → rows_are_over xs ≡ false → is_free (first_wanted courses.One can args found xs (steps_left courses.One xs)) ≡ false
    by_cursor [] own is h over = absurd (impossible (rw (← is) at h))
    by_cursor (x ∷ xs) None is h over = absurd (impossible h)
    by_cursor (x ∷ xs) (Some r) is h over = never_free can args r found xs x is over

    by_bad : (b : Bool) → is_free (if b then due.Over else first_wanted courses.One can args found made (steps_left courses.One made)) ≡ true
        → is_free (first_wanted courses.One can args found made (steps_left courses.One made)) ≡ false → ⊥
    by_bad true h k = impossible h
    by_bad false h k = true_false (is_free (first_wanted courses.One can args found made (steps_left courses.One made))) h k

    by_over : (b : Bool) → rows_are_over made ≡ b → b ≡ true
    by_over true is = refl
    by_over false is = absurd (by_bad (went_bad made) free (by_cursor made (own_cursor made) refl some is))
