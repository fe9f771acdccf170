-- What a course sends next after exchanges that are in order. The exchanges have what it names.
use Rattle.std.proofs.Common.{◌≡◌, ℕ, ℤ, Bool, true, false, not, ◌&&◌, ◌||◌, if◌then◌else◌, List, [], ◌∷◌, Option, None, Some, is_none, refl, nat_lt, nat_le, subst}
use Rattle.std.specs.Prelude.{option_map}
use Rattle.std.specs.List.{list_all, list_any}
use native.Mathlib.Omega.{arith}
use Rattle.std.proofs.lemmas.Bool.Decides.{nat_tests}
use Rattle.dsql_history.specs.value.Arguments.{count_fault}
use Rattle.dsql_history.specs.driver.declared.caps.Caps.{Caps}
use Rattle.dsql_history.specs.course.declared.course.Course.{Course}
use Rattle.dsql_history.specs.course.declared.course.Course.TheVariants as courses
use Rattle.dsql_history.specs.course.declared.call.Due.{Due}
use Rattle.dsql_history.specs.course.declared.call.Due.TheVariants as due
use Rattle.dsql_history.specs.course.declared.call.Got.{Got}
use Rattle.dsql_history.specs.course.Steps.{Step, RunText, PrepareText, RunHandle, FetchRow, CloseCursor, CloseHandle, steps, step_of}
use Rattle.dsql_history.specs.course.Made.{Exchange, went_bad, own_handle, own_cursor, ends_rows, rows_are_over, or_else, live_handle, has_fast_way, was_skipped, reads_one}
use Rattle.dsql_history.specs.course.Line.{Found, wanted, when, run_with, lets_handle_go, or_then, first_wanted, behind_call, steps_left, comes_next}
use Rattle.dsql_history.proofs.journal.Conjunctions.{parts2, join2}
use Rattle.dsql_history.specs.Readers.Lines.{closes_cursor, closes_handle, has_cursor, has_handle}
use Rattle.dsql_laws_tenures.specs.Orderly.{place, is_fetch, is_in_order}
use Rattle.dsql_laws_tenures.proofs.Numbers.{is_itself, impossible}

-- Holds if these exchanges have what the step of a course names. On a connection that is known to be bad, the
-- step closes nothing.
abbrev pub Names : List Exchange → Bool → Due → Type 0
Names made bad due.Text = Unit {0}
Names made bad due.Prepare = Unit {0}
Names made bad (due.Handle handle) = has_handle made handle ≡ true
Names made bad (due.Next rows) = (has_cursor made rows ≡ true) × (rows_are_over made ≡ false)
Names made bad (due.CloseRows rows) = (has_cursor made rows ≡ true) × (bad ≡ false)
Names made bad (due.CloseStmt handle) = (has_handle made handle ≡ true) × (bad ≡ false)
Names made bad due.Over = Unit {0}
Names made bad _ = ⊥

abbrev pub step_place : Step → ℕ
step_place RunText = 1
step_place PrepareText = 2
step_place RunHandle = 3
step_place FetchRow = 4
step_place CloseCursor = 5
step_place CloseHandle = 6
step_place _ = 0

-- Is true if no exchange has a higher place than this.
abbrev pub within : ℕ → List Exchange → Bool
within p made = list_all (λ y. nat_le (place y.0) p) made

pub beyond : (q p n : ℕ) → nat_le q p ≡ true → nat_lt p n ≡ true → nat_lt q n ≡ true
beyond q p n h k = grind (arith, nat_tests, h, k)

-- Exchanges below the place of a cursor's close close no cursor, and those below the place of a handle's close
-- close no handle.
no_close_of : (r : ℕ) (d : Due) → nat_lt (place d) 5 ≡ true → closes_cursor r d ≡ false
no_close_of r (due.CloseRows rows) h = absurd cc
no_close_of r _ h = refl

no_free_of : (n : ℕ) (d : Due) → nat_lt (place d) 6 ≡ true → closes_handle n d ≡ false
no_free_of n (due.CloseStmt handle) h = absurd cc
no_free_of n _ h = refl

no_end_of : (d : Due) (g : Got) → nat_lt (place d) 4 ≡ true → ends_rows (d, g) ≡ false
no_end_of (due.Next rows) g h = absurd cc
no_end_of (due.CloseRows rows) g h = absurd cc
no_end_of _ g h = refl

none_closed : (r p : ℕ) (made : List Exchange) → within p made ≡ true → nat_lt p 5 ≡ true → list_any (λ x. closes_cursor r x.0) made ≡ false
none_closed r p [] h k = refl
none_closed r p (x ∷ made) h k =
    let q = parts2 (nat_le (place x.0) p) (within p made) h in
    rw (no_close_of r x.0 (beyond (place x.0) p 5 q.0 k)) (none_closed r p made q.1 k)

none_freed : (n p : ℕ) (made : List Exchange) → within p made ≡ true → nat_lt p 6 ≡ true → list_any (λ x. closes_handle n x.0) made ≡ false
none_freed n p [] h k = refl
none_freed n p (x ∷ made) h k =
    let q = parts2 (nat_le (place x.0) p) (within p made) h in
    rw (no_free_of n x.0 (beyond (place x.0) p 6 q.0 k)) (none_freed n p made q.1 k)

none_ended : (p : ℕ) (made : List Exchange) → within p made ≡ true → nat_lt p 4 ≡ true → rows_are_over made ≡ false
none_ended p [] h k = refl
none_ended p (x ∷ made) h k =
    let q = parts2 (nat_le (place x.0) p) (within p made) h in
    rw (no_end_of x.0 x.1 (beyond (place x.0) p 4 q.0 k)) (none_ended p made q.1 k)

later_than : (p : ℕ) → nat_lt p 3 ≡ true → nat_lt p 6 ≡ true
later_than p h = grind (arith, nat_tests, h)

before_close : (p : ℕ) → nat_lt p 4 ≡ true → nat_lt p 5 ≡ true
before_close p h = grind (arith, nat_tests, h)

had_handle : (n p : ℕ) (inputs : ℤ) (made : List Exchange) → own_handle made ≡ Some (n, inputs) → within p made ≡ true → nat_lt p 6 ≡ true → has_handle made n ≡ true
had_handle n p inputs made own low k = rw (own, is_itself n, none_freed n p made low k) refl

had_cursor : (r p : ℕ) (made : List Exchange) → own_cursor made ≡ Some r → within p made ≡ true → nat_lt p 5 ≡ true → has_cursor made r ≡ true
had_cursor r p made own low k = rw (own, is_itself r, none_closed r p made low k) refl

-- Holds if the course has a text.
abbrev pub TextCourse : Course → Type 0
TextCourse courses.Exec = Unit {0}
TextCourse courses.Query = Unit {0}
TextCourse courses.One = Unit {0}
TextCourse _ = ⊥

pub nothing_below : (p : ℕ) → nat_lt p 0 ≡ true → ⊥
nothing_below p h = grind (arith, nat_tests, h)

pub plain_when : (P : Due → Type 0) (b : Bool) (call d : Due) → P call → when b call ≡ Some d → P d
plain_when P true call d it is = let same : call ≡ d = cc in subst P same it
plain_when P false call d it is = absurd cc

run_names : (args p : ℕ) (stopped bad : Bool) (made : List Exchange) (d : Due) → within p made ≡ true → nat_lt p 3 ≡ true → (if stopped then None else run_with args (or_else (own_handle made) None)) ≡ Some d → Names made bad d
run_names args p true bad made d low k is = absurd cc
run_names args p false bad made d low k is = by_own (own_handle made) refl is
  where
    by_own : (o : Option (ℕ × ℤ)) → own_handle made ≡ o → run_with args (or_else o None) ≡ Some d → Names made bad d
    by_own None own h = absurd cc
    by_own (Some it) own h = plain_when (Names made bad) (is_none (count_fault it.1 args)) (due.Handle it.0) d (had_handle it.0 p it.1 made own low (later_than p k)) h

fetch_names : (p : ℕ) (wants bad : Bool) (made : List Exchange) (d : Due) → within p made ≡ true → nat_lt p 4 ≡ true → (if wants then option_map (λ rows. due.Next rows) (own_cursor made) else None) ≡ Some d → Names made bad d
fetch_names p false bad made d low k is = absurd cc
fetch_names p true bad made d low k is = by_own (own_cursor made) refl is
  where
    by_own : (o : Option ℕ) → own_cursor made ≡ o → option_map (λ rows. due.Next rows) o ≡ Some d → Names made bad d
    by_own None own h = absurd cc
    by_own (Some r) own h = plain_when (Names made bad) true (due.Next r) d (had_cursor r p made own low (before_close p k), none_ended p made low k) h

close_names : (p : ℕ) (wants bad : Bool) (made : List Exchange) (d : Due) → within p made ≡ true → nat_lt p 5 ≡ true
    → (if wants && not bad then option_map (λ rows. due.CloseRows rows) (own_cursor made) else None) ≡ Some d → Names made bad d
close_names p false bad made d low k is = absurd cc
close_names p true true made d low k is = absurd cc
close_names p true false made d low k is = by_own (own_cursor made) refl is
  where
    by_own : (o : Option ℕ) → own_cursor made ≡ o → option_map (λ rows. due.CloseRows rows) o ≡ Some d → Names made false d
    by_own None own h = absurd cc
    by_own (Some r) own h = plain_when (Names made false) true (due.CloseRows r) d (had_cursor r p made own low k, refl) h

free_names : (p : ℕ) (wants bad : Bool) (made : List Exchange) (d : Due) → within p made ≡ true → nat_lt p 6 ≡ true
    → (if wants && not bad then option_map (λ handle. due.CloseStmt handle.0) (own_handle made) else None) ≡ Some d → Names made bad d
free_names p false bad made d low k is = absurd cc
free_names p true true made d low k is = absurd cc
free_names p true false made d low k is = by_own (own_handle made) refl is
  where
    by_own : (o : Option (ℕ × ℤ)) → own_handle made ≡ o → option_map (λ handle. due.CloseStmt handle.0) o ≡ Some d → Names made false d
    by_own None own h = absurd cc
    by_own (Some it) own h = plain_when (Names made false) true (due.CloseStmt it.0) d (had_handle it.0 p it.1 made own low k, refl) h

pub no_live : (c : Course) → TextCourse c → live_handle c ≡ None
no_live courses.Exec it = refl
no_live courses.Query it = refl
no_live courses.One it = refl
no_live _ it = absurd it

-- A step that is to be taken names what the exchanges have.
step_names : (c : Course) (can : Caps) (args p : ℕ) (found : Found) (made : List Exchange) (s : Step) (d : Due) → TextCourse c → within p made ≡ true → nat_lt p (step_place s) ≡ true
    → wanted c can args found made s ≡ Some d → Names made found.bad d
step_names c can args p found made RunText d it low k is = plain_when (Names made found.bad) (has_fast_way c can && not found.stopped) due.Text d tt is
step_names c can args p found made PrepareText d it low k is =
    plain_when (Names made found.bad) (is_none (live_handle c) && (not (has_fast_way c can) || was_skipped made) && not found.stopped) due.Prepare d tt is
step_names c can args p found made RunHandle d it low k is = run_names args p found.stopped found.bad made d low k (rw (no_live c it) at is)
step_names c can args p found made FetchRow d it low k is = fetch_names p (reads_one c && not found.stopped) found.bad made d low k is
step_names c can args p found made CloseCursor d it low k is = close_names p (reads_one c) found.bad made d low k is
step_names c can args p found made CloseHandle d it low k is = free_names p (lets_handle_go c found made) found.bad made d low k is
step_names c can args p found made _ d it low k is = absurd (nothing_below p k)

first_names : (c : Course) (can : Caps) (args p : ℕ) (found : Found) (made : List Exchange) (left : List Step) → TextCourse c → within p made ≡ true
    → list_all (λ s. nat_lt p (step_place s)) left ≡ true → Names made found.bad (first_wanted c can args found made left)
first_names c can args p found made [] it low k = tt
first_names c can args p found made (s ∷ left) it low k =
    let q = parts2 (nat_lt p (step_place s)) (list_all (λ x. nat_lt p (step_place x)) left) k in
    by_wanted (wanted c can args found made s) refl q.0 (first_names c can args p found made left it low q.1)
  where
    by_wanted : (o : Option Due) → wanted c can args found made s ≡ o → nat_lt p (step_place s) ≡ true → Names made found.bad (first_wanted c can args found made left)
        → Names made found.bad (or_then o (first_wanted c can args found made left))
    by_wanted None is here rest = rest
    by_wanted (Some d) is here rest = step_names c can args p found made s d it low here is

-- The steps that are left have a higher place than the last exchange.
behind_exec : (d : Due) → list_all (λ s. nat_lt (place d) (step_place s)) (behind_call (step_of d) (steps courses.Exec)) ≡ true
behind_exec due.Text = refl
behind_exec _ = refl

behind_one : (d : Due) → list_all (λ s. nat_lt (place d) (step_place s)) (behind_call (step_of d) (steps courses.One)) ≡ true
behind_one due.Text = refl
behind_one _ = refl

pub left_behind : (c : Course) (d : Due) → TextCourse c → list_all (λ s. nat_lt (place d) (step_place s)) (behind_call (step_of d) (steps c)) ≡ true
left_behind courses.Exec d it = behind_exec d
left_behind courses.Query d it = behind_exec d
left_behind courses.One d it = behind_one d
left_behind _ d it = absurd it

pub all_left : (c : Course) → TextCourse c → list_all (λ s. nat_lt 0 (step_place s)) (steps c) ≡ true
all_left courses.Exec it = refl
all_left courses.Query it = refl
all_left courses.One it = refl
all_left _ it = absurd it

less : (m n : ℕ) → nat_lt m n || false ≡ true → nat_le m n ≡ true
less m n h = by_test (nat_lt m n) refl h
  where
    by_test : (b : Bool) → nat_lt m n ≡ b → b || false ≡ true → nat_le m n ≡ true
    by_test true is k = grind (arith, nat_tests, is)
    by_test false is k = absurd (impossible k)

-- What comes before the last exchange has no higher place.
below : (d q : Due) → nat_lt (place q) (place d) || is_fetch d && is_fetch q ≡ true → nat_le (place q) (place d) ≡ true
below (due.Next rows) (due.CloseRows other) h = absurd cc
below (due.Next rows) (due.CloseStmt handle) h = absurd cc
below (due.Next rows) _ h = refl
below due.Text q h = less (place q) 1 h
below due.Prepare q h = less (place q) 2 h
below (due.Handle handle) q h = less (place q) 3 h
below (due.CloseRows rows) q h = less (place q) 5 h
below (due.CloseStmt handle) q h = less (place q) 6 h
below _ q h = less (place q) 0 h

pub all_below : (d : Due) (made : List Exchange) → list_all (λ y. nat_lt (place y.0) (place d) || is_fetch d && is_fetch y.0) made ≡ true → within (place d) made ≡ true
all_below d [] h = refl
all_below d (y ∷ made) h =
    let q = parts2 (nat_lt (place y.0) (place d) || is_fetch d && is_fetch y.0) (list_all (λ x. nat_lt (place x.0) (place d) || is_fetch d && is_fetch x.0) made) h in
    join2 (nat_le (place y.0) (place d)) (within (place d) made) (below d y.0 q.0) (all_below d made q.1)

pub itself : (n : ℕ) → nat_le n n ≡ true
itself n = grind (arith, nat_tests)

-- What a course sends next names what the exchanges have.
pub next_names : (c : Course) (can : Caps) (args : ℕ) (found : Found) (made : List Exchange) → TextCourse c → is_in_order made ≡ true → Names made found.bad (comes_next c can args found made)
next_names c can args found made it order = by_bad (went_bad made) (left_names made order)
  where
    left_names : (xs : List Exchange) → is_in_order xs ≡ true → Names xs found.bad (first_wanted c can args found xs (steps_left c xs))
    left_names [] o = first_names c can args 0 found [] (steps c) it refl (all_left c it)
    left_names (x ∷ xs) o =
        let q = parts2 (is_in_order xs) (list_all (λ y. nat_lt (place y.0) (place x.0) || is_fetch x.0 && is_fetch y.0) xs) o in
        first_names c can args (place x.0) found (x ∷ xs) (behind_call (step_of x.0) (steps c)) it
        (join2 (nat_le (place x.0) (place x.0)) (within (place x.0) xs) (itself (place x.0)) (all_below x.0 xs q.1)) (left_behind c x.0 it)

    by_bad : (b : Bool) → Names made found.bad (first_wanted c can args found made (steps_left c made)) → Names made found.bad (if b then due.Over else first_wanted c can args found made (steps_left c made))
    by_bad true h = tt
    by_bad false h = h
