-- A line that is over has closed what it opened: a close that is wanted isn't passed by.
use Rattle.std.proofs.Common.{◌≡◌, ℕ, ◌<◌, ◌≤◌, Bool, true, false, not, ◌&&◌, cond, List, [], ◌∷◌, map, refl, sym, ap, ◌∙◌, subst, Option, Some, None, is_none, inl, inr, lit<, lit≤, arith, rules}
use Rattle.std.specs.Prelude.{ℤ, Contains}
use Rattle.std.specs.List.{list_any}
use Rattle.std.specs.Option.{option_map}
use Rattle.std.proofs.lemmas.Bool.{and_parts, and_from, or_cases, or_parts, not-true, not_from_false}
use Rattle.std.proofs.lemmas.List.Elements.{All-weaker, Contains-push, Contains-append_left, Contains-append_right}
use Rattle.dsql_driver.specs.declared.caps.Caps.{Caps}
use Rattle.dsql_course.specs.declared.course.Course.{Course}
use Rattle.dsql_course.specs.declared.course.Course.TheVariants as course
use Rattle.dsql_course.specs.declared.call.Due.{Due}
use Rattle.dsql_course.specs.declared.call.Due.TheVariants as call
use Rattle.dsql_course.specs.declared.call.Got.{Got}
use Rattle.dsql_course.specs.declared.call.Got.TheVariants as got
use Rattle.dsql_course.specs.Steps.{Step, CloseCursor, CloseHandle, PingIt, BeginIt, UndoIt, steps, step_of, same_step}
use Rattle.dsql_course.specs.Made.{is_bad, went_bad, given_handle, given_cursor, own_handle, own_cursor, or_else, reads_one}
use Rattle.dsql_course.specs.Line.{Found, Turn, exchange, wanted, lets_handle_go, comes_next, may_get, IsLine}
use Rattle.dsql_course.specs.Laws.{EndsWell, KeepsNoHandle, Calls, ClosesWhatItOpened}
use Rattle.dsql_course.proofs.Turns.{newest}
use Rattle.dsql_course.proofs.Order.{place, call_place, same_step-sound}
use Rattle.dsql_course.proofs.Taken.{IsAmong, turn_taken, reached}
use Rattle.dsql_course.proofs.Opened.{none-some, cursors_are_own, handles_are_own}

-- Holds if none of these steps comes after the closing of a handle.
abbrev UpToHandle : List Step → Type 0
UpToHandle [] = Unit {0}
UpToHandle (step ∷ later) = (place step < 6) × UpToHandle later

up_to : (u : Step) (all : List Step) → UpToHandle all → IsAmong u all → place u < 6
up_to u [] h among = absurd (let never : false ≡ true = among in cc)
up_to u (first ∷ later) h among =
    elim (or_cases (same_step u first) (list_any (same_step u) later) among) [
      | inl same ↦ subst (λ (s : Step). place s < 6) (sym (same_step-sound u first same)) h.0
      | inr more ↦ up_to u later h.1 more
    ]

-- Holds if the step u is one of the course, and none of its steps comes after the closing of a handle.
record Closes (c : Course) (u : Step) : Type 0 where
  has : IsAmong u (steps c)
  last : UpToHandle (steps c)

reads_one-closes : (c : Course) → reads_one c ≡ true → Closes c CloseCursor
reads_one-closes course.One h = record { has = refl; last = search rules }
reads_one-closes (course.Run reads one live) h = record { has = refl; last = search rules }
reads_one-closes _ h = cc

guarded : (b : Bool) (o : Option Due) (due : Due) → cond b o None ≡ Some due → b ≡ true
guarded true o due h = refl
guarded false o due h = cc

opened : (b : Bool) (o : Option Due) → b ≡ true → cond b o None ≡ o
opened true o h = refl
opened false o h = cc

-- No step of a line comes after the closing of a handle, if the course closes what it opens.
at_least : (c : Course) (can : Caps) (args : ℕ) (turn : Turn) (earlier : List Turn) (due : Due) (step u : Step) → IsLine c can args (turn ∷ earlier) → Closes c u → turn.call ≡ due → step_of due ≡ Some step → place step < 6
at_least c can args turn earlier due step u line closes e is = up_to step (steps c) closes.last (turn_taken c can args turn earlier due step line e is).among

both_hold : {a bad : Bool} → a ≡ true → bad ≡ false → (a && not bad) ≡ true
both_hold {a = a} {bad = bad} h k = and_from a (not bad) h (not_from_false bad k)

some-injective : {X : Type 0} {x y : X} → Some x ≡ Some y → x ≡ y
some-injective h = cc

before : {due other : Due} {n : ℕ} → due ≡ other → call_place other < n → call_place due < n
before {n = n} is lt = subst (λ (d : Due). call_place d < n) (sym is) lt

beyond : {n : ℕ} → n < 6 → 6 ≤ n → ⊥
beyond h k = omega arith

never_over : (c : Course) (due : Due) (answer : Got) → due ≡ call.Over → may_get c due answer ≡ true → ⊥
never_over c due answer is h = let never : false ≡ true = subst (λ (d : Due). may_get c d answer ≡ true) is h in cc

calls_head : (turn : Turn) (earlier : List Turn) (due : Due) → turn.call ≡ due → Calls (turn ∷ earlier) due
calls_head turn earlier due e =
    let rest = map (λ (t : Turn). t.call) earlier in
    subst (λ (d : Due). Contains (d ∷ rest) due) (sym e) (Contains-append_left (due ∷ []) rest due (Contains-push [] due))

calls_tail : (turn : Turn) (earlier : List Turn) (due : Due) → Calls earlier due → Calls (turn ∷ earlier) due
calls_tail turn earlier due h = Contains-append_right (turn.call ∷ []) (map (λ (t : Turn). t.call) earlier) due h

-- The close of a cursor gives no cursor.
close_rows_gives : (c : Course) (due : Due) (answer : Got) (rows : ℕ) → due ≡ call.CloseRows rows → may_get c due answer ≡ true → given_cursor answer ≡ None
close_rows_gives c due (got.Cursor other) rows is h = let never : may_get c (call.CloseRows rows) (got.Cursor other) ≡ true = subst (λ (d : Due). may_get c d (got.Cursor other) ≡ true) is h in cc
close_rows_gives c due _ rows is h = refl

close_handle_gives : (c : Course) (due : Due) (answer : Got) (handle : ℕ) → due ≡ call.CloseStmt handle → may_get c due answer ≡ true → (given_cursor answer ≡ None) × (given_handle answer ≡ None)
close_handle_gives c due (got.Cursor other) handle is h = absurd (let never : may_get c (call.CloseStmt handle) (got.Cursor other) ≡ true = subst (λ (d : Due). may_get c d (got.Cursor other) ≡ true) is h in cc)
close_handle_gives c due (got.Prepared other inputs) handle is h = absurd (let never : may_get c (call.CloseStmt handle) (got.Prepared other inputs) ≡ true = subst (λ (d : Due). may_get c d (got.Prepared other inputs) ≡ true) is h in cc)
close_handle_gives c due _ handle is h = (refl, refl)

older : {X : Type 0} (o p : Option X) → o ≡ None → or_else o p ≡ p
older {X = X} o p none = ap (λ (x : Option X). or_else x p) none

closes_rows : (o : Option ℕ) (rows : ℕ) → option_map (λ r. call.CloseRows r) o ≡ Some (call.CloseRows rows) → o ≡ Some rows
closes_rows None rows h = cc
closes_rows (Some r) rows h = cc

closes_stmt : (o : Option (ℕ × ℤ)) (handle other : ℕ) (inputs : ℤ) → o ≡ Some (handle, inputs) → option_map (λ (h : ℕ × ℤ). call.CloseStmt h.0) o ≡ Some (call.CloseStmt other) → handle ≡ other
closes_stmt o handle other inputs is h =
    let same : Some (call.CloseStmt handle) ≡ Some (call.CloseStmt other) = subst (λ (p : Option (ℕ × ℤ)). option_map (λ (h : ℕ × ℤ). call.CloseStmt h.0) p ≡ Some (call.CloseStmt other)) is h in
    cc

-- If a step later than its close comes next, a cursor was closed.
cursor_closed : (c : Course) (can : Caps) (args : ℕ) (found : Found) (due : Due) (rows : ℕ) (turns : List Turn) → reads_one c ≡ true → IsLine c can args turns → went_bad (map exchange turns) ≡ false → comes_next c can args found (map exchange turns) ≡ due → 4 < call_place due → found.bad ≡ false → own_cursor (map exchange turns) ≡ Some rows → Calls turns (call.CloseRows rows)
cursor_closed c can args found due rows [] one line good next late fine own = absurd (none-some own)
cursor_closed c can args found due rows (turn ∷ earlier) one line good next late fine own =
    let h = newest c can args turn earlier line in
    let made = map exchange earlier in
    let closes = reads_one-closes c one in
    let wants : wanted c can args found (map exchange (turn ∷ earlier)) CloseCursor ≡ Some (call.CloseRows rows) =
    opened (reads_one c && not found.bad) _ (both_hold one fine) ∙ ap (λ (o : Option ℕ). option_map (λ r. call.CloseRows r) o) own in
    let past : call_place turn.call < 4 → ⊥ = reached c can args found due (call.CloseRows rows) CloseCursor turn earlier line good next late closes.has wants in
    elim turn.call as (λ d. turn.call ≡ d → Calls (turn ∷ earlier) (call.CloseRows rows)) [
      | call.CloseRows other ↦ λ is.
          let t = turn_taken c can args turn earlier (call.CloseRows other) CloseCursor line is refl in
          let there : own_cursor made ≡ Some other = closes_rows (own_cursor made) other (sym (opened _ _ (guarded _ _ _ t.wants)) ∙ t.wants) in
          let same : Some rows ≡ Some other = sym own ∙ (older (given_cursor turn.answer) (own_cursor made) (close_rows_gives c turn.call turn.answer other is h.answers) ∙ there) in
          let equal : rows ≡ other = some-injective same in
          calls_head turn earlier (call.CloseRows rows) (is ∙ ap (λ (n : ℕ). call.CloseRows n) (sym equal))
      | call.CloseStmt handle ↦ λ is.
          let t = turn_taken c can args turn earlier (call.CloseStmt handle) CloseHandle line is refl in
          let still : turn.found.bad ≡ false = not-true turn.found.bad (and_parts (lets_handle_go c turn.found made) (not turn.found.bad) (guarded _ _ _ t.wants)).1 in
          let there : own_cursor made ≡ Some rows = sym (older (given_cursor turn.answer) (own_cursor made) (close_handle_gives c turn.call turn.answer handle is h.answers).0) ∙ own in
          let better : went_bad made ≡ false = (or_parts (is_bad turn.answer) (went_bad made) good).1 in
          calls_tail turn earlier (call.CloseRows rows) (cursor_closed c can args turn.found (call.CloseStmt handle) rows earlier one h.line better (sym h.next ∙ is) (lit< tt) still there)
      | call.Text ↦ λ is. absurd (past (before is (lit< tt)))
      | call.Prepare ↦ λ is. absurd (past (before is (lit< tt)))
      | call.Handle handle ↦ λ is. absurd (past (before is (lit< tt)))
      | call.Next other ↦ λ is. absurd (past (before is (lit< tt)))
      | call.Ping ↦ λ is. absurd (beyond (at_least c can args turn earlier call.Ping PingIt CloseCursor line closes is refl) (lit≤ tt))
      | call.Begin ↦ λ is. absurd (beyond (at_least c can args turn earlier call.Begin BeginIt CloseCursor line closes is refl) (lit≤ tt))
      | call.Rollback ↦ λ is. absurd (beyond (at_least c can args turn earlier call.Rollback UndoIt CloseCursor line closes is refl) (lit≤ tt))
      | call.Over ↦ λ is. absurd (never_over c turn.call turn.answer is h.answers)
    ] refl

-- If nothing comes any more, a handle that the course lets go was closed.
handle_closed : (c : Course) (can : Caps) (args : ℕ) (found : Found) (handle : ℕ) (inputs : ℤ) (turns : List Turn) → Closes c CloseHandle → EndsWell c can args found turns → lets_handle_go c found (map exchange turns) ≡ true → own_handle (map exchange turns) ≡ Some (handle, inputs) → Calls turns (call.CloseStmt handle)
handle_closed c can args found handle inputs [] closes ends goes own = absurd (none-some own)
handle_closed c can args found handle inputs (turn ∷ earlier) closes ends goes own =
    let h = newest c can args turn earlier ends.line in
    let made = map exchange earlier in
    let wants : wanted c can args found (map exchange (turn ∷ earlier)) CloseHandle ≡ Some (call.CloseStmt handle) =
    opened (lets_handle_go c found (map exchange (turn ∷ earlier)) && not found.bad) _ (both_hold goes ends.connection)
    ∙ ap (λ (o : Option (ℕ × ℤ)). option_map (λ (p : ℕ × ℤ). call.CloseStmt p.0) o) own in
    let past : call_place turn.call < 5 → ⊥ = reached c can args found call.Over (call.CloseStmt handle) CloseHandle turn earlier ends.line ends.answers ends.over (lit< tt) closes.has wants in
    elim turn.call as (λ d. turn.call ≡ d → Calls (turn ∷ earlier) (call.CloseStmt handle)) [
      | call.CloseStmt other ↦ λ is.
          let t = turn_taken c can args turn earlier (call.CloseStmt other) CloseHandle ends.line is refl in
          let none = (close_handle_gives c turn.call turn.answer other is h.answers).1 in
          let there : own_handle made ≡ Some (handle, inputs) = sym (older (given_handle turn.answer) (own_handle made) none) ∙ own in
          let equal : handle ≡ other = closes_stmt (own_handle made) handle other inputs there (sym (opened _ _ (guarded _ _ _ t.wants)) ∙ t.wants) in
          calls_head turn earlier (call.CloseStmt handle) (is ∙ ap (λ (n : ℕ). call.CloseStmt n) (sym equal))
      | call.Text ↦ λ is. absurd (past (before is (lit< tt)))
      | call.Prepare ↦ λ is. absurd (past (before is (lit< tt)))
      | call.Handle other ↦ λ is. absurd (past (before is (lit< tt)))
      | call.Next rows ↦ λ is. absurd (past (before is (lit< tt)))
      | call.CloseRows rows ↦ λ is. absurd (past (before is (lit< tt)))
      | call.Ping ↦ λ is. absurd (beyond (at_least c can args turn earlier call.Ping PingIt CloseHandle ends.line closes is refl) (lit≤ tt))
      | call.Begin ↦ λ is. absurd (beyond (at_least c can args turn earlier call.Begin BeginIt CloseHandle ends.line closes is refl) (lit≤ tt))
      | call.Rollback ↦ λ is. absurd (beyond (at_least c can args turn earlier call.Rollback UndoIt CloseHandle ends.line closes is refl) (lit≤ tt))
      | call.Over ↦ λ is. absurd (never_over c turn.call turn.answer is h.answers)
    ] refl

keeps-closes : (c : Course) (turns : List Turn) → KeepsNoHandle c turns → Closes c CloseHandle
keeps-closes course.Exec turns h = record { has = refl; last = search rules }
keeps-closes course.One turns h = record { has = refl; last = search rules }
keeps-closes course.Query turns h = record { has = refl; last = search rules }
keeps-closes _ turns h = absurd h

keeps-goes : (c : Course) (found : Found) (turns : List Turn) → KeepsNoHandle c turns → lets_handle_go c found (map exchange turns) ≡ true
keeps-goes course.Exec found turns h = refl
keeps-goes course.One found turns h = refl
keeps-goes course.Query found turns h = ap (λ (o : Option ℕ). is_none o) h
keeps-goes _ found turns h = absurd h

pub closes_what_it_opened : ClosesWhatItOpened
closes_what_it_opened = record {
  cursors = λ c can args found turns ends one.
      All-weaker (λ (t : Turn). (rows : ℕ) → t.answer ≡ got.Cursor rows → own_cursor (map exchange turns) ≡ Some rows) (λ (t : Turn). (rows : ℕ) → t.answer ≡ got.Cursor rows → Calls turns (call.CloseRows rows))
      (λ t own rows is. cursor_closed c can args found call.Over rows turns one ends.line ends.answers ends.over (lit< tt) ends.connection (own rows is))
      turns (cursors_are_own c can args turns ends.line);
  handles = λ c can args found turns ends keeps.
      All-weaker (λ (t : Turn). (handle : ℕ) (inputs : ℤ) → t.answer ≡ got.Prepared handle inputs → own_handle (map exchange turns) ≡ Some (handle, inputs)) (λ (t : Turn). (handle : ℕ) (inputs : ℤ) → t.answer ≡ got.Prepared handle inputs → Calls turns (call.CloseStmt handle))
      (λ t own handle inputs is. handle_closed c can args found handle inputs turns (keeps-closes c turns keeps) ends (keeps-goes c found turns keeps) (own handle inputs is))
      turns (handles_are_own c can args turns ends.line);
}
