-- The calls of a line stand in the order of their steps: what comes next is always a later step.
use Rattle.std.proofs.Common.{◌≡◌, ◌≢◌, ℕ, ◌<◌, Bool, true, false, cond, List, [], ◌∷◌, map, refl, sym, ap, subst, Option, Some, None, lit<, arith, rules}
use Rattle.std.specs.Prelude.{ℤ, All}
use Rattle.std.specs.Option.{option_map}
use Rattle.std.proofs.lemmas.List.Elements.{All-nil, All-cons, All-weaker}
use Rattle.std.proofs.lemmas.List.Kept.{AllPairs-cons}
use Rattle.dsql_driver.specs.declared.caps.Caps.{Caps}
use Rattle.dsql_course.specs.declared.course.Course.{Course}
use Rattle.dsql_course.specs.declared.course.Course.TheVariants as course
use Rattle.dsql_course.specs.declared.call.Due.{Due}
use Rattle.dsql_course.specs.declared.call.Due.TheVariants as call
use Rattle.dsql_course.specs.declared.call.Got.{Got}
use Rattle.dsql_course.specs.Steps.{Step, RunText, PrepareText, RunHandle, FetchRow, CloseCursor, CloseHandle, PingIt, BeginIt, UndoIt, steps, step_of, same_step, behind}
use Rattle.dsql_course.specs.Made.{Exchange, went_bad}
use Rattle.dsql_course.specs.Line.{Found, Turn, exchange, when, run_with, or_then, wanted, first_wanted, steps_left, behind_call, comes_next, may_get, IsLine}
use Rattle.dsql_course.specs.Laws.{StepsOnce}
use Rattle.dsql_course.proofs.Turns.{newest}

-- Returns the place of a step among all.
abbrev pub place : Step → ℕ
place RunText = 0
place PrepareText = 1
place RunHandle = 2
place FetchRow = 3
place CloseCursor = 4
place CloseHandle = 5
place PingIt = 6
place BeginIt = 7
place UndoIt = 8

abbrev pub place_of : Option Step → ℕ
place_of None = 9
place_of (Some step) = place step

-- Returns the place of a call. Over comes after all others.
abbrev pub call_place : Due → ℕ
call_place due = place_of (step_of due)

-- Holds if all these steps come after that place.
abbrev pub AllBehind : ℕ → List Step → Type 0
AllBehind n [] = Unit {0}
AllBehind n (step ∷ later) = (n < place step) × AllBehind n later

-- Holds if these steps are in order.
abbrev pub InOrder : List Step → Type 0
InOrder [] = Unit {0}
InOrder (step ∷ later) = AllBehind (place step) later × InOrder later

pub in_order : (c : Course) → InOrder (steps c)
in_order course.Exec = search rules
in_order _ = search rules

pub same_step-sound : (s t : Step) → same_step s t ≡ true → s ≡ t
same_step-sound RunText RunText h = refl
same_step-sound PrepareText PrepareText h = refl
same_step-sound RunHandle RunHandle h = refl
same_step-sound FetchRow FetchRow h = refl
same_step-sound CloseCursor CloseCursor h = refl
same_step-sound CloseHandle CloseHandle h = refl
same_step-sound PingIt PingIt h = refl
same_step-sound BeginIt BeginIt h = refl
same_step-sound UndoIt UndoIt h = refl
same_step-sound _ _ h = cc

pub all_behind : (s : Step) (all : List Step) → InOrder all → AllBehind (place s) (behind s all)
all_behind s [] h = tt
all_behind s (step ∷ later) h =
    elim (same_step s step) as (λ b. same_step s step ≡ b → AllBehind (place s) (cond b later (behind s later))) [
      | true ↦ λ same. subst (λ (t : Step). AllBehind (place t) later) (sym (same_step-sound s step same)) h.0
      | false ↦ λ other. all_behind s later h.1
    ] refl

when_is : (b : Bool) (x y : Due) → when b x ≡ Some y → x ≡ y
when_is true x y h = cc
when_is false x y h = cc

mapped_is : {X : Type 0} (f : X → Due) (s : Step) → ((x : X) → step_of (f x) ≡ Some s) → (o : Option X) (due : Due) → option_map f o ≡ Some due → step_of due ≡ Some s
mapped_is f s is None due h = cc
mapped_is f s is (Some x) due h = let same : f x ≡ due = cc in subst (λ (d : Due). step_of d ≡ Some s) same (is x)

guarded : (b : Bool) (o : Option Due) (due : Due) → cond b o None ≡ Some due → o ≡ Some due
guarded true o due h = h
guarded false o due h = cc

guarded_not : (b : Bool) (o : Option Due) (due : Due) → cond b None o ≡ Some due → o ≡ Some due
guarded_not true o due h = cc
guarded_not false o due h = h

run_is : (args : ℕ) (o : Option (ℕ × ℤ)) (due : Due) → run_with args o ≡ Some due → step_of due ≡ Some RunHandle
run_is args None due h = cc
run_is args (Some handle) due h = ap step_of (sym (when_is _ (call.Handle handle.0) due h))

-- What a step wants is a call of that step.
pub wanted_is : (c : Course) (can : Caps) (args : ℕ) (found : Found) (made : List Exchange) (step : Step) (due : Due) → wanted c can args found made step ≡ Some due → step_of due ≡ Some step
wanted_is c can args found made RunText due h = ap step_of (sym (when_is _ call.Text due h))
wanted_is c can args found made PrepareText due h = ap step_of (sym (when_is _ call.Prepare due h))
wanted_is c can args found made RunHandle due h = run_is args _ due (guarded_not found.stopped _ due h)
wanted_is c can args found made FetchRow due h = mapped_is (λ (rows : ℕ). call.Next rows) FetchRow (λ rows. refl) _ due (guarded _ _ due h)
wanted_is c can args found made CloseCursor due h = mapped_is (λ (rows : ℕ). call.CloseRows rows) CloseCursor (λ rows. refl) _ due (guarded _ _ due h)
wanted_is c can args found made CloseHandle due h = mapped_is (λ (handle : ℕ × ℤ). call.CloseStmt handle.0) CloseHandle (λ handle. refl) _ due (guarded _ _ due h)
wanted_is c can args found made PingIt due h = ap step_of (sym (when_is _ call.Ping due h))
wanted_is c can args found made BeginIt due h = ap step_of (sym (when_is _ call.Begin due h))
wanted_is c can args found made UndoIt due h = ap step_of (sym (when_is _ call.Rollback due h))

-- If all steps come after a place, so does the first call that is wanted of them.
first_behind : (c : Course) (can : Caps) (args : ℕ) (found : Found) (made : List Exchange) (n : ℕ) (all : List Step) → n < 9 → AllBehind n all → n < call_place (first_wanted c can args found made all)
first_behind c can args found made n [] small h = small
first_behind c can args found made n (step ∷ later) small h =
    elim (wanted c can args found made step) as (λ o. wanted c can args found made step ≡ o → n < call_place (or_then o (first_wanted c can args found made later))) [
      | Some due ↦ λ is. subst (λ (s : Option Step). n < place_of s) (sym (wanted_is c can args found made step due is)) h.0
      | None ↦ λ is. first_behind c can args found made n later small h.1
    ] refl

left_behind : (c : Course) (s : Option Step) → AllBehind (place_of s) (behind_call s (steps c))
left_behind c None = tt
left_behind c (Some step) = all_behind step (steps c) (in_order c)

next_behind : (c : Course) (can : Caps) (args : ℕ) (found : Found) (x : Exchange) (earlier : List Exchange) → call_place x.0 < 9 → call_place x.0 < call_place (comes_next c can args found (x ∷ earlier))
next_behind c can args found x earlier small =
    elim (went_bad (x ∷ earlier)) as (λ b. call_place x.0 < call_place (cond b call.Over (first_wanted c can args found (x ∷ earlier) (steps_left c (x ∷ earlier))))) [
      | true ↦ small
      | false ↦ first_behind c can args found (x ∷ earlier) (call_place x.0) (steps_left c (x ∷ earlier)) small (left_behind c (step_of x.0))
    ]

-- A call that may have an answer takes a step.
pub answers_place : (c : Course) (due : Due) (answer : Got) → may_get c due answer ≡ true → call_place due < 9
answers_place c call.Over answer h = cc
answers_place c _ answer h = lit< tt

-- Holds if all these calls come before that place.
abbrev pub AllBefore : ℕ → List Turn → Type 0
AllBefore n turns = All (λ turn. call_place turn.call < n) turns

pub before_next : (c : Course) (can : Caps) (args : ℕ) (turn : Turn) (earlier : List Turn) → IsLine c can args (turn ∷ earlier) → AllBefore (call_place turn.call) earlier
before_next c can args turn [] line = All-nil (λ (t : Turn). call_place t.call < call_place turn.call)
before_next c can args turn (last ∷ earlier) line =
    let h = newest c can args turn (last ∷ earlier) line in
    let before = newest c can args last earlier h.line in
    let small = answers_place c last.call last.answer before.answers in
    let lt : call_place last.call < call_place turn.call =
    subst (λ (due : Due). call_place last.call < call_place due) (sym h.next) (next_behind c can args turn.found (exchange last) (map exchange earlier) small) in
    All-cons (λ (t : Turn). call_place t.call < call_place turn.call) last earlier lt
    (All-weaker (λ (t : Turn). call_place t.call < call_place last.call) (λ (t : Turn). call_place t.call < call_place turn.call) (λ t less. omega arith) earlier (before_next c can args last earlier h.line))

apart : (one other : Due) → call_place other < call_place one → step_of one ≢ step_of other
apart one other lt same = let places : call_place one ≡ call_place other = ap place_of same in omega arith

pub steps_once : StepsOnce
steps_once c can args [] line = λ i j d lt past same. omega arith
steps_once c can args (turn ∷ earlier) line =
    let h = newest c can args turn earlier line in
    let R : Turn → Turn → Type 0 = λ one other. step_of one.call ≢ step_of other.call in
    AllPairs-cons R turn earlier (All-weaker (λ (t : Turn). call_place t.call < call_place turn.call) (R turn) (λ t less. apart turn.call t.call less) earlier (before_next c can args turn earlier line)) (steps_once c can args earlier h.line)
