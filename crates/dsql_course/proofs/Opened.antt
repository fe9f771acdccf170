-- A line is given one cursor and one handle at most. Only the run of a text or a handle gives a cursor, and a
-- text that gave one isn't prepared. Only a Prepare gives a handle.
use Rattle.std.proofs.Common.{◌≡◌, ℕ, ◌<◌, ◌⊎◌, Bool, true, false, not, ◌&&◌, ◌||◌, cond, List, [], ◌∷◌, map, refl, sym, ap, ◌∙◌, subst, Option, Some, None, is_none, inl, inr, arith}
use Rattle.std.specs.Prelude.{ℤ, All}
use Rattle.std.proofs.lemmas.Bool.{and_parts, or_cases}
use Rattle.std.proofs.lemmas.List.Elements.{All-nil, All-cons, All-head, All-tail, All-weaker}
use Rattle.dsql_driver.specs.declared.caps.Caps.{Caps}
use Rattle.dsql_course.specs.declared.course.Course.{Course}
use Rattle.dsql_course.specs.declared.course.Course.TheVariants as course
use Rattle.dsql_course.specs.declared.call.Due.{Due}
use Rattle.dsql_course.specs.declared.call.Due.TheVariants as call
use Rattle.dsql_course.specs.declared.call.Got.{Got}
use Rattle.dsql_course.specs.declared.call.Got.TheVariants as got
use Rattle.dsql_course.specs.Steps.{RunText, PrepareText, RunHandle}
use Rattle.dsql_course.specs.Made.{Exchange, is_skip, was_skipped, given_handle, given_cursor, own_handle, own_cursor, or_else, live_handle, has_fast_way}
use Rattle.dsql_course.specs.Line.{Turn, exchange, when, run_with, may_get, IsLine}
use Rattle.dsql_course.proofs.Turns.{newest}
use Rattle.dsql_course.proofs.Order.{call_place, before_next}
use Rattle.dsql_course.proofs.Taken.{turn_taken}

pub none-some : {X : Type 0} {x : X} → None ≡ Some x → ⊥
none-some h = cc

text_or_prepare : (due : Due) → call_place due < 2 → (due ≡ call.Text) ⊎ (due ≡ call.Prepare)
text_or_prepare call.Text lt = inl refl
text_or_prepare call.Prepare lt = inr refl
text_or_prepare _ lt = absurd (omega arith)

only_text : (due : Due) → call_place due < 1 → due ≡ call.Text
only_text due lt = elim (text_or_prepare due (omega arith)) [
  | inl text ↦ text
  | inr prepare ↦ let one : call_place due ≡ 1 = ap call_place prepare in absurd (omega arith)
]

-- The run of a text gives no handle.
text_gives : (c : Course) (due : Due) (answer : Got) → due ≡ call.Text → may_get c due answer ≡ true → given_handle answer ≡ None
text_gives c due (got.Prepared handle inputs) is h = let no : may_get c call.Text (got.Prepared handle inputs) ≡ true = subst (λ (d : Due). may_get c d (got.Prepared handle inputs) ≡ true) is h in cc
text_gives c due _ is h = refl

-- A Prepare gives no cursor.
prepare_gives : (c : Course) (due : Due) (answer : Got) → due ≡ call.Prepare → may_get c due answer ≡ true → given_cursor answer ≡ None
prepare_gives c due (got.Cursor rows) is h = let no : may_get c call.Prepare (got.Cursor rows) ≡ true = subst (λ (d : Due). may_get c d (got.Cursor rows) ≡ true) is h in cc
prepare_gives c due _ is h = refl

skip_gives : (answer : Got) → is_skip answer ≡ true → given_cursor answer ≡ None
skip_gives got.Skip h = refl
skip_gives (got.Cursor rows) h = cc
skip_gives _ h = cc

when_holds : (b : Bool) (x y : Due) → when b x ≡ Some y → b ≡ true
when_holds true x y h = refl
when_holds false x y h = cc

-- A course with a fast way has no live handle.
fast_is_new : (c : Course) (can : Caps) → has_fast_way c can ≡ true → live_handle c ≡ None
fast_is_new (course.Run reads one live) can h = cc
fast_is_new _ can h = refl

-- A course that ran a text has the fast way.
text_taken : (c : Course) (can : Caps) (args : ℕ) (turn : Turn) (earlier : List Turn) → IsLine c can args (turn ∷ earlier) → turn.call ≡ call.Text → has_fast_way c can ≡ true
text_taken c can args turn earlier line is =
    let h = turn_taken c can args turn earlier call.Text RunText line is refl in
    (and_parts (has_fast_way c can) (not turn.found.stopped) (when_holds _ call.Text call.Text h.wants)).0

no_run : (args : ℕ) (stopped : Bool) (o : Option (ℕ × ℤ)) (due : Due) → o ≡ None → cond stopped None (run_with args o) ≡ Some due → ⊥
no_run args true o due is h = cc
no_run args false o due is h = let no : run_with args None ≡ Some due = subst (λ (p : Option (ℕ × ℤ)). run_with args p ≡ Some due) is h in cc

-- A line whose only earlier call is the run of a text runs no handle.
no_handle_run : (c : Course) (can : Caps) (args : ℕ) (turn last : Turn) (handle : ℕ) → IsLine c can args (turn ∷ last ∷ []) → turn.call ≡ call.Handle handle → last.call ≡ call.Text → ⊥
no_handle_run c can args turn last handle line is text =
    let before = (newest c can args turn (last ∷ []) line).line in
    let h = turn_taken c can args turn (last ∷ []) (call.Handle handle) RunHandle line is refl in
    let nothing : or_else (given_handle last.answer) None ≡ None = ap (λ (o : Option (ℕ × ℤ)). or_else o None) (text_gives c last.call last.answer text (newest c can args last [] before).answers) in
    let live = fast_is_new c can (text_taken c can args last [] before text) in
    let none : or_else (or_else (given_handle last.answer) None) (live_handle c) ≡ None = ap (λ (o : Option (ℕ × ℤ)). or_else o (live_handle c)) nothing ∙ live in
    no_run args turn.found.stopped _ (call.Handle handle) none h.wants

-- A Prepare right after the run of a text means that the run gave no cursor.
passed_on : (c : Course) (can : Caps) (args : ℕ) (turn last : Turn) → IsLine c can args (turn ∷ last ∷ []) → turn.call ≡ call.Prepare → last.call ≡ call.Text → given_cursor last.answer ≡ None
passed_on c can args turn last line is text =
    let before = (newest c can args turn (last ∷ []) line).line in
    let h = turn_taken c can args turn (last ∷ []) call.Prepare PrepareText line is refl in
    let skipped = was_skipped (exchange last ∷ []) in
    let all = and_parts (is_none (live_handle c) && (not (has_fast_way c can) || skipped)) (not turn.found.stopped) (when_holds _ call.Prepare call.Prepare h.wants) in
    let reason = (and_parts (is_none (live_handle c)) (not (has_fast_way c can) || skipped) all.0).1 in
    let fast = text_taken c can args last [] before text in
    let skip : (is_skip last.answer || false) ≡ true = subst (λ (b : Bool). (not b || skipped) ≡ true) fast reason in
    elim (or_cases (is_skip last.answer) false skip) [
      | inl is_so ↦ skip_gives last.answer is_so
      | inr never ↦ absurd (let nothing : false ≡ true = never in cc)
    ]

-- Before the run of a handle the line has no cursor.
run_is_first : (c : Course) (can : Caps) (args : ℕ) (turn : Turn) (earlier : List Turn) (handle : ℕ) → IsLine c can args (turn ∷ earlier) → turn.call ≡ call.Handle handle → own_cursor (map exchange earlier) ≡ None
run_is_first c can args turn [] handle line is = refl
run_is_first c can args turn (last ∷ []) handle line is =
    let before = newest c can args turn (last ∷ []) line in
    let lt = All-head (λ (t : Turn). call_place t.call < call_place turn.call) last [] (before_next c can args turn (last ∷ []) line) in
    let two : call_place turn.call ≡ 2 = ap call_place is in
    elim (text_or_prepare last.call (omega arith)) [
      | inl text ↦ absurd (no_handle_run c can args turn last handle line is text)
      | inr prepare ↦ ap (λ (o : Option ℕ). or_else o None) (prepare_gives c last.call last.answer prepare (newest c can args last [] before.line).answers)
    ]
run_is_first c can args turn (last ∷ first ∷ []) handle line is =
    let before = newest c can args turn (last ∷ first ∷ []) line in
    let lt = All-head (λ (t : Turn). call_place t.call < call_place turn.call) last (first ∷ []) (before_next c can args turn (last ∷ first ∷ []) line) in
    let under = All-head (λ (t : Turn). call_place t.call < call_place last.call) first [] (before_next c can args last (first ∷ []) before.line) in
    let two : call_place turn.call ≡ 2 = ap call_place is in
    let text = only_text first.call (omega arith) in
    elim (text_or_prepare last.call (omega arith)) [
      | inl also ↦ let zero : call_place last.call ≡ 0 = ap call_place also in absurd (omega arith)
      | inr prepare ↦
          let none = prepare_gives c last.call last.answer prepare (newest c can args last (first ∷ []) before.line).answers in
          let nothing = passed_on c can args last first before.line prepare text in
          ap (λ (o : Option ℕ). or_else o (or_else (given_cursor first.answer) None)) none ∙ ap (λ (o : Option ℕ). or_else o None) nothing
    ]
run_is_first c can args turn (last ∷ first ∷ other ∷ rest) handle line is =
    let before = newest c can args turn (last ∷ first ∷ other ∷ rest) line in
    let more = newest c can args last (first ∷ other ∷ rest) before.line in
    let lt = All-head (λ (t : Turn). call_place t.call < call_place turn.call) last (first ∷ other ∷ rest) (before_next c can args turn (last ∷ first ∷ other ∷ rest) line) in
    let under = All-head (λ (t : Turn). call_place t.call < call_place last.call) first (other ∷ rest) (before_next c can args last (first ∷ other ∷ rest) before.line) in
    let lowest = All-head (λ (t : Turn). call_place t.call < call_place first.call) other rest (before_next c can args first (other ∷ rest) more.line) in
    let two : call_place turn.call ≡ 2 = ap call_place is in
    absurd (omega arith)

-- Before the run of a text the line has no cursor.
text_is_first : (c : Course) (can : Caps) (args : ℕ) (turn : Turn) (earlier : List Turn) → IsLine c can args (turn ∷ earlier) → turn.call ≡ call.Text → own_cursor (map exchange earlier) ≡ None
text_is_first c can args turn [] line is = refl
text_is_first c can args turn (last ∷ earlier) line is =
    let lt = All-head (λ (t : Turn). call_place t.call < call_place turn.call) last earlier (before_next c can args turn (last ∷ earlier) line) in
    let zero : call_place turn.call ≡ 0 = ap call_place is in
    absurd (omega arith)

-- Only the run of a text or of a handle gives a cursor.
gives_cursor : (c : Course) (due : Due) (rows : ℕ) → may_get c due (got.Cursor rows) ≡ true → (due ≡ call.Text) ⊎ ((handle : ℕ) × (due ≡ call.Handle handle))
gives_cursor c call.Text rows h = inl refl
gives_cursor c (call.Handle handle) rows h = inr (handle, refl)
gives_cursor c _ rows h = cc

gives_handle : (c : Course) (due : Due) (handle : ℕ) (inputs : ℤ) → may_get c due (got.Prepared handle inputs) ≡ true → due ≡ call.Prepare
gives_handle c call.Prepare handle inputs h = refl
gives_handle c _ handle inputs h = cc

cursor_is_first : (c : Course) (can : Caps) (args : ℕ) (turn : Turn) (earlier : List Turn) (rows : ℕ) → IsLine c can args (turn ∷ earlier) → turn.answer ≡ got.Cursor rows → own_cursor (map exchange earlier) ≡ None
cursor_is_first c can args turn earlier rows line is =
    let h = newest c can args turn earlier line in
    elim (gives_cursor c turn.call rows (subst (λ (answer : Got). may_get c turn.call answer ≡ true) is h.answers)) [
      | inl text ↦ text_is_first c can args turn earlier line text
      | inr run ↦ run_is_first c can args turn earlier run.0 line run.1
    ]

texts_give : (c : Course) (can : Caps) (args : ℕ) (turns : List Turn) → IsLine c can args turns → All (λ turn. call_place turn.call < 1) turns → own_handle (map exchange turns) ≡ None
texts_give c can args [] line small = refl
texts_give c can args (turn ∷ earlier) line small =
    let h = newest c can args turn earlier line in
    let P : Turn → Type 0 = λ t. call_place t.call < 1 in
    let none = text_gives c turn.call turn.answer (only_text turn.call (All-head P turn earlier small)) h.answers in
    ap (λ (o : Option (ℕ × ℤ)). or_else o (own_handle (map exchange earlier))) none ∙ texts_give c can args earlier h.line (All-tail P turn earlier small)

handle_is_first : (c : Course) (can : Caps) (args : ℕ) (turn : Turn) (earlier : List Turn) (handle : ℕ) (inputs : ℤ) → IsLine c can args (turn ∷ earlier) → turn.answer ≡ got.Prepared handle inputs → own_handle (map exchange earlier) ≡ None
handle_is_first c can args turn earlier handle inputs line is =
    let h = newest c can args turn earlier line in
    let prepare = gives_handle c turn.call handle inputs (subst (λ (answer : Got). may_get c turn.call answer ≡ true) is h.answers) in
    let small : All (λ t. call_place t.call < 1) earlier = subst (λ (due : Due). All (λ t. call_place t.call < call_place due) earlier) prepare (before_next c can args turn earlier line) in
    texts_give c can args earlier h.line small

-- A cursor that the line has stays its own after one more turn.
older_cursor : (c : Course) (can : Caps) (args : ℕ) (turn : Turn) (earlier : List Turn) (rows : ℕ) → IsLine c can args (turn ∷ earlier) → own_cursor (map exchange earlier) ≡ Some rows → own_cursor (map exchange (turn ∷ earlier)) ≡ Some rows
older_cursor c can args turn earlier rows line before =
    elim turn.answer as (λ answer. turn.answer ≡ answer → or_else (given_cursor answer) (own_cursor (map exchange earlier)) ≡ Some rows) [
      | got.Cursor other ↦ λ is. absurd (none-some (sym (cursor_is_first c can args turn earlier other line is) ∙ before))
      | _ ↦ λ is. before
    ] refl

older_handle : (c : Course) (can : Caps) (args : ℕ) (turn : Turn) (earlier : List Turn) (handle : ℕ) (inputs : ℤ) → IsLine c can args (turn ∷ earlier) → own_handle (map exchange earlier) ≡ Some (handle, inputs) → own_handle (map exchange (turn ∷ earlier)) ≡ Some (handle, inputs)
older_handle c can args turn earlier handle inputs line before =
    elim turn.answer as (λ answer. turn.answer ≡ answer → or_else (given_handle answer) (own_handle (map exchange earlier)) ≡ Some (handle, inputs)) [
      | got.Prepared other number ↦ λ is. absurd (none-some (sym (handle_is_first c can args turn earlier other number line is) ∙ before))
      | _ ↦ λ is. before
    ] refl

abbrev OwnCursor : List Exchange → Turn → Type 0
OwnCursor made turn = (rows : ℕ) → turn.answer ≡ got.Cursor rows → own_cursor made ≡ Some rows

abbrev OwnHandle : List Exchange → Turn → Type 0
OwnHandle made turn = (handle : ℕ) (inputs : ℤ) → turn.answer ≡ got.Prepared handle inputs → own_handle made ≡ Some (handle, inputs)

-- The cursor that an answer of a line gives is the line's own.
pub cursors_are_own : (c : Course) (can : Caps) (args : ℕ) (turns : List Turn) → IsLine c can args turns → All (λ turn. (rows : ℕ) → turn.answer ≡ got.Cursor rows → own_cursor (map exchange turns) ≡ Some rows) turns
cursors_are_own c can args [] line = All-nil (OwnCursor [])
cursors_are_own c can args (turn ∷ earlier) line =
    let h = newest c can args turn earlier line in
    All-cons (OwnCursor (map exchange (turn ∷ earlier))) turn earlier
    (λ rows is. ap (λ (answer : Got). or_else (given_cursor answer) (own_cursor (map exchange earlier))) is)
    (All-weaker (OwnCursor (map exchange earlier)) (OwnCursor (map exchange (turn ∷ earlier)))
    (λ t before rows is. older_cursor c can args turn earlier rows line (before rows is))
    earlier (cursors_are_own c can args earlier h.line))

-- The handle that an answer of a line gives is the line's own.
pub handles_are_own : (c : Course) (can : Caps) (args : ℕ) (turns : List Turn) → IsLine c can args turns → All (λ turn. (handle : ℕ) (inputs : ℤ) → turn.answer ≡ got.Prepared handle inputs → own_handle (map exchange turns) ≡ Some (handle, inputs)) turns
handles_are_own c can args [] line = All-nil (OwnHandle [])
handles_are_own c can args (turn ∷ earlier) line =
    let h = newest c can args turn earlier line in
    All-cons (OwnHandle (map exchange (turn ∷ earlier))) turn earlier
    (λ handle inputs is. ap (λ (answer : Got). or_else (given_handle answer) (own_handle (map exchange earlier))) is)
    (All-weaker (OwnHandle (map exchange earlier)) (OwnHandle (map exchange (turn ∷ earlier)))
    (λ t before handle inputs is. older_handle c can args turn earlier handle inputs line (before handle inputs is))
    earlier (handles_are_own c can args earlier h.line))
