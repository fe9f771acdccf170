-- Proves which calls still await an answer that decides, given what was heard in their tenure. If an answer is
-- awaited, something is sent. The argument goes through the steps of a course.
use Rattle.std.proofs.Common.{◌≡◌, ℕ, ℤ, pos, Bool, true, false, ◌||◌, cond, List, [], ◌∷◌, length, Option, Some, None, is_none, is_some, refl, ap}
use Rattle.dsql_laws_calls.specs.value.declared.value.Param.{Param}
use Rattle.dsql_laws_calls.specs.value.Arguments.{count_fault}
use Rattle.dsql_laws_calls.specs.driver.declared.caps.Caps.{Caps}
use Rattle.dsql_laws_calls.specs.driver.declared.call.DriverCall.{DriverCall}
use Rattle.dsql_laws_calls.specs.driver.declared.call.DriverCall.TheVariants.{Reset, Valid, Prepare, Exec, Query, CloseRows, CloseStmt}
use Rattle.dsql_laws_calls.specs.driver.declared.call.Input.TheVariants.{Text, Handle}
use Rattle.dsql_laws_calls.specs.driver.declared.answer.DriverAnswer.{DriverAnswer}
use Rattle.dsql_laws_calls.specs.driver.declared.answer.DriverAnswer.TheVariants.{Prepared, Cursor, Skip, Bad}
use Rattle.dsql_laws_calls.specs.driver.Kinds.{is_bad, is_valid}
use Rattle.dsql_laws_calls.specs.course.declared.course.Course.TheVariants as courses
use Rattle.dsql_laws_calls.specs.course.declared.call.Due.TheVariants as due
use Rattle.dsql_laws_calls.specs.course.declared.call.Got.TheVariants as got
use Rattle.dsql_laws_calls.specs.course.declared.course.Wish.{Wish}
use Rattle.dsql_laws_calls.specs.course.Made.{Exchange, own_cursor, has_fast_way}
use Rattle.dsql_laws_calls.specs.journal.declared.entry.Entry.{Entry}
use Rattle.dsql_laws_calls.specs.works.declared.work.Aim.{Aim}
use Rattle.dsql_laws_calls.specs.works.declared.work.Aim.TheVariants as aims
use Rattle.dsql_laws_calls.specs.works.Exchanges.{exchanges, step_of, got_of, with_exchange}
use Rattle.dsql_laws_calls.specs.works.Line.{Asked, is_due_in_line, run_of, sent_as, run_for, body_after, line_after, handed}
use Rattle.dsql_laws_calls.proofs.laws_work.KeptRows.{keeps_rows}
use Rattle.dsql_laws_calls.proofs.laws_work.CallLines.{Step, Start, WasReset, WasSkipped, WasPrepared, HasRows, HasRead, WasDone, step, step_after, goes}
use Rattle.dsql_laws_calls.proofs.laws_work.MadeLines.{MadeAt, asking, has_text, first_call, first_of, second_of, then_handle, body_before, clean_when_done}
use Rattle.dsql_laws_calls.proofs.laws_work.Lines.{body_due}

-- Is true if the call itself reads one row.
abbrev pub is_one : Aim → Bool
is_one aims.ReadOne = true
is_one _ = false

-- Is true if an answer decides for the call. A ping needs no answer if the driver can't ping.
abbrev pub needs_answer : Caps → Aim → Bool
needs_answer can aims.Ping = can.pinger
needs_answer can _ = true

-- Is true if a call with this many parameters still awaits an answer that decides. The first argument says
-- whether it reads one row itself.
abbrev pub awaits_after : Bool → DriverCall → DriverAnswer → ℕ → Bool
awaits_after one call Bad count = false
awaits_after one Reset answer count = true
awaits_after one (Exec (Text text) params) Skip count = true
awaits_after one (Query (Text text) params) Skip count = true
awaits_after one (Query input params) (Cursor rows columns) count = one
awaits_after one (Prepare text) (Prepared handle inputs) count = is_none (count_fault inputs count)
awaits_after one _ answer count = false

abbrev pub awaits : Bool → List Entry → ℕ → Bool
awaits one [] count = true
awaits one (e ∷ earlier) count = awaits_after one e.call e.answer count

-- Is true if an answer is still to decide at this step.
abbrev pub is_awaiting : Bool → Step → Bool
is_awaiting one Start = true
is_awaiting one WasReset = true
is_awaiting one WasSkipped = true
is_awaiting one (WasPrepared handle) = true
is_awaiting one (HasRows own rows) = one
is_awaiting one _ = false

awaiting_after : (one : Bool) (s : Step) (q : DriverCall) (a : DriverAnswer) (count : ℕ) → awaits_after one q a count ≡ true → is_awaiting one (step_after s q a) ≡ true
awaiting_after one s q Bad count h = absurd cc
awaiting_after one s Reset a count h = refl
awaiting_after one s (Exec (Text text) params) Skip count h = refl
awaiting_after one s (Exec (Text text) params) a count h = absurd cc
awaiting_after one s (Query (Text text) params) Skip count h = refl
awaiting_after one s (Query (Text text) params) (Cursor rows columns) count h = h
awaiting_after one s (Query (Text text) params) a count h = absurd cc
awaiting_after one s (Query (Handle handle) params) (Cursor rows columns) count h = h
awaiting_after one s (Query (Handle handle) params) a count h = absurd cc
awaiting_after one s (Prepare text) (Prepared handle inputs) count h = refl
awaiting_after one s q a count h = absurd cc

awaiting : (one : Bool) (L : List Entry) (count : ℕ) → awaits one L count ≡ true → is_awaiting one (step L) ≡ true
awaiting one [] count h = refl
awaiting one (e ∷ earlier) count h = awaiting_after one (step earlier) e.call e.answer count h

-- If the step awaits no answer, no answer is awaited.
pub none_awaited : (one : Bool) (L : List Entry) (count : ℕ) → is_awaiting one (step L) ≡ false → awaits one L count ≡ false
none_awaited one L count h = by_value (awaits one L count) (awaiting one L count)
  where
    by_value : (b : Bool) → (b ≡ true → is_awaiting one (step L) ≡ true) → b ≡ false
    by_value true k = let m : is_awaiting one (step L) ≡ true = k refl in absurd (cc)
    by_value false k = refl

-- If an answer is needed, a connection is tested only at the end.

run_not_tested : (asked : Asked) (text : List ℕ) → is_due_in_line (Some (run_of asked (Text text))) Valid ≡ true → ⊥
run_not_tested asked text h = by_aim asked.aim h
  where
    by_aim : (x : Aim) → is_due_in_line (Some (run_for x (Text text) asked.params)) Valid ≡ true → ⊥
    by_aim aims.Execute k = cc
    by_aim _ k = cc

first_untested : (can : Caps) (asked : Asked) (w : Wish) → needs_answer can asked.aim ≡ true → is_due_in_line (body_after can false asked w []) Valid ≡ true → ⊥
first_untested can asked w needs h = by_aim asked.aim needs (rw (body_before can asked w [] refl, first_of can asked.text asked.params asked.aim) at h)
  where
    by_fast : (b : Bool) → is_due_in_line (sent_as can asked (cond b due.Text due.Prepare)) Valid ≡ true → ⊥
    by_fast true k = run_not_tested asked asked.text k
    by_fast false k = cc

    by_ping : (b : Bool) → b ≡ true → is_due_in_line (sent_as can asked (cond b due.Ping due.Over)) Valid ≡ true → ⊥
    by_ping true can_ping k = cc
    by_ping false can_ping k = cc

    by_aim : (x : Aim) → needs_answer can x ≡ true → is_due_in_line (sent_as can asked (first_call x can)) Valid ≡ true → ⊥
    by_aim aims.Execute n k = by_fast (has_fast_way courses.Exec can) k
    by_aim aims.ReadOne n k = by_fast (has_fast_way courses.One can) k
    by_aim aims.HandOut n k = by_fast (has_fast_way courses.Query can) k
    by_aim aims.Ping n k = by_ping can.pinger n k

testing_body : (can : Caps) (asked : Asked) (w : Wish) (s : Step) (made : List Exchange) → MadeAt can asked s made → needs_answer can asked.aim ≡ true → goes s Valid ≡ true
    → is_due_in_line (body_after can false asked w made) Valid ≡ true → is_awaiting (is_one asked.aim) s ≡ false
testing_body can asked w Start made m needs g d = absurd (first_untested can asked w needs (rw m at d))
testing_body can asked w WasReset made m needs g d = absurd (first_untested can asked w needs (rw m at d))
testing_body can asked w WasDone made m needs g d = refl
testing_body can asked w (HasRead own rows false) made m needs g d = absurd cc
testing_body can asked w _ made m needs g d = absurd cc

pub testing : (can : Caps) (reset : Bool) (asked : Asked) (w : Wish) (L : List Entry) → MadeAt can asked (step L) (exchanges L) → needs_answer can asked.aim ≡ true → goes (step L) Valid ≡ true
    → is_due_in_line (line_after can reset asked w L) Valid ≡ true → is_awaiting (is_one asked.aim) (step L) ≡ false
testing can true asked w [] m needs g d = absurd cc
testing can false asked w [] m needs g d = absurd (first_untested can asked w needs d)
testing can reset asked w (e ∷ earlier) m needs g d =
    let b = body_due can reset asked w e earlier Valid d in
    testing_body can asked w (step (e ∷ earlier)) (exchanges (e ∷ earlier)) m needs g b.1

-- If a call reads one row itself, its cursor is closed only after a row was fetched.
freeing_body : (can : Caps) (text : List ℕ) (params : List Param) (aim : Aim) (w : Wish) (s : Step) (made : List Exchange) (rows : ℕ) → MadeAt can (asking text params aim) s made
    → goes s (CloseRows rows) ≡ true → is_due_in_line (body_after can false (asking text params aim) w made) (CloseRows rows) ≡ true → is_awaiting (is_one aim) s ≡ false
freeing_body can text params aims.ReadOne w (HasRows own cursor) made rows m g d = let k = rw m.sends at d in absurd cc
freeing_body can text params aims.HandOut w (HasRows own cursor) made rows m g d = refl
freeing_body can text params aims.Ping w (HasRows own cursor) made rows m g d = refl
freeing_body can text params aims.Execute w (HasRows own cursor) made rows m g d = refl
freeing_body can text params aim w (HasRead own cursor false) made rows m g d = refl
freeing_body can text params aim w (HasRead own cursor true) made rows m g d = refl
freeing_body can text params aim w _ made rows m g d = absurd cc

pub freeing : (can : Caps) (reset : Bool) (asked : Asked) (w : Wish) (L : List Entry) (rows : ℕ) → MadeAt can asked (step L) (exchanges L) → goes (step L) (CloseRows rows) ≡ true
    → is_due_in_line (line_after can reset asked w L) (CloseRows rows) ≡ true → is_awaiting (is_one asked.aim) (step L) ≡ false
freeing can reset asked w [] rows m g d = absurd cc
freeing can reset asked w (e ∷ earlier) rows m g d =
    let b = body_due can reset asked w e earlier (CloseRows rows) d in
    freeing_body can asked.text asked.params asked.aim w (step (e ∷ earlier)) (exchanges (e ∷ earlier)) rows m g b.1

-- A handle is closed after its run, or if it takes another number of parameters.

closes_other : (can : Caps) (asked : Asked) (handle h : ℕ) (b : Bool) → is_due_in_line (sent_as can asked (cond b (due.Handle handle) (due.CloseStmt handle))) (CloseStmt h) ≡ true → b ≡ false
closes_other can asked handle h true k = by_aim asked.aim k
  where
    by_aim : (x : Aim) → is_due_in_line (Some (run_for x (Handle handle) asked.params)) (CloseStmt h) ≡ true → true ≡ false
    by_aim aims.Execute m = absurd cc
    by_aim _ m = absurd cc
closes_other can asked handle h false k = refl

abbrev inputs_in : Option (ℕ × ℤ) → ℤ
inputs_in None = pos 0
inputs_in (Some p) = p.1

closing_after : (can : Caps) (asked : Asked) (w : Wish) (one : Bool) (s : Step) (q : DriverCall) (a : DriverAnswer) (made : List Exchange) (h : ℕ)
    → MadeAt can asked (step_after s q a) (with_exchange (step_of q) a made) → goes (step_after s q a) (CloseStmt h) ≡ true
    → is_due_in_line (body_after can false asked w (with_exchange (step_of q) a made)) (CloseStmt h) ≡ true → awaits_after one q a (length asked.params) ≡ false
closing_after can asked w one s q Bad made h m g k = refl
closing_after can asked w one s Reset a made h m g k = absurd cc
closing_after can asked w one s (Exec (Text text) params) Skip made h m g k = absurd cc
closing_after can asked w one s (Exec (Text text) params) a made h m g k = refl
closing_after can asked w one s (Query (Text text) params) Skip made h m g k = absurd cc
closing_after can asked w one s (Query (Text text) params) (Cursor rows columns) made h m g k = absurd cc
closing_after can asked w one s (Query (Text text) params) a made h m g k = refl
closing_after can asked w one s (Query (Handle handle) params) (Cursor rows columns) made h m g k = absurd cc
closing_after can asked w one s (Query (Handle handle) params) a made h m g k = refl
closing_after can asked w one s (Prepare text) (Prepared handle inputs) made h m g k =
    let is : inputs ≡ m.inputs = ap (λ o. inputs_in o) m.own in
    rw is (closes_other can asked handle h (is_none (count_fault m.inputs (length asked.params)))
    (rw (body_before can asked w ((due.Prepare, got_of (Prepared handle inputs)) ∷ made) m.none, then_handle can asked.text asked.params asked.aim handle ((due.Prepare, got_of (Prepared handle inputs)) ∷ made) m) at k))
closing_after can asked w one s q a made h m g k = refl

pub closing_awaits : (can : Caps) (reset : Bool) (asked : Asked) (w : Wish) (one : Bool) (L : List Entry) (h : ℕ) → MadeAt can asked (step L) (exchanges L) → goes (step L) (CloseStmt h) ≡ true
    → is_due_in_line (line_after can reset asked w L) (CloseStmt h) ≡ true → awaits one L (length asked.params) ≡ false
closing_awaits can reset asked w one [] h made g k = absurd cc
closing_awaits can reset asked w one (e ∷ earlier) h made g k =
    let b = body_due can reset asked w e earlier (CloseStmt h) k in
    closing_after can asked w one (step earlier) e.call e.answer (exchanges earlier) h made g b.1

-- If nothing is due, no answer is awaited.

some_first : (can : Caps) (asked : Asked) (w : Wish) → needs_answer can asked.aim ≡ true → is_none (body_after can false asked w []) ≡ true → ⊥
some_first can asked w needs h = by_aim asked.aim needs (rw (body_before can asked w [] refl, first_of can asked.text asked.params asked.aim) at h)
  where
    by_fast : (b : Bool) → is_none (sent_as can asked (cond b due.Text due.Prepare)) ≡ true → ⊥
    by_fast true k = cc
    by_fast false k = cc

    by_ping : (b : Bool) → b ≡ true → is_none (sent_as can asked (cond b due.Ping due.Over)) ≡ true → ⊥
    by_ping true can_ping k = cc
    by_ping false can_ping k = cc

    by_aim : (x : Aim) → needs_answer can x ≡ true → is_none (sent_as can asked (first_call x can)) ≡ true → ⊥
    by_aim aims.Execute n k = by_fast (has_fast_way courses.Exec can) k
    by_aim aims.ReadOne n k = by_fast (has_fast_way courses.One can) k
    by_aim aims.HandOut n k = by_fast (has_fast_way courses.Query can) k
    by_aim aims.Ping n k = by_ping can.pinger n k

some_second : (can : Caps) (asked : Asked) (w : Wish) → has_text asked.aim ≡ true → is_none (body_after can false asked w ((due.Text, got.Skip) ∷ [])) ≡ true → ⊥
some_second can asked w texts h =
    let k : is_none (sent_as can asked due.Prepare) ≡ true =
    rw (body_before can asked w ((due.Text, got.Skip) ∷ []) refl, second_of can asked.text asked.params asked.aim texts) at h in
    cc

none_keep : (aim : Aim) (w : Wish) (made : List Exchange) → own_cursor made ≡ None → keeps_rows aim w made ≡ false
none_keep aims.HandOut w made h = rw h refl
none_keep _ w made h = refl

done_rows : (can : Caps) (text : List ℕ) (params : List Param) (aim : Aim) (w : Wish) (own : Option ℕ) (rows : ℕ) (made : List Exchange)
    → MadeAt can (asking text params aim) (HasRows own rows) made → is_none (body_after can false (asking text params aim) w made) ≡ true → is_one aim ≡ false
done_rows can text params aims.ReadOne w own rows made m h = let k = rw m.sends at h in absurd cc
done_rows can text params _ w own rows made m h = refl

done_awaits : (can : Caps) (asked : Asked) (w : Wish) (s : Step) (made : List Exchange) → needs_answer can asked.aim ≡ true → MadeAt can asked s made
    → is_none (body_after can false asked w made) ≡ true → is_awaiting (is_one asked.aim) s ≡ false
done_awaits can asked w Start made needs m h = absurd (some_first can asked w needs (rw m at h))
done_awaits can asked w WasReset made needs m h = absurd (some_first can asked w needs (rw m at h))
done_awaits can asked w WasSkipped made needs m h = absurd (some_second can asked w m.1 (rw m.0 at h))
done_awaits can asked w (WasPrepared handle) made needs m h = let c = clean_when_done can asked w (WasPrepared handle) made m h (none_keep asked.aim w made m.none) in absurd cc
done_awaits can asked w (HasRows own rows) made needs m h = done_rows can asked.text asked.params asked.aim w own rows made m h
done_awaits can asked w _ made needs m h = refl

ended_awaits : (one : Bool) (q : DriverCall) (a : DriverAnswer) (count : ℕ) → is_bad a || is_valid q ≡ true → awaits_after one q a count ≡ false
ended_awaits one q Bad count h = refl
ended_awaits one Valid a count h = refl
ended_awaits one q a count h = absurd cc

nothing_awaited : (can : Caps) (reset : Bool) (asked : Asked) (w : Wish) (L : List Entry) → needs_answer can asked.aim ≡ true → MadeAt can asked (step L) (exchanges L) → is_none (line_after can reset asked w L) ≡ true
    → awaits (is_one asked.aim) L (length asked.params) ≡ false
nothing_awaited can true asked w [] needs made h = absurd cc
nothing_awaited can false asked w [] needs made h = absurd (some_first can asked w needs h)
nothing_awaited can reset asked w (e ∷ earlier) needs made h = by_end (is_bad e.answer || is_valid e.call) refl h
  where
    by_end : (b : Bool) → is_bad e.answer || is_valid e.call ≡ b → is_none (cond b None (body_after can false asked w (exchanges (e ∷ earlier)))) ≡ true
        → awaits (is_one asked.aim) (e ∷ earlier) (length asked.params) ≡ false
    by_end true is k = ended_awaits (is_one asked.aim) e.call e.answer (length asked.params) is
    by_end false is k =
        none_awaited (is_one asked.aim) (e ∷ earlier) (length asked.params) (done_awaits can asked w (step (e ∷ earlier)) (exchanges (e ∷ earlier)) needs made k)

some_when : {A : Type 0} (o : Option A) → (is_none o ≡ true → ⊥) → is_some o ≡ true
some_when None h = absurd (h refl)
some_when (Some x) h = refl

-- If an answer is awaited, a driver call is due.
pub awaited_due : (can : Caps) (reset : Bool) (asked : Asked) (w : Wish) (L : List Entry) → needs_answer can asked.aim ≡ true → MadeAt can asked (step L) (exchanges L) → awaits (is_one asked.aim) L (length asked.params) ≡ true
    → is_some (line_after can reset asked w L) ≡ true
awaited_due can reset asked w L needs made h =
    some_when (line_after can reset asked w L) (λ none. never (awaits (is_one asked.aim) L (length asked.params)) h (nothing_awaited can reset asked w L needs made none))
  where
    never : (b : Bool) → b ≡ true → b ≡ false → ⊥
    never b x y = cc

no_cursor : (made : List Exchange) (rows : ℕ) → own_cursor made ≡ None → own_cursor made ≡ Some rows → ⊥
no_cursor made rows h k = cc

-- A call that hands out rows awaits no answer after it has them.
opened_none : (can : Caps) (text : List ℕ) (params : List Param) (aim : Aim) (s : Step) (made : List Exchange) (rows : ℕ) → MadeAt can (asking text params aim) s made → handed aim made ≡ Some rows → is_awaiting (is_one aim) s ≡ false
opened_none can text params aims.HandOut Start made rows m h = absurd (no_cursor made rows (ap own_cursor m) h)
opened_none can text params aims.HandOut WasReset made rows m h = absurd (no_cursor made rows (ap own_cursor m) h)
opened_none can text params aims.HandOut WasSkipped made rows m h = absurd (no_cursor made rows (ap own_cursor m.0) h)
opened_none can text params aims.HandOut (WasPrepared handle) made rows m h = absurd (no_cursor made rows m.none h)
opened_none can text params aims.HandOut _ made rows m h = refl
opened_none can text params _ s made rows m h = absurd cc

pub handed_awaits : (can : Caps) (asked : Asked) (L : List Entry) (rows : ℕ) → MadeAt can asked (step L) (exchanges L) → handed asked.aim (exchanges L) ≡ Some rows → awaits (is_one asked.aim) L (length asked.params) ≡ false
handed_awaits can asked L rows m h = none_awaited (is_one asked.aim) L (length asked.params) (opened_none can asked.text asked.params asked.aim (step L) (exchanges L) rows m h)
