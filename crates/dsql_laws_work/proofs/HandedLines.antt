-- Proves that rows which are handed out agree with how far the tenure of their query has come. The argument
-- compares what may be sent over them at each step with what they are after the answer.
use Rattle.std.proofs.Common.{◌≡◌, ℕ, Bool, true, false, cond, ◌||◌, ◌⊎◌, inl, inr, List, [], ◌∷◌, Option, Some, None, is_none, is_some, refl, ap, sym, ◌∙◌}
use Rattle.std.specs.Prelude.{option_map}
use Rattle.dsql_history_work.specs.value.declared.value.Param.{Param}
use Rattle.dsql_history_work.specs.driver.Fits.{fits_of, is_memory}
use Rattle.dsql_history_work.specs.driver.declared.caps.Caps.{Caps}
use Rattle.dsql_history_work.specs.driver.declared.call.DriverCall.{DriverCall}
use Rattle.dsql_history_work.specs.driver.declared.call.DriverCall.TheVariants.{Valid, Query, Next, CloseRows, CloseStmt}
use Rattle.dsql_history_work.specs.driver.declared.answer.DriverAnswer.{DriverAnswer}
use Rattle.dsql_history_work.specs.driver.declared.answer.DriverAnswer.TheVariants.{Cursor, Bad}
use Rattle.dsql_history_work.specs.course.declared.course.Wish.{Wish}
use Rattle.dsql_history_work.specs.course.declared.course.Wish.TheVariants as wishes
use Rattle.dsql_history_work.specs.course.declared.call.Due.TheVariants as due
use Rattle.dsql_history_work.specs.course.Made.{Exchange, own_cursor, rows_are_over}
use Rattle.dsql_history_work.specs.journal.declared.entry.Entry.{Entry}
use Rattle.dsql_history_work.specs.driver.Kinds.{is_bad, is_valid}
use Rattle.dsql_history_work.specs.rows.declared.rows.Rows.{Rows}
use Rattle.dsql_history_work.specs.rows.declared.end.RowsEnd.{RowsEnd}
use Rattle.dsql_history_work.specs.rows.OpenRows.{is_live, ended_by}
use Rattle.dsql_history_work.specs.declared.work.Aim.{Aim}
use Rattle.dsql_history_work.specs.declared.work.Aim.TheVariants as aims
use Rattle.dsql_history_work.specs.Exchanges.{exchanges, step_of, with_exchange}
use Rattle.dsql_history_work.specs.Line.{Asked, handed, body_after, line_after, test_of, is_due_in_line}
use Rattle.dsql_laws_work.proofs.CallLines.{Step, WasSkipped, WasPrepared, HasRows, HasRead, WasRun, WasDone, WasTested, WasDropped, IsOther, step, step_after, goes, is_sent}
use Rattle.dsql_laws_work.proofs.MadeLines.{MadeAt, asking, is_ended, ended_by as still_going, open_sends, sends_open, sends_over}

none_some : {A : Type 0} (o : Option A) (a : A) → o ≡ None → o ≡ Some a → ⊥
none_some o a h k = cc

-- Only a query that hands out rows has a cursor of rows that are handed out.
none_handed : (aim : Aim) (made : List Exchange) (rows : ℕ) → own_cursor made ≡ None → handed aim made ≡ Some rows → ⊥
none_handed aims.HandOut made rows h k = none_some (own_cursor made) rows h k
none_handed _ made rows h k = cc

-- Holds if the driver call may be sent over rows that are handed out, with this wish for them, and that are
-- over or not.
abbrev pub SentOver : DriverCall → Wish → Bool → Type 0
SentOver (Next rows) w over = (w ≡ wishes.Fetch) × (over ≡ false)
SentOver (CloseRows rows) w over = (over ≡ true) ⊎ (w ≡ wishes.Close)
SentOver (CloseStmt handle) w over = over ≡ true
SentOver Valid w over = over ≡ true
SentOver _ w over = ⊥

of_open : (w : Wish) (rows : ℕ) (q : DriverCall) (over : Bool) → over ≡ false → is_due_in_line (open_sends w rows) q ≡ true → SentOver q w over
of_open wishes.Fetch rows (Next other) over o h = (refl, o)
of_open wishes.Close rows (CloseRows other) over o h = inr refl
of_open _ rows _ over o h = absurd cc

of_over : (w : Wish) (rows : ℕ) (q : DriverCall) (over : Bool) → over ≡ true → is_due_in_line (Some (CloseRows rows)) q ≡ true → SentOver q w over
of_over w rows (CloseRows other) over o h = inl o
of_over w rows _ over o h = absurd cc

of_run : (w : Wish) (handle : ℕ) (q : DriverCall) (over : Bool) → over ≡ true → is_due_in_line (Some (CloseStmt handle)) q ≡ true → SentOver q w over
of_run w handle (CloseStmt other) over o h = o
of_run w handle _ over o h = absurd cc

of_test : (w : Wish) (b : Bool) (q : DriverCall) (over : Bool) → over ≡ true → is_due_in_line (cond b (Some Valid) None) q ≡ true → SentOver q w over
of_test w true Valid over o h = o
of_test w true _ over o h = absurd cc
of_test w false q over o h = absurd cc

-- If a row is wanted of open rows, the test doesn't come next: the rows would be fetched from.
not_done : (can : Caps) (text : List ℕ) (params : List Param) (made : List Exchange) (rows : ℕ) → own_cursor made ≡ Some rows → rows_are_over made ≡ false
    → body_after can false (asking text params aims.HandOut) wishes.Fetch made ≡ test_of can → ⊥
not_done can text params made rows cursor over done = by_can can.validator (rw (cursor, over) at done)
  where
    by_can : (b : Bool) → Some (Next rows) ≡ cond b (Some Valid) None → ⊥
    by_can true k = cc
    by_can false k = cc

is_true : (b : Bool) → (b ≡ false → ⊥) → b ≡ true
is_true true h = refl
is_true false h = absurd (h refl)

handing : (can : Caps) (text : List ℕ) (params : List Param) (w : Wish) (s : Step) (made : List Exchange) (q : DriverCall) (rows : ℕ) → own_cursor made ≡ Some rows
    → MadeAt can (asking text params aims.HandOut) s made → is_ended s ≡ false → is_due_in_line (body_after can false (asking text params aims.HandOut) w made) q ≡ true
    → SentOver q w (rows_are_over made)
handing can text params w WasSkipped made q rows h m e d = absurd (none_some (own_cursor made) rows (ap own_cursor m.0) h)
handing can text params w (WasPrepared handle) made q rows h m e d = absurd (none_some (own_cursor made) rows m.none h)
handing can text params w (HasRows own cursor) made q rows h m e d =
    of_open w cursor q (rows_are_over made) m.are_over (rw (sends_open can text params w own cursor (due.Next cursor) made m) at d)
handing can text params w (HasRead own cursor false) made q rows h m e d =
    of_open w cursor q (rows_are_over made) m.are_over (rw (sends_open can text params w own cursor (due.CloseRows cursor) made m) at d)
handing can text params w (HasRead own cursor true) made q rows h m e d =
    of_over w cursor q (rows_are_over made) m.are_over (rw (sends_over can text params w own cursor (due.CloseRows cursor) made m) at d)
handing can text params w (WasRun handle) made q rows h m e d = of_run w handle q (rows_are_over made) (m.are_over rows h) (rw (m.sends w) at d)
handing can text params w WasDone made q rows h m e d =
    of_test w can.validator q (rows_are_over made) (is_true (rows_are_over made) (λ open_rows. not_done can text params made rows h open_rows (m wishes.Fetch))) (rw (m w) at d)
handing can text params w WasTested made q rows h m e d = absurd cc
handing can text params w WasDropped made q rows h m e d = absurd cc
handing can text params w IsOther made q rows h m e d = absurd m
handing can text params w _ made q rows h m e d = absurd (none_some (own_cursor made) rows (ap own_cursor m) h)

over_rows : (can : Caps) (text : List ℕ) (params : List Param) (aim : Aim) (w : Wish) (s : Step) (made : List Exchange) (q : DriverCall) (rows : ℕ) → handed aim made ≡ Some rows
    → MadeAt can (asking text params aim) s made → is_ended s ≡ false → is_due_in_line (body_after can false (asking text params aim) w made) q ≡ true → SentOver q w (rows_are_over made)
over_rows can text params aims.HandOut w s made q rows h m e d = handing can text params w s made q rows h m e d
over_rows can text params _ w s made q rows h m e d = absurd (cc)

-- A driver call that is due after rows were handed out may be sent over them.
pub due_over : (can : Caps) (reset : Bool) (asked : Asked) (w : Wish) (L : List Entry) (q : DriverCall) (rows : ℕ) → handed asked.aim (exchanges L) ≡ Some rows
    → MadeAt can asked (step L) (exchanges L) → is_due_in_line (line_after can reset asked w L) q ≡ true → SentOver q w (rows_are_over (exchanges L))
due_over can reset asked w [] q rows h m d = absurd (none_handed asked.aim [] rows refl h)
due_over can reset asked w (e ∷ earlier) q rows h m d = by_end (is_bad e.answer || is_valid e.call) refl d
  where
    by_end : (b : Bool) → is_bad e.answer || is_valid e.call ≡ b → is_due_in_line (cond b None (body_after can false asked w (exchanges (e ∷ earlier)))) q ≡ true
        → SentOver q w (rows_are_over (exchanges (e ∷ earlier)))
    by_end true is k = absurd cc
    by_end false is k =
        over_rows can asked.text asked.params asked.aim w (step (e ∷ earlier)) (exchanges (e ∷ earlier)) q rows h m (still_going (step earlier) e.call e.answer is) k

-- Is true if rows can be fetched from at this step.
abbrev pub is_holding : Step → Bool
is_holding (HasRows own rows) = true
is_holding (HasRead own rows false) = true
is_holding _ = false

true_false : (b : Bool) → b ≡ true → b ≡ false → ⊥
true_false b h k = cc

-- What is known of a driver call and its answer at this step of a tenure. These are the exchanges around it, and what
-- is wanted of the rows.
pub record SentAt (can : Caps) (asked : Asked) (w : Wish) (s : Step) (made : List Exchange) (q : DriverCall) (a : DriverAnswer) : Type 0 where
  pub before : MadeAt can asked s made
  pub after : MadeAt can asked (step_after s q a) (with_exchange (step_of q) a made)
  pub next : goes s q ≡ true
  pub over : (rows : ℕ) → handed asked.aim made ≡ Some rows → SentOver q w (rows_are_over made)
  pub sent : is_sent q ≡ true
  pub fit : fits_of q a ≡ true
  pub heard : is_memory a ≡ false

pub ended_live : (by : RowsEnd) (r : Rows) → is_live (ended_by by r) ≡ false
ended_live by r =
    elim r.ended as (λ o. is_none (cond (is_none o) (record r { ended = Some by }) (record r { ended = o })).ended ≡ false) [ None ↦ refl | Some end ↦ refl ]

pub ended_all : (by : RowsEnd) (o : Option Rows) (r : Rows) → option_map (ended_by by) o ≡ Some r → is_live r ≡ true → ⊥
ended_all by None r h live = cc
ended_all by (Some x) r h live = let same : ended_by by x ≡ r = cc in true_false (is_live r) live (ap (λ y. is_live y) (sym same) ∙ ended_live by x)

pub as_many : (f : Rows → Rows) (o : Option Rows) → is_some (option_map f o) ≡ is_some o
as_many f None = refl
as_many f (Some r) = refl

-- Is true if the driver call runs a query and its answer gives a cursor.
abbrev pub opens_rows : DriverCall → DriverAnswer → Bool
opens_rows (Query input params) (Cursor rows columns) = true
opens_rows _ answer = false

some_open : (w : Wish) (rows : ℕ) → (w ≡ wishes.Nothing → ⊥) → is_some (open_sends w rows) ≡ true
some_open wishes.Nothing rows wanted = absurd (wanted refl)
some_open _ rows wanted = refl

held_body : (can : Caps) (text : List ℕ) (params : List Param) (aim : Aim) (w : Wish) (s : Step) (made : List Exchange) (rows : ℕ) → handed aim made ≡ Some rows
    → MadeAt can (asking text params aim) s made → is_holding s ≡ true → (w ≡ wishes.Nothing → ⊥) → is_some (body_after can false (asking text params aim) w made) ≡ true
held_body can text params aims.HandOut w (HasRows own cursor) made rows h m holds wanted = rw (sends_open can text params w own cursor (due.Next cursor) made m) (some_open w cursor wanted)
held_body can text params aims.HandOut w (HasRead own cursor false) made rows h m holds wanted =
    rw (sends_open can text params w own cursor (due.CloseRows cursor) made m) (some_open w cursor wanted)
held_body can text params _ w _ made rows h m holds wanted = absurd cc

ended_holding : (s : Step) (q : DriverCall) (a : DriverAnswer) → is_bad a || is_valid q ≡ true → is_holding (step_after s q a) ≡ true → ⊥
ended_holding s q Bad h holds = cc
ended_holding s Valid a h holds = cc
ended_holding s q a h holds = cc

pub held_due : (can : Caps) (reset : Bool) (asked : Asked) (w : Wish) (L : List Entry) (rows : ℕ) → handed asked.aim (exchanges L) ≡ Some rows → MadeAt can asked (step L) (exchanges L)
    → is_holding (step L) ≡ true → (w ≡ wishes.Nothing → ⊥) → is_some (line_after can reset asked w L) ≡ true
held_due can reset asked w [] rows h m holds wanted = absurd cc
held_due can reset asked w (e ∷ earlier) rows h m holds wanted = by_end (is_bad e.answer || is_valid e.call) refl
  where
    by_end : (b : Bool) → is_bad e.answer || is_valid e.call ≡ b → is_some (cond b None (body_after can false asked w (exchanges (e ∷ earlier)))) ≡ true
    by_end true is = absurd (ended_holding (step earlier) e.call e.answer is holds)
    by_end false is = held_body can asked.text asked.params asked.aim w (step (e ∷ earlier)) (exchanges (e ∷ earlier)) rows h m holds wanted
