-- Defines what the exchanges of a tenure are at each step of a call, and proves from them what its course sends
-- next there.
use Rattle.std.proofs.Common.{◌≡◌, ℕ, ℤ, Bool, true, false, cond, ◌||◌, List, [], ◌∷◌, length, Option, Some, None, is_none, refl}
use Rattle.std.specs.Prelude.{option_map}
use native.Mathlib.Omega.{arith}
use Rattle.dsql_history_work.specs.value.declared.value.Param.{Param}
use Rattle.dsql_history_work.specs.value.Arguments.{count_fault}
use Rattle.dsql_history_work.specs.driver.declared.caps.Caps.{Caps}
use Rattle.dsql_history_work.specs.driver.declared.call.DriverCall.{DriverCall}
use Rattle.dsql_history_work.specs.driver.declared.call.DriverCall.TheVariants.{Reset, Valid, Ping, Prepare, Exec, Query, Next, CloseRows, CloseStmt}
use Rattle.dsql_history_work.specs.driver.declared.call.Input.{Input}
use Rattle.dsql_history_work.specs.driver.declared.call.Input.TheVariants.{Text, Handle}
use Rattle.dsql_history_work.specs.driver.declared.answer.DriverAnswer.{DriverAnswer}
use Rattle.dsql_history_work.specs.driver.declared.answer.DriverAnswer.TheVariants.{Prepared, Cursor, Skip, Bad}
use Rattle.dsql_history_work.specs.course.declared.course.Course.TheVariants as courses
use Rattle.dsql_history_work.specs.course.declared.call.Due.{Due}
use Rattle.dsql_history_work.specs.course.declared.call.Due.TheVariants as due
use Rattle.dsql_history_work.specs.course.declared.call.Got.TheVariants as got
use Rattle.dsql_history_work.specs.course.Steps.{PrepareText, steps, behind}
use Rattle.dsql_history_work.specs.course.Made.{Exchange, went_bad, own_handle, own_cursor, rows_are_over, has_fast_way}
use Rattle.dsql_history_work.specs.course.Line.{comes_next, steps_left}
use Rattle.dsql_history_work.specs.driver.Kinds.{is_bad, is_valid, ends_cursor}
use Rattle.dsql_history_work.specs.declared.work.Aim.{Aim}
use Rattle.dsql_history_work.specs.declared.work.Aim.TheVariants as aims
use Rattle.dsql_history_work.specs.course.declared.course.Wish.{Wish}
use Rattle.dsql_history_work.specs.course.declared.course.Wish.TheVariants as wishes
use Rattle.dsql_history_work.specs.course.Rows.{closing_next}
use Rattle.dsql_history_work.specs.Line.{Asked, course_of, run_for, run_of, found, sent_as, test_of, handed, body_after, is_due_in_line}
use Rattle.dsql_laws_work.proofs.KeptRows.{keeps, keeps_rows}
use Rattle.dsql_laws_work.proofs.CallLines.{Step, Start, WasReset, WasSkipped, WasPrepared, HasRows, HasRead, WasRun, WasDone, WasTested, WasDropped, IsOther, step_after, read_after, freed_after, left_of, goes}

-- Returns the next step of its course.
abbrev pub next_of : Caps → Asked → List Exchange → Due
next_of can asked made = comes_next (course_of asked.aim) can (length asked.params) (found false) made

-- Is true if a call with this aim has a text.
abbrev pub has_text : Aim → Bool
has_text aims.Ping = false
has_text _ = true

-- Holds if its handle was prepared and nothing came since.
pub record MadeHandle (asked : Asked) (handle : ℕ) (made : List Exchange) : Type 0 where
  pub texts : has_text asked.aim ≡ true
  pub inputs : ℤ
  pub own : own_handle made ≡ Some (handle, inputs)
  pub none : own_cursor made ≡ None
  pub good : went_bad made ≡ false
  pub unread : rows_are_over made ≡ false
  pub left : steps_left (course_of asked.aim) made ≡ behind PrepareText (steps (course_of asked.aim))

-- Is true if a call with this aim queries its text.
abbrev pub queries_it : Aim → Bool
queries_it aims.Execute = false
queries_it aims.Ping = false
queries_it _ = true

-- Holds if this is what the course sends next for a call that reads one row itself. It holds for every other
-- call.
abbrev pub SendsRow : Aim → Caps → ℕ → List Exchange → Due → Type 0
SendsRow aims.ReadOne can args made call = comes_next courses.One can args (found false) made ≡ call
SendsRow _ can args made call = Unit {0}

-- Holds if its run gave a cursor, over a handle of its own or over none, and the cursor is over or not. A call
-- that closes the rows closes the cursor next.
pub record MadeRows (can : Caps) (asked : Asked) (own : Option ℕ) (rows : ℕ) (over : Bool) (next : Due) (made : List Exchange) : Type 0 where
  pub reads : queries_it asked.aim ≡ true
  pub handle : option_map (λ h. h.0) (own_handle made) ≡ own
  pub cursor : own_cursor made ≡ Some rows
  pub good : went_bad made ≡ false
  pub are_over : rows_are_over made ≡ over
  pub next_close : closing_next can (length asked.params) made ≡ due.CloseRows rows
  pub sends : SendsRow asked.aim can (length asked.params) made next

-- Holds if only its handle is left. Rows that it handed out are over, whatever is wanted of them.
pub record MadeRun (can : Caps) (asked : Asked) (handle : ℕ) (made : List Exchange) : Type 0 where
  pub sends : (w : Wish) → body_after can false asked w made ≡ Some (CloseStmt handle)
  pub are_over : (rows : ℕ) → handed asked.aim made ≡ Some rows → rows_are_over made ≡ true

-- Holds if these are the exchanges of a tenure at this step.
abbrev pub MadeAt : Caps → Asked → Step → List Exchange → Type 0
MadeAt can asked WasSkipped made = (made ≡ (due.Text, got.Skip) ∷ []) × (has_text asked.aim ≡ true)
MadeAt can asked (WasPrepared handle) made = MadeHandle asked handle made
MadeAt can asked (HasRows own rows) made = MadeRows can asked own rows false (due.Next rows) made
MadeAt can asked (HasRead own rows over) made = MadeRows can asked own rows over (due.CloseRows rows) made
MadeAt can asked (WasRun handle) made = MadeRun can asked handle made
MadeAt can asked WasDone made = (w : Wish) → body_after can false asked w made ≡ test_of can
MadeAt can asked WasTested made = Unit {0}
MadeAt can asked WasDropped made = Unit {0}
MadeAt can asked IsOther made = ⊥
MadeAt can asked _ made = made ≡ []

-- Is true if a test or a Bad ended it.
abbrev pub is_ended : Step → Bool
is_ended WasTested = true
is_ended WasDropped = true
is_ended _ = false

read_goes_on : (s : Step) (over : Bool) → is_ended (read_after s over) ≡ false
read_goes_on (HasRows own rows) over = refl
read_goes_on (HasRead own rows false) over = refl
read_goes_on _ over = refl

left_goes_on : (own : Option ℕ) → is_ended (left_of own) ≡ false
left_goes_on None = refl
left_goes_on (Some handle) = refl

freed_goes_on : (s : Step) → is_ended (freed_after s) ≡ false
freed_goes_on (HasRows own rows) = left_goes_on own
freed_goes_on (HasRead own rows over) = left_goes_on own
freed_goes_on _ = refl

-- Nothing except a test or a Bad ends it.
pub ended_by : (s : Step) (q : DriverCall) (a : DriverAnswer) → is_bad a || is_valid q ≡ false → is_ended (step_after s q a) ≡ false
ended_by s q Bad h = absurd cc
ended_by s Reset a h = refl
ended_by s (Exec (Text text) params) Skip h = refl
ended_by s (Exec (Text text) params) a h = refl
ended_by s (Query (Text text) params) Skip h = refl
ended_by s (Query (Text text) params) (Cursor rows columns) h = refl
ended_by s (Query (Text text) params) a h = refl
ended_by s (Prepare text) (Prepared handle inputs) h = refl
ended_by s (Prepare text) a h = refl
ended_by s (Exec (Handle handle) params) a h = refl
ended_by s (Query (Handle handle) params) (Cursor rows columns) h = refl
ended_by s (Query (Handle handle) params) a h = refl
ended_by s (Next rows) a h = read_goes_on s (ends_cursor a)
ended_by s (CloseRows rows) a h = freed_goes_on s
ended_by s (CloseStmt handle) a h = refl
ended_by s Valid a h = absurd cc
ended_by s q a h = refl

impossible : false ≡ true → ⊥
impossible h = cc

-- Returns the request with this text, these parameters and this aim.
abbrev pub asking : List ℕ → List Param → Aim → Asked
asking text params aim = record { text = text; params = params; aim = aim }

-- Before there is a cursor, no rows are handed out, so the course alone says what is sent.
no_rows : (aim : Aim) (made : List Exchange) → own_cursor made ≡ None → handed aim made ≡ None
no_rows aims.HandOut made none = none
no_rows _ made none = refl

pub body_before : (can : Caps) (asked : Asked) (w : Wish) (made : List Exchange) → own_cursor made ≡ None → body_after can false asked w made ≡ sent_as can asked (next_of can asked made)
body_before can asked w made none = rw (no_rows asked.aim made none) refl

-- Only a call that executes its text sends an Exec, and it sends no Query.
pub executes : (can : Caps) (asked : Asked) (d : Due) (input : Input) (params : List Param) → is_due_in_line (sent_as can asked d) (Exec input params) ≡ true → asked.aim ≡ aims.Execute
executes can asked d input params h = by_aim asked.aim d h
  where
    not_test : (b : Bool) → is_due_in_line (cond b (Some Valid) None) (Exec input params) ≡ true → ⊥
    not_test true k = cc
    not_test false k = cc

    by_aim : (x : Aim) (e : Due) → is_due_in_line (sent_as can (asking asked.text asked.params x) e) (Exec input params) ≡ true → x ≡ aims.Execute
    by_aim aims.Execute e k = refl
    by_aim _ due.Text k = absurd cc
    by_aim _ due.Prepare k = absurd cc
    by_aim _ (due.Handle handle) k = absurd cc
    by_aim _ (due.Next rows) k = absurd cc
    by_aim _ (due.CloseRows rows) k = absurd cc
    by_aim _ (due.CloseStmt handle) k = absurd cc
    by_aim _ due.Ping k = absurd cc
    by_aim _ _ k = absurd (not_test can.validator k)

pub not_queried : (can : Caps) (text : List ℕ) (own : List Param) (d : Due) (input : Input) (params : List Param)
    → is_due_in_line (sent_as can (asking text own aims.Execute) d) (Query input params) ≡ true → ⊥
not_queried can text own d input params h = by_call d h
  where
    not_test : (b : Bool) → is_due_in_line (cond b (Some Valid) None) (Query input params) ≡ true → ⊥
    not_test true k = cc
    not_test false k = cc

    by_call : (e : Due) → is_due_in_line (sent_as can (asking text own aims.Execute) e) (Query input params) ≡ true → ⊥
    by_call due.Text k = cc
    by_call due.Prepare k = cc
    by_call (due.Handle handle) k = cc
    by_call (due.Next rows) k = cc
    by_call (due.CloseRows rows) k = cc
    by_call (due.CloseStmt handle) k = cc
    by_call due.Ping k = cc
    by_call _ k = not_test can.validator k

-- Returns the first step: the text if the driver has the fast way, otherwise the Prepare. For a ping it is the
-- Ping if the driver can ping, otherwise nothing.
abbrev pub first_call : Aim → Caps → Due
first_call aims.Ping can = cond can.pinger due.Ping due.Over
first_call aim can = cond (has_fast_way (course_of aim) can) due.Text due.Prepare

pub first_of : (can : Caps) (text : List ℕ) (params : List Param) (aim : Aim) → next_of can (asking text params aim) [] ≡ first_call aim can
first_of can text params aim = by_aim aim
  where
    executing : (b : Bool) → can.fast_exec ≡ b → next_of can (asking text params aims.Execute) [] ≡ cond b due.Text due.Prepare
    executing true is = rw is refl
    executing false is = rw is refl

    reading : (b : Bool) → can.fast_query ≡ b → next_of can (asking text params aims.ReadOne) [] ≡ cond b due.Text due.Prepare
    reading true is = rw is refl
    reading false is = rw is refl

    handing : (b : Bool) → can.fast_query ≡ b → next_of can (asking text params aims.HandOut) [] ≡ cond b due.Text due.Prepare
    handing true is = rw is refl
    handing false is = rw is refl

    pinging : (b : Bool) → can.pinger ≡ b → next_of can (asking text params aims.Ping) [] ≡ cond b due.Ping due.Over
    pinging true is = rw is refl
    pinging false is = rw is refl

    by_aim : (x : Aim) → next_of can (asking text params x) [] ≡ first_call x can
    by_aim aims.Execute = executing can.fast_exec refl
    by_aim aims.ReadOne = reading can.fast_query refl
    by_aim aims.HandOut = handing can.fast_query refl
    by_aim aims.Ping = pinging can.pinger refl

-- After a skip the Prepare comes next.
pub second_of : (can : Caps) (text : List ℕ) (params : List Param) (aim : Aim) → has_text aim ≡ true → next_of can (asking text params aim) ((due.Text, got.Skip) ∷ []) ≡ due.Prepare
second_of can text params aim texts = by_aim aim texts
  where
    executing : (b : Bool) → can.fast_exec ≡ b → next_of can (asking text params aims.Execute) ((due.Text, got.Skip) ∷ []) ≡ due.Prepare
    executing true is = rw is refl
    executing false is = rw is refl

    reading : (b : Bool) → can.fast_query ≡ b → next_of can (asking text params aims.ReadOne) ((due.Text, got.Skip) ∷ []) ≡ due.Prepare
    reading true is = rw is refl
    reading false is = rw is refl

    handing : (b : Bool) → can.fast_query ≡ b → next_of can (asking text params aims.HandOut) ((due.Text, got.Skip) ∷ []) ≡ due.Prepare
    handing true is = rw is refl
    handing false is = rw is refl

    by_aim : (x : Aim) → has_text x ≡ true → next_of can (asking text params x) ((due.Text, got.Skip) ∷ []) ≡ due.Prepare
    by_aim aims.Execute k = executing can.fast_exec refl
    by_aim aims.ReadOne k = reading can.fast_query refl
    by_aim aims.HandOut k = handing can.fast_query refl
    by_aim aims.Ping k = absurd cc

-- The handle is run if it takes this many parameters, and closed otherwise.
pub then_handle : (can : Caps) (text : List ℕ) (params : List Param) (aim : Aim) (handle : ℕ) (made : List Exchange) (m : MadeHandle (asking text params aim) handle made)
    → next_of can (asking text params aim) made ≡ cond (is_none (count_fault m.inputs (length params))) (due.Handle handle) (due.CloseStmt handle)
then_handle can text params aims.Execute handle made m = by_count (is_none (count_fault m.inputs (length params))) refl
  where
    by_count : (c : Bool) → is_none (count_fault m.inputs (length params)) ≡ c → next_of can (asking text params aims.Execute) made ≡ cond c (due.Handle handle) (due.CloseStmt handle)
    by_count true is = rw (m.good, m.left, m.own, is) refl
    by_count false is = rw (m.good, m.left, m.own, is) refl
then_handle can text params aims.Ping handle made m = absurd (impossible m.texts)
then_handle can text params x handle made m = by_count (is_none (count_fault m.inputs (length params))) refl
  where
    by_count : (c : Bool) → is_none (count_fault m.inputs (length params)) ≡ c → next_of can (asking text params x) made ≡ cond c (due.Handle handle) (due.CloseStmt handle)
    by_count true is = rw (m.good, m.left, m.own, m.none, is) refl
    by_count false is = rw (m.good, m.left, m.own, m.none, is) refl

goes_test : (can : Caps) (call : DriverCall) → is_due_in_line (test_of can) call ≡ true → (goes Start call ≡ true) × (goes WasReset call ≡ true) × (goes WasDone call ≡ true)
goes_test can call h = by_can can.validator call h
  where
    by_can : (b : Bool) (q : DriverCall) → is_due_in_line (cond b (Some Valid) None) q ≡ true → (goes Start q ≡ true) × (goes WasReset q ≡ true) × (goes WasDone q ≡ true)
    by_can true Valid k = (refl, refl, refl)
    by_can true _ k = absurd cc
    by_can false q k = absurd cc

goes_run : (asked : Asked) (text : List ℕ) (call : DriverCall) → is_due_in_line (Some (run_of asked (Text text))) call ≡ true → (goes Start call ≡ true) × (goes WasReset call ≡ true)
goes_run asked text call h = by_aim asked.aim call h
  where
    by_aim : (x : Aim) (q : DriverCall) → is_due_in_line (Some (run_for x (Text text) asked.params)) q ≡ true → (goes Start q ≡ true) × (goes WasReset q ≡ true)
    by_aim aims.Execute (Exec (Text other) params) k = (refl, refl)
    by_aim aims.Execute _ k = absurd cc
    by_aim _ (Query (Text other) params) k = (refl, refl)
    by_aim _ _ k = absurd cc

goes_prepare : (text : List ℕ) (call : DriverCall) → is_due_in_line (Some (Prepare text)) call ≡ true → (goes Start call ≡ true) × (goes WasReset call ≡ true) × (goes WasSkipped call ≡ true)
goes_prepare text (Prepare other) h = (refl, refl, refl)
goes_prepare text _ h = absurd cc

goes_ping : (call : DriverCall) → is_due_in_line (Some Ping) call ≡ true → (goes Start call ≡ true) × (goes WasReset call ≡ true)
goes_ping Ping h = (refl, refl)
goes_ping _ h = absurd cc

goes_handle : (asked : Asked) (handle : ℕ) (call : DriverCall) → is_due_in_line (Some (run_of asked (Handle handle))) call ≡ true → goes (WasPrepared handle) call ≡ true
goes_handle asked handle call h = by_aim asked.aim call h
  where
    by_aim : (x : Aim) (q : DriverCall) → is_due_in_line (Some (run_for x (Handle handle) asked.params)) q ≡ true → goes (WasPrepared handle) q ≡ true
    by_aim aims.Execute (Exec (Handle other) params) k = grind (arith, k)
    by_aim aims.Execute _ k = absurd cc
    by_aim _ (Query (Handle other) params) k = grind (arith, k)
    by_aim _ _ k = absurd cc

goes_close : (handle : ℕ) (call : DriverCall) → is_due_in_line (Some (CloseStmt handle)) call ≡ true → (goes (WasPrepared handle) call ≡ true) × (goes (WasRun handle) call ≡ true)
goes_close handle (CloseStmt other) h = (h, h)
goes_close handle _ h = absurd cc

goes_next : (own : Option ℕ) (rows : ℕ) (call : DriverCall) → is_due_in_line (Some (Next rows)) call ≡ true → (goes (HasRows own rows) call ≡ true) × (goes (HasRead own rows false) call ≡ true)
goes_next own rows (Next other) h = (h, h)
goes_next own rows _ h = absurd cc

goes_free : (own : Option ℕ) (rows : ℕ) (call : DriverCall) → is_due_in_line (Some (CloseRows rows)) call ≡ true
    → (goes (HasRows own rows) call ≡ true) × ((over : Bool) → goes (HasRead own rows over) call ≡ true)
goes_free own rows (CloseRows other) h = (h, λ over. by_over over)
  where
    by_over : (b : Bool) → goes (HasRead own rows b) (CloseRows other) ≡ true
    by_over true = h
    by_over false = h
goes_free own rows _ h = absurd cc

first_goes : (can : Caps) (asked : Asked) (w : Wish) (call : DriverCall) → is_due_in_line (body_after can false asked w []) call ≡ true → (goes Start call ≡ true) × (goes WasReset call ≡ true)
first_goes can asked w call h = by_aim asked.aim (rw (body_before can asked w [] refl, first_of can asked.text asked.params asked.aim) at h)
  where
    by_fast : (b : Bool) → is_due_in_line (sent_as can asked (cond b due.Text due.Prepare)) call ≡ true → (goes Start call ≡ true) × (goes WasReset call ≡ true)
    by_fast true k = goes_run asked asked.text call k
    by_fast false k = let g = goes_prepare asked.text call k in (g.0, g.1)

    by_ping : (b : Bool) → is_due_in_line (sent_as can asked (cond b due.Ping due.Over)) call ≡ true → (goes Start call ≡ true) × (goes WasReset call ≡ true)
    by_ping true k = goes_ping call k
    by_ping false k = let g = goes_test can call k in (g.0, g.1)

    by_aim : (x : Aim) → is_due_in_line (sent_as can asked (first_call x can)) call ≡ true → (goes Start call ≡ true) × (goes WasReset call ≡ true)
    by_aim aims.Ping k = by_ping can.pinger k
    by_aim aims.Execute k = by_fast (has_fast_way courses.Exec can) k
    by_aim aims.ReadOne k = by_fast (has_fast_way courses.One can) k
    by_aim aims.HandOut k = by_fast (has_fast_way courses.Query can) k

second_goes : (can : Caps) (asked : Asked) (w : Wish) (call : DriverCall) → has_text asked.aim ≡ true → is_due_in_line (body_after can false asked w ((due.Text, got.Skip) ∷ [])) call ≡ true → goes WasSkipped call ≡ true
second_goes can asked w call texts h =
    let k : is_due_in_line (sent_as can asked due.Prepare) call ≡ true =
    rw (body_before can asked w ((due.Text, got.Skip) ∷ []) refl, second_of can asked.text asked.params asked.aim texts) at h in
    let g = goes_prepare asked.text call k in g.2

handle_goes : (can : Caps) (asked : Asked) (w : Wish) (handle : ℕ) (made : List Exchange) (call : DriverCall) → MadeHandle asked handle made → is_due_in_line (body_after can false asked w made) call ≡ true
    → goes (WasPrepared handle) call ≡ true
handle_goes can asked w handle made call m h =
    by_count (is_none (count_fault m.inputs (length asked.params)))
    (rw (body_before can asked w made m.none, then_handle can asked.text asked.params asked.aim handle made m) at h)
  where
    by_count : (b : Bool) → is_due_in_line (sent_as can asked (cond b (due.Handle handle) (due.CloseStmt handle))) call ≡ true → goes (WasPrepared handle) call ≡ true
    by_count true k = goes_handle asked handle call k
    by_count false k = let g = goes_close handle call k in g.0

-- Returns the driver call that is sent over open rows that were handed out, by what is wanted of them.
abbrev pub open_sends : Wish → ℕ → Option DriverCall
open_sends wishes.Nothing rows = None
open_sends wishes.Fetch rows = Some (Next rows)
open_sends wishes.Close rows = Some (CloseRows rows)

pub sends_open : (can : Caps) (text : List ℕ) (params : List Param) (w : Wish) (own : Option ℕ) (rows : ℕ) (it : Due) (made : List Exchange)
    → MadeRows can (asking text params aims.HandOut) own rows false it made → body_after can false (asking text params aims.HandOut) w made ≡ open_sends w rows
sends_open can text params wishes.Close own rows it made m = rw (m.cursor, m.are_over, m.next_close) refl
sends_open can text params _ own rows it made m = rw (m.cursor, m.are_over) refl

pub sends_over : (can : Caps) (text : List ℕ) (params : List Param) (w : Wish) (own : Option ℕ) (rows : ℕ) (it : Due) (made : List Exchange)
    → MadeRows can (asking text params aims.HandOut) own rows true it made → body_after can false (asking text params aims.HandOut) w made ≡ Some (CloseRows rows)
sends_over can text params w own rows it made m = rw (m.cursor, m.are_over, m.next_close) refl

-- What is wanted of open rows may be sent at their step.
open_goes : (w : Wish) (own : Option ℕ) (rows : ℕ) (call : DriverCall) → is_due_in_line (open_sends w rows) call ≡ true → (goes (HasRows own rows) call ≡ true) × (goes (HasRead own rows false) call ≡ true)
open_goes wishes.Nothing own rows call h = absurd cc
open_goes wishes.Fetch own rows call h = goes_next own rows call h
open_goes wishes.Close own rows call h = let g = goes_free own rows call h in (g.0, g.1 false)

rows_go : (can : Caps) (text : List ℕ) (params : List Param) (aim : Aim) (w : Wish) (own : Option ℕ) (rows : ℕ) (made : List Exchange) (call : DriverCall)
    → MadeRows can (asking text params aim) own rows false (due.Next rows) made → is_due_in_line (body_after can false (asking text params aim) w made) call ≡ true → goes (HasRows own rows) call ≡ true
rows_go can text params aims.ReadOne w own rows made call m h = let g = goes_next own rows call (rw m.sends at h) in g.0
rows_go can text params aims.HandOut w own rows made call m h = let g = open_goes w own rows call (rw (sends_open can text params w own rows (due.Next rows) made m) at h) in g.0
rows_go can text params _ w own rows made call m h = absurd (impossible m.reads)

read_go : (can : Caps) (text : List ℕ) (params : List Param) (aim : Aim) (w : Wish) (own : Option ℕ) (rows : ℕ) (over : Bool) (made : List Exchange) (call : DriverCall)
    → MadeRows can (asking text params aim) own rows over (due.CloseRows rows) made → is_due_in_line (body_after can false (asking text params aim) w made) call ≡ true → goes (HasRead own rows over) call ≡ true
read_go can text params aims.Execute w own rows over made call m h = absurd (impossible m.reads)
read_go can text params aims.Ping w own rows over made call m h = absurd (impossible m.reads)
read_go can text params aims.ReadOne w own rows over made call m h = let g = goes_free own rows call (rw m.sends at h) in g.1 over
read_go can text params aims.HandOut w own rows true made call m h = let g = goes_free own rows call (rw (sends_over can text params w own rows (due.CloseRows rows) made m) at h) in g.1 true
read_go can text params aims.HandOut w own rows false made call m h =
    let g = open_goes w own rows call (rw (sends_open can text params w own rows (due.CloseRows rows) made m) at h) in g.1

pub goes_body : (can : Caps) (asked : Asked) (w : Wish) (s : Step) (made : List Exchange) (call : DriverCall) → is_ended s ≡ false → MadeAt can asked s made
    → is_due_in_line (body_after can false asked w made) call ≡ true → goes s call ≡ true
goes_body can asked w Start made call e m h = let g = first_goes can asked w call (rw m at h) in g.0
goes_body can asked w WasReset made call e m h = let g = first_goes can asked w call (rw m at h) in g.1
goes_body can asked w WasSkipped made call e m h = second_goes can asked w call m.1 (rw m.0 at h)
goes_body can asked w (WasPrepared handle) made call e m h = handle_goes can asked w handle made call m h
goes_body can asked w (HasRows own rows) made call e m h = rows_go can asked.text asked.params asked.aim w own rows made call m h
goes_body can asked w (HasRead own rows over) made call e m h = read_go can asked.text asked.params asked.aim w own rows over made call m h
goes_body can asked w (WasRun handle) made call e m h = let g = goes_close handle call (rw (m.sends w) at h) in g.1
goes_body can asked w WasDone made call e m h = let g = goes_test can call (rw (m w) at h) in g.2
goes_body can asked w IsOther made call e m h = absurd m
goes_body can asked w _ made call e m h = absurd cc

-- Is true if the step leaves nothing open. A step is so if nothing comes next and no rows keep the connection.
abbrev pub is_clean : Step → Bool
is_clean (WasPrepared handle) = false
is_clean (HasRows own rows) = false
is_clean (HasRead own rows over) = false
is_clean (WasRun handle) = false
is_clean _ = true

some_run : (can : Caps) (asked : Asked) (b : Bool) (handle : ℕ) → is_none (sent_as can asked (cond b (due.Handle handle) (due.CloseStmt handle))) ≡ true → ⊥
some_run can asked true handle h = cc
some_run can asked false handle h = cc

-- Open rows keep the connection, or a driver call is sent over them.
sent_or_kept : (w : Wish) (rows : ℕ) → is_none (open_sends w rows) ≡ true → keeps w ≡ false → ⊥
sent_or_kept wishes.Nothing rows h k = cc
sent_or_kept wishes.Fetch rows h k = cc
sent_or_kept wishes.Close rows h k = cc

open_left : (can : Caps) (text : List ℕ) (params : List Param) (w : Wish) (own : Option ℕ) (rows : ℕ) (it : Due) (made : List Exchange)
    → MadeRows can (asking text params aims.HandOut) own rows false it made → is_none (body_after can false (asking text params aims.HandOut) w made) ≡ true
    → keeps_rows aims.HandOut w made ≡ false → ⊥
open_left can text params w own rows it made m h k = sent_or_kept w rows (rw (sends_open can text params w own rows it made m) at h) (rw (m.cursor, m.are_over) at k)

rows_left : (can : Caps) (text : List ℕ) (params : List Param) (aim : Aim) (w : Wish) (own : Option ℕ) (rows : ℕ) (made : List Exchange)
    → MadeRows can (asking text params aim) own rows false (due.Next rows) made → is_none (body_after can false (asking text params aim) w made) ≡ true → keeps_rows aim w made ≡ false → ⊥
rows_left can text params aims.ReadOne w own rows made m h k = let n = rw m.sends at h in cc
rows_left can text params aims.HandOut w own rows made m h k = open_left can text params w own rows (due.Next rows) made m h k
rows_left can text params _ w own rows made m h k = impossible m.reads

read_left : (can : Caps) (text : List ℕ) (params : List Param) (aim : Aim) (w : Wish) (own : Option ℕ) (rows : ℕ) (over : Bool) (made : List Exchange)
    → MadeRows can (asking text params aim) own rows over (due.CloseRows rows) made → is_none (body_after can false (asking text params aim) w made) ≡ true → keeps_rows aim w made ≡ false → ⊥
read_left can text params aims.Execute w own rows over made m h k = impossible m.reads
read_left can text params aims.Ping w own rows over made m h k = impossible m.reads
read_left can text params aims.ReadOne w own rows over made m h k = let n = rw m.sends at h in cc
read_left can text params aims.HandOut w own rows true made m h k = let n = rw (sends_over can text params w own rows (due.CloseRows rows) made m) at h in cc
read_left can text params aims.HandOut w own rows false made m h k = open_left can text params w own rows (due.CloseRows rows) made m h k

pub clean_when_done : (can : Caps) (asked : Asked) (w : Wish) (s : Step) (made : List Exchange) → MadeAt can asked s made → is_none (body_after can false asked w made) ≡ true
    → keeps_rows asked.aim w made ≡ false → is_clean s ≡ true
clean_when_done can asked w (WasPrepared handle) made m h k =
    absurd (some_run can asked (is_none (count_fault m.inputs (length asked.params))) handle
    (rw (body_before can asked w made m.none, then_handle can asked.text asked.params asked.aim handle made m) at h))
clean_when_done can asked w (HasRows own rows) made m h k = absurd (rows_left can asked.text asked.params asked.aim w own rows made m h k)
clean_when_done can asked w (HasRead own rows over) made m h k = absurd (read_left can asked.text asked.params asked.aim w own rows over made m h k)
clean_when_done can asked w (WasRun handle) made m h k = let n = rw (m.sends w) at h in absurd cc
clean_when_done can asked w _ made m h k = refl
