-- Which step of its course a driver call that is due is, and which answers the driver may give to it there.
use Rattle.std.proofs.Common.{◌≡◌, ℕ, Bool, true, false, not, ◌==◌, ◌&&◌, List, Some, refl}
use Rattle.std.specs.Prelude.{int_le, negsuc}
use Rattle.dsql_history.specs.value.declared.value.Param.{Param}
use Rattle.dsql_history.specs.driver.declared.caps.Caps.{Caps}
use Rattle.dsql_history.specs.driver.declared.answer.DriverAnswer.{DriverAnswer}
use Rattle.dsql_history.specs.driver.declared.answer.DriverAnswer.TheVariants.{Done, Prepared, Result, Cursor, Row, End, Skip, Bad, Fail}
use Rattle.dsql_history.specs.driver.declared.call.DriverCall.{DriverCall}
use Rattle.dsql_history.specs.driver.declared.call.DriverCall.TheVariants.{Ping, Prepare, Exec, Query, Next, CloseRows, CloseStmt}
use Rattle.dsql_history.specs.driver.declared.call.Input.TheVariants.{Text, Handle}
use Rattle.dsql_history.specs.driver.Fits.{fits_of, is_memory}
use Rattle.dsql_history.specs.course.declared.course.Course.{Course}
use Rattle.dsql_history.specs.course.declared.course.Course.TheVariants as courses
use Rattle.dsql_history.specs.course.declared.call.Due.{Due}
use Rattle.dsql_history.specs.course.declared.call.Due.TheVariants as due
use Rattle.dsql_history.specs.course.Made.{reads_rows}
use Rattle.dsql_history.specs.course.Line.{may_get}
use Rattle.dsql_history.specs.works.declared.work.Aim.{Aim}
use Rattle.dsql_history.specs.works.declared.work.Aim.TheVariants as aims
use Rattle.dsql_history.specs.works.Exchanges.{got_of, step_of}
use Rattle.dsql_history.specs.works.Line.{Asked, course_of, sent_as}
use Rattle.dsql_history.specs.works.Same.{same_params}
use Rattle.dsql_history.specs.Rules.Line.{is_due}
use Rattle.dsql_history.specs.Rules.Sent.{untested}
use Rattle.dsql_laws_tenures.specs.Orderly.{asks_text}
use Rattle.dsql_laws_tenures.proofs.Numbers.{impossible, same_number}

abbrev pub asking : List ℕ → List Param → Aim → Asked
asking text params aim = record { text = text; params = params; aim = aim }

-- Holds if the driver call is this step of its course, and the answer is one that the step may have.
pub record IsCall (c : Course) (d : Due) (q : DriverCall) (a : DriverAnswer) : Type 0 where
  pub step : step_of q ≡ Some d
  pub may : may_get c d (got_of a) ≡ true

first_of : (a b : Bool) → a && b ≡ true → a ≡ true
first_of true b h = refl
first_of false b h = absurd cc

-- An answer that fits the run of a text is one that the step may have.
exec_text : (text : List ℕ) (params : List Param) (a : DriverAnswer) → fits_of (Exec (Text text) params) a && not (is_memory a) ≡ true → may_get courses.Exec due.Text (got_of a) ≡ true
exec_text text params (Result last affected) fit = refl
exec_text text params Skip fit = refl
exec_text text params Bad fit = refl
exec_text text params (Fail why) fit = refl
exec_text text params _ fit = absurd (impossible fit)

exec_handle : (handle : ℕ) (params : List Param) (a : DriverAnswer) → fits_of (Exec (Handle handle) params) a && not (is_memory a) ≡ true → may_get courses.Exec (due.Handle handle) (got_of a) ≡ true
exec_handle handle params (Result last affected) fit = refl
exec_handle handle params Bad fit = refl
exec_handle handle params (Fail why) fit = refl
exec_handle handle params _ fit = absurd (impossible fit)

query_text : (c : Course) (text : List ℕ) (params : List Param) (a : DriverAnswer) → reads_rows c ≡ true → fits_of (Query (Text text) params) a && not (is_memory a) ≡ true → may_get c due.Text (got_of a) ≡ true
query_text c text params (Cursor rows columns) reads fit = reads
query_text c text params Skip reads fit = refl
query_text c text params Bad reads fit = refl
query_text c text params (Fail why) reads fit = refl
query_text c text params _ reads fit = absurd (impossible fit)

query_handle : (c : Course) (handle : ℕ) (params : List Param) (a : DriverAnswer) → reads_rows c ≡ true → fits_of (Query (Handle handle) params) a && not (is_memory a) ≡ true → may_get c (due.Handle handle) (got_of a) ≡ true
query_handle c handle params (Cursor rows columns) reads fit = reads
query_handle c handle params Bad reads fit = refl
query_handle c handle params (Fail why) reads fit = refl
query_handle c handle params _ reads fit = absurd (impossible fit)

prepare_may : (c : Course) (text : List ℕ) (a : DriverAnswer) → fits_of (Prepare text) a && not (is_memory a) ≡ true → may_get c due.Prepare (got_of a) ≡ true
prepare_may c text (Prepared handle inputs) fit = first_of (int_le (negsuc 0) inputs) true fit
prepare_may c text Bad fit = refl
prepare_may c text (Fail why) fit = refl
prepare_may c text _ fit = absurd (impossible fit)

next_may : (c : Course) (rows : ℕ) (a : DriverAnswer) → fits_of (Next rows) a && not (is_memory a) ≡ true → may_get c (due.Next rows) (got_of a) ≡ true
next_may c rows (Row values) fit = refl
next_may c rows End fit = refl
next_may c rows Bad fit = refl
next_may c rows (Fail why) fit = refl
next_may c rows _ fit = absurd (impossible fit)

close_may : (c : Course) (rows : ℕ) (a : DriverAnswer) → fits_of (CloseRows rows) a && not (is_memory a) ≡ true → may_get c (due.CloseRows rows) (got_of a) ≡ true
close_may c rows Done fit = refl
close_may c rows Bad fit = refl
close_may c rows (Fail why) fit = refl
close_may c rows _ fit = absurd (impossible fit)

free_may : (c : Course) (handle : ℕ) (a : DriverAnswer) → fits_of (CloseStmt handle) a && not (is_memory a) ≡ true → may_get c (due.CloseStmt handle) (got_of a) ≡ true
free_may c handle Done fit = refl
free_may c handle Bad fit = refl
free_may c handle (Fail why) fit = refl
free_may c handle _ fit = absurd (impossible fit)

ping_may : (c : Course) (a : DriverAnswer) → fits_of Ping a && not (is_memory a) ≡ true → may_get c due.Ping (got_of a) ≡ true
ping_may c Done fit = refl
ping_may c Bad fit = refl
ping_may c (Fail why) fit = refl
ping_may c _ fit = absurd (impossible fit)

text_call : (can : Caps) (text : List ℕ) (params : List Param) (aim : Aim) (q : DriverCall) (a : DriverAnswer) → asks_text aim ≡ true → fits_of q a && not (is_memory a) ≡ true
    → is_due (sent_as (untested can) (asking text params aim) due.Text) q ≡ true → IsCall (course_of aim) due.Text q a
text_call can text params aims.Execute (Exec (Text other) others) a it fit h = record { step = refl; may = exec_text other others a fit }
text_call can text params aims.ReadOne (Query (Text other) others) a it fit h = record { step = refl; may = query_text courses.One other others a refl fit }
text_call can text params aims.HandOut (Query (Text other) others) a it fit h = record { step = refl; may = query_text courses.Query other others a refl fit }
text_call can text params aims.Ping q a it fit h = absurd (impossible it)
text_call can text params _ _ a it fit h = absurd (impossible h)

handle_call : (can : Caps) (text : List ℕ) (params : List Param) (aim : Aim) (handle : ℕ) (q : DriverCall) (a : DriverAnswer) → asks_text aim ≡ true → fits_of q a && not (is_memory a) ≡ true
    → is_due (sent_as (untested can) (asking text params aim) (due.Handle handle)) q ≡ true → IsCall (course_of aim) (due.Handle handle) q a
handle_call can text params aims.Execute handle (Exec (Handle other) others) a it fit h =
    let same : handle ≡ other = same_number handle other (first_of (handle == other) (same_params params others) h) in
    rw same (record { step = refl; may = exec_handle other others a fit })
handle_call can text params aims.ReadOne handle (Query (Handle other) others) a it fit h =
    let same : handle ≡ other = same_number handle other (first_of (handle == other) (same_params params others) h) in
    rw same (record { step = refl; may = query_handle courses.One other others a refl fit })
handle_call can text params aims.HandOut handle (Query (Handle other) others) a it fit h =
    let same : handle ≡ other = same_number handle other (first_of (handle == other) (same_params params others) h) in
    rw same (record { step = refl; may = query_handle courses.Query other others a refl fit })
handle_call can text params aims.Ping handle q a it fit h = absurd (impossible it)
handle_call can text params _ handle _ a it fit h = absurd (impossible h)

prepare_call : (c : Course) (text : List ℕ) (q : DriverCall) (a : DriverAnswer) → fits_of q a && not (is_memory a) ≡ true → is_due (Some (Prepare text)) q ≡ true → IsCall c due.Prepare q a
prepare_call c text (Prepare other) a fit h = record { step = refl; may = prepare_may c other a fit }
prepare_call c text _ a fit h = absurd (impossible h)

next_call : (c : Course) (rows : ℕ) (q : DriverCall) (a : DriverAnswer) → fits_of q a && not (is_memory a) ≡ true → is_due (Some (Next rows)) q ≡ true → IsCall c (due.Next rows) q a
next_call c rows (Next other) a fit h = let same : rows ≡ other = same_number rows other h in rw same (record { step = refl; may = next_may c other a fit })
next_call c rows _ a fit h = absurd (impossible h)

close_call : (c : Course) (rows : ℕ) (q : DriverCall) (a : DriverAnswer) → fits_of q a && not (is_memory a) ≡ true → is_due (Some (CloseRows rows)) q ≡ true → IsCall c (due.CloseRows rows) q a
close_call c rows (CloseRows other) a fit h = let same : rows ≡ other = same_number rows other h in rw same (record { step = refl; may = close_may c other a fit })
close_call c rows _ a fit h = absurd (impossible h)

free_call : (c : Course) (handle : ℕ) (q : DriverCall) (a : DriverAnswer) → fits_of q a && not (is_memory a) ≡ true → is_due (Some (CloseStmt handle)) q ≡ true → IsCall c (due.CloseStmt handle) q a
free_call c handle (CloseStmt other) a fit h = let same : handle ≡ other = same_number handle other h in rw same (record { step = refl; may = free_may c other a fit })
free_call c handle _ a fit h = absurd (impossible h)

ping_call : (c : Course) (q : DriverCall) (a : DriverAnswer) → fits_of q a && not (is_memory a) ≡ true → is_due (Some Ping) q ≡ true → IsCall c due.Ping q a
ping_call c Ping a fit h = record { step = refl; may = ping_may c a fit }
ping_call c _ a fit h = absurd (impossible h)

-- A driver call that is due for a step of a course is that step.
pub call_is : (can : Caps) (text : List ℕ) (params : List Param) (aim : Aim) (d : Due) (q : DriverCall) (a : DriverAnswer) → asks_text aim ≡ true → fits_of q a && not (is_memory a) ≡ true
    → is_due (sent_as (untested can) (asking text params aim) d) q ≡ true → IsCall (course_of aim) d q a
call_is can text params aim due.Text q a it fit h = text_call can text params aim q a it fit h
call_is can text params aim due.Prepare q a it fit h = prepare_call (course_of aim) text q a fit h
call_is can text params aim (due.Handle handle) q a it fit h = handle_call can text params aim handle q a it fit h
call_is can text params aim (due.Next rows) q a it fit h = next_call (course_of aim) rows q a fit h
call_is can text params aim (due.CloseRows rows) q a it fit h = close_call (course_of aim) rows q a fit h
call_is can text params aim (due.CloseStmt handle) q a it fit h = free_call (course_of aim) handle q a fit h
call_is can text params aim due.Ping q a it fit h = ping_call (course_of aim) q a fit h
call_is can text params aim _ q a it fit h = absurd (impossible h)
