-- What an answer decides for a call in a transaction: its reply is settled, or it awaits another answer.
use Rattle.std.proofs.Common.{◌≡◌, ℕ, ℤ, pos, negsuc, ◌==◌, min, ◌⊎◌, inl, inr, Bool, true, false, not, cond, List, [], ◌∷◌, length, Option, Some, None, is_none, is_some, refl, ap, subst}
use Rattle.dsql_laws_calls.specs.value.declared.value.Param.{Param}
use Rattle.dsql_laws_calls.specs.value.declared.arg.ArgFault.TheVariants.{NumArgs}
use Rattle.dsql_laws_calls.specs.value.Arguments.{count_fault, largest_count}
use Rattle.dsql_laws_calls.specs.driver.declared.answer.DriverAnswer.{DriverAnswer}
use Rattle.dsql_laws_calls.specs.driver.declared.answer.DriverAnswer.TheVariants.{Prepared, Result, Cursor, Row, End, Skip, Bad, Fail}
use Rattle.dsql_laws_calls.specs.driver.declared.call.DriverCall.{DriverCall}
use Rattle.dsql_laws_calls.specs.driver.declared.call.DriverCall.TheVariants.{Prepare, Exec, Query, Next, CloseRows, CloseStmt}
use Rattle.dsql_laws_calls.specs.driver.declared.call.Input.TheVariants.{Text, Handle}
use Rattle.dsql_laws_calls.specs.driver.declared.caps.Caps.{Caps}
use Rattle.dsql_laws_calls.specs.driver.Fits.{fits_of, is_memory}
use Rattle.dsql_laws_calls.specs.course.declared.call.Due.{Due}
use Rattle.dsql_laws_calls.specs.course.declared.call.Due.TheVariants as due
use Rattle.dsql_laws_calls.specs.course.declared.call.Got.TheVariants as got
use Rattle.dsql_laws_calls.specs.course.Made.{Exchange, has_fast_way}
use Rattle.dsql_laws_calls.specs.works.declared.work.Aim.{Aim}
use Rattle.dsql_laws_calls.specs.works.declared.work.Aim.TheVariants as aims
use Rattle.dsql_laws_calls.specs.works.Exchanges.{step_of, got_of, with_exchange}
use Rattle.dsql_laws_calls.specs.works.Line.{sent_as, run_for, course_of}
use Rattle.dsql_laws_calls.proofs.laws_work.MadeLines.{asking}
use Rattle.dsql_laws_calls.specs.history.declared.reply.Reply.{Reply}
use Rattle.dsql_laws_calls.specs.history.declared.work.Scope.TheVariants.{Held}
use Rattle.dsql_laws_calls.specs.history.declared.work.Work.{Work}
use Rattle.dsql_laws_calls.specs.history.declared.work.Task.TheVariants.{Execute, ReadOne, HandOut}
use Rattle.dsql_laws_calls.specs.history.declared.work.Work.TheVariants.{Statement}
use Rattle.dsql_laws_calls.specs.history.Readers.Decisions.{decision, close_decision, told_of}
use Rattle.dsql_laws_calls.specs.history.Readers.Works.{scope, aim_of}
use Rattle.dsql_laws_calls.specs.history.Rules.Line.{is_due}
use Rattle.dsql_laws_calls.specs.history.Rules.Sent.{untested}
use Rattle.dsql_laws_calls.proofs.Looks.{told_any}
use Rattle.dsql_laws_calls.proofs.Quiet.{next_inside}
use Rattle.dsql_laws_replies.proofs.InnerAwaits.{Fresh, IsPrepared, Awaiting, first_exec, first_one, first_out, second, third, fourth_text, fourth_handle, text_of}
use Rattle.dsql_laws_replies.proofs.Decides.{closing_decides}
use Rattle.dsql_laws_replies.proofs.InnerOver.{Over, is_tidy, over_next}

-- What an answer decides.

-- Holds if the answer settles the reply, or the call awaits another answer.
abbrev pub Outcome : ℕ → Caps → ℕ → Work → DriverCall → DriverAnswer → Option Reply → List Exchange → Type 0
Outcome number can count it q a d made =
    ((is_some (decision (record { again = false; number = number; count = count; work = it }) q a d) ≡ true) × Over can (aim_of it) count (with_exchange (step_of q) a made)) ⊎ Awaiting can (aim_of it) count (with_exchange (step_of q) a made)

-- A number of inputs that is refused gives a reply.
counted : (inputs : ℤ) (count : ℕ) → ((is_some (told_of (count_fault inputs count)) ≡ true) × (is_none (count_fault inputs count) ≡ false)) ⊎ (is_none (count_fault inputs count) ≡ true)
counted (negsuc n) count = inr refl
counted (pos want) count = by_test (want == count)
  where
    by_test : (b : Bool) → ((is_some (told_of (cond b None (Some (NumArgs want (min count largest_count))))) ≡ true) × (is_none (cond b None (Some (NumArgs want (min count largest_count)))) ≡ false)) ⊎ (is_none (cond b None (Some (NumArgs want (min count largest_count)))) ≡ true)
    by_test true = inr refl
    by_test false = inl (refl, refl)

on_prepare : (number : ℕ) (can : Caps) (count k : ℕ) (text : List ℕ) (it : Work) (q : DriverCall) (a : DriverAnswer) (d : Option Reply) (made : List Exchange) → Fresh made → is_due (Some (Prepare text)) q ≡ true → fits_of q a ≡ true → is_memory a ≡ false
    → Outcome number can count it q a d made
on_prepare number can count k text it (Prepare t) (Prepared handle inputs) d made fresh h fit heard = by (counted inputs count)
  where
    by : ((is_some (told_of (count_fault inputs count)) ≡ true) × (is_none (count_fault inputs count) ≡ false)) ⊎ (is_none (count_fault inputs count) ≡ true) → Outcome number can count it (Prepare t) (Prepared handle inputs) d made
    by (inl told) = inl (told.0, inr (inr (record { answer = got.Prepared handle inputs; rest = made; is = refl; before = fresh; ends = ap not told.1 })))
    by (inr fine) = inr (inr (inl (record { handle = handle; inputs = inputs; rest = made; is = refl; before = fresh; counts = fine })))
on_prepare number can count k text it (Prepare t) Bad d made fresh h fit heard = inl (refl, inr (inr (record { answer = got.Bad; rest = made; is = refl; before = fresh; ends = refl })))
on_prepare number can count k text it (Prepare t) (Fail why) d made fresh h fit heard = inl (refl, inr (inr (record { answer = got.Fail; rest = made; is = refl; before = fresh; ends = refl })))
on_prepare number can count k text it (Prepare t) a d made fresh h fit heard = absurd cc
on_prepare number can count k text it q a d made fresh h fit heard = absurd cc

on_text : (number : ℕ) (can : Caps) (count k : ℕ) (text : List ℕ) (params : List Param) (it : Work) (q : DriverCall) (a : DriverAnswer) (d : Option Reply) (made : List Exchange) → scope it ≡ Held k → made ≡ [] → has_fast_way (course_of (aim_of it)) can ≡ true
    → is_due (Some (run_for (aim_of it) (Text text) params)) q ≡ true → fits_of q a ≡ true → is_memory a ≡ false → Outcome number can count it q a d made
on_text number can count k text params (Statement (Held j) Execute) (Exec (Text t) ps) (Result last affected) d made s none fast h fit heard = inl (refl, inr (inl (record { answer = got.Result; fast = fast; is = ap (λ m. (due.Text, got.Result) ∷ m) none; ends = refl })))
on_text number can count k text params (Statement (Held j) Execute) (Exec (Text t) ps) Skip d made s none fast h fit heard = inr (inl (inr (ap (λ m. (due.Text, got.Skip) ∷ m) none)))
on_text number can count k text params (Statement (Held j) Execute) (Exec (Text t) ps) Bad d made s none fast h fit heard = inl (refl, inr (inl (record { answer = got.Bad; fast = fast; is = ap (λ m. (due.Text, got.Bad) ∷ m) none; ends = refl })))
on_text number can count k text params (Statement (Held j) Execute) (Exec (Text t) ps) (Fail why) d made s none fast h fit heard = inl (refl, inr (inl (record { answer = got.Fail; fast = fast; is = ap (λ m. (due.Text, got.Fail) ∷ m) none; ends = refl })))
on_text number can count k text params (Statement (Held j) (HandOut label)) (Query (Text t) ps) (Cursor rows columns) d made s none fast h fit heard = inl (refl, inr (inl (record { answer = got.Cursor rows; fast = fast; is = ap (λ m. (due.Text, got.Cursor rows) ∷ m) none; ends = refl })))
on_text number can count k text params (Statement (Held j) (HandOut label)) (Query (Text t) ps) Skip d made s none fast h fit heard = inr (inl (inr (ap (λ m. (due.Text, got.Skip) ∷ m) none)))
on_text number can count k text params (Statement (Held j) (HandOut label)) (Query (Text t) ps) Bad d made s none fast h fit heard = inl (refl, inr (inl (record { answer = got.Bad; fast = fast; is = ap (λ m. (due.Text, got.Bad) ∷ m) none; ends = refl })))
on_text number can count k text params (Statement (Held j) (HandOut label)) (Query (Text t) ps) (Fail why) d made s none fast h fit heard = inl (refl, inr (inl (record { answer = got.Fail; fast = fast; is = ap (λ m. (due.Text, got.Fail) ∷ m) none; ends = refl })))
on_text number can count k text params (Statement (Held j) (ReadOne dests)) (Query (Text t) ps) (Cursor rows columns) d made s none fast h fit heard =
    inr (inr (inr (refl, inl (record { rows = rows; fast = fast; is = ap (λ m. (due.Text, got.Cursor rows) ∷ m) none }))))
on_text number can count k text params (Statement (Held j) (ReadOne dests)) (Query (Text t) ps) Skip d made s none fast h fit heard = inr (inl (inr (ap (λ m. (due.Text, got.Skip) ∷ m) none)))
on_text number can count k text params (Statement (Held j) (ReadOne dests)) (Query (Text t) ps) Bad d made s none fast h fit heard = inl (refl, inr (inl (record { answer = got.Bad; fast = fast; is = ap (λ m. (due.Text, got.Bad) ∷ m) none; ends = refl })))
on_text number can count k text params (Statement (Held j) (ReadOne dests)) (Query (Text t) ps) (Fail why) d made s none fast h fit heard = inl (refl, inr (inl (record { answer = got.Fail; fast = fast; is = ap (λ m. (due.Text, got.Fail) ∷ m) none; ends = refl })))
on_text number can count k text params _ _ a d made s none fast h fit heard = absurd cc

on_handle : (number : ℕ) (can : Caps) (count k handle : ℕ) (params : List Param) (it : Work) (q : DriverCall) (a : DriverAnswer) (d : Option Reply) (made : List Exchange) → scope it ≡ Held k → IsPrepared count made
    → is_due (Some (run_for (aim_of it) (Handle handle) params)) q ≡ true → fits_of q a ≡ true → is_memory a ≡ false → Outcome number can count it q a d made
on_handle number can count k handle params (Statement (Held j) Execute) (Exec (Handle t) ps) (Result last affected) d made s p h fit heard = inl (refl, inl (record { call = due.Handle t; answer = got.Result; rest = made; is = refl; late = refl }))
on_handle number can count k handle params (Statement (Held j) Execute) (Exec (Handle t) ps) Bad d made s p h fit heard = inl (refl, inl (record { call = due.Handle t; answer = got.Bad; rest = made; is = refl; late = refl }))
on_handle number can count k handle params (Statement (Held j) Execute) (Exec (Handle t) ps) (Fail why) d made s p h fit heard = inl (refl, inl (record { call = due.Handle t; answer = got.Fail; rest = made; is = refl; late = refl }))
on_handle number can count k handle params (Statement (Held j) (HandOut label)) (Query (Handle t) ps) (Cursor rows columns) d made s p h fit heard = inl (refl, inl (record { call = due.Handle t; answer = got.Cursor rows; rest = made; is = refl; late = refl }))
on_handle number can count k handle params (Statement (Held j) (HandOut label)) (Query (Handle t) ps) Bad d made s p h fit heard = inl (refl, inl (record { call = due.Handle t; answer = got.Bad; rest = made; is = refl; late = refl }))
on_handle number can count k handle params (Statement (Held j) (HandOut label)) (Query (Handle t) ps) (Fail why) d made s p h fit heard = inl (refl, inl (record { call = due.Handle t; answer = got.Fail; rest = made; is = refl; late = refl }))
on_handle number can count k handle params (Statement (Held j) (ReadOne dests)) (Query (Handle t) ps) (Cursor rows columns) d made s p h fit heard =
    inr (inr (inr (refl, inr (record { rows = rows; run = t; handle = p.handle; inputs = p.inputs; rest = p.rest; is = ap (λ m. (due.Handle t, got.Cursor rows) ∷ m) p.is; before = p.before }))))
on_handle number can count k handle params (Statement (Held j) (ReadOne dests)) (Query (Handle t) ps) Bad d made s p h fit heard = inl (refl, inl (record { call = due.Handle t; answer = got.Bad; rest = made; is = refl; late = refl }))
on_handle number can count k handle params (Statement (Held j) (ReadOne dests)) (Query (Handle t) ps) (Fail why) d made s p h fit heard = inl (refl, inl (record { call = due.Handle t; answer = got.Fail; rest = made; is = refl; late = refl }))
on_handle number can count k handle params _ _ a d made s p h fit heard = absurd cc

on_next : (number : ℕ) (can : Caps) (count k rows : ℕ) (it : Work) (q : DriverCall) (a : DriverAnswer) (d : Option Reply) (made : List Exchange) → scope it ≡ Held k → aim_of it ≡ aims.ReadOne
    → is_due (Some (Next rows)) q ≡ true → fits_of q a ≡ true → is_memory a ≡ false → Outcome number can count it q a d made
on_next number can count k rows (Statement (Held j) (ReadOne dests)) (Next r) (Row values) d made s one h fit heard = inl (told_any values dests, inl (record { call = due.Next r; answer = got.Row; rest = made; is = refl; late = refl }))
on_next number can count k rows (Statement (Held j) (ReadOne dests)) (Next r) End d made s one h fit heard = inl (refl, inl (record { call = due.Next r; answer = got.End; rest = made; is = refl; late = refl }))
on_next number can count k rows (Statement (Held j) (ReadOne dests)) (Next r) Bad d made s one h fit heard = inl (refl, inl (record { call = due.Next r; answer = got.Bad; rest = made; is = refl; late = refl }))
on_next number can count k rows (Statement (Held j) (ReadOne dests)) (Next r) (Fail why) d made s one h fit heard = inl (refl, inl (record { call = due.Next r; answer = got.Fail; rest = made; is = refl; late = refl }))
on_next number can count k rows _ _ a d made s one h fit heard = absurd cc

-- If the call awaited an answer and a driver call that is due was answered, this holds.
pub inner_settles : (number : ℕ) (can : Caps) (bad : Bool) (text : List ℕ) (params : List Param) (it : Work) (k : ℕ) (made : List Exchange) (q : DriverCall) (a : DriverAnswer) (d : Option Reply) → scope it ≡ Held k → Awaiting can (aim_of it) (length params) made
    → is_due (sent_as (untested can) (asking text params (aim_of it)) (next_inside can bad (asking text params (aim_of it)) made)) q ≡ true → fits_of q a ≡ true → is_memory a ≡ false → Outcome number can (length params) it q a d made
inner_settles number can bad text params it k made q a d s (inl (inl none)) h fit heard = by it s (subst (λ m. is_due (sent_as (untested can) (asking text params (aim_of it)) (next_inside can bad (asking text params (aim_of it)) m)) q ≡ true) none h)
  where
    first : (w : Work) → scope w ≡ Held k → (b : Bool) → has_fast_way (course_of (aim_of w)) can ≡ b → is_due (sent_as (untested can) (asking text params (aim_of w)) (cond b due.Text due.Prepare)) q ≡ true → Outcome number can (length params) w q a d made
    first w x true fast y = on_text number can (length params) k text params w q a d made x none fast y fit heard
    first w x false fast y = on_prepare number can (length params) k text w q a d made (inl none) y fit heard

    by : (w : Work) → scope w ≡ Held k → is_due (sent_as (untested can) (asking text params (aim_of w)) (next_inside can bad (asking text params (aim_of w)) [])) q ≡ true → Outcome number can (length params) w q a d made
    by (Statement (Held j) Execute) x y = first (Statement (Held j) Execute) x can.fast_exec refl (rw (first_exec can bad text params can.fast_exec refl) at y)
    by (Statement (Held j) (ReadOne dests)) x y = first (Statement (Held j) (ReadOne dests)) x can.fast_query refl (rw (first_one can bad text params can.fast_query refl) at y)
    by (Statement (Held j) (HandOut label)) x y = first (Statement (Held j) (HandOut label)) x can.fast_query refl (rw (first_out can bad text params can.fast_query refl) at y)
    by w x y = absurd cc
inner_settles number can bad text params it k made q a d s (inl (inr skipped)) h fit heard =
    on_prepare number can (length params) k text it q a d made (inr skipped) (rw (skipped, second can bad text params (aim_of it) (text_of it k s)) at h) fit heard
inner_settles number can bad text params it k made q a d s (inr (inl p)) h fit heard =
    on_handle number can (length params) k p.handle params it q a d made s p (rw (p.is, third can bad text params (aim_of it) p.handle p.inputs p.rest (text_of it k s) p.before p.counts) at h) fit heard
inner_settles number can bad text params it k made q a d s (inr (inr (one, inl x))) h fit heard =
    on_next number can (length params) k x.rows it q a d made s one (rw (one, x.is, fourth_text can bad text params x.rows x.fast) at h) fit heard
inner_settles number can bad text params it k made q a d s (inr (inr (one, inr x))) h fit heard =
    on_next number can (length params) k x.rows it q a d made s one (rw (one, x.is, fourth_handle can bad text params x.rows x.run x.handle x.inputs x.rest x.before) at h) fit heard

-- What is decided stays decided.

inner_closes : (number : ℕ) (it : Work) (k : ℕ) (a : DriverAnswer) (d : Option Reply) → scope it ≡ Held k → is_some d ≡ true → is_some (close_decision number it a d) ≡ true
inner_closes number (Statement s task) k a d x h = closing_decides number a d h
inner_closes number it k a d x h = absurd cc

on_close_rows : (number : ℕ) (can : Caps) (count k rows : ℕ) (it : Work) (q : DriverCall) (a : DriverAnswer) (d : Option Reply) (made : List Exchange) → scope it ≡ Held k → is_some d ≡ true → is_due (Some (CloseRows rows)) q ≡ true → Outcome number can count it q a d made
on_close_rows number can count k rows it (CloseRows r) a d made s some h = inl (inner_closes number it k a d s some, inl (record { call = due.CloseRows r; answer = got_of a; rest = made; is = refl; late = refl }))
on_close_rows number can count k rows it q a d made s some h = absurd cc

on_close_stmt : (number : ℕ) (can : Caps) (count handle : ℕ) (it : Work) (q : DriverCall) (a : DriverAnswer) (d : Option Reply) (made : List Exchange) → is_some d ≡ true → is_due (Some (CloseStmt handle)) q ≡ true → Outcome number can count it q a d made
on_close_stmt number can count handle it (CloseStmt r) a d made some h = inl (some, inl (record { call = due.CloseStmt r; answer = got_of a; rest = made; is = refl; late = refl }))
on_close_stmt number can count handle it q a d made some h = absurd cc

abbrev runs : Due → Bool
runs due.Text = true
runs due.Prepare = true
runs (due.Handle handle) = true
runs due.Ping = true
runs due.Begin = true
runs due.Rollback = true
runs _ = false

untidy : (aim : Aim) (c : Due) → is_tidy aim c ≡ true → runs c ≡ true → ⊥
untidy aims.Execute (due.CloseRows r) t k = cc
untidy aims.Execute c t k = cc
untidy aims.ReadOne (due.CloseRows r) t k = cc
untidy aims.ReadOne c t k = cc
untidy aims.HandOut (due.CloseRows r) t k = cc
untidy aims.HandOut c t k = cc
untidy aims.Ping (due.CloseRows r) t k = cc
untidy aims.Ping c t k = cc

fetches_one : (aim : Aim) (rows : ℕ) → is_tidy aim (due.Next rows) ≡ true → aim ≡ aims.ReadOne
fetches_one aims.ReadOne rows t = refl
fetches_one _ rows t = absurd cc

pub on_tidy : (number : ℕ) (can : Caps) (count k : ℕ) (text : List ℕ) (params : List Param) (it : Work) (q : DriverCall) (a : DriverAnswer) (d : Option Reply) (made : List Exchange) (c : Due) → scope it ≡ Held k → is_some d ≡ true → is_tidy (aim_of it) c ≡ true
    → is_due (sent_as (untested can) (asking text params (aim_of it)) c) q ≡ true → fits_of q a ≡ true → is_memory a ≡ false → Outcome number can count it q a d made
on_tidy number can count k text params it q a d made (due.CloseRows rows) s some t h fit heard = on_close_rows number can count k rows it q a d made s some h
on_tidy number can count k text params it q a d made (due.CloseStmt handle) s some t h fit heard = on_close_stmt number can count handle it q a d made some h
on_tidy number can count k text params it q a d made (due.Next rows) s some t h fit heard = on_next number can count k rows it q a d made s (fetches_one (aim_of it) rows t) h fit heard
on_tidy number can count k text params it q a d made due.Over s some t h fit heard = absurd cc
on_tidy number can count k text params it q a d made x s some t h fit heard = absurd (untidy (aim_of it) x t refl)

pub inner_stays : (number : ℕ) (can : Caps) (bad : Bool) (text : List ℕ) (params : List Param) (it : Work) (k : ℕ) (made : List Exchange) (q : DriverCall) (a : DriverAnswer) (d : Option Reply) → scope it ≡ Held k → is_some d ≡ true
    → Over can (aim_of it) (length params) made → is_due (sent_as (untested can) (asking text params (aim_of it)) (next_inside can bad (asking text params (aim_of it)) made)) q ≡ true → fits_of q a ≡ true → is_memory a ≡ false
    → Outcome number can (length params) it q a d made
inner_stays number can bad text params it k made q a d s some over h fit heard =
    on_tidy number can (length params) k text params it q a d made (next_inside can bad (asking text params (aim_of it)) made) s some (over_next can bad text params (aim_of it) made (text_of it k s) over) h fit heard
