-- A call that is served gets an answer that fits it, and its session reports handles and cursors as it should. The
-- argument goes through the calls and the answers.
use Rattle.std.proofs.Common.{◌≡◌, ℕ, ℤ, List, Bool, true, false, cond, Option, Some, None, option_and_then, refl, inl, inr}
use Rattle.dsql_driver.specs.Fits.{fits_of, is_done}
use Rattle.dsql_driver.specs.declared.answer.DriverAnswer.{DriverAnswer}
use Rattle.dsql_driver.specs.declared.answer.DriverAnswer.TheVariants.{Done, Result, Bad, Fail}
use Rattle.dsql_driver.specs.declared.call.DriverCall.{DriverCall}
use Rattle.dsql_driver.specs.declared.call.DriverCall.TheVariants.{Connect, Reset, Valid, Ping, Prepare, CloseStmt, Exec, Query, Next, CloseRows, Shut}
use Rattle.dsql_driver.specs.declared.call.Input.{Input}
use Rattle.dsql_driver.specs.declared.call.Input.TheVariants as input
use Rattle.dsql_driver.specs.declared.wire.Answered.{Answered}
use Rattle.dsql_driver.specs.declared.wire.Planned.{Planned}
use Rattle.dsql_mem_plans.specs.Plans.{answer_planned, fault_for}
use Rattle.dsql_mem_plans.proofs.FaultLemmas.{fault-answered, fault-handles, fault-cursors}
use Rattle.dsql_driver_session.specs.Calls.{Kept, Keeps, handle_given, closed, opened, next_taken, rows_closed}
use Rattle.dsql_driver_session.specs.Copies.{copies_of}
use Rattle.dsql_driver_session.specs.Session.{SessionState, IsSound}
use Rattle.dsql_driver_session.proofs.LawfulLemmas.{IsLawful, prepared-IsLawful, closed-IsLawful, opened-IsLawful, next_taken-IsLawful, rows_closed-IsLawful}
use Rattle.dsql_value.specs.declared.value.Param.{Param}
use Rattle.sqlite_driver.specs.Served.{Stays, Serves, no_such_handle, no_such_cursor, numbers_spent, is_done_or_bad, is_done_or_fail, is_executed, is_fail}
use Rattle.sqlite_driver.specs.Wire.{ServesUnless}

-- What holds of Done holds of an answer that is Done.
of_done : (P : DriverAnswer → Type 0) (answer : DriverAnswer) → is_done answer ≡ true → P Done → P answer
of_done P Done h p = p
of_done P _ h p = cc

-- What holds of each Fail holds of an answer that is one.
of_fail : (P : DriverAnswer → Type 0) (answer : DriverAnswer) → is_fail answer ≡ true → ((text : List ℕ) → P (Fail text)) → P answer
of_fail P (Fail text) h p = p text
of_fail P _ h p = cc

-- What holds of each Fail and of Done holds of an answer that is one of these.
of_done_or_fail : (P : DriverAnswer → Type 0) (answer : DriverAnswer) → is_done_or_fail answer ≡ true → ((text : List ℕ) → P (Fail text)) → P Done → P answer
of_done_or_fail P (Fail text) h p q = p text
of_done_or_fail P Done h p q = q
of_done_or_fail P _ h p q = cc

-- What holds of Done and of Bad holds of an answer that is one of these.
of_done_or_bad : (P : DriverAnswer → Type 0) (answer : DriverAnswer) → is_done_or_bad answer ≡ true → P Done → P Bad → P answer
of_done_or_bad P Done h p q = p
of_done_or_bad P Bad h p q = q
of_done_or_bad P _ h p q = cc

-- What holds of each Fail and of each Result holds of an answer that is one of these.
of_executed : (P : DriverAnswer → Type 0) (answer : DriverAnswer) → is_executed answer ≡ true → ((text : List ℕ) → P (Fail text)) → ((last affected : ℤ) → P (Result last affected)) → P answer
of_executed P (Fail text) h p q = p text
of_executed P (Result last affected) h p q = q last affected
of_executed P _ h p q = cc

-- An answer that passes the test, with a session that stays, is lawful if each answer that passes is.
stays-IsLawful : (test : DriverAnswer → Bool) (call : DriverCall) (answered : Answered) (before after : SessionState) → Stays test answered before after → IsLawful call answered.answer before before → IsLawful call answered.answer before after
stays-IsLawful test call answered before after h law = rw h.stays law

-- An answer and a session that are kept are lawful if those that are to be kept are.
keeps-IsLawful : (call : DriverCall) (kept : Kept) (answered : Answered) (before after : SessionState) → Keeps kept answered after → IsLawful call kept.1 before kept.0 → IsLawful call answered.answer before after
keeps-IsLawful call kept answered before after h law = rw (h.copies, h.changed) law

exec-fits : (i : Input) (params : List Param) (last affected : ℤ) → fits_of (Exec i params) (Result last affected) ≡ true
exec-fits (input.Text text) params last affected = refl
exec-fits (input.Handle handle) params last affected = refl

-- A call that is served is answered lawfully.
pub Serves-IsLawful : (call : DriverCall) (answered : Answered) (before after : SessionState) → IsSound before → Serves call answered before after → IsLawful call answered.answer before after
Serves-IsLawful Connect answered before after sound h =
    stays-IsLawful is_done Connect answered before after h
    (of_done (λ a. IsLawful Connect a before before) answered.answer h.twice.passes (record { fits = refl; answered = refl; handles = refl; cursors = refl }))
Serves-IsLawful Valid answered before after sound h =
    stays-IsLawful is_done Valid answered before after h
    (of_done (λ a. IsLawful Valid a before before) answered.answer h.twice.passes (record { fits = refl; answered = refl; handles = refl; cursors = refl }))
Serves-IsLawful Ping answered before after sound h =
    stays-IsLawful is_done Ping answered before after h
    (of_done (λ a. IsLawful Ping a before before) answered.answer h.twice.passes (record { fits = refl; answered = refl; handles = refl; cursors = refl }))
Serves-IsLawful (Prepare text) answered before after sound h = elim h [
  | inl failed ↦
      stays-IsLawful is_fail (Prepare text) answered before after failed
      (of_fail (λ a. IsLawful (Prepare text) a before before) answered.answer failed.twice.passes (λ t. record { fits = refl; answered = refl; handles = refl; cursors = refl }))
  | inr made ↦
      keeps-IsLawful (Prepare text) (handle_given before text made.0 numbers_spent) answered before after made.1 (prepared-IsLawful text made.0 _ before sound)
]
Serves-IsLawful (Query i params) answered before after sound h = elim h [
  | inl failed ↦
      stays-IsLawful is_fail (Query i params) answered before after failed
      (of_fail (λ a. IsLawful (Query i params) a before before) answered.answer failed.twice.passes (λ t. record { fits = refl; answered = refl; handles = refl; cursors = refl }))
  | inr made ↦
      keeps-IsLawful (Query i params) (opened before made.0 numbers_spent) answered before after made.1 (opened-IsLawful i params made.0 _ before sound)
]
Serves-IsLawful (CloseStmt handle) answered before after sound h =
    keeps-IsLawful (CloseStmt handle) (closed before handle no_such_handle) answered before after h (closed-IsLawful handle _ before)
Serves-IsLawful (Next rows) answered before after sound h =
    keeps-IsLawful (Next rows) (next_taken before rows no_such_cursor) answered before after h (next_taken-IsLawful rows _ before sound)
Serves-IsLawful (CloseRows rows) answered before after sound h =
    keeps-IsLawful (CloseRows rows) (rows_closed before rows no_such_cursor) answered before after h (rows_closed-IsLawful rows _ before)
Serves-IsLawful (Exec i params) answered before after sound h =
    stays-IsLawful is_executed (Exec i params) answered before after h
    (of_executed (λ a. IsLawful (Exec i params) a before before) answered.answer h.twice.passes
    (λ t. record { fits = refl; answered = refl; handles = refl; cursors = refl })
    (λ last affected. record { fits = exec-fits i params last affected; answered = refl; handles = refl; cursors = refl }))
Serves-IsLawful Reset answered before after sound h =
    stays-IsLawful is_done_or_bad Reset answered before after h
    (of_done_or_bad (λ a. IsLawful Reset a before before) answered.answer h.twice.passes
    (record { fits = refl; answered = refl; handles = refl; cursors = refl })
    (record { fits = refl; answered = refl; handles = refl; cursors = refl }))
Serves-IsLawful Shut answered before after sound h =
    stays-IsLawful is_done_or_bad Shut answered before after h
    (of_done_or_bad (λ a. IsLawful Shut a before before) answered.answer h.twice.passes
    (record { fits = refl; answered = refl; handles = refl; cursors = refl })
    (record { fits = refl; answered = refl; handles = refl; cursors = refl }))
Serves-IsLawful call answered before after sound h =
    stays-IsLawful is_done_or_fail call answered before after h
    (of_done_or_fail (λ a. IsLawful call a before before) answered.answer h.twice.passes
    (λ t. record { fits = refl; answered = refl; handles = refl; cursors = refl })
    (record { fits = refl; answered = refl; handles = refl; cursors = refl }))

-- A fault that fits the call is a lawful answer to it.
fault-IsLawful : (call : DriverCall) (what : Planned) (answered : Answered) (before after : SessionState) → fits_of call (answer_planned what) ≡ true → answered ≡ copies_of (answer_planned what) → after ≡ before → IsLawful call answered.answer before after
fault-IsLawful call what answered before after fits is stays =
    rw (is, stays) (record {
      fits = fits;
      answered = fault-answered what;
      handles = fault-handles call what _;
      cursors = fault-cursors call what _;
    })

-- A call is answered lawfully by the fault that was planned for it, or otherwise as it is served.
pub ServesUnless-IsLawful : (call : DriverCall) (what : Option Planned) (answered : Answered) (before after : SessionState) → IsSound before → ServesUnless (option_and_then (fault_for call) what) call answered before after → IsLawful call answered.answer before after
ServesUnless-IsLawful call None answered before after sound h = Serves-IsLawful call answered before after sound h
ServesUnless-IsLawful call (Some what) answered before after sound h = step (fits_of call (answer_planned what)) refl h where
  step : (b : Bool) → fits_of call (answer_planned what) ≡ b → ServesUnless (cond b (Some (answer_planned what)) None) call answered before after → IsLawful call answered.answer before after
  step true fits k = fault-IsLawful call what answered before after fits k.0 k.1
  step false other k = Serves-IsLawful call answered before after sound k

keeps-copied : (kept : Kept) (answered : Answered) (after : SessionState) → Keeps kept answered after → answered.copy ≡ answered.answer
keeps-copied kept answered after h = rw h.copies refl

-- Both copies of the answer to a call that is served are equal.
Serves-copied : (call : DriverCall) (answered : Answered) (before after : SessionState) → Serves call answered before after → answered.copy ≡ answered.answer
Serves-copied (CloseStmt handle) answered before after h = keeps-copied _ answered after h
Serves-copied (Next rows) answered before after h = keeps-copied _ answered after h
Serves-copied (CloseRows rows) answered before after h = keeps-copied _ answered after h
Serves-copied (Prepare text) answered before after h = elim h [ inl failed ↦ failed.twice.copied | inr made ↦ keeps-copied _ answered after made.1 ]
Serves-copied (Query i params) answered before after h = elim h [ inl failed ↦ failed.twice.copied | inr made ↦ keeps-copied _ answered after made.1 ]
Serves-copied _ answered before after h = h.twice.copied

pub ServesUnless-copied : (fault : Option DriverAnswer) (call : DriverCall) (answered : Answered) (before after : SessionState) → ServesUnless fault call answered before after → answered.copy ≡ answered.answer
ServesUnless-copied None call answered before after h = Serves-copied call answered before after h
ServesUnless-copied (Some fault) call answered before after h = rw h.0 refl
