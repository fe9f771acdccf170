-- The answers to calls. Each answer fits its call and reports the session's handles and cursors as it should.
-- The proofs go by cases on the call.
use Rattle.std.proofs.Common.{◌≡◌, ℕ, ℤ, pos, ◌+ℤ◌, ◌==◌, List, [], Bool, true, false, cond, ◌||◌, Option, Some, None, is_some, length, nat_lt, refl}
use Rattle.std.specs.Prelude.{⊤}
use Rattle.std.specs.Option.{option_map_or}
use Rattle.dsql_driver.specs.Fits.{fits_of, is_failure, is_skip}
use Rattle.dsql_driver.specs.declared.answer.DriverAnswer.{DriverAnswer}
use Rattle.dsql_driver.specs.declared.answer.DriverAnswer.TheVariants.{Result, Skip, Bad, Fail}
use Rattle.dsql_driver.specs.declared.call.DriverCall.{DriverCall}
use Rattle.dsql_driver.specs.declared.call.DriverCall.TheVariants.{Connect, Reset, Valid, Ping, Prepare, CloseStmt, Exec, Query, Next, CloseRows, Rollback, Shut}
use Rattle.dsql_driver.specs.declared.call.Input.{Input}
use Rattle.dsql_driver.specs.declared.call.Input.TheVariants as input
use Rattle.dsql_value.specs.declared.value.Param.{Param}
use Rattle.dsql_value.specs.declared.value.Value.{Value}
use Rattle.dsql_value.specs.declared.value.Value.TheVariants as value
use Rattle.dsql_driver_session.specs.Session.{SessionState, IsSound, text_of}
use Rattle.dsql_driver_session.proofs.LawfulLemmas.{IsLawful, prepared-IsLawful, closed-IsLawful, opened-IsLawful, next_taken-IsLawful, rows_closed-IsLawful}
use Rattle.dsql_mem_calls.specs.Effect.{Effect, effect, carried_out, in_undo}
use Rattle.dsql_mem_session.specs.Calls.{executed_in, executed, executed_text, executed_prepared, commanded, added, deleted, summed, number_in, prepared, found, queried, queried_text, queried_prepared, queried_in, shown}
use Rattle.dsql_mem_store.specs.Entries.{Entries, value_at}
use Rattle.dsql_mem_store.specs.declared.note.Note.{Note}
use Rattle.dsql_mem_session.specs.Filled.{key_for, value_for, left_after}
use Rattle.dsql_mem_session.specs.Number.{fits_i64}
use Rattle.dsql_mem_session.specs.Statement.{Statement, Set, Add, Del, Get, ListKeys, statement_of, inputs_of, is_query}
use Rattle.dsql_mem_session.specs.declared.execute.Outcome.{Outcome}
use Rattle.dsql_mem_session.specs.declared.execute.Outcome.TheVariants.{Write}
use Rattle.dsql_mem_session.specs.declared.execute.Outcome.TheVariants as outcome
use Rattle.dsql_mem_session.specs.declared.query.Found.{Found}
use Rattle.dsql_mem_session.specs.declared.query.Found.TheVariants.{Rows, Refused}
use Rattle.dsql_mem_session.specs.declared.session.MemSession.{MemSession}

-- If both branches have a property, the choice between them has it.
cond_both : {A : Type 0} (P : A → Type 0) (b : Bool) (x y : A) → P x → P y → P (cond b x y)
cond_both P true x y p q = p
cond_both P false x y p q = q

option_both : {A B : Type 0} (P : B → Type 0) (f : A → B) (o : Option A) (d : B) → ((a : A) → P (f a)) → P d → P (option_map_or f o d)
option_both P f None d p q = q
option_both P f (Some a) d p q = p a

-- Holds if the effect of a call is lawful for the call.
abbrev pub HasLawful : DriverCall → MemSession → Effect → Type 0
HasLawful call session after = IsLawful call after.answer session.live after.session.live

prepared_or_not-IsLawful : (session : SessionState) (text : List ℕ) (o : Option Statement) → IsSound session → IsLawful (Prepare text) (prepared session text o).1 session (prepared session text o).0
prepared_or_not-IsLawful session text None sound =
    record { fits = refl; answered = refl; handles = refl; cursors = refl }
prepared_or_not-IsLawful session text (Some s) sound = prepared-IsLawful text (inputs_of s) _ session sound

-- Is true if the answer refuses an Exec or a Query: by a failure, or by Skip if it came as a text.
abbrev is_refusal : Input → DriverAnswer → Bool
is_refusal (input.Text text) answer = is_failure answer || is_skip answer
is_refusal (input.Handle handle) answer = is_failure answer

-- Returns an Exec or a Query.
abbrev run_of : Bool → Input → List Param → DriverCall
run_of true i params = Exec i params
run_of false i params = Query i params

refused-IsLawful : (session : SessionState) (b : Bool) (i : Input) (params : List Param) (answer : DriverAnswer) → is_refusal i answer ≡ true → IsLawful (run_of b i params) answer session session
refused-IsLawful session true i params (Fail text) h = record { fits = refl; answered = refl; handles = refl; cursors = refl }
refused-IsLawful session false i params (Fail text) h = record { fits = refl; answered = refl; handles = refl; cursors = refl }
refused-IsLawful session true i params Bad h = record { fits = refl; answered = refl; handles = refl; cursors = refl }
refused-IsLawful session false i params Bad h = record { fits = refl; answered = refl; handles = refl; cursors = refl }
refused-IsLawful session true (input.Text t) params Skip h = record { fits = refl; answered = refl; handles = refl; cursors = refl }
refused-IsLawful session false (input.Text t) params Skip h = record { fits = refl; answered = refl; handles = refl; cursors = refl }
refused-IsLawful session b (input.Text t) params _ h = cc
refused-IsLawful session b (input.Handle n) params _ h = cc

abbrev OutcomeFits : Input → Outcome → Type 0
OutcomeFits i (Write key value count) = ⊤
OutcomeFits i (outcome.Refused answer) = is_refusal i answer ≡ true

fail-OutcomeFits : (i : Input) (text : List ℕ) → OutcomeFits i (outcome.Refused (Fail text))
fail-OutcomeFits (input.Text t) text = refl
fail-OutcomeFits (input.Handle h) text = refl

added-OutcomeFits : (i : Input) (store : Entries) (key : List ℕ) (v : Value) → OutcomeFits i (added store key v)
added-OutcomeFits i store key (value.Int by) =
    option_both (OutcomeFits i) (λ number. summed key (number +ℤ by)) (number_in (value_at key store)) _
    (λ number. cond_both (OutcomeFits i) (fits_i64 (number +ℤ by)) _ _ tt (fail-OutcomeFits i _)) (fail-OutcomeFits i _)
added-OutcomeFits i store key _ = fail-OutcomeFits i _

commanded-OutcomeFits : (i : Input) (store : Entries) (s : Statement) (params : List Param) → OutcomeFits i (commanded store s params)
commanded-OutcomeFits i store (Set key v) params =
    option_both (OutcomeFits i) (λ k. Write k (Some (value_for v (left_after key params))) (pos 1)) (key_for key params) _ (λ k. tt) (fail-OutcomeFits i _)
commanded-OutcomeFits i store (Add key v) params =
    option_both (OutcomeFits i) (λ k. added store k (value_for v (left_after key params))) (key_for key params) _
    (λ k. added-OutcomeFits i store k (value_for v (left_after key params))) (fail-OutcomeFits i _)
commanded-OutcomeFits i store (Del key) params =
    option_both (OutcomeFits i) (λ k. deleted store k) (key_for key params) _ (λ k. tt) (fail-OutcomeFits i _)
commanded-OutcomeFits i store _ params = fail-OutcomeFits i _

executed-OutcomeFits : (i : Input) (store : Entries) (s : Statement) (params : List Param) → OutcomeFits i (executed store s params)
executed-OutcomeFits i store s params =
    cond_both (OutcomeFits i) (is_query s) _ _ (fail-OutcomeFits i _)
    (cond_both (OutcomeFits i) (length params == inputs_of s) _ _ (commanded-OutcomeFits i store s params) (fail-OutcomeFits i _))

executed_prepared-OutcomeFits : (i : Input) (store : Entries) (o : Option Statement) (params : List Param) → OutcomeFits i (executed_prepared store o params)
executed_prepared-OutcomeFits i store None params = fail-OutcomeFits i _
executed_prepared-OutcomeFits i store (Some s) params = executed-OutcomeFits i store s params

executed_text-OutcomeFits : (text : List ℕ) (store : Entries) (o : Option Statement) → OutcomeFits (input.Text text) (executed_text store o)
executed_text-OutcomeFits text store None = refl
executed_text-OutcomeFits text store (Some s) =
    cond_both (OutcomeFits (input.Text text)) (nat_lt 0 (inputs_of s)) _ _ refl (executed-OutcomeFits (input.Text text) store s [])

executed_in-OutcomeFits : (store : Entries) (session : SessionState) (i : Input) (params : List Param) → OutcomeFits i (executed_in store session i params)
executed_in-OutcomeFits store session (input.Text text) params =
    cond_both (OutcomeFits (input.Text text)) (nat_lt 0 (length params)) _ _ refl (executed_text-OutcomeFits text store (statement_of text))
executed_in-OutcomeFits store session (input.Handle handle) params =
    option_both (OutcomeFits (input.Handle handle)) (λ text. executed_prepared store (statement_of text) params) (text_of handle session) _
    (λ text. executed_prepared-OutcomeFits (input.Handle handle) store (statement_of text) params) refl

exec-fits : (i : Input) (params : List Param) (last count : ℤ) → fits_of (Exec i params) (Result last count) ≡ true
exec-fits (input.Text t) params last count = refl
exec-fits (input.Handle h) params last count = refl

carried_out-HasLawful : (store : Entries) (session : MemSession) (i : Input) (params : List Param) (o : Outcome) → OutcomeFits i o → HasLawful (Exec i params) session (carried_out store session o)
carried_out-HasLawful store session i params (Write key value count) h =
    record { fits = exec-fits i params _ _; answered = refl; handles = refl; cursors = refl }
carried_out-HasLawful store session i params (outcome.Refused answer) h = refused-IsLawful session.live true i params answer h

abbrev FoundFits : Input → Found → Type 0
FoundFits i (Rows set) = ⊤
FoundFits i (Refused answer) = is_refusal i answer ≡ true

fail-FoundFits : (i : Input) (text : List ℕ) → FoundFits i (Refused (Fail text))
fail-FoundFits (input.Text t) text = refl
fail-FoundFits (input.Handle h) text = refl

found-FoundFits : (i : Input) (store : Entries) (s : Statement) (params : List Param) → FoundFits i (found store s params)
found-FoundFits i store (Get key) params =
    option_both (FoundFits i) _ (key_for key params) _ (λ k. tt) (fail-FoundFits i _)
found-FoundFits i store (ListKeys prefix) params =
    option_both (FoundFits i) _ (key_for prefix params) _ (λ k. tt) (fail-FoundFits i _)
found-FoundFits i store _ params = fail-FoundFits i _

queried-FoundFits : (i : Input) (store : Entries) (s : Statement) (params : List Param) → FoundFits i (queried store s params)
queried-FoundFits i store s params =
    cond_both (FoundFits i) (is_query s) _ _
    (cond_both (FoundFits i) (length params == inputs_of s) _ _ (found-FoundFits i store s params) (fail-FoundFits i _))
    (fail-FoundFits i _)

queried_prepared-FoundFits : (i : Input) (store : Entries) (o : Option Statement) (params : List Param) → FoundFits i (queried_prepared store o params)
queried_prepared-FoundFits i store None params = fail-FoundFits i _
queried_prepared-FoundFits i store (Some s) params = queried-FoundFits i store s params

queried_text-FoundFits : (text : List ℕ) (store : Entries) (o : Option Statement) → FoundFits (input.Text text) (queried_text store o)
queried_text-FoundFits text store None = refl
queried_text-FoundFits text store (Some s) =
    cond_both (FoundFits (input.Text text)) (nat_lt 0 (inputs_of s)) _ _ refl (queried-FoundFits (input.Text text) store s [])

queried_in-FoundFits : (store : Entries) (session : SessionState) (i : Input) (params : List Param) → FoundFits i (queried_in store session i params)
queried_in-FoundFits store session (input.Text text) params =
    cond_both (FoundFits (input.Text text)) (nat_lt 0 (length params)) _ _ refl (queried_text-FoundFits text store (statement_of text))
queried_in-FoundFits store session (input.Handle handle) params =
    option_both (FoundFits (input.Handle handle)) (λ text. queried_prepared store (statement_of text) params) (text_of handle session) _
    (λ text. queried_prepared-FoundFits (input.Handle handle) store (statement_of text) params) refl

shown-IsLawful : (session : SessionState) (i : Input) (params : List Param) (f : Found) → FoundFits i f → IsSound session → IsLawful (Query i params) (shown session f).1 session (shown session f).0
shown-IsLawful session i params (Rows set) h sound = opened-IsLawful i params set _ session sound
shown-IsLawful session i params (Refused answer) h sound = refused-IsLawful session false i params answer h

pub effect-IsLawful : (store : Entries) (session : MemSession) (call : DriverCall) → IsSound session.live → HasLawful call session (effect store session call)
effect-IsLawful store session Connect sound = record { fits = refl; answered = refl; handles = refl; cursors = refl }
effect-IsLawful store session Valid sound = record { fits = refl; answered = refl; handles = refl; cursors = refl }
effect-IsLawful store session Ping sound = record { fits = refl; answered = refl; handles = refl; cursors = refl }
effect-IsLawful store session Reset sound = record { fits = refl; answered = refl; handles = refl; cursors = refl }
effect-IsLawful store session Shut sound = record { fits = refl; answered = refl; handles = refl; cursors = refl }
effect-IsLawful store session (Prepare text) sound = prepared_or_not-IsLawful session.live text (statement_of text) sound
effect-IsLawful store session (CloseStmt handle) sound = closed-IsLawful handle _ session.live
effect-IsLawful store session (Exec i params) sound =
    carried_out-HasLawful store session i params (executed_in store session.live i params) (executed_in-OutcomeFits store session.live i params)
effect-IsLawful store session (Query i params) sound =
    shown-IsLawful session.live i params (queried_in store session.live i params) (queried_in-FoundFits store session.live i params) sound
effect-IsLawful store session (Next rows) sound = next_taken-IsLawful rows _ session.live sound
effect-IsLawful store session (CloseRows rows) sound = rows_closed-IsLawful rows _ session.live
effect-IsLawful store session Rollback sound =
    cond_both (HasLawful Rollback session) (is_some session.undo) _ _
    (record { fits = refl; answered = refl; handles = refl; cursors = refl })
    (record { fits = refl; answered = refl; handles = refl; cursors = refl })
effect-IsLawful store session x sound =
    cond_both (λ (kept : Option (List Note) × DriverAnswer). HasLawful x session (in_undo store session kept)) (is_some session.undo) _ _
    (record { fits = refl; answered = refl; handles = refl; cursors = refl })
    (record { fits = refl; answered = refl; handles = refl; cursors = refl })
