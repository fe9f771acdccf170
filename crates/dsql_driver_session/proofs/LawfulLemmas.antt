-- A call that concerns a session alone is answered lawfully. The answer fits the call, and the session has the handles
-- and the cursors that the answer says. The argument is by whether the call is refused.
use Rattle.std.proofs.Common.{◌≡◌, ◌⊎◌, ℕ, List, true, false, not, Option, Some, None, eqb, nat_lt, ap, refl, inl, inr}
use Rattle.std.specs.Option.{option_map_or}
use Rattle.std.proofs.lemmas.Bool.{cond_both}
use Rattle.dsql_driver.specs.Fits.{fits_of, is_memory}
use Rattle.dsql_driver.specs.Wires.{LiveCursor, KeepsHandles, KeepsCursors}
use Rattle.dsql_driver.specs.declared.answer.DriverAnswer.{DriverAnswer}
use Rattle.dsql_driver.specs.declared.answer.DriverAnswer.TheVariants.{Cursor, Fail, Memory}
use Rattle.dsql_driver.specs.declared.call.DriverCall.{DriverCall}
use Rattle.dsql_driver.specs.declared.call.DriverCall.TheVariants.{Prepare, CloseStmt, Query, Next, CloseRows}
use Rattle.dsql_driver.specs.declared.call.Input.{Input}
use Rattle.dsql_driver.specs.declared.call.Input.TheVariants as input
use Rattle.dsql_value.specs.declared.value.Param.{Param}
use Rattle.dsql_value.specs.declared.value.Value.{Value}
use Rattle.dsql_driver_session.specs.Calls.{Kept, handle_given, closed, opened, given, next_taken, rows_closed}
use Rattle.dsql_driver_session.specs.Rows.{CursorState, ResultSetState, next_row}
use Rattle.dsql_driver_session.specs.Session.{SessionState, IsSound, largest_number, handles_of, cursors_of, cursor_of, is_live, is_open}
use Rattle.dsql_driver_session.proofs.NumberLemmas.{reverse-push, reverse-without}
use Rattle.dsql_driver_session.proofs.SessionLemmas.{handle_of, live_cursor, handle_is_new, cursor_is_new, cursors-advanced, next_row-width}

-- Holds if the answer fits the call and isn't Memory, and the session's handles and cursors change as the answer
-- says.
pub record IsLawful (call : DriverCall) (answer : DriverAnswer) (before after : SessionState) : Type 0 where
  pub fits : fits_of call answer ≡ true
  pub answered : is_memory answer ≡ false
  pub handles : KeepsHandles call answer (handles_of before) (handles_of after)
  pub cursors : KeepsCursors call answer (cursors_of before) (cursors_of after)

pub prepared-IsLawful : (text : List ℕ) (inputs : ℕ) (refusal : List ℕ) (session : SessionState) → IsSound session → IsLawful (Prepare text) (handle_given session text inputs (Fail refusal)).1 session (handle_given session text inputs (Fail refusal)).0
prepared-IsLawful text inputs refusal session sound =
    cond_both (nat_lt session.last_handle largest_number) _ _ (λ (kept : Kept). IsLawful (Prepare text) kept.1 session kept.0)
    (λ _. record { fits = refl; answered = refl; handles = (reverse-push handle_of session.prepared _, handle_is_new session sound); cursors = refl })
    (λ _. record { fits = refl; answered = refl; handles = refl; cursors = refl })

pub closed-IsLawful : (handle : ℕ) (refusal : List ℕ) (session : SessionState) → IsLawful (CloseStmt handle) (closed session handle (Fail refusal)).1 session (closed session handle (Fail refusal)).0
closed-IsLawful handle refusal session =
    cond_both (is_live handle session) _ _ (λ (kept : Kept). IsLawful (CloseStmt handle) kept.1 session kept.0)
    (λ _. record { fits = refl; answered = refl; handles = inr (reverse-without handle_of (λ n. not (eqb n handle)) session.prepared); cursors = refl })
    (λ _. record { fits = refl; answered = refl; handles = inl refl; cursors = refl })

query-fits : (i : Input) (params : List Param) (rows : ℕ) (columns : List (List ℕ)) → fits_of (Query i params) (Cursor rows columns) ≡ true
query-fits (input.Text text) params rows columns = refl
query-fits (input.Handle handle) params rows columns = refl

pub opened-IsLawful : (i : Input) (params : List Param) (set : ResultSetState) (refusal : List ℕ) (session : SessionState) → IsSound session → IsLawful (Query i params) (opened session set (Fail refusal)).1 session (opened session set (Fail refusal)).0
opened-IsLawful i params set refusal session sound =
    cond_both (nat_lt session.last_cursor largest_number) _ _ (λ (kept : Kept). IsLawful (Query i params) kept.1 session kept.0)
    (λ _. record { fits = query-fits i params _ _; answered = refl; handles = refl; cursors = (reverse-push live_cursor session.cursors _, cursor_is_new session sound) })
    (λ _. record { fits = refl; answered = refl; handles = refl; cursors = refl })

given-IsLawful : (rows : ℕ) (c : CursorState) (row : Option (List Value)) (session : SessionState) → next_row c ≡ row → cursor_of rows session ≡ Some c → IsSound session → IsLawful (Next rows) (given session rows row).1 session (given session rows row).0
given-IsLawful rows c None session is here sound = record { fits = refl; answered = refl; handles = refl; cursors = refl }
given-IsLawful rows c (Some row) session is here sound =
    record {
      fits = refl;
      answered = refl;
      handles = refl;
      cursors = (cursors-advanced session rows, next_row-width session rows c row here is sound);
    }

pub next_taken-IsLawful : (rows : ℕ) (refusal : List ℕ) (session : SessionState) → IsSound session → IsLawful (Next rows) (next_taken session rows (Fail refusal)).1 session (next_taken session rows (Fail refusal)).0
next_taken-IsLawful rows refusal session sound = step (cursor_of rows session) refl where
  step : (o : Option CursorState) → cursor_of rows session ≡ o → IsLawful (Next rows) (option_map_or (λ c. given session rows (next_row c)) o (session, Fail refusal)).1 session (option_map_or (λ c. given session rows (next_row c)) o (session, Fail refusal)).0
  step None here = record { fits = refl; answered = refl; handles = refl; cursors = refl }
  step (Some c) here = given-IsLawful rows c (next_row c) session refl here sound

pub rows_closed-IsLawful : (rows : ℕ) (refusal : List ℕ) (session : SessionState) → IsLawful (CloseRows rows) (rows_closed session rows (Fail refusal)).1 session (rows_closed session rows (Fail refusal)).0
rows_closed-IsLawful rows refusal session =
    cond_both (is_open rows session) _ _ (λ (kept : Kept). IsLawful (CloseRows rows) kept.1 session kept.0)
    (λ _. record { fits = refl; answered = refl; handles = refl; cursors = inr (reverse-without live_cursor (λ (c : LiveCursor). not (eqb c.0 rows)) session.cursors) })
    (λ _. record { fits = refl; answered = refl; handles = refl; cursors = inl refl })

-- An answer is Memory or another one.
memory-or_not : (answer : DriverAnswer) → (answer ≡ Memory) ⊎ (is_memory answer ≡ false)
memory-or_not Memory = inl refl
memory-or_not _ = inr refl

-- Holds if the call was answered lawfully, or Memory and the session stayed as it was.
pub record IsHeard (call : DriverCall) (answer : DriverAnswer) (before after : SessionState) : Type 0 where
  pub lawful : is_memory answer ≡ false → IsLawful call answer before after
  pub stays : is_memory answer ≡ true → after ≡ before

-- Such a call meets the clauses of wires.
pub heard-fits : (call : DriverCall) (answer : DriverAnswer) (before after : SessionState) → IsHeard call answer before after → fits_of call answer ≡ true
heard-fits call answer before after h = elim (memory-or_not answer) [
  | inl e ↦ ap (fits_of call) e
  | inr other ↦ (h.lawful other).fits
]

pub heard-handles : (call : DriverCall) (answer : DriverAnswer) (before after : SessionState) → IsHeard call answer before after → KeepsHandles call answer (handles_of before) (handles_of after)
heard-handles call answer before after h = elim (memory-or_not answer) [
  | inl e ↦ rw e (ap handles_of (h.stays (ap is_memory e)))
  | inr other ↦ (h.lawful other).handles
]

pub heard-cursors : (call : DriverCall) (answer : DriverAnswer) (before after : SessionState) → IsHeard call answer before after → KeepsCursors call answer (cursors_of before) (cursors_of after)
heard-cursors call answer before after h = elim (memory-or_not answer) [
  | inl e ↦ rw e (ap cursors_of (h.stays (ap is_memory e)))
  | inr other ↦ (h.lawful other).cursors
]
