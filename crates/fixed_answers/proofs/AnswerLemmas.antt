-- How calls are answered: each answer fits its call, and the session changes as it says. The argument goes through the
-- kinds of calls.
use Rattle.std.proofs.Common.{ℕ, List, length, nat_lt, refl, inl}
use Rattle.std.proofs.lemmas.Bool.{cond_both}
use Rattle.dsql_driver.specs.declared.call.DriverCall.{DriverCall}
use Rattle.dsql_driver.specs.declared.call.DriverCall.TheVariants.{CloseStmt, Exec, Query, Next, CloseRows}
use Rattle.dsql_driver.specs.declared.call.Input.TheVariants.{Text, Handle}
use Rattle.dsql_driver.specs.declared.wire.Answered.{Answered}
use Rattle.dsql_value.specs.declared.value.Param.{Param}
use Rattle.dsql_driver_session.specs.Calls.{Kept, Keeps}
use Rattle.dsql_driver_session.specs.Session.{SessionState, IsSound}
use Rattle.dsql_driver_session.proofs.LawfulLemmas.{IsLawful, opened-IsLawful, next_taken-IsLawful, rows_closed-IsLawful}
use Rattle.fixed_answers.specs.Answers.{effect, queried}
use Rattle.fixed_answers.specs.Table.{table}

queried-IsLawful : (session : SessionState) (text : List ℕ) (params : List Param) → IsSound session → IsLawful (Query (Text text) params) (queried session params).1 session (queried session params).0
queried-IsLawful session text params sound =
    cond_both (nat_lt 0 (length params)) _ _ (λ (kept : Kept). IsLawful (Query (Text text) params) kept.1 session kept.0)
    (λ _. record { fits = refl; answered = refl; handles = refl; cursors = refl })
    (λ _. opened-IsLawful (Text text) params table _ session sound)

effect-IsLawful : (session : SessionState) (call : DriverCall) → IsSound session → IsLawful call (effect session call).1 session (effect session call).0
effect-IsLawful session (CloseStmt handle) sound = record { fits = refl; answered = refl; handles = inl refl; cursors = refl }
effect-IsLawful session (Exec (Text text) params) sound = record { fits = refl; answered = refl; handles = refl; cursors = refl }
effect-IsLawful session (Exec (Handle handle) params) sound = record { fits = refl; answered = refl; handles = refl; cursors = refl }
effect-IsLawful session (Query (Text text) params) sound = queried-IsLawful session text params sound
effect-IsLawful session (Query (Handle handle) params) sound = record { fits = refl; answered = refl; handles = refl; cursors = refl }
effect-IsLawful session (Next rows) sound = next_taken-IsLawful rows _ session sound
effect-IsLawful session (CloseRows rows) sound = rows_closed-IsLawful rows _ session
effect-IsLawful session _ sound = record { fits = refl; answered = refl; handles = refl; cursors = refl }

-- So is a call that is answered as `effect` says.
pub kept-IsLawful : (call : DriverCall) (answered : Answered) (before after : SessionState) → IsSound before → Keeps (effect before call) answered after → IsLawful call answered.answer before after
kept-IsLawful call answered before after sound h = rw (h.copies, h.changed) (effect-IsLawful before call sound)
