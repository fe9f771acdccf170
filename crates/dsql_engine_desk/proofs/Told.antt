-- What the row of a call without a reply says of the call, and where the call waits.
use Rattle.std.proofs.Common.{◌≡◌, ◌==◌, ℕ, Bool, true, false, not, ◌||◌, ◌&&◌, cond, List, ◌∷◌, refl, sym, ap, ◌∙◌, Option, None, Some, is_none, is_some}
use Rattle.dsql_laws_calls.specs.course.Made.{or_else}
use Rattle.dsql_laws_calls.specs.driver.declared.caps.Caps.{Caps}
use Rattle.dsql_laws_calls.specs.wait.Requests.{waits}
use Rattle.dsql_laws_calls.specs.pool.Places.{is_for}
use Rattle.dsql_laws_calls.specs.history.declared.record.Stand.TheVariants.{Waits, Sends, Replies, Asks}
use Rattle.dsql_laws_calls.specs.history.declared.record.Try.{Try}
use Rattle.dsql_laws_calls.specs.history.declared.record.Try.TheVariants.{Served}
use Rattle.dsql_laws_calls.specs.history.declared.reply.DbEnd.{DbEnd}
use Rattle.dsql_laws_calls.specs.history.Readers.Pool.{smallest, pool}
use Rattle.dsql_laws_calls.specs.history.Readers.Tries.{asks_again, asks_last, has_a_try, tries}
use Rattle.dsql_laws_calls.specs.history.Rules.Stands.{stands, opens, is_waiting, stand, has_to_reply, is_own_step}
use Rattle.dsql_engine_calls.specs.declared.tried.Tried.{Tried}
use Rattle.dsql_engine_calls.specs.Tried.{kept, has_another, next_is_last}
use Rattle.dsql_engine_calls.specs.Tried as of_row
use Rattle.dsql_engine_calls.proofs.KeptTries.{kept_another, kept_again, kept_last, kept_told}
use Rattle.dsql_laws_calls.specs.history.declared.event.Event.{Event}
use Rattle.dsql_laws_calls.specs.history.declared.reply.Reply.{Reply}
use Rattle.dsql_laws_calls.specs.history.declared.reply.Reply.TheVariants.{Ok}
use Rattle.dsql_laws_calls.specs.history.declared.work.Work.{Work}
use Rattle.dsql_laws_calls.specs.history.declared.work.Work.TheVariants.{Ping}
use Rattle.dsql_laws_calls.specs.history.Readers.Calls.{asks_nothing, rests, site, told_as_lent, told_at_lending, told_by_tries}
use Rattle.dsql_laws_calls.specs.history.Readers.Course.{caps}
use Rattle.dsql_laws_calls.specs.history.Readers.Unfinished.{is_unfinished}
use Rattle.dsql_laws_calls.specs.history.Readers.Works.{work}
use Rattle.dsql_laws_calls.specs.history.Rules.Line.{due_for}
use Rattle.dsql_laws_calls.proofs.laws.Numbered.{unfinished_from_one}
use Rattle.dsql_engine_calls.specs.Calls.{row_at}
use Rattle.dsql_engine_calls.specs.Settling.{told_served, told_trying}
use Rattle.dsql_engine_calls.proofs.Borrowers.{row_work}
use Rattle.dsql_engine_calls.proofs.Settled.{served_as}
use Rattle.dsql_engine_desk.specs.declared.desk.Desk.{Desk}
use Rattle.dsql_engine_desk.specs.Desk.{past, Stands}
use Rattle.dsql_engine_desk.proofs.OwnStep.{own_step_is}

pub told_kept : (d : Desk) (n : ℕ) → Stands d → is_unfinished (past d) n ≡ true → told_trying d.closed_by (row_at d.calls.items n).work (row_at d.calls.items n).tried ≡ told_by_tries (past d) (work (past d) n) (tries (past d) n)
unfolding Stands
told_kept d n s under_way =
    ap (λ (w : Work). told_trying d.closed_by w (row_at d.calls.items n).tried) (row_work (past d) d.calls.items n s.tables.calls)
    ∙ (ap (λ (tried : Tried). told_trying d.closed_by (work (past d) n) tried) (s.tables.calls.tried n under_way)
    ∙ (ap (λ (end : Option DbEnd). told_trying end (work (past d) n) (kept (tries (past d) n))) s.closed_by ∙ kept_told (past d) (work (past d) n) (tries (past d) n)))

pub another_kept : (d : Desk) (n : ℕ) → Stands d → is_unfinished (past d) n ≡ true → has_another (row_at d.calls.items n).tried ≡ has_a_try (tries (past d) n)
unfolding Stands
another_kept d n s under_way = ap has_another (s.tables.calls.tried n under_way) ∙ kept_another (tries (past d) n)

pub again_kept : (d : Desk) (n : ℕ) → Stands d → is_unfinished (past d) n ≡ true → of_row.asks_again (row_at d.calls.items n).tried ≡ asks_again (tries (past d) n)
unfolding Stands
again_kept d n s under_way = ap of_row.asks_again (s.tables.calls.tried n under_way) ∙ kept_again (tries (past d) n)

pub last_kept : (d : Desk) (n : ℕ) → Stands d → is_unfinished (past d) n ≡ true → next_is_last (row_at d.calls.items n).tried ≡ asks_last (tries (past d) n)
unfolding Stands
last_kept d n s under_way = ap next_is_last (s.tables.calls.tried n under_way) ∙ kept_last (tries (past d) n)

pub lent_kept : (d : Desk) (n : ℕ) → Stands d → is_unfinished (past d) n ≡ true → told_served d.caps.pinger (row_at d.calls.items n).work (row_at d.calls.items n).tried.newest ≡ told_at_lending (past d) n
unfolding Stands
lent_kept d n s under_way =
    let row = row_at d.calls.items n in
    ap (λ (can : Caps). told_served can.pinger row.work row.tried.newest) s.tables.caps
    ∙ ap (λ (w : Work). told_served (caps (past d)).pinger w row.tried.newest) (row_work (past d) d.calls.items n s.tables.calls)
    ∙ ap (λ (tried : Tried). told_served (caps (past d)).pinger (work (past d) n) tried.newest) (s.tables.calls.tried n under_way)
    ∙ served_as (caps (past d)) (work (past d) n) (tries (past d) n)

no_more : (b : Bool) → false ≡ b && false
no_more true = refl
no_more false = refl

-- A ping rests with its connection if the lending settles its reply and the driver can't test a connection.
idle_as : (can : Caps) (it : Work) (ts : List Try) → asks_nothing can it ts ≡ not can.validator && is_some (told_as_lent can it ts)
idle_as can Ping (Served ∷ earlier) = by can.pinger can.validator
  where
    by : (p v : Bool) → not (p || v) ≡ not v && is_some (cond p None (Some Ok))
    by true v = no_more (not v)
    by false true = refl
    by false false = refl
idle_as can _ _ = no_more (not can.validator)

pub rests_kept : (d : Desk) (n : ℕ) → Stands d → is_unfinished (past d) n ≡ true → rests (past d) n ≡ not d.caps.validator && is_some (told_at_lending (past d) n)
unfolding Stands
rests_kept d n s under_way =
    ap (λ b. b && asks_nothing (caps (past d)) (work (past d) n) (tries (past d) n)) under_way
    ∙ idle_as (caps (past d)) (work (past d) n) (tries (past d) n)
    ∙ ap (λ (can : Caps). not can.validator && is_some (told_at_lending (past d) n)) (sym s.tables.caps)

-- An unfinished call is in its own step exactly if the desk records it as the call of the step.
pub step_kept : (d : Desk) (n : ℕ) → Stands d → is_unfinished (past d) n ≡ true → is_own_step (past d) n ≡ (d.step == n)
unfolding Stands
step_kept d n s under_way =
    own_step_is (past d) n (unfinished_from_one (past d) n s.tables.lawful under_way) ∙ ap (λ m. m == n) (sym s.tables.step)

pub either_some : (a b : Option Reply) → is_some (or_else a b) ≡ is_some a || is_some b
either_some None b = refl
either_some (Some reply) b = refl

-- A value is `None` exactly if it isn't `Some`, for rows that weren't made and replies that aren't settled.
pub none_or_some : {A : Type 0} (told : Option A) → is_none told ≡ not (is_some told)
none_or_some None = refl
none_or_some (Some it) = refl

waits_or : (b d r a : Bool) (o : Option ℕ) (c : ℕ) → is_waiting (or_else (stands b Waits) (or_else (opens o) (or_else (stands d (Sends c)) (or_else (stands r Replies) (stands a Asks))))) ≡ b
waits_or true d r a o c = refl
waits_or false d r a (Some k) c = refl
waits_or false true r a None c = refl
waits_or false false true a None c = refl
waits_or false false false true None c = refl
waits_or false false false false None c = refl

pub waiting_only : (H : List Event) (n : ℕ) → is_waiting (stand H n) ≡ waits n (pool H).waiting
waiting_only H n =
    waits_or (waits n (pool H).waiting) (is_some (due_for H n)) (has_to_reply H n) (asks_again (tries H n)) (smallest (is_for n) (pool H)) (site H n)
