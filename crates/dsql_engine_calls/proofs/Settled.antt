-- The row of a call gives the reply that is due.
use Rattle.std.proofs.Common.{◌≡◌, ℕ, Bool, true, false, cond, List, ◌∷◌, Option, Some, None, refl, ap, ◌∙◌}
use Rattle.std.specs.Prelude.{is_some, slice_index_or}
use Rattle.dsql_history.specs.driver.declared.caps.Caps.{Caps}
use Rattle.dsql_history.specs.course.Made.{or_else}
use Rattle.dsql_history.specs.declared.record.Try.{Try}
use Rattle.dsql_history.specs.declared.record.Try.TheVariants.{Served}
use Rattle.dsql_history.specs.declared.reply.DbEnd.{DbEnd}
use Rattle.dsql_engine_calls.specs.declared.tried.Tried.{Tried}
use Rattle.dsql_engine_calls.specs.Tried.{kept}
use Rattle.dsql_history.specs.tx.declared.end.TxEnd.{TxEnd}
use Rattle.dsql_history.specs.declared.event.Event.{Event}
use Rattle.dsql_history.specs.declared.record.CallRecord.{CallRecord}
use Rattle.dsql_history.specs.declared.reply.Reply.{Reply}
use Rattle.dsql_history.specs.declared.reply.Reply.TheVariants.{Truth}
use Rattle.dsql_history.specs.declared.work.Scope.{Scope}
use Rattle.dsql_history.specs.declared.work.Scope.TheVariants.{Db, Held}
use Rattle.dsql_history.specs.declared.work.Work.{Work}
use Rattle.dsql_history.specs.declared.work.Work.TheVariants.{Statement, Begin, Ping, Fetch}
use Rattle.dsql_history.specs.Readers.Calls.{call_record, decided, done_with, has_begun_to_send, reply_due, told_as_lent, told_by_tries, told_of_work}
use Rattle.dsql_history.specs.Readers.Calls as readers
use Rattle.dsql_history.specs.Readers.Course.{caps, db_end}
use Rattle.dsql_history.specs.Readers.HandedOut.{are_over}
use Rattle.dsql_history.specs.Readers.Transactions.{tx_end}
use Rattle.dsql_history.specs.Readers.Tries.{tries}
use Rattle.dsql_history.specs.Readers.Unfinished.{is_unfinished}
use Rattle.dsql_history.specs.Readers.Works.{scope, work}
use Rattle.dsql_engine_calls.specs.declared.call.CallRow.{CallRow}
use Rattle.dsql_engine_calls.specs.Calls.{KeepsCalls, row_at}
use Rattle.dsql_engine_calls.specs.Settling.{ended_before, ended_in, settled_in, told_beside, told_by_tries_or_end, told_served}
use Rattle.dsql_engine_calls.proofs.Borrowers.{row_work}
use Rattle.dsql_engine_calls.proofs.CallRows.{call_at}
use Rattle.dsql_engine_calls.proofs.KeptTries.{kept_told}

pub row_call : (H : List Event) (rows : List CallRow) (n : ℕ) → KeepsCalls H rows → (row_at rows n).call ≡ call_record H n
row_call H rows n k = call_at rows n ∙ ap (λ cs. slice_index_or cs n readers.nobody) k.calls

-- The newest try gives the reply that a lending settles.
pub served_as : (can : Caps) (it : Work) (ts : List Try) → told_served can.pinger it (kept ts).newest ≡ told_as_lent can it ts
served_as can Ping (Served ∷ earlier) = refl
served_as can _ _ = refl

unsent : (sent : Bool) (end : Option TxEnd) → done_with (cond sent None end) ≡ cond sent None (done_with end)
unsent true end = refl
unsent false end = refl

-- The row gives the reply on the database and in a transaction.
in_as : (H : List Event) (n : ℕ) (w : Work) (it : Scope) → told_by_tries_or_end (db_end H) (ended_in H n it) w (kept (tries H n)) it ≡ readers.told_by_scope H n w it
in_as H n w Db = kept_told H w (tries H n)
in_as H n w (Held k) = unsent (has_begun_to_send H n) (tx_end H k)

beside_as : (H : List Event) (n : ℕ) (w : Work) → is_some (or_else (told_of_work H n w) (told_as_lent (caps H) w (tries H n))) ≡ true
    → or_else (told_beside (db_end H) (ended_in H n (scope w)) w (kept (tries H n))) (told_served (caps H).pinger w (kept (tries H n)).newest) ≡ or_else (told_of_work H n w) (told_as_lent (caps H) w (tries H n))
beside_as H n (Fetch k) told =
    elim (are_over H k) as (λ b. is_some (or_else (cond b (Some (Truth false)) None) None) ≡ true → Some (Truth false) ≡ or_else (cond b (Some (Truth false)) None) None) [ true ↦ λ h. refl | false ↦ λ h. absurd cc ] told
beside_as H n (Statement it task) told = ap (λ (reply : Option Reply). or_else reply None) (in_as H n (Statement it task) it)
beside_as H n (Begin label level read_only) told = ap (λ (reply : Option Reply). or_else reply None) (in_as H n (Begin label level read_only) Db)
beside_as H n Ping told =
    ap (λ (reply : Option Reply). or_else reply (told_served (caps H).pinger Ping (kept (tries H n)).newest)) (in_as H n Ping Db) ∙ ap (or_else (told_by_tries H Ping (tries H n))) (served_as (caps H) Ping (tries H n))
beside_as H n _ told = refl

due_as : (H : List Event) (n : ℕ) (d : Option Reply) (w : Work) → is_some (or_else (or_else d (told_of_work H n w)) (told_as_lent (caps H) w (tries H n))) ≡ true
    → or_else (or_else d (told_beside (db_end H) (ended_in H n (scope w)) w (kept (tries H n)))) (told_served (caps H).pinger w (kept (tries H n)).newest) ≡ or_else (or_else d (told_of_work H n w)) (told_as_lent (caps H) w (tries H n))
due_as H n None w told = beside_as H n w told
due_as H n (Some reply) w told = refl

pub settled_as : (H : List Event) (n : ℕ) (closed : Option DbEnd) (ended : Option TxEnd) (can : Caps) (rows : List CallRow) → KeepsCalls H rows → closed ≡ db_end H → ended ≡ ended_before H n → can ≡ caps H → is_unfinished H n ≡ true
    → is_some (reply_due H n) ≡ true → settled_in closed ended can.pinger (row_at rows n) ≡ reply_due H n
settled_as H n closed ended can rows k shut over able left told =
    let row = row_at rows n in
    let as_kept : Option DbEnd → Option TxEnd → Bool → Option Reply → Work → Tried → Option Reply = λ closed ended pinger told w tried. or_else (or_else told (told_beside closed ended w tried)) (told_served pinger w tried.newest) in
    ap (λ (end : Option DbEnd). as_kept end ended can.pinger row.call.decided row.work row.tried) shut
    ∙ (ap (λ (end : Option TxEnd). as_kept (db_end H) end can.pinger row.call.decided row.work row.tried) over
    ∙ (ap (λ (c : Caps). as_kept (db_end H) (ended_before H n) c.pinger row.call.decided row.work row.tried) able
    ∙ (ap (λ (r : CallRecord). as_kept (db_end H) (ended_before H n) (caps H).pinger r.decided row.work row.tried) (row_call H rows n k)
    ∙ (ap (λ (w : Work). as_kept (db_end H) (ended_before H n) (caps H).pinger (decided H n) w row.tried) (row_work H rows n k)
    ∙ (ap (λ (t : Tried). as_kept (db_end H) (ended_before H n) (caps H).pinger (decided H n) (work H n) t) (k.tried n left) ∙ due_as H n (decided H n) (work H n) told)))))
