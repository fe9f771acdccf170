-- What others have settled for a call, by what it works on.
use Rattle.std.proofs.Common.{◌≡◌, ℕ, Bool, true, false, not, ◌&&◌, ◌||◌, cond, List, Option, Some, None, is_some, refl, ap, ◌∙◌}
use Rattle.dsql_laws_calls.specs.tx.declared.end.TxEnd.{TxEnd}
use Rattle.dsql_laws_calls.specs.history.declared.event.Event.{Event}
use Rattle.dsql_laws_calls.specs.history.declared.reply.Reply.{Reply}
use Rattle.dsql_laws_calls.specs.history.declared.reply.Reply.TheVariants.{Truth}
use Rattle.dsql_laws_calls.specs.history.declared.work.Scope.{Scope}
use Rattle.dsql_laws_calls.specs.history.declared.work.Scope.TheVariants.{Db, Held}
use Rattle.dsql_laws_calls.specs.history.declared.work.Work.{Work}
use Rattle.dsql_laws_calls.specs.history.declared.work.Work.TheVariants.{Statement, Begin, End, Ping, Fetch, Close, Look}
use Rattle.dsql_laws_calls.specs.history.Readers.Calls.{done_with, has_begun_to_send, told_by_tries, told_of_work}
use Rattle.dsql_laws_calls.specs.history.Readers.HandedOut.{are_over, is_late}
use Rattle.dsql_laws_calls.specs.history.Readers.Transactions.{tx_end}
use Rattle.dsql_laws_calls.specs.history.Readers.Tries.{tries}
use Rattle.dsql_laws_calls.specs.history.Readers.Works.{asks, is_fetch, scope, work}
use Rattle.dsql_engine_calls.specs.Calls.{rows_worked}
use Rattle.dsql_engine_calls.specs.Settling.{ended_before, ended_in}
use Rattle.dsql_engine_lines.specs.Inside.{is_inside, work_inside, works_inside}

cond_some : (b : Bool) (reply : Reply) → is_some (cond b (Some reply) None) ≡ b
cond_some true reply = refl
cond_some false reply = refl

-- Calls over rows.

pub told_over : (H : List Event) (n k : ℕ) (w : Work) → rows_worked w ≡ Some k → is_some (told_of_work H n w) ≡ (not (is_fetch w) || are_over H k)
told_over H n k (Fetch q) is = let same : q ≡ k = cc in cond_some (are_over H q) (Truth false) ∙ ap (are_over H) same
told_over H n k (Close q) is = refl
told_over H n k w is = absurd cc

-- Calls on the database.

pub told_on_db : (H : List Event) (n : ℕ) (w : Work) → rows_worked w ≡ None → scope w ≡ Db → is_some (told_of_work H n w) ≡ (asks w && is_some (told_by_tries H w (tries H n)))
told_on_db H n (Statement Db task) rows db = refl
told_on_db H n (Begin label level read_only) rows db = refl
told_on_db H n (End k) rows db = refl
told_on_db H n Ping rows db = refl
told_on_db H n Look rows db = refl
told_on_db H n w rows db = absurd cc

-- Calls in a transaction, whose replies its end settles.

done_some : (b : Bool) (end : Option TxEnd) → is_some (cond b None (done_with end)) ≡ is_some (cond b None end)
done_some true end = refl
done_some false None = refl
done_some false (Some end) = refl

told_in_tx : (H : List Event) (n k : ℕ) (w : Work) → scope w ≡ Held k → is_some (told_of_work H n w) ≡ is_some (ended_in H n (scope w))
told_in_tx H n k (Statement (Held j) task) is = done_some (has_begun_to_send H n) (tx_end H j)
told_in_tx H n k w is = absurd cc

pub told_inside : (H : List Event) (n k : ℕ) → scope (work H n) ≡ Held k → is_some (told_of_work H n (work H n)) ≡ is_some (ended_before H n)
told_inside H n k is = told_in_tx H n k (work H n) is

-- A call with a transaction as its scope, or over rows of a transaction that has ended, works in a transaction.

in_scope : (H : List Event) (k : ℕ) (w : Work) → scope w ≡ Held k → work_inside H w ≡ true
in_scope H k (Statement (Held j) task) is = refl
in_scope H k w is = absurd cc

pub scope_inside : (H : List Event) (n k : ℕ) → scope (work H n) ≡ Held k → works_inside H n ≡ true
scope_inside H n k is = in_scope H k (work H n) is

late_scope : (H : List Event) (it : Scope) → is_late H it ≡ true → is_inside it ≡ true
late_scope H Db late = absurd cc
late_scope H (Held k) late = refl

late_rows : (H : List Event) (k : ℕ) (w : Work) → rows_worked w ≡ Some k → is_late H (scope (work H k)) ≡ true → work_inside H w ≡ true
late_rows H k (Fetch q) is late = let same : q ≡ k = cc in ap (λ j. is_inside (scope (work H j))) same ∙ late_scope H (scope (work H k)) late
late_rows H k (Close q) is late = let same : q ≡ k = cc in ap (λ j. is_inside (scope (work H j))) same ∙ late_scope H (scope (work H k)) late
late_rows H k w is late = absurd cc

pub late_inside : (H : List Event) (n k : ℕ) → rows_worked (work H n) ≡ Some k → is_late H (scope (work H k)) ≡ true → works_inside H n ≡ true
late_inside H n k is late = late_rows H k (work H n) is late
