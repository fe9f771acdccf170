-- Proves that the layer tidies up on a lent connection only after the run has ended.
use Rattle.std.proofs.Common.{◌≡◌, ℕ, ◌==◌, Bool, true, false, not, ◌&&◌, cond, List, [], ◌∷◌, Option, Some, None, is_some, refl, sym, ap, ◌∙◌, ◌⊎◌, inl, inr}
use Rattle.std.proofs.lemmas.Bool.{or_cases}
use Rattle.dsql_laws_calls.specs.driver.declared.call.DriverCall.{DriverCall}
use Rattle.dsql_laws_calls.specs.course.declared.course.Wish.TheVariants as wishes
use Rattle.dsql_laws_calls.specs.journal.declared.entry.Entry.{Entry}
use Rattle.dsql_laws_calls.specs.journal.Kinds.{number_of}
use Rattle.dsql_laws_calls.specs.tx.declared.end.TxEnd.{TxEnd}
use Rattle.dsql_laws_calls.proofs.laws.Tests.{both, same_number}
use Rattle.dsql_laws_calls.specs.history.declared.event.Event.{Event}
use Rattle.dsql_laws_calls.specs.history.declared.work.Scope.TheVariants.{Db, Held}
use Rattle.dsql_laws_calls.specs.history.declared.work.Work.{Work}
use Rattle.dsql_laws_calls.specs.history.declared.work.Task.TheVariants.{HandOut}
use Rattle.dsql_laws_calls.specs.history.declared.work.Work.TheVariants.{Statement, Close}
use Rattle.dsql_laws_calls.specs.history.Readers.Course.{has_ended}
use Rattle.dsql_laws_calls.specs.history.Readers.HandedOut.{are_over, ender}
use Rattle.dsql_laws_calls.specs.history.Readers.Pool.{place}
use Rattle.dsql_laws_calls.specs.history.Readers.Transactions.{is_begun, tx_end, tx_ender}
use Rattle.dsql_laws_calls.specs.history.Readers.Works.{work, asks}
use Rattle.dsql_laws_calls.specs.history.Rules.Ending.{ending, ending_with}
use Rattle.dsql_laws_calls.specs.history.Rules.Line.{tidying, due_for, is_due, is_due_at, parts, may_come}
use Rattle.dsql_laws_calls.specs.history.Rules.Sent.{line_of, close_due}
use Rattle.dsql_laws_calls.specs.history.Legal.{Lawful}
use Rattle.dsql_laws_calls.proofs.Owners.{lent_asks}
use Rattle.dsql_laws_callers.proofs.Ended.{ended_still}
use Rattle.dsql_laws_callers.proofs.Rows as rows
use Rattle.dsql_laws_callers.proofs.Senders.{due_there, not_due}
use Rattle.dsql_laws_callers.proofs.Transacted as transacted

ending_over : (H : List Event) (k : ℕ) (q : DriverCall) → is_due (ending H k) q ≡ true → is_some (tx_end H k) ≡ true
ending_over H k q h = by (tx_end H k) h
  where
    by : (o : Option TxEnd) → is_due (ending_with H k o) q ≡ true → is_some o ≡ true
    by None d = absurd (not_due q d)
    by (Some end) d = refl

closing_over : (H : List Event) (n : ℕ) (q : DriverCall) → is_due (close_due H n) q ≡ true → are_over H n ≡ true
closing_over H n q h = by (are_over H n) h
  where
    by : (b : Bool) → is_due (cond b (line_of H n wishes.Close) None) q ≡ true → b ≡ true
    by true d = refl
    by false d = absurd (not_due q d)

-- A call that asks for a connection of its own hands out no rows in a transaction.
asks_outside : (it : Work) → asks it ≡ true → rows.hands_out_inside it ≡ true → ⊥
asks_outside (Statement (Held k) (HandOut label)) own inside = cc
asks_outside (Statement Db (HandOut label)) own inside = cc
asks_outside _ own inside = cc

if_none : (n : ℕ) (o : Option DriverCall) (q : DriverCall) → is_due (cond (n == 0) o None) q ≡ true → (n ≡ 0) × (is_due o q ≡ true)
if_none n o q h = by (n == 0) refl h
  where
    by : (b : Bool) → (n == 0) ≡ b → is_due (cond b o None) q ≡ true → (n ≡ 0) × (is_due o q ≡ true)
    by true is d = (same_number n 0 is, d)
    by false is d = absurd (not_due q d)

tidied_ended : (H : List Event) (n : ℕ) (q : DriverCall) → Lawful H → asks (work H n) ≡ true → is_due (tidying H n) q ≡ true → has_ended H ≡ true
tidied_ended H n q l own h = by (is_begun H n) h
  where
    of_rows : (has_ended H ≡ true) ⊎ (rows.hands_out_inside (work H n) ≡ true) → has_ended H ≡ true
    of_rows (inl ended) = ended
    of_rows (inr inside) = absurd (asks_outside (work H n) own inside)

    by : (b : Bool) → is_due (cond b (cond (tx_ender H n == 0) (ending H n) None) (cond (ender H n == 0) (close_due H n) None)) q ≡ true → has_ended H ≡ true
    by true d = let f = if_none (tx_ender H n) (ending H n) q d in transacted.over_unended H n l (ending_over H n q f.1) f.0
    by false d = let f = if_none (ender H n) (close_due H n) q d in of_rows (rows.over_unended H n l (closing_over H n q f.1) f.0)

due_ended : (H : List Event) (e : Entry) → Lawful H → e.call_no ≡ 0 → is_due_at H (place H e.conn) e ≡ true → has_ended H ≡ true
due_ended H e l none h =
    let d = due_there H e h in
    let due : is_due (tidying H (number_of d.owner)) e.call ≡ true = sym (ap (λ m. is_due (cond (m == 0) (tidying H (number_of d.owner)) (due_for H m)) e.call) none) ∙ d.due in
    tidied_ended H (number_of d.owner) e.call l (lent_asks H e.conn e.tenure d.owner l d.lent) due

-- If a driver call of the layer's may come, the run has ended: it was due at an earlier moment.
pub tidies_ended : (H : List Event) (e : Entry) → Lawful H → e.call_no ≡ 0 → may_come H e ≡ true → has_ended H ≡ true
tidies_ended [] e l none h = absurd cc
tidies_ended (last ∷ H) e l none h =
    by (or_cases (is_due_at (last ∷ H) (place (last ∷ H) e.conn) e) (not (parts last e) && may_come H e) h) (λ comes. tidies_ended H e l.0 none comes)
  where
    by : (is_due_at (last ∷ H) (place (last ∷ H) e.conn) e ≡ true) ⊎ ((not (parts last e) && may_come H e) ≡ true) → (may_come H e ≡ true → has_ended H ≡ true) → has_ended (last ∷ H) ≡ true
    by (inl due) earlier = due_ended (last ∷ H) e l none due
    by (inr was) earlier = let a = both (not (parts last e)) (may_come H e) was in ended_still H last (earlier a.1)
