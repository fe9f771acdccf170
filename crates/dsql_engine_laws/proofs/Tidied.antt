-- Rows or a transaction that no call ended, and that the layer tidies up, ended with the run.
use Rattle.std.proofs.Common.{◌≡◌, ℕ, ◌==◌, ◌⊎◌, inl, inr, Bool, true, false, cond, List, Option, Some, None, is_some, refl, sym, ◌∙◌}
use Rattle.dsql_engine_hearing.specs.driver.declared.call.DriverCall.{DriverCall}
use Rattle.dsql_engine_hearing.specs.course.declared.course.Wish.TheVariants as wishes
use Rattle.dsql_engine_hearing.specs.journal.declared.entry.Owner.{Owner}
use Rattle.dsql_engine_hearing.specs.journal.Kinds.{number_of}
use Rattle.dsql_engine_hearing.specs.pool.declared.conn.Place.TheVariants.{Lent}
use Rattle.dsql_engine_hearing.specs.tx.declared.end.TxEnd.{TxEnd}
use Rattle.dsql_engine_hearing.proofs.laws.Tests.{same_number}
use Rattle.dsql_engine_hearing.specs.history.declared.event.Event.{Event}
use Rattle.dsql_engine_hearing.specs.history.declared.work.Scope.TheVariants.{Held}
use Rattle.dsql_engine_hearing.specs.history.declared.work.Work.{Work}
use Rattle.dsql_engine_hearing.specs.history.declared.work.Task.TheVariants.{HandOut}
use Rattle.dsql_engine_hearing.specs.history.declared.work.Work.TheVariants.{Statement}
use Rattle.dsql_engine_hearing.specs.history.Readers.Course.{has_ended}
use Rattle.dsql_engine_hearing.specs.history.Readers.HandedOut.{are_over, ender}
use Rattle.dsql_engine_hearing.specs.history.Readers.Pool.{place}
use Rattle.dsql_engine_hearing.specs.history.Readers.Transactions.{is_begun, is_over, tx_end, tx_ender}
use Rattle.dsql_engine_hearing.specs.history.Readers.Works.{asks, work}
use Rattle.dsql_engine_hearing.specs.history.Rules.Ending.{ending, ending_with}
use Rattle.dsql_engine_hearing.specs.history.Rules.Line.{tidying}
use Rattle.dsql_engine_hearing.specs.history.Rules.Sent.{close_due, line_of}
use Rattle.dsql_engine_hearing.specs.history.Legal.{Lawful}
use Rattle.dsql_engine_hearing.proofs.laws_calls.Owners.{lent_asks}
use Rattle.dsql_engine_hearing.proofs.laws_callers.Rows as rows
use Rattle.dsql_engine_hearing.proofs.laws_callers.Transacted as transacted

never : true ≡ false → ⊥
never h = cc

-- What is to be ended or closed is over.

ending_over : (H : List Event) (k : ℕ) → is_some (ending H k) ≡ true → is_over H k ≡ true
ending_over H k h = by (tx_end H k) h
  where
    by : (o : Option TxEnd) → is_some (ending_with H k o) ≡ true → is_some o ≡ true
    by None some = absurd cc
    by (Some end) some = refl

closing_over : (H : List Event) (n : ℕ) → is_some (close_due H n) ≡ true → are_over H n ≡ true
closing_over H n h = by (are_over H n) h
  where
    by : (b : Bool) → is_some (cond b (line_of H n wishes.Close) None) ≡ true → b ≡ true
    by true some = refl
    by false some = absurd cc

-- No call has ended what the layer tidies up.
by_none : (ender : ℕ) (d : Option DriverCall) → is_some (cond (ender == 0) d None) ≡ true → (ender ≡ 0) × (is_some d ≡ true)
by_none ender d h = by (ender == 0) refl h
  where
    by : (b : Bool) → (ender == 0) ≡ b → is_some (cond b d None) ≡ true → (ender ≡ 0) × (is_some d ≡ true)
    by true none some = (same_number ender 0 none, some)
    by false none some = absurd cc

-- A query with a connection of its own hands out no rows of a transaction. Those can be over as they are made.
asks_outside : (it : Work) → asks it ≡ true → rows.hands_out_inside it ≡ false
asks_outside (Statement (Held k) (HandOut label)) own = absurd cc
asks_outside _ own = refl

tidied : (H : List Event) (n : ℕ) → Lawful H → asks (work H n) ≡ true → is_some (tidying H n) ≡ true → has_ended H ≡ true
tidied H n l own h = by (is_begun H n) h
  where
    of_rows : (has_ended H ≡ true) ⊎ (rows.hands_out_inside (work H n) ≡ true) → has_ended H ≡ true
    of_rows (inl ended) = ended
    of_rows (inr inside) = absurd (never (sym inside ∙ asks_outside (work H n) own))

    by : (b : Bool) → is_some (cond b (cond (tx_ender H n == 0) (ending H n) None) (cond (ender H n == 0) (close_due H n) None)) ≡ true → has_ended H ≡ true
    by true some = let d = by_none (tx_ender H n) (ending H n) some in transacted.over_unended H n l (ending_over H n d.1) d.0
    by false some =
        let d = by_none (ender H n) (close_due H n) some in
        of_rows (rows.over_unended H n l (closing_over H n d.1) d.0)

-- The layer tidies up on a lent connection only after the run has ended.
pub tidied_after_end : (H : List Event) (c t : ℕ) (own : Owner) → Lawful H → place H c ≡ Some (Lent t own) → is_some (tidying H (number_of own)) ≡ true → has_ended H ≡ true
tidied_after_end H c t own l lent h = tidied H (number_of own) l (lent_asks H c t own l lent) h
