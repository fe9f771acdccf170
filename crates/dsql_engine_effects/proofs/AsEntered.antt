-- The end of a transaction does to the rows and the transactions what the history says. The end of the run does so to
-- the rows. The argument is that only rows of queries after the begin are in the transaction.
use Rattle.std.proofs.Common.{◌≡◌, ℕ, zero, suc, ◌<◌, ◌≤◌, ◌⊎◌, inl, inr, Bool, true, false, ◌&&◌, List, [], ◌∷◌, ◌++◌, length, Option, Some, None, refl, sym, ap, ◌∙◌, arith, le-leb, lt-ltb, eqb-true}
use Rattle.std.specs.Prelude.{nat_le, nat_lt, position, slice_index_or}
use Rattle.std.proofs.lemmas.List.Quantifiers.{position-Some}
use Rattle.dsql_history.specs.numbered.Numbered.{Numbered, all_changed}
use Rattle.dsql_history.specs.rows.declared.end.RowsEnd.TheVariants as ends
use Rattle.dsql_history.specs.rows.declared.end.RowsEnd.{RowsEnd}
use Rattle.dsql_history.specs.rows.declared.rows.Rows.{Rows}
use Rattle.dsql_history.specs.rows.OpenRows.{ended_by, is_live}
use Rattle.dsql_history.specs.tx.declared.end.TxEnd.{TxEnd}
use Rattle.dsql_history.specs.tx.declared.tx.Tx.{Tx}
use Rattle.dsql_history.specs.works.Works.{or_zero}
use Rattle.dsql_history.specs.works.HandedOut.{Made}
use Rattle.dsql_engine_calls.specs.Tried.{most_counted}
use Rattle.dsql_history.specs.declared.event.Event.{Event}
use Rattle.dsql_history.specs.declared.event.Event.TheVariants.{Entered}
use Rattle.dsql_history.specs.declared.event.Op.{Op}
use Rattle.dsql_history.specs.declared.event.Op.TheVariants as ops
use Rattle.dsql_history.specs.declared.event.Target.TheVariants as targets
use Rattle.dsql_history.specs.declared.work.Scope.{Scope}
use Rattle.dsql_history.specs.declared.work.Scope.TheVariants as scopes
use Rattle.dsql_history.specs.declared.work.Work.{Work}
use Rattle.dsql_history.specs.declared.work.Work.TheVariants.{Look}
use Rattle.dsql_history.specs.Readers.HandedOut.{born, ended_with, last_end, rows_at_end}
use Rattle.dsql_history.specs.Readers.Transactions.{ends_as}
use Rattle.dsql_history.specs.Readers.Unfinished.{is_unfinished}
use Rattle.dsql_history.specs.Readers.Works.{begins_as, hands_out_in, scope, tx_maker, work, work_of, works}
use Rattle.dsql_engine_effects.specs.Ended.{is_inside, is_such, numbered, rows_ended, rows_with_end, txs_with_end, works_inside}
use Rattle.dsql_engine_effects.specs.Once.{AreMadeOnce}
use Rattle.dsql_engine_effects.specs.Starts.{ending_of}
use Rattle.dsql_engine_effects.proofs.MadeOnce.{each, each_same, ends_below, rows_ended_each}

-- A query hands out rows of a transaction only after the transaction is begun.

at_pushed : (ws : List Work) (w : Work) (q : ℕ) → (slice_index_or (ws ++ w ∷ []) q Look ≡ slice_index_or ws q Look) ⊎ ((q ≡ length ws) × (slice_index_or (ws ++ w ∷ []) q Look ≡ w))
at_pushed [] w zero = inr (refl, refl)
at_pushed [] w (suc q) = inl refl
at_pushed (v ∷ ws) w zero = inl refl
at_pushed (v ∷ ws) w (suc q) = by (at_pushed ws w q)
  where
    by : (slice_index_or (ws ++ w ∷ []) q Look ≡ slice_index_or ws q Look) ⊎ ((q ≡ length ws) × (slice_index_or (ws ++ w ∷ []) q Look ≡ w))
        → (slice_index_or (ws ++ w ∷ []) q Look ≡ slice_index_or ws q Look) ⊎ ((suc q ≡ suc (length ws)) × (slice_index_or (ws ++ w ∷ []) q Look ≡ w))
    by (inl same) = inl same
    by (inr last) = inr (ap suc last.0, last.1)

maker_within : (ws : List Work) (label : List ℕ) → tx_maker ws label ≤ length ws
maker_within ws label = by (position (begins_as label) ws) refl
  where
    by : (o : Option ℕ) → position (begins_as label) ws ≡ o → or_zero o ≤ length ws
    by None is = omega arith
    by (Some k) is = let found = position-Some (begins_as label) ws k Look is in let within = found.0 in omega (arith, within)

handed_in : (ws : List Work) (op : Op) (k : ℕ) → hands_out_in k (work_of ws op) ≡ true → k ≤ length ws
handed_in ws (ops.Query label (targets.Label tx) text args) k is = let at : tx_maker ws tx ≡ k = eqb-true (tx_maker ws tx) k is in let within = maker_within ws tx in omega (arith, at, within)
handed_in ws (ops.Query label targets.Db text args) k is = absurd cc
handed_in ws op k is = absurd cc

pub handed_out_later : (H : List Event) (k q : ℕ) → hands_out_in k (work H q) ≡ true → k ≤ q
handed_out_later [] k zero is = absurd cc
handed_out_later [] k (suc q) is = absurd cc
handed_out_later (Entered client n op ∷ H) k q is = by (λ before. handed_out_later H k q before) (at_pushed (works H) (work_of (works H) op) q)
  where
    earlier : slice_index_or (works H ++ work_of (works H) op ∷ []) q Look ≡ slice_index_or (works H) q Look → hands_out_in k (work H q) ≡ true
    earlier same = ap (hands_out_in k) (sym same) ∙ is

    newest : slice_index_or (works H ++ work_of (works H) op ∷ []) q Look ≡ work_of (works H) op → hands_out_in k (work_of (works H) op) ≡ true
    newest same = ap (hands_out_in k) (sym same) ∙ is

    by : (hands_out_in k (work H q) ≡ true → k ≤ q) → (slice_index_or (works H ++ work_of (works H) op ∷ []) q Look ≡ slice_index_or (works H) q Look) ⊎ ((q ≡ length (works H)) × (slice_index_or (works H ++ work_of (works H) op ∷ []) q Look ≡ work_of (works H) op)) → k ≤ q
    by before (inl same) = before (earlier same)
    by before (inr last) = let within = handed_in (works H) op k (newest last.1) in let at = last.0 in omega (arith, within, at)
handed_out_later (e ∷ H) k q is = handed_out_later H k q is

-- The rows that end.

pub known : (such : Work → Bool) (ws : List Work) (q : ℕ) → such Look ≡ false → such (slice_index_or ws q Look) ≡ true → q < length ws
known such [] q none is = absurd cc
known such (w ∷ ws) zero none is = omega arith
known such (w ∷ ws) (suc q) none is = let rest = known such ws q none is in omega (arith, rest)

such_below : (such : Work → Bool) (from : ℕ) (ws : List Work) → such Look ≡ false → ((q : ℕ) → such (slice_index_or ws q Look) ≡ true → from ≤ q) → (q : ℕ) → (is_such such from ws q && nat_lt q (length ws)) ≡ such (slice_index_or ws q Look)
such_below such from ws none later q = by (such (slice_index_or ws q Look)) refl
  where
    by : (b : Bool) → such (slice_index_or ws q Look) ≡ b → (is_such such from ws q && nat_lt q (length ws)) ≡ such (slice_index_or ws q Look)
    by true is =
        let on : nat_le from q ≡ true = le-leb from q (later q is) in
        let below : nat_lt q (length ws) ≡ true = lt-ltb q (length ws) (known such ws q none is) in
        ap (λ (b : Bool). (b && such (slice_index_or ws q Look)) && nat_lt q (length ws)) on ∙ (ap (λ (b : Bool). such (slice_index_or ws q Look) && b) below ∙ both is)
      where
        both : such (slice_index_or ws q Look) ≡ true → (such (slice_index_or ws q Look) && true) ≡ such (slice_index_or ws q Look)
        both is = ap (λ (b : Bool). b && true) is ∙ sym is
    by false is = ap (λ (b : Bool). (nat_le from q && b) && nat_lt q (length ws)) is ∙ (neither (nat_le from q) ∙ sym is)
      where
        neither : (b : Bool) → ((b && false) && nat_lt q (length ws)) ≡ false
        neither true = refl
        neither false = refl

ended_as : (such : Work → Bool) (from : ℕ) (ws : List Work) (rows : Made) → such Look ≡ false → ((q : ℕ) → such (slice_index_or ws q Look) ≡ true → from ≤ q) → length ws ≤ most_counted → AreMadeOnce rows
    → rows_ended such from ws (numbered ws) rows ≡ each (λ q r. born (such (slice_index_or ws q Look)) r) rows
ended_as such from ws rows none later few once =
    let all : numbered ws ≡ length ws = omega (arith, few) in
    ap (λ (k : ℕ). rows_ended such from ws k rows) all
    ∙ (rows_ended_each such from ws (length ws) rows once
    ∙ each_same (ends_below (is_such such from ws) (length ws)) (λ q r. born (such (slice_index_or ws q Look)) r) rows (λ q r. ap (λ (b : Bool). born b r) (such_below such from ws none later q)))

-- A commit or a rollback does to the rows as it enters what the history says.
pub rows_end_as : (H : List Event) (tx : List ℕ) (end : TxEnd) (rows : Made) → length (works H) ≤ most_counted → AreMadeOnce rows → rows_with_end (ending_of H tx end) (works H) rows ≡ ended_with H tx rows
rows_end_as H tx end rows few once = by (is_unfinished H (tx_maker (works H) tx)) refl
  where
    by : (b : Bool) → is_unfinished H (tx_maker (works H) tx) ≡ b → rows_with_end (ending_of H tx end) (works H) rows ≡ ended_with H tx rows
    by true is = rw is refl
    by false is = rw is (ended_as (hands_out_in (tx_maker (works H) tx)) (tx_maker (works H) tx) (works H) rows refl (λ q hands. handed_out_later H (tx_maker (works H) tx) q hands) few once)

-- A commit or a rollback does to the transactions as it enters what the history says.
pub txs_end_as : (H : List Event) (tx : List ℕ) (end : TxEnd) (txs : Numbered Tx) → txs_with_end (ending_of H tx end) txs ≡ ends_as H tx end txs
txs_end_as H tx end txs = by (is_unfinished H (tx_maker (works H) tx)) refl
  where
    by : (b : Bool) → is_unfinished H (tx_maker (works H) tx) ≡ b → txs_with_end (ending_of H tx end) txs ≡ ends_as H tx end txs
    by true is = rw is refl
    by false is = rw is refl

-- What the end of the run does to the rows.

ended_first : (first later : RowsEnd) (rows : Rows) → ended_by later (ended_by first rows) ≡ ended_by first rows
ended_first first later rows = by (is_live rows) refl
  where
    by : (b : Bool) → is_live rows ≡ b → ended_by later (ended_by first rows) ≡ ended_by first rows
    by true is = rw is refl
    by false is = rw is (rw is refl)

ends_at_last : (it : Scope) (rows : Rows) → ended_by ends.EndOfRun (born (is_inside it) rows) ≡ ended_by (last_end it) rows
ends_at_last scopes.Db rows = refl
ends_at_last (scopes.Held k) rows = ended_first ends.TxEnded ends.EndOfRun rows

changed_each : (change : Rows → Rows) (f : ℕ → Rows → Rows) (rows : Made) → all_changed change (each f rows) ≡ each (λ q r. change (f q r)) rows
changed_each change f [] = refl
changed_each change f (it ∷ later) = ap (λ (rest : Made). (it.0, change (f it.0 it.1)) ∷ rest) (changed_each change f later)

pub rows_end_at_last : (H : List Event) (rows : Made) → length (works H) ≤ most_counted → AreMadeOnce rows
    → all_changed (ended_by ends.EndOfRun) (rows_ended works_inside 0 (works H) (numbered (works H)) rows) ≡ rows_at_end H rows
rows_end_at_last H rows few once =
    ap (all_changed (ended_by ends.EndOfRun)) (ended_as works_inside 0 (works H) rows refl (λ q inside. omega arith) few once)
    ∙ (changed_each (ended_by ends.EndOfRun) (λ q r. born (works_inside (work H q)) r) rows
    ∙ each_same (λ q r. ended_by ends.EndOfRun (born (works_inside (work H q)) r)) (λ q r. ended_by (last_end (scope (work H q))) r) rows (λ q r. ends_at_last (scope (work H q)) r))
