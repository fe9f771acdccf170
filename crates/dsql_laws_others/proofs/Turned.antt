-- What the entry of a call makes of rows and transactions: each is as it was, or the entry has ended it.
use Rattle.std.proofs.Common.{◌≡◌, ◌≢◌, ℕ, ◌⊎◌, inl, inr, Bool, true, false, not, ◌&&◌, cond, List, ◌∷◌, map, Option, Some, None, is_some, unwrap_or, refl, sym, ap, ◌∙◌}
use Rattle.std.specs.Option.{option_map}
use Rattle.dsql_laws_calls.specs.numbered.Numbered.{thing_of, changed}
use Rattle.dsql_laws_calls.proofs.numbered.Numbers.{changes_one_number}
use Rattle.dsql_laws_calls.specs.rows.declared.rows.Rows.{Rows}
use Rattle.dsql_laws_calls.specs.rows.declared.end.RowsEnd.{RowsEnd}
use Rattle.dsql_laws_calls.specs.rows.declared.end.RowsEnd.TheVariants as ends
use Rattle.dsql_laws_calls.specs.rows.OpenRows.{is_live, ended_by, rows_of}
use Rattle.dsql_laws_calls.proofs.rows.Numbers.{changes_one_number as rows_changes}
use Rattle.dsql_laws_calls.specs.tx.declared.end.TxEnd.{TxEnd}
use Rattle.dsql_laws_calls.specs.tx.declared.tx.Tx.{Tx as Trans}
use Rattle.dsql_laws_calls.specs.tx.Transactions as of_txs
use Rattle.dsql_laws_calls.proofs.laws_work.Rows.{same_or_not}
use Rattle.dsql_laws_calls.specs.history.Readers.HandedOut.{live, over, born, end_in, ended_with, handed_out, rows_by, rows_entered}
use Rattle.dsql_laws_calls.specs.history.declared.event.Event.{Event}
use Rattle.dsql_laws_calls.specs.history.declared.event.Event.TheVariants.{Entered}
use Rattle.dsql_laws_calls.specs.history.declared.event.Op.{Op}
use Rattle.dsql_laws_calls.specs.history.declared.event.Op.TheVariants as ops
use Rattle.dsql_laws_calls.specs.history.Readers.Transactions.{ends_as, transactions, tx_by, end_of, is_begun, is_over, goes_on}
use Rattle.dsql_laws_calls.specs.history.Readers.Unfinished.{is_unfinished}
use Rattle.dsql_laws_calls.specs.history.Readers.Works.{works, work, rows_maker, tx_maker, hands_out_in}
use Rattle.dsql_laws_calls.proofs.Begun.{EndsIt, entered_tx}
use Rattle.dsql_laws_calls.proofs.EndedRows.{mapped_rows}
use Rattle.dsql_laws_calls.proofs.Rows.{ended_live}

-- Rows that are over after the entry are as they were, or were live.

abbrev pub Turns : Option Rows → Option Rows → Type 0
Turns o p = (p ≡ o) ⊎ ((live o ≡ true) × (over p ≡ true))

pub ended_turn : (by : RowsEnd) (o p : Option Rows) → p ≡ option_map (ended_by by) o → Turns o p
ended_turn by None p is = inl is
ended_turn by (Some r) p is = at (is_live r) refl
  where
    at : (b : Bool) → is_live r ≡ b → Turns (Some r) p
    at true lives = inr (lives, ap over is ∙ ap not (ended_live by r))
    at false dead = inl (is ∙ ap Some (ap (λ b. cond b (record r { ended = Some by }) r) dead))

-- Holds if the entry closes the rows of call j.
pub record ClosesNow (H : List Event) (label : List ℕ) (j : ℕ) : Type 0 where
  pub maker : j ≡ rows_maker (works H) label
  pub replied : is_unfinished H (rows_maker (works H) label) ≡ false

pub close_turn : (H : List Event) (label : List ℕ) (j : ℕ) → (rows_of j (rows_entered H (ops.RowsClose label) (handed_out H)) ≡ rows_by H j) ⊎ ((Turns (rows_by H j) (rows_of j (rows_entered H (ops.RowsClose label) (handed_out H)))) × ClosesNow H label j)
close_turn H label j = by (is_unfinished H maker) refl
  where
    maker : ℕ
    maker = rows_maker (works H) label

    by : (b : Bool) → is_unfinished H (rows_maker (works H) label) ≡ b
        → (rows_of j (cond b (handed_out H) (changed (ended_by ends.Close) maker (handed_out H))) ≡ rows_by H j) ⊎ ((Turns (rows_by H j) (rows_of j (cond b (handed_out H) (changed (ended_by ends.Close) maker (handed_out H))))) × ClosesNow H label j)
    by true u = inl refl
    by false u = at (same_or_not j (rows_maker (works H) label))
      where
        at : (j ≡ rows_maker (works H) label) ⊎ (j ≢ rows_maker (works H) label)
            → (rows_of j (changed (ended_by ends.Close) maker (handed_out H)) ≡ rows_by H j) ⊎ ((Turns (rows_by H j) (rows_of j (changed (ended_by ends.Close) maker (handed_out H)))) × ClosesNow H label j)
        at (inl same) =
            let l = rows_changes in
            let now : rows_of j (changed (ended_by ends.Close) (rows_maker (works H) label) (handed_out H)) ≡ option_map (ended_by ends.Close) (rows_by H j) =
            ap (λ k. rows_of j (changed (ended_by ends.Close) k (handed_out H))) (sym same) ∙ l.changes (ended_by ends.Close) j (handed_out H)
            in
            inr (ended_turn ends.Close (rows_by H j) (rows_of j (changed (ended_by ends.Close) (rows_maker (works H) label) (handed_out H))) now, record { maker = same; replied = u })
        at (inr apart) = let l = rows_changes in inl (l.others (ended_by ends.Close) (rows_maker (works H) label) j (handed_out H) apart)

-- Holds if the entry ends the transaction in which call j hands out rows.
pub record EndsNow (H : List Event) (tx : List ℕ) (j : ℕ) : Type 0 where
  pub hands : hands_out_in (tx_maker (works H) tx) (work H j) ≡ true
  pub replied : is_unfinished H (tx_maker (works H) tx) ≡ false

pub end_turn : (H : List Event) (tx : List ℕ) (j : ℕ) → (rows_of j (ended_with H tx (handed_out H)) ≡ rows_by H j) ⊎ ((Turns (rows_by H j) (rows_of j (ended_with H tx (handed_out H)))) × EndsNow H tx j)
end_turn H tx j = by (is_unfinished H (tx_maker (works H) tx)) refl
  where
    maker : ℕ
    maker = tx_maker (works H) tx

    ended : List Event → Option Rows
    ended G = rows_of j (map (end_in G (tx_maker (works H) tx)) (handed_out G))

    all : (b : Bool) → hands_out_in (tx_maker (works H) tx) (work H j) ≡ b → rows_of j (map (end_in H (tx_maker (works H) tx)) (handed_out H)) ≡ option_map (born b) (rows_by H j)
    all b is = mapped_rows (λ i. born (hands_out_in (tx_maker (works H) tx) (work H i))) j (handed_out H) ∙ ap (λ x. option_map (born x) (rows_by H j)) is

    same : (o : Option Rows) → option_map (born false) o ≡ o
    same None = refl
    same (Some r) = refl

    by : (b : Bool) → is_unfinished H (tx_maker (works H) tx) ≡ b
        → (rows_of j (cond b (handed_out H) (map (end_in H (tx_maker (works H) tx)) (handed_out H))) ≡ rows_by H j) ⊎ ((Turns (rows_by H j) (rows_of j (cond b (handed_out H) (map (end_in H (tx_maker (works H) tx)) (handed_out H))))) × EndsNow H tx j)
    by true u = inl refl
    by false u = at (hands_out_in (tx_maker (works H) tx) (work H j)) refl
      where
        at : (b : Bool) → hands_out_in (tx_maker (works H) tx) (work H j) ≡ b
            → (rows_of j (map (end_in H (tx_maker (works H) tx)) (handed_out H)) ≡ rows_by H j) ⊎ ((Turns (rows_by H j) (rows_of j (map (end_in H (tx_maker (works H) tx)) (handed_out H)))) × EndsNow H tx j)
        at true is = inr (ended_turn ends.TxEnded (rows_by H j) (rows_of j (map (end_in H (tx_maker (works H) tx)) (handed_out H))) (all true is), record { hands = is; replied = u })
        at false is = inl (all false is ∙ same (rows_by H j))

pub rows_turn : (H : List Event) (client n : ℕ) (op : Op) (j : ℕ) → Turns (rows_by H j) (rows_by (Entered client n op ∷ H) j)
rows_turn H client n (ops.RowsClose label) j = elim (close_turn H label j) [ inl same ↦ inl same | inr it ↦ it.0 ]
rows_turn H client n (ops.Commit tx) j = elim (end_turn H tx j) [ inl same ↦ inl same | inr it ↦ it.0 ]
rows_turn H client n (ops.Rollback tx) j = elim (end_turn H tx j) [ inl same ↦ inl same | inr it ↦ it.0 ]
rows_turn H client n op j = inl refl

-- A transaction that is over after the entry is as it was, or went on.

pub ended_tx : (by : TxEnd) (o p : Option Trans) → p ≡ option_map (of_txs.ended_by by) o → (p ≡ o) ⊎ (((is_some o && not (is_some (end_of o))) ≡ true) × (is_some (end_of p) ≡ true))
ended_tx by None p is = inl is
ended_tx by (Some tx) p is = at tx.ended refl
  where
    at : (e : Option TxEnd) → tx.ended ≡ e → (p ≡ Some tx) ⊎ ((not (is_some tx.ended) ≡ true) × (is_some (end_of p) ≡ true))
    at None none = inr (ap (λ o. not (is_some o)) none, ap (λ o. is_some (end_of o)) is)
    at (Some end) ended = inl (is ∙ ap Some (ap (λ o. record tx { ended = Some (unwrap_or o by) }) ended ∙ ap (λ o. record tx { ended = o }) (sym ended)))

pub tx_turn : (H : List Event) (client n : ℕ) (op : Op) (k : ℕ) → (tx_by (Entered client n op ∷ H) k ≡ tx_by H k) ⊎ ((goes_on H k ≡ true) × (is_over (Entered client n op ∷ H) k ≡ true))
tx_turn H client n op k = by (entered_tx H client n op k)
  where
    by : (tx_by (Entered client n op ∷ H) k ≡ tx_by H k) ⊎ EndsIt H k (tx_by (Entered client n op ∷ H) k) → (tx_by (Entered client n op ∷ H) k ≡ tx_by H k) ⊎ ((goes_on H k ≡ true) × (is_over (Entered client n op ∷ H) k ≡ true))
    by (inl same) = inl same
    by (inr it) = ended_tx it.by (tx_by H k) (tx_by (Entered client n op ∷ H) k) it.so

-- The transaction is over if its begin has its reply.
pub ended_now : (H : List Event) (tx : List ℕ) (by : TxEnd) (k : ℕ) → k ≡ tx_maker (works H) tx → is_unfinished H (tx_maker (works H) tx) ≡ false → is_begun H k ≡ true → is_some (end_of (thing_of k (ends_as H tx by (transactions H)))) ≡ true
ended_now H tx by k is replied begun =
    let l = changes_one_number {X = Trans} in
    ap (λ (b : Bool). is_some (end_of (thing_of k (cond b (transactions H) (changed (of_txs.ended_by by) (tx_maker (works H) tx) (transactions H)))))) replied
    ∙ (ap (λ i. is_some (end_of (thing_of k (changed (of_txs.ended_by by) i (transactions H))))) (sym is)
    ∙ (ap (λ o. is_some (end_of o)) (l.changes (of_txs.ended_by by) k (transactions H)) ∙ ended (tx_by H k) begun))
  where
    ended : (o : Option Trans) → is_some o ≡ true → is_some (end_of (option_map (of_txs.ended_by by) o)) ≡ true
    ended None h = absurd cc
    ended (Some x) h = refl
