-- Who ended transactions, and what is kept of it. The argument is that a transaction that is over stays over.
use Rattle.std.proofs.Common.{◌≡◌, ◌≢◌, ℕ, zero, suc, ◌<◌, Bool, true, false, ◌&&◌, cond, List, [], ◌∷◌, ◌++◌, length, Option, Some, None, refl, sym, ap, subst, ◌∙◌, is_some}
use Rattle.std.specs.Prelude.{option_map}
use Rattle.dsql_history.specs.driver.Kinds.{is_begin}
use Rattle.dsql_history.specs.driver.Fits.{is_done}
use Rattle.dsql_history.specs.numbered.Numbered.{Numbered, thing_of, was_made, changed}
use Rattle.dsql_history.proofs.numbered.Numbers.{changes_one_number}
use Rattle.dsql_history.specs.rows.OpenRows.{rows_of}
use Rattle.dsql_history.specs.tx.declared.end.TxEnd.{TxEnd}
use Rattle.dsql_history.specs.tx.declared.end.TxEnd.TheVariants as ends
use Rattle.dsql_history.specs.tx.declared.tx.Tx.{Tx}
use Rattle.dsql_history.specs.tx.Transactions.{begun_on, ended_by}
use Rattle.dsql_history.specs.works.HandedOut.{Made}
use Rattle.dsql_history.specs.Readers.HandedOut.{live}
use Rattle.dsql_history.specs.declared.event.Event.{Event}
use Rattle.dsql_history.specs.declared.event.Event.TheVariants.{Entered, Heard, Ended}
use Rattle.dsql_history.specs.declared.event.Op.{Op}
use Rattle.dsql_history.specs.declared.event.Op.TheVariants.{Commit, Rollback}
use Rattle.dsql_history.specs.declared.work.Work.{Work}
use Rattle.dsql_history.specs.Readers.Transactions.{ends_as, ending_call, goes_on, transactions, tx_by, tx_ender, tx_entered}
use Rattle.dsql_history.specs.Readers.Unfinished.{is_unfinished}
use Rattle.dsql_history.specs.Readers.Works.{hands_out_in, tx_maker, works}
use Rattle.dsql_engine_calls.specs.declared.call.CallRow.{CallRow}
use Rattle.dsql_engine_calls.specs.declared.call.Ending.{Ending}
use Rattle.dsql_engine_calls.specs.Calls.{row_at, with_ender, with_tx_ender}
use Rattle.dsql_engine_calls.proofs.CallRows.{same_at, changed_at, changed_beside}
use Rattle.dsql_engine_effects.specs.Ended.{calls_ended, calls_with_end, going, is_such, numbered, tx_ended_for, txs_with_end, works_of}
use Rattle.dsql_engine_effects.specs.Heard.{ended_for}
use Rattle.dsql_engine_effects.proofs.FirstEnds.{AreEnded, Goes, by_number, changed_goes, each_goes, found_first, stays}
use Rattle.dsql_engine_effects.proofs.FirstEnds as first

ended_over : (by : TxEnd) (o : Option Tx) → going (option_map (ended_by by) o) ≡ false
ended_over by None = refl
ended_over by (Some tx) = refl

ended_dead : (by : TxEnd) (tx : Tx) → going (Some (ended_by by tx)) ≡ true → going (Some tx) ≡ true
ended_dead by tx is = absurd cc

ends_goes : (H : List Event) (label : List ℕ) (by : TxEnd) (n : ℕ) → Goes going (tx_by H n) (thing_of n (ends_as H label by (transactions H)))
ends_goes H label by n =
    elim (is_unfinished H (tx_maker (works H) label)) as (λ b. Goes going (tx_by H n) (thing_of n (cond b (transactions H) (changed (ended_by by) (tx_maker (works H) label) (transactions H))))) [
      | true ↦ stays going (tx_by H n)
      | false ↦ changed_goes going (ended_by by) (ended_dead by) (tx_maker (works H) label) n (transactions H)
    ]

goes : (H : List Event) (e : Event) (n : ℕ) → Goes going (tx_by H n) (tx_by (e ∷ H) n)
goes H (Entered client m (Commit tx)) n = ends_goes H tx ends.Commit n
goes H (Entered client m (Rollback tx)) n = ends_goes H tx ends.Rollback n
goes H (Heard e) n =
    elim (is_begin e.call && is_done e.answer) as (λ b. Goes going (tx_by H n) (thing_of n (cond b (transactions H ++ (e.call_no, begun_on e.conn e.tenure None) ∷ []) (transactions H)))) [
      | true ↦ found_first going n e.call_no (begun_on e.conn e.tenure None) (transactions H)
      | false ↦ stays going (tx_by H n)
    ]
goes H Ended n = each_goes going (λ k. ended_by ends.EndOfRun) (λ k. ended_dead ends.EndOfRun) n (transactions H)
goes H _ n = stays going (tx_by H n)

pub txs_are_ended : AreEnded going tx_by ending_call tx_ender
txs_are_ended = record { nothing = refl; first = λ n. refl; next = λ H e n. refl; goes = goes }

-- An event of no call that enters changes no ender of transactions.
pub tx_ender_of_none : (H : List Event) (e : Event) (n : ℕ) → ending_call e ≡ 0 → tx_ender (e ∷ H) n ≡ tx_ender H n
tx_ender_of_none H e n none = first.ender_of_none going tx_by ending_call tx_ender txs_are_ended H e n none

-- What the calls keep of the ender.

tx_ended_here : (b : Bool) (k n : ℕ) (calls : List CallRow) → (b ≡ true → k < length calls) → (row_at (tx_ended_for b k n calls) k).tx_ender ≡ cond b n (row_at calls k).tx_ender
tx_ended_here true k n calls within = ap (λ (row : CallRow). row.tx_ender) (changed_at (with_tx_ender n) k calls (within refl))
tx_ended_here false k n calls within = refl

tx_ended_there : (b : Bool) (k n m : ℕ) (calls : List CallRow) → m ≢ k → (row_at (tx_ended_for b k n calls) m).tx_ender ≡ (row_at calls m).tx_ender
tx_ended_there true k n m calls apart = ap (λ (row : CallRow). row.tx_ender) (changed_beside (with_tx_ender n) k m calls apart)
tx_ended_there false k n m calls apart = refl

-- The end of rows leaves everything that doesn't say who ended them.
pub row_ended_same : {A : Type 0} (p : CallRow → A) (b : Bool) (k n : ℕ) (calls : List CallRow) (m : ℕ) → ((row : CallRow) (i : ℕ) → p (with_ender i row) ≡ p row) → p (row_at (ended_for b k n calls) m) ≡ p (row_at calls m)
row_ended_same p true k n calls m same = same_at p (with_ender n) k calls m (λ row. same row n)
row_ended_same p false k n calls m same = refl

pub rows_ended_same : {A : Type 0} (p : CallRow → A) (such : Work → Bool) (from : ℕ) (ws : List Work) (n : ℕ) (rows : Made) (i : ℕ) (calls : List CallRow) (m : ℕ) → ((row : CallRow) (j : ℕ) → p (with_ender j row) ≡ p row)
    → p (row_at (calls_ended such from ws n rows i calls) m) ≡ p (row_at calls m)
rows_ended_same p such from ws n rows zero calls m same = refl
rows_ended_same p such from ws n rows (suc i) calls m same =
    row_ended_same p (is_such such from ws i && live (rows_of i rows)) i n (calls_ended such from ws n rows i calls) m same ∙ rows_ended_same p such from ws n rows i calls m same

was_going : (o : Option Tx) → going o ≡ true → is_some o ≡ true
was_going None is = absurd cc
was_going (Some tx) is = refl

-- After a call enters, the calls record who ended each transaction.
pub tx_ender_entered : (H : List Event) (client n : ℕ) (op : Op) (it : Option Ending) (rows : Made) (calls : List CallRow) → txs_with_end it (transactions H) ≡ tx_entered H op (transactions H)
    → ((k : ℕ) → was_made k (transactions H) ≡ true → k < length calls) → ((m : ℕ) → (row_at calls m).tx_ender ≡ tx_ender H m)
    → (m : ℕ) → (row_at (calls_with_end it n (transactions H) rows calls) m).tx_ender ≡ tx_ender (Entered client n op ∷ H) m
tx_ender_entered H client n op None rows calls is known had m =
    had m ∙ sym (first.ender_stays going tx_by ending_call tx_ender txs_are_ended H (Entered client n op) m (λ went. ap (λ (txs : Numbered Tx). going (thing_of m txs)) (sym is) ∙ went))
tx_ender_entered H client n op (Some it) rows calls is known had m =
    rows_ended_same (λ (row : CallRow). row.tx_ender) (hands_out_in it.tx) it.tx (works_of calls) n rows (numbered (works_of calls)) (tx_ended_for (going (tx_by H it.tx)) it.tx n calls) m (λ row j. refl)
    ∙ by_number it.tx m ((row_at (tx_ended_for (going (tx_by H it.tx)) it.tx n calls) m).tx_ender ≡ tx_ender (Entered client n op ∷ H) m) (λ at. subst (λ (i : ℕ). (row_at (tx_ended_for (going (tx_by H it.tx)) it.tx n calls) i).tx_ender ≡ tx_ender (Entered client n op ∷ H) i) (sym at) here)
    (λ apart.
    kept m false (tx_ended_there (going (tx_by H it.tx)) it.tx n m calls apart) (λ ends. absurd (let no : false ≡ true = ends in cc))
    (λ ends went. ap (λ (txs : Numbered Tx). going (thing_of m txs)) (sym is) ∙ (ap going (changes_one_number.others (ended_by it.by) it.tx m (transactions H) apart) ∙ went)))
  where
    kept : (i : ℕ) (ends : Bool) → (row_at (tx_ended_for (going (tx_by H it.tx)) it.tx n calls) i).tx_ender ≡ cond ends n (row_at calls i).tx_ender
        → (ends ≡ true → (goes_on H i ≡ true) × (goes_on (Entered client n op ∷ H) i ≡ false)) → (ends ≡ false → goes_on H i ≡ true → goes_on (Entered client n op ∷ H) i ≡ true)
        → (row_at (tx_ended_for (going (tx_by H it.tx)) it.tx n calls) i).tx_ender ≡ tx_ender (Entered client n op ∷ H) i
    kept i ends now over keeps = first.ender_kept going tx_by ending_call tx_ender txs_are_ended H (Entered client n op) i ends (row_at calls i).tx_ender _ now (had i) over keeps

    here : (row_at (tx_ended_for (going (tx_by H it.tx)) it.tx n calls) it.tx).tx_ender ≡ tx_ender (Entered client n op ∷ H) it.tx
    here =
        kept it.tx (going (tx_by H it.tx)) (tx_ended_here (going (tx_by H it.tx)) it.tx n calls (λ went. known it.tx (was_going (tx_by H it.tx) went)))
        (λ went. (went, ap (λ (txs : Numbered Tx). going (thing_of it.tx txs)) (sym is) ∙ (ap going (changes_one_number.changes (ended_by it.by) it.tx (transactions H)) ∙ ended_over it.by (tx_by H it.tx))))
        (λ over went. absurd (let no : false ≡ true = sym over ∙ went in cc))
