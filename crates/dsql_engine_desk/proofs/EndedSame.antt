-- Ending rows or transactions leaves the rest of each call's row unchanged.
use Rattle.std.proofs.Common.{◌≡◌, ℕ, zero, suc, Bool, true, false, ◌&&◌, List, map, get_or, Option, Some, None, refl, sym, ap, ◌∙◌}
use Rattle.std.proofs.Math.ListN.{get_or-map}
use Rattle.dsql_laws_calls.specs.driver.declared.call.DriverCall.{DriverCall}
use Rattle.dsql_laws_calls.specs.driver.declared.call.DriverCall.TheVariants.{Next}
use Rattle.dsql_laws_calls.specs.driver.declared.answer.DriverAnswer.{DriverAnswer}
use Rattle.dsql_laws_calls.specs.numbered.Numbered.{Numbered, thing_of}
use Rattle.dsql_laws_calls.specs.rows.OpenRows.{rows_of}
use Rattle.dsql_laws_calls.specs.tx.declared.tx.Tx.{Tx}
use Rattle.dsql_laws_calls.specs.works.HandedOut.{Made}
use Rattle.dsql_laws_calls.specs.history.Readers.HandedOut.{live}
use Rattle.dsql_engine_effects.specs.Heard.{is_end, calls_after, ended_for}
use Rattle.dsql_laws_calls.specs.history.declared.work.Work.{Work}
use Rattle.dsql_laws_calls.specs.history.declared.work.Work.TheVariants.{Fetch}
use Rattle.dsql_laws_calls.specs.history.Readers.Works.{hands_out_in}
use Rattle.dsql_engine_calls.specs.declared.call.CallRow.{CallRow}
use Rattle.dsql_engine_calls.specs.declared.call.Ending.{Ending}
use Rattle.dsql_engine_calls.specs.Calls.{nobody, row_at, with_ender, with_tx_ender}
use Rattle.dsql_engine_calls.proofs.CallRows.{same_all}
use Rattle.dsql_engine_effects.specs.Ended.{calls_ended, calls_with_end, going, is_such, numbered, tx_ended_for, works_of}
use Rattle.dsql_engine_effects.specs.Starts.{closed_by}

-- If a field is the same in all rows, it is the same at each number.
pub same_each : {A : Type 0} (p : CallRow → A) (after before : List CallRow) (m : ℕ) → map p after ≡ map p before → p (row_at after m) ≡ p (row_at before m)
same_each {A = A} p after before m same = sym (get_or-map p after m nobody) ∙ (ap (λ (xs : List A). get_or xs m (p nobody)) same ∙ get_or-map p before m nobody)

module _ {A : Type 0} (p : CallRow → A) where
  ended_same : (b : Bool) (k n : ℕ) (rows : List CallRow) → ((row : CallRow) (m : ℕ) → p (with_ender m row) ≡ p row) → map p (ended_for b k n rows) ≡ map p rows
  ended_same true k n rows same = same_all p (with_ender n) k rows (λ row. same row n)
  ended_same false k n rows same = refl

  tx_ended_same : (b : Bool) (k n : ℕ) (rows : List CallRow) → ((row : CallRow) (m : ℕ) → p (with_tx_ender m row) ≡ p row) → map p (tx_ended_for b k n rows) ≡ map p rows
  tx_ended_same true k n rows same = same_all p (with_tx_ender n) k rows (λ row. same row n)
  tx_ended_same false k n rows same = refl

  all_ended_same : (such : Work → Bool) (from : ℕ) (ws : List Work) (n : ℕ) (made : Made) (i : ℕ) (rows : List CallRow) → ((row : CallRow) (m : ℕ) → p (with_ender m row) ≡ p row) → map p (calls_ended such from ws n made i rows) ≡ map p rows
  all_ended_same such from ws n made zero rows same = refl
  all_ended_same such from ws n made (suc i) rows same =
      ended_same (is_such such from ws i && live (rows_of i made)) i n (calls_ended such from ws n made i rows) same ∙ all_ended_same such from ws n made i rows same

  -- Noting the end of a transaction, if one ends, leaves the field unchanged.
  pub with_end_same : (it : Option Ending) (n : ℕ) (txs : Numbered Tx) (made : Made) (rows : List CallRow) → ((row : CallRow) (m : ℕ) → p (with_ender m row) ≡ p row) → ((row : CallRow) (m : ℕ) → p (with_tx_ender m row) ≡ p row)
      → map p (calls_with_end it n txs made rows) ≡ map p rows
  with_end_same None n txs made rows same tx_same = refl
  with_end_same (Some it) n txs made rows same tx_same =
      all_ended_same (hands_out_in it.tx) it.tx (works_of rows) n made (numbered (works_of rows)) (tx_ended_for (going (thing_of it.tx txs)) it.tx n rows) same ∙ tx_ended_same (going (thing_of it.tx txs)) it.tx n rows tx_same

  -- Closing rows, if any are closed, leaves the field unchanged.
  pub closed_same : (closes : Option ℕ) (n : ℕ) (made : Made) (rows : List CallRow) → ((row : CallRow) (m : ℕ) → p (with_ender m row) ≡ p row) → map p (closed_by closes n made rows) ≡ map p rows
  closed_same None n made rows same = refl
  closed_same (Some k) n made rows same = ended_same (live (rows_of k made)) k n rows same

  -- An answer that ends rows, if it does, leaves the field unchanged.
  pub heard_same : (w : Work) (n : ℕ) (q : DriverCall) (a : DriverAnswer) (made : Made) (rows : List CallRow) → ((row : CallRow) (m : ℕ) → p (with_ender m row) ≡ p row) → map p (calls_after w n q a made rows) ≡ map p rows
  heard_same (Fetch k) n (Next cursor) a made rows same = ended_same (live (rows_of k made) && is_end a) k n rows same
  heard_same w n q a made rows same = refl
