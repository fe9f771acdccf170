-- The rows agree with the history about works, and about the connections that calls use.
use Rattle.std.proofs.Common.{◌≡◌, ℕ, List, refl, ap, ◌∙◌}
use Rattle.std.specs.Prelude.{slice_index_or}
use Rattle.dsql_history.specs.declared.event.Event.{Event}
use Rattle.dsql_history.specs.declared.work.Work.{Work}
use Rattle.dsql_history.specs.declared.work.Work.TheVariants.{Fetch, Close, Look}
use Rattle.dsql_history.specs.Readers.Works as kinds
use Rattle.dsql_history.specs.Readers.Works.{borrower_in, scope, work, owner_as, owner_of}
use Rattle.dsql_engine_calls.specs.declared.call.CallRow.{CallRow}
use Rattle.dsql_engine_calls.specs.Calls.{KeepsCalls, borrower, borrower_as, row_at}
use Rattle.dsql_engine_calls.proofs.CallRows.{work_at}

pub row_work : (H : List Event) (rows : List CallRow) (n : ℕ) → KeepsCalls H rows → (row_at rows n).work ≡ work H n
row_work H rows n k = work_at rows n ∙ ap (λ ws. slice_index_or ws n Look) k.works

pub row_owner : (H : List Event) (rows : List CallRow) (n : ℕ) → KeepsCalls H rows → owner_as (row_at rows n).work n ≡ owner_of H n
row_owner H rows n k = ap (λ (w : Work). owner_as w n) (row_work H rows n k)

pub row_borrower : (H : List Event) (rows : List CallRow) (n : ℕ) → KeepsCalls H rows → borrower rows n ≡ kinds.borrower H n
row_borrower H rows n k = ap (λ (w : Work). borrower_as rows w n) (row_work H rows n k) ∙ by (work H n) refl
  where
    by : (w : Work) → work H n ≡ w → borrower_as rows (work H n) n ≡ kinds.borrower H n
    by (Fetch q) is = rw is (ap (λ (w : Work). borrower_in (scope w) q) (row_work H rows q k))
    by (Close q) is = rw is (ap (λ (w : Work). borrower_in (scope w) q) (row_work H rows q k))
    by w is = rw is refl
