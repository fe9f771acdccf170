-- The table of calls after one of its rows was changed or a row was added.
use Rattle.std.proofs.Common.{◌≡◌, ◌≢◌, ℕ, zero, suc, ◌<◌, List, [], ◌∷◌, ◌++◌, map, length, refl, ap}
use Rattle.std.specs.Prelude.{slice_index_or}
use Rattle.std.proofs.lemmas.List.{get_or-set_same, get_or-set_other}
use Rattle.dsql_history.specs.declared.work.Work.TheVariants.{Look}
use Rattle.dsql_history.specs.declared.record.CallRecord.{CallRecord}
use Rattle.dsql_history.specs.Readers.Calls.{with_record}
use Rattle.dsql_history.specs.Readers.Calls as told
use Rattle.dsql_engine_calls.specs.declared.call.CallRow.{CallRow}
use Rattle.dsql_engine_calls.specs.Calls.{nobody, row_at, with_row}

-- A field that the change keeps is the same in each row.
pub same_at : {A : Type 0} (p : CallRow → A) (change : CallRow → CallRow) (n : ℕ) (rows : List CallRow) (m : ℕ) → ((row : CallRow) → p (change row) ≡ p row) → p (row_at (with_row n change rows) m) ≡ p (row_at rows m)
same_at p change n [] m same = refl
same_at p change zero (row ∷ rows) zero same = same row
same_at p change zero (row ∷ rows) (suc m) same = refl
same_at p change (suc n) (row ∷ rows) zero same = refl
same_at p change (suc n) (row ∷ rows) (suc m) same = same_at p change n rows m same

pub same_all : {A : Type 0} (p : CallRow → A) (change : CallRow → CallRow) (n : ℕ) (rows : List CallRow) → ((row : CallRow) → p (change row) ≡ p row) → map p (with_row n change rows) ≡ map p rows
same_all p change n [] same = refl
same_all {A = A} p change zero (row ∷ rows) same = ap (λ (x : A). x ∷ map p rows) (same row)
same_all {A = A} p change (suc n) (row ∷ rows) same = ap (λ (xs : List A). p row ∷ xs) (same_all p change n rows same)

-- The records after the change are those before it, with the call's record changed.
pub calls_changed : (change : CallRow → CallRow) (by : CallRecord → CallRecord) (n : ℕ) (rows : List CallRow) → ((row : CallRow) → (change row).call ≡ by row.call)
    → map (λ row. row.call) (with_row n change rows) ≡ with_record n by (map (λ row. row.call) rows)
calls_changed change by n [] is = refl
calls_changed change by zero (row ∷ rows) is = ap (λ (r : CallRecord). r ∷ map (λ (x : CallRow). x.call) rows) (is row)
calls_changed change by (suc n) (row ∷ rows) is = ap (λ (rs : List CallRecord). row.call ∷ rs) (calls_changed change by n rows is)

pub changed_at : (change : CallRow → CallRow) (n : ℕ) (rows : List CallRow) → n < length rows → row_at (with_row n change rows) n ≡ change (row_at rows n)
changed_at change n rows within = get_or-set_same rows n (change (row_at rows n)) nobody within

pub changed_beside : (change : CallRow → CallRow) (n m : ℕ) (rows : List CallRow) → m ≢ n → row_at (with_row n change rows) m ≡ row_at rows m
changed_beside change n m rows apart = get_or-set_other rows n m (change (row_at rows n)) nobody apart

-- A field of a new row that is that of no call leaves the field at each number unchanged.
pub same_pushed : {A : Type 0} (p : CallRow → A) (row : CallRow) (rows : List CallRow) (m : ℕ) → p row ≡ p nobody → p (row_at (rows ++ row ∷ []) m) ≡ p (row_at rows m)
same_pushed p row [] zero same = same
same_pushed p row [] (suc m) same = refl
same_pushed p row (first ∷ rows) zero same = refl
same_pushed p row (first ∷ rows) (suc m) same = same_pushed p row rows m same

pub all_pushed : {A : Type 0} (p : CallRow → A) (row : CallRow) (rows : List CallRow) → map p (rows ++ row ∷ []) ≡ map p rows ++ p row ∷ []
all_pushed p row [] = refl
all_pushed {A = A} p row (first ∷ rows) = ap (λ (xs : List A). p first ∷ xs) (all_pushed p row rows)

-- The work of the row at a number is the work at that number.
pub work_at : (rows : List CallRow) (n : ℕ) → (row_at rows n).work ≡ slice_index_or (map (λ row. row.work) rows) n Look
work_at [] n = refl
work_at (row ∷ rows) zero = refl
work_at (row ∷ rows) (suc n) = work_at rows n

pub call_at : (rows : List CallRow) (n : ℕ) → (row_at rows n).call ≡ slice_index_or (map (λ row. row.call) rows) n told.nobody
call_at [] n = refl
call_at (row ∷ rows) zero = refl
call_at (row ∷ rows) (suc n) = call_at rows n

pub as_many : {A : Type 0} (p : CallRow → A) (rows : List CallRow) → length (map p rows) ≡ length rows
as_many p [] = refl
as_many p (row ∷ rows) = ap suc (as_many p rows)
