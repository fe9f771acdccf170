-- How a fetch changes rows. The argument compares it with a simpler change that does the same to the rows with
-- the same number.
use Rattle.std.proofs.Common.{◌≡◌, ◌==◌, ℕ, Bool, true, false, ◌&&◌, cond, List, [], ◌∷◌, Some, refl, sym, ap, subst, ◌∙◌, is_none}
use Rattle.std.specs.Prelude.{if◌then◌else◌, option_map, IfSome}
use Rattle.dsql_history.specs.value.declared.value.Value.{Value}
use Rattle.dsql_history.specs.driver.declared.answer.DriverAnswer.{DriverAnswer}
use Rattle.dsql_history.specs.driver.declared.answer.DriverAnswer.TheVariants.{Row, End, Fail, Bad}
use Rattle.dsql_history.specs.rows.declared.rows.Rows.{Rows}
use Rattle.dsql_history.specs.rows.declared.fault.RowsClosed.{RowsClosed}
use Rattle.dsql_history.specs.numbered.Numbered.{changed}
use Rattle.dsql_history.specs.rows.OpenRows.{IsClosedBy, is_live, rows_of, shown}
use Rattle.dsql_history.specs.works.HandedOut.{Made, after_fetch}
use Rattle.dsql_history.specs.Readers.HandedOut.{fetched}
use Rattle.dsql_engine_effects.specs.Heard.{is_end}

-- Two changes of the rows with one number have the same result if they do the same to those rows.
pub changed_as : (f g : Rows → Rows) (n : ℕ) (rows : Made) → ((it : Rows) → rows_of n rows ≡ Some it → f it ≡ g it) → changed f n rows ≡ changed g n rows
changed_as f g n [] same = refl
changed_as f g n (e ∷ later) same =
    elim (n == e.0) as (λ b. ((it : Rows) → cond b (Some e.1) (rows_of n later) ≡ Some it → f it ≡ g it) → (if b then (e.0, f e.1) ∷ later else e ∷ changed f n later) ≡ (if b then (e.0, g e.1) ∷ later else e ∷ changed g n later)) [
      | true ↦ λ h. ap (λ (it : Rows). (e.0, it) ∷ later) (h e.1 refl)
      | false ↦ λ h. ap (λ (rest : Made). e ∷ rest) (changed_as f g n later h)
    ] same

unchanged : (n : ℕ) (rows : Made) → changed (λ it. it) n rows ≡ rows
unchanged n [] = refl
unchanged n (e ∷ later) = elim (n == e.0) as (λ b. (if b then (e.0, e.1) ∷ later else e ∷ changed (λ it. it) n later) ≡ e ∷ later) [ true ↦ refl | false ↦ ap (λ (rest : Made). e ∷ rest) (unchanged n later) ]

-- Rows are live if the rows found under their number are live.
live_there : (n : ℕ) (rows : Made) (it : Rows) → option_map is_live (rows_of n rows) ≡ Some true → rows_of n rows ≡ Some it → is_live it ≡ true
live_there n rows it live at = let same : Some (is_live it) ≡ Some true = ap (option_map is_live) (sym at) ∙ live in cc

pub shows : (values : List Value) (n : ℕ) (rows : Made) → option_map is_live (rows_of n rows) ≡ Some true → changed (shown values) n rows ≡ changed (fetched (Row values)) n rows
shows values n rows lives =
    changed_as (shown values) (fetched (Row values)) n rows
    (λ it at. sym (ap (λ (b : Bool). cond b (shown values it) it) (live_there n rows it lives at)))

-- A fetch leaves rows that are over as they are.
pub stays_over : (answer : DriverAnswer) (n : ℕ) (rows : Made) → ((it : Rows) → rows_of n rows ≡ Some it → is_live it ≡ false) → rows ≡ changed (fetched answer) n rows
stays_over answer n rows over =
    sym (changed_as (fetched answer) (λ it. it) n rows (λ it at. ap (λ (b : Bool). cond b (after_fetch answer it) it) (over it at)) ∙ unchanged n rows)

-- An answer that is no row and doesn't end the rows leaves them as they are.
pub other_answer : (answer : DriverAnswer) (n : ℕ) (rows : Made) → ((values : List Value) → answer ≡ Row values → ⊥) → is_end answer ≡ false → rows ≡ changed (fetched answer) n rows
other_answer answer n rows no_row no_end =
    sym (changed_as (fetched answer) (λ it. it) n rows (λ it at. ap (λ (r : Rows). cond (is_live it) r it) (other it answer no_row no_end) ∙ same (is_live it) it) ∙ unchanged n rows)
  where
    same : (b : Bool) (it : Rows) → cond b it it ≡ it
    same true it = refl
    same false it = refl

    other : (it : Rows) (a : DriverAnswer) → ((values : List Value) → a ≡ Row values → ⊥) → is_end a ≡ false → after_fetch a it ≡ it
    other it (Row values) r e = absurd (r values refl)
    other it End r e = absurd cc
    other it (Fail text) r e = absurd cc
    other it Bad r e = absurd cc
    other it _ r e = refl

pub is_no_end : (a : DriverAnswer) → (a ≡ End → ⊥) → ((text : List ℕ) → a ≡ Fail text → ⊥) → (a ≡ Bad → ⊥) → is_end a ≡ false
is_no_end End e f b = absurd (e refl)
is_no_end (Fail text) e f b = absurd (f text refl)
is_no_end Bad e f b = absurd (b refl)
is_no_end _ e f b = refl

pub none_ends : (b c : Bool) → c ≡ false → false ≡ (b && c)
none_ends true c is = sym is
none_ends false c is = refl

-- Rows that something has closed are over.
pub closed_over : (n : ℕ) (rows : Made) (why : RowsClosed) → IfSome (rows_of n rows) (λ it. IsClosedBy it why) → (it : Rows) → rows_of n rows ≡ Some it → is_live it ≡ false
closed_over n rows why closed it at = let c : IsClosedBy it why = subst (λ o. IfSome o (λ (r : Rows). IsClosedBy r why)) at closed in ap is_none c.1
