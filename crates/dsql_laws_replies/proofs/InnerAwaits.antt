-- Which calls in a transaction still await an answer that decides, by the exchanges in their lines, and what
-- such a call sends then.
use Rattle.std.proofs.Common.{◌≡◌, ℕ, ℤ, ◌⊎◌, inl, inr, Bool, true, false, cond, List, [], ◌∷◌, length, is_none, is_some, refl}
use Rattle.dsql_laws_calls.specs.value.declared.value.Param.{Param}
use Rattle.dsql_laws_calls.specs.value.Arguments.{count_fault}
use Rattle.dsql_laws_calls.specs.driver.declared.caps.Caps.{Caps}
use Rattle.dsql_laws_calls.specs.course.declared.call.Due.{Due}
use Rattle.dsql_laws_calls.specs.course.declared.call.Due.TheVariants as due
use Rattle.dsql_laws_calls.specs.course.declared.call.Got.TheVariants as got
use Rattle.dsql_laws_calls.specs.course.Made.{Exchange}
use Rattle.dsql_laws_calls.specs.works.declared.work.Aim.{Aim}
use Rattle.dsql_laws_calls.specs.works.declared.work.Aim.TheVariants as aims
use Rattle.dsql_laws_calls.specs.works.Line.{sent_as}
use Rattle.dsql_laws_calls.proofs.laws_work.MadeLines.{asking, has_text}
use Rattle.dsql_laws_calls.specs.history.declared.work.Scope.TheVariants.{Held}
use Rattle.dsql_laws_calls.specs.history.declared.work.Work.{Work}
use Rattle.dsql_laws_calls.specs.history.declared.work.Task.TheVariants.{Execute, ReadOne, HandOut}
use Rattle.dsql_laws_calls.specs.history.declared.work.Work.TheVariants.{Statement}
use Rattle.dsql_laws_calls.specs.history.Readers.Works.{scope, aim_of}
use Rattle.dsql_laws_calls.specs.history.Rules.Sent.{untested}
use Rattle.dsql_laws_calls.proofs.Quiet.{next_inside}

-- Holds if nothing was exchanged yet, or the driver answered the text with Skip.
abbrev pub Fresh : List Exchange → Type 0
Fresh made = (made ≡ []) ⊎ (made ≡ (due.Text, got.Skip) ∷ [])

-- Holds if the call's text was prepared, and takes as many parameters as the call has.
pub record IsPrepared (count : ℕ) (made : List Exchange) : Type 0 where
  pub handle : ℕ
  pub inputs : ℤ
  pub rest : List Exchange
  pub is : made ≡ (due.Prepare, got.Prepared handle inputs) ∷ rest
  pub before : Fresh rest
  pub counts : is_none (count_fault inputs count) ≡ true

-- Holds if the call's rows were opened by its text at once; `ByHandle` holds if they were opened by the handle.
pub record ByText (can : Caps) (made : List Exchange) : Type 0 where
  pub rows : ℕ
  pub fast : can.fast_query ≡ true
  pub is : made ≡ (due.Text, got.Cursor rows) ∷ []

pub record ByHandle (made : List Exchange) : Type 0 where
  pub rows : ℕ
  pub run : ℕ
  pub handle : ℕ
  pub inputs : ℤ
  pub rest : List Exchange
  pub is : made ≡ (due.Handle run, got.Cursor rows) ∷ (due.Prepare, got.Prepared handle inputs) ∷ rest
  pub before : Fresh rest

abbrev pub Awaiting : Caps → Aim → ℕ → List Exchange → Type 0
Awaiting can aim count made = Fresh made ⊎ (IsPrepared count made ⊎ ((aim ≡ aims.ReadOne) × (ByText can made ⊎ ByHandle made)))

-- What comes next.

-- The text comes first if the driver can run it at once; otherwise its Prepare does.
pub first_exec : (can : Caps) (bad : Bool) (text : List ℕ) (params : List Param) → (b : Bool) → can.fast_exec ≡ b → next_inside can bad (asking text params aims.Execute) [] ≡ cond b due.Text due.Prepare
first_exec can bad text params true is = rw is refl
first_exec can bad text params false is = rw is refl

pub first_one : (can : Caps) (bad : Bool) (text : List ℕ) (params : List Param) → (b : Bool) → can.fast_query ≡ b → next_inside can bad (asking text params aims.ReadOne) [] ≡ cond b due.Text due.Prepare
first_one can bad text params true is = rw is refl
first_one can bad text params false is = rw is refl

pub first_out : (can : Caps) (bad : Bool) (text : List ℕ) (params : List Param) → (b : Bool) → can.fast_query ≡ b → next_inside can bad (asking text params aims.HandOut) [] ≡ cond b due.Text due.Prepare
first_out can bad text params true is = rw is refl
first_out can bad text params false is = rw is refl

-- After the driver answered the text with Skip, its Prepare comes next.
second_exec : (can : Caps) (bad : Bool) (text : List ℕ) (params : List Param) → (b : Bool) → can.fast_exec ≡ b → next_inside can bad (asking text params aims.Execute) ((due.Text, got.Skip) ∷ []) ≡ due.Prepare
second_exec can bad text params true is = rw is refl
second_exec can bad text params false is = rw is refl

second_one : (can : Caps) (bad : Bool) (text : List ℕ) (params : List Param) → (b : Bool) → can.fast_query ≡ b → next_inside can bad (asking text params aims.ReadOne) ((due.Text, got.Skip) ∷ []) ≡ due.Prepare
second_one can bad text params true is = rw is refl
second_one can bad text params false is = rw is refl

second_out : (can : Caps) (bad : Bool) (text : List ℕ) (params : List Param) → (b : Bool) → can.fast_query ≡ b → next_inside can bad (asking text params aims.HandOut) ((due.Text, got.Skip) ∷ []) ≡ due.Prepare
second_out can bad text params true is = rw is refl
second_out can bad text params false is = rw is refl

pub second : (can : Caps) (bad : Bool) (text : List ℕ) (params : List Param) (aim : Aim) → has_text aim ≡ true → next_inside can bad (asking text params aim) ((due.Text, got.Skip) ∷ []) ≡ due.Prepare
second can bad text params aims.Execute h = second_exec can bad text params can.fast_exec refl
second can bad text params aims.ReadOne h = second_one can bad text params can.fast_query refl
second can bad text params aims.HandOut h = second_out can bad text params can.fast_query refl
second can bad text params aims.Ping h = absurd cc

-- After the Prepare, the handle is run.
pub third : (can : Caps) (bad : Bool) (text : List ℕ) (params : List Param) (aim : Aim) (handle : ℕ) (inputs : ℤ) (rest : List Exchange) → has_text aim ≡ true → Fresh rest → is_none (count_fault inputs (length params)) ≡ true
    → next_inside can bad (asking text params aim) ((due.Prepare, got.Prepared handle inputs) ∷ rest) ≡ due.Handle handle
third can bad text params aims.Execute handle inputs rest h (inl f) k = rw (f, k) refl
third can bad text params aims.Execute handle inputs rest h (inr f) k = rw (f, k) refl
third can bad text params aims.ReadOne handle inputs rest h (inl f) k = rw (f, k) refl
third can bad text params aims.ReadOne handle inputs rest h (inr f) k = rw (f, k) refl
third can bad text params aims.HandOut handle inputs rest h (inl f) k = rw (f, k) refl
third can bad text params aims.HandOut handle inputs rest h (inr f) k = rw (f, k) refl
third can bad text params aims.Ping handle inputs rest h f k = absurd cc

-- After the text has opened the rows, a row is fetched.
pub fourth_text : (can : Caps) (bad : Bool) (text : List ℕ) (params : List Param) (rows : ℕ) → can.fast_query ≡ true → next_inside can bad (asking text params aims.ReadOne) ((due.Text, got.Cursor rows) ∷ []) ≡ due.Next rows
fourth_text can bad text params rows fast = rw fast refl

pub fourth_handle : (can : Caps) (bad : Bool) (text : List ℕ) (params : List Param) (rows run handle : ℕ) (inputs : ℤ) (rest : List Exchange) → Fresh rest
    → next_inside can bad (asking text params aims.ReadOne) ((due.Handle run, got.Cursor rows) ∷ (due.Prepare, got.Prepared handle inputs) ∷ rest) ≡ due.Next rows
fourth_handle can bad text params rows run handle inputs rest (inl f) = rw f refl
fourth_handle can bad text params rows run handle inputs rest (inr f) = rw f refl

pub text_of : (it : Work) (k : ℕ) → scope it ≡ Held k → has_text (aim_of it) ≡ true
text_of (Statement s Execute) k h = refl
text_of (Statement s (ReadOne dests)) k h = refl
text_of (Statement s (HandOut label)) k h = refl
text_of it k h = absurd cc

-- A call that awaits an answer sends something.
pub inner_sends : (can : Caps) (bad : Bool) (text : List ℕ) (params : List Param) (it : Work) (k : ℕ) (made : List Exchange) → scope it ≡ Held k → Awaiting can (aim_of it) (length params) made
    → is_some (sent_as (untested can) (asking text params (aim_of it)) (next_inside can bad (asking text params (aim_of it)) made)) ≡ true
inner_sends can bad text params it k made s (inl (inl none)) = rw none (by it s)
  where
    either : (aim : Aim) (b : Bool) (d : Due) → d ≡ cond b due.Text due.Prepare → is_some (sent_as (untested can) (asking text params aim) d) ≡ true
    either aim true d is = rw is refl
    either aim false d is = rw is refl

    by : (w : Work) → scope w ≡ Held k → is_some (sent_as (untested can) (asking text params (aim_of w)) (next_inside can bad (asking text params (aim_of w)) [])) ≡ true
    by (Statement (Held j) Execute) x = either aims.Execute can.fast_exec _ (first_exec can bad text params can.fast_exec refl)
    by (Statement (Held j) (ReadOne dests)) x = either aims.ReadOne can.fast_query _ (first_one can bad text params can.fast_query refl)
    by (Statement (Held j) (HandOut label)) x = either aims.HandOut can.fast_query _ (first_out can bad text params can.fast_query refl)
    by w x = absurd cc
inner_sends can bad text params it k made s (inl (inr skipped)) = rw (skipped, second can bad text params (aim_of it) (text_of it k s)) refl
inner_sends can bad text params it k made s (inr (inl p)) = rw (p.is, third can bad text params (aim_of it) p.handle p.inputs p.rest (text_of it k s) p.before p.counts) refl
inner_sends can bad text params it k made s (inr (inr (one, inl x))) = rw (one, x.is, fourth_text can bad text params x.rows x.fast) refl
inner_sends can bad text params it k made s (inr (inr (one, inr x))) = rw (one, x.is, fourth_handle can bad text params x.rows x.run x.handle x.inputs x.rest x.before) refl
