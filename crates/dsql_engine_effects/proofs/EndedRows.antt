-- Rows that end with their transaction, one call after another. The argument is the invariant of the loop over
-- the calls.
use Rattle.std.proofs.Common.{◌≡◌, ◌≢◌, ◌==◌, ℕ, zero, suc, ◌+◌, ◌<◌, ◌≤◌, max, Bool, true, false, ◌&&◌, cond, List, [], ◌∷◌, Some, refl, sym, ap, ◌∙◌, arith, is_some, inl, inr, ◌⊎◌}
use Rattle.std.proofs.lemmas.Bool.{le-leb, lt-leb}
use Rattle.std.specs.Prelude.{if◌then◌else◌, nat_le, slice_index_or}
use Rattle.dsql_history.specs.numbered.Numbered.{Numbered, thing_of, was_made, changed}
use Rattle.dsql_history.proofs.numbered.Numbers.{changes_one_number}
use Rattle.dsql_history.specs.rows.declared.end.RowsEnd.TheVariants.{TxEnded}
use Rattle.dsql_history.specs.rows.OpenRows.{ended_by, rows_of}
use Rattle.dsql_history.specs.tx.declared.tx.Tx.{Tx}
use Rattle.dsql_history.specs.works.HandedOut.{Made}
use Rattle.dsql_history.specs.Readers.HandedOut.{live}
use Rattle.dsql_history.specs.declared.work.Work.{Work}
use Rattle.dsql_history.specs.declared.work.Work.TheVariants.{Look}
use Rattle.dsql_history.specs.Readers.Works.{hands_out_in}
use Rattle.dsql_engine_calls.specs.declared.call.CallRow.{CallRow}
use Rattle.dsql_engine_calls.specs.declared.call.Ending.{Ending}
use Rattle.dsql_engine_calls.specs.Calls.{row_at, with_ender, with_tx_ender}
use Rattle.dsql_engine_calls.proofs.CallRows.{same_all, work_at}
use Rattle.dsql_engine_effects.specs.Heard.{ended_for}
use Rattle.dsql_engine_effects.specs.Ended.{calls_ended, calls_with_end, ended_if, going, is_such, numbered, rows_ended, rows_with_end, tx_ended_for, works_of}

-- If no thing has the number, nothing is changed.
pub unmade : {X : Type 0} (change : X → X) (n : ℕ) (things : Numbered X) → was_made n things ≡ false → things ≡ changed change n things
unmade change n [] none = refl
unmade {X = X} change n (it ∷ later) none =
    elim (n == it.0) as (λ b. is_some (cond b (Some it.1) (thing_of n later)) ≡ false → it ∷ later ≡ (if b then (it.0, change it.1) ∷ later else it ∷ changed change n later)) [
      | true ↦ λ made. absurd cc
      | false ↦ λ not. ap (λ (rest : Numbered X). it ∷ rest) (unmade change n later not)
    ] none

-- The works of the calls stay the same.
pub ended_works : (b : Bool) (k n : ℕ) (calls : List CallRow) → works_of (ended_for b k n calls) ≡ works_of calls
ended_works true k n calls = same_all (λ (row : CallRow). row.work) (with_ender n) k calls (λ row. refl)
ended_works false k n calls = refl

pub tx_ended_works : (b : Bool) (k n : ℕ) (calls : List CallRow) → works_of (tx_ended_for b k n calls) ≡ works_of calls
tx_ended_works true k n calls = same_all (λ (row : CallRow). row.work) (with_tx_ender n) k calls (λ row. refl)
tx_ended_works false k n calls = refl

pub all_ended_works : (such : Work → Bool) (from : ℕ) (works : List Work) (n : ℕ) (rows : Made) (i : ℕ) (calls : List CallRow) → works_of (calls_ended such from works n rows i calls) ≡ works_of calls
all_ended_works such from works n rows zero calls = refl
all_ended_works such from works n rows (suc i) calls =
    ended_works (is_such such from works i && live (rows_of i rows)) i n (calls_ended such from works n rows i calls) ∙ all_ended_works such from works n rows i calls

-- A call from the first one on has such work exactly if its row says so.
pub such_here : (such : Work → Bool) (from i : ℕ) (works : List Work) (calls : List CallRow) → from ≤ i → works_of calls ≡ works → such (row_at calls i).work ≡ is_such such from works i
such_here such from i works calls later same =
    let on : nat_le from i ≡ true = le-leb from i later in
    let work : (row_at calls i).work ≡ slice_index_or works i Look = work_at calls i ∙ ap (λ ws. slice_index_or ws i Look) same in
    ap such work ∙ sym (ap (λ (b : Bool). b && such (slice_index_or works i Look)) on)

-- No call before the first one counts as such.
not_such : (such : Work → Bool) (from i : ℕ) (works : List Work) → i < from → is_such such from works i ≡ false
not_such such from i works before = ap (λ (b : Bool). b && such (slice_index_or works i Look)) (lt-leb from i before)

pub none_before : (such : Work → Bool) (from : ℕ) (works : List Work) (i : ℕ) (rows : Made) → i ≤ from → rows_ended such from works i rows ≡ rows
none_before such from works zero rows before = refl
none_before such from works (suc i) rows before =
    let below : i < from = omega arith in
    let less : i ≤ from = omega arith in
    ap (λ (b : Bool). ended_if b i (rows_ended such from works i rows)) (not_such such from i works below) ∙ none_before such from works i rows less

pub no_call_before : (such : Work → Bool) (from : ℕ) (works : List Work) (n : ℕ) (rows : Made) (i : ℕ) (calls : List CallRow) → i ≤ from → calls_ended such from works n rows i calls ≡ calls
no_call_before such from works n rows zero calls before = refl
no_call_before such from works n rows (suc i) calls before =
    let below : i < from = omega arith in
    let less : i ≤ from = omega arith in
    ap (λ (b : Bool). ended_for (b && live (rows_of i rows)) i n (calls_ended such from works n rows i calls)) (not_such such from i works below) ∙ no_call_before such from works n rows i calls less

-- The rows of later calls stay as they are.
pub untouched : (such : Work → Bool) (from : ℕ) (works : List Work) (i m : ℕ) (rows : Made) → i ≤ m → rows_of m (rows_ended such from works i rows) ≡ rows_of m rows
untouched such from works zero m rows before = refl
untouched such from works (suc i) m rows before = one (is_such such from works i) ∙ untouched such from works i m rows (omega arith)
  where
    apart : m ≢ i
    apart same = let wrong : i < i = omega (arith, before, same) in omega arith

    one : (b : Bool) → rows_of m (ended_if b i (rows_ended such from works i rows)) ≡ rows_of m (rows_ended such from works i rows)
    one true = changes_one_number.others (ended_by TxEnded) i m (rows_ended such from works i rows) apart
    one false = refl

-- If the rows were ended so far, they are after one more call.
pub next_rows : (such : Work → Bool) (from : ℕ) (works : List Work) (i : ℕ) (b : Bool) (rows now next : Made) → b ≡ is_such such from works i → now ≡ rows_ended such from works i rows → next ≡ ended_if b i now → next ≡ rows_ended such from works (i + 1) rows
next_rows such from works i b rows now next is so_far one =
    let e : i + 1 ≡ suc i = omega arith in
    rw e (one ∙ (ap (λ (x : Bool). ended_if x i now) is ∙ ap (ended_if (is_such such from works i) i) so_far))

pub next_calls : (such : Work → Bool) (from : ℕ) (works : List Work) (n i : ℕ) (b : Bool) (rows now_rows : Made) (calls now next : List CallRow) → b ≡ is_such such from works i → now_rows ≡ rows_ended such from works i rows
    → now ≡ calls_ended such from works n rows i calls → next ≡ ended_for (b && live (rows_of i now_rows)) i n now → next ≡ calls_ended such from works n rows (i + 1) calls
next_calls such from works n i b rows now_rows calls now next is rows_so_far so_far one =
    let e : i + 1 ≡ suc i = omega arith in
    let there : rows_of i now_rows ≡ rows_of i rows = ap (rows_of i) rows_so_far ∙ untouched such from works i i rows (omega arith) in
    rw e
    (one
    ∙ (ap (λ (x : Bool). ended_for (x && live (rows_of i now_rows)) i n now) is
    ∙ (ap (λ o. ended_for (is_such such from works i && live o) i n now) there ∙ ap (ended_for (is_such such from works i && live (rows_of i rows)) i n) so_far)))

-- The loop goes on to the end, or stays at the first call if that comes after the end.
stopped : (from i end : ℕ) → end ≤ i → from ≤ i → i ≤ max from end → (i ≡ end) ⊎ ((i ≤ from) × (end ≤ from))
stopped from i end over on within = grind arith

pub rows_at_last : (such : Work → Bool) (from i end : ℕ) (works : List Work) (rows : Made) → end ≤ i → from ≤ i → i ≤ max from end → rows_ended such from works i rows ≡ rows_ended such from works end rows
rows_at_last such from i end works rows over on within = by (stopped from i end over on within)
  where
    by : (i ≡ end) ⊎ ((i ≤ from) × (end ≤ from)) → rows_ended such from works i rows ≡ rows_ended such from works end rows
    by (inl same) = ap (λ (k : ℕ). rows_ended such from works k rows) same
    by (inr none) = none_before such from works i rows none.0 ∙ sym (none_before such from works end rows none.1)

pub calls_at_last : (such : Work → Bool) (from i end : ℕ) (works : List Work) (n : ℕ) (rows : Made) (calls : List CallRow) → end ≤ i → from ≤ i → i ≤ max from end
    → calls_ended such from works n rows i calls ≡ calls_ended such from works n rows end calls
calls_at_last such from i end works n rows calls over on within = by (stopped from i end over on within)
  where
    by : (i ≡ end) ⊎ ((i ≤ from) × (end ≤ from)) → calls_ended such from works n rows i calls ≡ calls_ended such from works n rows end calls
    by (inl same) = ap (λ (k : ℕ). calls_ended such from works n rows k calls) same
    by (inr none) = no_call_before such from works n rows i calls none.0 ∙ sym (no_call_before such from works n rows end calls none.1)

-- If the end of the transaction is recorded first and the ends of its rows next, the calls record the whole
-- end.
pub calls_then : (it : Ending) (n : ℕ) (txs : Numbered Tx) (rows : Made) (ended : Bool) (calls noted next : List CallRow) → ended ≡ going (thing_of it.tx txs) → noted ≡ tx_ended_for ended it.tx n calls
    → next ≡ calls_ended (hands_out_in it.tx) it.tx (works_of noted) n rows (numbered (works_of noted)) noted → next ≡ calls_with_end (Some it) n txs rows calls
calls_then it n txs rows ended calls noted next is noting ending =
    let same : works_of noted ≡ works_of calls = ap works_of noting ∙ tx_ended_works ended it.tx n calls in
    ending
    ∙ (ap (λ (ws : List Work). calls_ended (hands_out_in it.tx) it.tx ws n rows (numbered ws) noted) same
    ∙ ap (calls_ended (hands_out_in it.tx) it.tx (works_of calls) n rows (numbered (works_of calls))) (noting ∙ ap (λ (b : Bool). tx_ended_for b it.tx n calls) is))

pub rows_then : (it : Ending) (n : ℕ) (rows : Made) (ended : Bool) (calls noted : List CallRow) (next : Made) → noted ≡ tx_ended_for ended it.tx n calls
    → next ≡ rows_ended (hands_out_in it.tx) it.tx (works_of noted) (numbered (works_of noted)) rows → next ≡ rows_with_end (Some it) (works_of calls) rows
rows_then it n rows ended calls noted next noting ending =
    let same : works_of noted ≡ works_of calls = ap works_of noting ∙ tx_ended_works ended it.tx n calls in
    ending ∙ ap (λ (ws : List Work). rows_ended (hands_out_in it.tx) it.tx ws (numbered ws) rows) same
