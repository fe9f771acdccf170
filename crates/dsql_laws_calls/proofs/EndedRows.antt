-- What an event makes of a call's rows: they are made once, and rows that are over stay over.
use Rattle.std.proofs.Common.{◌≡◌, ◌≢◌, ℕ, ◌⊎◌, inl, inr, Bool, true, false, not, cond, Option, Some, None, is_some, refl, sym, ap, subst, ◌∙◌, ◌==◌, List, [], ◌∷◌, ◌++◌, map}
use Rattle.std.specs.Option.{option_map}
use Rattle.dsql_laws.specs.rows.declared.rows.Rows.{Rows}
use Rattle.dsql_laws.specs.rows.declared.end.RowsEnd.{RowsEnd}
use Rattle.dsql_laws.specs.numbered.Numbered.{changed}
use Rattle.dsql_laws.specs.rows.OpenRows.{is_live, ended_by, rows_of, fresh}
use Rattle.dsql_laws.proofs.rows.Numbers.{changes_one_number}
use Rattle.dsql_laws.specs.works.HandedOut.{Made, after_fetch}
use Rattle.dsql_laws.specs.history.Readers.HandedOut.{over, fetched, live, born, is_late, end_in, ended_with, last_end, rows_at_end, handed_out, rows_by, rows_heard, rows_entered, are_live, ender, ended_at}
use Rattle.dsql_laws_work.proofs.Rows.{same_or_not}
use Rattle.dsql_laws.specs.driver.declared.call.DriverCall.{DriverCall}
use Rattle.dsql_laws.specs.driver.declared.call.DriverCall.TheVariants as calls
use Rattle.dsql_laws.specs.driver.declared.answer.DriverAnswer.{DriverAnswer}
use Rattle.dsql_laws.specs.driver.declared.answer.DriverAnswer.TheVariants as answers
use Rattle.dsql_laws.specs.rows.declared.end.RowsEnd.TheVariants as ends
use Rattle.dsql_laws.proofs.Tests.{same_number}
use Rattle.dsql_laws.specs.history.declared.work.Work.{Work}
use Rattle.dsql_laws.specs.history.declared.work.Task.TheVariants.{HandOut}
use Rattle.dsql_laws.specs.history.declared.work.Work.TheVariants.{Statement, Fetch}
use Rattle.dsql_laws.specs.history.declared.event.Event.{Event}
use Rattle.dsql_laws.specs.history.declared.event.Event.TheVariants.{Entered, Heard, Ended}
use Rattle.dsql_laws.specs.history.declared.event.Op.{Op}
use Rattle.dsql_laws.specs.history.declared.event.Op.TheVariants as ops
use Rattle.dsql_laws.specs.history.Readers.Unfinished.{is_unfinished}
use Rattle.dsql_laws.specs.history.Readers.Works.{works, work, rows_maker, tx_maker, scope, hands_out_in}
use Rattle.dsql_laws_calls.proofs.LiveRows.{dead_over, live_some}

-- Holds if rows that were made are still there, and rows that had ended are still ended.
pub record Kept (o p : Option Rows) : Type 0 where
  pub some : is_some o ≡ true → is_some p ≡ true
  pub ended : over o ≡ true → over p ≡ true

kept_same : (o : Option Rows) → Kept o o
kept_same o = record { some = λ h. h; ended = λ h. h }

kept_none : (p : Option Rows) → Kept None p
kept_none p = record { some = λ h. absurd cc; ended = λ h. absurd cc }

pub kept_as : (o p q : Option Rows) → q ≡ p → Kept o p → Kept o q
kept_as o p q is k = subst (λ r. Kept o r) (sym is) k

-- Holds if the change leaves rows ended that have ended.
abbrev pub StaysEnded : (Rows → Rows) → Type 0
StaysEnded f = (r : Rows) → is_live r ≡ false → is_live (f r) ≡ false

pub kept_mapped : (f : Rows → Rows) (o : Option Rows) → StaysEnded f → Kept o (option_map f o)
kept_mapped f None h = kept_none None
kept_mapped f (Some r) h = record { some = λ k. refl; ended = λ k. ap not (h r (not_true (is_live r) k)) }
  where
    not_true : (b : Bool) → not b ≡ true → b ≡ false
    not_true true m = absurd cc
    not_true false m = refl

pub kept_changed : (f : Rows → Rows) (k n : ℕ) (R : Made) → StaysEnded f → Kept (rows_of n R) (rows_of n (changed f k R))
kept_changed f k n R h = by (same_or_not n k)
  where
    by : (n ≡ k) ⊎ (n ≢ k) → Kept (rows_of n R) (rows_of n (changed f k R))
    by (inl same) =
        let l = changes_one_number in
        kept_as (rows_of n R) (option_map f (rows_of n R)) (rows_of n (changed f k R)) (ap (λ j. rows_of n (changed f j R)) (sym same) ∙ l.changes f n R) (kept_mapped f (rows_of n R) h)
    by (inr apart) = let l = changes_one_number in kept_as (rows_of n R) (rows_of n R) (rows_of n (changed f k R)) (l.others f k n R apart) (kept_same (rows_of n R))

pub ended_stays : (by : RowsEnd) → StaysEnded (ended_by by)
ended_stays by r h = ap (λ (b : Bool). is_live (cond b (record r { ended = Some by }) r)) h ∙ h

kept_more : (m n : ℕ) (r : Rows) (R : Made) → Kept (rows_of n R) (rows_of n (R ++ (m, r) ∷ []))
kept_more m n r [] = kept_none (rows_of n ((m, r) ∷ []))
kept_more m n r (x ∷ R) =
    elim (n == x.0) as (λ b. Kept (cond b (Some x.1) (rows_of n R)) (cond b (Some x.1) (rows_of n (R ++ (m, r) ∷ [])))) [
      | true ↦ kept_same (Some x.1)
      | false ↦ kept_more m n r R
    ]

pub fetch_stays : (answer : DriverAnswer) → StaysEnded (fetched answer)
fetch_stays answer r h = ap (λ (b : Bool). is_live (cond b (after_fetch answer r) r)) h ∙ h

pub born_stays : (late : Bool) → StaysEnded (born late)
born_stays true r h = ended_stays ends.TxEnded r h
born_stays false r h = h

kept_heard : (H : List Event) (it : Work) (m n : ℕ) (q : DriverCall) (a : DriverAnswer) (R : Made) → Kept (rows_of n R) (rows_of n (rows_heard H it m q a R))
kept_heard H (Statement s (HandOut label)) m n (calls.Query input params) (answers.Cursor cursor columns) R = kept_more m n (born (is_late H s) (fresh cursor columns)) R
kept_heard H (Fetch k) m n (calls.Next cursor) a R = kept_changed (fetched a) k n R (fetch_stays a)
kept_heard H _ m n q a R = kept_same (rows_of n R)

-- A change of all rows, by the number of their call, changes the rows of each call.
pub mapped_rows : (g : ℕ → Rows → Rows) (n : ℕ) (R : Made) → rows_of n (map (λ (it : ℕ × Rows). (it.0, g it.0 it.1)) R) ≡ option_map (g n) (rows_of n R)
mapped_rows g n [] = refl
mapped_rows g n (x ∷ R) = by (n == x.0) refl (mapped_rows g n R)
  where
    rest : Option Rows
    rest = rows_of n (map (λ (it : ℕ × Rows). (it.0, g it.0 it.1)) R)

    by : (b : Bool) → (n == x.0) ≡ b → rest ≡ option_map (g n) (rows_of n R) → cond b (Some (g x.0 x.1)) rest ≡ option_map (g n) (cond b (Some x.1) (rows_of n R))
    by true same later = ap (λ k. Some (g k x.1)) (sym (same_number n x.0 same))
    by false other later = later

kept_each : (g : ℕ → Rows → Rows) (n : ℕ) (R : Made) → ((k : ℕ) → StaysEnded (g k)) → Kept (rows_of n R) (rows_of n (map (λ (it : ℕ × Rows). (it.0, g it.0 it.1)) R))
kept_each g n R h = kept_as (rows_of n R) (option_map (g n) (rows_of n R)) (rows_of n (map (λ (it : ℕ × Rows). (it.0, g it.0 it.1)) R)) (mapped_rows g n R) (kept_mapped (g n) (rows_of n R) (h n))

kept_ended : (H : List Event) (tx : List ℕ) (n : ℕ) (R : Made) → Kept (rows_of n R) (rows_of n (ended_with H tx R))
kept_ended H tx n R =
    elim (is_unfinished H (tx_maker (works H) tx)) as (λ b. Kept (rows_of n R) (rows_of n (cond b R (map (end_in H (tx_maker (works H) tx)) R)))) [
      | true ↦ kept_same (rows_of n R)
      | false ↦ kept_each (λ k. born (hands_out_in (tx_maker (works H) tx) (work H k))) n R (λ k. born_stays (hands_out_in (tx_maker (works H) tx) (work H k)))
    ]

kept_entered : (H : List Event) (op : Op) (n : ℕ) (R : Made) → Kept (rows_of n R) (rows_of n (rows_entered H op R))
kept_entered H (ops.RowsClose label) n R =
    elim (is_unfinished H (rows_maker (works H) label)) as (λ b. Kept (rows_of n R) (rows_of n (cond b R (changed (ended_by ends.Close) (rows_maker (works H) label) R)))) [
      | true ↦ kept_same (rows_of n R)
      | false ↦ kept_changed (ended_by ends.Close) (rows_maker (works H) label) n R (ended_stays ends.Close)
    ]
kept_entered H (ops.Commit tx) n R = kept_ended H tx n R
kept_entered H (ops.Rollback tx) n R = kept_ended H tx n R
kept_entered H op n R = kept_same (rows_of n R)

-- The end of the run ends the rows of call n by the last end of their scope.
pub rows_at_end_of : (H : List Event) (R : Made) (n : ℕ) → rows_of n (rows_at_end H R) ≡ option_map (ended_by (last_end (scope (work H n)))) (rows_of n R)
rows_at_end_of H R n = mapped_rows (λ k. ended_by (last_end (scope (work H k)))) n R

pub rows_kept : (H : List Event) (e : Event) (n : ℕ) → Kept (rows_by H n) (rows_by (e ∷ H) n)
rows_kept H (Entered client m op) n = kept_entered H op n (handed_out H)
rows_kept H (Heard e) n = kept_heard H (work H e.call_no) e.call_no n e.call e.answer (handed_out H)
rows_kept H Ended n = kept_each (λ k. ended_by (last_end (scope (work H k)))) n (handed_out H) (λ k. ended_stays (last_end (scope (work H k))))
rows_kept H _ n = kept_same (rows_by H n)

-- Rows that a call is recorded to have ended are over.

-- Rows that a call has ended are over.
pub ender_over : (H : List Event) (n : ℕ) → ender H n ≢ 0 → over (rows_by H n) ≡ true
ender_over [] n some = absurd (some refl)
ender_over (e ∷ H) n some = by (are_live H n) refl some (ender_over H n)
  where
    k : Kept (rows_by H n) (rows_by (e ∷ H) n)
    k = rows_kept H e n

    was_live : (c : Bool) → are_live (e ∷ H) n ≡ c → are_live H n ≡ true → ended_at e c ≢ 0 → over (rows_by (e ∷ H) n) ≡ true
    was_live true now before who = absurd (who refl)
    was_live false now before who = dead_over (rows_by (e ∷ H) n) (k.some (live_some (rows_by H n) before)) now

    by : (b : Bool) → are_live H n ≡ b → cond b (ended_at e (are_live (e ∷ H) n)) (ender H n) ≢ 0 → (ender H n ≢ 0 → over (rows_by H n) ≡ true) → over (rows_by (e ∷ H) n) ≡ true
    by true is who earlier = was_live (are_live (e ∷ H) n) refl is who
    by false is who earlier = k.ended (earlier who)

zero_or_not : (n : ℕ) → (n ≡ 0) ⊎ (n ≢ 0)
zero_or_not n = same_or_not n 0

over_not : (o : Option Rows) → over o ≡ true → live o ≡ true → ⊥
over_not None h k = cc
over_not (Some r) h k = never (is_live r) h k
  where
    never : (b : Bool) → not b ≡ true → b ≡ true → ⊥
    never true m w = cc
    never false m w = cc

none_over : (o : Option Rows) → o ≡ None → over o ≡ true → ⊥
none_over None is h = cc
none_over (Some r) is h = cc

-- No call has ended live rows, or rows that weren't made.
pub live_no_ender : (H : List Event) (n : ℕ) → are_live H n ≡ true → ender H n ≡ 0
live_no_ender H n h = elim (zero_or_not (ender H n)) [ inl none ↦ none | inr some ↦ absurd (over_not (rows_by H n) (ender_over H n some) h) ]

pub unmade_no_ender : (H : List Event) (n : ℕ) → rows_by H n ≡ None → ender H n ≡ 0
unmade_no_ender H n h = elim (zero_or_not (ender H n)) [ inl none ↦ none | inr some ↦ absurd (none_over (rows_by H n) h (ender_over H n some)) ]
