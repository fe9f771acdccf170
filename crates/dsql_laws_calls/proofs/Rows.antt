-- No event revives rows that are over. A call that ends rows fetches from them, closes them, or ends their
-- transaction.
use Rattle.std.proofs.Common.{◌≡◌, ◌≢◌, ℕ, ◌==◌, Bool, true, false, cond, List, [], ◌∷◌, ◌++◌, Some, None, is_none, refl, sym, ap, subst, ◌∙◌, if◌then◌else◌, map, Option}
use Rattle.dsql_laws.specs.driver.declared.call.DriverCall.{DriverCall}
use Rattle.dsql_laws.specs.driver.declared.call.DriverCall.TheVariants.{Query}
use Rattle.dsql_laws.specs.driver.declared.answer.DriverAnswer.{DriverAnswer}
use Rattle.dsql_laws.specs.driver.declared.answer.DriverAnswer.TheVariants.{Cursor}
use Rattle.dsql_laws.specs.rows.declared.rows.Rows.{Rows}
use Rattle.dsql_laws.specs.rows.declared.end.RowsEnd.{RowsEnd}
use Rattle.dsql_laws.specs.rows.declared.end.RowsEnd.TheVariants as ends
use Rattle.dsql_laws.specs.numbered.Numbered.{changed}
use Rattle.dsql_laws.specs.rows.OpenRows.{fresh, is_live, ended_by, rows_of}
use Rattle.dsql_laws.specs.works.HandedOut.{Made}
use Rattle.dsql_laws.specs.history.Readers.HandedOut.{live, rows_heard, rows_entered, handed_out, are_live, caller, ended_at, ender, born, is_late, end_in, ended_with, last_end, rows_by}
use Rattle.dsql_laws.specs.history.declared.work.Work.{Work}
use Rattle.dsql_laws.specs.history.declared.work.Task.TheVariants.{HandOut}
use Rattle.dsql_laws.specs.history.declared.work.Work.TheVariants.{Statement, Fetch, Close, End}
use Rattle.dsql_laws.specs.history.declared.event.Event.{Event}
use Rattle.dsql_laws.specs.history.declared.event.Event.TheVariants.{Entered, Heard, Ended}
use Rattle.dsql_laws.specs.history.declared.event.Op.{Op}
use Rattle.dsql_laws.specs.history.declared.event.Op.TheVariants as ops
use Rattle.dsql_laws.specs.history.Readers.Unfinished.{is_unfinished}
use Rattle.dsql_laws.specs.history.Readers.Works.{works, work, work_of, rows_maker, tx_maker, scope, hands_out_in}
use Rattle.dsql_laws.specs.history.Legal.{Lawful}
use Rattle.dsql_laws_calls.proofs.Works.{is_look, work_stays, enters_next, new_work}
use Rattle.std.specs.Option.{option_map}
use Rattle.dsql_laws_calls.proofs.EndedRows.{mapped_rows, born_stays, rows_at_end_of}

-- Rows that are ended aren't live.
pub ended_live : (by : RowsEnd) (r : Rows) → is_live (ended_by by r) ≡ false
ended_live by r =
    elim r.ended as (λ o. is_none (cond (is_none o) (record r { ended = Some by }) (record r { ended = o })).ended ≡ false) [ None ↦ refl | Some end ↦ refl ]

-- The rows of each call, by its number.

abbrev are_live_in : ℕ → Made → Bool
are_live_in n rows = live (rows_of n rows)

-- Holds if the change revives no rows.
abbrev Ends : (Rows → Rows) → Type 0
Ends f = (r : Rows) → is_live r ≡ false → is_live (f r) ≡ false

changed_ends : (f : Rows → Rows) (j n : ℕ) (R : Made) → Ends f → are_live_in n R ≡ false → are_live_in n (changed f j R) ≡ false
changed_ends f j n [] e h = refl
changed_ends f j n (x ∷ xs) e h = by_change (changed_ends f j n xs e) (j == x.0)
  where
    later : (are_live_in n xs ≡ false → are_live_in n (changed f j xs) ≡ false) → (b : Bool) → live (cond b (Some x.1) (rows_of n xs)) ≡ false → live (cond b (Some x.1) (rows_of n (changed f j xs))) ≡ false
    later rest true k = k
    later rest false k = rest k

    here : (b : Bool) → live (cond b (Some x.1) (rows_of n xs)) ≡ false → live (cond b (Some (f x.1)) (rows_of n xs)) ≡ false
    here true k = e x.1 k
    here false k = k

    by_change : (are_live_in n xs ≡ false → are_live_in n (changed f j xs) ≡ false) → (b : Bool) → are_live_in n (if b then (x.0, f x.1) ∷ xs else x ∷ changed f j xs) ≡ false
    by_change rest true = here (n == x.0) h
    by_change rest false = later rest (n == x.0) h

live_in_more : (n m : ℕ) (r : Rows) (R : Made) → are_live_in n R ≡ true → are_live_in n (R ++ (m, r) ∷ []) ≡ true
live_in_more n m r [] h = absurd cc
live_in_more n m r (x ∷ xs) h = by (live_in_more n m r xs) (n == x.0) h
  where
    by : (are_live_in n xs ≡ true → are_live_in n (xs ++ (m, r) ∷ []) ≡ true) → (b : Bool) → live (cond b (Some x.1) (rows_of n xs)) ≡ true → live (cond b (Some x.1) (rows_of n (xs ++ (m, r) ∷ []))) ≡ true
    by rest true k = k
    by rest false k = rest k

live_ended : (by : RowsEnd) (o : Option Rows) → live (option_map (ended_by by) o) ≡ false
live_ended by None = refl
live_ended by (Some r) = ended_live by r

pub none_at_end : (H : List Event) (n : ℕ) → are_live (Ended ∷ H) n ≡ false
none_at_end H n = ap live (rows_at_end_of H (handed_out H) n) ∙ live_ended (last_end (scope (work H n))) (rows_by H n)

-- The rows of a transaction that ends.
born_ends : (late : Bool) (o : Option Rows) → live o ≡ false → live (option_map (born late) o) ≡ false
born_ends late None h = refl
born_ends late (Some r) h = born_stays late r h

ended_ends : (H : List Event) (tx : List ℕ) (n : ℕ) (R : Made) → are_live_in n R ≡ false → are_live_in n (ended_with H tx R) ≡ false
ended_ends H tx n R h = by (is_unfinished H (tx_maker (works H) tx))
  where
    by : (b : Bool) → are_live_in n (cond b R (map (end_in H (tx_maker (works H) tx)) R)) ≡ false
    by true = h
    by false =
        ap live (mapped_rows (λ k. born (hands_out_in (tx_maker (works H) tx) (work H k))) n R)
        ∙ born_ends (hands_out_in (tx_maker (works H) tx) (work H n)) (rows_of n R) h

-- A call that closes rows as it enters revives none.
entered_ends : (H : List Event) (op : Op) (n : ℕ) (R : Made) → are_live_in n R ≡ false → are_live_in n (rows_entered H op R) ≡ false
entered_ends H (ops.RowsClose label) n R h = by (is_unfinished H (rows_maker (works H) label))
  where
    by : (b : Bool) → are_live_in n (cond b R (changed (ended_by ends.Close) (rows_maker (works H) label) R)) ≡ false
    by true = h
    by false = changed_ends (ended_by ends.Close) (rows_maker (works H) label) n R (λ r k. ended_live ends.Close r) h
entered_ends H (ops.Commit tx) n R h = ended_ends H tx n R h
entered_ends H (ops.Rollback tx) n R h = ended_ends H tx n R h
entered_ends H op n R h = h

pub entering_revives_none : (H : List Event) (client m : ℕ) (op : Op) (n : ℕ) → are_live H n ≡ false → are_live (Entered client m op ∷ H) n ≡ false
entering_revives_none H client m op n h = entered_ends H op n (handed_out H) h

-- The calls that end rows.

-- Is true if the call fetches from rows, closes them, or ends their transaction.
abbrev pub is_worker : Work → Bool
is_worker (Fetch k) = true
is_worker (Close k) = true
is_worker (End k) = true
is_worker _ = false

never : true ≡ false → ⊥
never h = cc

closes_only : (H : List Event) (op : Op) (n : ℕ) → are_live H n ≡ true → are_live_in n (rows_entered H op (handed_out H)) ≡ false → is_worker (work_of (works H) op) ≡ true
closes_only H (ops.RowsClose label) n was now = refl
closes_only H (ops.Next rows) n was now = refl
closes_only H (ops.Commit tx) n was now = refl
closes_only H (ops.Rollback tx) n was now = refl
closes_only H op n was now = absurd (never (sym was ∙ now))

fetches_only : (H : List Event) (it : Work) (m : ℕ) (q : DriverCall) (a : DriverAnswer) (R : Made) (n : ℕ) → are_live_in n R ≡ true → are_live_in n (rows_heard H it m q a R) ≡ false → is_worker it ≡ true
fetches_only H (Fetch k) m q a R n was now = refl
fetches_only H (Close k) m q a R n was now = refl
fetches_only H (Statement s (HandOut label)) m (Query input params) (Cursor cursor columns) R n was now = absurd (never (sym (live_in_more n m (born (is_late H s) (fresh cursor columns)) R was) ∙ now))
fetches_only H (Statement s (HandOut label)) m q a R n was now = absurd (never (sym was ∙ now))
fetches_only H it m q a R n was now = absurd (never (sym was ∙ now))

-- If an event of a call ends live rows, that call fetches from rows, closes them, or ends a transaction.
ends_work : (H : List Event) (e : Event) (n : ℕ) → Lawful (e ∷ H) → are_live H n ≡ true → are_live (e ∷ H) n ≡ false → caller e ≢ 0 → is_worker (work (e ∷ H) (caller e)) ≡ true
ends_work H (Entered client m op) n l was now some =
    let new = enters_next H client m op l.1 in
    ap is_worker (new_work H client m op new) ∙ closes_only H op n was now
ends_work H (Heard e) n l was now some = fetches_only H (work H e.call_no) e.call_no e.call e.answer (handed_out H) n was now
ends_work H _ n l was now some = absurd (some refl)

pub worker_sends : (w : Work) → is_worker w ≡ true → is_look w ≡ false
worker_sends (Fetch k) h = refl
worker_sends (Close k) h = refl
worker_sends (End k) h = refl
worker_sends _ h = absurd cc

-- Every call that has ended rows fetches from them, closes them, or ends their transaction.
pub ender_works : (H : List Event) (n : ℕ) → Lawful H → ender H n ≢ 0 → is_worker (work H (ender H n)) ≡ true
ender_works [] n l some = absurd (some refl)
ender_works (e ∷ H) n l some = by_before (ender_works H n l.0) (are_live H n) refl
  where
    by_now : (b : Bool) → are_live (e ∷ H) n ≡ b → are_live H n ≡ true → (m : ℕ) → ended_at e b ≡ m → m ≢ 0 → is_worker (work (e ∷ H) m) ≡ true
    by_now true now was m is k = absurd (k (sym is))
    by_now false now was m is k = subst (λ j. is_worker (work (e ∷ H) j) ≡ true) is (ends_work H e n l was now (λ none. k (sym is ∙ none)))

    by_before : (ender H n ≢ 0 → is_worker (work H (ender H n)) ≡ true) → (b : Bool) → are_live H n ≡ b → is_worker (work (e ∷ H) (ender (e ∷ H) n)) ≡ true
    by_before earlier true was =
        let its : ender (e ∷ H) n ≡ ended_at e (are_live (e ∷ H) n) = ap (λ b. cond b (ended_at e (are_live (e ∷ H) n)) (ender H n)) was in
        by_now (are_live (e ∷ H) n) refl was (ender (e ∷ H) n) (sym its) some
    by_before earlier false was =
        let its : ender (e ∷ H) n ≡ ender H n = ap (λ b. cond b (ended_at e (are_live (e ∷ H) n)) (ender H n)) was in
        let before = earlier (λ none. some (its ∙ none)) in
        let stays = work_stays H e (ender H n) (worker_sends (work H (ender H n)) before) in
        ap (λ m. is_worker (work (e ∷ H) m)) its ∙ (ap is_worker stays ∙ before)
