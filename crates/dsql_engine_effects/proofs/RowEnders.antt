-- Who ended rows, and what is kept of it. The argument is that rows that are over stay over.
use Rattle.std.proofs.Common.{◌≡◌, ◌≢◌, ℕ, zero, suc, ◌<◌, Bool, true, false, ◌&&◌, cond, eqb, List, [], ◌∷◌, ◌++◌, length, Option, Some, None, refl, sym, ap, subst, ◌∙◌, arith, is_some}
use Rattle.std.specs.Prelude.{option_map, if◌then◌else◌}
use Rattle.dsql_history.specs.value.declared.value.Param.{Param}
use Rattle.dsql_history.specs.driver.declared.call.DriverCall.{DriverCall}
use Rattle.dsql_history.specs.driver.declared.call.DriverCall.TheVariants.{Query, Next}
use Rattle.dsql_history.specs.driver.declared.call.Input.{Input}
use Rattle.dsql_history.specs.driver.declared.answer.DriverAnswer.{DriverAnswer}
use Rattle.dsql_history.specs.driver.declared.answer.DriverAnswer.TheVariants as answers
use Rattle.dsql_history.specs.journal.declared.entry.Entry.{Entry}
use Rattle.dsql_history.specs.numbered.Numbered.{Numbered, thing_of, changed}
use Rattle.dsql_history.proofs.numbered.Numbers.{changes_one_number}
use Rattle.dsql_history.specs.rows.declared.end.RowsEnd.{RowsEnd}
use Rattle.dsql_history.specs.rows.declared.end.RowsEnd.TheVariants as ends
use Rattle.dsql_history.specs.rows.declared.rows.Rows.{Rows}
use Rattle.dsql_history.specs.rows.OpenRows.{fresh, is_live, rows_of, was_made, ended_by}
use Rattle.dsql_history.specs.tx.declared.tx.Tx.{Tx}
use Rattle.dsql_history.specs.works.HandedOut.{Made, after_fetch}
use Rattle.dsql_history.specs.Readers.HandedOut.{fetched, live, born, caller, ended_with, ender, handed_out, is_late, last_end, rows_by, rows_heard, rows_entered}
use Rattle.dsql_engine_effects.specs.Heard.{is_end, HearsRows, calls_after, ended_for}
use Rattle.dsql_engine_effects.specs.Starts.{closed_rows, closed_by}
use Rattle.dsql_history.specs.declared.event.Event.{Event}
use Rattle.dsql_history.specs.declared.event.Event.TheVariants.{Entered, Heard, Ended}
use Rattle.dsql_history.specs.declared.event.Op.{Op}
use Rattle.dsql_history.specs.declared.event.Op.TheVariants.{RowsClose, Commit, Rollback}
use Rattle.dsql_history.specs.declared.work.Scope.{Scope}
use Rattle.dsql_history.specs.declared.work.Work.{Work}
use Rattle.dsql_history.specs.declared.work.Task.TheVariants.{HandOut}
use Rattle.dsql_history.specs.declared.work.Work.TheVariants.{Statement, Fetch}
use Rattle.dsql_history.specs.Readers.Unfinished.{is_unfinished}
use Rattle.dsql_history.specs.Readers.Works.{hands_out_in, rows_maker, scope, tx_maker, work, works}
use Rattle.dsql_engine_calls.specs.declared.call.CallRow.{CallRow}
use Rattle.dsql_engine_calls.specs.declared.call.Ending.{Ending}
use Rattle.dsql_engine_calls.specs.Calls.{row_at, with_ender, with_tx_ender}
use Rattle.dsql_engine_calls.proofs.CallRows.{as_many, changed_at, changed_beside, same_at}
use Rattle.dsql_engine_effects.specs.Ended.{calls_ended, calls_with_end, ended_if, going, is_such, numbered, rows_ended, rows_with_end, tx_ended_for, works_of}
use Rattle.dsql_engine_effects.proofs.EndedRows.{all_ended_works, tx_ended_works, untouched}
use Rattle.dsql_engine_effects.proofs.FirstEnds.{AreEnded, Goes, by_number, changed_goes, each_goes, found_first, stays}
use Rattle.dsql_engine_effects.proofs.FirstEnds as first

-- Rows that are over stay over.

ended_dead : (by : RowsEnd) (rows : Rows) → live (Some (ended_by by rows)) ≡ true → live (Some rows) ≡ true
ended_dead by rows = by_live (is_live rows) refl
  where
    by_live : (b : Bool) → is_live rows ≡ b → is_live (if b then record rows { ended = Some by } else rows) ≡ true → is_live rows ≡ true
    by_live true is h = is
    by_live false is h = h

fetched_dead : (answer : DriverAnswer) (rows : Rows) → live (Some (fetched answer rows)) ≡ true → live (Some rows) ≡ true
fetched_dead answer rows = by_live (is_live rows) refl
  where
    by_live : (b : Bool) → is_live rows ≡ b → is_live (cond b (after_fetch answer rows) rows) ≡ true → is_live rows ≡ true
    by_live true is h = is
    by_live false is h = h

born_dead : (late : Bool) (rows : Rows) → live (Some (born late rows)) ≡ true → live (Some rows) ≡ true
born_dead true rows h = ended_dead ends.TxEnded rows h
born_dead false rows h = h

heard_goes : (H : List Event) (it : Work) (m n : ℕ) (call : DriverCall) (answer : DriverAnswer) (rows : Made) → Goes live (rows_of n rows) (rows_of n (rows_heard H it m call answer rows))
heard_goes H (Statement it (HandOut label)) m n (Query input params) (answers.Cursor cursor columns) rows = found_first live n m (born (is_late H it) (fresh cursor columns)) rows
heard_goes H (Fetch k) m n (Next cursor) answer rows = changed_goes live (fetched answer) (fetched_dead answer) k n rows
heard_goes H it m n call answer rows = stays live (rows_of n rows)

with_goes : (H : List Event) (tx : List ℕ) (n : ℕ) → Goes live (rows_by H n) (rows_of n (ended_with H tx (handed_out H)))
with_goes H tx n = by (is_unfinished H (tx_maker (works H) tx)) refl
  where
    by : (b : Bool) → is_unfinished H (tx_maker (works H) tx) ≡ b → Goes live (rows_by H n) (rows_of n (ended_with H tx (handed_out H)))
    by true is = rw is (stays live (rows_by H n))
    by false is =
        rw is
        (each_goes live (λ q r. born (hands_out_in (tx_maker (works H) tx) (work H q)) r) (λ q r. born_dead (hands_out_in (tx_maker (works H) tx) (work H q)) r) n (handed_out H))

closed_goes : (H : List Event) (label : List ℕ) (n : ℕ) → Goes live (rows_by H n) (rows_of n (rows_entered H (RowsClose label) (handed_out H)))
closed_goes H label n =
    elim (is_unfinished H (rows_maker (works H) label)) as (λ b. Goes live (rows_by H n) (rows_of n (cond b (handed_out H) (changed (ended_by ends.Close) (rows_maker (works H) label) (handed_out H))))) [
      | true ↦ stays live (rows_by H n)
      | false ↦ changed_goes live (ended_by ends.Close) (ended_dead ends.Close) (rows_maker (works H) label) n (handed_out H)
    ]

goes : (H : List Event) (e : Event) (n : ℕ) → Goes live (rows_by H n) (rows_by (e ∷ H) n)
goes H (Entered client m (RowsClose label)) n = closed_goes H label n
goes H (Entered client m (Commit tx)) n = with_goes H tx n
goes H (Entered client m (Rollback tx)) n = with_goes H tx n
goes H (Heard e) n = heard_goes H (work H e.call_no) e.call_no n e.call e.answer (handed_out H)
goes H Ended n = each_goes live (λ q r. ended_by (last_end (scope (work H q))) r) (λ q r. ended_dead (last_end (scope (work H q))) r) n (handed_out H)
goes H _ n = stays live (rows_by H n)

pub rows_are_ended : AreEnded live rows_by caller ender
rows_are_ended = record { nothing = refl; first = λ n. refl; next = λ H e n. refl; goes = goes }

-- An event of no call changes no ender of rows.
pub ender_of_none : (H : List Event) (e : Event) (n : ℕ) → caller e ≡ 0 → ender (e ∷ H) n ≡ ender H n
ender_of_none H e n none = first.ender_of_none live rows_by caller ender rows_are_ended H e n none

-- What the calls keep of the ender.

ended_here : (b : Bool) (k n : ℕ) (calls : List CallRow) → (b ≡ true → k < length calls) → (row_at (ended_for b k n calls) k).ender ≡ cond b n (row_at calls k).ender
ended_here true k n calls within = ap (λ (row : CallRow). row.ender) (changed_at (with_ender n) k calls (within refl))
ended_here false k n calls within = refl

ended_there : (b : Bool) (k n m : ℕ) (calls : List CallRow) → m ≢ k → (row_at (ended_for b k n calls) m).ender ≡ (row_at calls m).ender
ended_there true k n m calls apart = ap (λ (row : CallRow). row.ender) (changed_beside (with_ender n) k m calls apart)
ended_there false k n m calls apart = refl

ended_over : (by : RowsEnd) (o : Option Rows) → live (option_map (ended_by by) o) ≡ false
ended_over by None = refl
ended_over by (Some rows) = elim (is_live rows) as (λ b. is_live rows ≡ b → is_live (if b then record rows { ended = Some by } else rows) ≡ false) [ true ↦ λ is. refl | false ↦ λ is. is ] refl

-- Holds if call n ends the rows of call m or leaves them, and the calls record that. `rows` are the rows before
-- it and `after` those after it.
pub record EndsRows (n : ℕ) (rows after : Made) (calls noted : List CallRow) (m : ℕ) : Type 0 where
  pub ends : Bool
  pub kept : (row_at noted m).ender ≡ cond ends n (row_at calls m).ender
  pub over : ends ≡ true → (live (rows_of m rows) ≡ true) × (live (rows_of m after) ≡ false)
  pub on : ends ≡ false → live (rows_of m after) ≡ live (rows_of m rows)

nothing_ends : (n : ℕ) (rows : Made) (calls : List CallRow) (m : ℕ) → EndsRows n rows rows calls calls m
nothing_ends n rows calls m = record { ends = false; kept = refl; over = λ is. absurd cc; on = λ is. refl }

one_ends : (by : RowsEnd) (k n : ℕ) (rows : Made) (calls : List CallRow) (m : ℕ) → (live (rows_of k rows) ≡ true → k < length calls) → EndsRows n rows (changed (ended_by by) k rows) calls (ended_for (live (rows_of k rows)) k n calls) m
one_ends by k n rows calls m within =
    by_number k m (EndsRows n rows (changed (ended_by by) k rows) calls (ended_for (live (rows_of k rows)) k n calls) m)
    (λ at. subst (λ (i : ℕ). EndsRows n rows (changed (ended_by by) k rows) calls (ended_for (live (rows_of k rows)) k n calls) i) (sym at) here)
    (λ apart.
    record {
      ends = false;
      kept = ended_there (live (rows_of k rows)) k n m calls apart;
      over = λ is. absurd cc;
      on = λ is. ap live (changes_one_number.others (ended_by by) k m rows apart);
    })
  where
    dead : live (rows_of k (changed (ended_by by) k rows)) ≡ false
    dead = ap live (changes_one_number.changes (ended_by by) k rows) ∙ ended_over by (rows_of k rows)

    here : EndsRows n rows (changed (ended_by by) k rows) calls (ended_for (live (rows_of k rows)) k n calls) k
    here = record {
      ends = live (rows_of k rows);
      kept = ended_here (live (rows_of k rows)) k n calls within;
      over = λ is. (is, dead);
      on = λ is. dead ∙ sym is;
    }

-- If two changes in turn end the rows of a call or leave them, then so do both together.
pub then_ends : (n : ℕ) (rows between after : Made) (calls meanwhile noted : List CallRow) (m : ℕ) → EndsRows n rows between calls meanwhile m → EndsRows n between after meanwhile noted m → EndsRows n rows after calls noted m
then_ends n rows between after calls meanwhile noted m one two = by one.ends refl two.ends refl
  where
    by : (b : Bool) → one.ends ≡ b → (d : Bool) → two.ends ≡ d → EndsRows n rows after calls noted m
    by true is true also = absurd (let dead = one.over is in let lived = two.over also in let no : false ≡ true = sym dead.1 ∙ lived.0 in cc)
    by true is false also =
        let o = one.over is in
        record {
          ends = true;
          kept = two.kept ∙ (ap (λ (b : Bool). cond b n (row_at meanwhile m).ender) also ∙ (one.kept ∙ ap (λ (b : Bool). cond b n (row_at calls m).ender) is));
          over = λ ends. (o.0, two.on also ∙ o.1);
          on = λ ends. absurd cc;
        }
    by false is true also =
        let o = two.over also in
        record {
          ends = true;
          kept = two.kept ∙ ap (λ (b : Bool). cond b n (row_at meanwhile m).ender) also;
          over = λ ends. (sym (one.on is) ∙ o.0, o.1);
          on = λ ends. absurd cc;
        }
    by false is false also =
        record {
          ends = false;
          kept = two.kept ∙ (ap (λ (b : Bool). cond b n (row_at meanwhile m).ender) also ∙ (one.kept ∙ ap (λ (b : Bool). cond b n (row_at calls m).ender) is));
          over = λ ends. absurd cc;
          on = λ ends. two.on also ∙ one.on is;
        }

was_live : (k : ℕ) (rows : Made) → live (rows_of k rows) ≡ true → was_made k rows ≡ true
was_live k rows = by (rows_of k rows)
  where
    by : (o : Option Rows) → live o ≡ true → is_some o ≡ true
    by None is = absurd cc
    by (Some it) is = refl

-- A call that closes rows ends those rows only.
pub closing_ends : (closes : Option ℕ) (n : ℕ) (rows : Made) (calls : List CallRow) (m : ℕ) → ((k : ℕ) → was_made k rows ≡ true → k < length calls) → EndsRows n rows (closed_rows closes rows) calls (closed_by closes n rows calls) m
closing_ends None n rows calls m known = nothing_ends n rows calls m
closing_ends (Some k) n rows calls m known = one_ends ends.Close k n rows calls m (λ lived. known k (was_live k rows lived))

as_long : (such : Work → Bool) (from : ℕ) (ws : List Work) (n : ℕ) (rows : Made) (i : ℕ) (calls : List CallRow) → length (calls_ended such from ws n rows i calls) ≡ length calls
as_long such from ws n rows i calls =
    sym (as_many (λ (row : CallRow). row.work) (calls_ended such from ws n rows i calls)) ∙ (ap length (all_ended_works such from ws n rows i calls) ∙ as_many (λ (row : CallRow). row.work) calls)

next_ends : (such : Bool) (i n : ℕ) (rows so_far : Made) (calls : List CallRow) (m : ℕ) → rows_of i so_far ≡ rows_of i rows → (live (rows_of i rows) ≡ true → i < length calls)
    → EndsRows n so_far (ended_if such i so_far) calls (ended_for (such && live (rows_of i rows)) i n calls) m
next_ends true i n rows so_far calls m there within =
    subst (λ (o : Option Rows). EndsRows n so_far (changed (ended_by ends.TxEnded) i so_far) calls (ended_for (live o) i n calls) m) there
    (one_ends ends.TxEnded i n so_far calls m (λ lived. within (ap live (sym there) ∙ lived)))
next_ends false i n rows so_far calls m there within = nothing_ends n so_far calls m

all_end : (such : Work → Bool) (from : ℕ) (ws : List Work) (n : ℕ) (rows : Made) (i : ℕ) (calls : List CallRow) (m : ℕ) → ((k : ℕ) → was_made k rows ≡ true → k < length calls)
    → EndsRows n rows (rows_ended such from ws i rows) calls (calls_ended such from ws n rows i calls) m
all_end such from ws n rows zero calls m known = nothing_ends n rows calls m
all_end such from ws n rows (suc i) calls m known =
    let many = as_long such from ws n rows i calls in
    then_ends n rows (rows_ended such from ws i rows) (rows_ended such from ws (suc i) rows) calls (calls_ended such from ws n rows i calls) (calls_ended such from ws n rows (suc i) calls) m (all_end such from ws n rows i calls m known)
    (next_ends (is_such such from ws i) i n rows (rows_ended such from ws i rows) (calls_ended such from ws n rows i calls) m (untouched such from ws i i rows (omega arith))
    (λ lived. let within = known i (was_live i rows lived) in omega (arith, within, many)))

-- A call that ends a transaction ends its rows only.
pub with_end_ends : (it : Option Ending) (n : ℕ) (txs : Numbered Tx) (rows : Made) (calls : List CallRow) (m : ℕ) → ((k : ℕ) → was_made k rows ≡ true → k < length calls)
    → EndsRows n rows (rows_with_end it (works_of calls) rows) calls (calls_with_end it n txs rows calls) m
with_end_ends None n txs rows calls m known = nothing_ends n rows calls m
with_end_ends (Some it) n txs rows calls m known =
    let b = going (thing_of it.tx txs) in
    let many : length (tx_ended_for b it.tx n calls) ≡ length calls
    = sym (as_many (λ (row : CallRow). row.work) (tx_ended_for b it.tx n calls)) ∙ (ap length (tx_ended_works b it.tx n calls) ∙ as_many (λ (row : CallRow). row.work) calls) in
    then_ends n rows rows (rows_with_end (Some it) (works_of calls) rows) calls (tx_ended_for b it.tx n calls) (calls_with_end (Some it) n txs rows calls) m (noted b it.tx n rows calls m)
    (all_end (hands_out_in it.tx) it.tx (works_of calls) n rows (numbered (works_of calls)) (tx_ended_for b it.tx n calls) m (λ k made. let within = known k made in omega (arith, within, many)))
  where
    noted : (b : Bool) (k n : ℕ) (rows : Made) (calls : List CallRow) (m : ℕ) → EndsRows n rows rows calls (tx_ended_for b k n calls) m
    noted true k n rows calls m = record { ends = false; kept = same_at (λ (row : CallRow). row.ender) (with_tx_ender n) k calls m (λ row. refl); over = λ is. absurd cc; on = λ is. refl }
    noted false k n rows calls m = nothing_ends n rows calls m

-- After a call enters, the calls record who ended the rows of each call.
pub ender_entered : (H : List Event) (client n : ℕ) (op : Op) (after : Made) (calls noted : List CallRow) (m : ℕ) → after ≡ rows_entered H op (handed_out H) → EndsRows n (handed_out H) after calls noted m → (row_at calls m).ender ≡ ender H m
    → (row_at noted m).ender ≡ ender (Entered client n op ∷ H) m
ender_entered H client n op after calls noted m is it had =
    first.ender_kept live rows_by caller ender rows_are_ended H (Entered client n op) m it.ends (row_at calls m).ender (row_at noted m).ender it.kept had
    (λ ending. let o = it.over ending in (o.0, ap (λ (rows : Made). live (rows_of m rows)) (sym is) ∙ o.1))
    (λ leaving lived. ap (λ (rows : Made). live (rows_of m rows)) (sym is) ∙ (it.on leaving ∙ lived))

-- What an answer says of the ender.

both : (a b : Bool) → (a && b) ≡ true → (a ≡ true) × (b ≡ true)
both true b is = (refl, is)
both false b is = absurd cc

end_ends : (answer : DriverAnswer) (o : Option Rows) → is_end answer ≡ true → live (option_map (fetched answer) o) ≡ false
end_ends answer None is = refl
end_ends answer (Some rows) is = by (is_live rows) refl
  where
    by : (b : Bool) → is_live rows ≡ b → is_live (cond b (after_fetch answer rows) rows) ≡ false
    by false over = over
    by true lived = ends_by answer is
      where
        ends_by : (a : DriverAnswer) → is_end a ≡ true → is_live (after_fetch a rows) ≡ false
        ends_by answers.End e = rw lived refl
        ends_by (answers.Fail text) e = rw lived refl
        ends_by answers.Bad e = rw lived refl
        ends_by _ e = absurd cc

other_lives : (answer : DriverAnswer) (o : Option Rows) → is_end answer ≡ false → live o ≡ true → live (option_map (fetched answer) o) ≡ true
other_lives answer None is lived = absurd cc
other_lives answer (Some rows) is lived = rw lived (goes_on answer is)
  where
    goes_on : (a : DriverAnswer) → is_end a ≡ false → is_live (after_fetch a rows) ≡ true
    goes_on answers.End e = absurd cc
    goes_on (answers.Fail text) e = absurd cc
    goes_on answers.Bad e = absurd cc
    goes_on (answers.Row values) e = lived
    goes_on _ e = lived

pushed_lives : (n m : ℕ) (new : Rows) (made : Made) → live (rows_of n made) ≡ true → live (rows_of n (made ++ (m, new) ∷ [])) ≡ true
pushed_lives n m new [] lived = absurd cc
pushed_lives n m new (it ∷ later) lived =
    elim (eqb n it.0) as (λ b. live (cond b (Some it.1) (rows_of n later)) ≡ true → live (cond b (Some it.1) (rows_of n (later ++ (m, new) ∷ []))) ≡ true) [ true ↦ λ h. h | false ↦ λ h. pushed_lives n m new later h ] lived

pub heard_ends : (H : List Event) (e : Entry) (it : Work) (calls : List CallRow) → work H e.call_no ≡ it → HearsRows it e.call_no e.call (handed_out H) → ((k : ℕ) → was_made k (handed_out H) ≡ true → k < length calls)
    → ((m : ℕ) → (row_at calls m).ender ≡ ender H m) → (m : ℕ) → (row_at (calls_after it e.call_no e.call e.answer (handed_out H) calls) m).ender ≡ ender (Heard e ∷ H) m
heard_ends H e it calls is hears known had = by it e.call refl is hears
  where
    after : (w : Work) (q : DriverCall) → e.call ≡ q → work H e.call_no ≡ w → (m : ℕ) → rows_by (Heard e ∷ H) m ≡ rows_of m (rows_heard H w e.call_no q e.answer (handed_out H))
    after w q asked does m = ap (λ (x : Work). rows_of m (rows_heard H x e.call_no e.call e.answer (handed_out H))) does ∙ ap (λ (x : DriverCall). rows_of m (rows_heard H w e.call_no x e.answer (handed_out H))) asked

    still : (w : Work) (q : DriverCall) → e.call ≡ q → work H e.call_no ≡ w → ((m : ℕ) → live (rows_by H m) ≡ true → live (rows_of m (rows_heard H w e.call_no q e.answer (handed_out H))) ≡ true)
        → (m : ℕ) → (row_at calls m).ender ≡ ender (Heard e ∷ H) m
    still w q asked does lives m = had m ∙ sym (first.ender_stays live rows_by caller ender rows_are_ended H (Heard e) m (λ lived. ap live (after w q asked does m) ∙ lives m lived))

    pushed : (m : ℕ) (a : DriverAnswer) (it : Scope) (label : List ℕ) (input : Input) (params : List Param) → live (rows_by H m) ≡ true → live (rows_of m (rows_heard H (Statement it (HandOut label)) e.call_no (Query input params) a (handed_out H))) ≡ true
    pushed m (answers.Cursor cursor columns) it label input params lived = pushed_lives m e.call_no (born (is_late H it) (fresh cursor columns)) (handed_out H) lived
    pushed m a it label input params lived = lived

    fetching : (k cursor : ℕ) → e.call ≡ Next cursor → work H e.call_no ≡ Fetch k → was_made k (handed_out H) ≡ true
        → (m : ℕ) → (row_at (ended_for (live (rows_by H k) && is_end e.answer) k e.call_no calls) m).ender ≡ ender (Heard e ∷ H) m
    fetching k cursor asked does made m =
        by_number k m ((row_at (ended_for (live (rows_by H k) && is_end e.answer) k e.call_no calls) m).ender ≡ ender (Heard e ∷ H) m)
        (λ at. subst (λ (i : ℕ). (row_at (ended_for (live (rows_by H k) && is_end e.answer) k e.call_no calls) i).ender ≡ ender (Heard e ∷ H) i) (sym at)
        (first.ender_kept live rows_by caller ender rows_are_ended H (Heard e) k (live (rows_by H k) && is_end e.answer) (row_at calls k).ender _ (ended_here (live (rows_by H k) && is_end e.answer) k e.call_no calls (λ ends. known k made)) (had k)
        (λ ending.
        let b = both (live (rows_by H k)) (is_end e.answer) ending in
        (b.0, ap live (after (Fetch k) (Next cursor) asked does k ∙ changes_one_number.changes (fetched e.answer) k (handed_out H)) ∙ end_ends e.answer (rows_by H k) b.1))
        (λ leaving lived.
        let other : is_end e.answer ≡ false = ap (λ (b : Bool). b && is_end e.answer) (sym lived) ∙ leaving in
        ap live (after (Fetch k) (Next cursor) asked does k ∙ changes_one_number.changes (fetched e.answer) k (handed_out H)) ∙ other_lives e.answer (rows_by H k) other lived)))
        (λ apart.
        first.ender_kept live rows_by caller ender rows_are_ended H (Heard e) m false (row_at calls m).ender _ (ended_there (live (rows_by H k) && is_end e.answer) k e.call_no m calls apart) (had m) (λ ending. absurd cc)
        (λ leaving lived. ap live (after (Fetch k) (Next cursor) asked does m ∙ changes_one_number.others (fetched e.answer) k m (handed_out H) apart) ∙ lived))

    by : (w : Work) (q : DriverCall) → e.call ≡ q → work H e.call_no ≡ w → HearsRows w e.call_no q (handed_out H) → (m : ℕ) → (row_at (calls_after w e.call_no q e.answer (handed_out H) calls) m).ender ≡ ender (Heard e ∷ H) m
    by (Statement it (HandOut label)) (Query input params) asked does new = still (Statement it (HandOut label)) (Query input params) asked does (λ m lived. pushed m e.answer it label input params lived)
    by (Fetch k) (Next cursor) asked does made = fetching k cursor asked does made
    by w q asked does hear = still w q asked does (λ m lived. lived)
