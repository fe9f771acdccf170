-- Rows were handed out by the call that they belong to, and a transaction was begun by the call that has its
-- number.
use Rattle.std.proofs.Common.{◌≡◌, ◌≢◌, ℕ, ◌+◌, ◌==◌, ◌⊎◌, inl, inr, Bool, true, false, ◌&&◌, ◌||◌, cond, List, [], ◌∷◌, ◌++◌, map, Option, Some, None, is_some, is_none, refl, sym, ap, ◌∙◌}
use Rattle.dsql_laws.specs.driver.declared.call.DriverCall.{DriverCall}
use Rattle.dsql_laws.specs.driver.declared.call.DriverCall.TheVariants.{Query, Next}
use Rattle.dsql_laws.specs.driver.declared.caps.Caps.{Caps}
use Rattle.dsql_laws.specs.driver.declared.answer.DriverAnswer.{DriverAnswer}
use Rattle.dsql_laws.specs.driver.declared.answer.DriverAnswer.TheVariants.{Cursor}
use Rattle.dsql_laws.specs.driver.Kinds.{is_begin, is_ending, is_valid}
use Rattle.std.specs.List.{list_any}
use Rattle.dsql_laws.specs.course.declared.course.Wish.{Wish}
use Rattle.dsql_laws.specs.course.declared.course.Wish.TheVariants as wishes
use Rattle.dsql_laws.specs.course.Made.{or_else}
use Rattle.dsql_laws.specs.journal.declared.entry.Entry.{Entry}
use Rattle.dsql_laws.specs.journal.Kinds.{number_of}
use Rattle.dsql_laws.specs.journal.Readers.{went_bad}
use Rattle.dsql_laws.specs.pool.declared.conn.Place.{Place}
use Rattle.dsql_laws.specs.pool.declared.conn.Place.TheVariants.{Lent}
use Rattle.dsql_laws.specs.rows.declared.rows.Rows.{Rows}
use Rattle.dsql_laws.specs.rows.declared.end.RowsEnd.TheVariants as ends
use Rattle.dsql_laws.specs.numbered.Numbered.{changed}
use Rattle.dsql_laws.specs.rows.OpenRows.{fresh, ended_by, rows_of}
use Rattle.dsql_laws.proofs.rows.Numbers.{changes_one_number}
use Rattle.dsql_laws.specs.tx.declared.end.TxEnd.{TxEnd}
use Rattle.dsql_laws.specs.tx.declared.end.TxEnd.TheVariants as tx_ends
use Rattle.dsql_laws.specs.works.HandedOut.{Made}
use Rattle.dsql_laws.specs.works.Line.{test_of}
use Rattle.dsql_laws_work.proofs.Rows.{same_or_not}
use Rattle.dsql_laws_work.proofs.HandedLines.{as_many}
use Rattle.dsql_laws.specs.history.Readers.HandedOut.{fetched, born, is_late, end_in, ended_with, last_end, handed_out, rows_by, rows_heard, rows_entered, are_live, are_over, ender}
use Rattle.dsql_laws.specs.history.Rules.Wishes.{wish_as}
use Rattle.dsql_laws.proofs.Tests.{both, same_number}
use Rattle.dsql_laws.specs.history.declared.event.Event.{Event}
use Rattle.dsql_laws.specs.history.declared.event.Event.TheVariants.{Entered, Heard, Ended}
use Rattle.dsql_laws.specs.history.declared.event.Op.{Op}
use Rattle.dsql_laws.specs.history.declared.event.Op.TheVariants as ops
use Rattle.dsql_laws.specs.history.declared.work.Scope.{Scope}
use Rattle.dsql_laws.specs.history.declared.work.Scope.TheVariants.{Db, Held as In}
use Rattle.dsql_laws.specs.history.declared.work.Work.{Work}
use Rattle.dsql_laws.specs.history.declared.work.Task.TheVariants as tasks
use Rattle.dsql_laws.specs.history.declared.work.Work.TheVariants as works_of
use Rattle.dsql_laws.specs.history.declared.work.Task.TheVariants.{HandOut}
use Rattle.dsql_laws.specs.history.declared.work.Work.TheVariants.{Statement, Fetch}
use Rattle.dsql_laws.specs.history.Readers.Course.{caps}
use Rattle.dsql_laws.specs.history.Readers.Unfinished.{is_unfinished}
use Rattle.dsql_laws.specs.history.Readers.Works.{works, work, rows_maker, tx_maker, scope, hands_out_in, is_fetch}
use Rattle.dsql_laws.specs.history.Readers.Journals.{journal, heard_in}
use Rattle.dsql_laws.specs.history.Readers.Pool.{place, home}
use Rattle.dsql_laws.specs.history.Readers.Transactions.{tx_end, is_begun, tx_ender}
use Rattle.dsql_laws.specs.history.Readers.Calls.{decided}
use Rattle.dsql_laws.specs.history.Rules.Sent.{line_of, closes, wish, sent_for, close_due}
use Rattle.dsql_laws.specs.history.Rules.Ending.{first_closing, ended_by_call, end_after, ending_at, ending_with, ending}
use Rattle.dsql_laws.specs.history.Rules.Line.{due_inside, due_in, due_for, tidying, is_due, is_due_at, due_from, is_at, has_turn, sends_in}
use Rattle.dsql_laws_calls.proofs.EndedRows.{mapped_rows, ender_over}
use Rattle.dsql_laws_calls.proofs.LiveRows.{live_some, over_some}
use Rattle.dsql_laws_calls.proofs.Works.{is_look, work_stays}
use Rattle.dsql_laws_calls.proofs.Plain.{begins_none, begins, no_begin_due, plain_begins, line_of_plain}

-- The calls that hand rows out.

-- Is true if the call hands out rows.
abbrev pub hands_out : Work → Bool
hands_out (Statement s (HandOut label)) = true
hands_out it = false

pub hands_no_look : (it : Work) → hands_out it ≡ true → is_look it ≡ false
hands_no_look (Statement s (HandOut label)) h = refl
hands_no_look it h = absurd cc

pub some_changed : (f : Rows → Rows) (k n : ℕ) (R : Made) → is_some (rows_of n (changed f k R)) ≡ is_some (rows_of n R)
some_changed f k n R = by (same_or_not n k)
  where
    by : (n ≡ k) ⊎ (n ≢ k) → is_some (rows_of n (changed f k R)) ≡ is_some (rows_of n R)
    by (inl same) = let l = changes_one_number in ap (λ j. is_some (rows_of n (changed f j R))) (sym same) ∙ ap is_some (l.changes f n R) ∙ as_many f (rows_of n R)
    by (inr apart) = let l = changes_one_number in ap is_some (l.others f k n R apart)

pub some_mapped : (g : ℕ → Rows → Rows) (n : ℕ) (R : Made) → is_some (rows_of n (map (λ (it : ℕ × Rows). (it.0, g it.0 it.1)) R)) ≡ is_some (rows_of n R)
some_mapped g n R = ap is_some (mapped_rows g n R) ∙ as_many (g n) (rows_of n R)

some_more : (n m : ℕ) (r : Rows) (R : Made) → is_some (rows_of n (R ++ (m, r) ∷ [])) ≡ true → (is_some (rows_of n R) ≡ true) ⊎ (n ≡ m)
some_more n m r [] h = by (n == m) refl h
  where
    by : (b : Bool) → (n == m) ≡ b → is_some (cond b (Some r) None) ≡ true → (is_some (rows_of n []) ≡ true) ⊎ (n ≡ m)
    by true is k = inr (same_number n m is)
    by false is k = absurd cc
some_more n m r (x ∷ R) h = by (some_more n m r R) (n == x.0) h
  where
    by : (is_some (rows_of n (R ++ (m, r) ∷ [])) ≡ true → (is_some (rows_of n R) ≡ true) ⊎ (n ≡ m)) → (b : Bool)
        → is_some (cond b (Some x.1) (rows_of n (R ++ (m, r) ∷ []))) ≡ true → (is_some (cond b (Some x.1) (rows_of n R)) ≡ true) ⊎ (n ≡ m)
    by rest true k = inl refl
    by rest false k = rest k

some_ended : (H : List Event) (tx : List ℕ) (n : ℕ) (R : Made) → is_some (rows_of n (ended_with H tx R)) ≡ is_some (rows_of n R)
some_ended H tx n R =
    elim (is_unfinished H (tx_maker (works H) tx)) as (λ b. is_some (rows_of n (cond b R (map (end_in H (tx_maker (works H) tx)) R))) ≡ is_some (rows_of n R)) [
      | true ↦ refl
      | false ↦ some_mapped (λ k. born (hands_out_in (tx_maker (works H) tx) (work H k))) n R
    ]

pub some_entered : (H : List Event) (op : Op) (n : ℕ) (R : Made) → is_some (rows_of n (rows_entered H op R)) ≡ is_some (rows_of n R)
some_entered H (ops.RowsClose label) n R =
    elim (is_unfinished H (rows_maker (works H) label)) as (λ b. is_some (rows_of n (cond b R (changed (ended_by ends.Close) (rows_maker (works H) label) R))) ≡ is_some (rows_of n R)) [
      | true ↦ refl
      | false ↦ some_changed (ended_by ends.Close) (rows_maker (works H) label) n R
    ]
some_entered H (ops.Commit tx) n R = some_ended H tx n R
some_entered H (ops.Rollback tx) n R = some_ended H tx n R
some_entered H op n R = refl

-- An answer makes rows only for its own call, which then hands out rows.
pub some_heard : (H : List Event) (it : Work) (m : ℕ) (q : DriverCall) (a : DriverAnswer) (n : ℕ) (R : Made) → is_some (rows_of n (rows_heard H it m q a R)) ≡ true
    → (is_some (rows_of n R) ≡ true) ⊎ ((n ≡ m) × (hands_out it ≡ true))
some_heard H (Statement s (HandOut label)) m (Query input params) (Cursor cursor columns) n R h = by (some_more n m (born (is_late H s) (fresh cursor columns)) R h)
  where
    by : (is_some (rows_of n R) ≡ true) ⊎ (n ≡ m) → (is_some (rows_of n R) ≡ true) ⊎ ((n ≡ m) × (true ≡ true))
    by (inl were) = inl were
    by (inr same) = inr (same, refl)
some_heard H (Fetch k) m (Next cursor) a n R h = inl (sym (some_changed (fetched a) k n R) ∙ h)
some_heard H _ m q a n R h = inl h

still_hands : (H : List Event) (e : Event) (n : ℕ) → hands_out (work H n) ≡ true → hands_out (work (e ∷ H) n) ≡ true
still_hands H e n h = ap hands_out (work_stays H e n (hands_no_look (work H n) h)) ∙ h

pub rows_hand_out : (H : List Event) (n : ℕ) → is_some (rows_by H n) ≡ true → hands_out (work H n) ≡ true
rows_hand_out [] n h = absurd cc
rows_hand_out (Entered client m op ∷ H) n h = still_hands H (Entered client m op) n (rows_hand_out H n (sym (some_entered H op n (handed_out H)) ∙ h))
rows_hand_out (Heard e ∷ H) n h = by (rows_hand_out H n) (some_heard H (work H e.call_no) e.call_no e.call e.answer n (handed_out H) h)
  where
    by : (is_some (rows_by H n) ≡ true → hands_out (work H n) ≡ true) → (is_some (rows_by H n) ≡ true) ⊎ ((n ≡ e.call_no) × (hands_out (work H e.call_no) ≡ true)) → hands_out (work H n) ≡ true
    by rest (inl were) = rest were
    by rest (inr its) = ap (λ k. hands_out (work H k)) its.0 ∙ its.1
rows_hand_out (Ended ∷ H) n h = rows_hand_out H n (sym (some_mapped (λ k. ended_by (last_end (scope (work H k)))) n (handed_out H)) ∙ h)
rows_hand_out (_ ∷ H) n h = rows_hand_out H n h

begins_nothing : (it : Work) → hands_out it ≡ true → begins it ≡ false
begins_nothing (Statement s (HandOut label)) h = refl
begins_nothing it h = absurd cc

pub rows_begin_nothing : (H : List Event) (n : ℕ) → is_some (rows_by H n) ≡ true → begins (work H n) ≡ false
rows_begin_nothing H n h = begins_nothing (work H n) (rows_hand_out H n h)

-- If something is sent over rows, those rows were made.
pub sent_made : (H : List Event) (m k : ℕ) → (m == 0) ≡ false → is_some (sent_for H k (wish H m k)) ≡ true → is_some (rows_by H k) ≡ true
sent_made H m k some h = by (closes H m k) (is_fetch (work H m) && (are_live H k && is_none (decided H m))) refl refl h
  where
    numbered : m ≢ 0
    numbered none = never (m == 0) (ap (λ j. j == 0) none) some
      where
        never : (b : Bool) → b ≡ true → b ≡ false → ⊥
        never b x y = cc

    by : (a b : Bool) → closes H m k ≡ a → (is_fetch (work H m) && (are_live H k && is_none (decided H m))) ≡ b → is_some (sent_for H k (wish_as a b)) ≡ true → is_some (rows_by H k) ≡ true
    by true b ended fetches d = let x = both (ender H k == m) _ ended in over_some (rows_by H k) (ender_over H k (λ none. numbered (sym (same_number (ender H k) m x.0) ∙ none)))
    by false true ended fetches d =
        let x = both (is_fetch (work H m)) (are_live H k && is_none (decided H m)) fetches in
        let y = both (are_live H k) (is_none (decided H m)) x.1 in
        live_some (rows_by H k) y.0
    by false false ended fetches d = absurd cc

-- What is sent begins no transaction, except in the line of a begin.

if_some : (d : Option DriverCall) → (is_some d ≡ true → begins_none d ≡ true) → begins_none d ≡ true
if_some None h = refl
if_some (Some q) h = h refl

rows_line : (H : List Event) (n : ℕ) (w : Wish) → is_some (rows_by H n) ≡ true → begins_none (line_of H n w) ≡ true
rows_line H n w some = plain_begins (line_of H n w) (line_of_plain H n w (rows_begin_nothing H n some))

pub sent_begins : (H : List Event) (k : ℕ) (w : Wish) → is_some (rows_by H k) ≡ true → begins_none (sent_for H k w) ≡ true
sent_begins H k wishes.Nothing some = refl
sent_begins H k wishes.Fetch some = rows_line H k wishes.Fetch some
sent_begins H k wishes.Close some = rows_line H k wishes.Close some

closing_begins : (H : List Event) (n : ℕ) → begins_none (close_due H n) ≡ true
closing_begins H n = by (are_over H n) refl
  where
    by : (b : Bool) → are_over H n ≡ b → begins_none (cond b (line_of H n wishes.Close) None) ≡ true
    by true is = rows_line H n wishes.Close (over_some (rows_by H n) is)
    by false is = refl

or_begins : (c d : Option DriverCall) → begins_none c ≡ true → begins_none d ≡ true → begins_none (or_else c d) ≡ true
or_begins None d h k = k
or_begins (Some q) d h k = h

cond_begins : (b : Bool) (c d : Option DriverCall) → begins_none c ≡ true → begins_none d ≡ true → begins_none (cond b c d) ≡ true
cond_begins true c d h k = h
cond_begins false c d h k = k

first_begins : (H : List Event) (k n : ℕ) (ws : List Work) → begins_none (first_closing H k n ws) ≡ true
first_begins H k n [] = refl
first_begins H k n (it ∷ later) =
    or_begins (cond (hands_out_in k it) (close_due H n) None) (first_closing H k (n + 1) later) (cond_begins (hands_out_in k it) (close_due H n) None (closing_begins H n) refl) (first_begins H k (n + 1) later)

test_begins : (can : Caps) → begins_none (test_of can) ≡ true
test_begins can = elim can.validator as (λ b. begins_none (test_of (record can { validator = b })) ≡ true) [ true ↦ refl | false ↦ refl ]

call_begins : (end : TxEnd) → begins_none (Some (ended_by_call end)) ≡ true
call_begins tx_ends.Commit = refl
call_begins end = refl

end_begins : (H : List Event) (bad : Bool) (end : TxEnd) (L : List Entry) → begins_none (end_after H bad end L) ≡ true
end_begins H bad end L =
    cond_begins (list_any (λ e. is_ending e.call) L) (cond (bad || list_any (λ e. is_valid e.call) L) None (test_of (caps H))) (Some (ended_by_call end))
    (cond_begins (bad || list_any (λ e. is_valid e.call) L) None (test_of (caps H)) refl (test_begins (caps H))) (call_begins end)

ending_begins : (H : List Event) (k : ℕ) → begins_none (ending H k) ≡ true
ending_begins H k = by (tx_end H k)
  where
    at : (c : ℕ) (end : TxEnd) (p : Option Place) → begins_none (ending_at H k c end p) ≡ true
    at c end (Some (Lent t o)) =
        let it = or_else (first_closing H k 0 (works H)) (end_after H (went_bad (journal H c)) end (heard_in H c t)) in
        cond_begins (number_of o == k) it None
        (or_begins (first_closing H k 0 (works H)) (end_after H (went_bad (journal H c)) end (heard_in H c t)) (first_begins H k 0 (works H)) (end_begins H (went_bad (journal H c)) end (heard_in H c t))) refl
    at c end _ = refl

    by : (o : Option TxEnd) → begins_none (ending_with H k o) ≡ true
    by None = refl
    by (Some end) = at (home H k) end (place H (home H k))

tidying_begins : (H : List Event) (n : ℕ) → begins_none (tidying H n) ≡ true
tidying_begins H n =
    cond_begins (is_begun H n) (cond (tx_ender H n == 0) (ending H n) None) (cond (ender H n == 0) (close_due H n) None)
    (cond_begins (tx_ender H n == 0) (ending H n) None (ending_begins H n) refl)
    (cond_begins (ender H n == 0) (close_due H n) None (closing_begins H n) refl)

due_begins : (H : List Event) (m : ℕ) → (m == 0) ≡ false → begins (work H m) ≡ false → begins_none (due_for H m) ≡ true
due_begins H m some not_begin = cond_begins (is_unfinished H m) (due_in H m (work H m)) None (by (work H m) refl) refl
  where
    own : begins_none (line_of H m wishes.Nothing) ≡ true
    own = plain_begins (line_of H m wishes.Nothing) (line_of_plain H m wishes.Nothing not_begin)

    inside : (s : Scope) → begins_none (due_inside H m s) ≡ true
    inside Db = own
    inside (In k) = cond_begins (sends_in H m k) (line_of H m wishes.Nothing) None own refl

    over_rows : (k : ℕ) → begins_none (sent_for H k (wish H m k)) ≡ true
    over_rows k = if_some (sent_for H k (wish H m k)) (λ h. sent_begins H k (wish H m k) (sent_made H m k some h))

    by : (it : Work) → work H m ≡ it → begins_none (due_in H m it) ≡ true
    by (works_of.Fetch k) is = over_rows k
    by (works_of.Close k) is = over_rows k
    by (works_of.End k) is = cond_begins (tx_ender H k == m) (ending H k) None (ending_begins H k) refl
    by works_of.Look is = refl
    by (works_of.Statement s tasks.Execute) is = inside s
    by (works_of.Statement s (tasks.ReadOne dests)) is = inside s
    by (works_of.Statement s (tasks.HandOut label)) is = inside s
    by (works_of.Begin label level read_only) is = inside Db
    by works_of.Ping is = inside Db

pub begin_due_now : (H : List Event) (at : Option Place) (e : Entry) → is_due_at H at e ≡ true → is_begin e.call ≡ true → begins (work H e.call_no) ≡ true
begin_due_now H (Some (Lent t o)) e h is = whose (e.call_no == 0) refl
  where
    due : is_due (due_from H e.call_no (number_of o)) e.call ≡ true
    due =
        let a = both (e.tenure == t) (is_at H e.call_no e.conn && (has_turn H e.conn e.call_no && is_due (due_from H e.call_no (number_of o)) e.call)) h in
        let b = both (is_at H e.call_no e.conn) (has_turn H e.conn e.call_no && is_due (due_from H e.call_no (number_of o)) e.call) a.1 in
        let c = both (has_turn H e.conn e.call_no) (is_due (due_from H e.call_no (number_of o)) e.call) b.1 in
        c.1

    clash : is_begin e.call ≡ false → begins (work H e.call_no) ≡ true
    clash k = let wrong : true ≡ false = sym is ∙ k in absurd cc

    whose : (b : Bool) → (e.call_no == 0) ≡ b → begins (work H e.call_no) ≡ true
    whose true layer =
        let its : is_due (tidying H (number_of o)) e.call ≡ true = ap (λ b. is_due (cond b (tidying H (number_of o)) (due_for H e.call_no)) e.call) (sym layer) ∙ due in
        clash (no_begin_due (tidying H (number_of o)) e.call (tidying_begins H (number_of o)) its)
    whose false some = by (begins (work H e.call_no)) refl
      where
        its : is_due (due_for H e.call_no) e.call ≡ true
        its = ap (λ b. is_due (cond b (tidying H (number_of o)) (due_for H e.call_no)) e.call) (sym some) ∙ due

        by : (b : Bool) → begins (work H e.call_no) ≡ b → begins (work H e.call_no) ≡ true
        by true it = it
        by false it = clash (no_begin_due (due_for H e.call_no) e.call (due_begins H e.call_no some it) its)
begin_due_now H _ e h is = absurd cc
