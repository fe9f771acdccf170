-- Why a lent connection is in use while something is under way there. This stays so as long as nothing is heard
-- there.
use Rattle.std.proofs.Common.{◌≡◌, ℕ, ◌+◌, ◌⊎◌, inl, inr, Bool, true, false, not, ◌&&◌, ◌||◌, cond, List, [], ◌∷◌, Option, Some, None, is_some, get_or, refl, sym, ap, subst, ◌∙◌, zero, suc, arith}
use Rattle.std.specs.List.{list_any}
use Rattle.dsql_laws.specs.driver.declared.caps.Caps.{Caps}
use Rattle.dsql_laws.specs.driver.declared.call.DriverCall.{DriverCall}
use Rattle.dsql_laws.specs.driver.Kinds.{is_valid, is_ending}
use Rattle.dsql_laws.specs.course.declared.course.Wish.TheVariants as wishes
use Rattle.dsql_laws.specs.course.Made.{or_else}
use Rattle.dsql_laws.specs.journal.declared.entry.Entry.{Entry}
use Rattle.dsql_laws.specs.journal.declared.entry.Owner.{Owner}
use Rattle.dsql_laws.specs.journal.Kinds.{number_of}
use Rattle.dsql_laws.specs.journal.Readers.{went_bad, of_tenure}
use Rattle.dsql_laws.specs.pool.declared.conn.Place.TheVariants.{Lent}
use Rattle.dsql_laws.specs.rows.declared.rows.Rows.{Rows}
use Rattle.dsql_laws.specs.rows.OpenRows.{is_live}
use Rattle.dsql_laws.specs.tx.declared.end.TxEnd.{TxEnd}
use Rattle.dsql_laws.specs.works.Line.{test_of}
use Rattle.dsql_laws.proofs.Tests.{same_number, same_itself}
use Rattle.dsql_laws.specs.history.declared.event.Event.{Event}
use Rattle.dsql_laws.specs.history.declared.work.Scope.TheVariants.{Db, Held}
use Rattle.dsql_laws.specs.history.declared.work.Work.{Work}
use Rattle.dsql_laws.specs.history.declared.work.Task.TheVariants.{HandOut}
use Rattle.dsql_laws.specs.history.declared.work.Work.TheVariants.{Statement, Look}
use Rattle.dsql_laws.specs.history.Readers.Course.{caps}
use Rattle.dsql_laws.specs.history.Readers.Unfinished.{is_unfinished}
use Rattle.dsql_laws.specs.history.Readers.Works.{works, work, scope, hands_out_in}
use Rattle.dsql_laws.specs.history.Readers.Journals.{journal, heard_in}
use Rattle.dsql_laws.specs.history.Readers.Pool.{place}
use Rattle.dsql_laws.specs.history.Readers.Transactions.{tx_end, is_begun, is_over, goes_on}
use Rattle.dsql_laws.specs.history.Readers.HandedOut.{rows_by, are_live, are_over}
use Rattle.dsql_laws.specs.history.Rules.Sent.{line_of, close_due}
use Rattle.dsql_laws.specs.history.Rules.Ending.{first_closing, ended_by_call, end_after, ending_at, ending_with, ending}
use Rattle.dsql_laws.specs.history.Rules.Line.{rest_with, rest, is_used, parts}
use Rattle.dsql_laws.specs.history.Legal.{Lawful}
use Rattle.dsql_laws_calls.proofs.Owners.{at_home, lent_asks}
use Rattle.dsql_laws_calls.proofs.Stays.{not_looking, work_stays, unfinished_stays}
use Rattle.dsql_laws_calls.proofs.EndedRows.{rows_kept}
use Rattle.dsql_laws_calls.proofs.Makers.{rows_begin_nothing}
use Rattle.dsql_laws_calls.proofs.Begun.{begun_begins, stays_begun}
use Rattle.dsql_laws_calls.proofs.Plain.{begins}
use Rattle.dsql_laws_calls.proofs.Lines.{line_there, line_here, line_stays, caps_stay, unheard}
use Rattle.dsql_laws_calls.proofs.Own.{asks_own, used_by, going_used, own_used}
use Rattle.dsql_laws_calls.proofs.Inside.{inside_uses}

-- Is true if an end of the transaction was heard.
abbrev pub ended_there : List Entry → Bool
ended_there L = list_any (λ e. is_ending e.call) L

-- Returns the test that is still to be sent once the transaction's end was heard, if there is one.
abbrev pub test_there : List Event → ℕ → ℕ → Option DriverCall
test_there H c t = cond (went_bad (journal H c) || list_any (λ e. is_valid e.call) (heard_in H c t)) None (test_of (caps H))

-- Holds if call k handed out rows in the transaction that are over and are still to be closed.
pub record Closes (H : List Event) (c t : ℕ) (own : Owner) (k : ℕ) : Type 0 where
  pub hands : hands_out_in (number_of own) (work H k) ≡ true
  pub over : are_over H k ≡ true
  pub sends : is_some (line_there H c t own k wishes.Close) ≡ true

-- Holds if something is left of a transaction. Its end wasn't heard, rows are still to be closed, or the test is still
-- to be sent.
abbrev pub Left : List Event → ℕ → ℕ → Owner → Type 0
Left H c t own = (ended_there (heard_in H c t) ≡ false) ⊎ (((k : ℕ) × Closes H c t own k) ⊎ (is_some (test_there H c t) ≡ true))

-- Holds if the call that has the connection sends in its own line.
pub record WhyOwn (H : List Event) (c t : ℕ) (own : Owner) (m : ℕ) : Type 0 where
  pub itself : number_of own ≡ m
  pub unfinished : is_unfinished H (number_of own) ≡ true
  pub sends : is_some (line_there H c t own (number_of own) wishes.Nothing) ≡ true

-- Holds if the rows of that call are live, or are still to be closed.
pub record WhyRows (H : List Event) (c t : ℕ) (own : Owner) : Type 0 where
  pub some : is_some (rows_by H (number_of own)) ≡ true
  pub sends : is_some (line_there H c t own (number_of own) wishes.Close) ≡ true

-- Holds if the transaction of that call goes on, or something is left of it.
pub record WhyTx (H : List Event) (c t : ℕ) (own : Owner) : Type 0 where
  pub begun : is_begun H (number_of own) ≡ true
  pub left : Left H c t own

abbrev pub Why : List Event → ℕ → ℕ → Owner → ℕ → Type 0
Why H c t own m = WhyOwn H c t own m ⊎ (WhyRows H c t own ⊎ WhyTx H c t own)

-- So the connection is in use.

pub first_some : (H : List Event) (k n j : ℕ) (ws : List Work) → hands_out_in k (get_or ws j Look) ≡ true → is_some (close_due H (n + j)) ≡ true → is_some (first_closing H k n ws) ≡ true
first_some H k n j [] hands some = absurd cc
first_some H k n zero (w ∷ ws) hands some = at (hands_out_in k w) hands (subst (λ i. is_some (close_due H i) ≡ true) (omega arith) some)
  where
    or_first : (o p : Option DriverCall) → is_some o ≡ true → is_some (or_else o p) ≡ true
    or_first None p h = absurd cc
    or_first (Some q) p h = refl

    at : (b : Bool) → b ≡ true → is_some (close_due H n) ≡ true → is_some (or_else (cond b (close_due H n) None) (first_closing H k (n + 1) ws)) ≡ true
    at true is h = or_first (close_due H n) (first_closing H k (n + 1) ws) h
    at false is h = absurd cc
first_some H k n (suc j) (w ∷ ws) hands some =
    or_second (cond (hands_out_in k w) (close_due H n) None) (first_closing H k (n + 1) ws) (first_some H k (n + 1) j ws hands (subst (λ i. is_some (close_due H i) ≡ true) (omega arith) some))
  where
    or_second : (o p : Option DriverCall) → is_some p ≡ true → is_some (or_else o p) ≡ true
    or_second None p h = h
    or_second (Some q) p h = refl

pub scoped : (w : Work) (n : ℕ) → hands_out_in n w ≡ true → scope w ≡ Held n
scoped (Statement (Held j) (HandOut label)) n h = ap Held (same_number j n h)
scoped (Statement Db (HandOut label)) n h = absurd cc
scoped w n h = absurd cc

pub closes_now : (H : List Event) (c t : ℕ) (own : Owner) (k : ℕ) → Lawful H → place H c ≡ Some (Lent t own) → Closes H c t own k → is_some (close_due H k) ≡ true
closes_now H c t own k l is x =
    ap (λ b. is_some (cond b (line_of H k wishes.Close) None)) x.over
    ∙ ap (λ d. is_some d) (line_here H c t own k wishes.Close l is (inside_uses H k (number_of own) (scoped (work H k) (number_of own) x.hands))) ∙ x.sends

pub ending_some : (H : List Event) (c t : ℕ) (own : Owner) (end : TxEnd) → Lawful H → place H c ≡ Some (Lent t own) → tx_end H (number_of own) ≡ Some end → Left H c t own → is_some (ending H (number_of own)) ≡ true
ending_some H c t own end l is ended left = ap (λ d. is_some d) here ∙ by left
  where
    here : ending H (number_of own) ≡ or_else (first_closing H (number_of own) 0 (works H)) (end_after H (went_bad (journal H c)) end (heard_in H c t))
    here =
        ap (ending_with H (number_of own)) ended
        ∙ ap (λ d. ending_at H (number_of own) d end (place H d)) (at_home H c t own l is)
        ∙ ap (λ at. ending_at H (number_of own) c end at) is
        ∙ ap (λ b. cond b (or_else (first_closing H (number_of own) 0 (works H)) (end_after H (went_bad (journal H c)) end (heard_in H c t))) None) (same_itself (number_of own))

    first : (o p : Option DriverCall) → is_some o ≡ true → is_some (or_else o p) ≡ true
    first None p h = absurd cc
    first (Some q) p h = refl

    second : (o p : Option DriverCall) → is_some p ≡ true → is_some (or_else o p) ≡ true
    second None p h = h
    second (Some q) p h = refl

    test : (b : Bool) → is_some (test_there H c t) ≡ true → is_some (cond b (test_there H c t) (Some (ended_by_call end))) ≡ true
    test true h = h
    test false h = refl

    by : Left H c t own → is_some (or_else (first_closing H (number_of own) 0 (works H)) (end_after H (went_bad (journal H c)) end (heard_in H c t))) ≡ true
    by (inl none) =
        second (first_closing H (number_of own) 0 (works H)) (end_after H (went_bad (journal H c)) end (heard_in H c t))
        (ap (λ b. is_some (cond b (test_there H c t) (Some (ended_by_call end)))) none)
    by (inr (inl x)) =
        first (first_closing H (number_of own) 0 (works H)) (end_after H (went_bad (journal H c)) end (heard_in H c t))
        (let x1 = x.1 in first_some H (number_of own) 0 x.0 (works H) x1.hands (subst (λ i. is_some (close_due H i) ≡ true) (omega arith) (closes_now H c t own x.0 l is x.1)))
    by (inr (inr h)) = second (first_closing H (number_of own) 0 (works H)) (end_after H (went_bad (journal H c)) end (heard_in H c t)) (test (ended_there (heard_in H c t)) h)

pub tx_used : (H : List Event) (c t : ℕ) (own : Owner) → Lawful H → place H c ≡ Some (Lent t own) → WhyTx H c t own → is_used H (number_of own) ≡ true
tx_used H c t own l is why = by (tx_end H (number_of own)) refl
  where
    begun : is_begun H (number_of own) ≡ true
    begun = why.begun

    last : (g v r : Bool) → r ≡ true → (g || (v || r)) ≡ true
    last true v r h = refl
    last false true r h = refl
    last false false r h = h

    by : (o : Option TxEnd) → tx_end H (number_of own) ≡ o → is_used H (number_of own) ≡ true
    by None ended = going_used H (number_of own) (ap (λ b. b && not (is_over H (number_of own))) begun ∙ ap (λ o. not (is_some o)) ended)
    by (Some end) ended =
        last (goes_on H (number_of own)) (are_live H (number_of own)) (is_some (rest H (number_of own)))
        (ap (λ b. is_some (cond b (ending H (number_of own)) (rest_with H (number_of own) (rows_by H (number_of own))))) begun ∙ ending_some H c t own end l is ended why.left)

unbegun : (H : List Event) (n : ℕ) → Lawful H → begins (work H n) ≡ false → is_begun H n ≡ false
unbegun H n l not_begin = by (is_begun H n) refl
  where
    by : (b : Bool) → is_begun H n ≡ b → b ≡ false
    by true is = let wrong : true ≡ false = sym (begun_begins H n l is) ∙ not_begin in absurd cc
    by false is = refl

rows_used : (H : List Event) (c t : ℕ) (own : Owner) → Lawful H → place H c ≡ Some (Lent t own) → WhyRows H c t own → is_used H (number_of own) ≡ true
rows_used H c t own l is why = by (rows_by H (number_of own)) refl why.some
  where
    close : is_some (line_of H (number_of own) wishes.Close) ≡ true
    close = ap (λ d. is_some d) (line_here H c t own (number_of own) wishes.Close l is (asks_own H (number_of own) (lent_asks H c t own l is))) ∙ why.sends

    over : (b : Bool) → (b || is_some (cond b None (line_of H (number_of own) wishes.Close))) ≡ true
    over true = refl
    over false = close

    by : (o : Option Rows) → rows_by H (number_of own) ≡ o → is_some o ≡ true → is_used H (number_of own) ≡ true
    by None rows some = absurd cc
    by (Some r) rows some = used_by H (number_of own) (Some r) rows (unbegun H (number_of own) l (rows_begin_nothing H (number_of own) (ap (λ o. is_some o) rows))) (over (is_live r))

pub why_used : (H : List Event) (c t : ℕ) (own : Owner) (m : ℕ) → Lawful H → place H c ≡ Some (Lent t own) → Why H c t own m → is_used H (number_of own) ≡ true
why_used H c t own m l is (inl why) = own_used H c t own l is why.unfinished why.sends
why_used H c t own m l is (inr (inl why)) = rows_used H c t own l is why
why_used H c t own m l is (inr (inr why)) = tx_used H c t own l is why

-- This stays so.

tx_stays : (H : List Event) (last : Event) (c t : ℕ) (own : Owner) → Lawful (last ∷ H) → place H c ≡ Some (Lent t own) → is_used H (number_of own) ≡ true → journal (last ∷ H) c ≡ journal H c → WhyTx H c t own → WhyTx (last ∷ H) c t own
tx_stays H last c t own l is used quiet why = record { begun = stays_begun H last (number_of own) why.begun; left = by why.left }
  where
    busy : (w : Work) (n : ℕ) → hands_out_in n w ≡ true → w ≡ Look → ⊥
    busy w n h look = let wrong : false ≡ true = sym (ap (hands_out_in n) look) ∙ h in cc

    test_as : (ca cb : Caps) (J M : List Entry) → cb ≡ ca → M ≡ J → cond (went_bad M || list_any (λ e. is_valid e.call) (of_tenure t M)) None (test_of cb) ≡ cond (went_bad J || list_any (λ e. is_valid e.call) (of_tenure t J)) None (test_of ca)
    test_as ca cb J M a b = rw (a, b) refl

    closes_on : (k : ℕ) → Closes H c t own k → Closes (last ∷ H) c t own k
    closes_on k x =
        let some = busy (work H k) (number_of own) x.hands in
        let kept = rows_kept H last k in
        record {
          hands = ap (hands_out_in (number_of own)) (work_stays H last k some) ∙ x.hands;
          over = kept.ended x.over;
          sends = ap (λ d. is_some d) (line_stays H last c t own k wishes.Close l.0 l.1 is used quiet some) ∙ x.sends;
        }

    by : Left H c t own → Left (last ∷ H) c t own
    by (inl none) = inl (ap (λ J. ended_there (of_tenure t J)) quiet ∙ none)
    by (inr (inl x)) = inr (inl (x.0, closes_on x.0 x.1))
    by (inr (inr h)) = inr (inr (ap (λ d. is_some d) (test_as (caps H) (caps (last ∷ H)) (journal H c) (journal (last ∷ H) c) (caps_stay H last c (Lent t own) l.1 is) quiet) ∙ h))

pub why_stays : (H : List Event) (last : Event) (e : Entry) (own : Owner) → Lawful (last ∷ H) → place H e.conn ≡ Some (Lent e.tenure own) → parts last e ≡ false → Why H e.conn e.tenure own e.call_no → Why (last ∷ H) e.conn e.tenure own e.call_no
why_stays H last e own l is on (inl why) =
    let used = own_used H e.conn e.tenure own l.0 is why.unfinished why.sends in
    let busy = not_looking (work H (number_of own)) (lent_asks H e.conn e.tenure own l.0 is) in
    inl (record {
      itself = why.itself;
      unfinished = ap (is_unfinished (last ∷ H)) why.itself ∙ unfinished_stays H last e on (sym (ap (is_unfinished H) why.itself) ∙ why.unfinished);
      sends = ap (λ d. is_some d) (line_stays H last e.conn e.tenure own (number_of own) wishes.Nothing l.0 l.1 is used (unheard H last e on) busy) ∙ why.sends;
    })
why_stays H last e own l is on (inr (inl why)) =
    let used = rows_used H e.conn e.tenure own l.0 is why in
    let busy = not_looking (work H (number_of own)) (lent_asks H e.conn e.tenure own l.0 is) in
    let kept = rows_kept H last (number_of own) in
    inr (inl (record {
      some = kept.some why.some;
      sends = ap (λ d. is_some d) (line_stays H last e.conn e.tenure own (number_of own) wishes.Close l.0 l.1 is used (unheard H last e on) busy) ∙ why.sends;
    }))
why_stays H last e own l is on (inr (inr why)) = inr (inr (tx_stays H last e.conn e.tenure own l is (tx_used H e.conn e.tenure own l.0 is why) (unheard H last e on) why))
