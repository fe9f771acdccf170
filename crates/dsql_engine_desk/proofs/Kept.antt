-- After each event, the rows of the calls agree with the history.
use Rattle.std.proofs.Common.{◌≡◌, ◌≢◌, ℕ, subst, ◌<◌, ◌≤◌, ◌⊎◌, inl, inr, Bool, true, false, ◌==◌, ◌&&◌, cond, List, [], ◌∷◌, ◌++◌, map, length, length-set, Option, Some, None, refl, sym, ap, ◌∙◌, arith}
use Rattle.std.specs.Prelude.{slice_set}
use Rattle.std.proofs.lemmas.Bool.Decides.{nat_tests}
use Rattle.std.proofs.lemmas.List.{get_or_past}
use Rattle.dsql_laws_calls.specs.driver.declared.answer.DriverAnswer.{DriverAnswer}
use Rattle.dsql_laws_calls.specs.driver.declared.answer.DriverAnswer.TheVariants as answers
use Rattle.dsql_laws_calls.specs.journal.declared.entry.Entry.{Entry}
use Rattle.dsql_laws_calls.specs.pool.declared.moves.Move.{Move}
use Rattle.dsql_laws_calls.specs.pool.declared.moves.Move.TheVariants.{OpenStart, Lend, Back, CloseStart, Gone, Fell}
use Rattle.dsql_laws_calls.specs.pool.declared.moves.Outcome.{Outcome}
use Rattle.dsql_laws_calls.specs.pool.declared.moves.Outcome.TheVariants.{Closes, Serves, Rests}
use Rattle.dsql_laws_calls.specs.pool.Decisions.{moves_back}
use Rattle.dsql_laws_calls.specs.pool.Pooled.{Pooled}
use Rattle.dsql_laws_calls.specs.numbered.Numbered.{Numbered}
use Rattle.dsql_laws_calls.specs.rows.declared.end.RowsEnd.TheVariants as ends
use Rattle.dsql_laws_calls.specs.rows.OpenRows.{ended_by, was_made}
use Rattle.dsql_laws_calls.specs.tx.declared.tx.Tx.{Tx}
use Rattle.dsql_laws_calls.specs.history.declared.work.Work.{Work}
use Rattle.dsql_laws_calls.specs.works.HandedOut.{Made}
use Rattle.dsql_laws_calls.specs.history.declared.event.Event.{Event}
use Rattle.dsql_laws_calls.specs.history.declared.event.Event.TheVariants.{Entered, Heard, Pool, Replied}
use Rattle.dsql_laws_calls.specs.history.declared.event.Op.{Op}
use Rattle.dsql_laws_calls.specs.history.declared.record.CallRecord.{CallRecord}
use Rattle.dsql_laws_calls.specs.history.declared.record.Try.{Try}
use Rattle.dsql_laws_calls.specs.history.declared.record.Try.TheVariants.{Served, Refused}
use Rattle.dsql_laws_calls.specs.history.declared.reply.Reply.{Reply}
use Rattle.dsql_laws_calls.specs.history.Readers.Calls.{calls, call_record, decided_by, entering, with_record}
use Rattle.dsql_laws_calls.specs.history.Readers.HandedOut.{caller, ender, handed_out}
use Rattle.dsql_laws_calls.specs.history.Readers.Transactions.{ending_call, transactions, tx_ender}
use Rattle.dsql_laws_calls.specs.history.Readers.Tries.{lost, most_tries, try_number, tries, loses, newest_answer}
use Rattle.dsql_laws_calls.specs.history.Readers.Tries as history
use Rattle.dsql_laws_calls.specs.history.Readers.Unfinished.{is_unfinished}
use Rattle.dsql_laws_calls.specs.history.Readers.Works.{works, work, work_of}
use Rattle.dsql_laws_calls.specs.history.Legal.{Lawful}
use Rattle.dsql_laws_calls.specs.laws.OwedMade.{with_moves}
use Rattle.dsql_laws_calls.proofs.laws.Numbered.{unfinished_from_one}
use Rattle.dsql_engine_calls.specs.declared.call.CallRow.{CallRow}
use Rattle.dsql_engine_calls.specs.declared.call.CallStart.{CallStart}
use Rattle.dsql_engine_calls.specs.declared.call.Ending.{Ending}
use Rattle.dsql_engine_effects.specs.Ended.{calls_with_end, rows_with_end, works_of}
use Rattle.dsql_engine_calls.specs.declared.tried.Tried.{Tried}
use Rattle.dsql_engine_desk.specs.Adding.{IsAnswerBefore, is_refusal}
use Rattle.dsql_engine_desk.specs.Appending.{DecidesNow}
use Rattle.dsql_engine_calls.specs.Calls.{KeepsCalls, nobody, row_at, with_ender, with_row, with_try, with_tx_ender}
use Rattle.dsql_engine_calls.specs.Tried.{kept, untried, one_more, newest_lost, number, most_counted}
use Rattle.dsql_engine_calls.proofs.KeptTries.{kept_lost, kept_more, kept_number}
use Rattle.dsql_engine_calls.proofs.Borrowers.{row_work}
use Rattle.dsql_engine_effects.specs.Heard.{Decides, HearsRows, calls_after, calls_told, call_row_after, tries_after}
use Rattle.dsql_engine_calls.specs.Tries.{tried_by, tried_by_all}
use Rattle.dsql_engine_calls.specs.Settling.{replied}
use Rattle.dsql_engine_effects.specs.Starts.{closed_rows, Starts, closed_by}
use Rattle.dsql_engine_calls.proofs.CallRows.{same_at, same_all, calls_changed, changed_at, changed_beside, same_pushed, all_pushed, as_many}
use Rattle.dsql_laws_calls.proofs.Works.{still_unfinished}
use Rattle.dsql_engine_effects.proofs.FirstEnds.{by_number}
use Rattle.dsql_engine_effects.proofs.MadeKnown.{made_known}
use Rattle.dsql_engine_effects.proofs.MadeOnce.{made_changed}
use Rattle.dsql_engine_effects.proofs.RowEnders.{closing_ends, ender_entered, ender_of_none, heard_ends, then_ends, with_end_ends}
use Rattle.dsql_engine_effects.proofs.TxEnders.{tx_ender_entered, tx_ender_of_none}
use Rattle.dsql_engine_desk.proofs.EndedSame.{closed_same, heard_same, same_each, with_end_same}
use Rattle.dsql_engine_desk.proofs.Known.{begun_known, unfinished_known, unfinished_before}
use Rattle.dsql_engine_desk.proofs.HeardOf.{heard_unfinished}
use Rattle.dsql_engine_desk.proofs.Untried.{none_tried}
use Rattle.dsql_engine_desk.proofs.FewTries.{few_lent, few_fallen}

as_many_rows : (H : List Event) (rows : List CallRow) → KeepsCalls H rows → length rows ≡ length (works H)
as_many_rows H rows k = sym (as_many (λ (row : CallRow). row.work) rows) ∙ ap length k.works

-- A new try of a call, which comes after few others, is recorded as the history has it.
tried_one : (H : List Event) (rows : List CallRow) (m : ℕ) (it : Try) → Lawful H → (m ≢ 0 → length (tries H m) < most_tries) → KeepsCalls H rows → (n : ℕ) → is_unfinished H n ≡ true
    → (row_at (with_row m (with_try it) rows) n).tried ≡ kept (history.with_try (m == n) it (tries H n))
tried_one H rows m it l few k n left =
    by_number m n ((row_at (with_row m (with_try it) rows) n).tried ≡ kept (history.with_try (m == n) it (tries H n)))
    (λ is.
    let here : (m == n) ≡ true = grind (arith, nat_tests, is) in
    let in_range = unfinished_known H n l left in
    let many = as_many_rows H rows k in
    let within : m < length rows = omega (arith, in_range, many, is) in
    let some : m ≢ 0 = λ none. unfinished_from_one H n l left (is ∙ none) in
    let less : length (tries H n) < most_tries = subst (λ (i : ℕ). length (tries H i) < most_tries) (sym is) (few some) in
    let earlier : length (tries H n) < most_counted = omega (arith, less) in
    rw here
    (ap (λ (i : ℕ). (row_at (with_row m (with_try it) rows) i).tried) is
    ∙ ap (λ (row : CallRow). row.tried) (changed_at (with_try it) m rows within)
    ∙ ap (λ (i : ℕ). one_more it (row_at rows i).tried) (sym is)
    ∙ ap (one_more it) (k.tried n left)
    ∙ kept_more it (tries H n) earlier))
    (λ apart.
    let there : (m == n) ≡ false = grind (arith, nat_tests, apart) in
    rw there (ap (λ (row : CallRow). row.tried) (changed_beside (with_try it) m n rows apart) ∙ k.tried n left))

-- An event of no call that ends something leaves unchanged who ended what.
pub unended : (H : List Event) (e : Event) (rows : List CallRow) → map (λ row. row.call) rows ≡ calls (e ∷ H) → map (λ row. row.work) rows ≡ works (e ∷ H) → ((n : ℕ) → is_unfinished (e ∷ H) n ≡ true → (row_at rows n).tried ≡ kept (tries (e ∷ H) n))
    → caller e ≡ 0 → ending_call e ≡ 0 → KeepsCalls H rows → KeepsCalls (e ∷ H) rows
unended H e rows same_calls same_works tried nobodys none k =
    record { calls = same_calls; works = same_works; tried = tried; ender = λ n. k.ender n ∙ sym (ender_of_none H e n nobodys); tx_ender = λ n. k.tx_ender n ∙ sym (tx_ender_of_none H e n none) }

-- The rows agree after a move of the pool.
move_keeps : (H : List Event) (m : Move) (rows : List CallRow) (answer : DriverAnswer) → Lawful (Pool m ∷ H) → IsAnswerBefore answer (m ∷ []) H → KeepsCalls H rows → KeepsCalls (Pool m ∷ H) (tried_by answer m rows)
move_keeps H (Lend c t o m) rows answer l is k =
    record {
      calls = same_all (λ (row : CallRow). row.call) (with_try Served) m rows (λ row. refl) ∙ k.calls;
      works = same_all (λ (row : CallRow). row.work) (with_try Served) m rows (λ row. refl) ∙ k.works;
      tried = tried_one H rows m Served l.0 (few_lent H c t o m l.0 l.1) k;
      ender = λ n. same_at (λ (row : CallRow). row.ender) (with_try Served) m rows n (λ row. refl) ∙ (k.ender n ∙ sym (ender_of_none H (Pool (Lend c t o m)) n refl));
      tx_ender = λ n. same_at (λ (row : CallRow). row.tx_ender) (with_try Served) m rows n (λ row. refl) ∙ (k.tx_ender n ∙ sym (tx_ender_of_none H (Pool (Lend c t o m)) n refl));
    }
move_keeps H (Fell c m) rows answer l is k =
    record {
      calls = same_all (λ (row : CallRow). row.call) (with_try (Refused answer)) m rows (λ row. refl) ∙ k.calls;
      works = same_all (λ (row : CallRow). row.work) (with_try (Refused answer)) m rows (λ row. refl) ∙ k.works;
      tried = λ n left.
          tried_one H rows m (Refused answer) l.0 (few_fallen H c m l.0 l.1) k n left ∙ ap (λ (a : DriverAnswer). kept (history.with_try (m == n) (Refused a) (tries H n))) is;
      ender = λ n. same_at (λ (row : CallRow). row.ender) (with_try (Refused answer)) m rows n (λ row. refl) ∙ (k.ender n ∙ sym (ender_of_none H (Pool (Fell c m)) n refl));
      tx_ender = λ n. same_at (λ (row : CallRow). row.tx_ender) (with_try (Refused answer)) m rows n (λ row. refl) ∙ (k.tx_ender n ∙ sym (tx_ender_of_none H (Pool (Fell c m)) n refl));
    }
move_keeps H (OpenStart c m) rows answer l is k = unended H (Pool (OpenStart c m)) rows k.calls k.works k.tried refl refl k
move_keeps H (Back c) rows answer l is k = unended H (Pool (Back c)) rows k.calls k.works k.tried refl refl k
move_keeps H (CloseStart c why) rows answer l is k = unended H (Pool (CloseStart c why)) rows k.calls k.works k.tried refl refl k
move_keeps H (Gone c) rows answer l is k = unended H (Pool (Gone c)) rows k.calls k.works k.tried refl refl k

first_answer : (answer : DriverAnswer) (m : Move) (ms : List Move) (H : List Event) → IsAnswerBefore answer (m ∷ ms) H → IsAnswerBefore answer (m ∷ []) H
first_answer answer (Fell c n) ms H is = is
first_answer answer _ ms H is = tt

-- After a move, no answer came directly before.
none_answered : (m : Move) (ms : List Move) (H : List Event) → IsAnswerBefore answers.Bad ms (Pool m ∷ H)
none_answered m [] H = tt
none_answered m (Fell c n ∷ ms) H = refl
none_answered m (_ ∷ ms) H = tt

lawful_before : (ms : List Move) (H : List Event) → Lawful (with_moves ms H) → Lawful H
lawful_before [] H l = l
lawful_before (m ∷ ms) H l = let before = lawful_before ms (Pool m ∷ H) l in before.0

pub moves_keep : (ms : List Move) (H : List Event) (rows : List CallRow) (answer : DriverAnswer) → Lawful (with_moves ms H) → IsAnswerBefore answer ms H → KeepsCalls H rows → KeepsCalls (with_moves ms H) (tried_by_all answer ms rows)
moves_keep [] H rows answer l is k = k
moves_keep (m ∷ ms) H rows answer l is k =
    moves_keep ms (Pool m ∷ H) (tried_by answer m rows) answers.Bad l (none_answered m ms H) (move_keeps H m rows answer (lawful_before ms (Pool m ∷ H) l) (first_answer answer m ms H is) k)

-- Holds if this is the new row of a call that enters.
pub record IsNewRow (H : List Event) (client : ℕ) (op : Op) (row : CallRow) : Type 0 where
  pub call : row.call ≡ entering H client op
  pub work : row.work ≡ work_of (works H) op
  pub tried : row.tried ≡ untried
  pub ender : row.ender ≡ 0
  pub tx_ender : row.tx_ender ≡ 0

closed_made : (closes : Option ℕ) (k : ℕ) (rows : Made) → was_made k (closed_rows closes rows) ≡ was_made k rows
closed_made None k rows = refl
closed_made (Some n) k rows = made_changed (ended_by ends.Close) n k rows

-- Returns the rows after an entering call has ended what it ends, before it has a row itself.
abbrev ended_entering : Option ℕ → Option Ending → ℕ → List Event → List CallRow → List CallRow
ended_entering closes ends n H rows = calls_with_end ends n (transactions H) (closed_rows closes (handed_out H)) (closed_by closes n (handed_out H) rows)

ended_leaves : {A : Type 0} (p : CallRow → A) (closes : Option ℕ) (ends : Option Ending) (n : ℕ) (H : List Event) (rows : List CallRow) → ((row : CallRow) (m : ℕ) → p (with_ender m row) ≡ p row) → ((row : CallRow) (m : ℕ) → p (with_tx_ender m row) ≡ p row)
    → map p (ended_entering closes ends n H rows) ≡ map p rows
ended_leaves p closes ends n H rows same tx_same =
    with_end_same p ends n (transactions H) (closed_rows closes (handed_out H)) (closed_by closes n (handed_out H) rows) same tx_same ∙ closed_same p closes n (handed_out H) rows same

entered_enders : (H : List Event) (client n : ℕ) (op : Op) (it : CallStart) (rows : List CallRow) → Starts H op it → KeepsCalls H rows → (m : ℕ) → (row_at (ended_entering it.closes it.ends n H rows) m).ender ≡ ender (Entered client n op ∷ H) m
entered_enders H client n op it rows s k m =
    let R = handed_out H in
    let closed = closed_by it.closes n R rows in
    let left = closed_rows it.closes R in
    let many = as_many_rows H rows k in
    let all_works : works_of closed ≡ works H = closed_same (λ (r : CallRow). r.work) it.closes n R rows (λ r i. refl) ∙ k.works in
    let long : length closed ≡ length (works H) = sym (as_many (λ (row : CallRow). row.work) closed) ∙ ap length all_works in
    ender_entered H client n op (rows_with_end it.ends (works_of closed) left) rows (ended_entering it.closes it.ends n H rows) m (ap (λ (ws : List Work). rows_with_end it.ends ws left) all_works ∙ s.rows)
    (then_ends n R left (rows_with_end it.ends (works_of closed) left) rows closed (ended_entering it.closes it.ends n H rows) m
    (closing_ends it.closes n R rows m (λ i was. let within = made_known H i was in omega (arith, within, many)))
    (with_end_ends it.ends n (transactions H) left closed m (λ i was. let within = made_known H i (sym (closed_made it.closes i R) ∙ was) in omega (arith, within, long))))
    (k.ender m)

entered_tx_enders : (H : List Event) (client n : ℕ) (op : Op) (it : CallStart) (rows : List CallRow) → Lawful H → Starts H op it → KeepsCalls H rows
    → (m : ℕ) → (row_at (ended_entering it.closes it.ends n H rows) m).tx_ender ≡ tx_ender (Entered client n op ∷ H) m
entered_tx_enders H client n op it rows l s k m =
    let R = handed_out H in
    let closed = closed_by it.closes n R rows in
    let all_works : works_of closed ≡ works H = closed_same (λ (r : CallRow). r.work) it.closes n R rows (λ r i. refl) ∙ k.works in
    let long : length closed ≡ length (works H) = sym (as_many (λ (row : CallRow). row.work) closed) ∙ ap length all_works in
    tx_ender_entered H client n op it.ends (closed_rows it.closes R) closed s.txs (λ i was. let within = begun_known H i l was in omega (arith, within, long))
    (λ i. same_each (λ (r : CallRow). r.tx_ender) closed rows i (closed_same (λ (r : CallRow). r.tx_ender) it.closes n R rows (λ r j. refl)) ∙ k.tx_ender i) m

pub entered_keeps : (H : List Event) (client n : ℕ) (op : Op) (row : CallRow) (it : CallStart) (rows : List CallRow) → Lawful H → n ≡ length (works H) → tries H n ≡ [] → IsNewRow H client op row → Starts H op it → KeepsCalls H rows
    → KeepsCalls (Entered client n op ∷ H) (ended_entering it.closes it.ends n H rows ++ row ∷ [])
entered_keeps H client n op row it rows l next none_yet new s k =
    let ended = ended_entering it.closes it.ends n H rows in
    let many = as_many_rows H rows k in
    record {
      calls =
          all_pushed (λ (r : CallRow). r.call) row ended
          ∙ (ap (λ (cs : List CallRecord). cs ++ row.call ∷ []) (ended_leaves (λ (r : CallRow). r.call) it.closes it.ends n H rows (λ r m. refl) (λ r m. refl) ∙ k.calls) ∙ ap (λ (c : CallRecord). calls H ++ c ∷ []) new.call);
      works =
          all_pushed (λ (r : CallRow). r.work) row ended
          ∙ (ap (λ (ws : List Work). ws ++ row.work ∷ []) (ended_leaves (λ (r : CallRow). r.work) it.closes it.ends n H rows (λ r m. refl) (λ r m. refl) ∙ k.works) ∙ ap (λ (w : Work). works H ++ w ∷ []) new.work);
      tried = λ m left.
          same_pushed (λ (r : CallRow). r.tried) row ended m new.tried
          ∙ same_each (λ (r : CallRow). r.tried) ended rows m (ended_leaves (λ (r : CallRow). r.tried) it.closes it.ends n H rows (λ r i. refl) (λ r i. refl))
          ∙ by m (unfinished_before H client n op m left);
      ender = λ m. same_pushed (λ (r : CallRow). r.ender) row ended m new.ender ∙ entered_enders H client n op it rows s k m;
      tx_ender = λ m. same_pushed (λ (r : CallRow). r.tx_ender) row ended m new.tx_ender ∙ entered_tx_enders H client n op it rows l s k m;
    }
  where
    by : (m : ℕ) → (m ≡ n) ⊎ (is_unfinished H m ≡ true) → (row_at rows m).tried ≡ kept (tries H m)
    by m (inr old) = k.tried m old
    by m (inl now) =
        let many = as_many_rows H rows k in
        let past : length rows ≤ m = omega (arith, many, next, now) in
        ap (λ (r : CallRow). r.tried) (get_or_past rows m nobody past) ∙ sym (ap (λ i. kept (tries H i)) now ∙ ap kept none_yet)

-- Holds if k is the number of the newest try of the entry's call. Claims nothing about the layer's own entries.
abbrev pub IsNumber : List Event → Entry → ℕ → Type 0
IsNumber H e k = e.call_no ≢ 0 → k ≡ try_number (tries H e.call_no)

decided_alike : (H : List Event) (e : Entry) (it : Work) (k : ℕ) (r : CallRecord) → work H e.call_no ≡ it → IsNumber H e k → decided_by k it e r ≡ decided_by (try_number (tries H e.call_no)) (work H e.call_no) e r
decided_alike H e it k r is counts =
    by_number 0 e.call_no (decided_by k it e r ≡ decided_by (try_number (tries H e.call_no)) (work H e.call_no) e r)
    (λ none. rw none refl)
    (λ some. ap (λ (j : ℕ). decided_by j it e r) (counts some) ∙ ap (λ (w : Work). decided_by (try_number (tries H e.call_no)) w e r) (sym is))

lost_as : (b : Bool) (ts : List Try) → cond b (newest_lost (kept ts)) (kept ts) ≡ kept (cond b (lost ts) ts)
lost_as true ts = kept_lost ts
lost_as false ts = refl

-- After an answer, the row of an unfinished call records its tries as the history has them.
heard_one : (H : List Event) (e : Entry) (it : Work) (k : ℕ) (rows : List CallRow) → Lawful H → work H e.call_no ≡ it → KeepsCalls H rows → (m : ℕ) → is_unfinished H m ≡ true
    → (row_at (calls_told k it e rows) m).tried ≡ kept (tries (Heard e ∷ H) m)
heard_one H e it k rows l is keeps m left =
    by_number n m ((row_at (calls_told k it e rows) m).tried ≡ kept (tries (Heard e ∷ H) m))
    (λ its.
    let here : (n == m) ≡ true = grind (arith, nat_tests, its) in
    let some : n ≢ 0 = λ none. unfinished_from_one H m l left (its ∙ none) in
    let own : (n == 0) ≡ false = grind (arith, nat_tests, some) in
    let in_range = unfinished_known H m l left in
    let many = as_many_rows H rows keeps in
    let within : n < length rows = omega (arith, in_range, many, its) in
    let loss : loses it e ≡ loses (work H m) e = ap (λ (w : Work). loses w e) (sym is) ∙ ap (λ (i : ℕ). loses (work H i) e) (sym its) in
    ap (λ (i : ℕ). (row_at (calls_told k it e rows) i).tried) its
    ∙ ap (λ (row : CallRow). row.tried) (changed_at (call_row_after k it e) n rows within)
    ∙ ap (λ (b : Bool). cond b (row_at rows n).tried (tries_after it e (row_at rows n).tried)) own
    ∙ ap (λ (i : ℕ). tries_after it e (row_at rows i).tried) (sym its)
    ∙ ap (tries_after it e) (keeps.tried m left)
    ∙ lost_as (loses it e) (tries H m)
    ∙ ap (λ (b : Bool). kept (cond b (lost (tries H m)) (tries H m))) (loss ∙ sym (ap (λ (b : Bool). b && loses (work H m) e) here)))
    (λ apart.
    let there : (n == m) ≡ false = grind (arith, nat_tests, apart) in
    ap (λ (row : CallRow). row.tried) (changed_beside (call_row_after k it e) n m rows apart)
    ∙ keeps.tried m left
    ∙ sym (ap (λ (b : Bool). kept (cond (b && loses (work H m) e) (lost (tries H m)) (tries H m))) there))
  where
    n : ℕ
    n = e.call_no

pub heard_keeps : (H : List Event) (e : Entry) (it : Work) (k : ℕ) (rows : List CallRow) → Lawful H → work H e.call_no ≡ it → IsNumber H e k → HearsRows it e.call_no e.call (handed_out H) → KeepsCalls H rows
    → KeepsCalls (Heard e ∷ H) (calls_after it e.call_no e.call e.answer (handed_out H) (calls_told k it e rows))
heard_keeps H e it k rows l is counts hears keeps =
    let n = e.call_no in
    let change = call_row_after k it e in
    let told = calls_told k it e rows in
    let many = as_many_rows H rows keeps in
    let same_length : length told ≡ length rows = length-set rows n (change (row_at rows n)) in
    record {
      calls =
          heard_same (λ (r : CallRow). r.call) it n e.call e.answer (handed_out H) told (λ r m. refl)
          ∙ calls_changed change (decided_by k it e) n rows (λ r. refl)
          ∙ ap (with_record n (decided_by k it e)) keeps.calls
          ∙ ap (slice_set (calls H) n) (decided_alike H e it k (call_record H n) is counts);
      works =
          heard_same (λ (r : CallRow). r.work) it n e.call e.answer (handed_out H) told (λ r m. refl)
          ∙ (same_all (λ (r : CallRow). r.work) change n rows (λ r. refl) ∙ keeps.works);
      tried = λ m left.
          same_each (λ (r : CallRow). r.tried) (calls_after it n e.call e.answer (handed_out H) told) told m (heard_same (λ (r : CallRow). r.tried) it n e.call e.answer (handed_out H) told (λ r i. refl)) ∙ heard_one H e it k rows l is keeps m left;
      ender =
          heard_ends H e it told is hears (λ i was. let in_range = made_known H i was in omega (arith, in_range, many, same_length))
          (λ m. same_at (λ (r : CallRow). r.ender) change n rows m (λ r. refl) ∙ keeps.ender m);
      tx_ender = λ m.
          same_each (λ (r : CallRow). r.tx_ender) (calls_after it n e.call e.answer (handed_out H) told) told m (heard_same (λ (r : CallRow). r.tx_ender) it n e.call e.answer (handed_out H) told (λ r i. refl))
          ∙ (same_at (λ (r : CallRow). r.tx_ender) change n rows m (λ r. refl) ∙ (keeps.tx_ender m ∙ sym (tx_ender_of_none H (Heard e) m refl)));
    }

-- The rows agree after a call has its reply.
pub replied_keeps : (H : List Event) (n : ℕ) (reply : Reply) (rows : List CallRow) → KeepsCalls H rows → KeepsCalls (Replied n reply ∷ H) (with_row n replied rows)
replied_keeps H n reply rows k =
    record {
      calls = calls_changed replied (λ r. record r { decided = None }) n rows (λ r. refl) ∙ ap (with_record n (λ r. record r { decided = None })) k.calls;
      works = same_all (λ (r : CallRow). r.work) replied n rows (λ r. refl) ∙ k.works;
      tried = λ m left.
          let still = still_unfinished H n reply m left in
          ap (λ (r : CallRow). r.tried) (changed_beside replied n m rows still.0) ∙ k.tried m still.1;
      ender = λ m. same_at (λ (r : CallRow). r.ender) replied n rows m (λ r. refl) ∙ (k.ender m ∙ sym (ender_of_none H (Replied n reply) m refl));
      tx_ender = λ m. same_at (λ (r : CallRow). r.tx_ender) replied n rows m (λ r. refl) ∙ (k.tx_ender m ∙ sym (tx_ender_of_none H (Replied n reply) m refl));
    }

-- Returns the row of a call that enters, with these recorded tries.
abbrev pub row_started : ℕ → CallStart → Tried → CallRow
row_started client it tried = record { call = record { client = client; text = it.text; params = it.params; decided = it.decided }; work = it.work; tried = tried; ender = 0; tx_ender = 0 }

pub added_keeps : (H : List Event) (client n : ℕ) (op : Op) (it : CallStart) (tried : Tried) (rows closed ended new : List CallRow) (txs : Numbered Tx) (made left : Made) → Lawful H → n ≡ length (works H) → Starts H op it → tried ≡ untried → KeepsCalls H rows
    → txs ≡ transactions H → made ≡ handed_out H → left ≡ closed_rows it.closes made → closed ≡ closed_by it.closes n made rows → ended ≡ calls_with_end it.ends n txs left closed → new ≡ ended ++ row_started client it tried ∷ [] → KeepsCalls (Entered client n op ∷ H) new
added_keeps H client n op it tried rows closed ended new txs made left l next s none_yet k is_begun is_made is_left is_closed is_ended is_new =
    let row = row_started client it tried in
    let whole : new ≡ ended_entering it.closes it.ends n H rows ++ row ∷ []
    = is_new
    ∙ ap (λ (rs : List CallRow). rs ++ row ∷ [])
    (is_ended
    ∙ (ap (λ (ts : Numbered Tx). calls_with_end it.ends n ts left closed) is_begun
    ∙ (ap (λ (m : Made). calls_with_end it.ends n (transactions H) m closed) (is_left ∙ ap (closed_rows it.closes) is_made)
    ∙ ap (calls_with_end it.ends n (transactions H) (closed_rows it.closes (handed_out H))) (is_closed ∙ ap (λ (m : Made). closed_by it.closes n m rows) is_made)))) in
    let fresh_row : IsNewRow H client op row = record { call = rw (s.text, s.params, s.decided) refl; work = s.work; tried = none_yet; ender = refl; tx_ender = refl } in
    subst (λ (rs : List CallRow). KeepsCalls (Entered client n op ∷ H) rs) (sym whole) (entered_keeps H client n op row it rows l next (none_tried H n l next) fresh_row s k)

-- The row of a call without a reply gives the number of its newest try.
pub row_number : (H : List Event) (rows : List CallRow) (n : ℕ) → KeepsCalls H rows → is_unfinished H n ≡ true → number (row_at rows n).tried ≡ try_number (tries H n)
row_number H rows n k left = ap number (k.tried n left) ∙ kept_number (tries H n)

heard_number : (H : List Event) (e : Entry) (rows : List CallRow) → Lawful (Heard e ∷ H) → KeepsCalls H rows → IsNumber H e (number (row_at rows e.call_no).tried)
heard_number H e rows l k = λ some. row_number H rows e.call_no k (heard_unfinished H e l some)

-- What the answer decides by the history, it decides by the call's row.
pub decides_in_row : (H : List Event) (e : Entry) (rows : List CallRow) (copy : DriverAnswer) (reply : Option Reply) → Lawful (Heard e ∷ H) → KeepsCalls H rows → DecidesNow H e copy reply
    → Decides (number (row_at rows e.call_no).tried) (row_at rows e.call_no).work e copy reply
decides_in_row H e rows copy reply l k now =
    let n = e.call_no in
    let row = row_at rows n in
    let decides : n ≢ 0 → Decides (number row.tried) row.work e copy reply
    = λ some.
    let left = heard_unfinished H e l some in
    subst (λ (w : Work). Decides (number row.tried) w e copy reply) (sym (row_work H rows n k))
    (subst (λ (i : ℕ). Decides i (work H n) e copy reply) (sym (row_number H rows n k left)) (now.decides left)) in
    record { same = now.same; fetch = λ some. (decides some).fetch some; query = λ some. (decides some).query some }

-- The rows agree after an answer to a call on a lent connection.
pub answered_keeps : (H : List Event) (e : Entry) (rows new : List CallRow) (made : Made) → Lawful (Heard e ∷ H) → HearsRows (work H e.call_no) e.call_no e.call (handed_out H) → KeepsCalls H rows → made ≡ handed_out H
    → new ≡ calls_after (row_at rows e.call_no).work e.call_no e.call e.answer made (calls_told (number (row_at rows e.call_no).tried) (row_at rows e.call_no).work e rows) → KeepsCalls (Heard e ∷ H) new
answered_keeps H e rows new made l hears k is_made is_new =
    let n = e.call_no in
    let w = work H n in
    let row = row_at rows n in
    let i = number row.tried in
    let is : row.work ≡ w = row_work H rows n k in
    let whole : new ≡ calls_after w n e.call e.answer (handed_out H) (calls_told i w e rows)
    = is_new ∙ (ap (λ (m : Made). calls_after row.work n e.call e.answer m (calls_told i row.work e rows)) is_made ∙ ap (λ (x : Work). calls_after x n e.call e.answer (handed_out H) (calls_told i x e rows)) is) in
    subst (λ (rs : List CallRow). KeepsCalls (Heard e ∷ H) rs) (sym whole) (heard_keeps H e w i rows l.0 refl (heard_number H e rows l k) hears k)

-- A move that is no refusal needs no answer before it.
pub unrefused : (m : Move) (H : List Event) → is_refusal m ≡ false → IsAnswerBefore answers.Bad (m ∷ []) H
unrefused (Fell c n) H is = absurd cc
unrefused _ H is = tt

-- The newest answer is the answer before whatever moves come next.
pub answered_before : (answer : DriverAnswer) (ms : List Move) (H : List Event) → answer ≡ newest_answer H → IsAnswerBefore answer ms H
answered_before answer [] H is = tt
answered_before answer (Fell c n ∷ ms) H is = is
answered_before answer (_ ∷ ms) H is = tt

-- The moves of a connection that is given back begin with no refusal.
pub back_unrefused : (c : ℕ) (p : Pooled) (o : Outcome) (H : List Event) → IsAnswerBefore answers.Bad (moves_back c p o) H
back_unrefused c p (Closes why) H = tt
back_unrefused c p Serves H = tt
back_unrefused c p Rests H = tt
