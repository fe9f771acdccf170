-- What is due on a connection that is lent to a transaction.
use Rattle.std.proofs.Common.{◌≡◌, ◌≢◌, ℕ, ◌+◌, ◌==◌, ◌⊎◌, inl, inr, Bool, true, false, not, ◌&&◌, ◌||◌, cond, List, [], ◌∷◌, Option, Some, None, is_some, is_none, get_or, refl, sym, ap, subst, ◌∙◌, suc, arith}
use Rattle.std.specs.List.{list_any}
use Rattle.dsql_laws_calls.specs.driver.declared.call.DriverCall.{DriverCall}
use Rattle.dsql_laws_calls.specs.driver.declared.call.DriverCall.TheVariants as calls
use Rattle.dsql_laws_calls.specs.driver.declared.caps.Caps.{Caps}
use Rattle.dsql_laws_calls.specs.driver.Kinds.{is_ending, is_valid}
use Rattle.dsql_laws_calls.specs.course.declared.course.Wish.{Wish}
use Rattle.dsql_laws_calls.specs.course.declared.course.Wish.TheVariants as wishes
use Rattle.dsql_laws_calls.specs.course.Made.{Exchange, or_else, own_cursor}
use Rattle.dsql_laws_calls.specs.course.Made as courses_made
use Rattle.dsql_laws_calls.specs.journal.declared.entry.Entry.{Entry}
use Rattle.dsql_laws_calls.specs.journal.declared.entry.Owner.{Owner}
use Rattle.dsql_laws_calls.specs.journal.Kinds.{is_call, number_of}
use Rattle.dsql_laws_calls.specs.journal.Readers.{went_bad, of_tenure}
use Rattle.dsql_laws_calls.specs.pool.declared.conn.Place.TheVariants.{Lent}
use Rattle.dsql_laws_calls.specs.tx.declared.end.TxEnd.{TxEnd}
use Rattle.dsql_laws_calls.specs.tx.declared.end.TxEnd.TheVariants as tx_ends
use Rattle.dsql_laws_calls.specs.works.Exchanges.{exchanges}
use Rattle.dsql_laws_calls.specs.works.Line.{handed, test_of, body_after}
use Rattle.dsql_laws_calls.proofs.laws_work.Rows.{not_true}
use Rattle.dsql_laws_calls.specs.history.Readers.HandedOut.{over, rows_by, are_live, are_over, ender}
use Rattle.dsql_laws_calls.specs.history.Rules.Wishes.{wish_as}
use Rattle.dsql_laws_calls.proofs.laws.Tests.{both, same_number, same_itself}
use Rattle.dsql_laws_calls.specs.history.declared.event.Event.{Event}
use Rattle.dsql_laws_calls.specs.history.declared.work.Scope.{Scope}
use Rattle.dsql_laws_calls.specs.history.declared.work.Scope.TheVariants.{Db, Held}
use Rattle.dsql_laws_calls.specs.history.declared.work.Work.{Work}
use Rattle.dsql_laws_calls.specs.history.declared.work.Task.TheVariants.{Execute, ReadOne, HandOut}
use Rattle.dsql_laws_calls.specs.history.declared.work.Work.TheVariants.{Statement, Begin, End, Ping, Fetch, Close, Look}
use Rattle.dsql_laws_calls.specs.history.Readers.Course.{caps}
use Rattle.dsql_laws_calls.specs.history.Readers.Unfinished.{is_unfinished}
use Rattle.dsql_laws_calls.specs.history.Readers.Works.{works, work, scope, asks, borrower, hands_out_in, is_in, is_fetch, aim_of, owner_as}
use Rattle.dsql_laws_calls.specs.history.Readers.Journals.{journal, heard_in}
use Rattle.dsql_laws_calls.specs.history.Readers.Lines.{line_among, has_sent}
use Rattle.dsql_laws_calls.specs.history.Readers.Pool.{place, home}
use Rattle.dsql_laws_calls.specs.history.Readers.Transactions.{tx_end, is_begun, is_over, tx_ender}
use Rattle.dsql_laws_calls.specs.history.Readers.Calls.{decided, site}
use Rattle.dsql_laws_calls.specs.history.Rules.Sent.{asked_by, inner_after, untested, line_of, closes, wish, sent_for, close_due}
use Rattle.dsql_laws_calls.specs.history.Rules.Ending.{first_closing, ended_by_call, end_after, ending_at, ending_with, ending}
use Rattle.dsql_laws_calls.specs.history.Rules.Line.{due_in, due_for, tidying, is_due, is_due_at}
use Rattle.dsql_laws_calls.specs.history.Legal.{Lawful}
use Rattle.dsql_laws_tenures.specs.Tenures.{made_by}
use Rattle.dsql_laws_calls.proofs.Owners.{at_home, owner_is_of}
use Rattle.dsql_laws_calls.proofs.Plain.{begins}
use Rattle.dsql_laws_calls.proofs.Makers.{hands_out, rows_hand_out, sent_made, rows_begin_nothing}
use Rattle.dsql_laws_calls.proofs.Begun.{over_begun}
use Rattle.dsql_laws_calls.proofs.Lines.{line_there, line_here}
use Rattle.dsql_laws_calls.proofs.Own.{some_due, DueNow, due_now, due_of}
use Rattle.dsql_laws_calls.proofs.Inside.{inside_uses, live_goes}
use Rattle.dsql_laws_calls.proofs.Quiet.{Quiet, quiet_sends_none}
use Rattle.dsql_laws_calls.proofs.LineParts.{hands_of, known_bad, unsent_line, unsent_in}
use Rattle.dsql_laws_calls.proofs.HandedRows.{handed_made, rows_begun}
use Rattle.dsql_laws_calls.proofs.Why.{ended_there, first_some, scoped}
use Rattle.dsql_laws_calls.proofs.UnderWay.{line_made, handed_there, Newest, Going, Facts, clash, at_number, line_at_its, turn_of}
use Rattle.dsql_laws_calls.proofs.DueWay.{borrow_same, inner_is}
use Rattle.dsql_laws_calls.proofs.InnerLines.{no_cursor}
use Rattle.dsql_laws_calls.proofs.LiveRows.{dead_over, over_some}
use Rattle.dsql_laws_due.proofs.OnRows.{closed_over, fetch_of}
use Rattle.dsql_laws_due.proofs.LineTails.{no_handle}
use Rattle.dsql_laws_due.proofs.LineEnds.{IsShut, line_shut, unhanded_wish, ungiven_shut}
use Rattle.dsql_laws_due.proofs.Holds.{asked_in, AllShut, Kept, RowsWay, EndsWay, TestsWay, TxWay, IsOther}

-- An owner that isn't a call is that of a call that begins a transaction.
pub owner_begins : (H : List Event) (c t : ℕ) (own : Owner) → Lawful H → place H c ≡ Some (Lent t own) → is_call own ≡ false → begins (work H (number_of own)) ≡ true
owner_begins H c t own l is other = let o = owner_is_of H c t own l is in by (work H (number_of own)) (sym (ap is_call o.1) ∙ other)
  where
    by : (w : Work) → is_call (owner_as w (number_of own)) ≡ false → begins w ≡ true
    by (Begin label level read_only) h = refl
    by _ h = absurd cc

in_scope : (s : Scope) (k : ℕ) → is_in k s ≡ true → s ≡ Held k
in_scope (Held n) k h = ap Held (same_number n k h)
in_scope Db k h = absurd cc

-- The rows of a transaction that is over are over.
rows_over : (H : List Event) (n k : ℕ) → Lawful H → hands_out_in k (work H n) ≡ true → is_over H k ≡ true → is_some (rows_by H n) ≡ true → are_over H n ≡ true
rows_over H n k l hands gone some = by (are_live H n) refl
  where
    by : (b : Bool) → are_live H n ≡ b → are_over H n ≡ true
    by true lives =
        let goes = live_goes H n k l lives hands in
        let b = both (is_begun H k) (not (is_over H k)) goes in
        clash (sym b.1 ∙ ap (λ x. not x) gone)
    by false lives = dead_over (rows_by H n) some lives

-- If a Commit or a Rollback is due, nothing is open, unless the connection is known to be bad.

module _ (H : List Event) (e : Entry) (t : ℕ) (own : Owner) (l : Lawful H) (f : Facts H) (kept : Kept H) (d : DueNow H e) (same : d.owner ≡ own) (other : is_call own ≡ false)
    (elsewhere : (n : ℕ) → scope (work H n) ≡ Held (number_of own) → n ≢ e.call_no) (gone : is_over H (number_of own) ≡ true) (closed : first_closing H (number_of own) 0 (works H) ≡ None)
    (good : went_bad (journal H e.conn) ≡ false) where
  lent : place H e.conn ≡ Some (Lent e.tenure own)
  lent = subst (λ o. place H e.conn ≡ Some (Lent e.tenure o)) same d.lent

  abbrev made : ℕ → List Exchange
  made n = made_by n e.tenure (journal H e.conn)

  fine : (n : ℕ) → courses_made.went_bad (made n) ≡ false
  fine n = by (courses_made.went_bad (made n)) refl
    where
      by : (b : Bool) → courses_made.went_bad (made n) ≡ b → b ≡ false
      by true is = clash (sym (known_bad n e.tenure (journal H e.conn) is) ∙ good)
      by false is = refl

  -- Nothing is due in the line of call n.
  unsent : (n : ℕ) → scope (work H n) ≡ Held (number_of own) → is_some (inner_after (caps H) (went_bad (journal H e.conn)) (asked_by H n) wishes.Close (line_among n (heard_in H e.conn e.tenure))) ≡ false → IsShut (made n)
  unsent n inner none =
      let keeps = kept.lines e.conn e.tenure own lent other in
      let asked : asked_in H (number_of own) n ≡ Some (asked_by H n) =
      ap (λ s. cond (is_in (number_of own) s) (Some (asked_by H n)) None) inner ∙ ap (λ b. cond b (Some (asked_by H n)) None) (same_itself (number_of own))
      in
      line_shut (caps H) (asked_by H n) (made n) (keeps.text n (asked_by H n) asked) (keeps.own n (asked_by H n) asked) (fine n)
      (sym (ap (λ b. is_some (body_after (untested (caps H)) b (asked_by H n) wishes.Close (made n))) good) ∙ none)

  handed_shut : (n : ℕ) → scope (work H n) ≡ Held (number_of own) → handed_there H e.conn e.tenure n ≡ true → IsShut (made n)
  handed_shut n inner h =
      let hands = hands_of (work H n) (made n) h in
      let in_it = hands_in (work H n) hands inner in
      let some = handed_made H e.conn e.tenure n l hands (cursor (work H n) h) in
      let dead = rows_over H n (number_of own) l in_it gone some in
      let none : is_some (close_due H n) ≡ false = unclosed (is_some (close_due H n)) refl in_it in
      unsent n inner
      (sym (ap (λ o. is_some o) (inner_is H e.conn e.tenure own n wishes.Close (number_of own) other inner))
      ∙ (sym (ap (λ o. is_some o) (line_here H e.conn e.tenure own n wishes.Close l lent (inside_uses H n (number_of own) inner)))
      ∙ (sym (ap (λ b. is_some (cond b (line_of H n wishes.Close) None)) dead) ∙ none)))
    where
      hands_in : (w : Work) → hands_out w ≡ true → scope w ≡ Held (number_of own) → hands_out_in (number_of own) w ≡ true
      hands_in (Statement s (HandOut label)) x y = ap (is_in (number_of own)) y ∙ same_itself (number_of own)
      hands_in w x y = absurd cc

      cursor : (w : Work) → is_some (handed (aim_of w) (made n)) ≡ true → is_some (own_cursor (made n)) ≡ true
      cursor (Statement s (HandOut label)) x = x
      cursor w x = absurd cc

      unclosed : (b : Bool) → is_some (close_due H n) ≡ b → hands_out_in (number_of own) (work H n) ≡ true → b ≡ false
      unclosed true is in_it =
          let some = first_some H (number_of own) 0 n (works H) in_it (subst (λ i. is_some (close_due H i) ≡ true) (omega arith) is) in
          clash (sym some ∙ ap (λ o. is_some o) closed)
      unclosed false is in_it = refl

  quiet_shut : (n : ℕ) → scope (work H n) ≡ Held (number_of own) → Quiet (caps H) (went_bad (journal H e.conn)) (asked_by H n) (line_made H e.conn e.tenure n) → IsShut (made n)
  quiet_shut n inner q = unsent n inner (quiet_sends_none (caps H) (went_bad (journal H e.conn)) (asked_by H n) wishes.Close (line_among n (heard_in H e.conn e.tenure)) q)

  newest_shut : (n : ℕ) → scope (work H n) ≡ Held (number_of own) → is_unfinished H n ≡ true → Newest H e.conn e.tenure n → IsShut (made n)
  newest_shut n inner u newest = by (handed_there H e.conn e.tenure n) refl
    where
      silent : is_some (line_there H e.conn e.tenure own n wishes.Nothing) ≡ false
      silent =
          subst (λ o. is_some (line_there H e.conn e.tenure o n wishes.Nothing) ≡ false) same
          (turn_of H e l d n (elsewhere n inner) newest.sender (subst (λ o. scope (work H n) ≡ Held (number_of o)) (sym same) inner) u)

      none_of : (o : Option ℕ) → is_some o ≡ false → o ≡ None
      none_of None h = refl
      none_of (Some r) h = absurd cc

      by : (b : Bool) → handed_there H e.conn e.tenure n ≡ b → IsShut (made n)
      by true h = handed_shut n inner h
      by false h =
          unsent n inner
          (ap (λ o. is_some o) (unhanded_wish (untested (caps H)) (went_bad (journal H e.conn)) (asked_by H n) wishes.Close wishes.Nothing (made n) (none_of (handed (aim_of (work H n)) (made n)) h))
          ∙ (sym (ap (λ o. is_some o) (inner_is H e.conn e.tenure own n wishes.Nothing (number_of own) other inner)) ∙ silent))

  sent_shut : (n : ℕ) → scope (work H n) ≡ Held (number_of own) → has_sent n (journal H e.conn) ≡ true → IsShut (made n)
  sent_shut n inner sent = by (is_unfinished H n) refl
    where
      going : is_unfinished H n ≡ true → Going H e.conn e.tenure n → IsShut (made n)
      going u (inl h) = handed_shut n inner h
      going u (inr (inl newest)) = newest_shut n inner u newest
      going u (inr (inr q)) = quiet_shut n inner q

      rested : (handed_there H e.conn e.tenure n ≡ true) ⊎ Quiet (caps H) (went_bad (journal H e.conn)) (asked_by H n) (line_made H e.conn e.tenure n) → IsShut (made n)
      rested (inl h) = handed_shut n inner h
      rested (inr q) = quiet_shut n inner q

      by : (b : Bool) → is_unfinished H n ≡ b → IsShut (made n)
      by true u = going u (f.going e.conn e.tenure own lent n inner u sent)
      by false u = rested (kept.rested e.conn e.tenure own lent n inner u sent)

  each_shut : (n : ℕ) → IsShut (made n)
  each_shut n = by (is_in (number_of own) (scope (work H n))) refl
    where
      inside : (b : Bool) → has_sent n (journal H e.conn) ≡ b → scope (work H n) ≡ Held (number_of own) → IsShut (made n)
      inside true sent inner = sent_shut n inner sent
      inside false sent inner =
          subst IsShut (sym (ap exchanges (unsent_line n (of_tenure e.tenure (journal H e.conn)) (unsent_in n e.tenure (journal H e.conn) sent))))
          (record { cursor = no_cursor [] refl; handle = no_handle [] refl })

      by : (b : Bool) → is_in (number_of own) (scope (work H n)) ≡ b → IsShut (made n)
      by true is = inside (has_sent n (journal H e.conn)) refl (in_scope (scope (work H n)) (number_of own) is)
      by false is = let keeps = kept.lines e.conn e.tenure own lent other in ungiven_shut (made n) (keeps.others n (ap (λ b. cond b (Some (asked_by H n)) None) is))

-- What is due to end a transaction.

record First (H : List Event) (k n : ℕ) (ws : List Work) (q : DriverCall) : Type 0 where
  index : ℕ
  hands : hands_out_in k (get_or ws index Look) ≡ true
  some : is_due (close_due H (n + index)) q ≡ true

first_of : (H : List Event) (k n : ℕ) (ws : List Work) (q : DriverCall) → is_due (first_closing H k n ws) q ≡ true → First H k n ws q
first_of H k n [] q h = absurd cc
first_of H k n (w ∷ ws) q h = by (first_of H k (n + 1) ws q) (hands_out_in k w) (close_due H n) refl refl h
  where
    by : (is_due (first_closing H k (n + 1) ws) q ≡ true → First H k (n + 1) ws q) → (b : Bool) (o : Option DriverCall) → hands_out_in k w ≡ b → close_due H n ≡ o
        → is_due (or_else (cond b o None) (first_closing H k (n + 1) ws)) q ≡ true → First H k n (w ∷ ws) q
    by rest true (Some p) hands is x = record { index = 0; hands = hands; some = subst (λ i. is_due (close_due H i) q ≡ true) (omega arith) (ap (λ o. is_due o q) is ∙ x) }
    by rest true None hands is x = let g = rest x in record { index = suc g.index; hands = g.hands; some = subst (λ i. is_due (close_due H i) q ≡ true) (omega arith) g.some }
    by rest false o hands is x = let g = rest x in record { index = suc g.index; hands = g.hands; some = subst (λ i. is_due (close_due H i) q ≡ true) (omega arith) g.some }

end_is : (end : TxEnd) (q : DriverCall) → is_due (Some (ended_by_call end)) q ≡ true → is_ending q ≡ true
end_is tx_ends.Commit calls.Commit h = refl
end_is tx_ends.Commit q h = absurd cc
end_is tx_ends.Rollback calls.Rollback h = refl
end_is tx_ends.EndOfRun calls.Rollback h = refl
end_is end calls.Rollback h = refl
end_is _ q h = absurd cc

test_is : (can : Caps) (q : DriverCall) → is_due (test_of can) q ≡ true → q ≡ calls.Valid
test_is can q h = by can.validator h
  where
    valid : (p : DriverCall) → is_due (Some calls.Valid) p ≡ true → p ≡ calls.Valid
    valid calls.Valid x = refl
    valid p x = absurd cc

    by : (b : Bool) → is_due (cond b (Some calls.Valid) None) q ≡ true → q ≡ calls.Valid
    by true x = valid q x
    by false x = absurd cc

rows_way : (H : List Event) (c t : ℕ) (own : Owner) (m n : ℕ) (q : DriverCall) → Lawful H → place H c ≡ Some (Lent t own) → hands_out_in (number_of own) (work H n) ≡ true → is_due (close_due H n) q ≡ true → RowsWay H c t own m q
rows_way H c t own m n q l is hands due = by (are_over H n) refl due
  where
    by : (b : Bool) → are_over H n ≡ b → is_due (cond b (line_of H n wishes.Close) None) q ≡ true → RowsWay H c t own m q
    by true over x = record {
      n = n;
      hands = hands;
      rows = over_some (rows_by H n) over;
      wish = wishes.Close;
      due = ap (λ o. is_due o q) (sym (line_here H c t own n wishes.Close l is (inside_uses H n (number_of own) (scoped (work H n) (number_of own) hands)))) ∙ x;
      left = inr refl;
      kind = inl (refl, over);
    }
    by false over x = absurd cc

ending_way : (H : List Event) (e : Entry) (own : Owner) → Lawful H → Facts H → Kept H → (d : DueNow H e) → d.owner ≡ own → is_call own ≡ false → ((n : ℕ) → scope (work H n) ≡ Held (number_of own) → n ≢ e.call_no)
    → is_due (ending H (number_of own)) e.call ≡ true → TxWay H e.conn e.tenure own e.call_no e.call
ending_way H e own l f kept d same other elsewhere due = by (tx_end H (number_of own)) refl due
  where
    lent_here : place H e.conn ≡ Some (Lent e.tenure own)
    lent_here = subst (λ o. place H e.conn ≡ Some (Lent e.tenure o)) same d.lent

    tested : (b v : Bool) → went_bad (journal H e.conn) ≡ b → list_any (λ x. is_valid x.call) (heard_in H e.conn e.tenure) ≡ v → ended_there (heard_in H e.conn e.tenure) ≡ true
        → is_due (cond (b || v) None (test_of (caps H))) e.call ≡ true → TestsWay H e.conn e.tenure e.call
    tested false false good untested ended x = record { tests = test_is (caps H) e.call x; ended = ended; good = good; untested = untested }
    tested true v good untested ended x = absurd cc
    tested false true good untested ended x = absurd cc

    shut : is_over H (number_of own) ≡ true → first_closing H (number_of own) 0 (works H) ≡ None → (b : Bool) → went_bad (journal H e.conn) ≡ b → AllShut e.tenure (journal H e.conn)
    shut gone closed true bad = inl bad
    shut gone closed false good = inr (each_shut H e e.tenure own l f kept d same other elsewhere gone closed good)

    after : (end : TxEnd) (b : Bool) → is_over H (number_of own) ≡ true → first_closing H (number_of own) 0 (works H) ≡ None → ended_there (heard_in H e.conn e.tenure) ≡ b
        → is_due (cond b (cond (went_bad (journal H e.conn) || list_any (λ x. is_valid x.call) (heard_in H e.conn e.tenure)) None (test_of (caps H))) (Some (ended_by_call end))) e.call ≡ true
        → EndsWay H e.conn e.tenure e.call ⊎ TestsWay H e.conn e.tenure e.call
    after end true gone closed ended x = inr (tested (went_bad (journal H e.conn)) (list_any (λ y. is_valid y.call) (heard_in H e.conn e.tenure)) refl refl ended x)
    after end false gone closed ended x = inl (record { ends = end_is end e.call x; none = ended; shut = shut gone closed (went_bad (journal H e.conn)) refl })

    parts : (end : TxEnd) (o : Option DriverCall) → is_over H (number_of own) ≡ true → first_closing H (number_of own) 0 (works H) ≡ o
        → is_due (or_else o (end_after H (went_bad (journal H e.conn)) end (heard_in H e.conn e.tenure))) e.call ≡ true
        → RowsWay H e.conn e.tenure own e.call_no e.call ⊎ (EndsWay H e.conn e.tenure e.call ⊎ TestsWay H e.conn e.tenure e.call)
    parts end None gone first x = inr (after end (ended_there (heard_in H e.conn e.tenure)) gone first refl x)
    parts end (Some q) gone first x =
        let g = first_of H (number_of own) 0 (works H) e.call (ap (λ o. is_due o e.call) first ∙ x) in
        inl (rows_way H e.conn e.tenure own e.call_no g.index e.call l lent_here g.hands (subst (λ i. is_due (close_due H i) e.call ≡ true) (omega arith) g.some))

    here : (end : TxEnd) → is_due (ending_at H (number_of own) (home H (number_of own)) end (place H (home H (number_of own)))) e.call ≡ true
        → is_due (or_else (first_closing H (number_of own) 0 (works H)) (end_after H (went_bad (journal H e.conn)) end (heard_in H e.conn e.tenure))) e.call ≡ true
    here end x =
        sym (ap (λ o. is_due o e.call)
        (ap (λ c. ending_at H (number_of own) c end (place H c)) (at_home H e.conn e.tenure own l lent_here) ∙ ap (λ at. ending_at H (number_of own) e.conn end at) lent_here
        ∙ ap (λ b. cond b (or_else (first_closing H (number_of own) 0 (works H)) (end_after H (went_bad (journal H e.conn)) end (heard_in H e.conn e.tenure))) None) (same_itself (number_of own))))
        ∙ x

    by : (o : Option TxEnd) → tx_end H (number_of own) ≡ o → is_due (ending_with H (number_of own) o) e.call ≡ true → TxWay H e.conn e.tenure own e.call_no e.call
    by None is x = absurd cc
    by (Some end) is x =
        let gone : is_over H (number_of own) ≡ true = ap (λ o. is_some o) is in
        record { begun = over_begun H (number_of own) gone; way = parts end (first_closing H (number_of own) 0 (works H)) gone refl (here end x) }

-- What the layer sends.
layer_way : (H : List Event) (e : Entry) (own : Owner) → Lawful H → Facts H → Kept H → (d : DueNow H e) → d.owner ≡ own → is_call own ≡ false → ((n : ℕ) → scope (work H n) ≡ Held (number_of own) → n ≢ e.call_no)
    → is_due (tidying H (number_of own)) e.call ≡ true → TxWay H e.conn e.tenure own e.call_no e.call
layer_way H e own l f kept d same other elsewhere due = by (is_begun H (number_of own)) due
  where
    begin : begins (work H (number_of own)) ≡ true
    begin = owner_begins H e.conn e.tenure own l (subst (λ o. place H e.conn ≡ Some (Lent e.tenure o)) same d.lent) other

    ended : (b : Bool) → is_due (cond b (ending H (number_of own)) None) e.call ≡ true → TxWay H e.conn e.tenure own e.call_no e.call
    ended true x = ending_way H e own l f kept d same other elsewhere x
    ended false x = absurd cc

    over_rows : (b : Bool) → are_over H (number_of own) ≡ b → is_due (cond b (line_of H (number_of own) wishes.Close) None) e.call ≡ true → TxWay H e.conn e.tenure own e.call_no e.call
    over_rows true gone x = clash (sym begin ∙ rows_begin_nothing H (number_of own) (over_some (rows_by H (number_of own)) gone))
    over_rows false gone x = absurd cc

    closed : (b : Bool) → is_due (cond b (close_due H (number_of own)) None) e.call ≡ true → TxWay H e.conn e.tenure own e.call_no e.call
    closed true x = over_rows (are_over H (number_of own)) refl x
    closed false x = absurd cc

    by : (b : Bool) → is_due (cond b (cond (tx_ender H (number_of own) == 0) (ending H (number_of own)) None) (cond (ender H (number_of own) == 0) (close_due H (number_of own)) None)) e.call ≡ true → TxWay H e.conn e.tenure own e.call_no e.call
    by true x = ended (tx_ender H (number_of own) == 0) x
    by false x = closed (ender H (number_of own) == 0) x

-- A call over rows.

over_way : (H : List Event) (e : Entry) (own : Owner) (j : ℕ) → Lawful H → Facts H → (d : DueNow H e) → d.owner ≡ own → is_call own ≡ false → (e.call_no == 0) ≡ false → (work H e.call_no ≡ Fetch j) ⊎ (work H e.call_no ≡ Close j)
    → is_due (sent_for H j (wish H e.call_no j)) e.call ≡ true → TxWay H e.conn e.tenure own e.call_no e.call
over_way H e own j l f d same other some which due =
    by (closes H e.call_no j) (is_fetch (work H e.call_no) && (are_live H j && is_none (decided H e.call_no))) refl refl due
  where
    lent_here : place H e.conn ≡ Some (Lent e.tenure own)
    lent_here = subst (λ o. place H e.conn ≡ Some (Lent e.tenure o)) same d.lent

    rows : is_some (rows_by H j) ≡ true
    rows = sent_made H e.call_no j some (some_due (sent_for H j (wish H e.call_no j)) e.call due)

    here : site H j ≡ e.conn
    here = ap (home H) (sym (borrow_same H e.call_no j which (rows_hand_out H j (sent_made H e.call_no j some (some_due (sent_for H j (wish H e.call_no j)) e.call due))))) ∙ d.site some

    number_at : (w : Wish) → is_due (line_of H j w) e.call ≡ true → number_of own ≡ borrower H j
    number_at w x = line_at_its H j e.conn e.tenure own w e.call here lent_here x

    -- The rows were made in the transaction.
    hands_in : number_of own ≡ borrower H j → hands_out_in (number_of own) (work H j) ≡ true
    hands_in number = of_work (work H j) refl (rows_hand_out H j rows)
      where
        of_work : (v : Work) → work H j ≡ v → hands_out v ≡ true → hands_out_in (number_of own) (work H j) ≡ true
        of_work (Statement Db (HandOut label)) its x =
            let itself : number_of own ≡ j = number ∙ rw its refl in
            let wrong : true ≡ false = sym (owner_begins H e.conn e.tenure own l lent_here other) ∙ (ap (λ i. begins (work H i)) itself ∙ ap begins its) in
            absurd cc
        of_work (Statement (Held k) (HandOut label)) its x = let number_k : number_of own ≡ k = number ∙ rw its refl in ap (λ i. hands_out_in i (work H j)) number_k ∙ (ap (hands_out_in k) its ∙ same_itself k)
        of_work v its x = absurd cc

    wanted : (w : Wish) → is_due (line_of H j w) e.call ≡ true → (hands_out_in (number_of own) (work H j) ≡ true → (ended_there (heard_in H e.conn e.tenure) ≡ false) ⊎ (w ≡ wishes.Close))
        → ((w ≡ wishes.Close) × (are_over H j ≡ true)) ⊎ ((w ≡ wishes.Fetch) × (work H e.call_no ≡ Fetch j)) → TxWay H e.conn e.tenure own e.call_no e.call
    wanted w x left kind =
        let number = number_at w x in
        let hands = hands_in number in
        record {
          begun = rows_begun H j (number_of own) l rows hands;
          way =
              inl (record {
                n = j;
                hands = hands;
                rows = rows;
                wish = w;
                due = ap (λ o. is_due o e.call) (sym (line_here H e.conn e.tenure own j w l lent_here (sym number))) ∙ x;
                left = left hands;
                kind = kind;
              });
        }

    by : (a b : Bool) → closes H e.call_no j ≡ a → (is_fetch (work H e.call_no) && (are_live H j && is_none (decided H e.call_no))) ≡ b → is_due (sent_for H j (wish_as a b)) e.call ≡ true → TxWay H e.conn e.tenure own e.call_no e.call
    by true b ends fetches x = wanted wishes.Close x (λ hands. inr refl) (inl (refl, closed_over H e.call_no j some ends))
    by false true ends fetches x =
        let y = both (is_fetch (work H e.call_no)) (are_live H j && is_none (decided H e.call_no)) fetches in
        let z = both (are_live H j) (is_none (decided H e.call_no)) y.1 in
        wanted wishes.Fetch x
        (λ hands.
        let goes = live_goes H j (number_of own) l z.0 hands in
        let b = both (is_begun H (number_of own)) (not (is_over H (number_of own))) goes in
        inl (f.ends e.conn e.tenure own lent_here (not_true (is_over H (number_of own)) b.1)))
        (inr (refl, fetch_of j (work H e.call_no) which y.0))
    by false false ends fetches x = absurd cc

pub due_tx_way : (H : List Event) (e : Entry) (own : Owner) → Lawful H → Facts H → Kept H → is_due_at H (place H e.conn) e ≡ true → place H e.conn ≡ Some (Lent e.tenure own) → is_call own ≡ false → IsOther H e.call_no
    → TxWay H e.conn e.tenure own e.call_no e.call
due_tx_way H e own l f kept h is other its = whose (e.call_no == 0) refl (due_now H e h)
  where
    same_lent : (o p : Owner) → Some (Lent e.tenure o) ≡ Some (Lent e.tenure p) → o ≡ p
    same_lent o p k = cc

    elsewhere : (n : ℕ) → scope (work H n) ≡ Held (number_of own) → n ≢ e.call_no
    elsewhere n inner same = let wrong : Db ≡ Held (number_of own) = sym its.outside ∙ (ap (λ m. scope (work H m)) (sym same) ∙ inner) in cc

    work_of : (d : DueNow H e) → d.owner ≡ own → (e.call_no == 0) ≡ false → (w : Work) → work H e.call_no ≡ w → asks w ≡ false → scope w ≡ Db → is_due (due_in H e.call_no w) e.call ≡ true → TxWay H e.conn e.tenure own e.call_no e.call
    work_of d same some (Fetch j) is_work a s x = over_way H e own j l f d same other some (inl is_work) x
    work_of d same some (Close j) is_work a s x = over_way H e own j l f d same other some (inr is_work) x
    work_of d same some (End k) is_work a s x = by_ender (tx_ender H k == e.call_no) x
      where
        by_ender : (b : Bool) → is_due (cond b (ending H k) None) e.call ≡ true → TxWay H e.conn e.tenure own e.call_no e.call
        by_ender true y =
            let uses : borrower H e.call_no ≡ k = rw is_work refl in
            let at : home H k ≡ e.conn = ap (home H) (sym uses) ∙ d.site some in
            let number = at_number H k e.conn e.tenure own (some_due (ending H k) e.call y) at is in
            ending_way H e own l f kept d same other elsewhere (ap (λ i. is_due (ending H i) e.call) number ∙ y)
        by_ender false y = absurd cc
    work_of d same some Look is_work a s x = absurd cc
    work_of d same some (Statement Db Execute) is_work a s x = absurd cc
    work_of d same some (Statement (Held k) Execute) is_work a s x = absurd cc
    work_of d same some (Statement Db (ReadOne dests)) is_work a s x = absurd cc
    work_of d same some (Statement (Held k) (ReadOne dests)) is_work a s x = absurd cc
    work_of d same some (Statement Db (HandOut label)) is_work a s x = absurd cc
    work_of d same some (Statement (Held k) (HandOut label)) is_work a s x = absurd cc
    work_of d same some (Begin label level read_only) is_work a s x = absurd cc
    work_of d same some Ping is_work a s x = absurd cc

    whose : (b : Bool) → (e.call_no == 0) ≡ b → DueNow H e → TxWay H e.conn e.tenure own e.call_no e.call
    whose true layer d =
        let same = same_lent d.owner own (sym d.lent ∙ is) in
        let due : is_due (tidying H (number_of d.owner)) e.call ≡ true = ap (λ b. is_due (cond b (tidying H (number_of d.owner)) (due_for H e.call_no)) e.call) (sym layer) ∙ d.due in
        layer_way H e own l f kept d same other elsewhere (subst (λ o. is_due (tidying H (number_of o)) e.call ≡ true) same due)
    whose false some d =
        let same = same_lent d.owner own (sym d.lent ∙ is) in
        let o = due_of H e.call_no e.call (ap (λ b. is_due (cond b (tidying H (number_of d.owner)) (due_for H e.call_no)) e.call) (sym some) ∙ d.due) in
        work_of d same some (work H e.call_no) refl its.asks_none its.outside o.due
