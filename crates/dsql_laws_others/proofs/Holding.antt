-- Live rows that a call on the database handed out can be fetched from, and everything that may be sent for
-- them is a fetch. The argument goes from event to event.
use Rattle.std.proofs.Common.{◌≡◌, ◌≢◌, ℕ, ◌==◌, ◌⊎◌, inl, inr, Bool, true, false, not, ◌&&◌, ◌||◌, cond, List, [], ◌∷◌, Option, Some, None, is_some, is_none, refl, sym, ap, subst, ◌∙◌}
use Rattle.std.proofs.lemmas.Bool.{or_cases}
use Rattle.std.specs.Option.{option_map}
use Rattle.dsql_laws_calls.specs.course.declared.course.Wish.{Wish}
use Rattle.dsql_laws_calls.specs.course.declared.course.Wish.TheVariants as wishes
use Rattle.dsql_laws_calls.specs.course.Made.{Exchange, own_cursor, rows_are_over}
use Rattle.dsql_laws_calls.specs.driver.declared.caps.Caps.{Caps}
use Rattle.dsql_laws_calls.specs.driver.declared.answer.DriverAnswer.{DriverAnswer}
use Rattle.dsql_laws_calls.specs.driver.declared.answer.DriverAnswer.TheVariants.{Cursor, Row, Bad, Fail}
use Rattle.dsql_laws_calls.specs.driver.declared.answer.DriverAnswer.TheVariants as answers
use Rattle.dsql_laws_calls.specs.driver.declared.call.DriverCall.{DriverCall}
use Rattle.dsql_laws_calls.specs.driver.declared.call.DriverCall.TheVariants.{Query, Next, CloseRows, CloseStmt, Valid}
use Rattle.dsql_laws_calls.specs.driver.declared.call.Input.TheVariants.{Text, Handle}
use Rattle.dsql_laws_calls.specs.driver.Kinds.{is_next, ends_cursor}
use Rattle.dsql_laws_calls.specs.journal.declared.entry.Entry.{Entry}
use Rattle.dsql_laws_calls.specs.journal.declared.entry.Owner.{Owner}
use Rattle.dsql_laws_calls.specs.journal.Kinds.{is_call, is_house, number_of}
use Rattle.dsql_laws_calls.specs.journal.Readers.{of_tenure}
use Rattle.dsql_laws_calls.specs.pool.declared.conn.Place.TheVariants.{Lent}
use Rattle.dsql_laws_calls.specs.pool.declared.moves.Move.TheVariants.{Lend}
use Rattle.dsql_laws_calls.specs.rows.declared.rows.Rows.{Rows}
use Rattle.dsql_laws_calls.specs.rows.declared.end.RowsEnd.TheVariants as row_ends
use Rattle.dsql_laws_calls.specs.rows.OpenRows.{is_live, rows_of}
use Rattle.dsql_laws_calls.proofs.rows.Numbers.{changes_one_number}
use Rattle.dsql_laws_calls.specs.works.Exchanges.{exchanges}
use Rattle.dsql_laws_calls.specs.works.HandedOut.{Made, after_fetch}
use Rattle.dsql_laws_calls.specs.works.Line.{Asked, handed}
use Rattle.dsql_laws_calls.proofs.laws_work.CallLines.{Step, HasRows, HasRead, step, step_after}
use Rattle.dsql_laws_calls.proofs.laws_work.HandedLines.{SentOver, due_over, held_due, is_holding}
use Rattle.dsql_laws_calls.proofs.laws_work.MadeLines.{MadeAt}
use Rattle.dsql_laws_calls.specs.history.Readers.HandedOut.{fetched, live, rows_by, rows_heard, handed_out, are_live, are_over, ender, is_late}
use Rattle.dsql_laws_calls.specs.history.Rules.Wishes.{wish_as}
use Rattle.dsql_laws_calls.proofs.laws.Tests.{both, same_number, same_itself}
use Rattle.dsql_laws_calls.proofs.Cases.{true_false}
use Rattle.dsql_laws_calls.proofs.laws_work.Rows.{same_or_not}
use Rattle.dsql_laws_calls.specs.history.declared.event.Event.{Event}
use Rattle.dsql_laws_calls.specs.history.declared.event.Event.TheVariants.{Entered, Heard, Pool, Ended}
use Rattle.dsql_laws_calls.specs.history.declared.work.Scope.TheVariants.{Db, Held}
use Rattle.dsql_laws_calls.specs.history.declared.work.Work.{Work}
use Rattle.dsql_laws_calls.specs.history.declared.work.Task.TheVariants.{HandOut}
use Rattle.dsql_laws_calls.specs.history.declared.work.Work.TheVariants.{Statement, Begin, End, Fetch, Close, Look}
use Rattle.dsql_laws_calls.specs.history.Readers.Calls.{decided, has_begun_to_send}
use Rattle.dsql_laws_calls.specs.history.Readers.Course.{caps}
use Rattle.dsql_laws_calls.specs.history.Readers.Journals.{heard_in}
use Rattle.dsql_laws_calls.specs.history.Readers.Pool.{place, home}
use Rattle.dsql_laws_calls.specs.history.Readers.Transactions.{is_begun, tx_ender}
use Rattle.dsql_laws_calls.specs.history.Readers.Works.{aim_of, asks, borrower, hands_out_in, is_fetch, owner_as, owner_of, scope, work}
use Rattle.dsql_laws_calls.specs.history.Rules.Ending.{ending}
use Rattle.dsql_laws_calls.specs.history.Rules.Line.{due_for, due_from, due_in, is_due, is_due_at, may_come, parts, sends_from, sends_in, tidying}
use Rattle.dsql_laws_calls.specs.history.Rules.Sent.{asked_by, closes, close_due, is_reset_due, line_of, sent_for, wish}
use Rattle.dsql_laws_calls.specs.history.Legal.{Allowed, Lawful}
use Rattle.dsql_laws_callers.proofs.Heard.{heard_lent}
use Rattle.dsql_laws_callers.proofs.KeptApart.{uses_its_own}
use Rattle.dsql_laws_callers.proofs.Senders.{not_due}
use Rattle.dsql_laws_calls.proofs.laws.Tried.{lends_to}
use Rattle.dsql_laws_calls.proofs.BeginningsAt.{heard_more, heard_other, heard_same, heard_tenure, is_answer}
use Rattle.dsql_laws_calls.proofs.Begun.{begun_begins, over_begun}
use Rattle.dsql_laws_calls.proofs.CallTenures.{call_line, line_of_call, plain_due}
use Rattle.dsql_laws_calls.proofs.Coming.{sound}
use Rattle.dsql_laws_calls.proofs.DueWay.{borrow_same}
use Rattle.dsql_laws_calls.proofs.EndedRows.{live_no_ender, rows_kept}
use Rattle.dsql_laws_calls.proofs.HandedRows.{rows_begun}
use Rattle.dsql_laws_calls.proofs.Inside.{inside, inside_uses}
use Rattle.dsql_laws_calls.proofs.Lent.{Lends, lent_before, stays_lent}
use Rattle.dsql_laws_calls.proofs.Lines.{line_here}
use Rattle.dsql_laws_calls.proofs.LiveRows.{dead_over, live_not_over, live_some}
use Rattle.dsql_laws_calls.proofs.Looks.{heard_there}
use Rattle.dsql_laws_calls.proofs.Makers.{hands_out, rows_begin_nothing, rows_hand_out, sent_made, some_heard}
use Rattle.dsql_laws_calls.proofs.Own.{DueNow, asks_own, due_now, due_of, some_due}
use Rattle.dsql_laws_calls.proofs.Owners.{at_home, lent_asks, lent_number, owner_is_of}
use Rattle.dsql_laws_calls.proofs.Plain.{begins, line_plain}
use Rattle.dsql_laws_calls.proofs.Rows.{ended_live, entering_revives_none, none_at_end}
use Rattle.dsql_laws_calls.proofs.RowsNew.{content}
use Rattle.dsql_laws_calls.proofs.UnderWay.{Facts, at_number, ending_over, line_at_its}
use Rattle.dsql_laws_calls.proofs.Wanted.{lent_nothing, rows_may_not_ask}
use Rattle.dsql_laws_calls.proofs.Why.{why_used}
use Rattle.dsql_laws_calls.proofs.Works.{is_look, work_stays}
use Rattle.dsql_laws_others.proofs.Closers.{no_house}

-- What holds if rows can be fetched from.

record Open (can : Caps) (asked : Asked) (made : List Exchange) : Type 0 where
  rows : ℕ
  cursor : own_cursor made ≡ Some rows
  unread : rows_are_over made ≡ false

open_at : (can : Caps) (asked : Asked) (s : Step) (made : List Exchange) → MadeAt can asked s made → is_holding s ≡ true → Open can asked made
open_at can asked (HasRows own rows) made m h = record { rows = rows; cursor = m.cursor; unread = m.are_over }
open_at can asked (HasRead own rows false) made m h = record { rows = rows; cursor = m.cursor; unread = m.are_over }
open_at can asked s made m h = absurd cc

-- The rows of a call to which a connection is lent.
record LiveAt (H : List Event) (c t : ℕ) (own : Owner) : Type 0 where
  lawful : Lawful H
  lent : place H c ≡ Some (Lent t own)
  call : is_call own ≡ true
  lives : are_live H (number_of own) ≡ true

-- Returns the label of the rows that the work hands out.
abbrev label_of : Work → List ℕ
label_of (Statement s (HandOut label)) = label
label_of w = []

hands_itself : (H : List Event) (c t : ℕ) (own : Owner) → LiveAt H c t own → work H (number_of own) ≡ Statement Db (HandOut (label_of (work H (number_of own))))
hands_itself H c t own x = by (work H (number_of own)) (rows_hand_out H (number_of own) (live_some (rows_by H (number_of own)) x.lives)) (lent_asks H c t own x.lawful x.lent)
  where
    by : (w : Work) → hands_out w ≡ true → asks w ≡ true → w ≡ Statement Db (HandOut (label_of w))
    by (Statement Db (HandOut label)) h k = refl
    by (Statement (Held k) (HandOut label)) h i = absurd cc
    by w h k = absurd cc

unbegun : (H : List Event) (c t : ℕ) (own : Owner) → LiveAt H c t own → is_begun H (number_of own) ≡ true → ⊥
unbegun H c t own x begun = true_false (begins (work H (number_of own))) (begun_begins H (number_of own) x.lawful begun) (rows_begin_nothing H (number_of own) (live_some (rows_by H (number_of own)) x.lives))

abbrev Holds : List Event → Type 0
Holds H = (c t : ℕ) (own : Owner) → place H c ≡ Some (Lent t own) → is_call own ≡ true → are_live H (number_of own) ≡ true → is_holding (step (heard_in H c t)) ≡ true

-- The exchanges of the tenure are those of the call's line.
made_at : (H : List Event) (c t : ℕ) (own : Owner) → Lawful H → place H c ≡ Some (Lent t own) → is_call own ≡ true → MadeAt (caps H) (asked_by H (number_of own)) (step (heard_in H c t)) (exchanges (heard_in H c t))
made_at H c t own l at call = let s = sound H l in of s.facts
  where
    of : Facts H → MadeAt (caps H) (asked_by H (number_of own)) (step (heard_in H c t)) (exchanges (heard_in H c t))
    of f = f.made c t own at call

opened : (H : List Event) (c t : ℕ) (own : Owner) (x : LiveAt H c t own) → is_holding (step (heard_in H c t)) ≡ true → Open (caps H) (asked_by H (number_of own)) (exchanges (heard_in H c t))
opened H c t own x holds = open_at (caps H) (asked_by H (number_of own)) (step (heard_in H c t)) (exchanges (heard_in H c t)) (made_at H c t own x.lawful x.lent x.call) holds

handed_open : (H : List Event) (c t : ℕ) (own : Owner) (x : LiveAt H c t own) (o : Open (caps H) (asked_by H (number_of own)) (exchanges (heard_in H c t))) → handed (asked_by H (number_of own)).aim (exchanges (heard_in H c t)) ≡ Some o.rows
handed_open H c t own x o = ap (λ w. handed (aim_of w) (exchanges (heard_in H c t))) (hands_itself H c t own x) ∙ o.cursor

-- What is due in the line is sent for the rows.
line_over : (H : List Event) (c t : ℕ) (own : Owner) (w : Wish) (q : DriverCall) → LiveAt H c t own → is_holding (step (heard_in H c t)) ≡ true → is_due (line_of H (number_of own) w) q ≡ true → SentOver q w false
line_over H c t own w q x holds due =
    let o = opened H c t own x holds in
    let at = asks_own H (number_of own) (lent_asks H c t own x.lawful x.lent) in
    let line : line_of H (number_of own) w ≡ call_line H c t own w = line_here H c t own (number_of own) w x.lawful x.lent at ∙ line_of_call H c t own w x.lawful x.lent x.call in
    let here : is_due (call_line H c t own w) q ≡ true = ap (λ d. is_due d q) (sym line) ∙ due in
    let sent = due_over (caps H) (is_reset_due H c) (asked_by H (number_of own)) w (heard_in H c t) q o.rows (handed_open H c t own x o) (made_at H c t own x.lawful x.lent x.call)
    (plain_due (call_line H c t own w) q (line_plain (caps H) (is_reset_due H c) (asked_by H (number_of own)) w (heard_in H c t)) here)
    in
    subst (SentOver q w) o.unread sent

-- Nothing is sent for them except fetches.

record Fetches (H : List Event) (e : Entry) (i : ℕ) : Type 0 where
  next : is_next e.call ≡ true
  its : work H e.call_no ≡ Fetch i

only_next : (q : DriverCall) → SentOver q wishes.Fetch false → is_next q ≡ true
only_next (Next rows) s = refl
only_next (CloseRows rows) s = absurd (neither s)
  where
    neither : (false ≡ true) ⊎ (wishes.Fetch ≡ wishes.Close) → ⊥
    neither (inl k) = cc
    neither (inr k) = cc
only_next (CloseStmt handle) s = absurd cc
only_next Valid s = absurd cc
only_next q s = absurd s

none_wanted : (q : DriverCall) → SentOver q wishes.Nothing false → ⊥
none_wanted (Next rows) s = let k = s.0 in cc
none_wanted (CloseRows rows) s = neither s
  where
    neither : (false ≡ true) ⊎ (wishes.Nothing ≡ wishes.Close) → ⊥
    neither (inl k) = cc
    neither (inr k) = cc
none_wanted (CloseStmt handle) s = cc
none_wanted Valid s = cc
none_wanted q s = s

abbrev Comes : List Event → Type 0
Comes H = (e : Entry) (own : Owner) → may_come H e ≡ true → place H e.conn ≡ Some (Lent e.tenure own) → is_call own ≡ true → are_live H (number_of own) ≡ true → Fetches H e (number_of own)

-- An entry that is due for live rows is a fetch.
due_fetches : (H : List Event) (e : Entry) (own : Owner) → Holds H → (x : LiveAt H e.conn e.tenure own) → (d : DueNow H e) → d.owner ≡ own → may_come H e ≡ true → Fetches H e (number_of own)
due_fetches H e own holds x d same comes = whose (e.call_no == 0) refl (ap (λ o. is_due (due_from H e.call_no (number_of o)) e.call) (sym same) ∙ d.due)
  where
    i : ℕ
    i = number_of own

    holding : is_holding (step (heard_in H e.conn e.tenure)) ≡ true
    holding = holds e.conn e.tenure own x.lent x.call x.lives

    tidies : is_due (tidying H (number_of own)) e.call ≡ true → ⊥
    tidies h = by (is_begun H (number_of own)) refl h
      where
        closed : (b : Bool) → is_due (cond b (close_due H (number_of own)) None) e.call ≡ true → ⊥
        closed false k = not_due e.call k
        closed true k = not_due e.call (ap (λ b. is_due (cond b (line_of H (number_of own) wishes.Close) None) e.call) (sym (live_not_over (rows_by H (number_of own)) x.lives)) ∙ k)

        by : (b : Bool) → is_begun H (number_of own) ≡ b → is_due (cond b (cond (tx_ender H (number_of own) == 0) (ending H (number_of own)) None) (cond (ender H (number_of own) == 0) (close_due H (number_of own)) None)) e.call ≡ true → ⊥
        by true begun k = unbegun H e.conn e.tenure own x begun
        by false begun k = closed (ender H (number_of own) == 0) k

    itself : (e.call_no == 0) ≡ false → asks (work H e.call_no) ≡ true → is_due (line_of H e.call_no wishes.Nothing) e.call ≡ true → ⊥
    itself some asker h =
        let at = line_at_its H e.call_no e.conn e.tenure own wishes.Nothing e.call (d.site some) x.lent h in
        let mine : e.call_no ≡ i = sym (asks_own H e.call_no asker) ∙ sym at in
        none_wanted e.call (line_over H e.conn e.tenure own wishes.Nothing e.call x holding (ap (λ k. is_due (line_of H k wishes.Nothing) e.call) (sym mine) ∙ h))

    inner : (k : ℕ) → (e.call_no == 0) ≡ false → scope (work H e.call_no) ≡ Held k → (w : Wish) → is_due (line_of H e.call_no w) e.call ≡ true → ⊥
    inner k some s w h =
        let at = line_at_its H e.call_no e.conn e.tenure own w e.call (d.site some) x.lent h in
        let n = inside H x.lawful in
        unbegun H e.conn e.tenure own x (ap (is_begun H) (at ∙ inside_uses H e.call_no k s) ∙ n.coming e k comes s)

    inside_line : (b : Bool) (o : Option DriverCall) → is_due (cond b o None) e.call ≡ true → is_due o e.call ≡ true
    inside_line true o h = h
    inside_line false o h = absurd (not_due e.call h)

    -- If the call works on rows, they are the rows of the owner itself.
    rows : (j : ℕ) → (e.call_no == 0) ≡ false → (work H e.call_no ≡ Fetch j) ⊎ (work H e.call_no ≡ Close j) → is_due (sent_for H j (wish H e.call_no j)) e.call ≡ true → Fetches H e (number_of own)
    rows j some which h = by (closes H e.call_no j) (is_fetch (work H e.call_no) && (are_live H j && is_none (decided H e.call_no))) refl refl h
      where
        made : is_some (rows_by H j) ≡ true
        made = sent_made H e.call_no j some (some_due (sent_for H j (wish H e.call_no j)) e.call h)

        user : borrower H e.call_no ≡ borrower H j
        user = borrow_same H e.call_no j which (rows_hand_out H j (sent_made H e.call_no j some (some_due (sent_for H j (wish H e.call_no j)) e.call h)))

        here : (w : Wish) → is_due (line_of H j w) e.call ≡ true → j ≡ number_of own
        here w k =
            let at = line_at_its H j e.conn e.tenure own w e.call (ap (home H) (sym user) ∙ d.site some) x.lent k in
            of (work H j) refl (rows_hand_out H j made) (sym at)
          where
            of : (v : Work) → work H j ≡ v → hands_out v ≡ true → borrower H j ≡ number_of own → j ≡ number_of own
            of (Statement Db (HandOut label)) is y uses = sym (rw is refl) ∙ uses
            of (Statement (Held k) (HandOut label)) is y uses =
                let its : k ≡ number_of own = sym (rw is refl) ∙ uses in
                absurd (unbegun H e.conn e.tenure own x (rows_begun H j (number_of own) x.lawful made (ap (hands_out_in (number_of own)) is ∙ (ap (λ z. k == z) (sym its) ∙ same_itself k))))
            of v is y uses = absurd cc

        lives_on : (w : Wish) → is_due (line_of H j w) e.call ≡ true → ender H j ≡ 0
        lives_on w k = ap (ender H) (here w k) ∙ live_no_ender H (number_of own) x.lives

        by : (b f : Bool) → closes H e.call_no j ≡ b → (is_fetch (work H e.call_no) && (are_live H j && is_none (decided H e.call_no))) ≡ f → is_due (sent_for H j (wish_as b f)) e.call ≡ true → Fetches H e (number_of own)
        by true f ends fetches k =
            let b = both (ender H j == e.call_no) (not (is_late H (scope (work H j))) || has_begun_to_send H e.call_no) ends in
            let none : e.call_no ≡ 0 = sym (same_number (ender H j) e.call_no b.0) ∙ lives_on wishes.Close k in
            absurd (true_false (e.call_no == 0) (ap (λ z. z == 0) none) some)
        by false true ends fetches k =
            let a = both (is_fetch (work H e.call_no)) (are_live H j && is_none (decided H e.call_no)) fetches in
            let its = here wishes.Fetch k in
            let sent = line_over H e.conn e.tenure own wishes.Fetch e.call x holding (ap (λ z. is_due (line_of H z wishes.Fetch) e.call) (sym its) ∙ k) in
            record { next = only_next e.call sent; its = fetch which a.0 ∙ ap Fetch its }
          where
            fetch : (work H e.call_no ≡ Fetch j) ⊎ (work H e.call_no ≡ Close j) → is_fetch (work H e.call_no) ≡ true → work H e.call_no ≡ Fetch j
            fetch (inl is) y = is
            fetch (inr is) y = let clash : false ≡ true = sym (ap is_fetch is) ∙ y in absurd cc
        by false false ends fetches k = absurd (not_due e.call k)

    ends : (k : ℕ) → (e.call_no == 0) ≡ false → work H e.call_no ≡ End k → (b : Bool) → is_due (cond b (ending H k) None) e.call ≡ true → ⊥
    ends k some is false h = not_due e.call h
    ends k some is true h =
        let sends = some_due (ending H k) e.call h in
        let at : home H k ≡ e.conn = ap (home H) (sym (rw is refl)) ∙ d.site some in
        let number = at_number H k e.conn e.tenure own sends at x.lent in
        unbegun H e.conn e.tenure own x (ap (is_begun H) number ∙ over_begun H k (ending_over H k sends))

    of_call : (some : (e.call_no == 0) ≡ false) → (w : Work) → work H e.call_no ≡ w → is_due (due_in H e.call_no w) e.call ≡ true → Fetches H e (number_of own)
    of_call some (Statement (Held k) task) is h = absurd (inner k some (ap scope is) wishes.Nothing (inside_line (sends_in H e.call_no k) (line_of H e.call_no wishes.Nothing) h))
    of_call some (Fetch j) is h = rows j some (inl is) h
    of_call some (Close j) is h = rows j some (inr is) h
    of_call some (End k) is h = absurd (ends k some is (tx_ender H k == e.call_no) h)
    of_call some Look is h = absurd (not_due e.call h)
    of_call some _ is h = absurd (itself some (ap asks is) h)

    whose : (b : Bool) → (e.call_no == 0) ≡ b → is_due (due_from H e.call_no (number_of own)) e.call ≡ true → Fetches H e (number_of own)
    whose true layer h = absurd (tidies (ap (λ b. is_due (cond b (tidying H (number_of own)) (due_for H e.call_no)) e.call) (sym layer) ∙ h))
    whose false some h =
        let o = due_of H e.call_no e.call (ap (λ b. is_due (cond b (tidying H (number_of own)) (due_for H e.call_no)) e.call) (sym some) ∙ h) in
        of_call some (work H e.call_no) refl o.due

-- The same at each event.

-- A call that has just made rows has its connection there.
made_there : (H : List Event) (x : Entry) (c t : ℕ) (own : Owner) → Lawful (Heard x ∷ H) → place H c ≡ Some (Lent t own) → number_of own ≡ x.call_no → x.conn ≡ c
made_there H x c t own l at mine =
    let some : x.call_no ≢ 0 = λ none. lent_number H c t own l.0 at (mine ∙ none) in
    let asker : asks (work H x.call_no) ≡ true = ap (λ k. asks (work H k)) (sym mine) ∙ lent_asks H c t own l.0 at in
    let f = heard_lent H x l.1 (no_house x some (is_house x.owner)) in
    let number : number_of x.owner ≡ number_of own = sym (uses_its_own H x l some) ∙ (asks_own H x.call_no asker ∙ sym mine) in
    sym (at_home H x.conn x.tenure x.owner l.0 f.lent) ∙ (ap (home H) number ∙ at_home H c t own l.0 at)

-- Live rows were live before, or the call of this answer made them.
were_live : (H : List Event) (x : Entry) (n : ℕ) → are_live (Heard x ∷ H) n ≡ true → (are_live H n ≡ true) ⊎ ((is_some (rows_by H n) ≡ false) × ((n ≡ x.call_no) × (hands_out (work H x.call_no) ≡ true)))
were_live H x n h = by (are_live H n) (is_some (rows_by H n)) refl refl
  where
    by : (b s : Bool) → are_live H n ≡ b → is_some (rows_by H n) ≡ s → (are_live H n ≡ true) ⊎ ((is_some (rows_by H n) ≡ false) × ((n ≡ x.call_no) × (hands_out (work H x.call_no) ≡ true)))
    by true s lives some = inl lives
    by false true dead some =
        let kept = rows_kept H (Heard x) n in
        absurd (true_false (are_over (Heard x ∷ H) n) (kept.ended (dead_over (rows_by H n) some dead)) (live_not_over (rows_by (Heard x ∷ H) n) h))
    by false false dead none = elim (some_heard H (work H x.call_no) x.call_no x.call x.answer n (handed_out H) (live_some (rows_by (Heard x ∷ H) n) h)) [
      | inl some ↦ absurd (true_false (is_some (rows_by H n)) some none)
      | inr w ↦ inr (none, w)
    ]

-- An answer that makes rows leaves them open to fetches.
query_holds : (H : List Event) (it : Work) (m : ℕ) (q : DriverCall) (a : DriverAnswer) (n : ℕ) (R : Made) (s : Step) → hands_out it ≡ true → is_some (rows_of n R) ≡ false → is_some (rows_of n (rows_heard H it m q a R)) ≡ true → is_holding (step_after s q a) ≡ true
query_holds H (Statement scope (HandOut label)) m (Query (Text text) params) (Cursor cursor columns) n R s h none some = refl
query_holds H (Statement scope (HandOut label)) m (Query (Handle handle) params) (Cursor cursor columns) n R s h none some = refl
query_holds H (Statement scope (HandOut label)) m q a n R s h none some = absurd (true_false (is_some (rows_of n R)) some none)
query_holds H it m q a n R s h none some = absurd cc

-- A fetch that leaves rows live leaves them open to fetches.
next_holds : (s : Step) (r : ℕ) (a : DriverAnswer) → is_holding s ≡ true → ends_cursor a ≡ false → is_holding (step_after s (Next r) a) ≡ true
next_holds (HasRows own rows) r Bad h k = absurd cc
next_holds (HasRead own rows false) r Bad h k = absurd cc
next_holds (HasRows own rows) r a h k = ap (λ b. is_holding (HasRead own rows b)) k
next_holds (HasRead own rows false) r a h k = ap (λ b. is_holding (HasRead own rows b)) k
next_holds s r a h k = absurd cc

fetch_on : (a : DriverAnswer) (x : Rows) → is_live (after_fetch a x) ≡ true → ends_cursor a ≡ false
fetch_on (Row values) x h = refl
fetch_on answers.End x h = let clash : true ≡ false = sym h ∙ ended_live row_ends.EndOfRows x in absurd cc
fetch_on (Fail text) x h = let clash : true ≡ false = sym h ∙ ended_live (row_ends.Failed text) x in absurd cc
fetch_on Bad x h = let clash : true ≡ false = sym h ∙ ended_live row_ends.BadConn x in absurd cc
fetch_on a x h = refl

fetched_holds : (H : List Event) (m : ℕ) (q : DriverCall) (a : DriverAnswer) (i : ℕ) (R : Made) (s : Step) → is_next q ≡ true → is_holding s ≡ true → live (rows_of i R) ≡ true → live (rows_of i (rows_heard H (Fetch i) m q a R)) ≡ true → is_holding (step_after s q a) ≡ true
fetched_holds H m (Next cursor) a i R s next holds was now =
    let l = changes_one_number in
    next_holds s cursor a holds (still (rows_of i R) was (sym (ap live (l.changes (fetched a) i R)) ∙ now))
  where
    still : (o : Option Rows) → live o ≡ true → live (option_map (fetched a) o) ≡ true → ends_cursor a ≡ false
    still None h k = absurd cc
    still (Some x) h k = fetch_on a x (sym (ap (λ (b : Bool). is_live (cond b (after_fetch a x) x)) h) ∙ k)
fetched_holds H m q a i R s next holds was now = absurd cc

heard_holds : (H : List Event) (x : Entry) → Lawful (Heard x ∷ H) → Holds H → Comes H → Holds (Heard x ∷ H)
heard_holds H x l holds comes c t own at call lives = by (same_or_not x.conn c) (were_live H x (number_of own) lives)
  where
    there : x.conn ≡ c → heard_in (Heard x ∷ H) c t ≡ x ∷ heard_in H c t
    there same = heard_more H x c t own l.1 at same

    came : x.conn ≡ c → (may_come H x ≡ true) × (x.tenure ≡ t)
    came same =
        let h = heard_there H x l.1 in
        let is : place H x.conn ≡ Some (Lent t own) = ap (place H) same ∙ at in
        (subst (λ p. sends_from H p x ≡ true) is h.line, heard_tenure H x t own l.1 is)

    by : (x.conn ≡ c) ⊎ (x.conn ≢ c) → (are_live H (number_of own) ≡ true) ⊎ ((is_some (rows_by H (number_of own)) ≡ false) × ((number_of own ≡ x.call_no) × (hands_out (work H x.call_no) ≡ true))) → is_holding (step (heard_in (Heard x ∷ H) c t)) ≡ true
    by (inl same) (inl were) =
        let k = came same in
        let is : place H x.conn ≡ Some (Lent x.tenure own) = ap (place H) same ∙ (at ∙ ap (λ u. Some (Lent u own)) (sym k.1)) in
        let f = comes x own k.0 is call were in
        ap (λ L. is_holding (step L)) (there same)
        ∙ fetched_holds H x.call_no x.call x.answer (number_of own) (handed_out H) (step (heard_in H c t)) f.next (holds c t own at call were) were
        (ap (λ it. live (rows_of (number_of own) (rows_heard H it x.call_no x.call x.answer (handed_out H)))) (sym f.its) ∙ lives)
    by (inl same) (inr w) =
        ap (λ L. is_holding (step L)) (there same)
        ∙ query_holds H (work H x.call_no) x.call_no x.call x.answer (number_of own) (handed_out H) (step (heard_in H c t)) (let v = w.1 in v.1) w.0 (live_some (rows_by (Heard x ∷ H) (number_of own)) lives)
    by (inr apart) (inl were) = ap (λ J. is_holding (step (of_tenure t J))) (heard_other H x c apart) ∙ holds c t own at call were
    by (inr apart) (inr w) = let v = w.1 in absurd (apart (made_there H x c t own l at v.0))

-- An event that is no answer makes no rows live.
revives_none : (H : List Event) (x : Event) (n : ℕ) → is_answer x ≡ false → are_live (x ∷ H) n ≡ true → are_live H n ≡ true
revives_none H (Heard e) n none h = absurd cc
revives_none H (Entered client m op) n none h = by (are_live H n) refl
  where
    by : (b : Bool) → are_live H n ≡ b → b ≡ true
    by true is = refl
    by false is = absurd (true_false (are_live (Entered client m op ∷ H) n) h (entering_revives_none H client m op n is))
revives_none H Ended n none h = absurd (true_false (are_live (Ended ∷ H) n) h (none_at_end H n))
revives_none H x n none h = h

quiet_holds : (H : List Event) (x : Event) → Lawful (x ∷ H) → is_answer x ≡ false → Holds H → Holds (x ∷ H)
quiet_holds H x l none holds c t own at call lives = by (lent_before H x c t own l.0 at)
  where
    were : are_live H (number_of own) ≡ true
    were = revives_none H x (number_of own) none lives

    by : (place H c ≡ Some (Lent t own)) ⊎ Lends x c t own → is_holding (step (heard_in (x ∷ H) c t)) ≡ true
    by (inl before) = ap (λ J. is_holding (step (of_tenure t J))) (heard_same H x c none) ∙ holds c t own before call were
    by (inr w) =
        let a : Allowed H (Pool (Lend c t own w.0)) = subst (λ y. Allowed H y) w.1 l.1 in
        let same : w.0 ≡ number_of own = lends_to H c t own w.0 a in
        let made : is_some (rows_by H w.0) ≡ true = ap (λ i. is_some (rows_by H i)) same ∙ live_some (rows_by H (number_of own)) were in
        absurd (lent_nothing H c t own w.0 l.0 a (rows_may_not_ask H w.0 made) (content H w.0 l.0 (λ zero. lent_number (x ∷ H) c t own l at (sym same ∙ zero)) made))

-- What may be sent.

fetches_still : (H : List Event) (x : Event) (e : Entry) (i : ℕ) → Fetches H e i → Fetches (x ∷ H) e i
fetches_still H x e i f = record { next = f.next; its = work_stays H x e.call_no (ap is_look f.its) ∙ f.its }

came_before : (H : List Event) (x : Event) (e : Entry) (own : Owner) → Lawful (x ∷ H) → Comes H → parts x e ≡ false → may_come H e ≡ true → place (x ∷ H) e.conn ≡ Some (Lent e.tenure own) → is_call own ≡ true → are_live (x ∷ H) (number_of own) ≡ true → Fetches (x ∷ H) e (number_of own)
came_before H x e own l comes on may at call lives =
    let s = sound H l.0 in
    let u = s.coming e may in
    let used = why_used H e.conn e.tenure u.owner e.call_no l.0 u.lent u.why in
    let after = stays_lent H x e.conn e.tenure u.owner l.0 l.1 u.lent used in
    let same : u.owner ≡ own = one (sym after ∙ at) in
    let before : place H e.conn ≡ Some (Lent e.tenure own) = u.lent ∙ ap (λ o. Some (Lent e.tenure o)) same in
    fetches_still H x e (number_of own) (comes e own may before call (was x on l before lives))
  where
    one : {o p : Owner} → Some (Lent e.tenure o) ≡ Some (Lent e.tenure p) → o ≡ p
    one k = cc

    was : (y : Event) → parts y e ≡ false → Lawful (y ∷ H) → place H e.conn ≡ Some (Lent e.tenure own) → are_live (y ∷ H) (number_of own) ≡ true → are_live H (number_of own) ≡ true
    was (Heard z) off m before h = elim (were_live H z (number_of own) h) [
      | inl were ↦ were
      | inr w ↦ let v = w.1 in absurd (true_false (z.conn == e.conn) (ap (λ d. d == e.conn) (made_there H z e.conn e.tenure own m before v.0) ∙ same_itself e.conn) off)
    ]
    was (Entered client n op) off m before h = revives_none H (Entered client n op) (number_of own) refl h
    was Ended off m before h = revives_none H Ended (number_of own) refl h
    was _ off m before h = h

comes_next : (H : List Event) (x : Event) → Lawful (x ∷ H) → Holds (x ∷ H) → Comes H → Comes (x ∷ H)
comes_next H x l holds comes e own may at call lives = by (or_cases (is_due_at (x ∷ H) (place (x ∷ H) e.conn) e) (not (parts x e) && may_come H e) may)
  where
    off : (b : Bool) → not b ≡ true → b ≡ false
    off true h = absurd cc
    off false h = refl

    one : {o p : Owner} → Some (Lent e.tenure o) ≡ Some (Lent e.tenure p) → o ≡ p
    one k = cc

    by : (is_due_at (x ∷ H) (place (x ∷ H) e.conn) e ≡ true) ⊎ ((not (parts x e) && may_come H e) ≡ true) → Fetches (x ∷ H) e (number_of own)
    by (inl now) =
        let d = due_now (x ∷ H) e now in
        due_fetches (x ∷ H) e own holds (record { lawful = l; lent = at; call = call; lives = lives }) d (one (sym d.lent ∙ at)) may
    by (inr could) =
        let b = both (not (parts x e)) (may_come H e) could in
        came_before H x e own l comes (off (parts x e) b.0) b.1 at call lives

record HoldsOn (H : List Event) : Type 0 where
  holds : Holds H
  comes : Comes H

held_on : (H : List Event) (x : Event) → Lawful (x ∷ H) → Holds (x ∷ H) → HoldsOn H → HoldsOn (x ∷ H)
held_on H x l holds h = record { holds = holds; comes = comes_next H x l holds h.comes }

held : (H : List Event) → Lawful H → HoldsOn H
held [] l = record { holds = λ c t own at call lives. absurd cc; comes = λ e own may at call lives. absurd cc }
held (Heard e ∷ H) l = let h = held H l.0 in held_on H (Heard e) l (heard_holds H e l h.holds h.comes) h
held (x ∷ H) l = let h = held H l.0 in held_on H x l (quiet_holds H x l refl h.holds) h

-- So live rows can still be closed.

pub live_closes : (H : List Event) (c t : ℕ) (own : Owner) → Lawful H → place H c ≡ Some (Lent t own) → are_live H (number_of own) ≡ true → is_some (line_of H (number_of own) wishes.Close) ≡ true
live_closes H c t own l at lives = by (is_call own) refl
  where
    closed : (x : LiveAt H c t own) → is_some (line_of H (number_of own) wishes.Close) ≡ true
    closed x =
        let h = held H l in
        let holds = h.holds c t own at x.call lives in
        let o = opened H c t own x holds in
        ap (λ d. is_some d) (line_here H c t own (number_of own) wishes.Close l at (asks_own H (number_of own) (lent_asks H c t own l at)) ∙ line_of_call H c t own wishes.Close l at x.call)
        ∙ held_due (caps H) (is_reset_due H c) (asked_by H (number_of own)) wishes.Close (heard_in H c t) o.rows (handed_open H c t own x o) (made_at H c t own l at x.call) holds (λ same. absurd cc)

    by : (b : Bool) → is_call own ≡ b → is_some (line_of H (number_of own) wishes.Close) ≡ true
    by true call = closed (record { lawful = l; lent = at; call = call; lives = lives })
    by false other = absurd (true_false (begins (work H (number_of own))) (begins_it own (owner_is_of H c t own l at) other) (rows_begin_nothing H (number_of own) (live_some (rows_by H (number_of own)) lives)))
      where
        begins_it : (o : Owner) → (is_house o ≡ false) × (o ≡ owner_of H (number_of own)) → is_call o ≡ false → begins (work H (number_of own)) ≡ true
        begins_it o its k = of (work H (number_of own)) (sym (ap is_call its.1) ∙ k)
          where
            of : (w : Work) → is_call (owner_as w (number_of own)) ≡ false → begins w ≡ true
            of (Begin label level read_only) z = refl
            of w z = absurd cc
