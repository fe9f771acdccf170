-- In each lawful history, at most one entry counts of those that a server may have carried out for a call. None
-- counts when another one is sent. The argument goes from event to event of the history.
use Rattle.std.proofs.Common.{◌≡◌, ◌≢◌, ℕ, ◌≤◌, ◌==◌, ◌⊎◌, inl, inr, Bool, true, false, not, ◌&&◌, cond, List, [], ◌∷◌, length, Option, Some, None, is_some, refl, sym, ap, subst, ◌∙◌, arith}
use Rattle.std.specs.List.{filter}
use Rattle.dsql_laws_calls.specs.driver.Kinds.{is_bad, given_cursor}
use Rattle.dsql_laws_calls.specs.driver.declared.caps.Caps.{Caps}
use Rattle.dsql_laws_calls.specs.driver.declared.call.DriverCall.TheVariants.{Next}
use Rattle.dsql_laws_calls.specs.course.declared.course.Wish.TheVariants as wishes
use Rattle.dsql_laws_calls.specs.journal.declared.entry.Entry.{Entry}
use Rattle.dsql_laws_calls.specs.journal.declared.entry.Owner.{Owner}
use Rattle.dsql_laws_calls.specs.journal.Kinds.{number_of}
use Rattle.dsql_laws_calls.specs.journal.Readers.{of_tenure}
use Rattle.dsql_laws_calls.specs.pool.declared.conn.Place.TheVariants.{Lent}
use Rattle.dsql_laws_calls.specs.works.Exchanges.{exchanges}
use Rattle.dsql_laws_calls.specs.works.Line.{Asked, is_due_in_line, line_after}
use Rattle.dsql_laws_calls.proofs.laws_work.Rows.{same_or_not}
use Rattle.dsql_laws_calls.proofs.laws_work.CallLines.{step, goes, is_before_end}
use Rattle.dsql_laws_calls.proofs.laws_work.MadeLines.{MadeAt}
use Rattle.dsql_laws_calls.proofs.laws_work.HandedLines.{opens_rows}
use Rattle.dsql_laws_calls.proofs.laws.Tests.{same_itself, other_number}
use Rattle.dsql_laws_replies.proofs.Awaited.{is_one, needs_answer, awaits, awaited_due}
use Rattle.dsql_laws_calls.specs.history.declared.event.Event.{Event}
use Rattle.dsql_laws_calls.specs.history.declared.event.Event.TheVariants.{Entered, Heard}
use Rattle.dsql_laws_calls.specs.history.declared.work.Scope.TheVariants.{Db}
use Rattle.dsql_laws_calls.specs.history.declared.work.Work.{Work}
use Rattle.dsql_laws_calls.specs.history.declared.work.Task.TheVariants.{ReadOne}
use Rattle.dsql_laws_calls.specs.history.declared.work.Work.TheVariants.{Statement}
use Rattle.dsql_laws_calls.specs.history.Readers.Calls.{decided}
use Rattle.dsql_laws_calls.specs.history.Readers.Course.{caps}
use Rattle.dsql_laws_calls.specs.history.Readers.HandedOut.{rows_by}
use Rattle.dsql_laws_calls.specs.history.Readers.Journals.{heard_in}
use Rattle.dsql_laws_calls.specs.history.Readers.Pool.{place}
use Rattle.dsql_laws_calls.specs.history.Readers.Transactions.{is_begun}
use Rattle.dsql_laws_calls.specs.history.Readers.Works.{aim_of, asks, work}
use Rattle.dsql_laws_calls.specs.history.Rules.Line.{is_used}
use Rattle.dsql_laws_calls.specs.history.Rules.Sent.{asked_by, is_reset_due, line_of}
use Rattle.dsql_laws_calls.specs.history.Legal.{Lawful}
use Rattle.dsql_laws_calls.proofs.BeginningsAt.{heard_more, heard_other, heard_same, is_answer}
use Rattle.dsql_laws_calls.proofs.Begun.{begun_begins}
use Rattle.dsql_laws_calls.proofs.CallTenures.{call_line, line_of_call}
use Rattle.dsql_laws_calls.proofs.Coming.{sound}
use Rattle.dsql_laws_calls.proofs.Lent.{stays_lent}
use Rattle.dsql_laws_calls.proofs.Lines.{line_here}
use Rattle.dsql_laws_calls.proofs.Makers.{hands_out, rows_hand_out}
use Rattle.dsql_laws_calls.proofs.Own.{asks_own, used_by}
use Rattle.dsql_laws_calls.proofs.Plain.{begins}
use Rattle.dsql_laws_calls.proofs.Stays.{not_looking, work_stays}
use Rattle.dsql_laws_calls.proofs.UnderWay.{UnderWay}
use Rattle.dsql_laws_calls.proofs.Why.{Why}
use Rattle.dsql_laws_replies.proofs.Records.{trying_of}
use Rattle.dsql_laws_replies.proofs.Awaiting.{plain_call, under_way as was_under_way}
use Rattle.dsql_laws_once.specs.Once.{is_statement, may_be_carried_out, carried_out, reads_one}
use Rattle.dsql_laws_once.specs.Counted.{is_query, fetches_from, loses_row, counted_with, counted}
use Rattle.dsql_laws_once.proofs.Stated.{carried_states, statement_of, states_busy}
use Rattle.dsql_laws_once.proofs.Steps.{sends_before_end, carried_decides}
use Rattle.dsql_laws_once.proofs.RowSteps.{one_asks, one_plain, one_aim, is_before_row, row_end, stays_read, fetched_past, ends_row, opened_end, opened_awaits, opened_query, fetched_next, fetching, fetch_decides}
use Rattle.dsql_laws_once.proofs.Spent.{Spent, OwnSent, by_step, never, one_place, own_sent, spent_beside, spent_now, spent_own, spent_on, steps_past}
use Rattle.dsql_laws_once.proofs.Once.{nat_case}
use Rattle.dsql_laws_once.proofs.Carried.{carried_out_once, sent_first}
use Rattle.dsql_laws_once.proofs.Few.{few_count}

-- For a call on the database that reads one row, at most one entry counts. Then the call is spent, or the entry
-- is its query, which gave a cursor and after which nothing was heard there.

abbrev SpentRow : List Event → ℕ → Type 0
SpentRow H n = Spent (by_step is_before_row) H n

record Opened (H : List Event) (n : ℕ) (q : Entry) : Type 0 where
  owner : Owner
  lent : place H q.conn ≡ Some (Lent q.tenure owner)
  number : number_of owner ≡ n
  earlier : List Entry
  newest : heard_in H q.conn q.tenure ≡ q ∷ earlier
  opens : opens_rows q.call q.answer ≡ true

abbrev Counts : List Event → ℕ → List Entry → Type 0
Counts H n [] = Unit {0}
Counts H n (q ∷ []) = SpentRow H n ⊎ Opened H n q
Counts H n _ = ⊥

-- Such a call hands out no rows and begins no transaction.

no_hands : (w : Work) → reads_one w ≡ true → hands_out w ≡ false
no_hands (Statement Db (ReadOne dests)) one = refl
no_hands w one = absurd cc

rowless : (H : List Event) (n : ℕ) → reads_one (work H n) ≡ true → is_some (rows_by H n) ≡ true → ⊥
rowless H n one some = never (hands_out (work H n)) (rows_hand_out H n some) (no_hands (work H n) one)

unbegun : (H : List Event) (n : ℕ) → Lawful H → reads_one (work H n) ≡ true → is_begun H n ≡ true → ⊥
unbegun H n l one begun = never (begins (work H n)) (begun_begins H n l begun) (one_plain (work H n) one)

none_of : {A : Type 0} (o : Option A) → (is_some o ≡ true → ⊥) → o ≡ None
none_of None h = refl
none_of (Some x) h = absurd (h refl)

false_of : (b : Bool) → (b ≡ true → ⊥) → b ≡ false
false_of true h = absurd (h refl)
false_of false h = refl

-- Such a query keeps its connection.

sends_row : (H : List Event) (q : Entry) (own : Owner) → Lawful H → place H q.conn ≡ Some (Lent q.tenure own) → reads_one (work H (number_of own)) ≡ true → awaits true (heard_in H q.conn q.tenure) (length (asked_by H (number_of own)).params) ≡ true
    → is_some (line_of H (number_of own) wishes.Nothing) ≡ true
sends_row H q own l lent one awaited =
    let c = q.conn in
    let t = q.tenure in
    let n = number_of own in
    let aim = one_aim (work H n) one in
    let call = plain_call H c t own l lent (one_plain (work H n) one) in
    let s = sound H l in
    let f = s.facts in
    let its : line_of H n wishes.Nothing ≡ call_line H c t own wishes.Nothing = line_here H c t own n wishes.Nothing l lent (asks_own H n (one_asks (work H n) one)) ∙ line_of_call H c t own wishes.Nothing l lent call in
    ap (λ d. is_some d) its
    ∙ awaited_due (caps H) (is_reset_due H c) (asked_by H n) wishes.Nothing (heard_in H c t) (ap (needs_answer (caps H)) aim) (f.made c t own lent call)
    (ap (λ x. awaits (is_one x) (heard_in H c t) (length (asked_by H n).params)) aim ∙ awaited)

opened_used : (H : List Event) (n : ℕ) (q : Entry) → Lawful H → reads_one (work H n) ≡ true → (o : Opened H n q) → is_used H (number_of o.owner) ≡ true
opened_used H n q l one o =
    used_by H k None (none_of (rows_by H k) (rowless H k its)) (false_of (is_begun H k) (unbegun H k l its))
    (sends_row H q o.owner l o.lent its (ap (λ L. awaits true L (length (asked_by H k).params)) o.newest ∙ opened_awaits q.call q.answer (length (asked_by H k).params) o.opens))
  where
    k : ℕ
    k = number_of o.owner

    its : reads_one (work H (number_of o.owner)) ≡ true
    its = ap (λ j. reads_one (work H j)) o.number ∙ one

-- The query is the newest entry of the connection that the call has.
opened_there : (H : List Event) (n c t : ℕ) (own : Owner) (q : Entry) → Lawful H → (o : Opened H n q) → place H c ≡ Some (Lent t own) → number_of own ≡ n → (q.conn ≡ c) × (q.tenure ≡ t) × (heard_in H c t ≡ q ∷ o.earlier)
opened_there H n c t own q l o is number =
    let at = one_place H q.conn q.tenure c t o.owner own l o.lent is (o.number ∙ sym number) in
    (at.0, at.1, ap (λ u. heard_in H c u) (sym at.1) ∙ (ap (λ d. heard_in H d q.tenure) (sym at.0) ∙ o.newest))

-- No other call sends on the connection of the query.
only_sender : (H : List Event) (e : Entry) (n : ℕ) (q : Entry) → Lawful (Heard e ∷ H) → reads_one (work H n) ≡ true → Opened H n q → e.conn ≡ q.conn → n ≡ e.call_no
only_sender H e n q l one o same = let x = was_under_way H e q.tenure o.owner l (ap (place H) same ∙ o.lent) in by x.0 x.1
  where
    its : reads_one (work H (number_of o.owner)) ≡ true
    its = ap (λ j. reads_one (work H j)) o.number ∙ one

    why : Why H e.conn e.tenure o.owner e.call_no → n ≡ e.call_no
    why (inl own) = sym o.number ∙ own.itself
    why (inr (inl rows)) = absurd (rowless H (number_of o.owner) its rows.some)
    why (inr (inr tx)) = absurd (unbegun H (number_of o.owner) l.0 its tx.begun)

    by : (u : UnderWay H e) → u.owner ≡ o.owner → n ≡ e.call_no
    by u owner = why (subst (λ p. Why H e.conn e.tenure p e.call_no) owner u.why)

-- Answers to another call.

counted_beside : (H : List Event) (e : Entry) (n : ℕ) → n ≢ e.call_no → counted (Heard e ∷ H) n ≡ counted H n
counted_beside H e n apart = ap (λ (b : Bool). cond b (counted_with (work H n) e (counted H n)) (counted H n)) (other_number e.call_no n (λ same. apart (sym same)))

opened_beside : (H : List Event) (e : Entry) (n : ℕ) (q : Entry) → Lawful (Heard e ∷ H) → n ≢ e.call_no → reads_one (work H n) ≡ true → Opened H n q → Opened (Heard e ∷ H) n q
opened_beside H e n q l apart one o = by (same_or_not e.conn q.conn)
  where
    by : (e.conn ≡ q.conn) ⊎ (e.conn ≢ q.conn) → Opened (Heard e ∷ H) n q
    by (inl same) = absurd (apart (only_sender H e n q l one o same))
    by (inr off) = record { owner = o.owner; lent = o.lent; number = o.number; earlier = o.earlier; newest = ap (λ J. of_tenure q.tenure J) (heard_other H e q.conn off) ∙ o.newest; opens = o.opens }

counts_beside : (H : List Event) (e : Entry) (n : ℕ) (cs : List Entry) → Lawful (Heard e ∷ H) → n ≢ e.call_no → reads_one (work H n) ≡ true → Counts H n cs → Counts (Heard e ∷ H) n cs
counts_beside H e n [] l apart one c = tt
counts_beside H e n (q ∷ []) l apart one (inl s) = inl (spent_beside (by_step is_before_row) H e n l (steps_past is_before_row stays_read H e n l (one_plain (work H n) one)) apart s)
counts_beside H e n (q ∷ []) l apart one (inr o) = inr (opened_beside H e n q l apart one o)
counts_beside H e n (q ∷ p ∷ cs) l apart one c = absurd c

-- Answers to the call itself.

row_sent : (H : List Event) (e : Entry) → Lawful (Heard e ∷ H) → e.call_no ≢ 0 → reads_one (work H e.call_no) ≡ true → OwnSent H e
row_sent H e l some one = own_sent H e l some (one_asks (work H e.call_no) one) (one_plain (work H e.call_no) one)

counted_own : (H : List Event) (e : Entry) → counted (Heard e ∷ H) e.call_no ≡ counted_with (work H e.call_no) e (counted H e.call_no)
counted_own H e = ap (λ (b : Bool). cond b (counted_with (work H e.call_no) e (counted H e.call_no)) (counted H e.call_no)) (same_itself e.call_no)

-- No statement is sent while one counts.
none_counts : (H : List Event) (e : Entry) (q : Entry) → Lawful (Heard e ∷ H) → (u : OwnSent H e) → is_statement e.call ≡ true → SpentRow H e.call_no ⊎ Opened H e.call_no q → ⊥
none_counts H e q l u statement (inl s) =
    let x = u.sent in
    let L = heard_in H e.conn e.tenure in
    never (is_before_end (step L)) (sends_before_end (step L) e.call x.next statement) (row_end (step L) (s.past_it e.conn e.tenure u.owner u.lent u.number))
none_counts H e q l u statement (inr o) =
    let x = u.sent in
    let L = heard_in H e.conn e.tenure in
    let at = opened_there H e.call_no e.conn e.tenure u.owner q l.0 o u.lent u.number in
    never (is_before_end (step L)) (sends_before_end (step L) e.call x.next statement) (ap (λ M. is_before_end (step M)) at.2 ∙ opened_end (step o.earlier) q.call q.answer o.opens)

-- A statement that a server may have carried out counts.
one_counts : (H : List Event) (e : Entry) → Lawful (Heard e ∷ H) → e.call_no ≢ 0 → (u : OwnSent H e) → reads_one (work H e.call_no) ≡ true → may_be_carried_out e ≡ true → SpentRow (Heard e ∷ H) e.call_no ⊎ Opened (Heard e ∷ H) e.call_no e
one_counts H e l some u one carried = by (opens_rows e.call e.answer) refl
  where
    n : ℕ
    n = e.call_no

    own : asks (work H e.call_no) ≡ true
    own = one_asks (work H e.call_no) one

    by : (b : Bool) → opens_rows e.call e.answer ≡ b → SpentRow (Heard e ∷ H) e.call_no ⊎ Opened (Heard e ∷ H) e.call_no e
    by true opens = inr (record { owner = u.owner; lent = u.lent; number = u.number; earlier = heard_in H e.conn e.tenure; newest = heard_more H e e.conn e.tenure u.owner l.1 u.lent refl; opens = opens })
    by false closed =
        inl
        (spent_now (by_step is_before_row) H e u.owner l some u.lent u.number own (ends_row (step (heard_in H e.conn e.tenure)) e.call e.answer carried closed)
        (carried_decides (trying_of H n) (caps H) (asked_by H n).text (asked_by H n).params (work H n) wishes.Nothing (step (heard_in H e.conn e.tenure))
        (exchanges (heard_in H e.conn e.tenure)) e.call e.answer (decided H n) own (λ opens. absurd (never (opens_rows e.call e.answer) opens closed)) u.sent carried))

-- A spent call fetches no more, so it stays spent.
still_spent : (H : List Event) (e : Entry) → Lawful (Heard e ∷ H) → e.call_no ≢ 0 → (u : OwnSent H e) → reads_one (work H e.call_no) ≡ true → SpentRow H e.call_no → SpentRow (Heard e ∷ H) e.call_no
still_spent H e l some u one s =
    spent_own is_before_row stays_read row_end H e l some (one_asks (work H e.call_no) one) (one_plain (work H e.call_no) one) u (λ rows past is. absurd (unfetched rows past is)) s
  where
    unfetched : (rows : ℕ) → is_before_row (step (heard_in H e.conn e.tenure)) ≡ false → e.call ≡ Next rows → ⊥
    unfetched rows past is =
        let x = u.sent in
        let L = heard_in H e.conn e.tenure in
        let asked = asked_by H e.call_no in
        never (is_before_row (step L))
        (fetching (caps H) (is_reset_due H e.conn) asked.text asked.params (aim_of (work H e.call_no)) wishes.Nothing L rows (one_aim (work H e.call_no) one) x.before (subst (λ q. goes (step L) q ≡ true) is x.next)
        (subst (λ q. is_due_in_line (line_after (caps H) (is_reset_due H e.conn) asked wishes.Nothing L) q ≡ true) is u.due))
        past

-- The fetch loses the row, or the call is spent.

lost_row : (one bad here there query fetches : Bool) → one ≡ true → bad ≡ true → here ≡ true → there ≡ true → query ≡ true → fetches ≡ true → (one && (bad && ((here && there) && (query && fetches)))) ≡ true
lost_row true true true true true true a b c d f g = refl
lost_row one bad here there query fetches a b c d f g = grind (arith, a, b, c, d, f, g)

kept_not : (b : Bool) → b ≡ true → not b ≡ true → ⊥
kept_not b x y = cc

made_as : (can : Caps) (asked : Asked) (L M : List Entry) → L ≡ M → MadeAt can asked (step L) (exchanges L) → MadeAt can asked (step M) (exchanges M)
made_as can asked L M same m = subst (λ N. MadeAt can asked (step N) (exchanges N)) same m

unfetching : wishes.Nothing ≡ wishes.Fetch → ⊥
unfetching h = cc

fetched : (H : List Event) (e : Entry) (q : Entry) → Lawful (Heard e ∷ H) → e.call_no ≢ 0 → (u : OwnSent H e) → reads_one (work H e.call_no) ≡ true → Opened H e.call_no q → not (loses_row (work H e.call_no) e q) ≡ true → SpentRow (Heard e ∷ H) e.call_no
fetched H e q l some u one o kept = by (is_bad e.answer) refl
  where
    n : ℕ
    n = e.call_no

    own : asks (work H e.call_no) ≡ true
    own = one_asks (work H e.call_no) one

    at : (q.conn ≡ e.conn) × (q.tenure ≡ e.tenure) × (heard_in H e.conn e.tenure ≡ q ∷ o.earlier)
    at = opened_there H e.call_no e.conn e.tenure u.owner q l.0 o u.lent u.number

    from : fetches_from (given_cursor q.answer) e.call ≡ true
    from =
        let x = u.sent in
        fetched_next (caps H) (is_reset_due H e.conn) (asked_by H n).text (asked_by H n).params (aim_of (work H n)) wishes.Nothing q o.earlier e.call (one_aim (work H n) one) o.opens
        (made_as (caps H) (asked_by H n) (heard_in H e.conn e.tenure) (q ∷ o.earlier) at.2 x.before)
        (subst (λ L. is_due_in_line (line_after (caps H) (is_reset_due H e.conn) (asked_by H n) wishes.Nothing L) e.call ≡ true) at.2 u.due)

    by : (b : Bool) → is_bad e.answer ≡ b → SpentRow (Heard e ∷ H) e.call_no
    by true bad =
        absurd (kept_not (loses_row (work H n) e q)
        (lost_row (reads_one (work H n)) (is_bad e.answer) (e.conn == q.conn) (e.tenure == q.tenure) (is_query q.call) (fetches_from (given_cursor q.answer) e.call) one bad (ap (λ c. e.conn == c) at.0 ∙ same_itself e.conn) (ap (λ t. e.tenure == t) at.1 ∙ same_itself e.tenure)
        (opened_query q.call q.answer o.opens) from) kept)
    by false good =
        spent_now (by_step is_before_row) H e u.owner l some u.lent u.number own (fetched_past (given_cursor q.answer) (step (heard_in H e.conn e.tenure)) e.call e.answer from)
        (fetch_decides (given_cursor q.answer) (trying_of H n) (caps H) (asked_by H n).text (asked_by H n).params (work H n) wishes.Nothing
        (step (heard_in H e.conn e.tenure)) (exchanges (heard_in H e.conn e.tenure)) e.call e.answer (decided H n) own (one_plain (work H n) one) unfetching u.sent from good)

one_filtered : (K : List Event) (n : ℕ) (test : Entry → Bool) (q : Entry) → (test q ≡ true → SpentRow K n) → Counts K n (filter test (q ∷ []))
one_filtered K n test q kept = by (test q) kept
  where
    by : (b : Bool) → (b ≡ true → SpentRow K n) → Counts K n (cond b (q ∷ []) [])
    by true k = inl (k refl)
    by false k = tt

counts_with : (H : List Event) (e : Entry) (cs : List Entry) → Lawful (Heard e ∷ H) → e.call_no ≢ 0 → (u : OwnSent H e) → reads_one (work H e.call_no) ≡ true → Counts H e.call_no cs → Counts (Heard e ∷ H) e.call_no (counted_with (work H e.call_no) e cs)
counts_with H e cs l some u one c = by (may_be_carried_out e) refl cs c
  where
    test : Entry → Bool
    test = λ query. not (loses_row (work H e.call_no) e query)

    one_left : (q : Entry) → SpentRow H e.call_no ⊎ Opened H e.call_no q → not (loses_row (work H e.call_no) e q) ≡ true → SpentRow (Heard e ∷ H) e.call_no
    one_left q (inl s) kept = still_spent H e l some u one s
    one_left q (inr o) kept = fetched H e q l some u one o kept

    by : (b : Bool) → may_be_carried_out e ≡ b → (ds : List Entry) → Counts H e.call_no ds → Counts (Heard e ∷ H) e.call_no (cond b (e ∷ ds) (filter test ds))
    by true carried [] d = one_counts H e l some u one carried
    by true carried (q ∷ []) d = absurd (none_counts H e q l u (statement_of e carried) d)
    by true carried (q ∷ p ∷ ds) d = absurd d
    by false idle [] d = tt
    by false idle (q ∷ []) d = one_filtered (Heard e ∷ H) e.call_no test q (one_left q d)
    by false idle (q ∷ p ∷ ds) d = absurd d

counts_heard : (H : List Event) (e : Entry) (n : ℕ) → Lawful (Heard e ∷ H) → n ≢ 0 → reads_one (work H n) ≡ true → Counts H n (counted H n) → Counts (Heard e ∷ H) n (counted (Heard e ∷ H) n)
counts_heard H e n l some one c = by (same_or_not n e.call_no)
  where
    K : List Event
    K = Heard e ∷ H

    own : n ≡ e.call_no → Counts K n (counted K n)
    own same =
        let numbered : e.call_no ≢ 0 = λ none. some (same ∙ none) in
        let its : reads_one (work H e.call_no) ≡ true = subst (λ k. reads_one (work H k) ≡ true) same one in
        subst (λ k. Counts K k (counted K k)) (sym same)
        (subst (λ cs. Counts K e.call_no cs) (sym (counted_own H e)) (counts_with H e (counted H e.call_no) l numbered (row_sent H e l numbered its) its (subst (λ k. Counts H k (counted H k)) same c)))

    by : (n ≡ e.call_no) ⊎ (n ≢ e.call_no) → Counts K n (counted K n)
    by (inl same) = own same
    by (inr apart) = subst (λ cs. Counts K n cs) (sym (counted_beside H e n apart)) (counts_beside H e n (counted H n) l apart one c)

-- Other events.

opened_on : (H : List Event) (e : Event) (n : ℕ) (q : Entry) → Lawful (e ∷ H) → is_answer e ≡ false → reads_one (work H n) ≡ true → Opened H n q → Opened (e ∷ H) n q
opened_on H e n q l quiet one o = record {
  owner = o.owner;
  lent = stays_lent H e q.conn q.tenure o.owner l.0 l.1 o.lent (opened_used H n q l.0 one o);
  number = o.number;
  earlier = o.earlier;
  newest = ap (λ J. of_tenure q.tenure J) (heard_same H e q.conn quiet) ∙ o.newest;
  opens = o.opens;
}

counts_on : (H : List Event) (e : Event) (n : ℕ) (cs : List Entry) → Lawful (e ∷ H) → is_answer e ≡ false → n ≢ 0 → reads_one (work H n) ≡ true → Counts H n cs → Counts (e ∷ H) n cs
counts_on H e n [] l quiet some one c = tt
counts_on H e n (q ∷ []) l quiet some one (inl s) = inl (spent_on (by_step is_before_row) H e n l quiet some (not_looking (work H n) (one_asks (work H n) one)) s)
counts_on H e n (q ∷ []) l quiet some one (inr o) = inr (opened_on H e n q l quiet one o)
counts_on H e n (q ∷ p ∷ cs) l quiet some one c = absurd c

none_left : (H : List Event) (n : ℕ) (cs : List Entry) → length cs ≤ 0 → Counts H n cs
none_left H n [] none = tt
none_left H n (q ∷ cs) none = absurd (omega (arith, none))

-- The work of a call is known from its entry on, and nothing counts before that.
counts_entered : (H : List Event) (e : Event) (n : ℕ) → Lawful (e ∷ H) → is_answer e ≡ false → n ≢ 0 → (reads_one (work H n) ≡ true → Counts H n (counted H n)) → reads_one (work (e ∷ H) n) ≡ true → Counts (e ∷ H) n (counted H n)
counts_entered H e n l quiet some c one = by (nat_case (carried_out H n))
  where
    by : (carried_out H n ≡ 0) ⊎ (1 ≤ carried_out H n) → Counts (e ∷ H) n (counted H n)
    by (inl none) = none_left (e ∷ H) n (counted H n) (let few = few_count H n in omega (arith, few, none))
    by (inr more) =
        let busy = states_busy (work H n) (carried_states H n l.0 some more) in
        let was = ap reads_one (sym (work_stays H e n busy)) ∙ one in
        counts_on H e n (counted H n) l quiet some was (c was)

counts : (H : List Event) (n : ℕ) → Lawful H → n ≢ 0 → reads_one (work H n) ≡ true → Counts H n (counted H n)
counts [] n l some one = tt
counts (Heard e ∷ H) n l some one = counts_heard H e n l some one (counts H n l.0 some one)
counts (Entered client m op ∷ H) n l some one = counts_entered H (Entered client m op) n l refl some (counts H n l.0 some) one
counts (e ∷ H) n l some one = counts_on H e n (counted H n) l refl some one (counts H n l.0 some one)

-- So at most one entry counts, whatever the call does.

at_most_one : (H : List Event) (n : ℕ) (cs : List Entry) → Counts H n cs → length cs ≤ 1
at_most_one H n [] c = omega arith
at_most_one H n (q ∷ []) c = omega arith
at_most_one H n (q ∷ p ∷ cs) c = absurd c

pub counts_once : (H : List Event) (n : ℕ) → Lawful H → n ≢ 0 → length (counted H n) ≤ 1
counts_once H n l some = by (reads_one (work H n)) refl
  where
    by : (b : Bool) → reads_one (work H n) ≡ b → length (counted H n) ≤ 1
    by true one = at_most_one H n (counted H n) (counts H n l some one)
    by false one = let few = few_count H n in let had = carried_out_once H n l some one in omega (arith, few, had)

no_more : (cs : List Entry) → length cs ≤ 0 → cs ≡ []
no_more [] none = refl
no_more (q ∷ cs) none = absurd (omega (arith, none))

pub none_counted : (H : List Event) (e : Entry) → Lawful (Heard e ∷ H) → e.call_no ≢ 0 → is_statement e.call ≡ true → counted H e.call_no ≡ []
none_counted H e l some statement = by (reads_one (work H e.call_no)) refl
  where
    own : (one : reads_one (work H e.call_no) ≡ true) → (cs : List Entry) → Counts H e.call_no cs → cs ≡ []
    own one [] c = refl
    own one (q ∷ []) c = absurd (none_counts H e q l (row_sent H e l some one) statement c)
    own one (q ∷ p ∷ cs) c = absurd c

    by : (b : Bool) → reads_one (work H e.call_no) ≡ b → counted H e.call_no ≡ []
    by true one = own one (counted H e.call_no) (counts H e.call_no l.0 some one)
    by false one = no_more (counted H e.call_no) (let few = few_count H e.call_no in let none = sent_first H e l some statement one in omega (arith, few, none))
