-- A query on the database that has made its rows has a settled reply.
use Rattle.std.proofs.Common.{◌≡◌, ◌≢◌, ℕ, ◌==◌, ◌⊎◌, inl, inr, Bool, true, false, List, [], ◌∷◌, Option, Some, None, is_some, refl, sym, ap, subst, ◌∙◌}
use Rattle.dsql_laws_calls.specs.course.declared.course.Wish.TheVariants as wishes
use Rattle.dsql_laws_calls.specs.course.Made.{own_cursor, rows_are_over}
use Rattle.dsql_laws_calls.specs.driver.declared.answer.DriverAnswer.{DriverAnswer}
use Rattle.dsql_laws_calls.specs.driver.declared.answer.DriverAnswer.TheVariants as answers
use Rattle.dsql_laws_calls.specs.driver.declared.call.DriverCall.{DriverCall}
use Rattle.dsql_laws_calls.specs.driver.declared.call.DriverCall.TheVariants.{Query, Next, CloseRows, CloseStmt, Valid}
use Rattle.dsql_laws_calls.specs.journal.declared.entry.Entry.{Entry}
use Rattle.dsql_laws_calls.specs.journal.declared.entry.Owner.{Owner}
use Rattle.dsql_laws_calls.specs.journal.Kinds.{number_of}
use Rattle.dsql_laws_calls.specs.pool.declared.conn.Place.TheVariants.{Lent}
use Rattle.dsql_laws_calls.specs.rows.declared.rows.Rows.{Rows}
use Rattle.dsql_laws_calls.specs.rows.OpenRows.{rows_of}
use Rattle.dsql_laws_calls.specs.works.Exchanges.{exchanges}
use Rattle.dsql_laws_calls.specs.works.HandedOut.{Made}
use Rattle.dsql_laws_calls.specs.works.Line.{handed}
use Rattle.dsql_laws_calls.specs.works.declared.work.Aim.TheVariants as aims
use Rattle.dsql_laws_calls.proofs.laws_work.HandedLines.{SentOver, due_over}
use Rattle.dsql_laws_calls.proofs.laws_work.Rows.{same_or_not}
use Rattle.dsql_laws_calls.specs.history.Readers.HandedOut.{fetched, handed_out, rows_by, rows_heard}
use Rattle.dsql_laws_calls.proofs.laws.Tests.{other_number}
use Rattle.dsql_laws_calls.specs.history.declared.event.Event.{Event}
use Rattle.dsql_laws_calls.specs.history.declared.event.Event.TheVariants.{Heard}
use Rattle.dsql_laws_calls.specs.history.declared.reply.Reply.{Reply}
use Rattle.dsql_laws_calls.specs.history.declared.work.Work.{Work}
use Rattle.dsql_laws_calls.specs.history.declared.work.Task.TheVariants.{HandOut}
use Rattle.dsql_laws_calls.specs.history.declared.work.Work.TheVariants.{Statement, Fetch}
use Rattle.dsql_laws_calls.specs.history.Readers.Calls.{decided}
use Rattle.dsql_laws_calls.specs.history.Readers.Course.{caps}
use Rattle.dsql_laws_calls.specs.history.Readers.Decisions.{decision, Trying}
use Rattle.dsql_laws_calls.specs.history.Readers.Journals.{heard_in}
use Rattle.dsql_laws_calls.specs.history.Readers.Pool.{place}
use Rattle.dsql_laws_calls.specs.history.Readers.Unfinished.{is_unfinished}
use Rattle.dsql_laws_calls.specs.history.Readers.Works.{aim_of, asks, work}
use Rattle.dsql_laws_calls.specs.history.Rules.Line.{is_due}
use Rattle.dsql_laws_calls.specs.history.Rules.Sent.{asked_by, is_reset_due}
use Rattle.dsql_laws_calls.specs.history.Legal.{Lawful}
use Rattle.dsql_laws_calls.proofs.laws.Numbered.{unfinished_from_one}
use Rattle.dsql_laws_calls.proofs.BeginningsAt.{is_answer, was_unfinished}
use Rattle.dsql_laws_calls.proofs.CallTenures.{call_line, line_of_call, plain_due}
use Rattle.dsql_laws_calls.proofs.Coming.{sound}
use Rattle.dsql_laws_calls.proofs.Lines.{line_there}
use Rattle.dsql_laws_calls.proofs.Looks.{comes, heard_there}
use Rattle.dsql_laws_calls.proofs.Makers.{hands_no_look, hands_out, rows_begin_nothing, rows_hand_out, some_changed, some_heard}
use Rattle.dsql_laws_calls.proofs.Own.{own_way}
use Rattle.dsql_laws_calls.proofs.Plain.{line_plain}
use Rattle.dsql_laws_calls.proofs.RowsNew.{held, were_made}
use Rattle.dsql_laws_calls.proofs.Stays.{not_looking}
use Rattle.dsql_laws_calls.proofs.Works.{other_heard, work_stays}
use Rattle.dsql_laws_replies.proofs.Awaiting.{plain_call}
use Rattle.dsql_laws_replies.proofs.Decides.{closing_decides}
use Rattle.dsql_laws_replies.proofs.Records.{own_record, record_stays, trying_of}

none_some : {A X : Type 0} (o : Option X) → o ≡ None → is_some o ≡ true → A
none_some None none some = absurd cc
none_some (Some x) none some = absurd cc

-- The answer that makes the rows decides a reply: their columns.
new_told : (H : List Event) (t : Trying) (m : ℕ) (it : Work) (q : DriverCall) (a : DriverAnswer) (d : Option Reply) (R : Made) → rows_of m R ≡ None → is_some (rows_of m (rows_heard H it m q a R)) ≡ true
    → is_some (decision (record t { work = it }) q a d) ≡ true
new_told H t m (Statement s (HandOut label)) (Query input params) (answers.Cursor cursor columns) d R none some = refl
new_told H t m (Fetch k) (Next cursor) a d R none some = none_some (rows_of m R) none (sym (some_changed (fetched a) k m R) ∙ some)
new_told H t m _ q a d R none some = none_some (rows_of m R) none some

-- What comes over the rows later leaves a reply decided.

over_keeps : (t : Trying) (over : Bool) (it : Work) (q : DriverCall) (a : DriverAnswer) (d : Option Reply) → hands_out it ≡ true → SentOver q wishes.Nothing over → is_some d ≡ true
    → is_some (decision (record t { work = it }) q a d) ≡ true
over_keeps t over (Statement s (HandOut label)) (Next rows) a d hands sent h = let clash = sent.0 in absurd cc
over_keeps t over (Statement s (HandOut label)) (CloseRows rows) a d hands sent h = closing_decides t.number a d h
over_keeps t over (Statement s (HandOut label)) (CloseStmt handle) a d hands sent h = h
over_keeps t over (Statement s (HandOut label)) Valid a d hands sent h = h
over_keeps t over (Statement s (HandOut label)) q a d hands sent h = absurd sent
over_keeps t over it q a d hands sent h = absurd cc

hands_aim : (it : Work) → hands_out it ≡ true → aim_of it ≡ aims.HandOut
hands_aim (Statement s (HandOut label)) h = refl
hands_aim it h = absurd cc

some_of : {X : Type 0} (o : Option X) → is_some o ≡ true → (x : X) × (o ≡ Some x)
some_of None h = absurd cc
some_of (Some x) h = (x, refl)

-- What the query itself sends after that is over its rows.
own_over : (H : List Event) (e : Entry) → Lawful (Heard e ∷ H) → e.call_no ≢ 0 → asks (work H e.call_no) ≡ true → is_some (rows_by H e.call_no) ≡ true → (over : Bool) × SentOver e.call wishes.Nothing over
own_over H e l numbered own some =
    let there = heard_there H e l.1 in
    let zero : (e.call_no == 0) ≡ false = other_number e.call_no 0 numbered in
    let w = own_way H e l.0 (comes H e (place H e.conn) there.sets there.line zero) zero own in
    sent w.owner w.lent w.own w.due
  where
    sent : (owner : Owner) → place H e.conn ≡ Some (Lent e.tenure owner) → number_of owner ≡ e.call_no → is_due (line_there H e.conn e.tenure owner (number_of owner) wishes.Nothing) e.call ≡ true
        → (over : Bool) × SentOver e.call wishes.Nothing over
    sent owner lent its due =
        let n = number_of owner in
        let made : is_some (rows_by H n) ≡ true = ap (λ j. is_some (rows_by H j)) its ∙ some in
        let call = plain_call H e.conn e.tenure owner l.0 lent (rows_begin_nothing H n made) in
        let L = heard_in H e.conn e.tenure in
        let asked = asked_by H n in
        let cursor = some_of (own_cursor (exchanges L)) (held H e.conn e.tenure owner l.0 lent made) in
        let aim : asked.aim ≡ aims.HandOut = hands_aim (work H n) (rows_hand_out H n made) in
        let s = sound H l.0 in
        let f = s.facts in
        let line : is_due (call_line H e.conn e.tenure owner wishes.Nothing) e.call ≡ true =
        sym (ap (λ d. is_due d e.call) (line_of_call H e.conn e.tenure owner wishes.Nothing l.0 lent call)) ∙ due in
        let plainly = plain_due (call_line H e.conn e.tenure owner wishes.Nothing) e.call (line_plain (caps H) (is_reset_due H e.conn) asked wishes.Nothing L) line in
        (rows_are_over (exchanges L), due_over (caps H) (is_reset_due H e.conn) asked wishes.Nothing L e.call cursor.0 (ap (λ a. handed a (exchanges L)) aim ∙ cursor.1) (f.made e.conn e.tenure owner lent call) plainly)

-- So the reply stays settled.

own_told : (H : List Event) (e : Entry) → Lawful (Heard e ∷ H) → e.call_no ≢ 0 → asks (work H e.call_no) ≡ true → (is_some (rows_by H e.call_no) ≡ true → is_some (decided H e.call_no) ≡ true)
    → is_some (rows_by (Heard e ∷ H) e.call_no) ≡ true → is_some (decided (Heard e ∷ H) e.call_no) ≡ true
own_told H e l numbered own before some = ap (λ o. is_some o) (own_record H e (not_looking (work H e.call_no) own) numbered) ∙ by (rows_by H e.call_no) refl
  where
    m : ℕ
    m = e.call_no

    by : (o : Option Rows) → rows_by H m ≡ o → is_some (decision (trying_of H m) e.call e.answer (decided H m)) ≡ true
    by None none = new_told H (trying_of H m) m (work H m) e.call e.answer (decided H m) (handed_out H) none some
    by (Some r) is =
        let made : is_some (rows_by H m) ≡ true = ap (λ o. is_some o) is in
        let sent = own_over H e l numbered own made in
        over_keeps (trying_of H m) sent.0 (work H m) e.call e.answer (decided H m) (rows_hand_out H m made) sent.1 (before made)

quietly : (H : List Event) (e : Event) (n : ℕ) → Lawful (e ∷ H) → is_answer e ≡ false → is_unfinished (e ∷ H) n ≡ true → asks (work (e ∷ H) n) ≡ true → is_some (rows_by (e ∷ H) n) ≡ true
    → (is_unfinished H n ≡ true → asks (work H n) ≡ true → is_some (rows_by H n) ≡ true → is_some (decided H n) ≡ true) → is_some (decided (e ∷ H) n) ≡ true
quietly H e n l quiet u own some before =
    let made = were_made H e n quiet some in
    let same = work_stays H e n (hands_no_look (work H n) (rows_hand_out H n made)) in
    let owns : asks (work H n) ≡ true = ap asks (sym same) ∙ own in
    let busy = not_looking (work H n) owns in
    ap (λ r. is_some r.decided) (record_stays H e n l.1 quiet busy u) ∙ before (was_unfinished H e n l.1 busy u) owns made

pub rows_told : (H : List Event) (n : ℕ) → Lawful H → is_unfinished H n ≡ true → asks (work H n) ≡ true → is_some (rows_by H n) ≡ true → is_some (decided H n) ≡ true
rows_told [] n l u own some = absurd cc
rows_told (Heard e ∷ H) n l u own some = by (rows_told H n l.0 u own) (same_or_not n e.call_no)
  where
    by : (is_some (rows_by H n) ≡ true → is_some (decided H n) ≡ true) → (n ≡ e.call_no) ⊎ (n ≢ e.call_no) → is_some (decided (Heard e ∷ H) n) ≡ true
    by before (inl same) =
        let mine : asks (work H e.call_no) ≡ true = ap (λ j. asks (work H j)) (sym same) ∙ own in
        let told = own_told H e l (λ zero. unfinished_from_one H n l.0 u (same ∙ zero)) mine (subst (λ j. is_some (rows_by H j) ≡ true → is_some (decided H j) ≡ true) same before) (ap (λ j. is_some (rows_by (Heard e ∷ H) j)) (sym same) ∙ some) in
        ap (λ j. is_some (decided (Heard e ∷ H) j)) same ∙ told
    by before (inr apart) = ap (λ r. is_some r.decided) (other_heard H e n apart) ∙ before (were (some_heard H (work H e.call_no) e.call_no e.call e.answer n (handed_out H) some))
      where
        were : (is_some (rows_by H n) ≡ true) ⊎ ((n ≡ e.call_no) × (hands_out (work H e.call_no) ≡ true)) → is_some (rows_by H n) ≡ true
        were (inl made) = made
        were (inr now) = absurd (apart now.0)
rows_told (e ∷ H) n l u own some = quietly H e n l refl u own some (rows_told H n l.0)
