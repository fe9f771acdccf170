-- In a query's line in a transaction, the rows aren't over while they are live: they end once their cursor
-- gives no more.
use Rattle.std.proofs.Common.{◌≡◌, ◌≢◌, ℕ, ◌==◌, ◌⊎◌, inl, inr, Bool, true, false, not, ◌&&◌, ◌||◌, cond, List, [], ◌∷◌, Option, Some, None, is_some, length, refl, sym, ap, subst, ◌∙◌}
use Rattle.std.specs.Option.{option_map}
use Rattle.dsql_laws_calls.specs.driver.declared.call.DriverCall.{DriverCall}
use Rattle.dsql_laws_calls.specs.driver.declared.call.DriverCall.TheVariants as calls
use Rattle.dsql_laws_calls.specs.driver.declared.call.Input.TheVariants.{Text, Handle}
use Rattle.dsql_laws_calls.specs.driver.declared.answer.DriverAnswer.{DriverAnswer}
use Rattle.dsql_laws_calls.specs.driver.declared.answer.DriverAnswer.TheVariants as answers
use Rattle.dsql_laws_calls.specs.driver.Fits.{fits_of, is_memory}
use Rattle.dsql_laws_calls.specs.course.declared.call.Due.{Due}
use Rattle.dsql_laws_calls.specs.course.declared.call.Due.TheVariants as due
use Rattle.dsql_laws_calls.specs.course.declared.course.Wish.{Wish}
use Rattle.dsql_laws_calls.specs.course.declared.course.Wish.TheVariants as wishes
use Rattle.dsql_laws_calls.specs.course.declared.course.Course.TheVariants as courses
use Rattle.dsql_laws_calls.specs.course.Made.{Exchange, ends_rows, given_cursor, rows_are_over}
use Rattle.dsql_laws_calls.specs.course.Rows.{closing_of}
use Rattle.dsql_laws_calls.specs.journal.declared.entry.Entry.{Entry}
use Rattle.dsql_laws_calls.specs.journal.declared.entry.Owner.{Owner}
use Rattle.dsql_laws_calls.specs.journal.Kinds.{is_call, number_of}
use Rattle.dsql_laws_calls.specs.journal.Readers.{went_bad}
use Rattle.dsql_laws_calls.specs.pool.declared.conn.Place.TheVariants.{Lent}
use Rattle.dsql_laws_calls.specs.pool.declared.moves.Move.TheVariants.{Lend}
use Rattle.dsql_laws_calls.specs.rows.declared.rows.Rows.{Rows}
use Rattle.dsql_laws_calls.specs.rows.declared.end.RowsEnd.TheVariants as ends
use Rattle.dsql_laws_calls.specs.rows.OpenRows.{is_live, rows_of}
use Rattle.dsql_laws_calls.proofs.rows.Numbers.{changes_one_number}
use Rattle.dsql_laws_calls.specs.works.Exchanges.{exchanges, got_of, step_of, with_exchange}
use Rattle.dsql_laws_calls.specs.works.HandedOut.{after_fetch}
use Rattle.dsql_laws_calls.specs.works.Line.{handed, sent_over}
use Rattle.dsql_laws_calls.proofs.laws_work.Rows.{same_or_not}
use Rattle.dsql_laws_calls.specs.history.Readers.HandedOut.{fetched, live, over, are_live, are_over, handed_out, rows_by, rows_heard}
use Rattle.dsql_laws_calls.proofs.laws.Tests.{same_itself, same_number}
use Rattle.dsql_laws_calls.specs.history.declared.event.Event.{Event}
use Rattle.dsql_laws_calls.specs.history.declared.event.Event.TheVariants.{Entered, Heard, Pool, Ended}
use Rattle.dsql_laws_calls.specs.history.declared.work.Scope.TheVariants.{Db, Held}
use Rattle.dsql_laws_calls.specs.history.declared.work.Work.TheVariants.{Fetch}
use Rattle.dsql_laws_calls.specs.history.Readers.Course.{caps}
use Rattle.dsql_laws_calls.specs.history.Readers.Journals.{heard_in, journal}
use Rattle.dsql_laws_calls.specs.history.Readers.Lines.{has_cursor, is_about, line_among}
use Rattle.dsql_laws_calls.specs.history.Readers.Pool.{place}
use Rattle.dsql_laws_calls.specs.history.Readers.Works.{aim_of, hands_out_in, scope, work}
use Rattle.dsql_laws_calls.specs.history.Rules.Line.{is_due, may_come, sends_from}
use Rattle.dsql_laws_calls.specs.history.Rules.Sent.{asked_by, untested}
use Rattle.dsql_laws_calls.specs.history.Legal.{Allowed, Lawful}
use Rattle.dsql_laws_tenures.specs.Orderly.{is_in_order}
use Rattle.dsql_laws_tenures.specs.Tenures.{IsOfTransaction, made_by}
use Rattle.dsql_laws_tenures.proofs.Sends.{body_sends, Sends}
use Rattle.dsql_laws_tenures.proofs.SharedCursors.{one_line}
use Rattle.dsql_laws_calls.proofs.Beginnings.{lent_once_begun}
use Rattle.dsql_laws_calls.proofs.BeginningsAt.{beginnings, heard_other, heard_same, heard_tenure, is_answer}
use Rattle.dsql_laws_calls.proofs.Coming.{sound}
use Rattle.dsql_laws_calls.proofs.EndedRows.{rows_kept}
use Rattle.dsql_laws_calls.proofs.HandedRows.{rows_begun}
use Rattle.dsql_laws_calls.proofs.Inside.{hands_same, was_live}
use Rattle.dsql_laws_calls.proofs.Lent.{lent_before}
use Rattle.dsql_laws_calls.proofs.LineParts.{fits_heard, grows, grows_own}
use Rattle.dsql_laws_calls.proofs.Lines.{line_there}
use Rattle.dsql_laws_calls.proofs.LiveRows.{dead_over, live_some}
use Rattle.dsql_laws_calls.proofs.Looks.{heard_there}
use Rattle.dsql_laws_calls.proofs.Rows.{ended_live, none_at_end}
use Rattle.dsql_laws_calls.proofs.Sound.{fitting}
use Rattle.dsql_laws_calls.proofs.UnderWay.{clash}
use Rattle.dsql_laws_calls.proofs.Why.{scoped}
use Rattle.dsql_laws_due.proofs.Came.{came, Came}
use Rattle.dsql_laws_due.proofs.Holds.{EndsWay, Holds, Kept, RowsWay, TestsWay}
use Rattle.dsql_laws_due.proofs.Kept.{holds, rows_else}
use Rattle.dsql_laws_due.proofs.KeptHeard.{begin_step, ending_stepless, heard_now, new_rows, no_step}
use Rattle.dsql_laws_due.proofs.LineFacts.{body_due, line_facts, LineOf}
use Rattle.dsql_laws_due.proofs.OpenLines.{cursor_run, is_run, open_inner, over_rows, run_open}
use Rattle.dsql_laws_due.proofs.Owned.{of_transaction}

-- If rows were made before an event and are live after it, they were live before it.

pub live_before : (H : List Event) (e : Event) (n : ℕ) → is_some (rows_by H n) ≡ true → are_live (e ∷ H) n ≡ true → are_live H n ≡ true
live_before H e n some lives = by (are_live H n) refl
  where
    alive : (o : Option Rows) → over o ≡ true → live o ≡ true → ⊥
    alive None h k = cc
    alive (Some r) h k = never (is_live r) h k
      where
        never : (b : Bool) → not b ≡ true → b ≡ true → ⊥
        never true x y = cc
        never false x y = cc

    by : (b : Bool) → are_live H n ≡ b → b ≡ true
    by true is = refl
    by false is = let k = rows_kept H e n in absurd (alive (rows_by (e ∷ H) n) (k.ended (dead_over (rows_by H n) some is)) lives)

pub live_not_over : {A : Type 0} (o : Option Rows) → live o ≡ true → over o ≡ true → A
live_not_over None h k = absurd cc
live_not_over (Some r) h k = absurd (never (is_live r) h k)
  where
    never : (b : Bool) → b ≡ true → not b ≡ true → ⊥
    never true x y = cc
    never false x y = cc

pub quiet_rows : (H : List Event) (e : Event) (n : ℕ) → is_answer e ≡ false → are_live (e ∷ H) n ≡ true → is_some (rows_by H n) ≡ true
quiet_rows H (Entered client m op) n h lives = live_some (rows_by H n) (was_live H client m op n lives)
quiet_rows H (Heard e) n h lives = absurd cc
quiet_rows H Ended n h lives = clash (sym lives ∙ none_at_end H n)
quiet_rows H e n h lives = live_some (rows_by H n) lives

-- A fetch that leaves rows live was given a row.

row_given : (a : DriverAnswer) (o : Option Rows) (x r : ℕ) → (fits_of (calls.Next x) a && not (is_memory a)) ≡ true → live o ≡ true → live (option_map (fetched a) o) ≡ true → ends_rows (due.Next r, got_of a) ≡ false
row_given a None x r fits lives after = absurd cc
row_given a (Some rows) x r fits lives after = given a fits (sym (ap (λ b. is_live (cond b (after_fetch a rows) rows)) lives) ∙ after)
  where
    given : (b : DriverAnswer) → (fits_of (calls.Next x) b && not (is_memory b)) ≡ true → is_live (after_fetch b rows) ≡ true → ends_rows (due.Next r, got_of b) ≡ false
    given (answers.Row values) f k = refl
    given answers.End f k = clash (sym k ∙ ended_live ends.EndOfRows rows)
    given (answers.Fail text) f k = clash (sym k ∙ ended_live (ends.Failed text) rows)
    given answers.Bad f k = clash (sym k ∙ ended_live ends.BadConn rows)
    given b f k = absurd cc

pub next_live : (H : List Event) (e : Entry) (n x r : ℕ) → Allowed H (Heard e) → work H e.call_no ≡ Fetch n → e.call ≡ calls.Next x → are_live H n ≡ true → are_live (Heard e ∷ H) n ≡ true → ends_rows (due.Next r, got_of e.answer) ≡ false
next_live H e n x r a its call lives after =
    let l = changes_one_number in
    let rows : rows_by (Heard e ∷ H) n ≡ option_map (fetched e.answer) (rows_by H n) =
    ap (λ w. rows_of n (rows_heard H w e.call_no e.call e.answer (handed_out H))) its ∙ (ap (λ q. rows_of n (rows_heard H (Fetch n) e.call_no q e.answer (handed_out H))) call
    ∙ l.changes (fetched e.answer) n (handed_out H))
    in
    row_given e.answer (rows_by H n) x r (ap (λ q. fits_of q e.answer && not (is_memory e.answer)) (sym call) ∙ fitting H e a) lives (sym (ap live rows) ∙ after)

-- The line of a query whose rows are live.

abbrev Open : List Event → ℕ → ℕ → Owner → Type 0
Open H c t own = (n : ℕ) → hands_out_in (number_of own) (work H n) ≡ true → are_live H n ≡ true → rows_are_over (made_by n t (journal H c)) ≡ false

some_of : (o : Option ℕ) → is_some o ≡ true → (r : ℕ) × (o ≡ Some r)
some_of None h = absurd cc
some_of (Some r) h = (r, refl)

module _ (H : List Event) (e : Entry) (l : Lawful (Heard e ∷ H)) (own : Owner) (lent : place H e.conn ≡ Some (Lent e.tenure own)) (other : is_call own ≡ false) (n : ℕ) (hands : hands_out_in (number_of own) (work H n) ≡ true)
    (after : are_live (Heard e ∷ H) n ≡ true) where
  abbrev made : List Exchange
  made = made_by n e.tenure (journal H e.conn)

  h : Holds H
  h = holds H l.0

  kept : Kept H
  kept = h.kept

  may : may_come H e ≡ true
  may = let there = heard_there H e l.1 in subst (λ at. sends_from H at e ≡ true) lent there.line

  inner : scope (work H n) ≡ Held (number_of own)
  inner = scoped (work H n) (number_of own) hands

  tenure : IsOfTransaction (number_of own) e.tenure (journal H e.conn)
  tenure = of_transaction H e.conn e.tenure own l.0 lent other

  -- A driver call that is due in the query's line fetches from its rows, or closes them.
  own_due : (w : Wish) → is_some (rows_by H n) ≡ true → rows_are_over made ≡ false → is_due (line_there H e.conn e.tenure own n w) e.call ≡ true
      → (r : ℕ) × (is_due (over_rows w r (sent_over (untested (caps H)) (asked_by H n) (Some (closing_of courses.Query (went_bad (journal H e.conn)) (untested (caps H)) (length (asked_by H n).params) made)))) e.call ≡ true)
  own_due w some on due_here =
      let r = some_of (handed (aim_of (work H n)) made) (kept.handed e.conn e.tenure own lent n hands some) in (
        r.0,
        ap (λ d. is_due d e.call) (sym (open_inner (untested (caps H)) (went_bad (journal H e.conn)) (asked_by H n) w made r.0 r.1 on)) ∙ body_due H e.conn e.tenure n own w e.call other inner due_here,
      )

  -- The query itself sends nothing.
  not_own : {A : Type 0} → is_some (rows_by H n) ≡ true → rows_are_over made ≡ false → e.call_no ≡ n → is_some (step_of e.call) ≡ true → Came H e.conn e.tenure own e.call_no e.call → A
  not_own some on its step (inl w) = absurd (no_step e.call (begin_step H e l (sound H l.0) h own lent w other) step)
  not_own some on its step (inr (inl w)) =
      let i = w.way in
      let d = own_due wishes.Nothing some on (subst (λ m. is_due (line_there H e.conn e.tenure own m wishes.Nothing) e.call ≡ true) its i.due) in
      let none = d.1 in
      absurd cc
  not_own some on its step (inr (inr w)) =
      let o = w.other in
      let wrong : Db ≡ Held (number_of own) = sym o.outside ∙ (ap (λ m. scope (work H m)) its ∙ inner) in
      absurd cc

  -- A driver call that names the query's cursor is due in the query's line.
  sender : (x m : ℕ) (w : Wish) → scope (work H m) ≡ Held (number_of own) → (e.call ≡ calls.Next x) ⊎ (e.call ≡ calls.CloseRows x) → has_cursor made x ≡ true → is_due (line_there H e.conn e.tenure own m w) e.call ≡ true → m ≡ n
  sender x m w scope_is which had due_here = one_line (number_of own) e.tenure m n x (journal H e.conn) tenure (by which (body_sends (caps H) (asked_by H m) (went_bad (journal H e.conn)) w (made_by m e.tenure (journal H e.conn)) e.call line.text line.order (body_due H e.conn e.tenure m own w e.call other scope_is due_here))) had
    where
      line : LineOf H e.conn e.tenure m own
      line = line_facts H e.conn e.tenure m own kept lent other scope_is

      by : (e.call ≡ calls.Next x) ⊎ (e.call ≡ calls.CloseRows x) → Sends (made_by m e.tenure (journal H e.conn)) (went_bad (journal H e.conn)) e.call → has_cursor (made_by m e.tenure (journal H e.conn)) x ≡ true
      by (inl is) s = let k : Sends (made_by m e.tenure (journal H e.conn)) (went_bad (journal H e.conn)) (calls.Next x) = subst (Sends (made_by m e.tenure (journal H e.conn)) (went_bad (journal H e.conn))) is s in k.0
      by (inr is) s = let k : Sends (made_by m e.tenure (journal H e.conn)) (went_bad (journal H e.conn)) (calls.CloseRows x) = subst (Sends (made_by m e.tenure (journal H e.conn)) (went_bad (journal H e.conn))) is s in k.0

  -- A fetch from the query's rows gives a row, and no call closes them.
  fetched_open : (x : ℕ) → is_some (rows_by H n) ≡ true → rows_are_over made ≡ false → (e.call ≡ calls.Next x) ⊎ (e.call ≡ calls.CloseRows x) → has_cursor made x ≡ true → (e.call_no ≡ n → ⊥) → Came H e.conn e.tenure own e.call_no e.call
      → rows_are_over (with_exchange (step_of e.call) e.answer made) ≡ false
  fetched_open x some on which had apart (inl w) = absurd (no_step e.call (begin_step H e l (sound H l.0) h own lent w other) (by which))
    where
      by : (e.call ≡ calls.Next x) ⊎ (e.call ≡ calls.CloseRows x) → is_some (step_of e.call) ≡ true
      by (inl is) = ap (λ q. is_some (step_of q)) is
      by (inr is) = ap (λ q. is_some (step_of q)) is
  fetched_open x some on which had apart (inr (inl w)) = let i = w.way in absurd (apart (sender x e.call_no wishes.Nothing w.inner which had i.due))
  fetched_open x some on which had apart (inr (inr w)) = let y = w.way in from y.way
    where
      lives : are_live H n ≡ true
      lives = live_before H (Heard e) n some after

      stepless : {A : Type 0} → step_of e.call ≡ None → (e.call ≡ calls.Next x) ⊎ (e.call ≡ calls.CloseRows x) → A
      stepless none (inl is) = absurd (no_step e.call none (ap (λ q. is_some (step_of q)) is))
      stepless none (inr is) = absurd (no_step e.call none (ap (λ q. is_some (step_of q)) is))

      fetches : (r : RowsWay H e.conn e.tenure own e.call_no e.call) → r.n ≡ n → (e.call ≡ calls.Next x) ⊎ (e.call ≡ calls.CloseRows x)
          → ((r.wish ≡ wishes.Close) × (are_over H r.n ≡ true)) ⊎ ((r.wish ≡ wishes.Fetch) × (work H e.call_no ≡ Fetch r.n)) → rows_are_over (with_exchange (step_of e.call) e.answer made) ≡ false
      fetches r same which (inl gone) = live_not_over (rows_by H n) lives (ap (are_over H) (sym same) ∙ gone.1)
      fetches r same (inl is) (inr f) =
          ap (λ q. rows_are_over (with_exchange (step_of q) e.answer made)) is
          ∙ (ap (λ b. b || rows_are_over made) (next_live H e n x x l.1 (f.1 ∙ ap Fetch same) is lives after) ∙ on)
      fetches r same (inr is) (inr f) =
          let here : is_due (line_there H e.conn e.tenure own n r.wish) e.call ≡ true = subst (λ m. is_due (line_there H e.conn e.tenure own m r.wish) e.call ≡ true) same r.due in
          let d = own_due wishes.Fetch some on (subst (λ v. is_due (line_there H e.conn e.tenure own n v) e.call ≡ true) f.0 here) in
          let k : is_due (Some (calls.Next d.0)) (calls.CloseRows x) ≡ true = ap (λ q. is_due (Some (calls.Next d.0)) q) (sym is) ∙ d.1 in
          absurd cc

      from : RowsWay H e.conn e.tenure own e.call_no e.call ⊎ (EndsWay H e.conn e.tenure e.call ⊎ TestsWay H e.conn e.tenure e.call) → rows_are_over (with_exchange (step_of e.call) e.answer made) ≡ false
      from (inl r) = fetches r (sender x r.n r.wish (scoped (work H r.n) (number_of own) r.hands) which had r.due) which r.kind
      from (inr (inl y)) = stepless (ending_stepless e.call y.ends) which
      from (inr (inr y)) = stepless (ap step_of y.tests) which

  -- An entry that joins the line leaves the rows open.
  entry_open : (q : DriverCall) → e.call ≡ q → is_some (rows_by H n) ≡ true → rows_are_over made ≡ false → ((e.call_no == n) ≡ true) ⊎ (is_about made e.call ≡ true) → (b : Bool) → (e.call_no == n) ≡ b
      → rows_are_over (with_exchange (step_of q) e.answer made) ≡ false
  entry_open (calls.Next x) is some on touches true its = not_own some on (same_number e.call_no n its) (ap (λ q. is_some (step_of q)) is) (came H e own l.0 (sound H l.0) h may lent other)
  entry_open (calls.Next x) is some on touches false its =
      sym (ap (λ q. rows_are_over (with_exchange (step_of q) e.answer made)) is)
      ∙ fetched_open x some on (inl is) (ap (is_about made) (sym is) ∙ about touches) (λ same. clash (sym (ap (λ m. m == n) same ∙ same_itself n) ∙ its)) (came H e own l.0 (sound H l.0) h may lent other)
    where
      about : ((e.call_no == n) ≡ true) ⊎ (is_about made e.call ≡ true) → is_about made e.call ≡ true
      about (inl own_one) = clash (sym own_one ∙ its)
      about (inr y) = y
  entry_open (calls.CloseRows x) is some on touches true its = not_own some on (same_number e.call_no n its) (ap (λ q. is_some (step_of q)) is) (came H e own l.0 (sound H l.0) h may lent other)
  entry_open (calls.CloseRows x) is some on touches false its =
      sym (ap (λ q. rows_are_over (with_exchange (step_of q) e.answer made)) is)
      ∙ fetched_open x some on (inr is) (ap (is_about made) (sym is) ∙ about touches) (λ same. clash (sym (ap (λ m. m == n) same ∙ same_itself n) ∙ its)) (came H e own l.0 (sound H l.0) h may lent other)
    where
      about : ((e.call_no == n) ≡ true) ⊎ (is_about made e.call ≡ true) → is_about made e.call ≡ true
      about (inl own_one) = clash (sym own_one ∙ its)
      about (inr y) = y
  entry_open (calls.Exec (Text text) params) is some on touches b its = on
  entry_open (calls.Exec (Handle handle) params) is some on touches b its = on
  entry_open (calls.Query (Text text) params) is some on touches b its = on
  entry_open (calls.Query (Handle handle) params) is some on touches b its = on
  entry_open q is some on touches b its = on

  line_open : rows_are_over made ≡ false → is_some (rows_by H n) ≡ true → rows_are_over (exchanges (line_among n (e ∷ heard_in H e.conn e.tenure))) ≡ false
  line_open on some = by (grows n e (heard_in H e.conn e.tenure))
    where
      by : (line_among n (e ∷ heard_in H e.conn e.tenure) ≡ line_among n (heard_in H e.conn e.tenure))
          ⊎ ((line_among n (e ∷ heard_in H e.conn e.tenure) ≡ e ∷ line_among n (heard_in H e.conn e.tenure)) × (((e.call_no == n) ≡ true) ⊎ (is_about (exchanges (line_among n (heard_in H e.conn e.tenure))) e.call ≡ true)))
          → rows_are_over (exchanges (line_among n (e ∷ heard_in H e.conn e.tenure))) ≡ false
      by (inl same) = ap (λ L. rows_are_over (exchanges L)) same ∙ on
      by (inr x) = ap (λ L. rows_are_over (exchanges L)) x.0 ∙ entry_open e.call refl some on x.1 (e.call_no == n) refl

-- The event is an answer.

answered_open : (H : List Event) (e : Entry) → Lawful (Heard e ∷ H) → (own : Owner) → place H e.conn ≡ Some (Lent e.tenure own) → is_call own ≡ false → Open H e.conn e.tenure own → Open (Heard e ∷ H) e.conn e.tenure own
answered_open H e l own lent other open_rows n hands after =
    ap (λ L. rows_are_over (exchanges (line_among n L))) now ∙ by (new_rows H (work H e.call_no) e.call_no e.call e.answer n (handed_out H) (live_some (rows_by (Heard e ∷ H) n) after))
  where
    now : heard_in (Heard e ∷ H) e.conn e.tenure ≡ e ∷ heard_in H e.conn e.tenure
    now = heard_now H e l (sound H l.0) (holds H l.0) own lent

    order : is_in_order (exchanges (line_among n (e ∷ heard_in H e.conn e.tenure))) ≡ true
    order =
        let h = holds (Heard e ∷ H) l in
        let line = line_facts (Heard e ∷ H) e.conn e.tenure n own h.kept lent other (scoped (work H n) (number_of own) hands) in
        sym (ap (λ L. is_in_order (exchanges (line_among n L))) now) ∙ line.order

    run : (d : Due) → step_of e.call ≡ Some d → is_run d ≡ true → line_among n (e ∷ heard_in H e.conn e.tenure) ≡ e ∷ line_among n (heard_in H e.conn e.tenure)
        → rows_are_over (exchanges (line_among n (e ∷ heard_in H e.conn e.tenure))) ≡ false
    run d step runs grown =
        let made : exchanges (line_among n (e ∷ heard_in H e.conn e.tenure)) ≡ (d, got_of e.answer) ∷ exchanges (line_among n (heard_in H e.conn e.tenure)) =
        ap exchanges grown ∙ ap (λ o. with_exchange o e.answer (exchanges (line_among n (heard_in H e.conn e.tenure)))) step
        in
        ap rows_are_over made ∙ run_open d (got_of e.answer) (exchanges (line_among n (heard_in H e.conn e.tenure))) runs (sym (ap is_in_order made) ∙ order)

    due_of : (o : Option Due) → is_some o ≡ true → (d : Due) × (o ≡ Some d)
    due_of None x = absurd cc
    due_of (Some d) x = (d, refl)

    by : (is_some (rows_by H n) ≡ true) ⊎ ((n ≡ e.call_no) × (is_some (given_cursor (got_of e.answer)) ≡ true) × (is_some (step_of e.call) ≡ true))
        → rows_are_over (exchanges (line_among n (e ∷ heard_in H e.conn e.tenure))) ≡ false
    by (inl were) = line_open H e l own lent other n hands after (open_rows n hands (live_before H (Heard e) n were after)) were
    by (inr g) =
        let d = due_of (step_of e.call) g.2 in
        run d.0 d.1 (cursor_run e.call e.answer d.0 (fits_heard H e l.1) g.1 d.1) (grows_own n e (heard_in H e.conn e.tenure) (ap (λ j. j == n) (sym g.0) ∙ same_itself n))

pub live_open : (H : List Event) (c t : ℕ) (own : Owner) → Lawful H → place H c ≡ Some (Lent t own) → is_call own ≡ false → (n : ℕ) → hands_out_in (number_of own) (work H n) ≡ true → are_live H n ≡ true
    → rows_are_over (made_by n t (journal H c)) ≡ false
live_open [] c t own l is other n hands lives = absurd cc
live_open (e ∷ H) c t own l is other n hands lives = by (λ before. live_open H c t own l.0 before other) (lent_before H e c t own l.0 is)
  where
    -- Nothing is heard there.
    beside : place H c ≡ Some (Lent t own) → journal (e ∷ H) c ≡ journal H c → is_some (rows_by H n) ≡ true → Open H c t own → rows_are_over (made_by n t (journal (e ∷ H) c)) ≡ false
    beside before same some rest =
        ap (λ J. rows_are_over (made_by n t J)) same ∙ rest n (hands_same H e n (number_of own) some hands) (live_before H e n some lives)

    answered : (x : Entry) → e ≡ Heard x → place H c ≡ Some (Lent t own) → Open H c t own → (x.conn ≡ c) ⊎ (x.conn ≢ c) → rows_are_over (made_by n t (journal (e ∷ H) c)) ≡ false
    answered x its before rest (inl here) =
        let lx : Lawful (Heard x ∷ H) = subst (λ y. Lawful (y ∷ H)) its l in
        let tenure = heard_tenure H x t own lx.1 (ap (place H) here ∙ before) in
        let lent : place H x.conn ≡ Some (Lent x.tenure own) = ap (place H) here ∙ (before ∙ ap (λ u. Some (Lent u own)) (sym tenure)) in
        let rest_here : Open H x.conn x.tenure own = subst (λ d. Open H d x.tenure own) (sym here) (subst (λ u. Open H c u own) (sym tenure) rest) in
        let now = answered_open H x lx own lent other rest_here n (subst (λ y. hands_out_in (number_of own) (work (y ∷ H) n) ≡ true) its hands) (subst (λ y. are_live (y ∷ H) n ≡ true) its lives) in
        subst (λ y. rows_are_over (made_by n t (journal (y ∷ H) c)) ≡ false) (sym its)
        (subst (λ d. rows_are_over (made_by n t (journal (Heard x ∷ H) d)) ≡ false) here (subst (λ u. rows_are_over (made_by n u (journal (Heard x ∷ H) x.conn)) ≡ false) tenure now))
    answered x its before rest (inr apart) =
        let lx : Lawful (Heard x ∷ H) = subst (λ y. Lawful (y ∷ H)) its l in
        beside before (ap (λ y. journal (y ∷ H) c) its ∙ heard_other H x c apart)
        (rows_else H x c t own n lx before apart (subst (λ y. hands_out_in (number_of own) (work (y ∷ H) n) ≡ true) its hands) (live_some (rows_by (Heard x ∷ H) n) (subst (λ y. are_live (y ∷ H) n ≡ true) its lives))) rest

    event : (y : Event) → e ≡ y → place H c ≡ Some (Lent t own) → Open H c t own → rows_are_over (made_by n t (journal (e ∷ H) c)) ≡ false
    event (Heard x) its before rest = answered x its before rest (same_or_not x.conn c)
    event y its before rest = beside before (heard_same H e c (ap is_answer its)) (quiet_rows H e n (ap is_answer its) lives) rest

    by : (place H c ≡ Some (Lent t own) → Open H c t own) → (place H c ≡ Some (Lent t own)) ⊎ ((k : ℕ) × (e ≡ Pool (Lend c t own k))) → rows_are_over (made_by n t (journal (e ∷ H) c)) ≡ false
    by rest (inl before) = event e refl before (rest before)
    by rest (inr w) =
        let some = quiet_rows H e n (ap is_answer w.1) lives in
        let begun = rows_begun H n (number_of own) l.0 some (hands_same H e n (number_of own) some hands) in
        absurd (lent_once_begun H c t own w.0 l.0 (subst (λ x. Allowed H x) w.1 l.1) (beginnings H l.0) begun)
