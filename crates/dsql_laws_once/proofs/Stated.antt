-- Only pings, and calls that run a text on the database or in a transaction, send statements and `Ping`s. What
-- any other call sends is neither.
use Rattle.std.proofs.Common.{◌≡◌, ◌≢◌, ℕ, ◌+◌, ◌≤◌, ◌==◌, ◌⊎◌, inl, inr, Bool, true, false, not, ◌&&◌, ◌||◌, cond, List, [], ◌∷◌, length, Option, Some, None, is_some, refl, sym, ap, ◌∙◌, arith}
use Rattle.dsql_laws_calls.specs.driver.Kinds.{is_bad, is_ending}
use Rattle.dsql_laws_calls.specs.driver.declared.call.DriverCall.{DriverCall}
use Rattle.dsql_laws_calls.specs.driver.declared.call.DriverCall.TheVariants as calls
use Rattle.dsql_laws_calls.specs.driver.declared.call.Input.TheVariants.{Text, Handle}
use Rattle.dsql_laws_calls.specs.driver.declared.caps.Caps.{Caps}
use Rattle.dsql_laws_calls.specs.course.declared.call.Due.{Due}
use Rattle.dsql_laws_calls.specs.course.declared.call.Due.TheVariants as due
use Rattle.dsql_laws_calls.specs.course.declared.course.Course.TheVariants as courses
use Rattle.dsql_laws_calls.specs.course.declared.course.Wish.{Wish}
use Rattle.dsql_laws_calls.specs.course.declared.course.Wish.TheVariants as wishes
use Rattle.dsql_laws_calls.specs.course.Made.{Exchange, own_cursor, rows_are_over}
use Rattle.dsql_laws_calls.specs.course.Rows.{closing_of, rows_next_if}
use Rattle.dsql_laws_calls.specs.journal.declared.entry.Entry.{Entry}
use Rattle.dsql_laws_calls.specs.journal.declared.entry.Owner.{Owner}
use Rattle.dsql_laws_calls.specs.journal.Kinds.{is_call, number_of}
use Rattle.dsql_laws_calls.specs.journal.Readers.{went_bad}
use Rattle.dsql_laws_calls.specs.pool.declared.conn.Place.TheVariants.{Lent}
use Rattle.dsql_laws_calls.specs.works.declared.work.Aim.TheVariants as aims
use Rattle.dsql_laws_calls.specs.works.Exchanges.{exchanges, step_of}
use Rattle.dsql_laws_calls.specs.works.Line.{Asked, handed, sent_as, sent_over, body_with}
use Rattle.dsql_laws_calls.proofs.laws_work.HandedLines.{SentOver, due_over}
use Rattle.dsql_laws_calls.specs.history.Readers.HandedOut.{over, are_over, rows_by}
use Rattle.dsql_laws_calls.proofs.laws.Tests.{both, same_number, other_number}
use Rattle.dsql_laws_calls.specs.history.declared.event.Event.{Event}
use Rattle.dsql_laws_calls.specs.history.declared.event.Event.TheVariants.{Entered, Heard}
use Rattle.dsql_laws_calls.specs.history.declared.work.Scope.TheVariants.{Db}
use Rattle.dsql_laws_calls.specs.history.declared.work.Work.{Work}
use Rattle.dsql_laws_calls.specs.history.declared.work.Task.TheVariants.{HandOut}
use Rattle.dsql_laws_calls.specs.history.declared.work.Work.TheVariants.{Statement, Begin, End, Ping, Fetch, Close, Look}
use Rattle.dsql_laws_calls.specs.history.Readers.Course.{caps}
use Rattle.dsql_laws_calls.specs.history.Readers.Journals.{heard_in, journal}
use Rattle.dsql_laws_calls.specs.history.Readers.Lines.{line_among}
use Rattle.dsql_laws_calls.specs.history.Readers.Pool.{place}
use Rattle.dsql_laws_calls.specs.history.Readers.Works.{asks, aim_of, scope, work}
use Rattle.dsql_laws_calls.specs.history.Rules.Line.{is_due, may_come}
use Rattle.dsql_laws_calls.specs.history.Rules.Sent.{asked_by, is_reset_due, untested}
use Rattle.dsql_laws_calls.specs.history.Legal.{Lawful}
use Rattle.dsql_laws_calls.proofs.Beginnings.{begin_owner, begin_stepless, begin_there, due_steps, stepless}
use Rattle.dsql_laws_calls.proofs.BeginningsAt.{way_of}
use Rattle.dsql_laws_calls.proofs.CallTenures.{call_line, plain_due}
use Rattle.dsql_laws_calls.proofs.Coming.{sound}
use Rattle.dsql_laws_calls.proofs.DueWay.{inner_is}
use Rattle.dsql_laws_calls.proofs.Lines.{line_there}
use Rattle.dsql_laws_calls.proofs.LiveRows.{over_some}
use Rattle.dsql_laws_calls.proofs.Looks.{comes, heard_there}
use Rattle.dsql_laws_calls.proofs.Makers.{hands_out, rows_hand_out}
use Rattle.dsql_laws_calls.proofs.Plain.{begins, line_plain}
use Rattle.dsql_laws_calls.proofs.RowsNew.{held}
use Rattle.dsql_laws_calls.proofs.Stays.{work_stays}
use Rattle.dsql_laws_calls.proofs.UnderWay.{handed_there, UnderWay}
use Rattle.dsql_laws_calls.proofs.Why.{scoped}
use Rattle.dsql_laws_replies.proofs.InnerHeard.{closing_tidy}
use Rattle.dsql_laws_replies.proofs.InnerOver.{is_tidy}
use Rattle.dsql_laws_due.proofs.CallWays.{CallWay, call_way}
use Rattle.dsql_laws_due.proofs.Holds.{EndsWay, Holds, IsOther, Kept, RowsWay, TestsWay, TxWay}
use Rattle.dsql_laws_due.proofs.Kept.{holds}
use Rattle.dsql_laws_once.specs.Once.{is_statement, is_skip, may_be_carried_out, carried_out}

-- Is true if the work runs a text or pings.
abbrev pub states : Work → Bool
states (Statement it task) = true
states Ping = true
states _ = false

pub states_busy : (w : Work) → states w ≡ true → w ≡ Look → ⊥
states_busy w h look = let wrong : false ≡ true = sym (ap states look) ∙ h in cc

-- What is sent on handed-out rows is neither a statement nor a `Ping`.

closed_quiet : (rows : ℕ) (q : DriverCall) → is_due (Some (calls.CloseRows rows)) q ≡ true → is_statement q ≡ false
closed_quiet rows (calls.CloseRows other) h = refl
closed_quiet rows q h = absurd cc

freed_quiet : (handle : ℕ) (q : DriverCall) → is_due (Some (calls.CloseStmt handle)) q ≡ true → is_statement q ≡ false
freed_quiet handle (calls.CloseStmt other) h = refl
freed_quiet handle q h = absurd cc

fetch_quiet : (rows : ℕ) (q : DriverCall) → is_due (Some (calls.Next rows)) q ≡ true → is_statement q ≡ false
fetch_quiet rows (calls.Next other) h = refl
fetch_quiet rows q h = absurd cc

test_quiet : (b : Bool) (q : DriverCall) → is_due (cond b (Some calls.Valid) None) q ≡ true → is_statement q ≡ false
test_quiet true calls.Valid h = refl
test_quiet true q h = absurd cc
test_quiet false q h = absurd cc

tidy_quiet : (can : Caps) (asked : Asked) (d : Due) (q : DriverCall) → is_tidy aims.HandOut d ≡ true → is_due (sent_as can asked d) q ≡ true → is_statement q ≡ false
tidy_quiet can asked (due.CloseRows rows) q t h = closed_quiet rows q h
tidy_quiet can asked (due.CloseStmt handle) q t h = freed_quiet handle q h
tidy_quiet can asked due.Over q t h = test_quiet can.validator q h
tidy_quiet can asked d q t h = absurd cc

next_quiet : (can : Caps) (asked : Asked) (over : Bool) (w : Wish) (close : Due) (rows : ℕ) (q : DriverCall) → is_tidy aims.HandOut close ≡ true → is_due (sent_over can asked (rows_next_if over w close rows)) q ≡ true → is_statement q ≡ false
next_quiet can asked true w close rows q t h = tidy_quiet can asked close q t h
next_quiet can asked false wishes.Close close rows q t h = tidy_quiet can asked close q t h
next_quiet can asked false wishes.Fetch close rows q t h = fetch_quiet rows q h
next_quiet can asked false wishes.Nothing close rows q t h = absurd cc

body_quiet : (can : Caps) (bad : Bool) (asked : Asked) (w : Wish) (made : List Exchange) (o : Option ℕ) (q : DriverCall) → is_some o ≡ true → is_due (body_with can bad asked w made o) q ≡ true → is_statement q ≡ false
body_quiet can bad asked w made (Some rows) q some h =
    next_quiet can asked (rows_are_over made) w (closing_of courses.Query bad can (length asked.params) made) rows q (closing_tidy can bad (length asked.params) made) h
body_quiet can bad asked w made None q some h = absurd cc

over_rows : (q : DriverCall) (w : Wish) (b : Bool) → SentOver q w b → is_statement q ≡ false
over_rows (calls.Next rows) w b sent = refl
over_rows (calls.CloseRows rows) w b sent = refl
over_rows (calls.CloseStmt handle) w b sent = refl
over_rows calls.Valid w b sent = refl
over_rows _ w b sent = absurd sent

-- A `Reset`, a `Begin` and a test are neither.
stepless_quiet : (q : DriverCall) → step_of q ≡ None → is_statement q ≡ false
stepless_quiet (calls.Exec (Text text) params) h = absurd cc
stepless_quiet (calls.Exec (Handle handle) params) h = absurd cc
stepless_quiet (calls.Query (Text text) params) h = absurd cc
stepless_quiet (calls.Query (Handle handle) params) h = absurd cc
stepless_quiet calls.Ping h = absurd cc
stepless_quiet q h = refl

ending_quiet : (q : DriverCall) → is_ending q ≡ true → is_statement q ≡ false
ending_quiet calls.Commit h = refl
ending_quiet calls.Rollback h = refl
ending_quiet q h = absurd cc

-- So other calls send neither.

-- What is heard was under way.
pub under_way : (H : List Event) (e : Entry) → Lawful (Heard e ∷ H) → e.call_no ≢ 0 → (may_come H e ≡ true) × UnderWay H e
under_way H e l some =
    let there = heard_there H e l.1 in
    let s = sound H l.0 in
    let may = comes H e (place H e.conn) there.sets there.line (other_number e.call_no 0 some) in
    (may, s.coming e may)

begin_quiet : (H : List Event) (e : Entry) → Lawful (Heard e ∷ H) → begins (work H e.call_no) ≡ true → is_statement e.call ≡ false
begin_quiet H e l begin =
    let w = way_of H e l.0 l.1 begin in
    let its : begins (work H (number_of w.owner)) ≡ true = ap (λ k. begins (work H k)) w.own ∙ begin in
    let at = begin_there H e.conn e.tenure w.owner its (begin_owner H e.conn e.tenure w.owner l.0 w.lent its) in
    let line : stepless (line_there H e.conn e.tenure w.owner (number_of w.owner) wishes.Nothing) ≡ true =
    ap stepless at.2 ∙ begin_stepless (caps H) (is_reset_due H e.conn) at.0 at.1 (line_among (number_of w.owner) (heard_in H e.conn e.tenure))
    in
    stepless_quiet e.call (due_steps (line_there H e.conn e.tenure w.owner (number_of w.owner) wishes.Nothing) e.call line w.due)

handing : (w : Work) → hands_out w ≡ true → aim_of w ≡ aims.HandOut
handing (Statement scope (HandOut label)) h = refl
handing w h = absurd cc

-- On the rows of a call on the database neither is sent.
call_quiet : (H : List Event) (c t : ℕ) (own : Owner) (w : Wish) (q : DriverCall) → Lawful H → place H c ≡ Some (Lent t own) → is_call own ≡ true → is_some (rows_by H (number_of own)) ≡ true → is_due (call_line H c t own w) q ≡ true → is_statement q ≡ false
call_quiet H c t own w q l is call some h = by (own_cursor (exchanges (heard_in H c t))) refl (held H c t own l is some)
  where
    asked : Asked
    asked = asked_by H (number_of own)

    aim : aim_of (work H (number_of own)) ≡ aims.HandOut
    aim = handing (work H (number_of own)) (rows_hand_out H (number_of own) some)

    by : (o : Option ℕ) → own_cursor (exchanges (heard_in H c t)) ≡ o → is_some o ≡ true → is_statement q ≡ false
    by None cursor k = absurd cc
    by (Some rows) cursor k =
        let s = sound H l in
        let f = s.facts in
        over_rows q w (rows_are_over (exchanges (heard_in H c t)))
        (due_over (caps H) (is_reset_due H c) asked w (heard_in H c t) q rows (ap (λ a. handed a (exchanges (heard_in H c t))) aim ∙ cursor) (f.made c t own is call)
        (plain_due (call_line H c t own w) q (line_plain (caps H) (is_reset_due H c) asked w (heard_in H c t)) h))

call_way_quiet : (H : List Event) (e : Entry) (u : UnderWay H e) → Lawful H → is_call u.owner ≡ true → CallWay H e.conn e.tenure u.owner e.call_no e.call → is_statement e.call ≡ false
call_way_quiet H e u l call w = call_quiet H e.conn e.tenure u.owner w.wish e.call l u.lent call (made w.kind) w.due
  where
    made : ((w.wish ≡ wishes.Close) × (are_over H (number_of u.owner) ≡ true)) ⊎ ((w.wish ≡ wishes.Fetch) × (work H e.call_no ≡ Fetch (number_of u.owner))) → is_some (rows_by H (number_of u.owner)) ≡ true
    made (inl x) = over_some (rows_by H (number_of u.owner)) x.1
    made (inr x) = u.rowed (number_of u.owner) (inl x.1)

-- On the rows of a call in a transaction, and at the end of that transaction, neither is sent.
rows_way_quiet : (H : List Event) (c t : ℕ) (own : Owner) (m : ℕ) (q : DriverCall) → Lawful H → place H c ≡ Some (Lent t own) → is_call own ≡ false → RowsWay H c t own m q → is_statement q ≡ false
rows_way_quiet H c t own m q l is other w =
    let line = exchanges (line_among w.n (heard_in H c t)) in
    let inner = inner_is H c t own w.n w.wish (number_of own) other (scoped (work H w.n) (number_of own) w.hands) in
    let given : handed_there H c t w.n ≡ true = Kept.handed (Holds.kept (holds H l)) c t own is w.n w.hands w.rows in
    body_quiet (untested (caps H)) (went_bad (journal H c)) (asked_by H w.n) w.wish line (handed (asked_by H w.n).aim line) q given (ap (λ d. is_due d q) (sym inner) ∙ w.due)

tx_way_quiet : (H : List Event) (c t : ℕ) (own : Owner) (m : ℕ) (q : DriverCall) → Lawful H → place H c ≡ Some (Lent t own) → is_call own ≡ false → TxWay H c t own m q → is_statement q ≡ false
tx_way_quiet H c t own m q l is other w = by w.way
  where
    by : RowsWay H c t own m q ⊎ (EndsWay H c t q ⊎ TestsWay H c t q) → is_statement q ≡ false
    by (inl rows) = rows_way_quiet H c t own m q l is other rows
    by (inr (inl ends)) = ending_quiet q ends.ends
    by (inr (inr tests)) = ap is_statement tests.tests

other_quiet : (H : List Event) (e : Entry) → Lawful (Heard e ∷ H) → e.call_no ≢ 0 → IsOther H e.call_no → is_statement e.call ≡ false
other_quiet H e l some its = let x = under_way H e l some in by x.0 x.1
  where
    by : may_come H e ≡ true → UnderWay H e → is_statement e.call ≡ false
    by may u = of_owner (is_call u.owner) refl
      where
        of_owner : (b : Bool) → is_call u.owner ≡ b → is_statement e.call ≡ false
        of_owner true call = call_way_quiet H e u l.0 call (call_way H e u.owner l.0 may u.lent call its)
        of_owner false other = tx_way_quiet H e.conn e.tenure u.owner e.call_no e.call l.0 u.lent other (Holds.coming (holds H l.0) e u.owner may u.lent other its)

pub statement_states : (H : List Event) (e : Entry) → Lawful (Heard e ∷ H) → e.call_no ≢ 0 → is_statement e.call ≡ true → states (work H e.call_no) ≡ true
statement_states H e l some statement = by (work H e.call_no) refl
  where
    never : (b : Bool) → b ≡ true → b ≡ false → ⊥
    never b x y = cc

    other : (w : Work) → work H e.call_no ≡ w → asks w ≡ false → scope w ≡ Db → ⊥
    other w is a s = never (is_statement e.call) statement (other_quiet H e l some (record { asks_none = ap asks is ∙ a; outside = ap scope is ∙ s }))

    by : (w : Work) → work H e.call_no ≡ w → states (work H e.call_no) ≡ true
    by (Begin label level read_only) is = absurd (never (is_statement e.call) statement (begin_quiet H e l (ap begins is)))
    by (End k) is = absurd (other (End k) is refl refl)
    by (Fetch k) is = absurd (other (Fetch k) is refl refl)
    by (Close k) is = absurd (other (Close k) is refl refl)
    by Look is = absurd (other Look is refl refl)
    by _ is = ap states is

pub statement_of : (e : Entry) → may_be_carried_out e ≡ true → is_statement e.call ≡ true
statement_of e carried = let h = both (is_statement e.call) (not (is_bad e.answer || is_skip e.answer)) carried in h.0

-- What a server may have carried out was sent by such a call.

stays_stated : (H : List Event) (e : Event) (n : ℕ) → states (work H n) ≡ true → states (work (e ∷ H) n) ≡ true
stays_stated H e n h = ap states (work_stays H e n (states_busy (work H n) h)) ∙ h

pub carried_states : (H : List Event) (n : ℕ) → Lawful H → n ≢ 0 → 1 ≤ carried_out H n → states (work H n) ≡ true
carried_states [] n l some out = absurd (omega (arith, out))
carried_states (Heard e ∷ H) n l some out = by (e.call_no == n) (may_be_carried_out e) refl refl (carried_states H n l.0 some) out
  where
    by : (b c : Bool) → (e.call_no == n) ≡ b → may_be_carried_out e ≡ c → (1 ≤ carried_out H n → states (work H n) ≡ true) → 1 ≤ cond (b && c) (carried_out H n + 1) (carried_out H n) → states (work H n) ≡ true
    by true true mine carried earlier k =
        let number = same_number e.call_no n mine in
        ap (λ m. states (work H m)) (sym number) ∙ statement_states H e l (λ none. some (sym number ∙ none)) (statement_of e carried)
    by true false mine carried earlier k = earlier k
    by false c mine carried earlier k = earlier k
carried_states (Entered client m op ∷ H) n l some out = stays_stated H (Entered client m op) n (carried_states H n l.0 some out)
carried_states (_ ∷ H) n l some out = carried_states H n l.0 some out
