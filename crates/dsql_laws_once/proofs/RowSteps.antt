-- A call that reads one row fetches it next after its query gave a cursor, and fetches nothing later. Each
-- fetch settles the reply, except one that finds the connection bad.
use Rattle.std.proofs.Common.{◌≡◌, ℕ, Bool, true, false, not, ◌&&◌, ◌||◌, List, [], ◌∷◌, Option, Some, None, is_some, refl, arith}
use Rattle.dsql_laws_calls.specs.value.declared.value.Param.{Param}
use Rattle.dsql_laws_calls.specs.driver.declared.caps.Caps.{Caps}
use Rattle.dsql_laws_calls.specs.driver.declared.call.DriverCall.{DriverCall}
use Rattle.dsql_laws_calls.specs.driver.declared.call.DriverCall.TheVariants.{Valid, Ping, CloseStmt, Exec, Query, Next, CloseRows}
use Rattle.dsql_laws_calls.specs.driver.declared.call.Input.TheVariants.{Text, Handle}
use Rattle.dsql_laws_calls.specs.driver.declared.answer.DriverAnswer.{DriverAnswer}
use Rattle.dsql_laws_calls.specs.driver.declared.answer.DriverAnswer.TheVariants.{Cursor, Skip, Bad}
use Rattle.dsql_laws_calls.specs.driver.Kinds.{is_bad, ends_cursor, given_cursor}
use Rattle.dsql_laws_calls.specs.course.declared.course.Wish.{Wish}
use Rattle.dsql_laws_calls.specs.course.declared.course.Wish.TheVariants as wishes
use Rattle.dsql_laws_calls.specs.course.declared.call.Due.TheVariants as due
use Rattle.dsql_laws_calls.specs.course.Made.{Exchange}
use Rattle.dsql_laws_calls.specs.journal.declared.entry.Entry.{Entry}
use Rattle.dsql_laws_calls.specs.works.declared.work.Aim.{Aim}
use Rattle.dsql_laws_calls.specs.works.declared.work.Aim.TheVariants as aims
use Rattle.dsql_laws_calls.specs.works.Line.{body_after, line_after, is_due_in_line}
use Rattle.dsql_laws_calls.specs.works.Exchanges.{exchanges, step_of, with_exchange}
use Rattle.dsql_laws_calls.proofs.laws_work.CallLines.{Step, HasRows, HasRead, WasRun, WasDone, step, step_after, read_after, goes, is_before_end, left_of}
use Rattle.dsql_laws_calls.proofs.laws_work.MadeLines.{MadeAt, MadeRows, asking}
use Rattle.dsql_laws_calls.proofs.laws_work.HandedLines.{SentAt, opens_rows}
use Rattle.dsql_laws_calls.proofs.laws_work.Lines.{body_due}
use Rattle.dsql_laws_replies.proofs.Awaited.{awaits_after}
use Rattle.dsql_laws_calls.specs.history.declared.reply.Reply.{Reply}
use Rattle.dsql_laws_calls.specs.history.declared.work.Scope.TheVariants.{Db}
use Rattle.dsql_laws_calls.specs.history.declared.work.Work.{Work}
use Rattle.dsql_laws_calls.specs.history.declared.work.Task.TheVariants.{ReadOne}
use Rattle.dsql_laws_calls.specs.history.declared.work.Work.TheVariants.{Statement}
use Rattle.dsql_laws_calls.specs.history.Readers.Decisions.{decision, Trying}
use Rattle.dsql_laws_calls.specs.history.Readers.Tries.{is_tried}
use Rattle.dsql_laws_calls.specs.history.Readers.Works.{aim_of, asks}
use Rattle.dsql_laws_calls.proofs.Plain.{begins}
use Rattle.dsql_laws_replies.proofs.Decides.{fetch_settles}
use Rattle.dsql_laws_once.specs.Once.{is_statement, is_skip, reads_one}
use Rattle.dsql_laws_once.specs.Counted.{is_query, fetches_from}

-- What the work of a call that reads one row on the database is.

pub one_asks : (it : Work) → reads_one it ≡ true → asks it ≡ true
one_asks (Statement Db (ReadOne dests)) one = refl
one_asks it one = absurd cc

pub one_plain : (it : Work) → reads_one it ≡ true → begins it ≡ false
one_plain (Statement Db (ReadOne dests)) one = refl
one_plain it one = absurd cc

pub one_aim : (it : Work) → reads_one it ≡ true → aim_of it ≡ aims.ReadOne
one_aim (Statement Db (ReadOne dests)) one = refl
one_aim it one = absurd cc

-- Is true if the call may still send its `Prepare` or the fetch of its row.
abbrev pub is_before_row : Step → Bool
is_before_row (HasRows own rows) = true
is_before_row s = is_before_end s

pub row_end : (s : Step) → is_before_row s ≡ false → is_before_end s ≡ false
row_end (HasRows own rows) h = refl
row_end s h = h

left_after_row : (own : Option ℕ) → is_before_row (left_of own) ≡ false
left_after_row None = refl
left_after_row (Some handle) = refl

-- After the row was fetched, this stays so.

pub stays_read : (s : Step) (q : DriverCall) (a : DriverAnswer) → goes s q ≡ true → is_before_row s ≡ false → is_before_row (step_after s q a) ≡ false
stays_read s q Bad g h = refl
stays_read (HasRead own rows false) (Next r) a g h = refl
stays_read (HasRead own rows over) (CloseRows r) a g h = left_after_row own
stays_read (WasRun handle) (CloseStmt r) a g h = refl
stays_read WasDone Valid a g h = refl
stays_read _ _ a g h = absurd cc

read_past : (s : Step) (over : Bool) → is_before_row (read_after s over) ≡ false
read_past (HasRows own rows) over = refl
read_past (HasRead own rows false) over = refl
read_past _ over = refl

pub fetched_past : (cursor : Option ℕ) (s : Step) (q : DriverCall) (a : DriverAnswer) → fetches_from cursor q ≡ true → is_before_row (step_after s q a) ≡ false
fetched_past cursor s (Next rows) Bad h = refl
fetched_past cursor s (Next rows) a h = read_past s (ends_cursor a)
fetched_past cursor s q a h = absurd cc

-- After a query that gave no cursor, no further `Prepare` or fetch is sent.
pub ends_row : (s : Step) (q : DriverCall) (a : DriverAnswer) → (is_statement q && not (is_bad a || is_skip a)) ≡ true → opens_rows q a ≡ false → is_before_row (step_after s q a) ≡ false
ends_row s q Bad h o = refl
ends_row s Ping a h o = refl
ends_row s (Exec (Text text) params) Skip h o = absurd cc
ends_row s (Exec (Text text) params) a h o = refl
ends_row s (Exec (Handle handle) params) a h o = refl
ends_row s (Query (Text text) params) Skip h o = absurd cc
ends_row s (Query (Text text) params) (Cursor rows columns) h o = absurd cc
ends_row s (Query (Text text) params) a h o = refl
ends_row s (Query (Handle handle) params) (Cursor rows columns) h o = absurd cc
ends_row s (Query (Handle handle) params) a h o = refl
ends_row s _ a h o = absurd cc

-- What follows if the query gave a cursor.

pub opened_end : (s : Step) (q : DriverCall) (a : DriverAnswer) → opens_rows q a ≡ true → is_before_end (step_after s q a) ≡ false
opened_end s (Query (Text text) params) (Cursor rows columns) o = refl
opened_end s (Query (Handle handle) params) (Cursor rows columns) o = refl
opened_end s q a o = absurd cc

pub opened_awaits : (q : DriverCall) (a : DriverAnswer) (count : ℕ) → opens_rows q a ≡ true → awaits_after true q a count ≡ true
opened_awaits (Query (Text text) params) (Cursor rows columns) count o = refl
opened_awaits (Query (Handle handle) params) (Cursor rows columns) count o = refl
opened_awaits q a count o = absurd cc

pub opened_query : (q : DriverCall) (a : DriverAnswer) → opens_rows q a ≡ true → is_query q ≡ true
opened_query (Query input params) a o = refl
opened_query q a o = absurd cc

-- A fetch from that cursor is next.

of_next : (rows : ℕ) (q : DriverCall) → is_due_in_line (Some (Next rows)) q ≡ true → fetches_from (Some rows) q ≡ true
of_next rows (Next other) d = d
of_next rows q d = absurd cc

opened_body : (can : Caps) (text : List ℕ) (params : List Param) (w : Wish) (own : Option ℕ) (rows : ℕ) (made : List Exchange) (q : DriverCall) → MadeRows can (asking text params aims.ReadOne) own rows false (due.Next rows) made
    → is_due_in_line (body_after can false (asking text params aims.ReadOne) w made) q ≡ true → fetches_from (Some rows) q ≡ true
opened_body can text params w own rows made q m d = of_next rows q (rw m.sends at d)

opened_after : (can : Caps) (text : List ℕ) (params : List Param) (w : Wish) (s : Step) (p : DriverCall) (a : DriverAnswer) (made : List Exchange) (q : DriverCall) → opens_rows p a ≡ true
    → MadeAt can (asking text params aims.ReadOne) (step_after s p a) (with_exchange (step_of p) a made) → is_due_in_line (body_after can false (asking text params aims.ReadOne) w (with_exchange (step_of p) a made)) q ≡ true
    → fetches_from (given_cursor a) q ≡ true
opened_after can text params w s (Query (Text t) ps) (Cursor rows columns) made q o m d = opened_body can text params w None rows (with_exchange (step_of (Query (Text t) ps)) (Cursor rows columns) made) q m d
opened_after can text params w s (Query (Handle h) ps) (Cursor rows columns) made q o m d = opened_body can text params w (Some h) rows (with_exchange (step_of (Query (Handle h) ps)) (Cursor rows columns) made) q m d
opened_after can text params w s p a made q o m d = absurd cc

pub fetched_next : (can : Caps) (reset : Bool) (text : List ℕ) (params : List Param) (aim : Aim) (w : Wish) (p : Entry) (earlier : List Entry) (q : DriverCall) → aim ≡ aims.ReadOne → opens_rows p.call p.answer ≡ true
    → MadeAt can (asking text params aim) (step (p ∷ earlier)) (exchanges (p ∷ earlier)) → is_due_in_line (line_after can reset (asking text params aim) w (p ∷ earlier)) q ≡ true → fetches_from (given_cursor p.answer) q ≡ true
fetched_next can reset text params aims.ReadOne w p earlier q one o m d =
    let b = body_due can reset (asking text params aims.ReadOne) w p earlier q d in
    opened_after can text params w (step earlier) p.call p.answer (exchanges earlier) q o m b.1
fetched_next can reset text params aim w p earlier q one o m d = absurd cc

-- No fetch follows after that.

fetching_body : (can : Caps) (text : List ℕ) (params : List Param) (w : Wish) (s : Step) (made : List Exchange) (rows : ℕ) → MadeAt can (asking text params aims.ReadOne) s made → goes s (Next rows) ≡ true
    → is_due_in_line (body_after can false (asking text params aims.ReadOne) w made) (Next rows) ≡ true → is_before_row s ≡ true
fetching_body can text params w (HasRows own cursor) made rows m g d = refl
fetching_body can text params w (HasRead own cursor false) made rows m g d = let k = rw m.sends at d in absurd cc
fetching_body can text params w (HasRead own cursor true) made rows m g d = absurd cc
fetching_body can text params w _ made rows m g d = absurd cc

pub fetching : (can : Caps) (reset : Bool) (text : List ℕ) (params : List Param) (aim : Aim) (w : Wish) (L : List Entry) (rows : ℕ) → aim ≡ aims.ReadOne → MadeAt can (asking text params aim) (step L) (exchanges L)
    → goes (step L) (Next rows) ≡ true → is_due_in_line (line_after can reset (asking text params aim) w L) (Next rows) ≡ true → is_before_row (step L) ≡ true
fetching can reset text params aims.ReadOne w [] rows one m g d = absurd cc
fetching can reset text params aims.ReadOne w (e ∷ earlier) rows one m g d =
    let b = body_due can reset (asking text params aims.ReadOne) w e earlier (Next rows) d in
    fetching_body can text params w (step (e ∷ earlier)) (exchanges (e ∷ earlier)) rows m g b.1
fetching can reset text params aim w L rows one m g d = absurd cc

-- A fetch settles the reply unless it finds the connection bad.

unlost : (b c : Bool) → c ≡ false → (b && c) ≡ false
unlost b c h = grind (arith, h)

pub fetch_decides : (cursor : Option ℕ) (t : Trying) (can : Caps) (text : List ℕ) (params : List Param) (it : Work) (w : Wish) (s : Step) (made : List Exchange) (q : DriverCall) (a : DriverAnswer) (d : Option Reply) → asks it ≡ true → begins it ≡ false
    → (w ≡ wishes.Fetch → ⊥) → SentAt can (asking text params (aim_of it)) w s made q a → fetches_from cursor q ≡ true → is_bad a ≡ false → is_some (decision (record t { work = it }) q a d) ≡ true
fetch_decides cursor t can text params it w s made (Next rows) a d own plain fetch x from good = fetch_settles t.again t.number can text params it w s made rows a own plain fetch x (unlost (is_tried it (Next rows)) (is_bad a) good)
fetch_decides cursor t can text params it w s made q a d own plain fetch x from good = absurd cc
