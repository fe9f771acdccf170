-- What an answer decides for a call that asks for a connection and begins no transaction: its reply is settled,
-- or another answer decides.
use Rattle.std.proofs.Common.{◌≡◌, ℕ, ℤ, pos, negsuc, ◌==◌, min, Bool, true, false, not, ◌&&◌, ◌||◌, cond, List, length, Option, Some, None, is_none, is_some, refl, ap, ◌∙◌}
use Rattle.std.proofs.lemmas.Bool.{or_left, or_right}
use native.Mathlib.Omega.{arith}
use Rattle.dsql_laws_calls.specs.value.declared.value.Param.{Param}
use Rattle.dsql_laws_calls.specs.value.declared.arg.ArgFault.TheVariants.{NumArgs}
use Rattle.dsql_laws_calls.specs.value.Arguments.{count_fault, largest_count}
use Rattle.dsql_laws_calls.specs.driver.Kinds.{is_bad}
use Rattle.dsql_laws_calls.specs.driver.Fits.{fits_of, is_memory}
use Rattle.dsql_laws_calls.specs.driver.declared.caps.Caps.{Caps}
use Rattle.dsql_laws_calls.specs.driver.declared.call.DriverCall.{DriverCall}
use Rattle.dsql_laws_calls.specs.driver.declared.call.DriverCall.TheVariants.{Reset, Valid, Ping, Prepare, Exec, Query, Next, CloseRows, CloseStmt}
use Rattle.dsql_laws_calls.specs.driver.declared.call.Input.{Input}
use Rattle.dsql_laws_calls.specs.driver.declared.call.Input.TheVariants.{Text, Handle}
use Rattle.dsql_laws_calls.specs.driver.declared.answer.DriverAnswer.{DriverAnswer}
use Rattle.dsql_laws_calls.specs.driver.declared.answer.DriverAnswer.TheVariants.{Done, Prepared, Result, Cursor, Row, End, Skip, Bad, Fail}
use Rattle.dsql_laws_calls.specs.scan.declared.dest.Dest.{Dest}
use Rattle.dsql_laws_calls.specs.course.declared.course.Wish.{Wish}
use Rattle.dsql_laws_calls.specs.course.declared.course.Wish.TheVariants as wishes
use Rattle.dsql_laws_calls.specs.course.Made.{Exchange, own_cursor}
use Rattle.dsql_laws_calls.specs.journal.declared.entry.Entry.{Entry}
use Rattle.dsql_laws_calls.specs.works.declared.work.Aim.TheVariants as aims
use Rattle.dsql_laws_calls.specs.history.declared.work.Scope.TheVariants.{Db}
use Rattle.dsql_laws_calls.specs.history.declared.work.Work.{Work}
use Rattle.dsql_laws_calls.specs.history.declared.work.Task.TheVariants.{Execute, ReadOne, HandOut}
use Rattle.dsql_laws_calls.specs.history.declared.work.Work.TheVariants.{Statement, Ping as Pings, Close}
use Rattle.dsql_laws_calls.specs.history.Readers.Works.{asks, aim_of}
use Rattle.dsql_laws_calls.specs.works.Exchanges.{exchanges, step_of, with_exchange}
use Rattle.dsql_laws_calls.specs.works.Line.{Asked, is_due_in_line, line_after}
use Rattle.dsql_laws_calls.specs.history.declared.reply.Reply.{Reply}
use Rattle.dsql_laws_calls.specs.history.declared.reply.Reply.TheVariants.{Cells}
use Rattle.dsql_laws_calls.specs.history.Readers.Tries.{is_tried}
use Rattle.dsql_laws_calls.specs.history.Readers.Decisions.{decision, fetch_decision, query_decision, close_decision, closing_decision, reply_to, told_of, Trying}
use Rattle.dsql_laws_calls.proofs.Plain.{begins}
use Rattle.dsql_laws_calls.proofs.laws_work.Rows.{same_number}
use Rattle.dsql_laws_calls.proofs.laws_work.CallLines.{Step, HasRows, HasRead, step, step_after, goes}
use Rattle.dsql_laws_calls.proofs.laws_work.MadeLines.{MadeAt, queries_it, asking}
use Rattle.dsql_laws_calls.proofs.laws_work.HandedLines.{SentAt}
use Rattle.dsql_laws_calls.proofs.Looks.{told_any}
use Rattle.dsql_laws_replies.proofs.Awaited.{is_one, needs_answer, awaits, awaits_after, none_awaited, testing, freeing, closing_awaits}

impossible : false ≡ true → ⊥
impossible h = cc

first_only : (a b : Bool) → a || b ≡ true → b ≡ false → a ≡ true
first_only a b h k = grind (arith, h, k)

-- A number of inputs that is refused gives a reply.
counted : (inputs : ℤ) (count : ℕ) → is_some (told_of (count_fault inputs count)) || is_none (count_fault inputs count) ≡ true
counted (negsuc n) count = refl
counted (pos want) count = by_test (want == count)
  where
    by_test : (b : Bool) → is_some (told_of (cond b None (Some (NumArgs want (min count largest_count))))) || is_none (cond b None (Some (NumArgs want (min count largest_count)))) ≡ true
    by_test true = refl
    by_test false = refl

-- The answer to a fetch decides.
row_decides : (again : Bool) (number : ℕ) (dests : List Dest) (rows : ℕ) (a : DriverAnswer) → fits_of (Next rows) a ≡ true → is_memory a ≡ false → is_bad a ≡ false → is_some (fetch_decision again number (Statement Db (ReadOne dests)) a) ≡ true
row_decides again number dests rows (Row values) fit heard good = told_any values dests
row_decides again number dests rows End fit heard good = refl
row_decides again number dests rows Bad fit heard good = absurd cc
row_decides again number dests rows (Fail why) fit heard good = refl
row_decides again number dests rows _ fit heard good = absurd cc

-- What is decided stays decided as the rows are closed.

pub closing_decides : (number : ℕ) (a : DriverAnswer) (d : Option Reply) → is_some d ≡ true → is_some (closing_decision number a d) ≡ true
closing_decides number a None h = absurd cc
closing_decides number (Fail why) (Some (Cells cells)) h = refl
closing_decides number Bad (Some (Cells cells)) h = refl
closing_decides number a (Some reply) h = refl

pub close_keeps : (number : ℕ) (it : Work) (a : DriverAnswer) (d : Option Reply) → asks it ≡ true → is_some d ≡ true → is_some (close_decision number it a d) ≡ true
close_keeps number (Close k) a d own h = absurd cc
close_keeps number it a d own h = closing_decides number a d h

-- An answer that decides for any call also decides for a query.
query_decides : (again : Bool) (number : ℕ) (it : Work) (a : DriverAnswer) → is_some (reply_to again number a) ≡ true → is_some (query_decision again number it a) ≡ true
query_decides again number (Statement it (HandOut label)) (Cursor rows columns) h = refl
query_decides again number (Statement it (HandOut label)) a h = h
query_decides again number it a h = h

misfit : (fit memory : Bool) → fit ≡ true → memory ≡ false → fit && not memory ≡ true
misfit fit memory h k = grind (arith, h, k)

-- A call that fetches a row in its own line reads one row itself. A call that hands out rows wants none of them
-- itself.

cursor_at : (can : Caps) (asked : Asked) (s : Step) (made : List Exchange) (rows : ℕ) → goes s (Next rows) ≡ true → MadeAt can asked s made → (queries_it asked.aim ≡ true) × (own_cursor made ≡ Some rows)
cursor_at can asked (HasRows own cursor) made rows g m = (m.reads, m.cursor ∙ ap Some (same_number cursor rows g))
cursor_at can asked (HasRead own cursor false) made rows g m = (m.reads, m.cursor ∙ ap Some (same_number cursor rows g))
cursor_at can asked (HasRead own cursor true) made rows g m = absurd cc
cursor_at can asked _ made rows g m = absurd cc

pub fetch_settles : (again : Bool) (number : ℕ) (can : Caps) (text : List ℕ) (params : List Param) (it : Work) (w : Wish) (s : Step) (made : List Exchange) (rows : ℕ) (a : DriverAnswer) → asks it ≡ true → begins it ≡ false → (w ≡ wishes.Fetch → ⊥)
    → SentAt can (asking text params (aim_of it)) w s made (Next rows) a → (is_tried it (Next rows) && is_bad a) ≡ false → is_some (fetch_decision again number it a) ≡ true
fetch_settles again number can text params (Statement Db (ReadOne dests)) w s made rows a own plain fetch x good = row_decides again number dests rows a x.fit x.heard good
fetch_settles again number can text params (Statement Db (HandOut label)) w s made rows a own plain fetch x good =
    let c = cursor_at can (asking text params aims.HandOut) s made rows x.next x.before in
    let over = x.over rows c.1 in
    absurd (fetch over.0)
fetch_settles again number can text params (Statement Db Execute) w s made rows a own plain fetch x good = let c = cursor_at can (asking text params aims.Execute) s made rows x.next x.before in absurd (impossible c.0)
fetch_settles again number can text params Pings w s made rows a own plain fetch x good = let c = cursor_at can (asking text params aims.Ping) s made rows x.next x.before in absurd (impossible c.0)
fetch_settles again number can text params it w s made rows a own plain fetch x good = absurd cc

-- The run of a query gives a cursor. That decides for a call that hands out rows; a call that reads one row
-- awaits the row.

pub opened_reads : (can : Caps) (asked : Asked) (s : Step) (made : List Exchange) (input : Input) (ps : List Param) (rows : ℕ) (columns : List (List ℕ))
    → MadeAt can asked (step_after s (Query input ps) (Cursor rows columns)) (with_exchange (step_of (Query input ps)) (Cursor rows columns) made) → queries_it asked.aim ≡ true
opened_reads can asked s made (Text t) ps rows columns m = m.reads
opened_reads can asked s made (Handle handle) ps rows columns m = m.reads

cursor_settles : (again : Bool) (number : ℕ) (it : Work) (rows : ℕ) (columns : List (List ℕ)) → asks it ≡ true → queries_it (aim_of it) ≡ true
    → is_some (query_decision again number it (Cursor rows columns)) || is_one (aim_of it) ≡ true
cursor_settles again number (Statement Db (HandOut label)) rows columns own reads = refl
cursor_settles again number (Statement Db (ReadOne dests)) rows columns own reads = refl
cursor_settles again number it rows columns own reads = absurd cc

-- After the answer to a driver call that is due, the reply is settled, or another answer decides.
pub settled_on : (t : Trying) (can : Caps) (reset : Bool) (text : List ℕ) (params : List Param) (it : Work) (w : Wish) (L : List Entry) (q : DriverCall) (a : DriverAnswer) (d : Option Reply) → asks it ≡ true → begins it ≡ false
    → needs_answer can (aim_of it) ≡ true → (w ≡ wishes.Fetch → ⊥) → SentAt can (asking text params (aim_of it)) w (step L) (exchanges L) q a → is_due_in_line (line_after can reset (asking text params (aim_of it)) w L) q ≡ true
    → is_some d || awaits (is_one (aim_of it)) L (length params) ≡ true → (is_tried it q && is_bad a) ≡ false → is_some (decision (record t { count = length params; work = it }) q a d) || awaits_after (is_one (aim_of it)) q a (length params) ≡ true
settled_on t can reset text params it w L Reset Bad d own plain needs fetch x k before good = absurd cc
settled_on t can reset text params it w L Reset a d own plain needs fetch x k before good = or_right _ _ refl
settled_on t can reset text params it w L Ping Done d own plain needs fetch x k before good = refl
settled_on t can reset text params it w L Ping Bad d own plain needs fetch x k before good = refl
settled_on t can reset text params it w L Ping (Fail why) d own plain needs fetch x k before good = refl
settled_on t can reset text params it w L Ping _ d own plain needs fetch x k before good = absurd (impossible (misfit _ _ x.fit x.heard))
settled_on t can reset text params it w L (Exec (Text u) ps) (Result last affected) d own plain needs fetch x k before good = refl
settled_on t can reset text params it w L (Exec (Text u) ps) Skip d own plain needs fetch x k before good = refl
settled_on t can reset text params it w L (Exec (Text u) ps) Bad d own plain needs fetch x k before good = absurd cc
settled_on t can reset text params it w L (Exec (Text u) ps) (Fail why) d own plain needs fetch x k before good = refl
settled_on t can reset text params it w L (Exec (Text u) ps) _ d own plain needs fetch x k before good = absurd (impossible (misfit _ _ x.fit x.heard))
settled_on t can reset text params it w L (Exec (Handle h) ps) (Result last affected) d own plain needs fetch x k before good = refl
settled_on t can reset text params it w L (Exec (Handle h) ps) Bad d own plain needs fetch x k before good = absurd cc
settled_on t can reset text params it w L (Exec (Handle h) ps) (Fail why) d own plain needs fetch x k before good = refl
settled_on t can reset text params it w L (Exec (Handle h) ps) _ d own plain needs fetch x k before good = absurd (impossible (misfit _ _ x.fit x.heard))
settled_on t can reset text params it w L (Query input ps) (Cursor rows columns) d own plain needs fetch x k before good =
    cursor_settles t.again t.number it rows columns own (opened_reads can (asking text params (aim_of it)) (step L) (exchanges L) input ps rows columns x.after)
settled_on t can reset text params it w L (Query (Text u) ps) Skip d own plain needs fetch x k before good = or_right _ _ refl
settled_on t can reset text params it w L (Query input ps) Bad d own plain needs fetch x k before good = absurd cc
settled_on t can reset text params it w L (Query input ps) (Fail why) d own plain needs fetch x k before good = or_left _ _ (query_decides t.again t.number it (Fail why) refl)
settled_on t can reset text params it w L (Query (Text u) ps) _ d own plain needs fetch x k before good = absurd (impossible (misfit _ _ x.fit x.heard))
settled_on t can reset text params it w L (Query (Handle h) ps) _ d own plain needs fetch x k before good = absurd (impossible (misfit _ _ x.fit x.heard))
settled_on t can reset text params it w L (Prepare u) (Prepared handle inputs) d own plain needs fetch x k before good = counted inputs (length params)
settled_on t can reset text params it w L (Prepare u) Bad d own plain needs fetch x k before good = absurd cc
settled_on t can reset text params it w L (Prepare u) (Fail why) d own plain needs fetch x k before good = refl
settled_on t can reset text params it w L (Prepare u) _ d own plain needs fetch x k before good = absurd (impossible (misfit _ _ x.fit x.heard))
settled_on t can reset text params it w L (Next rows) a d own plain needs fetch x k before good = or_left _ _ (fetch_settles t.again t.number can text params it w (step L) (exchanges L) rows a own plain fetch x good)
settled_on t can reset text params it w L (CloseRows rows) a d own plain needs fetch x k before good =
    or_left _ _ (close_keeps t.number it a d own
    (first_only (is_some d) (awaits (is_one (aim_of it)) L (length params)) before
    (none_awaited (is_one (aim_of it)) L (length params) (freeing can reset (asking text params (aim_of it)) w L rows x.before x.next k))))
settled_on t can reset text params it w L (CloseStmt h) a d own plain needs fetch x k before good =
    or_left _ _ (first_only (is_some d) (awaits (is_one (aim_of it)) L (length params)) before
    (closing_awaits can reset (asking text params (aim_of it)) w (is_one (aim_of it)) L h x.before x.next k))
settled_on t can reset text params it w L Valid a d own plain needs fetch x k before good =
    or_left _ _ (first_only (is_some d) (awaits (is_one (aim_of it)) L (length params)) before
    (none_awaited (is_one (aim_of it)) L (length params) (testing can reset (asking text params (aim_of it)) w L x.before needs x.next k)))
settled_on t can reset text params it w L q a d own plain needs fetch x k before good = absurd (impossible x.sent)
