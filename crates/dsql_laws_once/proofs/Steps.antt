-- A statement is sent before the end of a tenure's work, and ends that work if a server may have carried it
-- out.
use Rattle.std.proofs.Common.{◌≡◌, ℕ, Bool, true, false, not, ◌&&◌, ◌||◌, List, Option, Some, None, is_some, refl, sym, ◌∙◌, arith}
use Rattle.dsql_laws_calls.specs.value.declared.value.Param.{Param}
use Rattle.dsql_laws_calls.specs.driver.declared.caps.Caps.{Caps}
use Rattle.dsql_laws_calls.specs.driver.declared.call.DriverCall.{DriverCall}
use Rattle.dsql_laws_calls.specs.driver.declared.call.DriverCall.TheVariants.{Reset, Valid, Ping, Prepare, CloseStmt, Exec, Query, Next, CloseRows}
use Rattle.dsql_laws_calls.specs.driver.declared.call.Input.{Input}
use Rattle.dsql_laws_calls.specs.driver.declared.call.Input.TheVariants.{Text, Handle}
use Rattle.dsql_laws_calls.specs.driver.declared.answer.DriverAnswer.{DriverAnswer}
use Rattle.dsql_laws_calls.specs.driver.declared.answer.DriverAnswer.TheVariants.{Done, Result, Cursor, Skip, Bad, Fail}
use Rattle.dsql_laws_calls.specs.driver.Kinds.{is_bad}
use Rattle.dsql_laws_calls.specs.course.declared.course.Wish.{Wish}
use Rattle.dsql_laws_calls.specs.course.declared.course.Wish.TheVariants as wishes
use Rattle.dsql_laws_calls.specs.course.Made.{Exchange}
use Rattle.dsql_laws_calls.specs.history.declared.reply.Reply.{Reply}
use Rattle.dsql_laws_calls.specs.history.declared.work.Scope.TheVariants.{Db, Held}
use Rattle.dsql_laws_calls.specs.history.declared.work.Work.{Work}
use Rattle.dsql_laws_calls.specs.history.declared.work.Task.TheVariants.{ReadOne, HandOut}
use Rattle.dsql_laws_calls.specs.history.declared.work.Work.TheVariants.{Statement}
use Rattle.dsql_laws_calls.specs.history.Readers.Decisions.{decision, Trying}
use Rattle.dsql_laws_calls.specs.history.Readers.Tries.{is_tried}
use Rattle.dsql_laws_calls.specs.history.Readers.Works.{aim_of, asks}
use Rattle.dsql_laws_calls.proofs.laws_work.CallLines.{Step, Start, WasReset, WasSkipped, WasPrepared, HasRows, HasRead, WasRun, WasDone, step_after, goes, is_before_end, left_of}
use Rattle.dsql_laws_calls.proofs.laws_work.MadeLines.{queries_it, asking}
use Rattle.dsql_laws_calls.proofs.laws_work.HandedLines.{SentAt, opens_rows}
use Rattle.dsql_laws_calls.proofs.Plain.{begins}
use Rattle.dsql_laws_replies.proofs.Decides.{fetch_settles, close_keeps, opened_reads}
use Rattle.dsql_laws_once.specs.Once.{is_statement, is_skip, reads_one}

pub sends_before_end : (s : Step) (q : DriverCall) → goes s q ≡ true → is_statement q ≡ true → is_before_end s ≡ true
sends_before_end Start q g h = refl
sends_before_end WasReset q g h = refl
sends_before_end WasSkipped q g h = refl
sends_before_end (WasPrepared handle) q g h = refl
sends_before_end (HasRows own rows) (Next r) g h = absurd cc
sends_before_end (HasRows own rows) (CloseRows r) g h = absurd cc
sends_before_end (HasRows own rows) _ g h = absurd cc
sends_before_end (HasRead own rows over) (Next r) g h = absurd cc
sends_before_end (HasRead own rows over) (CloseRows r) g h = absurd cc
sends_before_end (HasRead own rows over) _ g h = absurd cc
sends_before_end (WasRun handle) (CloseStmt r) g h = absurd cc
sends_before_end (WasRun handle) _ g h = absurd cc
sends_before_end WasDone Valid g h = absurd cc
sends_before_end WasDone _ g h = absurd cc
sends_before_end _ q g h = absurd cc

-- After a statement was carried out, nothing of the kind is sent.

pub ends_it : (s : Step) (q : DriverCall) (a : DriverAnswer) → (is_statement q && not (is_bad a || is_skip a)) ≡ true → is_before_end (step_after s q a) ≡ false
ends_it s q Bad h = refl
ends_it s Ping a h = refl
ends_it s (Exec (Text text) params) Skip h = absurd cc
ends_it s (Exec (Text text) params) a h = refl
ends_it s (Exec (Handle handle) params) a h = refl
ends_it s (Query (Text text) params) Skip h = absurd cc
ends_it s (Query (Text text) params) (Cursor rows columns) h = refl
ends_it s (Query (Text text) params) a h = refl
ends_it s (Query (Handle handle) params) (Cursor rows columns) h = refl
ends_it s (Query (Handle handle) params) a h = refl
ends_it s _ a h = absurd cc

left_after_end : (own : Option ℕ) → is_before_end (left_of own) ≡ false
left_after_end None = refl
left_after_end (Some handle) = refl

pub stays_ended : (s : Step) (q : DriverCall) (a : DriverAnswer) → goes s q ≡ true → is_before_end s ≡ false → is_before_end (step_after s q a) ≡ false
stays_ended s q Bad g h = refl
stays_ended (HasRows own rows) (Next r) a g h = refl
stays_ended (HasRows own rows) (CloseRows r) a g h = left_after_end own
stays_ended (HasRead own rows false) (Next r) a g h = refl
stays_ended (HasRead own rows over) (CloseRows r) a g h = left_after_end own
stays_ended (WasRun handle) (CloseStmt r) a g h = refl
stays_ended WasDone Valid a g h = refl
stays_ended _ _ a g h = absurd cc

-- What was carried out settles the reply, except the cursor of a call that reads one row.

impossible : false ≡ true → ⊥
impossible h = cc

misfit : (fit memory : Bool) → fit ≡ true → memory ≡ false → fit && not memory ≡ true
misfit fit memory h k = grind (arith, h, k)

handed_decides : (t : Trying) (it : Work) (rows : ℕ) (columns : List (List ℕ)) (q : DriverCall) (d : Option Reply) → asks it ≡ true → reads_one it ≡ false → queries_it (aim_of it) ≡ true → (input : Input) (params : List Param)
    → is_some (decision (record t { work = it }) (Query input params) (Cursor rows columns) d) ≡ true
handed_decides t (Statement s (HandOut label)) rows columns q d own one reads input params = refl
handed_decides t (Statement Db (ReadOne dests)) rows columns q d own one reads input params = absurd cc
handed_decides t (Statement (Held k) (ReadOne dests)) rows columns q d own one reads input params = absurd cc
handed_decides t it rows columns q d own one reads input params = absurd cc

pub carried_decides : (t : Trying) (can : Caps) (text : List ℕ) (params : List Param) (it : Work) (w : Wish) (s : Step) (made : List Exchange) (q : DriverCall) (a : DriverAnswer) (d : Option Reply) → asks it ≡ true → (opens_rows q a ≡ true → reads_one it ≡ false)
    → SentAt can (asking text params (aim_of it)) w s made q a → (is_statement q && not (is_bad a || is_skip a)) ≡ true → is_some (decision (record t { work = it }) q a d) ≡ true
carried_decides t can text params it w s made Ping Done d own one x h = refl
carried_decides t can text params it w s made Ping (Fail why) d own one x h = refl
carried_decides t can text params it w s made Ping Bad d own one x h = absurd cc
carried_decides t can text params it w s made Ping _ d own one x h = absurd (impossible (misfit _ _ x.fit x.heard))
carried_decides t can text params it w s made (Exec (Text u) ps) (Result last affected) d own one x h = refl
carried_decides t can text params it w s made (Exec (Text u) ps) (Fail why) d own one x h = refl
carried_decides t can text params it w s made (Exec (Text u) ps) Bad d own one x h = absurd cc
carried_decides t can text params it w s made (Exec (Text u) ps) Skip d own one x h = absurd cc
carried_decides t can text params it w s made (Exec (Text u) ps) _ d own one x h = absurd (impossible (misfit _ _ x.fit x.heard))
carried_decides t can text params it w s made (Exec (Handle u) ps) (Result last affected) d own one x h = refl
carried_decides t can text params it w s made (Exec (Handle u) ps) (Fail why) d own one x h = refl
carried_decides t can text params it w s made (Exec (Handle u) ps) Bad d own one x h = absurd cc
carried_decides t can text params it w s made (Exec (Handle u) ps) _ d own one x h = absurd (impossible (misfit _ _ x.fit x.heard))
carried_decides t can text params it w s made (Query input ps) (Cursor rows columns) d own one x h =
    handed_decides t it rows columns (Query input ps) d own (one refl) (opened_reads can (asking text params (aim_of it)) s made input ps rows columns x.after) input ps
carried_decides t can text params it w s made (Query input ps) (Fail why) d own one x h = failed it
  where
    failed : (jt : Work) → is_some (decision (record t { work = jt }) (Query input ps) (Fail why) d) ≡ true
    failed (Statement scope (HandOut label)) = refl
    failed jt = refl
carried_decides t can text params it w s made (Query input ps) Bad d own one x h = absurd cc
carried_decides t can text params it w s made (Query (Text u) ps) Skip d own one x h = absurd cc
carried_decides t can text params it w s made (Query (Text u) ps) _ d own one x h = absurd (impossible (misfit _ _ x.fit x.heard))
carried_decides t can text params it w s made (Query (Handle u) ps) _ d own one x h = absurd (impossible (misfit _ _ x.fit x.heard))
carried_decides t can text params it w s made _ a d own one x h = absurd cc

-- What may be sent after that.

abbrev is_late : DriverCall → Bool
is_late (Next rows) = true
is_late (CloseRows rows) = true
is_late (CloseStmt handle) = true
is_late Valid = true
is_late call = false

not_late : (q : DriverCall) → is_late q ≡ false → is_late q ≡ true → ⊥
not_late q early late = let clash : true ≡ false = sym late ∙ early in cc

late_only : (s : Step) (q : DriverCall) → goes s q ≡ true → is_before_end s ≡ false → is_late q ≡ true
late_only (HasRows own rows) (Next r) g h = refl
late_only (HasRows own rows) (CloseRows r) g h = refl
late_only (HasRead own rows over) (Next r) g h = refl
late_only (HasRead own rows over) (CloseRows r) g h = refl
late_only (WasRun handle) (CloseStmt r) g h = refl
late_only WasDone Valid g h = refl
late_only _ _ g h = absurd cc

-- What is sent later leaves the reply settled, except a fetch of a call that reads one row.

pub untried_next : (it : Work) (rows : ℕ) (a : DriverAnswer) → asks it ≡ true → reads_one it ≡ false → (is_tried it (Next rows) && is_bad a) ≡ false
untried_next (Statement Db (ReadOne dests)) rows a own one = absurd cc
untried_next (Statement (Held k) (ReadOne dests)) rows a own one = absurd cc
untried_next it rows a own one = refl

pub stays_decided : (t : Trying) (can : Caps) (text : List ℕ) (params : List Param) (it : Work) (w : Wish) (s : Step) (made : List Exchange) (q : DriverCall) (a : DriverAnswer) (d : Option Reply) → asks it ≡ true → begins it ≡ false
    → ((rows : ℕ) → q ≡ Next rows → (is_tried it (Next rows) && is_bad a) ≡ false) → (w ≡ wishes.Fetch → ⊥) → SentAt can (asking text params (aim_of it)) w s made q a → is_before_end s ≡ false → is_some d ≡ true → is_some (decision (record t { work = it }) q a d) ≡ true
stays_decided t can text params it w s made (Next rows) a d own plain good fetch x over h = fetch_settles t.again t.number can text params it w s made rows a own plain fetch x (good rows refl)
stays_decided t can text params it w s made (CloseRows rows) a d own plain good fetch x over h = close_keeps t.number it a d own h
stays_decided t can text params it w s made (CloseStmt handle) a d own plain good fetch x over h = h
stays_decided t can text params it w s made Valid a d own plain good fetch x over h = h
stays_decided t can text params it w s made Reset a d own plain good fetch x over h = absurd (not_late Reset refl (late_only s Reset x.next over))
stays_decided t can text params it w s made Ping a d own plain good fetch x over h = absurd (not_late Ping refl (late_only s Ping x.next over))
stays_decided t can text params it w s made (Prepare u) a d own plain good fetch x over h = absurd (not_late (Prepare u) refl (late_only s (Prepare u) x.next over))
stays_decided t can text params it w s made (Exec input ps) a d own plain good fetch x over h = absurd (not_late (Exec input ps) refl (late_only s (Exec input ps) x.next over))
stays_decided t can text params it w s made (Query input ps) a d own plain good fetch x over h = absurd (not_late (Query input ps) refl (late_only s (Query input ps) x.next over))
stays_decided t can text params it w s made _ a d own plain good fetch x over h = absurd (impossible x.sent)
