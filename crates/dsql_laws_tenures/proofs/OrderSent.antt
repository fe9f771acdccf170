-- If each exchange of a line was due when it was sent, the line is in order, and opens rows once.
use Rattle.std.proofs.Common.{◌≡◌, ℕ, Bool, true, false, not, ◌&&◌, List, [], ◌∷◌, length, Option, None, Some, refl, subst, ◌||◌, nat_lt}
use Rattle.std.specs.Prelude.{is_some}
use Rattle.std.specs.List.{list_any, list_all}
use Rattle.dsql_history.specs.value.declared.value.Param.{Param}
use Rattle.dsql_history.specs.driver.declared.caps.Caps.{Caps}
use Rattle.dsql_history.specs.driver.declared.answer.DriverAnswer.{DriverAnswer}
use Rattle.dsql_history.specs.driver.declared.call.DriverCall.{DriverCall}
use Rattle.dsql_history.specs.driver.Fits.{fits_of, is_memory}
use Rattle.dsql_history.specs.course.declared.course.Course.{Course}
use Rattle.dsql_history.specs.course.declared.course.Course.TheVariants as courses
use Rattle.dsql_history.specs.course.declared.course.Wish.{Wish}
use Rattle.dsql_history.specs.course.declared.course.Wish.TheVariants as wishes
use Rattle.dsql_history.specs.course.declared.call.Due.{Due}
use Rattle.dsql_history.specs.course.declared.call.Due.TheVariants as due
use Rattle.dsql_history.specs.course.Made.{Exchange, own_cursor, rows_are_over}
use Rattle.dsql_history.specs.course.Line.{comes_next, may_get}
use Rattle.dsql_history.specs.course.Rows.{no_more_wanted, closing_of, rows_next_if, rows_next_of}
use Rattle.dsql_history.specs.journal.Kinds.{◌⇒◌}
use Rattle.dsql_history.proofs.journal.Conjunctions.{if_so, so_if, parts2, join2}
use Rattle.dsql_history.specs.works.declared.work.Aim.{Aim}
use Rattle.dsql_history.specs.works.declared.work.Aim.TheVariants as aims
use Rattle.dsql_history.specs.works.Exchanges.{got_of, step_of, with_exchange}
use Rattle.dsql_history.specs.works.Line.{Asked, course_of, sent_as, sent_over, found, body_with, body_after}
use Rattle.dsql_history.specs.Rules.Line.{is_due}
use Rattle.dsql_history.specs.Rules.Sent.{untested}
use Rattle.dsql_laws_tenures.specs.Orderly.{asks_text, is_in_order, opens_once, prepares_once, gives_handle, closes_stmt, place, is_fetch}
use Rattle.dsql_laws_tenures.specs.Sent.{WasSent}
use Rattle.dsql_laws_tenures.proofs.Numbers.{impossible, true_false, neither_of}
use Rattle.dsql_laws_tenures.proofs.Steps.{TextCourse}
use Rattle.dsql_laws_tenures.proofs.Orders.{is_prepare, is_free, Orderly, orderly_first, next_behind}
use Rattle.dsql_laws_tenures.proofs.OrderSteps.{Fresh, orderly_more}
use Rattle.dsql_laws_tenures.proofs.OrderNext.{fresh_next}
use Rattle.dsql_laws_tenures.proofs.OrderDue.{Tidy, comes_fresh, one_is_tidy}
use Rattle.dsql_laws_tenures.proofs.CallAnswers.{asking, IsCall, call_is}

-- A line stays orderly with a driver call that was due.
with_call : (c : Course) (can : Caps) (made : List Exchange) (d : Due) (q : DriverCall) (a : DriverAnswer) → Orderly c can made → IsCall c d q a → (may_get c d (got_of a) ≡ true → Fresh c can made d (got_of a))
    → Orderly c can (with_exchange (step_of q) a made)
with_call c can made d q a o is fresh = rw is.step (orderly_more c can made d (got_of a) o (fresh is.may))

-- This holds for what a course sends that isn't handing out rows.
course_sends : (can : Caps) (text : List ℕ) (params : List Param) (aim : Aim) (bad : Bool) (made : List Exchange) (q : DriverCall) (a : DriverAnswer) → asks_text aim ≡ true → TextCourse (course_of aim)
    → Orderly (course_of aim) (untested can) made → fits_of q a && not (is_memory a) ≡ true
    → Tidy made (comes_next (course_of aim) (untested can) (length params) (found bad) made)
    → is_due (sent_as (untested can) (asking text params aim) (comes_next (course_of aim) (untested can) (length params) (found bad) made)) q ≡ true
    → Orderly (course_of aim) (untested can) (with_exchange (step_of q) a made)
course_sends can text params aim bad made q a it tc o fit tidy h =
    with_call (course_of aim) (untested can) made (comes_next (course_of aim) (untested can) (length params) (found bad) made) q a o
    (call_is can text params aim (comes_next (course_of aim) (untested can) (length params) (found bad) made) q a it fit h)
    (λ may. comes_fresh (course_of aim) (course_of aim) (untested can) (length params) (found bad) made (got_of a) tc refl o may tidy)

-- If there is no cursor, nothing has to be closed before a handle is.
no_cursor : (made : List Exchange) (d : Due) → own_cursor made ≡ None → Tidy made d
no_cursor made d none free some = absurd (impossible (rw none at some))

exec_tidy : (can : Caps) (made : List Exchange) (d : Due) → Orderly courses.Exec can made → Tidy made d
exec_tidy can made d o free some = absurd (impossible (if_so (is_some (own_cursor made)) false o.reads some))

not_both : (b over : Bool) → true && b ⇒ over ≡ true → over ≡ false → b ≡ false
not_both true over h k = absurd (true_false over h k)
not_both false over h k = refl

-- This holds for what is sent over rows that are handed out.
rows_send : (can : Caps) (text : List ℕ) (params : List Param) (bad : Bool) (wish : Wish) (rows : ℕ) (made : List Exchange) (d : Due) (q : DriverCall) (a : DriverAnswer) → own_cursor made ≡ Some rows
    → Orderly courses.Query (untested can) made → rows_next_of courses.Query bad wish (untested can) (length params) made rows ≡ Some d
    → fits_of q a && not (is_memory a) ≡ true → is_due (sent_as (untested can) (asking text params aims.HandOut) d) q ≡ true → Orderly courses.Query (untested can) (with_exchange (step_of q) a made)
rows_send can text params bad wish rows made d q a own o is fit h =
    with_call courses.Query (untested can) made d q a o (call_is can text params aims.HandOut d q a refl fit h) (by_over (rows_are_over made) wish refl is)
  where
    none_free : rows_are_over made ≡ false → list_any (λ y. is_free y.0) made ≡ false
    none_free open_rows = not_both (list_any (λ y. is_free y.0) made) (rows_are_over made) (rw own at o.closed) open_rows

    closes : closing_of courses.Query bad (untested can) (length params) made ≡ d → may_get courses.Query d (got_of a) ≡ true → Fresh courses.Query (untested can) made d (got_of a)
    closes same =
        subst (λ (x : Due). may_get courses.Query x (got_of a) ≡ true → Fresh courses.Query (untested can) made x (got_of a)) same
        (λ may. comes_fresh courses.One courses.Query (untested can) (length params) (no_more_wanted bad) made (got_of a) tt refl o may (one_is_tidy (untested can) (length params) (no_more_wanted bad) made))

    by_over : (b : Bool) (w : Wish) → rows_are_over made ≡ b → rows_next_if b w (closing_of courses.Query bad (untested can) (length params) made) rows ≡ Some d
        → may_get courses.Query d (got_of a) ≡ true → Fresh courses.Query (untested can) made d (got_of a)
    by_over true w over k = closes cc
    by_over false wishes.Close over k = closes cc
    by_over false wishes.Fetch over k =
        let same : due.Next rows ≡ d = cc in
        subst (λ (x : Due). may_get courses.Query x (got_of a) ≡ true → Fresh courses.Query (untested can) made x (got_of a)) same
        (λ may. fresh_next courses.Query (untested can) rows made (got_of a) (next_behind rows made over (none_free over)) (none_free over) may)
    by_over false wishes.Nothing over k = absurd cc

handed_sends : (can : Caps) (text : List ℕ) (params : List Param) (bad : Bool) (wish : Wish) (made : List Exchange) (q : DriverCall) (a : DriverAnswer) (own : Option ℕ) → own_cursor made ≡ own
    → Orderly courses.Query (untested can) made → fits_of q a && not (is_memory a) ≡ true → is_due (body_with (untested can) bad (asking text params aims.HandOut) wish made own) q ≡ true
    → Orderly courses.Query (untested can) (with_exchange (step_of q) a made)
handed_sends can text params bad wish made q a None own o fit h =
    course_sends can text params aims.HandOut bad made q a refl tt o fit (no_cursor made (comes_next courses.Query (untested can) (length params) (found bad) made) own) h
handed_sends can text params bad wish made q a (Some rows) own o fit h = by_due (rows_next_of courses.Query bad wish (untested can) (length params) made rows) refl h
  where
    by_due : (d : Option Due) → rows_next_of courses.Query bad wish (untested can) (length params) made rows ≡ d → is_due (sent_over (untested can) (asking text params aims.HandOut) d) q ≡ true
        → Orderly courses.Query (untested can) (with_exchange (step_of q) a made)
    by_due None is k = absurd (impossible k)
    by_due (Some d) is k = rows_send can text params bad wish rows made d q a own o is fit k

-- A driver call that was due keeps what is known of the line.
pub due_orderly : (can : Caps) (asked : Asked) (bad : Bool) (wish : Wish) (made : List Exchange) (q : DriverCall) (a : DriverAnswer) → asks_text asked.aim ≡ true
    → Orderly (course_of asked.aim) (untested can) made → fits_of q a && not (is_memory a) ≡ true → is_due (body_after (untested can) bad asked wish made) q ≡ true
    → Orderly (course_of asked.aim) (untested can) (with_exchange (step_of q) a made)
due_orderly can asked bad wish made q a it o fit h = by_aim asked.aim it o h
  where
    by_aim : (x : Aim) → asks_text x ≡ true → Orderly (course_of x) (untested can) made → is_due (body_after (untested can) bad (asking asked.text asked.params x) wish made) q ≡ true
        → Orderly (course_of x) (untested can) (with_exchange (step_of q) a made)
    by_aim aims.Execute t y k =
        course_sends can asked.text asked.params aims.Execute bad made q a refl tt y fit (exec_tidy (untested can) made (comes_next courses.Exec (untested can) (length asked.params) (found bad) made) y) k
    by_aim aims.ReadOne t y k =
        course_sends can asked.text asked.params aims.ReadOne bad made q a refl tt y fit (one_is_tidy (untested can) (length asked.params) (found bad) made) k
    by_aim aims.HandOut t y k = handed_sends can asked.text asked.params bad wish made q a (own_cursor made) refl y fit k
    by_aim aims.Ping t y k = absurd (impossible t)

pub sent_orderly : (can : Caps) (asked : Asked) (made : List Exchange) → asks_text asked.aim ≡ true → WasSent can asked made → Orderly (course_of asked.aim) (untested can) made
sent_orderly can asked [] it sent = orderly_first (course_of asked.aim) (untested can)
sent_orderly can asked (x ∷ made) it sent =
    let w = sent.1 in
    let d = w.due in
    subst (Orderly (course_of asked.aim) (untested can)) w.is (due_orderly can asked d.bad d.wish made w.call w.answer it (sent_orderly can asked made it sent.0) w.fits d.due)

pub sent_in_order : (can : Caps) (asked : Asked) (made : List Exchange) → asks_text asked.aim ≡ true → WasSent can asked made → is_in_order made ≡ true
sent_in_order can asked made it sent = let o = sent_orderly can asked made it sent in o.order

pub sent_opens_once : (can : Caps) (asked : Asked) (made : List Exchange) → asks_text asked.aim ≡ true → WasSent can asked made → opens_once made ≡ true
sent_opens_once can asked made it sent = let o = sent_orderly can asked made it sent in o.once

-- A line that is in order prepares once, if only a Prepare gives a handle.
none_prepared : (made : List Exchange) → list_all (λ y. nat_lt (place y.0) 2 || false) made ≡ true → list_all (λ y. gives_handle y ⇒ is_prepare y.0) made ≡ true
    → list_any (λ y. gives_handle y || closes_stmt y.0) made ≡ false
none_prepared [] h k = refl
none_prepared (y ∷ made) h k =
    let p = parts2 (nat_lt (place y.0) 2 || false) (list_all (λ x. nat_lt (place x.0) 2 || false) made) h in
    let q = parts2 (gives_handle y ⇒ is_prepare y.0) (list_all (λ x. gives_handle x ⇒ is_prepare x.0) made) k in
    neither_of (gives_handle y || closes_stmt y.0) (list_any (λ x. gives_handle x || closes_stmt x.0) made) (first y.0 (gives_handle y) p.0 q.0) (none_prepared made p.1 q.1)
  where
    none : (b : Bool) → b ⇒ false ≡ true → b || false ≡ false
    none true j = absurd (impossible j)
    none false j = refl

    first : (d : Due) (b : Bool) → nat_lt (place d) 2 || false ≡ true → b ⇒ is_prepare d ≡ true → b || closes_stmt d ≡ false
    first due.Prepare b l j = absurd (impossible l)
    first (due.CloseStmt handle) b l j = absurd (impossible l)
    first due.Text b l j = none b j
    first (due.Handle handle) b l j = absurd (impossible l)
    first (due.Next rows) b l j = absurd (impossible l)
    first (due.CloseRows rows) b l j = absurd (impossible l)
    first _ b l j = none b j

orderly_prepares : (made : List Exchange) → is_in_order made ≡ true → list_all (λ y. gives_handle y ⇒ is_prepare y.0) made ≡ true → prepares_once made ≡ true
orderly_prepares [] h k = refl
orderly_prepares (x ∷ made) h k =
    let p = parts2 (is_in_order made) (list_all (λ y. nat_lt (place y.0) (place x.0) || is_fetch x.0 && is_fetch y.0) made) h in
    let q = parts2 (gives_handle x ⇒ is_prepare x.0) (list_all (λ y. gives_handle y ⇒ is_prepare y.0) made) k in
    join2 (prepares_once made) (gives_handle x ⇒ not (list_any (λ y. gives_handle y || closes_stmt y.0) made)) (orderly_prepares made p.0 q.1)
    (so_if (gives_handle x) (not (list_any (λ y. gives_handle y || closes_stmt y.0) made)) (λ gives. first x.0 (if_so (gives_handle x) (is_prepare x.0) q.0 gives) p.1 q.1))
  where
    first : (d : Due) → is_prepare d ≡ true → list_all (λ y. nat_lt (place y.0) (place d) || is_fetch d && is_fetch y.0) made ≡ true → list_all (λ y. gives_handle y ⇒ is_prepare y.0) made ≡ true
        → not (list_any (λ y. gives_handle y || closes_stmt y.0) made) ≡ true
    first due.Prepare is l j = rw (none_prepared made l j) refl
    first _ is l j = absurd (impossible is)

pub sent_prepares_once : (can : Caps) (asked : Asked) (made : List Exchange) → asks_text asked.aim ≡ true → WasSent can asked made → prepares_once made ≡ true
sent_prepares_once can asked made it sent = let o = sent_orderly can asked made it sent in orderly_prepares made o.order o.given
