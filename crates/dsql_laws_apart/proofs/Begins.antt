-- Proves that a Begin is sent by the call that asked for it. The argument is that a call which begins a transaction
-- sends its Reset, its Begin and its test in its own line, and nothing else.
use Rattle.std.proofs.Common.{◌≡◌, ◌≢◌, ℕ, ◌==◌, Bool, true, false, ◌||◌, cond, List, [], ◌∷◌, Option, Some, None, refl, sym, ap, ◌∙◌}
use Rattle.dsql_laws_calls.specs.driver.declared.caps.Caps.{Caps}
use Rattle.dsql_laws_calls.specs.driver.declared.call.DriverCall.{DriverCall}
use Rattle.dsql_laws_calls.specs.driver.declared.call.DriverCall.TheVariants as calls
use Rattle.dsql_laws_calls.specs.driver.declared.call.Level.{Level}
use Rattle.dsql_laws_calls.specs.driver.Kinds.{is_bad, is_begin, is_reset, is_valid}
use Rattle.dsql_laws_calls.specs.driver.Fits.{is_done}
use Rattle.dsql_laws_calls.specs.course.declared.course.Wish.TheVariants as wishes
use Rattle.dsql_laws_calls.specs.journal.declared.entry.Entry.{Entry}
use Rattle.dsql_laws_calls.specs.journal.Kinds.{◌⇒◌, number_of}
use Rattle.dsql_laws_calls.proofs.journal.Sentences.{MayFollow-of}
use Rattle.dsql_laws_calls.specs.works.Line.{test_of}
use Rattle.dsql_laws_calls.proofs.laws.Tests.{same_number}
use Rattle.dsql_laws_calls.specs.history.declared.event.Event.{Event}
use Rattle.dsql_laws_calls.specs.history.declared.event.Event.TheVariants.{Heard}
use Rattle.dsql_laws_calls.specs.history.declared.work.Work.{Work}
use Rattle.dsql_laws_calls.specs.history.declared.work.Work.TheVariants.{Begin}
use Rattle.dsql_laws_calls.specs.history.Readers.Course.{caps}
use Rattle.dsql_laws_calls.specs.history.Readers.Journals.{heard_in, journal}
use Rattle.dsql_laws_calls.specs.history.Readers.Lines.{line_in}
use Rattle.dsql_laws_calls.specs.history.Readers.Pool.{place}
use Rattle.dsql_laws_calls.specs.history.Readers.Works.{work, scope}
use Rattle.dsql_laws_calls.specs.history.Rules.Line.{is_due}
use Rattle.dsql_laws_calls.specs.history.Rules.Sent.{is_reset_due, begin_after, begin_line, sender, line_for}
use Rattle.dsql_laws_calls.specs.history.Legal.{Lawful}
use Rattle.dsql_laws_calls.proofs.Looks.{heard_there, comes}
use Rattle.dsql_laws_calls.proofs.Plain.{begins}
use Rattle.dsql_laws_calls.proofs.Begun.{begin_heard}
use Rattle.dsql_laws_calls.proofs.Own.{OwnWay, own_way}
use Rattle.dsql_laws_calls.proofs.Beginnings.{asking, numbered}
use Rattle.dsql_laws_calls.proofs.LineParts.{heard_follows}
use Rattle.dsql_laws_apart.specs.Apart.{asks_for, begins_as_asked}

-- Is true if the driver call is a Reset, a test, or the Begin for which this work asked.
abbrev sends : Work → DriverCall → Bool
sends it q = (is_reset q || is_valid q) || asks_for it q

-- Holds if this is true of the driver call that is due, if any.
abbrev Sends : Work → Option DriverCall → Type 0
Sends it due = (q : DriverCall) → is_due due q ≡ true → sends it q ≡ true

either : (it : Work) (b : Bool) (c d : Option DriverCall) → Sends it c → Sends it d → Sends it (cond b c d)
either it true c d h k = h
either it false c d h k = k

none_sends : (it : Work) (q : DriverCall) → is_due None q ≡ true → sends it q ≡ true
none_sends it q h = absurd cc

reset_sends : (it : Work) (q : DriverCall) → is_due (Some calls.Reset) q ≡ true → sends it q ≡ true
reset_sends it calls.Reset h = refl
reset_sends it q h = absurd cc

test_sends : (it : Work) (q : DriverCall) → is_due (Some calls.Valid) q ≡ true → sends it q ≡ true
test_sends it calls.Valid h = refl
test_sends it q h = absurd cc

begin_sends : (label : List ℕ) (level : Level) (read_only : Bool) (q : DriverCall) → is_due (Some (calls.Begin level read_only)) q ≡ true → sends (Begin label level read_only) q ≡ true
begin_sends label level read_only (calls.Begin other only) h = h
begin_sends label level read_only q h = absurd cc

line_sends : (can : Caps) (reset : Bool) (label : List ℕ) (level : Level) (read_only : Bool) (L : List Entry) → Sends (Begin label level read_only) (begin_line can reset (calls.Begin level read_only) L)
line_sends can reset label level read_only [] =
    either (Begin label level read_only) reset (Some calls.Reset) (Some (calls.Begin level read_only)) (reset_sends (Begin label level read_only)) (begin_sends label level read_only)
line_sends can reset label level read_only (e ∷ earlier) =
    let it = Begin label level read_only in
    either it (is_bad e.answer || is_valid e.call) None (begin_after can (calls.Begin level read_only) e) (none_sends it)
    (either it (is_begin e.call) (cond (is_done e.answer) None (test_of can)) (Some (calls.Begin level read_only))
    (either it (is_done e.answer) None (test_of can) (none_sends it) (either it can.validator (Some calls.Valid) None (test_sends it) (none_sends it))) (begin_sends label level read_only))

-- What a call that begins a transaction sends is due in its own line.
own_sends : (H : List Event) (e : Entry) → Lawful (Heard e ∷ H) → begins (work H e.call_no) ≡ true → sends (work H e.call_no) e.call ≡ true
own_sends H e l h =
    let there = heard_there H e l.1 in
    let some = numbered H e.call_no h in
    by (own_way H e l.0 (comes H e (place H e.conn) there.sets there.line some) some (asking (work H e.call_no) h)) (work H e.call_no) refl h
  where
    by : (u : OwnWay H e) (it : Work) → work H e.call_no ≡ it → begins it ≡ true → sends it e.call ≡ true
    by u (Begin label level read_only) is x =
        let n = number_of u.owner in
        let line = line_in u.owner n (heard_in H e.conn e.tenure) in
        line_sends (caps H) (is_reset_due H e.conn) label level read_only line e.call
        (ap (λ v. is_due (line_for v (scope v) (sender H n e.conn wishes.Nothing) line) e.call) (sym (ap (work H) u.own ∙ is)) ∙ u.due)
    by u it is x = absurd cc

pub asked_for : (H : List Event) (e : Entry) → Lawful (Heard e ∷ H) → begins_as_asked H e ≡ true
asked_for H e l = by (is_begin e.call) refl
  where
    only : (it : Work) (q : DriverCall) → is_begin q ≡ true → sends it q ≡ true → asks_for it q ≡ true
    only it (calls.Begin level read_only) h k = k
    only it q h k = absurd cc

    by : (b : Bool) → is_begin e.call ≡ b → (b ⇒ asks_for (work H e.call_no) e.call) ≡ true
    by true is =
        let there = heard_there H e l.1 in
        only (work H e.call_no) e.call is (own_sends H e l (begin_heard H e (place H e.conn) there.sets there.line is))
    by false is = refl

-- In its transaction, a call that begins one sends only its Begin: a Reset and a test stand in no transaction.
pub begins_alone : (H : List Event) (e : Entry) → Lawful (Heard e ∷ H) → begins (work H e.call_no) ≡ true → e.tx ≢ 0 → is_begin e.call ≡ true
begins_alone H e l h some = by (is_reset e.call || is_valid e.call) refl (own_sends H e l h)
  where
    begin_is : (it : Work) (q : DriverCall) → asks_for it q ≡ true → is_begin q ≡ true
    begin_is (Begin label level read_only) (calls.Begin other only) k = refl
    begin_is it q k = absurd cc

    by : (b : Bool) → (is_reset e.call || is_valid e.call) ≡ b → (b || asks_for (work H e.call_no) e.call) ≡ true → is_begin e.call ≡ true
    by true tests k =
        let m = MayFollow-of (journal H e.conn) e (heard_follows H e l.1) in
        absurd (some (same_number e.tx 0 (sym (ap (λ b. b ⇒ e.tx == 0) tests) ∙ m.tenure.tests)))
    by false tests k = begin_is (work H e.call_no) e.call k
