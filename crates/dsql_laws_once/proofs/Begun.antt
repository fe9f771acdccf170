-- A `Begin` that a server may have carried out is never sent again. Its answer settles the call's reply, and
-- from then on the call only tests its connection.
use Rattle.std.proofs.Common.{◌≡◌, ◌≢◌, ℕ, ◌+◌, ◌≤◌, ◌==◌, ◌⊎◌, inl, inr, Bool, true, false, not, ◌&&◌, ◌||◌, cond, List, [], ◌∷◌, Option, Some, None, is_some, refl, sym, ap, subst, ◌∙◌, arith}
use Rattle.dsql_laws_calls.specs.driver.Fits.{fits_of, is_done, is_memory}
use Rattle.dsql_laws_calls.specs.driver.Kinds.{is_bad, is_begin, is_valid}
use Rattle.dsql_laws_calls.specs.driver.declared.answer.DriverAnswer.{DriverAnswer}
use Rattle.dsql_laws_calls.specs.driver.declared.answer.DriverAnswer.TheVariants.{Done, Fail}
use Rattle.dsql_laws_calls.specs.driver.declared.call.DriverCall.{DriverCall}
use Rattle.dsql_laws_calls.specs.driver.declared.call.DriverCall.TheVariants as calls
use Rattle.dsql_laws_calls.specs.driver.declared.call.Level.{Level}
use Rattle.dsql_laws_calls.specs.driver.declared.caps.Caps.{Caps}
use Rattle.dsql_laws_calls.specs.course.Made.{Exchange}
use Rattle.dsql_laws_calls.specs.journal.declared.entry.Entry.{Entry}
use Rattle.dsql_laws_calls.specs.journal.declared.entry.Owner.{Owner}
use Rattle.dsql_laws_calls.specs.journal.Kinds.{number_of}
use Rattle.dsql_laws_calls.specs.pool.declared.conn.Place.TheVariants.{Lent}
use Rattle.dsql_laws_calls.specs.works.Exchanges.{exchanges}
use Rattle.dsql_laws_calls.proofs.laws_work.Rows.{same_or_not}
use Rattle.dsql_laws_calls.proofs.laws.Tests.{both, same_itself, same_number, other_number}
use Rattle.dsql_laws_calls.specs.history.declared.event.Event.{Event}
use Rattle.dsql_laws_calls.specs.history.declared.event.Event.TheVariants.{Entered, Heard}
use Rattle.dsql_laws_calls.specs.history.declared.reply.Reply.{Reply}
use Rattle.dsql_laws_calls.specs.history.Readers.Calls.{decided}
use Rattle.dsql_laws_calls.specs.history.Readers.Course.{caps}
use Rattle.dsql_laws_calls.specs.history.Readers.Decisions.{decision, Trying}
use Rattle.dsql_laws_calls.specs.history.Readers.Journals.{heard_in}
use Rattle.dsql_laws_calls.specs.history.Readers.Lines.{is_about, line_among}
use Rattle.dsql_laws_calls.specs.history.Readers.Pool.{place}
use Rattle.dsql_laws_calls.specs.history.Readers.Works.{work}
use Rattle.dsql_laws_calls.specs.history.Rules.Line.{is_due}
use Rattle.dsql_laws_calls.specs.history.Rules.Sent.{begin_line, is_reset_due}
use Rattle.dsql_laws_calls.specs.history.Legal.{Lawful}
use Rattle.dsql_laws_calls.proofs.Beginnings.{asking, begin_owner, begin_there, begins_busy, numbered}
use Rattle.dsql_laws_calls.proofs.BeginningsAt.{beginnings, is_answer, way_of}
use Rattle.dsql_laws_calls.proofs.Begun.{begin_heard, still_begins}
use Rattle.dsql_laws_calls.proofs.LineParts.{about_none, grows, grows_own}
use Rattle.dsql_laws_calls.proofs.Looks.{heard_there}
use Rattle.dsql_laws_calls.proofs.Own.{OwnWay}
use Rattle.dsql_laws_calls.proofs.Plain.{begins}
use Rattle.dsql_laws_replies.proofs.Records.{fitting, trying_of}
use Rattle.dsql_laws_once.specs.Transactions.{may_have_begun, begun_by}
use Rattle.dsql_laws_once.proofs.Once.{nat_case, zero_or}
use Rattle.dsql_laws_once.proofs.Spent.{Spent, StaysPast, never, settled_by, spent_beside, spent_now, spent_on}

-- What a begin sends after its `Begin` was answered otherwise than with `Bad`: a test of its connection.

-- Is true if the newest entry is the `Begin` or the test.
abbrev begin_over : List Entry → Bool
begin_over [] = false
begin_over (e ∷ earlier) = is_begin e.call || is_valid e.call

-- Is true if call n may still send its `Begin`.
abbrev before_begin : ℕ → List Entry → Bool
before_begin n L = not (begin_over (line_among n L))

tested : (q : DriverCall) → is_due (Some calls.Valid) q ≡ true → is_valid q ≡ true
tested calls.Valid h = refl
tested q h = absurd cc

over_next : (can : Caps) (reset : Bool) (level : Level) (read_only : Bool) (L : List Entry) (q : DriverCall) → begin_over L ≡ true → is_due (begin_line can reset (calls.Begin level read_only) L) q ≡ true → is_valid q ≡ true
over_next can reset level read_only [] q o h = absurd cc
over_next can reset level read_only (e ∷ earlier) q o h = by (is_bad e.answer) (is_valid e.call) (is_begin e.call) (is_done e.answer) can.validator o h
  where
    by : (bad valid begin done test : Bool) → (begin || valid) ≡ true → is_due (cond (bad || valid) None (cond begin (cond done None (cond test (Some calls.Valid) None)) (Some (calls.Begin level read_only)))) q ≡ true → is_valid q ≡ true
    by true valid begin done test x y = absurd cc
    by false true begin done test x y = absurd cc
    by false false true true test x y = absurd cc
    by false false true false true x y = tested q y
    by false false true false false x y = absurd cc
    by false false false done test x y = absurd cc

valid_over : (q : DriverCall) → is_valid q ≡ true → is_begin q ≡ false
valid_over calls.Valid h = refl
valid_over q h = absurd cc

either_over : (a b : Bool) → (a ≡ true) ⊎ (b ≡ true) → (a || b) ≡ true
either_over true b h = refl
either_over false b (inl h) = absurd cc
either_over false b (inr h) = h

-- The answer to the `Begin` settles the reply, and the test leaves it settled.

begin_decides : (t : Trying) (q : DriverCall) (a : DriverAnswer) (d : Option Reply) → is_begin q ≡ true → fits_of q a ≡ true → is_memory a ≡ false → is_bad a ≡ false → is_some (decision t q a d) ≡ true
begin_decides t (calls.Begin level read_only) Done d begin fit heard good = refl
begin_decides t (calls.Begin level read_only) (Fail why) d begin fit heard good = refl
begin_decides t (calls.Begin level read_only) a d begin fit heard good = absurd cc
begin_decides t q a d begin fit heard good = absurd cc

test_keeps : (t : Trying) (q : DriverCall) (a : DriverAnswer) (d : Option Reply) → is_valid q ≡ true → is_some d ≡ true → is_some (decision t q a d) ≡ true
test_keeps t calls.Valid a d valid h = h
test_keeps t q a d valid h = absurd cc

-- What is heard in the begin's tenure.

record BeginSent (H : List Event) (e : Entry) : Type 0 where
  way : OwnWay H e
  level : Level
  read_only : Bool
  due : is_due (begin_line (caps H) (is_reset_due H e.conn) (calls.Begin level read_only) (line_among e.call_no (heard_in H e.conn e.tenure))) e.call ≡ true

begin_sent : (H : List Event) (e : Entry) → Lawful (Heard e ∷ H) → begins (work H e.call_no) ≡ true → BeginSent H e
begin_sent H e l begin =
    let w = way_of H e l.0 l.1 begin in
    let its : begins (work H (number_of w.owner)) ≡ true = ap (λ k. begins (work H k)) w.own ∙ begin in
    let at = begin_there H e.conn e.tenure w.owner its (begin_owner H e.conn e.tenure w.owner l.0 w.lent its) in
    record {
      way = w;
      level = at.0;
      read_only = at.1;
      due =
          subst (λ k. is_due (begin_line (caps H) (is_reset_due H e.conn) (calls.Begin at.0 at.1) (line_among k (heard_in H e.conn e.tenure))) e.call ≡ true) w.own
          (ap (λ d. is_due d e.call) (sym at.2) ∙ w.due);
    }

own_over : (n : ℕ) (e : Entry) (L : List Entry) → (e.call_no == n) ≡ true → (is_begin e.call ≡ true) ⊎ (is_valid e.call ≡ true) → before_begin n (e ∷ L) ≡ false
own_over n e L mine h = ap (λ M. not (begin_over M)) (grows_own n e L mine) ∙ ap (λ b. not b) (either_over (is_begin e.call) (is_valid e.call) h)

over_of : (b : Bool) → not b ≡ false → b ≡ true
over_of true h = refl
over_of false h = absurd cc

stays_over : (H : List Event) (e : Entry) (n : ℕ) → Lawful (Heard e ∷ H) → begins (work H n) ≡ true → StaysPast (before_begin n) H e n
stays_over H e n l begin = λ own is number past. by own is number past (grows n e (heard_in H e.conn e.tenure))
  where
    L : List Entry
    L = heard_in H e.conn e.tenure

    mine : e.call_no ≡ n → before_begin n (heard_in H e.conn e.tenure) ≡ false → before_begin n (e ∷ heard_in H e.conn e.tenure) ≡ false
    mine its past =
        let s = begin_sent H e l (ap (λ k. begins (work H k)) its ∙ begin) in
        let due = s.due in
        let over : begin_over (line_among e.call_no L) ≡ true = over_of (begin_over (line_among e.call_no L)) (ap (λ k. before_begin k L) its ∙ past) in
        own_over n e L (ap (λ k. k == n) its ∙ same_itself n) (inr (over_next (caps H) (is_reset_due H e.conn) s.level s.read_only (line_among e.call_no L) e.call over due))

    by : (own : Owner) → place H e.conn ≡ Some (Lent e.tenure own) → number_of own ≡ n → before_begin n (heard_in H e.conn e.tenure) ≡ false
        → (line_among n (e ∷ L) ≡ line_among n L) ⊎ ((line_among n (e ∷ L) ≡ e ∷ line_among n L) × (((e.call_no == n) ≡ true) ⊎ (is_about (exchanges (line_among n L)) e.call ≡ true))) → before_begin n (e ∷ heard_in H e.conn e.tenure) ≡ false
    by own is number past (inl same) = ap (λ M. not (begin_over M)) same ∙ past
    by own is number past (inr (grown, inl its)) = mine (same_number e.call_no n its) past
    by own is number past (inr (grown, inr about)) =
        let b = beginnings H l.0 in
        let none : exchanges (line_among n L) ≡ [] = subst (λ k. exchanges (line_among k (heard_in H e.conn e.tenure)) ≡ []) number (b.steps e.conn e.tenure own is (ap (λ k. begins (work H k)) number ∙ begin)) in
        absurd (never (is_about (exchanges (line_among n L)) e.call) about (ap (λ (made : List Exchange). is_about made e.call) none ∙ about_none e.call))

-- A call is spent after a server may have begun its transaction.

record BegunOnce (H : List Event) (n : ℕ) : Type 0 where
  few : begun_by H n ≤ 1
  spent : 1 ≤ begun_by H n → Spent (before_begin n) H n

some_of : (n : ℕ) → (n == 0) ≡ false → n ≢ 0
some_of n other none = never (n == 0) (ap (λ k. k == 0) none) other

still_tests : (H : List Event) (e : Entry) → Lawful (Heard e ∷ H) → (s : BeginSent H e) → Spent (before_begin e.call_no) H e.call_no → is_valid e.call ≡ true
still_tests H e l s spent =
    let w = s.way in
    let L = line_among e.call_no (heard_in H e.conn e.tenure) in
    over_next (caps H) (is_reset_due H e.conn) s.level s.read_only L e.call (over_of (begin_over L) (spent.past_it e.conn e.tenure w.owner w.lent w.own)) s.due

none_before : (H : List Event) (e : Entry) → Lawful (Heard e ∷ H) → begins (work H e.call_no) ≡ true → BegunOnce H e.call_no → is_begin e.call ≡ true → begun_by H e.call_no ≡ 0
none_before H e l begin o is =
    zero_or (begun_by H e.call_no) o.few (λ more. never (is_begin e.call) is (valid_over e.call (still_tests H e l (begin_sent H e l begin) (o.spent more))))

count_other : (H : List Event) (e : Entry) (n : ℕ) → n ≢ e.call_no → begun_by (Heard e ∷ H) n ≡ begun_by H n
count_other H e n apart = ap (λ b. cond (b && may_have_begun e) (begun_by H n + 1) (begun_by H n)) (other_number e.call_no n (λ same. apart (sym same)))

count_same : (H : List Event) (e : Entry) → begun_by (Heard e ∷ H) e.call_no ≡ cond (may_have_begun e) (begun_by H e.call_no + 1) (begun_by H e.call_no)
count_same H e = ap (λ b. cond (b && may_have_begun e) (begun_by H e.call_no + 1) (begun_by H e.call_no)) (same_itself e.call_no)

not_bad : (b : Bool) → not b ≡ true → b ≡ false
not_bad true h = absurd cc
not_bad false h = refl

heard_own : (H : List Event) (e : Entry) → Lawful (Heard e ∷ H) → begins (work H e.call_no) ≡ true → BegunOnce H e.call_no → BegunOnce (Heard e ∷ H) e.call_no
heard_own H e l begin o = by (may_have_begun e) refl
  where
    n : ℕ
    n = e.call_no

    s : BeginSent H e
    s = begin_sent H e l begin

    spent_so : (is_begin e.call ≡ true) ⊎ (is_valid e.call ≡ true) → settled_by H e ≡ true → Spent (before_begin e.call_no) (Heard e ∷ H) e.call_no
    spent_so over settled =
        let w = s.way in
        spent_now (before_begin e.call_no) H e w.owner l (some_of e.call_no (numbered H e.call_no begin)) w.lent w.own (asking (work H e.call_no) begin) (own_over e.call_no e (heard_in H e.conn e.tenure) (same_itself e.call_no) over) settled

    by : (b : Bool) → may_have_begun e ≡ b → BegunOnce (Heard e ∷ H) e.call_no
    by true carried =
        let counted : begun_by (Heard e ∷ H) n ≡ begun_by H n + 1 = count_same H e ∙ ap (λ b. cond b (begun_by H n + 1) (begun_by H n)) carried in
        let x = both (is_begin e.call) (not (is_bad e.answer)) carried in
        let fits = fitting H e l.1 in
        record {
          few = let none = none_before H e l begin o x.0 in omega (arith, counted, none);
          spent = λ out.
              spent_so (inl x.0)
              (begin_decides (trying_of H n) e.call e.answer (decided H n) x.0 fits.0 fits.1 (not_bad (is_bad e.answer) x.1));
        }
    by false idle =
        let counted : begun_by (Heard e ∷ H) n ≡ begun_by H n = count_same H e ∙ ap (λ b. cond b (begun_by H n + 1) (begun_by H n)) idle in
        record {
          few = let had = o.few in omega (arith, counted, had);
          spent = λ out.
              let was = o.spent (omega (arith, counted, out)) in
              let w = s.way in
              let valid = still_tests H e l s was in
              spent_so (inr valid)
              (test_keeps (trying_of H n) e.call e.answer (decided H n) valid (was.settled w.unfinished));
        }

once_heard : (H : List Event) (e : Entry) (n : ℕ) → Lawful (Heard e ∷ H) → begins (work H n) ≡ true → BegunOnce H n → BegunOnce (Heard e ∷ H) n
once_heard H e n l begin o = by (same_or_not n e.call_no)
  where
    by : (n ≡ e.call_no) ⊎ (n ≢ e.call_no) → BegunOnce (Heard e ∷ H) n
    by (inl same) = subst (λ k. BegunOnce (Heard e ∷ H) k) (sym same) (heard_own H e l (subst (λ k. begins (work H k) ≡ true) same begin) (subst (λ k. BegunOnce H k) same o))
    by (inr apart) =
        let same = count_other H e n apart in
        record {
          few = let had = o.few in omega (arith, same, had);
          spent = λ out. spent_beside (before_begin n) H e n l (stays_over H e n l begin) apart (o.spent (omega (arith, same, out)));
        }

-- A `Begin` is sent by a call that begins a transaction.
sent_begins : (H : List Event) (e : Entry) → Lawful (Heard e ∷ H) → is_begin e.call ≡ true → begins (work H e.call_no) ≡ true
sent_begins H e l is = let there = heard_there H e l.1 in begin_heard H e (place H e.conn) there.sets there.line is

begun_begins_one : (H : List Event) (n : ℕ) → Lawful H → 1 ≤ begun_by H n → begins (work H n) ≡ true
begun_begins_one [] n l out = absurd (omega (arith, out))
begun_begins_one (Heard e ∷ H) n l out = by (e.call_no == n) (may_have_begun e) refl refl (begun_begins_one H n l.0) out
  where
    by : (b c : Bool) → (e.call_no == n) ≡ b → may_have_begun e ≡ c → (1 ≤ begun_by H n → begins (work H n) ≡ true) → 1 ≤ cond (b && c) (begun_by H n + 1) (begun_by H n) → begins (work H n) ≡ true
    by true true mine carried earlier k =
        let x = both (is_begin e.call) (not (is_bad e.answer)) carried in ap (λ m. begins (work H m)) (sym (same_number e.call_no n mine)) ∙ sent_begins H e l x.0
    by true false mine carried earlier k = earlier k
    by false c mine carried earlier k = earlier k
begun_begins_one (Entered client m op ∷ H) n l out = still_begins H (Entered client m op) n (begun_begins_one H n l.0 out)
begun_begins_one (_ ∷ H) n l out = begun_begins_one H n l.0 out

-- Every other event keeps this.
once_on : (H : List Event) (e : Event) (n : ℕ) → Lawful (e ∷ H) → is_answer e ≡ false → begun_by (e ∷ H) n ≡ begun_by H n → (begins (work H n) ≡ true → BegunOnce H n) → BegunOnce (e ∷ H) n
once_on H e n l quiet counted earlier = by (nat_case (begun_by H n))
  where
    by : (begun_by H n ≡ 0) ⊎ (1 ≤ begun_by H n) → BegunOnce (e ∷ H) n
    by (inl none) = record { few = omega (arith, counted, none); spent = λ out. absurd (omega (arith, counted, none, out)) }
    by (inr more) =
        let begin = begun_begins_one H n l.0 more in
        let o = earlier begin in
        record {
          few = let had = o.few in omega (arith, counted, had);
          spent = λ out. spent_on (before_begin n) H e n l quiet (some_of n (numbered H n begin)) (begins_busy (work H n) begin) (o.spent more);
        }

once : (H : List Event) (n : ℕ) → Lawful H → begins (work H n) ≡ true → BegunOnce H n
once [] n l begin = record { few = omega arith; spent = λ out. absurd (omega (arith, out)) }
once (Heard e ∷ H) n l begin = once_heard H e n l begin (once H n l.0 begin)
once (e ∷ H) n l begin = once_on H e n l refl refl (once H n l.0)

pub begun_at_most_once : (H : List Event) (n : ℕ) → Lawful H → begun_by H n ≤ 1
begun_at_most_once H n l = by (nat_case (begun_by H n))
  where
    by : (begun_by H n ≡ 0) ⊎ (1 ≤ begun_by H n) → begun_by H n ≤ 1
    by (inl none) = omega (arith, none)
    by (inr more) = let o = once H n l (begun_begins_one H n l more) in o.few

pub begun_first : (H : List Event) (e : Entry) → Lawful (Heard e ∷ H) → is_begin e.call ≡ true → begun_by H e.call_no ≡ 0
begun_first H e l is = let begin = sent_begins H e l is in none_before H e l begin (once H e.call_no l.0 begin) is
