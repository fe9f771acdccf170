-- What a server may have carried out for a call in a transaction, in each lawful history. After the call's text
-- may have been carried out, its line is over except for fetches and closes.
use Rattle.std.proofs.Common.{◌≡◌, ◌≢◌, ℕ, ◌+◌, ◌≤◌, ◌==◌, ◌⊎◌, inl, inr, Bool, true, false, cond, List, [], ◌∷◌, length, Some, refl, sym, ap, subst, ◌∙◌, arith}
use Rattle.dsql_laws_calls.specs.driver.declared.answer.DriverAnswer.{DriverAnswer}
use Rattle.dsql_laws_calls.specs.driver.declared.call.DriverCall.{DriverCall}
use Rattle.dsql_laws_calls.specs.driver.declared.caps.Caps.{Caps}
use Rattle.dsql_laws_calls.specs.course.declared.course.Wish.TheVariants as wishes
use Rattle.dsql_laws_calls.specs.course.Made.{Exchange}
use Rattle.dsql_laws_calls.specs.journal.declared.entry.Entry.{Entry}
use Rattle.dsql_laws_calls.specs.journal.declared.entry.Owner.{Owner}
use Rattle.dsql_laws_calls.specs.journal.Kinds.{is_call, number_of}
use Rattle.dsql_laws_calls.specs.journal.Readers.{of_tenure, went_bad}
use Rattle.dsql_laws_calls.specs.pool.declared.conn.Place.TheVariants.{Lent}
use Rattle.dsql_laws_calls.specs.works.declared.work.Aim.{Aim}
use Rattle.dsql_laws_calls.specs.works.Exchanges.{exchanges, step_of, with_exchange}
use Rattle.dsql_laws_calls.specs.works.Line.{Asked}
use Rattle.dsql_laws_calls.proofs.laws_work.Rows.{same_or_not}
use Rattle.dsql_laws_calls.proofs.laws.Tests.{same_itself, other_number}
use Rattle.dsql_laws_calls.specs.history.declared.event.Event.{Event}
use Rattle.dsql_laws_calls.specs.history.declared.event.Event.TheVariants.{Entered, Heard}
use Rattle.dsql_laws_calls.specs.history.declared.event.Op.{Op}
use Rattle.dsql_laws_calls.specs.history.declared.work.Scope.TheVariants.{Held}
use Rattle.dsql_laws_calls.specs.history.Readers.Course.{caps}
use Rattle.dsql_laws_calls.specs.history.Readers.Journals.{heard_in, journal}
use Rattle.dsql_laws_calls.specs.history.Readers.Lines.{has_sent, is_about, line_among}
use Rattle.dsql_laws_calls.specs.history.Readers.Pool.{place}
use Rattle.dsql_laws_calls.specs.history.Readers.Transactions.{is_begun}
use Rattle.dsql_laws_calls.specs.history.Readers.Works.{scope, work}
use Rattle.dsql_laws_calls.specs.history.Rules.Line.{is_due}
use Rattle.dsql_laws_calls.specs.history.Rules.Sent.{asked_by, inner_after}
use Rattle.dsql_laws_calls.specs.history.Legal.{Allowed, Lawful}
use Rattle.dsql_laws_calls.proofs.Beginnings.{begin_owner, lent_once_begun}
use Rattle.dsql_laws_calls.proofs.BeginningsAt.{beginnings, heard_more, heard_other, heard_same, is_answer}
use Rattle.dsql_laws_calls.proofs.Begun.{begun_begins, stays_begun}
use Rattle.dsql_laws_calls.proofs.DueWay.{inner_is}
use Rattle.dsql_laws_calls.proofs.Inside.{inside, inside_busy, inside_uses}
use Rattle.dsql_laws_calls.proofs.Lent.{lent_before, Lends}
use Rattle.dsql_laws_calls.proofs.LineParts.{grows, grows_own, unsent_in, unsent_line}
use Rattle.dsql_laws_calls.proofs.Lines.{caps_stay}
use Rattle.dsql_laws_calls.proofs.Stays.{asked_stays, work_stays}
use Rattle.dsql_laws_calls.proofs.Tenures.{fresh_lending}
use Rattle.dsql_laws_calls.proofs.TxEnders.{sent_entered}
use Rattle.dsql_laws_calls.proofs.UnderWay.{line_made, UnderWay}
use Rattle.dsql_laws_calls.proofs.Works.{enters_next, old_work}
use Rattle.dsql_laws_replies.proofs.InnerHeard.{about_late}
use Rattle.dsql_laws_replies.proofs.Records.{fitting}
use Rattle.dsql_laws_once.specs.Once.{is_statement, may_be_carried_out, carried_out}
use Rattle.dsql_laws_once.proofs.Once.{nat_case, zero_or, count_other, count_same}
use Rattle.dsql_laws_once.proofs.Ran.{InLine, Ran, tidies, tidy_states, tidy_over, ran_sends, line_on, carried_ran}
use Rattle.dsql_laws_once.proofs.Spent.{never, one_place}
use Rattle.dsql_laws_once.proofs.Stated.{carried_states, statement_of, states_busy, under_way}

-- Holds if P holds of call n's line wherever transaction k has a connection.
abbrev Lines : (Caps → Aim → ℕ → List Exchange → Type 0) → List Event → ℕ → ℕ → Type 0
Lines P H n k = (c t : ℕ) (own : Owner) → place H c ≡ Some (Lent t own) → number_of own ≡ k → P (caps H) (asked_by H n).aim (length (asked_by H n).params) (line_made H c t n)

line_as : (P : Caps → Aim → ℕ → List Exchange → Type 0) (ca cb : Caps) (x y : Asked) (n : ℕ) (L M : List Entry) → cb ≡ ca → y ≡ x → M ≡ L
    → P ca x.aim (length x.params) (exchanges (line_among n L)) → P cb y.aim (length y.params) (exchanges (line_among n M))
line_as P ca cb x y n L M a b c h = rw (a, b, c) h

-- An event that is no answer keeps the state of the line.
lines_quiet : (P : Caps → Aim → ℕ → List Exchange → Type 0) (H : List Event) (e : Event) (n k : ℕ) → Lawful (e ∷ H) → is_answer e ≡ false → scope (work H n) ≡ Held k
    → ((c t : ℕ) (own : Owner) → number_of own ≡ k → Lends e c t own → P (caps (e ∷ H)) (asked_by (e ∷ H) n).aim (length (asked_by (e ∷ H) n).params) (line_made (e ∷ H) c t n)) → Lines P H n k → Lines P (e ∷ H) n k
lines_quiet P H e n k l quiet s lends m = λ c t own is number.
    elim (lent_before H e c t own l.0 is) [
      | inl before ↦
          line_as P (caps H) (caps (e ∷ H)) (asked_by H n) (asked_by (e ∷ H) n) n (heard_in H c t) (heard_in (e ∷ H) c t) (caps_stay H e c (Lent t own) l.1 before) (asked_stays H e n (inside_busy (work H n) k s))
          (ap (of_tenure t) (heard_same H e c quiet)) (m c t own before number)
      | inr w ↦ lends c t own number w
    ]

-- An answer to another call keeps the state of the line.
lines_beside : (P : Caps → Aim → ℕ → List Exchange → Type 0) (H : List Event) (e : Entry) (n k : ℕ) → Lawful (Heard e ∷ H) → scope (work H n) ≡ Held k → (e.call_no == n) ≡ false
    → ((can : Caps) (aim : Aim) (count : ℕ) (made : List Exchange) (q : DriverCall) (a : DriverAnswer) → is_about made q ≡ true → P can aim count (with_exchange (step_of q) a made)) → Lines P H n k → Lines P (Heard e ∷ H) n k
lines_beside P H e n k l s other about m = λ c t own is number. by c t own is (m c t own is number) (same_or_not e.conn c)
  where
    asked : asked_by (Heard e ∷ H) n ≡ asked_by H n
    asked = asked_stays H (Heard e) n (inside_busy (work H n) k s)

    more : (L : List Entry) → P (caps H) (asked_by H n).aim (length (asked_by H n).params) (exchanges (line_among n L)) → P (caps H) (asked_by H n).aim (length (asked_by H n).params) (exchanges (line_among n (e ∷ L)))
    more L h = at (grows n e L)
      where
        at : (line_among n (e ∷ L) ≡ line_among n L) ⊎ ((line_among n (e ∷ L) ≡ e ∷ line_among n L) × (((e.call_no == n) ≡ true) ⊎ (is_about (exchanges (line_among n L)) e.call ≡ true)))
            → P (caps H) (asked_by H n).aim (length (asked_by H n).params) (exchanges (line_among n (e ∷ L)))
        at (inl same) = subst (λ M. P (caps H) (asked_by H n).aim (length (asked_by H n).params) (exchanges M)) (sym same) h
        at (inr (grown, inl mine)) = absurd (never (e.call_no == n) mine other)
        at (inr (grown, inr it)) =
            subst (λ M. P (caps H) (asked_by H n).aim (length (asked_by H n).params) (exchanges M)) (sym grown)
            (about (caps H) (asked_by H n).aim (length (asked_by H n).params) (exchanges (line_among n L)) e.call e.answer it)

    by : (c t : ℕ) (own : Owner) → place H c ≡ Some (Lent t own) → P (caps H) (asked_by H n).aim (length (asked_by H n).params) (line_made H c t n) → (e.conn ≡ c) ⊎ (e.conn ≢ c)
        → P (caps H) (asked_by (Heard e ∷ H) n).aim (length (asked_by (Heard e ∷ H) n).params) (line_made (Heard e ∷ H) c t n)
    by c t own is h (inl here) =
        line_as P (caps H) (caps H) (asked_by H n) (asked_by (Heard e ∷ H) n) n (e ∷ heard_in H c t) (heard_in (Heard e ∷ H) c t) refl asked (heard_more H e c t own l.1 is here) (more (heard_in H c t) h)
    by c t own is h (inr off) = line_as P (caps H) (caps H) (asked_by H n) (asked_by (Heard e ∷ H) n) n (heard_in H c t) (heard_in (Heard e ∷ H) c t) refl asked (ap (of_tenure t) (heard_other H e c off)) h

late_line : (can : Caps) (aim : Aim) (count : ℕ) (made : List Exchange) (q : DriverCall) (a : DriverAnswer) → is_about made q ≡ true → InLine can aim count (with_exchange (step_of q) a made)
late_line can aim count made q a h = inr (inl (about_late made q a h))

late_ran : (can : Caps) (aim : Aim) (count : ℕ) (made : List Exchange) (q : DriverCall) (a : DriverAnswer) → is_about made q ≡ true → Ran can aim count (with_exchange (step_of q) a made)
late_ran can aim count made q a h = inl (inl (about_late made q a h))

-- Answers to the call itself.

record OwnInside (H : List Event) (e : Entry) (k : ℕ) : Type 0 where
  owner : Owner
  lent : place H e.conn ≡ Some (Lent e.tenure owner)
  number : number_of owner ≡ k
  begun : is_begun H k ≡ true
  due : is_due (inner_after (caps H) (went_bad (journal H e.conn)) (asked_by H e.call_no) wishes.Nothing (line_among e.call_no (heard_in H e.conn e.tenure))) e.call ≡ true

own_inside : (H : List Event) (e : Entry) (k : ℕ) → Lawful (Heard e ∷ H) → e.call_no ≢ 0 → scope (work H e.call_no) ≡ Held k → OwnInside H e k
own_inside H e k l some s = let x = under_way H e l some in by x.1 (let i = inside H l.0 in i.coming e k x.0 s)
  where
    by : UnderWay H e → is_begun H k ≡ true → OwnInside H e k
    by u begun =
        let number : number_of u.owner ≡ k = sym (u.borrowed some) ∙ inside_uses H e.call_no k s in
        let way = u.within (s ∙ ap Held (sym number)) in
        let other : is_call u.owner ≡ false = begin_owner H e.conn e.tenure u.owner l.0 u.lent (begun_begins H (number_of u.owner) l.0 (ap (is_begun H) number ∙ begun)) in
        record {
          owner = u.owner;
          lent = u.lent;
          number = number;
          begun = begun;
          due = ap (λ d. is_due d e.call) (sym (inner_is H e.conn e.tenure u.owner e.call_no wishes.Nothing k other s)) ∙ way.due;
        }

lines_own : (P : Caps → Aim → ℕ → List Exchange → Type 0) (H : List Event) (e : Entry) (k : ℕ) → Lawful (Heard e ∷ H) → scope (work H e.call_no) ≡ Held k → (u : OwnInside H e k)
    → P (caps H) (asked_by H e.call_no).aim (length (asked_by H e.call_no).params) (with_exchange (step_of e.call) e.answer (line_made H e.conn e.tenure e.call_no)) → Lines P (Heard e ∷ H) e.call_no k
lines_own P H e k l s u now = λ c t own is number.
    let one = one_place H e.conn e.tenure c t u.owner own l.0 u.lent is (u.number ∙ sym number) in
    let n = e.call_no in
    let grown : line_among n (e ∷ heard_in H e.conn e.tenure) ≡ e ∷ line_among n (heard_in H e.conn e.tenure) = grows_own n e (heard_in H e.conn e.tenure) (same_itself n) in
    let more : heard_in (Heard e ∷ H) c t ≡ e ∷ heard_in H e.conn e.tenure =
    heard_more H e c t own l.1 is one.0 ∙ (ap (λ d. e ∷ heard_in H d t) (sym one.0) ∙ ap (λ v. e ∷ heard_in H e.conn v) (sym one.1))
    in
    line_as P (caps H) (caps H) (asked_by H n) (asked_by (Heard e ∷ H) n) n (e ∷ heard_in H e.conn e.tenure) (heard_in (Heard e ∷ H) c t) refl (asked_stays H (Heard e) n (inside_busy (work H n) k s)) more
    (subst (λ M. P (caps H) (asked_by H n).aim (length (asked_by H n).params) (exchanges M)) (sym grown) now)

-- How far the call has come in its line.

answered : (H : List Event) (e : Entry) (k : ℕ) → Lawful (Heard e ∷ H) → scope (work H e.call_no) ≡ Held k → OwnInside H e k → Lines InLine H e.call_no k
    → InLine (caps H) (asked_by H e.call_no).aim (length (asked_by H e.call_no).params) (with_exchange (step_of e.call) e.answer (line_made H e.conn e.tenure e.call_no))
answered H e k l s u m =
    let asked = asked_by H e.call_no in
    let fits = fitting H e l.1 in
    line_on (caps H) (went_bad (journal H e.conn)) asked.text asked.params (work H e.call_no) k (line_made H e.conn e.tenure e.call_no) e.call e.answer s (m e.conn e.tenure u.owner u.lent u.number) u.due fits.0 fits.1

none_sent : (P : Caps → Aim → ℕ → List Exchange → Type 0) (can : Caps) (asked : Asked) (n : ℕ) (L : List Entry) → line_among n L ≡ [] → P can asked.aim (length asked.params) [] → P can asked.aim (length asked.params) (exchanges (line_among n L))
none_sent P can asked n L none h = rw none h

lent_new : (H : List Event) (e : Event) (n : ℕ) → Lawful (e ∷ H) → is_answer e ≡ false → (c t : ℕ) (own : Owner) → Lends e c t own → InLine (caps (e ∷ H)) (asked_by (e ∷ H) n).aim (length (asked_by (e ∷ H) n).params) (line_made (e ∷ H) c t n)
lent_new H e n l quiet c t own w =
    let fresh : heard_in (e ∷ H) c t ≡ [] = ap (of_tenure t) (heard_same H e c quiet) ∙ fresh_lending H c t own w.0 l.0 (subst (λ x. Allowed H x) w.1 l.1) in
    none_sent InLine (caps (e ∷ H)) (asked_by (e ∷ H) n) n (heard_in (e ∷ H) c t) (ap (line_among n) fresh) (inl (inl (inl refl)))

lines_on : (H : List Event) (e : Event) (n k : ℕ) → Lawful (e ∷ H) → is_answer e ≡ false → scope (work H n) ≡ Held k → Lines InLine H n k → Lines InLine (e ∷ H) n k
lines_on H e n k l quiet s m = lines_quiet InLine H e n k l quiet s (λ c t own number w. lent_new H e n l quiet c t own w) m

lines_entered : (H : List Event) (client m : ℕ) (op : Op) (k : ℕ) → Lawful (Entered client m op ∷ H) → m ≢ 0 → Lines InLine (Entered client m op ∷ H) m k
lines_entered H client m op k l some c t own is number = none_sent InLine (caps H) (asked_by (Entered client m op ∷ H) m) m (heard_in H c t) (unsent_line m (heard_in H c t) (unsent_in m t (journal H c) (by (has_sent m (journal H c)) refl))) (inl (inl (inl refl)))
  where
    by : (b : Bool) → has_sent m (journal H c) ≡ b → b ≡ false
    by true sent = let less = sent_entered H c m l.0 some sent in let new = enters_next H client m op l.1 in absurd (omega (arith, less, new))
    by false sent = refl

lines : (H : List Event) (n k : ℕ) → Lawful H → n ≢ 0 → scope (work H n) ≡ Held k → Lines InLine H n k
lines [] n k l some s = λ c t own is number. absurd cc
lines (Heard e ∷ H) n k l some s = by (same_or_not e.call_no n) (lines H n k l.0 some s)
  where
    own : e.call_no ≡ n → Lines InLine H n k → Lines InLine (Heard e ∷ H) n k
    own mine m =
        let its : scope (work H e.call_no) ≡ Held k = ap (λ j. scope (work H j)) mine ∙ s in
        let u = own_inside H e k l (λ none. some (sym mine ∙ none)) its in
        subst (λ j. Lines InLine (Heard e ∷ H) j k) mine (lines_own InLine H e k l its u (answered H e k l its u (subst (λ j. Lines InLine H j k) (sym mine) m)))

    by : (e.call_no ≡ n) ⊎ (e.call_no ≢ n) → Lines InLine H n k → Lines InLine (Heard e ∷ H) n k
    by (inl mine) m = own mine m
    by (inr apart) m = lines_beside InLine H e n k l s (other_number e.call_no n apart) late_line m
lines (Entered client m op ∷ H) n k l some s = by (same_or_not n m) (lines H n k l.0 some)
  where
    by : (n ≡ m) ⊎ (n ≢ m) → (scope (work H n) ≡ Held k → Lines InLine H n k) → Lines InLine (Entered client m op ∷ H) n k
    by (inl same) earlier = subst (λ j. Lines InLine (Entered client m op ∷ H) j k) (sym same) (lines_entered H client m op k l (λ none. some (same ∙ none)))
    by (inr apart) earlier =
        let was : scope (work H n) ≡ Held k = ap scope (sym (old_work H client m op n (enters_next H client m op l.1) apart)) ∙ s in
        lines_on H (Entered client m op) n k l refl was (earlier was)
lines (e ∷ H) n k l some s = lines_on H e n k l refl s (lines H n k l.0 some s)

-- After a server may have carried out what the call sent, the call only fetches and closes.

record InsideOnce (H : List Event) (n k : ℕ) : Type 0 where
  few : carried_out H n ≤ 1
  begun : 1 ≤ carried_out H n → is_begun H k ≡ true
  ran : 1 ≤ carried_out H n → Lines Ran H n k

still_tidies : (H : List Event) (e : Entry) (k : ℕ) → scope (work H e.call_no) ≡ Held k → OwnInside H e k → Lines Ran H e.call_no k → tidies e.call ≡ true
still_tidies H e k s u m =
    let asked = asked_by H e.call_no in
    ran_sends (caps H) (went_bad (journal H e.conn)) asked.text asked.params (work H e.call_no) k (line_made H e.conn e.tenure e.call_no) e.call s (m e.conn e.tenure u.owner u.lent u.number) u.due

none_before : (H : List Event) (e : Entry) (k : ℕ) → Lawful (Heard e ∷ H) → e.call_no ≢ 0 → scope (work H e.call_no) ≡ Held k → InsideOnce H e.call_no k → is_statement e.call ≡ true → carried_out H e.call_no ≡ 0
none_before H e k l some s o statement =
    zero_or (carried_out H e.call_no) o.few (λ more. never (is_statement e.call) statement (tidy_states e.call (still_tidies H e k s (own_inside H e k l some s) (o.ran more))))

inside_own : (H : List Event) (e : Entry) (k : ℕ) → Lawful (Heard e ∷ H) → e.call_no ≢ 0 → scope (work H e.call_no) ≡ Held k → InsideOnce H e.call_no k → InsideOnce (Heard e ∷ H) e.call_no k
inside_own H e k l some s o = by (may_be_carried_out e) refl
  where
    n : ℕ
    n = e.call_no

    u : OwnInside H e k
    u = own_inside H e k l some s

    made : List Exchange
    made = line_made H e.conn e.tenure e.call_no

    by : (b : Bool) → may_be_carried_out e ≡ b → InsideOnce (Heard e ∷ H) e.call_no k
    by true carried =
        let counted : carried_out (Heard e ∷ H) n ≡ carried_out H n + 1 = count_same H e ∙ ap (λ b. cond b (carried_out H n + 1) (carried_out H n)) carried in
        record {
          few = let none = none_before H e k l some s o (statement_of e carried) in omega (arith, counted, none);
          begun = λ out. stays_begun H (Heard e) k u.begun;
          ran = λ out.
              lines_own Ran H e k l s u
              (carried_ran (caps H) (asked_by H n).aim (length (asked_by H n).params) made e.call e.answer carried (answered H e k l s u (lines H n k l.0 some s)));
        }
    by false idle =
        let counted : carried_out (Heard e ∷ H) n ≡ carried_out H n = count_same H e ∙ ap (λ b. cond b (carried_out H n + 1) (carried_out H n)) idle in
        record {
          few = let had = o.few in omega (arith, counted, had);
          begun = λ out. stays_begun H (Heard e) k u.begun;
          ran = λ out.
              let before = o.ran (omega (arith, counted, out)) in
              lines_own Ran H e k l s u (inl (tidy_over (caps H) (asked_by H n).aim (length (asked_by H n).params) made e.call e.answer (still_tidies H e k s u before)));
        }

inside_heard : (H : List Event) (e : Entry) (n k : ℕ) → Lawful (Heard e ∷ H) → n ≢ 0 → scope (work H n) ≡ Held k → InsideOnce H n k → InsideOnce (Heard e ∷ H) n k
inside_heard H e n k l some s o = by (same_or_not n e.call_no)
  where
    by : (n ≡ e.call_no) ⊎ (n ≢ e.call_no) → InsideOnce (Heard e ∷ H) n k
    by (inl same) = subst (λ j. InsideOnce (Heard e ∷ H) j k) (sym same) (inside_own H e k l (λ none. some (same ∙ none)) (subst (λ j. scope (work H j) ≡ Held k) same s) (subst (λ j. InsideOnce H j k) same o))
    by (inr apart) =
        let same = count_other H e n apart in
        record {
          few = let had = o.few in omega (arith, same, had);
          begun = λ out. stays_begun H (Heard e) k (o.begun (omega (arith, same, out)));
          ran = λ out. lines_beside Ran H e n k l s (other_number e.call_no n (λ its. apart (sym its))) late_ran (o.ran (omega (arith, same, out)));
        }

-- Every other event keeps this, because a begun transaction is lent no other connection.
inside_on : (H : List Event) (e : Event) (n k : ℕ) → Lawful (e ∷ H) → is_answer e ≡ false → n ≢ 0 → carried_out (e ∷ H) n ≡ carried_out H n → (scope (work H n) ≡ Held k → InsideOnce H n k) → scope (work (e ∷ H) n) ≡ Held k → InsideOnce (e ∷ H) n k
inside_on H e n k l quiet some counted earlier s = by (nat_case (carried_out H n))
  where
    lends : is_begun H k ≡ true → (c t : ℕ) (own : Owner) → number_of own ≡ k → Lends e c t own → Ran (caps (e ∷ H)) (asked_by (e ∷ H) n).aim (length (asked_by (e ∷ H) n).params) (line_made (e ∷ H) c t n)
    lends begun c t own number w = absurd (lent_once_begun H c t own w.0 l.0 (subst (λ x. Allowed H x) w.1 l.1) (beginnings H l.0) (ap (is_begun H) number ∙ begun))

    by : (carried_out H n ≡ 0) ⊎ (1 ≤ carried_out H n) → InsideOnce (e ∷ H) n k
    by (inl none) = record { few = omega (arith, counted, none); begun = λ out. absurd (omega (arith, counted, none, out)); ran = λ out. absurd (omega (arith, counted, none, out)) }
    by (inr more) =
        let busy = states_busy (work H n) (carried_states H n l.0 some more) in
        let was : scope (work H n) ≡ Held k = ap scope (sym (work_stays H e n busy)) ∙ s in
        let o = earlier was in
        record {
          few = let had = o.few in omega (arith, counted, had);
          begun = λ out. stays_begun H e k (o.begun more);
          ran = λ out. lines_quiet Ran H e n k l quiet was (lends (o.begun more)) (o.ran more);
        }

inside_once : (H : List Event) (n k : ℕ) → Lawful H → n ≢ 0 → scope (work H n) ≡ Held k → InsideOnce H n k
inside_once [] n k l some s = record { few = omega arith; begun = λ out. absurd (omega (arith, out)); ran = λ out. absurd (omega (arith, out)) }
inside_once (Heard e ∷ H) n k l some s = inside_heard H e n k l some s (inside_once H n k l.0 some s)
inside_once (e ∷ H) n k l some s = inside_on H e n k l refl some refl (inside_once H n k l.0 some) s

pub carried_inside : (H : List Event) (n k : ℕ) → Lawful H → n ≢ 0 → scope (work H n) ≡ Held k → carried_out H n ≤ 1
carried_inside H n k l some s = let o = inside_once H n k l some s in o.few

pub sent_inside : (H : List Event) (e : Entry) (k : ℕ) → Lawful (Heard e ∷ H) → e.call_no ≢ 0 → is_statement e.call ≡ true → scope (work H e.call_no) ≡ Held k → carried_out H e.call_no ≡ 0
sent_inside H e k l some statement s = none_before H e k l some s (inside_once H e.call_no k l.0 some s) statement
