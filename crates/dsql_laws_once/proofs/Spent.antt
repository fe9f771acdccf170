-- A spent call has settled its reply, and no event sets it to work again.
use Rattle.std.proofs.Common.{◌≡◌, ◌≢◌, ℕ, ◌⊎◌, inl, inr, Bool, true, false, ◌&&◌, not, List, ◌∷◌, Some, is_some, refl, sym, ap, subst, ◌∙◌}
use Rattle.dsql_laws_calls.specs.driver.Fits.{fits_of, is_memory}
use Rattle.dsql_laws_calls.specs.driver.Kinds.{is_bad}
use Rattle.dsql_laws_calls.specs.driver.declared.call.DriverCall.{DriverCall}
use Rattle.dsql_laws_calls.specs.driver.declared.call.DriverCall.TheVariants.{Next}
use Rattle.dsql_laws_calls.specs.driver.declared.answer.DriverAnswer.{DriverAnswer}
use Rattle.dsql_laws_calls.specs.course.declared.course.Wish.{Wish}
use Rattle.dsql_laws_calls.specs.course.declared.course.Wish.TheVariants as wishes
use Rattle.dsql_laws_calls.specs.journal.declared.entry.Entry.{Entry}
use Rattle.dsql_laws_calls.specs.journal.declared.entry.Owner.{Owner}
use Rattle.dsql_laws_calls.specs.journal.Kinds.{is_call, number_of}
use Rattle.dsql_laws_calls.specs.journal.Readers.{of_tenure}
use Rattle.dsql_laws_calls.specs.pool.declared.conn.Place.TheVariants.{Lent}
use Rattle.dsql_laws_calls.specs.pool.declared.moves.Move.TheVariants.{Lend}
use Rattle.dsql_laws_calls.specs.works.Exchanges.{exchanges}
use Rattle.dsql_laws_calls.specs.works.Line.{Asked, is_due_in_line, line_after}
use Rattle.dsql_laws_calls.proofs.laws_work.Rows.{same_or_not}
use Rattle.dsql_laws_calls.proofs.laws_work.CallLines.{Step, step, step_after, goes, is_before_end}
use Rattle.dsql_laws_calls.proofs.laws_work.MadeLines.{MadeAt}
use Rattle.dsql_laws_calls.proofs.laws_work.HandedLines.{SentAt, due_over}
use Rattle.dsql_laws_calls.proofs.laws_work.Lines.{made_on, goes_due, sent_of}
use Rattle.dsql_laws_calls.specs.history.Readers.Tries.{is_tried}
use Rattle.dsql_laws_calls.proofs.laws.Tests.{other_number, together}
use Rattle.dsql_laws_calls.proofs.laws.Wanted.{wanted}
use Rattle.dsql_laws_calls.specs.history.declared.event.Event.{Event}
use Rattle.dsql_laws_calls.specs.history.declared.event.Event.TheVariants.{Heard, Pool}
use Rattle.dsql_laws_calls.specs.history.declared.work.Work.TheVariants.{Look}
use Rattle.dsql_laws_calls.specs.history.Readers.Calls.{decided}
use Rattle.dsql_laws_calls.specs.history.Readers.Course.{caps}
use Rattle.dsql_laws_calls.specs.history.Readers.Decisions.{decision}
use Rattle.dsql_laws_calls.specs.history.Readers.Journals.{heard_in}
use Rattle.dsql_laws_calls.specs.history.Readers.Pool.{home, pool, place}
use Rattle.dsql_laws_calls.specs.history.Readers.Unfinished.{is_unfinished}
use Rattle.dsql_laws_calls.specs.history.Readers.Works.{asks, work}
use Rattle.dsql_laws_calls.specs.history.Rules.Asking.{may_ask}
use Rattle.dsql_laws_calls.specs.history.Rules.Line.{is_due}
use Rattle.dsql_laws_calls.specs.history.Rules.Sent.{asked_by, is_reset_due}
use Rattle.dsql_laws_calls.specs.history.Legal.{Allowed, Lawful}
use Rattle.dsql_laws_calls.proofs.laws.Asker.{asker}
use Rattle.dsql_laws_calls.proofs.laws.Tried.{lends_to}
use Rattle.dsql_laws_calls.proofs.BeginningsAt.{is_answer, heard_more, heard_other, heard_same, was_unfinished}
use Rattle.dsql_laws_calls.proofs.CallTenures.{call_line, line_of_call, plain_due}
use Rattle.dsql_laws_calls.proofs.Coming.{sound}
use Rattle.dsql_laws_calls.proofs.Lent.{lent_before, Lends}
use Rattle.dsql_laws_calls.proofs.Looks.{comes, heard_there}
use Rattle.dsql_laws_calls.proofs.Own.{OwnWay, own_way}
use Rattle.dsql_laws_calls.proofs.Owners.{at_home}
use Rattle.dsql_laws_calls.proofs.Plain.{begins, line_plain}
use Rattle.dsql_laws_calls.proofs.Sound.{same_lent}
use Rattle.dsql_laws_calls.proofs.Stays.{not_looking}
use Rattle.dsql_laws_calls.proofs.Told.{asks_undecided}
use Rattle.dsql_laws_calls.proofs.Wanted.{lent_nothing, lent_wants_none, wants_no_more}
use Rattle.dsql_laws_calls.proofs.Works.{other_heard}
use Rattle.dsql_laws_replies.proofs.Awaiting.{plain_call, under_way}
use Rattle.dsql_laws_replies.proofs.Records.{fitting, own_record, record_stays, trying_of}
use Rattle.dsql_laws_once.proofs.Steps.{stays_decided}

pub never : (b : Bool) → b ≡ true → b ≡ false → ⊥
never b x y = cc

-- A call that has settled its reply and wants no connection. On each connection that it has, it is past its
-- work by this test of the entries there.
pub record Spent (before : List Entry → Bool) (H : List Event) (n : ℕ) : Type 0 where
  pub settled : is_unfinished H n ≡ true → is_some (decided H n) ≡ true
  pub content : wanted n (pool H) ≡ 0
  pub past_it : (c t : ℕ) (own : Owner) → place H c ≡ Some (Lent t own) → number_of own ≡ n → before (heard_in H c t) ≡ false

spent_asks_not : (before : List Entry → Bool) (H : List Event) (n : ℕ) → Spent before H n → may_ask H n ≡ true → ⊥
spent_asks_not before H n s may =
    let none : is_some (decided H n) ≡ false = ap (λ o. is_some o) (asks_undecided H n may) in
    never (is_some (decided H n)) (s.settled (asker H n may).unfinished) none

-- A call has at most one connection.
pub one_place : (H : List Event) (c t d u : ℕ) (own other : Owner) → Lawful H → place H c ≡ Some (Lent t own) → place H d ≡ Some (Lent u other) → number_of own ≡ number_of other → (c ≡ d) × (t ≡ u) × (own ≡ other)
one_place H c t d u own other l is there number =
    let same : c ≡ d = sym (at_home H c t own l is) ∙ (ap (home H) number ∙ at_home H d u other l there) in
    let one = same_lent t u own other (sym is ∙ (ap (place H) same ∙ there)) in
    (same, one.0, one.1)

-- An answer leaves a call spent.

-- Holds if what is heard on the call's connection leaves the call past its work.
abbrev pub StaysPast : (List Entry → Bool) → List Event → Entry → ℕ → Type 0
StaysPast before H e n =
    (own : Owner) → place H e.conn ≡ Some (Lent e.tenure own) → number_of own ≡ n → before (heard_in H e.conn e.tenure) ≡ false → before (e ∷ heard_in H e.conn e.tenure) ≡ false

past_here : (before : List Entry → Bool) (H : List Event) (e : Entry) (n : ℕ) → Lawful (Heard e ∷ H) → StaysPast before H e n → (c t : ℕ) (own : Owner) → place H c ≡ Some (Lent t own) → number_of own ≡ n
    → before (heard_in H c t) ≡ false → before (heard_in (Heard e ∷ H) c t) ≡ false
past_here before H e n l stays c t own is number past = by (same_or_not e.conn c)
  where
    here : e.conn ≡ c → before (e ∷ heard_in H c t) ≡ false
    here same =
        let x = under_way H e t own l (ap (place H) same ∙ is) in
        let u = x.0 in
        let at : place H e.conn ≡ Some (Lent e.tenure own) = u.lent ∙ ap (λ o. Some (Lent e.tenure o)) x.1 in
        let one = one_place H e.conn e.tenure c t own own l.0 at is refl in
        let was : before (heard_in H e.conn e.tenure) ≡ false = ap (λ v. before (heard_in H e.conn v)) one.1 ∙ (ap (λ d. before (heard_in H d t)) same ∙ past) in
        subst (λ d. before (e ∷ heard_in H d t) ≡ false) same (subst (λ v. before (e ∷ heard_in H e.conn v) ≡ false) one.1 (stays own at number was))

    by : (e.conn ≡ c) ⊎ (e.conn ≢ c) → before (heard_in (Heard e ∷ H) c t) ≡ false
    by (inl same) = ap before (heard_more H e c t own l.1 is same) ∙ here same
    by (inr apart) = ap (λ J. before (of_tenure t J)) (heard_other H e c apart) ∙ past

pub spent_beside : (before : List Entry → Bool) (H : List Event) (e : Entry) (n : ℕ) → Lawful (Heard e ∷ H) → StaysPast before H e n → n ≢ e.call_no → Spent before H n → Spent before (Heard e ∷ H) n
spent_beside before H e n l stays apart s = record {
  settled = λ u. ap (λ r. is_some r.decided) (other_heard H e n apart) ∙ s.settled u;
  content = s.content;
  past_it = λ c t own is number. past_here before H e n l stays c t own is number (s.past_it c t own is number);
}

-- Is true if the answer to the call itself settles its reply.
abbrev pub settled_by : List Event → Entry → Bool
settled_by H e =
    is_some (decision (trying_of H e.call_no) e.call e.answer (decided H e.call_no))

-- An answer to the call itself leaves it spent if the answer settles the reply and the call is past its work.
pub spent_now : (before : List Entry → Bool) (H : List Event) (e : Entry) (own : Owner) → Lawful (Heard e ∷ H) → e.call_no ≢ 0 → place H e.conn ≡ Some (Lent e.tenure own) → number_of own ≡ e.call_no → asks (work H e.call_no) ≡ true
    → before (e ∷ heard_in H e.conn e.tenure) ≡ false → settled_by H e ≡ true → Spent before (Heard e ∷ H) e.call_no
spent_now before H e own l some lent number asking done decides = record {
  settled = λ unfinished. ap (λ o. is_some o) (own_record H e (not_looking (work H e.call_no) asking) some) ∙ decides;
  content = ap (λ k. wanted k (pool H)) (sym number) ∙ lent_wants_none H e.conn e.tenure own l.0 lent;
  past_it = λ c t other is its.
      let one = one_place H e.conn e.tenure c t own other l.0 lent is (number ∙ sym its) in
      let here : before (e ∷ heard_in H c t) ≡ false = subst (λ d. before (e ∷ heard_in H d t) ≡ false) one.0 (subst (λ v. before (e ∷ heard_in H e.conn v) ≡ false) one.1 done) in
      ap before (heard_more H e c t other l.1 is one.0) ∙ here;
}

-- Every other event leaves it spent. A spent call gets no further connection, and keeps what is past on the one
-- that it has.

pub spent_on : (before : List Entry → Bool) (H : List Event) (e : Event) (n : ℕ) → Lawful (e ∷ H) → is_answer e ≡ false → n ≢ 0 → (work H n ≡ Look → ⊥) → Spent before H n → Spent before (e ∷ H) n
spent_on before H e n l quiet some busy s = record {
  settled = λ u. ap (λ r. is_some r.decided) (record_stays H e n l.1 quiet busy u) ∙ s.settled (was_unfinished H e n l.1 busy u);
  content = wants_no_more H e n l.1 some (spent_asks_not before H n s) s.content;
  past_it = λ c t own is number. ap (λ J. before (of_tenure t J)) (heard_same H e c quiet) ∙ past c t own number (lent_before H e c t own l.0 is);
}
  where
    lends_none : (c t : ℕ) (own : Owner) → number_of own ≡ n → Lends e c t own → ⊥
    lends_none c t own number lends =
        let a : Allowed H (Pool (Lend c t own lends.0)) = subst (λ x. Allowed H x) lends.1 l.1 in
        let its : lends.0 ≡ n = lends_to H c t own lends.0 a ∙ number in
        lent_nothing H c t own n l.0 (subst (λ j. Allowed H (Pool (Lend c t own j))) its a) (spent_asks_not before H n s) s.content

    past : (c t : ℕ) (own : Owner) → number_of own ≡ n → (place H c ≡ Some (Lent t own)) ⊎ Lends e c t own → before (heard_in H c t) ≡ false
    past c t own number (inl was) = s.past_it c t own was number
    past c t own number (inr lends) = absurd (lends_none c t own number lends)

-- What is sent in a tenure of a call on the database.

pub sent_with : (H : List Event) (e : Entry) (own : Owner) (w : Wish) → Lawful (Heard e ∷ H) → place H e.conn ≡ Some (Lent e.tenure own) → is_call own ≡ true → is_due (call_line H e.conn e.tenure own w) e.call ≡ true
    → SentAt (caps H) (asked_by H (number_of own)) w (step (heard_in H e.conn e.tenure)) (exchanges (heard_in H e.conn e.tenure)) e.call e.answer
sent_with H e own w l lent call due = record {
  before = made;
  after = made_on (caps H) (is_reset_due H e.conn) asked w L e.call e.answer made sent (together (fits_of e.call e.answer) (not (is_memory e.answer)) fits.0 (ap not fits.1));
  next = goes_due (caps H) (is_reset_due H e.conn) asked w L e.call made sent;
  over = λ rows handed. due_over (caps H) (is_reset_due H e.conn) asked w L e.call rows handed made sent;
  sent = sent_of (call_line H e.conn e.tenure own w) e.call sent;
  fit = fits.0;
  heard = fits.1;
}
  where
    fits : (fits_of e.call e.answer ≡ true) × (is_memory e.answer ≡ false)
    fits = fitting H e l.1

    asked : Asked
    asked = asked_by H (number_of own)

    L : List Entry
    L = heard_in H e.conn e.tenure

    made : MadeAt (caps H) (asked_by H (number_of own)) (step (heard_in H e.conn e.tenure)) (exchanges (heard_in H e.conn e.tenure))
    made = let s = sound H l.0 in let f = s.facts in f.made e.conn e.tenure own lent call

    sent : is_due_in_line (call_line H e.conn e.tenure own w) e.call ≡ true
    sent = plain_due (call_line H e.conn e.tenure own w) e.call (line_plain (caps H) (is_reset_due H e.conn) (asked_by H (number_of own)) w (heard_in H e.conn e.tenure)) due

-- The driver call is one that the tenure's step permits, whoever sends it.
pub goes_there : (H : List Event) (e : Entry) (own : Owner) → Lawful (Heard e ∷ H) → place H e.conn ≡ Some (Lent e.tenure own) → is_call own ≡ true → goes (step (heard_in H e.conn e.tenure)) e.call ≡ true
goes_there H e own l lent call =
    let x = under_way H e e.tenure own l lent in
    let u = x.0 in
    let w = u.line (ap is_call x.1 ∙ call) in
    let due : is_due (call_line H e.conn e.tenure own w.0) e.call ≡ true = subst (λ o. is_due (call_line H e.conn e.tenure o w.0) e.call ≡ true) x.1 w.1 in
    let s = sent_with H e own w.0 l lent call due in
    s.next

-- What holds when the call itself sends.
pub record OwnSent (H : List Event) (e : Entry) : Type 0 where
  pub owner : Owner
  pub lent : place H e.conn ≡ Some (Lent e.tenure owner)
  pub number : number_of owner ≡ e.call_no
  pub call : is_call owner ≡ true
  pub unfinished : is_unfinished H e.call_no ≡ true
  pub due : is_due_in_line (line_after (caps H) (is_reset_due H e.conn) (asked_by H e.call_no) wishes.Nothing (heard_in H e.conn e.tenure)) e.call ≡ true
  pub sent : SentAt (caps H) (asked_by H e.call_no) wishes.Nothing (step (heard_in H e.conn e.tenure)) (exchanges (heard_in H e.conn e.tenure)) e.call e.answer

pub own_sent : (H : List Event) (e : Entry) → Lawful (Heard e ∷ H) → e.call_no ≢ 0 → asks (work H e.call_no) ≡ true → begins (work H e.call_no) ≡ false → OwnSent H e
own_sent H e l some asking unbegun =
    let there = heard_there H e l.1 in
    let numbered = other_number e.call_no 0 some in
    by (own_way H e l.0 (comes H e (place H e.conn) there.sets there.line numbered) numbered asking)
  where
    by : OwnWay H e → OwnSent H e
    by w =
        let L = heard_in H e.conn e.tenure in
        let call = plain_call H e.conn e.tenure w.owner l.0 w.lent (ap (λ k. begins (work H k)) w.own ∙ unbegun) in
        let due : is_due (call_line H e.conn e.tenure w.owner wishes.Nothing) e.call ≡ true = ap (λ d. is_due d e.call) (sym (line_of_call H e.conn e.tenure w.owner wishes.Nothing l.0 w.lent call)) ∙ w.due in
        let line : is_due_in_line (call_line H e.conn e.tenure w.owner wishes.Nothing) e.call ≡ true =
        plain_due (call_line H e.conn e.tenure w.owner wishes.Nothing) e.call (line_plain (caps H) (is_reset_due H e.conn) (asked_by H (number_of w.owner)) wishes.Nothing L) due
        in
        record {
          owner = w.owner;
          lent = w.lent;
          number = w.own;
          call = call;
          unfinished = w.unfinished;
          due = subst (λ k. is_due_in_line (line_after (caps H) (is_reset_due H e.conn) (asked_by H k) wishes.Nothing (heard_in H e.conn e.tenure)) e.call ≡ true) w.own line;
          sent =
              subst (λ k. SentAt (caps H) (asked_by H k) wishes.Nothing (step (heard_in H e.conn e.tenure)) (exchanges (heard_in H e.conn e.tenure)) e.call e.answer) w.own
              (sent_with H e w.owner wishes.Nothing l w.lent call due);
        }

nothing_fetched : wishes.Nothing ≡ wishes.Fetch → ⊥
nothing_fetched h = cc

-- A call that is past its work by a test of how far its tenure has come.

-- Holds if a tenure that is past the work stays so, whatever is sent.
abbrev pub StepsPast : (Step → Bool) → Type 0
StepsPast before = (s : Step) (q : DriverCall) (a : DriverAnswer) → goes s q ≡ true → before s ≡ false → before (step_after s q a) ≡ false

abbrev pub by_step : (Step → Bool) → List Entry → Bool
by_step before L = before (step L)

pub steps_past : (before : Step → Bool) → StepsPast before → (H : List Event) (e : Entry) (n : ℕ) → Lawful (Heard e ∷ H) → begins (work H n) ≡ false → StaysPast (by_step before) H e n
steps_past before steps H e n l unbegun = λ own is number past.
    let call = plain_call H e.conn e.tenure own l.0 is (ap (λ k. begins (work H k)) number ∙ unbegun) in
    steps (step (heard_in H e.conn e.tenure)) e.call e.answer (goes_there H e own l is call) past

-- A spent call stays spent unless the answer to it undoes what it had settled.
pub spent_own : (before : Step → Bool) → StepsPast before → ((s : Step) → before s ≡ false → is_before_end s ≡ false) → (H : List Event) (e : Entry) → Lawful (Heard e ∷ H) → e.call_no ≢ 0 → asks (work H e.call_no) ≡ true
    → begins (work H e.call_no) ≡ false → (u : OwnSent H e)
    → ((rows : ℕ) → before (step (heard_in H e.conn e.tenure)) ≡ false → e.call ≡ Next rows → (is_tried (work H e.call_no) (Next rows) && is_bad e.answer) ≡ false)
    → Spent (by_step before) H e.call_no → Spent (by_step before) (Heard e ∷ H) e.call_no
spent_own before steps more H e l some asking unbegun u good s =
    let n = e.call_no in
    let L = heard_in H e.conn e.tenure in
    let x = u.sent in
    let past = s.past_it e.conn e.tenure u.owner u.lent u.number in
    spent_now (by_step before) H e u.owner l some u.lent u.number asking (steps (step L) e.call e.answer x.next past)
    (stays_decided (trying_of H n) (caps H) (asked_by H n).text (asked_by H n).params (work H n) wishes.Nothing (step L) (exchanges L) e.call e.answer (decided H n) asking
    unbegun (λ rows is. good rows past is) nothing_fetched x (more (step L) past) (s.settled u.unfinished))
