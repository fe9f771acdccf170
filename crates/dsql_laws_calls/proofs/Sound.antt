-- What holds of lent connections and of what is under way there, in each lawful history.
use Rattle.std.proofs.Common.{◌≡◌, ◌≢◌, ℕ, ◌==◌, ◌⊎◌, inl, inr, Bool, true, false, not, ◌&&◌, ◌||◌, cond, List, [], ◌∷◌, Option, Some, None, is_some, refl, sym, ap, subst, ◌∙◌}
use Rattle.dsql_laws.specs.driver.Kinds.{is_ending, is_bad}
use Rattle.dsql_laws.specs.course.declared.course.Wish.{Wish}
use Rattle.dsql_laws.specs.course.declared.course.Wish.TheVariants as wishes
use Rattle.dsql_laws.specs.course.Made.{Exchange, own_cursor, or_else}
use Rattle.dsql_laws.specs.journal.declared.entry.Entry.{Entry}
use Rattle.dsql_laws.specs.journal.declared.entry.Owner.{Owner}
use Rattle.dsql_laws.specs.journal.Kinds.{is_call, number_of}
use Rattle.dsql_laws.specs.journal.Readers.{went_bad, of_tenure}
use Rattle.dsql_laws.specs.pool.declared.conn.Place.TheVariants.{Lent}
use Rattle.dsql_laws.specs.works.Exchanges.{exchanges, step_of, with_exchange, got_of}
use Rattle.dsql_laws.specs.works.Line.{handed, Asked, sent_as}
use Rattle.dsql_laws.specs.works.declared.work.Aim.{Aim}
use Rattle.dsql_laws.specs.works.declared.work.Aim.TheVariants as aims
use Rattle.dsql_laws_work.proofs.CallLines.{step}
use Rattle.dsql_laws_work.proofs.MadeLines.{MadeAt}
use Rattle.dsql_laws.specs.history.Rules.Wishes.{newest_sender}
use Rattle.dsql_laws.proofs.Tests.{same_number, same_itself, together}
use Rattle.dsql_laws.specs.history.declared.event.Event.{Event}
use Rattle.dsql_laws.specs.history.declared.work.Scope.TheVariants.{Held}
use Rattle.dsql_laws.specs.history.declared.work.Work.{Work}
use Rattle.dsql_laws.specs.history.Readers.Course.{caps}
use Rattle.dsql_laws.specs.history.Readers.Unfinished.{is_unfinished}
use Rattle.dsql_laws.specs.history.Readers.Works.{work, scope, aim_of}
use Rattle.dsql_laws.specs.history.Readers.Journals.{journal, heard_in}
use Rattle.dsql_laws.specs.history.Readers.Lines.{is_about, line_among, line_in, has_sent}
use Rattle.dsql_laws.specs.history.Readers.Pool.{place}
use Rattle.dsql_laws.specs.history.Readers.Transactions.{is_begun, is_over}
use Rattle.dsql_laws.specs.history.Rules.Sent.{is_reset_due, asked_by, inner_after, untested, sender}
use Rattle.dsql_laws.specs.history.Rules.Line.{is_due, may_come, sends_from}
use Rattle.dsql_laws.specs.history.Legal.{Lawful, Allowed}
use Rattle.dsql_laws_calls.proofs.Owners.{lent_asks}
use Rattle.dsql_laws_calls.proofs.Begun.{begun_begins, stays_over}
use Rattle.dsql_laws_calls.proofs.Plain.{no_ending_due, with_ends, line_plain}
use Rattle.dsql_laws_calls.proofs.Lines.{line_there, caps_stay}
use Rattle.dsql_laws_calls.proofs.Own.{some_due}
use Rattle.dsql_laws_calls.proofs.Inside.{inside, inside_busy, number_not}
use Rattle.dsql_laws_calls.proofs.Beginnings.{begin_owner, lent_once_begun}
use Rattle.dsql_laws_calls.proofs.Quiet.{Quiet, quiet_sends_none, next_inside, inner_is, quiet_bad, quiet_more, quiet_now, ordered_more}
use Rattle.dsql_laws_calls.proofs.InnerLines.{Ordered}
use Rattle.dsql_laws_calls.proofs.CallTenures.{call_line, plain_due}
use Rattle.dsql_laws_calls.proofs.Why.{ended_there}
use Rattle.dsql_laws.specs.driver.declared.caps.Caps.{Caps}
use Rattle.dsql_laws.specs.driver.declared.answer.DriverAnswer.{DriverAnswer}
use Rattle.dsql_laws.specs.driver.Fits.{fits_of, is_memory}
use Rattle.dsql_laws.specs.journal.Facts.{MayFollow}
use Rattle.dsql_laws.proofs.journal.Sentences.{MayFollow-of}
use Rattle.dsql_laws.specs.pool.declared.moves.Move.TheVariants.{Lend}
use Rattle.dsql_laws.specs.course.Made as courses_made
use Rattle.dsql_laws.specs.course.declared.call.Due.{Due}
use Rattle.dsql_laws_work.proofs.Lines.{made_on}
use Rattle.dsql_laws.specs.history.declared.event.Event.TheVariants.{Heard, Pool}
use Rattle.dsql_laws_calls.proofs.Lent.{lent_before}
use Rattle.dsql_laws_calls.proofs.Stays.{asked_stays, not_looking}
use Rattle.dsql_laws_calls.proofs.Tenures.{fresh_lending}
use Rattle.dsql_laws_calls.proofs.Looks.{heard_there, comes}
use Rattle.dsql_laws_calls.proofs.BeginningsAt.{is_answer, heard_same, was_unfinished, heard_tenure, heard_more, beginnings}
use Rattle.dsql_laws_calls.proofs.LineParts.{fits_heard, grows, grows_own, unsent_line, unsent_in, known_bad, heard_follows}
use Rattle.dsql_laws_calls.proofs.UnderWay.{line_made, handed_there, Going, Facts, InsideWay, UnderWay, clash}
use Rattle.dsql_laws_calls.proofs.DueWay as of_due
use Rattle.dsql_laws_calls.proofs.DueWay.{inner_line}
use Rattle.dsql_laws_calls.proofs.StaysUnderWay.{sender_work}

pub record Sound (H : List Event) : Type 0 where
  pub facts : Facts H
  pub coming : (e : Entry) → may_come H e ≡ true → UnderWay H e

-- What stays true of a call if nothing was heard for it on the connection.

quiet_as : (ca cb : Caps) (x y : Asked) (t m : ℕ) (J M : List Entry) → cb ≡ ca → y ≡ x → M ≡ J → Quiet ca (went_bad J) x (exchanges (line_among m (of_tenure t J))) → Quiet cb (went_bad M) y (exchanges (line_among m (of_tenure t M)))
quiet_as ca cb x y t m J M a b c q = rw (a, b, c) q

ordered_as : (x y : Asked) (t m : ℕ) (J M : List Entry) → y ≡ x → M ≡ J → (x.aim ≡ aims.ReadOne → went_bad J ≡ false → Ordered (exchanges (line_among m (of_tenure t J)))) → y.aim ≡ aims.ReadOne → went_bad M ≡ false → Ordered (exchanges (line_among m (of_tenure t M)))
ordered_as x y t m J M a b h = rw (a, b) h

handed_as : (v w : Work) (t m : ℕ) (J M : List Entry) → w ≡ v → M ≡ J → is_some (handed (aim_of v) (exchanges (line_among m (of_tenure t J)))) ≡ true → is_some (handed (aim_of w) (exchanges (line_among m (of_tenure t M)))) ≡ true
handed_as v w t m J M a b h = rw (a, b) h

going_as : (H K : List Event) (c t m : ℕ) → caps K ≡ caps H → asked_by K m ≡ asked_by H m → work K m ≡ work H m → journal K c ≡ journal H c → Going H c t m → Going K c t m
going_as H K c t m can asked it J (inl h) = inl (handed_as (work H m) (work K m) t m (journal H c) (journal K c) it J h)
going_as H K c t m can asked it J (inr (inl n)) = inr (inl (record {
  sender = ap (λ L. newest_sender (of_tenure t L)) J ∙ n.sender;
  none = ap (λ L. ended_there (of_tenure t L)) J ∙ n.none;
  ordered = ordered_as (asked_by H m) (asked_by K m) t m (journal H c) (journal K c) asked J n.ordered;
}))
going_as H K c t m can asked it J (inr (inr q)) = inr (inr (quiet_as (caps H) (caps K) (asked_by H m) (asked_by K m) t m (journal H c) (journal K c) can asked J q))

was_over : (H : List Event) (e : Event) (n : ℕ) → is_over (e ∷ H) n ≡ false → is_over H n ≡ false
was_over H e n h = by (is_over H n) refl
  where
    by : (b : Bool) → is_over H n ≡ b → b ≡ false
    by true is = clash (sym (stays_over H e n is) ∙ h)
    by false is = refl

made_as : (ca cb : Caps) (x y : Asked) (L M : List Entry) → cb ≡ ca → y ≡ x → M ≡ L → MadeAt ca x (step L) (exchanges L) → MadeAt cb y (step M) (exchanges M)
made_as ca cb x y L M p q r m = rw (p, q, r) m

made_none : (can : Caps) (asked : Asked) (L : List Entry) → L ≡ [] → MadeAt can asked (step L) (exchanges L)
made_none can asked L none = rw none refl

-- The event leaves the connection's journal as it was.

pub ends_same : (H : List Event) (e : Event) → Sound H → (c t : ℕ) (own : Owner) → place H c ≡ Some (Lent t own) → journal (e ∷ H) c ≡ journal H c → is_over (e ∷ H) (number_of own) ≡ false → ended_there (heard_in (e ∷ H) c t) ≡ false
ends_same H e s c t own is J on = let f = s.facts in ap (λ L. ended_there (of_tenure t L)) J ∙ f.ends c t own is (was_over H e (number_of own) on)

pub going_same : (H : List Event) (e : Event) → Lawful (e ∷ H) → Sound H → (c t : ℕ) (own : Owner) → place H c ≡ Some (Lent t own) → journal (e ∷ H) c ≡ journal H c → (m : ℕ) → scope (work (e ∷ H) m) ≡ Held (number_of own)
    → is_unfinished (e ∷ H) m ≡ true → has_sent m (journal (e ∷ H) c) ≡ true → Going (e ∷ H) c t m
going_same H e l s c t own is J m inner u sent =
    let f = s.facts in
    let before : has_sent m (journal H c) ≡ true = sym (ap (has_sent m) J) ∙ sent in
    let same = sender_work H e m c (number_of own) l before inner in
    let was : scope (work H m) ≡ Held (number_of own) = sym (ap scope same) ∙ inner in
    let busy = inside_busy (work H m) (number_of own) was in
    going_as H (e ∷ H) c t m (caps_stay H e c (Lent t own) l.1 is) (asked_stays H e m busy) same J (f.going c t own is m was (was_unfinished H e m l.1 busy u) before)

pub made_same : (H : List Event) (e : Event) → Lawful (e ∷ H) → Sound H → (c t : ℕ) (own : Owner) → place H c ≡ Some (Lent t own) → journal (e ∷ H) c ≡ journal H c → is_call own ≡ true
    → MadeAt (caps (e ∷ H)) (asked_by (e ∷ H) (number_of own)) (step (heard_in (e ∷ H) c t)) (exchanges (heard_in (e ∷ H) c t))
made_same H e l s c t own is J call =
    let f = s.facts in
    made_as (caps H) (caps (e ∷ H)) (asked_by H (number_of own)) (asked_by (e ∷ H) (number_of own)) (heard_in H c t) (heard_in (e ∷ H) c t) (caps_stay H e c (Lent t own) l.1 is)
    (asked_stays H e (number_of own) (not_looking (work H (number_of own)) (lent_asks H c t own l.0 is))) (ap (of_tenure t) J) (f.made c t own is call)

-- The event isn't an answer.

pub quiet_facts : (H : List Event) (e : Event) → Lawful (e ∷ H) → is_answer e ≡ false → Sound H → Facts (e ∷ H)
quiet_facts H e l none s = record {
  ends = λ c t own is on.
      elim (lent_before H e c t own l.0 is) [
        | inl before ↦ ends_same H e s c t own before (heard_same H e c none) on
        | inr w ↦ ap ended_there (fresh c t own w.0 w.1)
      ];
  going = λ c t own is m inner u sent.
      elim (lent_before H e c t own l.0 is) [
        | inl before ↦ going_same H e l s c t own before (heard_same H e c none) m inner u sent
        | inr w ↦ begun_before c t own w.0 w.1 m inner sent
      ];
  made = λ c t own is call.
      elim (lent_before H e c t own l.0 is) [
        | inl before ↦ made_same H e l s c t own before (heard_same H e c none) call
        | inr w ↦ made_none (caps (e ∷ H)) (asked_by (e ∷ H) (number_of own)) (heard_in (e ∷ H) c t) (fresh c t own w.0 w.1)
      ];
}
  where
    fresh : (c t : ℕ) (own : Owner) (k : ℕ) → e ≡ Pool (Lend c t own k) → heard_in (e ∷ H) c t ≡ []
    fresh c t own k is = ap (of_tenure t) (heard_same H e c none) ∙ fresh_lending H c t own k l.0 (subst (λ x. Allowed H x) is l.1)

    begun_before : (c t : ℕ) (own : Owner) (k : ℕ) → e ≡ Pool (Lend c t own k) → (m : ℕ) → scope (work (e ∷ H) m) ≡ Held (number_of own) → has_sent m (journal (e ∷ H) c) ≡ true → Going (e ∷ H) c t m
    begun_before c t own k is m inner sent =
        let before : has_sent m (journal H c) ≡ true = sym (ap (has_sent m) (heard_same H e c none)) ∙ sent in
        let same = sender_work H e m c (number_of own) l before inner in
        let i = inside H l.0 in
        let begun = i.sent m (number_of own) c before (sym (ap scope same) ∙ inner) in
        absurd (lent_once_begun H c t own k l.0 (subst (λ x. Allowed H x) is l.1) (beginnings H l.0) begun)

-- The event is an answer.

pub same_lent : (t u : ℕ) (o p : Owner) → Some (Lent t o) ≡ Some (Lent u p) → (t ≡ u) × (o ≡ p)
same_lent t u o p h = (cc, cc)

-- Holds if what is heard on a connection that is lent to this owner was under way there.
pub record WasUnderWay (H : List Event) (e : Entry) (own : Owner) : Type 0 where
  pub way : UnderWay H e
  pub owner : way.owner ≡ own

pub was_under_way : (H : List Event) (e : Entry) (t : ℕ) (own : Owner) → Allowed H (Heard e) → Sound H → place H e.conn ≡ Some (Lent t own) → WasUnderWay H e own
was_under_way H e t own a s is =
    let there = heard_there H e a in
    let line : sends_from H (Some (Lent t own)) e ≡ true = subst (λ at. sends_from H at e ≡ true) is there.line in
    let u = s.coming e line in
    let same = same_lent e.tenure t u.owner own (sym u.lent ∙ is) in
    record { way = u; owner = same.1 }

pub ends_heard : (H : List Event) (e : Entry) → Lawful (Heard e ∷ H) → Sound H → (c t : ℕ) (own : Owner) → place H c ≡ Some (Lent t own) → e.conn ≡ c → is_over (Heard e ∷ H) (number_of own) ≡ false → ended_there (heard_in (Heard e ∷ H) c t) ≡ false
ends_heard H e l s c t own is here on =
    let f = s.facts in
    let w = was_under_way H e t own l.1 s (ap (place H) here ∙ is) in
    let u = w.way in
    let before = was_over H (Heard e) (number_of own) on in
    ap ended_there (heard_more H e c t own l.1 is here) ∙ by (is_ending e.call) refl (λ h. clash (sym (ap (λ o. is_over H (number_of o)) (sym w.owner) ∙ u.ending h) ∙ before)) (f.ends c t own is before)
  where
    by : (b : Bool) → is_ending e.call ≡ b → (is_ending e.call ≡ true → b ≡ false) → ended_there (heard_in H c t) ≡ false → (is_ending e.call || ended_there (heard_in H c t)) ≡ false
    by true i h k = let x = h i in absurd cc
    by false i h k = ap (λ x. x || ended_there (heard_in H c t)) i ∙ k

pub fitting : (H : List Event) (e : Entry) → Allowed H (Heard e) → (fits_of e.call e.answer && not (is_memory e.answer)) ≡ true
fitting H e a = let m : MayFollow (journal H e.conn) e = MayFollow-of (journal H e.conn) e (heard_follows H e a) in together (fits_of e.call e.answer) (not (is_memory e.answer)) m.answer.fitting m.answer.heard

pub made_heard : (H : List Event) (e : Entry) → Lawful (Heard e ∷ H) → Sound H → (c t : ℕ) (own : Owner) → place H c ≡ Some (Lent t own) → e.conn ≡ c → is_call own ≡ true
    → MadeAt (caps (Heard e ∷ H)) (asked_by (Heard e ∷ H) (number_of own)) (step (heard_in (Heard e ∷ H) c t)) (exchanges (heard_in (Heard e ∷ H) c t))
made_heard H e l s c t own is here call =
    let f = s.facts in
    let w = was_under_way H e t own l.1 s (ap (place H) here ∙ is) in
    let tenure = heard_tenure H e t own l.1 (ap (place H) here ∙ is) in
    let asked = asked_by H (number_of own) in
    let x = line_to w.way w.owner in
    let due : is_due (call_line H c t own x.0) e.call ≡ true = subst (λ d. is_due (call_line H d t own x.0) e.call ≡ true) here (subst (λ d. is_due (call_line H e.conn d own x.0) e.call ≡ true) tenure x.1) in
    let sent = plain_due (call_line H c t own x.0) e.call (line_plain (caps H) (is_reset_due H c) asked x.0 (heard_in H c t)) due in
    made_as (caps H) (caps (Heard e ∷ H)) asked (asked_by (Heard e ∷ H) (number_of own)) (e ∷ heard_in H c t) (heard_in (Heard e ∷ H) c t) refl
    (asked_stays H (Heard e) (number_of own) (not_looking (work H (number_of own)) (lent_asks H c t own l.0 is))) (heard_more H e c t own l.1 is here)
    (made_on (caps H) (is_reset_due H c) asked x.0 (heard_in H c t) e.call e.answer (f.made c t own is call) sent (fitting H e l.1))
  where
    line_to : (u : UnderWay H e) → u.owner ≡ own → (w : Wish) × (is_due (call_line H e.conn e.tenure own w) e.call ≡ true)
    line_to u same = let x = u.line (ap is_call same ∙ call) in (x.0, subst (λ o. is_due (call_line H e.conn e.tenure o x.0) e.call ≡ true) same x.1)

-- A call in a transaction.

quiet_lists : (can : Caps) (x y : Asked) (m : ℕ) (J N L M : List Entry) → y ≡ x → N ≡ J → M ≡ L → Quiet can (went_bad J) x (exchanges (line_among m L)) → Quiet can (went_bad N) y (exchanges (line_among m M))
quiet_lists can x y m J N L M a b c q = rw (a, b, c) q

ordered_lists : (x y : Asked) (m : ℕ) (J N L M : List Entry) → y ≡ x → N ≡ J → M ≡ L → (x.aim ≡ aims.ReadOne → went_bad J ≡ false → Ordered (exchanges (line_among m L))) → y.aim ≡ aims.ReadOne → went_bad N ≡ false → Ordered (exchanges (line_among m M))
ordered_lists x y m J N L M a b c h = rw (a, b, c) h

handed_more : (w : Work) (m : ℕ) (e : Entry) (L : List Entry) → is_some (handed (aim_of w) (exchanges (line_among m L))) ≡ true → is_some (handed (aim_of w) (exchanges (line_among m (e ∷ L)))) ≡ true
handed_more w m e L h = by (grows m e L)
  where
    or_own : (g o : Option ℕ) → is_some o ≡ true → is_some (or_else g o) ≡ true
    or_own None o k = k
    or_own (Some r) o k = refl

    more : (aim : Aim) (o : Option Due) (a : DriverAnswer) (made : List Exchange) → is_some (handed aim made) ≡ true → is_some (handed aim (with_exchange o a made)) ≡ true
    more aim None a made k = k
    more aims.HandOut (Some d) a made k = or_own (courses_made.given_cursor (got_of a)) (own_cursor made) k
    more _ (Some d) a made k = absurd cc

    by : (line_among m (e ∷ L) ≡ line_among m L) ⊎ ((line_among m (e ∷ L) ≡ e ∷ line_among m L) × (((e.call_no == m) ≡ true) ⊎ (is_about (exchanges (line_among m L)) e.call ≡ true)))
        → is_some (handed (aim_of w) (exchanges (line_among m (e ∷ L)))) ≡ true
    by (inl same) = ap (λ line. is_some (handed (aim_of w) (exchanges line))) same ∙ h
    by (inr x) = ap (λ line. is_some (handed (aim_of w) (exchanges line))) x.0 ∙ more (aim_of w) (step_of e.call) e.answer (exchanges (line_among m L)) h

none_some : {A : Type 0} (o : Option A) → is_some o ≡ false → o ≡ None
none_some None h = refl
none_some (Some x) h = absurd cc

read_unhanded : (aim : Aim) (made : List Exchange) → aim ≡ aims.ReadOne → handed aim made ≡ None
read_unhanded aim made is = ap (λ a. handed a made) is

record At (H : List Event) (e : Entry) (c t : ℕ) (own : Owner) (m : ℕ) : Type 0 where
  lent : place H c ≡ Some (Lent t own)
  here : e.conn ≡ c
  inner : scope (work H m) ≡ Held (number_of own)
  begun : is_begun H (number_of own) ≡ true
  unfinished : is_unfinished H m ≡ true

going_handed : (H : List Event) (e : Entry) (c t : ℕ) (own : Owner) (m : ℕ) → Lawful (Heard e ∷ H) → At H e c t own m → handed_there H c t m ≡ true → Going (Heard e ∷ H) c t m
going_handed H e c t own m l p h = inl (ap (λ L. is_some (handed (aim_of (work H m)) (exchanges (line_among m L)))) (heard_more H e c t own l.1 p.lent p.here) ∙ handed_more (work H m) m e (heard_in H c t) h)

journal_more : (H : List Event) (e : Entry) (c : ℕ) → e.conn ≡ c → journal (Heard e ∷ H) c ≡ e ∷ journal H c
journal_more H e c here = ap (λ b. cond b (e ∷ journal H c) (journal H c)) (ap (λ j. j == c) here ∙ same_itself c)

asked_same : (H : List Event) (e : Entry) (own : Owner) (c t m : ℕ) → At H e c t own m → asked_by (Heard e ∷ H) m ≡ asked_by H m
asked_same H e own c t m p = asked_stays H (Heard e) m (inside_busy (work H m) (number_of own) p.inner)

going_quiet : (H : List Event) (e : Entry) (c t : ℕ) (own : Owner) (m : ℕ) → Lawful (Heard e ∷ H) → At H e c t own m → (e.call_no == m) ≡ false → Quiet (caps H) (went_bad (journal H c)) (asked_by H m) (line_made H c t m) → Going (Heard e ∷ H) c t m
going_quiet H e c t own m l p other q =
    inr (inr (quiet_lists (caps H) (asked_by H m) (asked_by (Heard e ∷ H) m) m (e ∷ journal H c) (journal (Heard e ∷ H) c) (e ∷ heard_in H c t) (heard_in (Heard e ∷ H) c t)
    (asked_same H e own c t m p) (journal_more H e c p.here) (heard_more H e c t own l.1 p.lent p.here) (by (grows m e (heard_in H c t)))))
  where
    worse : went_bad (journal H c) ≡ true → went_bad (e ∷ journal H c) ≡ true
    worse h = later (is_bad e.answer)
      where
        later : (b : Bool) → (b || went_bad (journal H c)) ≡ true
        later true = refl
        later false = h

    by : (line_among m (e ∷ heard_in H c t) ≡ line_among m (heard_in H c t)) ⊎ ((line_among m (e ∷ heard_in H c t) ≡ e ∷ line_among m (heard_in H c t)) × (((e.call_no == m) ≡ true) ⊎ (is_about (exchanges (line_among m (heard_in H c t))) e.call ≡ true)))
        → Quiet (caps H) (went_bad (e ∷ journal H c)) (asked_by H m) (exchanges (line_among m (e ∷ heard_in H c t)))
    by (inl same) =
        subst (λ line. Quiet (caps H) (went_bad (e ∷ journal H c)) (asked_by H m) (exchanges line)) (sym same)
        (quiet_bad (caps H) (went_bad (journal H c)) (went_bad (e ∷ journal H c)) (asked_by H m) (line_made H c t m) worse q)
    by (inr (same, inl own_one)) = clash (sym own_one ∙ other)
    by (inr (same, inr about)) =
        subst (λ line. Quiet (caps H) (went_bad (e ∷ journal H c)) (asked_by H m) (exchanges line)) (sym same)
        (quiet_bad (caps H) (went_bad (journal H c)) (went_bad (e ∷ journal H c)) (asked_by H m) (exchanges (e ∷ line_among m (heard_in H c t))) worse
        (quiet_more (caps H) (went_bad (journal H c)) (asked_by H m) e (line_among m (heard_in H c t)) about (fits_heard H e l.1) q))

-- The answer is another call's.
going_other : (H : List Event) (e : Entry) (c t : ℕ) (own : Owner) (m : ℕ) → Lawful (Heard e ∷ H) → Sound H → At H e c t own m → (e.call_no == m) ≡ false → Going H c t m → Going (Heard e ∷ H) c t m
going_other H e c t own m l s p other (inl h) = going_handed H e c t own m l p h
going_other H e c t own m l s p other (inr (inr q)) = going_quiet H e c t own m l p other q
going_other H e c t own m l s p other (inr (inl n)) = by (handed_there H c t m) refl
  where
    apart : m ≢ e.call_no
    apart same = clash (sym (ap (λ j. j == m) (sym same) ∙ same_itself m) ∙ other)

    silent : is_some (line_there H c t own m wishes.Nothing) ≡ false
    silent =
        let w = was_under_way H e t own l.1 s (ap (place H) p.here ∙ p.lent) in
        let tenure = heard_tenure H e t own l.1 (ap (place H) p.here ∙ p.lent) in
        turn w.way w.owner tenure
      where
        turn : (u : UnderWay H e) → u.owner ≡ own → e.tenure ≡ t → is_some (line_there H c t own m wishes.Nothing) ≡ false
        turn u same tenure =
            let newest : newest_sender (heard_in H e.conn e.tenure) ≡ m = subst (λ d. newest_sender (heard_in H d e.tenure) ≡ m) (sym p.here) (subst (λ v. newest_sender (heard_in H c v) ≡ m) (sym tenure) n.sender) in
            let inner : scope (work H m) ≡ Held (number_of u.owner) = subst (λ o. scope (work H m) ≡ Held (number_of o)) (sym same) p.inner in
            let none = u.turn m apart newest inner p.unfinished in
            subst (λ o. is_some (line_there H c t o m wishes.Nothing) ≡ false) same
            (subst (λ v. is_some (line_there H c v u.owner m wishes.Nothing) ≡ false) tenure
            (subst (λ d. is_some (line_there H d e.tenure u.owner m wishes.Nothing) ≡ false) p.here none))

    not_call : is_call own ≡ false
    not_call = begin_owner H c t own l.0 p.lent (begun_begins H (number_of own) l.0 p.begun)

    by : (b : Bool) → handed_there H c t m ≡ b → Going (Heard e ∷ H) c t m
    by true is = going_handed H e c t own m l p is
    by false is =
        let bad = went_bad (journal H c) in
        let asked = asked_by H m in
        let unhanded : handed asked.aim (line_made H c t m) ≡ None = none_some (handed asked.aim (line_made H c t m)) is in
        let none = sym (ap (λ d. is_some d) (inner_is (caps H) bad asked wishes.Nothing (line_among m (heard_in H c t)) unhanded)) ∙ (sym (inner_line H c t own m wishes.Nothing (number_of own) not_call p.inner) ∙ silent) in
        going_quiet H e c t own m l p other (quiet_now (caps H) bad asked (line_made H c t m) unhanded none (known_bad m t (journal H c)) n.ordered)

-- The answer is the call's own.
going_own : (H : List Event) (e : Entry) (c t : ℕ) (own : Owner) (m : ℕ) → Lawful (Heard e ∷ H) → At H e c t own m → e.call_no ≡ m → InsideWay H c t own m e.call → (has_sent m (journal H c) ≡ true → Going H c t m) → Going (Heard e ∷ H) c t m
going_own H e c t own m l p its way before = by way.left
  where
    not_call : is_call own ≡ false
    not_call = begin_owner H c t own l.0 p.lent (begun_begins H (number_of own) l.0 p.begun)

    unending : is_ending e.call ≡ false
    unending = no_ending_due (line_there H c t own m wishes.Nothing) e.call (with_ends (sender H m c wishes.Nothing) (line_in own m (heard_in H c t))) way.due

    some_line : is_some (inner_after (caps H) (went_bad (journal H c)) (asked_by H m) wishes.Nothing (line_among m (heard_in H c t))) ≡ true
    some_line =
        sym (inner_line H c t own m wishes.Nothing (number_of own) (begin_owner H c t own l.0 p.lent (begun_begins H (number_of own) l.0 p.begun)) p.inner)
        ∙ some_due (line_there H c t own m wishes.Nothing) e.call way.due

    -- The call's driver calls have come in their order so far.
    so_far : (asked_by H m).aim ≡ aims.ReadOne → went_bad (journal H c) ≡ false → Ordered (line_made H c t m)
    so_far reads good = at (has_sent m (journal H c)) refl
      where
        from : Going H c t m → Ordered (line_made H c t m)
        from (inl h) = clash (sym h ∙ ap (λ o. is_some o) (read_unhanded (asked_by H m).aim (line_made H c t m) reads))
        from (inr (inl n)) = n.ordered reads good
        from (inr (inr q)) = clash (sym some_line ∙ quiet_sends_none (caps H) (went_bad (journal H c)) (asked_by H m) wishes.Nothing (line_among m (heard_in H c t)) q)

        at : (b : Bool) → has_sent m (journal H c) ≡ b → Ordered (line_made H c t m)
        at true is = from (before is)
        at false is = subst (λ L. Ordered (exchanges L)) (sym (unsent_line m (heard_in H c t) (unsent_in m t (journal H c) is))) tt

    not_bad : (b : Bool) → (b || went_bad (journal H c)) ≡ false → went_bad (journal H c) ≡ false
    not_bad true h = absurd cc
    not_bad false h = h

    good_line : went_bad (journal H c) ≡ false → courses_made.went_bad (line_made H c t m) ≡ false
    good_line good = at (courses_made.went_bad (line_made H c t m)) refl
      where
        at : (b : Bool) → courses_made.went_bad (line_made H c t m) ≡ b → b ≡ false
        at true is = clash (sym (known_bad m t (journal H c) is) ∙ good)
        at false is = refl

    ordered : (asked_by H m).aim ≡ aims.ReadOne → went_bad (e ∷ journal H c) ≡ false → Ordered (exchanges (line_among m (e ∷ heard_in H c t)))
    ordered reads good =
        let fine = not_bad (is_bad e.answer) good in
        let unhanded = read_unhanded (asked_by H m).aim (line_made H c t m) reads in
        let here = of_due.inner_is H c t own m wishes.Nothing (number_of own) not_call p.inner ∙ inner_is (caps H) (went_bad (journal H c)) (asked_by H m) wishes.Nothing (line_among m (heard_in H c t)) unhanded in
        let due : is_due (sent_as (untested (caps H)) (asked_by H m) (next_inside (caps H) false (asked_by H m) (line_made H c t m))) e.call ≡ true =
        subst (λ b. is_due (sent_as (untested (caps H)) (asked_by H m) (next_inside (caps H) b (asked_by H m) (line_made H c t m))) e.call ≡ true) fine (ap (λ d. is_due d e.call) (sym here) ∙ way.due)
        in
        subst (λ L. Ordered (exchanges L)) (sym (grows_own m e (heard_in H c t) (ap (λ j. j == m) its ∙ same_itself m)))
        (ordered_more (caps H) (asked_by H m) (line_made H c t m) e.call e.answer reads (good_line fine) (so_far reads fine) due (fits_heard H e l.1))

    by : (ended_there (heard_in H c t) ≡ false) ⊎ (handed_there H c t m ≡ true) → Going (Heard e ∷ H) c t m
    by (inl none) =
        let more = heard_more H e c t own l.1 p.lent p.here in
        inr (inl (record {
          sender = ap newest_sender more ∙ its;
          none = ap ended_there more ∙ (ap (λ b. b || ended_there (heard_in H c t)) unending ∙ none);
          ordered = ordered_lists (asked_by H m) (asked_by (Heard e ∷ H) m) m (e ∷ journal H c) (journal (Heard e ∷ H) c) (e ∷ heard_in H c t) (heard_in (Heard e ∷ H) c t) (asked_same H e own c t m p) (journal_more H e c p.here) more ordered;
        }))
    by (inr h) = going_handed H e c t own m l p h

pub going_heard : (H : List Event) (e : Entry) → Lawful (Heard e ∷ H) → Sound H → (c t : ℕ) (own : Owner) → place H c ≡ Some (Lent t own) → e.conn ≡ c → (m : ℕ) → scope (work H m) ≡ Held (number_of own) → is_unfinished H m ≡ true
    → has_sent m (journal (Heard e ∷ H) c) ≡ true → Going (Heard e ∷ H) c t m
going_heard H e l s c t own is here m inner u sent =
    let w = was_under_way H e t own l.1 s (ap (place H) here ∙ is) in
    by w.way w.owner (e.call_no == m) refl (sym (ap (has_sent m) (journal_more H e c here)) ∙ sent)
  where
    begun_by : has_sent m (journal H c) ≡ true → is_begun H (number_of own) ≡ true
    begun_by before = let i = inside H l.0 in i.sent m (number_of own) c before inner

    begun_own : e.call_no ≡ m → is_begun H (number_of own) ≡ true
    begun_own its =
        let i = inside H l.0 in
        let scoped_so : scope (work H e.call_no) ≡ Held (number_of own) = ap (λ j. scope (work H j)) its ∙ inner in
        let there = heard_there H e l.1 in
        i.coming e (number_of own) (comes H e (place H e.conn) there.sets there.line (number_not H e.call_no (number_of own) scoped_so)) scoped_so

    going_before : has_sent m (journal H c) ≡ true → Going H c t m
    going_before before = let f = s.facts in f.going c t own is m inner u before

    way_of : (v : UnderWay H e) → v.owner ≡ own → e.call_no ≡ m → InsideWay H c t own m e.call
    way_of v same its =
        let tenure = heard_tenure H e t own l.1 (ap (place H) here ∙ is) in
        let mine : scope (work H e.call_no) ≡ Held (number_of v.owner) = ap (λ j. scope (work H j)) its ∙ (inner ∙ ap (λ o. Held (number_of o)) (sym same)) in
        subst (λ j. InsideWay H c t own j e.call) its
        (subst (λ o. InsideWay H c t o e.call_no e.call) same
        (subst (λ x. InsideWay H c x v.owner e.call_no e.call) tenure
        (subst (λ d. InsideWay H d e.tenure v.owner e.call_no e.call) here (v.within mine))))

    by : (v : UnderWay H e) → v.owner ≡ own → (b : Bool) → (e.call_no == m) ≡ b → (b || has_sent m (journal H c)) ≡ true → Going (Heard e ∷ H) c t m
    by v same true its x =
        let number = same_number e.call_no m its in
        going_own H e c t own m l (record { lent = is; here = here; inner = inner; begun = begun_own number; unfinished = u }) number (way_of v same number) going_before
    by v same false its x = going_other H e c t own m l s (record { lent = is; here = here; inner = inner; begun = begun_by x; unfinished = u }) its (going_before x)
