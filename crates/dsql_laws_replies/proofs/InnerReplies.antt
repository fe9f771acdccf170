-- What an answer makes of a call in a transaction, whichever call the answer is for.
use Rattle.std.proofs.Common.{◌≡◌, ◌≢◌, ℕ, ◌==◌, ◌⊎◌, inl, inr, Bool, true, false, ◌||◌, cond, List, ◌∷◌, length, Option, Some, None, is_some, refl, sym, ap, subst, ◌∙◌}
use Rattle.dsql_laws_calls.specs.driver.declared.caps.Caps.{Caps}
use Rattle.dsql_laws_calls.specs.driver.Fits.{fits_of, is_memory}
use Rattle.dsql_laws_calls.specs.driver.Kinds.{is_ending}
use Rattle.dsql_laws_calls.specs.course.Made.{Exchange, own_cursor, given_cursor, or_else}
use Rattle.dsql_laws_calls.specs.course.declared.course.Wish.TheVariants as wishes
use Rattle.dsql_laws_calls.specs.journal.declared.entry.Entry.{Entry}
use Rattle.dsql_laws_calls.specs.journal.declared.entry.Owner.{Owner}
use Rattle.dsql_laws_calls.specs.journal.Kinds.{is_call, number_of}
use Rattle.dsql_laws_calls.specs.journal.Readers.{went_bad}
use Rattle.dsql_laws_calls.specs.pool.declared.conn.Place.TheVariants.{Lent}
use Rattle.dsql_laws_calls.specs.works.Exchanges.{exchanges, step_of, with_exchange, got_of}
use Rattle.dsql_laws_calls.specs.works.Line.{Asked, handed}
use Rattle.dsql_laws_calls.specs.works.declared.work.Aim.{Aim}
use Rattle.dsql_laws_calls.specs.works.declared.work.Aim.TheVariants as aims
use Rattle.dsql_laws_calls.proofs.laws_work.Rows.{same_or_not}
use Rattle.dsql_laws_calls.specs.history.Readers.Tries.{try_number, tries, tries_again}
use Rattle.dsql_laws_calls.specs.history.Rules.Wishes.{newest_sender}
use Rattle.dsql_laws_calls.proofs.laws.Tests.{same_itself}
use Rattle.dsql_laws_calls.specs.history.declared.event.Event.{Event}
use Rattle.dsql_laws_calls.specs.history.declared.event.Event.TheVariants.{Heard}
use Rattle.dsql_laws_calls.specs.history.declared.work.Scope.TheVariants.{Held}
use Rattle.dsql_laws_calls.specs.history.declared.work.Work.{Work}
use Rattle.dsql_laws_calls.specs.history.declared.work.Work.TheVariants.{Statement}
use Rattle.dsql_laws_calls.specs.history.Readers.Course.{caps}
use Rattle.dsql_laws_calls.specs.history.Readers.Calls.{decided}
use Rattle.dsql_laws_calls.specs.history.Readers.Decisions.{decision}
use Rattle.dsql_laws_calls.specs.history.Readers.Journals.{journal, heard_in}
use Rattle.dsql_laws_calls.specs.history.Readers.Lines.{is_about, line_among, line_in, has_sent}
use Rattle.dsql_laws_calls.specs.history.Readers.Pool.{place, home}
use Rattle.dsql_laws_calls.specs.history.Readers.Transactions.{is_begun}
use Rattle.dsql_laws_calls.specs.history.Readers.Unfinished.{is_unfinished}
use Rattle.dsql_laws_calls.specs.history.Readers.Works.{work, scope}
use Rattle.dsql_laws_calls.specs.history.Rules.Line.{is_due}
use Rattle.dsql_laws_calls.specs.history.Rules.Sent.{asked_by, inner_after, sender}
use Rattle.dsql_laws_calls.specs.history.Legal.{Lawful}
use Rattle.dsql_laws_calls.proofs.Owners.{at_home}
use Rattle.dsql_laws_calls.proofs.Looks.{heard_there, comes}
use Rattle.dsql_laws_calls.proofs.Stays.{asked_stays}
use Rattle.dsql_laws_calls.proofs.Works.{other_heard}
use Rattle.dsql_laws_calls.proofs.Plain.{no_ending_due, with_ends}
use Rattle.dsql_laws_calls.proofs.Begun.{begun_begins, stays_begun}
use Rattle.dsql_laws_calls.proofs.Beginnings.{begin_owner}
use Rattle.dsql_laws_calls.proofs.BeginningsAt.{heard_more, heard_other}
use Rattle.dsql_laws_calls.proofs.Inside.{inside_busy, inside_uses, number_not, inside}
use Rattle.dsql_laws_calls.proofs.LineParts.{grows, grows_own, unsent_line, unsent_in}
use Rattle.dsql_laws_calls.proofs.Lines.{line_there}
use Rattle.dsql_laws_calls.proofs.DueWay as of_due
use Rattle.dsql_laws_calls.proofs.UnderWay.{line_made, handed_there, InsideWay, UnderWay}
use Rattle.dsql_laws_calls.proofs.Why.{ended_there}
use Rattle.dsql_laws_calls.proofs.Coming.{sound}
use Rattle.dsql_laws_calls.proofs.Sound.{same_lent}
use Rattle.dsql_laws_replies.proofs.Awaiting.{under_way}
use Rattle.dsql_laws_replies.proofs.InnerAwaits.{Awaiting}
use Rattle.dsql_laws_replies.proofs.InnerOver.{Over}
use Rattle.dsql_laws_replies.proofs.InnerDecides.{Outcome}
use Rattle.dsql_laws_replies.proofs.Records.{own_record, fitting, trying_of}
use Rattle.dsql_laws_calls.specs.driver.declared.answer.DriverAnswer.{DriverAnswer}
use Rattle.dsql_laws_calls.specs.course.declared.call.Due.{Due}
use Rattle.dsql_laws_replies.proofs.Inner.{Unsent, InAwaits, Inner, awaits_as, over_as, awaits_still, over_at, unhanded, awaiting_line}
use Rattle.dsql_laws_replies.proofs.InnerHeard.{about_late, own_outcome}

never : (b : Bool) → b ≡ true → b ≡ false → ⊥
never b x y = cc

-- The answer is for another call.

line_other : (can : Caps) (asked : Asked) (n : ℕ) (e : Entry) (L : List Entry) → (e.call_no == n) ≡ false → Over can asked.aim (length asked.params) (exchanges (line_among n L)) → Over can asked.aim (length asked.params) (exchanges (line_among n (e ∷ L)))
line_other can asked n e L other o = by (grows n e L)
  where
    by : (line_among n (e ∷ L) ≡ line_among n L) ⊎ ((line_among n (e ∷ L) ≡ e ∷ line_among n L) × (((e.call_no == n) ≡ true) ⊎ (is_about (exchanges (line_among n L)) e.call ≡ true))) → Over can asked.aim (length asked.params) (exchanges (line_among n (e ∷ L)))
    by (inl same) = subst (λ M. Over can asked.aim (length asked.params) (exchanges M)) (sym same) o
    by (inr (more, inl mine)) = absurd (never (e.call_no == n) mine other)
    by (inr (more, inr about)) = subst (λ M. Over can asked.aim (length asked.params) (exchanges M)) (sym more) (inl (about_late (exchanges (line_among n L)) e.call e.answer about))

unsent_still : (H : List Event) (e : Entry) (n : ℕ) → (e.call_no == n) ≡ false → Unsent H n → Unsent (Heard e ∷ H) n
unsent_still H e n other unsent c = by (e.conn == c)
  where
    by : (b : Bool) → has_sent n (cond b (e ∷ journal H c) (journal H c)) ≡ false
    by true = ap (λ x. x || has_sent n (journal H c)) other ∙ unsent c
    by false = unsent c

pub inner_other : (H : List Event) (e : Entry) (n k : ℕ) → Lawful (Heard e ∷ H) → is_unfinished H n ≡ true → scope (work H n) ≡ Held k → (e.call_no == n) ≡ false → n ≢ e.call_no → Inner H n k → Inner (Heard e ∷ H) n k
inner_other H e n k l u s other apart i = by i
  where
    same : is_some (decided (Heard e ∷ H) n) ≡ is_some (decided H n)
    same = ap (λ r. is_some r.decided) (other_heard H e n apart)

    turn : (a : InAwaits H n k) → e.conn ≡ a.conn → (w : UnderWay H e) → w.owner ≡ a.owner → ⊥
    turn a here w owner =
        let tenure = same_lent e.tenure a.tenure w.owner a.owner (sym w.lent ∙ (ap (place H) here ∙ a.lent)) in
        let newest : newest_sender (heard_in H e.conn e.tenure) ≡ n = subst (λ d. newest_sender (heard_in H d e.tenure) ≡ n) (sym here) (subst (λ v. newest_sender (heard_in H a.conn v) ≡ n) (sym tenure.0) a.newest) in
        let within : scope (work H n) ≡ Held (number_of w.owner) = s ∙ ap Held (sym (ap number_of owner ∙ a.number)) in
        let silent = w.turn n apart newest within u in
        let here_silent : is_some (line_there H a.conn a.tenure a.owner n wishes.Nothing) ≡ false =
        subst (λ o. is_some (line_there H a.conn a.tenure o n wishes.Nothing) ≡ false) owner
        (subst (λ v. is_some (line_there H a.conn v w.owner n wishes.Nothing) ≡ false) tenure.0 (subst (λ d. is_some (line_there H d e.tenure w.owner n wishes.Nothing) ≡ false) here silent))
        in
        never (is_some (line_there H a.conn a.tenure a.owner n wishes.Nothing)) (awaiting_line H a.conn a.tenure a.owner n k l.0 a.lent a.number a.begun s a.awaited) here_silent

    awaiting : (a : InAwaits H n k) → (e.conn ≡ a.conn) ⊎ (e.conn ≢ a.conn) → Inner (Heard e ∷ H) n k
    awaiting a (inl here) = let w = under_way H e a.tenure a.owner l (ap (place H) here ∙ a.lent) in absurd (turn a here w.0 w.1)
    awaiting a (inr off) = inr (inl (awaits_still H (Heard e) n k l s a (heard_other H e a.conn off)))

    by : Inner H n k → Inner (Heard e ∷ H) n k
    by (inl (unsent, inl d)) = inl (unsent_still H e n other unsent, inl (same ∙ d))
    by (inl (unsent, inr b)) = inl (unsent_still H e n other unsent, inr (stays_begun H (Heard e) k b))
    by (inr (inl a)) = awaiting a (same_or_not e.conn a.conn)
    by (inr (inr o)) = inr (inr (record {
      told = same ∙ o.told;
      begun = stays_begun H (Heard e) k o.begun;
      over = λ c t own is number.
          elim (same_or_not e.conn c) [
            | inl here ↦
                over_as (caps H) (caps H) (asked_by H n) (asked_by (Heard e ∷ H) n) n (e ∷ heard_in H c t) (heard_in (Heard e ∷ H) c t) refl (asked_stays H (Heard e) n (inside_busy (work H n) k s)) (heard_more H e c t own l.1 is here)
                (line_other (caps H) (asked_by H n) n e (heard_in H c t) other (o.over c t own is number))
            | inr off ↦ over_at H (Heard e) n k l s o c t own is number (heard_other H e c off)
          ];
    }))

-- The answer is for the call itself.

no_again : (w : Work) (k number : ℕ) → scope w ≡ Held k → tries_again w number ≡ false
no_again (Statement (Held j) task) k number s = refl
no_again w k number s = absurd cc

-- A call that has handed out no rows after an exchange had handed out none before it.
handed_less : (aim : Aim) (d : Option Due) (a : DriverAnswer) (made : List Exchange) → handed aim (with_exchange d a made) ≡ None → handed aim made ≡ None
handed_less aims.HandOut None a made h = h
handed_less aims.HandOut (Some d) a made h = second (given_cursor (got_of a)) (own_cursor made) h
  where
    second : (o p : Option ℕ) → or_else o p ≡ None → p ≡ None
    second None p x = x
    second (Some r) p x = absurd cc
handed_less _ d a made h = refl

record OwnAnswer (H : List Event) (e : Entry) (n k : ℕ) : Type 0 where
  owner : Owner
  lent : place H e.conn ≡ Some (Lent e.tenure owner)
  number : number_of owner ≡ k
  begun : is_begun H k ≡ true
  way : InsideWay H e.conn e.tenure owner n e.call

own_answer : (H : List Event) (e : Entry) (n k : ℕ) → Lawful (Heard e ∷ H) → e.call_no ≡ n → scope (work H n) ≡ Held k → OwnAnswer H e n k
own_answer H e n k l mine s =
    let there = heard_there H e l.1 in
    let mine_in : scope (work H e.call_no) ≡ Held k = ap (λ j. scope (work H j)) mine ∙ s in
    let numbered = number_not H e.call_no k mine_in in
    let may = comes H e (place H e.conn) there.sets there.line numbered in
    let i = inside H l.0 in
    let z = sound H l.0 in
    let w = z.coming e may in
    let number : number_of w.owner ≡ k = sym (w.borrowed (λ none. never (e.call_no == 0) (ap (λ j. j == 0) none) numbered)) ∙ inside_uses H e.call_no k mine_in in
    record {
      owner = w.owner;
      lent = w.lent;
      number = number;
      begun = i.coming e k may mine_in;
      way = subst (λ j. InsideWay H e.conn e.tenure w.owner j e.call) mine (w.within (mine_in ∙ ap Held (sym number)));
    }

pub inner_own : (H : List Event) (e : Entry) (n k : ℕ) → Lawful (Heard e ∷ H) → e.call_no ≡ n → n ≢ 0 → scope (work H n) ≡ Held k → Inner H n k → Inner (Heard e ∷ H) n k
inner_own H e n k l mine some s i = by (own_answer H e n k l mine s)
  where
    by : OwnAnswer H e n k → Inner (Heard e ∷ H) n k
    by w = result (own_outcome number (caps H) (went_bad (journal H e.conn)) asked.text asked.params (work H n) k made e.call e.answer (decided H n) s (state i) due fits.0 fits.1)
      where
        number : ℕ
        number = try_number (tries H n)

        asked : Asked
        asked = asked_by H n

        made : List Exchange
        made = line_made H e.conn e.tenure n

        fits : (fits_of e.call e.answer ≡ true) × (is_memory e.answer ≡ false)
        fits = fitting H e l.1

        not_call : is_call w.owner ≡ false
        not_call = begin_owner H e.conn e.tenure w.owner l.0 w.lent (begun_begins H (number_of w.owner) l.0 (ap (is_begun H) w.number ∙ w.begun))

        due : is_due (inner_after (caps H) (went_bad (journal H e.conn)) (asked_by H n) wishes.Nothing (line_among n (heard_in H e.conn e.tenure))) e.call ≡ true
        due = let y = w.way in ap (λ d. is_due d e.call) (sym (of_due.inner_is H e.conn e.tenure w.owner n wishes.Nothing k not_call s)) ∙ y.due

        state : Inner H n k → Awaiting (caps H) asked.aim (length asked.params) made ⊎ ((is_some (decided H n) ≡ true) × Over (caps H) asked.aim (length asked.params) made)
        state (inl (unsent, any)) = inl (inl (inl (ap exchanges (unsent_line n (heard_in H e.conn e.tenure) (unsent_in n e.tenure (journal H e.conn) (unsent e.conn))))))
        state (inr (inl a)) =
            let same : a.conn ≡ e.conn = sym (at_home H a.conn a.tenure a.owner l.0 a.lent) ∙ ap (home H) (a.number ∙ sym w.number) ∙ at_home H e.conn e.tenure w.owner l.0 w.lent in
            let here = same_lent a.tenure e.tenure a.owner w.owner (sym (ap (place H) (sym same) ∙ a.lent) ∙ w.lent) in
            inl (subst (λ t. Awaiting (caps H) asked.aim (length asked.params) (line_made H e.conn t n)) here.0 (subst (λ c. Awaiting (caps H) asked.aim (length asked.params) (line_made H c a.tenure n)) same a.awaited))
        state (inr (inr o)) = inr (o.told, o.over e.conn e.tenure w.owner w.lent w.number)

        unending : is_ending e.call ≡ false
        unending =
            let y = w.way in
            no_ending_due (line_there H e.conn e.tenure w.owner n wishes.Nothing) e.call (with_ends (sender H n e.conn wishes.Nothing) (line_in w.owner n (heard_in H e.conn e.tenure))) y.due

        more : heard_in (Heard e ∷ H) e.conn e.tenure ≡ e ∷ heard_in H e.conn e.tenure
        more = heard_more H e e.conn e.tenure w.owner l.1 w.lent refl

        grown : line_among n (e ∷ heard_in H e.conn e.tenure) ≡ e ∷ line_among n (heard_in H e.conn e.tenure)
        grown = grows_own n e (heard_in H e.conn e.tenure) (ap (λ j. j == n) mine ∙ same_itself n)

        asked_same : asked_by (Heard e ∷ H) n ≡ asked_by H n
        asked_same = asked_stays H (Heard e) n (inside_busy (work H n) k s)

        told_so : decided (Heard e ∷ H) n ≡ decision (trying_of H n) e.call e.answer (decided H n)
        told_so =
            subst (λ j. decided (Heard e ∷ H) j ≡ decision (trying_of H j) e.call e.answer (decided H j)) mine
            (own_record H e (inside_busy (work H e.call_no) k (ap (λ j. scope (work H j)) mine ∙ s)) (λ none. some (sym mine ∙ none)))

        over_now : Over (caps H) asked.aim (length asked.params) (with_exchange (step_of e.call) e.answer made) → (c t : ℕ) (own : Owner) → place H c ≡ Some (Lent t own) → number_of own ≡ k
            → Over (caps H) (asked_by (Heard e ∷ H) n).aim (length (asked_by (Heard e ∷ H) n).params) (line_made (Heard e ∷ H) c t n)
        over_now o c t own is its =
            let same : e.conn ≡ c = sym (at_home H e.conn e.tenure w.owner l.0 w.lent) ∙ ap (home H) (w.number ∙ sym its) ∙ at_home H c t own l.0 is in
            let here = same_lent e.tenure t w.owner own (sym (ap (place H) (sym same) ∙ w.lent) ∙ is) in
            subst (λ v. Over (caps H) (asked_by (Heard e ∷ H) n).aim (length (asked_by (Heard e ∷ H) n).params) (line_made (Heard e ∷ H) c v n)) here.0
            (subst (λ d. Over (caps H) (asked_by (Heard e ∷ H) n).aim (length (asked_by (Heard e ∷ H) n).params) (line_made (Heard e ∷ H) d e.tenure n)) same
            (over_as (caps H) (caps H) (asked_by H n) (asked_by (Heard e ∷ H) n) n (e ∷ heard_in H e.conn e.tenure) (heard_in (Heard e ∷ H) e.conn e.tenure) refl asked_same more
            (subst (λ M. Over (caps H) (asked_by H n).aim (length (asked_by H n).params) (exchanges M)) (sym grown) o)))

        awaits_now : ended_there (heard_in H e.conn e.tenure) ≡ false → Awaiting (caps H) asked.aim (length asked.params) (with_exchange (step_of e.call) e.answer made) → InAwaits (Heard e ∷ H) n k
        awaits_now none a = record {
          conn = e.conn;
          tenure = e.tenure;
          owner = w.owner;
          number = w.number;
          lent = w.lent;
          begun = stays_begun H (Heard e) k w.begun;
          newest = ap newest_sender more ∙ mine;
          none = ap ended_there more ∙ (ap (λ b. b || ended_there (heard_in H e.conn e.tenure)) unending ∙ none);
          awaited =
              awaits_as (caps H) (caps H) (asked_by H n) (asked_by (Heard e ∷ H) n) n (e ∷ heard_in H e.conn e.tenure) (heard_in (Heard e ∷ H) e.conn e.tenure) refl asked_same more
              (subst (λ M. Awaiting (caps H) (asked_by H n).aim (length (asked_by H n).params) (exchanges M)) (sym grown) a);
        }

        result : Outcome number (caps H) (length asked.params) (work H n) e.call e.answer (decided H n) made → Inner (Heard e ∷ H) n k
        result (inl x) = inr (inr (record {
          told = ap (λ o. is_some o) told_so ∙ (ap (λ b. is_some (decision (record (trying_of H n) { again = b }) e.call e.answer (decided H n))) (no_again (work H n) k (try_number (tries H n)) s) ∙ x.0);
          begun = stays_begun H (Heard e) k w.begun;
          over = over_now x.1;
        }))
        result (inr a) = let y = w.way in awaited y.left
          where
            awaited : (ended_there (heard_in H e.conn e.tenure) ≡ false) ⊎ (handed_there H e.conn e.tenure n ≡ true) → Inner (Heard e ∷ H) n k
            awaited (inl none) = inr (inl (awaits_now none a))
            awaited (inr handed_rows) = absurd (never (handed_there H e.conn e.tenure n) handed_rows (handed_none (unhanded (caps H) asked.aim (length asked.params) (with_exchange (step_of e.call) e.answer made) a)))
              where
                handed_none : handed asked.aim (with_exchange (step_of e.call) e.answer made) ≡ None → handed_there H e.conn e.tenure n ≡ false
                handed_none none = ap (λ p. is_some p) (handed_less asked.aim (step_of e.call) e.answer made none)
