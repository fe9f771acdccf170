-- A call that goes on to a driver call has leave for it.
use Rattle.std.proofs.Common.{◌≡◌, ◌≢◌, ℕ, ◌==◌, ◌⊎◌, inl, inr, Bool, true, false, not, ◌&&◌, ◌||◌, cond, List, [], ◌∷◌, ◌++◌, Option, Some, None, is_some, refl, sym, ap, subst, ◌∙◌}
use Rattle.std.proofs.lemmas.Bool.{or_right}
use Rattle.std.specs.Option.{option_map}
use Rattle.dsql_engine_hearing.specs.driver.declared.call.DriverCall.{DriverCall}
use Rattle.dsql_engine_hearing.specs.driver.declared.answer.DriverAnswer.{DriverAnswer}
use Rattle.dsql_engine_hearing.specs.journal.declared.entry.Owner.{Owner}
use Rattle.dsql_engine_hearing.specs.journal.declared.entry.Permit.{Permit}
use Rattle.dsql_engine_hearing.specs.journal.Kinds.{number_of}
use Rattle.dsql_engine_hearing.specs.journal.Permits.{entry_of}
use Rattle.dsql_engine_hearing.specs.pool.declared.conn.Place.{Place}
use Rattle.dsql_engine_hearing.specs.pool.declared.conn.Place.TheVariants.{Lent}
use Rattle.dsql_engine_hearing.specs.history.declared.event.Event.{Event}
use Rattle.dsql_engine_hearing.specs.history.declared.record.Flight.{Flight}
use Rattle.dsql_engine_hearing.specs.history.declared.record.Stand.TheVariants.{Sends}
use Rattle.dsql_engine_hearing.specs.history.Readers.Calls.{site}
use Rattle.dsql_engine_hearing.specs.history.Readers.Pool.{place}
use Rattle.dsql_engine_hearing.specs.history.Readers.Unfinished.{is_unfinished}
use Rattle.dsql_engine_hearing.specs.history.Readers.Works.{work}
use Rattle.dsql_engine_hearing.specs.history.Rules.Flights.{has_flight, is_in_flight, is_taken, permitted}
use Rattle.dsql_engine_hearing.specs.history.Rules.Sent.{asked_by}
use Rattle.dsql_engine_hearing.specs.history.Rules.Line.{due_for, due_from, due_in, has_turn, holder, holder_at, if_sending, is_at, is_due, is_due_at, tidying}
use Rattle.dsql_engine_hearing.specs.history.Rules.Stands.{stand}
use Rattle.dsql_engine_hearing.specs.history.Legal.{Lawful}
use Rattle.dsql_engine_hearing.proofs.laws.Numbered.{unfinished_from_one}
use Rattle.dsql_engine_hearing.proofs.laws.Standing.{stands_sending}
use Rattle.dsql_engine_hearing.proofs.laws.Tests.{other_number, same_itself, together}
use Rattle.dsql_engine_hearing.proofs.laws.Welcome.{due_may_come}
use Rattle.dsql_engine_hearing.proofs.laws_work.Rows.{same_or_not}
use Rattle.dsql_engine_hearing.specs.exchanged.Filled.{Carries}
use Rattle.dsql_engine_hearing.proofs.going.Carried.{permit_carried}
use Rattle.dsql_engine_hearing.specs.going.Answers.{sends_unless, why_blocked}
use Rattle.dsql_engine_hearing.specs.going.Permits.{call_permit, permit_for, sent_at}
use Rattle.dsql_engine_hearing.specs.going.Reaching.{HasGoneOn}
use Rattle.dsql_engine_hearing.specs.going.declared.next.Next.TheVariants as nexts
use Rattle.dsql_engine_hearing.specs.going.declared.next.Why.{Why}
use Rattle.dsql_engine_hearing.specs.going.declared.next.Why.TheVariants.{Turn}
use Rattle.dsql_engine_laws.specs.Leaves.{IsLeave}
use Rattle.dsql_engine_laws.specs.Turns.{Flying, flies, sender_at, sender_in}
use Rattle.dsql_engine_laws.proofs.Due.{due_itself}
use Rattle.dsql_engine_laws.proofs.Flights.{begins, flew_before, flies_taken, had_taken, one_more}

-- What follows from the permit that a call's step returns.

-- Holds if the permit is for what call n sends on connection c, which is lent.
record Given (H : List Event) (n c : ℕ) (permit : Permit) : Type 0 where
  tenure : ℕ
  owner : Owner
  call : DriverCall
  lent : place H c ≡ Some (Lent tenure owner)
  due : due_for H n ≡ Some call
  is : permit ≡ call_permit c tenure owner n call

given_by : (H : List Event) (n c : ℕ) (permit : Permit) (at : Option Place) (d : Option DriverCall) → place H c ≡ at → due_for H n ≡ d → sent_at n c at d ≡ Some permit → Given H n c permit
given_by H n c permit (Some (Lent t own)) (Some call) lent due h = record { tenure = t; owner = own; call = call; lent = lent; due = due; is = inner h }
  where
    inner : Some (call_permit c t own n call) ≡ Some permit → permit ≡ call_permit c t own n call
    inner same = let it : call_permit c t own n call ≡ permit = cc in sym it
given_by H n c permit _ _ lent due h = absurd cc

-- Holds if the call has no reply, isn't blocked, and the permit is its own.
record Sending (H : List Event) (before : List Flight) (n : ℕ) (permit : Permit) : Type 0 where
  unfinished : is_unfinished H n ≡ true
  free : why_blocked before n (stand H n) ≡ None
  given : permit_for H n ≡ Some permit

sending : (H : List Event) (before after : List Flight) (n : ℕ) (permit : Permit) → HasGoneOn H before after n (nexts.Send permit) → Sending H before n permit
sending H before after n permit went = by (is_unfinished H n) refl went.answers
  where
    sent : (p : Option Permit) → option_map nexts.Send p ≡ Some (nexts.Send permit) → p ≡ Some permit
    sent (Some q) h = let same : nexts.Send q ≡ nexts.Send permit = cc in let it : q ≡ permit = cc in ap Some it
    sent None h = absurd cc

    unblocked : is_unfinished H n ≡ true → (why : Option Why) → why_blocked before n (stand H n) ≡ why → sends_unless H n why ≡ Some (nexts.Send permit) → Sending H before n permit
    unblocked u (Some why) is h = let clash : nexts.Blocked why ≡ nexts.Send permit = cc in absurd cc
    unblocked u None is h = record { unfinished = u; free = is; given = sent (permit_for H n) h }

    by : (b : Bool) → is_unfinished H n ≡ b → cond b (sends_unless H n (why_blocked before n (stand H n))) (Some (nexts.Reply n)) ≡ Some (nexts.Send permit) → Sending H before n permit
    by true u h = unblocked u (why_blocked before n (stand H n)) refl h
    by false u h = let clash : nexts.Reply n ≡ nexts.Send permit = cc in absurd cc

-- The driver call is due at its connection, and no other call has the turn there.

some_due : (d : Option DriverCall) (call : DriverCall) → d ≡ Some call → is_some d ≡ true
some_due d call is = ap is_some is

untaken : (n c : ℕ) (before : List Flight) → why_blocked before n (Some (Sends c)) ≡ None → is_taken n c before ≡ false
untaken n c before free = by (is_taken n c before) refl free
  where
    by : (b : Bool) → is_taken n c before ≡ b → cond b (Some (Turn c)) None ≡ None → is_taken n c before ≡ false
    by true is h = absurd cc
    by false is h = is

due_unfinished : (H : List Event) (m : ℕ) → is_some (due_for H m) ≡ true → is_unfinished H m ≡ true
due_unfinished H m h = by (is_unfinished H m) refl h
  where
    by : (b : Bool) → is_unfinished H m ≡ b → is_some (cond b (due_in H m (work H m)) None) ≡ true → is_unfinished H m ≡ true
    by true is k = is
    by false is k = absurd cc

not_both : (b : Bool) → b ≡ true → b ≡ false → ⊥
not_both b x y = cc

-- If the call that sent last there has more to send, it is the call itself. Otherwise another's driver call
-- would be under way, and the connection taken.
turn_free : (H : List Event) (n c t : ℕ) (own : Owner) (before after : List Flight) → Flying H after → after ≡ permitted n (stand H n) before → is_taken n c before ≡ false → place H c ≡ Some (Lent t own)
    → has_turn H c n ≡ true
turn_free H n c t own before after f now free lent = by (is_some (due_for H m)) refl
  where
    m : ℕ
    m = sender_at H c

    holds : holder H c ≡ if_sending H m
    holds = held (place H c) lent
      where
        held : (at : Option Place) → at ≡ Some (Lent t own) → holder_at H c at ≡ if_sending H (sender_in H c at)
        held at is = rw is refl

    flown : is_some (due_for H m) ≡ true → flies m c after ≡ true
    flown due = ap (λ b. not b || flies m c after) (sym (due_unfinished H m due)) ∙ f.turns c

    itself : is_some (due_for H m) ≡ true → (m ≡ n) ⊎ (m ≢ n) → m ≡ n
    itself due (inl same) = same
    itself due (inr apart) =
        let had = flew_before m c n (stand H n) before apart (ap (flies m c) (sym now) ∙ flown due) in
        absurd (not_both (is_taken n c before) (flies_taken m n c before apart had) free)

    by : (b : Bool) → is_some (due_for H m) ≡ b → has_turn H c n ≡ true
    by true due =
        let same : holder H c ≡ n = holds ∙ (ap (λ (b : Bool). cond b m 0) due ∙ itself due (same_or_not m n)) in
        or_right (holder H c == 0) (holder H c == n) (ap (λ h. h == n) same ∙ same_itself n)
    by false silent =
        let none : holder H c ≡ 0 = holds ∙ ap (λ (b : Bool). cond b m 0) silent in
        ap (λ h. (h == 0) || (h == n)) none

due_now : (H : List Event) (n c t : ℕ) (own : Owner) (call : DriverCall) (answer : DriverAnswer) → n ≢ 0 → site H n ≡ c → due_for H n ≡ Some call → has_turn H c n ≡ true
    → is_due_at H (Some (Lent t own)) (entry_of (call_permit c t own n call) answer) ≡ true
due_now H n c t own call answer some at due turn =
    let from : due_from H n (number_of own) ≡ due_for H n = ap (λ (b : Bool). cond b (tidying H (number_of own)) (due_for H n)) (other_number n 0 some) in
    let sent : is_due (due_from H n (number_of own)) call ≡ true = ap (λ d. is_due d call) from ∙ due_itself H n call due in
    let there : is_at H n c ≡ true = or_right (n == 0) (site H n == c) (ap (λ d. d == c) at ∙ same_itself c) in
    together (t == t) (is_at H n c && (has_turn H c n && is_due (due_from H n (number_of own)) call)) (same_itself t)
    (together (is_at H n c) (has_turn H c n && is_due (due_from H n (number_of own)) call) there (together (has_turn H c n) (is_due (due_from H n (number_of own)) call) turn sent))

-- All that follows for the permit.
record Leads (H : List Event) (before after : List Flight) (n : ℕ) (permit : Permit) : Type 0 where
  leave : IsLeave H permit
  own : permit.call_no ≡ n
  flown : flies n permit.conn after ≡ true
  more : after ≡ before ++ record { call = n; conn = permit.conn } ∷ []

leads_for : (H : List Event) (before after : List Flight) (n c : ℕ) (permit : Permit) → Lawful H → Flying H after → is_in_flight n before ≡ false → after ≡ permitted n (stand H n) before
    → Sending H before n permit → site H n ≡ c → Given H n c permit → Leads H before after n permit
leads_for H before after n c permit l f parked now s at g = subst (λ (p : Permit). Leads H before after n p) (sym g.is) it
  where
    some : n ≢ 0
    some = unfinished_from_one H n l s.unfinished

    stood : stand H n ≡ Some (Sends c)
    stood = stands_sending H n l some (some_due (due_for H n) g.call g.due) ∙ ap (λ d. Some (Sends d)) at

    free : is_taken n c before ≡ false
    free = untaken n c before (ap (why_blocked before n) (sym stood) ∙ s.free)

    empty : (b : Bool) → has_flight c before ≡ b → has_flight c before ≡ false
    empty true is = absurd (not_both (is_taken n c before) (had_taken n c before parked is) free)
    empty false is = is

    begun : after ≡ permitted n (Some (Sends c)) before
    begun = now ∙ ap (λ s. permitted n s before) stood

    turn : has_turn H c n ≡ true
    turn = turn_free H n c g.tenure g.owner before after f now free g.lent

    it : Leads H before after n (call_permit c g.tenure g.owner n g.call)
    it = record {
      leave = record {
        of_a_call = some;
        tx = refl;
        lent = g.lent;
        carries = subst (λ p. Carries (asked_by H n) p.call) g.is (permit_carried H n permit l s.given);
        comes = λ answer.
            due_may_come H (entry_of (call_permit c g.tenure g.owner n g.call) answer)
            (ap (λ at. is_due_at H at (entry_of (call_permit c g.tenure g.owner n g.call) answer)) g.lent ∙ due_now H n c g.tenure g.owner g.call answer some at g.due turn);
      };
      own = refl;
      flown = ap (flies n c) begun ∙ begins n c before parked (empty (has_flight c before) refl);
      more = begun ∙ one_more n c before parked (empty (has_flight c before) refl);
    }

leads : (H : List Event) (before after : List Flight) (n : ℕ) (permit : Permit) → Lawful H → Flying H after → is_in_flight n before ≡ false → HasGoneOn H before after n (nexts.Send permit) → Leads H before after n permit
leads H before after n permit l f parked went =
    let s = sending H before after n permit went in
    leads_for H before after n (site H n) permit l f parked went.flights s refl (given_by H n (site H n) permit (place H (site H n)) (due_for H n) refl refl s.given)

pub goes_with_leave : (past : List Event) (before after : List Flight) (n : ℕ) (permit : Permit) → Lawful past → Flying past after → is_in_flight n before ≡ false → HasGoneOn past before after n (nexts.Send permit) → IsLeave past permit
goes_with_leave past before after n permit l f parked went = let k = leads past before after n permit l f parked went in k.leave

pub goes_itself : (past : List Event) (before after : List Flight) (n : ℕ) (permit : Permit) → Lawful past → Flying past after → is_in_flight n before ≡ false → HasGoneOn past before after n (nexts.Send permit) → permit.call_no ≡ n
goes_itself past before after n permit l f parked went = let k = leads past before after n permit l f parked went in k.own

pub goes_flying : (past : List Event) (before after : List Flight) (n : ℕ) (permit : Permit) → Lawful past → Flying past after → is_in_flight n before ≡ false → HasGoneOn past before after n (nexts.Send permit)
    → flies n permit.conn after ≡ true
goes_flying past before after n permit l f parked went = let k = leads past before after n permit l f parked went in k.flown

pub goes_last : (past : List Event) (before after : List Flight) (n : ℕ) (permit : Permit) → Lawful past → Flying past after → is_in_flight n before ≡ false → HasGoneOn past before after n (nexts.Send permit)
    → after ≡ before ++ record { call = n; conn = permit.conn } ∷ []
goes_last past before after n permit l f parked went = let k = leads past before after n permit l f parked went in k.more
