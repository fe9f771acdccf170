-- A driver call begins after its call has gone on.
use Rattle.std.proofs.Common.{◌≡◌, ◌≢◌, ℕ, ◌⊎◌, inl, inr, Bool, true, false, not, ◌&&◌, ◌||◌, cond, List, [], ◌∷◌, ◌++◌, Option, Some, None, is_some, refl, sym, ap, subst, ◌∙◌}
use Rattle.std.specs.List.{list_any}
use Rattle.std.specs.Option.{option_map}
use Rattle.std.proofs.lemmas.List.Folds.{list_all-append}
use Rattle.std.proofs.lemmas.Bool.{or_right}
use Rattle.dsql_engine_hearing.specs.course.Made.{or_else}
use Rattle.dsql_engine_hearing.specs.driver.declared.call.DriverCall.{DriverCall}
use Rattle.dsql_engine_hearing.specs.wait.Requests.{waits}
use Rattle.dsql_engine_hearing.specs.pool.Calls.{wants}
use Rattle.dsql_engine_hearing.specs.pool.Places.{is_for}
use Rattle.dsql_engine_hearing.specs.pool.declared.conn.Place.{Place}
use Rattle.dsql_engine_hearing.specs.pool.declared.conn.Place.TheVariants.{Lent}
use Rattle.dsql_engine_hearing.specs.history.declared.event.Event.{Event}
use Rattle.dsql_engine_hearing.specs.history.declared.record.Flight.{Flight}
use Rattle.dsql_engine_hearing.specs.history.declared.record.Stand.{Stand}
use Rattle.dsql_engine_hearing.specs.history.declared.record.Stand.TheVariants.{Sends, Replies, Asks}
use Rattle.dsql_engine_hearing.specs.history.Readers.Calls.{site}
use Rattle.dsql_engine_hearing.specs.history.Readers.Pool.{place, pool}
use Rattle.dsql_engine_hearing.specs.history.Readers.Tries.{asks_again, tries}
use Rattle.dsql_engine_hearing.specs.history.Readers.Unfinished.{is_unfinished}
use Rattle.dsql_engine_hearing.specs.history.Rules.Flights.{has_flight, is_in_flight, permitted}
use Rattle.dsql_engine_hearing.specs.history.Rules.Line.{due_for}
use Rattle.dsql_engine_hearing.specs.history.Rules.Stands.{has_to_reply, stand, stands}
use Rattle.dsql_engine_hearing.specs.history.Legal.{Lawful}
use Rattle.dsql_engine_hearing.proofs.laws.Numbered.{unfinished_from_one}
use Rattle.dsql_engine_hearing.proofs.laws.Places.{neither, none_opens}
use Rattle.dsql_engine_hearing.proofs.laws.Standing.{stands_sending}
use Rattle.dsql_engine_hearing.proofs.laws.Tests.{together}
use Rattle.dsql_engine_hearing.specs.going.Answers.{next_for, sends_unless, why_blocked}
use Rattle.dsql_engine_hearing.specs.going.Permits.{permit_for, sent_at}
use Rattle.dsql_engine_hearing.specs.going.Reaching.{HasGoneOn}
use Rattle.dsql_engine_hearing.specs.going.Stepping.{are_of_unfinished}
use Rattle.dsql_engine_hearing.specs.going.declared.next.Next.{Next}
use Rattle.dsql_engine_hearing.specs.going.declared.next.Next.TheVariants as nexts
use Rattle.dsql_engine_hearing.proofs.going.Standing.{unsent_flights}
use Rattle.dsql_engine_laws.specs.Turns.{Flying, flies, is_apart, keeps_turn, sender_at}
use Rattle.dsql_engine_laws.proofs.Flights.{apart_permitted, begins, flies_on}
use Rattle.dsql_engine_laws.proofs.Keeping.{FlyingBut}
use Rattle.dsql_engine_laws.proofs.Senders.{sender_there}

-- The driver call belongs to a call that has no reply.

known_more : (H : List Event) (n c : ℕ) (b : Bool) (flights : List Flight) → is_unfinished H n ≡ true → are_of_unfinished H flights ≡ true
    → are_of_unfinished H (cond b flights (flights ++ record { call = n; conn = c } ∷ [])) ≡ true
known_more H n c true flights u h = h
known_more H n c false flights u h =
    list_all-append (λ (x : Flight). is_unfinished H x.call) flights (record { call = n; conn = c } ∷ [])
    ∙ together (are_of_unfinished H flights) (is_unfinished H n && true) h (together (is_unfinished H n) true u refl)

known_permitted : (H : List Event) (n : ℕ) (at : Option Stand) (flights : List Flight) → is_unfinished H n ≡ true → are_of_unfinished H flights ≡ true → are_of_unfinished H (permitted n at flights) ≡ true
known_permitted H n (Some (Sends c)) flights u h = known_more H n c (is_in_flight n flights || has_flight c flights) flights u h
known_permitted H n _ flights u h = h

known_stand : (H : List Event) (n : ℕ) (flights : List Flight) → are_of_unfinished H flights ≡ true → are_of_unfinished H (permitted n (stand H n) flights) ≡ true
known_stand H n flights h = by (is_unfinished H n) refl
  where
    silent : is_unfinished H n ≡ false → is_some (due_for H n) ≡ false
    silent done = rw done refl

    by : (b : Bool) → is_unfinished H n ≡ b → are_of_unfinished H (permitted n (stand H n) flights) ≡ true
    by true u = known_permitted H n (stand H n) flights u h
    by false done = ap (are_of_unfinished H) (unsent_flights H n flights (silent done)) ∙ h

keeps_more : (H : List Event) (n c : ℕ) (at : Option Stand) (flights : List Flight) → keeps_turn H flights c ≡ true → keeps_turn H (permitted n at flights) c ≡ true
keeps_more H n c at flights = by (not (is_unfinished H (sender_at H c)))
  where
    by : (b : Bool) → (b || flies (sender_at H c) c flights) ≡ true → (b || flies (sender_at H c) c (permitted n at flights)) ≡ true
    by true h = refl
    by false h = flies_on (sender_at H c) c n at flights h

-- One more driver call under way keeps the turns.
pub more_flying : (H : List Event) (n : ℕ) (flights : List Flight) → Flying H flights → Flying H (permitted n (stand H n) flights)
more_flying H n flights f = record {
  known = known_stand H n flights f.known;
  apart = apart_permitted n (stand H n) flights f.apart;
  turns = λ c. keeps_more H n c (stand H n) flights (f.turns c);
}

-- Something is due for a call that has gone on, wants no connection, and has no reply.

-- A call that wants no connection, and for which no driver call is due, stands only where it replies or asks
-- again.
stands_content : (H : List Event) (n : ℕ) → wants n (pool H) ≡ false → is_some (due_for H n) ≡ false → stand H n ≡ or_else (stands (has_to_reply H n) Replies) (stands (asks_again (tries H n)) Asks)
stands_content H n content silent =
    let w = neither (waits n (pool H).waiting) (list_any (λ conn. is_for n conn.place) (pool H).conns) content in
    rw (w.0, none_opens n (pool H) w.1, silent) refl

none_of : (d : Option DriverCall) → is_some d ≡ false → d ≡ None
none_of None h = refl
none_of (Some call) h = absurd cc

none_sent : (n c : ℕ) (at : Option Place) → sent_at n c at None ≡ None
none_sent n c (Some (Lent t own)) = refl
none_sent n c _ = refl

-- A call that stands where it replies or asks again hasn't gone on.
none_next : (H : List Event) (n : ℕ) (flights : List Flight) (told again : Bool) → is_some (due_for H n) ≡ false → sends_unless H n (why_blocked flights n (or_else (stands told Replies) (stands again Asks))) ≡ None
none_next H n flights told again silent = by told again
  where
    no_leave : permit_for H n ≡ None
    no_leave = ap (sent_at n (site H n) (place H (site H n))) (none_of (due_for H n) silent) ∙ none_sent n (site H n) (place H (site H n))

    by : (told again : Bool) → sends_unless H n (why_blocked flights n (or_else (stands told Replies) (stands again Asks))) ≡ None
    by true again = ap (option_map nexts.Send) no_leave
    by false true = ap (option_map nexts.Send) no_leave
    by false false = ap (option_map nexts.Send) no_leave

pub due_once_gone : (H : List Event) (n : ℕ) (before : List Flight) (next : Next) → is_unfinished H n ≡ true → wants n (pool H) ≡ false → next_for H before n ≡ Some next → is_some (due_for H n) ≡ true
due_once_gone H n before next u content answers = by (is_some (due_for H n)) refl
  where
    by : (b : Bool) → is_some (due_for H n) ≡ b → is_some (due_for H n) ≡ true
    by true due = due
    by false silent =
        let it : sends_unless H n (why_blocked before n (stand H n)) ≡ Some next = ap (λ (b : Bool). cond b (sends_unless H n (why_blocked before n (stand H n))) (Some (nexts.Reply n))) (sym u) ∙ answers in
        let none : sends_unless H n (why_blocked before n (stand H n)) ≡ None =
        ap (λ at. sends_unless H n (why_blocked before n at)) (stands_content H n content silent) ∙ none_next H n before (has_to_reply H n) (asks_again (tries H n)) silent
        in
        let clash : None ≡ Some next = sym none ∙ it in
        absurd cc

-- Therefore a call whose driver call landed keeps its turn by the next one.

keeps_by_next : (H : List Event) (n c : ℕ) (before after : List Flight) (next : Next) → Lawful H → is_in_flight n before ≡ false → has_flight c before ≡ false → HasGoneOn H before after n next
    → sender_at H c ≡ n → keeps_turn H after c ≡ true
keeps_by_next H n c before after next l parked free went is = by (is_unfinished H n) refl
  where
    flown : is_unfinished H n ≡ true → flies n c after ≡ true
    flown u =
        let some : n ≢ 0 = unfinished_from_one H n l u in
        let there = sender_there H c l (λ none. some (sym is ∙ none)) in
        let content : wants n (pool H) ≡ false = subst (λ m. wants m (pool H) ≡ false) is there.content in
        let at : site H n ≡ c = subst (λ m. site H m ≡ c) is there.site in
        let due = due_once_gone H n before next u content went.answers in
        let stood : stand H n ≡ Some (Sends c) = stands_sending H n l some due ∙ ap (λ d. Some (Sends d)) at in
        let now : after ≡ permitted n (Some (Sends c)) before = went.flights ∙ ap (λ s. permitted n s before) stood in
        ap (flies n c) now ∙ begins n c before parked free

    by : (b : Bool) → is_unfinished H n ≡ b → keeps_turn H after c ≡ true
    by true u = or_right (not (is_unfinished H (sender_at H c))) (flies (sender_at H c) c after) (ap (λ m. flies m c after) is ∙ flown u)
    by false done = ap (λ b. not b || flies (sender_at H c) c after) (ap (is_unfinished H) is ∙ done)

pub taking_off : (H : List Event) (n d : ℕ) (before after : List Flight) (next : Next) → Lawful H → FlyingBut n d H before → is_in_flight n before ≡ false → has_flight d before ≡ false
    → HasGoneOn H before after n next → Flying H after
taking_off H n d before after next l f parked free went = record {
  known = ap (are_of_unfinished H) went.flights ∙ known_stand H n before f.known;
  apart = ap is_apart went.flights ∙ apart_permitted n (stand H n) before f.apart;
  turns = λ c. by c (f.turns c);
}
  where
    by : (c : ℕ) → ((sender_at H c ≡ n) × (c ≡ d)) ⊎ (keeps_turn H before c ≡ true) → keeps_turn H after c ≡ true
    by c (inl is) = keeps_by_next H n c before after next l parked (ap (λ e. has_flight e before) is.1 ∙ free) went is.0
    by c (inr keeps) = ap (λ flights. keeps_turn H flights c) went.flights ∙ keeps_more H n c (stand H n) before keeps
