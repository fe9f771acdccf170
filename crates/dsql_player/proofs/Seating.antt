-- What each client has at hand fits its call, after a step as before it. The argument follows what is under way
-- of each call.
use Rattle.std.proofs.Common.{◌≡◌, ◌≢◌, ◌<◌, ◌≤◌, ◌⊎◌, inl, inr, ℕ, ◌==◌, Bool, true, false, not, ◌||◌, cond, List, [], ◌∷◌, ◌++◌, length, Option, Some, None, refl, ap, sym, subst, ◌∙◌, arith}
use Rattle.std.specs.Option.{option_map}
use Rattle.std.proofs.lemmas.Bool.Decides.{nat_tests}
use Rattle.std.proofs.lemmas.List.Folds.{list_any-append}
use Rattle.dsql_engine_laws.specs.driver.declared.answer.DriverAnswer.TheVariants.{Done}
use Rattle.dsql_engine_laws.specs.journal.declared.entry.Permit.{Permit}
use Rattle.dsql_engine_laws.specs.journal.Permits.{entry_of}
use Rattle.dsql_engine_laws.specs.history.declared.event.Event.{Event}
use Rattle.dsql_engine_laws.specs.history.declared.record.Flight.{Flight}
use Rattle.dsql_engine_laws.specs.history.declared.record.Stand.{Stand}
use Rattle.dsql_engine_laws.specs.history.declared.record.Stand.TheVariants.{Sends}
use Rattle.dsql_engine_laws.specs.history.Readers.Calls.{is_busy}
use Rattle.dsql_engine_laws.specs.history.Readers.Clients.{call_of}
use Rattle.dsql_engine_laws.specs.history.Readers.Unfinished.{is_unfinished}
use Rattle.dsql_engine_laws.specs.history.Rules.Flights.{has_flight, is_in_flight, permitted, with_flight, without_flight}
use Rattle.dsql_engine_laws.specs.history.Rules.Line.{parts}
use Rattle.dsql_engine_laws.specs.history.Rules.Stands.{stand}
use Rattle.dsql_engine_laws.specs.history.Legal.{Lawful}
use Rattle.dsql_engine_laws.proofs.laws.Places.{neither}
use Rattle.dsql_engine_laws.proofs.laws.Tests.{other_number}
use Rattle.dsql_engine_laws.proofs.laws_work.Rows.{same_or_not}
use Rattle.dsql_engine_laws.specs.going.declared.next.Next.{Next}
use Rattle.dsql_engine_laws.specs.going.declared.next.Next.TheVariants as nexts
use Rattle.dsql_engine_laws.specs.going.declared.next.Why.{Why}
use Rattle.dsql_engine_laws.specs.going.Answers.{sends_unless, why_blocked}
use Rattle.dsql_engine_laws.specs.going.Permits.{permit_for}
use Rattle.dsql_engine_laws.specs.going.Reaching.{HasGoneOn}
use Rattle.dsql_player_wires.specs.Seats.{Seat, seat}
use Rattle.dsql_engine_laws.specs.Leaves.{IsLeave}
use Rattle.dsql_engine_laws.specs.Turns.{Flying, flies}
use Rattle.dsql_engine_laws.proofs.Blocked.{same_when_blocked, same_when_replied}
use Rattle.dsql_engine_laws.proofs.Flights.{flies_landed, flies_on, free_landed}
use Rattle.dsql_engine_laws.proofs.Keeping.{done_parked, nobody}
use Rattle.dsql_engine_laws.proofs.Leave.{leave_kept}
use Rattle.dsql_engine_laws.proofs.Turning.{goes_flying, goes_itself, goes_with_leave}
use Rattle.dsql_player.specs.Playing.{FitsCall, SeatFits}
use Rattle.dsql_player.specs.Stepping.{leave_of}
use Rattle.dsql_player.proofs.Grouped.{Grouped}

-- What is under way of other calls as call n sends, or as its driver call lands.

-- Holds if every call except call n has the same under way.
pub record SameButFor (n : ℕ) (before after : List Flight) : Type 0 where
  pub flying : (m c : ℕ) → m ≢ n → flies m c before ≡ true → flies m c after ≡ true
  pub parked : (m : ℕ) → m ≢ n → is_in_flight m before ≡ false → is_in_flight m after ≡ false

pub same_flights : (n : ℕ) (flights : List Flight) → SameButFor n flights flights
same_flights n flights = record { flying = λ m c apart h. h; parked = λ m apart h. h }

parked_with : (m n c : ℕ) (flights : List Flight) → m ≢ n → is_in_flight m flights ≡ false → is_in_flight m (with_flight n c flights) ≡ false
parked_with m n c flights apart h = by (is_in_flight n flights || has_flight c flights)
  where
    by : (b : Bool) → is_in_flight m (cond b flights (flights ++ record { call = n; conn = c } ∷ [])) ≡ false
    by true = h
    by false =
        let other : (n == m) ≡ false = other_number n m (λ same. apart (sym same)) in
        list_any-append (λ (y : Flight). y.call == m) flights (record { call = n; conn = c } ∷ []) ∙ rw (h, other) refl

parked_on : (m n : ℕ) (at : Option Stand) (flights : List Flight) → m ≢ n → is_in_flight m flights ≡ false → is_in_flight m (permitted n at flights) ≡ false
parked_on m n (Some (Sends c)) flights apart h = parked_with m n c flights apart h
parked_on m n _ flights apart h = h

parked_landed : (m n : ℕ) (flights : List Flight) → is_in_flight m flights ≡ false → is_in_flight m (without_flight n flights) ≡ false
parked_landed m n [] h = h
parked_landed m n (x ∷ xs) h = let a = neither (x.call == m) (is_in_flight m xs) h in by (x.call == n) a.0 (parked_landed m n xs a.1)
  where
    by : (b : Bool) → (x.call == m) ≡ false → is_in_flight m (without_flight n xs) ≡ false → is_in_flight m (cond (not b) (x ∷ without_flight n xs) (without_flight n xs)) ≡ false
    by true other rest = rest
    by false other rest = rw other rest

pub sends_more : (n : ℕ) (at : Option Stand) (flights : List Flight) → SameButFor n flights (permitted n at flights)
sends_more n at flights = record { flying = λ m c apart h. flies_on m c n at flights h; parked = λ m apart h. parked_on m n at flights apart h }

pub lands : (n : ℕ) (flights : List Flight) → SameButFor n flights (without_flight n flights)
lands n flights = record { flying = λ m c apart h. flies_landed m n c flights apart h; parked = λ m apart h. parked_landed m n flights h }

pub and_then : (n : ℕ) (a b d : List Flight) → SameButFor n a b → SameButFor n b d → SameButFor n a d
and_then n a b d one two = record { flying = λ m c apart h. two.flying m c apart (one.flying m c apart h); parked = λ m apart h. two.parked m apart (one.parked m apart h) }

flies_conn : (n c : ℕ) (flights : List Flight) → flies n c flights ≡ true → has_flight c flights ≡ true
flies_conn n c [] h = absurd cc
flies_conn n c (x ∷ xs) h = grind (arith, nat_tests, flies_conn n c xs, h)

-- No two calls have a driver call under way on one connection.
pub one_call_there : (m n c d : ℕ) (past : List Event) (flights : List Flight) → Flying past flights → flies n c flights ≡ true → flies m d flights ≡ true → m ≢ n → (c == d) ≡ false
one_call_there m n c d past flights f at there apart = other_number c d clash
  where
    clash : c ≢ d
    clash same =
        let free = free_landed n c flights f.apart at in
        let moved : flies m c flights ≡ true = subst (λ k. flies m k flights ≡ true) (sym same) there in
        let taken = flies_conn m c (without_flight n flights) (flies_landed m n c flights apart moved) in
        let both : true ≡ false = sym taken ∙ free in
        absurd cc

-- What other clients have at hand stays.

-- Holds if call n goes on. What is under way of others stays so, and so does the permit of each call that has a
-- driver call under way.
pub record Goes (n : ℕ) (past history : List Event) (before after : List Flight) : Type 0 where
  pub lawful : Lawful history
  pub flying : Flying history after
  pub same : SameButFor n before after
  pub stays : (permit : Permit) → IsLeave past permit → flies permit.call_no permit.conn before ≡ true → permit.call_no ≢ n → IsLeave history permit

-- A step of call n leaves this as it is if its first event ends no driver call of others that is under way.
pub goes_by_step : (first : Event) (n : ℕ) (past history : List Event) (before after : List Flight) → Grouped past history first n → Lawful history → Flying history after → SameButFor n before after
    → ((permit : Permit) → flies permit.call_no permit.conn before ≡ true → permit.call_no ≢ n → parts first (entry_of permit Done) ≡ false) → Goes n past history before after
goes_by_step first n past history before after g l f same spares = record {
  lawful = l;
  flying = f;
  same = same;
  stays = λ permit leave there other.
      subst (λ H. IsLeave H permit) (sym g.grown)
      (leave_kept past g.events g.group.more first n permit (subst Lawful g.grown l) leave g.group.whole g.group.later (λ is. other (sym is)) (spares permit there other));
}

-- Call 0, which is nobody's, has nothing under way.
pub nobody_flies : (H : List Event) (flights : List Flight) → Lawful H → Flying H flights → is_in_flight 0 flights ≡ false
nobody_flies H flights l f = done_parked H 0 flights (nobody H 0 l refl) f.known

other_fits : (n : ℕ) (past history : List Event) (before after : List Flight) (k : ℕ) (leave : Option Permit) → Goes n past history before after → (k ≡ n → n ≡ 0) → FitsCall past before k leave → FitsCall history after k leave
other_fits n past history before after k None g other fits = by (same_or_not k n)
  where
    by : (k ≡ n) ⊎ (k ≢ n) → is_in_flight k after ≡ false
    by (inl same) = subst (λ m. is_in_flight m after ≡ false) (sym (same ∙ other same)) (nobody_flies history after g.lawful g.flying)
    by (inr apart) = g.same.parked k apart fits
other_fits n past history before after k (Some permit) g other fits =
    let itself : permit.call_no ≡ k = fits.1 in
    let apart : k ≢ n = λ same. fits.0.of_a_call (itself ∙ (same ∙ other same)) in
    let there : flies permit.call_no permit.conn before ≡ true = subst (λ m. flies m permit.conn before ≡ true) (sym itself) fits.2 in
    (g.stays permit fits.0 there (λ same. apart (sym itself ∙ same)), itself, g.same.flying k permit.conn apart fits.2)

-- Says what the other clients keep. Their calls aren't call n and stay theirs, none becomes busy, and what they
-- have at hand stays.
pub record OthersStay (n me : ℕ) (past history : List Event) (seats now : List Seat) : Type 0 where
  pub other : (client : ℕ) → client ≢ me → call_of past client ≡ n → n ≡ 0
  pub call : (client : ℕ) → client ≢ me → call_of history client ≡ call_of past client
  pub busy : (client : ℕ) → client ≢ me → is_busy client history ≡ true → is_busy client past ≡ true
  pub permit : (client : ℕ) → client ≢ me → (seat now client).permit ≡ (seat seats client).permit
  pub many : length seats ≤ length now

pub other_seat : (n me client : ℕ) (past history : List Event) (before after : List Flight) (seats now : List Seat) → Goes n past history before after → OthersStay n me past history seats now → client ≢ me
    → SeatFits past before seats client → SeatFits history after now client
other_seat n me client past history before after seats now g o apart fits = record {
  leave = subst (λ k. FitsCall history after k (seat now client).permit) (sym (o.call client apart))
      (subst (FitsCall history after (call_of past client)) (sym (o.permit client apart))
      (other_fits n past history before after (call_of past client) (seat seats client).permit g (o.other client apart) fits.leave));
  room = λ is. let room = fits.room (o.busy client apart is) in let many = o.many in omega (arith, room, many);
}

-- The call that went on has a permit for exactly what it sends.

none_sent : (H : List Event) (after : List Flight) (n : ℕ) → Lawful H → Flying H after → is_in_flight n after ≡ false → is_in_flight (cond (is_unfinished H n) n 0) after ≡ false
none_sent H after n l f parked = by (is_unfinished H n)
  where
    by : (b : Bool) → is_in_flight (cond b n 0) after ≡ false
    by true = parked
    by false = nobody_flies H after l f

quiet_never : (H : List Event) (base : List Flight) (n : ℕ) (b : Bool) (why : Option Why) → cond b (sends_unless H n why) (Some (nexts.Reply n)) ≡ Some nexts.Quiet → ⊥
quiet_never H base n true (Some why) h = let clash : nexts.Blocked why ≡ nexts.Quiet = cc in absurd cc
quiet_never H base n true None h = by (permit_for H n) h
  where
    by : (p : Option Permit) → option_map nexts.Send p ≡ Some nexts.Quiet → ⊥
    by (Some p) k = let clash : nexts.Send p ≡ nexts.Quiet = cc in absurd cc
    by None k = absurd cc
quiet_never H base n false why h = let clash : nexts.Reply n ≡ nexts.Quiet = cc in absurd cc

-- A call that is given a permit has no reply yet.
sender_unfinished : (H : List Event) (n : ℕ) (permit : Permit) (b : Bool) (o : Option Next) → is_unfinished H n ≡ b → cond b o (Some (nexts.Reply n)) ≡ Some (nexts.Send permit) → is_unfinished H n ≡ true
sender_unfinished H n permit true o is h = is
sender_unfinished H n permit false o is h = let clash : nexts.Reply n ≡ nexts.Send permit = cc in absurd cc

its_leave : (H : List Event) (base after : List Flight) (n : ℕ) (next : Next) → Lawful H → Flying H after → is_in_flight n base ≡ false → HasGoneOn H base after n next
    → FitsCall H after (cond (is_unfinished H n) n 0) (leave_of next)
its_leave H base after n (nexts.Send permit) l f parked went =
    let u = sender_unfinished H n permit (is_unfinished H n) (sends_unless H n (why_blocked base n (stand H n))) refl went.answers in
    subst (λ b. FitsCall H after (cond b n 0) (Some permit)) (sym u)
    (goes_with_leave H base after n permit l f parked went, goes_itself H base after n permit l f parked went, goes_flying H base after n permit l f parked went)
its_leave H base after n (nexts.Blocked why) l f parked went = none_sent H after n l f (ap (is_in_flight n) (same_when_blocked H base after n why went) ∙ parked)
its_leave H base after n (nexts.Reply m) l f parked went = none_sent H after n l f (ap (is_in_flight n) (same_when_replied H base after n m went) ∙ parked)
its_leave H base after n nexts.Quiet l f parked went = absurd (quiet_never H base n (is_unfinished H n) (why_blocked base n (stand H n)) went.answers)

pub its_seat : (H : List Event) (base after : List Flight) (seats : List Seat) (n client : ℕ) (next : Next) → Lawful H → Flying H after → is_in_flight n base ≡ false → HasGoneOn H base after n next
    → call_of H client ≡ cond (is_unfinished H n) n 0 → (seat seats client).permit ≡ leave_of next → client < length seats → SeatFits H after seats client
its_seat H base after seats n client next l f parked went call leave room = record {
  leave = subst (λ k. FitsCall H after k (seat seats client).permit) (sym call) (subst (FitsCall H after (cond (is_unfinished H n) n 0)) (sym leave) (its_leave H base after n next l f parked went));
  room = λ busy. room;
}
