-- What the layer's core appends is one step: each definition of the core is followed through, event by event.
use Rattle.std.specs.Prelude.{find}
use Rattle.std.specs.Option.{option_map}
use Rattle.std.proofs.Common.{◌≡◌, ◌⊎◌, inl, inr, ℕ, ◌==◌, Bool, true, false, not, ◌&&◌, cond, List, [], ◌∷◌, ◌++◌, Option, Some, None, Result, Ok, Err, refl, ap, sym, subst, ◌∙◌}
use Rattle.dsql_laws.specs.journal.declared.entry.Entry.{Entry}
use Rattle.dsql_laws.specs.journal.declared.entry.Owner.{Owner}
use Rattle.dsql_laws.specs.journal.Kinds.{is_house, number_of}
use Rattle.dsql_laws.specs.journal.Readers.{is_empty}
use Rattle.dsql_laws.specs.pool.declared.conn.Place.{Place}
use Rattle.dsql_laws.specs.pool.declared.conn.Conn.{Conn}
use Rattle.dsql_laws.specs.pool.declared.conn.Place.TheVariants.{Lent, Opening}
use Rattle.dsql_laws.specs.pool.declared.moves.CloseCause.{CloseCause}
use Rattle.dsql_laws.specs.pool.declared.moves.Move.{Move}
use Rattle.dsql_laws.specs.pool.declared.moves.Move.TheVariants.{OpenStart, Lend, Back, CloseStart}
use Rattle.dsql_laws.specs.pool.declared.moves.Outcome.{Outcome}
use Rattle.dsql_laws.specs.pool.declared.moves.Outcome.TheVariants.{Closes, Serves, Rests}
use Rattle.dsql_laws.specs.pool.declared.request.Asked.{Asked}
use Rattle.dsql_laws.specs.pool.declared.request.Asked.TheVariants as asked
use Rattle.dsql_laws.specs.pool.declared.request.AskFault.{AskFault}
use Rattle.dsql_laws.specs.pool.declared.request.AskFault.TheVariants as faults
use Rattle.dsql_laws.specs.pool.Decisions.{lends_to_oldest, moves_back, when_given_back}
use Rattle.dsql_laws.specs.pool.Pooled.{next_tenure}
use Rattle.dsql_laws.specs.history.declared.event.Event.{Event}
use Rattle.dsql_laws.specs.history.declared.event.Event.TheVariants.{Entered, Heard, Pool, Waits, Replied, Ended}
use Rattle.dsql_laws.specs.history.declared.event.Op.{Op}
use Rattle.dsql_laws.specs.history.declared.event.Control.{Control}
use Rattle.dsql_laws.specs.history.declared.event.Control.TheVariants.{Tick, Set}
use Rattle.dsql_laws.specs.history.declared.reply.Reply.{Reply}
use Rattle.dsql_laws.specs.history.declared.reply.Reply.TheVariants.{TooMany}
use Rattle.dsql_laws.specs.history.Readers.Calls.{next_call, reply_due, rests, rests_with}
use Rattle.dsql_laws.specs.history.declared.record.Flight.{Flight}
use Rattle.dsql_laws.specs.history.Readers.Controls.{told_after}
use Rattle.dsql_laws.specs.history.Readers.Owed.{fate, given_back, left_of, owed, answered}
use Rattle.dsql_laws.specs.history.Readers.Pool.{place, pool, is_home, smallest}
use Rattle.dsql_laws.specs.history.Readers.Works.{owner_of}
use Rattle.dsql_laws.specs.history.Rules.Asking.{ask_outcome, may_ask}
use Rattle.dsql_laws.specs.history.Rules.Line.{is_used}
use Rattle.dsql_laws.specs.OwedMade.{with_moves}
use Rattle.dsql_laws.proofs.Tests.{same_itself, same_number}
use Rattle.dsql_laws_callers.proofs.Numbered.{found_there, numbered}
use Rattle.dsql_laws_callers.proofs.Homes.{found_fits}
use Rattle.dsql_follows.specs.Moments.{Moment, begins_step, landed, leaver, stepping}
use Rattle.dsql_laws_steps.specs.Groups.{after_enter, after_end, after_heard, after_control, after_reply, after_settling, asked_so, given_up, gone_on, heard_at, let_go, sends_nothing, unless_resting, with_owed}
use Rattle.dsql_laws_steps.specs.Steps.{IsAtRest, MakesStep, GoesByItself, RestsAlone, goes_by_itself}
use Rattle.dsql_laws_steps.proofs.Going.{Going, going, begun, goes, goes_moving, moves_ahead, whole}

-- Holds if a step of call n has begun and leads to this history. Its first event has the given property.
record Begun (m : Moment) (n : ℕ) (Q : Event → Type 0) (H : List Event) : Type 0 where
  first : Event
  has : Q first
  events : List Event
  group : H ≡ events ++ m.past
  going : Going m first n events

-- Holds if no step has begun, and the call's next event begins one.
record Fresh (m : Moment) (n : ℕ) (Q : Event → Type 0) (H : List Event) : Type 0 where
  rest : IsAtRest m
  past : H ≡ m.past
  other : (n == m.stepper) ≡ false
  has : (e : Event) → goes_by_itself n e ≡ true → stepping m e ≡ n → Q e

-- Holds if call n may go on with its step, or begin one.
abbrev Ready : Moment → ℕ → (Event → Type 0) → List Event → Type 0
Ready m n Q H = Fresh m n Q H ⊎ Begun m n Q H

lands_none : (n : ℕ) (e : Event) (flights : List Flight) → goes_by_itself n e ≡ true → landed e flights ≡ flights
lands_none n (Replied k reply) flights h = refl
lands_none n (Waits k) flights h = refl
lands_none n (Pool move) flights h = refl
lands_none n e flights h = absurd cc

inside : (m : Moment) (n : ℕ) (e : Event) → goes_by_itself n e ≡ true → begins_step m e ≡ not (stepping m e == m.stepper)
inside m n (Replied k reply) h = refl
inside m n (Waits k) h = refl
inside m n (Pool move) h = refl
inside m n e h = absurd cc

-- An event of the call begins its step, or goes on with it.
adds : (m : Moment) (n : ℕ) (Q : Event → Type 0) (H : List Event) (e : Event) → Ready m n Q H → goes_by_itself n e ≡ true → ((k : Moment) → k.past ≡ H → stepping k e ≡ n) → Begun m n Q (e ∷ H)
adds m n Q H e (inl f) it steps =
    let s : stepping m e ≡ n = steps m (sym f.past) in
    let b : begins_step m e ≡ true = inside m n e it ∙ (ap (λ k. not (k == m.stepper)) s ∙ ap not f.other) in
    record {
      first = e;
      has = f.has e it s;
      events = e ∷ [];
      group = ap (λ K. e ∷ K) f.past;
      going = subst (λ k. Going m e k (e ∷ [])) s (begun m e f.rest b);
    }
adds m n Q H e (inr g) it steps =
    let now : Moment = going m g.first n g.events in
    let s : stepping now e ≡ n = steps now (sym g.group) in
    let b : begins_step now e ≡ false = inside now n e it ∙ (ap (λ k. not (k == n)) s ∙ ap not (same_itself n)) in
    record {
      first = g.first;
      has = g.has;
      events = e ∷ g.events;
      group = ap (λ K. e ∷ K) g.group;
      going = goes m g.first n g.events e g.going b s (lands_none n e (landed g.first m.flights) it);
    }

-- After all owed moves were made, none is owed.
made_all : (H : List Event) (ms : List Move) → owed H ≡ ms → owed (with_moves ms H) ≡ []
made_all H [] is = is
made_all H (m ∷ ms) is = made_all (Pool m ∷ H) ms (ap (left_of H m) is)

record Given (m : Moment) (n : ℕ) (Q : Event → Type 0) (H : List Event) : Type 0 where
  begun : Begun m n Q H
  none : owed H ≡ []

-- The owed moves go on with a step.
gives_owed : (m : Moment) (n : ℕ) (Q : Event → Type 0) (H : List Event) (ms : List Move) → Begun m n Q H → owed H ≡ ms → Given m n Q (with_moves ms H)
gives_owed m n Q H ms g due =
    record {
      begun =
          record {
            first = g.first;
            has = g.has;
            events = with_moves ms g.events;
            group = ap (with_moves ms) g.group ∙ moves_ahead ms g.events m.past;
            going = goes_moving m g.first n g.events ms g.going (ap owed (sym g.group) ∙ due);
          };
      none = made_all H ms due;
    }

-- Giving back a connection, with the moves that this makes due, goes on with a step if the connection's leaving
-- does.
gives_moves : (m : Moment) (n : ℕ) (Q : Event → Type 0) (H : List Event) (c : ℕ) → owed H ≡ [] → Begun m n Q (Pool (Back c) ∷ H) → ((why : CloseCause) → Begun m n Q (Pool (CloseStart c why) ∷ H))
    → Given m n Q (with_moves (given_back H c) H)
gives_moves m n Q H c none back closes = by (when_given_back (fate H c) c (pool H)) refl
  where
    returning : (later : List Move) → given_back H c ≡ Back c ∷ later → Given m n Q (with_moves (given_back H c) H)
    returning later is =
        let due : owed (Pool (Back c) ∷ H) ≡ later = rw (none, is) refl in
        subst (λ ms. Given m n Q (with_moves ms H)) (sym is) (gives_owed m n Q (Pool (Back c) ∷ H) later back due)

    by : (o : Outcome) → when_given_back (fate H c) c (pool H) ≡ o → Given m n Q (with_moves (given_back H c) H)
    by (Closes why) is =
        let all : given_back H c ≡ CloseStart c why ∷ [] = ap (moves_back c (pool H)) is in
        let due : owed (Pool (CloseStart c why) ∷ H) ≡ [] = rw (none, all) refl in
        subst (λ ms. Given m n Q (with_moves ms H)) (sym all) (gives_owed m n Q (Pool (CloseStart c why) ∷ H) [] (closes why) due)
    by Serves is = returning (lends_to_oldest c (next_tenure (pool H) c) (pool H).waiting) (ap (moves_back c (pool H)) is)
    by Rests is = returning [] (ap (moves_back c (pool H)) is)

-- A call that rests gives back its own connection.

home_leaves : (H : List Event) (n m : ℕ) (p : Place) → rests H n ≡ true → is_home n p ≡ true → leaver H m (Some p) ≡ n
home_leaves H n m (Lent t o) r h = let same = same_number (number_of o) n h in ap (λ (b : Bool). cond b (number_of o) m) (ap (rests H) same ∙ r) ∙ same
home_leaves H n m (Opening (Some o)) r h = let same = same_number (number_of o) n h in ap (λ (b : Bool). cond b (number_of o) m) (ap (rests H) same ∙ r) ∙ same
home_leaves H n m _ r h = absurd cc

found_leaves : (H : List Event) (n m c : ℕ) (found : Option Conn) → rests H n ≡ true → find (λ (conn : Conn). is_home n conn.place) (pool H).conns ≡ found → option_map (λ (conn : Conn). conn.number) found ≡ Some c
    → leaver H m (place H c) ≡ n
found_leaves H n m c None r is at = absurd cc
found_leaves H n m c (Some x) r is at =
    let same : x.number ≡ c = cc in
    let found = found_there (λ (conn : Conn). is_home n conn.place) 0 (pool H).opened (pool H).conns x (numbered H) is in
    let there : place H c ≡ Some x.place = ap (λ k. place H k) (sym same) ∙ ap (option_map (λ (conn : Conn). conn.place)) found.there in
    ap (leaver H m) there ∙ home_leaves H n m x.place r (found_fits (λ (conn : Conn). is_home n conn.place) (pool H).conns x is)

leaves_own : (H : List Event) (n m c : ℕ) (r : Bool) → rests H n ≡ r → cond r (smallest (is_home n) (pool H)) None ≡ Some c → leaver H m (place H c) ≡ n
leaves_own H n m c true r at = found_leaves H n m c (find (λ (conn : Conn). is_home n conn.place) (pool H).conns) r refl at
leaves_own H n m c false r at = absurd cc

-- So the step is that call's own, whichever call was stepping.
steps_leaving : (H : List Event) (n c : ℕ) (k : Moment) → owed H ≡ [] → rests_with H n ≡ Some c → k.past ≡ H
    → cond (is_empty (owed k.past)) (leaver k.past k.stepper (place k.past c)) k.stepper ≡ n
steps_leaving H n c k none at same =
    ap (λ P. cond (is_empty (owed P)) (leaver P k.stepper (place P c)) k.stepper) same
    ∙ (ap (λ ms. cond (is_empty ms) (leaver H k.stepper (place H c)) k.stepper) none ∙ leaves_own H n k.stepper c (rests H n) refl at)

gives_own : (m : Moment) (n : ℕ) (Q : Event → Type 0) (H : List Event) (c : ℕ) → Ready m n Q H → owed H ≡ [] → rests_with H n ≡ Some c → Given m n Q (with_moves (given_back H c) H)
gives_own m n Q H c ready none at =
    gives_moves m n Q H c none (adds m n Q H (Pool (Back c)) ready refl (λ k same. steps_leaving H n c k none at same))
    (λ why. adds m n Q H (Pool (CloseStart c why)) ready refl (λ k same. steps_leaving H n c k none at same))

-- A call that goes on by itself adds its own events to a step, or adds nothing.

replies : (m : Moment) (n : ℕ) (Q : Event → Type 0) (H : List Event) (due : Option Reply) → Ready m n Q H → owed H ≡ [] → (after_reply n due H ≡ H) ⊎ Begun m n Q (after_reply n due H)
replies m n Q H None ready none = inl refl
replies m n Q H (Some reply) ready none = inr (by (rests_with H n) refl)
  where
    told : (K : List Event) → Ready m n Q K → Begun m n Q (Replied n reply ∷ K)
    told K so_far = adds m n Q K (Replied n reply) so_far (same_itself n) (λ k same. refl)

    by : (o : Option ℕ) → rests_with H n ≡ o → Begun m n Q (Replied n reply ∷ given_up (rests_with H n) H)
    by None is = subst (λ o. Begun m n Q (Replied n reply ∷ given_up o H)) (sym is) (told H ready)
    by (Some c) is =
        let given = gives_own m n Q H c ready none is in
        subst (λ o. Begun m n Q (Replied n reply ∷ given_up o H)) (sym is) (told (with_moves (given_back H c) H) (inr given.begun))

-- A call that rests goes on with the step.
rests_on : (m : Moment) (n : ℕ) (Q : Event → Type 0) (H : List Event) (b : Bool) → (sends_nothing H n && rests H n) ≡ b → Ready m n Q H → owed H ≡ [] → (unless_resting n H ≡ H) ⊎ Begun m n Q (unless_resting n H)
rests_on m n Q H true is ready none =
    subst (λ b. (cond b (after_reply n (reply_due H n) H) H ≡ H) ⊎ Begun m n Q (cond b (after_reply n (reply_due H n) H) H)) (sym is) (replies m n Q H (reply_due H n) ready none)
rests_on m n Q H false is ready none = subst (λ b. (cond b (after_reply n (reply_due H n) H) H ≡ H) ⊎ Begun m n Q (cond b (after_reply n (reply_due H n) H) H)) (sym is) (inl refl)

still_begun : (m : Moment) (n : ℕ) (Q : Event → Type 0) (H K : List Event) → Begun m n Q H → (K ≡ H) ⊎ Begun m n Q K → Begun m n Q K
still_begun m n Q H K so_far (inl same) = subst (Begun m n Q) (sym same) so_far
still_begun m n Q H K so_far (inr more) = more

asks_on : (m : Moment) (n : ℕ) (Q : Event → Type 0) (H : List Event) (outcome : Result Asked AskFault) → Ready m n Q H → owed H ≡ [] → (asked_so n outcome H ≡ H) ⊎ Begun m n Q (asked_so n outcome H)
asks_on m n Q H outcome ready none = by outcome
  where
    asking : (k : Moment) → k.past ≡ H → cond (is_empty (owed k.past)) n k.stepper ≡ n
    asking k same = ap (λ P. cond (is_empty (owed P)) n k.stepper) same ∙ ap (λ ms. cond (is_empty ms) n k.stepper) none

    goes_so : (K : List Event) → Begun m n Q K → owed K ≡ [] → Begun m n Q (unless_resting n K)
    goes_so K so_far free = still_begun m n Q K (unless_resting n K) so_far (rests_on m n Q K (sends_nothing K n && rests K n) refl (inr so_far) free)

    by : (outcome : Result Asked AskFault) → (asked_so n outcome H ≡ H) ⊎ Begun m n Q (asked_so n outcome H)
    by (Ok (asked.Lent c t)) =
        let e = Pool (Lend c t (owner_of H n) n) in
        inr (goes_so (e ∷ H) (adds m n Q H e ready (same_itself n) asking) (ap (left_of H (Lend c t (owner_of H n) n)) none))
    by (Ok (asked.Opening c)) = inr (goes_so (Pool (OpenStart c n) ∷ H) (adds m n Q H (Pool (OpenStart c n)) ready (same_itself n) asking) (ap (left_of H (OpenStart c n)) none))
    by (Ok asked.Queued) = inr (goes_so (Waits n ∷ H) (adds m n Q H (Waits n) ready (same_itself n) (λ k same. refl)) refl)
    by (Ok asked.Closed) = rests_on m n Q H (sends_nothing H n && rests H n) refl ready none
    by (Err faults.TooMany) = inr (adds m n Q H (Replied n TooMany) ready (same_itself n) (λ k same. refl))
    by (Err faults.Memory) = rests_on m n Q H (sends_nothing H n && rests H n) refl ready none

settles : (m : Moment) (n : ℕ) (Q : Event → Type 0) (H : List Event) (due : Option Reply) (may : Bool) → may_ask H n ≡ may → Ready m n Q H → owed H ≡ [] → (after_settling n due H ≡ H) ⊎ Begun m n Q (after_settling n due H)
settles m n Q H (Some reply) may is ready none = replies m n Q H (Some reply) ready none
settles m n Q H None true is ready none =
    subst (λ b. (cond b (asked_so n (ask_outcome H n) H) H ≡ H) ⊎ Begun m n Q (cond b (asked_so n (ask_outcome H n) H) H)) (sym is) (asks_on m n Q H (ask_outcome H n) ready none)
settles m n Q H None false is ready none = subst (λ b. (cond b (asked_so n (ask_outcome H n) H) H ≡ H) ⊎ Begun m n Q (cond b (asked_so n (ask_outcome H n) H) H)) (sym is) (inl refl)

goes_by : (m : Moment) (n : ℕ) (Q : Event → Type 0) (H : List Event) (silent : Bool) → sends_nothing H n ≡ silent → Ready m n Q H → owed H ≡ [] → (gone_on n H ≡ H) ⊎ Begun m n Q (gone_on n H)
goes_by m n Q H true is ready none =
    subst (λ b. (cond b (after_settling n (reply_due H n) H) H ≡ H) ⊎ Begun m n Q (cond b (after_settling n (reply_due H n) H) H)) (sym is) (settles m n Q H (reply_due H n) (may_ask H n) refl ready none)
goes_by m n Q H false is ready none = subst (λ b. (cond b (after_settling n (reply_due H n) H) H ≡ H) ⊎ Begun m n Q (cond b (after_settling n (reply_due H n) H) H)) (sym is) (inl refl)

goes_so_far : (m : Moment) (n : ℕ) (Q : Event → Type 0) (H : List Event) → Ready m n Q H → owed H ≡ [] → (gone_on n H ≡ H) ⊎ Begun m n Q (gone_on n H)
goes_so_far m n Q H ready none = goes_by m n Q H (sends_nothing H n) refl ready none

-- Steps that begin with an event from outside.

-- Holds if the first event is this one.
abbrev Is : Event → Event → Type 0
Is e first = first ≡ e

begins_with : (m : Moment) (e : Event) → IsAtRest m → begins_step m e ≡ true → Begun m (stepping m e) (Is e) (e ∷ m.past)
begins_with m e rest b = record { first = e; has = refl; events = e ∷ []; group = refl; going = begun m e rest b }

ends : (m : Moment) (e : Event) (n : ℕ) (H : List Event) → Begun m n (Is e) H → MakesStep m e n H
ends m e n H g = record { events = g.events; group = g.group; step = whole m e n g.events (subst (λ first. Going m first n g.events) g.has g.going) }

-- After its first events, a step goes on with its call as far as the call can go.
ends_on : (m : Moment) (e : Event) (n : ℕ) (H : List Event) → Given m n (Is e) H → MakesStep m e n (gone_on n H)
ends_on m e n H g = ends m e n (gone_on n H) (still_begun m n (Is e) H (gone_on n H) g.begun (goes_so_far m n (Is e) H (inr g.begun) g.none))

-- The first event and all moves that it makes due are one step.
with_due : (m : Moment) (e : Event) → IsAtRest m → begins_step m e ≡ true → MakesStep m e (stepping m e) (with_owed (e ∷ m.past))
with_due m e rest b =
    let g = gives_owed m (stepping m e) (Is e) (e ∷ m.past) (owed (e ∷ m.past)) (begins_with m e rest b) refl in
    ends m e (stepping m e) (with_owed (e ∷ m.past)) g.begun

pub enter_is_one : (m : Moment) (client : ℕ) (op : Op) → IsAtRest m → MakesStep m (Entered client (next_call m.past) op) (next_call m.past) (after_enter m.past client op)
enter_is_one m client op rest =
    let n = next_call m.past in
    let e = Entered client n op in
    ends_on m e n (with_owed (e ∷ m.past)) (gives_owed m n (Is e) (e ∷ m.past) (owed (e ∷ m.past)) (begins_with m e rest refl) refl)

pub control_is_one : (m : Moment) (control : Control) → IsAtRest m → MakesStep m (told_after m.past control) 0 (after_control m.past control)
control_is_one m (Tick now) rest = with_due m (told_after m.past (Tick now)) rest refl
control_is_one m (Set setting k) rest = with_due m (told_after m.past (Set setting k)) rest refl

pub end_is_one : (m : Moment) → IsAtRest m → MakesStep m Ended 0 (after_end m.past)
end_is_one m rest = with_due m Ended rest refl

-- An answer may let go of its connection, and then its call goes on.

-- If the connection's call doesn't rest, or is the answered one, giving the connection back goes on with the
-- step of the answer.
module _ (m : Moment) (e : Entry) (rest : IsAtRest m) (t : ℕ) (owner : Owner) (is : place m.past e.conn ≡ Some (Lent t owner)) (alone : rests (Heard e ∷ m.past) (number_of owner) ≡ true → number_of owner ≡ e.call_no) where
  abbrev k : ℕ
  k = number_of owner

  abbrev H : List Event
  H = Heard e ∷ m.past

  none : owed H ≡ []
  none = ap (answered e.answer e.conn (pool m.past)) is

  so_far : Begun m e.call_no (Is (Heard e)) H
  so_far = begins_with m (Heard e) rest refl

  leaves_step : cond (is_empty (owed H)) (leaver H e.call_no (place H e.conn)) e.call_no ≡ e.call_no
  leaves_step =
      ap (λ ms. cond (is_empty ms) (leaver H e.call_no (place H e.conn)) e.call_no) none
      ∙ (ap (leaver H e.call_no) is ∙ by (rests H k) refl)
    where
      by : (r : Bool) → rests H k ≡ r → cond r k e.call_no ≡ e.call_no
      by true r = alone r
      by false r = refl

  leaves : (move : Move) → stepping (going m (Heard e) e.call_no (Heard e ∷ [])) (Pool move) ≡ e.call_no → Begun m e.call_no (Is (Heard e)) (Pool move ∷ H)
  leaves move s =
      record {
        first = Heard e;
        has = refl;
        events = Pool move ∷ Heard e ∷ [];
        group = refl;
        going = goes m (Heard e) e.call_no (Heard e ∷ []) (Pool move) (begun m (Heard e) rest refl) (ap (λ i. not (i == e.call_no)) s ∙ ap not (same_itself e.call_no)) s refl;
      }

  lets_go : (used : Bool) → is_used H k ≡ used → Given m e.call_no (Is (Heard e)) (let_go e.conn k H)
  lets_go true used = rw used (record { begun = so_far; none = none })
  lets_go false used = rw used (gives_moves m e.call_no (Is (Heard e)) H e.conn none (leaves (Back e.conn) leaves_step) (λ why. leaves (CloseStart e.conn why) leaves_step))

  heard_lent : MakesStep m (Heard e) e.call_no (gone_on e.call_no (let_go e.conn k H))
  heard_lent = ends_on m (Heard e) e.call_no (let_go e.conn k H) (lets_go (is_used H k) refl)

heard_owned : (m : Moment) (e : Entry) (t : ℕ) (owner : Owner) (house : Bool) → IsAtRest m → RestsAlone m.past e → place m.past e.conn ≡ Some (Lent t owner) → is_house owner ≡ house → MakesStep m (Heard e) e.call_no (heard_at (Some (Lent t owner)) e m.past)
heard_owned m e t owner true rest alone is house = rw house (with_due m (Heard e) rest refl)
heard_owned m e t owner false rest alone is house = rw house (heard_lent m e rest t owner is (alone t owner is))

heard_at_place : (m : Moment) (e : Entry) (at : Option Place) → IsAtRest m → RestsAlone m.past e → place m.past e.conn ≡ at → MakesStep m (Heard e) e.call_no (heard_at at e m.past)
heard_at_place m e (Some (Lent t owner)) rest alone is = heard_owned m e t owner (is_house owner) rest alone is refl
heard_at_place m e at rest alone is = with_due m (Heard e) rest refl

pub heard_is_one : (m : Moment) (e : Entry) → IsAtRest m → RestsAlone m.past e → MakesStep m (Heard e) e.call_no (after_heard m.past e)
heard_is_one m e rest alone = heard_at_place m e (place m.past e.conn) rest alone refl

-- A call that goes on by itself.

abbrev Own : Moment → ℕ → Event → Type 0
Own m n first = (goes_by_itself n first ≡ true) × (stepping m first ≡ n)

pub goes_on_by_one : (m : Moment) (n : ℕ) → IsAtRest m → owed m.past ≡ [] → (n == m.stepper) ≡ false → (gone_on n m.past ≡ m.past) ⊎ GoesByItself m n (gone_on n m.past)
goes_on_by_one m n rest none other = by (goes_so_far m n (Own m n) m.past (inl (record { rest = rest; past = refl; other = other; has = λ e it own. (it, own) })) none)
  where
    by : (gone_on n m.past ≡ m.past) ⊎ Begun m n (Own m n) (gone_on n m.past) → (gone_on n m.past ≡ m.past) ⊎ GoesByItself m n (gone_on n m.past)
    by (inl same) = inl same
    by (inr g) = inr (record {
      first = g.first;
      itself = g.has.0;
      own = g.has.1;
      step = record { events = g.events; group = g.group; step = whole m g.first n g.events g.going };
    })
