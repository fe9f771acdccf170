-- The player may take a step again after it has taken one. The argument takes a step of nobody, a step of a
-- client's call, and a call that only got a permit.
use Rattle.std.proofs.Common.{◌≡◌, ◌≢◌, ◌⊎◌, inl, inr, ℕ, ◌+◌, Bool, true, false, cond, List, None, refl, ap, sym, subst, ◌∙◌, arith}
use Rattle.dsql_engine_laws.specs.driver.declared.answer.DriverAnswer.TheVariants.{Done}
use Rattle.dsql_engine_laws.specs.journal.declared.entry.Entry.{Entry}
use Rattle.dsql_engine_laws.specs.journal.declared.entry.Permit.{Permit}
use Rattle.dsql_engine_laws.specs.journal.Permits.{entry_of}
use Rattle.dsql_engine_laws.specs.history.declared.event.Event.{Event}
use Rattle.dsql_engine_laws.specs.history.declared.event.Event.TheVariants.{Entered, Heard, Ended, Pool, Waits, Replied}
use Rattle.dsql_engine_laws.specs.history.declared.event.Op.{Op}
use Rattle.dsql_engine_laws.specs.history.declared.event.Control.{Control}
use Rattle.dsql_engine_laws.specs.history.declared.event.Control.TheVariants.{Tick, Set}
use Rattle.dsql_engine_laws.specs.history.declared.record.Flight.{Flight}
use Rattle.dsql_engine_laws.specs.history.Readers.Calls.{is_busy, next_call}
use Rattle.dsql_engine_laws.specs.history.Readers.Clients.{call_of, client_of}
use Rattle.dsql_engine_laws.specs.history.Readers.Controls.{told, taken, told_after}
use Rattle.dsql_engine_laws.specs.history.Readers.Unfinished.{is_unfinished}
use Rattle.dsql_engine_laws.specs.history.Rules.Flights.{is_in_flight, permitted, without_flight}
use Rattle.dsql_engine_laws.specs.history.Rules.Line.{parts}
use Rattle.dsql_engine_laws.specs.history.Rules.Stands.{stand}
use Rattle.dsql_engine_laws.specs.history.Legal.{Lawful, Legal}
use Rattle.dsql_engine_laws.proofs.laws.Tests.{other_number, same_number}
use Rattle.dsql_engine_laws.proofs.laws_work.Rows.{same_or_not}
use Rattle.dsql_engine_laws.specs.going.Reaching.{HasGoneOn}
use Rattle.dsql_engine_laws.specs.going.declared.next.Next.{Next}
use Rattle.dsql_engine_laws.proofs.hearing.Steps.{landed_apart}
use Rattle.dsql_engine_laws.specs.laws_ends.Steps.{begins_step_of}
use Rattle.dsql_engine_laws.proofs.laws_ends.Whose.{busy_own, idle_none, unfinished_entered, busy_unfinished}
use Rattle.dsql_laws_lines.specs.Entries.{is_entry}
use Rattle.dsql_player_wires.specs.Seats.{Seat}
use Rattle.dsql_engine_laws.specs.laws_steps.Groups.{after_end, after_enter, after_heard, after_control, gone_on}
use Rattle.dsql_engine_laws.specs.laws_steps.Steps.{goes_by_itself}
use Rattle.dsql_engine_laws.specs.Leaves.{IsLeave}
use Rattle.dsql_engine_laws.specs.Turns.{Flying, flies}
use Rattle.dsql_engine_laws.proofs.Steps.{answer_flies, end_flies, enter_flies, new_parked, control_flies, wake_flies}
use Rattle.dsql_player.specs.Playing.{IsReady, LinesFit, Playing, SeatFits}
use Rattle.dsql_player.proofs.Grouped.{GoneOn, Grouped, ends_grouped, enters_grouped, goes_grouped, hears_grouped, control_grouped}
use Rattle.dsql_player.proofs.Seating.{Goes, OthersStay, SameButFor, and_then, goes_by_step, its_seat, lands, one_call_there, other_seat, same_flights, sends_more}
use Rattle.dsql_player.proofs.Whose.{begins_itself, begins_no_entry, busy_alike, busy_before, busy_call, entry_other, entry_own, its_call, lawful_before, other_call}
use Rattle.dsql_player.specs.Acts.{Hands, SamePermits}

-- A step of nobody.

-- The player stays ready over a step of the layer, and over a line that sets a limit or ends the run.
pub nobody_ready : (first : Event) (before after : Playing) → IsReady before → Grouped before.past after.past first 0 → begins_step_of 0 first ≡ true → Legal after.past → after.chore ≡ None
    → Goes 0 before.past after.past before.flights after.flights → SamePermits before.seats after.seats → LinesFit after → IsReady after
nobody_ready first before after ready g begins legal free goes same fit = record { legal = legal; free = free; flying = goes.flying; seats = λ client. fits client; lines = fit }
  where
    none : is_entry first ≡ false
    none = begins_no_entry 0 first begins

    -- A step of nobody leaves every client but one its call and what it has at hand.
    others : (client : ℕ) → OthersStay 0 (client + 1) before.past after.past before.seats after.seats
    others client = record {
      other = λ it apart is. refl;
      call = λ it apart. other_call before.past after.past first 0 it g legal.lawful begins (λ is. refl);
      busy = λ it apart busy. busy_before before.past after.past first 0 it g none busy;
      permit = λ it apart. same.permit it;
      many = same.many;
    }

    fits : (client : ℕ) → SeatFits after.past after.flights after.seats client
    fits client =
        other_seat 0 (client + 1) client before.past after.past before.flights after.flights before.seats after.seats goes (others client) (λ is. absurd (omega (arith, is))) (ready.seats client)

begins_one : (control : Control) → begins_step_of 0 (told control) ≡ true
begins_one (Tick now) = refl
begins_one (Set setting k) = refl

parts_none : (control : Control) (permit : Permit) → parts (told control) (entry_of permit Done) ≡ false
parts_none (Tick now) permit = refl
parts_none (Set setting k) permit = refl

pub control_ready : (before after : Playing) (control : Control) → IsReady before → after.past ≡ after_control before.past control → after.flights ≡ before.flights → Legal after.past → after.chore ≡ None
    → SamePermits before.seats after.seats → LinesFit after → IsReady after
control_ready before after control ready is fly legal free same fit =
    let first = told_after before.past control in
    let g : Grouped before.past after.past first 0 = subst (λ H. Grouped before.past H first 0) (sym is) (control_grouped before.past control) in
    let f : Flying after.past after.flights =
    subst (Flying after.past) (sym fly) (subst (λ H. Flying H before.flights) (sym is) (control_flies before.past control before.flights (subst Lawful is legal.lawful) ready.flying)) in
    let kept : SameButFor 0 before.flights after.flights = subst (SameButFor 0 before.flights) (sym fly) (same_flights 0 before.flights) in
    nobody_ready first before after ready g (begins_one (taken before.past control)) legal free (goes_by_step first 0 before.past after.past before.flights after.flights g legal.lawful f kept (λ permit there apart. parts_none (taken before.past control) permit)) same fit

pub end_ready : (before after : Playing) → IsReady before → after.past ≡ after_end before.past → after.flights ≡ before.flights → Legal after.past → after.chore ≡ None → SamePermits before.seats after.seats → LinesFit after → IsReady after
end_ready before after ready is fly legal free same fit =
    let g : Grouped before.past after.past Ended 0 = subst (λ H. Grouped before.past H Ended 0) (sym is) (ends_grouped before.past) in
    let f : Flying after.past after.flights =
    subst (Flying after.past) (sym fly) (subst (λ H. Flying H before.flights) (sym is) (end_flies before.past before.flights (subst Lawful is legal.lawful) ready.flying)) in
    let kept : SameButFor 0 before.flights after.flights = subst (SameButFor 0 before.flights) (sym fly) (same_flights 0 before.flights) in
    nobody_ready Ended before after ready g refl legal free (goes_by_step Ended 0 before.past after.past before.flights after.flights g legal.lawful f kept (λ permit there apart. refl)) same fit

-- A step of a client's call.

pub call_ready : (n me : ℕ) (before after : Playing) (base : List Flight) (next : Next) → IsReady before → Legal after.past → after.chore ≡ None → Goes n before.past after.past before.flights after.flights
    → OthersStay n me before.past after.past before.seats after.seats → is_in_flight n base ≡ false → HasGoneOn after.past base after.flights n next
    → call_of after.past me ≡ cond (is_unfinished after.past n) n 0 → Hands me next before.seats after.seats → LinesFit after → IsReady after
call_ready n me before after base next ready legal free goes others parked went call hands fit = record { legal = legal; free = free; flying = goes.flying; seats = fits; lines = fit }
  where
    fits : (client : ℕ) → SeatFits after.past after.flights after.seats client
    fits client = elim (same_or_not client me) [
      | inl same ↦ subst (SeatFits after.past after.flights after.seats) (sym same) (its_seat after.past base after.flights after.seats n me next legal.lawful goes.flying parked went call hands.handed hands.room)
      | inr apart ↦ other_seat n me client before.past after.past before.flights after.flights before.seats after.seats goes others apart (ready.seats client)
    ]

pub entry_ready : (before after : Playing) (client : ℕ) (op : Op) (next : Next) → IsReady before → after.past ≡ after_enter before.past client op
    → HasGoneOn after.past before.flights after.flights (next_call before.past) next → Legal after.past → after.chore ≡ None → Hands client next before.seats after.seats → LinesFit after → IsReady after
entry_ready before after client op next ready is went legal free hands fit =
    call_ready n client before after before.flights next ready legal free goes others (new_parked before.past before.flights lawful ready.flying) went (entry_own before.past after.past client n op g legal.lawful) hands fit
  where
    n : ℕ
    n = next_call before.past

    first : Event
    first = Entered client n op

    g : Grouped before.past after.past first n
    g = subst (λ H. Grouped before.past H first n) (sym is) (enters_grouped before.past client op)

    lawful : Lawful before.past
    lawful = lawful_before before.past after.past first n g legal.lawful

    flying : Flying after.past after.flights
    flying =
        subst (Flying after.past) (sym went.flights)
        (subst (λ H. Flying H (permitted n (stand H n) before.flights)) (sym is) (enter_flies before.past client op before.flights (subst Lawful is legal.lawful) ready.flying))

    goes : Goes n before.past after.past before.flights after.flights
    goes =
        goes_by_step first n before.past after.past before.flights after.flights g legal.lawful flying
        (subst (SameButFor n before.flights) (sym went.flights) (sends_more n (stand after.past n) before.flights)) (λ permit there apart. refl)

    -- A call that enters has a number that no other client's call has.
    new : (other : ℕ) → call_of before.past other ≡ n → n ≡ 0
    new other is_n = by (is_busy other before.past) refl
      where
        by : (b : Bool) → is_busy other before.past ≡ b → n ≡ 0
        by true busy = let old = unfinished_entered before.past (call_of before.past other) lawful (busy_unfinished before.past other busy) in absurd (omega (arith, old, is_n))
        by false idle = sym is_n ∙ idle_none before.past other idle

    others : OthersStay n client before.past after.past before.seats after.seats
    others = record {
      other = λ it apart. new it;
      call = λ it apart. entry_other before.past after.past client n it op g legal.lawful apart;
      busy = λ it apart busy. busy_alike before.past after.past it legal.lawful (entry_other before.past after.past client n it op g legal.lawful apart) busy;
      permit = hands.others;
      many = hands.many;
    }

-- No other client has this client's call.
whose_call : (H : List Event) (me client : ℕ) → Lawful H → is_busy me H ≡ true → client ≢ me → call_of H client ≢ call_of H me
whose_call H me client l busy apart same = by (is_busy client H) refl
  where
    by : (b : Bool) → is_busy client H ≡ b → ⊥
    by true is = apart (sym (busy_own H client is) ∙ (ap (client_of H) same ∙ busy_own H me busy))
    by false is = busy_call H me l busy (sym same ∙ idle_none H client is)

-- The others stay as they are over a step of this client's call in which no call enters.
others_stay : (first : Event) (me : ℕ) (past history : List Event) (seats now : List Seat) (next : Next) → Grouped past history first (call_of past me) → Lawful history → is_busy me past ≡ true
    → begins_step_of (call_of past me) first ≡ true → Hands me next seats now → OthersStay (call_of past me) me past history seats now
others_stay first me past history seats now next g l busy begins hands = record {
  other = λ client apart is. absurd (whose_call past me client lawful busy apart is);
  call = λ client apart. other_call past history first (call_of past me) client g l begins (λ is. absurd (whose_call past me client lawful busy apart is));
  busy = λ client apart is. busy_before past history first (call_of past me) client g (begins_no_entry (call_of past me) first begins) is;
  permit = hands.others;
  many = hands.many;
}
  where
    lawful : Lawful past
    lawful = lawful_before past history first (call_of past me) g l

pub answer_ready : (before after : Playing) (me : ℕ) (e : Entry) (next : Next) → IsReady before → is_busy me before.past ≡ true → e.call_no ≡ call_of before.past me
    → flies e.call_no e.conn before.flights ≡ true → after.past ≡ after_heard before.past e → HasGoneOn after.past (without_flight e.call_no before.flights) after.flights e.call_no next
    → Legal after.past → after.chore ≡ None → Hands me next before.seats after.seats → LinesFit after → IsReady after
answer_ready before after me e next ready busy its there is went legal free hands fit =
    call_ready n me before after base next ready legal free goes others (subst (λ k. is_in_flight n (without_flight k before.flights) ≡ false) (sym its) (landed_apart n before.flights))
    (subst (λ k. HasGoneOn after.past base after.flights k next) its went) (its_call before.past after.past (Heard e) me g legal.lawful refl busy) hands fit
  where
    n : ℕ
    n = call_of before.past me

    base : List Flight
    base = without_flight e.call_no before.flights

    heard : Grouped before.past after.past (Heard e) e.call_no
    heard = subst (λ H. Grouped before.past H (Heard e) e.call_no) (sym is) (hears_grouped before.past e (subst Lawful is legal.lawful))

    g : Grouped before.past after.past (Heard e) n
    g = subst (Grouped before.past after.past (Heard e)) its heard

    flying : Flying after.past after.flights
    flying =
        subst (λ H. Flying H after.flights) (sym is)
        (answer_flies before.past e before.flights after.flights next (subst Lawful is legal.lawful) ready.flying there (subst (λ H. HasGoneOn H base after.flights e.call_no next) is went))

    same : SameButFor e.call_no before.flights after.flights
    same =
        and_then e.call_no before.flights base after.flights (lands e.call_no before.flights)
        (subst (SameButFor e.call_no base) (sym went.flights) (sends_more e.call_no (stand after.past e.call_no) base))

    goes : Goes n before.past after.past before.flights after.flights
    goes =
        goes_by_step (Heard e) n before.past after.past before.flights after.flights g legal.lawful flying (subst (λ k. SameButFor k before.flights after.flights) its same)
        (λ permit there_too apart. one_call_there permit.call_no e.call_no e.conn permit.conn before.past before.flights ready.flying there there_too (λ is_it. apart (is_it ∙ its)))

    others : OthersStay n me before.past after.past before.seats after.seats
    others = others_stay (Heard e) me before.past after.past before.seats after.seats next g legal.lawful busy refl hands

-- An event of a call that goes on by itself ends no driver call of other calls that is under way.
itself_spares : (n : ℕ) (first : Event) (permit : Permit) → goes_by_itself n first ≡ true → permit.call_no ≢ n → parts first (entry_of permit Done) ≡ false
itself_spares n (Replied m reply) permit h apart = other_number m permit.call_no (λ is. apart (sym is ∙ same_number m n h))
itself_spares n (Waits m) permit h apart = refl
itself_spares n (Pool move) permit h apart = refl
itself_spares n e permit h apart = absurd cc

pub wake_ready : (before after : Playing) (me : ℕ) (next : Next) → IsReady before → is_busy me before.past ≡ true → is_in_flight (call_of before.past me) before.flights ≡ false
    → after.past ≡ gone_on (call_of before.past me) before.past → HasGoneOn after.past before.flights after.flights (call_of before.past me) next → Legal after.past → after.chore ≡ None
    → Hands me next before.seats after.seats → LinesFit after → IsReady after
wake_ready before after me next ready busy parked is went legal free hands fit = by (goes_grouped before.past n (busy_call before.past me ready.legal.lawful busy) ready.legal.settled)
  where
    n : ℕ
    n = call_of before.past me

    flying : Flying after.past after.flights
    flying =
        subst (Flying after.past) (sym went.flights)
        (subst (λ H. Flying H (permitted n (stand H n) before.flights)) (sym is) (wake_flies before.past n before.flights (subst Lawful is legal.lawful) ready.flying parked))

    same : SameButFor n before.flights after.flights
    same = subst (SameButFor n before.flights) (sym went.flights) (sends_more n (stand after.past n) before.flights)

    ready_by : Goes n before.past after.past before.flights after.flights → OthersStay n me before.past after.past before.seats after.seats → call_of after.past me ≡ cond (is_unfinished after.past n) n 0 → IsReady after
    ready_by goes others call = call_ready n me before after before.flights next ready legal free goes others parked went call hands fit

    -- The player is ready if nothing came of the step.
    quiet : after.past ≡ before.past → IsReady after
    quiet none =
        ready_by (record { lawful = legal.lawful; flying = flying; same = same; stays = λ permit leave there apart. subst (λ H. IsLeave H permit) (sym none) leave })
        (record {
          other = λ client apart it. absurd (whose_call before.past me client ready.legal.lawful busy apart it);
          call = λ client apart. ap (λ H. call_of H client) none;
          busy = λ client apart it. subst (λ H. is_busy client H ≡ true) none it;
          permit = hands.others;
          many = hands.many;
        })
        (subst (λ H. call_of H me ≡ cond (is_unfinished H n) n 0) (sym none) (ap (λ b. cond b n 0) (sym (busy_unfinished before.past me busy))))

    shown : GoneOn before.past (gone_on n before.past) n → IsReady after
    shown more =
        let g : Grouped before.past after.past more.first n = subst (λ H. Grouped before.past H more.first n) (sym is) more.grouped in
        let begins = begins_itself n more.first more.itself in
        ready_by
        (goes_by_step more.first n before.past after.past before.flights after.flights g legal.lawful flying same (λ permit there apart. itself_spares n more.first permit more.itself apart))
        (others_stay more.first me before.past after.past before.seats after.seats next g legal.lawful busy begins hands)
        (its_call before.past after.past more.first me g legal.lawful begins busy)

    by : (gone_on n before.past ≡ before.past) ⊎ GoneOn before.past (gone_on n before.past) n → IsReady after
    by (inl none) = quiet (is ∙ none)
    by (inr more) = shown more
