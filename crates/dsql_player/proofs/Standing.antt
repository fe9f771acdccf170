-- Proves at which moment the player stands after a step. The argument builds that moment from the moment before
-- the step and the step's events.
use Rattle.std.proofs.Common.{◌≡◌, ◌≢◌, inl, inr, ℕ, ◌==◌, Bool, true, false, not, ◌&&◌, ◌||◌, cond, List, [], ◌∷◌, ◌++◌, Option, Some, refl, ap, sym, subst, ◌∙◌}
use Rattle.dsql_engine_laws.specs.history.declared.event.Event.{Event}
use Rattle.dsql_engine_laws.specs.history.declared.event.Event.TheVariants.{Entered, Heard}
use Rattle.dsql_engine_laws.specs.history.declared.record.Flight.{Flight}
use Rattle.dsql_engine_laws.specs.history.declared.record.Stand.{Stand}
use Rattle.dsql_engine_laws.specs.history.declared.record.Stand.TheVariants.{Sends}
use Rattle.dsql_engine_laws.specs.history.Readers.Calls.{is_busy}
use Rattle.dsql_engine_laws.specs.history.Readers.Clients.{is_free}
use Rattle.dsql_engine_laws.specs.history.Rules.Flights.{has_flight, is_in_flight, permitted, without_flight}
use Rattle.dsql_engine_laws.specs.laws_ends.Over.{may_move}
use Rattle.dsql_engine_laws.specs.history.Rules.Stands.{stand}
use Rattle.dsql_engine_laws.specs.history.Legal.{Lawful}
use Rattle.dsql_engine_laws.proofs.laws.Tests.{same_itself}
use Rattle.dsql_engine_laws.proofs.laws_work.Rows.{same_or_not}
use Rattle.dsql_engine_laws.specs.follows.declared.line.Line.{Line}
use Rattle.dsql_engine_laws.specs.follows.declared.line.Line.TheVariants.{Client, Start}
use Rattle.dsql_engine_laws.specs.follows.Moments.{Moment, is_held, is_start, kept, landed, takes_permit}
use Rattle.dsql_engine_laws.specs.follows.Sentences.{is_whole, may_enter}
use Rattle.dsql_engine_laws.specs.laws_steps.Groups.{after_heard, IsGroup}
use Rattle.dsql_engine_laws.specs.laws_steps.Steps.{IsAtRest, MakesStep, RestsAlone, stepped}
use Rattle.dsql_engine_laws.proofs.laws_steps.Groups.{heard_is_one}
use Rattle.dsql_engine_laws.proofs.laws_steps.Later.{step_is_group}
use Rattle.dsql_engine_laws.proofs.laws_steps.Permits.{permitted_twice}
use Rattle.dsql_engine_laws.proofs.going.GoneOn.{call_whole}
use Rattle.dsql_laws_lines.specs.Entries.{is_entry}
use Rattle.dsql_laws_lines.proofs.Stepped.{call_may_enter, entry_holds, entry_holds_others, entry_keeps_others, entry_made, entry_takes, start_may_enter, step_holds, step_keeps, step_made}
use Rattle.dsql_player_wires.specs.declared.seats.KeptLine.{KeptLine}
use Rattle.dsql_player_wires.specs.Seats.{seat}
use Rattle.dsql_player.specs.Playing.{HasLinesOf, IsAt, IsAtBut, KeepsLines, Playing, line_kept, lines_kept}
use Rattle.dsql_player.specs.Stepping.{HearsAnswer, IsAnswerTo, IsEntryOf, TakesStep}
use Rattle.dsql_player.proofs.Grouped.{grouped_by, hears_alone}
use Rattle.dsql_player.proofs.Whose.{busy_alike, busy_before, entry_other}

pub has_lines : (m : Moment) (p : Playing) → IsAt m p → HasLinesOf m p
has_lines m p at = record { past = at.past; released = at.released; made = at.made; kept = at.kept; held = at.held }

-- A call that only got a permit changes no line.
pub has_lines_before : (m : Moment) (n : ℕ) (p : Playing) → IsAt (takes_permit n m) p → HasLinesOf m p
has_lines_before m n p at = record { past = at.past; released = at.released; made = at.made; kept = at.kept; held = at.held }

-- After its answer is heard, it makes no difference whether the call's permit was in flight.

without_more : (n c : ℕ) (flights : List Flight) → without_flight n (flights ++ record { call = n; conn = c } ∷ []) ≡ without_flight n flights
without_more n c [] = rw (same_itself n) refl
without_more n c (x ∷ xs) = by (x.call == n) (without_more n c xs)
  where
    more : List Flight
    more = without_flight n (xs ++ record { call = n; conn = c } ∷ [])

    by : (b : Bool) → more ≡ without_flight n xs → cond (not b) (x ∷ more) more ≡ cond (not b) (x ∷ without_flight n xs) (without_flight n xs)
    by true rest = rest
    by false rest = ap (λ flights. x ∷ flights) rest

pub landed_alike : (n : ℕ) (at : Option Stand) (flights : List Flight) → without_flight n (permitted n at flights) ≡ without_flight n flights
landed_alike n (Some (Sends c)) flights = by (is_in_flight n flights || has_flight c flights)
  where
    by : (b : Bool) → without_flight n (cond b flights (flights ++ record { call = n; conn = c } ∷ [])) ≡ without_flight n flights
    by true = refl
    by false = without_more n c flights
landed_alike n _ flights = refl

-- Holds if the call has gone as far as it can.
abbrev pub HasGoneFar : List Event → List Flight → ℕ → Type 0
HasGoneFar past flights n = (is_in_flight n flights || not (may_move past flights n)) ≡ true

-- What holds of the moment after a step.

module _ (m : Moment) (first : Event) (n : ℕ) (after : Playing) (s : MakesStep m first n after.past) (fly : permitted n (stand after.past n) (landed first m.flights) ≡ after.flights) where
  abbrev later : Moment
  later = stepped m first n s.events

  pub after_past : later.past ≡ after.past
  after_past = sym s.group

  pub after_flights : later.flights ≡ after.flights
  after_flights = ap (λ H. permitted n (stand H n) (landed first m.flights)) (sym s.group) ∙ fly

  pub after_rests : IsAtRest later
  after_rests = ap (λ flights. record later { flights = flights }) (permitted_twice n (stand later.past n) (landed first m.flights))

  pub after_whole : HasGoneFar after.past after.flights n → is_whole later ≡ true
  after_whole far = subst (λ flights. HasGoneFar later.past flights n) (sym after_flights) (subst (λ H. HasGoneFar H after.flights n) s.group far)

  pub after_group : IsGroup first n s.events
  after_group = step_is_group m first n s.events s.step

-- A step in which no call enters.

no_entry_may : (m : Moment) (first : Event) → is_entry first ≡ false → may_enter m first ≡ true
no_entry_may m (Entered client n op) h = absurd cc
no_entry_may m first h = refl

pub step_taken : (m : Moment) (first : Event) (n : ℕ) (before after : Playing) (kind : Event → ℕ → Type 0) → HasLinesOf m before → MakesStep m first n after.past → is_entry first ≡ false
    → permitted n (stand after.past n) (landed first m.flights) ≡ after.flights → HasGoneFar after.past after.flights n → KeepsLines before after → kind first n → TakesStep m before after kind
step_taken m first n before after kind has s none fly far lines is = record {
  first = first;
  call = n;
  events = s.events;
  kind_is = is;
  step = s.step;
  grows = s.group ∙ ap (λ H. s.events ++ H) has.past;
  may = no_entry_may m first none;
  at = record {
    past = after_past m first n after s fly;
    flights = after_flights m first n after s fly;
    released = has.released ∙ sym lines.released;
    rest = after_rests m first n after s fly;
    whole = after_whole m first n after s fly far;
    made = step_made m first n s.events (after_group m first n after s fly) none has.made;
    kept = λ client. step_keeps m first n s.events client (after_group m first n after s fly) none ∙ (has.kept client ∙ ap (lines_kept client) (sym (lines.kept client)));
    held = λ client busy.
        step_holds m first n s.events client (after_group m first n after s fly) none
        ∙ (has.held client (subst (λ H. is_busy client H ≡ true) has.past (busy_before m.past after.past first n client (grouped_by m first n after.past s) none busy)) ∙ sym (lines.held client));
  };
}

-- An answer that came is a step from each moment at which the same is under way, except perhaps of its own
-- call.
pub answer_taken : (m : Moment) (n : ℕ) (before after : Playing) → HasLinesOf m before → IsAtRest m → without_flight n m.flights ≡ without_flight n before.flights → Lawful after.past → HearsAnswer n before after
    → TakesStep m before after (IsAnswerTo n)
answer_taken m n before after has rest same l h =
    let e = h.entry in
    let s : MakesStep m (Heard e) e.call_no after.past = subst (MakesStep m (Heard e) e.call_no) (ap (λ H. after_heard H e) has.past ∙ sym h.heard) (heard_is_one m e rest (subst (λ H. RestsAlone H e) (sym has.past) (hears_alone before.past e (subst Lawful h.heard l)))) in
    let fly : permitted e.call_no (stand after.past e.call_no) (without_flight e.call_no m.flights) ≡ after.flights =
    ap (λ k. permitted k (stand after.past k) (without_flight k m.flights)) h.number ∙ (ap (permitted n (stand after.past n)) same ∙ sym h.went.flights) in
    let far : HasGoneFar after.past after.flights e.call_no = subst (HasGoneFar after.past after.flights) (sym h.number) (call_whole after.past n (without_flight n before.flights) after.flights h.next l h.went) in
    step_taken m (Heard e) e.call_no before after (IsAnswerTo n) has s refl fly far h.lines (record { entry = e; heard = refl; number = h.number; of_it = h.number })

-- A call enters.

line_starts : (client : ℕ) (line : KeptLine) → is_start (line_kept client line) ≡ line.held
line_starts client line = by line.held
  where
    by : (b : Bool) → is_start (cond b (Start client line.op) (Client client line.op)) ≡ b
    by true = refl
    by false = refl

kept_may_enter : (m : Moment) (client n : ℕ) (line : KeptLine) (rest : List Line) → is_free m.past client ≡ true → kept m client ≡ line_kept client line ∷ rest → may_enter m (Entered client n line.op) ≡ true
kept_may_enter m client n line rest free is = by line.held is
  where
    by : (b : Bool) → kept m client ≡ cond b (Start client line.op) (Client client line.op) ∷ rest → may_enter m (Entered client n line.op) ≡ true
    by true first = start_may_enter m client n line.op rest free first
    by false first = call_may_enter m client n line.op rest free first

-- Holds if the line is taken. Its call is held if that was asked for and the script isn't at its end.
pub record EntersLine (client : ℕ) (line : KeptLine) (before after : Playing) : Type 0 where
  pub released : after.released ≡ before.released
  pub kept : (other : ℕ) → (seat after.seats other).kept ≡ (seat before.seats other).kept
  pub held : (seat after.seats client).held ≡ (not before.released && line.held)
  pub others : (other : ℕ) → other ≢ client → (seat after.seats other).held ≡ (seat before.seats other).held

pub entry_taken : (m : Moment) (client n : ℕ) (line : KeptLine) (before after : Playing) → IsAtBut m client line before → MakesStep m (Entered client n line.op) n after.past → Lawful after.past
    → is_free before.past client ≡ true → permitted n (stand after.past n) m.flights ≡ after.flights → HasGoneFar after.past after.flights n → EntersLine client line before after
    → TakesStep m before after (IsEntryOf client)
entry_taken m client n line before after at s l free fly far enters = record {
  first = first;
  call = n;
  events = s.events;
  kind_is = record { op = line.op; entered = refl };
  step = s.step;
  grows = s.group ∙ ap (λ H. s.events ++ H) at.past;
  may = kept_may_enter m client n line rest (ap (λ H. is_free H client) at.past ∙ free) at.taken;
  at = record {
    past = after_past m first n after s fly;
    flights = after_flights m first n after s fly;
    released = at.released ∙ sym enters.released;
    rest = after_rests m first n after s fly;
    whole = after_whole m first n after s fly far;
    made = entry_made m client n line.op s.events (line_kept client line) rest group at.taken at.made;
    kept = keeps;
    held = holds;
  };
}
  where
    first : Event
    first = Entered client n line.op

    rest : List Line
    rest = lines_kept client (seat before.seats client).kept

    group : IsGroup first n s.events
    group = step_is_group m first n s.events s.step

    now : Moment
    now = stepped m first n s.events

    keeps : (other : ℕ) → kept now other ≡ lines_kept other (seat after.seats other).kept
    keeps other = elim (same_or_not other client) [
      | inl same ↦
          subst (λ k. kept now k ≡ lines_kept k (seat after.seats k).kept) (sym same)
          (entry_takes m client n line.op s.events (line_kept client line) rest group at.taken ∙ ap (lines_kept client) (sym (enters.kept client)))
      | inr apart ↦ entry_keeps_others m client n line.op s.events other group apart ∙ (at.kept other apart ∙ ap (lines_kept other) (sym (enters.kept other)))
    ]

    its : is_held now client ≡ (seat after.seats client).held
    its =
        entry_holds m client n line.op s.events (line_kept client line) rest group at.taken
        ∙ (ap (λ b. not b && is_start (line_kept client line)) at.released ∙ (ap (λ b. not before.released && b) (line_starts client line) ∙ sym enters.held))

    holds : (other : ℕ) → is_busy other after.past ≡ true → is_held now other ≡ (seat after.seats other).held
    holds other busy = elim (same_or_not other client) [
      | inl same ↦ subst (λ k. is_held now k ≡ (seat after.seats k).held) (sym same) its
      | inr apart ↦
          entry_holds_others m client n line.op s.events other group apart
          ∙ (at.held other
          (subst (λ H. is_busy other H ≡ true) at.past
          (busy_alike m.past after.past other l (entry_other m.past after.past client n other line.op (grouped_by m first n after.past s) l apart) busy))
          ∙ sym (enters.others other apart))
    ]
