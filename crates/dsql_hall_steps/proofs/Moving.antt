-- A hall over a step of its player in which nothing is heard. The argument is that no client with leave loses it, since
-- the client that steps has none.
use Rattle.std.proofs.Common.{◌≡◌, ◌≤◌, inl, inr, ℕ, Bool, true, false, List, ◌∷◌, ◌++◌, length, Option, Some, None, is_some, refl, ap, sym, subst, ◌∙◌}
use Rattle.dsql_engine_laws.specs.driver.Wires.{WireTold}
use Rattle.dsql_engine_laws.specs.journal.declared.entry.Permit.{Permit}
use Rattle.dsql_engine_laws.specs.history.declared.event.Control.{Control}
use Rattle.dsql_engine_laws.specs.history.declared.event.Event.{Event}
use Rattle.dsql_engine_laws.specs.history.Legal.{Legal}
use Rattle.dsql_engine_laws.specs.history.Readers.Calls.{is_busy}
use Rattle.dsql_engine_laws.specs.history.Readers.Course.{has_ended}
use Rattle.dsql_engine_laws.specs.follows.Moments.{Moment}
use Rattle.dsql_engine_laws.specs.laws_steps.Groups.{most_events}
use Rattle.dsql_engine_laws.specs.Chores.{hears_on}
use Rattle.dsql_engine_laws.proofs.laws_steps.Later.{step_is_group}
use Rattle.dsql_engine_laws.proofs.laws_work.Rows.{same_or_not}
use Rattle.dsql_player_wires.specs.Made.{Made}
use Rattle.dsql_player_wires.specs.Seats.{Seat, seat}
use Rattle.dsql_player_wires.specs.Told.{fleet_told}
use Rattle.dsql_player_wires.specs.WiresFit.{slot}
use Rattle.dsql_player.specs.Acts.{SamePermitsBut}
use Rattle.dsql_player.specs.Carried.{HearsNothing}
use Rattle.dsql_player.specs.declared.halt.Halt.TheVariants as halts
use Rattle.dsql_player.specs.Keeping.{SameCourse}
use Rattle.dsql_player.specs.Playing.{IsAt, IsReady, Playing}
use Rattle.dsql_player.specs.Stepping.{IsEntryOf, IsOfItself, TakesStep, Wakes}
use Rattle.dsql_player.proofs.Answering.{leave_at}
use Rattle.dsql_player.proofs.Grouped.{Grouped}
use Rattle.dsql_hall_bonds.specs.Work.{find}
use Rattle.dsql_hall_steps.specs.Halls.{GoesOn, InHall, IsHall, Keeps}
use Rattle.dsql_hall_steps.specs.Limits.{SetsFirst, set_in, settings_first}
use Rattle.dsql_hall_steps.specs.Racing.{resting}
use Rattle.dsql_hall_steps.specs.Terms.{Terms}
use Rattle.dsql_hall_steps.proofs.Entering.{step_races, step_rests, wakes_races, wakes_rests}
use Rattle.dsql_hall_steps.proofs.Out.{none_of}
use Rattle.dsql_hall_steps.proofs.SetFirst.{first_stays}
use Rattle.dsql_hall_steps.proofs.Frames.{IsQuiet, KeepsClients, Spares, clients_same, clients_step, entry_is_quiet, house_stays, itself_is_quiet, out_stays, slot_stays, spares_same, spares_step, step_sets}

-- Holds if each client that has leave keeps it.
abbrev pub KeepsLeave : List Seat → List Seat → Type 0
KeepsLeave seats now = (client : ℕ) (permit : Permit) → (seat seats client).permit ≡ Some permit → (seat now client).permit ≡ Some permit

-- Holds if a player has gone on from another and no driver was asked.
pub record MovesOn (race : Terms) (p q : Playing) : Type 0 where
  pub ready : IsReady q
  pub at : IsAt (resting race.lines q) q
  pub spares : (c : ℕ) → Spares c p.past q.past
  pub clients : KeepsClients p.past q.past
  pub leave : KeepsLeave p.seats q.seats
  pub told : (made : List Made) → fleet_told made q.past ≡ fleet_told made p.past

-- What stopped a run that goes on is nothing, so it isn't want of room.
pub not_full : {W : Type 0} (h : InHall W) (past : List Event) → h.stopped ≡ None → h.stopped ≡ Some halts.Full → most_events ≤ length past
not_full h past runs full = let clash : None ≡ Some halts.Full = sym runs ∙ full in absurd cc

-- The hall after such a step. It may set limits that were to come.
pub moves_on : {W : Type 0} (heard : W → Option WireTold) (race : Terms) (h : InHall W) (q : Playing) (settings : List Control) → IsHall heard race h → h.stopped ≡ None → Keeps race q settings → MovesOn race h.player q
    → IsHall heard race (record h { player = q; settings = settings })
moves_on {W} heard race h q settings is runs keeps moves = record {
  keeps = keeps;
  back = is.back;
  full = not_full h q.past runs;
  well = λ none. record {
    ready = moves.ready;
    at = moves.at;
    fits = λ c. slot_stays heard race.telling race.made h.player.past q.past c (slot h.slots c) (find c h.out) (moves.spares c).journal (on.fits c);
    work = λ c work found. out_stays h.player q h.chore c work on.ready (moves.spares c) moves.clients (λ client. moves.leave client work.permit) (on.work c work found);
    fleet = house_stays race.made h.player.past q.past h.out (moves.told race.made) on.fleet;
  };
}
  where
    on : GoesOn heard race h
    on = is.well runs

-- A step is the group of its events.
pub grouped_of : (m : Moment) (p q : Playing) (kind : Event → ℕ → Type 0) → (t : TakesStep m p q kind) → Grouped p.past q.past t.first t.call
grouped_of m p q kind t = record { events = t.events; grown = t.grows; group = step_is_group m t.first t.call t.events t.step }

module _ (race : Terms) (p q : Playing) (kind : Event → ℕ → Type 0) (t : TakesStep (resting race.lines p) p q kind) where
  group : Grouped p.past q.past t.first t.call
  group = grouped_of (resting race.lines p) p q kind t

  -- If the step sets no limit, the history keeps what it kept.
  pub step_keeps : (settings : List Control) → ((past : List Event) → set_in (t.first ∷ past) ≡ set_in past) → Legal q.past → q.trimmed ≡ p.trimmed → has_ended q.past ≡ has_ended p.past → Keeps race p settings
      → Keeps race q settings
  step_keeps settings sets legal trimmed ended keeps = record {
    legal = legal;
    running = ended ∙ keeps.running;
    ordered = step_races race.run race.lines p q kind keeps.ordered t;
    whole = trimmed ∙ keeps.whole;
    settings = ap (λ limits. limits ++ settings) (step_sets p.past q.past t.first t.call group ∙ sets p.past) ∙ keeps.settings;
    first = first_stays (length (settings_first race.lines)) p.past q.past t.events t.grows keeps.first;
    limits = keeps.limits;
  }

  -- If it hears nothing, the player has gone on.
  pub step_moves : ((c : ℕ) → hears_on c t.first ≡ false) → IsReady p → IsReady q → HearsNothing p.past q.past → KeepsLeave p.seats q.seats → MovesOn race p q
  step_moves quiet ready ready_now unheard leave = record {
    ready = ready_now;
    at = step_rests race.lines p q kind t ready_now.legal.lawful;
    spares = λ c. spares_step c p.past q.past t.first t.call group ready_now.legal.lawful ready.legal.settled.nothing_owed (quiet c);
    clients = clients_step p.past q.past t.first t.call group;
    leave = leave;
    told = unheard.told;
  }

-- The client that steps has no leave, so no leave is lost.

pub leave_kept_but : (me : ℕ) (p q : Playing) → SamePermitsBut me p.seats q.seats → (seat p.seats me).permit ≡ None → KeepsLeave p.seats q.seats
leave_kept_but me p q same none client permit has = elim (same_or_not client me) [
  | inl it ↦ let clash : None ≡ Some permit = sym none ∙ (ap (λ k. (seat p.seats k).permit) (sym it) ∙ has) in absurd cc
  | inr apart ↦ same.permit client apart ∙ has
]

free_has_none : (p : Playing) (client : ℕ) → IsReady p → is_busy client p.past ≡ false → (seat p.seats client).permit ≡ None
free_has_none p client ready free = by (seat p.seats client).permit refl
  where
    by : (o : Option Permit) → (seat p.seats client).permit ≡ o → (seat p.seats client).permit ≡ None
    by None is = is
    by (Some permit) is =
        let has = leave_at p client permit ready is in
        let clash : true ≡ false = sym has.busy ∙ free in
        absurd cc

-- What the acts of a client say of the player besides their step.
pub record Acted (me : ℕ) (p q : Playing) : Type 0 where
  pub ready : IsReady q
  pub handed : SamePermitsBut me p.seats q.seats
  pub course : SameCourse p q
  pub unheard : HearsNothing p.past q.past
  pub legal : Legal q.past
  pub trimmed : q.trimmed ≡ p.trimmed

module _ {W : Type 0} (heard : W → Option WireTold) (race : Terms) (h : InHall W) (client : ℕ) (q : Playing) (is : IsHall heard race h) (runs : h.stopped ≡ None) (acted : Acted client h.player q) where
  on : GoesOn heard race h
  on = is.well runs

  -- Over a step that hears nothing and sets no limit, after which no leave is lost.
  steps_on : (kind : Event → ℕ → Type 0) → (t : TakesStep (resting race.lines h.player) h.player q kind) → IsQuiet t.first → (seat h.player.seats client).permit ≡ None → IsHall heard race (record h { player = q })
  steps_on kind t quiet none =
      moves_on heard race h q h.settings is runs (step_keeps race h.player q kind t h.settings quiet.sets acted.legal acted.trimmed acted.course.ended is.keeps)
      (step_moves race h.player q kind t quiet.hears on.ready acted.ready acted.unheard (leave_kept_but client h.player q acted.handed none))

  -- A free client has entered its line.
  pub entered_on : is_busy client h.player.past ≡ false → ((m : Moment) → IsAt m h.player → TakesStep m h.player q (IsEntryOf client)) → IsHall heard race (record h { player = q })
  entered_on free enters =
      let t = enters (resting race.lines h.player) on.at in
      steps_on (IsEntryOf client) t (subst IsQuiet (sym t.kind_is.entered) (entry_is_quiet client t.call t.kind_is.op)) (free_has_none h.player client on.ready free)

  -- A client's call has gone on, or only got leave.
  pub woke_on : (shows : Bool) (n : ℕ) → is_some (seat h.player.seats client).permit ≡ false → ((m : Moment) → IsAt m h.player → Wakes shows m n h.player q) → IsHall heard race (record h { player = q })
  woke_on true n none wakes =
      let t = wakes (resting race.lines h.player) on.at in
      steps_on (IsOfItself n) t (itself_is_quiet n t.first t.kind_is.by_itself) (none_of (seat h.player.seats client).permit none)
  woke_on false n none wakes =
      let w : Wakes false (resting race.lines h.player) n h.player q = wakes (resting race.lines h.player) on.at in
      moves_on heard race h q h.settings is runs
      (record {
        legal = acted.legal;
        running = acted.course.ended ∙ is.keeps.running;
        ordered = wakes_races false race.run race.lines n h.player q is.keeps.ordered w;
        whole = acted.trimmed ∙ is.keeps.whole;
        settings = ap (λ past. set_in past ++ h.settings) w.0 ∙ is.keeps.settings;
        first = subst (SetsFirst (length (settings_first race.lines))) (sym w.0) is.keeps.first;
        limits = is.keeps.limits;
      })
      (record {
        ready = acted.ready;
        at = wakes_rests false race.lines n h.player q w acted.legal.lawful;
        spares = λ c. spares_same c h.player.past q.past w.0;
        clients = clients_same h.player.past q.past w.0;
        leave = leave_kept_but client h.player q acted.handed (none_of (seat h.player.seats client).permit none);
        told = acted.unheard.told;
      })
