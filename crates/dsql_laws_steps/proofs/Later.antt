-- After a step's first event come only moves of the pool, a wait of its call and its call's reply. The proof goes
-- through the kinds of events.
use Rattle.std.proofs.Common.{◌≡◌, ℕ, ◌==◌, true, false, not, List, [], ◌∷◌, ◌++◌, Option, Some, None, refl, ap, sym, subst, ◌∙◌}
use Rattle.std.specs.List.{list_all}
use Rattle.std.proofs.lemmas.Bool.{not-false, not-true}
use Rattle.dsql_laws.specs.history.declared.event.Event.{Event}
use Rattle.dsql_laws.specs.history.declared.event.Event.TheVariants.{Pool, Waits, Replied}
use Rattle.dsql_laws.specs.history.declared.record.Flight.{Flight}
use Rattle.dsql_laws.specs.history.Rules.Course.{is_run, is_from_outside}
use Rattle.dsql_laws.proofs.Places.{neither}
use Rattle.dsql_laws.proofs.Tests.{both, together, same_number}
use Rattle.dsql_follows.specs.Moments.{Moment, Passed, begins_step, rested, stepping, walk}
use Rattle.dsql_follows.specs.Sentences.{passed, begins, later, oldest}
use Rattle.dsql_laws.specs.journal.Readers.{is_empty}
use Rattle.dsql_laws_steps.specs.Steps.{IsStep}
use Rattle.dsql_laws_steps.specs.Groups.{IsGroup, is_later_of}

-- An event that begins no step belongs to the same step as the events before it, and is of one of three kinds.

same_stepper : (m : Moment) (e : Event) → begins_step m e ≡ false → stepping m e ≡ m.stepper
same_stepper m e b =
    let within = neither (is_from_outside e) (not (stepping m e == m.stepper)) (neither (is_run e) _ b).1 in
    same_number (stepping m e) m.stepper (not-false (stepping m e == m.stepper) within.1)

is_later : (m : Moment) (e : Event) → begins_step m e ≡ false → is_later_of m.stepper e ≡ true
is_later m (Pool move) b = refl
is_later m (Waits k) b = not-false (k == m.stepper) b
is_later m (Replied k reply) b = not-false (k == m.stepper) b
is_later m e b = absurd cc

-- Which call steps doesn't depend on the permits in flight.
steps_alike : (m : Moment) (flights : List Flight) (e : Event) → stepping m e ≡ stepping (record m { flights = flights }) e
steps_alike m flights e = refl

event_in : Event → Option Passed → Event
event_in e None = e
event_in e (Some p) = p.event

-- Holds if the events are a first one, which begins a step, and later ones of the same step.
pub record Behind (m : Moment) (first : Event) (events : List Event) : Type 0 where
  pub more : List Event
  pub whole : events ≡ more ++ first ∷ []
  pub later : list_all (is_later_of (walk m events).now.stepper) more ≡ true
  pub begun : begins_step m first ≡ true
  pub whose : stepping m first ≡ (walk m events).now.stepper

behind_first : (m : Moment) (first : Event) (before : Moment) (events : List Event) → list_all (λ p. not p.begins) (later (passed m events)) ≡ true
    → oldest (passed m events) ≡ Some (record { event = first; before = before; begins = true }) → Behind m first events
unfolding event_in
behind_first m first before [] none o = absurd cc
behind_first m first before (e ∷ []) none o =
    let same : e ≡ first = ap (event_in e) o in
    record {
      more = [];
      whole = ap (λ it. it ∷ []) same;
      later = refl;
      begun = subst (λ it. begins_step m it ≡ true) same (ap begins o);
      whose = ap (stepping m) (sym same) ∙ steps_alike m (rested (begins_step m e) m).flights e;
    }
behind_first m first before (e ∷ x ∷ rest) none o =
    let w = walk m (x ∷ rest) in
    let a = both (not (begins_step w.now e)) (list_all (λ (p : Passed). not p.begins) (later w.passed)) none in
    let b : begins_step w.now e ≡ false = not-true (begins_step w.now e) a.0 in
    let g = behind_first m first before (x ∷ rest) a.1 o in
    let s : stepping w.now e ≡ w.now.stepper = same_stepper w.now e b in
    record {
      more = e ∷ g.more;
      whole = ap (λ es. e ∷ es) g.whole;
      later = subst (λ n. list_all (is_later_of n) (e ∷ g.more) ≡ true) (sym s) (together (is_later_of w.now.stepper e) _ (is_later w.now e b) g.later);
      begun = g.begun;
      whose = g.whose ∙ sym s ∙ steps_alike w.now (rested (begins_step w.now e) w.now).flights e;
    }

-- No event after the first one of a step begins a step.
pub alone : (m : Moment) (first : Event) (n : ℕ) (events : List Event) → IsStep m first n events → list_all (λ p. not p.begins) (later (passed m events)) ≡ true
alone m first n events s =
    let a = both (not (is_empty (passed m events))) _ s.one in
    (both (begins (oldest (passed m events))) (list_all (λ p. not p.begins) (later (passed m events))) a.1).1

pub first_and_more : (m : Moment) (first : Event) (n : ℕ) (events : List Event) → IsStep m first n events → Behind m first events
first_and_more m first n events s = behind_first m first m events (alone m first n events s) s.oldest

-- A step is of the call that steps with its first event.
pub step_is_its : (m : Moment) (first : Event) (n : ℕ) (events : List Event) → IsStep m first n events → stepping m first ≡ n
step_is_its m first n events s = let g = first_and_more m first n events s in g.whose ∙ ap (λ it. it.stepper) s.now

pub step_is_group : (m : Moment) (first : Event) (n : ℕ) (events : List Event) → IsStep m first n events → IsGroup first n events
step_is_group m first n events s =
    let g = first_and_more m first n events s in
    record { more = g.more; whole = g.whole; later = subst (λ k. list_all (is_later_of k) g.more ≡ true) (ap (λ it. it.stepper) s.now) g.later }
