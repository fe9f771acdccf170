-- The events of one step follow one another: each event either begins a step or goes on with the one that has
-- begun.
use Rattle.std.proofs.Common.{◌≡◌, ℕ, true, false, not, List, [], ◌∷◌, ◌++◌, Some, refl, ap, sym, subst, ◌∙◌}
use Rattle.dsql_laws.specs.journal.Readers.{is_empty}
use Rattle.dsql_laws.specs.pool.declared.moves.Move.{Move}
use Rattle.dsql_laws.specs.history.declared.event.Event.{Event}
use Rattle.dsql_laws.specs.history.declared.event.Event.TheVariants.{Pool}
use Rattle.dsql_laws.specs.history.declared.record.Flight.{Flight}
use Rattle.dsql_laws.specs.history.Readers.Owed.{left_of, owed}
use Rattle.dsql_laws.specs.OwedMade.{with_moves}
use Rattle.dsql_laws.proofs.Tests.{same_itself}
use Rattle.dsql_follows.specs.Moments.{Moment, Passed, Walk, at_rest, begins_step, goes_over, landed, rested, stepping, walk, with_event}
use Rattle.dsql_follows.specs.Sentences.{oldest, is_one_step}
use Rattle.dsql_laws_steps.specs.Steps.{IsAtRest, IsStep}

-- Returns the moment after these events of a step of call n, which begins with the first event. The call's
-- permit isn't taken yet.
abbrev pub going : Moment → Event → ℕ → List Event → Moment
going m first n events =
    record { past = events ++ m.past; stepper = n; flights = landed first m.flights; lines = m.lines; released = m.released }

pub record Going (m : Moment) (first : Event) (n : ℕ) (events : List Event) : Type 0 where
  pub one : is_one_step (walk m events).passed ≡ true
  pub oldest : oldest (walk m events).passed ≡ Some (record { event = first; before = m; begins = true })
  pub now : (walk m events).now ≡ going m first n events

older_oldest : (p q : Passed) (ps : List Passed) → oldest ps ≡ Some q → oldest (p ∷ ps) ≡ Some q
older_oldest p q [] h = absurd cc
older_oldest p q (x ∷ xs) h = h

goes_on_one : (p q : Passed) (ps : List Passed) → p.begins ≡ false → oldest ps ≡ Some q → is_one_step ps ≡ true → is_one_step (p ∷ ps) ≡ true
goes_on_one p q [] b o h = absurd cc
goes_on_one p q (x ∷ xs) b o h =
    let k : not p.begins ≡ true = ap not b in
    rw k h

-- An event that begins a step is a step that goes on.
pub begun : (m : Moment) (e : Event) → IsAtRest m → begins_step m e ≡ true → Going m e (stepping m e) (e ∷ [])
begun m e rest b =
    let w : Walk = record { now = m; passed = [] } in
    let r : rested true m ≡ m = ap (λ it. record m { flights = it.flights }) rest in
    record {
      one = ap (λ begins. is_one_step (goes_over e begins w).passed) b;
      oldest = ap (λ begins. oldest (goes_over e begins w).passed) b ∙ ap (λ before. Some (record { event = e; before = before; begins = true })) r;
      now = ap (λ begins. (goes_over e begins w).now) b ∙ ap (λ it. with_event e it) r;
    }

-- Returns the moment after one more event of the step.
abbrev with_more : Moment → Event → List Event → Event → ℕ → List Flight → Moment
with_more m first es e k flights = record { past = e ∷ es ++ m.past; stepper = k; flights = flights; lines = m.lines; released = m.released }

-- An event that doesn't begin a step goes on with the step.
pub goes : (m : Moment) (first : Event) (n : ℕ) (es : List Event) (e : Event) → Going m first n es → begins_step (going m first n es) e ≡ false → stepping (going m first n es) e ≡ n → landed e (landed first m.flights) ≡ landed first m.flights → Going m first n (e ∷ es)
goes m first n es e g b s l =
    let w : Walk = walk m es in
    let b' : begins_step w.now e ≡ false = ap (λ now. begins_step now e) g.now ∙ b in
    let p : Passed = record { event = e; before = rested false w.now; begins = false } in
    let q : Passed = record { event = first; before = m; begins = true } in
    record {
      one = subst (λ begins. is_one_step (goes_over e begins w).passed ≡ true) (sym b') (goes_on_one p q w.passed refl g.oldest g.one);
      oldest = subst (λ begins. oldest (goes_over e begins w).passed ≡ Some q) (sym b') (older_oldest p q w.passed g.oldest);
      now =
          ap (λ begins. (goes_over e begins w).now) b'
          ∙ (ap (λ now. with_event e (rested false now)) g.now
          ∙ (ap (λ k. with_more m first es e k (landed e (landed first m.flights))) s ∙ ap (λ flights. with_more m first es e n flights) l));
    }

-- The moves that the pool owes go on with the step.
pub goes_moving : (m : Moment) (first : Event) (n : ℕ) (es : List Event) (moves : List Move) → Going m first n es → owed (es ++ m.past) ≡ moves → Going m first n (with_moves moves es)
goes_moving m first n es [] g is = g
goes_moving m first n es (move ∷ moves) g is =
    let o : is_empty (owed (es ++ m.past)) ≡ false = ap is_empty is in
    let s : stepping (going m first n es) (Pool move) ≡ n = rw o refl in
    let b : begins_step (going m first n es) (Pool move) ≡ false = rw s (ap not (same_itself n)) in
    goes_moving m first n (Pool move ∷ es) moves (goes m first n es (Pool move) g b s refl) (ap (left_of (es ++ m.past) move) is)

pub moves_ahead : (moves : List Move) (es past : List Event) → with_moves moves (es ++ past) ≡ with_moves moves es ++ past
moves_ahead [] es past = refl
moves_ahead (move ∷ moves) es past = moves_ahead moves (Pool move ∷ es) past

-- A step is complete when its call has taken its permit.
pub whole : (m : Moment) (first : Event) (n : ℕ) (es : List Event) → Going m first n es → IsStep m first n es
whole m first n es g = record { one = g.one; oldest = g.oldest; now = ap at_rest g.now }
