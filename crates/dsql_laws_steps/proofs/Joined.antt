-- The walk over a step after other steps is the walk over it from the moment at rest that they lead to.
use Rattle.std.proofs.Common.{◌≡◌, ℕ, true, List, [], ◌∷◌, ◌++◌, refl, ap, sym, subst, ◌∙◌}
use Rattle.dsql_laws.specs.history.declared.event.Event.{Event}
use Rattle.dsql_laws.specs.history.declared.record.Flight.{Flight}
use Rattle.dsql_follows.specs.Moments.{Moment, Passed, Walk, after_events, at_rest, begins_step, goes_over, passes, walk, with_next}
use Rattle.dsql_follows.specs.Sentences.{passed}
use Rattle.dsql_laws_steps.specs.Steps.{IsAtRest, IsStep}
use Rattle.dsql_laws_steps.proofs.Later.{first_and_more}

-- Whether an event begins a step doesn't depend on the permits in flight.
pub begins_alike : (m : Moment) (flights : List Flight) (e : Event) → begins_step (record m { flights = flights }) e ≡ begins_step m e
begins_alike m flights e = refl

-- Returns a walk after events that were passed earlier.
abbrev pub beyond : Walk → List Passed → Walk
beyond w earlier = record { now = w.now; passed = w.passed ++ earlier }

-- A step begins after a walk as it does from the moment at rest after that walk.
begins_at : (w : Walk) (now : Moment) (first : Event) → at_rest w.now ≡ now → begins_step now first ≡ true → with_next first w ≡ passes first true now w.passed
begins_at w now first at b =
    let begun : begins_step w.now first ≡ true = sym (begins_alike w.now (at_rest w.now).flights first) ∙ (ap (λ m. begins_step m first) at ∙ b) in
    ap (λ begins. goes_over first begins w) begun ∙ ap (λ m. passes first true m w.passed) at

joined : (m now : Moment) (events : List Event) (first : Event) (more : List Event) → after_events m events ≡ now → IsAtRest now → begins_step now first ≡ true
    → walk m ((more ++ first ∷ []) ++ events) ≡ beyond (walk now (more ++ first ∷ [])) (passed m events)
joined m now events first [] at rest b =
    begins_at (walk m events) now first at b ∙ sym (ap (λ w. beyond w (passed m events)) (begins_at (record { now = now; passed = [] }) now first rest b))
joined m now events first (e ∷ more) at rest b = ap (with_next e) (joined m now events first more at rest b)

pub step_joined : (m now : Moment) (events : List Event) (first : Event) (n : ℕ) (step : List Event) → after_events m events ≡ now → IsAtRest now → IsStep now first n step
    → walk m (step ++ events) ≡ beyond (walk now step) (passed m events)
step_joined m now events first n step at rest s =
    let g = first_and_more now first n step s in
    subst (λ es. walk m (es ++ events) ≡ beyond (walk now es) (passed m events)) (sym g.whole) (joined m now events first g.more at rest g.begun)
