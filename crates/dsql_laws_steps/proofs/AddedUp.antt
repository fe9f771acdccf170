-- Steps add up to a run: the proof joins the walk over the new step to the walk over the earlier ones.
use Rattle.std.proofs.Common.{◌≡◌, ℕ, Bool, true, not, ◌||◌, List, [], ◌∷◌, ◌++◌, refl, ap, sym, subst, ◌∙◌, append-nil}
use Rattle.std.specs.List.{list_all}
use Rattle.std.proofs.lemmas.List.Folds.{list_all-append}
use Rattle.dsql_laws.specs.history.declared.event.Event.{Event}
use Rattle.dsql_laws.specs.history.declared.event.Event.TheVariants.{Pool, Waits, Replied}
use Rattle.dsql_laws.specs.history.Rules.Stands.{stand}
use Rattle.dsql_laws.proofs.Tests.{both, together}
use Rattle.dsql_laws_steps.proofs.Permits.{permitted_twice}
use Rattle.dsql_follows.specs.Moments.{Moment, Passed, after_events, at_rest, begins_step, landed, rested, walk}
use Rattle.dsql_follows.specs.Sentences.{passed, begins_with_step, enters_in_order, is_whole, may_enter, were_whole}
use Rattle.dsql_follows.specs.Follows.{MakesSteps}
use Rattle.dsql_laws_steps.specs.Steps.{IsAtRest, IsStep, stepped}
use Rattle.dsql_laws_steps.specs.Groups.{is_later_of}
use Rattle.dsql_laws_steps.specs.Whole.{Steps}
use Rattle.dsql_laws_steps.proofs.Joined.{begins_alike, step_joined}
use Rattle.dsql_laws_steps.proofs.Later.{alone, first_and_more}
use Rattle.dsql_laws_steps.proofs.Placed.{one_begins}

pub no_steps : (m : Moment) → IsAtRest m → is_whole m ≡ true → Steps m [] m
no_steps m rest whole = record { begins = refl; whole = refl; ordered = refl; now_is = rest; rest = rest; now_whole = whole }

-- The first of all the events begins a step.

pub begins_behind : (m : Moment) (newer : List Event) (e : Event) (older : List Event) → begins_with_step m (newer ++ e ∷ older) ≡ begins_with_step m (e ∷ older)
begins_behind m [] e older = refl
begins_behind m (x ∷ []) e older = refl
begins_behind m (x ∷ z ∷ zs) e older = begins_behind m (z ∷ zs) e older

begins_then : (m now : Moment) (events : List Event) (first : Event) (n : ℕ) (step : List Event) → Steps m events now → IsStep now first n step → begins_with_step m (step ++ events) ≡ true
begins_then m now [] first n step h s =
    let g = first_and_more now first n step s in
    let free : at_rest m ≡ now = h.now_is in
    let begun : begins_step m first ≡ true = sym (begins_alike m (at_rest m).flights first) ∙ (ap (λ it. begins_step it first) free ∙ g.begun) in
    ap (begins_with_step m) (append-nil step ∙ g.whole) ∙ (begins_behind m g.more first [] ∙ begun)
begins_then m now (e ∷ older) first n step h s = begins_behind m step e older ∙ h.begins

-- Only the first event of a step may enter a line.

later_enters : (m : Moment) (n : ℕ) (e : Event) → is_later_of n e ≡ true → may_enter m e ≡ true
later_enters m n (Pool move) h = refl
later_enters m n (Waits k) h = refl
later_enters m n (Replied k reply) h = refl
later_enters m n e h = absurd cc

enters_once : (m : Moment) (first : Event) (k : ℕ) (more : List Event) → list_all (is_later_of k) more ≡ true → enters_in_order m (first ∷ []) ≡ true
    → enters_in_order m (more ++ first ∷ []) ≡ true
enters_once m first k [] later h = h
enters_once m first k (e ∷ more) later h =
    let a = both (is_later_of k e) (list_all (is_later_of k) more) later in
    let before = (walk m (more ++ first ∷ [])).now in
    let there = rested (begins_step before e) before in
    together (may_enter there e) _ (later_enters there k e a.0) (enters_once m first k more a.1 h)

-- A step enters lines in their order, since it enters one with its first event or not at all.
step_enters : (now : Moment) (first : Event) (n : ℕ) (step : List Event) → IsAtRest now → IsStep now first n step → may_enter now first ≡ true → enters_in_order now step ≡ true
step_enters now first n step rest s may =
    let g = first_and_more now first n step s in
    let free : may_enter (record now { flights = (at_rest now).flights }) first ≡ true = ap (λ it. may_enter it first) rest ∙ may in
    let one : enters_in_order now (first ∷ []) ≡ true = together _ true (ap (λ begins. may_enter (rested begins now) first) g.begun ∙ free) refl in
    subst (λ es. enters_in_order now es ≡ true) (sym g.whole) (enters_once now first _ g.more g.later one)

-- A step begins after a whole one.
step_whole : (now : Moment) (first : Event) (n : ℕ) (step : List Event) → is_whole now ≡ true → IsStep now first n step → were_whole (passed now step) ≡ true
step_whole now first n step whole s =
    one_begins (λ p. is_whole p.before) (passed now step) (record { event = first; before = now; begins = true }) (alone now first n step s) s.oldest whole

-- At the end of a step its call has taken its permit.
pub rests_then : (m : Moment) (first : Event) (n : ℕ) (step : List Event) → IsAtRest (stepped m first n step)
rests_then m first n step = ap (λ flights. record (stepped m first n step) { flights = flights }) (permitted_twice n (stand (step ++ m.past) n) (landed first m.flights))

pub one_more : (m now : Moment) (events : List Event) (first : Event) (n : ℕ) (step : List Event) → Steps m events now → IsStep now first n step → may_enter now first ≡ true
    → is_whole (stepped now first n step) ≡ true → Steps m (step ++ events) (stepped now first n step)
one_more m now events first n step h s may whole =
    let w = step_joined m now events first n step h.now_is h.rest s in
    let all : (f : Passed → Bool) → list_all f (passed now step) ≡ true → list_all f (passed m events) ≡ true → list_all f (passed m (step ++ events)) ≡ true =
    λ f a b. ap (λ it. list_all f it.passed) w ∙ (list_all-append f (passed now step) (passed m events) ∙ together _ _ a b) in
    record {
      begins = begins_then m now events first n step h s;
      whole = all (λ p. not p.begins || is_whole p.before) (step_whole now first n step h.now_whole s) h.whole;
      ordered = all (λ p. may_enter p.before p.event) (step_enters now first n step h.rest s may) h.ordered;
      now_is = ap (λ it. at_rest it.now) w ∙ s.now;
      rest = rests_then now first n step;
      now_whole = whole;
    }

-- What the moment after events holds.

past_after : (m : Moment) (events : List Event) → (walk m events).now.past ≡ events ++ m.past
past_after m [] = refl
past_after m (e ∷ rest) = ap (λ past. e ∷ past) (past_after m rest)

lines_after : (m : Moment) (events : List Event) → (walk m events).now.lines ≡ m.lines
lines_after m [] = refl
lines_after m (e ∷ rest) = lines_after m rest

released_after : (m : Moment) (events : List Event) → (walk m events).now.released ≡ m.released
released_after m [] = refl
released_after m (e ∷ rest) = released_after m rest

pub steps_made : (m now : Moment) (events : List Event) → Steps m events now → MakesSteps m events × (now.past ≡ events ++ m.past) × (now.lines ≡ m.lines) × (now.released ≡ m.released)
steps_made m now events h =
    let is : now ≡ after_events m events = sym h.now_is in (
      record { begins = h.begins; whole = together _ _ h.whole (ap is_whole h.now_is ∙ h.now_whole); ordered = h.ordered },
      ap (λ it. it.past) is ∙ past_after m events,
      ap (λ it. it.lines) is ∙ lines_after m events,
      ap (λ it. it.released) is ∙ released_after m events,
    )
