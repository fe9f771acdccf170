-- Runs of whole steps add up: a walk over the later events starts from the moment that the earlier ones lead
-- to.
use Rattle.std.proofs.Common.{◌≡◌, ℕ, Bool, true, not, ◌||◌, List, [], ◌∷◌, ◌++◌, refl, ap, sym, subst, ◌∙◌, append-nil}
use Rattle.std.specs.List.{list_all}
use Rattle.std.proofs.lemmas.List.Folds.{list_all-append}
use Rattle.dsql_laws_calls.specs.history.declared.event.Event.{Event}
use Rattle.dsql_laws_calls.proofs.laws.Tests.{together}
use Rattle.dsql_follows.specs.Moments.{Moment, Passed, Walk, after_events, at_rest, goes_over, passes, walk, with_next}
use Rattle.dsql_follows.specs.Turns.{comes_in_turn}
use Rattle.dsql_follows.specs.Sentences.{passed, begins_with_step, come_in_turn, is_whole, may_enter}
use Rattle.dsql_laws_steps.specs.Steps.{IsAtRest, IsStep, stepped}
use Rattle.dsql_laws_steps.specs.Whole.{Steps}
use Rattle.dsql_laws_steps.proofs.AddedUp.{begins_behind, no_steps, one_more}
use Rattle.dsql_laws_steps.proofs.Joined.{beyond}

-- If events begin with a step, a walk over them from a moment is the walk from that moment at rest.

from_rest : (m : Moment) (e : Event) (older : List Event) → IsAtRest (at_rest m) → begins_with_step (at_rest m) (e ∷ older) ≡ true → walk (at_rest m) (e ∷ older) ≡ walk m (e ∷ older)
from_rest m e [] rest b =
    let free : Walk = record { now = at_rest m; passed = [] } in
    let before : Walk = record { now = m; passed = [] } in
    ap (λ begins. goes_over e begins free) b ∙ (ap (λ it. passes e true it []) rest ∙ sym (ap (λ begins. goes_over e begins before) b))
from_rest m e (f ∷ older) rest b = ap (with_next e) (from_rest m f older rest b)

pub further : (m : Moment) (newer older : List Event) → walk m (newer ++ older) ≡ beyond (walk (walk m older).now newer) (passed m older)
further m [] older = refl
further m (e ∷ newer) older = ap (with_next e) (further m newer older)

-- The walk over a run after another run is the walk from the moment at rest that the first run leads to.
runs_joined : (m now later : Moment) (events : List Event) (e : Event) (older : List Event) → Steps m events now → Steps now (e ∷ older) later
    → walk m ((e ∷ older) ++ events) ≡ beyond (walk now (e ∷ older)) (passed m events)
runs_joined m now later events e older g h =
    let before = (walk m events).now in
    let rest : IsAtRest (at_rest before) = subst IsAtRest (sym g.now_is) g.rest in
    let begins : begins_with_step (at_rest before) (e ∷ older) ≡ true = subst (λ it. begins_with_step it (e ∷ older) ≡ true) (sym g.now_is) h.begins in
    further m (e ∷ older) events
    ∙ (ap (λ w. beyond w (passed m events)) (sym (from_rest before e older rest begins)) ∙ ap (λ it. beyond (walk it (e ∷ older)) (passed m events)) g.now_is)

pub passed_added : (m now later : Moment) (events more : List Event) → Steps m events now → Steps now more later → passed m (more ++ events) ≡ passed now more ++ passed m events
passed_added m now later events [] g h = refl
passed_added m now later events (e ∷ older) g h = ap (λ w. w.passed) (runs_joined m now later events e older g h)

-- The first of all the events begins a step.

begins_free : (m : Moment) (events : List Event) → begins_with_step (at_rest m) events ≡ begins_with_step m events
begins_free m [] = refl
begins_free m (e ∷ []) = refl
begins_free m (e ∷ f ∷ older) = begins_free m (f ∷ older)

begins_added : (m now later : Moment) (events more : List Event) → Steps m events now → Steps now more later → begins_with_step m (more ++ events) ≡ true
begins_added m now later [] more g h =
    ap (begins_with_step m) (append-nil more) ∙ (sym (begins_free m more) ∙ (ap (λ it. begins_with_step it more) g.now_is ∙ h.begins))
begins_added m now later (e ∷ older) more g h = begins_behind m more e older ∙ g.begins

after_added : (m now later : Moment) (events more : List Event) → Steps m events now → Steps now more later → after_events m (more ++ events) ≡ later
after_added m now later events [] g h = g.now_is ∙ (sym g.rest ∙ h.now_is)
after_added m now later events (e ∷ older) g h = ap (λ w. at_rest w.now) (runs_joined m now later events e older g h) ∙ h.now_is

all_added : (f : Passed → Bool) (m now later : Moment) (events more : List Event) → Steps m events now → Steps now more later → list_all f (passed now more) ≡ true → list_all f (passed m events) ≡ true
    → list_all f (passed m (more ++ events)) ≡ true
all_added f m now later events more g h a b =
    ap (list_all f) (passed_added m now later events more g h) ∙ (list_all-append f (passed now more) (passed m events) ∙ together _ _ a b)

pub added_up : (m now later : Moment) (events more : List Event) → Steps m events now → Steps now more later → Steps m (more ++ events) later
added_up m now later events more g h =
    record {
      begins = begins_added m now later events more g h;
      whole = all_added (λ p. not p.begins || is_whole p.before) m now later events more g h h.whole g.whole;
      ordered = all_added (λ p. may_enter p.before p.event) m now later events more g h h.ordered g.ordered;
      now_is = after_added m now later events more g h;
      rest = h.rest;
      now_whole = h.now_whole;
    }

pub added_in_turn : (m now later : Moment) (events more : List Event) → Steps m events now → Steps now more later → come_in_turn (passed m events) ≡ true → come_in_turn (passed now more) ≡ true
    → come_in_turn (passed m (more ++ events)) ≡ true
added_in_turn m now later events more g h a b = all_added (λ p. not p.begins || comes_in_turn p.before p.event) m now later events more g h b a

-- One step is a run of whole steps.

pub one_step : (m : Moment) (first : Event) (n : ℕ) (events : List Event) → IsAtRest m → is_whole m ≡ true → IsStep m first n events → may_enter m first ≡ true
    → is_whole (stepped m first n events) ≡ true → Steps m events (stepped m first n events)
one_step m first n events rest whole s may after =
    subst (λ es. Steps m es (stepped m first n events)) (append-nil events) (one_more m m [] first n events (no_steps m rest whole) s may after)
