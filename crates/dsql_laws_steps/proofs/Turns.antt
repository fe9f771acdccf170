-- Steps come in their turn one after another, and the first event stays the same.
use Rattle.std.proofs.Common.{◌≡◌, ℕ, true, false, not, ◌||◌, List, [], ◌∷◌, ◌++◌, ap, ◌∙◌}
use Rattle.std.proofs.lemmas.List.Folds.{list_all-append}
use Rattle.dsql_laws.specs.journal.Readers.{is_empty}
use Rattle.dsql_laws.specs.history.declared.event.Event.{Event}
use Rattle.dsql_laws.proofs.Tests.{together}
use Rattle.dsql_follows.specs.Moments.{Moment, Passed}
use Rattle.dsql_follows.specs.Turns.{comes_in_turn}
use Rattle.dsql_follows.specs.Sentences.{passed, come_in_turn, later, oldest}
use Rattle.dsql_laws_steps.specs.Steps.{IsStep}
use Rattle.dsql_laws_steps.specs.Whole.{Steps}
use Rattle.dsql_laws_steps.proofs.Joined.{step_joined}
use Rattle.dsql_laws_steps.proofs.Later.{alone}
use Rattle.dsql_laws_steps.proofs.Placed.{later_behind, none_begins, oldest_behind, one_begins}

-- The passed events of the step stand in front of the earlier ones.
passed_then : (m now : Moment) (events : List Event) (first : Event) (n : ℕ) (step : List Event) → Steps m events now → IsStep now first n step
    → passed m (step ++ events) ≡ passed now step ++ passed m events
passed_then m now events first n step h s = ap (λ it. it.passed) (step_joined m now events first n step h.now_is h.rest s)

step_in_turn : (now : Moment) (first : Event) (n : ℕ) (step : List Event) → IsStep now first n step → comes_in_turn now first ≡ true → come_in_turn (passed now step) ≡ true
step_in_turn now first n step s turn =
    one_begins (λ p. comes_in_turn p.before p.event) (passed now step) (record { event = first; before = now; begins = true }) (alone now first n step s) s.oldest turn

both_in_turn : (newer older : List Passed) → come_in_turn newer ≡ true → come_in_turn older ≡ true → come_in_turn (newer ++ older) ≡ true
both_in_turn newer older a b = list_all-append (λ p. not p.begins || comes_in_turn p.before p.event) newer older ∙ together _ _ a b

pub more_in_turn : (m now : Moment) (events : List Event) (first : Event) (n : ℕ) (step : List Event) → Steps m events now → come_in_turn (passed m events) ≡ true → IsStep now first n step
    → comes_in_turn now first ≡ true → come_in_turn (passed m (step ++ events)) ≡ true
more_in_turn m now events first n step h before s turn =
    ap come_in_turn (passed_then m now events first n step h s) ∙ both_in_turn (passed now step) (passed m events) (step_in_turn now first n step s turn) before

pub first_in_turn : (m : Moment) (first : Event) (n : ℕ) (events : List Event) → IsStep m first n events → come_in_turn (later (passed m events)) ≡ true
first_in_turn m first n events s = none_begins (λ p. comes_in_turn p.before p.event) (later (passed m events)) (alone m first n events s)

pub behind_in_turn : (m now : Moment) (events : List Event) (first : Event) (n : ℕ) (step : List Event) → is_empty events ≡ false → Steps m events now
    → come_in_turn (later (passed m events)) ≡ true → IsStep now first n step → comes_in_turn now first ≡ true → come_in_turn (later (passed m (step ++ events))) ≡ true
behind_in_turn m now [] first n step some h before s turn = absurd cc
behind_in_turn m now (e ∷ older) first n step some h before s turn =
    ap (λ ps. come_in_turn (later ps)) (passed_then m now (e ∷ older) first n step h s)
    ∙ (ap come_in_turn (later_behind (passed now step) _ (passed m older))
    ∙ both_in_turn (passed now step) (later (passed m (e ∷ older))) (step_in_turn now first n step s turn) before)

pub first_stays : (m now : Moment) (events : List Event) (first : Event) (n : ℕ) (step : List Event) → is_empty events ≡ false → Steps m events now → IsStep now first n step
    → oldest (passed m (step ++ events)) ≡ oldest (passed m events)
first_stays m now [] first n step some h s = absurd cc
first_stays m now (e ∷ older) first n step some h s =
    ap oldest (passed_then m now (e ∷ older) first n step h s) ∙ oldest_behind (passed now step) _ (passed m older)
