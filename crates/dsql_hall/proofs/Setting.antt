-- Which limits a history has after a step that sets one, and after the end of the script. The argument is that only an
-- event from outside sets a limit, and such an event is the first of its step.
use Rattle.std.proofs.Common.{◌≡◌, ℕ, true, not, ◌||◌, List, [], ◌∷◌, ◌++◌, length, refl, ap, sym, subst, ◌∙◌, append_assoc, arith}
use Rattle.std.specs.List.{cons_option, list_all}
use Rattle.std.specs.Prelude.{Result, Ok, Err, OnOk, OnErr}
use Rattle.std.proofs.lemmas.List.{append-nil}
use Rattle.std.proofs.lemmas.List.Folds.{list_all-append}
use Rattle.dsql_hall_steps.specs.history.declared.event.Control.{Control}
use Rattle.dsql_hall_steps.specs.history.declared.event.Control.TheVariants.{Set, Tick}
use Rattle.dsql_hall_steps.specs.history.declared.event.Event.{Event}
use Rattle.dsql_hall_steps.specs.history.declared.event.Event.TheVariants.{SetLimit}
use Rattle.dsql_hall_steps.specs.history.Legal.{Legal}
use Rattle.dsql_hall_steps.specs.history.Readers.Controls.{told_after}
use Rattle.dsql_hall_steps.specs.history.Readers.Course.{has_ended}
use Rattle.dsql_hall_steps.proofs.engine_laws.laws.Tests.{both}
use Rattle.dsql_hall_steps.specs.follows.declared.line.Line.{Line}
use Rattle.dsql_hall_steps.specs.follows.declared.line.Line.TheVariants as lines
use Rattle.dsql_hall_steps.specs.follows.Moments.{Moment, at_end, begins_step, rested, walk}
use Rattle.dsql_hall_steps.specs.follows.Sentences.{come_in_turn, passed}
use Rattle.dsql_hall_steps.specs.follows.Turns.{comes_in_turn}
use Rattle.dsql_hall_steps.specs.laws_steps.Groups.{IsGroup, is_later_of}
use Rattle.dsql_hall_steps.proofs.engine_laws.laws_steps.Later.{step_is_group}
use Rattle.dsql_hall_steps.specs.player_wires.Extends.{Extends}
use Rattle.dsql_hall_steps.proofs.player_wires.Extending.{extends_same, extends_then}
use Rattle.dsql_hall_steps.specs.player.declared.halt.Halt.{Halt}
use Rattle.dsql_hall_steps.specs.player.Carried.{CarriesEnd, HearsNothing, StopsInEnd}
use Rattle.dsql_hall_steps.specs.player.Playing.{IsAt, IsReady, Playing}
use Rattle.dsql_hall_steps.specs.player.Stepping.{IsTold, TakesStep}
use Rattle.dsql_hall_steps.specs.Limits.{SetsFirst, are_set_first, limit_of, set_in, sets_limit, settings_of}
use Rattle.dsql_hall_steps.specs.Racing.{Races, resting}
use Rattle.dsql_hall_steps.proofs.Beginning.{told_races}
use Rattle.dsql_hall_steps.proofs.Ending.{end_races, stop_races}
use Rattle.dsql_hall_steps.proofs.Entering.{step_rests}
use Rattle.dsql_hall_steps.proofs.SetFirst.{first_stays, told_first}
use Rattle.dsql_hall.specs.Raced.{SetsLimits, SetsSome}

-- No event after the first of a step sets a limit.
later_sets : (n : ℕ) (e : Event) (past : List Event) → is_later_of n e ≡ true → set_in (e ∷ past) ≡ set_in past
later_sets n (SetLimit setting k) past h = absurd cc
later_sets n e past h = refl

all_later : (n : ℕ) (more past : List Event) → list_all (is_later_of n) more ≡ true → set_in (more ++ past) ≡ set_in past
all_later n [] past h = refl
all_later n (e ∷ more) past h =
    let a = both (is_later_of n e) (list_all (is_later_of n) more) h in
    later_sets n e (more ++ past) a.0 ∙ all_later n more past a.1

told_sets : (past : List Event) (control : Control) → sets_limit control ≡ true → set_in (told_after past control ∷ past) ≡ set_in past ++ control ∷ []
told_sets past (Set setting n) h = refl
told_sets past (Tick now) h = absurd cc

-- After a limit is set, it is the last one of those that were set.
pub one_more : (m : Moment) (before after : Playing) (control : Control) → sets_limit control ≡ true → TakesStep m before after (IsTold before.past control)
    → set_in after.past ≡ set_in before.past ++ control ∷ []
one_more m before after control limits t =
    let group : IsGroup t.first t.call t.events = step_is_group m t.first t.call t.events t.step in
    ap set_in (t.grows ∙ (ap (λ es. es ++ before.past) group.whole ∙ append_assoc group.more (t.first ∷ []) before.past))
    ∙ (all_later t.call group.more (t.first ∷ before.past) group.later ∙ (ap (λ e. set_in (e ∷ before.past)) t.kind_is.told ∙ told_sets before.past control limits))

-- A step that comes in its turn sets no limit.

in_turn_sets : (m now : Moment) (e : Event) (past : List Event) → (not (begins_step m e) || comes_in_turn now e) ≡ true → set_in (e ∷ past) ≡ set_in past
in_turn_sets m now (SetLimit setting n) past h = absurd cc
in_turn_sets m now e past h = refl

pub turns_set : (m : Moment) (events past : List Event) → come_in_turn (passed m events) ≡ true → set_in (events ++ past) ≡ set_in past
turns_set m [] past h = refl
turns_set m (e ∷ rest) past h =
    let now = (walk m rest).now in
    let a = both (not (begins_step now e) || comes_in_turn (rested (begins_step now e) now) e) (come_in_turn (passed m rest)) h in
    in_turn_sets now (rested (begins_step now e) now) e (rest ++ past) a.0 ∙ turns_set m rest past a.1

pub end_sets : (m : Moment) (old new : List Event) → CarriesEnd m old new → set_in new ≡ set_in old
end_sets m old new c = ap set_in c.grows ∙ turns_set (at_end m) c.events old c.follows.in_turn

pub stop_sets : (m : Moment) (old new : List Event) → StopsInEnd m old new → set_in new ≡ set_in old
stop_sets m old new s = ap set_in s.grows ∙ turns_set (at_end m) s.events old s.in_turn

-- The lines of a race set limits alone, and so do those that are left of them.

limit_limits : (line : Line) (limits : List Control) → list_all sets_limit limits ≡ true → list_all sets_limit (cons_option (limit_of line) limits) ≡ true
limit_limits (lines.Control (Set setting n)) limits all = all
limit_limits _ limits all = all

settings_limit : (script : List Line) → list_all sets_limit (settings_of script) ≡ true
settings_limit [] = refl
settings_limit (line ∷ later) = limit_limits line (settings_of later) (settings_limit later)

both_limit : (script : List Line) (done left : List Control) → done ++ left ≡ settings_of script → (list_all sets_limit done ≡ true) × (list_all sets_limit left ≡ true)
both_limit script done left all = both (list_all sets_limit done) (list_all sets_limit left) (sym (list_all-append sets_limit done left) ∙ (ap (list_all sets_limit) all ∙ settings_limit script))

pub left_limit : (script : List Line) (done left : List Control) → done ++ left ≡ settings_of script → list_all sets_limit left ≡ true
left_limit script done left all = (both_limit script done left all).1

pub front_limit : (script : List Line) (front more : List Control) → front ++ more ≡ settings_of script → list_all sets_limit front ≡ true
front_limit script front more all = (both_limit script front more all).0

-- If all of the limits were set, the first of them were.
pub all_set : (settings : List Control) (past : List Event) → set_in past ≡ settings → SetsSome settings past
all_set settings past all = record { left = []; whole = append-nil (set_in past) ∙ all }

-- The limits that were set so far, one after another.

-- What holds of a player that has set the first of these limits. The other ones are left.
pub record SetSoFar (script : List Line) (limits left : List Control) (old now : Playing) : Type 0 where
  pub ready : IsReady now
  pub at : IsAt (resting script now) now
  pub set : set_in now.past ++ left ≡ set_in old.past ++ limits
  pub only : list_all sets_limit left ≡ true
  pub sets : SetsLimits script limits old now

pub none_so_far : (script : List Line) (limits : List Control) (p : Playing) → IsReady p → IsAt (resting script p) p → list_all sets_limit limits ≡ true → SetSoFar script limits limits p p
none_so_far script limits p ready at only = record {
  ready = ready;
  at = at;
  set = refl;
  only = only;
  sets = record {
    grows = extends_same p.past;
    races = λ run races. races;
    settings = record { left = limits; whole = refl };
    first = λ many before. before;
    unheard = record { journals = λ c. refl; told = λ made. refl };
    ended = refl;
    trimmed = refl;
    legal = ready.legal;
  };
}

-- If the next limit couldn't be set, the history stays as it was.
pub stays_so_far : (script : List Line) (limits : List Control) (old now new : Playing) → SetsLimits script limits old now → new.past ≡ now.past → new.trimmed ≡ now.trimmed → SetsLimits script limits old new
stays_so_far script limits old now new s same trimmed = record {
  grows = subst (Extends old.past) (sym same) s.grows;
  first = λ many before. ap (are_set_first many) same ∙ s.first many before;
  races = λ run races. subst (Races run script) (sym same) (s.races run races);
  settings = subst (SetsSome (set_in old.past ++ limits)) (sym same) s.settings;
  unheard = subst (HearsNothing old.past) (sym same) s.unheard;
  ended = ap has_ended same ∙ s.ended;
  trimmed = trimmed ∙ s.trimmed;
  legal = subst (λ (past : List Event). Legal past) (sym same) s.legal;
}

-- If it was set, one limit less is left.
pub one_so_far : (script : List Line) (limits had left : List Control) (limit : Control) (old now new : Playing) → SetSoFar script limits had old now → had ≡ limit ∷ left
    → ((m : Moment) → IsAt m now → TakesStep m now new (IsTold now.past limit)) → IsReady new → has_ended new.past ≡ has_ended now.past → HearsNothing now.past new.past → Legal new.past → new.trimmed ≡ now.trimmed
    → SetSoFar script limits left old new
one_so_far script limits had left limit old now new s next tells ready ended unheard legal trimmed =
    let only = both (sets_limit limit) (list_all sets_limit left) (ap (list_all sets_limit) (sym next) ∙ s.only) in
    let step : TakesStep (resting script now) now new (IsTold now.past limit) = tells (resting script now) s.at in
    let set : set_in new.past ++ left ≡ set_in old.past ++ limits =
    ap (λ done. done ++ left) (one_more (resting script now) now new limit only.0 step)
    ∙ (append_assoc (set_in now.past) (limit ∷ []) left ∙ (ap (λ all. set_in now.past ++ all) (sym next) ∙ s.set)) in
    record {
      ready = ready;
      at = step_rests script now new (IsTold now.past limit) step legal.lawful;
      set = set;
      only = only.1;
      sets = record {
        grows = extends_then old.past now.past new.past s.sets.grows (record { added = step.events; whole = step.grows });
        first = λ many before. told_first many (resting script now) now new limit step ∙ s.sets.first many before;
        races = λ run races. told_races run script (resting script now) now new limit step (s.sets.races run races);
        settings = record { left = left; whole = set };
        unheard = record { journals = λ c. unheard.journals c ∙ s.sets.unheard.journals c; told = λ made. unheard.told made ∙ s.sets.unheard.told made };
        ended = ended ∙ s.sets.ended;
        trimmed = trimmed ∙ s.sets.trimmed;
        legal = legal;
      };
    }

nothing : (left : List Control) → length left ≡ 0 → left ≡ []
nothing [] none = refl
nothing (limit ∷ left) none = absurd (omega (arith, none))

-- If no limit is left, all were set.
pub all_so_far : (script : List Line) (limits left : List Control) (old now : Playing) → SetSoFar script limits left old now → length left ≡ 0 → set_in now.past ≡ set_in old.past ++ limits
all_so_far script limits left old now s none = sym (append-nil (set_in now.past)) ∙ (ap (λ more. set_in now.past ++ more) (sym (nothing left none)) ∙ s.set)

-- The end of a script, also if it couldn't be carried out.

pub ended_races : (r : Result (Unit {0}) Halt) (script : List Line) (p : Playing) (new : List Event) → IsAt (resting script p) p → OnOk r ((m : Moment) → IsAt m p → CarriesEnd m p.past new)
    → OnErr r ((m : Moment) → IsAt m p → StopsInEnd m p.past new) → (run : Event) → Races run script p.past → Races run script new
ended_races (Ok done) script p new at carries stops run races = (end_races run script p new races (carries (resting script p) at)).races
ended_races (Err halt) script p new at carries stops run races = stop_races run script p new races (stops (resting script p) at)

ended_set : (r : Result (Unit {0}) Halt) (script : List Line) (p : Playing) (new : List Event) → IsAt (resting script p) p → OnOk r ((m : Moment) → IsAt m p → CarriesEnd m p.past new)
    → OnErr r ((m : Moment) → IsAt m p → StopsInEnd m p.past new) → set_in new ≡ set_in p.past
ended_set (Ok done) script p new at carries stops = end_sets (resting script p) p.past new (carries (resting script p) at)
ended_set (Err halt) script p new at carries stops = stop_sets (resting script p) p.past new (stops (resting script p) at)

pub ended_settings : (r : Result (Unit {0}) Halt) (script : List Line) (p : Playing) (new : List Event) → IsAt (resting script p) p → OnOk r ((m : Moment) → IsAt m p → CarriesEnd m p.past new)
    → OnErr r ((m : Moment) → IsAt m p → StopsInEnd m p.past new) → (settings : List Control) → SetsSome settings p.past → SetsSome settings new
ended_settings r script p new at carries stops settings some = record { left = some.left; whole = ap (λ done. done ++ some.left) (ended_set r script p new at carries stops) ∙ some.whole }

-- Limits that were set before each call as the last of them were set were set before each call at the end.
pub ended_first : (r : Result (Unit {0}) Halt) (script : List Line) (old p : Playing) (new : List Event) → Extends old.past p.past → IsAt (resting script p) p → OnOk r ((m : Moment) → IsAt m p → CarriesEnd m p.past new)
    → OnErr r ((m : Moment) → IsAt m p → StopsInEnd m p.past new) → (many : ℕ) → SetsFirst many old.past → are_set_first many new ≡ true
ended_first (Ok done) script old p new grows at carries stops many first =
    let end = carries (resting script p) at in
    (first_stays many p.past new end.events end.grows (first_stays many old.past p.past grows.added grows.whole first)).before
ended_first (Err halt) script old p new grows at carries stops many first =
    let end = stops (resting script p) at in
    (first_stays many p.past new end.events end.grows (first_stays many old.past p.past grows.added grows.whole first)).before
