-- The lines of a race that were taken up. The argument adds up, line by line, what the player keeps and what the fleet
-- records.
use Rattle.std.proofs.Common.{◌≡◌, ◌≤◌, ◌<◌, ◌+◌, ℕ, true, false, List, [], ◌∷◌, ◌++◌, ◌⊎◌, Option, Some, None, length, suc, take, drop, get_or, refl, ap, sym, subst, ◌∙◌, inl, inr, arith}
use Rattle.std.specs.Prelude.{sum_by}
use Rattle.std.specs.Iterator.{Yields}
use Rattle.std.specs.List.{list_all}
use Rattle.std.proofs.Math.Seq.{drop-cons}
use Rattle.std.proofs.lemmas.Bool.{and_parts}
use Rattle.std.proofs.lemmas.Iterator.{YieldsList}
use Rattle.std.proofs.lemmas.Iterator.Consumers.{YieldsList-end, YieldsList-so_far, YieldsList-turn}
use Rattle.std.proofs.lemmas.List.{map-id, reverse-append, take-append-drop}
use Rattle.std.proofs.lemmas.List.Folds.{list_all-append}
use Rattle.std.proofs.lemmas.List.Sums.{sum_by-append, sum_by-cons, sum_by_push}
use Rattle.dsql_run_outcome.specs.driver.declared.caps.Caps.{Caps}
use Rattle.dsql_run_outcome.specs.driver.Wires.{FleetTold}
use Rattle.dsql_run_outcome.specs.driver.declared.wire.Fleet.{Ghosts}
use Rattle.dsql_run_outcome.specs.history.declared.event.Event.TheVariants.{Run}
use Rattle.dsql_run_outcome.specs.history.declared.event.Control.{Control}
use Rattle.dsql_run_outcome.specs.follows.declared.line.Line.{Line}
use Rattle.dsql_run_outcome.specs.follows.declared.line.Line.TheVariants as lines
use Rattle.dsql_run_outcome.specs.follows.Labels.{times_in}
use Rattle.dsql_run_outcome.specs.follows.Moments.{Moment, is_line_of, met}
use Rattle.dsql_run_outcome.specs.hall.Raced.{plan_of, plans_first}
use Rattle.dsql_run_outcome.specs.player.Naming.{times}
use Rattle.dsql_run_outcome.specs.player.Playing.{IsAt, IsReady, Playing}
use Rattle.dsql_run_outcome.specs.player_wires.Told.{SameAbility, with_told}
use Rattle.dsql_run_outcome.specs.script_source.Racing.{may_race}
use Rattle.dsql_run_outcome.specs.Racing.{met_all}
use Rattle.dsql_run_outcome.proofs.Asking.{none_told}
use Rattle.dsql_run_outcome.proofs.hall.Plans.{none_more}
use Rattle.dsql_run_outcome.proofs.player.Keeping.{able_same, able_then}

-- The lines that were taken up so far: the player has met them, and the fleet has planned their faults.
pub record TakenUp {F W : Type 0} (fleet : Ghosts F W) (script : List Line) (old now : Playing) (before after : F) : Type 0 where
  pub ready : IsReady now
  pub at : (m : Moment) → IsAt m old → IsAt (met_all script m) now
  pub past : now.past ≡ old.past
  pub trimmed : now.trimmed ≡ old.trimmed
  pub named : (label : List ℕ) → times label now.past now.seats ≡ sum_by (times_in label) script
  pub told : (caps : Caps) → fleet.told after ≡ with_told (plans_first script) (fleet.told before) (Run 1 caps ∷ [])
  pub able : SameAbility fleet before after

pub none_taken : {F W : Type 0} (fleet : Ghosts F W) (p : Playing) (lent : F) → IsReady p → ((label : List ℕ) → times label p.past p.seats ≡ 0) → TakenUp fleet [] p p lent lent
none_taken fleet p lent ready unnamed = record {
  ready = ready;
  at = λ m at. at;
  past = refl;
  trimmed = refl;
  named = unnamed;
  told = λ caps. sym (none_told (fleet.told lent) caps);
  able = able_same fleet lent;
}

met_more : (script : List Line) (line : Line) (m : Moment) → met line (met_all script m) ≡ met_all (script ++ line ∷ []) m
met_more script line m = ap (λ (lines : List Line). record m { lines = lines ++ m.lines }) (sym (reverse-append script (line ∷ [])))

so_many : (label : List ℕ) (script : List Line) (line : Line) → times_in label line + sum_by (times_in label) script ≡ sum_by (times_in label) (script ++ line ∷ [])
so_many label script line = omega (arith, sum_by_push (times_in label) script line)

-- One more line was taken up.
pub one_taken : {F W : Type 0} (fleet : Ghosts F W) (script : List Line) (line : Line) (old now new : Playing) (before between after : F) → TakenUp fleet script old now before between → IsReady new
    → ((m : Moment) → IsAt m now → IsAt (met line m) new) → new.past ≡ now.past → new.trimmed ≡ now.trimmed
    → ((label : List ℕ) → times label new.past new.seats ≡ times_in label line + times label now.past now.seats)
    → ((lines : List Line) (first : Option FleetTold) (caps : Caps) → fleet.told between ≡ with_told (plans_first lines) first (Run 1 caps ∷ []) → fleet.told after ≡ with_told (plans_first (lines ++ line ∷ [])) first (Run 1 caps ∷ []))
    → SameAbility fleet between after → TakenUp fleet (script ++ line ∷ []) old new before after
one_taken fleet script line old now new before between after t ready at past trimmed named told able = record {
  ready = ready;
  at = λ m start. subst (λ (here : Moment). IsAt here new) (met_more script line m) (at (met_all script m) (t.at m start));
  past = past ∙ t.past;
  trimmed = trimmed ∙ t.trimmed;
  named = λ label. named label ∙ (ap (λ n. times_in label line + n) (t.named label) ∙ so_many label script line);
  told = λ caps. told script (fleet.told before) caps (t.told caps);
  able = able_then fleet before between after t.able able;
}

-- Lines that are no calls and plan nothing.

-- Holds if the line is skipped, or sets a limit or the moment.
abbrev pub SkipsOrSets : Line → Type 0
SkipsOrSets line = (line ≡ lines.Skip) ⊎ ((control : Control) × (line ≡ lines.Control control))

pub no_plan : (line : Line) → SkipsOrSets line → plan_of line ≡ None
no_plan line (inl skip) = ap plan_of skip
no_plan line (inr (control, sets)) = ap plan_of sets

pub no_call : (line : Line) (client : ℕ) → SkipsOrSets line → is_line_of client line ≡ false
no_call line client (inl skip) = ap (is_line_of client) skip
no_call line client (inr (control, sets)) = ap (is_line_of client) sets

pub no_label : (line : Line) (label : List ℕ) → SkipsOrSets line → times_in label line ≡ 0
no_label line label (inl skip) = ap (times_in label) skip
no_label line label (inr (control, sets)) = ap (times_in label) sets

-- A line that plans nothing changes nothing that the fleet records.
pub none_planned : (line : Line) (told : Option FleetTold) → plan_of line ≡ None → (script : List Line) (first : Option FleetTold) (caps : Caps) → told ≡ with_told (plans_first script) first (Run 1 caps ∷ [])
    → told ≡ with_told (plans_first (script ++ line ∷ [])) first (Run 1 caps ∷ [])
none_planned line told none script first caps was = was ∙ ap (λ made. with_told made first (Run 1 caps ∷ [])) (sym (none_more script line none))

-- What a loop over lines takes next.

next_in : (all front : List Line) (line : Line) → front ≡ take (length front) all → length front < length all → line ≡ get_or all (length front) line → front ++ line ∷ drop (suc (length front)) all ≡ all
next_in all front line so_far within is =
    let n = length front in
    ap (λ (here : Line). front ++ here ∷ drop (suc n) all) is
    ∙ (sym (ap (λ left. front ++ left) (drop-cons all n line within)) ∙ (ap (λ done. done ++ drop n all) so_far ∙ take-append-drop n all))

pub comes_next : {S : Type 0} {steps : S → Option Line → S → Type 0} {s : S} {all : List Line} (e : YieldsList steps (λ line. line) s all) (front : List Line) (t : S) → Yields steps s front t → (r : Option Line) (u : S) (line : Line) → r ≡ Some line
    → steps t r u → front ++ line ∷ drop (suc (length front)) all ≡ all
comes_next {all = all} e front t y r u line is step =
    let turn = YieldsList-turn e front t y r u line is step in
    next_in all front line (sym (map-id front) ∙ YieldsList-so_far e front t y) turn.0 turn.1

pub all_come : {S : Type 0} {steps : S → Option Line → S → Type 0} {s : S} {all : List Line} (e : YieldsList steps (λ line. line) s all) (front : List Line) (t : S) → Yields steps s front t → (r : Option Line) (u : S) → r ≡ None → steps t r u
    → front ≡ all
all_come e front t y r u is step = sym (map-id front) ∙ (YieldsList-end e front t y r u is step).0

-- The next line may stand in a race, and makes no label that was made before.

pub next_may : (script more all : List Line) (line : Line) → script ++ line ∷ more ≡ all → list_all may_race all ≡ true → may_race line ≡ true
next_may script more all line are all_may =
    let parts = and_parts (list_all may_race script) (list_all may_race (line ∷ more)) (sym (list_all-append may_race script (line ∷ more)) ∙ (ap (list_all may_race) are ∙ all_may)) in
    (and_parts (may_race line) (list_all may_race more) parts.1).0

pub next_once : (label : List ℕ) (script more all : List Line) (line : Line) → script ++ line ∷ more ≡ all → sum_by (times_in label) all ≤ 1 → times_in label line + sum_by (times_in label) script ≤ 1
next_once label script more all line are once =
    let whole : sum_by (times_in label) (script ++ line ∷ more) ≤ 1 = subst (λ lines. sum_by (times_in label) lines ≤ 1) (sym are) once in
    omega (arith, sum_by-append (times_in label) script (line ∷ more), sum_by-cons (times_in label) line more)
