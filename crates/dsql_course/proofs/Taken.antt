-- Which steps a line takes, and which it passes by. A step that is passed by was not wanted.
use Rattle.std.proofs.Common.{◌≡◌, ℕ, ◌<◌, Bool, true, false, cond, List, [], ◌∷◌, map, refl, sym, ap, ◌∙◌, subst, Some, None, inl, inr, arith}
use Rattle.std.specs.List.{list_any}
use Rattle.std.proofs.lemmas.Bool.{or_cases, or_left, or_right}
use Rattle.dsql_driver.specs.declared.caps.Caps.{Caps}
use Rattle.dsql_course.specs.declared.course.Course.{Course}
use Rattle.dsql_course.specs.declared.call.Due.{Due}
use Rattle.dsql_course.specs.declared.call.Due.TheVariants as call
use Rattle.dsql_course.specs.Steps.{Step, RunText, steps, step_of, same_step, behind}
use Rattle.dsql_course.specs.Made.{Exchange, went_bad}
use Rattle.dsql_course.specs.Line.{Found, Turn, exchange, or_then, wanted, first_wanted, steps_left, behind_call, comes_next, IsLine}
use Rattle.dsql_course.proofs.Turns.{newest}
use Rattle.dsql_course.proofs.Order.{place, place_of, call_place, AllBehind, InOrder, in_order, same_step-sound, wanted_is, answers_place}

-- Holds if the step is one of these.
abbrev pub IsAmong : Step → List Step → Type 0
IsAmong step all = list_any (same_step step) all ≡ true

same_step-self : (s : Step) → same_step s s ≡ true
same_step-self RunText = refl
same_step-self _ = refl

-- Holds if the step wants this call, and is one of these steps.
pub record Takes (c : Course) (can : Caps) (args : ℕ) (found : Found) (made : List Exchange) (step : Step) (due : Due) (all : List Step) : Type 0 where
  pub wants : wanted c can args found made step ≡ Some due
  pub among : IsAmong step all

first_taken : (c : Course) (can : Caps) (args : ℕ) (found : Found) (made : List Exchange) (due : Due) (step : Step) (all : List Step) → first_wanted c can args found made all ≡ due → step_of due ≡ Some step → Takes c can args found made step due all
first_taken c can args found made due step [] e is = let no : None ≡ Some step = subst (λ (d : Due). step_of d ≡ Some step) (sym e) is in absurd (cc)
first_taken c can args found made due step (first ∷ later) e is =
    elim (wanted c can args found made first) as (λ o. wanted c can args found made first ≡ o → or_then o (first_wanted c can args found made later) ≡ due → Takes c can args found made step due (first ∷ later)) [
      | Some d ↦ λ wants same.
          let steps : Some first ≡ Some step = sym (wanted_is c can args found made first d wants) ∙ (ap step_of same ∙ is) in
          let one : first ≡ step = cc in
          record {
            wants = subst (λ (s : Step). wanted c can args found made s ≡ Some due) one (wants ∙ ap (λ (x : Due). Some x) same);
            among = subst (λ (s : Step). IsAmong step (s ∷ later)) (sym one) (or_left (same_step step step) (list_any (same_step step) later) (same_step-self step));
          }
      | None ↦ λ none same.
          let rest = first_taken c can args found made due step later same is in
          record { wants = rest.wants; among = or_right (same_step step first) (list_any (same_step step) later) rest.among }
    ] refl e

behind_among : (s u : Step) (all : List Step) → IsAmong u (behind s all) → IsAmong u all
behind_among s u [] h = h
behind_among s u (first ∷ later) h =
    elim (same_step s first) as (λ b. IsAmong u (cond b later (behind s later)) → IsAmong u (first ∷ later)) [
      | true ↦ λ among. or_right (same_step u first) (list_any (same_step u) later) among
      | false ↦ λ among. or_right (same_step u first) (list_any (same_step u) later) (behind_among s u later among)
    ] h

left_among : (c : Course) (u : Step) (made : List Exchange) → IsAmong u (steps_left c made) → IsAmong u (steps c)
left_among c u [] h = h
left_among c u (x ∷ earlier) h =
    elim (step_of x.0) as (λ s. IsAmong u (behind_call s (steps c)) → IsAmong u (steps c)) [
      | None ↦ λ none. absurd (let no : false ≡ true = none in cc)
      | Some s ↦ λ among. behind_among s u (steps c) among
    ] h

-- The call that comes next is one that a step of the course wants.
pub taken : (c : Course) (can : Caps) (args : ℕ) (found : Found) (made : List Exchange) (due : Due) (step : Step) → comes_next c can args found made ≡ due → step_of due ≡ Some step → Takes c can args found made step due (steps c)
taken c can args found made due step e is =
    elim (went_bad made) as (λ b. cond b call.Over (first_wanted c can args found made (steps_left c made)) ≡ due → Takes c can args found made step due (steps c)) [
      | true ↦ λ over. let no : None ≡ Some step = ap step_of over ∙ is in absurd (cc)
      | false ↦ λ first.
          let h = first_taken c can args found made due step (steps_left c made) first is in
          record { wants = h.wants; among = left_among c step made h.among }
    ] e

-- Each call of a line is one that a step of the course wants.
pub turn_taken : (c : Course) (can : Caps) (args : ℕ) (turn : Turn) (earlier : List Turn) (due : Due) (step : Step) → IsLine c can args (turn ∷ earlier) → turn.call ≡ due → step_of due ≡ Some step → Takes c can args turn.found (map exchange earlier) step due (steps c)
turn_taken c can args turn earlier due step line e is = taken c can args turn.found (map exchange earlier) due step (sym (newest c can args turn earlier line).next ∙ e) is

among_place : (n : ℕ) (u : Step) (all : List Step) → AllBehind n all → IsAmong u all → n < place u
among_place n u [] h among = absurd (let no : false ≡ true = among in cc)
among_place n u (first ∷ later) h among =
    elim (or_cases (same_step u first) (list_any (same_step u) later) among) [
      | inl same ↦ subst (λ (s : Step). n < place s) (sym (same_step-sound u first same)) h.0
      | inr more ↦ among_place n u later h.1 more
    ]

behind_in_order : (s : Step) (all : List Step) → InOrder all → InOrder (behind s all)
behind_in_order s [] h = tt
behind_in_order s (first ∷ later) h =
    elim (same_step s first) as (λ b. InOrder (cond b later (behind s later))) [
      | true ↦ h.1
      | false ↦ behind_in_order s later h.1
    ]

left_in_order : (c : Course) (made : List Exchange) → InOrder (steps_left c made)
left_in_order c [] = in_order c
left_in_order c (x ∷ earlier) = elim (step_of x.0) as (λ s. InOrder (behind_call s (steps c))) [ None ↦ tt | Some s ↦ behind_in_order s (steps c) (in_order c) ]

-- A step before the first that is taken isn't wanted.
passed : (c : Course) (can : Caps) (args : ℕ) (found : Found) (made : List Exchange) (due : Due) (u : Step) (all : List Step) → first_wanted c can args found made all ≡ due → InOrder all → IsAmong u all → place u < call_place due → wanted c can args found made u ≡ None
passed c can args found made due u [] e order among lt = absurd (let no : false ≡ true = among in cc)
passed c can args found made due u (first ∷ later) e order among lt =
    elim (wanted c can args found made first) as (λ o. wanted c can args found made first ≡ o → or_then o (first_wanted c can args found made later) ≡ due → wanted c can args found made u ≡ None) [
      | Some d ↦ λ wants same.
          let at : place first ≡ call_place due = sym (ap place_of (wanted_is c can args found made first d wants)) ∙ ap call_place same in
          elim (or_cases (same_step u first) (list_any (same_step u) later) among) [
            | inl one ↦ let equal : place u ≡ place first = ap place (same_step-sound u first one) in absurd (omega arith)
            | inr more ↦ let above : place first < place u = among_place (place first) u later order.0 more in absurd (omega arith)
          ]
      | None ↦ λ none same.
          elim (or_cases (same_step u first) (list_any (same_step u) later) among) [
            | inl one ↦ subst (λ (s : Step). wanted c can args found made s ≡ None) (sym (same_step-sound u first one)) none
            | inr more ↦ passed c can args found made due u later same order.1 more lt
          ]
    ] refl e

stays_left : (s u : Step) (all : List Step) → InOrder all → IsAmong s all → IsAmong u all → place s < place u → IsAmong u (behind s all)
stays_left s u [] order here there lt = there
stays_left s u (first ∷ later) order here there lt =
    elim (same_step s first) as (λ b. same_step s first ≡ b → IsAmong u (cond b later (behind s later))) [
      | true ↦ λ one.
          let equal : place s ≡ place first = ap place (same_step-sound s first one) in
          elim (or_cases (same_step u first) (list_any (same_step u) later) there) [
            | inl same ↦ let also : place u ≡ place first = ap place (same_step-sound u first same) in absurd (omega arith)
            | inr more ↦ more
          ]
      | false ↦ λ other.
          elim (or_cases (same_step s first) (list_any (same_step s) later) here) [
            | inl same ↦ absurd (let no : true ≡ false = sym same ∙ other in cc)
            | inr rest ↦ elim (or_cases (same_step u first) (list_any (same_step u) later) there) [
              | inl same ↦
                  let also : place u ≡ place first = ap place (same_step-sound u first same) in
                  let above : place first < place s = among_place (place first) s later order.0 rest in
                  absurd (omega arith)
              | inr more ↦ stays_left s u later order.1 rest more lt
            ]
          ]
    ] refl

-- If a later call comes next, or none, a step that is wanted isn't left: the newest call is that step or a
-- later one.
pub reached : (c : Course) (can : Caps) (args : ℕ) (found : Found) (due x : Due) (u : Step) (turn : Turn) (earlier : List Turn) → IsLine c can args (turn ∷ earlier) → went_bad (map exchange (turn ∷ earlier)) ≡ false → comes_next c can args found (map exchange (turn ∷ earlier)) ≡ due → place u < call_place due → IsAmong u (steps c) → wanted c can args found (map exchange (turn ∷ earlier)) u ≡ Some x → call_place turn.call < place u → ⊥
reached c can args found due x u turn earlier line good next lt among wants before =
    let made = map exchange (turn ∷ earlier) in
    let h = newest c can args turn earlier line in
    let first : first_wanted c can args found made (steps_left c made) ≡ due =
    subst (λ (b : Bool). cond b call.Over (first_wanted c can args found made (steps_left c made)) ≡ due) good next in
    let left : IsAmong u (steps_left c made) =
    elim (step_of turn.call) as (λ o. step_of turn.call ≡ o → IsAmong u (behind_call o (steps c))) [
      | None ↦ λ none. absurd (let at : call_place turn.call ≡ 9 = ap place_of none in let small = answers_place c turn.call turn.answer h.answers in omega arith)
      | Some s ↦ λ is.
          let at : call_place turn.call ≡ place s = ap place_of is in
          stays_left s u (steps c) (in_order c) (turn_taken c can args turn earlier turn.call s line refl is).among among (omega arith)
    ] refl in
    let none = passed c can args found made due u (steps_left c made) first (left_in_order c made) left lt in
    let no : None ≡ Some x = sym none ∙ wants in
    cc
