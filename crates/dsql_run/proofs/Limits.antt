-- Which limits lines set. The argument goes over the lines, and over a list of lines in two parts.
use Rattle.std.proofs.Common.{◌≡◌, ◌<◌, ◌+◌, ◌-◌, ℕ, suc, Bool, false, cond, List, [], ◌∷◌, ◌++◌, Option, Some, None, length, take, drop, get_or, refl, ap, sym, ◌∙◌, add-one, append_assoc, arith}
use Rattle.std.specs.List.{cons_option}
use Rattle.std.proofs.Math.Seq.{drop-cons}
use Rattle.std.proofs.lemmas.List.{append-nil, length-drop, take-append-drop, take_all, take_more}
use Rattle.std.proofs.lemmas.List.Elements.{filter_map-append}
use Rattle.dsql_run_outcome.specs.history.declared.event.Control.{Control}
use Rattle.dsql_run_outcome.specs.follows.declared.line.Line.{Line}
use Rattle.dsql_run_outcome.specs.hall.hall_steps.Limits.{limit_of, makes_call, settings_first, settings_of}

-- Limits of lines in two parts are the limits of all lines.
pub both_parts : (lines : List Line) (n : ℕ) → settings_of (take n lines) ++ settings_of (take (length lines - n) (drop n lines)) ≡ settings_of lines
both_parts lines n =
    ap (λ later. settings_of (take n lines) ++ settings_of later) (take_all (length lines - n) (drop n lines) (omega (arith, length-drop n lines)))
    ∙ (sym (filter_map-append limit_of (take n lines) (drop n lines)) ∙ ap settings_of (take-append-drop n lines))

-- One more line adds its limit, if it sets one.

one_more : (lines : List Line) (i : ℕ) (line : Line) → i < length lines → line ≡ get_or lines i line → settings_of (take (i + 1) lines) ≡ settings_of (take i lines) ++ cons_option (limit_of line) []
one_more lines i line within is =
    ap settings_of (take_more lines i line within ∙ ap (λ (here : Line). take i lines ++ here ∷ []) (sym is))
    ∙ filter_map-append limit_of (take i lines) (line ∷ [])

pub limit_more : (lines : List Line) (i : ℕ) (line : Line) (limit : Control) (old new : List Control) → i < length lines → line ≡ get_or lines i line → limit_of line ≡ Some limit → old ≡ settings_of (take i lines) → new ≡ old ++ limit ∷ []
    → new ≡ settings_of (take (i + 1) lines)
limit_more lines i line limit old new within is sets so_far push =
    push
    ∙ (ap (λ done. done ++ limit ∷ []) so_far
    ∙ sym (one_more lines i line within is ∙ ap (λ more. settings_of (take i lines) ++ cons_option more []) sets))

pub limit_none : (lines : List Line) (i : ℕ) (line : Line) (old : List Control) → i < length lines → line ≡ get_or lines i line → limit_of line ≡ None → old ≡ settings_of (take i lines) → old ≡ settings_of (take (i + 1) lines)
limit_none lines i line old within is none so_far =
    so_far ∙ sym (one_more lines i line within is ∙ (ap (λ more. settings_of (take i lines) ++ cons_option more []) none ∙ append-nil (settings_of (take i lines))))

-- Which limits stand before the first line of a client.

-- Holds if the limits before this place, and those that stand first after it, are those that stand first.
abbrev pub FirstSoFar : List Line → ℕ → Type 0
FirstSoFar lines i = settings_of (take i lines) ++ settings_first (drop i lines) ≡ settings_first lines

next_first : (lines : List Line) (i : ℕ) (line : Line) (calls : Bool) → i < length lines → line ≡ get_or lines i line → makes_call line ≡ calls
    → settings_first (drop i lines) ≡ cond calls [] (cons_option (limit_of line) (settings_first (drop (i + 1) lines)))
next_first lines i line calls within is so =
    ap settings_first (drop-cons lines i line within ∙ ap (λ (here : Line). here ∷ drop (suc i) lines) (sym is))
    ∙ (ap (λ b. cond b [] (cons_option (limit_of line) (settings_first (drop (suc i) lines)))) so
    ∙ ap (λ k. cond calls [] (cons_option (limit_of line) (settings_first (drop k lines)))) (sym (add-one i)))

one_limit : (limit : Option Control) (more : List Control) → cons_option limit more ≡ cons_option limit [] ++ more
one_limit None more = refl
one_limit (Some control) more = refl

-- A line that makes no call stands before the first one that does.
pub first_more : (lines : List Line) (i : ℕ) (line : Line) → i < length lines → line ≡ get_or lines i line → makes_call line ≡ false → FirstSoFar lines i → FirstSoFar lines (i + 1)
first_more lines i line within is none so_far =
    let before = settings_of (take i lines) in
    let later = settings_first (drop (i + 1) lines) in
    ap (λ done. done ++ later) (one_more lines i line within is)
    ∙ (append_assoc before (cons_option (limit_of line) []) later
    ∙ (ap (λ more. before ++ more) (sym (next_first lines i line false within is none ∙ one_limit (limit_of line) later)) ∙ so_far))
