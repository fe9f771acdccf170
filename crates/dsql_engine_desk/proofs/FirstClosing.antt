-- The first driver call that closes rows of a transaction, found by looking at one call after another.
use Rattle.std.proofs.Common.{◌≡◌, ◌⊎◌, inl, inr, ℕ, zero, suc, ◌+◌, ◌<◌, ◌≤◌, Bool, true, false, cond, List, length, drop, Option, Some, None, refl, sym, ap, ◌∙◌, arith, drop_of_length-le}
use Rattle.std.proofs.Math.Seq.{drop-cons}
use Rattle.dsql_laws_calls.specs.course.Made.{or_else}
use Rattle.dsql_laws_calls.specs.driver.declared.call.DriverCall.{DriverCall}
use Rattle.dsql_laws_calls.specs.history.declared.event.Event.{Event}
use Rattle.dsql_laws_calls.specs.history.declared.work.Work.TheVariants.{Look}
use Rattle.dsql_laws_calls.specs.history.Readers.Works.{hands_out_in, work, works}
use Rattle.dsql_laws_calls.specs.history.Rules.Ending.{first_closing}
use Rattle.dsql_laws_calls.specs.history.Rules.Sent.{close_due}
use Rattle.dsql_engine_effects.proofs.AsEntered.{handed_out_later}
use Rattle.dsql_engine_desk.specs.Ending.{closing_in}

-- Returns the first driver call that closes rows of transaction k, from call q on.
abbrev pub closing_from : List Event → ℕ → ℕ → Option DriverCall
closing_from H k q = first_closing H k q (drop q (works H))

closing_here : (H : List Event) (k q : ℕ) → q < length (works H) → closing_from H k q ≡ or_else (closing_in H k q) (first_closing H k (q + 1) (drop (suc q) (works H)))
closing_here H k q less = ap (first_closing H k q) (drop-cons (works H) q Look less)

pub beyond : (H : List Event) (k q : ℕ) → length (works H) ≤ q → closing_from H k q ≡ None
beyond H k q over = ap (first_closing H k q) (drop_of_length-le (works H) {i = q} over)

pub closed_here : (H : List Event) (k q : ℕ) (call : DriverCall) → q < length (works H) → closing_in H k q ≡ Some call → closing_from H k q ≡ Some call
closed_here H k q call less is = closing_here H k q less ∙ ap (λ (d : Option DriverCall). or_else d (first_closing H k (q + 1) (drop (suc q) (works H)))) is

pub none_here : (H : List Event) (k q : ℕ) → closing_in H k q ≡ None → closing_from H k q ≡ closing_from H k (q + 1)
none_here H k q is = by (within q (length (works H)))
  where
    next : q + 1 ≡ suc q
    next = omega arith

    within : (n m : ℕ) → (n < m) ⊎ (m ≤ n)
    within n m = grind arith

    by : (q < length (works H)) ⊎ (length (works H) ≤ q) → closing_from H k q ≡ closing_from H k (q + 1)
    by (inl less) =
        closing_here H k q less
        ∙ (ap (λ (d : Option DriverCall). or_else d (first_closing H k (q + 1) (drop (suc q) (works H)))) is ∙ ap (λ (i : ℕ). first_closing H k (q + 1) (drop i (works H))) (sym next))
    by (inr over) = beyond H k q over ∙ sym (beyond H k (q + 1) (omega (arith, over)))

-- No call that entered before a transaction's begin hands out rows in it.
unclosed : (H : List Event) (k q : ℕ) → q < k → closing_in H k q ≡ None
unclosed H k q before = by (hands_out_in k (work H q)) refl
  where
    by : (b : Bool) → hands_out_in k (work H q) ≡ b → cond b (close_due H q) None ≡ None
    by true is = let later = handed_out_later H k q is in absurd (omega (arith, later, before))
    by false is = refl

pub skipped : (H : List Event) (k q : ℕ) → q ≤ k → closing_from H k 0 ≡ closing_from H k q
skipped H k zero before = refl
skipped H k (suc q) before =
    let next : q + 1 ≡ suc q = omega arith in
    skipped H k q (omega (arith, before)) ∙ (none_here H k q (unclosed H k q (omega (arith, before))) ∙ ap (closing_from H k) next)
