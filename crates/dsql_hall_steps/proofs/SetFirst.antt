-- Limits that were set before any call entered. The argument is that a history only gains limits, and that a step which
-- sets one enters no call.
use Rattle.std.proofs.Common.{◌≡◌, ◌≤◌, ℕ, true, List, [], ◌∷◌, ◌++◌, length, refl, ap, sym, subst, ◌∙◌, append_assoc, arith, length-append}
use Rattle.std.specs.List.{list_all}
use Rattle.std.specs.Prelude.{nat_le}
use Rattle.std.proofs.lemmas.Bool.{le-leb}
use Rattle.dsql_engine_laws.specs.history.declared.event.Control.{Control}
use Rattle.dsql_engine_laws.specs.history.declared.event.Control.TheVariants.{Set, Tick}
use Rattle.dsql_engine_laws.specs.history.declared.event.Event.{Event}
use Rattle.dsql_engine_laws.specs.history.declared.event.Event.TheVariants.{Entered, SetLimit}
use Rattle.dsql_engine_laws.specs.history.Readers.Controls.{told_after}
use Rattle.dsql_engine_laws.specs.follows.Moments.{Moment}
use Rattle.dsql_engine_laws.specs.laws_steps.Groups.{IsGroup, is_later_of}
use Rattle.dsql_engine_laws.proofs.laws.Tests.{both, together}
use Rattle.dsql_engine_laws.proofs.laws_steps.Later.{step_is_group}
use Rattle.dsql_player.specs.Playing.{Playing}
use Rattle.dsql_player.specs.Stepping.{IsTold, TakesStep}
use Rattle.dsql_hall_steps.specs.Limits.{SetsFirst, are_set_first, set_in}

-- A history that goes on.

never_fewer : (e : Event) (past : List Event) → length (set_in past) ≤ length (set_in (e ∷ past))
never_fewer (SetLimit setting n) past = let many = length-append (set_in past) (Set setting n ∷ []) in omega (arith, many)
never_fewer e past = omega arith

first_before : (many : ℕ) (e : Event) (past : List Event) → SetsFirst many past → are_set_first many (e ∷ past) ≡ true
first_before many (Entered client n op) past s = together (nat_le many (length (set_in past))) (are_set_first many past) (le-leb many (length (set_in past)) s.set) s.before
first_before many e past s = s.before

first_then : (many : ℕ) (events past : List Event) → SetsFirst many past → SetsFirst many (events ++ past)
first_then many [] past s = s
first_then many (e ∷ events) past s =
    let so_far = first_then many events past s in
    let more = never_fewer e (events ++ past) in
    let set = so_far.set in
    record { set = omega (arith, set, more); before = first_before many e (events ++ past) so_far }

-- Whatever comes after so many limits were set, they were set before each call.
pub first_stays : (many : ℕ) (old new events : List Event) → new ≡ events ++ old → SetsFirst many old → SetsFirst many new
first_stays many old new events grows s = subst (SetsFirst many) (sym grows) (first_then many events old s)

-- A limit or a moment enters no call.

later_first : (many n : ℕ) (e : Event) (past : List Event) → is_later_of n e ≡ true → are_set_first many (e ∷ past) ≡ are_set_first many past
later_first many n (Entered client k op) past later = absurd cc
later_first many n e past later = refl

all_first : (many n : ℕ) (more past : List Event) → list_all (is_later_of n) more ≡ true → are_set_first many (more ++ past) ≡ are_set_first many past
all_first many n [] past later = refl
all_first many n (e ∷ more) past later =
    let a = both (is_later_of n e) (list_all (is_later_of n) more) later in
    later_first many n e (more ++ past) a.0 ∙ all_first many n more past a.1

one_told : (many : ℕ) (before past : List Event) (control : Control) → are_set_first many (told_after before control ∷ past) ≡ are_set_first many past
one_told many before past (Set setting n) = refl
one_told many before past (Tick now) = refl

pub told_first : (many : ℕ) (m : Moment) (before after : Playing) (control : Control) → TakesStep m before after (IsTold before.past control) → are_set_first many after.past ≡ are_set_first many before.past
told_first many m before after control t =
    let group : IsGroup t.first t.call t.events = step_is_group m t.first t.call t.events t.step in
    ap (are_set_first many) (t.grows ∙ (ap (λ es. es ++ before.past) group.whole ∙ append_assoc group.more (t.first ∷ []) before.past))
    ∙ (all_first many t.call group.more (t.first ∷ before.past) group.later
    ∙ (ap (λ e. are_set_first many (e ∷ before.past)) t.kind_is.told ∙ one_told many before.past before.past control))
