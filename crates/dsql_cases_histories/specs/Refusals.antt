-- Where a history stops being legal, and why. Histories are oldest first here, and their first event is number
-- 1.
use Rattle.std.specs.Prelude.{ℕ, ◌-◌, Bool, true, false, not, ◌&&◌, List, [], ◌∷◌, take, drop, reverse}
use Rattle.dsql_history.specs.declared.event.Event.{Event}
use Rattle.dsql_history.specs.Rules.Course.{is_from_outside}
use Rattle.dsql_history.specs.Computed.{is_lawful, is_calm}

-- Is true if the first of these events breaks the rule, after the events before it.
abbrev pub breaks : (List Event → Event → Bool) → List Event → List Event → Bool
breaks rule before [] = false
breaks rule before (e ∷ later) = not (rule before e)

-- Is true if the history is lawful and calm before the kth event, and that event breaks the rule.
abbrev pub is_refused_at : ℕ → (List Event → Event → Bool) → List Event → Bool
is_refused_at k rule history =
    is_lawful (reverse (take (k - 1) history)) && is_calm (reverse (take (k - 1) history))
    && breaks rule (reverse (take (k - 1) history)) (drop (k - 1) history)

-- Is true if the next event, if any, comes from outside.
abbrev pub is_free : List Event → Bool
is_free [] = true
is_free (e ∷ later) = is_from_outside e

-- Is true if the history is lawful and calm up to the kth event. This test is false at the free moment right after it.
abbrev pub is_unsettled_after : ℕ → (List Event → Bool) → List Event → Bool
is_unsettled_after k holds history =
    is_lawful (reverse (take k history)) && is_calm (reverse (take k history)) && is_free (drop k history)
    && not (holds (reverse (take k history)))
