-- Defines the calls that have no reply yet.
use Rattle.std.specs.Prelude.{ℕ, Bool, List, [], ◌∷◌, ◌++◌}
use Rattle.dsql_history_work.specs.journal.Readers.{has}
use Rattle.dsql_pool.specs.Pooled.{without}
use Rattle.dsql_history.specs.declared.event.Event.{Event}
use Rattle.dsql_history.specs.declared.event.Event.TheVariants.{Entered, Replied}

-- Returns the calls that have no reply yet, in the order in which they entered.
abbrev pub unfinished : List Event → List ℕ
unfinished [] = []
unfinished (Entered client n op ∷ before) = unfinished before ++ n ∷ []
unfinished (Replied n reply ∷ before) = without n (unfinished before)
unfinished (_ ∷ before) = unfinished before

abbrev pub is_unfinished : List Event → ℕ → Bool
is_unfinished before n = has n (unfinished before)
