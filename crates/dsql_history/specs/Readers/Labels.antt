-- Defines the labels that calls make: a query for its rows, a begin for its transaction.
use Rattle.std.specs.Prelude.{ℕ, Bool, true, false, not, ◌||◌, List, [], ◌∷◌, bytes_eq}
use Rattle.dsql_history.specs.declared.event.Event.{Event}
use Rattle.dsql_history.specs.declared.event.Event.TheVariants.{Entered}
use Rattle.dsql_history.specs.declared.event.Op.{Op}
use Rattle.dsql_history.specs.declared.event.Op.TheVariants.{Query, Begin}

-- Is true if the operation makes this label.
abbrev pub makes : List ℕ → Op → Bool
makes label (Query own target text args) = bytes_eq own label
makes label (Begin own level read_only) = bytes_eq own label
makes label _ = false

-- Is true if a call that has entered makes this label.
abbrev pub is_made : List Event → List ℕ → Bool
is_made [] label = false
is_made (Entered client n op ∷ before) label = makes label op || is_made before label
is_made (_ ∷ before) label = is_made before label

-- Is true if no call that has entered makes the label that this operation makes.
abbrev pub names_fit : List Event → Op → Bool
names_fit before (Query label target text args) = not (is_made before label)
names_fit before (Begin label level read_only) = not (is_made before label)
names_fit before _ = true
