-- Defines what holds of a history at each event.
use Rattle.std.specs.Prelude.{◌≡◌, List, ◌∷◌, ◌++◌}
use Rattle.dsql_history.specs.declared.event.Event.{Event}
use Rattle.dsql_history.specs.Legal.{Allowed}

-- Holds if each event of the history may follow the events before it.
abbrev pub AllowedAtEachEvent : List Event → Type 0
AllowedAtEachEvent history =
    (newer : List Event) (e : Event) (older : List Event) → newer ++ (e ∷ older) ≡ history → Allowed older e
