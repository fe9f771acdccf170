-- Proves that each beginning of a lawful history is lawful, and that a history is lawful if each event may
-- follow the events before it.
use Rattle.std.proofs.Common.{◌↔◌, List, [], ◌∷◌, ◌++◌, refl, sym, ap, subst}
use Rattle.dsql_history.specs.declared.event.Event.{Event}
use Rattle.dsql_history.specs.Legal.{Lawful, Calm}
use Rattle.dsql_laws.specs.Splits.{AllowedAtEachEvent}

pub Lawful-older : (older newer : List Event) → Lawful (newer ++ older) → Lawful older
Lawful-older older [] h = h
Lawful-older older (e ∷ newer) h = Lawful-older older newer h.0

pub Calm-older : (older newer : List Event) → Calm (newer ++ older) → Calm older
Calm-older older [] h = h
Calm-older older (e ∷ newer) h = Calm-older older newer h.0

pub allowed_at_each : (history : List Event) → Lawful history → AllowedAtEachEvent history
allowed_at_each history h newer e older split =
    let l : Lawful (newer ++ (e ∷ older)) = subst Lawful (sym split) h in
    let m = Lawful-older (e ∷ older) newer l in
    m.1

pub lawful_by_each : (history : List Event) → AllowedAtEachEvent history → Lawful history
lawful_by_each [] h = tt
lawful_by_each (e ∷ before) h = (lawful_by_each before (λ newer f older split. h (e ∷ newer) f older (ap (λ t. e ∷ t) split)), h [] e before refl)

pub lawful_at_each_event : (history : List Event) → Lawful history ↔ AllowedAtEachEvent history
lawful_at_each_event history = (allowed_at_each history, lawful_by_each history)
