-- Things that each have a number of their own.
use Rattle.std.specs.Prelude.{◌≡◌, false, [], ◌∷◌}
use Rattle.dsql_history.specs.numbered.Numbered.{Numbered, was_made}

-- Holds if each thing was made once.
abbrev pub AreMadeOnce : {X : Type 0} → Numbered X → Type 0
AreMadeOnce [] = Unit {0}
AreMadeOnce (it ∷ later) = (was_made it.0 later ≡ false) × AreMadeOnce later
