-- Defines how often lines and calls make a label.
use Rattle.std.specs.Prelude.{ℕ, ◌+◌, cond, List, [], ◌∷◌}
use Rattle.dsql_history.specs.declared.event.Event.{Event}
use Rattle.dsql_history.specs.declared.event.Event.TheVariants.{Entered}
use Rattle.dsql_history.specs.declared.event.Op.{Op}
use Rattle.dsql_history.specs.Readers.Labels.{makes}
use Rattle.dsql_follows.specs.declared.line.Line.{Line}
use Rattle.dsql_follows.specs.declared.line.Line.TheVariants.{Client, Start}

-- Returns how often the operation makes this label: once or not at all.
abbrev pub times_by : List ℕ → Op → ℕ
times_by label op = cond (makes label op) 1 0

-- Returns how often the call of this line makes the label, 0 if the line is no call.
abbrev pub times_in : List ℕ → Line → ℕ
times_in label (Client client op) = times_by label op
times_in label (Start client op) = times_by label op
times_in label _ = 0

-- Returns how often the calls that have entered make the label.
abbrev pub times_made : List ℕ → List Event → ℕ
times_made label [] = 0
times_made label (Entered client n op ∷ before) = times_by label op + times_made label before
times_made label (_ ∷ before) = times_made label before
