-- The limits that the house sets in a race: those that its lines set, and those that were set.
use Rattle.std.specs.Prelude.{ℕ, ◌≡◌, ◌≤◌, ◌&&◌, Bool, true, false, cond, List, [], ◌∷◌, ◌++◌, length, nat_le, Option, Some, None, filter_map}
use Rattle.std.specs.List.{cons_option}
use Rattle.dsql_engine_laws.specs.history.declared.event.Control.{Control}
use Rattle.dsql_engine_laws.specs.history.declared.event.Control.TheVariants.{Set, Tick}
use Rattle.dsql_engine_laws.specs.history.declared.event.Event.{Event}
use Rattle.dsql_engine_laws.specs.history.declared.event.Event.TheVariants.{Entered, SetLimit}
use Rattle.dsql_engine_laws.specs.follows.declared.line.Line.{Line}
use Rattle.dsql_engine_laws.specs.follows.declared.line.Line.TheVariants as lines

-- Returns the limit that a line sets, if it sets one. No line of a race sets the moment.
abbrev pub limit_of : Line → Option Control
limit_of (lines.Control (Set setting n)) = Some (Set setting n)
limit_of _ = None

-- Returns the limits that the lines set, in the order of the lines.
abbrev pub settings_of : List Line → List Control
settings_of lines = filter_map limit_of lines

-- Is true if the line makes a call of a client. No line of a race holds a call.
abbrev pub makes_call : Line → Bool
makes_call (lines.Client client op) = true
makes_call _ = false

-- Returns the limits that stand before the first line of a client, in the order of the lines.
abbrev pub settings_first : List Line → List Control
settings_first [] = []
settings_first (line ∷ later) = cond (makes_call line) [] (cons_option (limit_of line) (settings_first later))

-- Returns the limits that were set in a history, oldest first. A moment isn't among them.
abbrev pub set_in : List Event → List Control
set_in [] = []
set_in (SetLimit setting n ∷ past) = set_in past ++ Set setting n ∷ []
set_in (_ ∷ past) = set_in past

-- Is true if at least so many limits were set before each call entered.
abbrev pub are_set_first : ℕ → List Event → Bool
are_set_first many [] = true
are_set_first many (Entered client n op ∷ past) = nat_le many (length (set_in past)) && are_set_first many past
are_set_first many (_ ∷ past) = are_set_first many past

-- Holds if at least so many limits were set, and before each call entered.
pub record SetsFirst (many : ℕ) (past : List Event) : Type 0 where
  pub set : many ≤ length (set_in past)
  pub before : are_set_first many past ≡ true

-- Is true if the control sets a limit, and not the moment.
abbrev pub sets_limit : Control → Bool
sets_limit (Set setting n) = true
sets_limit (Tick now) = false
