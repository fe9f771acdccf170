-- The first lines of a script, up to the first one that is neither skipped nor of the head. The record is the invariant
-- of the loop that reads them.
use Rattle.std.proofs.Common.{◌≡◌, ℕ, true, List, Option}
use Rattle.std.specs.List.{list_all}
use Rattle.dsql_history.specs.driver.declared.caps.Caps.{Caps}
use Rattle.dsql_history.specs.driver.Wires.{Preferred}
use Rattle.dsql_follows.specs.declared.line.Line.{Line}
use Rattle.dsql_script_source.specs.Position.{Position}
use Rattle.dsql_script_source.specs.Script.{is_skip}
use Rattle.dsql_script_source.specs.Plays.{saying}
use Rattle.dsql_script_source.specs.Reading.{Prefers, HasRead}

-- Holds if the lines read so far are all silent, apart from a caps line, and the fleet was asked for what that
-- line names.
pub record HeadSoFar (before : Option (List ℕ)) (reader : Position) (left : Option (List ℕ)) (preferred_before preferred_now : Preferred) (ability_before ability_now : Caps) : Type 0 where
  pub asked : Option Caps
  pub lines : List Line
  pub silent : list_all is_skip lines ≡ true
  pub reads : HasRead before reader left (saying asked lines)
  pub prefers : Prefers asked preferred_before preferred_now ability_before ability_now
