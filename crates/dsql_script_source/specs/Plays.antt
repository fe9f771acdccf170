-- Defines which part of a script a run has.
use Rattle.std.specs.Prelude.{Bool, false, ℕ, ◌≡◌, List, ◌++◌, Option, Some, IfSome, Result, Ok, Err}
use Rattle.dsql_history.specs.driver.declared.caps.Caps.{Caps}
use Rattle.dsql_follows.specs.declared.line.Line.{Line}
use Rattle.dsql_driver_stream.specs.Lines.{ended_lines}
use Rattle.dsql_script_reader.specs.ScriptHead.{unread_by}
use Rattle.dsql_script_source.specs.Script.{Said, SaysBy, SaysFirstBy, script_from, whole}
use Rattle.dsql_script_source.specs.declared.stop.Stop.{Stop}
use Rattle.dsql_script_source.specs.declared.stop.Stop.TheVariants.{Read, Refused}

-- Holds if some of these bytes were read and the rest are still left. The lines that were read whole say this,
-- and none of them is refused. The script is for a race if the flag is true.
pub record ReadsUpToBy (race : Bool) (bytes : List ℕ) (after : Option (List ℕ)) (says : Said) : Type 0 where
  pub read : List ℕ
  pub rest : List ℕ
  pub left : after ≡ Some rest
  pub parts : bytes ≡ read ++ rest
  pub lines : script_from (unread_by race) (ended_lines read) ≡ whole says

-- Holds if some of these bytes were read of a script that is played, in the same way.
abbrev pub ReadsUpTo : List ℕ → Option (List ℕ) → Said → Type 0
ReadsUpTo bytes after says = ReadsUpToBy false bytes after says

-- Holds if the run has this part of the script, by the bytes that the source had left before and after. A run
-- that succeeded has all that the lines say. A run that ended at a refused line has what the lines before it
-- say. A run whose source failed has what the lines that were read whole say. A run that ended with any other
-- fault has what the first lines say. The script is for a race if the flag is true.
abbrev pub PlaysBy : Bool → Result Unit Stop → Option (List ℕ) → Option (List ℕ) → Said → Type 0
PlaysBy race (Ok _) before after says = SaysBy race before (whole says)
PlaysBy race (Err (Refused number fault)) before after says =
    SaysBy race before (record { says = says; refused = Some (number, fault) })
PlaysBy race (Err Read) before after says = IfSome before (λ bytes. ReadsUpToBy race bytes after says)
PlaysBy race (Err _) before after says = SaysFirstBy race before says

-- Holds if the run has this part of a script that is played.
abbrev pub Plays : Result Unit Stop → Option (List ℕ) → Option (List ℕ) → Said → Type 0
Plays stopped before after says = PlaysBy false stopped before after says

-- Returns what a script asks its driver for, together with its lines as they are played.
abbrev pub saying : Option Caps → List Line → Said
saying asked lines = record { caps = asked; lines = lines }
