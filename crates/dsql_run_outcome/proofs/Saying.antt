-- What a run has of its script, as its lines are played. The argument compares the lines that the script says
-- with those that the run has.
use Rattle.std.proofs.Common.{◌≡◌, ℕ, Bool, true, false, List, [], ◌∷◌, ◌++◌, Option, Some, None, refl, sym, subst, ◌∙◌, inl, inr}
use Rattle.std.specs.Prelude.{is_none, IfOk, Result, Ok, Err}
use Rattle.std.specs.List.{list_all}
use Rattle.std.proofs.lemmas.Bool.{and_from, and_parts}
use Rattle.std.proofs.lemmas.List.Folds.{list_all-append}
use Rattle.dsql_hall.specs.driver.declared.caps.Caps.{Caps}
use Rattle.dsql_hall.specs.follows.declared.line.Line.{Line}
use Rattle.dsql_script_reader.specs.declared.script.ScriptLine.{ScriptLine}
use Rattle.dsql_script_source.specs.Plays.{Plays, PlaysBy, saying}
use Rattle.dsql_script_source.specs.Position.{Position}
use Rattle.dsql_script_source.specs.Reading.{HasRead, ReadTo, IsBodyLine, is_body}
use Rattle.dsql_script_source.specs.Script.{Said, SaysFirst, SaysFirstBy, is_silent, is_skip, line_as_played, nothing, said_of, then}
use Rattle.dsql_script_source.specs.declared.stop.Stop.{Stop}
use Rattle.dsql_script_source.specs.declared.stop.Stop.TheVariants.{Read, Write, Memory, Refused, Full}
use Rattle.dsql_script_source.proofs.Coming.{first_of_read_so_far}
use Rattle.dsql_script_source.proofs.Saying.{body_asks_none, body_says, then-nothing, then-then}
use Rattle.dsql_script_source.proofs.WholeLines.{first_of_read}
use Rattle.dsql_run_outcome.specs.Runs.{IsPlayStop}

-- Whatever became of its report, the script says first what a run has of it.
pub plays_first : (race : Bool) (r : Result (Unit {0}) Stop) (left rest : Option (List ℕ)) (says : Said) → PlaysBy race r left rest says → SaysFirstBy race left says
plays_first race (Ok done) (Some bytes) rest says plays = record { rest = nothing; parts = rw plays (sym (then-nothing says)); asked = inr refl }
plays_first race (Err Read) (Some bytes) rest says plays = first_of_read bytes rest says plays
plays_first race (Err Write) left rest says plays = plays
plays_first race (Err Memory) left rest says plays = plays
plays_first race (Err Full) left rest says plays = plays
plays_first race (Err (Refused number fault)) (Some bytes) rest says plays = record { rest = nothing; parts = rw plays (sym (then-nothing says)); asked = inr refl }
plays_first race _ None rest says plays = tt

-- A run that stops in a line has the first lines of its script.
pub first_plays : (race : Bool) (stop : Stop) (left rest : Option (List ℕ)) (says : Said) → IsPlayStop stop → SaysFirstBy race left says → PlaysBy race (Err stop) left rest says
first_plays race Read left rest says kind first = absurd kind
first_plays race (Refused number fault) left rest says kind first = absurd kind
first_plays race _ left rest says kind first = first

-- If lines are silent together with the lines after them, they are silent alone.
silent_before : (asked : Option Caps) (lines more : List Line) → is_silent (saying asked (lines ++ more)) ≡ true → is_silent (saying asked lines) ≡ true
silent_before asked lines more silent =
    let one = and_parts (is_none asked) (list_all is_skip (lines ++ more)) silent in
    let skipped = and_parts (list_all is_skip lines) (list_all is_skip more) (sym (list_all-append is_skip lines more) ∙ one.1) in
    and_from (is_none asked) (list_all is_skip lines) one.0 skipped.0

-- The script says first what the lines before its last line of the body say.
first_before : (left : Option (List ℕ)) (asked : Option Caps) (lines : List Line) (line : ScriptLine) → is_body line ≡ true → SaysFirst left (then (saying asked lines) (said_of line)) → SaysFirst left (saying asked lines)
first_before None asked lines line body first = tt
first_before (Some bytes) asked lines line body first = record {
  rest = then (said_of line) first.rest;
  parts = first.parts ∙ then-then (saying asked lines) (said_of line) first.rest;
  asked = elim first.asked [
    | inl silent ↦ inl (silent_before asked lines (line_as_played line ∷ []) (subst (λ says. is_silent says ≡ true) (body_says asked lines line body) silent))
    | inr none ↦ inr (body_asks_none line first.rest body none)
  ];
}

-- If nothing of what a reader read was played yet, the script says first the lines before it.
pub read_first : (first : Result (Option ScriptLine) Stop) (before : Option (List ℕ)) (reader : Position) (left : Option (List ℕ)) (asked : Option Caps) (lines : List Line) → IfOk first IsBodyLine → ReadTo first before reader left (saying asked lines)
    → SaysFirst before (saying asked lines)
read_first (Ok None) before reader left asked lines body read = plays_first false (Ok tt) before left (saying asked lines) read.0
read_first (Ok (Some line)) before reader left asked lines body read = first_before before asked lines line body (first_of_read_so_far before reader left (then (saying asked lines) (said_of line)) read)
read_first (Err stop) before reader left asked lines body read = plays_first false (Err stop) before left (saying asked lines) read

-- If a line was carried out, the lines that were read include it as it was played.
pub carried_out : (before : Option (List ℕ)) (reader : Position) (left : Option (List ℕ)) (asked : Option Caps) (lines : List Line) (line : ScriptLine) → is_body line ≡ true → HasRead before reader left (then (saying asked lines) (said_of line))
    → HasRead before reader left (saying asked (lines ++ line_as_played line ∷ []))
carried_out before reader left asked lines line body h = subst (λ says. HasRead before reader left says) (body_says asked lines line body) h

-- If a line was read and couldn't be carried out or shown, it is the last line that the run has.
pub line_stops : (stop : Stop) (before : Option (List ℕ)) (reader : Position) (left rest : Option (List ℕ)) (asked : Option Caps) (lines : List Line) (line : ScriptLine) → IsPlayStop stop → is_body line ≡ true
    → HasRead before reader left (then (saying asked lines) (said_of line)) → Plays (Err stop) before rest (saying asked (lines ++ line_as_played line ∷ []))
line_stops stop before reader left rest asked lines line kind body h =
    first_plays false stop before rest (saying asked (lines ++ line_as_played line ∷ [])) kind
    (first_of_read_so_far before reader left (saying asked (lines ++ line_as_played line ∷ [])) (carried_out before reader left asked lines line body h))
