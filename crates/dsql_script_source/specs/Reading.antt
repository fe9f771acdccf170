-- Defines how far a script has been read.
use Rattle.std.specs.Prelude.{ℕ, ◌≡◌, ◌≢◌, ◌+◌, All, List, [], ◌∷◌, ◌++◌, Option, Some, None, ◌≤◌, Bool, true, false, length, ◌⊎◌, IfSome, IfOk, IfErr, option_map, Result, Ok, Err}
use Rattle.dsql_history.specs.driver.declared.caps.Caps.{Caps}
use Rattle.dsql_history.specs.driver.Wires.{Preferred, preferred_after}
use Rattle.std.specs.List.{list_all}
use Rattle.dsql_follows.specs.declared.line.Line.{Line}
use Rattle.dsql_driver_stream.specs.Lines.{all_lines, ahead, SawTheEnd, TakesOff}
use Rattle.dsql_script_reader.specs.declared.script.ScriptLine.{ScriptLine}
use Rattle.dsql_script_reader.specs.declared.script.ScriptLine.TheVariants.{Skip, Version, UseCaps}
use Rattle.dsql_script_reader.specs.declared.script.Head.TheVariants.{Begun}
use Rattle.dsql_script_reader.specs.ScriptHead.{Progress, unread_by, after}
use Rattle.dsql_script_reader.specs.ScriptLines.{Reading, read_of, most_lines}
use Rattle.dsql_script_source.specs.Position.{Position}
use Rattle.dsql_script_source.specs.Script.{Script, Said, nothing, then, script_by, script_from, whole, refused_at, with_said, said_of, is_silent, is_skip}
use Rattle.dsql_script_source.specs.Plays.{PlaysBy, saying}
use Rattle.dsql_script_source.specs.Stops.{IsReadStop}
use Rattle.dsql_script_source.specs.declared.stop.Stop.{Stop}
use Rattle.dsql_script_source.specs.declared.stop.Stop.TheVariants.{Write, Memory, Refused, Full}

-- Lines as bytes, and what a fleet was asked for.

-- Returns the bytes of these lines, each followed by its line feed.
abbrev pub with_feeds : List (List ℕ) → List ℕ
with_feeds [] = []
with_feeds (line ∷ lines) = line ++ 10 ∷ with_feeds lines

abbrev pub AllFeedless : List (List ℕ) → Type 0
AllFeedless [] = Unit {0}
AllFeedless (line ∷ lines) = All (λ byte. byte ≢ 10) line × AllFeedless lines

-- Returns what a fleet prefers after it is asked for these capabilities. It is what it preferred before if it
-- isn't asked.
abbrev pub asked_for : Option Caps → Preferred → Preferred
asked_for None before = before
asked_for (Some caps) before = preferred_after caps before

-- Holds if the fleet was asked once for what the script's caps line says, if it has such a line. Otherwise it
-- wasn't asked, and its ability is what it was.
pub record Prefers (asked : Option Caps) (preferred_before preferred_after : Preferred)
    (ability_before ability_after : Caps) : Type 0 where
  pub preferred : preferred_after ≡ asked_for asked preferred_before
  pub same : asked ≡ None → ability_after ≡ ability_before

-- What one step of a reader does.

-- Returns what the rest of a script says, or `None` if the source's bytes aren't known.
abbrev pub to_come : Position → Option (List ℕ) → Option Script
to_come reader left = option_map (script_from reader.reader) (option_map all_lines (ahead reader.lines left))

-- Holds if the rest before says what the line said, followed by the rest after. If there was no line, the rest
-- before was empty.
abbrev pub ReadsOn : Option ScriptLine → Option Script → Option Script → Type 0
ReadsOn (Some line) before after = before ≡ option_map (with_said (said_of line)) after
ReadsOn None before after = IfSome before (λ script. script ≡ whole nothing)

-- Holds if a line was taken out with its line feed and says this at its position in the script.
pub record TakesLine (before : Progress) (line : List ℕ) (says : ScriptLine) (old new : Option (List ℕ)) : Type 0 where
  pub feedless : All (λ byte. byte ≢ 10) line
  pub taken : TakesOff (line ++ 10 ∷ []) old new
  pub is : read_of before line ≡ Ok says

-- Holds if the source failed, and the part of an unfinished line that had been taken out is dropped. The reader
-- hadn't seen the source's end.
pub record DropsUnfinished (ended : Bool) (line : List ℕ) (old left : Option (List ℕ)) : Type 0 where
  pub running : ended ≡ false
  pub feedless : All (λ byte. byte ≢ 10) line
  pub taken : TakesOff line old left

-- Holds if this may stop a reader that has this rest of a script. A refused line was the first of the rest.
abbrev pub StopsReading : Option Script → Stop → Type 0
StopsReading before Write = ⊥
StopsReading before Full = ⊥
StopsReading before (Refused number fault) = IfSome before (λ script. script ≡ refused_at number fault)
StopsReading before _ = Unit {0}

-- Holds if the line is refused, or there was no memory.
abbrev pub IsRefusal : Progress → List ℕ → Stop → Type 0
IsRefusal before line Memory = Unit {0}
IsRefusal before line (Refused number fault) = (number ≡ before.lines + 1) × (read_of before line ≡ Err fault)
IsRefusal before line _ = ⊥

-- Holds if the reader is as before, unless a line was read.
abbrev pub NoLine : Result (Option ScriptLine) Stop → Progress → Progress → Type 0
NoLine (Ok (Some says)) place now = Unit {0}
NoLine _ place now = now ≡ place

-- What was read so far.

-- Returns the position after one more line and the lines after it, or the position before it if it is refused.
abbrev pub after_reading : Progress → Reading → (Progress → Progress) → Progress
after_reading before (Ok says) more = more (after before says)
after_reading before (Err fault) more = before

-- Returns the position after these lines, up to the first one that is refused.
abbrev pub after_lines : Progress → List (List ℕ) → Progress
after_lines before [] = before
after_lines before (line ∷ lines) = after_reading before (read_of before line) (λ next. after_lines next lines)

-- Holds if the bytes that were taken out are whole lines, and none of them is refused. The script is for a race if the
-- flag is true.
pub record LinesRead (race : Bool) (bytes rest : List ℕ) (place : Progress) (says : Said) : Type 0 where
  pub lines : List (List ℕ)
  pub feedless : AllFeedless lines
  pub parts : bytes ≡ with_feeds lines ++ rest
  pub are : script_from (unread_by race) lines ≡ whole says
  pub placed : place ≡ after_lines (unread_by race) lines

-- Holds if the bytes taken out are whole lines that say this. It says nothing if the source's bytes weren't
-- known, or after its end was seen. The first flag says whether the script is for a race, and the second one whether
-- the end was seen.
abbrev pub ReadSoFar : Bool → Bool → Option (List ℕ) → Option (List ℕ) → Progress → Said → Type 0
ReadSoFar race true before ahead place says = Unit {0}
ReadSoFar race false None ahead place says = Unit {0}
ReadSoFar race false (Some bytes) None place says = ⊥
ReadSoFar race false (Some bytes) (Some rest) place says = LinesRead race bytes rest place says

-- Holds if the lines that were taken out of a source say this. The source held these bytes, if they are known.
-- Unless the lines are silent, no caps line may follow. The script is for a race if the flag is true.
pub record HasReadBy (race : Bool) (before : Option (List ℕ)) (reader : Position)
    (left : Option (List ℕ)) (says : Said) : Type 0 where
  pub script : option_map (script_by race) before ≡ option_map (with_said says) (to_come reader left)
  pub lines : ReadSoFar race reader.lines.ended before (ahead reader.lines left) reader.reader says
  pub begun : (is_silent says ≡ true) ⊎ (reader.reader.head ≡ Begun)
  pub sees : SawTheEnd reader.lines left
  pub counted : length says.lines ≡ reader.reader.lines

-- Holds if the lines that were taken out say this, in a script that is played.
abbrev pub HasRead : Option (List ℕ) → Position → Option (List ℕ) → Said → Type 0
HasRead before reader left says = HasReadBy false before reader left says

-- Returns how many lines this result has.
abbrev pub came : Result (Option ScriptLine) Stop → ℕ
came (Ok (Some line)) = 1
came _ = 0

-- Holds if reading one more line, after lines that say this, gave this result: a line, the script's end, or a
-- stop. The script is for a race if the flag is true.
abbrev pub ReadToBy : Bool → Result (Option ScriptLine) Stop → Option (List ℕ) → Position
    → Option (List ℕ) → Said → Type 0
ReadToBy race (Ok (Some line)) before reader left says = HasReadBy race before reader left (then says (said_of line))
ReadToBy race (Ok None) before reader left says =
    PlaysBy race (Ok tt) before left says × IfSome left (λ bytes. bytes ≡ [])
ReadToBy race (Err stop) before reader left says = PlaysBy race (Err stop) before left says

-- Holds if reading one more line of a script that is played gave this result.
abbrev pub ReadTo : Result (Option ScriptLine) Stop → Option (List ℕ) → Position → Option (List ℕ) → Said → Type 0
ReadTo result before reader left says = ReadToBy false result before reader left says

-- The head and the body of a script.

-- Is true if the line may stand after one that is neither skipped nor of the head.
abbrev pub is_body : ScriptLine → Bool
is_body (Version version) = false
is_body (UseCaps caps) = false
is_body _ = true

-- Is true if no caps line may stand after the line.
abbrev pub ends_head : ScriptLine → Bool
ends_head Skip = false
ends_head (Version version) = false
ends_head _ = true

-- Holds if the line, if there is one, is of the body, as each line is after the end of the head.
abbrev pub IsBodyLine : Option ScriptLine → Type 0
IsBodyLine None = Unit {0}
IsBodyLine (Some line) = is_body line ≡ true

-- Holds if this is the result of reading a script's first lines, up to the first one that is neither skipped
-- nor of the head. It says how many lines were read before that one, and what the fleet was asked for.
pub record ReadsHead (before : Option (List ℕ)) (result : Result (Option ScriptLine) Stop) (reader : Position)
    (left : Option (List ℕ)) (preferred_before preferred_after : Preferred)
    (ability_before ability_after : Caps) : Type 0 where
  pub asked : Option Caps
  pub lines : List Line
  pub silent : list_all is_skip lines ≡ true
  pub reads : ReadTo result before reader left (saying asked lines)
  pub prefers : Prefers asked preferred_before preferred_after ability_before ability_after
  pub counted : length lines + came result ≡ reader.reader.lines

-- Holds if the result is the first line of the body, if there is one, or a fault that stops reading.
pub record IsHeadRead (read : Result (Option ScriptLine) Stop) (place : Progress) : Type 0 where
  pub body : IfOk read IsBodyLine
  pub begun : IfOk read (λ line. IfSome line (λ _. place.head ≡ Begun))
  pub few : IfOk read (λ line. IfSome line (λ _. place.lines ≤ most_lines))
  pub readable : IfErr read IsReadStop

-- The whole of a script for a race.

-- Holds if the whole of a script for a race was read, or a part of it up to what stopped the reading. It says which
-- lines were read, and what the fleet was asked for.
pub record ReadsScript (stopped : Result Unit Stop) (lines : List Line) (before left : Option (List ℕ))
    (preferred_before preferred_after : Preferred) (ability_before ability_after : Caps) : Type 0 where
  pub asked : Option Caps
  pub plays : PlaysBy true stopped before left (saying asked lines)
  pub prefers : Prefers asked preferred_before preferred_after ability_before ability_after
  pub ended : stopped ≡ Ok tt → IfSome left (λ bytes. bytes ≡ [])
