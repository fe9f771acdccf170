-- Defines what a script says: what its driver can do, and its lines as they are played, up to the first refused
-- line.
use Rattle.std.specs.Prelude.{Option, Some, None, ℕ, ◌≡◌, ◌+◌, ◌&&◌, Bool, true, false, List, [], ◌∷◌, ◌++◌, ◌⊎◌, IfSome, Ok, Err, is_none}
use Rattle.dsql_history.specs.driver.declared.caps.Caps.{Caps}
use Rattle.std.specs.List.{list_all}
use Rattle.dsql_follows.specs.declared.line.Line.{Line}
use Rattle.dsql_follows.specs.declared.line.Line.TheVariants as played
use Rattle.dsql_script_forms.specs.declared.fault.LineFault.{LineFault}
use Rattle.dsql_script_reader.specs.declared.script.ScriptLine.{ScriptLine}
use Rattle.dsql_script_reader.specs.declared.script.ScriptLine.TheVariants.{Skip, Version, UseCaps, Client, Step, StepHouse}
use Rattle.dsql_script_reader.specs.declared.script.ScriptLine.TheVariants as script
use Rattle.dsql_script_reader.specs.ScriptHead.{Progress, unread_by, after}
use Rattle.dsql_script_reader.specs.ScriptLines.{Reading, read_of}
use Rattle.dsql_driver_stream.specs.Lines.{all_lines}

-- Returns the later of two requests for capabilities, or the earlier if there is no later one.
abbrev pub later : Option Caps → Option Caps → Option Caps
later earlier None = earlier
later earlier (Some caps) = Some caps

-- What lines say: what their caps line asks for, if there is one, and the lines as they are played, in the
-- script's order.
pub record Said : Type 0 where
  pub caps : Option Caps
  pub lines : List Line

abbrev pub nothing : Said
nothing = record { caps = None; lines = [] }

-- Returns a line as it is played.
abbrev pub line_as_played : ScriptLine → Line
line_as_played Skip = played.Skip
line_as_played (Version version) = played.Skip
line_as_played (UseCaps caps) = played.Skip
line_as_played (script.Control control) = played.Control control
line_as_played (script.Fault conn nth what) = played.Fault conn nth what
line_as_played (Client client op true) = played.Start client op
line_as_played (Client client op false) = played.Client client op
line_as_played (Step client) = played.Step client
line_as_played StepHouse = played.StepHouse

-- Returns what a line asks the driver for, or `None` if it isn't a caps line.
abbrev pub caps_asked : ScriptLine → Option Caps
caps_asked (UseCaps caps) = Some caps
caps_asked _ = None

abbrev pub said_of : ScriptLine → Said
said_of line = record { caps = caps_asked line; lines = line_as_played line ∷ [] }

-- Returns what lines say, followed by what later lines say.
abbrev pub then : Said → Said → Said
then first more = record { caps = later first.caps more.caps; lines = first.lines ++ more.lines }

abbrev pub is_skip : Line → Bool
is_skip played.Skip = true
is_skip _ = false

-- Is true if no line is a caps line, and all are skipped as they are played.
abbrev pub is_silent : Said → Bool
is_silent says = is_none says.caps && list_all is_skip says.lines

-- What lines say up to the first refused line, and that line's number and fault, if there is one.
pub record Script : Type 0 where
  pub says : Said
  pub refused : Option (ℕ × LineFault)

-- Returns a script of which no line is refused.
abbrev pub whole : Said → Script
whole says = record { says = says; refused = None }

-- Returns a script whose first line is refused.
abbrev pub refused_at : ℕ → LineFault → Script
refused_at number fault = record { says = nothing; refused = Some (number, fault) }

-- Returns the script that follows lines that say this, together with them.
abbrev pub with_said : Said → Script → Script
with_said says rest = record { says = then says rest.says; refused = rest.refused }

-- Returns the script that a line of this number makes with the lines after it, or its refusal.
abbrev pub with_line : ℕ → Reading → (ScriptLine → Script) → Script
with_line number (Ok line) rest = with_said (said_of line) (rest line)
with_line number (Err fault) rest = refused_at number fault

-- Returns what these lines say at this position of the script.
abbrev pub script_from : Progress → List (List ℕ) → Script
script_from before [] = whole nothing
script_from before (line ∷ more) =
    with_line (before.lines + 1) (read_of before line) (λ says. script_from (after before says) more)

-- Returns what these bytes say as a script, which is for a race if the flag is true.
abbrev pub script_by : Bool → List ℕ → Script
script_by race bytes = script_from (unread_by race) (all_lines bytes)

-- Returns what these bytes say as a script that is played.
abbrev pub script_of : List ℕ → Script
script_of bytes = script_by false bytes

-- Holds if the bytes, if they are known, say this. The script is for a race if the flag is true.
abbrev pub SaysBy : Bool → Option (List ℕ) → Script → Type 0
SaysBy race bytes script = IfSome bytes (λ b. script_by race b ≡ script)

-- Holds if the bytes, if they are known, say this as a script that is played.
abbrev pub Says : Option (List ℕ) → Script → Type 0
Says bytes script = SaysBy false bytes script

-- Holds if what lines say begins with this. Unless this is silent, the lines after it ask the driver for
-- nothing.
pub record BeginsSaying (front all : Said) : Type 0 where
  pub rest : Said
  pub parts : all ≡ then front rest
  pub asked : (is_silent front ≡ true) ⊎ (rest.caps ≡ None)

-- Holds if the bytes, if they are known, say this first. The script is for a race if the flag is true.
abbrev pub SaysFirstBy : Bool → Option (List ℕ) → Said → Type 0
SaysFirstBy race bytes says = IfSome bytes (λ b. BeginsSaying says (script_by race b).says)

-- Holds if the bytes, if they are known, say this first as a script that is played.
abbrev pub SaysFirst : Option (List ℕ) → Said → Type 0
SaysFirst bytes says = SaysFirstBy false bytes says
