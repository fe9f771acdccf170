-- What the program's words ask for.
use Rattle.std.specs.Prelude.{◌≡◌, ◌&&◌, List, [], ◌∷◌, Option, Some, None, option_map, if◌then◌else◌, codes, ℕ}
use Rattle.std.specs.Str.{bytes_eq}
use Rattle.dsql_script_generator.specs.Counts.{asked_count}
use Rattle.dsql_script_generator.specs.declared.words.Command.{Command}
use Rattle.dsql_script_generator.specs.declared.words.Command.TheVariants.{Play, Race, Summarize, Generate}

-- Returns what one word asks for: `play` or `race`.
abbrev pub command_alone : List ℕ → Option Command
command_alone word =
    if bytes_eq word (codes "play") then Some Play
    else (if bytes_eq word (codes "race") then Some Race else None)

-- Returns what two words ask for: `play --summary`, or `gen` and a number of lines.
abbrev pub command_with : List ℕ → List ℕ → Option Command
command_with word more =
    if bytes_eq word (codes "play") && bytes_eq more (codes "--summary") then Some Summarize
    else (if bytes_eq word (codes "gen") then option_map (λ n. Generate n) (asked_count more) else None)

-- Returns what the words ask for, if they are accepted.
abbrev pub command_of : List (List ℕ) → Option Command
command_of (word ∷ []) = command_alone word
command_of (word ∷ more ∷ []) = command_with word more
command_of _ = None

-- Worked words that are accepted, and words that aren't.
pub record WorkedWords : Type 0 where
  pub play : command_of (codes "play" ∷ []) ≡ Some Play
  pub race : command_of (codes "race" ∷ []) ≡ Some Race
  pub summary : command_of (codes "play" ∷ codes "--summary" ∷ []) ≡ Some Summarize
  pub lines : command_of (codes "gen" ∷ codes "200" ∷ []) ≡ Some (Generate 200)
  pub none : command_of [] ≡ None
  pub dashes : command_of (codes "play" ∷ codes "--" ∷ []) ≡ None
  pub twice : command_of (codes "play" ∷ codes "--summary" ∷ codes "--summary" ∷ []) ≡ None
  pub no_lines : command_of (codes "gen" ∷ codes "0" ∷ []) ≡ None
  pub zero_in_front : command_of (codes "gen" ∷ codes "01" ∷ []) ≡ None
  pub too_many : command_of (codes "gen" ∷ codes "10001" ∷ []) ≡ None
  pub race_summary : command_of (codes "race" ∷ codes "--summary" ∷ []) ≡ None
  pub help : command_of (codes "--help" ∷ []) ≡ None
