-- Defines how far a script has been read.
use Rattle.std.specs.Prelude.{ℕ, Bool, false, List, [], ◌∷◌, codes, if◌then◌else◌, Option, Some, None, ◌+◌, ◌++◌, length}
use Rattle.std.specs.List.{list_any}
use Rattle.std.specs.Str.{bytes_eq}
use Rattle.std.specs.Cmp.Lexicographic.{pointwise}
use Rattle.dsql_history.specs.driver.declared.caps.Caps.{Caps}
use Rattle.dsql_script_spelling.specs.CapsNames.{caps_names}
use Rattle.dsql_history.specs.declared.event.Op.{Op}
use Rattle.dsql_history.specs.declared.event.Op.TheVariants.{Query, Begin}
use Rattle.dsql_script_reader.specs.declared.kind.Kind.TheVariants.{Rows, Transaction}
use Rattle.dsql_script_reader.specs.declared.script.Head.{Head}
use Rattle.dsql_script_reader.specs.declared.script.Head.TheVariants.{First, AfterVersion, Begun}
use Rattle.dsql_script_reader.specs.declared.script.ScriptLine.{ScriptLine}
use Rattle.dsql_script_reader.specs.declared.script.ScriptLine.TheVariants.{Skip, Version, Client}
use Rattle.dsql_script_reader.specs.ScriptLabels.{MadeLabel}

-- Is true if these words, which follow `version`, are the version 1 alone.
abbrev pub is_version : List (List ℕ) → Bool
is_version (word ∷ []) = bytes_eq word (codes "1")
is_version _ = false

abbrev pub has_word : List (List ℕ) → List ℕ → Bool
has_word words name = list_any (λ word. bytes_eq word name) words

-- Returns the capabilities whose names are among these words.
abbrev pub caps_among : List (List ℕ) → Caps
caps_among words = record {
  fast_exec = has_word words (codes "fast_exec");
  fast_query = has_word words (codes "fast_query");
  begin_options = has_word words (codes "begin_options");
  named = has_word words (codes "named");
  pinger = has_word words (codes "pinger");
  resetter = has_word words (codes "resetter");
  validator = has_word words (codes "validator");
}

-- Returns the capabilities that these words name, if each name stands there once and in the order of a report.
abbrev pub caps_of : List (List ℕ) → Option Caps
caps_of words = let caps = caps_among words in if pointwise bytes_eq (caps_names caps) words then Some caps else None

-- A position in a script: how many lines were read, and the labels that they made. And whether a version line or a caps
-- line may still follow, and whether the script is for a race. The labels are in the order of the lines, each with its
-- kind.
pub record Progress : Type 0 where
  pub lines : ℕ
  pub head : Head
  pub labels : List MadeLabel
  pub race : Bool

-- Returns the position after lines that made no label.
abbrev pub progress : ℕ → Head → Progress
progress lines head = record { lines = lines; head = head; labels = []; race = false }

-- Returns the position after lines that each made one of these labels.
abbrev pub progress_past : List MadeLabel → Progress
progress_past labels = record { lines = length labels; head = Begun; labels = labels; race = false }

-- Returns the position before the first line of a script that is played.
abbrev pub unread : Progress
unread = progress 0 First

-- Returns the position before the first line of a script, which is for a race if the flag is true.
abbrev pub unread_by : Bool → Progress
unread_by race = record unread { race = race }

-- Returns which head lines may still follow the line. A version line stands before all lines except skipped
-- ones. A caps line stands there or after the version line.
abbrev pub head_after : Head → ScriptLine → Head
head_after head Skip = head
head_after head (Version version) = AfterVersion
head_after head _ = Begun

-- Returns the labels that a call makes: a query makes one for its rows, and a begin makes one for its
-- transaction.
abbrev pub labels_made : Op → List MadeLabel
labels_made (Query label target text args) = (label, Rows) ∷ []
labels_made (Begin label level read_only) = (label, Transaction) ∷ []
labels_made _ = []

abbrev pub labels_after : List MadeLabel → ScriptLine → List MadeLabel
labels_after labels (Client client op held) = labels ++ labels_made op
labels_after labels _ = labels

-- Returns the position after one more line. The script stays one for a race, or one that is played.
abbrev pub after : Progress → ScriptLine → Progress
after before line = record before {
  lines = before.lines + 1;
  head = head_after before.head line;
  labels = labels_after before.labels line;
}
