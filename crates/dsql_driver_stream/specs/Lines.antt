-- The lines of bytes, and what a reader hands out of them.
use Rattle.std.specs.Prelude.{ℕ, ◌+◌, ◌≡◌, ◌≢◌, ◌<◌, ◌≤◌, ◌==◌, Bool, true, false, List, [], ◌∷◌, ◌++◌, length, take, drop, Option, Some, None, option_map, IfSome, if◌then◌else◌}
use Rattle.std.specs.List.{before_first, after_first, slice_split}
use Rattle.dsql_driver_stream.specs.declared.lines.TheConstants.{LONGEST}
use Rattle.dsql_driver_stream.specs.Buffered.{Buffered}

-- Is true if the byte ends a line.
abbrev pub is_line_feed : ℕ → Bool
is_line_feed b = b == 10

-- Returns the first line, without its line feed.
abbrev pub first_line : List ℕ → List ℕ
first_line bytes = before_first is_line_feed bytes

-- Returns the bytes after the first line's line feed.
abbrev pub after_line : List ℕ → List ℕ
after_line bytes = after_first is_line_feed bytes

-- Returns the lines that the parts between line feeds are. An empty last part is no line.
abbrev pub lines_of_parts : List (List ℕ) → List (List ℕ)
lines_of_parts [] = []
lines_of_parts (part ∷ []) = if length part == 0 then [] else part ∷ []
lines_of_parts (part ∷ next ∷ more) = part ∷ lines_of_parts (next ∷ more)

-- Returns every line, each without its line feed. The last one may lack it.
abbrev pub all_lines : List ℕ → List (List ℕ)
all_lines bytes = lines_of_parts (slice_split is_line_feed bytes)

-- Returns the parts between line feeds that are ended lines: all except the last, which has no line feed.
abbrev pub ended_of_parts : List (List ℕ) → List (List ℕ)
ended_of_parts [] = []
ended_of_parts (part ∷ []) = []
ended_of_parts (part ∷ next ∷ more) = part ∷ ended_of_parts (next ∷ more)

-- Returns the lines that have their line feed, each without it.
abbrev pub ended_lines : List ℕ → List (List ℕ)
ended_lines bytes = ended_of_parts (slice_split is_line_feed bytes)

-- Returns what a reader still has to hand out, if the source reports what is left. After the end it reads no
-- more.
abbrev pub ahead : Buffered → Option (List ℕ) → Option (List ℕ)
ahead reader left = option_map (λ bytes. if reader.ended then reader.pending else reader.pending ++ bytes) left

-- Holds if the end that the reader saw is the source's, provided the source reports what is left.
abbrev pub SawTheEnd : Buffered → Option (List ℕ) → Type 0
SawTheEnd reader left = reader.ended ≡ true → IfSome left (λ bytes. bytes ≡ [])

-- Holds if these bytes were taken off the front, provided the bytes are known.
abbrev pub TakesOff : List ℕ → Option (List ℕ) → Option (List ℕ) → Type 0
TakesOff front before after = before ≡ option_map (λ rest. front ++ rest) after

-- Holds if a line was handed out of these bytes. It is the first line, or if that is longer than a line may be,
-- what stands before its 4,098th byte.
pub record HandsOutLine (unread : List ℕ) (after : Option (List ℕ)) (line : List ℕ) : Type 0 where
  pub there : unread ≢ []
  pub whole : length (first_line unread) ≤ LONGEST → (line ≡ first_line unread) × (after ≡ Some (after_line unread))
  pub cut : LONGEST < length (first_line unread) → (line ≡ take (LONGEST + 1) unread)
      × (after ≡ Some (drop (LONGEST + 1) unread))

-- Holds if a line was handed out, or there was none, provided the bytes are known.
abbrev pub HandsOut : Bool → Option (List ℕ) → Option (List ℕ) → List ℕ → Type 0
HandsOut _ None after line = after ≡ None
HandsOut false (Some unread) after line = (unread ≡ []) × (after ≡ Some [])
HandsOut true (Some unread) after line = HandsOutLine unread after line
