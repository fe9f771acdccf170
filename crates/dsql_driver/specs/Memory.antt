-- The outside in memory: streams over lists of bytes that fail at chosen turns, and a clock over a list of
-- moments.
use Rattle.std.specs.Prelude.{ℕ, ◌==◌, Bool, List, [], ◌∷◌, ◌++◌, length, min, take, drop, if◌then◌else◌}
use Rattle.std.specs.List.{list_any}
use Rattle.dsql_driver.specs.Streams.{one_more}

-- A stream: its bytes, and the most that passes through it at once. `failing` has the numbers of the turns that
-- are to fail, counted from 1. `turns` counts the turns so far, and `faults` those that failed.
pub record Stream : Type 0 where
  pub bytes : List ℕ
  pub piece : ℕ
  pub failing : List ℕ
  pub turns : ℕ
  pub faults : ℕ

-- Returns a stream that nothing has passed through.
abbrev pub new_stream : List ℕ → ℕ → List ℕ → Stream
new_stream bytes piece failing = record { bytes = bytes; piece = piece; failing = failing; turns = 0; faults = 0 }

-- Is true if the stream's next turn is to fail.
abbrev pub fails_next : Stream → Bool
fails_next s = list_any (λ k. k == one_more s.turns) s.failing

-- Returns the stream after a turn that failed.
abbrev pub after_failure : Stream → Stream
after_failure s = record s { turns = one_more s.turns; faults = one_more s.faults }

-- Returns how many bytes a read takes into a buffer with this much room.
abbrev pub taken_of : Stream → ℕ → ℕ
taken_of s room = min (min (length s.bytes) s.piece) room

-- Returns the buffer after a read that took bytes, which stand in its front.
abbrev pub filled_of : Stream → List ℕ → List ℕ
filled_of s buf = let n = taken_of s (length buf) in take n s.bytes ++ drop n buf

-- Returns the source after a read into a buffer with this much room.
abbrev pub after_read : Stream → ℕ → Stream
after_read s room =
    if fails_next s then after_failure s
    else record s { bytes = drop (taken_of s room) s.bytes; turns = one_more s.turns }

-- Returns how many bytes a write appends of a piece with this many.
abbrev pub appended_of : Stream → ℕ → ℕ
appended_of s many = min many s.piece

-- Returns the sink after a write that didn't fail.
abbrev pub after_write : Stream → List ℕ → Stream
after_write s piece =
    record s { bytes = s.bytes ++ take (appended_of s (length piece)) piece; turns = one_more s.turns }

-- Returns the present moment of a clock that has these moments to come.
abbrev pub moment_of : List ℕ → ℕ
moment_of [] = 0
moment_of (m ∷ rest) = m

-- Returns the moments to come after the clock gave the present one. The last one stays.
abbrev pub later_moments : List ℕ → List ℕ
later_moments [] = []
later_moments (m ∷ []) = m ∷ []
later_moments (m ∷ next ∷ rest) = next ∷ rest
