-- The first line of bytes whose front has no line feed: the place of the first line feed gives its length.
use Rattle.std.proofs.Common.{◌≡◌, ◌≢◌, ℕ, ◌+◌, ◌≤◌, List, [], ◌∷◌, ◌++◌, All, length, refl, ◌∙◌, arith, length-append, append_assoc, ne_eqb, eq-eqb, add-zero}
use Rattle.std.proofs.lemmas.List.{length-take-le, take_at, take_all, drop_at, drop_all}
use Rattle.std.proofs.lemmas.List.Sums.{position_or_len_is, prefix_len-le-length}
use Rattle.std.proofs.lemmas.List.Folds.{prefix_len-append}
use Rattle.std.specs.List.{position_or_len}
use Rattle.dsql_driver_stream.specs.Lines.{is_line_feed, first_line, after_line}

-- Holds if no byte ends a line.
abbrev pub Feedless : List ℕ → Type 0
Feedless bytes = All (λ byte. byte ≢ 10) bytes

-- If no byte is a line feed, the place of the first one is the length.
pub position-feedless : (line : List ℕ) → Feedless line → position_or_len is_line_feed line ≡ length line
position-feedless line feedless =
    position_or_len_is is_line_feed line (length line) 0 (omega arith) (λ k before. ne_eqb _ _ (feedless k 0 before)) (λ none. absurd (omega (arith, none)))

-- A front without a line feed moves the first line feed by the front's length.
pub position-front : (front rest : List ℕ) → Feedless front → position_or_len is_line_feed (front ++ rest) ≡ length front + position_or_len is_line_feed rest
position-front front rest feedless =
    prefix_len-append _ front rest ∙ rw (position-feedless front feedless, eq-eqb (length front) (length front) refl) refl

position-feed : (line rest : List ℕ) → Feedless line → position_or_len is_line_feed (line ++ 10 ∷ rest) ≡ length line
position-feed line rest feedless = position-front line (10 ∷ rest) feedless ∙ add-zero (length line)

pub first_line-feed : (line rest : List ℕ) → Feedless line → first_line (line ++ 10 ∷ rest) ≡ line
first_line-feed line rest feedless = rw (position-feed line rest feedless) (take_at line (10 ∷ rest) (length line) refl)

pub after_line-feed : (line rest : List ℕ) → Feedless line → after_line (line ++ 10 ∷ rest) ≡ rest
after_line-feed line rest feedless =
    rw (position-feed line rest feedless, ← append_assoc line (10 ∷ []) rest) (drop_at (line ++ 10 ∷ []) rest (length line + 1) (length-append line (10 ∷ [])))

-- Bytes without a line feed are one line.
pub first_line-feedless : (line : List ℕ) → Feedless line → first_line line ≡ line
first_line-feedless line feedless = rw (position-feedless line feedless) (take_all (length line) line (omega arith))

pub after_line-feedless : (line : List ℕ) → Feedless line → after_line line ≡ []
after_line-feedless line feedless = rw (position-feedless line feedless) (drop_all (length line + 1) line (omega arith))

-- The length of a first line is the place of its line feed.
pub length-first_line : (bytes : List ℕ) → length (first_line bytes) ≡ position_or_len is_line_feed bytes
length-first_line bytes = length-take-le _ bytes (prefix_len-le-length _ bytes)

-- A first line is no shorter than a front without a line feed.
pub first_line_longer : (front rest : List ℕ) → Feedless front → length front ≤ length (first_line (front ++ rest))
first_line_longer front rest feedless = omega (arith, length-first_line (front ++ rest), position-front front rest feedless)
