-- The lines that have their line feed: those of a front stay the first when more bytes follow.
use Rattle.std.proofs.Common.{◌≡◌, ℕ, ◌<◌, Bool, true, false, List, [], ◌∷◌, ◌++◌, All, length, refl, ap, ◌∙◌, arith, ne_eqb}
use Rattle.std.specs.List.{slice_split, onto_first}
use Rattle.std.proofs.lemmas.List.Splits.{slice_split_at, slice_split_none, slice_split-cons_yes, slice_split-cons_no, length-slice_split}
use Rattle.dsql_driver_stream.specs.Lines.{is_line_feed, lines_of_parts, all_lines, ended_of_parts, ended_lines}
use Rattle.dsql_driver_stream.proofs.FirstLines.{Feedless}

no_feed : (line : List ℕ) → Feedless line → All (λ byte. is_line_feed byte ≡ false) line
no_feed line feedless = λ k d before. ne_eqb _ _ (feedless k d before)

-- A part that others follow is ended.
ended_of_parts-cons : (part : List ℕ) (parts : List (List ℕ)) → 0 < length parts → ended_of_parts (part ∷ parts) ≡ part ∷ ended_of_parts parts
ended_of_parts-cons part [] some = absurd (omega (arith, some))
ended_of_parts-cons part (next ∷ more) some = refl

some_part : (bytes : List ℕ) → 0 < length (slice_split is_line_feed bytes)
some_part bytes = omega (arith, length-slice_split is_line_feed bytes)

-- Of a line, its line feed and the rest, that line is the first ended one.
pub ended_lines-feed : (line rest : List ℕ) → Feedless line → ended_lines (line ++ 10 ∷ rest) ≡ line ∷ ended_lines rest
ended_lines-feed line rest feedless =
    rw (slice_split_at is_line_feed line 10 rest (no_feed line feedless) refl) (ended_of_parts-cons line (slice_split is_line_feed rest) (some_part rest))

-- Bytes without a line feed end no line.
pub ended_lines-feedless : (line : List ℕ) → Feedless line → ended_lines line ≡ []
ended_lines-feedless line feedless = rw (slice_split_none is_line_feed line (no_feed line feedless)) refl

-- Holds if the parts of more bytes begin with those that were ended, and at least one part follows.
record GoesOn (parts all : List (List ℕ)) : Type 0 where
  next : List ℕ
  more : List (List ℕ)
  whole : all ≡ ended_of_parts parts ++ next ∷ more

any_parts : (all : List (List ℕ)) → 0 < length all → GoesOn ([] ∷ []) all
any_parts [] some = absurd (omega (arith, some))
any_parts (part ∷ parts) some = record { next = part; more = parts; whole = refl }

goes_on_feed : (parts all : List (List ℕ)) → 0 < length parts → GoesOn parts all → GoesOn ([] ∷ parts) ([] ∷ all)
goes_on_feed parts all some g = record { next = g.next; more = g.more; whole = rw (ended_of_parts-cons [] parts some) (ap (λ ps. [] ∷ ps) g.whole) }

goes_on_byte : (x : ℕ) (parts all : List (List ℕ)) → 0 < length parts → GoesOn parts all → GoesOn (onto_first x parts) (onto_first x all)
goes_on_byte x [] all some g = absurd (omega (arith, some))
goes_on_byte x (part ∷ []) all some g = record { next = x ∷ g.next; more = g.more; whole = rw g.whole refl }
goes_on_byte x (part ∷ next ∷ parts) all some g = record { next = g.next; more = g.more; whole = rw g.whole refl }

goes_on_next : (x : ℕ) (front rest : List ℕ) (feed : Bool) → is_line_feed x ≡ feed → GoesOn (slice_split is_line_feed front) (slice_split is_line_feed (front ++ rest))
    → GoesOn (slice_split is_line_feed (x ∷ front)) (slice_split is_line_feed (x ∷ front ++ rest))
goes_on_next x front rest true is g =
    rw (slice_split-cons_yes is_line_feed x front is, slice_split-cons_yes is_line_feed x (front ++ rest) is) (goes_on_feed _ _ (some_part front) g)
goes_on_next x front rest false is g =
    rw (slice_split-cons_no is_line_feed x front is, slice_split-cons_no is_line_feed x (front ++ rest) is) (goes_on_byte x _ _ (some_part front) g)

parts_go_on : (front rest : List ℕ) → GoesOn (slice_split is_line_feed front) (slice_split is_line_feed (front ++ rest))
parts_go_on [] rest = any_parts (slice_split is_line_feed rest) (some_part rest)
parts_go_on (x ∷ front) rest = goes_on_next x front rest (is_line_feed x) refl (parts_go_on front rest)

lines_of_parts-append : (parts : List (List ℕ)) (next : List ℕ) (more : List (List ℕ)) → lines_of_parts (parts ++ next ∷ more) ≡ parts ++ lines_of_parts (next ∷ more)
lines_of_parts-append [] next more = refl
lines_of_parts-append (part ∷ []) next more = refl
lines_of_parts-append (part ∷ other ∷ parts) next more = ap (λ ps. part ∷ ps) (lines_of_parts-append (other ∷ parts) next more)

pub first_of_ended : (front rest : List ℕ) → (more : List (List ℕ)) × (all_lines (front ++ rest) ≡ ended_lines front ++ more)
first_of_ended front rest =
    let g = parts_go_on front rest in
    (lines_of_parts (g.next ∷ g.more), ap lines_of_parts g.whole ∙ lines_of_parts-append (ended_lines front) g.next g.more)
