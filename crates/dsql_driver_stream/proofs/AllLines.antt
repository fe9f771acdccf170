-- The lines of bytes, one first line at a time: either a line feed ends it, or all bytes are that line.
use Rattle.std.proofs.Common.{◌≡◌, ◌≢◌, ℕ, ◌+◌, ◌<◌, ◌≤◌, ◌↔◌, false, List, [], ◌∷◌, Option, Some, All, length, drop, refl, sym, ap, ◌∙◌, arith, inl, inr, ne_eqb, not, length-drop}
use Rattle.std.specs.List.{position_or_len, slice_split}
use Rattle.std.proofs.Math.Nat.{eq-or-lt_of_le}
use Rattle.std.proofs.lemmas.Bool.{cases_lt}
use Rattle.std.proofs.lemmas.List.{take_all, drop_all, length-take-le, nil_from_length}
use Rattle.std.proofs.lemmas.List.Sums.{fails_before_first, prefix_len-le-length}
use Rattle.std.proofs.lemmas.List.Splits.{slice_split_first, slice_split_none, length-slice_split}
use Rattle.std.proofs.lemmas.Option.{same_Some}
use Rattle.dsql_driver_stream.specs.declared.lines.TheConstants.{LONGEST}
use Rattle.dsql_driver_stream.specs.Lines.{is_line_feed, first_line, after_line, lines_of_parts, all_lines, HandsOutLine}
use Rattle.dsql_driver_stream.proofs.FirstLines.{length-first_line}

-- A part that others follow is a line.
lines_of_parts-cons : (part : List ℕ) (parts : List (List ℕ)) → 0 < length parts → lines_of_parts (part ∷ parts) ≡ part ∷ lines_of_parts parts
lines_of_parts-cons part [] some = absurd (omega (arith, some))
lines_of_parts-cons part (next ∷ more) some = refl

-- Bytes with a line feed have their first line and then the lines of the bytes after it.
first_of_more : (bytes : List ℕ) → position_or_len is_line_feed bytes < length bytes → all_lines bytes ≡ first_line bytes ∷ all_lines (after_line bytes)
first_of_more bytes within =
    rw (slice_split_first is_line_feed bytes 0 within)
    (lines_of_parts-cons (first_line bytes) (slice_split is_line_feed (after_line bytes)) (omega (arith, length-slice_split is_line_feed (after_line bytes))))

-- Bytes without a line feed, if there are any, are one line.
first_of_one : (bytes : List ℕ) → bytes ≢ [] → position_or_len is_line_feed bytes ≡ length bytes → all_lines bytes ≡ first_line bytes ∷ all_lines (after_line bytes)
first_of_one bytes some none =
    let feedless : All (λ byte. is_line_feed byte ≡ false) bytes = λ k d before. fails_before_first is_line_feed bytes k d (omega (arith, none)) in
    let one : all_lines bytes ≡ bytes ∷ [] = rw (slice_split_none is_line_feed bytes feedless, ne_eqb (length bytes) 0 (λ nil. some (nil_from_length bytes nil))) refl in
    let first : first_line bytes ≡ bytes = rw none (take_all (length bytes) bytes (omega arith)) in
    let after : after_line bytes ≡ [] = rw none (drop_all (length bytes + 1) bytes (omega arith)) in
    one ∙ rw (first, after) refl

pub all_lines-first : (bytes : List ℕ) → bytes ≢ [] → all_lines bytes ≡ first_line bytes ∷ all_lines (after_line bytes)
all_lines-first bytes some =
    elim (eq-or-lt_of_le (prefix_len-le-length _ bytes)) [ inl none ↦ first_of_one bytes some none | inr within ↦ first_of_more bytes within ]

-- A first line is no longer than the bytes.
first_line_shorter : (bytes : List ℕ) → length (first_line bytes) ≤ length bytes
first_line_shorter bytes = omega (arith, length-first_line bytes, prefix_len-le-length (λ byte. not (is_line_feed byte)) bytes)

-- If the first line is too long, the line that was handed out has `LONGEST` + 1 bytes.
length-cut : (unread line : List ℕ) (after : Option (List ℕ)) → HandsOutLine unread after line → LONGEST < length (first_line unread) → length line ≡ LONGEST + 1
length-cut unread line after out long =
    ap length (out.cut long).0 ∙ length-take-le (LONGEST + 1) unread (omega (arith, long, first_line_shorter unread))

pub cut_where_long : (unread line : List ℕ) (after : Option (List ℕ)) → HandsOutLine unread after line → (LONGEST < length line) ↔ (LONGEST < length (first_line unread))
cut_where_long unread line after out = (
  λ long. elim (cases_lt LONGEST (length (first_line unread))) [ inl first ↦ first | inr short ↦ absurd (omega (arith, long, short, ap length (out.whole short).0)) ],
  λ long. omega (arith, length-cut unread line after out long),
)

pub uncut_first : (unread rest line : List ℕ) → HandsOutLine unread (Some rest) line → length line ≤ LONGEST → all_lines unread ≡ line ∷ all_lines rest
uncut_first unread rest line out short =
    elim (cases_lt LONGEST (length (first_line unread))) [
      | inl long ↦ absurd (omega (arith, short, length-cut unread line (Some rest) out long))
      | inr first ↦ let rest_is : rest ≡ after_line unread = same_Some _ _ (out.whole first).1 in rw ((out.whole first).0, rest_is) (all_lines-first unread out.there)
    ]

-- A line that is handed out takes something off.
pub takes_a_byte : (unread rest line : List ℕ) → HandsOutLine unread (Some rest) line → length rest < length unread
takes_a_byte unread rest line out =
    let all : 0 ≤ length unread = omega arith in
    let some : 0 < length unread = elim (eq-or-lt_of_le all) [ inl none ↦ absurd (out.there (nil_from_length unread (sym none))) | inr more ↦ more ] in
    elim (cases_lt LONGEST (length (first_line unread))) [
      | inl long ↦ let is : rest ≡ drop (LONGEST + 1) unread = same_Some _ _ (out.cut long).1 in omega (arith, some, ap length is, length-drop (LONGEST + 1) unread)
      | inr short ↦ let is : rest ≡ after_line unread = same_Some _ _ (out.whole (omega (arith, short))).1 in omega (arith, some, ap length is, length-drop (position_or_len is_line_feed unread + 1) unread)
    ]
