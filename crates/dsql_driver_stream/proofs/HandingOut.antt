-- The bytes that were taken off the front of those ahead are a line. Each way in which the reading ends has its
-- lemma.
use Rattle.std.proofs.Common.{◌≡◌, ◌≢◌, ℕ, ◌+◌, ◌≤◌, ◌==◌, Bool, true, false, not, if◌then◌else◌, List, [], ◌∷◌, ◌++◌, Option, Some, None, length, refl, ap, sym, ◌∙◌, arith, length-append, append_assoc, append-nil, ne_eqb}
use Rattle.std.proofs.lemmas.List.{take_at, drop_at}
use Rattle.dsql_driver_stream.specs.declared.lines.TheConstants.{LONGEST}
use Rattle.dsql_driver_stream.specs.Buffered.{Buffered}
use Rattle.dsql_driver_stream.specs.Lines.{ahead, TakesOff, HandsOut, HandsOutLine}
use Rattle.dsql_driver_stream.proofs.FirstLines.{Feedless, first_line-feed, after_line-feed, first_line-feedless, after_line-feedless, first_line_longer}

-- Bytes that are taken off next follow those that were taken off before.
takes_off_then : (front next : List ℕ) (before mid after : Option (List ℕ)) → TakesOff front before mid → TakesOff next mid after → TakesOff (front ++ next) before after
takes_off_then front next before mid None first second = let none : mid ≡ None = second in first ∙ rw none refl
takes_off_then front next before mid (Some rest) first second = let bytes : mid ≡ Some (next ++ rest) = second in first ∙ rw (bytes, append_assoc front next rest) refl

run_ahead : (run pending bytes : List ℕ) (ended : Bool)
    → (if ended then run ++ pending else (run ++ pending) ++ bytes) ≡ run ++ (if ended then pending else pending ++ bytes)
run_ahead run pending bytes true = refl
run_ahead run pending bytes false = append_assoc run pending bytes

-- Bytes that were taken off the pending ones were taken off what is ahead.
takes_off_pending : (run : List ℕ) (old new : Buffered) (left : Option (List ℕ)) → old.pending ≡ run ++ new.pending → new.ended ≡ old.ended → TakesOff run (ahead old left) (ahead new left)
takes_off_pending run old new None front same = refl
takes_off_pending run old new (Some bytes) front same = rw (front, same) (ap Some (run_ahead run new.pending bytes old.ended))

-- A line, a byte and a run that are taken off in turn are together taken off the front.
pub takes_byte_and_run : (line run : List ℕ) (byte : ℕ) (old new : Buffered) (left before mid : Option (List ℕ)) → TakesOff line before mid → TakesOff (byte ∷ []) mid (ahead old left)
    → old.pending ≡ run ++ new.pending → new.ended ≡ old.ended → TakesOff ((line ++ byte ∷ []) ++ run) before (ahead new left)
takes_byte_and_run line run byte old new left before mid first next front same =
    takes_off_then (line ++ byte ∷ []) run before (ahead old left) (ahead new left) (takes_off_then line (byte ∷ []) before mid (ahead old left) first next) (takes_off_pending run old new left front same)

-- If a line feed ended the line, a line is handed out.
pub hands_out_ended : (line : List ℕ) (before mid after : Option (List ℕ)) → Feedless line → length line ≤ LONGEST
    → TakesOff line before mid → TakesOff (10 ∷ []) mid after → HandsOut true before after line
hands_out_ended line before mid None feedless short front feed = let none : before ≡ None = cc in rw none refl
hands_out_ended line before mid (Some rest) feedless short front feed =
    let bytes : before ≡ Some (line ++ 10 ∷ rest) = cc in
    rw bytes (record {
      there = λ none. absurd (omega (arith, ap length none, length-append line (10 ∷ rest)));
      whole = λ _. (sym (first_line-feed line rest feedless), ap Some (sym (after_line-feed line rest feedless)));
      cut = λ long. absurd (omega (arith, long, ap length (first_line-feed line rest feedless)));
    })

-- All bytes that were left, without a line feed among them, are the last line.
last_line : (line : List ℕ) → Feedless line → length line ≤ LONGEST → line ≢ [] → HandsOutLine line (Some []) line
last_line line feedless short there = record {
  there = there;
  whole = λ _. (sym (first_line-feedless line feedless), ap Some (sym (after_line-feedless line feedless)));
  cut = λ long. absurd (omega (arith, long, ap length (first_line-feedless line feedless)));
}

at_end : (line : List ℕ) → Feedless line → length line ≤ LONGEST → HandsOut (not (length line == 0)) (Some line) (Some []) line
at_end [] _ _ = (refl, refl)
at_end (byte ∷ more) feedless short = rw (ne_eqb (length (byte ∷ more)) 0 (λ none. omega (arith, none))) (last_line (byte ∷ more) feedless short (λ none. cc))

-- If the source's end was reached, the last line is handed out, or none if it is empty.
pub hands_out_last : (line : List ℕ) (reader : Buffered) (left before mid : Option (List ℕ)) → Feedless line → length line ≤ LONGEST
    → reader ≡ record { pending = []; ended = true } → TakesOff line before mid → TakesOff [] mid (ahead reader left)
    → HandsOut (not (length line == 0)) before (ahead reader left) line
hands_out_last line reader None before mid feedless short ended front none = let unknown : before ≡ None = cc in rw unknown refl
hands_out_last line reader (Some bytes) before mid feedless short ended front none =
    let end : ahead reader (Some bytes) ≡ Some [] = rw ended refl in
    let left : mid ≡ Some [] = rw end at none in
    let all : before ≡ Some line = front ∙ rw left (ap Some (append-nil line)) in
    rw (all, end) (at_end line feedless short)

-- If the line is too long, it is handed out cut.
pub hands_out_cut : (line : List ℕ) (before after : Option (List ℕ)) → Feedless line → length line ≡ LONGEST + 1 → TakesOff line before after
    → HandsOut true before after line
hands_out_cut line before None feedless long front = let none : before ≡ None = front in rw none refl
hands_out_cut line before (Some rest) feedless long front =
    let bytes : before ≡ Some (line ++ rest) = front in
    rw bytes (record {
      there = λ none. absurd (omega (arith, ap length none, length-append line rest));
      whole = λ short. absurd (omega (arith, short, first_line_longer line rest feedless));
      cut = λ _. (sym (take_at line rest (LONGEST + 1) long), ap Some (sym (drop_at line rest (LONGEST + 1) long)));
    })
