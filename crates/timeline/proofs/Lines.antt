-- A report is read one line at a time: the lines that are left begin with the next one.
use Rattle.std.proofs.Common.{◌≡◌, ◌≢◌, ℕ, zero, suc, ◌+◌, ◌<◌, ◌≤◌, Bool, true, false, List, [], ◌∷◌, ◌++◌, Some, None, Ok, Err, cond, map, length, refl, sym, ap, subst, ◌∙◌, inl, inr, append_assoc, arith, unwrap_or}
use Rattle.std.specs.Prelude.{nat_eq, nat_lt, position, Option}
use Rattle.std.specs.List.{position_or_len}
use Rattle.std.proofs.lemmas.Bool.{ltb-false}
use Rattle.std.proofs.lemmas.List.{map-append, length-drop}
use Rattle.std.proofs.lemmas.List.Sums.{prefix_len-le-length}
use Rattle.dsql_driver_stream.specs.Lines.{is_line_feed, first_line, after_line, all_lines}
use Rattle.dsql_driver_stream.proofs.AllLines.{all_lines-first}
use Rattle.dsql_history.specs.declared.event.Event.{Event}
use Rattle.dsql_script.specs.forms.declared.fault.LineFault.{LineFault}
use Rattle.dsql_script.specs.forms.declared.fault.LineFault.TheVariants.{TooMany, Memory}
use Rattle.dsql_script.specs.forms.declared.fault.What.TheVariants.{Lines}
use Rattle.dsql_script_source.specs.declared.stop.Stop.{Stop}
use Rattle.dsql_script_source.specs.declared.stop.Stop.TheVariants.{Refused}
use Rattle.dsql_timeline_picture.specs.declared.picture.TheConstants.{MOST_EVENTS}
use Rattle.dsql_script.specs.event_reader.Events.{Reading, reading_of}
use Rattle.timeline.specs.Reading.{readings, is_memory, IsRefusedFor, IsRead}

unwrapped : (k n : ℕ) (t : Bool) → nat_lt k n ≡ t → k ≤ n → unwrap_or (cond t (Some k) None) n ≡ k
unwrapped k n true is within = refl
unwrapped k n false is within = let more = ltb-false k n is in omega arith

-- The place of the first that passes, or the length, is how many do not pass before it.
pub unwrapped_position : {X : Type 0} (p : X → Bool) (xs : List X) → unwrap_or (position p xs) (length xs) ≡ position_or_len p xs
unwrapped_position p xs = unwrapped (position_or_len p xs) (length xs) (nat_lt (position_or_len p xs) (length xs)) refl (prefix_len-le-length _ xs)

-- What follows the first line is shorter.
pub after_line_shorter : (bytes : List ℕ) → 0 < length bytes → length (after_line bytes) < length bytes
after_line_shorter bytes some = omega (arith, some, length-drop (position_or_len is_line_feed bytes + 1) bytes)

some_from : (n : ℕ) → 0 < n → n ≡ 0 → ⊥
some_from n some none = omega arith

pub not_empty : (n : ℕ) → false ≡ nat_eq n 0 → 0 < n
not_empty zero is = let absurdity : ⊥ = cc in absurd absurdity
not_empty (suc n) is = omega arith

-- Bytes that are left have a first line.
lines_left : (rest : List ℕ) → 0 < length rest → all_lines rest ≡ first_line rest ∷ all_lines (after_line rest)
lines_left rest some = all_lines-first rest (λ none. some_from (length rest) some (ap length none))

-- A line that is read as an event comes next.
read_on : (f : List ℕ → Reading) (whole : List Reading) (events : List Event) (event : Event) (line : List ℕ) (lines more : List (List ℕ)) → lines ≡ line ∷ more → f line ≡ Ok event
    → whole ≡ readings events ++ map f lines → whole ≡ readings (events ++ event ∷ []) ++ map f more
read_on f whole events event line lines more next is so_far =
    so_far
    ∙ rw (next, is, map-append) (sym (append_assoc (readings events) (Ok event ∷ []) (map f more)))

pub read_more : (whole : List Reading) (events : List Event) (event : Event) (rest line after : List ℕ) → 0 < length rest → line ≡ first_line rest → after ≡ after_line rest → reading_of line ≡ Ok event
    → whole ≡ readings events ++ map reading_of (all_lines rest) → whole ≡ readings (events ++ event ∷ []) ++ map reading_of (all_lines after)
read_more whole events event rest line after some first next is so_far =
    let lines : all_lines rest ≡ line ∷ all_lines after = rw (first, next) (lines_left rest some) in
    read_on reading_of whole events event line (all_lines rest) (all_lines after) lines is so_far

-- A fault other than a lack of memory is the line's.
pub is_refused : (fault : LineFault) (lacks : Bool) (reading : Reading) → lacks ≡ is_memory fault → lacks ≡ false → (fault ≢ Memory → reading ≡ Err fault) → reading ≡ Err fault
is_refused fault lacks reading is other refused =
    refused (λ memory. let lacking : is_memory fault ≡ true = ap is_memory memory in let absurdity : ⊥ = cc in absurdity)

-- The next line is refused for this fault.
pub stops_refused : (lines : List (List ℕ)) (events : List Event) (rest line : List ℕ) (number : ℕ) (fault : LineFault) (refused : Option Stop) → 0 < length rest
    → map reading_of lines ≡ readings events ++ map reading_of (all_lines rest) → number ≡ length events + 1 → line ≡ first_line rest → reading_of line ≡ Err fault
    → refused ≡ Some (Refused number fault) → IsRead lines events refused
stops_refused lines events rest line number fault refused some so_far counted first is stops =
    let here : IsRefusedFor fault (length events) (first_line rest ∷ all_lines (after_line rest)) = inl (subst (λ (l : List ℕ). reading_of l ≡ Err fault) first is) in
    let why : IsRefusedFor fault (length events) (all_lines rest) = subst (λ (ls : List (List ℕ)). IsRefusedFor fault (length events) ls) (sym (lines_left rest some)) here in
    subst (λ (r : Option Stop). IsRead lines events r) (sym stops) (record { rest = all_lines rest; read = so_far; stops = (counted, why) })

-- The next line is one too many.
pub stops_full : (lines : List (List ℕ)) (events : List Event) (rest : List ℕ) (number : ℕ) (refused : Option Stop) → 0 < length rest
    → map reading_of lines ≡ readings events ++ map reading_of (all_lines rest) → number ≡ length events + 1 → length events ≡ MOST_EVENTS
    → refused ≡ Some (Refused number (TooMany Lines)) → IsRead lines events refused
stops_full lines events rest number refused some so_far counted full stops =
    let here : IsRefusedFor (TooMany Lines) (length events) (first_line rest ∷ all_lines (after_line rest)) = inr (full, refl) in
    let why : IsRefusedFor (TooMany Lines) (length events) (all_lines rest) = subst (λ (ls : List (List ℕ)). IsRefusedFor (TooMany Lines) (length events) ls) (sym (lines_left rest some)) here in
    subst (λ (r : Option Stop). IsRead lines events r) (sym stops) (record { rest = all_lines rest; read = so_far; stops = (counted, why) })
