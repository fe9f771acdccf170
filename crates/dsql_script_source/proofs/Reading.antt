-- A line that was taken out reads as the first of the remaining lines, even if it was cut because it is too
-- long.
use Rattle.std.proofs.Common.{◌≡◌, ℕ, ◌<◌, ◌≤◌, Bool, true, false, List, Option, Some, None, length, refl, sym, ap, ◌∙◌, arith, inl, inr}
use Rattle.std.specs.Prelude.{if◌then◌else◌, nat_le, option_map, Ok, Err}
use Rattle.std.proofs.lemmas.Bool.{cases_lt, lt-ltb}
use Rattle.dsql_driver_stream.specs.Lines.{first_line, all_lines, HandsOut, HandsOutLine}
use Rattle.dsql_driver_stream.proofs.AllLines.{all_lines-first, cut_where_long}
use Rattle.dsql_script_forms.specs.declared.fault.What.TheVariants.{Lines}
use Rattle.dsql_script_forms.specs.declared.fault.LineFault.TheVariants.{TooLong, TooMany}
use Rattle.dsql_script_reader.specs.declared.script.ScriptLine.{ScriptLine}
use Rattle.dsql_script_reader.specs.ScriptHead.{Progress, after as after_line}
use Rattle.dsql_script_reader.specs.ScriptLines.{most_bytes, read_of, most_lines}
use Rattle.dsql_script_source.specs.declared.stop.Stop.{Stop}
use Rattle.dsql_script_source.specs.declared.stop.Stop.TheVariants.{Write, Refused, Full}
use Rattle.dsql_script_source.specs.Script.{script_from}
use Rattle.dsql_script_source.specs.Reading.{ReadsOn, IsRefusal, StopsReading}

-- A line that is too long is refused for that, unless too many lines precede it.
read_long : (n : Progress) (line : List ℕ) → most_bytes < length line → read_of n line ≡ (if nat_le most_lines n.lines then Err (TooMany Lines) else Err TooLong)
read_long n line long = rw (lt-ltb most_bytes (length line) long) refl

refused_long : (b : Bool) (s : ScriptLine) → (if b then Err (TooMany Lines) else Err TooLong) ≡ Ok s → ⊥
refused_long true s h = cc h
refused_long false s h = cc h

-- A line that is accepted is short enough.
taken_short : (n : Progress) (line : List ℕ) (s : ScriptLine) → read_of n line ≡ Ok s → length line ≤ most_bytes
taken_short n line s read =
    elim (cases_lt most_bytes (length line)) [
      | inl long ↦ absurd (refused_long (nat_le most_lines n.lines) s (sym (read_long n line long) ∙ read))
      | inr short ↦ omega (arith, short)
    ]

-- A line that was cut reads as the whole line does.
reads_as_first : (n : Progress) (unread line : List ℕ) (after : Option (List ℕ)) → HandsOutLine unread after line → read_of n (first_line unread) ≡ read_of n line
reads_as_first n unread line after out =
    elim (cases_lt most_bytes (length (first_line unread))) [
      | inl long ↦ read_long n (first_line unread) long ∙ sym (read_long n line ((cut_where_long unread line after out).1 long))
      | inr short ↦ ap (read_of n) (sym (out.whole (omega (arith, short))).0)
    ]

pub reads_on : (n : Progress) (there : Bool) (before after : Option (List ℕ)) (line : List ℕ) (s : ScriptLine) → there ≡ true → HandsOut there before after line → read_of n line ≡ Ok s
    → ReadsOn (Some s) (option_map (script_from n) (option_map all_lines before)) (option_map (script_from (after_line n s)) (option_map all_lines after))
reads_on n false before after line s is out read = absurd (cc is)
reads_on n true None after line s is out read = rw out refl
reads_on n true (Some unread) after line s is out read =
    let short = taken_short n line s read in
    let first : length (first_line unread) ≤ most_bytes = elim (cases_lt most_bytes (length (first_line unread))) [ inl long ↦ absurd (omega (arith, short, (cut_where_long unread line after out).1 long)) | inr short ↦ omega (arith, short) ] in
    rw ((out.whole first).1, all_lines-first unread out.there, reads_as_first n unread line after out, read) refl

pub stops_reading : (n : Progress) (there : Bool) (before after : Option (List ℕ)) (line : List ℕ) (stop : Stop) → there ≡ true → HandsOut there before after line → IsRefusal n line stop
    → StopsReading (option_map (script_from n) (option_map all_lines before)) stop
stops_reading n false before after line stop is out refusal = absurd (cc is)
stops_reading n true None after line Write is out refusal = refusal
stops_reading n true None after line Full is out refusal = refusal
stops_reading n true (Some unread) after line Write is out refusal = refusal
stops_reading n true (Some unread) after line (Refused number fault) is out refusal = rw (all_lines-first unread out.there, reads_as_first n unread line after out, refusal.1, refusal.0) refl
stops_reading n true (Some unread) after line Full is out refusal = refusal
stops_reading n true _ after line _ is out refusal = tt
