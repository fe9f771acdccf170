-- The lines of a script for a race that were read so far. The argument adds one line at a time: only the first caps line
-- asks for anything, since no other one may follow it.
use Rattle.std.proofs.Common.{◌≡◌, ◌≤◌, ◌+◌, ℕ, ◌⊎◌, inl, inr, Bool, true, false, cond, List, [], ◌∷◌, ◌++◌, Option, Some, None, is_some, refl, sym, ap, ◌∙◌, arith}
use Rattle.std.specs.Prelude.{is_none, sum_by, Ok, Err}
use Rattle.std.specs.List.{list_all}
use Rattle.std.proofs.lemmas.Bool.{and_from, and_parts}
use Rattle.std.proofs.lemmas.List.Folds.{list_all-append}
use Rattle.std.proofs.lemmas.List.Sums.{sum_by_push}
use Rattle.dsql_history.specs.driver.declared.caps.Caps.{Caps}
use Rattle.dsql_history.specs.driver.Wires.{Preferred, preferred_after}
use Rattle.dsql_follows.specs.Labels.{times_in}
use Rattle.dsql_follows.specs.declared.line.Line.{Line}
use Rattle.dsql_script_reader.specs.declared.script.Head.TheVariants.{Begun}
use Rattle.dsql_script_reader.specs.declared.script.ScriptLine.{ScriptLine}
use Rattle.dsql_script_reader.specs.declared.script.ScriptLine.TheVariants.{UseCaps}
use Rattle.dsql_script_reader.specs.ScriptHead.{Progress}
use Rattle.dsql_script_reader.specs.ScriptLabels.{kind_of}
use Rattle.dsql_script_source.specs.Naming.{known, times_next, LearnsLabel}
use Rattle.dsql_script_source.specs.Plays.{saying}
use Rattle.dsql_script_source.specs.Position.{Position}
use Rattle.dsql_script_source.specs.Racing.{may_race, IsRacedLine}
use Rattle.dsql_script_source.specs.Reading.{HasReadBy, IsBodyLine, Prefers, ReadToBy, ReadsScript, asked_for}
use Rattle.dsql_script_source.specs.Script.{later, Said, nothing, said_of, caps_asked, line_as_played, then, is_skip, is_silent, script_by, SaysFirstBy}
use Rattle.dsql_script_source.specs.declared.stop.Stop.TheVariants.{Memory}
use Rattle.dsql_script_source.proofs.Coming.{first_of_read_so_far}
use Rattle.dsql_script_source.proofs.Saying.{nothing-then}

-- Holds if these lines were read so far, and the fleet was asked for what the caps line among them names.
pub record WholeSoFar (lines : List Line) (before : Option (List ℕ)) (reader : Position) (left : Option (List ℕ)) (preferred_before preferred_now : Preferred) (ability_before ability_now : Caps) : Type 0 where
  pub asked : Option Caps
  pub reads : HasReadBy true before reader left (saying asked lines)
  pub prefers : Prefers asked preferred_before preferred_now ability_before ability_now

-- What the fleet was asked for.

prefers_then : (asked more : Option Caps) (p0 p p' : Preferred) (a0 a a' : Caps) → (is_some more ≡ true → asked ≡ None) → Prefers asked p0 p a0 a → Prefers more p p' a a' → Prefers (later asked more) p0 p' a0 a'
prefers_then asked None p0 p p' a0 a a' once first then_none = record { preferred = then_none.preferred ∙ first.preferred; same = λ none. then_none.same refl ∙ first.same none }
prefers_then asked (Some caps) p0 p p' a0 a a' once first then_some = record {
  preferred = then_some.preferred ∙ ap (preferred_after caps) (first.preferred ∙ ap (λ it. asked_for it p0) (once refl));
  same = λ none. absurd (cc none);
}

unasked : (asked : Option Caps) → is_none asked ≡ true → asked ≡ None
unasked None none = refl
unasked (Some caps) none = absurd (cc none)

-- A caps line comes after silent lines alone, which asked for nothing.
asked_once : (line : ScriptLine) (asked : Option Caps) (lines : List Line) (place : Progress) → (is_silent (saying asked lines) ≡ true) ⊎ (place.head ≡ Begun) → (place.head ≡ Begun → IsBodyLine (Some line)) → is_some (caps_asked line) ≡ true → asked ≡ None
asked_once (UseCaps caps) asked lines place (inl silent) body some = unasked asked (and_parts (is_none asked) (list_all is_skip lines) silent).0
asked_once (UseCaps caps) asked lines place (inr begun) body some = absurd (cc (body begun))
asked_once _ asked lines place begun body some = absurd (cc some)

-- One more line.

pub whole_next : (read : Option ScriptLine) (line : ScriptLine) (lines now : List Line) (before : Option (List ℕ)) (old new : Position) (left rest : Option (List ℕ)) (p0 p p' : Preferred) (a0 a a' : Caps) → read ≡ Some line
    → WholeSoFar lines before old left p0 p a0 a → (old.reader.head ≡ Begun → IsBodyLine read) → ((says : Said) → HasReadBy true before old left says → ReadToBy true (Ok read) before new rest says) → now ≡ lines ++ line_as_played line ∷ []
    → Prefers (caps_asked line) p p' a a' → WholeSoFar now before new rest p0 p' a0 a'
whole_next read line lines now before old new left rest p0 p p' a0 a a' is so_far body reads more prefers =
    let one : HasReadBy true before new rest (then (saying so_far.asked lines) (said_of line)) = rw is at (reads (saying so_far.asked lines) so_far.reads) in
    let first : is_some (caps_asked line) ≡ true → so_far.asked ≡ None = asked_once line so_far.asked lines old.reader so_far.reads.begun (rw is at body) in
    record {
      asked = later so_far.asked (caps_asked line);
      reads = rw more one;
      prefers = prefers_then so_far.asked (caps_asked line) p0 p p' a0 a a' first so_far.prefers prefers;
    }

-- A line of a race follows lines of a race.
pub raced_next : (read : Option ScriptLine) (line : ScriptLine) (lines now : List Line) → read ≡ Some line → list_all may_race lines ≡ true → IsRacedLine read → now ≡ lines ++ line_as_played line ∷ [] → list_all may_race now ≡ true
raced_next read line lines now is raced one more =
    let this : may_race (line_as_played line) ≡ true = rw is at one in
    rw more (list_all-append may_race lines (line_as_played line ∷ []) ∙ and_from (list_all may_race lines) (list_all may_race (line_as_played line ∷ [])) raced (and_from (may_race (line_as_played line)) true this refl))

-- The lines so far make a label once if the reader knows it, and not at all if it doesn't.
pub counted_next : (read : Option ScriptLine) (line : ScriptLine) (lines now : List Line) (old new : Progress) → read ≡ Some line → ((label : List ℕ) → sum_by (times_in label) lines ≡ known label old) → LearnsLabel read old new
    → now ≡ lines ++ line_as_played line ∷ [] → (label : List ℕ) → sum_by (times_in label) now ≡ known label new
counted_next read line lines now old new is counted learns more label =
    let this : known label new ≡ times_next label (Some line) + known label old = rw is at (learns label) in
    rw more (sum_by_push (times_in label) lines (line_as_played line) ∙ omega (arith, this, counted label))

one_at_most : (b : Bool) → cond b 1 0 ≤ 1
one_at_most true = omega arith
one_at_most false = omega arith

pub named_once : (lines : List Line) (place : Progress) → ((label : List ℕ) → sum_by (times_in label) lines ≡ known label place) → (label : List ℕ) → sum_by (times_in label) lines ≤ 1
named_once lines place counted label = omega (arith, counted label, one_at_most (is_some (kind_of place.labels label)))

-- A lack of memory.

-- A line that was read isn't kept.
pub whole_lacks : (lines : List Line) (before : Option (List ℕ)) (old : Position) (left rest : Option (List ℕ)) (p0 p : Preferred) (a0 a : Caps) → WholeSoFar lines before old left p0 p a0 a → ReadsScript (Err Memory) lines before rest p0 p a0 a
whole_lacks lines before old left rest p0 p a0 a so_far = record {
  asked = so_far.asked;
  plays = first_of_read_so_far before old left (saying so_far.asked lines) so_far.reads;
  prefers = so_far.prefers;
  ended = λ over. absurd (cc over);
}

none_first : (before : Option (List ℕ)) → SaysFirstBy true before nothing
none_first None = tt
none_first (Some bytes) = record { rest = (script_by true bytes).says; parts = sym (nothing-then (script_by true bytes).says); asked = inl refl }

-- Nothing was read.
pub nothing_read : (lines : List Line) (before rest : Option (List ℕ)) (p : Preferred) (a : Caps) → lines ≡ [] → ReadsScript (Err Memory) lines before rest p p a a
nothing_read lines before rest p a none = record {
  asked = None;
  plays = rw none (none_first before);
  prefers = record { preferred = refl; same = λ _. refl };
  ended = λ over. absurd (cc over);
}
