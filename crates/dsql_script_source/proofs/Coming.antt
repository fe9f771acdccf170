-- What the rest of a script says after one more line was read. The proof has a case for a line, for the script's end,
-- and for a stop.
use Rattle.std.proofs.Common.{◌≡◌, ◌⊎◌, ◌∙◌, inl, inr, ℕ, ◌+◌, Bool, true, false, List, [], ◌∷◌, ◌++◌, length, Option, Some, None, refl, ap, sym, arith}
use Rattle.std.specs.Prelude.{option_map, IfSome, IfOk, IfErr, Result, Ok, Err}
use Rattle.std.proofs.lemmas.List.{length-append}
use Rattle.std.proofs.lemmas.Option.{same_Some}
use Rattle.dsql_driver_stream.specs.Lines.{all_lines, ahead, SawTheEnd}
use Rattle.dsql_script_forms.specs.declared.fault.LineFault.{LineFault}
use Rattle.dsql_script_reader.specs.declared.script.Head.TheVariants.{Begun}
use Rattle.dsql_script_reader.specs.declared.script.ScriptLine.{ScriptLine}
use Rattle.dsql_script_reader.specs.declared.script.ScriptLine.TheVariants.{Skip, Version}
use Rattle.dsql_script_reader.specs.ScriptHead.{Progress, after}
use Rattle.dsql_script_reader.specs.ScriptLines.{read_of}
use Rattle.dsql_script_source.specs.Position.{Position}
use Rattle.dsql_script_source.specs.Script.{Script, Said, nothing, line_as_played, said_of, then, is_silent, script_by, whole, refused_at, with_said, SaysFirstBy}
use Rattle.dsql_script_source.specs.Plays.{ReadsUpToBy, PlaysBy}
use Rattle.dsql_script_source.specs.Reading.{HasReadBy, ReadToBy, ReadsOn, TakesLine, DropsUnfinished, StopsReading, NoLine, came, to_come, is_body}
use Rattle.dsql_script_source.specs.declared.stop.Stop.{Stop}
use Rattle.dsql_script_source.specs.declared.stop.Stop.TheVariants.{Read, Memory, Refused}
use Rattle.dsql_script_source.proofs.Saying.{then-nothing, with_both, silent_then}
use Rattle.dsql_script_source.proofs.Body.{body_lines, stays_begun}
use Rattle.dsql_script_source.proofs.WholeLines.{none_to_come, reads_line, reads_up_to}

-- After one more line was taken out, the script is still what the lines so far say, followed by its rest.
script_goes_on : (all before rest : Option Script) (says : Said) (line : ScriptLine) → all ≡ option_map (with_said says) before → ReadsOn (Some line) before rest → all ≡ option_map (with_said (then says (said_of line))) rest
script_goes_on all before None says line is reads = is ∙ rw reads refl
script_goes_on all before (Some s) says line is reads = is ∙ rw reads (ap Some (with_both says (said_of line) s))

-- At the script's end, the lines so far say all that the script says.
script_ends : (race : Bool) (left rest : Option (List ℕ)) (before : Option Script) (says : Said) → option_map (script_by race) left ≡ option_map (with_said says) before → IfSome before (λ s. s ≡ whole nothing) → PlaysBy race (Ok tt) left rest says
script_ends race None rest before says is reads = tt
script_ends race (Some bytes) rest None says is reads = absurd (cc is)
script_ends race (Some bytes) rest (Some s) says is reads = same_Some _ _ is ∙ rw reads (ap whole (then-nothing says))

-- Holds if the lines so far are silent or the rest of the script has no caps line.
abbrev pub NoneToCome : Said → Option Script → Type 0
NoneToCome says before = (is_silent says ≡ true) ⊎ IfSome before (λ s. s.says.caps ≡ None)

none_more : (race : Bool) (before : Option (List ℕ)) (reader : Position) (left : Option (List ℕ)) (says : Said) → HasReadBy race before reader left says → NoneToCome says (to_come reader left)
none_more race before reader left says h = none_to_come reader.reader (option_map all_lines (ahead reader.lines left)) says h.begun

first_said : (race : Bool) (left : Option (List ℕ)) (before : Option Script) (says : Said) → option_map (script_by race) left ≡ option_map (with_said says) before → NoneToCome says before → SaysFirstBy race left says
first_said race None before says is none = tt
first_said race (Some bytes) None says is none = absurd (cc is)
first_said race (Some bytes) (Some s) says is none = record { rest = s.says; parts = ap (λ t. t.says) (same_Some _ _ is); asked = none }

refused_said : (race : Bool) (left rest : Option (List ℕ)) (before : Option Script) (says : Said) (number : ℕ) (fault : LineFault)
    → option_map (script_by race) left ≡ option_map (with_said says) before → IfSome before (λ s. s ≡ refused_at number fault) → PlaysBy race (Err (Refused number fault)) left rest says
refused_said race None rest before says number fault is at = tt
refused_said race (Some bytes) rest None says number fault is at = absurd (cc is)
refused_said race (Some bytes) rest (Some s) says number fault is at = same_Some _ _ is ∙ rw at (ap (λ said. record { says = said; refused = Some (number, fault) }) (then-nothing says))

-- A script begins with what the lines that were read so far say.
pub first_of_read_so_far : {race : Bool} (before : Option (List ℕ)) (reader : Position) (left : Option (List ℕ)) (says : Said) → HasReadBy race before reader left says → SaysFirstBy race before says
first_of_read_so_far {race} before reader left says h = first_said race before (to_come reader left) says h.script (none_more race before reader left says h)

-- If no line could be read, the lines so far say what a run that stops there has of the script.
script_stops : (race : Bool) (left rest : Option (List ℕ)) (before : Option Script) (says : Said) (stop : Stop)
    → option_map (script_by race) left ≡ option_map (with_said says) before → NoneToCome says before → StopsReading before stop → (stop ≡ Read → IfSome left (λ bytes. ReadsUpToBy race bytes rest says)) → PlaysBy race (Err stop) left rest says
script_stops race left rest before says Read is none stops read = read refl
script_stops race left rest before says Memory is none stops read = first_said race left before says is none
script_stops race left rest before says (Refused number fault) is none stops read = refused_said race left rest before says number fault is stops
script_stops race left rest before says _ is none stops read = absurd stops

-- After one more line, the head has ended or all lines so far are silent.
begun_on : (says : Said) (old new : Progress) (line : ScriptLine) → (is_silent says ≡ true) ⊎ (old.head ≡ Begun) → (old.head ≡ Begun → is_body line ≡ true) → new ≡ after old line
    → (is_silent (then says (said_of line)) ≡ true) ⊎ (new.head ≡ Begun)
begun_on says old new line (inr begun) body placed = inr (stays_begun old new line begun (body begun) placed)
begun_on says old new Skip (inl silent) body placed = inl (silent_then says (said_of Skip) silent refl)
begun_on says old new (Version version) (inl silent) body placed = inl (silent_then says (said_of (Version version)) silent refl)
begun_on says old new _ (inl silent) body placed = inr (rw placed refl)

-- Holds if this is the result of taking the next line out of a source and reading it, where these bytes were
-- taken out last.
pub record TakesNext (result : Result (Option ScriptLine) Stop) (old new : Position) (left rest : Option (List ℕ)) (bytes : List ℕ) : Type 0 where
  pub read : IfOk result (λ one. ReadsOn one (to_come old left) (to_come new rest))
  pub taken : IfOk result (λ one. IfSome one (λ line. new.lines.ended ≡ false → TakesLine old.reader bytes line (ahead old.lines left) (ahead new.lines rest)))
  pub dropped : result ≡ Err Read → DropsUnfinished old.lines.ended bytes (ahead old.lines left) rest
  pub ended : old.lines.ended ≡ true → new.lines.ended ≡ true
  pub end : result ≡ Ok None → SawTheEnd old.lines left → IfSome rest (λ more. more ≡ [])
  pub stopped : IfErr result (StopsReading (to_come old left))
  pub placed : IfOk result (λ one. IfSome one (λ line. new.reader ≡ after old.reader line))
  pub is : IfOk result (λ one. IfSome one (λ line. read_of old.reader bytes ≡ Ok line))
  pub sees : SawTheEnd old.lines left → SawTheEnd new.lines rest

one_more_line : (says : Said) (line : ScriptLine) (old new : Progress) → length says.lines ≡ old.lines → new ≡ after old line → length (says.lines ++ line_as_played line ∷ []) ≡ new.lines
one_more_line says line old new counted placed =
    let more = length-append says.lines (line_as_played line ∷ []) in
    let now : new.lines ≡ old.lines + 1 = ap (λ (p : Progress). p.lines) placed in
    omega (arith, more, now, counted)

read_a_line : (race : Bool) (before : Option (List ℕ)) (old new : Position) (left rest : Option (List ℕ)) (bytes : List ℕ) (says : Said) (line : ScriptLine) → HasReadBy race before old left says → TakesNext (Ok (Some line)) old new left rest bytes
    → HasReadBy race before new rest (then says (said_of line))
read_a_line race before old new left rest bytes says line h t = record {
  script = script_goes_on (option_map (script_by race) before) (to_come old left) (to_come new rest) says line h.script t.read;
  lines = reads_line race old.lines.ended new.lines.ended before (ahead old.lines left) (ahead new.lines rest) bytes old.reader new.reader line says t.ended h.lines t.taken t.placed;
  begun = begun_on says old.reader new.reader line h.begun (λ begun. body_lines old.reader bytes line begun t.is) t.placed;
  sees = t.sees h.sees;
  counted = one_more_line says line old.reader new.reader h.counted t.placed;
}

read_no_line : (race : Bool) (before : Option (List ℕ)) (old new : Position) (left rest : Option (List ℕ)) (bytes : List ℕ) (says : Said) (stop : Stop) → HasReadBy race before old left says → TakesNext (Err stop) old new left rest bytes
    → PlaysBy race (Err stop) before rest says
read_no_line race before old new left rest bytes says stop h t =
    script_stops race before rest (to_come old left) says stop h.script (none_more race before old left says h) t.stopped
    (λ read. reads_up_to race old.lines.ended before (ahead old.lines left) rest bytes old.reader says h.lines (t.dropped (ap Err read)))

-- The reader has then read what `ReadToBy` says, whatever the result was.
pub reads_to : (race : Bool) (result : Result (Option ScriptLine) Stop) (before : Option (List ℕ)) (old new : Position) (left rest : Option (List ℕ)) (bytes : List ℕ) (says : Said) → HasReadBy race before old left says → TakesNext result old new left rest bytes
    → ReadToBy race result before new rest says
reads_to race (Ok (Some line)) before old new left rest bytes says h t = read_a_line race before old new left rest bytes says line h t
reads_to race (Ok None) before old new left rest bytes says h t = (script_ends race before rest (to_come old left) says h.script t.read, t.end refl h.sees)
reads_to race (Err stop) before old new left rest bytes says h t = read_no_line race before old new left rest bytes says stop h t

-- The number of lines read grows by the one line of the result, if there is one.
pub counts_to : (race : Bool) (result : Result (Option ScriptLine) Stop) (before : Option (List ℕ)) (old new : Position) (left : Option (List ℕ)) (says : Said) → HasReadBy race before old left says
    → IfOk result (λ one. IfSome one (λ line. new.reader ≡ after old.reader line)) → NoLine result old.reader new.reader → length says.lines + came result ≡ new.reader.lines
counts_to race (Ok (Some line)) before old new left says h placed stays = ap (λ k. k + 1) h.counted ∙ sym (ap (λ (p : Progress). p.lines) placed)
counts_to race (Ok None) before old new left says h placed stays = let same = ap (λ (p : Progress). p.lines) stays in let counted = h.counted in omega (arith, same, counted)
counts_to race (Err stop) before old new left says h placed stays = let same = ap (λ (p : Progress). p.lines) stays in let counted = h.counted in omega (arith, same, counted)
