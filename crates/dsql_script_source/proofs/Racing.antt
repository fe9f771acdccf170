-- A reader for a race reads lines that may stand in one. The proof goes through the forms of a line, of which such a
-- reader refuses three by their first words.
use Rattle.std.proofs.Common.{◌≡◌, ℕ, Bool, true, false, ◌||◌, List, [], ◌∷◌, length, Option, Some, None, refl, sym, subst, ◌∙◌}
use Rattle.std.specs.Prelude.{ℤ, if◌then◌else◌, nat_lt, nat_le, codes, Result, Ok, Err, IfOk, IfSome}
use Rattle.std.specs.Str.{bytes_eq, is_utf8}
use Rattle.std.specs.Str.Lines.{strip_carriage_return}
use Rattle.dsql_history.specs.driver.declared.caps.Caps.{Caps}
use Rattle.dsql_history.specs.declared.event.Setting.{Setting}
use Rattle.dsql_script_forms.specs.declared.fault.What.TheVariants.{Lines}
use Rattle.dsql_script_forms.specs.declared.fault.LineFault.{LineFault}
use Rattle.dsql_script_forms.specs.declared.fault.LineFault.TheVariants.{TooLong, NotUtf8, NoSuchWord, BadShape, TooMany}
use Rattle.dsql_script_reader.specs.declared.script.Head.{Head}
use Rattle.dsql_script_reader.specs.declared.script.Head.TheVariants.{First, AfterVersion, Begun}
use Rattle.dsql_script_reader.specs.declared.script.ScriptLine.{ScriptLine}
use Rattle.dsql_script_reader.specs.declared.script.ScriptLine.TheVariants.{Skip, Version}
use Rattle.dsql_script_calls.specs.ScriptWords.{words_of, array_of, ordinal_of, client_of}
use Rattle.dsql_script_calls.specs.ScriptBegins.{CallReading}
use Rattle.dsql_script_calls.specs.ScriptCalls.{call_of}
use Rattle.dsql_script_reader.specs.ScriptHead.{Progress, after, is_version, caps_of}
use Rattle.dsql_script_reader.specs.ScriptPlans.{PlannedReading, planned_of}
use Rattle.dsql_script_reader.specs.ScriptLines.{plan_at, plan_line, limit_alone, is_skipped, most_bytes, Reading, call_by_client, set_or_fault, version_line, caps_or_fault, caps_line, form_of, race_refuses, form_by, text_by, line_of, unless_fault, among_labels, read_of, most_lines}
use Rattle.dsql_script_reader.specs.ScriptLabels.{MadeLabel, line_fault}
use Rattle.dsql_script_source.specs.Script.{line_as_played}
use Rattle.dsql_script_source.specs.Racing.{may_race, IsRacedLine}
use Rattle.dsql_script_source.specs.Reading.{NoLine}
use Rattle.dsql_script_source.specs.declared.stop.Stop.{Stop}
use Rattle.dsql_script_source.proofs.Forms.{either, each_form}

-- Holds if the reading is a line that may stand in a race, or a fault.
abbrev pub Raced : Reading → Type 0
Raced (Ok line) = may_race (line_as_played line) ≡ true
Raced (Err fault) = Unit {0}

raced_version : (head : Head) (words : List (List ℕ)) (array : Option (List ℕ)) → Raced (version_line head words array)
raced_version First words None = either Raced (is_version words) (Ok (Version 1)) (Err BadShape) (λ is. refl) (λ other. tt)
raced_version First words (Some array) = tt
raced_version _ words array = tt

raced_caps : (caps : Option Caps) → Raced (caps_or_fault caps)
raced_caps None = tt
raced_caps (Some caps) = refl

raced_caps_line : (head : Head) (words : List (List ℕ)) (array : Option (List ℕ)) → Raced (caps_line head words array)
raced_caps_line Begun words array = tt
raced_caps_line First words None = raced_caps (caps_of words)
raced_caps_line AfterVersion words None = raced_caps (caps_of words)
raced_caps_line _ words (Some array) = tt

raced_set : (setting : Setting) (number : Option ℤ) → Raced (set_or_fault setting number)
raced_set setting None = tt
raced_set setting (Some number) = refl

raced_plan_at : (conn nth : Option ℕ) (planned : PlannedReading) → Raced (plan_at conn nth planned)
raced_plan_at None nth planned = tt
raced_plan_at (Some conn) None planned = tt
raced_plan_at (Some conn) (Some nth) (Ok what) = refl
raced_plan_at (Some conn) (Some nth) (Err fault) = tt

raced_plan_line : (words : List (List ℕ)) (array : Option (List ℕ)) → Raced (plan_line words array)
raced_plan_line [] array = tt
raced_plan_line (conn ∷ []) array = tt
raced_plan_line (conn ∷ nth ∷ []) array = tt
raced_plan_line (conn ∷ nth ∷ what ∷ []) array = raced_plan_at (ordinal_of conn) (ordinal_of nth) (planned_of what array)
raced_plan_line (conn ∷ nth ∷ what ∷ more ∷ words) array = tt

raced_call : (client : Option ℕ) (call : CallReading) → Raced (call_by_client false client call)
raced_call None call = tt
raced_call (Some client) (Ok op) = refl
raced_call (Some client) (Err fault) = tt

-- A line that a race doesn't refuse begins with none of the three words.

not_tick : (tick start step : Bool) → (tick || start || step) ≡ false → tick ≡ true → ⊥
not_tick true start step taken is = cc
not_tick false start step taken is = cc

not_start : (tick start step : Bool) → (tick || start || step) ≡ false → start ≡ true → ⊥
not_start true start step taken is = cc
not_start false true step taken is = cc
not_start false false step taken is = cc

not_step : (tick start step : Bool) → (tick || start || step) ≡ false → step ≡ true → ⊥
not_step true start step taken is = cc
not_step false true step taken is = cc
not_step false false step taken is = let absurdity : true ≡ false = sym is ∙ taken in cc

raced_form : (head : Head) (words : List (List ℕ)) (array : Option (List ℕ)) → race_refuses words ≡ false → Raced (form_of head words array)
raced_form head [] array taken = tt
raced_form head (first ∷ words) array taken =
    let tick = bytes_eq first (codes "tick") in
    let start = bytes_eq first (codes "start") in
    let step = bytes_eq first (codes "step") in
    each_form Raced head first words array (raced_version head words array) (raced_caps_line head words array) (λ setting. raced_set setting (limit_alone words array)) (λ is. absurd (not_tick tick start step taken is)) (raced_plan_line words array)
    (λ is. absurd (not_start tick start step taken is)) (λ is. absurd (not_step tick start step taken is)) (raced_call (client_of first) (call_of words array))

raced_words : (head : Head) (words : List (List ℕ)) (array : Option (List ℕ)) → Raced (form_by true head words array)
raced_words head words array = either Raced (race_refuses words) (Err NoSuchWord) (form_of head words array) (λ refused. tt) (raced_form head words array)

raced_text : (head : Head) (text : List ℕ) → Raced (text_by true head text)
raced_text head text = either Raced (is_skipped text) (Ok Skip) (form_by true head (words_of text) (array_of text)) (λ skipped. refl) (λ other. raced_words head (words_of text) (array_of text))

raced_line : (head : Head) (line : List ℕ) → Raced (line_of true head line)
raced_line head line =
    either Raced (nat_lt most_bytes (length line)) (Err TooLong) (if is_utf8 line then text_by true head (strip_carriage_return line) else Err NotUtf8) (λ long. tt)
    (λ short. either Raced (is_utf8 line) (text_by true head (strip_carriage_return line)) (Err NotUtf8) (λ text. raced_text head (strip_carriage_return line)) (λ bytes. tt))

raced_unless_fault : (line : ScriptLine) (fault : Option LineFault) → may_race (line_as_played line) ≡ true → Raced (unless_fault line fault)
raced_unless_fault line None raced = raced
raced_unless_fault line (Some fault) raced = tt

raced_among_labels : (labels : List MadeLabel) (reading : Reading) → Raced reading → Raced (among_labels labels reading)
raced_among_labels labels (Ok line) raced = raced_unless_fault line (line_fault labels line) raced
raced_among_labels labels (Err fault) raced = tt

raced_read : (place : Progress) (line : List ℕ) → place.race ≡ true → Raced (read_of place line)
raced_read place line is =
    rw is
    (either Raced (nat_le most_lines place.lines) (Err (TooMany Lines)) (among_labels place.labels (line_of true place.head line)) (λ full. tt)
    (λ room. raced_among_labels place.labels (line_of true place.head line) (raced_line place.head line)))

-- The same for the results of a reader.

pub raced_of_read : (result : Result (Option ScriptLine) Stop) (place : Progress) (line : List ℕ) → place.race ≡ true → IfOk result (λ one. IfSome one (λ says. read_of place line ≡ Ok says)) → IfOk result IsRacedLine
raced_of_read (Ok (Some says)) place line race is = subst Raced is (raced_read place line race)
raced_of_read (Ok None) place line race is = tt
raced_of_read (Err stop) place line race is = tt

-- A script stays one for a race, or one that is played.
pub same_race : (result : Result (Option ScriptLine) Stop) (place now : Progress) → IfOk result (λ one. IfSome one (λ says. now ≡ after place says)) → NoLine result place now → now.race ≡ place.race
same_race (Ok (Some says)) place now placed stays = rw placed refl
same_race (Ok None) place now placed stays = rw stays refl
same_race (Err stop) place now placed stays = rw stays refl
