-- After the first line that is neither skipped nor the version line, a script has no line of its head. The proof goes
-- through the forms of a line.
use Rattle.std.proofs.Common.{◌≡◌, ℕ, ◌+◌, ◌&&◌, Bool, true, false, List, [], ◌∷◌, length, Option, Some, None, refl, subst}
use Rattle.std.specs.Prelude.{ℤ, if◌then◌else◌, nat_lt, nat_le, codes, Result, Ok, Err, IfOk, IfErr, IfSome}
use Rattle.std.specs.Str.{bytes_eq, is_utf8}
use Rattle.std.specs.Str.Lines.{strip_carriage_return}
use Rattle.dsql_history.specs.declared.event.Setting.{Setting}
use Rattle.dsql_script_forms.specs.declared.fault.What.TheVariants.{Lines}
use Rattle.dsql_script_forms.specs.declared.fault.LineFault.{LineFault}
use Rattle.dsql_script_forms.specs.declared.fault.LineFault.TheVariants.{TooLong, NotUtf8, NoSuchWord, TooMany}
use Rattle.dsql_script_reader.specs.declared.script.Head.TheVariants.{Begun}
use Rattle.dsql_script_reader.specs.declared.script.ScriptLine.{ScriptLine}
use Rattle.dsql_script_reader.specs.declared.script.ScriptLine.TheVariants.{Skip, Version, UseCaps, StepHouse}
use Rattle.dsql_script_calls.specs.ScriptWords.{words_of, array_of, ordinal_of, client_of}
use Rattle.dsql_script_calls.specs.ScriptBegins.{CallReading}
use Rattle.dsql_script_calls.specs.ScriptCalls.{call_of}
use Rattle.dsql_script_reader.specs.ScriptHead.{Progress, after}
use Rattle.dsql_script_reader.specs.ScriptPlans.{PlannedReading, planned_of}
use Rattle.dsql_script_reader.specs.ScriptLines.{plan_at, plan_line, limit_alone, moment_alone, is_skipped, most_bytes, Reading, client_call, call_by_client, client_line, start_line, set_or_fault, set_line, tick_or_fault, tick_line, step_or_fault, step_line, form_of, race_refuses, form_by, text_by, line_of, unless_fault, among_labels, read_of, most_lines}
use Rattle.dsql_script_reader.specs.ScriptLabels.{MadeLabel, line_fault}
use Rattle.dsql_script_source.specs.Script.{Script}
use Rattle.dsql_script_source.specs.Reading.{StopsReading, is_body, ends_head, IsBodyLine, NoLine}
use Rattle.dsql_script_source.specs.Stops.{IsReadStop}
use Rattle.dsql_script_source.specs.declared.stop.Stop.{Stop}
use Rattle.dsql_script_source.specs.declared.stop.Stop.TheVariants.{Write, Full}
use Rattle.dsql_script_source.proofs.Forms.{either, each_form}

-- Holds if the reading is a line of the body, or a fault.
abbrev pub Body : Reading → Type 0
Body (Ok line) = is_body line ≡ true
Body (Err fault) = Unit {0}

body_client_call : (held : Bool) (client : ℕ) (call : CallReading) → Body (client_call held client call)
body_client_call held client (Ok op) = refl
body_client_call held client (Err fault) = tt

body_call_by : (held : Bool) (client : Option ℕ) (call : CallReading) → Body (call_by_client held client call)
body_call_by held None call = tt
body_call_by held (Some client) call = body_client_call held client call

body_client_line : (held : Bool) (client : List ℕ) (words : List (List ℕ)) (array : Option (List ℕ)) → Body (client_line held client words array)
body_client_line held client words array = body_call_by held (client_of client) (call_of words array)

body_start_line : (words : List (List ℕ)) (array : Option (List ℕ)) → Body (start_line words array)
body_start_line [] array = tt
body_start_line (client ∷ words) array = body_client_line true client words array

body_set : (setting : Setting) (number : Option ℤ) → Body (set_or_fault setting number)
body_set setting None = tt
body_set setting (Some number) = refl

body_set_line : (setting : Setting) (words : List (List ℕ)) (array : Option (List ℕ)) → Body (set_line setting words array)
body_set_line setting words array = body_set setting (limit_alone words array)

body_tick : (moment : Option ℕ) → Body (tick_or_fault moment)
body_tick None = tt
body_tick (Some now) = refl

body_tick_line : (words : List (List ℕ)) (array : Option (List ℕ)) → Body (tick_line words array)
body_tick_line words array = body_tick (moment_alone words array)

body_plan_at : (conn nth : Option ℕ) (planned : PlannedReading) → Body (plan_at conn nth planned)
body_plan_at None nth planned = tt
body_plan_at (Some conn) None planned = tt
body_plan_at (Some conn) (Some nth) (Ok what) = refl
body_plan_at (Some conn) (Some nth) (Err fault) = tt

body_plan_line : (words : List (List ℕ)) (array : Option (List ℕ)) → Body (plan_line words array)
body_plan_line [] array = tt
body_plan_line (conn ∷ []) array = tt
body_plan_line (conn ∷ nth ∷ []) array = tt
body_plan_line (conn ∷ nth ∷ what ∷ []) array = body_plan_at (ordinal_of conn) (ordinal_of nth) (planned_of what array)
body_plan_line (conn ∷ nth ∷ what ∷ more ∷ words) array = tt

body_step : (client : Option ℕ) → Body (step_or_fault client)
body_step None = tt
body_step (Some client) = refl

body_step_line : (words : List (List ℕ)) (array : Option (List ℕ)) → Body (step_line words array)
body_step_line words (Some array) = tt
body_step_line [] None = tt
body_step_line (who ∷ []) None = either Body (bytes_eq who (codes "house")) (Ok StepHouse) (step_or_fault (client_of who)) (λ house. refl) (λ other. body_step (client_of who))
body_step_line (who ∷ more ∷ words) None = tt

body_form_of : (words : List (List ℕ)) (array : Option (List ℕ)) → Body (form_of Begun words array)
body_form_of [] array = tt
body_form_of (first ∷ words) array =
    each_form Body Begun first words array tt tt (λ setting. body_set_line setting words array) (λ is. body_tick_line words array) (body_plan_line words array)
    (λ is. body_start_line words array) (λ is. body_step_line words array) (body_client_line false first words array)

body_form_by : (race : Bool) (words : List (List ℕ)) (array : Option (List ℕ)) → Body (form_by race Begun words array)
body_form_by race words array = either Body (race && race_refuses words) (Err NoSuchWord) (form_of Begun words array) (λ refused. tt) (λ taken. body_form_of words array)

body_text : (race : Bool) (text : List ℕ) → Body (text_by race Begun text)
body_text race text = either Body (is_skipped text) (Ok Skip) (form_by race Begun (words_of text) (array_of text)) (λ skipped. refl) (λ other. body_form_by race (words_of text) (array_of text))

body_line : (race : Bool) (line : List ℕ) → Body (line_of race Begun line)
body_line race line =
    either Body (nat_lt most_bytes (length line)) (Err TooLong) (if is_utf8 line then text_by race Begun (strip_carriage_return line) else Err NotUtf8) (λ long. tt)
    (λ short. either Body (is_utf8 line) (text_by race Begun (strip_carriage_return line)) (Err NotUtf8) (λ text. body_text race (strip_carriage_return line)) (λ bytes. tt))

-- Checking the labels of a line of the body leaves it a line of the body.
body_unless_fault : (line : ScriptLine) (fault : Option LineFault) → is_body line ≡ true → Body (unless_fault line fault)
body_unless_fault line None body = body
body_unless_fault line (Some fault) body = tt

body_among_labels : (labels : List MadeLabel) (reading : Reading) → Body reading → Body (among_labels labels reading)
body_among_labels labels (Ok line) body = body_unless_fault line (line_fault labels line) body
body_among_labels labels (Err fault) body = tt

body_read : (place : Progress) (line : List ℕ) → place.head ≡ Begun → Body (read_of place line)
body_read place line is =
    rw is
    (either Body (nat_le most_lines place.lines) (Err (TooMany Lines)) (among_labels place.labels (line_of place.race Begun line)) (λ full. tt)
    (λ room. body_among_labels place.labels (line_of place.race Begun line) (body_line place.race line)))

pub body_lines : (place : Progress) (line : List ℕ) (says : ScriptLine) → place.head ≡ Begun → read_of place line ≡ Ok says → is_body says ≡ true
body_lines place line says is reads = subst Body reads (body_read place line is)

-- The head stays ended after a line of the body.
pub stays_begun : (place now : Progress) (says : ScriptLine) → place.head ≡ Begun → is_body says ≡ true → now ≡ after place says → now.head ≡ Begun
stays_begun place now Skip is body placed = rw placed is
stays_begun place now (Version version) is body placed = absurd (cc body)
stays_begun place now (UseCaps caps) is body placed = absurd (cc body)
stays_begun place now _ is body placed = rw placed refl

pub begun_by : (place now : Progress) (says : ScriptLine) → ends_head says ≡ true → now ≡ after place says → now.head ≡ Begun
begun_by place now Skip is placed = absurd (cc is)
begun_by place now (Version version) is placed = absurd (cc is)
begun_by place now _ is placed = rw placed refl

-- The same for the results of a reader.

pub body_of_read : (result : Result (Option ScriptLine) Stop) (place : Progress) (line : List ℕ) → place.head ≡ Begun → IfOk result (λ one. IfSome one (λ says. read_of place line ≡ Ok says)) → IfOk result IsBodyLine
body_of_read (Ok (Some says)) place line begun is = body_lines place line says begun is
body_of_read (Ok None) place line begun is = tt
body_of_read (Err stop) place line begun is = tt

pub begun_of_read : (result : Result (Option ScriptLine) Stop) (place now : Progress) (line : List ℕ) → place.head ≡ Begun → IfOk result (λ one. IfSome one (λ says. read_of place line ≡ Ok says))
    → IfOk result (λ one. IfSome one (λ says. now ≡ after place says)) → NoLine result place now → now.head ≡ Begun
begun_of_read (Ok (Some says)) place now line begun is placed stays = stays_begun place now says begun (body_lines place line says begun is) placed
begun_of_read (Ok None) place now line begun is placed stays = rw stays begun
begun_of_read (Err stop) place now line begun is placed stays = rw stays begun

pub headed_of_read : (result : Result (Option ScriptLine) Stop) (place now : Progress) → IfOk result (λ one. IfSome one (λ says. now ≡ after place says))
    → IfOk result (λ one. IfSome one (λ says. ends_head says ≡ true → now.head ≡ Begun))
headed_of_read (Ok (Some says)) place now placed = λ ends. begun_by place now says ends placed
headed_of_read (Ok None) place now placed = tt
headed_of_read (Err stop) place now placed = tt

pub counted_of_read : (result : Result (Option ScriptLine) Stop) (place now : Progress) → IfOk result (λ one. IfSome one (λ says. now ≡ after place says))
    → IfOk result (λ one. IfSome one (λ says. now.lines ≡ place.lines + 1))
counted_of_read (Ok (Some says)) place now placed = rw placed refl
counted_of_read (Ok None) place now placed = tt
counted_of_read (Err stop) place now placed = tt

pub readable_stops : (result : Result (Option ScriptLine) Stop) (before : Option Script) → IfErr result (StopsReading before) → IfErr result IsReadStop
readable_stops (Err Write) before stops = stops
readable_stops (Err Full) before stops = stops
readable_stops _ before stops = tt
