-- Proves which form a line has by its first word, if the words are borrowed as they are in the program. The
-- argument evaluates the choice of form for each first word.
use Rattle.std.proofs.Common.{◌≡◌, ℕ, ◌≤◌, List, [], ◌∷◌, length, Option, Some, None, refl, arith, Bor, ◌≢◌, ◌-◌, false, get_or, take, drop, Err, codes}
use Rattle.dsql_script_calls.proofs.LineWords.{texts, other_word}
use Rattle.dsql_script_reader.specs.ScriptLines.{limit_alone, moment_alone, form_of, set_line, tick_line, plan_line, step_line, client_line}
use Rattle.std.proofs.lemmas.List.{take_all}
use Rattle.dsql_script_reader.specs.declared.script.Head.{Head}
use Rattle.dsql_history.specs.declared.event.Setting.TheVariants.{MaxOpen, MaxIdle, MaxLife, MaxIdleTime}
use Rattle.dsql_script_forms.specs.declared.fault.LineFault.TheVariants.{BadShape}

-- Two or more words are no limit.
pub limit_alone_of_more : (words : List (Bor (List ℕ))) (array : Option (List ℕ)) → 2 ≤ length words → limit_alone (texts words) array ≡ None
limit_alone_of_more words (Some array) more = refl
limit_alone_of_more [] None more = refl
limit_alone_of_more (number ∷ []) None more = absurd (omega arith)
limit_alone_of_more (number ∷ other ∷ words) None more = refl

-- Two or more words are no moment.
pub moment_alone_of_more : (words : List (Bor (List ℕ))) (array : Option (List ℕ)) → 2 ≤ length words → moment_alone (texts words) array ≡ None
moment_alone_of_more words (Some array) more = refl
moment_alone_of_more [] None more = refl
moment_alone_of_more (now ∷ []) None more = absurd (omega arith)
moment_alone_of_more (now ∷ other ∷ words) None more = refl

-- Each of the following lemmas says which form a line with this first word has. The other words follow the
-- first one.

pub form_of_maxopen : (head : Head) (words : List (Bor (List ℕ))) (array : Option (List ℕ)) (d : Bor (List ℕ)) → 1 ≤ length words → (get_or words 0 d).now ≡ codes "maxopen"
    → form_of head (texts words) array ≡ set_line MaxOpen (texts (take (length words - 1) (drop 1 words))) array
form_of_maxopen head [] array d some is = absurd (omega arith)
form_of_maxopen head (first ∷ words) array d some is =
    let all : take (length (first ∷ words) - 1) words ≡ words = take_all _ words (omega arith) in
    rw (all, is) refl

pub form_of_maxidle : (head : Head) (words : List (Bor (List ℕ))) (array : Option (List ℕ)) (d : Bor (List ℕ)) → 1 ≤ length words → (get_or words 0 d).now ≡ codes "maxidle"
    → form_of head (texts words) array ≡ set_line MaxIdle (texts (take (length words - 1) (drop 1 words))) array
form_of_maxidle head [] array d some is = absurd (omega arith)
form_of_maxidle head (first ∷ words) array d some is =
    let all : take (length (first ∷ words) - 1) words ≡ words = take_all _ words (omega arith) in
    rw (all, is) refl

pub form_of_maxlife : (head : Head) (words : List (Bor (List ℕ))) (array : Option (List ℕ)) (d : Bor (List ℕ)) → 1 ≤ length words → (get_or words 0 d).now ≡ codes "maxlife"
    → form_of head (texts words) array ≡ set_line MaxLife (texts (take (length words - 1) (drop 1 words))) array
form_of_maxlife head [] array d some is = absurd (omega arith)
form_of_maxlife head (first ∷ words) array d some is =
    let all : take (length (first ∷ words) - 1) words ≡ words = take_all _ words (omega arith) in
    rw (all, is) refl

pub form_of_maxidletime : (head : Head) (words : List (Bor (List ℕ))) (array : Option (List ℕ)) (d : Bor (List ℕ)) → 1 ≤ length words → (get_or words 0 d).now ≡ codes "maxidletime"
    → form_of head (texts words) array ≡ set_line MaxIdleTime (texts (take (length words - 1) (drop 1 words))) array
form_of_maxidletime head [] array d some is = absurd (omega arith)
form_of_maxidletime head (first ∷ words) array d some is =
    let all : take (length (first ∷ words) - 1) words ≡ words = take_all _ words (omega arith) in
    rw (all, is) refl

pub form_of_tick : (head : Head) (words : List (Bor (List ℕ))) (array : Option (List ℕ)) (d : Bor (List ℕ)) → 1 ≤ length words → (get_or words 0 d).now ≡ codes "tick"
    → form_of head (texts words) array ≡ tick_line (texts (take (length words - 1) (drop 1 words))) array
form_of_tick head [] array d some is = absurd (omega arith)
form_of_tick head (first ∷ words) array d some is =
    let all : take (length (first ∷ words) - 1) words ≡ words = take_all _ words (omega arith) in
    rw (all, is) refl

pub form_of_fault : (head : Head) (words : List (Bor (List ℕ))) (array : Option (List ℕ)) (d : Bor (List ℕ)) → 1 ≤ length words → (get_or words 0 d).now ≡ codes "fault"
    → form_of head (texts words) array ≡ plan_line (texts (take (length words - 1) (drop 1 words))) array
form_of_fault head [] array d some is = absurd (omega arith)
form_of_fault head (first ∷ words) array d some is =
    let all : take (length (first ∷ words) - 1) words ≡ words = take_all _ words (omega arith) in
    rw (all, is) refl

pub form_of_step : (head : Head) (words : List (Bor (List ℕ))) (array : Option (List ℕ)) (d : Bor (List ℕ)) → 1 ≤ length words → (get_or words 0 d).now ≡ codes "step"
    → form_of head (texts words) array ≡ step_line (texts (take (length words - 1) (drop 1 words))) array
form_of_step head [] array d some is = absurd (omega arith)
form_of_step head (first ∷ words) array d some is =
    let all : take (length (first ∷ words) - 1) words ≡ words = take_all _ words (omega arith) in
    rw (all, is) refl

-- A line whose first word begins no other form is a client's line.
pub form_of_client : (head : Head) (words : List (Bor (List ℕ))) (array : Option (List ℕ)) (d : Bor (List ℕ)) → 1 ≤ length words
    → (get_or words 0 d).now ≢ codes "version" → (get_or words 0 d).now ≢ codes "caps"
    → (get_or words 0 d).now ≢ codes "maxopen" → (get_or words 0 d).now ≢ codes "maxidle"
    → (get_or words 0 d).now ≢ codes "maxlife" → (get_or words 0 d).now ≢ codes "maxidletime" → (get_or words 0 d).now ≢ codes "tick" → (get_or words 0 d).now ≢ codes "fault"
    → (get_or words 0 d).now ≢ codes "start" → (get_or words 0 d).now ≢ codes "step"
    → form_of head (texts words) array ≡ client_line false (get_or words 0 d).now (texts (take (length words - 1) (drop 1 words))) array
form_of_client head [] array d some version caps maxopen maxidle maxlife maxidletime tick fault start step = absurd (omega arith)
form_of_client head (first ∷ words) array d some version caps maxopen maxidle maxlife maxidletime tick fault start step =
    let all : take (length (first ∷ words) - 1) words ≡ words = take_all _ words (omega arith) in
    rw (all, other_word first.now (codes "version") version, other_word first.now (codes "caps") caps, other_word first.now (codes "maxopen") maxopen, other_word first.now (codes "maxidle") maxidle, other_word first.now (codes "maxlife") maxlife, other_word first.now (codes "maxidletime") maxidletime, other_word first.now (codes "tick") tick, other_word first.now (codes "fault") fault, other_word first.now (codes "start") start, other_word first.now (codes "step") step) refl

-- A plan of fewer or more than three words is refused.
pub plan_line_of_others : (words : List (Bor (List ℕ))) (array : Option (List ℕ)) → length words ≢ 3 → plan_line (texts words) array ≡ Err BadShape
plan_line_of_others [] array other = refl
plan_line_of_others (conn ∷ []) array other = refl
plan_line_of_others (conn ∷ nth ∷ []) array other = refl
plan_line_of_others (conn ∷ nth ∷ what ∷ []) array other = absurd (other refl)
plan_line_of_others (conn ∷ nth ∷ what ∷ more ∷ words) array other = refl
