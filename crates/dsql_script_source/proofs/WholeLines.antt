-- The lines that a run has read whole: the proofs follow these lines by induction as the run goes on.
use Rattle.std.proofs.Common.{◌≡◌, ◌⊎◌, inl, inr, ℕ, ◌+◌, Bool, true, false, List, [], ◌∷◌, ◌++◌, Option, Some, None, refl, sym, ap, ◌∙◌, append_assoc}
use Rattle.std.specs.Prelude.{IfSome, Ok, Err, option_map}
use Rattle.std.proofs.lemmas.Option.{same_Some}
use Rattle.dsql_driver_stream.specs.Lines.{ended_lines, all_lines, ahead, TakesOff}
use Rattle.dsql_driver_stream.proofs.FirstLines.{Feedless}
use Rattle.dsql_driver_stream.proofs.EndedLines.{ended_lines-feed, ended_lines-feedless, first_of_ended}
use Rattle.dsql_script_reader.specs.declared.script.ScriptLine.{ScriptLine}
use Rattle.dsql_script_reader.specs.declared.script.ScriptLine.TheVariants.{Skip, Version}
use Rattle.dsql_script_reader.specs.declared.script.Head.TheVariants.{Begun}
use Rattle.dsql_script_reader.specs.ScriptHead.{Progress, unread_by, after}
use Rattle.dsql_script_reader.specs.ScriptLines.{Reading, read_of}
use Rattle.dsql_script_source.specs.Script.{Script, Said, nothing, said_of, then, script_by, script_from, whole, with_line, with_said, is_silent, BeginsSaying}
use Rattle.dsql_script_source.specs.Plays.{ReadsUpToBy}
use Rattle.dsql_script_source.specs.Reading.{with_feeds, AllFeedless, TakesLine, DropsUnfinished, is_body, after_lines, after_reading, LinesRead, ReadSoFar}
use Rattle.dsql_script_source.proofs.Saying.{then-nothing, with_both, with_nothing, body_asks_none, silent_then}
use Rattle.dsql_script_source.proofs.Body.{body_lines, stays_begun}

with_feeds-append : (lines : List (List ℕ)) (line : List ℕ) → with_feeds (lines ++ line ∷ []) ≡ with_feeds lines ++ (line ++ 10 ∷ [])
with_feeds-append [] line = refl
with_feeds-append (first ∷ lines) line = ap (λ bytes. first ++ 10 ∷ bytes) (with_feeds-append lines line) ∙ sym (append_assoc first (10 ∷ with_feeds lines) (line ++ 10 ∷ []))

feedless-append : (lines : List (List ℕ)) (line : List ℕ) → AllFeedless lines → Feedless line → AllFeedless (lines ++ line ∷ [])
feedless-append [] line all one = (one, tt)
feedless-append (first ∷ lines) line all one = (all.0, feedless-append lines line all.1 one)

-- The bytes after the last line feed end no line.
ended_lines-with_feeds : (lines : List (List ℕ)) (unfinished : List ℕ) → AllFeedless lines → Feedless unfinished → ended_lines (with_feeds lines ++ unfinished) ≡ lines
ended_lines-with_feeds [] unfinished all none = ended_lines-feedless unfinished none
ended_lines-with_feeds (line ∷ lines) unfinished all none =
    rw (append_assoc line (10 ∷ with_feeds lines) unfinished)
    (ended_lines-feed line (with_feeds lines ++ unfinished) all.0 ∙ ap (λ more. line ∷ more) (ended_lines-with_feeds lines unfinished all.1 none))

-- Holds if the first line is accepted, and so are the lines after it.
record FirstTaken (reading : Reading) (rest : ScriptLine → Script) (says : Said) : Type 0 where
  line : ScriptLine
  is : reading ≡ Ok line
  others : rest line ≡ whole (rest line).says
  all : then (said_of line) (rest line).says ≡ says

first_taken : (number : ℕ) (reading : Reading) (rest : ScriptLine → Script) (says : Said) → with_line number reading rest ≡ whole says → FirstTaken reading rest says
first_taken number (Ok line) rest says is = record {
  line = line;
  is = refl;
  others = ap (λ r. record { says = (rest line).says; refused = r }) (ap (λ (s : Script). s.refused) is);
  all = ap (λ (s : Script). s.says) is;
}
first_taken number (Err fault) rest says is = absurd (cc (ap (λ (s : Script). s.refused) is))

-- A script whose first lines are all accepted says what these lines say, followed by what the other lines say.
pub script_from-append : (p : Progress) (lines more : List (List ℕ)) (says : Said) → script_from p lines ≡ whole says
    → script_from p (lines ++ more) ≡ with_said says (script_from (after_lines p lines) more)
script_from-append p [] more says is = let none : nothing ≡ says = ap (λ (s : Script). s.says) is in rw (← none) (sym (with_nothing (script_from p more)))
script_from-append p (line ∷ lines) more says is =
    let first = first_taken (p.lines + 1) (read_of p line) (λ next. script_from (after p next) lines) says is in
    let next = after p first.line in
    let rest = script_from-append next lines more (script_from next lines).says first.others in
    ap (λ reading. with_line (p.lines + 1) reading (λ one. script_from (after p one) (lines ++ more))) first.is
    ∙ (ap (with_said (said_of first.line)) rest
    ∙ (with_both (said_of first.line) (script_from next lines).says (script_from (after_lines next lines) more)
    ∙ (ap (λ said. with_said said (script_from (after_lines next lines) more)) first.all
    ∙ ap (λ reading. with_said says (script_from (after_reading p reading (λ one. after_lines one lines)) more)) (sym first.is))))

-- A script of one accepted line says what that line says.
one_line : (p : Progress) (line : List ℕ) (says : ScriptLine) → read_of p line ≡ Ok says → script_from p (line ∷ []) ≡ whole (said_of says)
one_line p line says reads = rw reads (ap whole (then-nothing (said_of says)))

-- One more accepted line moves the position in the script by that line.
after_lines-append : (p : Progress) (lines : List (List ℕ)) (line : List ℕ) (says : Said) (one : ScriptLine) → script_from p lines ≡ whole says → read_of (after_lines p lines) line ≡ Ok one
    → after_lines p (lines ++ line ∷ []) ≡ after (after_lines p lines) one
after_lines-append p [] line says one is reads = rw reads refl
after_lines-append p (first ∷ lines) line says one is reads =
    let taken = first_taken (p.lines + 1) (read_of p first) (λ next. script_from (after p next) lines) says is in
    let next = after p taken.line in
    let reads_next : read_of (after_lines next lines) line ≡ Ok one = rw taken.is at reads in
    rw taken.is (after_lines-append next lines line (script_from next lines).says one taken.others reads_next)

one_more_line : (race : Bool) (bytes rest next line : List ℕ) (place : Progress) (one : ScriptLine) (says : Said) → LinesRead race bytes rest place says → Feedless line → rest ≡ (line ++ 10 ∷ []) ++ next → read_of place line ≡ Ok one
    → LinesRead race bytes next (after place one) (then says (said_of one))
one_more_line race bytes rest next line place one says r feedless taken reads =
    let reads_here : read_of (after_lines (unread_by race) r.lines) line ≡ Ok one = rw r.placed at reads in
    record {
      lines = r.lines ++ line ∷ [];
      feedless = feedless-append r.lines line r.feedless feedless;
      parts = r.parts ∙ rw (taken, with_feeds-append r.lines line) (sym (append_assoc (with_feeds r.lines) (line ++ 10 ∷ []) next));
      are = script_from-append (unread_by race) r.lines (line ∷ []) says r.are ∙ ap (with_said says) (one_line (after_lines (unread_by race) r.lines) line one reads_here);
      placed = rw r.placed (sym (after_lines-append (unread_by race) r.lines line says one r.are reads_here));
    }

line_taken : (race : Bool) (before old new : Option (List ℕ)) (line : List ℕ) (place : Progress) (one : ScriptLine) (says : Said) → ReadSoFar race false before old place says → TakesLine place line one old new → ReadSoFar race false before new (after place one) (then says (said_of one))
line_taken race None old new line place one says r t = tt
line_taken race (Some bytes) None new line place one says r t = absurd r
line_taken race (Some bytes) (Some rest) None line place one says r t = absurd (cc t.taken)
line_taken race (Some bytes) (Some rest) (Some next) line place one says r t = one_more_line race bytes rest next line place one says r t.feedless (same_Some _ _ t.taken) t.is

-- After one more line was taken out, the lines read so far are still whole lines of the script, none of them
-- refused.
pub reads_line : (race was is : Bool) (before old new : Option (List ℕ)) (line : List ℕ) (place now : Progress) (one : ScriptLine) (says : Said) → (was ≡ true → is ≡ true) → ReadSoFar race was before old place says
    → (is ≡ false → TakesLine place line one old new) → now ≡ after place one → ReadSoFar race is before new now (then says (said_of one))
reads_line race was true before old new line place now one says stays r taken placed = tt
reads_line race true false before old new line place now one says stays r taken placed = absurd (cc (stays refl))
reads_line race false false before old new line place now one says stays r taken placed = rw placed (line_taken race before old new line place one says r (taken refl))

-- If the source fails in an unfinished line, the bytes read are the whole lines and the part of that line.
read_up_to : (race : Bool) (bytes rest unfinished next : List ℕ) (n : Progress) (says : Said) → LinesRead race bytes rest n says → Feedless unfinished → rest ≡ unfinished ++ next → ReadsUpToBy race bytes (Some next) says
read_up_to race bytes rest unfinished next n says r feedless taken = record {
  read = with_feeds r.lines ++ unfinished;
  rest = next;
  left = refl;
  parts = r.parts ∙ rw taken (sym (append_assoc (with_feeds r.lines) unfinished next));
  lines = rw (ended_lines-with_feeds r.lines unfinished r.feedless feedless) r.are;
}

stops_unended : (race : Bool) (before old left : Option (List ℕ)) (line : List ℕ) (n : Progress) (calls : Said) → ReadSoFar race false before old n calls → Feedless line → TakesOff line old left → IfSome before (λ bytes. ReadsUpToBy race bytes left calls)
stops_unended race None old left line n calls r feedless taken = tt
stops_unended race (Some bytes) None left line n calls r feedless taken = absurd r
stops_unended race (Some bytes) (Some rest) None line n calls r feedless taken = absurd (cc taken)
stops_unended race (Some bytes) (Some rest) (Some next) line n calls r feedless taken = read_up_to race bytes rest line next n calls r feedless (same_Some _ _ taken)

pub reads_up_to : (race ended : Bool) (before old left : Option (List ℕ)) (line : List ℕ) (n : Progress) (calls : Said) → ReadSoFar race ended before old n calls → DropsUnfinished ended line old left → IfSome before (λ bytes. ReadsUpToBy race bytes left calls)
reads_up_to race true before old left line n calls r d = absurd (cc d.running)
reads_up_to race false before old left line n calls r d = stops_unended race before old left line n calls r d.feedless d.taken

script_parts : (race : Bool) (bytes read rest : List ℕ) (more : List (List ℕ)) (says : Said) → bytes ≡ read ++ rest → all_lines (read ++ rest) ≡ ended_lines read ++ more → script_from (unread_by race) (ended_lines read) ≡ whole says
    → script_by race bytes ≡ with_said says (script_from (after_lines (unread_by race) (ended_lines read)) more)
script_parts race bytes read rest more says parts lines are = ap (script_by race) parts ∙ ap (script_from (unread_by race)) lines ∙ script_from-append (unread_by race) (ended_lines read) more says are

-- After a line that ends the head of a script, no line asks for anything.

none_by_reading : (place : Progress) (line : List ℕ) (reading : Reading) (rest : ScriptLine → Script) → place.head ≡ Begun → read_of place line ≡ reading
    → ((says : ScriptLine) → (after place says).head ≡ Begun → (rest says).says.caps ≡ None) → (with_line (place.lines + 1) reading rest).says.caps ≡ None
none_by_reading place line (Ok says) rest begun is others =
    let body : is_body says ≡ true = body_lines place line says begun is in
    body_asks_none says (rest says).says body (others says (stays_begun place (after place says) says begun body refl))
none_by_reading place line (Err fault) rest begun is others = refl

pub none_asked : (place : Progress) (lines : List (List ℕ)) → place.head ≡ Begun → (script_from place lines).says.caps ≡ None
none_asked place [] begun = refl
none_asked place (line ∷ more) begun =
    none_by_reading place line (read_of place line) (λ says. script_from (after place says) more) begun refl (λ says next. none_asked (after place says) more next)

still_begun : (place : Progress) (lines : List (List ℕ)) (says : Said) → place.head ≡ Begun → script_from place lines ≡ whole says → (after_lines place lines).head ≡ Begun
still_begun place [] says begun is = begun
still_begun place (line ∷ lines) says begun is =
    let first = first_taken (place.lines + 1) (read_of place line) (λ next. script_from (after place next) lines) says is in
    let next = after place first.line in
    let body : is_body first.line ≡ true = body_lines place line first.line begun first.is in
    rw first.is (still_begun next lines (script_from next lines).says (stays_begun place next first.line begun body refl) first.others)

-- A line ends the head or is silent.
head_or_silent : (place : Progress) (line : ScriptLine) → (is_silent (said_of line) ≡ true) ⊎ ((after place line).head ≡ Begun)
head_or_silent place Skip = inl refl
head_or_silent place (Version version) = inl refl
head_or_silent place _ = inr refl

-- Lines that aren't all silent end the head.
pub head_ended : (place : Progress) (lines : List (List ℕ)) (says : Said) → script_from place lines ≡ whole says → (is_silent says ≡ true) ⊎ ((after_lines place lines).head ≡ Begun)
head_ended place [] says is = inl (ap (λ (s : Script). is_silent s.says) (sym is))
head_ended place (line ∷ lines) says is =
    let first = first_taken (place.lines + 1) (read_of place line) (λ next. script_from (after place next) lines) says is in
    let next = after place first.line in
    let rest : Said = (script_from next lines).says in
    elim (head_or_silent place first.line) [
      | inr begun ↦ inr (rw first.is (still_begun next lines rest begun first.others))
      | inl one ↦
          elim (head_ended next lines rest first.others) [
            | inl more ↦ inl (ap is_silent (sym first.all) ∙ silent_then (said_of first.line) rest one more)
            | inr h ↦ inr (rw first.is h)
          ]
    ]

asked_behind : (place : Progress) (lines : List (List ℕ)) (says : Said) → (is_silent says ≡ true) ⊎ (place.head ≡ Begun) → (is_silent says ≡ true) ⊎ ((script_from place lines).says.caps ≡ None)
asked_behind place lines says (inl e) = inl e
asked_behind place lines says (inr begun) = inr (none_asked place lines begun)

-- A script begins with what its lines that were read whole say.
pub first_of_read : {race : Bool} (bytes : List ℕ) (left : Option (List ℕ)) (says : Said) → ReadsUpToBy race bytes left says → BeginsSaying says (script_by race bytes).says
first_of_read {race} bytes left says r =
    let more = first_of_ended r.read r.rest in
    let place = after_lines (unread_by race) (ended_lines r.read) in
    record {
      rest = (script_from place more.0).says;
      parts = ap (λ (s : Script). s.says) (script_parts race bytes r.read r.rest more.0 says r.parts more.1 r.lines);
      asked = asked_behind place more.0 says (head_ended (unread_by race) (ended_lines r.read) says r.lines);
    }

-- After lines that aren't silent, the rest of a script asks for nothing.
pub none_to_come : (place : Progress) (ahead : Option (List (List ℕ))) (says : Said) → (is_silent says ≡ true) ⊎ (place.head ≡ Begun)
    → (is_silent says ≡ true) ⊎ IfSome (option_map (script_from place) ahead) (λ s. s.says.caps ≡ None)
none_to_come place ahead says (inl e) = inl e
none_to_come place None says (inr begun) = inr tt
none_to_come place (Some lines) says (inr begun) = inr (none_asked place lines begun)
