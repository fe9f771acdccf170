-- The lines of a script that were played. The argument keeps what was carried out so far from line to line, and
-- closes it at each way in which the lines can stop.
use Rattle.std.proofs.Common.{◌≡◌, ℕ, ◌+◌, Bool, true, false, List, [], ◌∷◌, ◌++◌, length, Option, Some, None, refl, ap, sym, subst, ◌∙◌, append_assoc, arith, inl, inr}
use Rattle.std.specs.Prelude.{reverse, is_some, IfErr, IfOk, IfSome, Result, Ok, Err}
use Rattle.dsql_hall.specs.driver.declared.caps.Caps.{Caps}
use Rattle.dsql_hall.specs.driver.Wires.{FleetTold}
use Rattle.dsql_hall.specs.history.declared.event.Event.{Event}
use Rattle.dsql_hall.specs.history.declared.event.Event.TheVariants.{Run}
use Rattle.dsql_hall.specs.follows.declared.line.Line.{Line}
use Rattle.dsql_hall.specs.follows.Moments.{Moment, just_begun}
use Rattle.dsql_hall.specs.follows.Sentences.{Part}
use Rattle.dsql_hall.specs.follows.Follows.{after, told}
use Rattle.dsql_hall.specs.player.Carried.{Carries, StopsInLine, part}
use Rattle.dsql_hall.specs.wire.Journaled.{Journaled}
use Rattle.dsql_hall.specs.player_wires.Made.{Made}
use Rattle.dsql_hall.specs.player_wires.Stopped.{NoSurplus, RecordsAtMost, wants_of, with_answer}
use Rattle.dsql_hall.specs.player_wires.WiresFit.{WiresFit}
use Rattle.dsql_hall.specs.player.Planned.{plans_made, plans_of}
use Rattle.dsql_hall.specs.player.Playing.{Playing, IsAt}
use Rattle.dsql_script_reader.specs.declared.script.ScriptLine.{ScriptLine}
use Rattle.dsql_script_report.specs.Lines.{text_of}
use Rattle.dsql_script_show.specs.Report.{StopsBetween, oldest}
use Rattle.dsql_script_source.specs.Plays.{Plays, saying}
use Rattle.dsql_script_source.specs.Position.{Position}
use Rattle.dsql_script_source.specs.Reading.{HasRead, IsBodyLine, ReadTo, came, is_body}
use Rattle.dsql_script_source.specs.Script.{line_as_played}
use Rattle.dsql_script_source.specs.Stops.{IsReadStop}
use Rattle.dsql_script_source.specs.declared.stop.Stop.{Stop}
use Rattle.dsql_script_source.specs.declared.stop.Stop.TheVariants.{Read, Write, Refused}
use Rattle.dsql_run_outcome.specs.Followed.{FollowsSoFar}
use Rattle.dsql_run_outcome.specs.Lent.{Lent, StopsTelling, TellsOf, later}
use Rattle.dsql_run_outcome.specs.Runs.{IsLinesEnd, IsPlayStop, is_write_fault, ran_out}
use Rattle.dsql_run_outcome.specs.Playing.{HasHead, LinesPlayed}
use Rattle.dsql_run_outcome.proofs.Following.{begun_at, begun_follows, blank, blank_is_skipped, line_follows, line_stops_planning, rest_planning, skipped_plans, told_blank}
use Rattle.dsql_run_outcome.proofs.Saying.{carried_out, first_plays, line_stops, read_first}

-- The lines that were carried out so far, what was read after them, and what the fleet and the wires record.
pub record LinesSoFar {W : Type 0} (read : Result (Option ScriptLine) Stop) (before : Option (List ℕ)) (reader : Position) (left : Option (List ℕ)) (asked : Option Caps) (run : Event) (player : Playing) (lent : Lent W) : Type 0 where
  pub lines : List Line
  pub parts : List Part
  pub reads : ReadTo read before reader left (saying asked lines)
  pub counted : length lines + came read ≡ reader.reader.lines
  pub follows : FollowsSoFar run lines parts player.past
  pub at : IsAt (after run parts) player
  pub told : TellsOf lent (plans_made run parts) player.past

-- Before the first line, only the skipped lines were carried out.
none_so_far : {W : Type 0} (first : Result (Option ScriptLine) Stop) (before : Option (List ℕ)) (reader : Position) (left : Option (List ℕ)) (asked : Option Caps) (skipped : List Line) (caps : Caps) (p : Playing) (lent : Lent W)
    → p.past ≡ Run 1 caps ∷ [] → IsAt (just_begun (Run 1 caps)) p → TellsOf lent [] p.past → HasHead first before reader left asked skipped → LinesSoFar first before reader left asked (Run 1 caps) p lent
none_so_far first before reader left asked skipped caps p lent begun at tells h = record {
  lines = skipped;
  parts = blank (reverse skipped);
  reads = h.reads;
  counted = h.counted;
  follows = begun_follows caps skipped p.past h.silent begun;
  at = begun_at caps skipped p h.silent at;
  told = subst (λ made. TellsOf lent made p.past) (sym (skipped_plans (Run 1 caps) skipped h.silent)) tells;
}

pub first_so_far : {W : Type 0} (first : Result (Option ScriptLine) Stop) (next : Option ScriptLine) (before : Option (List ℕ)) (reader : Position) (left : Option (List ℕ)) (asked : Option Caps) (skipped : List Line) (caps : Caps) (p : Playing)
    (lent : Lent W) → first ≡ Ok next
    → p.past ≡ Run 1 caps ∷ [] → IsAt (just_begun (Run 1 caps)) p → TellsOf lent [] p.past → HasHead first before reader left asked skipped → LinesSoFar (Ok next) before reader left asked (Run 1 caps) p lent
first_so_far first next before reader left asked skipped caps p lent is begun at tells h =
    subst (λ read. LinesSoFar read before reader left asked (Run 1 caps) p lent) is (none_so_far first before reader left asked skipped caps p lent begun at tells h)

-- After one more line the fleet and the wires record its plans and its events.
line_told : {W : Type 0} (run : Event) (parts : List Part) (line : Line) (old new : Playing) (lent now : Lent W) (events : List Event) → old.past ≡ told run parts
    → ((made : List Made) → TellsOf lent made old.past → TellsOf now (plans_of line old.past ++ made) new.past) → TellsOf lent (plans_made run parts) old.past
    → TellsOf now (plans_made run (part line events ∷ parts)) new.past
line_told run parts line old new lent now events is tells held =
    subst (λ past. TellsOf now (plans_of line past ++ plans_made run parts) new.past) is (tells (plans_made run parts) held)

-- If a line was carried out and this was read after it, one more line is carried out so far.
pub line_so_far : {W : Type 0} (next : Option ScriptLine) (read : Result (Option ScriptLine) Stop) (before : Option (List ℕ)) (reader place : Position) (left rest : Option (List ℕ)) (asked : Option Caps) (run : Event) (line : ScriptLine)
    (old new : Playing) (lent now : Lent W) → next ≡ Some line → is_body line ≡ true → LinesSoFar (Ok next) before reader left asked run old lent → ((m : Moment) → IsAt m old → Carries m (line_as_played line) old new)
    → ((made : List Made) → TellsOf lent made old.past → TellsOf now (plans_of (line_as_played line) old.past ++ made) new.past)
    → ((lines : List Line) → HasRead before reader left (saying asked lines) → ReadTo read before place rest (saying asked lines))
    → ((lines : List Line) → HasRead before reader left (saying asked lines) → length lines + came read ≡ place.reader.lines) → LinesSoFar read before place rest asked run new now
line_so_far next read before reader place left rest asked run line old new lent now is body f carries tells reads counts =
    let c = carries (after run f.parts) f.at in
    let longer = f.lines ++ line_as_played line ∷ [] in
    let had = carried_out before reader left asked f.lines line body (subst (λ n. ReadTo (Ok n) before reader left (saying asked f.lines)) is f.reads) in
    record {
      lines = longer;
      parts = part (line_as_played line) c.events ∷ f.parts;
      reads = reads longer had;
      counted = counts longer had;
      follows = line_follows run f.lines f.parts (line_as_played line) old new f.follows c;
      at = c.at;
      told = line_told run f.parts (line_as_played line) old new lent now c.events f.follows.is tells f.told;
    }

-- No stop of a line is an end of the lines.
pub play_ends_none : (stop : Stop) → IsPlayStop stop → IsLinesEnd (Err stop) → ⊥
play_ends_none Read kind over = kind
play_ends_none (Refused number fault) kind over = kind
play_ends_none _ kind over = over

-- The ways in which the lines come to an end.

-- If the run stopped between two lines, the fleet and the wires recorded exactly what it had done.
rest_telling : {W : Type 0} (caps : Caps) (lines : List Line) (parts : List Part) (past : List Event) (lent : Lent W) → FollowsSoFar (Run 1 caps) lines parts past → TellsOf lent (plans_made (Run 1 caps) parts) past
    → WiresFit lent.heard (is_some lent.now) past lent.slots → StopsTelling (Run 1 caps) lines past lent
rest_telling caps lines parts past lent f tells fit = record {
  made = plans_made (Run 1 caps) parts;
  stops = rest_planning caps lines parts past f;
  surplus = NoSurplus;
  may = tt;
  tells = tells;
  wires = fit;
}

-- If the reader stops after these lines or comes to the script's end, these lines were played.
pub lines_end : {W : Type 0} (r : Result (Unit {0}) Stop) (read : Result (Option ScriptLine) Stop) (before : Option (List ℕ)) (reader : Position) (left : Option (List ℕ)) (asked : Option Caps) (caps : Caps) (p : Playing) (w now : Option (List ℕ))
    (lent : Lent W) → (f : LinesSoFar read before reader left asked (Run 1 caps) p lent) → Plays r before left (saying asked f.lines) → (r ≡ Ok tt → IfSome left (λ bytes. bytes ≡ [])) → is_write_fault r ≡ false
    → came read ≡ 0 → WiresFit lent.heard (is_some lent.now) p.past lent.slots → LinesPlayed r before left reader.reader.lines asked (Run 1 caps) p w now lent
lines_end r read before reader left asked caps p w now lent f plays end unfailed none fit = record {
  lines = f.lines;
  parts = f.parts;
  counted = λ over. let counted = f.counted in omega (arith, counted, none);
  plays = plays;
  read = end;
  follows = λ ran. f.follows;
  at = λ ran. f.at;
  told = λ ran. f.told;
  short = λ out. rest_telling caps f.lines f.parts p.past lent f.follows f.told fit;
  cut = λ failed. absurd (cc (sym (ap is_write_fault failed) ∙ unfailed));
}

not_written : (stop : Stop) → IsReadStop stop → is_write_fault (Err stop) ≡ false
not_written Write kind = absurd kind
not_written _ kind = refl

-- If no further line could be read, the lines before were played.
pub read_ends : {W : Type 0} (stop : Stop) (before : Option (List ℕ)) (reader : Position) (left : Option (List ℕ)) (asked : Option Caps) (caps : Caps) (p : Playing) (w now : Option (List ℕ)) (lent : Lent W) → IsReadStop stop
    → LinesSoFar (Err stop) before reader left asked (Run 1 caps) p lent → WiresFit lent.heard (is_some lent.now) p.past lent.slots
    → LinesPlayed (Err stop) before left reader.reader.lines asked (Run 1 caps) p w now lent
read_ends stop before reader left asked caps p w now lent kind f fit =
    lines_end (Err stop) (Err stop) before reader left asked caps p w now lent f f.reads (λ is. absurd (cc is)) (not_written stop kind) refl fit

-- If the first line couldn't be read, the skipped lines were played.
pub first_ends : {W : Type 0} (first : Result (Option ScriptLine) Stop) (stop : Stop) (before : Option (List ℕ)) (reader : Position) (left : Option (List ℕ)) (asked : Option Caps) (skipped : List Line) (caps : Caps) (p : Playing)
    (w now : Option (List ℕ)) (lent : Lent W) → first ≡ Err stop → IfErr first IsReadStop → p.past ≡ Run 1 caps ∷ [] → IsAt (just_begun (Run 1 caps)) p → TellsOf lent [] p.past → HasHead first before reader left asked skipped
    → WiresFit lent.heard (is_some lent.now) p.past lent.slots → LinesPlayed (Err stop) before left reader.reader.lines asked (Run 1 caps) p w now lent
first_ends first stop before reader left asked skipped caps p w now lent is kind begun at tells h fit =
    read_ends stop before reader left asked caps p w now lent (subst (λ read. IfErr read IsReadStop) is kind)
    (subst (λ read. LinesSoFar read before reader left asked (Run 1 caps) p lent) is (none_so_far first before reader left asked skipped caps p lent begun at tells h)) fit

-- If the script's end was read, all its lines were played.
pub script_ends : {W : Type 0} (next : Option ScriptLine) (before : Option (List ℕ)) (reader : Position) (left : Option (List ℕ)) (asked : Option Caps) (caps : Caps) (p : Playing) (w now : Option (List ℕ)) (lent : Lent W) → next ≡ None
    → LinesSoFar (Ok next) before reader left asked (Run 1 caps) p lent → WiresFit lent.heard (is_some lent.now) p.past lent.slots → LinesPlayed (Ok tt) before left reader.reader.lines asked (Run 1 caps) p w now lent
script_ends next before reader left asked caps p w now lent is f fit =
    let read : Plays (Ok tt) before left (saying asked f.lines) × IfSome left (λ bytes. bytes ≡ []) = subst (λ n. ReadTo (Ok n) before reader left (saying asked f.lines)) is f.reads in
    lines_end (Ok tt) (Ok next) before reader left asked caps p w now lent f read.0 (λ done. read.1) refl (ap (λ (n : Option ScriptLine). came (Ok n)) is) fit

-- Nothing was written before the run's first event.
pub first_cut : (w now : Option (List ℕ)) (n : ℕ) (past : List Event) (caps : Caps) → n ≡ 0 → past ≡ Run 1 caps ∷ [] → StopsBetween w (text_of (oldest n past)) (text_of past) now → StopsBetween w [] (text_of (Run 1 caps ∷ [])) now
first_cut w now n past caps none begun stops =
    subst (λ h. StopsBetween w [] (text_of h) now) begun (subst (λ k. StopsBetween w (text_of (oldest k past)) (text_of past) now) none stops)

-- If the run's first event couldn't be shown, only the skipped lines were played.
pub first_stops : {W : Type 0} (stop : Stop) (first : Result (Option ScriptLine) Stop) (before : Option (List ℕ)) (reader : Position) (left rest : Option (List ℕ)) (k : ℕ) (asked : Option Caps) (skipped : List Line) (caps : Caps) (p : Playing)
    (w now : Option (List ℕ)) (lent : Lent W) → IsPlayStop stop → IfOk first IsBodyLine → p.past ≡ Run 1 caps ∷ [] → IsAt (just_begun (Run 1 caps)) p → TellsOf lent [] p.past → HasHead first before reader left asked skipped
    → StopsBetween w [] (text_of (Run 1 caps ∷ [])) now → WiresFit lent.heard (is_some lent.now) p.past lent.slots → LinesPlayed (Err stop) before rest k asked (Run 1 caps) p w now lent
first_stops stop first before reader left rest k asked skipped caps p w now lent kind body begun at tells h stops fit =
    let follows = begun_follows caps skipped p.past h.silent begun in
    let told = subst (λ made. TellsOf lent made p.past) (sym (skipped_plans (Run 1 caps) skipped h.silent)) tells in
    record {
      lines = skipped;
      parts = blank (reverse skipped);
      counted = λ over. absurd (play_ends_none stop kind over);
      plays = first_plays false stop before rest (saying asked skipped) kind (read_first first before reader left asked skipped body h.reads);
      read = λ is. absurd (cc is);
      follows = λ ran. follows;
      at = λ ran. begun_at caps skipped p h.silent at;
      told = λ ran. told;
      short = λ out. rest_telling caps skipped (blank (reverse skipped)) p.past lent follows told fit;
      cut = λ is. inr (record { begun = told_blank (Run 1 caps) (reverse skipped); skipped = blank_is_skipped skipped h.silent; written = stops });
    }

-- If the run stopped in a line, the fleet and the wires recorded it up to then, and at most one answer or want more.
stops_telling : {W : Type 0} (run : Event) (lines : List Line) (parts : List Part) (line : Line) (old new : List Event) (lent : Lent W) (now : Option FleetTold) (slots : List (Option (Journaled W))) → FollowsSoFar run lines parts old
    → TellsOf lent (plans_made run parts) old → StopsInLine (after run parts) line old new → RecordsAtMost lent.heard (plans_of line old) lent.now now old new lent.slots slots
    → StopsTelling run (lines ++ line ∷ []) new (later lent now slots)
stops_telling run lines parts line old new lent now slots f tells stops asked =
    let wants : List Made = wants_of asked.surplus in
    let before : List Made = plans_made run parts in
    record {
      made = asked.planned ++ before;
      stops = line_stops_planning run lines parts line old new asked.surplus asked.planned f stops asked.which;
      surplus = asked.surplus;
      may = asked.may;
      tells = subst (λ (made : List Made). TellsOf (later lent now slots) made (with_answer asked.surplus new)) (append_assoc wants asked.planned before)
          (asked.tells.told before lent.first tells);
      wires = asked.wires;
    }

-- If a line couldn't be carried out or shown, it is the last line that was played.
pub line_ends : {W : Type 0} (stop : Stop) (next : Option ScriptLine) (before : Option (List ℕ)) (reader : Position) (left rest : Option (List ℕ)) (k : ℕ) (asked : Option Caps) (run : Event) (line : ScriptLine) (old new : Playing)
    (w written : Option (List ℕ)) (lent : Lent W) (records : Option FleetTold) (slots : List (Option (Journaled W))) → IsPlayStop stop → next ≡ Some line → is_body line ≡ true → LinesSoFar (Ok next) before reader left asked run old lent
    → (ran_out (Err stop) ≡ true → (m : Moment) → IsAt m old → Carries m (line_as_played line) old new) → (ran_out (Err stop) ≡ false → (m : Moment) → IsAt m old → StopsInLine m (line_as_played line) old.past new.past)
    → (ran_out (Err stop) ≡ true → (made : List Made) → TellsOf lent made old.past → TellsOf (later lent records slots) (plans_of (line_as_played line) old.past ++ made) new.past)
    → RecordsAtMost lent.heard (plans_of (line_as_played line) old.past) lent.now records old.past new.past lent.slots slots
    → (is_write_fault (Err stop) ≡ true → StopsBetween w (text_of old.past) (text_of new.past) written) → LinesPlayed (Err stop) before rest k asked run new w written (later lent records slots)
line_ends {W} stop next before reader left rest k asked run line old new w written lent records slots kind is body f carries stops tells asks cut = by (ran_out (Err stop)) refl
  where
    its : Line
    its = line_as_played line

    plays : Plays (Err stop) before rest (saying asked (f.lines ++ its ∷ []))
    plays = line_stops stop before reader left rest asked f.lines line kind body (subst (λ n. ReadTo (Ok n) before reader left (saying asked f.lines)) is f.reads)

    by : (b : Bool) → ran_out (Err stop) ≡ b → LinesPlayed (Err stop) before rest k asked run new w written (later lent records slots)
    by true ran =
        let c = carries ran (after run f.parts) f.at in
        let follows = line_follows run f.lines f.parts its old new f.follows c in
        record {
          lines = f.lines ++ its ∷ [];
          parts = part its c.events ∷ f.parts;
          counted = λ over. absurd (play_ends_none stop kind over);
          plays = plays;
          read = λ done. absurd (cc done);
          follows = λ _. follows;
          at = λ _. c.at;
          told = λ _. line_told run f.parts its old new lent (later lent records slots) c.events f.follows.is (tells ran) f.told;
          short = λ out. absurd (cc (sym ran ∙ out));
          cut = λ failed. inl (record {
            part = part its c.events;
            earlier = f.parts;
            are = refl;
            written = subst (λ past. StopsBetween w (text_of past) (text_of (told run (part its c.events ∷ f.parts))) written) f.follows.is
                (subst (λ past. StopsBetween w (text_of old.past) (text_of past) written) follows.is (cut (ap is_write_fault failed)));
          });
        }
    by false out =
        record {
          lines = f.lines ++ its ∷ [];
          parts = f.parts;
          counted = λ over. absurd (play_ends_none stop kind over);
          plays = plays;
          read = λ done. absurd (cc done);
          follows = λ ran. absurd (cc (sym ran ∙ out));
          at = λ ran. absurd (cc (sym ran ∙ out));
          told = λ ran. absurd (cc (sym ran ∙ out));
          short = λ _. stops_telling run f.lines f.parts its old.past new.past lent records slots f.follows f.told (stops out (after run f.parts) f.at) asks;
          cut = λ failed. absurd (cc (sym (ap ran_out failed) ∙ out));
        }
