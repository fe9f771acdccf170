-- The run of a race ends last. The argument is that its end comes in its turn, and that nobody may go on then.
use Rattle.std.proofs.Common.{◌≡◌, ℕ, ◌==◌, Bool, true, false, not, ◌&&◌, ◌||◌, cond, List, [], ◌∷◌, ◌++◌, length, filter, is_none, reverse, refl, ap, sym, ◌∙◌}
use Rattle.std.specs.List.{list_all}
use Rattle.std.specs.Prelude.{Result, Ok, Err, OnOk, OnErr}
use Rattle.dsql_hall_steps.specs.journal.Readers.{is_empty}
use Rattle.dsql_hall_steps.specs.history.declared.event.Event.{Event}
use Rattle.dsql_hall_steps.specs.history.declared.event.Event.TheVariants.{Ended}
use Rattle.dsql_hall_steps.specs.history.Readers.Clients.{call_of, is_free}
use Rattle.dsql_hall_steps.specs.history.Readers.Course.{has_ended}
use Rattle.dsql_hall_steps.proofs.engine_laws.laws.Tests.{both, same_itself, together}
use Rattle.dsql_hall_steps.specs.follows.declared.line.Line.{Line}
use Rattle.dsql_hall_steps.specs.follows.Moments.{Moment, at_end, begins_step, is_held, kept, rested, walk}
use Rattle.dsql_hall_steps.specs.follows.Sentences.{come_in_turn, passed}
use Rattle.dsql_hall_steps.specs.follows.Turns.{can_move, clients, comes_in_turn, first_chore, has_run_out, least, may_go, next_client}
use Rattle.dsql_hall_steps.specs.player.declared.halt.Halt.{Halt}
use Rattle.dsql_hall_steps.specs.player.Carried.{CarriesEnd, StopsInEnd}
use Rattle.dsql_hall_steps.specs.player.Playing.{IsAt, Playing}
use Rattle.dsql_hall_steps.specs.Limits.{set_in, settings_of}
use Rattle.dsql_hall_steps.specs.Racing.{resting}
use Rattle.dsql_hall_steps.proofs.Ordered.{lines_after, past_after}
use Rattle.dsql_hall.specs.Raced.{ends_last, is_busy_or_done}
use Rattle.dsql_hall.proofs.Setting.{turns_set}

-- Before its end a history ends last.
pub not_ended : (lines : List Line) (past : List Event) → has_ended past ≡ false → ends_last lines past ≡ true
not_ended lines [] running = refl
not_ended lines (Ended ∷ past) running = absurd cc
not_ended lines (_ ∷ past) running = not_ended lines past running

-- If none of these may go on, each of them is busy or done.

stays : (m : Moment) (client : ℕ) → may_go m client ≡ false → is_busy_or_done m.lines m.past client ≡ true
stays m client idle = by (is_free m.past client) refl (is_empty (kept m client)) refl
  where
    moves : Bool
    moves = can_move m (call_of m.past client) && not (is_held m client)

    by : (free : Bool) → is_free m.past client ≡ free → (none : Bool) → is_empty (kept m client) ≡ none → is_busy_or_done m.lines m.past client ≡ true
    by true free true none = ap (λ b. not b || is_empty (kept m client)) free ∙ none
    by true free false none =
        let by_line : not (is_empty (kept m client)) ≡ may_go m client = ap (λ b. cond b (not (is_empty (kept m client))) moves) (sym free) in
        let clash : true ≡ false = ap not (sym none) ∙ (by_line ∙ idle) in
        absurd cc
    by false busy none is = ap (λ b. not b || is_empty (kept m client)) busy

one_stays : (m : Moment) (client : ℕ) (rest : List ℕ) (goes : Bool) → may_go m client ≡ goes → is_none (least (cond goes (client ∷ filter (may_go m) rest) (filter (may_go m) rest))) ≡ true
    → (is_none (least (filter (may_go m) rest)) ≡ true → list_all (is_busy_or_done m.lines m.past) rest ≡ true) → list_all (is_busy_or_done m.lines m.past) (client ∷ rest) ≡ true
one_stays m client rest true is none others = absurd cc
one_stays m client rest false is none others =
    together (is_busy_or_done m.lines m.past client) (list_all (is_busy_or_done m.lines m.past) rest) (stays m client is) (others none)

nobody : (m : Moment) (of : List ℕ) → is_none (least (filter (may_go m) of)) ≡ true → list_all (is_busy_or_done m.lines m.past) of ≡ true
nobody m [] none = refl
nobody m (client ∷ rest) none = one_stays m client rest (may_go m client) refl none (nobody m rest)

run_out_last : (m : Moment) → has_run_out m ≡ true → list_all (is_busy_or_done m.lines m.past) (clients m.lines) ≡ true
run_out_last m out = nobody m (clients m.lines) (both (is_none (first_chore m)) (is_none (next_client m)) out).1

-- The end comes in its turn.
end_last : (m now : Moment) (lines : List Line) (past : List Event) → comes_in_turn now Ended ≡ true → now.past ≡ past → now.lines ≡ reverse lines → set_in past ≡ settings_of lines → ends_last lines (Ended ∷ past) ≡ true
end_last m now lines past turn is its set =
    let late = (both (not (has_ended now.past)) (has_run_out now) (both now.released (not (has_ended now.past) && has_run_out now) turn).1).1 in
    together (length (set_in past) == length (settings_of lines)) (list_all (is_busy_or_done (reverse lines) past) (clients (reverse lines)))
    (ap (λ sets. length sets == length (settings_of lines)) set ∙ same_itself (length (settings_of lines)))
    (ap (λ newest. list_all (is_busy_or_done newest past) (clients newest)) (sym its) ∙ (ap (λ h. list_all (is_busy_or_done now.lines h) (clients now.lines)) (sym is) ∙ run_out_last now late))

turns_last : (m : Moment) (lines : List Line) (events : List Event) → m.lines ≡ reverse lines → set_in m.past ≡ settings_of lines → ends_last lines m.past ≡ true → come_in_turn (passed m events) ≡ true
    → ends_last lines (events ++ m.past) ≡ true
turns_last m lines [] its set runs h = runs
turns_last m lines (Ended ∷ rest) its set runs h =
    let now = (walk m rest).now in
    let a = both (not (begins_step now Ended) || comes_in_turn (rested (begins_step now Ended) now) Ended) (come_in_turn (passed m rest)) h in
    end_last m (rested true now) lines (rest ++ m.past) a.0 (past_after m rest) (lines_after m rest ∙ its) (turns_set m rest m.past a.1 ∙ set)
turns_last m lines (e ∷ rest) its set runs h =
    let now = (walk m rest).now in
    let a = both (not (begins_step now e) || comes_in_turn (rested (begins_step now e) now) e) (come_in_turn (passed m rest)) h in
    turns_last m lines rest its set runs a.1

-- A run whose limits were all set ends last, also if the end of its script couldn't be carried out.
pub ended_last : (r : Result (Unit {0}) Halt) (script : List Line) (p : Playing) (new : List Event) → IsAt (resting script p) p → has_ended p.past ≡ false → set_in p.past ≡ settings_of script
    → OnOk r ((m : Moment) → IsAt m p → CarriesEnd m p.past new) → OnErr r ((m : Moment) → IsAt m p → StopsInEnd m p.past new) → ends_last script new ≡ true
ended_last (Ok done) script p new at running set carries stops =
    let end = carries (resting script p) at in
    ap (ends_last script) end.grows ∙ turns_last (at_end (resting script p)) script end.events refl set (not_ended script p.past running) end.follows.in_turn
ended_last (Err halt) script p new at running set carries stops =
    let end = stops (resting script p) at in
    ap (ends_last script) end.grows ∙ turns_last (at_end (resting script p)) script end.events refl set (not_ended script p.past running) end.in_turn
