-- The part of a line that runs on, and of the script's end, built up step by step.
use Rattle.std.proofs.Common.{◌≡◌, ℕ, Bool, true, false, not, ◌||◌, cond, List, [], ◌∷◌, ◌++◌, int_eq, refl, ap, subst, ◌∙◌, append-nil}
use Rattle.std.proofs.lemmas.List.Folds.{list_all-append}
use Rattle.dsql_laws_calls.specs.journal.Readers.{is_empty}
use Rattle.dsql_laws_calls.specs.history.declared.event.Event.{Event}
use Rattle.dsql_laws_calls.specs.history.declared.event.Event.TheVariants.{Entered, Ended}
use Rattle.dsql_laws_calls.specs.history.declared.event.Op.{Op}
use Rattle.dsql_laws_calls.specs.history.declared.event.Control.{Control}
use Rattle.dsql_laws_calls.specs.history.declared.event.Setting.{Setting}
use Rattle.dsql_laws_calls.specs.history.declared.event.Setting.TheVariants.{MaxOpen}
use Rattle.dsql_laws_calls.specs.history.declared.event.Control.TheVariants.{Tick, Set}
use Rattle.dsql_laws_calls.specs.history.Readers.Controls.{told, taken, told_after}
use Rattle.dsql_laws_calls.specs.history.Readers.Course.{has_ended}
use Rattle.dsql_laws_calls.proofs.laws.Truths.{or_first, or_second}
use Rattle.dsql_laws_calls.proofs.Itself.{int_itself}
use Rattle.dsql_laws_calls.proofs.laws.Tests.{same_itself, together}
use Rattle.dsql_follows.specs.declared.line.Line.{Line}
use Rattle.dsql_follows.specs.declared.line.Line.TheVariants as lines
use Rattle.dsql_follows.specs.declared.line.Line.TheVariants.{Skip, Fault, Client, Start}
use Rattle.dsql_follows.specs.Moments.{Moment, Passed, at_end, met}
use Rattle.dsql_follows.specs.Same.{same_setting}
use Rattle.dsql_follows.specs.Turns.{comes_in_turn, has_run_out}
use Rattle.dsql_follows.specs.Sentences.{Part, after_part, come_in_turn, enters_at_once, enters_for, enters_now, has_own_step, is_entry_of, is_set_in, is_told, is_whole, later, may_enter, oldest, passed, runs_in_turn, runs_on, sets_at_once, starts_alone, steps_once, tidies_once}
use Rattle.dsql_follows.specs.Follows.{FollowsEnd, MakesSteps, ends_in_turn, is_done}
use Rattle.dsql_laws_steps.specs.Steps.{IsAtRest, IsStep, stepped}
use Rattle.dsql_laws_steps.specs.Whole.{Steps}
use Rattle.dsql_laws_steps.proofs.AddedUp.{no_steps, one_more, steps_made}
use Rattle.dsql_laws_steps.proofs.Placed.{later_behind, oldest_behind}
use Rattle.dsql_laws_steps.proofs.Turns.{first_in_turn, more_in_turn}
use Rattle.dsql_laws_lines.specs.Running.{BeginsAsItShould, FollowsTo, RunsOn, RunsToEnd}
use Rattle.dsql_laws_lines.proofs.AddedUp.{added_in_turn, added_up, one_step, passed_added}

-- Returns the part of a line that consists of these events.
abbrev pub part_of : Line → List Event → Part
part_of line events = record { line = line; events = events }

-- The first step of a part stays first as more steps follow.

entry_stays : (enters : Bool) (client : ℕ) (newer older : List Passed) → not enters || is_entry_of client (oldest older) ≡ true → not enters || is_entry_of client (oldest (newer ++ older)) ≡ true
entry_stays false client newer older h = refl
entry_stays true client newer [] h = absurd cc
entry_stays true client newer (p ∷ older) h = ap (is_entry_of client) (oldest_behind newer p older) ∙ h

set_stays : (control : Control) (newer older : List Passed) → is_set_in control (oldest older) ≡ true → is_set_in control (oldest (newer ++ older)) ≡ true
set_stays control newer [] h = absurd cc
set_stays control newer (p ∷ older) h = ap (is_set_in control) (oldest_behind newer p older) ∙ h

enters_still : (m : Moment) (line : Line) (events more : List Event) (newer : List Passed) → passed (met line m) (more ++ events) ≡ newer ++ passed (met line m) events
    → enters_at_once m (part_of line events) ≡ true → enters_at_once m (part_of line (more ++ events)) ≡ true
enters_still m (Client client op) events more newer is h =
    ap (λ ps. not (enters_now m client) || is_entry_of client (oldest ps)) is ∙ entry_stays (enters_now m client) client newer (passed (met (Client client op) m) events) h
enters_still m (Start client op) events more newer is h =
    ap (λ ps. not (enters_now m client) || is_entry_of client (oldest ps)) is ∙ entry_stays (enters_now m client) client newer (passed (met (Start client op) m) events) h
enters_still m line events more newer is h = refl

sets_still : (m : Moment) (line : Line) (events more : List Event) (newer : List Passed) → passed (met line m) (more ++ events) ≡ newer ++ passed (met line m) events
    → sets_at_once m (part_of line events) ≡ true → sets_at_once m (part_of line (more ++ events)) ≡ true
sets_still m (lines.Control control) events more newer is h =
    ap (λ ps. is_set_in control (oldest ps)) is ∙ set_stays control newer (passed (met (lines.Control control) m) events) h
sets_still m line events more newer is h = refl

-- If a line has a step of its own, that step is in its part.

entry_came : (enters : Bool) (client : ℕ) (ps : List Passed) → not enters || is_entry_of client (oldest ps) ≡ true → enters ≡ true → is_empty ps ≡ false
entry_came false client ps h own = absurd cc
entry_came true client [] h own = absurd cc
entry_came true client (p ∷ ps) h own = refl

set_came : (control : Control) (ps : List Passed) → is_set_in control (oldest ps) ≡ true → is_empty ps ≡ false
set_came control [] h = absurd cc
set_came control (p ∷ ps) h = refl

own_came : (m : Moment) (line : Line) (events : List Event) → BeginsAsItShould m (part_of line events) → has_own_step m line ≡ true → is_empty (passed (met line m) events) ≡ false
own_came m (lines.Control control) events b own = set_came control (passed (met (lines.Control control) m) events) b.set
own_came m (Client client op) events b own = entry_came (enters_now m client) client (passed (met (Client client op) m) events) b.entered own
own_came m line events b own = absurd cc

-- The steps after the line's own step come in their turn.
own_behind : (own : Bool) (newer older : List Passed) → (own ≡ true → is_empty older ≡ false) → come_in_turn newer ≡ true → come_in_turn (cond own (later older) older) ≡ true
    → come_in_turn (cond own (later (newer ++ older)) (newer ++ older)) ≡ true
own_behind false newer older some a b = list_all-append (λ p. not p.begins || comes_in_turn p.before p.event) newer older ∙ together _ _ a b
own_behind true newer [] some a b = let clash : true ≡ false = some refl in absurd cc
own_behind true newer (p ∷ older) some a b =
    ap come_in_turn (later_behind newer p older) ∙ (list_all-append (λ q. not q.begins || comes_in_turn q.before q.event) newer (later (p ∷ older)) ∙ together _ _ a b)

pub runs_further : (m : Moment) (line : Line) (events more : List Event) (now after : Moment) → RunsOn m line events now → Steps now more after → come_in_turn (passed now more) ≡ true
    → RunsOn m line (more ++ events) after
runs_further m line events more now after r h turn =
    let is = passed_added (met line m) now after events more r.steps h in
    record {
      steps = added_up (met line m) now after events more r.steps h;
      begins = record { entered = enters_still m line events more (passed now more) is r.begins.entered; set = sets_still m line events more (passed now more) is r.begins.set };
      in_turn =
          ap (λ ps. come_in_turn (cond (has_own_step m line) (later ps) ps)) is
          ∙ own_behind (has_own_step m line) (passed now more) (passed (met line m) events) (own_came m line events r.begins) turn r.in_turn;
    }

-- A line without a step of its own begins with no events.

enters_none : (m : Moment) (line : Line) → runs_on line ≡ true → has_own_step m line ≡ false → BeginsAsItShould m (part_of line [])
enters_none m Skip on own = record { entered = refl; set = refl }
enters_none m (Fault conn nth what) on own = record { entered = refl; set = refl }
enters_none m (Client client op) on own = record { entered = or_first (not (enters_now m client)) false (ap not own); set = refl }
enters_none m line on own = absurd cc

none_in_turn : (own : Bool) → come_in_turn (cond own (later []) []) ≡ true
none_in_turn true = refl
none_in_turn false = refl

pub runs_from_nothing : (m : Moment) (line : Line) → IsAtRest m → is_whole m ≡ true → runs_on line ≡ true → has_own_step m line ≡ false → RunsOn m line [] (met line m)
runs_from_nothing m line rest whole on own =
    record { steps = no_steps (met line m) (ap (met line) rest) whole; begins = enters_none m line on own; in_turn = none_in_turn (has_own_step m line) }

-- The part of such a line is whole steps in their turn.
pub runs_in_steps : (m : Moment) (line : Line) (events : List Event) (now : Moment) → IsAtRest m → is_whole m ≡ true → runs_on line ≡ true → has_own_step m line ≡ false → Steps (met line m) events now
    → come_in_turn (passed (met line m) events) ≡ true → RunsOn m line events now
runs_in_steps m line events now rest whole on own h turn =
    subst (λ es. RunsOn m line es now) (append-nil events) (runs_further m line [] events (met line m) now (runs_from_nothing m line rest whole on own) h turn)

-- Other lines begin with their own step.

setting_itself : (setting : Setting) → same_setting setting setting ≡ true
setting_itself MaxOpen = refl
setting_itself _ = refl

told_itself : (control : Control) → is_told control (told control) ≡ true
told_itself (Tick now) = same_itself now
told_itself (Set setting k) = together (same_setting setting setting) (int_eq k k) (setting_itself setting) (int_itself k)

tells_no_entry : (m : Moment) (control : Control) → may_enter m (told control) ≡ true
tells_no_entry m (Tick now) = refl
tells_no_entry m (Set setting k) = refl

pub entry_first : (m : Moment) (first : Event) (client n k : ℕ) (op : Op) (events : List Event) → IsStep m first n events → first ≡ Entered client k op → is_entry_of client (oldest (passed m events)) ≡ true
entry_first m first client n k op events s entered = ap (is_entry_of client) s.oldest ∙ (ap (enters_for client) entered ∙ same_itself client)

pub runs_from_entry : (m : Moment) (client : ℕ) (op : Op) (first : Event) (n k : ℕ) (entered : Op) (events : List Event) → IsAtRest m → is_whole m ≡ true → enters_now m client ≡ true
    → first ≡ Entered client k entered → IsStep (met (Client client op) m) first n events → may_enter (met (Client client op) m) first ≡ true → is_whole (stepped (met (Client client op) m) first n events) ≡ true
    → RunsOn m (Client client op) events (stepped (met (Client client op) m) first n events)
runs_from_entry m client op first n k entered events rest whole enters is s may after =
    let there = met (Client client op) m in
    record {
      steps = one_step there first n events (ap (met (Client client op)) rest) whole s may after;
      begins = record { entered = or_second (not (enters_now m client)) (is_entry_of client (oldest (passed there events))) (entry_first there first client n k entered events s is); set = refl };
      in_turn = ap (λ own. come_in_turn (cond own (later (passed there events)) (passed there events))) enters ∙ first_in_turn there first n events s;
    }

pub runs_from_control : (m : Moment) (control : Control) (first : Event) (n : ℕ) (events : List Event) → IsAtRest m → is_whole m ≡ true → first ≡ told_after m.past control
    → IsStep (met (lines.Control control) m) first n events → is_whole (stepped (met (lines.Control control) m) first n events) ≡ true
    → RunsOn m (lines.Control control) events (stepped (met (lines.Control control) m) first n events)
runs_from_control m control first n events rest whole is s after =
    let line = lines.Control control in
    let there = met line m in
    let its : is_told (taken m.past control) first ≡ true = ap (is_told (taken m.past control)) is ∙ told_itself (taken m.past control) in
    record {
      steps = one_step there first n events (ap (met line) rest) whole s (ap (may_enter there) is ∙ tells_no_entry there (taken m.past control)) after;
      begins = record { entered = refl; set = ap (is_set_in control) s.oldest ∙ its };
      in_turn = first_in_turn there first n events s;
    }

-- A line is done when nobody may go on.

followed : (m : Moment) (line : Line) (events : List Event) (now : Moment) → RunsOn m line events now → has_run_out now ≡ true → starts_alone m (part_of line events) ≡ true
    → steps_once m (part_of line events) ≡ true → tidies_once m (part_of line events) ≡ true → after_part m (part_of line events) ≡ now
    → FollowsTo m line events now
followed m line events now r out started stepped tidied after =
    let made = steps_made (met line m) now events r.steps in (
      record {
        steps = made.0;
        entered = r.begins.entered;
        set = r.begins.set;
        started = started;
        stepped = stepped;
        tidied = tidied;
        in_turn = or_second (not (runs_on line)) _ r.in_turn;
        run_out = or_second (not (runs_on line)) _ (ap has_run_out after ∙ out);
      },
      after,
    )

pub runs_done : (m : Moment) (line : Line) (events : List Event) (now : Moment) → RunsOn m line events now → runs_on line ≡ true → has_run_out now ≡ true
    → FollowsTo m line events now
runs_done m Skip events now r on out = followed m Skip events now r out refl refl refl r.steps.now_is
runs_done m (Fault conn nth what) events now r on out = followed m (Fault conn nth what) events now r out refl refl refl r.steps.now_is
runs_done m (lines.Control control) events now r on out = followed m (lines.Control control) events now r out refl refl refl r.steps.now_is
runs_done m (Client client op) events now r on out = followed m (Client client op) events now r out refl refl refl r.steps.now_is
runs_done m line events now r on out = absurd cc

-- Before a line is done, its part is whole steps, each in its turn.

pub runs_so_far : (m : Moment) (line : Line) (events : List Event) (now : Moment) → RunsOn m line events now → MakesSteps (met line m) events × (runs_in_turn m (part_of line events) ≡ true)
runs_so_far m line events now r = ((steps_made (met line m) now events r.steps).0, or_second (not (runs_on line)) _ r.in_turn)

pub nothing_so_far : (m : Moment) (line : Line) → IsAtRest m → is_whole m ≡ true → MakesSteps (met line m) [] × (runs_in_turn m (part_of line []) ≡ true)
nothing_so_far m line rest whole =
    ((steps_made (met line m) (met line m) [] (no_steps (met line m) (ap (met line) rest) whole)).0, or_second (not (runs_on line)) _ (none_in_turn (has_own_step m line)))

-- The part of the script's end.

pub ends_from_nothing : (m : Moment) → IsAtRest m → is_whole m ≡ true → RunsToEnd m [] (at_end m)
ends_from_nothing m rest whole = record { steps = no_steps (at_end m) (ap at_end rest) whole; in_turn = refl }

pub ends_further : (m : Moment) (events more : List Event) (now after : Moment) → RunsToEnd m events now → Steps now more after → come_in_turn (passed now more) ≡ true → RunsToEnd m (more ++ events) after
ends_further m events more now after r h turn =
    record { steps = added_up (at_end m) now after events more r.steps h; in_turn = added_in_turn (at_end m) now after events more r.steps h r.in_turn turn }

pub ends_ending : (m : Moment) (events : List Event) (now : Moment) (first : Event) (n : ℕ) (step : List Event) → RunsToEnd m events now → first ≡ Ended → comes_in_turn now first ≡ true
    → IsStep now first n step → is_whole (stepped now first n step) ≡ true → RunsToEnd m (step ++ events) (stepped now first n step)
ends_ending m events now first n step r is turn s after =
    record {
      steps = one_more (at_end m) now events first n step r.steps s (ap (may_enter now) is) after;
      in_turn = more_in_turn (at_end m) now events first n step r.steps r.in_turn s turn;
    }

pub ends_done : (m : Moment) (events : List Event) (now : Moment) → RunsToEnd m events now → has_run_out now ≡ true → has_ended now.past ≡ true → is_done now ≡ true → FollowsEnd m events
ends_done m events now r out ended done =
    let is = r.steps.now_is in
    record {
      steps = (steps_made (at_end m) now events r.steps).0;
      in_turn = r.in_turn;
      run_out = ap has_run_out is ∙ out;
      ended = ap (λ it. has_ended it.past) is ∙ ended;
      done = ap is_done is ∙ done;
    }

pub ends_so_far : (m : Moment) (events : List Event) (now : Moment) → RunsToEnd m events now → MakesSteps (at_end m) events × (ends_in_turn m events ≡ true)
ends_so_far m events now r = ((steps_made (at_end m) now events r.steps).0, r.in_turn)
