-- What is true of a race that is over. The argument takes each part from what the threads left, and from what the end
-- of the run adds to it.
use Rattle.std.proofs.Common.{◌≡◌, ◌≤◌, ℕ, true, false, List, ◌++◌, Option, Some, None, Result, Ok, Err, ap, sym, subst, ◌∙◌, length}
use Rattle.std.specs.Prelude.{OnOk, unwrap_or}
use Rattle.dsql_hall_steps.specs.history.declared.event.Control.{Control}
use Rattle.dsql_hall_steps.specs.history.declared.event.Event.{Event}
use Rattle.dsql_hall_steps.specs.history.Legal.{Legal}
use Rattle.dsql_hall_steps.specs.history.Readers.Course.{has_ended}
use Rattle.dsql_hall_steps.specs.history.Rules.House.{is_quiet}
use Rattle.dsql_hall_steps.specs.follows.declared.line.Line.{Line}
use Rattle.dsql_hall_steps.specs.laws_ends.Over.{IsOver}
use Rattle.dsql_hall_steps.specs.laws_steps.Groups.{most_events}
use Rattle.dsql_hall_steps.specs.player.declared.halt.Halt.{Halt}
use Rattle.dsql_hall_steps.specs.player.declared.halt.Halt.TheVariants.{Full, Memory}
use Rattle.dsql_hall_steps.specs.player.Playing.{Playing}
use Rattle.dsql_hall_steps.proofs.player.Ended.{on_ok2}
use Rattle.dsql_hall_steps.specs.Halls.{Keeps}
use Rattle.dsql_hall_steps.specs.Limits.{SetsFirst, are_set_first, set_in, settings_first, settings_of}
use Rattle.dsql_hall_steps.specs.Racing.{Races, RacesAll}
use Rattle.dsql_hall_steps.specs.Terms.{Terms}
use Rattle.dsql_hall.specs.Ends.{EndsRace}
use Rattle.dsql_hall.specs.Raced.{RacesInPart, SetsSome, ends_last}
use Rattle.dsql_hall.proofs.Last.{not_ended}

-- What is true anyway is true on success.
pub ok_so : {A E : Type 0} (r : Result A E) (P : Type 0) → P → OnOk r P
ok_so (Ok a) P p = p
ok_so (Err e) P p = tt

-- A race whose run hasn't ended is a race in part.
pub unended : (run : Event) (lines : List Line) (left : List Control) (past : List Event) → Races run lines past → set_in past ++ left ≡ settings_of lines → SetsFirst (length (settings_first lines)) past → has_ended past ≡ false
    → RacesInPart run lines past
unended run lines left past ordered sets first running = record { some = ordered; settings = record { left = left; whole = sets }; first = first.before; last = not_ended lines past running }

-- A race that stopped before its end is a race in part.
pub halted : (race : Terms) (halt : Halt) (left : List Control) (p : Playing) → Keeps race p left → (halt ≡ Full → most_events ≤ length p.past)
    → EndsRace race.run race.lines (Err halt) p
halted race halt left p keeps full = record {
  through = tt;
  in_part = unended race.run race.lines left p.past keeps.ordered keeps.settings keeps.first keeps.running;
  over = tt;
  ended = tt;
  quiet = tt;
  legal = keeps.legal;
  full = λ is. full cc;
  whole = keeps.whole;
}

-- What stopped a race is what stopped its hall, or want of memory.
pub full_or : (stopped : Option Halt) (events : ℕ) → (stopped ≡ Some Full → most_events ≤ events) → unwrap_or stopped Memory ≡ Full → most_events ≤ events
full_or None events full is = absurd cc
full_or (Some halt) events full is = full (ap Some is)

-- A race whose end was tried is over, or is a race in part.
pub finished : (race : Terms) (lines : List Line) (left : List Control) (stopped : Result (Unit {0}) Halt) (old new : Playing) → race.lines ≡ lines → Keeps race old left
    → OnOk stopped ((run : Event) → Races run lines old.past → RacesAll run lines new.past) → ((run : Event) → Races run lines old.past → Races run lines new.past) → OnOk stopped (set_in new.past ≡ set_in old.past ++ left)
    → SetsSome (set_in old.past ++ left) new.past → ((many : ℕ) → SetsFirst many old.past → are_set_first many new.past ≡ true) → (set_in old.past ++ left ≡ settings_of lines → ends_last lines new.past ≡ true) → OnOk stopped (IsOver new.past) → OnOk stopped (has_ended new.past ≡ true) → OnOk stopped (is_quiet new.past ≡ true) → Legal new.past
    → (stopped ≡ Err Full → most_events ≤ length new.past) → new.trimmed ≡ old.trimmed → EndsRace race.run race.lines stopped new
finished race lines left stopped old new same keeps carried some set some_set first last over ended quiet legal full trimmed =
    let ordered : Races race.run lines old.past = subst (λ (l : List Line). Races race.run l old.past) same keeps.ordered in
    let sets : set_in old.past ++ left ≡ settings_of lines = keeps.settings ∙ ap settings_of same in
    let before : are_set_first (length (settings_first lines)) new.past ≡ true = first (length (settings_first lines)) (subst (λ (l : List Line). SetsFirst (length (settings_first l)) old.past) same keeps.first) in
    subst (λ (l : List Line). EndsRace race.run l stopped new) (sym same) (record {
      through = on_ok2 stopped (λ every done. record { all = every race.run ordered; settings = done ∙ sets; first = before; last = last sets }) carried set;
      in_part = record {
        some = some race.run ordered;
        settings = record { left = some_set.left; whole = some_set.whole ∙ sets };
        first = before;
        last = last sets;
      };
      over = over;
      ended = ended;
      quiet = quiet;
      legal = legal;
      full = full;
      whole = trimmed ∙ keeps.whole;
    })
