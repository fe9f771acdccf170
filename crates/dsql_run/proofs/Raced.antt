-- The lines of a race that is over. The argument goes through what stopped it.
use Rattle.std.proofs.Common.{◌≡◌, ◌≤◌, ℕ, true, false, List, [], ◌∷◌, ◌++◌, Option, length, refl, ap, sym, subst, ◌∙◌, append_assoc, arith}
use Rattle.std.specs.Prelude.{Result, Ok, Err, IfErr, OnOk, option_map, reverse}
use Rattle.std.proofs.lemmas.List.{append-nil, reverse-reverse}
use Rattle.dsql_run_outcome.specs.driver.declared.caps.Caps.{Caps}
use Rattle.dsql_run_outcome.specs.driver.Wires.{FleetTold}
use Rattle.dsql_run_outcome.specs.history.declared.event.Control.{Control}
use Rattle.dsql_run_outcome.specs.history.declared.event.Event.{Event}
use Rattle.dsql_run_outcome.specs.history.declared.event.Event.TheVariants.{Run}
use Rattle.dsql_run_outcome.specs.history.declared.record.Flight.{Flight}
use Rattle.dsql_run_outcome.specs.history.Legal.{Legal}
use Rattle.dsql_run_outcome.specs.history.Readers.Course.{has_ended}
use Rattle.dsql_run_outcome.specs.history.Rules.House.{is_quiet}
use Rattle.dsql_run_outcome.specs.follows.declared.line.Line.{Line}
use Rattle.dsql_run_outcome.specs.follows.Moments.{Moment, at_end, just_begun}
use Rattle.dsql_run_outcome.specs.laws_steps.Groups.{most_events}
use Rattle.dsql_run_outcome.specs.hall.Raced.{RacesInPart, RacesThrough, SetsSome, ends_last, plans_first}
use Rattle.dsql_run_outcome.specs.hall.laws_ends.Over.{IsOver as HasNothingLeft}
use Rattle.dsql_run_outcome.specs.hall.hall_steps.Limits.{SetsFirst, are_set_first, set_in, settings_first, settings_of}
use Rattle.dsql_run_outcome.specs.hall.hall_steps.Racing.{Races, resting}
use Rattle.dsql_run_outcome.specs.player.declared.halt.Halt.{Halt}
use Rattle.dsql_run_outcome.specs.player.declared.halt.Halt.TheVariants as halts
use Rattle.dsql_run_outcome.specs.player.Carried.{HearsNothing}
use Rattle.dsql_run_outcome.specs.player.Playing.{IsAt, Playing}
use Rattle.dsql_run_outcome.specs.player_wires.Made.{Made}
use Rattle.dsql_run_outcome.specs.player_wires.Told.{fleet_told, told_then, with_told}
use Rattle.dsql_run_outcome.specs.script_source.declared.stop.Stop.{Stop}
use Rattle.dsql_run_outcome.specs.script_source.declared.stop.Stop.TheVariants.{Full}
use Rattle.dsql_run_outcome.specs.script_source.Stops.{IsReadStop}
use Rattle.dsql_run_outcome.specs.Racing.{LinesRaced, met_all}
use Rattle.dsql_run_outcome.specs.Runs.{ran_out, stop_of, stop_of_halt}
use Rattle.dsql_run_outcome.proofs.hall.Last.{not_ended}
use Rattle.dsql_run_outcome.proofs.hall.hall_steps.Beginning.{first_races}
use Rattle.dsql_run.proofs.Going.{full_halt, halt_runs_out}

-- A race that had to stop.
pub halted_race : (halt : Halt) (run : Event) (script : List Line) (past : List Event) (first after : Option FleetTold) → RacesInPart run script past → Legal past → (halt ≡ halts.Full → most_events ≤ length past)
    → LinesRaced (Err (stop_of_halt halt)) run script past first after
halted_race halt run script past first after some legal full = record {
  through = λ ran. absurd (cc (sym (halt_runs_out halt) ∙ ran));
  in_part = some;
  over = λ ran. absurd (cc (sym (halt_runs_out halt) ∙ ran));
  told = λ ran. absurd (cc (sym (halt_runs_out halt) ∙ ran));
  legal = legal;
  full = λ is. let same : stop_of_halt halt ≡ Full = cc in full (full_halt halt same);
}

-- If the first of some limits were set, the first of those limits and more were.
sets_more : (limits more : List Control) (past : List Event) → SetsSome limits past → SetsSome (limits ++ more) past
sets_more limits more past s = record { left = s.left ++ more; whole = sym (append_assoc (set_in past) s.left more) ∙ ap (λ all. all ++ more) s.whole }

-- As a run has begun, no line was entered, and no limit was set.

none_before : (many : ℕ) (caps : Caps) (past : List Event) → past ≡ Run 1 caps ∷ [] → are_set_first many past ≡ true
none_before many caps past begun = ap (are_set_first many) begun

pub first_past : (caps : Caps) (script : List Line) (past : List Event) → past ≡ Run 1 caps ∷ [] → Races (Run 1 caps) script past
first_past caps script past begun = subst (Races (Run 1 caps) script) (sym begun) (first_races (Run 1 caps) script)

pub none_raced : (caps : Caps) (script : List Line) (past : List Event) → past ≡ Run 1 caps ∷ [] → RacesInPart (Run 1 caps) script past
none_raced caps script past begun = record {
  some = first_past caps script past begun;
  settings = record { left = settings_of script; whole = ap (λ h. set_in h ++ settings_of script) begun };
  first = none_before (length (settings_first script)) caps past begun;
  last = ap (ends_last script) begun;
}

-- A race that had to stop as its first limits were set.
pub early_part : (caps : Caps) (script : List Line) (old new : List Event) (front more : List Control) → old ≡ Run 1 caps ∷ [] → front ++ more ≡ settings_of script → ((run : Event) → Races run script old → Races run script new)
    → SetsSome (set_in old ++ front) new → ((many : ℕ) → are_set_first many old ≡ true → are_set_first many new ≡ true) → has_ended new ≡ has_ended old
    → RacesInPart (Run 1 caps) script new
early_part caps script old new front more begun all races some before ended =
    let first : SetsSome front new = subst (λ (h : List Event). SetsSome (set_in h ++ front) new) begun some in
    let many = length (settings_first script) in
    record {
      some = races (Run 1 caps) (first_past caps script old begun);
      settings = subst (λ settings. SetsSome settings new) all (sets_more front more new first);
      first = before many (none_before many caps old begun);
      last = not_ended script new (ended ∙ ap has_ended begun);
    }

-- After the limits that stand first were set, they were set before each call.
pub first_set : (caps : Caps) (script : List Line) (old new : List Event) (front : List Control) → old ≡ Run 1 caps ∷ [] → front ≡ settings_first script → set_in new ≡ set_in old ++ front
    → ((many : ℕ) → are_set_first many old ≡ true → are_set_first many new ≡ true) → SetsFirst (length (settings_first script)) new
first_set caps script old new front begun are set before =
    let many = length (settings_first script) in
    let all : length (set_in new) ≡ many = ap length (set ∙ (ap (λ (h : List Event). set_in h ++ front) begun ∙ are)) in
    record { set = omega (arith, all); before = before many (none_before many caps old begun) }

-- As long as nothing was heard, the fleet has recorded nothing.
pub told_still : (made : List Made) (caps : Caps) (first before : Option FleetTold) (old new : List Event) → old ≡ Run 1 caps ∷ [] → HearsNothing old new → before ≡ with_told made first (Run 1 caps ∷ []) → before ≡ with_told made first new
told_still made caps first before old new begun unheard was = was ∙ ap (λ more. option_map (told_then more) first) (sym (unheard.told made ∙ ap (fleet_told made) begun))

-- A race that is over.
pub race_over : (r : Result (Unit {0}) Halt) (run : Event) (script : List Line) (past : List Event) (first after : Option FleetTold) → OnOk r (RacesThrough run script past) → RacesInPart run script past → OnOk r (HasNothingLeft past)
    → OnOk r (has_ended past ≡ true) → OnOk r (is_quiet past ≡ true) → OnOk r (after ≡ with_told (plans_first script) first past) → Legal past → (r ≡ Err halts.Full → most_events ≤ length past) → LinesRaced (stop_of r) run script past first after
race_over (Ok done) run script past first after through some over ended quiet told legal full = record {
  through = λ ran. through;
  in_part = some;
  over = λ ran. record { quiet = quiet; replied = over.replied; ended = ended; empty = over.none_open };
  told = λ ran. told;
  legal = legal;
  full = λ is. absurd (cc is);
}
race_over (Err halt) run script past first after through some over ended quiet told legal full = halted_race halt run script past first after some legal (λ is. full (ap Err is))

-- No run is full because of what stopped the reading of its script.
never_full : (read : Result (Unit {0}) Stop) → IfErr read IsReadStop → read ≡ Err Full → ⊥
never_full (Ok done) kind is = cc is
never_full (Err Full) kind is = kind
never_full (Err _) kind is = cc is

-- A race that ran out is over in the same way if its script stopped as it was read.
pub read_so_far : (read : Result (Unit {0}) Stop) (run : Event) (script : List Line) (past : List Event) (first after : Option FleetTold) → IfErr read IsReadStop → LinesRaced (Ok tt) run script past first after
    → LinesRaced read run script past first after
read_so_far read run script past first after kind r = record {
  through = λ ran. r.through refl;
  in_part = r.in_part;
  over = λ ran. r.over refl;
  told = λ ran. r.told refl;
  legal = r.legal;
  full = λ is. absurd (never_full read kind is);
}

-- If memory was wanting as a script was read, none of its lines was raced.
pub unraced : (read : Result (Unit {0}) Stop) (caps : Caps) (script : List Line) (past : List Event) (told : Option FleetTold) → ran_out read ≡ false → IfErr read IsReadStop → past ≡ Run 1 caps ∷ [] → Legal past
    → LinesRaced read (Run 1 caps) script past told told
unraced read caps script past told out kind begun legal = record {
  through = λ ran. absurd (cc (sym out ∙ ran));
  in_part = none_raced caps script past begun;
  over = λ ran. absurd (cc (sym out ∙ ran));
  told = λ ran. absurd (cc (sym out ∙ ran));
  legal = legal;
  full = λ is. absurd (never_full read kind is);
}

-- A race begins with its lines.

-- The lines that were kept for proofs, newest first, are the lines of the script.
pub all_read : (script slice before newest : List Line) → newest ≡ reverse slice ++ before → slice ≡ script → before ≡ [] → reverse newest ≡ script
all_read script slice before newest are same none =
    let all : newest ≡ reverse script ++ [] = cc in
    ap reverse (all ∙ append-nil (reverse script)) ∙ reverse-reverse script

-- After its lines were taken up, the player stands at the moment at which a race begins.
pub rests_at_first : (caps : Caps) (script : List Line) (p : Playing) → IsAt (at_end (met_all script (just_begun (Run 1 caps)))) p → IsAt (resting script p) p
rests_at_first caps script p at =
    let same =
    ap (λ (past : List Event). record (resting script p) { past = past; flights = []; lines = reverse script ++ [] }) at.past
    ∙ (ap (λ (flights : List Flight). record (resting script p) { flights = flights; lines = reverse script ++ [] }) at.flights
    ∙ ap (λ (lines : List Line). record (resting script p) { lines = lines }) (append-nil (reverse script))) in
    subst (λ (m : Moment). IsAt m p) same at
