-- The history of a run follows the lines that were carried out. The argument adds one part for each line.
use Rattle.std.proofs.Common.{◌≡◌, ℕ, ◌+◌, suc, true, false, List, [], ◌∷◌, ◌++◌, length, length-append, refl, sym, ap, subst, ◌∙◌, arith, inl, inr}
use Rattle.std.specs.Prelude.{reverse, map}
use Rattle.std.specs.List.{list_all}
use Rattle.std.proofs.lemmas.Bool.{and_from, and_parts}
use Rattle.std.proofs.lemmas.List.{reverse-append}
use Rattle.std.proofs.lemmas.List.Folds.{list_all-append}
use Rattle.dsql_hall.specs.driver.declared.caps.Caps.{Caps}
use Rattle.dsql_hall.specs.history.declared.event.Event.{Event}
use Rattle.dsql_hall.specs.history.declared.event.Event.TheVariants.{Run}
use Rattle.dsql_hall.specs.follows.declared.line.Line.{Line}
use Rattle.dsql_hall.specs.follows.declared.line.Line.TheVariants.{Skip}
use Rattle.dsql_hall.specs.follows.Moments.{Moment, just_begun, lines_of as lines_of_client}
use Rattle.dsql_hall.specs.follows.Sentences.{Part, after_part}
use Rattle.dsql_hall.specs.follows.Turns.{clients, has_run_out}
use Rattle.dsql_hall.specs.follows.Follows.{FollowsLine, FollowsLines, after, told}
use Rattle.dsql_hall.specs.player.Carried.{Carries, CarriesEnd, StopsInEnd, StopsInLine, part}
use Rattle.dsql_hall.specs.player_wires.Made.{Made}
use Rattle.dsql_hall.specs.player_wires.Stopped.{NoSurplus, PlansAllOrNothing, Surplus}
use Rattle.dsql_hall.specs.player.Planned.{plans_made, plans_of}
use Rattle.dsql_hall.specs.player.Playing.{Playing, IsAt}
use Rattle.dsql_script_source.specs.Script.{is_skip}
use Rattle.dsql_run_outcome.specs.Followed.{FollowsAll, FollowsSoFar, StopsShort, lines_of}
use Rattle.dsql_run_outcome.specs.Lent.{StopsPlanning}

-- Lines that were skipped before the run began.

-- Returns the parts of lines that show no events.
abbrev pub blank : List Line → List Part
blank lines = map (λ line. part line []) lines

lines_of_blank : (lines : List Line) → lines_of (blank lines) ≡ lines
lines_of_blank [] = refl
lines_of_blank (line ∷ earlier) = ap (λ more. line ∷ more) (lines_of_blank earlier)

pub told_blank : (run : Event) (lines : List Line) → told run (blank lines) ≡ run ∷ []
told_blank run [] = refl
told_blank run (line ∷ earlier) = told_blank run earlier

skipped_in_reverse : (lines : List Line) → list_all is_skip lines ≡ true → list_all is_skip (reverse lines) ≡ true
skipped_in_reverse [] skipped = refl
skipped_in_reverse (line ∷ lines) skipped =
    let it = and_parts (is_skip line) (list_all is_skip lines) skipped in
    ap (list_all is_skip) (reverse-append (line ∷ []) lines)
    ∙ list_all-append is_skip (reverse lines) (line ∷ [])
    ∙ and_from (list_all is_skip (reverse lines)) (list_all is_skip (line ∷ [])) (skipped_in_reverse lines it.1) (and_from (is_skip line) true it.0 refl)

-- Returns the moment at which the run has just begun, after these lines were read, the last one first.
abbrev begun_behind : Event → List Line → Moment
begun_behind run lines = record { past = run ∷ []; stepper = 0; flights = []; lines = lines; released = false }

after_blank : (caps : Caps) (lines : List Line) → list_all is_skip lines ≡ true → after (Run 1 caps) (blank lines) ≡ begun_behind (Run 1 caps) lines
after_blank caps [] skipped = refl
after_blank caps (Skip ∷ earlier) skipped = ap (λ m. after_part m (part Skip [])) (after_blank caps earlier skipped)
after_blank caps (_ ∷ earlier) skipped = absurd (cc skipped)

no_clients : (lines : List Line) → list_all is_skip lines ≡ true → clients lines ≡ []
no_clients [] skipped = refl
no_clients (Skip ∷ earlier) skipped = no_clients earlier skipped
no_clients (_ ∷ earlier) skipped = absurd (cc skipped)

none_of : (lines : List Line) (client : ℕ) → list_all is_skip lines ≡ true → lines_of_client lines client ≡ []
none_of [] client skipped = refl
none_of (Skip ∷ earlier) client skipped = none_of earlier client skipped
none_of (_ ∷ earlier) client skipped = absurd (cc skipped)

-- Nobody may go on before the first line.
begun_runs_out : (caps : Caps) (lines : List Line) → list_all is_skip lines ≡ true → has_run_out (begun_behind (Run 1 caps) lines) ≡ true
begun_runs_out caps lines skipped = rw (no_clients lines skipped) refl

blank_follows : (caps : Caps) (lines : List Line) → list_all is_skip lines ≡ true → FollowsLine (begun_behind (Run 1 caps) lines) (part Skip [])
blank_follows caps lines skipped = record {
  steps = record { begins = refl; whole = refl; ordered = refl };
  entered = refl;
  set = refl;
  started = refl;
  stepped = refl;
  tidied = refl;
  in_turn = refl;
  run_out = begun_runs_out caps (Skip ∷ lines) skipped;
}

blank_lines_follow : (caps : Caps) (lines : List Line) → list_all is_skip lines ≡ true → FollowsLines (Run 1 caps) (blank lines)
blank_lines_follow caps [] skipped = refl
blank_lines_follow caps (Skip ∷ earlier) skipped =
    (blank_lines_follow caps earlier skipped, subst (λ m. FollowsLine m (part Skip [])) (sym (after_blank caps earlier skipped)) (blank_follows caps earlier skipped))
blank_lines_follow caps (_ ∷ earlier) skipped = absurd (cc skipped)

begun_behind_at : (caps : Caps) (lines : List Line) (p : Playing) → list_all is_skip lines ≡ true → IsAt (just_begun (Run 1 caps)) p → IsAt (begun_behind (Run 1 caps) lines) p
begun_behind_at caps lines p skipped at = record {
  past = at.past;
  flights = at.flights;
  released = at.released;
  rest = refl;
  whole = refl;
  made = λ client. omega arith;
  kept = λ client. rw (none_of lines client skipped) (at.kept client);
  held = λ client busy. rw (none_of lines client skipped) (at.held client busy);
}

-- Skipped lines plan nothing.
blank_plans : (run : Event) (lines : List Line) → list_all is_skip lines ≡ true → plans_made run (blank lines) ≡ []
blank_plans run [] skipped = refl
blank_plans run (Skip ∷ earlier) skipped = blank_plans run earlier skipped
blank_plans run (_ ∷ earlier) skipped = absurd (cc skipped)

pub skipped_plans : (run : Event) (skipped : List Line) → list_all is_skip skipped ≡ true → plans_made run (blank (reverse skipped)) ≡ []
skipped_plans run skipped silent = blank_plans run (reverse skipped) (skipped_in_reverse skipped silent)

-- The run has just begun, after lines that were skipped.

pub begun_follows : (caps : Caps) (skipped : List Line) (past : List Event) → list_all is_skip skipped ≡ true → past ≡ Run 1 caps ∷ [] → FollowsSoFar (Run 1 caps) skipped (blank (reverse skipped)) past
begun_follows caps skipped past silent begun = record {
  follows = blank_lines_follow caps (reverse skipped) (skipped_in_reverse skipped silent);
  is_of = lines_of_blank (reverse skipped);
  is = begun ∙ sym (told_blank (Run 1 caps) (reverse skipped));
}

pub blank_is_skipped : (skipped : List Line) → list_all is_skip skipped ≡ true → list_all is_skip (lines_of (blank (reverse skipped))) ≡ true
blank_is_skipped skipped silent = ap (λ lines. list_all is_skip lines) (lines_of_blank (reverse skipped)) ∙ skipped_in_reverse skipped silent

pub begun_at : (caps : Caps) (skipped : List Line) (p : Playing) → list_all is_skip skipped ≡ true → IsAt (just_begun (Run 1 caps)) p → IsAt (after (Run 1 caps) (blank (reverse skipped))) p
begun_at caps skipped p silent at =
    let all = skipped_in_reverse skipped silent in
    subst (λ m. IsAt m p) (sym (after_blank caps (reverse skipped) all)) (begun_behind_at caps (reverse skipped) p all at)

-- One more line is carried out, or the run stops in it.

pub line_follows : (run : Event) (lines : List Line) (parts : List Part) (line : Line) (old new : Playing) → FollowsSoFar run lines parts old.past → (c : Carries (after run parts) line old new)
    → FollowsSoFar run (lines ++ line ∷ []) (part line c.events ∷ parts) new.past
line_follows run lines parts line old new f c = record {
  follows = (f.follows, c.follows);
  is_of = ap (λ more. line ∷ more) f.is_of ∙ sym (reverse-append lines (line ∷ []));
  is = c.grows ∙ ap (λ before. c.events ++ before) f.is;
}

-- Events that were added to a history without making it longer are none.
no_more : (events old : List Event) → old ≡ events ++ old → events ≡ []
no_more [] old same = refl
no_more (e ∷ events) old same =
    let long : length old ≡ suc (length (events ++ old)) = ap length same in
    let parts : length (events ++ old) ≡ length events + length old = length-append events old in
    absurd (omega (arith, long, parts))

last_of : (run : Event) (lines : List Line) (parts : List Part) (line : Line) (old : List Event) → FollowsSoFar run lines parts old → reverse (lines ++ line ∷ []) ≡ line ∷ lines_of parts
last_of run lines parts line old f = reverse-append lines (line ∷ []) ∙ ap (λ more. line ∷ more) (sym f.is_of)

pub line_stops_short : (run : Event) (lines : List Line) (parts : List Part) (line : Line) (old new : List Event) → FollowsSoFar run lines parts old → StopsInLine (after run parts) line old new
    → StopsShort run (lines ++ line ∷ []) new
line_stops_short run lines parts line old new f s = record {
  parts = parts;
  more = s.events;
  follows = f.follows;
  is = s.grows ∙ ap (λ before. s.events ++ before) f.is;
  stops = inl (record { line = line; is_of = last_of run lines parts line old f; begins = s.begins; steps = s.steps; in_turn = s.in_turn });
}

-- If the run stopped in a line, the faults of the lines before were planned. The line's own fault was planned too,
-- unless nothing came of the line.
pub line_stops_planning : (run : Event) (lines : List Line) (parts : List Part) (line : Line) (old new : List Event) (surplus : Surplus) (planned : List Made) → FollowsSoFar run lines parts old → StopsInLine (after run parts) line old new
    → PlansAllOrNothing (plans_of line old) surplus planned old new → StopsPlanning run (lines ++ line ∷ []) new surplus (planned ++ plans_made run parts)
unfolding line_stops_short
line_stops_planning run lines parts line old new surplus planned f s which = record {
  short = line_stops_short run lines parts line old new f s;
  last = planned;
  which = elim which [
    | inl is ↦ inr (inl (record { line = line; is_of = last_of run lines parts line old f; are = is ∙ ap (plans_of line) f.is }))
    | inr none ↦ inr (inr (record { no_event = no_more s.events old (sym none.2 ∙ s.grows); no_plan = none.0; no_call = none.1 }))
  ];
  all = refl;
}

-- The part of a line that was carried out has whole steps.
pub carried_stops : (m : Moment) (line : Line) (old new : Playing) → Carries m line old new → StopsInLine m line old.past new.past
carried_stops m line old new c = record { events = c.events; grows = c.grows; begins = inr (inr c.follows); steps = c.follows.steps; in_turn = c.follows.in_turn }

-- If the run stopped between two lines, the faults of the lines before were planned.
pub rest_planning : (caps : Caps) (lines : List Line) (parts : List Part) (past : List Event) → FollowsSoFar (Run 1 caps) lines parts past → StopsPlanning (Run 1 caps) lines past NoSurplus (plans_made (Run 1 caps) parts)
rest_planning caps lines [] past f = record {
  short = record {
    parts = [];
    more = [];
    follows = f.follows;
    is = f.is;
    stops = inr (record { is_of = f.is_of; steps = record { begins = refl; whole = refl; ordered = refl }; in_turn = refl });
  };
  last = [];
  which = inl (f.is_of, refl);
  all = refl;
}
rest_planning caps lines (p ∷ earlier) past f = record {
  short = record {
    parts = earlier;
    more = p.events;
    follows = f.follows.0;
    is = f.is;
    stops = inl (record { line = p.line; is_of = sym f.is_of; begins = inr (inr f.follows.1); steps = f.follows.1.steps; in_turn = f.follows.1.in_turn });
  };
  last = plans_of p.line (told (Run 1 caps) earlier);
  which = inr (inl (record { line = p.line; is_of = sym f.is_of; are = refl }));
  all = refl;
}

pub stops_at_rest : (caps : Caps) (lines : List Line) (parts : List Part) (past : List Event) → FollowsSoFar (Run 1 caps) lines parts past → StopsShort (Run 1 caps) lines past
stops_at_rest caps lines parts past f = (rest_planning caps lines parts past f).short

-- The script's end is carried out, or the run stops in it.

-- If the script's end was carried out after these parts, the history follows all lines and the end.
pub end_follows : (run : Event) (lines : List Line) (parts : List Part) (old new : List Event) → FollowsSoFar run lines parts old → CarriesEnd (after run parts) old new → (all : FollowsAll run lines new) × (all.played.parts ≡ parts)
end_follows run lines parts old new f c = (
  record {
    played = record { run = run; parts = parts; last = c.events };
    begins = refl;
    follows = record { lines = f.follows; end = c.follows };
    is_of = f.is_of;
    is = sym (c.grows ∙ ap (λ before. c.events ++ before) f.is);
  },
  refl,
)

pub end_planning : (run : Event) (lines : List Line) (parts : List Part) (old new : List Event) (surplus : Surplus) → FollowsSoFar run lines parts old → StopsInEnd (after run parts) old new
    → StopsPlanning run lines new surplus (plans_made run parts)
end_planning run lines parts old new surplus f s = record {
  short = record {
    parts = parts;
    more = s.events;
    follows = f.follows;
    is = s.grows ∙ ap (λ before. s.events ++ before) f.is;
    stops = inr (record { is_of = f.is_of; steps = s.steps; in_turn = s.in_turn });
  };
  last = [];
  which = inl (f.is_of, refl);
  all = refl;
}

pub end_stops_short : (run : Event) (lines : List Line) (parts : List Part) (old new : List Event) → FollowsSoFar run lines parts old → StopsInEnd (after run parts) old new → StopsShort run lines new
end_stops_short run lines parts old new f s = (end_planning run lines parts old new NoSurplus f s).short

-- A history that follows all lines and the end has whole steps, and the faults of its lines were planned.
pub all_planning : (run : Event) (lines : List Line) (past : List Event) → (a : FollowsAll run lines past) → StopsPlanning run lines past NoSurplus (plans_made run a.played.parts)
all_planning run lines past a =
    subst (λ first. StopsPlanning first lines past NoSurplus (plans_made first a.played.parts)) a.begins
    (record {
      short = record {
        parts = a.played.parts;
        more = a.played.last;
        follows = a.follows.lines;
        is = sym a.is;
        stops = inr (record { is_of = a.is_of; steps = a.follows.end.steps; in_turn = a.follows.end.in_turn });
      };
      last = [];
      which = inl (a.is_of, refl);
      all = refl;
    })

pub all_stops_short : (run : Event) (lines : List Line) (past : List Event) → FollowsAll run lines past → StopsShort run lines past
all_stops_short run lines past a = (all_planning run lines past a).short
