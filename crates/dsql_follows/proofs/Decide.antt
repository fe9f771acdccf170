-- Proves that the computed tests say what the definitions say. Each test is taken apart into its sentences.
use Rattle.std.proofs.Common.{◌≡◌, ◌↔◌, true, List, [], ◌∷◌, refl, subst, ap}
use Rattle.dsql_history.specs.declared.event.Event.{Event}
use Rattle.dsql_follows.proofs.Bools.{both, together}
use Rattle.dsql_follows.specs.Moments.{Moment, met, at_end}
use Rattle.dsql_follows.specs.Sentences.{Part, after_part}
use Rattle.dsql_follows.specs.Follows.{Played, MakesSteps, FollowsLine, FollowsEnd, FollowsLines, Follows, after, judged, makes_steps, follows_line, follows_end, follows}

steps_of : (m : Moment) (events : List Event) → makes_steps m events ≡ true → MakesSteps m events
steps_of m events h =
    let a = both _ _ h in
    let b = both _ _ a.1 in
    record { begins = a.0; whole = b.0; ordered = b.1 }

are_steps_of : (m : Moment) (events : List Event) → MakesSteps m events → makes_steps m events ≡ true
are_steps_of m events r = together _ _ r.begins (together _ _ r.whole r.ordered)

line_of : (m : Moment) (part : Part) → follows_line m part ≡ true → FollowsLine m part
line_of m part h =
    let a = both (makes_steps (met part.line m) part.events) _ h in
    let b = both _ _ a.1 in
    let c = both _ _ b.1 in
    let d = both _ _ c.1 in
    let e = both _ _ d.1 in
    let f = both _ _ e.1 in
    let g = both _ _ f.1 in
    record {
      steps = steps_of (met part.line m) part.events a.0;
      entered = b.0;
      set = c.0;
      started = d.0;
      stepped = e.0;
      tidied = f.0;
      in_turn = g.0;
      run_out = g.1;
    }

is_line_of : (m : Moment) (part : Part) → FollowsLine m part → follows_line m part ≡ true
is_line_of m part r =
    together _ _ (are_steps_of (met part.line m) part.events r.steps)
    (together _ _ r.entered (together _ _ r.set (together _ _ r.started (together _ _ r.stepped (together _ _ r.tidied (together _ _ r.in_turn r.run_out))))))

pub line_computed : (m : Moment) (part : Part) → (follows_line m part ≡ true) ↔ FollowsLine m part
line_computed m part = (line_of m part, is_line_of m part)

end_of : (m : Moment) (events : List Event) → follows_end m events ≡ true → FollowsEnd m events
end_of m events h =
    let a = both (makes_steps (at_end m) events) _ h in
    let b = both _ _ a.1 in
    let c = both _ _ b.1 in
    let d = both _ _ c.1 in
    record { steps = steps_of (at_end m) events a.0; in_turn = b.0; run_out = c.0; ended = d.0; done = d.1 }

is_end_of : (m : Moment) (events : List Event) → FollowsEnd m events → follows_end m events ≡ true
is_end_of m events r =
    together _ _ (are_steps_of (at_end m) events r.steps) (together _ _ r.in_turn (together _ _ r.run_out (together _ _ r.ended r.done)))

pub end_computed : (m : Moment) (events : List Event) → (follows_end m events ≡ true) ↔ FollowsEnd m events
end_computed m events = (end_of m events, is_end_of m events)

-- The judgment of the parts is at the moment after them.
at_moment : (run : Event) (parts : List Part) → (judged run parts).moment ≡ after run parts
at_moment run [] = refl
at_moment run (part ∷ earlier) = ap (λ m. after_part m part) (at_moment run earlier)

lines_of : (run : Event) (parts : List Part) → (judged run parts).fine ≡ true → FollowsLines run parts
lines_of run [] h = h
lines_of run (part ∷ earlier) h =
    let a = both (judged run earlier).fine (follows_line (judged run earlier).moment part) h in
    let m : (judged run earlier).moment ≡ after run earlier = at_moment run earlier in
    (lines_of run earlier a.0, subst (λ now. FollowsLine now part) m (line_of (judged run earlier).moment part a.1))

are_lines_of : (run : Event) (parts : List Part) → FollowsLines run parts → (judged run parts).fine ≡ true
are_lines_of run [] h = h
are_lines_of run (part ∷ earlier) h =
    let m : (judged run earlier).moment ≡ after run earlier = at_moment run earlier in
    together (judged run earlier).fine (follows_line (judged run earlier).moment part) (are_lines_of run earlier h.0) (rw m (is_line_of (after run earlier) part h.1))

run_of : (it : Played) → follows it ≡ true → Follows it
run_of it h =
    let a = both (judged it.run it.parts).fine (follows_end (judged it.run it.parts).moment it.last) h in
    let m : (judged it.run it.parts).moment ≡ after it.run it.parts = at_moment it.run it.parts in
    record { lines = lines_of it.run it.parts a.0; end = subst (λ now. FollowsEnd now it.last) m (end_of (judged it.run it.parts).moment it.last a.1) }

is_run_of : (it : Played) → Follows it → follows it ≡ true
is_run_of it r =
    let m : (judged it.run it.parts).moment ≡ after it.run it.parts = at_moment it.run it.parts in
    together (judged it.run it.parts).fine (follows_end (judged it.run it.parts).moment it.last) (are_lines_of it.run it.parts r.lines)
    (rw m (is_end_of (after it.run it.parts) it.last r.end))

pub run_computed : (it : Played) → (follows it ≡ true) ↔ Follows it
run_computed it = (run_of it, is_run_of it)
