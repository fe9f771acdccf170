-- A call that takes its permit just before its answer is heard leads to the same moment. Hearing the answer removes the
-- permit from the flights.
use Rattle.std.proofs.Common.{◌≡◌, ℕ, ◌==◌, Bool, true, false, not, ◌&&◌, ◌||◌, cond, List, [], ◌∷◌, ◌++◌, Option, Some, refl, sym, ap, ◌∙◌, append-nil}
use Rattle.std.specs.List.{list_all}
use Rattle.dsql_laws_calls.specs.journal.declared.entry.Entry.{Entry}
use Rattle.dsql_laws_calls.specs.journal.Readers.{is_empty}
use Rattle.dsql_laws_calls.specs.history.declared.event.Event.{Event}
use Rattle.dsql_laws_calls.specs.history.declared.event.Event.TheVariants.{Heard}
use Rattle.dsql_laws_calls.specs.history.declared.record.Flight.{Flight}
use Rattle.dsql_laws_calls.specs.history.declared.record.Stand.{Stand}
use Rattle.dsql_laws_calls.specs.history.declared.record.Stand.TheVariants.{Sends}
use Rattle.dsql_laws_calls.specs.history.Rules.Flights.{has_flight, is_in_flight, permitted, without_flight}
use Rattle.dsql_laws_calls.specs.history.Rules.Stands.{stand}
use Rattle.dsql_laws_calls.proofs.laws.Tests.{same_itself}
use Rattle.dsql_follows.specs.Moments.{Moment, Passed, Walk, at_rest, begins_step, goes_over, landed, passes, rested, takes_permit, walk, with_event}
use Rattle.dsql_follows.specs.Sentences.{begins, is_one_step, is_whole, later, oldest}
use Rattle.dsql_laws_steps.specs.Steps.{IsAtRest, IsStep, stepped}
use Rattle.dsql_laws_steps.proofs.Joined.{beyond}
use Rattle.dsql_laws_steps.proofs.Later.{first_and_more}
use Rattle.dsql_laws_steps.proofs.Permits.{taken_at_rest}
use Rattle.dsql_laws_steps.proofs.Placed.{later_behind, oldest_behind}
use Rattle.dsql_laws_lines.proofs.AddedUp.{further}

-- After its answer is heard, a permit isn't in flight.

without_last : (n c : ℕ) (flights : List Flight) → without_flight n (flights ++ record { call = n; conn = c } ∷ []) ≡ without_flight n flights
without_last n c [] = ap (λ b. cond (not b) (record { call = n; conn = c } ∷ []) []) (same_itself n)
without_last n c (flight ∷ flights) =
    ap (λ rest. cond (not (flight.call == n)) (flight ∷ rest) rest) (without_last n c flights)

without_permit : (n : ℕ) (at : Option Stand) (flights : List Flight) → without_flight n (permitted n at flights) ≡ without_flight n flights
without_permit n (Some (Sends c)) flights = by (is_in_flight n flights || has_flight c flights)
  where
    by : (full : Bool) → without_flight n (cond full flights (flights ++ record { call = n; conn = c } ∷ [])) ≡ without_flight n flights
    by true = refl
    by false = without_last n c flights
without_permit n _ flights = refl

permit_lands : (m : Moment) (n : ℕ) (first : Event) (e : Entry) → first ≡ Heard e → e.call_no ≡ n → landed first (takes_permit n m).flights ≡ landed first m.flights
permit_lands m n first e heard number =
    let its : without_flight e.call_no (permitted n (stand m.past n) m.flights) ≡ without_flight e.call_no m.flights =
    ap (λ k. without_flight k (permitted n (stand m.past n) m.flights)) number ∙ (without_permit n (stand m.past n) m.flights ∙ ap (λ k. without_flight k m.flights) (sym number)) in
    ap (λ it. landed it (takes_permit n m).flights) heard ∙ (its ∙ ap (λ it. landed it m.flights) (sym heard))

pub same_stepped : (m : Moment) (n k : ℕ) (first : Event) (e : Entry) (events : List Event) → first ≡ Heard e → e.call_no ≡ n → stepped (takes_permit n m) first k events ≡ stepped m first k events
same_stepped m n k first e events heard number =
    ap (λ flights. record (stepped m first k events) { flights = permitted k (stand (events ++ m.past) k) flights }) (permit_lands m n first e heard number)

-- The events of a step after the first one depend only on the moment after that one.

begun_at : (m : Moment) (first : Event) → IsAtRest m → begins_step m first ≡ true → walk m (first ∷ []) ≡ passes first true m []
begun_at m first rest b =
    let w : Walk = record { now = m; passed = [] } in
    let free : rested true m ≡ m = ap (λ it. record m { flights = it.flights }) rest in
    ap (λ starts. goes_over first starts w) b ∙ ap (λ it. passes first true it []) free

first_of : Event → Moment → Passed
first_of first m = record { event = first; before = m; begins = true }

walk_of_step : (m : Moment) (first : Event) (more : List Event) → IsAtRest m → begins_step m first ≡ true → walk m (more ++ first ∷ []) ≡ beyond (walk (with_event first m) more) (first_of first m ∷ [])
unfolding first_of
walk_of_step m first more rest b =
    further m more (first ∷ []) ∙ ap (λ w. beyond (walk w.now more) w.passed) (begun_at m first rest b)

nonempty : (newer : List Passed) (p : Passed) → is_empty (newer ++ p ∷ []) ≡ false
nonempty [] p = refl
nonempty (q ∷ newer) p = refl

-- Whether events are one step doesn't depend on the moment before them.
one_alike : (newer : List Passed) (p q : Passed) → p.begins ≡ true → q.begins ≡ true → is_one_step (newer ++ p ∷ []) ≡ is_one_step (newer ++ q ∷ [])
one_alike newer p q a b = as_told newer p a ∙ sym (as_told newer q b)
  where
    as_told : (ps : List Passed) (r : Passed) → r.begins ≡ true → is_one_step (ps ++ r ∷ []) ≡ list_all (λ it. not it.begins) ps
    as_told ps r c =
        ap (λ it. not it && (begins (oldest (ps ++ r ∷ [])) && list_all (λ it. not it.begins) (later (ps ++ r ∷ [])))) (nonempty ps r)
        ∙ (ap (λ o. begins o && list_all (λ it. not it.begins) (later (ps ++ r ∷ []))) (oldest_behind ps r [])
        ∙ (ap (λ it. it && list_all (λ it. not it.begins) (later (ps ++ r ∷ []))) c ∙ ap (list_all (λ it. not it.begins)) (later_behind ps r [] ∙ append-nil ps)))

-- So the events are one step from the moment before the call took its permit.
pub step_earlier : (m : Moment) (n k : ℕ) (first : Event) (e : Entry) (events : List Event) → IsAtRest m → is_whole m ≡ true → first ≡ Heard e → e.call_no ≡ n → IsStep (takes_permit n m) first k events
    → IsStep m first k events
unfolding first_of
step_earlier m n k first e events rest whole heard number s =
    let there = takes_permit n m in
    let g = first_and_more there first k events s in
    let free : IsAtRest there = (taken_at_rest m n rest whole).0 in
    let same : with_event first there ≡ with_event first m = ap (λ flights. record (with_event first m) { flights = flights }) (permit_lands m n first e heard number) in
    let newer = (walk (with_event first m) g.more).passed in
    let later_walk : walk there events ≡ beyond (walk (with_event first m) g.more) (first_of first there ∷ []) =
    ap (walk there) g.whole ∙ (walk_of_step there first g.more free g.begun ∙ ap (λ it. beyond (walk it g.more) (first_of first there ∷ [])) same) in
    let earlier_walk : walk m events ≡ beyond (walk (with_event first m) g.more) (first_of first m ∷ []) = ap (walk m) g.whole ∙ walk_of_step m first g.more rest g.begun in
    record {
      one =
          ap (λ w. is_one_step w.passed) earlier_walk
          ∙ (one_alike newer (first_of first m) (first_of first there) refl refl ∙ (sym (ap (λ w. is_one_step w.passed) later_walk) ∙ s.one));
      oldest = ap (λ w. oldest w.passed) earlier_walk ∙ oldest_behind newer (first_of first m) [];
      now =
          ap (λ w. at_rest w.now) earlier_walk
          ∙ (sym (ap (λ w. at_rest w.now) later_walk) ∙ (s.now ∙ same_stepped m n k first e events heard number));
    }
