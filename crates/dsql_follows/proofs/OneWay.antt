-- Proves that a history follows a script in at most one way. The argument is that the events before a line
-- settle the line's part.
use Rattle.std.proofs.Common.{◌≡◌, ◌⊎◌, inl, inr, ⊎_elim, ℕ, ◌==◌, Bool, true, false, not, ◌&&◌, ◌||◌, cond, List, [], ◌∷◌, ◌++◌, map, Option, Some, None, is_none, refl, ap, sym, ◌∙◌, subst}
use Rattle.std.proofs.lemmas.List.{append-nil, append_assoc, append_cancel_right}
use Rattle.std.specs.List.{list_all}
use Rattle.dsql_history.specs.journal.Readers.{is_empty}
use Rattle.dsql_history.specs.declared.event.Event.{Event}
use Rattle.dsql_history.specs.declared.event.Event.TheVariants.{Run, Entered, Heard, Ticked, SetLimit, Ended}
use Rattle.dsql_history.specs.declared.event.Op.{Op}
use Rattle.dsql_history.specs.declared.event.Control.{Control}
use Rattle.dsql_history.specs.declared.record.Stand.{Stand}
use Rattle.dsql_history.specs.declared.record.Stand.TheVariants.{Sends}
use Rattle.dsql_history.specs.Rules.Stands.{stand}
use Rattle.dsql_follows.specs.Turns.{is_it, can_move, first_chore, next_client, is_turn_of, has_run_out, comes_in_turn}
use Rattle.dsql_follows.specs.declared.line.Line.{Line}
use Rattle.dsql_follows.specs.declared.line.Line.TheVariants as lines
use Rattle.dsql_follows.specs.declared.line.Line.TheVariants.{Skip, Fault, Client, Start, Step, StepHouse}
use Rattle.dsql_history.specs.Readers.Clients.{call_of, is_free, client_of}
use Rattle.dsql_history.specs.Rules.Flights.{is_in_flight}
use Rattle.dsql_follows.specs.Moments.{Moment, Passed, met, at_end, stepping, begins_step, at_rest, rested, walk, kept}
use Rattle.dsql_follows.specs.Sentences.{Part, passed, oldest, later, begins, begins_with_step, come_in_turn, after_part, is_one_step, enters_now, is_entry_of, is_set_in, hears, goes_on_by_itself, wakes, starts_at, steps_at, steps_free, steps_call, carries, tidies_at}
use Rattle.dsql_follows.specs.Follows.{Played, FollowsLine, FollowsLines, Follows, told, script, history, after}
use Rattle.dsql_follows.proofs.Bools.{both, not_true, first_false, second_false, either_false}
use Rattle.dsql_follows.proofs.Walks.{passed_goes_on}

-- If nobody has the turn, no step comes in its turn.

nobody : (o : Option ℕ) (n : ℕ) → is_none o ≡ true → is_it o n ≡ false
nobody None n h = refl
nobody (Some m) n h = absurd cc

no_turn : (m : Moment) (client : ℕ) → has_run_out m ≡ true → is_turn_of m client ≡ false
no_turn m client h =
    second_false (is_none (first_chore m)) (is_it (next_client m) client) (nobody (next_client m) client (both (is_none (first_chore m)) (is_none (next_client m)) h).1)

none_in_turn : (m : Moment) (e : Event) → m.released ≡ false → has_run_out m ≡ true → comes_in_turn m e ≡ false
none_in_turn m (Heard e) r h =
    either_false (e.call_no == 0) _ _
    (second_false (e.call_no == 0) (is_it (first_chore m) e.conn) (nobody (first_chore m) e.conn (both (is_none (first_chore m)) (is_none (next_client m)) h).0))
    (first_false (is_turn_of m (client_of m.past e.call_no)) _ (no_turn m (client_of m.past e.call_no) h))
none_in_turn m (Entered client n op) r h = first_false (is_turn_of m client) _ (no_turn m client h)
none_in_turn m Ended r h = first_false m.released _ r
none_in_turn m (Ticked now) r h = refl
none_in_turn m (SetLimit setting n) r h = refl
none_in_turn m (Run version caps) r h = refl
none_in_turn m e r h = first_false (is_turn_of m (client_of m.past (stepping m e))) _ (no_turn m (client_of m.past (stepping m e)) h)

-- Facts about lists of events.

all_here : (f : Passed → Bool) (xs : List Passed) (p : Passed) (ys : List Passed) → list_all f (xs ++ p ∷ ys) ≡ true → f p ≡ true
all_here f [] p ys h = (both (f p) (list_all f ys) h).0
all_here f (x ∷ xs) p ys h = all_here f xs p ys (both (f x) (list_all f (xs ++ p ∷ ys)) h).1

later_here : (xs : List Passed) (p b : Passed) (ys : List Passed) → later (xs ++ p ∷ b ∷ ys) ≡ xs ++ p ∷ later (b ∷ ys)
later_here [] p b ys = refl
later_here (x ∷ []) p b ys = refl
later_here (x ∷ z ∷ zs) p b ys = ap (λ l. x ∷ l) (later_here (z ∷ zs) p b ys)

-- Holds if the sentence stops before a step. If it is true of some events, and true with more, the first of these
-- begins no step.
Stops : (List Passed → Bool) → Type 0
Stops f = (xs : List Passed) (p : Passed) (ys : List Passed) → f (xs ++ p ∷ ys) ≡ true → f ys ≡ true → p.begins ≡ false

stops_empty : Stops (λ xs. is_empty xs)
unfolding Stops
stops_empty [] p ys h k = absurd cc
stops_empty (x ∷ xs) p ys h k = absurd cc

stops_one : Stops (λ xs. is_one_step xs)
unfolding Stops
stops_one xs p [] h k = absurd cc
stops_one xs p (b ∷ ys) h k =
    let a = both (not (is_empty (xs ++ p ∷ b ∷ ys))) (begins (oldest (xs ++ p ∷ b ∷ ys)) && list_all (λ q. not q.begins) (later (xs ++ p ∷ b ∷ ys))) h in
    let c = both (begins (oldest (xs ++ p ∷ b ∷ ys))) (list_all (λ q. not q.begins) (later (xs ++ p ∷ b ∷ ys))) a.1 in
    not_true p.begins (all_here (λ q. not q.begins) xs p (later (b ∷ ys)) (subst (λ l. list_all (λ q. not q.begins) l ≡ true) (later_here xs p b ys) c.1))

stops_either : (c : Bool) (f g : List Passed → Bool) → Stops f → Stops g → Stops (λ xs. cond c (f xs) (g xs))
unfolding Stops
stops_either true f g a b = a
stops_either false f g a b = b

stops_both : (f g : List Passed → Bool) → Stops f → Stops (λ xs. f xs && g xs)
unfolding Stops
stops_both f g a xs p ys h k = a xs p ys (both (f (xs ++ p ∷ ys)) (g (xs ++ p ∷ ys)) h).0 (both (f ys) (g ys) k).0

stops_at_start : (m : Moment) (client : ℕ) (op : Op) → Stops (λ xs. starts_at m xs (Start client op))
stops_at_start m client op = stops_either (enters_now m client) (λ xs. is_one_step xs) (λ xs. is_empty xs) stops_one stops_empty

stops_waking : (n : ℕ) (it : Option Stand) → Stops (λ xs. wakes n xs it)
stops_waking n (Some (Sends c)) = stops_empty
stops_waking n _ = stops_both (λ xs. is_one_step xs) (λ xs. goes_on_by_itself n (oldest xs)) stops_one

stops_of_call : (m : Moment) (n : ℕ) → Stops (λ xs. steps_call m xs n)
stops_of_call m n =
    stops_either (is_in_flight n m.flights) (λ xs. is_one_step xs && hears n (oldest xs)) (λ xs. cond (can_move m n) (wakes n xs (stand m.past n)) (is_empty xs))
    (stops_both (λ xs. is_one_step xs) (λ xs. hears n (oldest xs)) stops_one)
    (stops_either (can_move m n) (λ xs. wakes n xs (stand m.past n)) (λ xs. is_empty xs) (stops_waking n (stand m.past n)) stops_empty)

stops_at_step : (m : Moment) (client : ℕ) → Stops (λ xs. steps_at m xs (Step client))
stops_at_step m client =
    stops_either (is_free m.past client) (λ xs. steps_free m xs client) (λ xs. steps_call m xs (call_of m.past client))
    (stops_either (is_empty (kept m client)) (λ xs. is_empty xs) (λ xs. is_one_step xs && is_entry_of client (oldest xs)) stops_empty
    (stops_both (λ xs. is_one_step xs) (λ xs. is_entry_of client (oldest xs)) stops_one))
    (stops_of_call m (call_of m.past client))

stops_at_house : (m : Moment) → Stops (λ xs. tidies_at m xs StepHouse)
stops_at_house m =
    stops_either (is_none (first_chore m)) (λ xs. is_empty xs) (λ xs. is_one_step xs && carries m (oldest xs)) stops_empty
    (stops_both (λ xs. is_one_step xs) (λ xs. carries m (oldest xs)) stops_one)

-- Parts that run on.

stops_in : (f : List Passed → Bool) → Stops f → (m : Moment) (zs : List Event) (e : Event) (qe : List Event) → f (passed m (zs ++ e ∷ qe)) ≡ true → f (passed m qe) ≡ true
    → begins_step (walk m qe).now e ≡ false
unfolding Stops
stops_in f s m zs e qe h k =
    s (walk (walk m (e ∷ qe)).now zs).passed (record { event = e; before = rested (begins_step (walk m qe).now e) (walk m qe).now; begins = begins_step (walk m qe).now e }) (passed m qe)
    (subst (λ l. f l ≡ true) (passed_goes_on m zs (e ∷ qe)) h)
    k

-- If nobody has the turn, an event that comes in its turn begins no step.
begins_nothing : (m : Moment) (e : Event) (b : Bool) → not b || comes_in_turn (rested b m) e ≡ true → m.released ≡ false → has_run_out (at_rest m) ≡ true → b ≡ false
begins_nothing m e false h r k = refl
begins_nothing m e true h r k =
    let f : comes_in_turn (at_rest m) e ≡ false = none_in_turn (at_rest m) e r k in
    let t : comes_in_turn (at_rest m) e ≡ true = h in
    absurd cc

own_apart : (own : Bool) (xs : List Passed) (p : Passed) (ys : List Passed) → come_in_turn (cond own (later (xs ++ p ∷ ys)) (xs ++ p ∷ ys)) ≡ true → (own ≡ true → is_empty ys ≡ false)
    → not p.begins || comes_in_turn p.before p.event ≡ true
own_apart false xs p ys h k = all_here (λ q. not q.begins || comes_in_turn q.before q.event) xs p ys h
own_apart true xs p [] h k = let f : true ≡ false = k refl in absurd cc
own_apart true xs p (b ∷ ys) h k =
    all_here (λ q. not q.begins || comes_in_turn q.before q.event) xs p (later (b ∷ ys))
    (subst (λ l. come_in_turn l ≡ true) (later_here xs p b ys) h)

runs_no_further : (m : Moment) (own : Bool) (zs : List Event) (e : Event) (qe : List Event) → come_in_turn (cond own (later (passed m (zs ++ e ∷ qe))) (passed m (zs ++ e ∷ qe))) ≡ true
    → (own ≡ true → is_empty (passed m qe) ≡ false) → (walk m qe).now.released ≡ false → has_run_out (at_rest (walk m qe).now) ≡ true → begins_step (walk m qe).now e ≡ false
runs_no_further m own zs e qe h k r o =
    begins_nothing (walk m qe).now e (begins_step (walk m qe).now e)
    (own_apart own (walk (walk m (e ∷ qe)).now zs).passed (record { event = e; before = rested (begins_step (walk m qe).now e) (walk m qe).now; begins = begins_step (walk m qe).now e })
    (passed m qe) (subst (λ l. come_in_turn (cond own (later l) l) ≡ true) (passed_goes_on m zs (e ∷ qe)) h) k)
    r
    o

released_after : (m : Moment) (events : List Event) → (walk m events).now.released ≡ m.released
released_after m [] = refl
released_after m (e ∷ rest) = released_after m rest

is_set_somewhere : (control : Control) (xs : List Passed) → is_set_in control (oldest xs) ≡ true → is_empty xs ≡ false
is_set_somewhere control [] h = absurd cc
is_set_somewhere control (x ∷ xs) h = refl

is_entered_somewhere : (now : Bool) (client : ℕ) (xs : List Passed) → not now || is_entry_of client (oldest xs) ≡ true → now ≡ true → is_empty xs ≡ false
is_entered_somewhere false client xs h k = absurd cc
is_entered_somewhere true client [] h k = absurd cc
is_entered_somewhere true client (x ∷ xs) h k = refl

-- If a part follows its line, a part with one more step doesn't.
no_step_more : (m : Moment) (line : Line) (zs : List Event) (e : Event) (qe : List Event) → m.released ≡ false
    → FollowsLine m (record { line = line; events = zs ++ e ∷ qe }) → FollowsLine m (record { line = line; events = qe }) → begins_step (walk (met line m) qe).now e ≡ false
no_step_more m Skip zs e qe r f g = runs_no_further (met Skip m) false zs e qe f.in_turn (λ k. absurd cc) (released_after (met Skip m) qe ∙ r) g.run_out
no_step_more m (Fault conn nth what) zs e qe r f g =
    runs_no_further (met (Fault conn nth what) m) false zs e qe f.in_turn (λ k. absurd cc) (released_after (met (Fault conn nth what) m) qe ∙ r) g.run_out
no_step_more m (lines.Control control) zs e qe r f g =
    runs_no_further (met (lines.Control control) m) true zs e qe f.in_turn (λ k. is_set_somewhere control (passed (met (lines.Control control) m) qe) g.set)
    (released_after (met (lines.Control control) m) qe ∙ r) g.run_out
no_step_more m (Client client op) zs e qe r f g =
    runs_no_further (met (Client client op) m) (enters_now m client) zs e qe f.in_turn
    (is_entered_somewhere (enters_now m client) client (passed (met (Client client op) m) qe) g.entered)
    (released_after (met (Client client op) m) qe ∙ r) g.run_out
no_step_more m (Start client op) zs e qe r f g = stops_in (λ xs. starts_at m xs (Start client op)) (stops_at_start m client op) (met (Start client op) m) zs e qe f.started g.started
no_step_more m (Step client) zs e qe r f g = stops_in (λ xs. steps_at m xs (Step client)) (stops_at_step m client) (met (Step client) m) zs e qe f.stepped g.stepped
no_step_more m StepHouse zs e qe r f g = stops_in (λ xs. tidies_at m xs StepHouse) (stops_at_house m) (met StepHouse m) zs e qe f.tidied g.tidied

-- Parts that begin with a step.

oldest_last : (m : Moment) (xs : List Event) (e : Event) → begins_with_step m (xs ++ e ∷ []) ≡ begins_step m e
oldest_last m [] e = refl
oldest_last m (x ∷ []) e = refl
oldest_last m (x ∷ y ∷ ys) e = oldest_last m (y ∷ ys) e

oldest_kept : (m : Moment) (xs : List Event) (e : Event) (es : List Event) → begins_with_step m (xs ++ e ∷ es) ≡ begins_with_step m (e ∷ es)
oldest_kept m [] e es = refl
oldest_kept m (x ∷ []) e es = refl
oldest_kept m (x ∷ y ∷ ys) e es = oldest_kept m (y ∷ ys) e es

same_when_read : (m : Moment) (line : Line) (xs : List Event) → begins_with_step (met line m) xs ≡ begins_with_step m xs
same_when_read m line [] = refl
same_when_read m line (e ∷ []) = refl
same_when_read m line (e ∷ f ∷ rest) = same_when_read m line (f ∷ rest)

same_after_nothing : (m : Moment) (line : Line) (xs : List Event) → begins_with_step (after_part m (record { line = line; events = [] })) xs ≡ begins_with_step m xs
same_after_nothing m line [] = refl
same_after_nothing m line (e ∷ []) = refl
same_after_nothing m line (e ∷ f ∷ rest) = same_after_nothing m line (f ∷ rest)

both_begin : (m : Moment) (line : Line) (es xs : List Event) → begins_with_step (met line m) es ≡ true → begins_with_step (after_part m (record { line = line; events = es })) xs ≡ true
    → begins_with_step m (xs ++ es) ≡ true
both_begin m line [] xs h k = subst (λ l. begins_with_step m l ≡ true) (sym (append-nil xs)) (sym (same_after_nothing m line xs) ∙ k)
both_begin m line (e ∷ es) xs h k = oldest_kept m xs e es ∙ (sym (same_when_read m line (e ∷ es)) ∙ h)

-- Two ways to cut the same events.

abbrev head_or : {X : Type 0} → List X → X → X
head_or [] d = d
head_or (x ∷ xs) d = x

abbrev tail : {X : Type 0} → List X → List X
tail [] = []
tail (x ∷ xs) = xs

-- Of two cuts of the same events, one is at or before the other.
cuts : (xs ps ys qs : List Event) → xs ++ ps ≡ ys ++ qs → ((zs : List Event) × (ps ≡ zs ++ qs) × (xs ++ zs ≡ ys)) ⊎ ((zs : List Event) × (qs ≡ zs ++ ps) × (ys ++ zs ≡ xs))
cuts [] ps ys qs h = inl (ys, h, refl)
cuts (x ∷ xs) ps [] qs h = inr (x ∷ xs, sym h, refl)
cuts (x ∷ xs) ps (y ∷ ys) qs h =
    let p : x ≡ y = ap (λ l. head_or l x) h in
    let t : xs ++ ps ≡ ys ++ qs = ap (λ l. tail l) h in
    ⊎_elim
    (λ f. inl (f.0, f.1, ap (λ l. x ∷ l) f.2 ∙ ap (λ k. k ∷ ys) p))
    (λ f. inr (f.0, f.1, ap (λ l. y ∷ l) f.2 ∙ ap (λ k. k ∷ xs) (sym p)))
    (cuts xs ps ys qs t)

last_of : (x : Event) (xs : List Event) → (front : List Event) × (e : Event) × (x ∷ xs ≡ front ++ e ∷ [])
last_of x [] = ([], x, refl)
last_of x (y ∷ ys) = let r = last_of y ys in (x ∷ r.0, r.1, ap (λ l. x ∷ l) r.2)

-- If two parts follow the same line, neither is longer, provided that what comes after the shorter one begins
-- with a step.
no_longer : (m : Moment) (line : Line) (zs ps qs xs ys : List Event) → m.released ≡ false → FollowsLine m (record { line = line; events = ps }) → FollowsLine m (record { line = line; events = qs })
    → ps ≡ zs ++ qs → xs ++ zs ≡ ys → begins_with_step (after_part m (record { line = line; events = qs })) ys ≡ true → (ps ≡ qs) × (xs ≡ ys)
no_longer m line [] ps qs xs ys r f g h k b = (h, sym (append-nil xs) ∙ k)
no_longer m line (z ∷ zs) ps qs xs ys r f g h k b =
    let v = last_of z zs in
    let cut : ps ≡ v.0 ++ v.1 ∷ qs = h ∙ (ap (λ l. l ++ qs) v.2 ∙ append_assoc v.0 (v.1 ∷ []) qs) in
    let none : begins_step (walk (met line m) qs).now v.1 ≡ false =
    no_step_more m line v.0 v.1 qs r (subst (λ l. FollowsLine m (record { line = line; events = l })) cut f) g in
    let ends : ys ≡ (xs ++ v.0) ++ v.1 ∷ [] = sym k ∙ (ap (λ l. xs ++ l) v.2 ∙ sym (append_assoc xs v.0 (v.1 ∷ []))) in
    let some : begins_step (walk (met line m) qs).now v.1 ≡ true =
    sym (oldest_last (after_part m (record { line = line; events = qs })) (xs ++ v.0) v.1) ∙ subst (λ l. begins_with_step (after_part m (record { line = line; events = qs })) l ≡ true) ends b in
    absurd cc

same_part : (m : Moment) (line : Line) (ps qs xs ys : List Event) → m.released ≡ false → FollowsLine m (record { line = line; events = ps }) → FollowsLine m (record { line = line; events = qs })
    → xs ++ ps ≡ ys ++ qs → begins_with_step (after_part m (record { line = line; events = ps })) xs ≡ true → begins_with_step (after_part m (record { line = line; events = qs })) ys ≡ true
    → (ps ≡ qs) × (xs ≡ ys)
same_part m line ps qs xs ys r f g h b c =
    ⊎_elim
    (λ k. no_longer m line k.0 ps qs xs ys r f g k.1 k.2 c)
    (λ k. let w = no_longer m line k.0 qs ps ys xs r g f k.1 k.2 b in (sym w.0, sym w.1))
    (cuts xs ps ys qs h)

released_at : (run : Event) (parts : List Part) → (after run parts).released ≡ false
released_at run [] = refl
released_at run (part ∷ earlier) = released_after (met part.line (after run earlier)) part.events ∙ released_at run earlier

same_parts : (run : Event) (ps qs : List Part) (xs ys : List Event) → FollowsLines run ps → FollowsLines run qs → map (λ part. part.line) ps ≡ map (λ part. part.line) qs
    → xs ++ told run ps ≡ ys ++ told run qs → begins_with_step (after run ps) xs ≡ true → begins_with_step (after run qs) ys ≡ true → (ps ≡ qs) × (xs ≡ ys)
same_parts run [] [] xs ys f g l h b c = (refl, append_cancel_right xs ys (run ∷ []) h)
same_parts run [] (q ∷ qs) xs ys f g l h b c = let k : true ≡ false = ap (λ lines. is_empty lines) l in absurd cc
same_parts run (p ∷ ps) [] xs ys f g l h b c = let k : false ≡ true = ap (λ lines. is_empty lines) l in absurd cc
same_parts run (p ∷ ps) (q ∷ qs) xs ys f g l h b c =
    let i =
    same_parts run ps qs (xs ++ p.events) (ys ++ q.events) f.0 g.0 (ap (λ lines. tail lines) l)
    (append_assoc xs p.events (told run ps) ∙ (h ∙ sym (append_assoc ys q.events (told run qs))))
    (both_begin (after run ps) p.line p.events xs f.1.steps.begins b)
    (both_begin (after run qs) q.line q.events ys g.1.steps.begins c) in
    let line : p.line ≡ q.line = ap (λ lines. head_or lines p.line) l in
    let there : FollowsLine (after run qs) p = subst (λ earlier. FollowsLine (after run earlier) p) i.0 f.1 in
    let begin_there : begins_with_step (after_part (after run qs) p) xs ≡ true = subst (λ earlier. begins_with_step (after_part (after run earlier) p) xs ≡ true) i.0 b in
    let w =
    same_part (after run qs) q.line p.events q.events xs ys (released_at run qs)
    (subst (λ k. FollowsLine (after run qs) (record { line = k; events = p.events })) line there)
    g.1
    i.1
    (subst (λ k. begins_with_step (after_part (after run qs) (record { line = k; events = p.events })) xs ≡ true) line begin_there)
    c in
    let same : p ≡ q = ap (λ k. record { line = k; events = p.events }) line ∙ ap (λ k. record { line = q.line; events = k }) w.0 in
    (ap (λ k. k ∷ ps) same ∙ ap (λ k. q ∷ k) i.0, w.1)

-- Returns the first event of a history.
abbrev first_of_all : List Event → Event → Event
first_of_all [] d = d
first_of_all (e ∷ rest) d = first_of_all rest e

first_over : (xs rest : List Event) (run : Event) → ((d : Event) → first_of_all rest d ≡ run) → (d : Event) → first_of_all (xs ++ rest) d ≡ run
first_over [] rest run h d = h d
first_over (x ∷ xs) rest run h d = first_over xs rest run h x

first_told : (run : Event) (parts : List Part) (d : Event) → first_of_all (told run parts) d ≡ run
first_told run [] d = refl
first_told run (part ∷ earlier) d = first_over part.events (told run earlier) run (first_told run earlier) d

first_is_run : (it : Played) (d : Event) → first_of_all (history it) d ≡ it.run
first_is_run it d = first_over it.last (told it.run it.parts) it.run (first_told it.run it.parts) d

same_at_end : (m : Moment) (xs : List Event) → begins_with_step (at_end m) xs ≡ begins_with_step m xs
same_at_end m [] = refl
same_at_end m (e ∷ []) = refl
same_at_end m (e ∷ f ∷ rest) = same_at_end m (f ∷ rest)

last_begins : (it : Played) → Follows it → begins_with_step (after it.run it.parts) it.last ≡ true
last_begins it f = sym (same_at_end (after it.run it.parts) it.last) ∙ f.end.steps.begins

pub one_way : (a b : Played) → Follows a → Follows b → script a ≡ script b → history a ≡ history b → a ≡ b
one_way a b f g s h =
    let r : b.run ≡ a.run = sym (first_is_run b a.run) ∙ (ap (λ l. first_of_all l a.run) (sym h) ∙ first_is_run a a.run) in
    let w =
    same_parts a.run a.parts b.parts a.last b.last f.lines (subst (λ run. FollowsLines run b.parts) r g.lines) s
    (h ∙ ap (λ run. b.last ++ told run b.parts) r)
    (last_begins a f)
    (subst (λ run. begins_with_step (after run b.parts) b.last ≡ true) r (last_begins b g)) in
    ap (λ run. record { run = run; parts = a.parts; last = a.last }) (sym r)
    ∙ (ap (λ parts. record { run = b.run; parts = parts; last = a.last }) w.0 ∙ ap (λ last. record { run = b.run; parts = b.parts; last = last }) w.1)
