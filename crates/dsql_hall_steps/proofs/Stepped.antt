-- What a client's thread does next, as the hall lets it take a step. The argument compares the hall before and after. Only
-- a call that enters adds to what its client made.
use Rattle.std.proofs.Common.{◌≡◌, ◌≢◌, ◌<◌, inl, inr, ℕ, Bool, true, false, List, length, None, is_some, refl, ap, sym, subst, ◌∙◌}
use Rattle.dsql_engine_laws.specs.history.declared.event.Event.{Event}
use Rattle.dsql_engine_laws.specs.history.declared.event.Event.TheVariants.{Entered}
use Rattle.dsql_engine_laws.specs.history.declared.event.Op.{Op}
use Rattle.dsql_engine_laws.specs.history.Legal.{Lawful}
use Rattle.dsql_engine_laws.specs.history.Readers.Calls.{is_busy}
use Rattle.dsql_engine_laws.specs.history.Readers.Clients.{call_of, made_by}
use Rattle.dsql_engine_laws.specs.laws_ends.Over.{may_move}
use Rattle.dsql_engine_laws.specs.follows.Moments.{Moment}
use Rattle.dsql_engine_laws.specs.laws_ends.Steps.{IsStep, begins_step_of}
use Rattle.dsql_engine_laws.proofs.laws_ends.Steps.{entry_made_others, step_made}
use Rattle.dsql_player_wires.specs.Seats.{seat}
use Rattle.dsql_player.specs.Playing.{IsAt, Playing}
use Rattle.dsql_player.specs.Stepping.{IsEntryOf, IsOfItself, TakesStep, Wakes}
use Rattle.dsql_player.proofs.Grouped.{Grouped}
use Rattle.dsql_player.proofs.Whose.{begins_itself}
use Rattle.dsql_hall_steps.specs.Halls.{InHall}
use Rattle.dsql_hall_steps.specs.Steps.{EntersOrWakes, HasToWait, StepsOnce}
use Rattle.dsql_hall_steps.proofs.Moving.{grouped_of}

-- What the other clients made.

-- Holds if no client but one has made a call in between.
abbrev pub MakesAlone : ℕ → List Event → List Event → Type 0
MakesAlone me past now = (other : ℕ) → other ≢ me → made_by now other ≡ made_by past other

step_of : (past now : List Event) (first : Event) (n : ℕ) → (g : Grouped past now first n) → Lawful now → IsStep past g.events first n
step_of past now first n g l = record { lawful = subst Lawful g.grown l; later = g.group.more; group = g.group.whole; of_call = g.group.later }

entry_alone : (me n : ℕ) (op : Op) (past now : List Event) → Grouped past now (Entered me n op) n → Lawful now → MakesAlone me past now
entry_alone me n op past now g l other apart =
    ap (λ H. made_by H other) g.grown ∙ entry_made_others past g.events me n other op (step_of past now (Entered me n op) n g l) apart

-- A client has entered its line.
pub enters_alone : (me : ℕ) (m : Moment) (p q : Playing) → IsAt m p → ((at : Moment) → IsAt at p → TakesStep at p q (IsEntryOf me)) → Lawful q.past → MakesAlone me p.past q.past
enters_alone me m p q at enters l =
    let t = enters m at in
    entry_alone me t.call t.kind_is.op p.past q.past
    (subst (λ (e : Event). Grouped p.past q.past e t.call) t.kind_is.entered (grouped_of m p q (IsEntryOf me) t)) l

-- A client's call was woken.
pub wakes_alone : (shows : Bool) (me n : ℕ) (m : Moment) (p q : Playing) → IsAt m p → ((at : Moment) → IsAt at p → Wakes shows at n p q) → Lawful q.past → MakesAlone me p.past q.past
wakes_alone true me n m p q at wakes l other apart =
    let t : TakesStep m p q (IsOfItself n) = wakes m at in
    let g = grouped_of m p q (IsOfItself n) t in
    ap (λ H. made_by H other) g.grown ∙ step_made p.past g.events t.first t.call other (step_of p.past q.past t.first t.call g l) (subst (λ k. begins_step_of k t.first ≡ true) (sym t.kind_is.of_it) (begins_itself n t.first t.kind_is.by_itself))
wakes_alone false me n m p q at wakes l other apart =
    let w : Wakes false m n p q = wakes m at in
    ap (λ H. made_by H other) w.0

-- A step that the history shows.
pub shown : {W : Type 0} (me : ℕ) (h before : InHall W) (q : Playing) → h ≡ before → before.stopped ≡ None → MakesAlone me h.player.past q.past → EntersOrWakes me h.player q
    → length h.player.past < length q.past → StepsOnce me before (record h { player = q })
shown {W} me h before q was runs alone its grows = record {
  runs = ap (λ b. b.stopped) was ∙ runs;
  only = ap (λ (b : InHall W). record b { player = q }) was;
  its = subst (λ b. EntersOrWakes me b.player q) was its;
  mine = subst (λ b. MakesAlone me b.player.past q.past) was alone;
  step = inl (subst (λ b. length b.player.past < length q.past) was grows);
}

-- A woken call shows in the history, or has leave.
pub woken : {W : Type 0} (me : ℕ) (shows : Bool) (h before : InHall W) (q : Playing) → h ≡ before → before.stopped ≡ None → MakesAlone me h.player.past q.past
    → ((m : Moment) → IsAt m h.player → Wakes shows m (call_of h.player.past me) h.player q) → (shows ≡ true → length h.player.past < length q.past)
    → (shows ≡ false → is_some (seat q.seats me).permit ≡ true) → StepsOnce me before (record h { player = q })
woken {W} me true h before q was runs alone wakes grows leave = shown me h before q was runs alone (inr (true, wakes)) (grows refl)
woken {W} me false h before q was runs alone wakes grows leave = record {
  runs = ap (λ b. b.stopped) was ∙ runs;
  only = ap (λ (b : InHall W). record b { player = q }) was;
  its = subst (λ b. EntersOrWakes me b.player q) was (inr (false, wakes));
  mine = subst (λ b. MakesAlone me b.player.past q.past) was alone;
  step = inr (leave refl);
}

-- A call that has no leave and may not move has to wait.
pub waits_for_turn : {W : Type 0} (me : ℕ) (h before : InHall W) → h ≡ before → before.stopped ≡ None → is_busy me before.player.past ≡ true → is_some (seat h.player.seats me).permit ≡ false
    → may_move h.player.past h.player.flights (call_of h.player.past me) ≡ false → HasToWait me before before
waits_for_turn me h before was runs busy parked still = record {
  same = refl;
  runs = runs;
  busy = busy;
  why = inr (
    subst (λ b. is_some (seat b.player.seats me).permit ≡ false) was parked,
    subst (λ b. may_move b.player.past b.player.flights (call_of b.player.past me) ≡ false) was still,
  );
}
