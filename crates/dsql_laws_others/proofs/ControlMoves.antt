-- A moment or a limit, with the moves that it makes due, touches no call. These moves close idle connections
-- and begin openings for no request of their own.
use Rattle.std.proofs.Common.{◌≡◌, ℕ, zero, suc, ◌+◌, ◌-◌, ◌==◌, Bool, true, false, ◌&&◌, cond, List, [], ◌∷◌, ◌++◌, length, map, take, Option, Some, None, refl, sym, ap, ◌∙◌}
use Rattle.std.specs.Prelude.{drop}
use Rattle.std.proofs.lemmas.List.{take-append-drop}
use Rattle.dsql_laws_calls.specs.pool.declared.conn.Place.{Place}
use Rattle.dsql_laws_calls.specs.pool.declared.conn.Place.TheVariants.{Idle}
use Rattle.dsql_laws_calls.specs.pool.declared.moves.CloseCause.{CloseCause}
use Rattle.dsql_laws_calls.specs.pool.declared.moves.CloseCause.TheVariants.{IdleFull}
use Rattle.dsql_laws_calls.specs.pool.declared.moves.Move.{Move}
use Rattle.dsql_laws_calls.specs.pool.declared.moves.Move.TheVariants.{OpenStart, CloseStart}
use Rattle.dsql_laws_calls.specs.pool.Calls.{then_openings, open_set, idle_set, lifetime_set, idle_time_set}
use Rattle.dsql_laws_calls.specs.pool.Changes.{closing}
use Rattle.dsql_laws_calls.specs.pool.Decisions.{openings, due_openings, closings_of_setting, closings_of_tick}
use Rattle.dsql_laws_calls.specs.pool.Moved.{begun, moved, made, ticked}
use Rattle.dsql_laws_calls.specs.pool.Places.{is_idle}
use Rattle.dsql_laws_calls.specs.pool.Pooled.{Pooled, next_number, place_at, without}
use Rattle.dsql_laws_calls.specs.pool.Rest.{times}
use Rattle.dsql_laws_calls.proofs.pool.Placed.{Placed, placed_away}
use Rattle.dsql_laws_calls.specs.history.declared.event.Control.{Control}
use Rattle.dsql_laws_calls.specs.history.declared.event.Setting.TheVariants.{MaxOpen, MaxIdle, MaxLife, MaxIdleTime}
use Rattle.dsql_laws_calls.specs.history.declared.event.Control.TheVariants.{Tick, Set}
use Rattle.dsql_laws_calls.specs.history.Readers.Owed.{controlled, owed}
use Rattle.dsql_laws_calls.specs.history.Readers.Pool.{with_control, pool, place, with_move}
use Rattle.dsql_laws_calls.proofs.laws.Tests.{both, together, same_number, same_itself}
use Rattle.dsql_laws_calls.proofs.laws.Able.{placed_once, without_first}
use Rattle.dsql_laws_calls.proofs.laws.Outdated.{close_idle, outdated_close}
use Rattle.dsql_laws_calls.specs.history.declared.event.Event.{Event}
use Rattle.dsql_laws_calls.specs.history.declared.event.Event.TheVariants.{Pool, Ticked, SetLimit}
use Rattle.dsql_laws_calls.specs.history.Readers.Controls.{told}
use Rattle.dsql_laws_calls.specs.history.Rules.Line.{due_for}
use Rattle.dsql_laws_calls.specs.history.Rules.Settled.{uses_what_is_lent, calls_stand_but}
use Rattle.dsql_laws_calls.specs.history.Legal.{Lawful}
use Rattle.dsql_laws_calls.specs.laws.OwedMade.{with_moves}
use Rattle.dsql_laws_calls.proofs.laws.AtRest.{before_event, rested}
use Rattle.dsql_laws_others.proofs.Untouched.{due_control, used_control, goes_on_control}
use Rattle.dsql_laws_others.proofs.Openings.{Silent, silent, silent_opens, due_opens, used_opens, goes_on_opens_but}
use Rattle.dsql_laws_others.proofs.Closings.{due_closes, used_closes, goes_on_closes}

-- Is true if the move closes an idle connection, or begins an opening for no request of its own.
abbrev pub is_quiet : Pooled → Move → Bool
is_quiet p (CloseStart c why) = is_idle (place_at p c)
is_quiet p (OpenStart c n) = n == 0
is_quiet p _ = false

abbrev pub are_quiet : List Move → Pooled → Bool
are_quiet [] p = true
are_quiet (m ∷ ms) p = is_quiet p m && are_quiet ms (moved m p)

quiet-append : (ms ns : List Move) (p : Pooled) → are_quiet ms p ≡ true → are_quiet ns (made ms p) ≡ true → are_quiet (ms ++ ns) p ≡ true
quiet-append [] ns p h k = k
quiet-append (m ∷ ms) ns p h k =
    let a = both (is_quiet p m) (are_quiet ms (moved m p)) h in together (is_quiet p m) (are_quiet (ms ++ ns) (moved m p)) a.0 (quiet-append ms ns (moved m p) a.1 k)

pub openings_quiet : (k c : ℕ) (p : Pooled) → are_quiet (openings k c) p ≡ true
openings_quiet zero c p = refl
openings_quiet (suc k) c p = openings_quiet k (c + 1) (begun None p)

pub closings_quiet : (why : CloseCause) (cs more : List ℕ) (p : Pooled) → p.idle ≡ cs ++ more → Placed p.idle p.conns → are_quiet (map (λ c. CloseStart c why) cs) p ≡ true
closings_quiet why [] more p is h = refl
closings_quiet why (c ∷ cs) more p is h =
    let first : times c (c ∷ (cs ++ more)) ≡ suc (times c (cs ++ more)) = ap (λ (b : Bool). cond b (suc (times c (cs ++ more))) (times c (cs ++ more))) (same_itself c) in
    let once = placed_once (is_idle (place_at p c)) (times c (cs ++ more)) (sym first ∙ (ap (times c) (sym is) ∙ h c)) in
    let left : without c p.idle ≡ cs ++ more = ap (without c) is ∙ without_first c (cs ++ more) once.1 in
    let rest = closings_quiet why cs more (moved (CloseStart c why) p) left (placed_away c closing (λ _. refl) (λ _. refl) p.idle p.conns h) in
    together (is_idle (place_at p c)) (are_quiet (map (λ d. CloseStart d why) cs) (moved (CloseStart c why) p)) once.0 rest

surplus_quiet : (p : Pooled) → Placed p.idle p.conns → are_quiet (closings_of_setting p) p ≡ true
surplus_quiet p h = let k = length p.idle - p.limits.max_idle in closings_quiet IdleFull (take k p.idle) (drop k p.idle) p (sym (take-append-drop k p.idle)) h

then_quiet : (ms : List Move) (p : Pooled) → are_quiet ms p ≡ true → are_quiet (then_openings ms p) p ≡ true
then_quiet ms p h = let q = made ms p in quiet-append ms (openings (due_openings q) (next_number q)) p h (openings_quiet (due_openings q) (next_number q) q)

closing_idle_quiet : (ms : List Move) (p : Pooled) → close_idle ms p ≡ true → are_quiet ms p ≡ true
closing_idle_quiet [] p h = refl
closing_idle_quiet (CloseStart c why ∷ ms) p h =
    let a = both (is_idle (place_at p c)) (close_idle ms (moved (CloseStart c why) p)) h in
    together (is_idle (place_at p c)) (are_quiet ms (moved (CloseStart c why) p)) a.0 (closing_idle_quiet ms (moved (CloseStart c why) p) a.1)
closing_idle_quiet (_ ∷ ms) p h = absurd cc

outdated_quiet : (p : Pooled) → Placed p.idle p.conns → are_quiet (closings_of_tick p) p ≡ true
outdated_quiet p h = closing_idle_quiet (closings_of_tick p) p (outdated_close p h)

control_quiet : (control : Control) (p : Pooled) → Placed p.idle p.conns → are_quiet (controlled control p) (with_control control p) ≡ true
control_quiet (Tick k) p h = outdated_quiet (ticked k p) h
control_quiet (Set MaxOpen k) p h = then_quiet (closings_of_setting (open_set k p)) (open_set k p) (surplus_quiet (open_set k p) h)
control_quiet (Set MaxIdle k) p h = surplus_quiet (idle_set k p) h
control_quiet (Set MaxLife k) p h = outdated_quiet (lifetime_set k p) h
control_quiet (Set MaxIdleTime k) p h = outdated_quiet (idle_time_set k p) h

-- What quiet moves leave.

idle_place : (o : Option Place) → is_idle o ≡ true → o ≡ Some Idle
idle_place (Some Idle) h = refl
idle_place _ h = absurd cc

-- Two histories that are alike for each call and each connection.
pub record Untouched (H K : List Event) (n : ℕ) : Type 0 where
  pub due : (m : ℕ) → due_for K m ≡ due_for H m
  pub used : uses_what_is_lent K ≡ uses_what_is_lent H
  pub others : calls_stand_but n H ≡ true → calls_stand_but n K ≡ true

one_quiet : (H : List Event) (m : Move) (n : ℕ) → Silent H → is_quiet (pool H) m ≡ true → Untouched H (Pool m ∷ H) n
one_quiet H (CloseStart c why) n s h =
    let at = idle_place (place H c) h in record { due = λ m. due_closes H c why m at; used = used_closes H c why at; others = goes_on_closes H c why n at }
one_quiet H (OpenStart c k) n s h = record { due = due_opens H c k; used = used_opens H c k; others = goes_on_opens_but H c k n s }
one_quiet H _ n s h = absurd cc

quiet_moved : (H : List Event) (p : Pooled) (m : Move) → is_quiet p m ≡ true → with_move H m p ≡ moved m p
quiet_moved H p (CloseStart c why) h = refl
quiet_moved H p (OpenStart c k) h = let none : k ≡ 0 = same_number k 0 h in ap (λ j. with_move H (OpenStart c j) p) none
quiet_moved H p _ h = absurd cc

silent_quiet : (H : List Event) (m : Move) → Silent H → is_quiet (pool H) m ≡ true → Silent (Pool m ∷ H)
silent_quiet H (CloseStart c why) s h = s
silent_quiet H (OpenStart c k) s h = silent_opens H c k s
silent_quiet H _ s h = absurd cc

pub all_quiet : (H : List Event) (ms : List Move) (n : ℕ) → Silent H → are_quiet ms (pool H) ≡ true → Untouched H (with_moves ms H) n
all_quiet H [] n s h = record { due = λ m. refl; used = refl; others = λ k. k }
all_quiet H (m ∷ ms) n s h =
    let a = both (is_quiet (pool H) m) (are_quiet ms (moved m (pool H))) h in
    let here = one_quiet H m n s a.0 in
    let rest = all_quiet (Pool m ∷ H) ms n (silent_quiet H m s a.0) (ap (are_quiet ms) (quiet_moved H (pool H) m a.0) ∙ a.1) in
    record { due = λ k. rest.due k ∙ here.due k; used = rest.used ∙ here.used; others = λ k. rest.others (here.others k) }

control_untouched : (H : List Event) (control : Control) (n : ℕ) → Lawful (told control ∷ H) → Untouched (told control ∷ H) (with_moves (owed (told control ∷ H)) (told control ∷ H)) n
control_untouched H (Tick k) n l =
    let rest = before_event H (Ticked k) refl l.1 (rested H l.0) in all_quiet (Ticked k ∷ H) (owed (Ticked k ∷ H)) n (silent (Ticked k ∷ H) l) (control_quiet (Tick k) (pool H) rest.placed)
control_untouched H (Set s k) n l =
    let rest = before_event H (SetLimit s k) refl l.1 (rested H l.0) in all_quiet (SetLimit s k ∷ H) (owed (SetLimit s k ∷ H)) n (silent (SetLimit s k ∷ H) l) (control_quiet (Set s k) (pool H) rest.placed)

pub control_due : (H : List Event) (control : Control) (m : ℕ) → Lawful (told control ∷ H) → due_for (with_moves (owed (told control ∷ H)) (told control ∷ H)) m ≡ due_for H m
control_due H control m l = let u = control_untouched H control 0 l in u.due m ∙ due_control H control m

pub control_used : (H : List Event) (control : Control) → Lawful (told control ∷ H) → uses_what_is_lent (with_moves (owed (told control ∷ H)) (told control ∷ H)) ≡ uses_what_is_lent H
control_used H control l = let u = control_untouched H control 0 l in u.used ∙ used_control H control

pub control_others : (H : List Event) (control : Control) (n : ℕ) → Lawful (told control ∷ H) → calls_stand_but n H ≡ true → calls_stand_but n (with_moves (owed (told control ∷ H)) (told control ∷ H)) ≡ true
control_others H control n l h = let u = control_untouched H control n l in u.others (goes_on_control H control n h)
