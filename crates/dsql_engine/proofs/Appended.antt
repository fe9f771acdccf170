-- A limit or a moment may be set after any settled history that has begun, and a quiet run that hasn't ended
-- may end. The history is settled after each.
use Rattle.std.proofs.Common.{◌≡◌, ◌<◌, ◌≤◌, arith, length, ℕ, true, false, not, List, [], ◌∷◌, refl, sym, ap, subst, ◌∙◌}
use Rattle.std.specs.Prelude.{nat_le, max}
use Rattle.std.proofs.lemmas.Bool.Decides.{nat_tests}
use Rattle.std.specs.List.{list_all}
use Rattle.dsql_engine_hearing.specs.journal.Readers.{has, is_empty}
use Rattle.dsql_engine_hearing.specs.pool.declared.moves.Move.{Move}
use Rattle.dsql_engine_hearing.specs.history.declared.event.Event.{Event}
use Rattle.dsql_engine_hearing.specs.history.declared.event.Event.TheVariants.{Ended, Ticked, SetLimit}
use Rattle.dsql_engine_hearing.specs.history.declared.event.Control.{Control}
use Rattle.dsql_engine_hearing.specs.history.declared.event.Control.TheVariants.{Tick, Set}
use Rattle.dsql_engine_hearing.specs.history.declared.record.Flight.{Flight}
use Rattle.dsql_engine_hearing.specs.history.Readers.Controls.{told, taken, told_after}
use Rattle.dsql_engine_hearing.specs.history.Readers.Course.{has_ended}
use Rattle.dsql_engine_hearing.specs.history.Readers.Owed.{owed}
use Rattle.dsql_engine_hearing.specs.history.Readers.Pool.{pool}
use Rattle.dsql_engine_hearing.specs.history.Rules.Course.{keeps_course}
use Rattle.dsql_engine_hearing.specs.history.Rules.House.{is_quiet}
use Rattle.dsql_engine_hearing.specs.history.Rules.Order.{follows}
use Rattle.dsql_engine_hearing.specs.history.Rules.Settled.{Settled}
use Rattle.dsql_engine_hearing.specs.history.Legal.{Allowed, Lawful}
use Rattle.dsql_engine_hearing.specs.laws.OwedMade.{with_moves}
use Rattle.dsql_engine_hearing.proofs.laws.OwedAllowed.{owed_made}
use Rattle.dsql_engine_hearing.proofs.laws.Tests.{together}
use Rattle.dsql_engine_hearing.proofs.laws_calls.Owed.{few_next}
use Rattle.dsql_engine_hearing.proofs.laws_others.EndOfRun.{ended_used}
use Rattle.dsql_engine_hearing.proofs.laws_others.Ending.{all_told_of_end}
use Rattle.dsql_engine_hearing.proofs.laws_others.ControlMoves.{control_others, control_used}
use Rattle.dsql_engine_hearing.specs.desk.Appending.{MayAppend}
use Rattle.dsql_engine_hearing.specs.desk.Desk.{past}
use Rattle.dsql_engine_hearing.specs.desk.declared.desk.Desk.{Desk}
use Rattle.dsql_engine_hearing.proofs.desk.KeptOfCalls.{lawful_kept}
use Rattle.dsql_engine_hearing.proofs.desk.Moves.{leaves}
use Rattle.dsql_engine_hearing.specs.going.Reaching.{CanPay}
use Rattle.dsql_engine_hearing.specs.going.Stepping.{are_of_unfinished, events_of_a_step}
use Rattle.dsql_engine_hearing.specs.laws_steps.Groups.{after_control, after_end}
use Rattle.dsql_engine.proofs.Flying.{begun_moved}

follows_none : (ms : List Move) (e : Event) → is_empty ms ≡ true → follows ms e ≡ true
follows_none [] e h = refl
follows_none (m ∷ ms) e h = absurd cc

not_back : (b n : ℕ) → nat_le b (max b n) ≡ true
not_back b n = grind (arith, nat_tests)

course_of_control : (H : List Event) (control : Control) → is_empty H ≡ false → keeps_course H (told_after H control) ≡ true
course_of_control [] control begun = absurd cc
course_of_control (e ∷ H) (Tick now) begun = together (nat_le (pool (e ∷ H)).moment (max (pool (e ∷ H)).moment now)) true (not_back (pool (e ∷ H)).moment now) refl
course_of_control (e ∷ H) (Set s k) begun = refl

told_allowed : (H : List Event) (control : Control) → keeps_course H (told control) ≡ true → Settled H → Allowed H (told control)
unfolding Allowed
told_allowed H (Tick now) course settled = record {
  course = course;
  numbers = refl;
  sets = refl;
  limit = refl;
  asking = refl;
  order = follows_none (owed H) (Ticked now) settled.nothing_owed;
  causes = refl;
  line = refl;
  journals = refl;
  replies = refl;
}
told_allowed H (Set s k) course settled = record {
  course = course;
  numbers = refl;
  sets = refl;
  limit = refl;
  asking = refl;
  order = follows_none (owed H) (SetLimit s k) settled.nothing_owed;
  causes = refl;
  line = refl;
  journals = refl;
  replies = refl;
}

control_allowed : (H : List Event) (control : Control) → is_empty H ≡ false → Settled H → Allowed H (told_after H control)
control_allowed H control begun settled = told_allowed H (taken H control) (course_of_control H control begun) settled

settled_control : (H : List Event) (control : Control) → Lawful H → is_empty H ≡ false → Settled H → Settled (after_control H control)
settled_control H control l begun settled =
    let took = taken H control in
    let now : Lawful (told took ∷ H) = (l, control_allowed H control begun settled) in
    record { nothing_owed = ap is_empty (owed_made (told took ∷ H)); used = control_used H took now ∙ settled.used; somewhere = control_others H took 0 now settled.somewhere }

course_of_end : (H : List Event) → is_empty H ≡ false → is_quiet H ≡ true → has_ended H ≡ false → keeps_course H Ended ≡ true
course_of_end [] begun quiet running = absurd cc
course_of_end (e ∷ H) begun quiet running = together (not (has_ended (e ∷ H))) (is_quiet (e ∷ H)) (ap not running) quiet

pub end_allowed : (H : List Event) → is_empty H ≡ false → Settled H → is_quiet H ≡ true → has_ended H ≡ false → Allowed H Ended
unfolding Allowed
end_allowed H begun settled quiet running = record {
  course = course_of_end H begun quiet running;
  numbers = refl;
  sets = refl;
  limit = refl;
  asking = refl;
  order = follows_none (owed H) Ended settled.nothing_owed;
  causes = refl;
  line = refl;
  journals = refl;
  replies = refl;
}

pub settled_end : (H : List Event) → Lawful H → is_empty H ≡ false → Settled H → is_quiet H ≡ true → has_ended H ≡ false → Settled (after_end H)
settled_end H l begun settled quiet running =
    let now : Lawful (Ended ∷ H) = (l, end_allowed H begun settled quiet running) in
    record { nothing_owed = ap is_empty (owed_made (Ended ∷ H)); used = ended_used H now settled.used; somewhere = all_told_of_end H now }

-- A step pays for the moves that it makes due.
step_pays : (H : List Event) (e : Event) (paid : ℕ) → Lawful H → Settled H → events_of_a_step ≤ paid → length (owed (e ∷ H)) < paid
step_pays H e paid l settled enough = let few = few_next H e l settled.nothing_owed in omega (arith, few, enough)

-- After moves, each flight still belongs to a call that has no reply.
pub moves_fly : (ms : List Move) (H : List Event) (flights : List Flight) → are_of_unfinished H flights ≡ true → are_of_unfinished (with_moves ms H) flights ≡ true
moves_fly ms H flights h = let left = leaves ms H in ap (λ us. list_all (λ (flight : Flight). has flight.call us) flights) left.unfinished ∙ h

-- All that holds after a limit or a moment is set.
pub record AfterControl (K : List Event) (flights : List Flight) : Type 0 where
  pub settled : Settled K
  pub begun : is_empty K ≡ false
  pub flying : are_of_unfinished K flights ≡ true

told_flying : (H : List Event) (control : Control) (flights : List Flight) → are_of_unfinished H flights ≡ true → are_of_unfinished (told control ∷ H) flights ≡ true
told_flying H (Tick now) flights h = h
told_flying H (Set s k) flights h = h

pub after_a_control : (H : List Event) (control : Control) (K : List Event) (flights : List Flight) → K ≡ after_control H control → Lawful H → is_empty H ≡ false → Settled H → are_of_unfinished H flights ≡ true → AfterControl K flights
after_a_control H control K flights is l begun settled flying =
    let G = told_after H control ∷ H in
    subst (λ (P : List Event). AfterControl P flights) (sym is)
    (record { settled = settled_control H control l begun settled; begun = begun_moved (owed G) G refl; flying = moves_fly (owed G) G flights (told_flying H (taken H control) flights flying) })

-- A limit or a moment may be set whenever a step may begin.
pub control_may : (desk : Desk) (control : Control) → CanPay desk events_of_a_step → is_empty (past desk) ≡ false → Settled (past desk) → MayAppend desk (told_after (past desk) control)
control_may desk control pays begun settled = record {
  stands = pays.stands;
  paid = step_pays (past desk) (told_after (past desk) control) desk.paid (lawful_kept desk pays.stands) settled pays.paid;
  allowed = control_allowed (past desk) control begun settled;
  few = let room = pays.few in omega (arith, room);
}
