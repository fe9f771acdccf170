-- When the run ends, each call without a reply replies that the database is closed. Every such call waits for a
-- connection then, and the closings of idle connections that follow leave it where it stands.
use Rattle.std.proofs.Common.{◌≡◌, ◌≢◌, ℕ, ◌==◌, Bool, true, false, ◌||◌, List, [], ◌∷◌, is_some, refl, sym, ap, ◌∙◌}
use Rattle.std.specs.List.{list_all, list_any}
use Rattle.std.proofs.lemmas.List.{append-nil}
use Rattle.dsql_laws_calls.specs.wait.Requests.{waits}
use Rattle.dsql_laws_calls.specs.pool.declared.moves.CloseCause.TheVariants.{DbClosed}
use Rattle.dsql_laws_calls.specs.pool.Changes.{unwanted}
use Rattle.dsql_laws_calls.specs.pool.Calls.{wants, moves_closed}
use Rattle.dsql_laws_calls.specs.pool.Moved.{shut}
use Rattle.dsql_laws_calls.specs.pool.Places.{is_for}
use Rattle.dsql_laws_calls.specs.pool.Pooled.{Pooled}
use Rattle.dsql_laws_calls.proofs.pool.Placed.{Placed, placed_map}
use Rattle.dsql_laws_calls.specs.history.Readers.Tries.{asks_again, tries}
use Rattle.dsql_laws_calls.specs.history.Readers.Pool.{smallest, pool}
use Rattle.dsql_laws_calls.specs.history.Rules.Stands.{is_waiting, has_to_reply, stand}
use Rattle.dsql_laws_calls.proofs.laws.Tests.{both}
use Rattle.dsql_laws_calls.proofs.laws.Able.{keeps_number, stays_idle}
use Rattle.dsql_laws_calls.specs.history.declared.event.Event.{Event}
use Rattle.dsql_laws_calls.specs.history.declared.event.Event.TheVariants.{Ended}
use Rattle.dsql_laws_calls.specs.history.Readers.Calls.{site}
use Rattle.dsql_laws_calls.specs.history.Readers.Owed.{owed}
use Rattle.dsql_laws_calls.specs.history.Readers.Unfinished.{unfinished}
use Rattle.dsql_laws_calls.specs.history.Rules.House.{has_no_chore}
use Rattle.dsql_laws_calls.specs.history.Rules.Line.{due_for}
use Rattle.dsql_laws_calls.specs.history.Rules.Settled.{calls_stand}
use Rattle.dsql_laws_calls.specs.history.Legal.{Lawful}
use Rattle.dsql_laws_calls.specs.laws.OwedMade.{with_moves}
use Rattle.dsql_laws_calls.proofs.laws.AtRest.{before_event, rested}
use Rattle.dsql_laws_calls.proofs.AtEnd.{waits_only, quiet_at_end}
use Rattle.dsql_laws_others.proofs.ControlMoves.{are_quiet, closings_quiet, all_quiet}
use Rattle.dsql_laws_others.proofs.Openings.{silent}
use Rattle.dsql_laws_others.proofs.Answered.{left_waiting_replies}
use Rattle.dsql_laws_others.proofs.Settling.{all_within}

pub closed_quiet : (p : Pooled) → Placed p.idle p.conns → are_quiet (moves_closed p) (shut p) ≡ true
closed_quiet p h = closings_quiet DbClosed p.idle [] (shut p) (sym (append-nil p.idle)) (placed_map unwanted keeps_number stays_idle p.idle p.conns h)

told_of_end : (H : List Event) → Lawful (Ended ∷ H) → (m : ℕ) → is_waiting (stand H m) ≡ true → ((m == 0) || is_some (stand (Ended ∷ H) m)) ≡ true
told_of_end H l m h = by (m == 0) refl
  where
    apart : (m == 0) ≡ false → m ≢ 0
    apart other none = let clash : false ≡ true = sym other ∙ ap (λ k. k == 0) none in cc

    wanting : wants m (pool H) ≡ true
    wanting =
        ap (λ b. b || list_any (λ conn. is_for m conn.place) (pool H).conns)
        (waits_only (waits m (pool H).waiting) (is_some (due_for H m)) (has_to_reply H m) (asks_again (tries H m)) (smallest (is_for m) (pool H)) (site H m) h)

    by : (b : Bool) → (m == 0) ≡ b → (b || is_some (stand (Ended ∷ H) m)) ≡ true
    by true is = refl
    by false is = ap (λ s. is_some s) (left_waiting_replies H m l (apart is) wanting)

goes_on_ended : (H : List Event) → Lawful (Ended ∷ H) → calls_stand (Ended ∷ H) ≡ true
goes_on_ended H l =
    let b = both (list_all (λ m. is_waiting (stand H m)) (unfinished H)) (has_no_chore H) (quiet_at_end H l.1) in
    all_within (λ m. is_waiting (stand H m)) (λ m. (m == 0) || is_some (stand (Ended ∷ H) m)) (unfinished H) (λ m u. told_of_end H l m) b.0

pub all_told_of_end : (H : List Event) → Lawful (Ended ∷ H) → calls_stand (with_moves (owed (Ended ∷ H)) (Ended ∷ H)) ≡ true
all_told_of_end H l =
    let rest = before_event H Ended refl l.1 (rested H l.0) in
    let u = all_quiet (Ended ∷ H) (owed (Ended ∷ H)) 0 (silent (Ended ∷ H) l) (closed_quiet (pool H) rest.placed) in
    u.others (goes_on_ended H l)
