-- Moves that are owed, and those of a connection that is given back, don't change whose own step is under way.
use Rattle.std.proofs.Common.{◌≡◌, ℕ, List, [], ◌∷◌, drop, refl, ap, ◌∙◌}
use Rattle.std.specs.Prelude.{cond}
use Rattle.dsql_laws_calls.specs.journal.Readers.{is_empty}
use Rattle.dsql_laws_calls.specs.pool.declared.moves.Move.{Move}
use Rattle.dsql_laws_calls.specs.pool.declared.moves.Move.TheVariants.{Back}
use Rattle.dsql_laws_calls.specs.pool.declared.moves.Outcome.{Outcome}
use Rattle.dsql_laws_calls.specs.pool.declared.moves.Outcome.TheVariants.{Closes, Serves, Rests}
use Rattle.dsql_laws_calls.specs.pool.Decisions.{moves_back, when_given_back}
use Rattle.dsql_laws_calls.specs.history.declared.event.Event.{Event}
use Rattle.dsql_laws_calls.specs.history.declared.event.Event.TheVariants.{Pool}
use Rattle.dsql_laws_calls.specs.history.Readers.Owed.{fate, given_back, left_of, owed}
use Rattle.dsql_laws_calls.specs.history.Readers.Pool.{pool}
use Rattle.dsql_laws_calls.specs.laws.OwedMade.{with_moves}
use Rattle.dsql_engine_desk.specs.Step.{own_step, step_after_move}

pub owed_step : (ms : List Move) (H : List Event) → owed H ≡ ms → own_step (with_moves ms H) ≡ own_step H
owed_step [] H is = refl
owed_step (m ∷ ms) H is =
    owed_step ms (Pool m ∷ H) (ap (left_of H m) is) ∙ ap (λ (due : List Move). cond (is_empty due) (step_after_move m (own_step H)) (own_step H)) is

-- The moves of a connection that is given back don't change the own step, because the first of them is no
-- lending.
begins_back : (c : ℕ) (H : List Event) (o : Outcome) → owed H ≡ [] → given_back H c ≡ moves_back c (pool H) o → own_step (with_moves (moves_back c (pool H) o) H) ≡ own_step H
begins_back c H (Closes why) none is = ap (λ (due : List Move). cond (is_empty due) (own_step H) (own_step H)) none
begins_back c H Serves none is =
    owed_step (drop 1 (moves_back c (pool H) Serves)) (Pool (Back c) ∷ H) (ap (left_of H (Back c)) none ∙ ap (drop 1) is) ∙ ap (λ (due : List Move). cond (is_empty due) (own_step H) (own_step H)) none
begins_back c H Rests none is = ap (λ (due : List Move). cond (is_empty due) (own_step H) (own_step H)) none

pub back_step : (H : List Event) (c : ℕ) → owed H ≡ [] → own_step (with_moves (given_back H c) H) ≡ own_step H
back_step H c none = begins_back c H (when_given_back (fate H c) c (pool H)) none refl
