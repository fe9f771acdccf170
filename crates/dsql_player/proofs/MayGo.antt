-- Which clients may go on. The argument compares what blocks a call with what lets it move.
use Rattle.std.proofs.Common.{◌≡◌, ◌≤◌, ℕ, Bool, true, false, not, ◌&&◌, ◌||◌, cond, List, [], ◌∷◌, length, Option, Some, None, is_some, is_none, refl, ap, sym, ◌∙◌, arith}
use Rattle.std.specs.Prelude.{slice_get}
use Rattle.std.proofs.lemmas.List.{get_or_past}
use Rattle.dsql_engine_laws.specs.journal.Readers.{is_empty}
use Rattle.dsql_engine_laws.specs.history.declared.event.Event.{Event}
use Rattle.dsql_engine_laws.specs.history.declared.record.Flight.{Flight}
use Rattle.dsql_engine_laws.specs.history.declared.record.Stand.{Stand}
use Rattle.dsql_engine_laws.specs.history.declared.record.Stand.TheVariants.{Sends}
use Rattle.dsql_engine_laws.specs.history.Readers.Calls.{is_busy}
use Rattle.dsql_engine_laws.specs.history.Readers.Clients.{call_of}
use Rattle.dsql_engine_laws.specs.history.Readers.Unfinished.{is_unfinished}
use Rattle.dsql_engine_laws.specs.history.Rules.Flights.{is_blocked, is_in_flight, is_taken}
use Rattle.dsql_engine_laws.specs.laws_ends.Over.{may_move}
use Rattle.dsql_engine_laws.specs.history.Rules.Stands.{stand}
use Rattle.dsql_engine.specs.Core.{Core, blocked_call, blocked_for}
use Rattle.dsql_engine_laws.specs.going.Answers.{why_blocked}
use Rattle.dsql_engine_laws.specs.going.declared.next.Why.TheVariants.{Turn}
use Rattle.dsql_engine_laws.proofs.laws_ends.Whose.{busy_unfinished}
use Rattle.dsql_player_wires.specs.Seats.{Seat, empty_seat, seat}
use Rattle.dsql_player.specs.Playing.{IsReady, Playing}
use Rattle.dsql_player.specs.Stepping.{goes}

pub kept_first : {X : Type 0} (xs : List X) → is_some (slice_get xs 0) ≡ not (is_empty xs)
kept_first [] = refl
kept_first (x ∷ xs) = refl

-- A call isn't blocked if it may move.

unblocked : (flights : List Flight) (n : ℕ) (at : Option Stand) → is_none (why_blocked flights n at) ≡ not (is_blocked flights n at)
unblocked flights n (Some (Sends c)) = by (is_taken n c flights)
  where
    by : (b : Bool) → is_none (cond b (Some (Turn c)) None) ≡ not b
    by true = refl
    by false = refl
unblocked flights n _ = refl

call_moves : (past : List Event) (flights : List Flight) (n : ℕ) → is_unfinished past n ≡ true → is_none (blocked_call past flights n) ≡ may_move past flights n
call_moves past flights n u = by (is_in_flight n flights) ∙ ap (λ b. b && (is_in_flight n flights || not (is_blocked flights n (stand past n)))) (sym u)
  where
    by : (b : Bool) → is_none (cond b None (why_blocked flights n (stand past n))) ≡ (b || not (is_blocked flights n (stand past n)))
    by true = refl
    by false = unblocked flights n (stand past n)

pub moves_of : (core : Core) (client : ℕ) → is_busy client core.past ≡ true → is_none (blocked_for core client) ≡ may_move core.past core.flights (call_of core.past client)
moves_of core client busy = rw busy (call_moves core.past core.flights (call_of core.past client) (busy_unfinished core.past client busy))

pub swapped : (a b : Bool) → (a && b) ≡ (b && a)
swapped true true = refl
swapped true false = refl
swapped false true = refl
swapped false false = refl

pub goes_free : (p : Playing) (client : ℕ) → is_busy client p.past ≡ false → goes p client ≡ not (is_empty (seat p.seats client).kept)
goes_free p client free = ap (λ b. cond b (not (seat p.seats client).held && may_move p.past p.flights (call_of p.past client)) (not (is_empty (seat p.seats client).kept))) free

pub goes_busy : (p : Playing) (client : ℕ) → is_busy client p.past ≡ true → goes p client ≡ (not (seat p.seats client).held && may_move p.past p.flights (call_of p.past client))
goes_busy p client busy = ap (λ b. cond b (not (seat p.seats client).held && may_move p.past p.flights (call_of p.past client)) (not (is_empty (seat p.seats client).kept))) busy

-- A client without a seat has nothing at hand.
pub seat_past : (seats : List Seat) (client : ℕ) → length seats ≤ client → seat seats client ≡ empty_seat
seat_past seats client beyond = get_or_past seats client empty_seat beyond

-- A client without a seat may not go on.
pub beyond_rests : (p : Playing) (client : ℕ) → IsReady p → length p.seats ≤ client → goes p client ≡ false
beyond_rests p client ready beyond = by (is_busy client p.past) refl
  where
    by : (b : Bool) → is_busy client p.past ≡ b → goes p client ≡ false
    by true busy = let room = (ready.seats client).room busy in absurd (omega (arith, room, beyond))
    by false idle = goes_free p client idle ∙ ap (λ (s : Seat). not (is_empty s.kept)) (seat_past p.seats client beyond)
