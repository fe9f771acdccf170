-- The player as a run begins: it is ready, because no client has anything at hand.
use Rattle.std.proofs.Common.{◌≡◌, ℕ, List, [], ◌∷◌, refl, ap, sym, arith}
use Rattle.dsql_engine_laws.specs.driver.declared.caps.Caps.{Caps}
use Rattle.dsql_engine_laws.specs.history.declared.event.Event.TheVariants.{Run}
use Rattle.dsql_engine_laws.specs.history.Legal.{Legal}
use Rattle.dsql_engine_laws.specs.follows.Moments.{just_begun}
use Rattle.dsql_player_wires.specs.Seats.{Seat, empty_seat, seat}
use Rattle.dsql_engine_laws.proofs.Steps.{begun_flies}
use Rattle.dsql_player.specs.Naming.{times_at_hand}
use Rattle.dsql_player.specs.Playing.{IsAt, IsReady, lines_kept}
use Rattle.dsql_player.specs.Acts.{begun}
use Rattle.dsql_player.proofs.Named.{at_hand_same}

-- No client keeps a line, so no label is made.
pub begun_names : (label : List ℕ) (seats : List Seat) → ((client : ℕ) → seat seats client ≡ empty_seat) → times_at_hand label seats ≡ 0
begun_names label seats empty = at_hand_same label [] seats (λ client. ap (λ (s : Seat). s.kept) (empty client))

pub begun_ready : (version : ℕ) (caps : Caps) (seats : List Seat) → Legal (Run version caps ∷ []) → ((client : ℕ) → seat seats client ≡ empty_seat) → IsReady (begun version caps seats)
begun_ready version caps seats legal empty = record {
  legal = legal;
  free = refl;
  flying = begun_flies version caps;
  seats = λ client. record { leave = rw (empty client) refl; room = λ busy. absurd cc };
  lines = record { held = λ released. absurd cc; named = λ label. let none = begun_names label seats empty in omega (arith, none) };
}

pub begun_at : (version : ℕ) (caps : Caps) (seats : List Seat) → ((client : ℕ) → seat seats client ≡ empty_seat) → IsAt (just_begun (Run version caps)) (begun version caps seats)
begun_at version caps seats empty = record {
  past = refl;
  flights = refl;
  released = refl;
  rest = refl;
  whole = refl;
  made = λ client. omega arith;
  kept = λ client. ap (λ (s : Seat). lines_kept client s.kept) (sym (empty client));
  held = λ client busy. absurd cc;
}
