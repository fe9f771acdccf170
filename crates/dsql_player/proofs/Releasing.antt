-- The player stays ready as every held call is released, since its clients keep their permits and their lines.
use Rattle.std.proofs.Common.{◌≡◌, ℕ, true, List, length, Option, sym, ap, subst, arith}
use Rattle.dsql_engine_laws.specs.journal.declared.entry.Permit.{Permit}
use Rattle.dsql_engine_laws.specs.history.Readers.Clients.{call_of}
use Rattle.dsql_player_wires.specs.Seats.{Seat, released, seat}
use Rattle.dsql_player.specs.Playing.{FitsCall, IsReady, Playing}
use Rattle.dsql_player.proofs.Named.{at_hand_same}

pub released_ready : (p : Playing) (seats : List Seat) → IsReady p → ((client : ℕ) → seat seats client ≡ released (seat p.seats client)) → length seats ≡ length p.seats → IsReady (record p { seats = seats; released = true })
released_ready p seats ready each many = record {
  legal = ready.legal;
  free = ready.free;
  flying = ready.flying;
  seats = λ client.
      let fits = ready.seats client in
      record {
        leave = subst (λ (leave : Option Permit). FitsCall p.past p.flights (call_of p.past client) leave) (sym (ap (λ (s : Seat). s.permit) (each client))) fits.leave;
        room = λ busy. let room = fits.room busy in omega (arith, room, many);
      };
  lines = record {
    held = λ at_end client. ap (λ (s : Seat). s.held) (each client);
    named = λ label.
        let hand = at_hand_same label p.seats seats (λ client. ap (λ (s : Seat). s.kept) (each client)) in
        let once = ready.lines.named label in
        omega (arith, hand, once);
  };
}
