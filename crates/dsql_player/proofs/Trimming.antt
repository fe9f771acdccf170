-- A player whose events were trimmed is as before. The argument is that nothing that holds of a player depends
-- on what was trimmed.
use Rattle.std.proofs.Common.{◌≡◌, Bool, List, refl, sym, ap, subst, ◌∙◌}
use Rattle.dsql_engine.specs.Core.{Core}
use Rattle.dsql_engine_laws.specs.follows.Moments.{Moment}
use Rattle.dsql_player_wires.specs.Seats.{Seat}
use Rattle.dsql_player.specs.Playing.{IsAt, IsReady, Playing}
use Rattle.dsql_player.proofs.Taken.{player_of, same_playing}

-- Holds if everything is as before, except how many events were trimmed.
pub record SameButTrimmed (old new : Playing) : Type 0 where
  pub past : new.past ≡ old.past
  pub flights : new.flights ≡ old.flights
  pub chore : new.chore ≡ old.chore
  pub seats : new.seats ≡ old.seats
  pub released : new.released ≡ old.released

-- If only the core of a player was trimmed, everything else is as before.
pub core_trimmed : (core now : Core) (seats : List Seat) (released : Bool) (old : Playing) → player_of core seats released ≡ old → now.past ≡ core.past → now.flights ≡ core.flights → now.chore ≡ core.chore → SameButTrimmed old (player_of now seats released)
core_trimmed core now seats released old is past flights chore = record {
  past = past ∙ ap (λ (p : Playing). p.past) is;
  flights = flights ∙ ap (λ (p : Playing). p.flights) is;
  chore = chore ∙ ap (λ (p : Playing). p.chore) is;
  seats = ap (λ (p : Playing). p.seats) is;
  released = ap (λ (p : Playing). p.released) is;
}

but_trimmed : (old new : Playing) → SameButTrimmed old new → new ≡ record old { trimmed = new.trimmed }
but_trimmed old new s = same_playing new (record old { trimmed = new.trimmed }) (record { past = s.past; trimmed = refl; flights = s.flights; seats = s.seats; released = s.released }) s.chore

pub ready_still : (old new : Playing) → SameButTrimmed old new → IsReady old → IsReady new
ready_still old new s r = subst IsReady (sym (but_trimmed old new s)) (record { legal = r.legal; free = r.free; flying = r.flying; seats = λ client. record { leave = (r.seats client).leave; room = (r.seats client).room }; lines = record { held = r.lines.held; named = r.lines.named } })

pub at_still : (old new : Playing) → SameButTrimmed old new → (m : Moment) → IsAt m old → IsAt m new
at_still old new s m at =
    subst (IsAt m) (sym (but_trimmed old new s))
    (record { past = at.past; flights = at.flights; released = at.released; rest = at.rest; whole = at.whole; made = at.made; kept = at.kept; held = at.held })
