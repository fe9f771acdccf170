-- Which client goes on next. The argument is that the search over the seats misses no client.
use Rattle.std.proofs.Common.{◌≡◌, ◌<◌, ◌≤◌, ℕ, length, arith, Bool, true, false, not, ◌&&◌, cond, List, Option, Some, None, is_some, is_none, refl, ap, sym, ◌∙◌}
use Rattle.std.specs.Prelude.{nat_lt, slice_get}
use Rattle.std.proofs.lemmas.Bool.{ltb-false, ltb-true}
use Rattle.dsql_engine_laws.specs.history.Readers.Calls.{is_busy}
use Rattle.dsql_engine_laws.specs.history.Readers.Clients.{call_of}
use Rattle.dsql_engine.specs.Core.{Core, blocked_for, unfinished_of}
use Rattle.dsql_player.specs.Playing.{IsReady, Playing}
use Rattle.dsql_player.specs.Stepping.{goes}
use Rattle.dsql_player.proofs.MayGo.{beyond_rests, goes_busy, goes_free, kept_first, moves_of}
use Rattle.dsql_player_wires.specs.Seats.{Seat, seat}

pub some_if : (busy : Bool) (n : ℕ) → is_some (cond busy (Some n) None) ≡ busy
some_if true n = refl
some_if false n = refl

-- A client is busy exactly if it has an unfinished call.
pub busy_is : (e : Core) (client : ℕ) (b : Bool) → is_some (unfinished_of e.past client) ≡ b → is_busy client e.past ≡ b
busy_is e client b h = sym (some_if (is_busy client e.past) (call_of e.past client)) ∙ h

-- Returns the player with this core and these seats.
abbrev pub playing : Core → List Seat → Bool → Playing
playing e seats released = record { past = e.past; trimmed = e.trimmed; flights = e.flights; chore = e.chore; seats = seats; released = released }

pub goes_with_call : (e : Core) (seats : List Seat) (released : Bool) (client : ℕ) → is_some (unfinished_of e.past client) ≡ true
    → (not (seat seats client).held && is_none (blocked_for e client)) ≡ goes (playing e seats released) client
goes_with_call e seats released client some =
    let busy : is_busy client e.past ≡ true = busy_is e client true some in
    ap (λ b. not (seat seats client).held && b) (moves_of e client busy) ∙ sym (goes_busy (playing e seats released) client busy)

pub goes_without : (e : Core) (seats : List Seat) (released : Bool) (client : ℕ) → is_some (unfinished_of e.past client) ≡ false
    → is_some (slice_get (seat seats client).kept 0) ≡ goes (playing e seats released) client
goes_without e seats released client none =
    kept_first (seat seats client).kept ∙ sym (goes_free (playing e seats released) client (busy_is e client false none))

-- A client whose call isn't held may go on exactly if the call isn't blocked; a client whose call is held may
-- not.
pub goes_moving : (e : Core) (seats : List Seat) (released : Bool) (client : ℕ) → is_some (unfinished_of e.past client) ≡ true → (seat seats client).held ≡ false
    → is_none (blocked_for e client) ≡ goes (playing e seats released) client
goes_moving e seats released client some loose = ap (λ b. not b && is_none (blocked_for e client)) (sym loose) ∙ goes_with_call e seats released client some

pub goes_held : (e : Core) (seats : List Seat) (released : Bool) (client : ℕ) → is_some (unfinished_of e.past client) ≡ true → (seat seats client).held ≡ true
    → false ≡ goes (playing e seats released) client
goes_held e seats released client some held = ap (λ b. not b && is_none (blocked_for e client)) (sym held) ∙ goes_with_call e seats released client some

pub none_of : {X : Type 0} (o : Option X) (none : Bool) → is_some o ≡ not none → none ≡ is_none o
none_of (Some x) true h = absurd cc
none_of (Some x) false h = refl
none_of None true h = refl
none_of None false h = absurd cc

-- If no client below the count of seats may go on, no client may.
pub nobody_goes : (p : Playing) (count : ℕ) → IsReady p → length p.seats ≤ count → ((client : ℕ) → client < count → goes p client ≡ false) → (client : ℕ) → goes p client ≡ false
nobody_goes p count ready many below client = by (nat_lt client count) refl
  where
    by : (b : Bool) → nat_lt client count ≡ b → goes p client ≡ false
    by true less = below client (ltb-true client count less)
    by false more = beyond_rests p client ready (omega (arith, many, ltb-false client count more))
