-- The layer made one of its own calls that neither opens nor shuts its connection. The argument is that only
-- the journal of that connection grew.
use Rattle.std.proofs.Common.{◌≡◌, Bool, true, false, List, [], Option, is_some, refl}
use Rattle.std.specs.Prelude.{Result, Ok, Err, IsSomeAnd, OnOk, OnErr}
use Rattle.dsql_engine_laws.specs.driver.Kinds.{is_connect, is_shut}
use Rattle.dsql_engine_laws.specs.driver.Wires.{WireTold}
use Rattle.dsql_engine_laws.specs.driver.declared.call.DriverCall.{DriverCall}
use Rattle.dsql_engine_laws.specs.driver.declared.call.DriverCall.TheVariants.{Connect, Shut}
use Rattle.dsql_engine_laws.specs.driver.declared.wire.Fleet.{Ghosts}
use Rattle.dsql_engine_laws.specs.journal.declared.entry.Entry.{Entry}
use Rattle.dsql_engine_laws.specs.journal.declared.entry.Permit.{Permit}
use Rattle.dsql_engine_laws.specs.journal.HandlesAndCursors.{fits_at_its_place}
use Rattle.dsql_engine_laws.specs.history.declared.event.Event.TheVariants.{Heard}
use Rattle.dsql_engine_laws.specs.history.Legal.{Legal}
use Rattle.dsql_engine_laws.specs.wire.Journaled.{Journaled}
use Rattle.dsql_player_wires.specs.Asked.{Performs}
use Rattle.dsql_player_wires.specs.WiresFit.{WiresFit, slot}
use Rattle.dsql_player_wires.proofs.Asking.{wire_fits}
use Rattle.dsql_player_wires.proofs.Stopped.{answer_untaken, fleet_unasked}
use Rattle.dsql_player.specs.declared.halt.Halt.{Halt}
use Rattle.dsql_player.specs.Acts.{TakesAnswer}
use Rattle.dsql_player.specs.Carried.{KeepsRun}
use Rattle.dsql_player.specs.Chores.{IsAnswered, IsToMake}
use Rattle.dsql_player.specs.Playing.{Playing}
use Rattle.dsql_player.proofs.Grouped.{Grouped}
use Rattle.dsql_player.proofs.Hearing.{answer_fits, answer_plans, answer_told}
use Rattle.dsql_player.proofs.Housekeeping.{answer_may_come}
use Rattle.dsql_player.proofs.Keeping.{able_same, run_goes, run_stops_there}
use Rattle.dsql_player.proofs.Taken.{taken_group, taken_ready}

pub no_connect : (call : DriverCall) → (call ≡ Connect → ⊥) → is_connect call ≡ false
no_connect Connect none = absurd (none refl)
no_connect _ none = refl

pub no_shut : (call : DriverCall) → (call ≡ Shut → ⊥) → is_shut call ≡ false
no_shut Shut none = absurd (none refl)
no_shut _ none = refl

-- Holds if the layer made one of its own calls on the wire of its connection, and the answer may be taken in.
pub record AsksWire {W : Type 0} (heard : W → Option WireTold) (permit : Permit) (e : Entry) (p : Playing) (wires now : List (Option (Journaled W))) : Type 0 where
  pub to_make : IsToMake p permit
  pub performs : Performs heard permit e wires now
  pub answered : IsAnswered p e

-- The answer to a call that was made on its wire may be taken in.
pub asks_wire : {W : Type 0} (heard : W → Option WireTold) (telling : Bool) (permit : Permit) (e : Entry) (p : Playing) (wires now : List (Option (Journaled W))) → IsToMake p permit → WiresFit heard telling p.past wires → Performs heard permit e wires now
    → IsSomeAnd (slot wires permit.conn) (λ w. fits_at_its_place w.journal e ≡ true) → AsksWire heard permit e p wires now
asks_wire heard telling permit e p wires now it fit performs there = record {
  to_make = it;
  performs = performs;
  answered = record { permit = permit; to_make = it; answer = performs.entry; fits = wire_fits heard telling p.past permit e wires fit performs.entry there };
}

pub tidied_run : {A F W : Type 0} (fleet : Ghosts F W) (heard : W → Option WireTold) (result : Result A Halt) (at : F) (permit : Permit) (e : Entry) (p after : Playing) (wires now : List (Option (Journaled W)))
    → is_connect permit.call ≡ false → is_shut permit.call ≡ false → WiresFit heard (is_some (fleet.told at)) p.past wires → AsksWire heard permit e p wires now
    → OnOk result (TakesAnswer permit e p after) → OnErr result (after.past ≡ p.past) → Legal after.past → KeepsRun fleet heard result at at p after wires now
tidied_run fleet heard (Ok x) at permit e p after wires now opens shuts fit asks takes same legal =
    let g : Grouped p.past after.past (Heard e) 0 = taken_group permit e p after asks.to_make takes in
    run_goes fleet heard x at p after wires now fit (taken_ready permit e p after asks.to_make takes) (answer_fits heard permit e p.past after.past 0 g wires now asks.performs opens shuts)
    (answer_plans heard permit e p.past after.past 0 g wires now asks.performs)
    (answer_told permit e p.past after.past 0 g asks.performs.entry opens shuts) legal
tidied_run fleet heard (Err halt) at permit e p after wires now opens shuts fit asks takes same legal =
    run_stops_there [] fleet heard (Err halt) at at p after wires now refl same
    (fleet_unasked heard (fleet.told at) p.past p.past wires now fit (answer_untaken heard permit e p.past wires now asks.performs opens shuts (answer_may_come p e asks.answered)))
    (able_same fleet at) legal
