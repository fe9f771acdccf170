-- What is kept under the one lock of a race, and how it fits together.
use Rattle.std.specs.Prelude.{ℕ, ◌≡◌, ◌≢◌, ◌<◌, ◌≤◌, ◌^◌, ◌&&◌, Bool, true, false, is_none, List, [], ◌∷◌, ◌++◌, length, Option, Some, None}
use Rattle.std.specs.List.{list_all}
use Rattle.dsql_engine_laws.specs.driver.Wires.{WireTold}
use Rattle.dsql_engine_laws.specs.pool.Places.{is_lent}
use Rattle.dsql_engine_laws.specs.history.declared.event.Control.{Control}
use Rattle.dsql_engine_laws.specs.history.declared.event.Event.{Event}
use Rattle.dsql_engine_laws.specs.history.Legal.{Legal}
use Rattle.dsql_engine_laws.specs.history.Readers.Clients.{client_of}
use Rattle.dsql_engine_laws.specs.history.Readers.Course.{has_ended}
use Rattle.dsql_engine_laws.specs.history.Readers.Journals.{journal}
use Rattle.dsql_engine_laws.specs.history.Readers.Pool.{place}
use Rattle.dsql_engine_laws.specs.laws_steps.Groups.{most_events}
use Rattle.dsql_engine_laws.specs.going.Permits.{chore_permit}
use Rattle.dsql_engine_laws.specs.wire.Journaled.{Journaled}
use Rattle.dsql_player_wires.specs.Made.{Made, aside_on}
use Rattle.dsql_player_wires.specs.Seats.{seat}
use Rattle.dsql_player_wires.specs.Told.{fleet_told}
use Rattle.dsql_player_wires.specs.WiresFit.{FitsAt, PlansAt, slot}
use Rattle.dsql_player.specs.declared.halt.Halt.{Halt}
use Rattle.dsql_player.specs.declared.halt.Halt.TheVariants as halts
use Rattle.dsql_player.specs.Playing.{IsAt, IsReady, Playing}
use Rattle.dsql_hall_bonds.specs.Work.{Work, find}
use Rattle.dsql_hall_steps.specs.Limits.{SetsFirst, set_in, sets_limit, settings_first, settings_of}
use Rattle.dsql_hall_steps.specs.Racing.{Races, resting}
use Rattle.dsql_hall_steps.specs.Terms.{Terms}

-- A hall: the player, the wires that are at home, the work that is out and how much it is, and the limits to come. What
-- stopped the run, the connection of the layer's own driver call that is out, and whether only the end is left.
pub record InHall (W : Type 0) : Type 0 where
  pub player : Playing
  pub slots : List (Option (Journaled W))
  pub out : List Work
  pub away : ℕ
  pub settings : List Control
  pub stopped : Option Halt
  pub chore : Option ℕ
  pub resting : Bool

-- Returns the house's own number, under which its bond is kept. No connection has it.
abbrev pub house : ℕ
house = 2 ^ 32

-- Is true if no two pieces of work are out on one connection.
abbrev pub are_apart : List Work → Bool
are_apart [] = true
are_apart (work ∷ older) = is_none (find work.conn older) && are_apart older

-- Holds of a connection whose wire is at home, if it has one: the wire has its journal, and its plans and wants.
pub record IsAtHome {W : Type 0} (heard : W
    → Option WireTold) (telling : Bool) (made : List Made) (past : List Event) (c : ℕ)
    (wire : Option (Journaled W)) : Type 0 where
  pub fits : FitsAt heard telling c (journal past c) wire
  pub plans : PlansAt heard (aside_on made c) (journal past c) wire

-- Holds of a connection whose work is out: its slot is empty, and nothing was heard on it since the work went out.
pub record IsAway {W : Type 0} (past : List Event) (c : ℕ) (wire : Option (Journaled W)) (work : Work) : Type 0 where
  pub gone : wire ≡ None
  pub unheard : journal past c ≡ journal work.past c

-- Holds if a connection's slot and the work that is out on it fit the history.
abbrev pub SlotFits : {W : Type 0} → (W → Option WireTold) → Bool → List Made → List Event → ℕ
    → Option (Journaled W) → Option Work → Type 0
SlotFits heard telling made past c wire None = IsAtHome heard telling made past c wire
SlotFits heard telling made past c wire (Some work) = IsAway past c wire work

-- Holds of the work of a client's call on connection c: the client has leave for the driver call.
pub record IsOfClient (p : Playing) (c : ℕ) (work : Work) : Type 0 where
  pub conn : work.permit.conn ≡ c
  pub client : client_of p.past work.permit.call_no ≡ client_of work.past work.permit.call_no
  pub leave : (seat p.seats (client_of p.past work.permit.call_no)).permit ≡ Some work.permit

-- Holds of the work of the layer on connection c. It is the layer's one driver call that is out, and it is due. It
-- opens or shuts the connection.
pub record IsOfLayer (p : Playing) (its : Option ℕ) (c : ℕ) (work : Work) : Type 0 where
  pub conn : work.permit.conn ≡ c
  pub chore : its ≡ Some c
  pub due : chore_permit p.past c ≡ Some work.permit
  pub unlent : is_lent (place p.past c) ≡ false

-- Holds of the work that is out under number c. The house's own work is no driver call.
pub record IsOut (p : Playing) (chore : Option ℕ) (c : ℕ) (work : Work) : Type 0 where
  pub client : work.permit.call_no ≢ 0 → IsOfClient p c work
  pub layer : work.permit.call_no ≡ 0 → c ≢ house → IsOfLayer p chore c work

-- Holds if the house's own bond is out, and the fleet has been asked nothing since.
pub record HouseIsOut (made : List Made) (past : List Event) (out : List Work) : Type 0 where
  pub work : Work
  pub is_out : find house out ≡ Some work
  pub told : fleet_told made past ≡ fleet_told made work.past

-- Holds of a hall whose run goes on.
pub record GoesOn {W : Type 0} (heard : W → Option WireTold) (race : Terms) (h : InHall W) : Type 0 where
  pub ready : IsReady h.player
  pub at : IsAt (resting race.lines h.player) h.player
  pub fits : (c : ℕ) → SlotFits heard race.telling race.made h.player.past c (slot h.slots c) (find c h.out)
  pub work : (c : ℕ) (work : Work) → find c h.out ≡ Some work → IsOut h.player h.chore c work
  pub fleet : HouseIsOut race.made h.player.past h.out

-- Holds of a history in which the clients' lines enter in their order. Its run hasn't ended. The limits that were set,
-- with those to come, are the ones of the lines. Those before the first line of a client were set before any call
-- entered. None of its events was trimmed.
pub record Keeps (race : Terms) (p : Playing) (left : List Control) : Type 0 where
  pub legal : Legal p.past
  pub running : has_ended p.past ≡ false
  pub ordered : Races race.run race.lines p.past
  pub whole : p.trimmed ≡ 0
  pub settings : set_in p.past ++ left ≡ settings_of race.lines
  pub first : SetsFirst (length (settings_first race.lines)) p.past
  pub limits : list_all sets_limit left ≡ true

-- Holds of the work that is out under number c: it is the house's or a connection's, whose wire may be put back.
pub record HasHome {W : Type 0} (slots : List (Option (Journaled W))) (c : ℕ) : Type 0 where
  pub number : c ≤ house
  pub empty : slot slots c ≡ None
  pub room : c ≢ house → c < length slots

-- Holds of the work that is out: all of it may come back, and it is counted.
pub record MayComeBack {W : Type 0} (slots : List (Option (Journaled W))) (out : List Work) (away : ℕ) : Type 0 where
  pub homes : (c : ℕ) (work : Work) → find c out ≡ Some work → HasHome slots c
  pub apart : are_apart out ≡ true
  pub count : away ≡ length out

-- Holds of each hall. If the run stopped for want of room, the history has as many events as it may have.
pub record IsHall {W : Type 0} (heard : W → Option WireTold) (race : Terms) (h : InHall W) : Type 0 where
  pub keeps : Keeps race h.player h.settings
  pub back : MayComeBack h.slots h.out h.away
  pub full : h.stopped ≡ Some halts.Full → most_events ≤ length h.player.past
  pub well : h.stopped ≡ None → GoesOn heard race h
