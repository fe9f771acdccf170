-- What the house does next, as the hall lets it take a step. The argument compares the hall before and after.
use Rattle.std.proofs.Common.{◌≡◌, ◌≤◌, inl, inr, ◌+◌, ℕ, true, false, List, [], ◌∷◌, drop, length, Option, Some, None, is_some, refl, ap, sym, subst, ◌∙◌, arith}
use Rattle.dsql_engine_laws.specs.driver.Wires.{WireTold}
use Rattle.dsql_engine_laws.specs.journal.declared.entry.Permit.{Permit}
use Rattle.dsql_engine_laws.specs.history.declared.event.Control.{Control}
use Rattle.dsql_engine_laws.specs.history.Rules.House.{chore_due}
use Rattle.dsql_engine_laws.specs.follows.Moments.{Moment}
use Rattle.dsql_engine_laws.specs.wire.Journaled.{Journaled}
use Rattle.dsql_player_wires.specs.WiresFit.{slot}
use Rattle.dsql_player.specs.declared.halt.Halt.TheVariants as halts
use Rattle.dsql_player.specs.Playing.{IsAt, Playing}
use Rattle.dsql_player.specs.Stepping.{IsNext, IsTold, TakesStep, goes}
use Rattle.dsql_hall_bonds.specs.Work.{Work}
use Rattle.dsql_hall_steps.specs.Halls.{InHall, IsHall, MayComeBack}
use Rattle.dsql_hall_steps.specs.House.{ComesFirst}
use Rattle.dsql_hall_steps.specs.HouseSteps.{HasRunOut, HouseWaits, LacksSlot, SetsLimit, TakesOut}
use Rattle.dsql_hall_steps.specs.Terms.{Terms}
use Rattle.dsql_hall_steps.proofs.Carrying.{ChangesSlot, stopped_hall}
use Rattle.dsql_hall_steps.proofs.Setting.{HasSet, set_on}

-- A limit is set.

first_gone : (control : Control) (settings now : List Control) → (later : List Control) × ComesFirst control settings later → now ≡ drop 1 settings → ComesFirst control settings now
first_gone control settings now first gone =
    let after : now ≡ first.0 = gone ∙ ap (drop 1) first.1.is in
    record { is = first.1.is ∙ ap (λ later. control ∷ later) (sym after) }

pub limit_set : {W : Type 0} (heard : W → Option WireTold) (race : Terms) (h before : InHall W) (q : Playing) (control : Control) (now : List Control) → IsHall heard race h → h ≡ before → before.stopped ≡ None
    → (later : List Control) × ComesFirst control before.settings later → now ≡ drop 1 h.settings → HasSet control h.player q → IsHall heard race (record h { player = q; settings = now })
limit_set heard race h before q control now is was runs first gone set =
    set_on heard race h q control is (ap (λ b. b.stopped) was ∙ runs) set now
    (first_gone control h.settings now (subst (λ b. (later : List Control) × ComesFirst control b.settings later) (sym was) first) gone)

pub limit_does : {W : Type 0} (h before : InHall W) (q : Playing) (now : List Control) (control : Control) → h ≡ before → before.stopped ≡ None → (later : List Control) × ComesFirst control before.settings later
    → now ≡ drop 1 h.settings → HasSet control h.player q → SetsLimit before (record h { player = q; settings = now })
limit_does {W} h before q now control was runs first gone set = record {
  control = control;
  first = first_gone control before.settings now first (gone ∙ ap (λ b. drop 1 b.settings) was);
  told = record {
    runs = ap (λ b. b.stopped) was ∙ runs;
    only = ap (λ (b : InHall W). record b { player = q; settings = now }) was;
    tells = subst (λ b. (m : Moment) → IsAt m b.player → TakesStep m b.player q (IsTold b.player.past control)) was set.tells;
  };
}

-- A slot is made.

pub room_made : {W : Type 0} (slots now : List (Option (Journaled W))) (out : List Work) (away : ℕ) → ((c : ℕ) → slot now c ≡ slot slots c) → length slots ≤ length now → MayComeBack slots out away
    → MayComeBack now out away
room_made slots now out away same many back = record {
  homes = λ c work found.
      let home = back.homes c work found in
      record { number = home.number; empty = same c ∙ home.empty; room = λ other. let room = home.room other in omega (arith, room, many) };
  apart = back.apart;
  count = back.count;
}

pub room_lacks : {W : Type 0} (heard : W → Option WireTold) (race : Terms) (h : InHall W) (now : List (Option (Journaled W))) → IsHall heard race h → ((c : ℕ) → slot now c ≡ slot h.slots c)
    → length h.slots ≤ length now → IsHall heard race (record h { slots = now; stopped = Some halts.Memory })
room_lacks heard race h now is same many =
    stopped_hall heard race (record h { slots = now; stopped = Some halts.Memory }) halts.Memory refl is.keeps (room_made h.slots now h.out h.away same many is.back) (λ full. absurd cc)

pub lacks_slot : {W : Type 0} (h before : InHall W) (now : List (Option (Journaled W))) → h ≡ before → before.stopped ≡ None → ((c : ℕ) → slot now c ≡ slot h.slots c)
    → LacksSlot before (record h { slots = now; stopped = Some halts.Memory })
lacks_slot {W} h before now was runs same = record {
  stops = record {
    runs = runs;
    stopped = refl;
    past = ap (λ b. b.player.past) was;
    only = ap (λ (b : InHall W). record b { player = h.player; slots = now; stopped = Some halts.Memory }) was;
  };
  same = λ c. same c ∙ ap (λ b. slot b.slots c) was;
}

-- One of the layer's own driver calls is taken out.
pub taken_out : {W : Type 0} (h before : InHall W) (permit : Permit) (bond : Work) (slots : List (Option (Journaled W))) (out : List Work) → h ≡ before → before.stopped ≡ None → before.settings ≡ []
    → chore_due before.player.past ≡ Some permit.conn → bond ≡ record { conn = permit.conn; permit = permit; past = h.player.past } → out ≡ record { conn = permit.conn; permit = permit; past = h.player.past } ∷ h.out → ChangesSlot permit.conn h.slots slots
    → slot slots permit.conn ≡ None → TakesOut bond before (record h { slots = slots; out = out; away = h.away + 1; chore = Some permit.conn })
taken_out {W} h before permit bond slots out was runs set due tied went changes empty = record {
  runs = runs;
  set = set;
  due = due ∙ ap Some at;
  empty = ap (slot slots) (sym at) ∙ empty;
  others = λ c apart. changes.others c (λ same. apart (same ∙ at)) ∙ ap (λ b. slot b.slots c) was;
  only =
      ap (λ o. now h o permit.conn) (went ∙ ap (λ w. w ∷ h.out) (sym tied))
      ∙ (ap (now h (bond ∷ h.out)) at ∙ ap (λ b. now b (bond ∷ b.out) bond.conn) was);
}
  where
    at : permit.conn ≡ bond.conn
    at = ap (λ (w : Work). w.conn) (sym tied)

    now : InHall W → List Work → ℕ → InHall W
    now b o c = record b { slots = slots; out = o; away = b.away + 1; chore = Some c }

-- If it is a Shut, it goes with its wire.
pub shut_out : {W : Type 0} (h before : InHall W) (permit : Permit) (bond : Work) (wire : Journaled W) → h ≡ before → bond ≡ record { conn = permit.conn; permit = permit; past = h.player.past }
    → slot h.slots permit.conn ≡ Some wire → slot before.slots bond.conn ≡ Some wire
shut_out h before permit bond wire was tied at = ap (λ b. slot b.slots bond.conn) (sym was) ∙ (ap (λ (w : Work). slot h.slots w.conn) tied ∙ at)

-- The house waits, or rests.

pub waits_for_chore : {W : Type 0} (h before : InHall W) → h ≡ before → h.stopped ≡ None → is_some h.chore ≡ true → HouseWaits before before
waits_for_chore h before was runs some = record {
  same = refl;
  runs = ap (λ b. b.stopped) (sym was) ∙ runs;
  why = inl (ap (λ b. is_some b.chore) (sym was) ∙ some);
}

goes_on : (p : Playing) (next : Option ℕ) → IsNext p next → is_some next ≡ true → (client : ℕ) × (goes p client ≡ true)
goes_on p (Some client) is some = (client, is.may)
goes_on p None is some = absurd cc

pub waits_for_client : {W : Type 0} (h before : InHall W) (next : Option ℕ) → h ≡ before → before.stopped ≡ None → before.settings ≡ [] → chore_due before.player.past ≡ None → IsNext h.player next
    → is_some next ≡ true → HouseWaits before before
waits_for_client h before next was runs set none is some = record {
  same = refl;
  runs = runs;
  why = inr (set, none, subst (λ b. (client : ℕ) × (goes b.player client ≡ true)) was (goes_on h.player next is some));
}

none_goes : (p : Playing) (next : Option ℕ) → IsNext p next → is_some next ≡ false → (client : ℕ) → goes p client ≡ false
none_goes p (Some client) is none = absurd cc
none_goes p None is none = is

pub rests_then : {W : Type 0} (h before : InHall W) (next : Option ℕ) → h ≡ before → before.settings ≡ [] → chore_due before.player.past ≡ None → IsNext h.player next → is_some next ≡ false
    → HasRunOut before (record h { resting = true })
rests_then {W} h before next was set none is nobody = record {
  set = set;
  none = none;
  nobody = subst (λ b. (client : ℕ) → goes b.player client ≡ false) was (none_goes h.player next is nobody);
  only = ap (λ (b : InHall W). record b { resting = true }) was;
}
