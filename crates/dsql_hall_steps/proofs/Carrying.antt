-- A hall as work goes out and comes back. The argument is that only one slot changes, and only what is found under one
-- number.
use Rattle.std.proofs.Common.{◌≡◌, ◌≢◌, ◌<◌, ◌≤◌, inl, inr, ◌+◌, ℕ, Bool, List, ◌∷◌, ◌++◌, length, set, Option, Some, None, refl, ap, sym, subst, ◌∙◌, arith, length-set}
use Rattle.dsql_engine_laws.specs.driver.Wires.{WireTold}
use Rattle.dsql_engine_laws.specs.history.declared.event.Control.{Control}
use Rattle.dsql_engine_laws.specs.history.declared.event.Event.{Event}
use Rattle.dsql_engine_laws.specs.history.Legal.{Legal}
use Rattle.dsql_engine_laws.specs.history.Readers.Course.{has_ended}
use Rattle.dsql_engine_laws.specs.history.Readers.Journals.{journal}
use Rattle.dsql_engine_laws.specs.laws_steps.Groups.{most_events}
use Rattle.dsql_engine_laws.specs.wire.Journaled.{Journaled}
use Rattle.dsql_player_wires.specs.Made.{Made}
use Rattle.dsql_player_wires.specs.WiresFit.{slot}
use Rattle.dsql_player_wires.proofs.Journals.{same_or_not}
use Rattle.dsql_player_wires.proofs.Slots.{set_default, slot_elsewhere}
use Rattle.dsql_player.specs.declared.halt.Halt.{Halt}
use Rattle.dsql_player.specs.declared.halt.Halt.TheVariants as halts
use Rattle.dsql_player.specs.Playing.{Playing}
use Rattle.dsql_hall_bonds.specs.Work.{Work, find, without}
use Rattle.dsql_hall_bonds.proofs.Finding.{find_here, find_other}
use Rattle.dsql_hall_steps.specs.Halls.{HasHome, HouseIsOut, InHall, IsHall, IsOut, Keeps, MayComeBack, SlotFits, house}
use Rattle.dsql_hall_steps.specs.Limits.{SetsFirst, set_in, settings_first}
use Rattle.dsql_hall_steps.specs.Racing.{Races}
use Rattle.dsql_hall_steps.specs.Terms.{Terms}
use Rattle.dsql_hall_steps.proofs.Out.{apart_with, apart_without, few_out, found_with, found_without, one_struck}

-- Holds if at most the slot of connection c changed, and no slot is lost.
pub record ChangesSlot {W : Type 0} (c : ℕ) (before after : List (Option W)) : Type 0 where
  pub others : (d : ℕ) → d ≢ c → slot after d ≡ slot before d
  pub many : length before ≤ length after

pub slot_set : {W : Type 0} (slots : List (Option W)) (c : ℕ) (wire : Option W) → ChangesSlot c slots (set slots c wire)
slot_set slots c wire = record { others = λ d apart. slot_elsewhere slots c wire d apart; many = let same = length-set slots c wire in omega (arith, same) }

-- The slot whose wire is taken is empty.
pub slot_emptied : {W : Type 0} (slots now : List (Option W)) (c : ℕ) → now ≡ set slots c None → ChangesSlot c slots now × (slot now c ≡ None)
slot_emptied slots now c emptied = subst (λ s. ChangesSlot c slots s × (slot s c ≡ None)) (sym emptied) (slot_set slots c None, set_default slots c None)

home_still : {W : Type 0} (c d : ℕ) (before after : List (Option (Journaled W))) → ChangesSlot c before after → d ≢ c → HasHome before d → HasHome after d
home_still c d before after changes apart home = record {
  number = home.number;
  empty = changes.others d apart ∙ home.empty;
  room = λ other. let here = home.room other in let many = changes.many in omega (arith, here, many);
}

-- Work goes out.

-- A connection whose wire is at home has no work out.
pub none_is_out : {W : Type 0} (slots : List (Option (Journaled W))) (out : List Work) (away c : ℕ) (wire : Journaled W) → MayComeBack slots out away → slot slots c ≡ Some wire → find c out ≡ None
none_is_out slots out away c wire back at = by (find c out) refl
  where
    by : (o : Option Work) → find c out ≡ o → find c out ≡ None
    by None is = is
    by (Some work) is = let clash : None ≡ Some wire = sym (back.homes c work is).empty ∙ at in absurd cc

module _ {W : Type 0} (c : ℕ) (work : Work) (before after : List (Option (Journaled W))) (out : List Work) (changes : ChangesSlot c before after) (its : work.conn ≡ c) (none : find c out ≡ None) (empty : slot after c ≡ None) where
  none_there : find work.conn out ≡ None
  none_there = ap (λ k. find k out) its ∙ none

  pub sent_back : (away : ℕ) → c ≤ house → c < length after → MayComeBack before out away → MayComeBack after (work ∷ out) (away + 1)
  sent_back away number room back = record {
    homes = λ d it found. elim (found_with work out d it found) [
      | inl new ↦ let same : d ≡ c = new.0 ∙ its in record {
        number = subst (λ k. k ≤ house) (sym same) number;
        empty = ap (λ k. slot after k) same ∙ empty;
        room = λ other. subst (λ k. k < length after) (sym same) room;
      }
      | inr old ↦ home_still c d before after changes (λ same. old.0 (same ∙ sym its)) (back.homes d it old.1)
    ];
    apart = apart_with work out none_there back.apart;
    count = let count = back.count in omega (arith, count);
  }

  pub sent_fits : (heard : W → Option WireTold) (telling : Bool) (made : List Made) (past : List Event) → work.past ≡ past → ((d : ℕ) → SlotFits heard telling made past d (slot before d) (find d out)) → (d : ℕ)
      → SlotFits heard telling made past d (slot after d) (find d (work ∷ out))
  sent_fits heard telling made past now fits d = elim (same_or_not d c) [
    | inl same ↦
        let found : find d (work ∷ out) ≡ Some work = ap (λ k. find k (work ∷ out)) (same ∙ sym its) ∙ find_here work out in
        subst (λ o. SlotFits heard telling made past d (slot after d) o) (sym found) (record { gone = ap (λ k. slot after k) same ∙ empty; unheard = ap (λ H. journal H d) (sym now) })
    | inr apart ↦
        subst (λ o. SlotFits heard telling made past d (slot after d) o) (sym (find_other work out d (λ same. apart (sym same ∙ its))))
        (subst (λ w. SlotFits heard telling made past d w (find d out)) (sym (changes.others d apart)) (fits d))
  ]

  pub sent_work : (p : Playing) (chore now : Option ℕ) → IsOut p now c work → ((d : ℕ) (it : Work) → find d out ≡ Some it → IsOut p chore d it → IsOut p now d it) → ((d : ℕ) (it : Work) → find d out ≡ Some it → IsOut p chore d it)
      → (d : ℕ) (it : Work) → find d (work ∷ out) ≡ Some it → IsOut p now d it
  sent_work p chore now new still old d it found = elim (found_with work out d it found) [
    | inl at ↦ subst (λ k. IsOut p now k it) (sym (at.0 ∙ its)) (subst (λ w. IsOut p now c w) (sym at.1) new)
    | inr at ↦ still d it at.1 (old d it at.1)
  ]

  pub sent_house : (made : List Made) (past : List Event) → c ≢ house → HouseIsOut made past out → HouseIsOut made past (work ∷ out)
  sent_house made past other it = record { work = it.work; is_out = find_other work out house (λ same. other (sym its ∙ same)) ∙ it.is_out; told = it.told }

-- Work comes back.

pub back_home : {W : Type 0} (c : ℕ) (work : Work) (before after : List (Option (Journaled W))) (out : List Work) (away now : ℕ) → ChangesSlot c before after → find c out ≡ Some work → away ≡ now + 1 → MayComeBack before out away
    → MayComeBack after (without c out) now
back_home c work before after out away now changes is less back = record {
  homes = λ d it found. let old = found_without c out d it found in home_still c d before after changes old.0 (back.homes d it old.1);
  apart = apart_without c out back.apart;
  count = let count = back.count in let one = one_struck c work out back.apart is in omega (arith, count, one, less);
}

-- There is less work than a counter holds, since no two pieces have one number.
pub few_away : {W : Type 0} (slots : List (Option (Journaled W))) (out : List Work) (away : ℕ) → MayComeBack slots out away → away ≤ house + 1
few_away slots out away back =
    let few = few_out (house + 1) out back.apart (λ c work is. let number = (back.homes c work is).number in omega (arith, number)) in
    let count = back.count in
    omega (arith, few, count)

-- The work that is out is counted, so some is away.
pub some_away : {W : Type 0} (c : ℕ) (work : Work) (slots : List (Option (Journaled W))) (out : List Work) (away : ℕ) → find c out ≡ Some work → MayComeBack slots out away → 1 ≤ away
some_away c work slots out away is back = let count = back.count in let one = one_struck c work out back.apart is in omega (arith, count, one)

-- A run that stops.

-- If the history is as it was, so is what holds of it.
pub keeps_still : (race : Terms) (p q : Playing) (settings : List Control) → q.past ≡ p.past → q.trimmed ≡ p.trimmed → Keeps race p settings → Keeps race q settings
keeps_still race p q settings same trimmed keeps = record {
  legal = subst Legal (sym same) keeps.legal;
  running = ap has_ended same ∙ keeps.running;
  ordered = subst (Races race.run race.lines) (sym same) keeps.ordered;
  whole = trimmed ∙ keeps.whole;
  settings = ap (λ past. set_in past ++ settings) same ∙ keeps.settings;
  first = subst (SetsFirst (length (settings_first race.lines))) (sym same) keeps.first;
  limits = keeps.limits;
}

-- A hall whose run has stopped.
pub stopped_hall : {W : Type 0} (heard : W → Option WireTold) (race : Terms) (h : InHall W) (halt : Halt) → h.stopped ≡ Some halt → Keeps race h.player h.settings → MayComeBack h.slots h.out h.away
    → (halt ≡ halts.Full → most_events ≤ length h.player.past) → IsHall heard race h
stopped_hall heard race h halt is keeps back full = record {
  keeps = keeps;
  back = back;
  full = λ at. let same : Some halt ≡ Some halts.Full = sym is ∙ at in full cc;
  well = λ none. let clash : Some halt ≡ None = sym is ∙ none in absurd cc;
}
