-- A hall as it is opened, and as it is closed. The argument is that one piece of work is out then, which is the house's.
use Rattle.std.proofs.Common.{◌≡◌, ◌≢◌, inl, inr, ◌==◌, ℕ, Bool, true, false, cond, List, [], ◌∷◌, length, Option, Some, None, refl, ap, sym, subst, ◌∙◌, arith, eqb-true}
use Rattle.dsql_engine_laws.specs.driver.Wires.{WireTold}
use Rattle.dsql_engine_laws.specs.history.declared.event.Control.{Control}
use Rattle.dsql_engine_laws.specs.history.Readers.Journals.{journal}
use Rattle.dsql_engine_laws.specs.wire.Journaled.{Journaled}
use Rattle.dsql_player_wires.specs.Made.{aside_on}
use Rattle.dsql_player_wires.specs.Told.{fleet_told}
use Rattle.dsql_player_wires.specs.WiresFit.{FitsAt, PlansFit, RecordsAside, WiresFit, slot}
use Rattle.dsql_player_wires.proofs.Journals.{same_or_not}
use Rattle.dsql_player.specs.declared.halt.Halt.{Halt}
use Rattle.dsql_player.specs.declared.halt.Halt.TheVariants.{Memory}
use Rattle.dsql_player.specs.Playing.{IsAt, IsReady, Playing}
use Rattle.dsql_hall_bonds.specs.Work.{Work, find}
use Rattle.dsql_hall_bonds.proofs.Finding.{find_here, find_other}
use Rattle.dsql_hall_steps.specs.Halls.{GoesOn, InHall, IsAtHome, IsAway, IsHall, IsOut, Keeps, SlotFits, house}
use Rattle.dsql_hall_steps.specs.House.{IsClosed, IsOwn, first_hall, own_work, stopped_by}
use Rattle.dsql_hall_steps.specs.Racing.{resting}
use Rattle.dsql_hall_steps.specs.Terms.{Terms}

-- The hall is opened.

module _ {W : Type 0} (heard : W → Option WireTold) (race : Terms) (p : Playing) (slots : List (Option (Journaled W))) (settings : List Control) (ready : IsReady p) (at : IsAt (resting race.lines p) p) (keeps : Keeps race p settings) (wires : WiresFit heard race.telling p.past slots) (plans : PlansFit heard race.made p.past slots) (silent : journal p.past house ≡ []) where
  abbrev own : Work
  own = own_work p.past

  found_own : (c : ℕ) (work : Work) → find c (own ∷ []) ≡ Some work → (c ≡ house) × (work ≡ own)
  found_own c work is = elim (same_or_not house c) [
    | inl same ↦ let there : Some own ≡ Some work = sym (subst (λ k. find k (own ∷ []) ≡ Some own) same (find_here own [])) ∙ is in (sym same, cc)
    | inr apart ↦ let none : None ≡ Some work = sym (find_other own [] c apart) ∙ is in absurd cc
  ]

  empty : slot slots house ≡ None
  empty = subst (λ j. FitsAt heard race.telling house j (slot slots house)) silent (wires house)

  fits : (c : ℕ) → SlotFits heard race.telling race.made p.past c (slot slots c) (find c (own ∷ []))
  fits c = elim (same_or_not house c) [
    | inl same ↦
        subst (λ k. SlotFits heard race.telling race.made p.past k (slot slots k) (find k (own ∷ []))) same
        (subst (SlotFits heard race.telling race.made p.past house (slot slots house)) (sym (find_here own [])) (record { gone = empty; unheard = refl }))
    | inr apart ↦
        subst (SlotFits heard race.telling race.made p.past c (slot slots c)) (sym (find_other own [] c apart)) (record { fits = wires c; plans = plans c })
  ]

  work : (c : ℕ) (it : Work) → find c (own ∷ []) ≡ Some it → IsOut p None c it
  work c it is =
      let its = found_own c it is in
      subst (λ k. IsOut p None k it) (sym its.0) (subst (λ w. IsOut p None house w) (sym its.1)
      (record { client = λ some. absurd (some refl); layer = λ none elsewhere. absurd (elsewhere refl) }))

  begun : IsHall heard race (first_hall p slots settings)
  begun = record {
    keeps = keeps;
    back = record {
      homes = λ c it is.
          let its = found_own c it is in
          let at : c ≡ house = its.0 in
          record { number = omega (arith, at); empty = ap (slot slots) at ∙ empty; room = λ other. absurd (other at) };
      apart = refl;
      count = refl;
    };
    full = λ full. absurd cc;
    well = λ none. record {
      ready = ready;
      at = at;
      fits = fits;
      work = work;
      fleet = record { work = own; is_out = find_here own []; told = refl };
    };
  }

  pub opened : (out : List Work) → out ≡ own ∷ [] → IsHall heard race (record (first_hall p slots settings) { out = out })
  opened out tied = subst (λ o. IsHall heard race (record (first_hall p slots settings) { out = o })) (sym tied) begun

  pub owned : (bond : Work) → bond ≡ own → IsOwn race.made bond
  owned bond tied = subst (IsOwn race.made) (sym tied) (record { conn = refl; silent = silent; unplanned = (plans house).unheard silent })

-- The hall is closed.

-- If nothing stopped the run, only one piece of work is out.
pub none_stopped : (o : Option Halt) (away : ℕ) → stopped_by o away ≡ None → (o ≡ None) × (away ≡ 1)
none_stopped None away is = (refl, by (away == 1) refl is)
  where
    by : (one : Bool) → (away == 1) ≡ one → cond one None (Some Memory) ≡ None → away ≡ 1
    by true same none = eqb-true away 1 same
    by false same none = absurd cc
none_stopped (Some halt) away is = absurd cc

only : {A : Type 0} (xs : List A) → 1 ≡ length xs → (x : A) × (xs ≡ x ∷ [])
only [] one = absurd (omega (arith, one))
only (x ∷ []) one = (x, refl)
only (x ∷ y ∷ xs) one = absurd (omega (arith, one))

-- If one piece of work is out, nothing is out elsewhere.
none_elsewhere : (out : List Work) (own : Work) (c : ℕ) → 1 ≡ length out → find house out ≡ Some own → own.conn ≡ house → c ≢ house → find c out ≡ None
none_elsewhere out own c one found its apart =
    let x = only out one in
    let alone : find house (x.0 ∷ []) ≡ Some own = ap (find house) (sym x.1) ∙ found in
    ap (find c) x.1 ∙ by (x.0) alone
  where
    by : (w : Work) → find house (w ∷ []) ≡ Some own → find c (w ∷ []) ≡ None
    by w there = elim (same_or_not w.conn house) [
      | inl same ↦ find_other w [] c (λ at. apart (sym at ∙ same))
      | inr other ↦ let none : None ≡ Some own = sym (find_other w [] house other) ∙ there in absurd cc
    ]

pub closed : {W : Type 0} (heard : W → Option WireTold) (race : Terms) (h : InHall W) (own : Work) → IsHall heard race h → h.stopped ≡ None → h.away ≡ 1 → IsOwn race.made own → find house h.out ≡ Some own
    → IsClosed heard race own.past h.player h.slots
closed {W} heard race h own is runs alone its found = record {
  ready = on.ready;
  at = on.at;
  wires = λ c. (home c).fits;
  plans = λ c. (home c).plans;
  told =
      let there = on.fleet in
      let both : Some there.work ≡ Some own = sym there.is_out ∙ found in
      let same : there.work ≡ own = cc in
      there.told ∙ ap (λ (w : Work). fleet_told race.made w.past) same;
}
  where
    on : GoesOn heard race h
    on = is.well runs

    one : 1 ≡ length h.out
    one = sym alone ∙ is.back.count

    away : IsAway h.player.past house (slot h.slots house) own
    away = subst (SlotFits heard race.telling race.made h.player.past house (slot h.slots house)) found (on.fits house)

    silent : journal h.player.past house ≡ []
    silent = away.unheard ∙ its.silent

    at_house : IsAtHome heard race.telling race.made h.player.past house (slot h.slots house)
    at_house = record {
      fits = subst (λ j. FitsAt heard race.telling house j (slot h.slots house)) (sym silent) away.gone;
      plans = record {
        unheard = λ nothing. its.unplanned;
        told = subst (RecordsAside heard (aside_on race.made house)) (sym away.gone) tt;
      };
    }

    home : (c : ℕ) → IsAtHome heard race.telling race.made h.player.past c (slot h.slots c)
    home c = elim (same_or_not c house) [
      | inl same ↦ subst (λ k. IsAtHome heard race.telling race.made h.player.past k (slot h.slots k)) (sym same) at_house
      | inr apart ↦ subst (SlotFits heard race.telling race.made h.player.past c (slot h.slots c)) (none_elsewhere h.out own c one found its.conn apart) (on.fits c)
    ]
