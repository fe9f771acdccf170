-- A fault is planned: on the wire of its connection if it has one, and with the fleet otherwise. The argument
-- takes these two cases, and adds the plan to the record of the wire or the fleet.
use Rattle.std.proofs.Common.{◌≡◌, ◌≢◌, inl, inr, ℕ, ◌+◌, Bool, true, false, cond, List, [], ◌∷◌, ◌++◌, map, length, Option, Some, None, refl, sym, ◌∙◌, ap, subst, append_assoc, length-append, arith}
use Rattle.std.specs.Prelude.{option_map, is_some, IfSome, MatchBool}
use Rattle.std.proofs.lemmas.List.{map-append}
use Rattle.dsql_history.specs.driver.Kinds.{is_connect, is_shut}
use Rattle.dsql_history.specs.driver.Wires.{WireTold, FleetTold, Connected, Plan, RetiredWire, WirePlan, planned_after, plans_after, with_connects, with_plan, with_retired, with_wire_plan}
use Rattle.dsql_history.specs.journal.declared.entry.Entry.{Entry}
use Rattle.dsql_history.specs.declared.event.Event.{Event}
use Rattle.dsql_history.specs.declared.event.Event.TheVariants.{Heard}
use Rattle.dsql_history.specs.Readers.Journals.{journal}
use Rattle.dsql_wire.specs.Journaled.{Journaled}
use Rattle.dsql_wire.specs.Told.{TellsOf, told_of}
use Rattle.dsql_player_wires.specs.Asked.{Plans, TakesPlan}
use Rattle.dsql_player_wires.specs.Made.{Aside, Made, PlannedAhead, PlannedOn, aside_of, aside_on}
use Rattle.dsql_player_wires.specs.Told.{behind, fleet_told, FleetTells, told_then}
use Rattle.dsql_player_wires.specs.WiresFit.{slot, connects_heard, is_wired, made_at, FitsAt, HearsPlan, HoldsWire, KeepsFit, PlansAt, RecordsAside, WiresFit}
use Rattle.dsql_player_wires.proofs.Asides.{ahead_told, one_more_fits, open_wired, plan_on_another, plan_on_its_wire, unshut_told, with_plan_made}
use Rattle.dsql_player_wires.proofs.Journals.{same_or_not}
use Rattle.dsql_player_wires.proofs.Wiring.{fit_but_one, fits_at_still, holds_here, holds_wired, some_wired, still_some}

-- A fleet records as many Connects as were heard.

one_more : (connected : Connected) (ws : List RetiredWire) (told : FleetTold) (n : ℕ) (opens shuts : Bool) → length told.connects ≡ n
    → length (cond opens (with_connects (connected ∷ []) told) (cond shuts (with_retired ws told) told)).connects ≡ cond opens (n + 1) n
one_more connected ws told n true shuts h = length-append told.connects (connected ∷ []) ∙ ap (λ k. k + 1) h
one_more connected ws told n false true h = h
one_more connected ws told n false false h = h

connects_told : (made : List Made) (past : List Event) → length (fleet_told made past).connects ≡ connects_heard past
connects_told made [] = refl
connects_told made (Heard e ∷ past) = one_more (e.conn, e.answer) _ (fleet_told made past) (connects_heard past) (is_connect e.call) (is_shut e.call) (connects_told made past)
connects_told made (_ ∷ past) = connects_told made past

unwired_told : (c : ℕ) (plan : Plan) (made : List Made) (past : List Event) → fleet_told (PlannedAhead (connects_heard past, (c, plan)) ∷ made) past ≡ with_wire_plan (c, plan) (fleet_told made past)
unwired_told c plan made past = ahead_told (connects_heard past, (c, plan)) made past ∙ ap (λ k. with_plan_made (k, (c, plan)) (fleet_told made past)) (sym (connects_told made past))

plans_then : (p : WirePlan) (more first : FleetTold)
    → (first.plans ++ map (behind (length first.connects)) more.plans) ++ (length (first.connects ++ more.connects), p) ∷ []
    ≡ first.plans ++ map (behind (length first.connects)) (more.plans ++ (length more.connects, p) ∷ [])
plans_then p more first =
    let before : ℕ = length first.connects in
    ap (λ n. (first.plans ++ map (behind before) more.plans) ++ (n, p) ∷ []) (length-append first.connects more.connects)
    ∙ append_assoc first.plans (map (behind before) more.plans) ((before + length more.connects, p) ∷ [])
    ∙ ap (λ plans. first.plans ++ plans) (sym (map-append (behind before) more.plans ((length more.connects, p) ∷ [])))

plan_then : (p : WirePlan) (more : FleetTold) (t : Option FleetTold) → plans_after p (option_map (told_then more) t) ≡ option_map (told_then (with_wire_plan p more)) t
plan_then p more None = refl
plan_then p more (Some first) = ap (λ plans. Some (record (told_then more first) { plans = plans })) (plans_then p more first)

-- A slot has a wire exactly if its connection does.

pub empty_unwired : {W : Type 0} (heard : W → Option WireTold) (telling : Bool) (c : ℕ) (entries : List Entry) (w : Option (Journaled W)) (wired : Bool) → w ≡ None → MatchBool wired (HoldsWire heard telling c entries w) (w ≡ None)
    → wired ≡ false
empty_unwired heard telling c entries (Some w) wired none fit = absurd cc
empty_unwired heard telling c entries None true none fit = absurd fit
empty_unwired heard telling c entries None false none fit = refl

pub filled_wired : {W : Type 0} (heard : W → Option WireTold) (telling : Bool) (c : ℕ) (entries : List Entry) (w : Journaled W) → FitsAt heard telling c entries (Some w) → is_wired entries ≡ true
filled_wired heard telling c entries w fit =
    holds_wired heard telling c entries (Some w) (is_wired entries) refl (some_wired heard telling c entries (Some w) (is_wired entries) refl fit) fit

calls_told : (entries : List Entry) → length (told_of entries) ≡ length entries
calls_told [] = refl
calls_told (e ∷ before) = length-append (told_of before) ((e.call, e.answer) ∷ []) ∙ omega (arith, calls_told before)

plans_more : (plan : Plan) (aside : Aside) (conn : ℕ) (entries : List Entry) (told : Option WireTold) → IfSome told (TellsOf conn entries) → IfSome told (λ t. aside_of t ≡ aside)
    → IfSome (planned_after plan told) (λ t. aside_of t ≡ record aside { plans = aside.plans ++ (length entries, plan) ∷ [] })
plans_more plan aside conn entries None exact h = tt
plans_more plan aside conn entries (Some told) exact h =
    ap (λ (a : Aside). record a { plans = a.plans ++ (length told.calls, plan) ∷ [] }) h
    ∙ ap (λ k. record aside { plans = aside.plans ++ (k, plan) ∷ [] }) (ap length exact.calls ∙ calls_told entries)

module _ {W : Type 0} (heard : W → Option WireTold) (c : ℕ) (plan : Plan) (before after : Option FleetTold) (past : List Event) (slots now : List (Option (Journaled W))) (others : (d : ℕ) → d ≢ c → slot now d ≡ slot slots d) where
  -- If the connection has no wire, the fleet records the plan.
  fleet_plan_tells : slot now c ≡ slot slots c → after ≡ plans_after (c, plan) before → FleetTells heard (PlannedAhead (connects_heard past, (c, plan)) ∷ []) before after past past slots now
  fleet_plan_tells same told = record {
    told = λ made t j. record {
      fleet = told ∙ ap (plans_after (c, plan)) j.fleet ∙ plan_then (c, plan) (fleet_told made past) t ∙ ap (λ more. option_map (told_then more) t) (sym (unwired_told c plan made past));
      wires = λ d. subst (λ (w : Option (Journaled W)). PlansAt heard (aside_on made d) (journal past d) w) (sym (everywhere d)) (j.wires d);
    };
    telling = ap is_some told ∙ still_some (with_wire_plan (c, plan)) before;
  }
    where
      everywhere : (d : ℕ) → slot now d ≡ slot slots d
      everywhere d = elim (same_or_not d c) [
        | inl is ↦ subst (λ (k : ℕ). slot now k ≡ slot slots k) (sym is) same
        | inr n ↦ others d n
      ]

  -- If the connection has a wire, whose journal is the connection's and on which the fault is planned, the wire
  -- records the plan.
  wire_plan_tells : (w x : Journaled W) → slot slots c ≡ Some w → slot now c ≡ Some x → w.journal ≡ journal past c → HearsPlan heard plan w x → after ≡ before → is_wired (journal past c) ≡ true
      → FleetTells heard (PlannedOn c (length (journal past c), plan) ∷ []) before after past past slots now
  wire_plan_tells w x was is its hears told wired = record {
    told = λ made t j. record {
      fleet = told ∙ j.fleet ∙ ap (λ all. option_map (told_then all) t) (sym (unshut_told c made (its_plan ∷ made) past refl (alike made) (open_wired (journal past c) wired)));
      wires = one_more_fits heard made (its_plan ∷ made) past slots now c (alike made) others j.wires (here made (j.wires c));
    };
    telling = ap is_some told;
  }
    where
      its_plan : Made
      its_plan = PlannedOn c (length (journal past c), plan)

      alike : (made : List Made) (d : ℕ) → d ≢ c → aside_on (its_plan ∷ made) d ≡ aside_on made d
      alike made d apart = plan_on_another c d (length (journal past c), plan) made apart

      some : journal past c ≡ [] → ⊥
      some none = let clash : false ≡ true = sym (ap is_wired none) ∙ wired in absurd cc

      here : (made : List Made) → PlansAt heard (aside_on made c) (journal past c) (slot slots c) → PlansAt heard (aside_on (its_plan ∷ made) c) (journal past c) (slot now c)
      here made at = record {
        unheard = λ none. absurd (some none);
        told =
            let aside : Aside = aside_on made c in
            let more : Aside = record aside { plans = aside.plans ++ (length (journal past c), plan) ∷ [] } in
            let had : IfSome (heard w.wire) (λ told. aside_of told ≡ aside) = subst (λ (o : Option (Journaled W)). RecordsAside heard aside o) was at.told in
            let exact : IfSome (heard w.wire) (TellsOf w.conn (journal past c)) = subst (λ (entries : List Entry). IfSome (heard w.wire) (TellsOf w.conn entries)) its hears.exact in
            let has : IfSome (heard x.wire) (λ told. aside_of told ≡ more) =
            subst (λ (told : Option WireTold). IfSome told (λ told. aside_of told ≡ more)) (sym hears.told)
            (plans_more plan aside w.conn (journal past c) (heard w.wire) exact had) in
            subst (λ (o : Option (Journaled W)). RecordsAside heard (aside_on (its_plan ∷ made) c) o) (sym is)
            (subst (λ (all : Aside). IfSome (heard x.wire) (λ told. aside_of told ≡ all)) (sym (plan_on_its_wire c (length (journal past c), plan) made)) has);
      }

-- After a fault was planned, the fleet and the wires record the plan.
pub plan_tells : {W : Type 0} (heard : W → Option WireTold) (telling : Bool) (c : ℕ) (plan : Plan) (before after : Option FleetTold) (past : List Event) (slots now : List (Option (Journaled W))) → WiresFit heard telling past slots
    → Plans heard c plan before after slots now → FleetTells heard (made_at c plan past ∷ []) before after past past slots now
plan_tells {W} heard telling c plan before after past slots now fit p =
    by (slot slots c) (slot now c) refl refl p.here (fit c)
  where
    its : (wired : Bool) → is_wired (journal past c) ≡ wired
        → FleetTells heard (cond wired (PlannedOn c (length (journal past c), plan)) (PlannedAhead (connects_heard past, (c, plan))) ∷ []) before after past past slots now
        → FleetTells heard (made_at c plan past ∷ []) before after past past slots now
    its wired is tells =
        subst (λ (b : Bool). FleetTells heard (cond b (PlannedOn c (length (journal past c), plan)) (PlannedAhead (connects_heard past, (c, plan))) ∷ []) before after past past slots now) (sym is) tells

    by : (w x : Option (Journaled W)) → slot slots c ≡ w → slot now c ≡ x → TakesPlan heard c plan before after w x → FitsAt heard telling c (journal past c) w
        → FleetTells heard (made_at c plan past ∷ []) before after past past slots now
    by None x was is h at =
        its false (empty_unwired heard telling c (journal past c) None (is_wired (journal past c)) refl at)
        (fleet_plan_tells heard c plan before after past slots now p.others (is ∙ h.0 ∙ sym was) h.1)
    by (Some w) None was is h at = absurd h
    by (Some w) (Some x) was is h at =
        let wired : is_wired (journal past c) ≡ true = filled_wired heard telling c (journal past c) w at in
        let holds : HoldsWire heard telling c (journal past c) (Some w) = holds_here heard telling c (journal past c) (Some w) wired at in
        its true wired (wire_plan_tells heard c plan before after past slots now p.others w x was is holds.journal h.0 h.1 wired)

-- After a fault was planned, the wires fit as before.
pub plan_fits : {W : Type 0} (heard : W → Option WireTold) (c : ℕ) (plan : Plan) (before after : Option FleetTold) (past : List Event) (slots now : List (Option (Journaled W))) → Plans heard c plan before after slots now
    → KeepsFit heard past past slots now
plan_fits {W} heard c plan before after past slots now p telling fit =
    fit_but_one heard telling past past slots now c (λ d n. refl) p.others fit (by (slot slots c) (slot now c) p.here (fit c))
  where
    by : (w x : Option (Journaled W)) → TakesPlan heard c plan before after w x → FitsAt heard telling c (journal past c) w → FitsAt heard telling c (journal past c) x
    by None x h at = subst (λ (o : Option (Journaled W)). FitsAt heard telling c (journal past c) o) (sym h.0) at
    by (Some w) None h at = absurd h
    by (Some w) (Some x) h at =
        fits_at_still heard telling c (journal past c) w x (record { conn = h.0.conn; journal = h.0.journal; telling = ap is_some h.0.told ∙ still_some (with_plan plan) (heard w.wire) }) at
