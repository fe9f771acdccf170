-- What one more plan or want changes of the records. The argument is that it changes the record of one wire, or the
-- fleet's own plans and wants. No wire that was given back gets one, because no connection that was shut has a wire.
use Rattle.std.proofs.Common.{◌≡◌, ◌≢◌, ◌⊎◌, inl, inr, ℕ, Bool, true, false, not, ◌||◌, cond, List, [], ◌∷◌, ◌++◌, Option, refl, sym, ◌∙◌, ap, subst}
use Rattle.dsql_history.specs.driver.Kinds.{is_connect, is_shut}
use Rattle.dsql_history.specs.driver.Wires.{WireTold, FleetTold, Connected, PlanMade, RetiredWire, WirePlanMade, with_connects, with_retired, with_wanted_connect}
use Rattle.dsql_history.specs.driver.declared.call.DriverCall.{DriverCall}
use Rattle.dsql_history.specs.journal.declared.entry.Entry.{Entry}
use Rattle.dsql_history.specs.journal.Readers.{was_shut}
use Rattle.dsql_history.proofs.journal.Conjunctions.{parts2}
use Rattle.dsql_history.specs.declared.event.Event.{Event}
use Rattle.dsql_history.specs.declared.event.Event.TheVariants.{Heard}
use Rattle.dsql_history.specs.Readers.Journals.{journal}
use Rattle.dsql_wire.specs.Journaled.{Journaled}
use Rattle.dsql_player_wires.specs.Made.{Aside, Made, PlannedAhead, PlannedOn, WantedConnect, WantedOn, aside_on, plans_on, wants_on}
use Rattle.dsql_player_wires.specs.Told.{fleet_told, tells_of, with_heard}
use Rattle.dsql_player_wires.specs.WiresFit.{slot, is_wired, was_opened, PlansAt, PlansFit}
use Rattle.dsql_player_wires.proofs.Journals.{same_or_not, journal_here, journal_elsewhere, not_so, other_number, same_to_itself}

-- A wire has its own plans and wants, and no others.

pub plan_on_its_wire : (c : ℕ) (plan : PlanMade) (made : List Made) → aside_on (PlannedOn c plan ∷ made) c ≡ record (aside_on made c) { plans = plans_on made c ++ plan ∷ [] }
plan_on_its_wire c plan made = rw same_to_itself refl

pub plan_on_another : (c d : ℕ) (plan : PlanMade) (made : List Made) → d ≢ c → aside_on (PlannedOn c plan ∷ made) d ≡ aside_on made d
plan_on_another c d plan made n = rw (other_number c d (λ h. n (sym h))) refl

pub want_on_its_wire : (c : ℕ) (call : DriverCall) (made : List Made) → aside_on (WantedOn c call ∷ made) c ≡ record (aside_on made c) { wanted = wants_on made c ++ call ∷ [] }
want_on_its_wire c call made = rw same_to_itself refl

pub want_on_another : (c d : ℕ) (call : DriverCall) (made : List Made) → d ≢ c → aside_on (WantedOn c call ∷ made) d ≡ aside_on made d
want_on_another c d call made n = rw (other_number c d (λ h. n (sym h))) refl

-- If only the wire of connection c has more plans or wants, and its slot fits them, all of them fit.
pub one_more_fits : {W : Type 0} (heard : W → Option WireTold) (made more : List Made) (past : List Event) (slots now : List (Option (Journaled W))) (c : ℕ)
    → ((d : ℕ) → d ≢ c → aside_on more d ≡ aside_on made d) → ((d : ℕ) → d ≢ c → slot now d ≡ slot slots d)
    → PlansFit heard made past slots → PlansAt heard (aside_on more c) (journal past c) (slot now c) → PlansFit heard more past now
one_more_fits {W} heard made more past slots now c alike others fit here =
    λ d. elim (same_or_not d c) [
      | inl e ↦ subst (λ (k : ℕ). PlansAt heard (aside_on more k) (journal past k) (slot now k)) (sym e) here
      | inr n ↦ subst (λ (aside : Aside). PlansAt heard aside (journal past d) (slot now d)) (sym (alike d n))
          (subst (λ (o : Option (Journaled W)). PlansAt heard (aside_on made d) (journal past d) o) (sym (others d n)) (fit d))
    ]

-- What the fleet records of the wires that it was given back stays.

neither_of : (a b : Bool) → (a || b) ≡ false → (a ≡ false) × (b ≡ false)
neither_of true b h = absurd cc
neither_of false b h = (refl, h)

-- A connection that has a wire wasn't shut.
pub open_wired : (entries : List Entry) → is_wired entries ≡ true → was_shut entries ≡ false
open_wired entries wired = not_so (was_shut entries) (parts2 (was_opened entries) (not (was_shut entries)) wired).1

heard_alike : (aside other : Aside) (e : Entry) (before : List Entry) (told tells : FleetTold) → (is_shut e.call ≡ false) ⊎ (other ≡ aside) → tells ≡ told
    → with_heard other e before tells ≡ with_heard aside e before told
heard_alike aside other e before told tells (inl no_shut) same = rw (no_shut, same) refl
heard_alike aside other e before told tells (inr alike) same = ap (λ (a : Aside). with_heard a e before tells) alike ∙ ap (with_heard aside e before) same

-- If only the wire of connection c, which wasn't shut, has more plans or wants, the fleet records nothing more.
pub unshut_told : (c : ℕ) (made more : List Made) (past : List Event) → fleet_told more [] ≡ fleet_told made [] → ((d : ℕ) → d ≢ c → aside_on more d ≡ aside_on made d) → was_shut (journal past c) ≡ false
    → fleet_told more past ≡ fleet_told made past
unshut_told c made more [] none alike h = none
unshut_told c made more (Heard e ∷ past) none alike h = by (same_or_not e.conn c) (unshut_told c made more past none alike)
  where
    by : (e.conn ≡ c) ⊎ (e.conn ≢ c) → (was_shut (journal past c) ≡ false → fleet_told more past ≡ fleet_told made past) → fleet_told more (Heard e ∷ past) ≡ fleet_told made (Heard e ∷ past)
    by (inl same) rest =
        let here : was_shut (journal (Heard e ∷ past) e.conn) ≡ false = ap (λ n. was_shut (journal (Heard e ∷ past) n)) same ∙ h in
        let unshut : (is_shut e.call || was_shut (journal past e.conn)) ≡ false = sym (ap was_shut (journal_here past e)) ∙ here in
        let both = neither_of (is_shut e.call) (was_shut (journal past e.conn)) unshut in
        heard_alike (aside_on made e.conn) (aside_on more e.conn) e (journal past e.conn) (fleet_told made past) (fleet_told more past) (inl both.0)
        (rest (ap (λ n. was_shut (journal past n)) (sym same) ∙ both.1))
    by (inr other) rest =
        let unshut : was_shut (journal past c) ≡ false = sym (ap was_shut (journal_elsewhere past e c (λ is. other (sym is)))) ∙ h in
        heard_alike (aside_on made e.conn) (aside_on more e.conn) e (journal past e.conn) (fleet_told made past) (fleet_told more past) (inr (alike e.conn other))
        (rest unshut)
unshut_told c made more (_ ∷ past) none alike h = unshut_told c made more past none alike h

-- What is planned with the fleet, and what it answers Memory, is added to what it records.

-- Holds if a change of a fleet's record leaves its Connects and wires alone.
record ChangesNoOther (change : FleetTold → FleetTold) : Type 0 where
  connects : (cs : List Connected) (told : FleetTold) → with_connects cs (change told) ≡ change (with_connects cs told)
  retired : (ws : List RetiredWire) (told : FleetTold) → with_retired ws (change told) ≡ change (with_retired ws told)

changed_after : (change : FleetTold → FleetTold) (cs : List Connected) (ws : List RetiredWire) (told : FleetTold) (opens shuts : Bool) → ChangesNoOther change
    → cond opens (with_connects cs (change told)) (cond shuts (with_retired ws (change told)) (change told)) ≡ change (cond opens (with_connects cs told) (cond shuts (with_retired ws told) told))
changed_after change cs ws told true shuts apart = apart.connects cs told
changed_after change cs ws told false true apart = apart.retired ws told
changed_after change cs ws told false false apart = refl

changed_told : (change : FleetTold → FleetTold) (made more : List Made) (past : List Event) → ChangesNoOther change → ((d : ℕ) → aside_on more d ≡ aside_on made d) → fleet_told more [] ≡ change (fleet_told made [])
    → fleet_told more past ≡ change (fleet_told made past)
changed_told change made more [] apart alike first = first
changed_told change made more (Heard e ∷ past) apart alike first =
    heard_alike (aside_on made e.conn) (aside_on more e.conn) e (journal past e.conn) (change (fleet_told made past)) (fleet_told more past) (inr (alike e.conn)) (changed_told change made more past apart alike first)
    ∙ changed_after change ((e.conn, e.answer) ∷ []) ((e.conn, tells_of e.conn (aside_on made e.conn) (e ∷ journal past e.conn)) ∷ []) (fleet_told made past) (is_connect e.call) (is_shut e.call) apart
changed_told change made more (_ ∷ past) apart alike first = changed_told change made more past apart alike first

abbrev pub with_plan_made : WirePlanMade → FleetTold → FleetTold
with_plan_made p told = record told { plans = told.plans ++ p ∷ [] }

pub ahead_told : (p : WirePlanMade) (made : List Made) (past : List Event) → fleet_told (PlannedAhead p ∷ made) past ≡ with_plan_made p (fleet_told made past)
ahead_told p made past = changed_told (with_plan_made p) made (PlannedAhead p ∷ made) past (record { connects = λ cs told. refl; retired = λ ws told. refl }) (λ d. refl) refl

pub connect_wanted_told : (c : ℕ) (made : List Made) (past : List Event) → fleet_told (WantedConnect c ∷ made) past ≡ with_wanted_connect c (fleet_told made past)
connect_wanted_told c made past = changed_told (with_wanted_connect c) made (WantedConnect c ∷ made) past (record { connects = λ cs told. refl; retired = λ ws told. refl }) (λ d. refl) refl
