-- The plans and wants of each wire, as a history goes on. The argument is that an entry changes one slot at most, and
-- adds no plan and no want.
use Rattle.std.proofs.Common.{◌≡◌, ◌≢◌, inl, inr, ℕ, true, List, [], ◌∷◌, ◌++◌, Option, Some, None, refl, sym, ◌∙◌, ap, subst, set}
use Rattle.std.specs.Prelude.{option_map, IfSome}
use Rattle.std.specs.List.{list_all}
use Rattle.dsql_history.specs.driver.Wires.{Told, WireTold, with_call}
use Rattle.dsql_history.specs.journal.declared.entry.Entry.{Entry}
use Rattle.dsql_history.specs.declared.event.Event.{Event}
use Rattle.dsql_history.specs.declared.event.Event.TheVariants.{Heard}
use Rattle.dsql_history.specs.Readers.Journals.{journal}
use Rattle.dsql_wire.specs.Journaled.{Journaled}
use Rattle.dsql_player_wires.specs.Made.{Aside, Made, aside_of, aside_on, no_aside}
use Rattle.dsql_player_wires.specs.Told.{hears_nothing}
use Rattle.dsql_player_wires.specs.WiresFit.{slot, HearsEntry, KeepsPlans, PlansAt, PlansFit, RecordsAside}
use Rattle.dsql_player_wires.proofs.Journals.{same_or_not, journal_here, journal_elsewhere, unheard}
use Rattle.dsql_player_wires.proofs.Slots.{slot_elsewhere, set_default}

-- A call that is heard adds no plan and no want.
same_plans : (call : Told) (aside : Aside) (told : Option WireTold) → IfSome told (λ t. aside_of t ≡ aside) → IfSome (option_map (with_call call) told) (λ t. aside_of t ≡ aside)
same_plans call aside None h = tt
same_plans call aside (Some told) h = h

pub heard_plans : {W : Type 0} (heard : W → Option WireTold) (e : Entry) (aside : Aside) (before after : Option (Journaled W)) → HearsEntry heard e before after
    → RecordsAside heard aside before → RecordsAside heard aside after
heard_plans heard e aside None after t h = absurd t
heard_plans heard e aside (Some b) None t h = absurd t
heard_plans heard e aside (Some b) (Some a) t h = subst (λ (told : Option WireTold). IfSome told (λ t. aside_of t ≡ aside)) (sym t.told) (same_plans (e.call, e.answer) aside (heard b.wire) h)

-- If only the slot and the journal of connection d change, the plans and wants of all others fit as before.
pub plans_but_one : {W : Type 0} (heard : W → Option WireTold) (made : List Made) (past now : List Event) (before after : List (Option (Journaled W))) (d : ℕ)
    → ((c : ℕ) → c ≢ d → journal now c ≡ journal past c) → ((c : ℕ) → c ≢ d → slot after c ≡ slot before c)
    → PlansFit heard made past before → PlansAt heard (aside_on made d) (journal now d) (slot after d) → PlansFit heard made now after
plans_but_one {W} heard made past now before after d journals slots fit here =
    λ c. elim (same_or_not c d) [
      | inl e ↦ subst (λ (k : ℕ). PlansAt heard (aside_on made k) (journal now k) (slot after k)) (sym e) here
      | inr n ↦ subst (λ (j : List Entry). PlansAt heard (aside_on made c) j (slot after c)) (sym (journals c n))
          (subst (λ (w : Option (Journaled W)). PlansAt heard (aside_on made c) (journal past c) w) (sym (slots c n)) (fit c))
    ]

-- What isn't heard adds no plan and no want.
pub unheard_plans : {W : Type 0} (heard : W → Option WireTold) (made : List Made) (more past : List Event) (ws : List (Option (Journaled W))) → list_all hears_nothing more ≡ true → PlansFit heard made past ws
    → PlansFit heard made (more ++ past) ws
unheard_plans heard made more past ws quiet fit = λ c. subst (λ (j : List Entry). PlansAt heard (aside_on made c) j (slot ws c)) (sym (unheard more past c quiet)) (fit c)

-- If the same was heard in both histories, the plans and wants fit both.
pub alike_plans : {W : Type 0} (heard : W → Option WireTold) (old new : List Event) (ws : List (Option (Journaled W))) → ((c : ℕ) → journal new c ≡ journal old c) → KeepsPlans heard old new ws ws
alike_plans heard old new ws same made fit = λ c. subst (λ (j : List Entry). PlansAt heard (aside_on made c) j (slot ws c)) (sym (same c)) (fit c)

-- If there are no wires, no plans and no wants, they fit.
pub fresh_plans : {W : Type 0} (heard : W → Option WireTold) (past : List Event) (ws : List (Option (Journaled W))) → ws ≡ [] → PlansFit heard [] past ws
fresh_plans heard past ws none = λ c. record { unheard = λ h. refl; told = rw none tt }

-- If an entry of a connection comes, and its slot fits the plans and wants of its wire, all of them fit.
entry_plans : {W : Type 0} (heard : W → Option WireTold) (made : List Made) (past : List Event) (e : Entry) (before after : List (Option (Journaled W))) → ((c : ℕ) → c ≢ e.conn → slot after c ≡ slot before c)
    → PlansFit heard made past before → RecordsAside heard (aside_on made e.conn) (slot after e.conn) → PlansFit heard made (Heard e ∷ past) after
entry_plans heard made past e before after others fit here =
    plans_but_one heard made past (Heard e ∷ past) before after e.conn (journal_elsewhere past e) others fit
    (subst (λ (j : List Entry). PlansAt heard (aside_on made e.conn) j (slot after e.conn)) (sym (journal_here past e)) (record { unheard = λ h. absurd cc; told = here }))

-- If an entry was heard of a connection that keeps its wire, the plans and wants fit.
pub answered_plans : {W : Type 0} (heard : W → Option WireTold) (past : List Event) (e : Entry) (before after : List (Option (Journaled W))) → ((c : ℕ) → c ≢ e.conn → slot after c ≡ slot before c)
    → HearsEntry heard e (slot before e.conn) (slot after e.conn) → KeepsPlans heard past (Heard e ∷ past) before after
answered_plans heard past e before after others hears made fit =
    entry_plans heard made past e before after others fit (heard_plans heard e (aside_on made e.conn) (slot before e.conn) (slot after e.conn) hears (fit e.conn).told)

-- If a connection was shut and its wire given back, the plans and wants fit.
pub shut_plans : {W : Type 0} (heard : W → Option WireTold) (past : List Event) (e : Entry) (before mid after : List (Option (Journaled W))) → ((c : ℕ) → c ≢ e.conn → slot mid c ≡ slot before c)
    → after ≡ set mid e.conn None → KeepsPlans heard past (Heard e ∷ past) before after
shut_plans {W} heard past e before mid after others taken made fit =
    let none : slot after e.conn ≡ None = ap (λ ws. slot ws e.conn) taken ∙ set_default mid e.conn None in
    entry_plans heard made past e before after (λ c n. ap (λ ws. slot ws c) taken ∙ (slot_elsewhere mid e.conn None c n ∙ others c n)) fit
    (subst (λ (w : Option (Journaled W)). RecordsAside heard (aside_on made e.conn) w) (sym none) tt)

-- If a connection was opened or its Connect refused, the plans and wants fit.
pub opened_plans : {W : Type 0} (heard : W → Option WireTold) (past : List Event) (e : Entry) (before after : List (Option (Journaled W))) → journal past e.conn ≡ [] → ((c : ℕ) → c ≢ e.conn → slot after c ≡ slot before c)
    → RecordsAside heard no_aside (slot after e.conn) → KeepsPlans heard past (Heard e ∷ past) before after
opened_plans heard past e before after nothing others unplanned made fit =
    entry_plans heard made past e before after others fit
    (subst (λ (aside : Aside). RecordsAside heard aside (slot after e.conn)) (sym ((fit e.conn).unheard nothing)) unplanned)
