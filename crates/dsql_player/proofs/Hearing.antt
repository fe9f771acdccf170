-- What a step of the player hears. The argument is that only the first event of a step can be an answer.
use Rattle.std.proofs.Common.{◌≡◌, ℕ, true, false, List, [], ◌∷◌, ◌++◌, Option, refl, ap, sym, subst, ◌∙◌, append_assoc}
use Rattle.std.specs.List.{list_all}
use Rattle.std.proofs.lemmas.List.Folds.{list_all-append}
use Rattle.dsql_engine_laws.specs.driver.Kinds.{is_connect, is_shut}
use Rattle.dsql_engine_laws.specs.driver.Wires.{WireTold}
use Rattle.dsql_engine_laws.specs.journal.declared.entry.Entry.{Entry}
use Rattle.dsql_engine_laws.specs.journal.declared.entry.Permit.{Permit}
use Rattle.dsql_engine_laws.specs.history.declared.event.Event.{Event}
use Rattle.dsql_engine_laws.specs.history.declared.event.Event.TheVariants.{Heard}
use Rattle.dsql_engine_laws.proofs.laws.Tests.{both, together}
use Rattle.dsql_engine_laws.specs.laws_steps.Steps.{goes_by_itself}
use Rattle.dsql_engine_laws.specs.laws_steps.Groups.{is_later_of}
use Rattle.dsql_engine_laws.specs.tenure.Judged.{answered}
use Rattle.dsql_engine_laws.specs.wire.Journaled.{Journaled}
use Rattle.dsql_player_wires.specs.Asked.{Performs}
use Rattle.dsql_player_wires.specs.Told.{fleet_told, hears_nothing}
use Rattle.dsql_player_wires.specs.Made.{Made}
use Rattle.dsql_player_wires.specs.WiresFit.{KeepsFit, KeepsPlans, PlansFit, WiresFit}
use Rattle.dsql_player_wires.proofs.Asking.{performed_fits, performed_plans, performed_told}
use Rattle.dsql_player_wires.proofs.Journals.{unheard}
use Rattle.dsql_player_wires.proofs.Reading.{unheard_told}
use Rattle.dsql_player.specs.Carried.{HearsNothing}
use Rattle.dsql_player.proofs.Grouped.{Grouped}

later_quiet : (n : ℕ) (e : Event) → is_later_of n e ≡ true → hears_nothing e ≡ true
later_quiet n (Heard e) h = absurd cc
later_quiet n e h = refl

-- No event after the first of a step is heard.
pub all_quiet : (n : ℕ) (more : List Event) → list_all (is_later_of n) more ≡ true → list_all hears_nothing more ≡ true
all_quiet n [] h = refl
all_quiet n (e ∷ more) h =
    let a = both (is_later_of n e) (list_all (is_later_of n) more) h in
    together (hears_nothing e) (list_all hears_nothing more) (later_quiet n e a.0) (all_quiet n more a.1)

pub hears_none : (past history : List Event) → history ≡ past → HearsNothing past history
hears_none past history same = subst (HearsNothing past) (sym same) (record { journals = λ c. refl; told = λ made. refl })

pub step_quiet : (past history : List Event) (first : Event) (n : ℕ) → Grouped past history first n → hears_nothing first ≡ true → HearsNothing past history
step_quiet past history first n g none =
    let more = g.group.more in
    let each : list_all hears_nothing (more ++ first ∷ []) ≡ true =
    list_all-append hears_nothing more (first ∷ []) ∙ together (list_all hears_nothing more) _ (all_quiet n more g.group.later) (together (hears_nothing first) true none refl) in
    let quiet : list_all hears_nothing g.events ≡ true = ap (list_all hears_nothing) g.group.whole ∙ each in
    subst (HearsNothing past) (sym g.grown) (record { journals = λ c. unheard g.events past c quiet; told = λ made. unheard_told made g.events past quiet })

pub itself_quiet : (n : ℕ) (e : Event) → goes_by_itself n e ≡ true → hears_nothing e ≡ true
itself_quiet n (Heard e) h = absurd cc
itself_quiet n e h = refl

-- The history after the step of an answer has its later events, newest first, before the answer.
pub answer_grown : (past history : List Event) (e : Entry) (n : ℕ) → (g : Grouped past history (Heard e) n) → history ≡ g.group.more ++ Heard e ∷ past
answer_grown past history e n g = g.grown ∙ (ap (λ es. es ++ past) g.group.whole ∙ append_assoc g.group.more (Heard e ∷ []) past)

module _ {W : Type 0} (heard : W → Option WireTold) (permit : Permit) (e : Entry) (past history : List Event) (n : ℕ) (g : Grouped past history (Heard e) n) where
  -- The wires fit after an answer on one of them.
  pub answer_fits : (before after : List (Option (Journaled W))) → Performs heard permit e before after → is_connect permit.call ≡ false → is_shut permit.call ≡ false → KeepsFit heard past history before after
  answer_fits before after performs opens shuts = λ telling fit.
      subst (λ H. WiresFit heard telling H after) (sym (answer_grown past history e n g))
      (performed_fits heard telling permit e g.group.more past before after performs opens shuts (all_quiet n g.group.more g.group.later) fit)

  -- An answer on a wire adds no plan and no want.
  pub answer_plans : (before after : List (Option (Journaled W))) → Performs heard permit e before after → KeepsPlans heard past history before after
  answer_plans before after performs = λ made fit.
      subst (λ H. PlansFit heard made H after) (sym (answer_grown past history e n g))
      (performed_plans heard permit e g.group.more past before after performs (all_quiet n g.group.more g.group.later) made fit)

-- The fleet has nothing to record of an answer that neither opens nor shuts a connection.
pub answer_told : (permit : Permit) (e : Entry) (past history : List Event) (n : ℕ) → Grouped past history (Heard e) n → e ≡ answered permit e.answer → is_connect permit.call ≡ false → is_shut permit.call ≡ false
    → (made : List Made) → fleet_told made history ≡ fleet_told made past
answer_told permit e past history n g is opens shuts made =
    ap (fleet_told made) (answer_grown past history e n g) ∙ performed_told made permit e g.group.more past is opens shuts (all_quiet n g.group.more g.group.later)
