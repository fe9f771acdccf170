-- Which client's call is which over a step. The argument goes through the events of the step.
use Rattle.std.proofs.Common.{◌≡◌, ◌≢◌, ◌⊎◌, inl, inr, ℕ, Bool, true, false, cond, List, [], ◌∷◌, ◌++◌, refl, ap, sym, subst, ◌∙◌, append_assoc}
use Rattle.std.specs.List.{list_all}
use Rattle.dsql_engine_laws.specs.history.declared.event.Event.{Event}
use Rattle.dsql_engine_laws.specs.history.declared.event.Event.TheVariants.{Entered, Replied, Waits, Pool}
use Rattle.dsql_engine_laws.specs.history.declared.event.Op.{Op}
use Rattle.dsql_engine_laws.specs.history.Readers.Calls.{is_busy}
use Rattle.dsql_engine_laws.specs.history.Readers.Clients.{call_of}
use Rattle.dsql_engine_laws.specs.history.Readers.Unfinished.{is_unfinished, unfinished}
use Rattle.dsql_engine_laws.specs.history.Legal.{Lawful}
use Rattle.dsql_engine_laws.proofs.laws.Numbered.{unfinished_from_one}
use Rattle.dsql_engine_laws.proofs.laws.Splits.{Lawful-older}
use Rattle.dsql_engine_laws.proofs.laws.Tests.{both}
use Rattle.dsql_engine_laws.proofs.laws_work.Rows.{same_or_not}
use Rattle.dsql_engine_laws.proofs.laws_calls.Works.{still_unfinished}
use Rattle.dsql_engine_laws.specs.laws_ends.Steps.{IsStep, begins_step_of}
use Rattle.dsql_engine_laws.proofs.laws_ends.Finds.{any_of}
use Rattle.dsql_engine_laws.proofs.laws_ends.Steps.{entry_its, entry_others, step_its, step_others}
use Rattle.dsql_engine_laws.proofs.laws_ends.Whose.{busy_own, busy_unfinished, idle_none, is_of, of_itself, same_client}
use Rattle.dsql_laws_lines.specs.Entries.{is_entry}
use Rattle.dsql_engine_laws.specs.laws_steps.Groups.{is_later_of}
use Rattle.dsql_engine_laws.specs.laws_steps.Steps.{goes_by_itself}
use Rattle.dsql_player.proofs.Grouped.{Grouped}

-- No client becomes busy if no call enters.

was_unfinished : (H : List Event) (e : Event) (m : ℕ) → is_entry e ≡ false → is_unfinished (e ∷ H) m ≡ true → is_unfinished H m ≡ true
was_unfinished H (Entered client n op) m h u = absurd cc
was_unfinished H (Replied n reply) m h u = let b = still_unfinished H n reply m u in b.1
was_unfinished H e m h u = u

was_busy : (H : List Event) (e : Event) (client : ℕ) → is_entry e ≡ false → is_busy client (e ∷ H) ≡ true → is_busy client H ≡ true
was_busy H e client none busy =
    let m = call_of (e ∷ H) client in
    let own = busy_own (e ∷ H) client busy in
    any_of (is_of H client) (unfinished H) m (was_unfinished H e m none (busy_unfinished (e ∷ H) client busy)) (of_itself H client m (sym (same_client H e m none) ∙ own))

later_no_entry : (n : ℕ) (e : Event) → is_later_of n e ≡ true → is_entry e ≡ false
later_no_entry n (Entered client k op) h = absurd cc
later_no_entry n e h = refl

were_busy : (more H : List Event) (n client : ℕ) → list_all (is_later_of n) more ≡ true → is_busy client (more ++ H) ≡ true → is_busy client H ≡ true
were_busy [] H n client later busy = busy
were_busy (e ∷ more) H n client later busy =
    let a = both (is_later_of n e) (list_all (is_later_of n) more) later in
    were_busy more H n client a.1 (was_busy (more ++ H) e client (later_no_entry n e a.0) busy)

pub busy_before : (past history : List Event) (first : Event) (n client : ℕ) → Grouped past history first n → is_entry first ≡ false → is_busy client history ≡ true → is_busy client past ≡ true
busy_before past history first n client g none busy =
    let split : history ≡ g.group.more ++ first ∷ past = g.grown ∙ (ap (λ (es : List Event). es ++ past) g.group.whole ∙ append_assoc g.group.more (first ∷ []) past) in
    was_busy past first client none (were_busy g.group.more (first ∷ past) n client g.group.later (subst (λ H. is_busy client H ≡ true) split busy))

pub busy_call : (H : List Event) (client : ℕ) → Lawful H → is_busy client H ≡ true → call_of H client ≢ 0
busy_call H client l busy = unfinished_from_one H (call_of H client) l (busy_unfinished H client busy)

-- A client that has the same call as before and is busy was busy before.
pub busy_alike : (H K : List Event) (client : ℕ) → Lawful K → call_of K client ≡ call_of H client → is_busy client K ≡ true → is_busy client H ≡ true
busy_alike H K client l same busy = by (is_busy client H) refl
  where
    by : (b : Bool) → is_busy client H ≡ b → is_busy client H ≡ true
    by true is = is
    by false is = absurd (busy_call K client l busy (same ∙ idle_none H client is))

-- A step of a call leaves every other client its call.

pub end_step : (past history : List Event) (first : Event) (n : ℕ) → (g : Grouped past history first n) → Lawful history → IsStep past g.events first n
end_step past history first n g l = record { lawful = subst Lawful g.grown l; later = g.group.more; group = g.group.whole; of_call = g.group.later }

pub lawful_before : (past history : List Event) (first : Event) (n : ℕ) → Grouped past history first n → Lawful history → Lawful past
lawful_before past history first n g l = Lawful-older past g.events (subst Lawful g.grown l)

pub begins_no_entry : (n : ℕ) (e : Event) → begins_step_of n e ≡ true → is_entry e ≡ false
begins_no_entry n (Entered client k op) h = absurd cc
begins_no_entry n e h = refl

pub begins_itself : (n : ℕ) (e : Event) → goes_by_itself n e ≡ true → begins_step_of n e ≡ true
begins_itself n (Replied m reply) h = h
begins_itself n (Waits m) h = h
begins_itself n (Pool move) h = refl
begins_itself n e h = absurd cc

pub other_call : (past history : List Event) (first : Event) (n client : ℕ) → Grouped past history first n → Lawful history → begins_step_of n first ≡ true → (call_of past client ≡ n → n ≡ 0)
    → call_of history client ≡ call_of past client
other_call past history first n client g l begins other = by (same_or_not (call_of past client) n)
  where
    idle : call_of past client ≡ 0 → (b : Bool) → is_busy client history ≡ b → call_of history client ≡ call_of past client
    idle none true is = absurd (busy_call past client (lawful_before past history first n g l) (busy_before past history first n client g (begins_no_entry n first begins) is) none)
    idle none false is = idle_none history client is ∙ sym none

    by : (call_of past client ≡ n) ⊎ (call_of past client ≢ n) → call_of history client ≡ call_of past client
    by (inl same) = idle (same ∙ other same) (is_busy client history) refl
    by (inr apart) = ap (λ H. call_of H client) g.grown ∙ step_others past g.events first n client (end_step past history first n g l) begins apart

-- The client of the call has it as long as it has no reply.
pub its_call : (past history : List Event) (first : Event) (client : ℕ) → Grouped past history first (call_of past client) → Lawful history → begins_step_of (call_of past client) first ≡ true → is_busy client past ≡ true
    → call_of history client ≡ cond (is_unfinished history (call_of past client)) (call_of past client) 0
its_call past history first client g l begins busy =
    let n = call_of past client in
    let its = step_its past g.events first n (end_step past history first n g l) begins (busy_unfinished past client busy) in
    subst (λ H. call_of H client ≡ cond (is_unfinished H n) n 0) (sym g.grown)
    (subst (λ k. call_of (g.events ++ past) k ≡ cond (is_unfinished (g.events ++ past) n) n 0) (busy_own past client busy) its)

pub entry_other : (past history : List Event) (client n other : ℕ) (op : Op) → Grouped past history (Entered client n op) n → Lawful history → other ≢ client → call_of history other ≡ call_of past other
entry_other past history client n other op g l apart =
    ap (λ H. call_of H other) g.grown ∙ entry_others past g.events client n other op (end_step past history (Entered client n op) n g l) apart

pub entry_own : (past history : List Event) (client n : ℕ) (op : Op) → Grouped past history (Entered client n op) n → Lawful history → call_of history client ≡ cond (is_unfinished history n) n 0
entry_own past history client n op g l =
    subst (λ H. call_of H client ≡ cond (is_unfinished H n) n 0) (sym g.grown) (entry_its past g.events client n op (end_step past history (Entered client n op) n g l))
