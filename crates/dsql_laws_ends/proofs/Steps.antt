-- What a step leaves unchanged about the clients and their calls. The proof goes through the events of a step, and then
-- through a whole step.
use Rattle.std.proofs.Common.{◌≡◌, ◌≢◌, ℕ, ◌+◌, ◌==◌, ◌⊎◌, inl, inr, Bool, true, false, cond, List, [], ◌∷◌, ◌++◌, Option, Some, None, refl, sym, ap, subst, ◌∙◌, append_assoc, arith}
use Rattle.std.specs.Prelude.{find}
use Rattle.std.specs.Option.{option_or}
use Rattle.std.specs.List.{list_all}
use Rattle.std.proofs.lemmas.List.Folds.{find-append}
use Rattle.dsql_laws_calls.specs.pool.Pooled.{without}
use Rattle.dsql_laws_calls.specs.history.declared.event.Event.{Event}
use Rattle.dsql_laws_calls.specs.history.declared.event.Event.TheVariants.{Entered, Heard, Pool, Waits, Replied, Ended}
use Rattle.dsql_laws_calls.specs.history.declared.event.Op.{Op}
use Rattle.dsql_laws_calls.specs.history.declared.record.CallRecord.{CallRecord}
use Rattle.dsql_laws_calls.specs.history.Readers.Calls.{is_busy, next_call}
use Rattle.dsql_laws_calls.specs.history.Readers.Clients.{call_of, client_of, made_by}
use Rattle.dsql_laws_calls.specs.history.Readers.Course.{has_ended}
use Rattle.dsql_laws_calls.specs.history.Readers.Pool.{or_none}
use Rattle.dsql_laws_calls.specs.history.Readers.Unfinished.{is_unfinished, unfinished}
use Rattle.dsql_laws_calls.specs.history.Legal.{Lawful}
use Rattle.dsql_laws_calls.proofs.laws.Numbered.{some_calls}
use Rattle.dsql_laws_calls.proofs.laws.Splits.{Lawful-older}
use Rattle.dsql_laws_calls.proofs.laws.Tests.{both, other_number, same_itself, same_number}
use Rattle.dsql_laws_calls.proofs.laws_work.Rows.{same_or_not}
use Rattle.dsql_laws_calls.proofs.Works.{enters_next, new_record, old_unfinished, still_unfinished}
use Rattle.dsql_laws_ends.specs.Steps.{begins_step_of, IsStep}
use Rattle.dsql_laws_steps.specs.Groups.{is_later_of}
use Rattle.dsql_laws_ends.proofs.Whose.{busy_own, busy_unfinished, enters_free, idle_none, is_entry, is_of, kept_client, of_itself, old_client, one_call, same_client, unfinished_entered}
use Rattle.dsql_laws_ends.proofs.Finds.{any_of, found_same, found_without}

-- One event of a step.

later_begins : (n : ℕ) (e : Event) → is_later_of n e ≡ true → begins_step_of n e ≡ true
later_begins n (Pool move) h = h
later_begins n (Waits m) h = h
later_begins n (Replied m reply) h = h
later_begins n e h = absurd cc

begins_no_entry : (n : ℕ) (e : Event) → begins_step_of n e ≡ true → is_entry e ≡ false
begins_no_entry n (Entered client k op) h = absurd cc
begins_no_entry n e h = refl

same_made : (H : List Event) (e : Event) (n client : ℕ) → begins_step_of n e ≡ true → made_by (e ∷ H) client ≡ made_by H client
same_made H (Entered k m op) n client h = absurd cc
same_made H e n client h = refl

same_end : (H : List Event) (e : Event) (n : ℕ) → is_later_of n e ≡ true → has_ended (e ∷ H) ≡ has_ended H
same_end H Ended n h = absurd cc
same_end H e n h = refl

was_unfinished : (H : List Event) (e : Event) (m : ℕ) → is_entry e ≡ false → is_unfinished (e ∷ H) m ≡ true → is_unfinished H m ≡ true
was_unfinished H (Entered client n op) m h u = absurd cc
was_unfinished H (Replied n reply) m h u = let b = still_unfinished H n reply m u in b.1
was_unfinished H e m h u = u

-- The calls of other clients stay as they are.
left_call : (H : List Event) (e : Event) (n client : ℕ) → begins_step_of n e ≡ true → call_of H client ≢ n → call_of (e ∷ H) client ≡ call_of H client
left_call H (Replied m reply) n client so apart =
    let R = Replied m reply in
    ap or_none (found_same (is_of H client) (is_of (R ∷ H) client) (without m (unfinished H)) (λ x h. ap (λ k. k == client) (same_client H R x refl)))
    ∙ found_without (is_of H client) m (unfinished H) (λ is. apart (is ∙ same_number m n so))
left_call H (Heard e) n client so apart = ap or_none (found_same (is_of H client) (is_of (Heard e ∷ H) client) (unfinished H) (λ x h. ap (λ k. k == client) (same_client H (Heard e) x refl)))
left_call H (Entered k m op) n client so apart = absurd cc
left_call H e n client so apart = refl

-- The events after the first one.

abbrev AllLater : ℕ → List Event → Type 0
AllLater n later = list_all (is_later_of n) later ≡ true

later_calls : (later H : List Event) (n client : ℕ) → AllLater n later → call_of H client ≢ n → call_of (later ++ H) client ≡ call_of H client
later_calls [] H n client so apart = refl
later_calls (e ∷ later) H n client so apart =
    let b = both (is_later_of n e) (list_all (is_later_of n) later) so in
    let rest = later_calls later H n client b.1 apart in
    left_call (later ++ H) e n client (later_begins n e b.0) (λ is. apart (sym rest ∙ is)) ∙ rest

later_made : (later H : List Event) (n client : ℕ) → AllLater n later → made_by (later ++ H) client ≡ made_by H client
later_made [] H n client so = refl
later_made (e ∷ later) H n client so =
    let b = both (is_later_of n e) (list_all (is_later_of n) later) so in
    same_made (later ++ H) e n client (later_begins n e b.0) ∙ later_made later H n client b.1

later_end : (later H : List Event) (n : ℕ) → AllLater n later → has_ended (later ++ H) ≡ has_ended H
later_end [] H n so = refl
later_end (e ∷ later) H n so = let b = both (is_later_of n e) (list_all (is_later_of n) later) so in same_end (later ++ H) e n b.0 ∙ later_end later H n b.1

later_unfinished : (later H : List Event) (n m : ℕ) → AllLater n later → is_unfinished (later ++ H) m ≡ true → is_unfinished H m ≡ true
later_unfinished [] H n m so u = u
later_unfinished (e ∷ later) H n m so u =
    let b = both (is_later_of n e) (list_all (is_later_of n) later) so in
    later_unfinished later H n m b.1 (was_unfinished (later ++ H) e m (begins_no_entry n e (later_begins n e b.0)) u)

later_client : (later H : List Event) (n m : ℕ) → AllLater n later → client_of (later ++ H) m ≡ client_of H m
later_client [] H n m so = refl
later_client (e ∷ later) H n m so =
    let b = both (is_later_of n e) (list_all (is_later_of n) later) so in
    same_client (later ++ H) e m (begins_no_entry n e (later_begins n e b.0)) ∙ later_client later H n m b.1

-- The whole step.

-- The events of a step are its later ones in front of its first one.
step_is : (past events : List Event) (first : Event) (n : ℕ) → (s : IsStep past events first n) → events ++ past ≡ s.later ++ first ∷ past
step_is past events first n s = ap (λ (es : List Event). es ++ past) s.group ∙ append_assoc s.later (first ∷ []) past

-- If only this unfinished call can be the client's, the client has this call or none.
its_call : (K : List Event) (client n : ℕ) → client_of K n ≡ client → ((m : ℕ) → is_unfinished K m ≡ true → client_of K m ≡ client → m ≡ n) → call_of K client ≡ cond (is_unfinished K n) n 0
its_call K client n own only = by (is_busy client K) (is_unfinished K n) refl refl
  where
    by : (b c : Bool) → is_busy client K ≡ b → is_unfinished K n ≡ c → call_of K client ≡ cond c n 0
    by true true busy u = only (call_of K client) (busy_unfinished K client busy) (busy_own K client busy)
    by true false busy u =
        let same : call_of K client ≡ n = only (call_of K client) (busy_unfinished K client busy) (busy_own K client busy) in
        let clash : true ≡ false = sym (busy_unfinished K client busy) ∙ (ap (is_unfinished K) same ∙ u) in
        absurd cc
    by false true idle u = let clash : true ≡ false = sym (any_of (is_of K client) (unfinished K) n u (of_itself K client n own)) ∙ idle in absurd cc
    by false false idle u = idle_none K client idle

-- A step in which no call enters.

pub step_others : (past events : List Event) (first : Event) (n client : ℕ) → IsStep past events first n → begins_step_of n first ≡ true → call_of past client ≢ n → call_of (events ++ past) client ≡ call_of past client
step_others past events first n client s begins apart =
    let same = left_call past first n client begins apart in
    ap (λ (H : List Event). call_of H client) (step_is past events first n s) ∙ (later_calls s.later (first ∷ past) n client s.of_call (λ is. apart (sym same ∙ is)) ∙ same)

pub step_its : (past events : List Event) (first : Event) (n : ℕ) → IsStep past events first n → begins_step_of n first ≡ true → is_unfinished past n ≡ true
    → call_of (events ++ past) (client_of past n) ≡ cond (is_unfinished (events ++ past) n) n 0
step_its past events first n s begins u =
    subst (λ (H : List Event). call_of H (client_of past n) ≡ cond (is_unfinished H n) n 0) (sym (step_is past events first n s)) (its_call K (client_of past n) n (same n) only)
  where
    K : List Event
    K = s.later ++ first ∷ past

    no_entry : is_entry first ≡ false
    no_entry = begins_no_entry n first begins

    same : (m : ℕ) → client_of K m ≡ client_of past m
    same m = later_client s.later (first ∷ past) n m s.of_call ∙ same_client past first m no_entry

    only : (m : ℕ) → is_unfinished K m ≡ true → client_of K m ≡ client_of past n → m ≡ n
    only m v is = one_call past m n (Lawful-older past events s.lawful) (was_unfinished past first m no_entry (later_unfinished s.later (first ∷ past) n m s.of_call v)) u (sym (same m) ∙ is)

pub step_made : (past events : List Event) (first : Event) (n client : ℕ) → IsStep past events first n → begins_step_of n first ≡ true → made_by (events ++ past) client ≡ made_by past client
step_made past events first n client s begins =
    ap (λ (H : List Event). made_by H client) (step_is past events first n s) ∙ (later_made s.later (first ∷ past) n client s.of_call ∙ same_made past first n client begins)

pub step_ended : (past events : List Event) (first : Event) (n : ℕ) → IsStep past events first n → has_ended (events ++ past) ≡ has_ended (first ∷ past)
step_ended past events first n s = ap has_ended (step_is past events first n s) ∙ later_end s.later (first ∷ past) n s.of_call

-- A step in which a call enters.

entry_lawful : (past events : List Event) (first : Event) (n : ℕ) → IsStep past events first n → Lawful (first ∷ past)
entry_lawful past events first n s =
    let whole = step_is past events first n s in Lawful-older (first ∷ past) s.later (subst Lawful whole s.lawful)

-- The call that enters belongs to no other client.
entered_others : (H : List Event) (client n other : ℕ) (op : Op) → Lawful (Entered client n op ∷ H) → other ≢ client → call_of (Entered client n op ∷ H) other ≡ call_of H other
entered_others H client n other op l apart =
    ap or_none (find-append (is_of K other) (unfinished H) (n ∷ []) ∙ (ap (λ o. option_or o (find (is_of K other) (n ∷ []))) old ∙ none))
  where
    K : List Event
    K = Entered client n op ∷ H

    old : find (is_of K other) (unfinished H) ≡ find (is_of H other) (unfinished H)
    old = found_same (is_of H other) (is_of K other) (unfinished H) (λ x u. ap (λ k. k == other) (old_client H (Entered client n op) x (unfinished_entered H x l.0 u)))

    whose : client_of K n ≡ client
    whose = ap (λ (r : CallRecord). r.client) (new_record H client n op (enters_next H client n op l.1))

    not_its : is_of K other n ≡ false
    not_its = other_number (client_of K n) other (λ same. apart (sym same ∙ whose))

    no_more : (o : Option ℕ) → option_or o None ≡ o
    no_more None = refl
    no_more (Some x) = refl

    none : option_or (find (is_of H other) (unfinished H)) (find (is_of K other) (n ∷ [])) ≡ find (is_of H other) (unfinished H)
    none =
        ap (λ (b : Bool). option_or (find (is_of H other) (unfinished H)) (cond b (Some n) None)) not_its
        ∙ no_more (find (is_of H other) (unfinished H))

-- No client's call had the new number before.
number_is_new : (H : List Event) (client n other : ℕ) (op : Op) → Lawful (Entered client n op ∷ H) → call_of H other ≢ n
number_is_new H client n other op l is = by (is_busy other H) refl
  where
    new : n ≡ next_call H
    new = enters_next H client n op l.1

    by : (b : Bool) → is_busy other H ≡ b → ⊥
    by true busy = let old = unfinished_entered H (call_of H other) l.0 (busy_unfinished H other busy) in absurd (omega (arith, old, is, new))
    by false idle = let none = idle_none H other idle in let many = some_calls H in absurd (omega (arith, none, is, new, many))

pub entry_others : (past events : List Event) (client n other : ℕ) (op : Op) → IsStep past events (Entered client n op) n → other ≢ client → call_of (events ++ past) other ≡ call_of past other
entry_others past events client n other op s apart =
    let first = Entered client n op in
    let l : Lawful (first ∷ past) = entry_lawful past events first n s in
    let same = entered_others past client n other op l apart in
    ap (λ (H : List Event). call_of H other) (step_is past events first n s)
    ∙ (later_calls s.later (first ∷ past) n other s.of_call (λ is. number_is_new past client n other op l (sym same ∙ is)) ∙ same)

pub entry_client : (past events : List Event) (client n : ℕ) (op : Op) → IsStep past events (Entered client n op) n → client_of (events ++ past) n ≡ client
entry_client past events client n op s =
    let first = Entered client n op in
    let l : Lawful (first ∷ past) = entry_lawful past events first n s in
    ap (λ (H : List Event). client_of H n) (step_is past events first n s)
    ∙ (later_client s.later (first ∷ past) n n s.of_call ∙ ap (λ (r : CallRecord). r.client) (new_record past client n op (enters_next past client n op l.1)))

pub entry_its : (past events : List Event) (client n : ℕ) (op : Op) → IsStep past events (Entered client n op) n → call_of (events ++ past) client ≡ cond (is_unfinished (events ++ past) n) n 0
entry_its past events client n op s = its_call (events ++ past) client n (entry_client past events client n op s) only
  where
    K : List Event
    K = Entered client n op ∷ past

    l : Lawful K
    l = entry_lawful past events (Entered client n op) n s

    whole : events ++ past ≡ s.later ++ K
    whole = step_is past events (Entered client n op) n s

    only : (m : ℕ) → is_unfinished (events ++ past) m ≡ true → client_of (events ++ past) m ≡ client → m ≡ n
    only m u is = by (same_or_not m n)
      where
        now : is_unfinished K m ≡ true
        now = later_unfinished s.later K n m s.of_call (sym (ap (λ (H : List Event). is_unfinished H m) whole) ∙ u)

        by : (m ≡ n) ⊎ (m ≢ n) → m ≡ n
        by (inl same) = same
        by (inr apart) =
            let before : is_unfinished past m ≡ true = sym (old_unfinished past client n op m apart) ∙ now in
            let same = kept_client past events m (unfinished_entered past m l.0 before) in
            absurd (enters_free past client n op m l.1 before (sym same ∙ is))

pub entry_made : (past events : List Event) (client n : ℕ) (op : Op) → IsStep past events (Entered client n op) n → made_by (events ++ past) client ≡ made_by past client + 1
entry_made past events client n op s =
    let first = Entered client n op in
    ap (λ (H : List Event). made_by H client) (step_is past events first n s)
    ∙ (later_made s.later (first ∷ past) n client s.of_call ∙ ap (λ (b : Bool). cond b (made_by past client + 1) (made_by past client)) (same_itself client))

pub entry_made_others : (past events : List Event) (client n other : ℕ) (op : Op) → IsStep past events (Entered client n op) n → other ≢ client → made_by (events ++ past) other ≡ made_by past other
entry_made_others past events client n other op s apart =
    let first = Entered client n op in
    ap (λ (H : List Event). made_by H other) (step_is past events first n s)
    ∙ (later_made s.later (first ∷ past) n other s.of_call ∙ ap (λ (b : Bool). cond b (made_by past other + 1) (made_by past other)) (other_number client other (λ same. apart (sym same))))

pub entry_ended : (past events : List Event) (client n : ℕ) (op : Op) → IsStep past events (Entered client n op) n → has_ended (events ++ past) ≡ has_ended past
entry_ended past events client n op s = step_ended past events (Entered client n op) n s
