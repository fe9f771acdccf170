-- How many calls each client has made: only an event in which a call enters adds one.
use Rattle.std.proofs.Common.{◌≡◌, ◌≢◌, ℕ, ◌≤◌, ◌+◌, ◌==◌, Bool, true, false, ◌||◌, ◌⊎◌, inl, inr, cond, List, [], ◌∷◌, ◌++◌, length, find, Some, slice_index_or, refl, sym, ap, subst, ◌∙◌, append_assoc, arith}
use Rattle.std.specs.List.{list_all}
use Rattle.dsql_laws_calls.specs.journal.declared.entry.Entry.{Entry}
use Rattle.dsql_laws_calls.specs.journal.Readers.{has}
use Rattle.dsql_laws_calls.specs.history.declared.work.Work.{Work}
use Rattle.dsql_laws_calls.specs.history.declared.event.Event.{Event}
use Rattle.dsql_laws_calls.specs.history.declared.event.Event.TheVariants.{Entered, Heard, Pool, Waits, Replied}
use Rattle.dsql_laws_calls.specs.history.declared.event.Op.{Op}
use Rattle.dsql_laws_calls.specs.history.declared.record.CallRecord.{CallRecord}
use Rattle.dsql_laws_calls.specs.history.Readers.Calls.{calls, decided_by, nobody, with_record, trying}
use Rattle.dsql_laws_calls.specs.history.Readers.Clients.{call_of, client_of, is_free, made_by}
use Rattle.dsql_laws_calls.specs.history.Readers.Pool.{or_none}
use Rattle.dsql_laws_calls.specs.history.Readers.Tries.{tries, try_number}
use Rattle.dsql_laws_calls.specs.history.Readers.Decisions.{decision}
use Rattle.dsql_laws_calls.specs.history.Readers.Unfinished.{is_unfinished, unfinished}
use Rattle.dsql_laws_calls.specs.history.Readers.Works.{work}
use Rattle.dsql_laws_calls.specs.history.Legal.{Lawful}
use Rattle.dsql_laws_calls.proofs.laws.Truths.{or_second}
use Rattle.dsql_laws_calls.proofs.laws.Tests.{both, other_number, same_itself, same_number}
use Rattle.dsql_laws_calls.proofs.laws_work.Rows.{read_set, same_or_not}
use Rattle.dsql_laws_calls.proofs.Works.{enters_next, new_record, old_record, old_unfinished, other_replied, still_unfinished}
use Rattle.dsql_laws_steps.specs.Groups.{IsGroup, is_later_of}
use Rattle.dsql_laws_lines.specs.Entries.{is_entry}

-- A client has made one more call only if a call enters.

pub made_else : (e : Event) (H : List Event) (k : ℕ) → is_entry e ≡ false → made_by (e ∷ H) k ≡ made_by H k
made_else (Entered client n op) H k h = absurd cc
made_else e H k h = refl

pub made_one_more : (H : List Event) (client n : ℕ) (op : Op) → made_by (Entered client n op ∷ H) client ≡ made_by H client + 1
made_one_more H client n op = ap (λ b. cond b (made_by H client + 1) (made_by H client)) (same_itself client)

pub made_by_others : (H : List Event) (client n k : ℕ) (op : Op) → k ≢ client → made_by (Entered client n op ∷ H) k ≡ made_by H k
made_by_others H client n k op apart = ap (λ b. cond b (made_by H k + 1) (made_by H k)) (other_number client k (λ same. apart (sym same)))

later_made : (n k : ℕ) (more H : List Event) → list_all (is_later_of n) more ≡ true → made_by (more ++ H) k ≡ made_by H k
later_made n k [] H h = refl
later_made n k (Pool move ∷ more) H h = later_made n k more H h
later_made n k (Waits m ∷ more) H h = later_made n k more H (both (m == n) (list_all (is_later_of n) more) h).1
later_made n k (Replied m reply ∷ more) H h = later_made n k more H (both (m == n) (list_all (is_later_of n) more) h).1
later_made n k (e ∷ more) H h = absurd cc

-- After a step a client has made as many calls as after the step's first event.
pub group_made : (first : Event) (n k : ℕ) (events H : List Event) → IsGroup first n events → made_by (events ++ H) k ≡ made_by (first ∷ H) k
group_made first n k events H g =
    ap (λ es. made_by (es ++ H) k) g.whole ∙ (ap (λ es. made_by es k) (append_assoc g.more (first ∷ []) H) ∙ later_made n k g.more (first ∷ H) g.later)

-- A call keeps its client.

with_client : (xs : List CallRecord) (n m : ℕ) (f : CallRecord → CallRecord) → ((r : CallRecord) → (f r).client ≡ r.client) → (slice_index_or (with_record n f xs) m nobody).client ≡ (slice_index_or xs m nobody).client
with_client xs n m f keeps = elim (read_set xs n (f (slice_index_or xs n nobody)) m nobody) [
  | inl at ↦ ap (λ (r : CallRecord). r.client) at.2 ∙ (keeps (slice_index_or xs n nobody) ∙ ap (λ i. (slice_index_or xs i nobody).client) (sym at.0))
  | inr off ↦ ap (λ (r : CallRecord). r.client) off.1
]

decided_client : (number : ℕ) (it : Work) (e : Entry) (r : CallRecord) → (decided_by number it e r).client ≡ r.client
decided_client number it e r =
    elim (e.call_no == 0) as (λ b. (cond b r (record r { decided = decision (trying number it r) e.call e.answer r.decided })).client ≡ r.client) [ true ↦ refl | false ↦ refl ]

heard_client : (H : List Event) (e : Entry) (n : ℕ) → client_of (Heard e ∷ H) n ≡ client_of H n
heard_client H e n = with_client (calls H) e.call_no n (decided_by (try_number (tries H e.call_no)) (work H e.call_no) e) (decided_client (try_number (tries H e.call_no)) (work H e.call_no) e)

-- A client with an unfinished call has made a call.

pub call_made : (H : List Event) (n : ℕ) → Lawful H → is_unfinished H n ≡ true → 1 ≤ made_by H (client_of H n)
call_made [] n l u = absurd cc
call_made (Entered client m op ∷ H) n l u = by (call_made H n l.0) (same_or_not n m)
  where
    new : m ≡ length (calls H)
    new = enters_next H client m op l.1

    never_fewer : (k : ℕ) → made_by H k ≤ made_by (Entered client m op ∷ H) k
    never_fewer k = elim (client == k) as (λ b. made_by H k ≤ cond b (made_by H k + 1) (made_by H k)) [ true ↦ omega arith | false ↦ omega arith ]

    by : (is_unfinished H n ≡ true → 1 ≤ made_by H (client_of H n)) → (n ≡ m) ⊎ (n ≢ m) → 1 ≤ made_by (Entered client m op ∷ H) (client_of (Entered client m op ∷ H) n)
    by earlier (inl same) =
        let its : client_of (Entered client m op ∷ H) n ≡ client = ap (client_of (Entered client m op ∷ H)) same ∙ ap (λ (r : CallRecord). r.client) (new_record H client m op new) in
        let more = made_one_more H client m op in
        subst (λ k. 1 ≤ made_by (Entered client m op ∷ H) k) (sym its) (omega (arith, more))
    by earlier (inr apart) =
        let its : client_of (Entered client m op ∷ H) n ≡ client_of H n = ap (λ (r : CallRecord). r.client) (old_record H client m op n new apart) in
        let before = earlier (sym (old_unfinished H client m op n apart) ∙ u) in
        let more = never_fewer (client_of H n) in
        subst (λ k. 1 ≤ made_by (Entered client m op ∷ H) k) (sym its) (omega (arith, before, more))
call_made (Heard e ∷ H) n l u = subst (λ k. 1 ≤ made_by H k) (sym (heard_client H e n)) (call_made H n l.0 u)
call_made (Replied m reply ∷ H) n l u =
    let still = still_unfinished H m reply n u in
    subst (λ k. 1 ≤ made_by H k) (sym (ap (λ (r : CallRecord). r.client) (other_replied H m reply n still.0))) (call_made H n l.0 still.1)
call_made (_ ∷ H) n l u = call_made H n l.0 u

-- A number that is found and isn't 0 is in the list and passes the test.
found_some : (q : ℕ → Bool) (xs : List ℕ) → (or_none (find q xs) == 0) ≡ false → (has (or_none (find q xs)) xs ≡ true) × (q (or_none (find q xs)) ≡ true)
found_some q [] h = absurd cc
found_some q (x ∷ xs) h = by (found_some q xs) (q x) refl h
  where
    by : ((or_none (find q xs) == 0) ≡ false → (has (or_none (find q xs)) xs ≡ true) × (q (or_none (find q xs)) ≡ true))
        → (b : Bool) → q x ≡ b → (or_none (cond b (Some x) (find q xs)) == 0) ≡ false
        → (has (or_none (cond b (Some x) (find q xs))) (x ∷ xs) ≡ true) × (q (or_none (cond b (Some x) (find q xs))) ≡ true)
    by rest true is k = (ap (λ b. b || has x xs) (same_itself x), is)
    by rest false is k = let r = rest k in (or_second (x == or_none (find q xs)) (has (or_none (find q xs)) xs) r.0, r.1)

-- The call of a client that isn't free is unfinished and is that client's own.
pub its_call : (H : List Event) (k : ℕ) → is_free H k ≡ false → (is_unfinished H (call_of H k) ≡ true) × (client_of H (call_of H k) ≡ k)
its_call H k busy =
    let found = found_some (λ n. client_of H n == k) (unfinished H) busy in
    (found.0, same_number (client_of H (call_of H k)) k found.1)

pub made_one : (H : List Event) (k : ℕ) → Lawful H → is_free H k ≡ false → 1 ≤ made_by H k
made_one H k l busy = let its = its_call H k busy in subst (λ j. 1 ≤ made_by H j) its.1 (call_made H (call_of H k) l its.0)
