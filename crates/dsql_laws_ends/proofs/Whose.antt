-- A call keeps its client, and a client has at most one unfinished call: both are shown by induction on the
-- history.
use Rattle.std.proofs.Common.{◌≡◌, ◌≢◌, ◌↔◌, ℕ, ◌<◌, ◌≤◌, ◌==◌, ◌⊎◌, inl, inr, Bool, true, false, not, ◌&&◌, cond, List, [], ◌∷◌, ◌++◌, None, refl, sym, ap, ◌∙◌, arith}
use Rattle.std.specs.Prelude.{slice_index_or}
use Rattle.std.proofs.lemmas.List.{length-append}
use Rattle.dsql_laws_calls.specs.journal.declared.entry.Entry.{Entry}
use Rattle.dsql_laws_calls.specs.history.declared.work.Work.{Work}
use Rattle.dsql_laws_calls.specs.history.declared.event.Event.{Event}
use Rattle.dsql_laws_calls.specs.history.declared.event.Event.TheVariants.{Entered, Heard, Replied}
use Rattle.dsql_laws_calls.specs.history.declared.event.Op.{Op}
use Rattle.dsql_laws_calls.specs.history.declared.record.CallRecord.{CallRecord}
use Rattle.dsql_laws_calls.specs.history.Readers.Calls.{calls, decided_by, entering, is_busy, next_call, nobody, with_record, trying}
use Rattle.dsql_laws_calls.specs.history.Readers.Labels.{names_fit}
use Rattle.dsql_laws_calls.specs.history.Readers.Clients.{call_of, client_of, is_free}
use Rattle.dsql_laws_calls.specs.history.Readers.Pool.{or_none}
use Rattle.dsql_laws_calls.specs.history.Readers.Tries.{tries, try_number}
use Rattle.dsql_laws_calls.specs.history.Readers.Decisions.{decision}
use Rattle.dsql_laws_calls.specs.history.Readers.Unfinished.{is_unfinished, unfinished}
use Rattle.dsql_laws_calls.specs.history.Readers.Works.{work}
use Rattle.dsql_laws_calls.specs.history.Legal.{Allowed, Lawful}
use Rattle.dsql_laws_calls.proofs.laws.Numbered.{unfinished_from_one}
use Rattle.dsql_laws_calls.proofs.laws.Tests.{both, other_number, same_itself, same_number}
use Rattle.dsql_laws_calls.proofs.laws_work.Rows.{read_set, row_old, same_or_not}
use Rattle.dsql_laws_calls.proofs.TxEnders.{more_calls}
use Rattle.dsql_laws_calls.proofs.Works.{enters_next, new_record, old_record, old_unfinished, still_unfinished}
use Rattle.dsql_laws_ends.proofs.Finds.{any_of, found_in, found_none, found_passes}

-- A call keeps its client.

abbrev pub is_entry : Event → Bool
is_entry (Entered client n op) = true
is_entry _ = false

with_client : (xs : List CallRecord) (n m : ℕ) (f : CallRecord → CallRecord) → ((r : CallRecord) → (f r).client ≡ r.client) → (slice_index_or (with_record n f xs) m nobody).client ≡ (slice_index_or xs m nobody).client
with_client xs n m f keeps = elim (read_set xs n (f (slice_index_or xs n nobody)) m nobody) [
  | inl at ↦ ap (λ (r : CallRecord). r.client) at.2 ∙ (keeps (slice_index_or xs n nobody) ∙ ap (λ i. (slice_index_or xs i nobody).client) (sym at.0))
  | inr off ↦ ap (λ (r : CallRecord). r.client) off.1
]

decided_client : (number : ℕ) (it : Work) (e : Entry) (r : CallRecord) → (decided_by number it e r).client ≡ r.client
decided_client number it e r =
    elim (e.call_no == 0) as (λ b. (cond b r (record r { decided = decision (trying number it r) e.call e.answer r.decided })).client ≡ r.client) [ true ↦ refl | false ↦ refl ]

pub same_client : (H : List Event) (e : Event) (m : ℕ) → is_entry e ≡ false → client_of (e ∷ H) m ≡ client_of H m
same_client H (Entered client n op) m h = absurd cc
same_client H (Heard e) m h = with_client (calls H) e.call_no m (decided_by (try_number (tries H e.call_no)) (work H e.call_no) e) (decided_client (try_number (tries H e.call_no)) (work H e.call_no) e)
same_client H (Replied n reply) m h = with_client (calls H) n m (λ r. record r { decided = None }) (λ r. refl)
same_client H _ m h = refl

pub old_client : (H : List Event) (e : Event) (m : ℕ) → m < next_call H → client_of (e ∷ H) m ≡ client_of H m
old_client H (Entered client n op) m old = ap (λ (r : CallRecord). r.client) (row_old (calls H) (entering H client op) m nobody (λ last. absurd (omega (arith, old, last))))
old_client H (Heard e) m old = same_client H (Heard e) m refl
old_client H (Replied n reply) m old = same_client H (Replied n reply) m refl
old_client H _ m old = refl

many_calls : (events H : List Event) → next_call H ≤ next_call (events ++ H)
many_calls [] H = omega arith
many_calls (e ∷ events) H = let rest = many_calls events H in let more = more_calls (events ++ H) e in omega (arith, rest, more)

pub kept_client : (H events : List Event) (m : ℕ) → m < next_call H → client_of (events ++ H) m ≡ client_of H m
kept_client H [] m old = refl
kept_client H (e ∷ events) m old = let many = many_calls events H in old_client (events ++ H) e m (omega (arith, old, many)) ∙ kept_client H events m old

-- An unfinished call has entered.
pub unfinished_entered : (H : List Event) (n : ℕ) → Lawful H → is_unfinished H n ≡ true → n < next_call H
unfinished_entered [] n l u = absurd cc
unfinished_entered (Entered client k op ∷ H) n l u = elim (same_or_not n k) [
  | inl same ↦ let new = enters_next H client k op l.1 in let more = length-append (calls H) (entering H client op ∷ []) in omega (arith, new, more, same)
  | inr apart ↦ let old = unfinished_entered H n l.0 (sym (old_unfinished H client k op n apart) ∙ u) in let more = more_calls H (Entered client k op) in omega (arith, old, more)
]
unfinished_entered (Replied k reply ∷ H) n l u = let b = still_unfinished H k reply n u in let old = unfinished_entered H n l.0 b.1 in let more = more_calls H (Replied k reply) in omega (arith, old, more)
unfinished_entered (Heard e ∷ H) n l u = let old = unfinished_entered H n l.0 u in let more = more_calls H (Heard e) in omega (arith, old, more)
unfinished_entered (_ ∷ H) n l u = unfinished_entered H n l.0 u

-- Which clients are busy.

-- Is true if the call is the client's.
abbrev pub is_of : List Event → ℕ → ℕ → Bool
is_of H client n = client_of H n == client

pub of_itself : (H : List Event) (client n : ℕ) → client_of H n ≡ client → is_of H client n ≡ true
of_itself H client n is = ap (λ k. k == client) is ∙ same_itself client

pub busy_unfinished : (H : List Event) (client : ℕ) → is_busy client H ≡ true → is_unfinished H (call_of H client) ≡ true
busy_unfinished H client busy = found_in (is_of H client) (unfinished H) busy

pub busy_own : (H : List Event) (client : ℕ) → is_busy client H ≡ true → client_of H (call_of H client) ≡ client
busy_own H client busy = same_number (client_of H (call_of H client)) client (found_passes (is_of H client) (unfinished H) busy)

pub idle_none : (H : List Event) (client : ℕ) → is_busy client H ≡ false → call_of H client ≡ 0
idle_none H client idle = ap or_none (found_none (is_of H client) (unfinished H) idle)

pub free_idle : (H : List Event) (client : ℕ) → Lawful H → is_free H client ≡ not (is_busy client H)
free_idle H client l = by (is_busy client H) refl
  where
    by : (b : Bool) → is_busy client H ≡ b → is_free H client ≡ not b
    by true is = other_number (call_of H client) 0 (unfinished_from_one H (call_of H client) l (busy_unfinished H client is))
    by false is = ap (λ n. n == 0) (idle_none H client is)

pub busy_with : (H : List Event) (client : ℕ) → Lawful H → (is_busy client H ≡ true) ↔ ((call_of H client == 0) ≡ false)
busy_with H client l = (λ busy. free_idle H client l ∙ ap not busy, λ some. turned (is_busy client H) (sym (free_idle H client l) ∙ some))
  where
    turned : (b : Bool) → not b ≡ false → b ≡ true
    turned true h = refl
    turned false h = absurd cc

-- A client has at most one unfinished call.

-- A client whose call enters had no unfinished call.
pub enters_free : (H : List Event) (client n : ℕ) (op : Op) (m : ℕ) → Allowed H (Entered client n op) → is_unfinished H m ≡ true → client_of H m ≡ client → ⊥
unfolding Allowed
enters_free H client n op m a u is =
    let b = both (n == next_call H) (not (is_busy client H) && names_fit H op) a.numbers in
    let busy : is_busy client H ≡ true = any_of (is_of H client) (unfinished H) m u (of_itself H client m is) in
    let free = both (not (is_busy client H)) (names_fit H op) b.1 in
    let clash : true ≡ false = sym free.0 ∙ ap not busy in
    cc

pub one_call : (H : List Event) (m n : ℕ) → Lawful H → is_unfinished H m ≡ true → is_unfinished H n ≡ true → client_of H m ≡ client_of H n → m ≡ n
one_call [] m n l u v same = absurd cc
one_call (Entered client k op ∷ H) m n l u v same = by (one_call H m n l.0) (same_or_not m k) (same_or_not n k)
  where
    K : List Event
    K = Entered client k op ∷ H

    new : k ≡ next_call H
    new = enters_next H client k op l.1

    whose : client_of K k ≡ client
    whose = ap (λ (r : CallRecord). r.client) (new_record H client k op new)

    before : (j : ℕ) → j ≢ k → client_of K j ≡ client_of H j
    before j apart = ap (λ (r : CallRecord). r.client) (old_record H client k op j new apart)

    was : (j : ℕ) → j ≢ k → is_unfinished K j ≡ true → is_unfinished H j ≡ true
    was j apart w = sym (old_unfinished H client k op j apart) ∙ w

    clash : (j : ℕ) → j ≢ k → is_unfinished K j ≡ true → client_of K j ≡ client → ⊥
    clash j apart w is = enters_free H client k op j l.1 (was j apart w) (sym (before j apart) ∙ is)

    by : (is_unfinished H m ≡ true → is_unfinished H n ≡ true → client_of H m ≡ client_of H n → m ≡ n) → (m ≡ k) ⊎ (m ≢ k) → (n ≡ k) ⊎ (n ≢ k) → m ≡ n
    by earlier (inl a) (inl b) = a ∙ sym b
    by earlier (inl a) (inr b) = absurd (clash n b v (sym same ∙ (ap (client_of K) a ∙ whose)))
    by earlier (inr a) (inl b) = absurd (clash m a u (same ∙ (ap (client_of K) b ∙ whose)))
    by earlier (inr a) (inr b) = earlier (was m a u) (was n b v) (sym (before m a) ∙ (same ∙ before n b))
one_call (Replied k reply ∷ H) m n l u v same =
    let a = still_unfinished H k reply m u in
    let b = still_unfinished H k reply n v in
    one_call H m n l.0 a.1 b.1 (sym (same_client H (Replied k reply) m refl) ∙ (same ∙ same_client H (Replied k reply) n refl))
one_call (Heard e ∷ H) m n l u v same = one_call H m n l.0 u v (sym (same_client H (Heard e) m refl) ∙ (same ∙ same_client H (Heard e) n refl))
one_call (_ ∷ H) m n l u v same = one_call H m n l.0 u v same

pub call_of_its_client : (H : List Event) (n : ℕ) → Lawful H → is_unfinished H n ≡ true → call_of H (client_of H n) ≡ n
call_of_its_client H n l u =
    let client = client_of H n in
    let busy : is_busy client H ≡ true = any_of (is_of H client) (unfinished H) n u (of_itself H client n refl) in
    one_call H (call_of H client) n l (busy_unfinished H client busy) u (busy_own H client busy)
