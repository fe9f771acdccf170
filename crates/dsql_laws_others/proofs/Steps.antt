-- A call that waits is in no step of its own. A step of its own begins with its entry, an answer to it or a
-- lending to it, and a call doesn't wait there.
use Rattle.std.proofs.Common.{◌≡◌, ◌≢◌, ℕ, ◌==◌, ◌≤◌, Bool, true, false, not, ◌||◌, cond, List, [], ◌∷◌, refl, sym, ap, ◌∙◌, arith}
use Rattle.std.specs.List.{list_any}
use Rattle.dsql_laws_calls.specs.journal.declared.entry.Entry.{Entry}
use Rattle.dsql_laws_calls.specs.journal.Readers.{is_empty}
use Rattle.dsql_laws_calls.specs.wait.declared.request.Request.{Request}
use Rattle.dsql_laws_calls.specs.wait.Requests.{waits, without_call}
use Rattle.dsql_laws_calls.specs.pool.declared.moves.Move.TheVariants.{OpenStart, Lend, Back, CloseStart, Gone, Fell}
use Rattle.dsql_laws_calls.specs.pool.Places.{is_for}
use Rattle.dsql_laws_calls.proofs.laws.Truths.{or_first}
use Rattle.dsql_laws_calls.proofs.laws.Places.{neither}
use Rattle.dsql_laws_calls.proofs.laws.Tests.{same_number, other_number}
use Rattle.dsql_laws_calls.proofs.laws.Wanted.{wanted, wants_counts, none_wanted}
use Rattle.dsql_laws_calls.specs.history.declared.event.Event.{Event}
use Rattle.dsql_laws_calls.specs.history.declared.event.Event.TheVariants.{Entered, Heard, Pool}
use Rattle.dsql_laws_calls.specs.history.declared.event.Op.{Op}
use Rattle.dsql_laws_calls.specs.history.declared.event.Op.TheVariants.{DbClose}
use Rattle.dsql_laws_calls.specs.history.Readers.Owed.{owed}
use Rattle.dsql_laws_calls.specs.history.Readers.Pool.{pool, place}
use Rattle.dsql_laws_calls.specs.history.Rules.Stands.{is_own_step}
use Rattle.dsql_laws_calls.specs.history.Legal.{Lawful}
use Rattle.dsql_laws_calls.proofs.laws.Wanting.{wanting_works}
use Rattle.dsql_laws_calls.proofs.Looks.{heard_there, comes}
use Rattle.dsql_laws_calls.proofs.Own.{sender_wants_none}
use Rattle.dsql_laws_calls.proofs.Told.{not_entering}
use Rattle.dsql_laws_calls.proofs.Untried.{lends_unwanting}

waits_wants : (H : List Event) (n : ℕ) → waits n (pool H).waiting ≡ true → 1 ≤ wanted n (pool H)
waits_wants H n h = wants_counts n (pool H) (or_first (waits n (pool H).waiting) (list_any (λ conn. is_for n conn.place) (pool H).conns) h)

no_more_wait : (n m : ℕ) (rs : List Request) → waits n rs ≡ false → waits n (without_call m rs) ≡ false
no_more_wait n m [] h = refl
no_more_wait n m (r ∷ rs) h =
    let b = neither (r.call == n) (waits n rs) h in
    elim (r.call == m) as (λ x. waits n (cond (not x) (r ∷ without_call m rs) (without_call m rs)) ≡ false) [
      | true ↦ no_more_wait n m rs b.1
      | false ↦ ap (λ x. x || waits n (without_call m rs)) b.0 ∙ no_more_wait n m rs b.1
    ]

not_waiting : (H : List Event) (n : ℕ) → (waits n (pool H).waiting ≡ true → ⊥) → waits n (pool H).waiting ≡ false
not_waiting H n never = by (waits n (pool H).waiting) never
  where
    by : (b : Bool) → (b ≡ true → ⊥) → b ≡ false
    by true none = absurd (none refl)
    by false none = refl

enters_apart : (H : List Event) (client m n : ℕ) (op : Op) → Lawful (Entered client m op ∷ H) → n ≢ 0 → (m == n) ≡ true → waits n (pool H).waiting ≡ false
enters_apart H client m n op l some is = not_waiting H n (λ h. not_entering H client m op n l some (waits_wants H n h) (sym (same_number m n is)))

heard_apart : (H : List Event) (e : Entry) (n : ℕ) → Lawful (Heard e ∷ H) → n ≢ 0 → (e.call_no == n) ≡ true → waits n (pool H).waiting ≡ false
heard_apart H e n l some is = not_waiting H n never
  where
    same : e.call_no ≡ n
    same = same_number e.call_no n is

    never : waits n (pool H).waiting ≡ true → ⊥
    never h =
        let there = heard_there H e l.1 in
        let number : (e.call_no == 0) ≡ false = other_number e.call_no 0 (λ none. some (sym same ∙ none)) in
        let wants_one : 1 ≤ wanted e.call_no (pool H) = rw same (waits_wants H n h) in
        let none = sender_wants_none H e l.0 (comes H e (place H e.conn) there.sets there.line number) number (wanting_works H e.call_no l.0 (λ zero. some (sym same ∙ zero)) wants_one) in
        absurd (omega (arith, wants_one, none))

own_unwaiting : (H : List Event) (n : ℕ) → Lawful H → n ≢ 0 → is_own_step H n ≡ true → waits n (pool H).waiting ≡ false
own_unwaiting [] n l some h = absurd cc
own_unwaiting (Entered client m DbClose ∷ H) n l some h = refl
own_unwaiting (Entered client m op ∷ H) n l some h = enters_apart H client m n op l some h
own_unwaiting (Heard e ∷ H) n l some h = heard_apart H e n l some h
own_unwaiting (Pool (OpenStart c k) ∷ H) n l some h = own_unwaiting H n l.0 some h
own_unwaiting (Pool (Lend c t o k) ∷ H) n l some h = by (own_unwaiting H n l.0 some) (is_empty (owed H)) h
  where
    by : (is_own_step H n ≡ true → waits n (pool H).waiting ≡ false) → (b : Bool) → cond b (k == n) (is_own_step H n) ≡ true → waits n (without_call k (pool H).waiting) ≡ false
    by earlier true is =
        let same : k ≡ n = same_number k n is in
        let unwanting : wanted n (pool (Pool (Lend c t o k) ∷ H)) ≡ 0 = ap (λ i. wanted i (pool (Pool (Lend c t o k) ∷ H))) (sym same) ∙ lends_unwanting H c t o k l (λ none. some (sym same ∙ none)) in
        let none = neither (waits n (pool (Pool (Lend c t o k) ∷ H)).waiting) (list_any (λ conn. is_for n conn.place) (pool (Pool (Lend c t o k) ∷ H)).conns) (none_wanted n (pool (Pool (Lend c t o k) ∷ H)) unwanting) in
        none.0
    by earlier false is = no_more_wait n k (pool H).waiting (earlier is)
own_unwaiting (Pool (Back c) ∷ H) n l some h = own_unwaiting H n l.0 some h
own_unwaiting (Pool (CloseStart c why) ∷ H) n l some h = own_unwaiting H n l.0 some h
own_unwaiting (Pool (Gone c) ∷ H) n l some h = own_unwaiting H n l.0 some h
own_unwaiting (Pool (Fell c k) ∷ H) n l some h = no_more_wait n k (pool H).waiting (own_unwaiting H n l.0 some h)
own_unwaiting (_ ∷ H) n l some h = absurd cc

pub waits_apart : (H : List Event) (n : ℕ) → Lawful H → n ≢ 0 → waits n (pool H).waiting ≡ true → is_own_step H n ≡ false
waits_apart H n l some h = by (is_own_step H n) refl
  where
    clash : (b : Bool) → b ≡ true → b ≡ false → ⊥
    clash b x y = cc

    by : (b : Bool) → is_own_step H n ≡ b → b ≡ false
    by false is = refl
    by true is = absurd (clash (waits n (pool H).waiting) h (own_unwaiting H n l some is))
