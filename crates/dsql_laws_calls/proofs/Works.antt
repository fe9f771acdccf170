-- A call's work stays the same, and its record changes only by its answers and its reply.
use Rattle.std.proofs.Common.{◌≡◌, ◌≢◌, ℕ, zero, suc, ◌==◌, Bool, true, false, not, ◌&&◌, ◌||◌, List, [], ◌∷◌, ◌++◌, None, length, refl, sym, ap, ◌∙◌, arith}
use Rattle.std.specs.Prelude.{slice_index_or}
use Rattle.std.proofs.lemmas.Bool.Decides.{nat_tests}
use Rattle.dsql_laws.specs.journal.declared.entry.Entry.{Entry}
use Rattle.dsql_laws.specs.journal.Readers.{has}
use Rattle.dsql_laws.specs.history.Readers.Tries.{try_number, tries}
use Rattle.dsql_laws.proofs.Tests.{both, same_number, other_number}
use Rattle.dsql_laws_calls.proofs.Lists.{has-without}
use Rattle.dsql_laws_work.proofs.Rows.{row_old, row_off, row_new, has_push}
use Rattle.dsql_laws_calls.proofs.Stays.{as_many}
use Rattle.dsql_laws.specs.history.declared.work.Work.{Work}
use Rattle.dsql_laws.specs.history.declared.work.Work.TheVariants.{Look}
use Rattle.dsql_laws.specs.history.declared.event.Event.{Event}
use Rattle.dsql_laws.specs.history.declared.event.Event.TheVariants.{Entered, Heard, Replied}
use Rattle.dsql_laws.specs.history.declared.event.Op.{Op}
use Rattle.dsql_laws.specs.history.declared.reply.Reply.{Reply}
use Rattle.dsql_laws.specs.history.Readers.Unfinished.{unfinished, is_unfinished}
use Rattle.dsql_laws.specs.history.Readers.Works.{works, work, work_of}
use Rattle.dsql_laws.specs.history.Readers.Calls.{calls, call_record, next_call, is_busy, nobody, entering, decided_by}
use Rattle.dsql_laws.specs.history.Readers.Labels.{names_fit}
use Rattle.dsql_laws.specs.history.Legal.{Allowed}

-- Is true if the call looks at what is there, and sends nothing.
abbrev pub is_look : Work → Bool
is_look Look = true
is_look _ = false

kept_work : (ws : List Work) (w : Work) (n : ℕ) → is_look (slice_index_or ws n Look) ≡ false → slice_index_or (ws ++ w ∷ []) n Look ≡ slice_index_or ws n Look
kept_work [] w n h = absurd cc
kept_work (v ∷ ws) w zero h = refl
kept_work (v ∷ ws) w (suc n) h = kept_work ws w n h

pub work_stays : (H : List Event) (e : Event) (m : ℕ) → is_look (work H m) ≡ false → work (e ∷ H) m ≡ work H m
work_stays H (Entered client n op) m h = kept_work (works H) (work_of (works H) op) m h
work_stays H _ m h = refl

-- A call that enters has the next number.
pub enters_next : (H : List Event) (client n : ℕ) (op : Op) → Allowed H (Entered client n op) → n ≡ length (calls H)
unfolding Allowed
enters_next H client n op a = let b = both (n == next_call H) (not (is_busy client H) && names_fit H op) a.numbers in same_number n (next_call H) b.0

pub new_record : (H : List Event) (client n : ℕ) (op : Op) → n ≡ length (calls H) → call_record (Entered client n op ∷ H) n ≡ entering H client op
new_record H client n op new = row_new (calls H) (entering H client op) n nobody new

pub new_work : (H : List Event) (client n : ℕ) (op : Op) → n ≡ length (calls H) → work (Entered client n op ∷ H) n ≡ work_of (works H) op
new_work H client n op new = row_new (works H) (work_of (works H) op) n Look (new ∙ sym (as_many H))

pub old_record : (H : List Event) (client n : ℕ) (op : Op) (m : ℕ) → n ≡ length (calls H) → m ≢ n → call_record (Entered client n op ∷ H) m ≡ call_record H m
old_record H client n op m new apart = row_old (calls H) (entering H client op) m nobody (λ same. apart (same ∙ sym new))

pub old_work : (H : List Event) (client n : ℕ) (op : Op) (m : ℕ) → n ≡ length (calls H) → m ≢ n → work (Entered client n op ∷ H) m ≡ work H m
old_work H client n op m new apart = row_old (works H) (work_of (works H) op) m Look (λ same. apart (same ∙ (as_many H ∙ sym new)))

pub other_heard : (H : List Event) (e : Entry) (m : ℕ) → m ≢ e.call_no → call_record (Heard e ∷ H) m ≡ call_record H m
other_heard H e m apart = row_off (calls H) e.call_no (decided_by (try_number (tries H e.call_no)) (work H e.call_no) e (call_record H e.call_no)) m nobody apart

pub other_replied : (H : List Event) (n : ℕ) (reply : Reply) (m : ℕ) → m ≢ n → call_record (Replied n reply ∷ H) m ≡ call_record H m
other_replied H n reply m apart = row_off (calls H) n (record (call_record H n) { decided = None }) m nobody apart

-- The calls that are unfinished.

pub old_unfinished : (H : List Event) (client n : ℕ) (op : Op) (m : ℕ) → m ≢ n → is_unfinished (Entered client n op ∷ H) m ≡ is_unfinished H m
old_unfinished H client n op m apart =
    let push = has_push m n (unfinished H) in
    let other : (n == m) ≡ false = other_number n m (λ same. apart (sym same)) in
    push ∙ (ap (λ b. has m (unfinished H) || b) other ∙ or_no (has m (unfinished H)))
  where
    or_no : (b : Bool) → (b || false) ≡ b
    or_no true = refl
    or_no false = refl

pub still_unfinished : (H : List Event) (n : ℕ) (reply : Reply) (m : ℕ) → is_unfinished (Replied n reply ∷ H) m ≡ true → (m ≢ n) × (is_unfinished H m ≡ true)
still_unfinished H n reply m h =
    let split : (not (m == n) && has m (unfinished H)) ≡ true = sym (has-without m n (unfinished H)) ∙ h in
    let b = both (not (m == n)) (has m (unfinished H)) split in
    (λ same. clash (m == n) (same_test same) b.0, b.1)
  where
    same_test : m ≡ n → (m == n) ≡ true
    same_test same = grind (arith, nat_tests, same)

    clash : (b : Bool) → b ≡ true → not b ≡ true → ⊥
    clash true is k = cc
    clash false is k = cc

-- A call that has no reply stays unfinished until its reply.
pub stays_unfinished : (H : List Event) (n : ℕ) (reply : Reply) (m : ℕ) → (n == m) ≡ false → is_unfinished H m ≡ true → is_unfinished (Replied n reply ∷ H) m ≡ true
stays_unfinished H n reply m apart u =
    let other : (m == n) ≡ false = grind (arith, nat_tests, apart) in
    has-without m n (unfinished H) ∙ (ap (λ b. not b && has m (unfinished H)) other ∙ u)

pub enters_unfinished : (H : List Event) (client n : ℕ) (op : Op) (m : ℕ) → is_unfinished H m ≡ true → is_unfinished (Entered client n op ∷ H) m ≡ true
enters_unfinished H client n op m u = has_push m n (unfinished H) ∙ ap (λ b. b || (n == m)) u
