-- What stays the same for a call whatever else happens: its work, what it asks, and that it is unfinished.
use Rattle.std.proofs.Common.{◌≡◌, ℕ, ◌<◌, ◌==◌, inl, inr, true, false, ◌||◌, cond, List, [], ◌∷◌, ◌++◌, length, length-set, get_or, None, refl, sym, ap, ◌∙◌, arith}
use Rattle.std.proofs.lemmas.Bool.Decides.{nat_tests}
use Rattle.std.proofs.lemmas.List.{length-append}
use Rattle.dsql_laws.specs.journal.declared.entry.Entry.{Entry}
use Rattle.dsql_laws.specs.journal.Readers.{has}
use Rattle.dsql_laws.specs.pool.Pooled.{without}
use Rattle.dsql_laws.specs.works.declared.work.Aim.{Aim}
use Rattle.dsql_laws.specs.works.Line.{Asked}
use Rattle.dsql_laws_work.proofs.Rows.{read_set, row_old, within_rows, has_push}
use Rattle.dsql_laws.specs.history.Readers.Tries.{try_number, tries}
use Rattle.dsql_laws.specs.history.declared.work.Work.{Work}
use Rattle.dsql_laws.specs.history.declared.work.Work.TheVariants.{Look}
use Rattle.dsql_laws.specs.history.Readers.Works.{asks, aim_of, works, work, work_of}
use Rattle.dsql_laws.specs.history.declared.event.Event.{Event}
use Rattle.dsql_laws.specs.history.declared.event.Event.TheVariants.{Entered, Heard, Replied}
use Rattle.dsql_laws.specs.history.declared.record.CallRecord.{CallRecord}
use Rattle.dsql_laws.specs.history.Readers.Calls.{calls, call_record, nobody, with_record, entering, trying, decided_by}
use Rattle.dsql_laws.specs.history.Readers.Decisions.{decision}
use Rattle.dsql_laws.specs.history.Readers.Unfinished.{unfinished, is_unfinished}
use Rattle.dsql_laws.specs.history.Rules.Sent.{asked_by}
use Rattle.dsql_laws.specs.history.Rules.Line.{parts}

-- Each call has its work.
pub as_many : (H : List Event) → length (works H) ≡ length (calls H)
as_many [] = refl
as_many (Entered client n op ∷ H) =
    let one = length-append (works H) (work_of (works H) op ∷ []) in
    let other = length-append (calls H) (entering H client op ∷ []) in
    let same = as_many H in
    omega (arith, one, other, same)
as_many (Heard e ∷ H) = as_many H ∙ sym (length-set (calls H) e.call_no (decided_by (try_number (tries H e.call_no)) (work H e.call_no) e (get_or (calls H) e.call_no nobody)))
as_many (Replied n reply ∷ H) = as_many H ∙ sym (length-set (calls H) n (record (get_or (calls H) n nobody) { decided = None }))
as_many (_ ∷ H) = as_many H

-- A call that has something to do has entered.
pub has_entered : (H : List Event) (m : ℕ) → (work H m ≡ Look → ⊥) → m < length (works H)
has_entered H m busy = elim (within_rows (works H) m Look) [ inl less ↦ less | inr out ↦ absurd (busy out.1) ]

pub not_looking : (it : Work) → asks it ≡ true → it ≡ Look → ⊥
not_looking it h is = let k : asks Look ≡ true = ap asks (sym is) ∙ h in cc

old_work : (ws : List Work) (w : Work) (m : ℕ) → m < length ws → get_or (ws ++ w ∷ []) m Look ≡ get_or ws m Look
old_work ws w m less = row_old ws w m Look (λ is. absurd (omega (arith, less, is)))

pub work_stays : (H : List Event) (e : Event) (m : ℕ) → (work H m ≡ Look → ⊥) → work (e ∷ H) m ≡ work H m
work_stays H (Entered client n op) m busy = old_work (works H) (work_of (works H) op) m (has_entered H m busy)
work_stays H _ m busy = refl

-- What a call asks is fixed as it enters.

abbrev stated : CallRecord → Aim → Asked
stated r aim = record { text = r.text; params = r.params; aim = aim }

asked_row : (cs : List CallRecord) (m n : ℕ) (f : CallRecord → CallRecord) (aim : Aim) → ((r : CallRecord) → stated (f r) aim ≡ stated r aim)
    → stated (get_or (with_record m f cs) n nobody) aim ≡ stated (get_or cs n nobody) aim
asked_row cs m n f aim k =
    elim (read_set cs m (f (get_or cs m nobody)) n nobody) [
      | inl w ↦ ap (λ r. stated r aim) w.2 ∙ k (get_or cs m nobody) ∙ ap (λ i. stated (get_or cs i nobody) aim) (sym w.0)
      | inr w ↦ ap (λ r. stated r aim) w.1
    ]

stated_heard : (number : ℕ) (it : Work) (e : Entry) (aim : Aim) (r : CallRecord) → stated (decided_by number it e r) aim ≡ stated r aim
stated_heard number it e aim r =
    elim (e.call_no == 0) as (λ b. stated (cond b r (record r { decided = decision (trying number it r) e.call e.answer r.decided })) aim ≡ stated r aim) [ true ↦ refl | false ↦ refl ]

stated_same : (r s : CallRecord) (x y : Work) → r ≡ s → x ≡ y → stated r (aim_of x) ≡ stated s (aim_of y)
stated_same r s x y same is = rw (same, is) refl

pub asked_stays : (H : List Event) (e : Event) (n : ℕ) → (work H n ≡ Look → ⊥) → asked_by (e ∷ H) n ≡ asked_by H n
asked_stays H (Entered client m op) n busy =
    let less = has_entered H n busy in
    let rows = as_many H in
    stated_same (call_record (Entered client m op ∷ H) n) (call_record H n) (work (Entered client m op ∷ H) n) (work H n)
    (row_old (calls H) (entering H client op) n nobody (λ is. absurd (omega (arith, less, rows, is))))
    (old_work (works H) (work_of (works H) op) n less)
asked_stays H (Heard e) n busy =
    let number = try_number (tries H e.call_no) in
    asked_row (calls H) e.call_no n (decided_by number (work H e.call_no) e) (aim_of (work H n)) (stated_heard number (work H e.call_no) e (aim_of (work H n)))
asked_stays H (Replied m reply) n busy = asked_row (calls H) m n (λ r. record r { decided = None }) (aim_of (work H n)) (λ r. refl)
asked_stays H _ n busy = refl

-- A call is unfinished until it has its reply.

has_without : (m n : ℕ) (ns : List ℕ) → (n == m) ≡ false → has m ns ≡ true → has m (without n ns) ≡ true
has_without m n [] apart h = h
has_without m n (k ∷ ns) apart h = grind (arith, nat_tests, has_without m n ns, apart, h)

pub unfinished_stays : (H : List Event) (last : Event) (e : Entry) → parts last e ≡ false → is_unfinished H e.call_no ≡ true → is_unfinished (last ∷ H) e.call_no ≡ true
unfinished_stays H (Entered client n op) e on h = has_push e.call_no n (unfinished H) ∙ ap (λ b. b || (n == e.call_no)) h
unfinished_stays H (Replied n reply) e on h = has_without e.call_no n (unfinished H) on h
unfinished_stays H _ e on h = h
