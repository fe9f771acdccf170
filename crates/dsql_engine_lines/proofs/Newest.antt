-- The connection on which a call in a transaction has sent something is that of its newest driver call.
use Rattle.std.proofs.Common.{◌≡◌, ◌≢◌, ℕ, zero, suc, ◌<◌, ◌≤◌, ◌==◌, ◌⊎◌, inl, inr, Bool, true, false, not, ◌&&◌, ◌||◌, cond, List, [], ◌∷◌, length, refl, sym, ap, subst, ◌∙◌, arith}
use Rattle.std.proofs.Math.Bool.{and-false}
use Rattle.std.proofs.lemmas.List.{length-append, length-set}
use Rattle.dsql_laws_calls.specs.journal.declared.entry.Entry.{Entry}
use Rattle.dsql_laws_calls.specs.pool.declared.conn.Place.TheVariants.{Lent}
use Rattle.dsql_laws_calls.specs.pool.Places.{conn_of}
use Rattle.dsql_laws_calls.proofs.laws.Tests.{other_number, same_itself}
use Rattle.dsql_laws_calls.proofs.Stays.{as_many}
use Rattle.dsql_laws_calls.proofs.laws_work.Rows.{same_or_not, read_set, row_new, row_off, row_old}
use Rattle.dsql_laws_calls.specs.history.declared.event.Event.{Event}
use Rattle.dsql_laws_calls.specs.history.declared.event.Event.TheVariants.{Entered, Heard}
use Rattle.dsql_laws_calls.specs.history.declared.event.Op.{Op}
use Rattle.dsql_laws_calls.specs.history.Readers.Calls.{has_begun_to_send, site}
use Rattle.dsql_laws_calls.specs.history.Readers.Journals.{journal}
use Rattle.dsql_laws_calls.specs.history.Readers.Lines.{has_sent}
use Rattle.dsql_laws_calls.specs.history.Readers.Pool.{pool}
use Rattle.dsql_laws_calls.specs.history.Readers.Works.{work_of, works}
use Rattle.dsql_laws_calls.specs.history.Legal.{Allowed, Lawful}
use Rattle.dsql_laws_callers.proofs.Tenures.{found_place, open_opened}
use Rattle.dsql_laws_calls.proofs.UnderWay.{UnderWay}
use Rattle.dsql_laws_calls.proofs.Works.{enters_next}
use Rattle.dsql_engine_lines.specs.Inside.{works_inside}
use Rattle.dsql_engine_lines.specs.Sent.{sent, sent_on}
use Rattle.dsql_engine_lines.proofs.OneConnection.{one_connection, sent_old, sent_other, under_way}
use Rattle.dsql_engine_lines.proofs.Stays.{inside_entered, inside_stays, new_or_old}

-- The list has a place for each call, and one for no call.
as_many_places : (H : List Event) → length (sent H) ≡ length (works H)
as_many_places [] = refl
as_many_places (Entered client n op ∷ H) =
    let rest = as_many_places H in
    let a = length-append (works H) (work_of (works H) op ∷ []) in
    let b = length-append (sent H) (0 ∷ []) in
    omega (arith, rest, a, b)
as_many_places (Heard e ∷ H) = length-set (sent H) e.call_no e.conn ∙ as_many_places H
as_many_places (_ ∷ H) = as_many_places H

-- An answer comes.

sent_here : (H : List Event) (e : Entry) → e.call_no < length (works H) → sent_on (Heard e ∷ H) e.call_no ≡ e.conn
sent_here H e old = by (read_set (sent H) e.call_no e.conn e.call_no 0)
  where
    many : length (sent H) ≡ length (works H)
    many = as_many_places H

    by : ((e.call_no ≡ e.call_no) × (e.call_no < length (sent H)) × (sent_on (Heard e ∷ H) e.call_no ≡ e.conn)) ⊎ ((e.call_no ≡ e.call_no → length (sent H) ≤ e.call_no) × (sent_on (Heard e ∷ H) e.call_no ≡ sent_on H e.call_no))
        → sent_on (Heard e ∷ H) e.call_no ≡ e.conn
    by (inl it) = it.2
    by (inr it) = let beyond = it.0 refl in absurd (omega (arith, beyond, many, old))

abbrev IsOn : List Event → ℕ → ℕ → Type 0
IsOn H n c = has_sent n (journal H c) ≡ (not (c == 0) && (sent_on H n == c))

-- Connections are numbered from 1.
open_numbered : (H : List Event) (e : Entry) → Lawful H → UnderWay H e → e.conn ≢ 0
open_numbered H e l u none =
    let x = found_place (conn_of e.conn (pool H).conns) (Lent e.tenure u.owner) u.lent in
    let opened = open_opened H e.conn x.0 x.1 in
    let some = opened.0 in
    absurd (omega (arith, some, none))

answered : (H : List Event) (e : Entry) (c : ℕ) → Lawful (Heard e ∷ H) → e.call_no ≢ 0 → works_inside H e.call_no ≡ true → (e.conn ≡ c) ⊎ (e.conn ≢ c) → IsOn (Heard e ∷ H) e.call_no c
answered H e c l some is_in (inl here) =
    let u = under_way H e l some in
    let numbered : c ≢ 0 = λ none. open_numbered H e l.0 u (here ∙ none) in
    let newest : sent_on (Heard e ∷ H) e.call_no ≡ c = sent_here H e (inside_entered H e.call_no is_in) ∙ here in
    ap (λ b. has_sent e.call_no (cond b (e ∷ journal H c) (journal H c))) (ap (λ d. d == c) here ∙ same_itself c)
    ∙ (ap (λ b. b || has_sent e.call_no (journal H c)) (same_itself e.call_no)
    ∙ sym (ap (λ b. not b && (sent_on (Heard e ∷ H) e.call_no == c)) (other_number c 0 numbered) ∙ (ap (λ d. d == c) newest ∙ same_itself c)))
answered H e c l some is_in (inr apart) =
    ap (λ b. has_sent e.call_no (cond b (e ∷ journal H c) (journal H c))) (other_number e.conn c apart)
    ∙ (none (has_sent e.call_no (journal H c)) refl
    ∙ sym (ap (λ b. not (c == 0) && b) (ap (λ d. d == c) (sent_here H e (inside_entered H e.call_no is_in)) ∙ other_number e.conn c apart) ∙ and-false (not (c == 0))))
  where
    none : (b : Bool) → has_sent e.call_no (journal H c) ≡ b → b ≡ false
    none true before =
        let u = under_way H e l some in
        absurd (apart (one_connection H e.call_no c l.0 some is_in before e.conn e.tenure u.owner u.lent (sym (u.borrowed some))))
    none false before = refl

-- A call that enters has sent nothing yet.

unsent : (H : List Event) (client m : ℕ) (op : Op) (c : ℕ) → Lawful H → Allowed H (Entered client m op) → m ≢ 0 → has_sent m (journal H c) ≡ false
unsent H client m op c l a some = by (has_sent m (journal H c)) refl
  where
    by : (b : Bool) → has_sent m (journal H c) ≡ b → b ≡ false
    by true before =
        let old = sent_old H m c l some before in
        let next = enters_next H client m op a in
        let many = as_many H in
        absurd (omega (arith, old, next, many))
    by false before = refl

on_none : (c : ℕ) → (not (c == 0) && (0 == c)) ≡ false
on_none zero = refl
on_none (suc c) = ap (λ b. not (suc c == 0) && b) (other_number 0 (suc c) (λ h. absurd (omega (arith, h)))) ∙ and-false (not (suc c == 0))

entered : (H : List Event) (client m : ℕ) (op : Op) (c : ℕ) → Lawful H → Allowed H (Entered client m op) → m ≢ 0 → IsOn (Entered client m op ∷ H) m c
entered H client m op c l a some =
    let place : sent_on (Entered client m op ∷ H) m ≡ 0 = row_new (sent H) 0 m 0 (enters_next H client m op a ∙ sym (as_many H) ∙ sym (as_many_places H)) in
    unsent H client m op c l a some ∙ sym (ap (λ d. not (c == 0) && (d == c)) place ∙ on_none c)

pub newest : (H : List Event) (n c : ℕ) → Lawful H → n ≢ 0 → works_inside H n ≡ true → IsOn H n c
newest [] zero c l some is_in = absurd (some refl)
newest [] (suc n) c l some is_in = absurd cc
newest (Heard e ∷ H) n c l some is_in = by (same_or_not e.call_no n) (newest H n c l.0 some is_in)
  where
    by : (e.call_no ≡ n) ⊎ (e.call_no ≢ n) → IsOn H n c → IsOn (Heard e ∷ H) n c
    by (inl own) rest = subst (λ m. m ≢ 0 → works_inside H m ≡ true → IsOn (Heard e ∷ H) m c) own (λ own_some own_in. answered H e c l own_some own_in (same_or_not e.conn c)) some is_in
    by (inr other) rest =
        let same : sent_on (Heard e ∷ H) n ≡ sent_on H n = row_off (sent H) e.call_no e.conn n 0 (λ its. other (sym its)) in
        sent_other H e n c other ∙ (rest ∙ sym (ap (λ d. not (c == 0) && (d == c)) same))
newest (Entered client m op ∷ H) n c l some is_in = by (new_or_old H client m op n l.1 is_in) (newest H n c l.0 some)
  where
    by : (n ≡ m) ⊎ (n < length (works H)) → (works_inside H n ≡ true → IsOn H n c) → IsOn (Entered client m op ∷ H) n c
    by (inl new) rest = subst (λ j. j ≢ 0 → IsOn (Entered client m op ∷ H) j c) (sym new) (entered H client m op c l.0 l.1) some
    by (inr old) rest =
        let many = as_many_places H in
        let same : sent_on (Entered client m op ∷ H) n ≡ sent_on H n = row_old (sent H) 0 n 0 (λ beyond. absurd (omega (arith, old, many, beyond))) in
        rest (sym (inside_stays H (Entered client m op) n old) ∙ is_in) ∙ sym (ap (λ d. not (c == 0) && (d == c)) same)
newest (_ ∷ H) n c l some is_in = newest H n c l.0 some is_in

pub begun_where_sent : (H : List Event) (n : ℕ) → Lawful H → n ≢ 0 → works_inside H n ≡ true → has_begun_to_send H n ≡ (not (site H n == 0) && (sent_on H n == site H n))
begun_where_sent H n l some is_in = newest H n (site H n) l some is_in
