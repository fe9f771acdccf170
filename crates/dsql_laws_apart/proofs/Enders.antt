-- Proves that a call which ends a transaction, and the layer in a tenure of one, sends there only if it ended the
-- transaction. The argument is that what ended a transaction stays the same, whatever event comes.
use Rattle.std.proofs.Common.{◌≡◌, ℕ, ◌==◌, Bool, true, false, not, ◌&&◌, cond, List, [], ◌∷◌, Some, None, refl, sym, ap, ◌∙◌, ◌⊎◌, inl, inr}
use Rattle.std.proofs.lemmas.Bool.{and_right, or_cases}
use Rattle.dsql_laws_calls.specs.driver.declared.call.DriverCall.{DriverCall}
use Rattle.dsql_laws_calls.specs.course.declared.course.Wish.TheVariants as wishes
use Rattle.dsql_laws_calls.specs.journal.declared.entry.Entry.{Entry}
use Rattle.dsql_laws_calls.specs.journal.declared.entry.Owner.{Owner}
use Rattle.dsql_laws_calls.specs.journal.Kinds.{is_call, number_of}
use Rattle.dsql_laws_calls.specs.pool.declared.conn.Place.TheVariants.{Lent}
use Rattle.dsql_laws_calls.proofs.laws.Tests.{both, together}
use Rattle.dsql_laws_calls.specs.history.declared.event.Event.{Event}
use Rattle.dsql_laws_calls.specs.history.declared.work.Work.{Work}
use Rattle.dsql_laws_calls.specs.history.declared.work.Work.TheVariants.{Begin, End}
use Rattle.dsql_laws_calls.specs.history.Readers.HandedOut.{rows_by, are_over, ender}
use Rattle.dsql_laws_calls.specs.history.Readers.Pool.{place}
use Rattle.dsql_laws_calls.specs.history.Readers.Transactions.{is_begun, is_over, goes_on, ending_call, tx_ender}
use Rattle.dsql_laws_calls.specs.history.Readers.Works.{work, owner_as}
use Rattle.dsql_laws_calls.specs.history.Rules.Ending.{ending}
use Rattle.dsql_laws_calls.specs.history.Rules.Line.{due_for, due_in, is_due, is_due_at, may_come, parts, tidying}
use Rattle.dsql_laws_calls.specs.history.Rules.Sent.{close_due, line_of}
use Rattle.dsql_laws_calls.specs.history.Legal.{Lawful}
use Rattle.dsql_laws_calls.proofs.Begun.{stays_over}
use Rattle.dsql_laws_calls.proofs.Coming.{sound}
use Rattle.dsql_laws_calls.proofs.Lent.{stays_lent}
use Rattle.dsql_laws_calls.proofs.LiveRows.{over_some}
use Rattle.dsql_laws_calls.proofs.Looks.{due_there}
use Rattle.dsql_laws_calls.proofs.Makers.{hands_out, rows_hand_out}
use Rattle.dsql_laws_calls.proofs.Own.{due_now, due_of, some_due}
use Rattle.dsql_laws_calls.proofs.Owners.{owner_is_of}
use Rattle.dsql_laws_calls.proofs.Sound.{same_lent}
use Rattle.dsql_laws_calls.proofs.StaysUnderWay.{coming_work}
use Rattle.dsql_laws_calls.proofs.UnderWay.{ending_over}
use Rattle.dsql_laws_calls.proofs.Why.{why_used}
use Rattle.dsql_laws_callers.proofs.Senders.{not_due}
use Rattle.dsql_laws_apart.specs.Apart.{has_ended_it}

-- Call m, or the layer if m is 0, sends what is due of an end only if it ended the transaction.
ended_now : (H : List Event) (m k : ℕ) (q : DriverCall) → is_due (cond (tx_ender H k == m) (ending H k) None) q ≡ true → has_ended_it H m k ≡ true
ended_now H m k q h = by (tx_ender H k == m) refl h
  where
    by : (b : Bool) → (tx_ender H k == m) ≡ b → is_due (cond b (ending H k) None) q ≡ true → has_ended_it H m k ≡ true
    by true is d = together (is_over H k) (tx_ender H k == m) (ending_over H k (some_due (ending H k) q d)) is
    by false is d = absurd (not_due q d)

ended_stays : (H : List Event) (e : Event) (m k : ℕ) → has_ended_it H m k ≡ true → has_ended_it (e ∷ H) m k ≡ true
ended_stays H e m k h =
    let a = both (is_over H k) (tx_ender H k == m) h in
    let rested : goes_on H k ≡ false = and_right (is_begun H k) (not (is_over H k)) (ap not a.0) in
    let same : tx_ender (e ∷ H) k ≡ tx_ender H k = ap (λ b. cond b (cond (goes_on (e ∷ H) k) 0 (ending_call e)) (tx_ender H k)) rested in
    together (is_over (e ∷ H) k) (tx_ender (e ∷ H) k == m) (stays_over H e k a.0) (ap (λ n. n == m) same ∙ a.1)

-- If a driver call of a call that ends a transaction may come, the call ended it.
pub ends_it : (H : List Event) (e : Entry) (k : ℕ) → may_come H e ≡ true → (e.call_no == 0) ≡ false → work H e.call_no ≡ End k → has_ended_it H e.call_no k ≡ true
ends_it [] e k h some is = absurd cc
ends_it (last ∷ H) e k h some is =
    by (or_cases (is_due_at (last ∷ H) (place (last ∷ H) e.conn) e) (not (parts last e) && may_come H e) h) (λ comes was. ends_it H e k comes some was)
  where
    by : (is_due_at (last ∷ H) (place (last ∷ H) e.conn) e ≡ true) ⊎ ((not (parts last e) && may_come H e) ≡ true) → (may_come H e ≡ true → work H e.call_no ≡ End k → has_ended_it H e.call_no k ≡ true)
        → has_ended_it (last ∷ H) e.call_no k ≡ true
    by (inl due) earlier =
        let o = due_of (last ∷ H) e.call_no e.call (due_there (last ∷ H) (place (last ∷ H) e.conn) e due some) in
        ended_now (last ∷ H) e.call_no k e.call (ap (λ it. is_due (due_in (last ∷ H) e.call_no it) e.call) (sym is) ∙ o.due)
    by (inr was) earlier =
        let a = both (not (parts last e)) (may_come H e) was in
        ended_stays H last e.call_no k (earlier a.1 (sym (coming_work H last e a.1) ∙ is))

-- The layer tidies up for a call whose transaction no call ended, or whose rows are over.
tidied : (H : List Event) (n : ℕ) (q : DriverCall) → is_due (tidying H n) q ≡ true → (has_ended_it H 0 n ≡ true) ⊎ (are_over H n ≡ true)
tidied H n q h = by (is_begun H n) h
  where
    gone : (a b : Bool) → are_over H n ≡ b → is_due (cond a (cond b (line_of H n wishes.Close) None) None) q ≡ true → are_over H n ≡ true
    gone true true is d = is
    gone true false is d = absurd (not_due q d)
    gone false b is d = absurd (not_due q d)

    by : (b : Bool) → is_due (cond b (cond (tx_ender H n == 0) (ending H n) None) (cond (ender H n == 0) (close_due H n) None)) q ≡ true → (has_ended_it H 0 n ≡ true) ⊎ (are_over H n ≡ true)
    by true d = inl (ended_now H 0 n q d)
    by false d = inr (gone (ender H n == 0) (are_over H n) refl d)

-- In a tenure of a transaction it ends that transaction, because a call that began one has no rows.
due_inside : (H : List Event) (e : Entry) (own : Owner) → Lawful H → e.call_no ≡ 0 → is_call own ≡ false → place H e.conn ≡ Some (Lent e.tenure own) → is_due_at H (place H e.conn) e ≡ true → has_ended_it H e.call_no (number_of own) ≡ true
due_inside H e own l none tx is h =
    let d = due_now H e h in
    let same = same_lent e.tenure e.tenure d.owner own (sym d.lent ∙ is) in
    let due : is_due (tidying H (number_of d.owner)) e.call ≡ true = sym (ap (λ m. is_due (cond (m == 0) (tidying H (number_of d.owner)) (due_for H m)) e.call) none) ∙ d.due in
    by (tidied H (number_of own) e.call (ap (λ o. is_due (tidying H (number_of o)) e.call) (sym same.1) ∙ due))
  where
    no_rows : (it : Work) (n : ℕ) → hands_out it ≡ true → is_call (owner_as it n) ≡ false → ⊥
    no_rows (Begin label level read_only) n hands other = cc
    no_rows it n hands other = cc

    by : (has_ended_it H 0 (number_of own) ≡ true) ⊎ (are_over H (number_of own) ≡ true) → has_ended_it H e.call_no (number_of own) ≡ true
    by (inl ended) = ap (λ m. has_ended_it H m (number_of own)) none ∙ ended
    by (inr gone) =
        let hands = rows_hand_out H (number_of own) (over_some (rows_by H (number_of own)) gone) in
        let o = owner_is_of H e.conn e.tenure own l is in
        absurd (no_rows (work H (number_of own)) (number_of own) hands (sym (ap is_call o.1) ∙ tx))

-- A connection on which an answer is under way was lent to the same owner before the event.
was_lent : (H : List Event) (last : Event) (e : Entry) (own : Owner) → Lawful (last ∷ H) → may_come H e ≡ true → place (last ∷ H) e.conn ≡ Some (Lent e.tenure own) → place H e.conn ≡ Some (Lent e.tenure own)
was_lent H last e own l may is =
    let s = sound H l.0 in
    let u = s.coming e may in
    let stays = stays_lent H last e.conn e.tenure u.owner l.0 l.1 u.lent (why_used H e.conn e.tenure u.owner e.call_no l.0 u.lent u.why) in
    let same = same_lent e.tenure e.tenure u.owner own (sym stays ∙ is) in
    u.lent ∙ ap (λ o. Some (Lent e.tenure o)) same.1

-- If a driver call of the layer's may come in a tenure of a transaction, no call ended the transaction.
pub tidies_inside : (H : List Event) (e : Entry) (own : Owner) → Lawful H → e.call_no ≡ 0 → is_call own ≡ false → place H e.conn ≡ Some (Lent e.tenure own) → may_come H e ≡ true → has_ended_it H e.call_no (number_of own) ≡ true
tidies_inside [] e own l none tx is h = absurd cc
tidies_inside (last ∷ H) e own l none tx is h =
    by (or_cases (is_due_at (last ∷ H) (place (last ∷ H) e.conn) e) (not (parts last e) && may_come H e) h) (λ was comes. tidies_inside H e own l.0 none tx was comes)
  where
    by : (is_due_at (last ∷ H) (place (last ∷ H) e.conn) e ≡ true) ⊎ ((not (parts last e) && may_come H e) ≡ true) → (place H e.conn ≡ Some (Lent e.tenure own) → may_come H e ≡ true → has_ended_it H e.call_no (number_of own) ≡ true)
        → has_ended_it (last ∷ H) e.call_no (number_of own) ≡ true
    by (inl due) earlier = due_inside (last ∷ H) e own l none tx is due
    by (inr was) earlier =
        let a = both (not (parts last e)) (may_come H e) was in
        ended_stays H last e.call_no (number_of own) (earlier (was_lent H last e own l a.1 is) a.1)
