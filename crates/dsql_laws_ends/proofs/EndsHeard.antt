-- A begun transaction keeps its connection until the Commit or the Rollback that ends it is heard there. The proof is
-- by induction on the history.
use Rattle.std.proofs.Common.{◌≡◌, ℕ, ◌==◌, ◌⊎◌, inl, inr, Bool, true, false, not, ◌&&◌, ◌||◌, cond, List, [], ◌∷◌, Option, Some, None, is_some, refl, sym, ap, subst, ◌∙◌}
use Rattle.std.specs.List.{list_any}
use Rattle.dsql_laws_calls.specs.driver.declared.call.DriverCall.{DriverCall}
use Rattle.dsql_laws_calls.specs.driver.Kinds.{is_ending}
use Rattle.dsql_laws_calls.specs.journal.declared.entry.Entry.{Entry}
use Rattle.dsql_laws_calls.specs.journal.declared.entry.Owner.{Owner}
use Rattle.dsql_laws_calls.specs.journal.Kinds.{number_of}
use Rattle.dsql_laws_calls.specs.journal.Readers.{of_tenure}
use Rattle.dsql_laws_calls.specs.pool.declared.conn.Place.TheVariants.{Lent}
use Rattle.dsql_laws_calls.specs.pool.declared.moves.Move.TheVariants.{Lend}
use Rattle.dsql_laws_calls.specs.tx.declared.end.TxEnd.{TxEnd}
use Rattle.dsql_laws_calls.specs.tx.declared.end.TxEnd.TheVariants as tx_ends
use Rattle.dsql_laws_calls.specs.tx.declared.tx.Tx.{Tx}
use Rattle.dsql_laws_calls.specs.tx.Transactions.{begun_on, ended_by}
use Rattle.dsql_laws_calls.proofs.laws.Truths.{or_first, or_second}
use Rattle.dsql_laws_calls.proofs.laws.Tests.{same_itself, same_number, together}
use Rattle.dsql_laws_calls.proofs.Cases.{true_false}
use Rattle.dsql_laws_calls.specs.history.declared.event.Event.{Event}
use Rattle.dsql_laws_calls.specs.history.declared.event.Event.TheVariants.{Run, Entered, Heard, Pool, Waits, Ticked, SetLimit, Replied, Ended}
use Rattle.dsql_laws_calls.specs.history.Readers.HandedOut.{are_live, rows_by}
use Rattle.dsql_laws_calls.specs.history.Readers.Journals.{heard_in, journal}
use Rattle.dsql_laws_calls.specs.history.Readers.Pool.{place}
use Rattle.dsql_laws_calls.specs.history.Readers.Transactions.{goes_on, is_begun, is_over, tx_by, tx_end, tx_ender}
use Rattle.dsql_laws_calls.specs.history.Readers.Works.{work}
use Rattle.dsql_laws_calls.specs.history.Rules.Ending.{ended_by_call, ending}
use Rattle.dsql_laws_calls.specs.history.Rules.Line.{is_due, is_used, may_come, rest, rest_with, sends_from}
use Rattle.dsql_laws_calls.specs.history.Legal.{Allowed, Lawful}
use Rattle.dsql_laws_calls.proofs.Beginnings.{asking, numbered}
use Rattle.dsql_laws_calls.proofs.Begun.{BeginsIt, Turned, as_begun, begin_heard, ended_tx, entered_tx, heard_tx, turned}
use Rattle.dsql_laws_calls.proofs.Coming.{stays_with_its_call}
use Rattle.dsql_laws_calls.proofs.BeginningsAt.{is_answer}
use Rattle.dsql_laws_calls.proofs.Lent.{Lends, lent_before, stays_lent}
use Rattle.dsql_laws_calls.proofs.Looks.{comes, heard_there}
use Rattle.dsql_laws_calls.proofs.Own.{asks_own}
use Rattle.dsql_laws_calls.proofs.Tenures.{fresh_lending}
use Rattle.dsql_laws_calls.proofs.Why.{ended_there, ending_some}
use Rattle.dsql_laws_ends.specs.Over.{ends_so}
use Rattle.dsql_laws_ends.proofs.OwnEnds.{end_stays, end_way}
use Rattle.dsql_laws_replies.proofs.EndReplies.{still_ender}

-- Holds if connection c is lent to transaction k in tenure t.
pub record StillLent (H : List Event) (k c t : ℕ) : Type 0 where
  pub owner : Owner
  pub place : place H c ≡ Some (Lent t owner)
  pub own : number_of owner ≡ k

-- Holds if the end of transaction k was heard on connection c in tenure t.
abbrev pub EndedSo : List Event → ℕ → ℕ → ℕ → Type 0
EndedSo H k c t = list_any (ends_so (tx_ender H k) (tx_end H k)) (heard_in H c t) ≡ true

abbrev EndedOrLent : List Event → ℕ → ℕ → ℕ → Type 0
EndedOrLent H k c t = StillLent H k c t ⊎ EndedSo H k c t

-- If a transaction has stopped using its connection, its end was heard there.

unused : (going lives : Bool) (d : Option DriverCall) → (going || (lives || is_some d)) ≡ false → (going ≡ false) × (is_some d ≡ false)
unused true lives d h = absurd cc
unused false true d h = absurd cc
unused false false d h = (refl, h)

has_end : (H : List Event) (k : ℕ) → is_begun H k ≡ true → goes_on H k ≡ false → tx_end H k ≡ None → ⊥
has_end H k begun stays none =
    let goes : goes_on H k ≡ true = ap (λ (b : Bool). b && not (is_over H k)) begun ∙ ap (λ (o : Option TxEnd). not (is_some o)) none in
    true_false (goes_on H k) goes stays

ended_unused : (H : List Event) (c t : ℕ) (owner : Owner) → Lawful H → place H c ≡ Some (Lent t owner) → is_begun H (number_of owner) ≡ true → is_used H (number_of owner) ≡ false
    → ended_there (heard_in H c t) ≡ true
ended_unused H c t owner l is begun idle = by (ended_there (heard_in H c t)) (tx_end H n) refl refl
  where
    n : ℕ
    n = number_of owner

    parts : (goes_on H n ≡ false) × (is_some (rest H n) ≡ false)
    parts = unused (goes_on H n) (are_live H n) (rest H n) idle

    none_left : is_some (ending H n) ≡ false
    none_left = sym (ap (λ (b : Bool). is_some (cond b (ending H n) (rest_with H n (rows_by H n)))) begun) ∙ parts.1

    by : (b : Bool) (o : Option TxEnd) → ended_there (heard_in H c t) ≡ b → tx_end H n ≡ o → b ≡ true
    by true o heard ended = refl
    by false None heard ended = absurd (has_end H n begun parts.0 ended)
    by false (Some end) heard ended = absurd (true_false (is_some (ending H n)) (ending_some H c t owner end l is ended (inl heard)) none_left)

-- An answer that was heard stays in the history, and still ends what it has ended.

any_more : (f : Entry → Bool) (H : List Event) (e : Event) (c t : ℕ) → list_any f (heard_in H c t) ≡ true → list_any f (heard_in (e ∷ H) c t) ≡ true
any_more f H (Heard e) c t h = by (e.conn == c)
  where
    here : (b : Bool) → list_any f (cond b (e ∷ heard_in H c t) (heard_in H c t)) ≡ true
    here true = or_second (f e) (list_any f (heard_in H c t)) h
    here false = h

    by : (b : Bool) → list_any f (of_tenure t (cond b (e ∷ journal H c) (journal H c))) ≡ true
    by true = here (e.tenure == t)
    by false = h
any_more f H e c t h = h

so_over : (m : ℕ) (o : Option TxEnd) (L : List Entry) → list_any (ends_so m o) L ≡ true → is_some o ≡ true
so_over m (Some end) L h = refl
so_over m None [] h = absurd cc
so_over m None (e ∷ L) h = so_over m None L h

so_more : (H : List Event) (e : Event) (k c t : ℕ) → EndedSo H k c t → EndedSo (e ∷ H) k c t
so_more H e k c t h =
    let over : is_over H k ≡ true = so_over (tx_ender H k) (tx_end H k) (heard_in H c t) h in
    ap (λ m. list_any (ends_so m (tx_end (e ∷ H) k)) (heard_in (e ∷ H) c t)) (still_ender H e k over)
    ∙ (ap (λ o. list_any (ends_so (tx_ender H k) o) (heard_in (e ∷ H) c t)) (end_stays H e k over) ∙ any_more (ends_so (tx_ender H k) (tx_end H k)) H e c t h)

-- An end that was heard on a lent connection is the end of the transaction that the connection is lent to.

same_owner : (t u : ℕ) (o p : Owner) → Some (Lent t o) ≡ Some (Lent u p) → o ≡ p
same_owner t u o p h = cc

-- A Commit or Rollback that is heard ends the transaction to which its connection is lent.
ends_now : (H : List Event) (e : Entry) (owner : Owner) → Lawful (Heard e ∷ H) → place H e.conn ≡ Some (Lent e.tenure owner) → is_ending e.call ≡ true
    → ends_so (tx_ender (Heard e ∷ H) (number_of owner)) (tx_end (Heard e ∷ H) (number_of owner)) e ≡ true
ends_now H e owner l is ends =
    let there = heard_there H e l.1 in
    let may : may_come H e ≡ true = subst (λ at. sends_from H at e ≡ true) is there.line in
    let w = end_way H e l.0 may ends in
    let same : number_of w.owner ≡ number_of owner = ap number_of (same_owner e.tenure e.tenure w.owner owner (sym w.lent ∙ is)) in
    subst (λ n. ends_so (tx_ender (Heard e ∷ H) n) (tx_end (Heard e ∷ H) n) e ≡ true) same (ended (number_of w.owner) w.end w.is w.due w.ender)
  where
    ended : (n : ℕ) (end : TxEnd) → tx_end H n ≡ Some end → is_due (Some (ended_by_call end)) e.call ≡ true → tx_ender H n ≡ e.call_no → ends_so (tx_ender (Heard e ∷ H) n) (tx_end (Heard e ∷ H) n) e ≡ true
    ended n end its due ender =
        let over : is_over H n ≡ true = ap (λ o. is_some o) its in
        ap (λ m. ends_so m (tx_end (Heard e ∷ H) n) e) (still_ender H (Heard e) n over ∙ ender)
        ∙ (ap (λ o. ends_so e.call_no o e) (end_stays H (Heard e) n over ∙ its) ∙ together (e.call_no == e.call_no) _ (same_itself e.call_no) due)

-- This holds on over an answer.
ends_heard : (H : List Event) (e : Entry) (c t : ℕ) (owner : Owner) → Lawful (Heard e ∷ H) → place H c ≡ Some (Lent t owner) → (ended_there (heard_in H c t) ≡ true → EndedSo H (number_of owner) c t)
    → ended_there (heard_in (Heard e ∷ H) c t) ≡ true → EndedSo (Heard e ∷ H) (number_of owner) c t
ends_heard H e c t owner l is before heard = by (e.conn == c) (e.tenure == t) refl refl heard
  where
    n : ℕ
    n = number_of owner

    f : Entry → Bool
    f = ends_so (tx_ender (Heard e ∷ H) (number_of owner)) (tx_end (Heard e ∷ H) (number_of owner))

    earlier : ended_there (heard_in H c t) ≡ true → list_any f (heard_in H c t) ≡ true
    earlier was =
        let so = before was in
        let over : is_over H n ≡ true = so_over (tx_ender H n) (tx_end H n) (heard_in H c t) so in
        ap (λ m. list_any (ends_so m (tx_end (Heard e ∷ H) n)) (heard_in H c t)) (still_ender H (Heard e) n over)
        ∙ (ap (λ o. list_any (ends_so (tx_ender H n) o) (heard_in H c t)) (end_stays H (Heard e) n over) ∙ so)

    newest : (e.conn == c) ≡ true → (e.tenure == t) ≡ true → (b : Bool) → is_ending e.call ≡ b → (b || ended_there (heard_in H c t)) ≡ true → (f e || list_any f (heard_in H c t)) ≡ true
    newest here now true ends k =
        let there : place H e.conn ≡ Some (Lent e.tenure owner) =
        ap (place H) (same_number e.conn c here) ∙ (is ∙ ap (λ u. Some (Lent u owner)) (sym (same_number e.tenure t now))) in
        or_first (f e) (list_any f (heard_in H c t)) (ends_now H e owner l there ends)
    newest here now false other k = or_second (f e) (list_any f (heard_in H c t)) (earlier k)

    by : (a b : Bool) → (e.conn == c) ≡ a → (e.tenure == t) ≡ b → ended_there (of_tenure t (cond a (e ∷ journal H c) (journal H c))) ≡ true → list_any f (of_tenure t (cond a (e ∷ journal H c) (journal H c))) ≡ true
    by true b here now k = of_it b now k
      where
        of_it : (b : Bool) → (e.tenure == t) ≡ b → ended_there (cond (e.tenure == t) (e ∷ heard_in H c t) (heard_in H c t)) ≡ true → list_any f (cond (e.tenure == t) (e ∷ heard_in H c t) (heard_in H c t)) ≡ true
        of_it true same x =
            ap (λ (d : Bool). list_any f (cond d (e ∷ heard_in H c t) (heard_in H c t))) same
            ∙ newest here same (is_ending e.call) refl (sym (ap (λ (d : Bool). ended_there (cond d (e ∷ heard_in H c t) (heard_in H c t))) same) ∙ x)
        of_it false other x =
            ap (λ (d : Bool). list_any f (cond d (e ∷ heard_in H c t) (heard_in H c t))) other
            ∙ earlier (sym (ap (λ (d : Bool). ended_there (cond d (e ∷ heard_in H c t) (heard_in H c t))) other) ∙ x)
    by false b other now k = earlier k

quiet_heard : (H : List Event) (e : Event) (c t : ℕ) → is_answer e ≡ false → heard_in (e ∷ H) c t ≡ heard_in H c t
quiet_heard H (Heard e) c t h = absurd cc
quiet_heard H e c t h = refl

pub lent_ends : (H : List Event) (c t : ℕ) (owner : Owner) → Lawful H → place H c ≡ Some (Lent t owner) → ended_there (heard_in H c t) ≡ true → EndedSo H (number_of owner) c t
lent_ends [] c t owner l is heard = absurd cc
lent_ends (e ∷ H) c t owner l is heard = by (lent_ends H c t owner l.0) (lent_before H e c t owner l.0 is)
  where
    quietly : (x : Event) → is_answer x ≡ false → (ended_there (heard_in H c t) ≡ true → EndedSo H (number_of owner) c t) → ended_there (heard_in (x ∷ H) c t) ≡ true → EndedSo (x ∷ H) (number_of owner) c t
    quietly x quiet before k = so_more H x (number_of owner) c t (before (ap ended_there (sym (quiet_heard H x c t quiet)) ∙ k))

    event : (x : Event) → Lawful (x ∷ H) → place H c ≡ Some (Lent t owner) → (ended_there (heard_in H c t) ≡ true → EndedSo H (number_of owner) c t) → ended_there (heard_in (x ∷ H) c t) ≡ true
        → EndedSo (x ∷ H) (number_of owner) c t
    event (Heard y) m was before k = ends_heard H y c t owner m was before k
    event (Run version can) m was before k = quietly (Run version can) refl before k
    event (Entered client n op) m was before k = quietly (Entered client n op) refl before k
    event (Pool move) m was before k = quietly (Pool move) refl before k
    event (Waits n) m was before k = quietly (Waits n) refl before k
    event (Ticked now) m was before k = quietly (Ticked now) refl before k
    event (SetLimit s n) m was before k = quietly (SetLimit s n) refl before k
    event (Replied n reply) m was before k = quietly (Replied n reply) refl before k
    event Ended m was before k = quietly Ended refl before k

    -- A lending begins a tenure, in which nothing was heard.
    fresh : (k : ℕ) → e ≡ Pool (Lend c t owner k) → ⊥
    fresh k its =
        let none : heard_in H c t ≡ [] = fresh_lending H c t owner k l.0 (subst (λ x. Allowed H x) its l.1) in
        let now : ended_there (heard_in H c t) ≡ true = subst (λ x. ended_there (heard_in (x ∷ H) c t) ≡ true) its heard in
        let clash : false ≡ true = sym (ap ended_there none) ∙ now in
        cc

    by : (place H c ≡ Some (Lent t owner) → ended_there (heard_in H c t) ≡ true → EndedSo H (number_of owner) c t) → (place H c ≡ Some (Lent t owner)) ⊎ Lends e c t owner → EndedSo (e ∷ H) (number_of owner) c t
    by earlier (inl was) = event e l was (earlier was) heard
    by earlier (inr lends) = absurd (fresh lends.0 lends.1)

-- This holds on over every event.

goes_through : (H : List Event) (e : Event) (k c t : ℕ) → Lawful (e ∷ H) → is_begun H k ≡ true → EndedOrLent H k c t → EndedOrLent (e ∷ H) k c t
goes_through H e k c t l begun (inr so) = inr (so_more H e k c t so)
goes_through H e k c t l begun (inl lent) = by (is_used H (number_of lent.owner)) refl
  where
    its : is_begun H (number_of lent.owner) ≡ true
    its = ap (is_begun H) lent.own ∙ begun

    by : (b : Bool) → is_used H (number_of lent.owner) ≡ b → EndedOrLent (e ∷ H) k c t
    by true used = inl (record { owner = lent.owner; place = stays_lent H e c t lent.owner l.0 l.1 lent.place used; own = lent.own })
    by false idle =
        let so = lent_ends H c t lent.owner l.0 lent.place (ended_unused H c t lent.owner l.0 lent.place its idle) in
        inr (so_more H e k c t (subst (λ n. EndedSo H n c t) lent.own so))

still_there : (old tx : Tx) → Turned (Some old) (Some tx) → (tx.conn ≡ old.conn) × (tx.tenure ≡ old.tenure)
still_there old tx (inl same) = let it : tx ≡ old = cc in (ap (λ (x : Tx). x.conn) it, ap (λ (x : Tx). x.tenure) it)
still_there old tx (inr w) = let it : tx ≡ ended_by w.0 old = cc in (ap (λ (x : Tx). x.conn) it, ap (λ (x : Tx). x.tenure) it)

-- When a transaction begins, its connection is lent to it.

unborn : (tx : Tx) (o p : Option Tx) → is_some p ≡ is_some o → o ≡ None → p ≡ Some tx → ⊥
unborn tx o p same none some = let clash : false ≡ true = sym (same ∙ ap is_some none) ∙ ap is_some some in cc

begun_there : (H : List Event) (e : Entry) (k : ℕ) (tx : Tx) → Lawful (Heard e ∷ H) → tx_by (Heard e ∷ H) k ≡ Some tx → BeginsIt H e k (tx_by (Heard e ∷ H) k) → EndedOrLent (Heard e ∷ H) k tx.conn tx.tenure
begun_there H e k tx l is it =
    let there = heard_there H e l.1 in
    let begin = begin_heard H e (place H e.conn) there.sets there.line it.begin in
    let some = numbered H e.call_no begin in
    let st = stays_with_its_call H e l.0 (comes H e (place H e.conn) there.sets there.line some) in
    let its : number_of st.owner ≡ k = sym (st.used (λ none. true_false (e.call_no == 0) (ap (λ n. n == 0) none) some)) ∙ (asks_own H e.call_no (asking (work H e.call_no) begin) ∙ sym it.own) in
    let new : tx ≡ begun_on e.conn e.tenure None = newly (begun_on e.conn e.tenure None) (sym is ∙ it.so) in
    subst (λ (x : Tx). EndedOrLent (Heard e ∷ H) k x.conn x.tenure) (sym new) (inl (record { owner = st.owner; place = st.lent; own = its }))
  where
    newly : (x : Tx) → Some tx ≡ Some x → tx ≡ x
    newly x same = cc

begun_now : (H : List Event) (e : Event) (k : ℕ) (tx : Tx) → Lawful (e ∷ H) → tx_by H k ≡ None → tx_by (e ∷ H) k ≡ Some tx → EndedOrLent (e ∷ H) k tx.conn tx.tenure
begun_now H (Heard e) k tx l none is =
    elim (heard_tx H e k) [
      | inl same ↦ absurd (unborn tx (tx_by H k) (tx_by (Heard e ∷ H) k) (ap is_some same) none is)
      | inr it ↦ begun_there H e k tx l is it
    ]
begun_now H (Entered client m op) k tx l none is =
    elim (entered_tx H client m op k) [
      | inl same ↦ absurd (unborn tx (tx_by H k) (tx_by (Entered client m op ∷ H) k) (ap is_some same) none is)
      | inr it ↦ absurd (unborn tx (tx_by H k) (tx_by (Entered client m op ∷ H) k) (ap is_some it.so ∙ as_begun (ended_by it.by) (tx_by H k)) none is)
    ]
begun_now H Ended k tx l none is = absurd (unborn tx (tx_by H k) (tx_by (Ended ∷ H) k) (ap is_some (ended_tx H k) ∙ as_begun (ended_by tx_ends.EndOfRun) (tx_by H k)) none is)
begun_now H _ k tx l none is = absurd (unborn tx (tx_by H k) (tx_by H k) refl none is)

pub ended_or_lent : (H : List Event) (k : ℕ) (tx : Tx) → Lawful H → tx_by H k ≡ Some tx → StillLent H k tx.conn tx.tenure ⊎ EndedSo H k tx.conn tx.tenure
ended_or_lent [] k tx l is = absurd cc
ended_or_lent (e ∷ H) k tx l is = by (λ old. ended_or_lent H k old l.0) (tx_by H k) refl
  where
    by : ((old : Tx) → tx_by H k ≡ Some old → EndedOrLent H k old.conn old.tenure) → (o : Option Tx) → tx_by H k ≡ o → EndedOrLent (e ∷ H) k tx.conn tx.tenure
    by earlier None none = begun_now H e k tx l none is
    by earlier (Some old) was =
        let begun : is_begun H k ≡ true = ap is_some was in
        let same = still_there old tx (subst (λ o. Turned o (Some tx)) was (subst (λ p. Turned (tx_by H k) p) is (turned H e k begun))) in
        let then = goes_through H e k old.conn old.tenure l begun (earlier old was) in
        subst (λ c. EndedOrLent (e ∷ H) k c tx.tenure) (sym same.0) (subst (λ t. EndedOrLent (e ∷ H) k old.conn t) (sym same.1) then)
