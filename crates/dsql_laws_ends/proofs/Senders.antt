-- As long as anything must still be sent on a lent connection, the call that will send it has no reply. Before
-- it has made its rows or begun a transaction, that is the call itself. Afterwards it is the call that ended
-- the rows or the transaction. The proof is by induction on the history.
use Rattle.std.proofs.Common.{◌≡◌, ◌≢◌, ℕ, ◌==◌, ◌⊎◌, inl, inr, Bool, true, false, not, ◌&&◌, ◌||◌, cond, List, [], ◌∷◌, Option, Some, None, is_some, is_none, refl, sym, ap, subst, ◌∙◌}
use Rattle.dsql_laws_calls.specs.driver.declared.call.DriverCall.{DriverCall}
use Rattle.dsql_laws_calls.specs.course.declared.course.Wish.TheVariants as wishes
use Rattle.dsql_laws_calls.specs.journal.declared.entry.Owner.{Owner}
use Rattle.dsql_laws_calls.specs.journal.Kinds.{number_of}
use Rattle.dsql_laws_calls.specs.rows.declared.rows.Rows.{Rows}
use Rattle.dsql_laws_calls.specs.pool.declared.conn.Place.TheVariants.{Lent}
use Rattle.dsql_laws_calls.specs.pool.declared.moves.Move.TheVariants.{Lend}
use Rattle.dsql_laws_calls.specs.history.Readers.HandedOut.{live, over, are_live, caller, ended_at, ender, is_late, rows_by}
use Rattle.dsql_laws_calls.specs.history.Rules.Wishes.{wish_as}
use Rattle.dsql_laws_calls.proofs.laws.Truths.{or_second}
use Rattle.dsql_laws_calls.proofs.laws.Tests.{both, other_number, same_itself, second}
use Rattle.dsql_laws_calls.proofs.Cases.{true_false}
use Rattle.dsql_laws_calls.proofs.laws_work.Rows.{has_push}
use Rattle.dsql_laws_ends.proofs.Resting.{kept_so, rests_no_begin, rests_no_maker, rests_not}
use Rattle.dsql_laws_calls.specs.history.declared.event.Event.{Event}
use Rattle.dsql_laws_calls.specs.history.declared.event.Event.TheVariants.{Entered, Heard, Pool, Replied}
use Rattle.dsql_laws_calls.specs.history.declared.reply.Reply.{Reply}
use Rattle.dsql_laws_calls.specs.history.declared.work.Scope.{Scope}
use Rattle.dsql_laws_calls.specs.history.declared.work.Scope.TheVariants.{Db, Held}
use Rattle.dsql_laws_calls.specs.history.declared.work.Work.{Work}
use Rattle.dsql_laws_calls.specs.history.declared.work.Work.TheVariants.{Statement, End}
use Rattle.dsql_laws_calls.specs.history.Readers.Calls.{decided, has_begun_to_send, rests}
use Rattle.dsql_laws_calls.specs.history.Readers.Pool.{place}
use Rattle.dsql_laws_calls.specs.history.Readers.Transactions.{ending_call, goes_on, is_begun, is_over, tx_ender}
use Rattle.dsql_laws_calls.specs.history.Readers.Unfinished.{is_unfinished, unfinished}
use Rattle.dsql_laws_calls.specs.history.Readers.Works.{asks, is_fetch, scope, work}
use Rattle.dsql_laws_calls.specs.history.Rules.Ending.{ending}
use Rattle.dsql_laws_calls.specs.history.Rules.Line.{due_for, due_in, is_used, rest, rest_with}
use Rattle.dsql_laws_calls.specs.history.Rules.Sent.{line_of, sent_for, wish}
use Rattle.dsql_laws_calls.specs.history.Rules.Settled.{calls_stand_but, owes_nothing, uses_what_is_lent}
use Rattle.dsql_laws_calls.specs.history.Legal.{Allowed, Lawful}
use Rattle.dsql_laws_calls.proofs.laws.Tried.{lends_to}
use Rattle.dsql_laws_calls.proofs.Beginnings.{lent_once_begun}
use Rattle.dsql_laws_calls.proofs.BeginningsAt.{beginnings}
use Rattle.dsql_laws_calls.proofs.Begun.{begun_begins, over_begun, stays_begun}
use Rattle.dsql_laws_calls.proofs.Coming.{stays_with_its_call}
use Rattle.dsql_laws_calls.proofs.EndedRows.{ender_over, rows_kept}
use Rattle.dsql_laws_calls.proofs.Lent.{lent_before, Lends}
use Rattle.dsql_laws_calls.proofs.LiveRows.{live_some, over_not_live, over_some}
use Rattle.dsql_laws_calls.proofs.Looks.{comes, heard_there}
use Rattle.dsql_laws_calls.proofs.Makers.{rows_begin_nothing}
use Rattle.dsql_laws_calls.proofs.Own.{due_line}
use Rattle.dsql_laws_calls.proofs.Owners.{lent_asks, lent_number}
use Rattle.dsql_laws_calls.proofs.Plain.{begins}
use Rattle.dsql_laws_calls.proofs.RowsNew.{content}
use Rattle.dsql_laws_calls.proofs.Wanted.{lent_nothing, rows_may_not_ask}
use Rattle.dsql_laws_calls.proofs.Wanters.{lends_unfinished, replies_now, still_without_reply}
use Rattle.dsql_laws_others.proofs.Alike.{unended_tx}
use Rattle.dsql_laws_others.proofs.Leaves.{lent_used}
use Rattle.dsql_laws_ends.proofs.Enders.{WorksOn, ender_now, ender_works_on, tx_ender_ends, tx_ender_now}

-- What a connection that is lent to call n, or to the transaction that n began, still needs while it is in use.

unbegun_rest : (H : List Event) (n : ℕ) → is_begun H n ≡ false → rest H n ≡ rest_with H n (rows_by H n)
unbegun_rest H n none = ap (λ (b : Bool). cond b (ending H n) (rest_with H n (rows_by H n))) none

pub still_needed : (H : List Event) (n : ℕ) → is_used H n ≡ true → goes_on H n ≡ false → are_live H n ≡ false → is_some (rest H n) ≡ true
still_needed H n used over dead = second (are_live H n) (is_some (rest H n)) dead (second (goes_on H n) (are_live H n || is_some (rest H n)) over used)

unbegun_stays : (H : List Event) (n : ℕ) → is_begun H n ≡ false → goes_on H n ≡ false
unbegun_stays H n none = ap (λ (b : Bool). b && not (is_over H n)) none

needed_unmade : (H : List Event) (n : ℕ) → is_begun H n ≡ false → rows_by H n ≡ None → is_used H n ≡ true → is_some (line_of H n wishes.Nothing) ≡ true
needed_unmade H n unbegun none used =
    sym (ap (λ (o : Option Rows). is_some (rest_with H n o)) none)
    ∙ (sym (ap (λ (d : Option DriverCall). is_some d) (unbegun_rest H n unbegun)) ∙ still_needed H n used (unbegun_stays H n unbegun) (ap live none))

over_rest : (H : List Event) (n : ℕ) (o : Option Rows) → over o ≡ true → rest_with H n o ≡ line_of H n wishes.Close
over_rest H n None h = absurd cc
over_rest H n (Some r) h = ap (λ (b : Bool). cond b None (line_of H n wishes.Close)) (over_not_live (Some r) h)

pub needed_over : (H : List Event) (n : ℕ) → is_begun H n ≡ false → over (rows_by H n) ≡ true → is_used H n ≡ true → is_some (line_of H n wishes.Close) ≡ true
needed_over H n unbegun gone used =
    sym (ap (λ (d : Option DriverCall). is_some d) (unbegun_rest H n unbegun ∙ over_rest H n (rows_by H n) gone))
    ∙ still_needed H n used (unbegun_stays H n unbegun) (over_not_live (rows_by H n) gone)

pub needed_end : (H : List Event) (n : ℕ) → is_begun H n ≡ true → goes_on H n ≡ false → are_live H n ≡ false → is_used H n ≡ true → is_some (ending H n) ≡ true
needed_end H n begun over dead used =
    sym (ap (λ (b : Bool). is_some (cond b (ending H n) (rest_with H n (rows_by H n)))) begun) ∙ still_needed H n used over dead

-- This is due for the call itself, or for the call that ended the rows or the transaction.

due_of : (H : List Event) (n : ℕ) → is_unfinished H n ≡ true → due_for H n ≡ due_in H n (work H n)
due_of H n u = ap (λ (b : Bool). cond b (due_in H n (work H n)) None) u

on_database : (it : Work) → asks it ≡ true → scope it ≡ Db
on_database (Statement (Held k) task) own = absurd cc
on_database _ own = refl

closing_due : (H : List Event) (m n : ℕ) (it : Work) → WorksOn it n → asks (work H n) ≡ true → ender H n ≡ m → due_in H m it ≡ line_of H n wishes.Close
closing_due H m n it works own ended = by works
  where
    sent : sent_for H n (wish H m n) ≡ line_of H n wishes.Close
    sent =
        ap (λ (s : Scope). sent_for H n (wish_as ((ender H n == m) && (not (is_late H s) || has_begun_to_send H m)) (is_fetch (work H m) && (are_live H n && is_none (decided H m))))) (on_database (work H n) own)
        ∙ ap (λ (b : Bool). sent_for H n (wish_as (b && true) (is_fetch (work H m) && (are_live H n && is_none (decided H m))))) (ap (λ k. k == m) ended ∙ same_itself m)

    by : WorksOn it n → due_in H m it ≡ line_of H n wishes.Close
    by (inl fetching) = ap (due_in H m) fetching ∙ sent
    by (inr closes) = ap (due_in H m) closes ∙ sent

ending_due : (H : List Event) (m k : ℕ) → work H m ≡ End k → tx_ender H k ≡ m → due_in H m (work H m) ≡ ending H k
ending_due H m k it ended = ap (due_in H m) it ∙ ap (λ (b : Bool). cond b (ending H k) None) (ap (λ j. j == m) ended ∙ same_itself m)

-- So none of these calls has its reply while it is needed.

none_due : (d e : Option DriverCall) → d ≡ e → is_none d ≡ true → is_some e ≡ true → ⊥
none_due None None same h k = cc
none_due None (Some call) same h k = cc
none_due (Some call) e same h k = cc

-- When a call replies, a lent connection is in use unless its call rests with it.
replied_used : (H : List Event) (n : ℕ) (reply : Reply) (c t : ℕ) (owner : Owner) → Allowed H (Replied n reply) → place H c ≡ Some (Lent t owner) → (rests H (number_of owner) ≡ true → ⊥)
    → is_used H (number_of owner) ≡ true
replied_used H n reply c t owner a is busy =
    let r = replies_now H n reply a in
    let b = both (owes_nothing H) (uses_what_is_lent H && calls_stand_but n H) r.settled in
    let d = both (uses_what_is_lent H) (calls_stand_but n H) b.1 in
    kept_so (is_used H (number_of owner)) (rests H (number_of owner)) (lent_used H c t owner d.0 is) busy

-- When a call replies, it has made rows or begun a transaction if its connection is still lent.
replies_with_rows : (H : List Event) (c t : ℕ) (owner : Owner) (reply : Reply) → Lawful H → Allowed H (Replied (number_of owner) reply) → place H c ≡ Some (Lent t owner) → is_begun H (number_of owner) ≡ false
    → rows_by H (number_of owner) ≡ None → ⊥
replies_with_rows H c t owner reply l a is unbegun none =
    let n = number_of owner in
    let r = replies_now H n reply a in
    none_due (due_for H n) (line_of H n wishes.Nothing) (due_of H n r.unfinished ∙ due_line H n (work H n) (lent_asks H c t owner l is)) r.done
    (needed_unmade H n unbegun none (replied_used H n reply c t owner a is (rests_not H c t owner is r.gave)))

-- When the call that ended the rows replies, it has closed them.
replies_when_closed : (H : List Event) (c t : ℕ) (owner : Owner) (reply : Reply) → Lawful H → Allowed H (Replied (ender H (number_of owner)) reply) → place H c ≡ Some (Lent t owner)
    → is_begun H (number_of owner) ≡ false → ender H (number_of owner) ≢ 0 → ⊥
replies_when_closed H c t owner reply l a is unbegun some =
    let n = number_of owner in
    let m = ender H n in
    let own = lent_asks H c t owner l is in
    let gone = ender_over H n some in
    let r = replies_now H m reply a in
    none_due (due_for H m) (line_of H n wishes.Close) (due_of H m r.unfinished ∙ closing_due H m n (work H m) (ender_works_on H n l own some) own refl) r.done
    (needed_over H n unbegun gone (replied_used H m reply c t owner a is (λ it. rests_no_maker H n it (over_some (rows_by H n) gone))))

ended_over : (H : List Event) (k : ℕ) → tx_ender H k ≢ 0 → is_over H k ≡ true
ended_over H k some = by (is_over H k) refl
  where
    by : (b : Bool) → is_over H k ≡ b → b ≡ true
    by true is = refl
    by false is = absurd (some (unended_tx H k is))

pub over_stays : (H : List Event) (k : ℕ) → is_over H k ≡ true → goes_on H k ≡ false
over_stays H k over = ap (λ (b : Bool). is_begun H k && not b) over ∙ by (is_begun H k)
  where
    by : (b : Bool) → (b && false) ≡ false
    by true = refl
    by false = refl

-- A call that began a transaction has made no live rows.
pub begun_dead : (H : List Event) (n : ℕ) → Lawful H → is_begun H n ≡ true → are_live H n ≡ false
begun_dead H n l begun = by (are_live H n) refl
  where
    by : (b : Bool) → are_live H n ≡ b → b ≡ false
    by true lives = absurd (true_false (begins (work H n)) (begun_begins H n l begun) (rows_begin_nothing H n (live_some (rows_by H n) lives)))
    by false dead = refl

-- When the call that ended the transaction replies, it has ended it at the driver.
replies_when_ended : (H : List Event) (c t : ℕ) (owner : Owner) (reply : Reply) → Lawful H → Allowed H (Replied (tx_ender H (number_of owner)) reply) → place H c ≡ Some (Lent t owner)
    → tx_ender H (number_of owner) ≢ 0 → ⊥
replies_when_ended H c t owner reply l a is some =
    let n = number_of owner in
    let m = tx_ender H n in
    let r = replies_now H m reply a in
    let over = ended_over H n some in
    let begun = over_begun H n over in
    none_due (due_for H m) (ending H n) (due_of H m r.unfinished ∙ ending_due H m n (tx_ender_ends H n l some) refl) r.done
    (needed_end H n begun (over_stays H n over) (begun_dead H n l begun) (replied_used H m reply c t owner a is (λ it. rests_no_begin H n l it begun)))

pub record Attended (H : List Event) : Type 0 where
  pub unmade : (c t : ℕ) (owner : Owner) → place H c ≡ Some (Lent t owner) → is_begun H (number_of owner) ≡ false → rows_by H (number_of owner) ≡ None → is_unfinished H (number_of owner) ≡ true
  pub closed : (c t : ℕ) (owner : Owner) → place H c ≡ Some (Lent t owner) → is_begun H (number_of owner) ≡ false → ender H (number_of owner) ≢ 0 → is_unfinished H (ender H (number_of owner)) ≡ true
  pub ended : (c t : ℕ) (owner : Owner) → place H c ≡ Some (Lent t owner) → tx_ender H (number_of owner) ≢ 0 → is_unfinished H (tx_ender H (number_of owner)) ≡ true

-- This holds on over every event.

unmade_before : (o p : Option Rows) → (is_some o ≡ true → is_some p ≡ true) → p ≡ None → o ≡ None
unmade_before None p kept none = refl
unmade_before (Some r) p kept none = let clash : false ≡ true = sym (ap (λ (q : Option Rows). is_some q) none) ∙ kept refl in absurd cc

unbegun_before : (H : List Event) (e : Event) (n : ℕ) → is_begun (e ∷ H) n ≡ false → is_begun H n ≡ false
unbegun_before H e n now = by (is_begun H n) refl
  where
    by : (b : Bool) → is_begun H n ≡ b → b ≡ false
    by true is = absurd (true_false (is_begun (e ∷ H) n) (stays_begun H e n is) now)
    by false is = refl

lent_call : (H : List Event) (e : Event) (c t : ℕ) (owner : Owner) (P : Type 0) → Lawful (e ∷ H) → place (e ∷ H) c ≡ Some (Lent t owner) → (place H c ≡ Some (Lent t owner) → P)
    → ((k : ℕ) → e ≡ Pool (Lend c t owner k) → Allowed H (Pool (Lend c t owner (number_of owner))) → P) → P
lent_call H e c t owner P l is had lends = by (lent_before H e c t owner l.0 is)
  where
    by : (place H c ≡ Some (Lent t owner)) ⊎ Lends e c t owner → P
    by (inl before) = had before
    by (inr now) =
        let a : Allowed H (Pool (Lend c t owner now.0)) = subst (λ (d : Event). Allowed H d) now.1 l.1 in
        let same : now.0 ≡ number_of owner = lends_to H c t owner now.0 a in
        lends now.0 now.1 (subst (λ k. Allowed H (Pool (Lend c t owner k))) same a)

unmade_next : (H : List Event) (e : Event) → Lawful (e ∷ H) → Attended H → (c t : ℕ) (owner : Owner) → place (e ∷ H) c ≡ Some (Lent t owner) → is_begun (e ∷ H) (number_of owner) ≡ false
    → rows_by (e ∷ H) (number_of owner) ≡ None → is_unfinished (e ∷ H) (number_of owner) ≡ true
unmade_next H e l a c t owner is unbegun none = lent_call H e c t owner (is_unfinished (e ∷ H) n ≡ true) l is had lends
  where
    n : ℕ
    n = number_of owner

    not_yet : is_begun H n ≡ false
    not_yet = unbegun_before H e n unbegun

    before : rows_by H n ≡ None
    before = let kept = rows_kept H e n in unmade_before (rows_by H n) (rows_by (e ∷ H) n) kept.some none

    had : place H c ≡ Some (Lent t owner) → is_unfinished (e ∷ H) n ≡ true
    had was =
        still_without_reply H e n (λ reply now. replies_with_rows H c t owner reply l.0 (subst (λ (d : Event). Allowed H d) now l.1) was not_yet before) (a.unmade c t owner was not_yet before)

    lends : (k : ℕ) → e ≡ Pool (Lend c t owner k) → Allowed H (Pool (Lend c t owner n)) → is_unfinished (e ∷ H) n ≡ true
    lends k now may = subst (λ (d : Event). is_unfinished (d ∷ H) n ≡ true) (sym now) (lends_unfinished H c t owner n l.0 may (lent_number (e ∷ H) c t owner l is))

-- An event that ends rows is of an unfinished call.
caller_unfinished : (H : List Event) (e : Event) → Lawful (e ∷ H) → caller e ≢ 0 → is_unfinished (e ∷ H) (caller e) ≡ true
caller_unfinished H (Entered client n op) l some = has_push n n (unfinished H) ∙ or_second (is_unfinished H n) (n == n) (same_itself n)
caller_unfinished H (Heard e) l some =
    let there = heard_there H e l.1 in
    let st = stays_with_its_call H e l.0 (comes H e (place H e.conn) there.sets there.line (other_number e.call_no 0 some)) in
    st.unfinished some
caller_unfinished H _ l some = absurd (some refl)

-- An event that ends a transaction is of an unfinished call.
ending_unfinished : (H : List Event) (e : Event) → ending_call e ≢ 0 → is_unfinished (e ∷ H) (ending_call e) ≡ true
ending_unfinished H (Entered client n op) some = has_push n n (unfinished H) ∙ or_second (is_unfinished H n) (n == n) (same_itself n)
ending_unfinished H e some = absurd (some refl)

-- A call that is lent a connection has no rows that a call has ended.
lent_unclosed : (H : List Event) (c t : ℕ) (owner : Owner) → Lawful H → Allowed H (Pool (Lend c t owner (number_of owner))) → number_of owner ≢ 0 → ender H (number_of owner) ≢ 0 → ⊥
lent_unclosed H c t owner l a some ended =
    let n = number_of owner in
    let made = over_some (rows_by H n) (ender_over H n ended) in
    lent_nothing H c t owner n l a (rows_may_not_ask H n made) (content H n l some made)

closed_next : (H : List Event) (e : Event) → Lawful (e ∷ H) → Attended H → (c t : ℕ) (owner : Owner) → place (e ∷ H) c ≡ Some (Lent t owner) → is_begun (e ∷ H) (number_of owner) ≡ false
    → ender (e ∷ H) (number_of owner) ≢ 0 → is_unfinished (e ∷ H) (ender (e ∷ H) (number_of owner)) ≡ true
closed_next H e l a c t owner is unbegun some = by (are_live H n) (are_live K n) refl refl
  where
    n : ℕ
    n = number_of owner

    K : List Event
    K = e ∷ H

    not_yet : is_begun H n ≡ false
    not_yet = unbegun_before H e n unbegun

    had : ender H n ≢ 0 → place H c ≡ Some (Lent t owner) → is_unfinished K (ender H n) ≡ true
    had before was =
        still_without_reply H e (ender H n) (λ reply now. replies_when_closed H c t owner reply l.0 (subst (λ (d : Event). Allowed H d) now l.1) was not_yet before) (a.closed c t owner was not_yet before)

    lends : ender H n ≢ 0 → (k : ℕ) → e ≡ Pool (Lend c t owner k) → Allowed H (Pool (Lend c t owner n)) → is_unfinished K (ender H n) ≡ true
    lends before k now may = absurd (lent_unclosed H c t owner l.0 may (lent_number K c t owner l is) before)

    by : (b d : Bool) → are_live H n ≡ b → are_live K n ≡ d → is_unfinished K (ender K n) ≡ true
    by true true was now = absurd (some (ender_now H e n true was ∙ ap (ended_at e) now))
    by true false was now =
        let its : ender K n ≡ caller e = ender_now H e n true was ∙ ap (ended_at e) now in
        ap (is_unfinished K) its ∙ caller_unfinished H e l (λ none. some (its ∙ none))
    by false d was now =
        let its : ender K n ≡ ender H n = ender_now H e n false was in
        let before : ender H n ≢ 0 = λ none. some (its ∙ none) in
        ap (is_unfinished K) its ∙ lent_call H e c t owner (is_unfinished K (ender H n) ≡ true) l is (had before) (lends before)

ended_next : (H : List Event) (e : Event) → Lawful (e ∷ H) → Attended H → (c t : ℕ) (owner : Owner) → place (e ∷ H) c ≡ Some (Lent t owner) → tx_ender (e ∷ H) (number_of owner) ≢ 0
    → is_unfinished (e ∷ H) (tx_ender (e ∷ H) (number_of owner)) ≡ true
ended_next H e l a c t owner is some = by (goes_on H n) (goes_on K n) refl refl
  where
    n : ℕ
    n = number_of owner

    K : List Event
    K = e ∷ H

    had : tx_ender H n ≢ 0 → place H c ≡ Some (Lent t owner) → is_unfinished K (tx_ender H n) ≡ true
    had before was =
        still_without_reply H e (tx_ender H n) (λ reply now. replies_when_ended H c t owner reply l.0 (subst (λ (d : Event). Allowed H d) now l.1) was before) (a.ended c t owner was before)

    lends : tx_ender H n ≢ 0 → (k : ℕ) → e ≡ Pool (Lend c t owner k) → Allowed H (Pool (Lend c t owner n)) → is_unfinished K (tx_ender H n) ≡ true
    lends before k now may = absurd (lent_once_begun H c t owner n l.0 may (beginnings H l.0) (over_begun H n (ended_over H n before)))

    by : (b d : Bool) → goes_on H n ≡ b → goes_on K n ≡ d → is_unfinished K (tx_ender K n) ≡ true
    by true true was now = absurd (some (tx_ender_now H e n true was ∙ ap (λ (d : Bool). cond d 0 (ending_call e)) now))
    by true false was now =
        let its : tx_ender K n ≡ ending_call e = tx_ender_now H e n true was ∙ ap (λ (d : Bool). cond d 0 (ending_call e)) now in
        ap (is_unfinished K) its ∙ ending_unfinished H e (λ none. some (its ∙ none))
    by false d was now =
        let its : tx_ender K n ≡ tx_ender H n = tx_ender_now H e n false was in
        let before : tx_ender H n ≢ 0 = λ none. some (its ∙ none) in
        ap (is_unfinished K) its ∙ lent_call H e c t owner (is_unfinished K (tx_ender H n) ≡ true) l is (had before) (lends before)

pub attended : (H : List Event) → Lawful H → Attended H
attended [] l = record { unmade = λ c t owner is. absurd cc; closed = λ c t owner is. absurd cc; ended = λ c t owner is. absurd cc }
attended (e ∷ H) l = let a = attended H l.0 in record { unmade = unmade_next H e l a; closed = closed_next H e l a; ended = ended_next H e l a }
