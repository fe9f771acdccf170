-- A call that works in a transaction sends all its driver calls on one connection. It is the one that is lent to the
-- transaction after its begin.
use Rattle.std.proofs.Common.{◌≡◌, ◌≢◌, ℕ, ◌<◌, ◌==◌, ◌⊎◌, inl, inr, Bool, true, false, ◌||◌, cond, List, [], ◌∷◌, length, Some, is_some, refl, sym, ap, subst, ◌∙◌, arith}
use Rattle.dsql_laws_calls.specs.journal.declared.entry.Entry.{Entry}
use Rattle.dsql_laws_calls.specs.journal.declared.entry.Owner.{Owner}
use Rattle.dsql_laws_calls.specs.journal.Kinds.{number_of}
use Rattle.dsql_laws_calls.specs.pool.declared.conn.Place.TheVariants.{Lent}
use Rattle.dsql_laws_calls.proofs.laws.Tests.{other_number, same_itself}
use Rattle.dsql_laws_calls.proofs.laws_work.Rows.{same_or_not}
use Rattle.dsql_laws_calls.specs.history.declared.event.Event.{Event}
use Rattle.dsql_laws_calls.specs.history.declared.event.Event.TheVariants.{Entered, Heard}
use Rattle.dsql_laws_calls.specs.history.declared.work.Scope.{Scope}
use Rattle.dsql_laws_calls.specs.history.declared.work.Scope.TheVariants.{Db, Held}
use Rattle.dsql_laws_calls.specs.history.declared.work.Work.{Work}
use Rattle.dsql_laws_calls.specs.history.declared.work.Task.TheVariants.{HandOut}
use Rattle.dsql_laws_calls.specs.history.declared.work.Work.TheVariants.{Statement, Fetch, Close, End}
use Rattle.dsql_laws_calls.specs.history.Readers.HandedOut.{rows_by}
use Rattle.dsql_laws_calls.specs.history.Readers.Journals.{journal}
use Rattle.dsql_laws_calls.specs.history.Readers.Lines.{has_sent}
use Rattle.dsql_laws_calls.specs.history.Readers.Pool.{home, place}
use Rattle.dsql_laws_calls.specs.history.Readers.Transactions.{is_begun}
use Rattle.dsql_laws_calls.specs.history.Readers.Works.{asks, borrower, borrower_in, hands_out_in, scope, work, works}
use Rattle.dsql_laws_calls.specs.history.Legal.{Allowed, Lawful}
use Rattle.dsql_laws_callers.proofs.Works.{borrower_stays}
use Rattle.dsql_laws_calls.proofs.Beginnings.{lent_once_begun}
use Rattle.dsql_laws_calls.proofs.BeginningsAt.{beginnings}
use Rattle.dsql_laws_calls.proofs.Begun.{stays_begun}
use Rattle.dsql_laws_calls.proofs.Coming.{sound}
use Rattle.dsql_laws_calls.proofs.HandedRows.{rows_begun}
use Rattle.dsql_laws_calls.proofs.Inside.{inside, inside_uses}
use Rattle.dsql_laws_calls.proofs.Lent.{lent_before}
use Rattle.dsql_laws_calls.proofs.Looks.{comes, heard_there}
use Rattle.dsql_laws_calls.proofs.Makers.{hands_out, rows_begin_nothing, rows_hand_out}
use Rattle.dsql_laws_calls.proofs.Owners.{at_home, lent_asks, lent_number}
use Rattle.dsql_laws_calls.proofs.Stays.{as_many}
use Rattle.dsql_laws_calls.proofs.TxEnders.{sent_entered}
use Rattle.dsql_laws_calls.proofs.UnderWay.{UnderWay}
use Rattle.dsql_laws_calls.proofs.Why.{Why}
use Rattle.dsql_engine_lines.specs.Inside.{is_inside, work_inside, works_inside}
use Rattle.dsql_engine_lines.proofs.Enders.{ender_begins}
use Rattle.dsql_engine_lines.proofs.Stays.{inside_stays}

-- A driver call of such a call that is under way is in a transaction that was begun.

pub under_way : (H : List Event) (e : Entry) → Lawful (Heard e ∷ H) → e.call_no ≢ 0 → UnderWay H e
under_way H e l some =
    let there = heard_there H e l.1 in
    let s = sound H l.0 in
    s.coming e (comes H e (place H e.conn) there.sets there.line (other_number e.call_no 0 some))

handed_in : (w : Work) (k : ℕ) → hands_out w ≡ true → scope w ≡ Held k → hands_out_in k w ≡ true
handed_in (Statement (Held j) (HandOut label)) k h is = let same : j ≡ k = cc in ap (λ i. i == k) same ∙ same_itself k
handed_in (Statement Db (HandOut label)) k h is = absurd cc
handed_in w k h is = absurd cc

ends_none : (H : List Event) (e : Entry) (k : ℕ) → Lawful H → (u : UnderWay H e) → borrower H e.call_no ≡ number_of u.owner → work H e.call_no ≡ End k → Why H e.conn e.tenure u.owner e.call_no → is_begun H (borrower H e.call_no) ≡ true
ends_none H e k l u used is (inl why) =
    let wrong : false ≡ true = sym (ap asks is) ∙ (ap (λ j. asks (work H j)) (sym why.itself) ∙ lent_asks H e.conn e.tenure u.owner l u.lent) in
    absurd cc
ends_none H e k l u used is (inr (inl why)) =
    let ends : borrower H e.call_no ≡ k = rw is refl in
    let number : number_of u.owner ≡ k = sym used ∙ ends in
    let begin = ender_begins H e.call_no k l is (λ none. lent_number H e.conn e.tenure u.owner l u.lent (number ∙ none)) in
    let none = rows_begin_nothing H k (ap (λ j. is_some (rows_by H j)) (sym number) ∙ why.some) in
    absurd cc
ends_none H e k l u used is (inr (inr why)) = ap (is_begun H) used ∙ why.begun

begun_now : (H : List Event) (e : Entry) → Lawful (Heard e ∷ H) → e.call_no ≢ 0 → works_inside H e.call_no ≡ true → is_begun H (borrower H e.call_no) ≡ true
begun_now H e l some is_in = by (work H e.call_no) refl is_in
  where
    u : UnderWay H e
    u = under_way H e l some

    within : (k : ℕ) → scope (work H e.call_no) ≡ Held k → is_begun H (borrower H e.call_no) ≡ true
    within k is =
        let there = heard_there H e l.1 in
        let i = inside H l.0 in
        ap (is_begun H) (inside_uses H e.call_no k is) ∙ i.coming e k (comes H e (place H e.conn) there.sets there.line (other_number e.call_no 0 some)) is

    over_rows : (j : ℕ) → borrower H e.call_no ≡ borrower_in (scope (work H j)) j → is_some (rows_by H j) ≡ true → (s : Scope) → scope (work H j) ≡ s → is_inside s ≡ true → is_begun H (borrower H e.call_no) ≡ true
    over_rows j uses made (Held k) is x =
        ap (is_begun H) (uses ∙ ap (λ s. borrower_in s j) is) ∙ rows_begun H j k l.0 made (handed_in (work H j) k (rows_hand_out H j made) is)
    over_rows j uses made Db is x = absurd cc

    by : (w : Work) → work H e.call_no ≡ w → work_inside H w ≡ true → is_begun H (borrower H e.call_no) ≡ true
    by (Statement (Held k) task) is x = within k (ap scope is)
    by (Fetch j) is x = over_rows j (rw is refl) (u.rowed j (inl is)) (scope (work H j)) refl x
    by (Close j) is x = over_rows j (rw is refl) (u.rowed j (inr is)) (scope (work H j)) refl x
    by (End k) is x = ends_none H e k l.0 u (u.borrowed some) is u.why
    by w is x = absurd cc

-- All that such a call has sent is in a transaction that was begun.

pub sent_other : (H : List Event) (e : Entry) (n c : ℕ) → e.call_no ≢ n → has_sent n (journal (Heard e ∷ H) c) ≡ has_sent n (journal H c)
sent_other H e n c apart = by (e.conn == c)
  where
    by : (b : Bool) → has_sent n (cond b (e ∷ journal H c) (journal H c)) ≡ has_sent n (journal H c)
    by true = ap (λ b. b || has_sent n (journal H c)) (other_number e.call_no n apart)
    by false = refl

pub sent_old : (H : List Event) (n c : ℕ) → Lawful H → n ≢ 0 → has_sent n (journal H c) ≡ true → n < length (works H)
sent_old H n c l some sent = let less = sent_entered H c n l some sent in let many = as_many H in omega (arith, less, many)

sent_begun : (H : List Event) (n c : ℕ) → Lawful H → n ≢ 0 → works_inside H n ≡ true → has_sent n (journal H c) ≡ true → is_begun H (borrower H n) ≡ true
sent_begun [] n c l some is_in sent = absurd cc
sent_begun (Heard e ∷ H) n c l some is_in sent = stays_begun H (Heard e) (borrower H n) (by (same_or_not e.call_no n) (sent_begun H n c l.0 some is_in))
  where
    by : (e.call_no ≡ n) ⊎ (e.call_no ≢ n) → (has_sent n (journal H c) ≡ true → is_begun H (borrower H n) ≡ true) → is_begun H (borrower H n) ≡ true
    by (inl own) rest =
        ap (λ m. is_begun H (borrower H m)) (sym own) ∙ begun_now H e l (λ none. some (sym own ∙ none)) (ap (works_inside H) own ∙ is_in)
    by (inr other) rest = rest (sym (sent_other H e n c other) ∙ sent)
sent_begun (Entered client m op ∷ H) n c l some is_in sent =
    let old = sent_old H n c l.0 some sent in
    ap (is_begun (Entered client m op ∷ H)) (borrower_stays H (Entered client m op) n old)
    ∙ stays_begun H (Entered client m op) (borrower H n) (sent_begun H n c l.0 some (sym (inside_stays H (Entered client m op) n old) ∙ is_in) sent)
sent_begun (e ∷ H) n c l some is_in sent = stays_begun H e (borrower H n) (sent_begun H n c l.0 some is_in sent)

-- A connection that is lent to an owner that has begun a transaction was lent to it before.
was_lent : (H : List Event) (e : Event) (d t : ℕ) (own : Owner) → Lawful (e ∷ H) → place (e ∷ H) d ≡ Some (Lent t own) → is_begun H (number_of own) ≡ true → place H d ≡ Some (Lent t own)
was_lent H e d t own l is begun =
    elim (lent_before H e d t own l.0 is) [
      | inl before ↦ before
      | inr lends_it ↦ absurd (lent_once_begun H d t own lends_it.0 l.0 (subst (λ x. Allowed H x) lends_it.1 l.1) (beginnings H l.0) begun)
    ]

-- The connection that is lent to the call's transaction is the one on which the call has sent.
pub one_connection : (H : List Event) (n c : ℕ) → Lawful H → n ≢ 0 → works_inside H n ≡ true → has_sent n (journal H c) ≡ true
    → (d t : ℕ) (own : Owner) → place H d ≡ Some (Lent t own) → number_of own ≡ borrower H n → d ≡ c
one_connection [] n c l some is_in sent d t own is number = absurd cc
one_connection (Heard e ∷ H) n c l some is_in sent d t own is number = by (same_or_not e.call_no n) (λ before. one_connection H n c l.0 some is_in before d t own is number)
  where
    here : e.call_no ≡ n → d ≡ e.conn
    here own_call =
        let numbered : e.call_no ≢ 0 = λ none. some (sym own_call ∙ none) in
        let u = under_way H e l numbered in
        let used : number_of u.owner ≡ number_of own = sym (u.borrowed numbered) ∙ (ap (borrower H) own_call ∙ sym number) in
        sym (at_home H d t own l.0 is) ∙ (ap (home H) (sym used) ∙ at_home H e.conn e.tenure u.owner l.0 u.lent)

    by : (e.call_no ≡ n) ⊎ (e.call_no ≢ n) → (has_sent n (journal H c) ≡ true → d ≡ c) → d ≡ c
    by (inl own_call) rest = at (same_or_not e.conn c)
      where
        at : (e.conn ≡ c) ⊎ (e.conn ≢ c) → d ≡ c
        at (inl same) = here own_call ∙ same
        at (inr apart) = rest (sym (ap (λ b. has_sent n (cond b (e ∷ journal H c) (journal H c))) (other_number e.conn c apart)) ∙ sent)
    by (inr other) rest = rest (sym (sent_other H e n c other) ∙ sent)
one_connection (Entered client m op ∷ H) n c l some is_in sent d t own is number =
    let old = sent_old H n c l.0 some sent in
    let was = sym (inside_stays H (Entered client m op) n old) ∙ is_in in
    let uses : number_of own ≡ borrower H n = number ∙ borrower_stays H (Entered client m op) n old in
    let begun = ap (is_begun H) uses ∙ sent_begun H n c l.0 some was sent in
    one_connection H n c l.0 some was sent d t own (was_lent H (Entered client m op) d t own l is begun) uses
one_connection (e ∷ H) n c l some is_in sent d t own is number =
    let begun = ap (is_begun H) number ∙ sent_begun H n c l.0 some is_in sent in
    one_connection H n c l.0 some is_in sent d t own (was_lent H e d t own l is begun) number
