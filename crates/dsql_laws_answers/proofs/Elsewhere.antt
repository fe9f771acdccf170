-- An answer leaves what is sent on every other connection, and whether that connection is in use.
use Rattle.std.proofs.Common.{◌≡◌, ◌≢◌, ℕ, ◌==◌, ◌⊎◌, inl, inr, Bool, true, false, ◌&&◌, ◌||◌, cond, List, ◌∷◌, Option, Some, None, is_some, refl, sym, ap, subst, ◌∙◌, arith}
use Rattle.std.specs.Option.{option_map}
use Rattle.dsql_laws_calls.specs.driver.declared.answer.DriverAnswer.{DriverAnswer}
use Rattle.dsql_laws_calls.specs.driver.declared.answer.DriverAnswer.TheVariants.{Cursor}
use Rattle.dsql_laws_calls.specs.driver.declared.call.DriverCall.{DriverCall}
use Rattle.dsql_laws_calls.specs.driver.declared.call.DriverCall.TheVariants.{Query, Next}
use Rattle.dsql_laws_calls.specs.course.declared.course.Wish.{Wish}
use Rattle.dsql_laws_calls.specs.course.declared.course.Wish.TheVariants as wishes
use Rattle.dsql_laws_calls.specs.journal.declared.entry.Entry.{Entry}
use Rattle.dsql_laws_calls.specs.journal.declared.entry.Owner.{Owner}
use Rattle.dsql_laws_calls.specs.journal.Kinds.{number_of}
use Rattle.dsql_laws_calls.proofs.numbered.Numbers.{changes_one_number as numbered_things}
use Rattle.dsql_laws_calls.specs.rows.declared.rows.Rows.{Rows}
use Rattle.dsql_laws_calls.specs.numbered.Numbered.{changed}
use Rattle.dsql_laws_calls.specs.rows.OpenRows.{fresh, rows_of}
use Rattle.dsql_laws_calls.proofs.rows.Numbers.{changes_one_number}
use Rattle.dsql_laws_calls.specs.pool.declared.conn.Place.TheVariants.{Lent}
use Rattle.dsql_laws_calls.specs.history.Readers.HandedOut.{fetched, born, is_late, handed_out, rows_heard, rows_by}
use Rattle.dsql_laws_calls.specs.history.Readers.Tries.{lost, tries, loses}
use Rattle.dsql_laws_calls.proofs.laws.Tests.{other_number}
use Rattle.dsql_laws_calls.proofs.laws_work.Rows.{same_or_not}
use Rattle.dsql_laws_calls.specs.history.declared.event.Event.{Event}
use Rattle.dsql_laws_calls.specs.history.declared.event.Event.TheVariants.{Heard}
use Rattle.dsql_laws_calls.specs.history.declared.work.Scope.{Scope}
use Rattle.dsql_laws_calls.specs.history.declared.work.Work.{Work}
use Rattle.dsql_laws_calls.specs.history.declared.work.Task.TheVariants.{HandOut}
use Rattle.dsql_laws_calls.specs.history.declared.work.Work.TheVariants.{Statement, Fetch, Look}
use Rattle.dsql_laws_calls.specs.history.Readers.Calls.{site, asks_nothing, rests}
use Rattle.dsql_laws_calls.specs.history.Readers.Course.{caps}
use Rattle.dsql_laws_calls.specs.history.Readers.Pool.{place, home}
use Rattle.dsql_laws_calls.specs.history.Readers.Transactions.{tx_by}
use Rattle.dsql_laws_calls.specs.history.Readers.Unfinished.{is_unfinished}
use Rattle.dsql_laws_calls.specs.history.Readers.Works.{works, work, asks, hands_out_in, borrower}
use Rattle.dsql_laws_calls.specs.history.Rules.Ending.{ending}
use Rattle.dsql_laws_calls.specs.history.Rules.Line.{may_come, sends_from, is_used}
use Rattle.dsql_laws_calls.specs.history.Rules.Sent.{line_of, close_due}
use Rattle.dsql_laws_calls.specs.history.Rules.Settled.{is_kept}
use Rattle.dsql_laws_calls.specs.history.Legal.{Lawful}
use Rattle.dsql_laws_callers.proofs.Homes.{home_owner}
use Rattle.dsql_laws_calls.proofs.Begun.{begin_comes, heard_tx, BeginsIt}
use Rattle.dsql_laws_calls.proofs.Beginnings.{asking, numbered}
use Rattle.dsql_laws_calls.proofs.BeginningsAt.{heard_other}
use Rattle.dsql_laws_calls.proofs.Coming.{stays_with_its_call}
use Rattle.dsql_laws_calls.proofs.Ends.{zero_work}
use Rattle.dsql_laws_calls.proofs.Inside.{inside_busy, inside_uses}
use Rattle.dsql_laws_calls.proofs.Looks.{heard_there}
use Rattle.dsql_laws_calls.proofs.Makers.{hands_out, rows_hand_out}
use Rattle.dsql_laws_calls.proofs.Own.{asks_own}
use Rattle.dsql_laws_calls.proofs.Owners.{lent_asks, lent_number}
use Rattle.dsql_laws_calls.proofs.Stays.{asked_stays, not_looking}
use Rattle.dsql_laws_calls.proofs.Why.{scoped}
use Rattle.dsql_laws_others.proofs.Alike.{line_asked, ends_alike, closing_alike, used_alike}
use Rattle.dsql_laws_others.proofs.Entered.{first_same}

-- An answer on a connection that is lent to this owner.
pub record HeardLent (H : List Event) (e : Entry) (t : ℕ) (own : Owner) : Type 0 where
  pub lawful : Lawful (Heard e ∷ H)
  pub lent : place H e.conn ≡ Some (Lent t own)

pub comes_there : (H : List Event) (e : Entry) (t : ℕ) (own : Owner) → HeardLent H e t own → may_come H e ≡ true
comes_there H e t own h = let l = h.lawful in let there = heard_there H e l.1 in subst (λ at. sends_from H at e ≡ true) h.lent there.line

-- The call of the answer uses that connection.

sender_uses : (H : List Event) (e : Entry) (t : ℕ) (own : Owner) → HeardLent H e t own → e.call_no ≢ 0 → borrower H e.call_no ≡ number_of own
sender_uses H e t own h some =
    let l = h.lawful in
    let st = stays_with_its_call H e l.0 (comes_there H e t own h) in
    st.used some ∙ owner_number (sym st.lent ∙ h.lent)
  where
    owner_number : {u v : ℕ} {o p : Owner} → Some (Lent u o) ≡ Some (Lent v p) → number_of o ≡ number_of p
    owner_number same = cc

-- The rows of calls that use another connection stay the same.

rows_off : (H : List Event) (e : Entry) (t : ℕ) (own : Owner) (j : ℕ) → HeardLent H e t own → borrower H j ≢ number_of own → rows_by (Heard e ∷ H) j ≡ rows_by H j
rows_off H e t own j h off = by (work H e.call_no) refl e.call e.answer
  where
    sender : (w : Work) → work H e.call_no ≡ w → (w ≡ Look → ⊥) → borrower H e.call_no ≡ number_of own
    sender w is busy = sender_uses H e t own h (λ none. busy (sym is ∙ ap (work H) none ∙ zero_work H))

    queried : (s : Scope) (label : List ℕ) → work H e.call_no ≡ Statement s (HandOut label) → j ≢ e.call_no
    queried s label is same = off (ap (borrower H) same ∙ sender (Statement s (HandOut label)) is (λ x. cc))

    unmade : (a : DriverAnswer) (o : Option Rows) → is_some o ≡ false → option_map (fetched a) o ≡ o
    unmade a None none = refl
    unmade a (Some r) none = absurd cc

    uses : (k : ℕ) → work H e.call_no ≡ Fetch k → hands_out (work H k) ≡ true → borrower H k ≡ number_of own
    uses k is hands = from (work H k) refl hands
      where
        from : (w : Work) → work H k ≡ w → hands_out w ≡ true → borrower H k ≡ number_of own
        from (Statement s (HandOut label)) its x =
            let own_one : borrower H k ≡ borrower H e.call_no = rw (is, its) refl in
            own_one ∙ sender (Fetch k) is (λ y. cc)
        from w its x = absurd cc

    fetches : (k : ℕ) (a : DriverAnswer) → work H e.call_no ≡ Fetch k → (j ≡ k) ⊎ (j ≢ k) → rows_of j (changed (fetched a) k (handed_out H)) ≡ rows_by H j
    fetches k a is (inr apart) = let l = changes_one_number in l.others (fetched a) k j (handed_out H) apart
    fetches k a is (inl same) = made (is_some (rows_by H j)) refl
      where
        made : (b : Bool) → is_some (rows_by H j) ≡ b → rows_of j (changed (fetched a) k (handed_out H)) ≡ rows_by H j
        made true some = absurd (off (ap (borrower H) same ∙ uses k is (rows_hand_out H k (ap (λ i. is_some (rows_by H i)) (sym same) ∙ some))))
        made false none =
            let l = changes_one_number in
            ap (λ i. rows_of j (changed (fetched a) i (handed_out H))) (sym same) ∙ (l.changes (fetched a) j (handed_out H) ∙ unmade a (rows_by H j) none)

    by : (w : Work) → work H e.call_no ≡ w → (q : DriverCall) (a : DriverAnswer) → rows_of j (rows_heard H w e.call_no q a (handed_out H)) ≡ rows_by H j
    by (Statement s (HandOut label)) is (Query input params) (Cursor cursor columns) =
        let l = numbered_things {X = Rows} in l.others_beside_new e.call_no j (born (is_late H s) (fresh cursor columns)) (handed_out H) (queried s label is)
    by (Fetch k) is (Next cursor) a = fetches k a is (same_or_not j k)
    by w is q a = refl

-- So do their lines, and what ends a transaction.

pub line_off : (H : List Event) (e : Entry) (n : ℕ) (w : Wish) → (work H n ≡ Look → ⊥) → e.conn ≢ site H n → line_of (Heard e ∷ H) n w ≡ line_of H n w
line_off H e n w busy apart =
    line_asked H (Heard e ∷ H) n w (site H n) (place H (site H n)) (record { asked = asked_stays H (Heard e) n busy; resets = refl; can = refl; its_work = refl; uses = refl; heard = heard_other H e (site H n) apart })

pub tx_off : (H : List Event) (e : Entry) (t : ℕ) (own : Owner) (k : ℕ) → HeardLent H e t own → k ≢ number_of own → tx_by (Heard e ∷ H) k ≡ tx_by H k
tx_off H e t own k h off = by (heard_tx H e k)
  where
    by : (tx_by (Heard e ∷ H) k ≡ tx_by H k) ⊎ BeginsIt H e k (tx_by (Heard e ∷ H) k) → tx_by (Heard e ∷ H) k ≡ tx_by H k
    by (inl same) = same
    by (inr b) =
        let begins_it = begin_comes H e (comes_there H e t own h) b.begin in
        let some : e.call_no ≢ 0 = λ none. never (e.call_no == 0) (ap (λ i. i == 0) none) (numbered H e.call_no begins_it) in
        absurd (off (b.own ∙ (sym (asks_own H e.call_no (asking (work H e.call_no) begins_it)) ∙ sender_uses H e t own h some)))
      where
        never : (x : Bool) → x ≡ true → x ≡ false → ⊥
        never x p q = cc

pub ending_off : (H : List Event) (e : Entry) (t : ℕ) (own : Owner) (k : ℕ) → HeardLent H e t own → k ≢ number_of own → e.conn ≢ home H k → ending (Heard e ∷ H) k ≡ ending H k
ending_off H e t own k h off apart =
    ends_alike H (Heard e ∷ H) k (tx_off H e t own k h off) refl refl
    (record { first = first_same H (Heard e ∷ H) k 0 (works H) (λ i hands. subst (λ j. close_due (Heard e ∷ H) j ≡ close_due H j) (omega arith) (closes i hands)); can = refl; heard = heard_other H e (home H k) apart })
  where
    closes : (i : ℕ) → hands_out_in k (work H i) ≡ true → close_due (Heard e ∷ H) i ≡ close_due H i
    closes i hands =
        let its : borrower H i ≡ k = inside_uses H i k (scoped (work H i) k hands) in
        closing_alike H (Heard e ∷ H) i (rows_off H e t own i h (λ same. off (sym its ∙ same)))
        (λ over. line_off H e i wishes.Close (λ looks. inside_busy (work H i) k (scoped (work H i) k hands) looks) (λ same. apart (same ∙ ap (home H) its)))

-- A connection that is lent to another owner is in use as before.

pub kept_off : (H : List Event) (e : Entry) (t : ℕ) (own : Owner) (d u : ℕ) (o : Owner) → HeardLent H e t own → place H d ≡ Some (Lent u o) → number_of o ≢ number_of own → is_kept (Heard e ∷ H) (number_of o) ≡ is_kept H (number_of o)
kept_off H e t own d u o h at off =
    ap (λ b. b || rests (Heard e ∷ H) n) (used_alike H (Heard e ∷ H) n (tx_off H e t own n h off) (rows_off H e t own n h (λ same. off (sym itself ∙ same))) (ending_off H e t own n h off apart) (λ w. line_off H e n w (not_looking (work H n) asking_it) (λ same. apart (same ∙ ap (home H) itself))))
    ∙ ap (λ b. is_used H n || (is_unfinished H n && asks_nothing (caps H) (work H n) (cond (b && loses (work H n) e) (lost (tries H n)) (tries H n)))) (other_number e.call_no n other)
  where
    n : ℕ
    n = number_of o

    lawful : Lawful H
    lawful = let l = h.lawful in l.0

    asking_it : asks (work H n) ≡ true
    asking_it = lent_asks H d u o lawful at

    itself : borrower H n ≡ n
    itself = asks_own H n asking_it

    apart : e.conn ≢ home H n
    apart same = off (sym (home_owner H n e.conn t own (sym same) h.lent))

    other : e.call_no ≢ n
    other same = off (sym itself ∙ (ap (borrower H) (sym same) ∙ sender_uses H e t own h (λ none. lent_number H d u o lawful at (sym same ∙ none))))
