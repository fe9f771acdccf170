-- If a driver call is due on a lent connection, the connection is in use. The argument takes the kinds of work
-- apart.
use Rattle.std.proofs.Common.{◌≡◌, ℕ, ◌==◌, ◌⊎◌, inl, inr, Bool, true, false, not, ◌&&◌, ◌||◌, cond, List, Some, None, is_some, is_none, refl, sym, ap, ◌∙◌}
use Rattle.dsql_laws_calls.specs.course.declared.course.Wish.{Wish}
use Rattle.dsql_laws_calls.specs.course.declared.course.Wish.TheVariants as wishes
use Rattle.dsql_laws_calls.specs.course.Made.{Exchange, own_cursor}
use Rattle.dsql_laws_calls.specs.journal.declared.entry.Owner.{Owner}
use Rattle.dsql_laws_calls.specs.journal.Kinds.{number_of}
use Rattle.dsql_laws_calls.specs.journal.Readers.{went_bad}
use Rattle.dsql_laws_calls.specs.works.Line.{handed}
use Rattle.dsql_laws_calls.specs.pool.declared.conn.Place.TheVariants.{Lent}
use Rattle.dsql_laws_calls.specs.history.Readers.HandedOut.{over, rows_by, are_live, are_over, ender, is_late}
use Rattle.dsql_laws_calls.specs.history.Rules.Wishes.{wish_as}
use Rattle.dsql_laws_calls.proofs.laws.Tests.{both, same_number, same_itself}
use Rattle.dsql_laws_calls.specs.history.declared.event.Event.{Event}
use Rattle.dsql_laws_calls.specs.history.declared.work.Scope.TheVariants.{Db, Held}
use Rattle.dsql_laws_calls.specs.history.declared.work.Work.{Work}
use Rattle.dsql_laws_calls.specs.history.declared.work.Task.TheVariants.{HandOut}
use Rattle.dsql_laws_calls.specs.history.declared.work.Work.TheVariants.{Statement, End, Fetch, Close, Look}
use Rattle.dsql_laws_calls.specs.history.Readers.Calls.{decided, site, has_begun_to_send}
use Rattle.dsql_laws_calls.specs.history.Readers.Course.{caps}
use Rattle.dsql_laws_calls.specs.history.Readers.Journals.{journal, heard_in}
use Rattle.dsql_laws_calls.specs.history.Readers.Lines.{line_among, has_sent}
use Rattle.dsql_laws_calls.specs.history.Readers.Pool.{place, home}
use Rattle.dsql_laws_calls.specs.history.Readers.Transactions.{is_begun, is_over, goes_on, tx_ender}
use Rattle.dsql_laws_calls.specs.history.Readers.Unfinished.{is_unfinished}
use Rattle.dsql_laws_calls.specs.history.Readers.Works.{work, aim_of, scope, is_in, is_fetch, asks, hands_out_in, borrower}
use Rattle.dsql_laws_calls.specs.history.Rules.Ending.{ending}
use Rattle.dsql_laws_calls.specs.history.Rules.Line.{sends_in, due_inside, due_in, due_for, is_used}
use Rattle.dsql_laws_calls.specs.history.Rules.Sent.{asked_by, line_of, closes, wish, sent_for}
use Rattle.dsql_laws_calls.specs.history.Legal.{Lawful}
use Rattle.dsql_laws_calls.proofs.Beginnings.{begin_owner}
use Rattle.dsql_laws_calls.proofs.Begun.{begun_begins, over_begun}
use Rattle.dsql_laws_calls.proofs.Coming.{sound}
use Rattle.dsql_laws_calls.proofs.DueWay.{borrow_same, inner_line}
use Rattle.dsql_laws_calls.proofs.EndedRows.{ender_over}
use Rattle.dsql_laws_calls.proofs.HandedRows.{handed_made, rows_begun}
use Rattle.dsql_laws_calls.proofs.Inside.{inside, inside_uses, live_goes}
use Rattle.dsql_laws_calls.proofs.LineParts.{hands_of}
use Rattle.dsql_laws_calls.proofs.Lines.{line_there, line_here, closes_too}
use Rattle.dsql_laws_calls.proofs.LiveRows.{dead_over, live_some}
use Rattle.dsql_laws_calls.proofs.Makers.{hands_out, rows_hand_out, sent_made}
use Rattle.dsql_laws_calls.proofs.Own.{asks_own, going_used, own_used, due_own}
use Rattle.dsql_laws_calls.proofs.Owners.{at_home}
use Rattle.dsql_laws_calls.proofs.Quiet.{quiet_sends_none}
use Rattle.dsql_laws_calls.proofs.RowsKept.{live_used}
use Rattle.dsql_laws_calls.proofs.Sound.{Sound}
use Rattle.dsql_laws_calls.proofs.UnderWay.{Facts, Going, line_made, ending_over, left_of}
use Rattle.dsql_laws_calls.proofs.Why.{Left, tx_used, why_used}

clash : {A : Type 0} → true ≡ false → A
clash h = absurd cc

-- A line that goes on is the line of the owner's borrower.

line_number : (H : List Event) (n c t : ℕ) (own : Owner) → Lawful H → place H c ≡ Some (Lent t own) → borrower H n ≡ number_of own → (w : Wish) → is_some (line_of H n w) ≡ true → is_some (line_there H c t own n w) ≡ true
line_number H n c t own l at uses w h = ap (λ d. is_some d) (sym (line_here H c t own n w l at uses)) ∙ h

-- Rows that are live or still to be closed keep the connection in use.

pub live_keeps : (H : List Event) (j : ℕ) (own : Owner) → Lawful H → borrower H j ≡ number_of own → are_live H j ≡ true → is_used H (number_of own) ≡ true
live_keeps H j own l uses lives = by (work H j) refl (rows_hand_out H j (live_some (rows_by H j) lives))
  where
    by : (it : Work) → work H j ≡ it → hands_out it ≡ true → is_used H (number_of own) ≡ true
    by (Statement Db (HandOut label)) is h =
        let its : borrower H j ≡ j = rw is refl in
        ap (is_used H) (sym uses ∙ its) ∙ live_used H j lives
    by (Statement (Held k) (HandOut label)) is h =
        let its : borrower H j ≡ k = rw is refl in
        ap (is_used H) (sym uses ∙ its) ∙ going_used H k (live_goes H j k l lives (ap (hands_out_in k) is ∙ same_itself k))
    by it is h = absurd cc

pub over_keeps : (H : List Event) (j c t : ℕ) (own : Owner) → Lawful H → place H c ≡ Some (Lent t own) → borrower H j ≡ number_of own → is_some (rows_by H j) ≡ true → are_over H j ≡ true → is_some (line_of H j wishes.Close) ≡ true
    → is_used H (number_of own) ≡ true
over_keeps H j c t own l at uses made gone line = by (work H j) refl (rows_hand_out H j made)
  where
    sends : is_some (line_there H c t own j wishes.Close) ≡ true
    sends = line_number H j c t own l at uses wishes.Close line

    by : (it : Work) → work H j ≡ it → hands_out it ≡ true → is_used H (number_of own) ≡ true
    by (Statement Db (HandOut label)) is h =
        let its : j ≡ number_of own = sym (rw is refl) ∙ uses in
        why_used H c t own (number_of own) l at (inr (inl (record { some = ap (λ i. is_some (rows_by H i)) (sym its) ∙ made; sends = ap (λ i. is_some (line_there H c t own i wishes.Close)) (sym its) ∙ sends })))
    by (Statement (Held k) (HandOut label)) is h =
        let its : number_of own ≡ k = sym uses ∙ rw is refl in
        let hands : hands_out_in (number_of own) (work H j) ≡ true = ap (hands_out_in (number_of own)) is ∙ (ap (λ i. k == i) its ∙ same_itself k) in
        tx_used H c t own l at (record { begun = rows_begun H j (number_of own) l made hands; left = inr (inl (j, record { hands = hands; over = gone; sends = sends })) })
    by it is h = absurd cc

-- What a call sends for rows keeps the connection in use.

rows_keep : (H : List Event) (m j c t : ℕ) (own : Owner) → Lawful H → (m == 0) ≡ false → place H c ≡ Some (Lent t own) → (work H m ≡ Fetch j) ⊎ (work H m ≡ Close j) → borrower H m ≡ number_of own
    → is_some (sent_for H j (wish H m j)) ≡ true → is_used H (number_of own) ≡ true
rows_keep H m j c t own l some at its uses sent = by (closes H m j) (is_fetch (work H m) && (are_live H j && is_none (decided H m))) refl refl sent
  where
    made : is_some (rows_by H j) ≡ true
    made = sent_made H m j some sent

    user : borrower H j ≡ number_of own
    user = sym (borrow_same H m j its (rows_hand_out H j (sent_made H m j some sent))) ∙ uses

    gone : closes H m j ≡ true → are_over H j ≡ true
    gone h =
        let b = both (ender H j == m) (not (is_late H (scope (work H j))) || has_begun_to_send H m) h in
        ender_over H j (λ none. clash (sym (ap (λ i. i == 0) (sym (same_number (ender H j) m b.0)) ∙ (ap (λ i. i == 0) none ∙ refl)) ∙ some))

    by : (b f : Bool) → closes H m j ≡ b → (is_fetch (work H m) && (are_live H j && is_none (decided H m))) ≡ f → is_some (sent_for H j (wish_as b f)) ≡ true → is_used H (number_of own) ≡ true
    by true f ends fetches x = over_keeps H j c t own l at user made (gone ends) x
    by false true ends fetches x =
        let a = both (is_fetch (work H m)) (are_live H j && is_none (decided H m)) fetches in
        let b = both (are_live H j) (is_none (decided H m)) a.1 in
        live_keeps H j own l user b.0
    by false false ends fetches x = absurd cc

-- What a call sends in a transaction keeps the connection in use.

inner_keeps : (H : List Event) (m c t : ℕ) (own : Owner) → Lawful H → place H c ≡ Some (Lent t own) → site H m ≡ c → is_unfinished H m ≡ true → scope (work H m) ≡ Held (number_of own) → is_some (due_inside H m (Held (number_of own))) ≡ true
    → is_used H (number_of own) ≡ true
inner_keeps H m c t own l at here u inner due = by (sends_in H m (number_of own)) (goes_on H (number_of own)) refl refl due
  where
    k : ℕ
    k = number_of own

    sent : sends_in H m (number_of own) ≡ true → goes_on H (number_of own) ≡ false → has_begun_to_send H m ≡ true
    sent h off = at_once (has_begun_to_send H m) (ap (λ b. has_begun_to_send H m || (b && is_none (decided H m))) (sym off) ∙ h)
      where
        at_once : (b : Bool) → (b || false) ≡ true → b ≡ true
        at_once true x = refl
        at_once false x = x

    ended : is_begun H (number_of own) ≡ true → goes_on H (number_of own) ≡ false → is_over H (number_of own) ≡ true
    ended begun off = either (is_over H (number_of own)) (sym (ap (λ b. b && not (is_over H (number_of own))) begun) ∙ off)
      where
        either : (b : Bool) → not b ≡ false → b ≡ true
        either true x = refl
        either false x = absurd cc

    over_now : is_over H (number_of own) ≡ true → is_begun H (number_of own) ≡ true → is_some (line_of H m wishes.Nothing) ≡ true → has_begun_to_send H m ≡ true → is_used H (number_of own) ≡ true
    over_now gone begun line begins = from (facts.going c t own at m inner u (ap (λ d. has_sent m (journal H d)) (sym here) ∙ begins))
      where
        s : Sound H
        s = sound H l

        facts : Facts H
        facts = s.facts

        there : is_some (line_there H c t own m wishes.Nothing) ≡ true
        there = line_number H m c t own l at (inside_uses H m (number_of own) inner) wishes.Nothing line

        used : Left H c t own → is_used H (number_of own) ≡ true
        used left = tx_used H c t own l at (record { begun = begun; left = left })

        cursor : (w : Work) (xs : List Exchange) → is_some (handed (aim_of w) xs) ≡ true → is_some (own_cursor xs) ≡ true
        cursor (Statement s (HandOut label)) xs x = x
        cursor w xs x = absurd cc

        hands_in : (w : Work) (j : ℕ) → hands_out w ≡ true → scope w ≡ Held j → hands_out_in j w ≡ true
        hands_in (Statement s (HandOut label)) j x y = ap (is_in j) y ∙ same_itself j
        hands_in w j x y = absurd cc

        dead : is_some (rows_by H m) ≡ true → hands_out_in (number_of own) (work H m) ≡ true → (b : Bool) → are_live H m ≡ b → are_over H m ≡ true
        dead made hands true lives =
            let goes = live_goes H m (number_of own) l lives hands in
            let b = both (is_begun H (number_of own)) (not (is_over H (number_of own))) goes in
            clash (sym b.1 ∙ ap (λ y. not y) gone)
        dead made hands false lives = dead_over (rows_by H m) made lives

        from : Going H c t m → is_used H (number_of own) ≡ true
        from (inl h) =
            let hands = hands_of (work H m) (line_made H c t m) h in
            let rows = handed_made H c t m l hands (cursor (work H m) (line_made H c t m) h) in
            let in_it = hands_in (work H m) (number_of own) hands inner in
            used (inr (inl (m, record { hands = in_it; over = dead rows in_it (are_live H m) refl; sends = closes_too H c t own m there })))
        from (inr (inl n)) = used (inl n.none)
        from (inr (inr q)) =
            clash (sym there
            ∙ (inner_line H c t own m wishes.Nothing (number_of own) (begin_owner H c t own l at (begun_begins H (number_of own) l begun)) inner
            ∙ quiet_sends_none (caps H) (went_bad (journal H c)) (asked_by H m) wishes.Nothing (line_among m (heard_in H c t)) q))

    by : (b g : Bool) → sends_in H m (number_of own) ≡ b → goes_on H (number_of own) ≡ g → is_some (cond b (line_of H m wishes.Nothing) None) ≡ true → is_used H (number_of own) ≡ true
    by b true sends on x = going_used H (number_of own) on
    by true false sends off x =
        let begins = sent sends off in
        let i = inside H l in
        let begun = i.sent m (number_of own) (site H m) begins inner in
        over_now (ended begun off) begun x begins
    by false false sends off x = absurd cc

-- So whatever is due for a call keeps the connection that it uses in use.

pub due_keeps : (H : List Event) (m c t : ℕ) (own : Owner) → Lawful H → (m == 0) ≡ false → place H c ≡ Some (Lent t own) → borrower H m ≡ number_of own → is_some (due_for H m) ≡ true → is_used H (number_of own) ≡ true
due_keeps H m c t own l some at uses due = unfinished (is_unfinished H m) refl due
  where
    here : site H m ≡ c
    here = ap (home H) uses ∙ at_home H c t own l at

    asking : is_unfinished H m ≡ true → asks (work H m) ≡ true → is_some (due_in H m (work H m)) ≡ true → is_used H (number_of own) ≡ true
    asking u asker x =
        let its : m ≡ number_of own = sym (asks_own H m asker) ∙ uses in
        let line = line_number H m c t own l at uses wishes.Nothing (due_own H m (work H m) asker x) in
        own_used H c t own l at (ap (is_unfinished H) (sym its) ∙ u) (ap (λ i. is_some (line_there H c t own i wishes.Nothing)) (sym its) ∙ line)

    inner : (k : ℕ) → is_unfinished H m ≡ true → scope (work H m) ≡ Held k → is_some (due_inside H m (Held k)) ≡ true → is_used H (number_of own) ≡ true
    inner k u s x =
        let its : k ≡ number_of own = sym (inside_uses H m k s) ∙ uses in
        inner_keeps H m c t own l at here u (s ∙ ap Held its) (ap (λ i. is_some (due_inside H m (Held i))) (sym its) ∙ x)

    ends : (k : ℕ) → work H m ≡ End k → (b : Bool) → is_some (cond b (ending H k) None) ≡ true → is_used H (number_of own) ≡ true
    ends k is true x =
        let its : k ≡ number_of own = sym (rw is refl) ∙ uses in
        let sends : is_some (ending H (number_of own)) ≡ true = ap (λ i. is_some (ending H i)) (sym its) ∙ x in
        tx_used H c t own l at (record { begun = over_begun H (number_of own) (ending_over H (number_of own) sends); left = left_of H c t own l at sends })
    ends k is false x = absurd cc

    by : is_unfinished H m ≡ true → (w : Work) → work H m ≡ w → is_some (due_in H m w) ≡ true → is_used H (number_of own) ≡ true
    by u (Statement (Held k) task) is x = inner k u (ap scope is) x
    by u (Fetch j) is x = rows_keep H m j c t own l some at (inl is) uses x
    by u (Close j) is x = rows_keep H m j c t own l some at (inr is) uses x
    by u (End k) is x = ends k is (tx_ender H k == m) x
    by u Look is x = absurd cc
    by u _ is x = asking u (ap asks is) (ap (λ w. is_some (due_in H m w)) is ∙ x)

    unfinished : (b : Bool) → is_unfinished H m ≡ b → is_some (cond b (due_in H m (work H m)) None) ≡ true → is_used H (number_of own) ≡ true
    unfinished true u x = by u (work H m) refl x
    unfinished false u x = absurd cc
