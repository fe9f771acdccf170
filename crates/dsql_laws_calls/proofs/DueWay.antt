-- An entry that is due is under way.
use Rattle.std.proofs.Common.{◌≡◌, ◌≢◌, ℕ, ◌==◌, ◌⊎◌, inl, inr, Bool, true, false, not, ◌&&◌, ◌||◌, cond, List, Option, Some, None, is_some, is_none, refl, sym, ap, subst, ◌∙◌}
use Rattle.dsql_laws.specs.driver.Kinds.{is_ending}
use Rattle.dsql_laws.specs.course.declared.course.Wish.{Wish}
use Rattle.dsql_laws.specs.course.declared.course.Wish.TheVariants as wishes
use Rattle.dsql_laws.specs.course.Made.{Exchange, own_cursor}
use Rattle.dsql_laws.specs.journal.declared.entry.Entry.{Entry}
use Rattle.dsql_laws.specs.journal.declared.entry.Owner.{Owner}
use Rattle.dsql_laws.specs.journal.Kinds.{is_call, number_of}
use Rattle.dsql_laws.specs.journal.Readers.{went_bad}
use Rattle.dsql_laws.specs.pool.declared.conn.Place.TheVariants.{Lent}
use Rattle.dsql_laws.specs.rows.declared.rows.Rows.{Rows}
use Rattle.dsql_laws.specs.works.Line as plain
use Rattle.dsql_laws.specs.works.Line.{handed}
use Rattle.dsql_laws.specs.history.Readers.HandedOut.{over, rows_by, are_live, are_over, ender}
use Rattle.dsql_laws.specs.history.Rules.Wishes.{wish_as}
use Rattle.dsql_laws.proofs.Tests.{both, same_number, same_itself}
use Rattle.dsql_laws.specs.history.declared.event.Event.{Event}
use Rattle.dsql_laws.specs.history.declared.work.Scope.TheVariants.{Db, Held}
use Rattle.dsql_laws.specs.history.declared.work.Work.{Work}
use Rattle.dsql_laws.specs.history.declared.work.Task.TheVariants.{HandOut}
use Rattle.dsql_laws.specs.history.declared.work.Work.TheVariants.{Statement, Begin, Ping, Fetch, Close, End, Look}
use Rattle.dsql_laws.specs.history.Readers.Course.{caps}
use Rattle.dsql_laws.specs.history.Readers.Unfinished.{is_unfinished}
use Rattle.dsql_laws.specs.history.Readers.Works.{work, scope, asks, borrower, hands_out_in, is_in, is_fetch, aim_of, owner_as}
use Rattle.dsql_laws.specs.history.Readers.Journals.{journal, heard_in}
use Rattle.dsql_laws.specs.history.Readers.Lines.{line_among, line_in, has_sent}
use Rattle.dsql_laws.specs.history.Readers.Pool.{place, home}
use Rattle.dsql_laws.specs.history.Readers.Transactions.{is_begun, is_over, goes_on, tx_ender}
use Rattle.dsql_laws.specs.history.Readers.Calls.{decided, site, has_begun_to_send}
use Rattle.dsql_laws.specs.history.Rules.Sent.{is_reset_due, asked_by, inner_after, sender, line_for, line_of, closes, wish, sent_for, close_due}
use Rattle.dsql_laws.specs.history.Rules.Ending.{ending}
use Rattle.dsql_laws.specs.history.Rules.Line.{due_in, due_for, tidying, sends_in, is_due, is_due_at}
use Rattle.dsql_laws.specs.history.Legal.{Lawful}
use Rattle.dsql_laws_calls.proofs.Owners.{lent_asks, owner_is_of}
use Rattle.dsql_laws_work.proofs.Rows.{not_true}
use Rattle.dsql_laws_calls.proofs.Ends.{zero_work}
use Rattle.dsql_laws_calls.proofs.EndedRows.{ender_over}
use Rattle.dsql_laws_calls.proofs.Makers.{hands_out, rows_hand_out, sent_made}
use Rattle.dsql_laws_calls.proofs.Begun.{begun_begins, over_begun}
use Rattle.dsql_laws_calls.proofs.Plain.{no_ending_due, with_ends}
use Rattle.dsql_laws_calls.proofs.Lines.{line_there, line_here, closes_too}
use Rattle.dsql_laws_calls.proofs.Own.{some_due, asks_own, own_now, DueNow, due_now, DueOf, due_of}
use Rattle.dsql_laws_calls.proofs.Inside.{inside, inside_uses, number_not, due_within, live_goes}
use Rattle.dsql_laws_calls.proofs.Beginnings.{begin_owner}
use Rattle.dsql_laws_calls.proofs.Quiet.{quiet_sends_none}
use Rattle.dsql_laws_calls.proofs.LineParts.{hands_of}
use Rattle.dsql_laws_calls.proofs.HandedRows.{handed_made, rows_begun}
use Rattle.dsql_laws_calls.proofs.CallTenures.{call_line, line_of_call, fetch_closes}
use Rattle.dsql_laws_calls.proofs.LiveRows.{dead_over, over_some}
use Rattle.dsql_laws_calls.proofs.Why.{ended_there, Left, WhyTx, Why}
use Rattle.dsql_laws_calls.proofs.UnderWay.{line_made, handed_there, Going, Facts, UnderWay, clash, at_number, ending_over, left_of, line_at_its, no_ending, turn_of}

-- The entry is the layer's own.

none_of : {A : Type 0} (m : ℕ) → (m == 0) ≡ true → m ≢ 0 → A
none_of m is some = absurd (some (same_number m 0 is))

not_inside : {A : Type 0} (H : List Event) (m k : ℕ) → (m == 0) ≡ true → scope (work H m) ≡ Held k → A
not_inside H m k is s = clash (sym is ∙ number_not H m k s)

on_rows : {A : Type 0} (w : Work) (j : ℕ) → w ≡ Look → (w ≡ Fetch j) ⊎ (w ≡ Close j) → A
on_rows w j look (inl is) = let wrong : Fetch j ≡ Look = sym is ∙ look in absurd cc
on_rows w j look (inr is) = let wrong : Close j ≡ Look = sym is ∙ look in absurd cc

layer_way : (H : List Event) (e : Entry) → Lawful H → Facts H → (d : DueNow H e) → (e.call_no == 0) ≡ true → Why H e.conn e.tenure d.owner e.call_no → (is_ending e.call ≡ true → is_over H (number_of d.owner) ≡ true)
    → (is_call d.owner ≡ true → (w : Wish) × (is_due (call_line H e.conn e.tenure d.owner w) e.call ≡ true)) → UnderWay H e
layer_way H e l f d layer why ending line = record {
  owner = d.owner;
  lent = d.lent;
  borrowed = λ some. none_of e.call_no layer some;
  unfinished = λ some. none_of e.call_no layer some;
  rowed = λ j which. on_rows (work H e.call_no) j (ap (work H) (same_number e.call_no 0 layer) ∙ zero_work H) which;
  why = why;
  ending = ending;
  within = λ s. not_inside H e.call_no (number_of d.owner) layer s;
  line = line;
  turn = turn_of H e l d;
}

layer_due : (H : List Event) (e : Entry) → Lawful H → Facts H → (d : DueNow H e) → (e.call_no == 0) ≡ true → is_due (tidying H (number_of d.owner)) e.call ≡ true → UnderWay H e
layer_due H e l f d layer due = by (is_begun H (number_of d.owner)) refl due
  where
    n : ℕ
    n = number_of d.owner

    own : borrower H (number_of d.owner) ≡ number_of d.owner
    own = asks_own H (number_of d.owner) (lent_asks H e.conn e.tenure d.owner l d.lent)

    ended : (b : Bool) → is_begun H (number_of d.owner) ≡ true → is_due (cond b (ending H (number_of d.owner)) None) e.call ≡ true → UnderWay H e
    ended true begun x =
        let some = some_due (ending H (number_of d.owner)) e.call x in
        layer_way H e l f d layer (inr (inr (record { begun = begun; left = left_of H e.conn e.tenure d.owner l d.lent some }))) (λ h. ending_over H (number_of d.owner) some)
        (λ call. clash (sym call ∙ begin_owner H e.conn e.tenure d.owner l d.lent (begun_begins H (number_of d.owner) l begun)))
    ended false begun x = absurd cc

    over_rows : (b : Bool) → are_over H (number_of d.owner) ≡ b → is_due (cond b (line_of H (number_of d.owner) wishes.Close) None) e.call ≡ true → UnderWay H e
    over_rows true gone x =
        let there = line_here H e.conn e.tenure d.owner (number_of d.owner) wishes.Close l d.lent own in
        let here : is_due (line_there H e.conn e.tenure d.owner (number_of d.owner) wishes.Close) e.call ≡ true = ap (λ o. is_due o e.call) (sym there) ∙ x in
        layer_way H e l f d layer (inr (inl (record { some = over_some (rows_by H (number_of d.owner)) gone; sends = some_due (line_there H e.conn e.tenure d.owner (number_of d.owner) wishes.Close) e.call here })))
        (λ h. clash (sym h ∙ no_ending H (number_of d.owner) wishes.Close e.call x))
        (λ call. (wishes.Close, ap (λ o. is_due o e.call) (sym (line_of_call H e.conn e.tenure d.owner wishes.Close l d.lent call)) ∙ here))
    over_rows false gone x = absurd cc

    closed : (b : Bool) → is_due (cond b (close_due H (number_of d.owner)) None) e.call ≡ true → UnderWay H e
    closed true x = over_rows (are_over H (number_of d.owner)) refl x
    closed false x = absurd cc

    by : (b : Bool) → is_begun H (number_of d.owner) ≡ b → is_due (cond b (cond (tx_ender H (number_of d.owner) == 0) (ending H (number_of d.owner)) None) (cond (ender H (number_of d.owner) == 0) (close_due H (number_of d.owner)) None)) e.call ≡ true → UnderWay H e
    by true begun x = ended (tx_ender H (number_of d.owner) == 0) begun x
    by false begun x = closed (ender H (number_of d.owner) == 0) x

-- The line of a call in a transaction is `inner_after` of its own entries.
pub inner_is : (H : List Event) (c t : ℕ) (own : Owner) (m : ℕ) (w : Wish) (k : ℕ) → is_call own ≡ false → scope (work H m) ≡ Held k
    → line_there H c t own m w ≡ inner_after (caps H) (went_bad (journal H c)) (asked_by H m) w (line_among m (heard_in H c t))
inner_is H c t own m w k other s =
    by (work H m) s ∙ ap (λ b. inner_after (caps H) (went_bad (journal H c)) (asked_by H m) w (cond b (heard_in H c t) (line_among m (heard_in H c t)))) other
  where
    by : (v : Work) → scope v ≡ Held k → line_for v (scope v) (sender H m c w) (line_in own m (heard_in H c t)) ≡ inner_after (caps H) (went_bad (journal H c)) (asked_by H m) w (line_in own m (heard_in H c t))
    by (Statement (Held j) task) x = refl
    by v x = absurd cc

pub inner_line : (H : List Event) (c t : ℕ) (own : Owner) (m : ℕ) (w : Wish) (k : ℕ) → is_call own ≡ false → scope (work H m) ≡ Held k
    → is_some (line_there H c t own m w) ≡ is_some (inner_after (caps H) (went_bad (journal H c)) (asked_by H m) w (line_among m (heard_in H c t)))
inner_line H c t own m w k other s = ap (λ d. is_some d) (inner_is H c t own m w k other s)

-- The entry is in the own line of a call on the database.

own_due : (H : List Event) (e : Entry) → Lawful H → (d : DueNow H e) → (e.call_no == 0) ≡ false → asks (work H e.call_no) ≡ true → is_due_at H (place H e.conn) e ≡ true → is_unfinished H e.call_no ≡ true → UnderWay H e
own_due H e l d some asking h u =
    let w = own_now H e l some asking h in
    let same : w.owner ≡ d.owner = same_lent e.tenure e.tenure w.owner d.owner (sym w.lent ∙ d.lent) in
    let own : number_of d.owner ≡ e.call_no = ap number_of (sym same) ∙ w.own in
    let due : is_due (line_there H e.conn e.tenure d.owner (number_of d.owner) wishes.Nothing) e.call ≡ true = subst (λ o. is_due (line_there H e.conn e.tenure o (number_of o) wishes.Nothing) e.call ≡ true) same w.due in
    record {
      owner = d.owner;
      lent = d.lent;
      borrowed = λ k. asks_own H e.call_no asking ∙ sym own;
      unfinished = λ k. u;
      rowed = λ j which. asks_rowless (work H e.call_no) j asking which;
      why = inl (record { itself = own; unfinished = ap (is_unfinished H) own ∙ u; sends = some_due (line_there H e.conn e.tenure d.owner (number_of d.owner) wishes.Nothing) e.call due });
      ending = λ x. clash (sym x ∙ no_ending_due (line_there H e.conn e.tenure d.owner (number_of d.owner) wishes.Nothing) e.call (with_ends (sender H (number_of d.owner) e.conn wishes.Nothing) (line_in d.owner (number_of d.owner) (heard_in H e.conn e.tenure))) due);
      within = λ s. asks_outside (work H e.call_no) (number_of d.owner) asking s;
      line = λ call. (wishes.Nothing, ap (λ o. is_due o e.call) (sym (line_of_call H e.conn e.tenure d.owner wishes.Nothing l d.lent call)) ∙ due);
      turn = turn_of H e l d;
    }
  where
    same_lent : (t u : ℕ) (o p : Owner) → Some (Lent t o) ≡ Some (Lent u p) → o ≡ p
    same_lent t u o p k = cc

    asks_rowless : {A : Type 0} (w : Work) (j : ℕ) → asks w ≡ true → (w ≡ Fetch j) ⊎ (w ≡ Close j) → A
    asks_rowless w j a (inl is) = let wrong : true ≡ false = sym a ∙ ap asks is in absurd cc
    asks_rowless w j a (inr is) = let wrong : true ≡ false = sym a ∙ ap asks is in absurd cc

    asks_outside : {A : Type 0} (w : Work) (k : ℕ) → asks w ≡ true → scope w ≡ Held k → A
    asks_outside (Statement Db task) k a s = absurd cc
    asks_outside (Begin label level read_only) k a s = absurd cc
    asks_outside Ping k a s = absurd cc
    asks_outside w k a s = absurd cc

-- The entry is of a call in a transaction.

rows_outside : {A : Type 0} (H : List Event) (m j k : ℕ) → (work H m ≡ Fetch j) ⊎ (work H m ≡ Close j) → scope (work H m) ≡ Held k → A
rows_outside H m j k (inl is) s = let wrong : Db ≡ Held k = sym (ap scope is) ∙ s in absurd cc
rows_outside H m j k (inr is) s = let wrong : Db ≡ Held k = sym (ap scope is) ∙ s in absurd cc

inside_due : (H : List Event) (e : Entry) (k : ℕ) → Lawful H → Facts H → (d : DueNow H e) → (e.call_no == 0) ≡ false → scope (work H e.call_no) ≡ Held k → DueOf H e.call_no e.call → UnderWay H e
inside_due H e k l f d some s o =
    let i = due_within H e.call_no k e.call (work H e.call_no) s o.due in
    let own : number_of d.owner ≡ borrower H e.call_no = line_at_its H e.call_no e.conn e.tenure d.owner wishes.Nothing e.call (d.site some) d.lent i.due in
    let number : number_of d.owner ≡ k = own ∙ inside_uses H e.call_no k s in
    way number (sym own) (ap (λ b. b) (subst (λ j. sends_in H e.call_no j ≡ true) (sym number) i.sends)) (subst (λ j. scope (work H e.call_no) ≡ Held j) (sym number) s) i.due
  where
    m : ℕ
    m = e.call_no

    begun_with : sends_in H e.call_no (number_of d.owner) ≡ true → scope (work H e.call_no) ≡ Held (number_of d.owner) → is_begun H (number_of d.owner) ≡ true
    begun_with sends inner = by (has_begun_to_send H e.call_no) refl sends
      where
        going : (b o c : Bool) → is_begun H (number_of d.owner) ≡ b → ((b && not o) && c) ≡ true → is_begun H (number_of d.owner) ≡ true
        going true o c is x = is
        going false o c is x = absurd cc

        by : (b : Bool) → has_begun_to_send H e.call_no ≡ b → (b || (goes_on H (number_of d.owner) && is_none (decided H e.call_no))) ≡ true → is_begun H (number_of d.owner) ≡ true
        by true begun x = let j = inside H l in j.sent e.call_no (number_of d.owner) (site H e.call_no) begun inner
        by false begun x = going (is_begun H (number_of d.owner)) (is_over H (number_of d.owner)) (is_none (decided H e.call_no)) refl x

    way : number_of d.owner ≡ k → borrower H e.call_no ≡ number_of d.owner → sends_in H e.call_no (number_of d.owner) ≡ true → scope (work H e.call_no) ≡ Held (number_of d.owner) → is_due (line_of H e.call_no wishes.Nothing) e.call ≡ true → UnderWay H e
    way number at sends inner due = by (is_over H (number_of d.owner)) refl
      where
        begun : is_begun H (number_of d.owner) ≡ true
        begun = begun_with sends inner

        there : is_due (line_there H e.conn e.tenure d.owner e.call_no wishes.Nothing) e.call ≡ true
        there = ap (λ x. is_due x e.call) (sym (line_here H e.conn e.tenure d.owner e.call_no wishes.Nothing l d.lent at)) ∙ due

        some_there : is_some (line_there H e.conn e.tenure d.owner e.call_no wishes.Nothing) ≡ true
        some_there = some_due (line_there H e.conn e.tenure d.owner e.call_no wishes.Nothing) e.call there

        made : Left H e.conn e.tenure d.owner → (ended_there (heard_in H e.conn e.tenure) ≡ false) ⊎ (handed_there H e.conn e.tenure e.call_no ≡ true) → UnderWay H e
        made left within = record {
          owner = d.owner;
          lent = d.lent;
          borrowed = λ x. at;
          unfinished = λ x. o.unfinished;
          rowed = λ j which. rows_outside H e.call_no j (number_of d.owner) which inner;
          why = inr (inr (record { begun = begun; left = left }));
          ending = λ x. clash (sym x ∙ no_ending H e.call_no wishes.Nothing e.call due);
          within = λ x. record { due = there; left = within };
          line = λ call. clash (sym call ∙ begin_owner H e.conn e.tenure d.owner l d.lent (begun_begins H (number_of d.owner) l begun));
          turn = turn_of H e l d;
        }

        -- The transaction is over, and the call handed rows out.
        handed : is_over H (number_of d.owner) ≡ true → handed_there H e.conn e.tenure e.call_no ≡ true → UnderWay H e
        handed gone h =
            let hands = hands_of (work H e.call_no) (line_made H e.conn e.tenure e.call_no) h in
            let rows = handed_made H e.conn e.tenure e.call_no l hands (cursor (work H e.call_no) (line_made H e.conn e.tenure e.call_no) h) in
            let in_it = hands_in (work H e.call_no) (number_of d.owner) hands inner in
            made (inr (inl (e.call_no, record { hands = in_it; over = dead (rows_by H e.call_no) refl rows in_it; sends = closes_too H e.conn e.tenure d.owner e.call_no some_there }))) (inr h)
          where
            cursor : (w : Work) (xs : List Exchange) → is_some (plain.handed (aim_of w) xs) ≡ true → is_some (own_cursor xs) ≡ true
            cursor (Statement s (HandOut label)) xs x = x
            cursor w xs x = absurd cc

            hands_in : (w : Work) (j : ℕ) → hands_out w ≡ true → scope w ≡ Held j → hands_out_in j w ≡ true
            hands_in (Statement s (HandOut label)) j x y = ap (is_in j) y ∙ same_itself j
            hands_in w j x y = absurd cc

            dead : (r : Option Rows) → rows_by H e.call_no ≡ r → is_some r ≡ true → hands_out_in (number_of d.owner) (work H e.call_no) ≡ true → are_over H e.call_no ≡ true
            dead r is x in_it = by_live (are_live H e.call_no) refl
              where
                by_live : (b : Bool) → are_live H e.call_no ≡ b → are_over H e.call_no ≡ true
                by_live true lives =
                    let goes = live_goes H e.call_no (number_of d.owner) l lives in_it in
                    let b = both (is_begun H (number_of d.owner)) (not (is_over H (number_of d.owner))) goes in
                    clash (sym b.1 ∙ ap (λ y. not y) gone)
                by_live false lives = dead_over (rows_by H e.call_no) (ap (λ p. is_some p) is ∙ x) lives

        begun_to : is_over H (number_of d.owner) ≡ true → has_sent e.call_no (journal H e.conn) ≡ true
        begun_to gone = by_sent (has_begun_to_send H e.call_no) refl sends
          where
            by_sent : (b : Bool) → has_begun_to_send H e.call_no ≡ b → (b || (goes_on H (number_of d.owner) && is_none (decided H e.call_no))) ≡ true → has_sent e.call_no (journal H e.conn) ≡ true
            by_sent true is x = ap (λ c. has_sent e.call_no (journal H c)) (sym (d.site some)) ∙ is
            by_sent false is x =
                let b = both (goes_on H (number_of d.owner)) (is_none (decided H e.call_no)) x in
                let c = both (is_begun H (number_of d.owner)) (not (is_over H (number_of d.owner))) b.0 in
                clash (sym c.1 ∙ ap (λ y. not y) gone)

        -- If the call has nothing more to send, nothing is due.
        quiet_line : is_some (line_there H e.conn e.tenure d.owner e.call_no wishes.Nothing) ≡ is_some (inner_after (caps H) (went_bad (journal H e.conn)) (asked_by H e.call_no) wishes.Nothing (line_among e.call_no (heard_in H e.conn e.tenure)))
        quiet_line = inner_line H e.conn e.tenure d.owner e.call_no wishes.Nothing (number_of d.owner) (begin_owner H e.conn e.tenure d.owner l d.lent (begun_begins H (number_of d.owner) l begun)) inner

        from : is_over H (number_of d.owner) ≡ true → Going H e.conn e.tenure e.call_no → UnderWay H e
        from gone (inl h) = handed gone h
        from gone (inr (inl n)) = made (inl n.none) (inl n.none)
        from gone (inr (inr q)) = clash (sym some_there ∙ (quiet_line ∙ quiet_sends_none (caps H) (went_bad (journal H e.conn)) (asked_by H e.call_no) wishes.Nothing (line_among e.call_no (heard_in H e.conn e.tenure)) q))

        by : (b : Bool) → is_over H (number_of d.owner) ≡ b → UnderWay H e
        by true gone = from gone (f.going e.conn e.tenure d.owner d.lent e.call_no inner o.unfinished (begun_to gone))
        by false on = let none = f.ends e.conn e.tenure d.owner d.lent on in made (inl none) (inl none)

-- The entry is of a call over rows.

pub borrow_same : (H : List Event) (m j : ℕ) → (work H m ≡ Fetch j) ⊎ (work H m ≡ Close j) → hands_out (work H j) ≡ true → borrower H m ≡ borrower H j
borrow_same H m j which h = by (work H j) refl h which
  where
    by : (v : Work) → work H j ≡ v → hands_out v ≡ true → (work H m ≡ Fetch j) ⊎ (work H m ≡ Close j) → borrower H m ≡ borrower H j
    by (Statement s (HandOut label)) its x (inl is) = rw (is, its) refl
    by (Statement s (HandOut label)) its x (inr is) = rw (is, its) refl
    by v its x which = absurd cc

rows_due : (H : List Event) (e : Entry) (j : ℕ) → Lawful H → Facts H → (d : DueNow H e) → (e.call_no == 0) ≡ false → (work H e.call_no ≡ Fetch j) ⊎ (work H e.call_no ≡ Close j) → is_unfinished H e.call_no ≡ true
    → is_due (sent_for H j (wish H e.call_no j)) e.call ≡ true → UnderWay H e
rows_due H e j l f d some which u due = by (closes H e.call_no j) (is_fetch (work H e.call_no) && (are_live H j && is_none (decided H e.call_no))) refl refl due
  where
    rows : is_some (rows_by H j) ≡ true
    rows = sent_made H e.call_no j some (some_due (sent_for H j (wish H e.call_no j)) e.call due)

    at : borrower H e.call_no ≡ borrower H j
    at = borrow_same H e.call_no j which (rows_hand_out H j rows)

    here : site H j ≡ e.conn
    here = ap (home H) (sym (borrow_same H e.call_no j which (rows_hand_out H j (sent_made H e.call_no j some (some_due (sent_for H j (wish H e.call_no j)) e.call due))))) ∙ d.site some

    numbered : e.call_no ≢ 0
    numbered none = never (e.call_no == 0) (ap (λ i. i == 0) none) some
      where
        never : (b : Bool) → b ≡ true → b ≡ false → ⊥
        never b x y = cc

    -- The entry is wanted of the rows, and they keep the connection in use.
    wanted : (w : Wish) → is_due (line_of H j w) e.call ≡ true → number_of d.owner ≡ borrower H j
        → (borrower H j ≡ j → is_call d.owner ≡ true → is_some (line_there H e.conn e.tenure d.owner (number_of d.owner) wishes.Close) ≡ true)
        → ((k : ℕ) → hands_out_in k (work H j) ≡ true → number_of d.owner ≡ k → WhyTx H e.conn e.tenure d.owner) → UnderWay H e
    wanted w x number sends tx = record {
      owner = d.owner;
      lent = d.lent;
      borrowed = λ y. at ∙ sym number;
      unfinished = λ y. u;
      rowed = λ i its. ap (λ x. is_some (rows_by H x)) (same_rows (work H e.call_no) i its which) ∙ rows;
      why = why_of (work H j) refl (rows_hand_out H j rows);
      ending = λ y. clash (sym y ∙ no_ending H j w e.call x);
      within = λ s. rows_outside H e.call_no j (number_of d.owner) which s;
      line = λ call. (w, line_as (work H j) refl (rows_hand_out H j rows) call);
      turn = turn_of H e l d;
    }
      where
        same_rows : (v : Work) (i : ℕ) → (v ≡ Fetch i) ⊎ (v ≡ Close i) → (v ≡ Fetch j) ⊎ (v ≡ Close j) → i ≡ j
        same_rows v i (inl a) (inl b) = let same : Fetch i ≡ Fetch j = sym a ∙ b in cc
        same_rows v i (inl a) (inr b) = let same : Fetch i ≡ Close j = sym a ∙ b in cc
        same_rows v i (inr a) (inl b) = let same : Close i ≡ Fetch j = sym a ∙ b in cc
        same_rows v i (inr a) (inr b) = let same : Close i ≡ Close j = sym a ∙ b in cc

        there : is_due (line_there H e.conn e.tenure d.owner j w) e.call ≡ true
        there = ap (λ o. is_due o e.call) (sym (line_here H e.conn e.tenure d.owner j w l d.lent (sym number))) ∙ x

        own_call : (label : List ℕ) → work H j ≡ Statement Db (HandOut label) → number_of d.owner ≡ j
        own_call label is = number ∙ rw is refl

        is_own_call : (label : List ℕ) → work H j ≡ Statement Db (HandOut label) → is_call d.owner ≡ true
        is_own_call label is =
            let o = owner_is_of H e.conn e.tenure d.owner l d.lent in
            ap is_call o.1 ∙ ap (λ v. is_call (owner_as v (number_of d.owner))) (ap (work H) (own_call label is) ∙ is)

        tx_of : (k : ℕ) (label : List ℕ) → work H j ≡ Statement (Held k) (HandOut label) → number_of d.owner ≡ k
        tx_of k label is = number ∙ rw is refl

        why_of : (v : Work) → work H j ≡ v → hands_out v ≡ true → Why H e.conn e.tenure d.owner e.call_no
        why_of (Statement Db (HandOut label)) is y =
            inr (inl (record {
              some = ap (λ i. is_some (rows_by H i)) (own_call label is) ∙ rows;
              sends = sends (sym number ∙ own_call label is) (is_own_call label is);
            }))
        why_of (Statement (Held k) (HandOut label)) is y = inr (inr (tx k (ap (hands_out_in k) is ∙ same_itself k) (tx_of k label is)))
        why_of v is y = absurd cc

        line_as : (v : Work) → work H j ≡ v → hands_out v ≡ true → is_call d.owner ≡ true → is_due (call_line H e.conn e.tenure d.owner w) e.call ≡ true
        line_as (Statement Db (HandOut label)) is y call =
            ap (λ o. is_due o e.call) (sym (line_of_call H e.conn e.tenure d.owner w l d.lent call)) ∙ subst (λ i. is_due (line_there H e.conn e.tenure d.owner i w) e.call ≡ true) (sym (own_call label is)) there
        line_as (Statement (Held k) (HandOut label)) is y call =
            let begun = rows_begun H j k l rows (ap (hands_out_in k) is ∙ same_itself k) in
            let its : is_begun H (number_of d.owner) ≡ true = ap (is_begun H) (tx_of k label is) ∙ begun in
            clash (sym call ∙ begin_owner H e.conn e.tenure d.owner l d.lent (begun_begins H (number_of d.owner) l its))
        line_as v is y call = absurd cc

    number_at : (w : Wish) → is_due (line_of H j w) e.call ≡ true → number_of d.owner ≡ borrower H j
    number_at w x = line_at_its H j e.conn e.tenure d.owner w e.call here d.lent x

    closing_way : closes H e.call_no j ≡ true → is_due (line_of H j wishes.Close) e.call ≡ true → UnderWay H e
    closing_way ends x = wanted wishes.Close x number (λ own call. some_due (line_there H e.conn e.tenure d.owner (number_of d.owner) wishes.Close) e.call (subst (λ i. is_due (line_there H e.conn e.tenure d.owner i wishes.Close) e.call ≡ true) (sym (number ∙ own)) there)) tx
      where
        number : number_of d.owner ≡ borrower H j
        number = number_at wishes.Close x

        there : is_due (line_there H e.conn e.tenure d.owner j wishes.Close) e.call ≡ true
        there = ap (λ o. is_due o e.call) (sym (line_here H e.conn e.tenure d.owner j wishes.Close l d.lent (sym (number_at wishes.Close x)))) ∙ x

        gone : are_over H j ≡ true
        gone = let y = both (ender H j == e.call_no) _ ends in ender_over H j (λ none. numbered (sym (same_number (ender H j) e.call_no y.0) ∙ none))

        tx : (k : ℕ) → hands_out_in k (work H j) ≡ true → number_of d.owner ≡ k → WhyTx H e.conn e.tenure d.owner
        tx k hands its = record {
          begun = ap (is_begun H) its ∙ rows_begun H j k l rows hands;
          left = inr (inl (j, record { hands = subst (λ i. hands_out_in i (work H j) ≡ true) (sym its) hands; over = gone; sends = some_due (line_there H e.conn e.tenure d.owner j wishes.Close) e.call there }));
        }

    fetching_way : are_live H j ≡ true → is_due (line_of H j wishes.Fetch) e.call ≡ true → UnderWay H e
    fetching_way lives x = wanted wishes.Fetch x number closed tx
      where
        number : number_of d.owner ≡ borrower H j
        number = number_at wishes.Fetch x

        there : is_due (line_there H e.conn e.tenure d.owner j wishes.Fetch) e.call ≡ true
        there = ap (λ o. is_due o e.call) (sym (line_here H e.conn e.tenure d.owner j wishes.Fetch l d.lent (sym (number_at wishes.Fetch x)))) ∙ x

        closed : borrower H j ≡ j → is_call d.owner ≡ true → is_some (line_there H e.conn e.tenure d.owner (number_of d.owner) wishes.Close) ≡ true
        closed own call =
            let L = heard_in H e.conn e.tenure in
            let asked = asked_by H (number_of d.owner) in
            let its : is_due (line_there H e.conn e.tenure d.owner (number_of d.owner) wishes.Fetch) e.call ≡ true = subst (λ i. is_due (line_there H e.conn e.tenure d.owner i wishes.Fetch) e.call ≡ true) (sym (number ∙ own)) there in
            let fetched : is_some (call_line H e.conn e.tenure d.owner wishes.Fetch) ≡ true = some_due (call_line H e.conn e.tenure d.owner wishes.Fetch) e.call (ap (λ o. is_due o e.call) (sym (line_of_call H e.conn e.tenure d.owner wishes.Fetch l d.lent call)) ∙ its) in
            ap (λ o. is_some o) (line_of_call H e.conn e.tenure d.owner wishes.Close l d.lent call) ∙ fetch_closes (caps H) (is_reset_due H e.conn) asked L (f.made e.conn e.tenure d.owner d.lent call) fetched

        tx : (k : ℕ) → hands_out_in k (work H j) ≡ true → number_of d.owner ≡ k → WhyTx H e.conn e.tenure d.owner
        tx k hands its =
            let goes = live_goes H j k l lives hands in
            let b = both (is_begun H k) (not (is_over H k)) goes in
            let on : is_over H (number_of d.owner) ≡ false = ap (is_over H) its ∙ not_true (is_over H k) b.1 in
            record { begun = ap (is_begun H) its ∙ b.0; left = inl (f.ends e.conn e.tenure d.owner d.lent on) }

    by : (a b : Bool) → closes H e.call_no j ≡ a → (is_fetch (work H e.call_no) && (are_live H j && is_none (decided H e.call_no))) ≡ b → is_due (sent_for H j (wish_as a b)) e.call ≡ true → UnderWay H e
    by true b ends fetches x = closing_way ends x
    by false true ends fetches x =
        let y = both (is_fetch (work H e.call_no)) (are_live H j && is_none (decided H e.call_no)) fetches in
        let z = both (are_live H j) (is_none (decided H e.call_no)) y.1 in
        fetching_way z.0 x
    by false false ends fetches x = absurd cc

-- The entry is of a call that ends a transaction.

end_due : (H : List Event) (e : Entry) (k : ℕ) → Lawful H → (d : DueNow H e) → (e.call_no == 0) ≡ false → work H e.call_no ≡ End k → is_unfinished H e.call_no ≡ true → is_due (cond (tx_ender H k == e.call_no) (ending H k) None) e.call ≡ true → UnderWay H e
end_due H e k l d some is u due = by (tx_ender H k == e.call_no) due
  where
    uses : borrower H e.call_no ≡ k
    uses = rw is refl

    way : is_some (ending H k) ≡ true → UnderWay H e
    way x =
        let at : home H k ≡ e.conn = ap (home H) (sym uses) ∙ d.site some in
        let number = at_number H k e.conn e.tenure d.owner x at d.lent in
        let gone : is_over H (number_of d.owner) ≡ true = ap (is_over H) number ∙ ending_over H k x in
        let begun = over_begun H (number_of d.owner) gone in
        let sends : is_some (ending H (number_of d.owner)) ≡ true = ap (λ i. is_some (ending H i)) number ∙ x in
        record {
          owner = d.owner;
          lent = d.lent;
          borrowed = λ y. uses ∙ sym number;
          unfinished = λ y. u;
          rowed = λ j which. rowless j which;
          why = inr (inr (record { begun = begun; left = left_of H e.conn e.tenure d.owner l d.lent sends }));
          ending = λ y. gone;
          within = λ s. outside (number_of d.owner) s;
          line = λ call. clash (sym call ∙ begin_owner H e.conn e.tenure d.owner l d.lent (begun_begins H (number_of d.owner) l begun));
          turn = turn_of H e l d;
        }
      where
        rowless : {A : Type 0} (j : ℕ) → (work H e.call_no ≡ Fetch j) ⊎ (work H e.call_no ≡ Close j) → A
        rowless j (inl its) = let wrong : Fetch j ≡ End k = sym its ∙ is in absurd cc
        rowless j (inr its) = let wrong : Close j ≡ End k = sym its ∙ is in absurd cc

        outside : {A : Type 0} (j : ℕ) → scope (work H e.call_no) ≡ Held j → A
        outside j s = let wrong : Db ≡ Held j = sym (ap scope is) ∙ s in absurd cc

    by : (b : Bool) → is_due (cond b (ending H k) None) e.call ≡ true → UnderWay H e
    by true x = way (some_due (ending H k) e.call x)
    by false x = absurd cc

-- In all of these cases, an entry that is due is under way.

pub due_under_way : (H : List Event) (e : Entry) → Lawful H → Facts H → is_due_at H (place H e.conn) e ≡ true → UnderWay H e
due_under_way H e l f h = whose (e.call_no == 0) refl (due_now H e h)
  where
    work_of : (d : DueNow H e) → (e.call_no == 0) ≡ false → DueOf H e.call_no e.call → (w : Work) → work H e.call_no ≡ w → is_due (due_in H e.call_no w) e.call ≡ true → UnderWay H e
    work_of d some o (Statement (Held k) task) is x = inside_due H e k l f d some (ap scope is) o
    work_of d some o (Fetch j) is x = rows_due H e j l f d some (inl is) o.unfinished x
    work_of d some o (Close j) is x = rows_due H e j l f d some (inr is) o.unfinished x
    work_of d some o (End k) is x = end_due H e k l d some is o.unfinished x
    work_of d some o Look is x = absurd cc
    work_of d some o _ is x = own_due H e l d some (ap asks is) h o.unfinished

    whose : (b : Bool) → (e.call_no == 0) ≡ b → DueNow H e → UnderWay H e
    whose true layer d = layer_due H e l f d layer (ap (λ b. is_due (cond b (tidying H (number_of d.owner)) (due_for H e.call_no)) e.call) (sym layer) ∙ d.due)
    whose false some d =
        let o = due_of H e.call_no e.call (ap (λ b. is_due (cond b (tidying H (number_of d.owner)) (due_for H e.call_no)) e.call) (sym some) ∙ d.due) in
        work_of d some o (work H e.call_no) refl o.due
