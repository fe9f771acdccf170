-- Any answer that fits may follow, and a tenure whose connection isn't in use is whole.
use Rattle.std.proofs.Common.{◌≡◌, ℕ, ◌⊎◌, inl, inr, Bool, true, false, not, ◌&&◌, ◌||◌, cond, List, [], ◌∷◌, Option, Some, None, is_some, refl, sym, ap, subst, ◌∙◌, arith}
use Rattle.dsql_laws_calls.specs.driver.declared.answer.DriverAnswer.{DriverAnswer}
use Rattle.dsql_laws_calls.specs.driver.declared.call.DriverCall.{DriverCall}
use Rattle.dsql_laws_calls.specs.driver.declared.call.DriverCall.TheVariants as calls
use Rattle.dsql_laws_calls.specs.driver.declared.call.DriverCall.TheVariants.{Shut}
use Rattle.dsql_laws_calls.specs.driver.declared.call.Input.TheVariants.{Text, Handle}
use Rattle.dsql_laws_calls.specs.driver.declared.caps.Caps.{Caps}
use Rattle.dsql_laws_calls.specs.driver.Fits.{fits_of, is_done, is_memory}
use Rattle.dsql_laws_calls.specs.driver.Kinds.{is_bad, is_begin, is_ending, is_reset, is_valid}
use Rattle.dsql_laws_calls.specs.course.declared.course.Wish.{Wish}
use Rattle.dsql_laws_calls.specs.course.declared.course.Wish.TheVariants as wishes
use Rattle.dsql_laws_calls.specs.journal.declared.entry.Entry.{Entry}
use Rattle.dsql_laws_calls.specs.journal.declared.entry.Owner.{Owner}
use Rattle.dsql_laws_calls.specs.journal.declared.entry.Owner.TheVariants.{Call, Tx, Pin, House}
use Rattle.dsql_laws_calls.specs.journal.Entries.{shut_entry}
use Rattle.dsql_laws_calls.specs.journal.HandlesAndCursors.{fits_at_its_place}
use Rattle.dsql_laws_calls.specs.journal.Journal.{may_follow}
use Rattle.dsql_laws_calls.specs.journal.Kinds.{is_call, number_of}
use Rattle.dsql_laws_calls.specs.journal.Readers.{went_bad}
use Rattle.dsql_laws_calls.specs.journal.Tenure.{is_whole_tenure}
use Rattle.dsql_laws_calls.specs.pool.declared.conn.Place.TheVariants.{Closing, Lent}
use Rattle.dsql_laws_calls.specs.pool.Places.{is_closing, is_opening}
use Rattle.dsql_laws_calls.specs.pool.Pooled.{next_tenure}
use Rattle.dsql_laws_calls.specs.tx.declared.end.TxEnd.{TxEnd}
use Rattle.dsql_laws_calls.specs.works.Exchanges.{step_of}
use Rattle.dsql_laws_calls.specs.works.Line.{handed, test_of, body_after}
use Rattle.dsql_laws_calls.proofs.laws_work.CallLines.{sent_entry}
use Rattle.dsql_laws_calls.proofs.laws_work.Lines.{sent_entry_of}
use Rattle.dsql_laws_calls.proofs.laws.Places.{neither}
use Rattle.dsql_laws_calls.specs.history.declared.event.Event.{Event}
use Rattle.dsql_laws_calls.specs.history.declared.work.Scope.TheVariants.{Held as In}
use Rattle.dsql_laws_calls.specs.history.declared.work.Work.{Work}
use Rattle.dsql_laws_calls.specs.history.declared.work.Work.TheVariants.{Begin}
use Rattle.dsql_laws_calls.specs.history.Readers.Course.{caps}
use Rattle.dsql_laws_calls.specs.history.Readers.HandedOut.{are_live, rows_by}
use Rattle.dsql_laws_calls.specs.history.Readers.Journals.{heard_in, journal}
use Rattle.dsql_laws_calls.specs.history.Readers.Owed.{owed}
use Rattle.dsql_laws_calls.specs.history.Readers.Pool.{place, pool}
use Rattle.dsql_laws_calls.specs.history.Readers.Transactions.{goes_on, is_begun, is_over, tx_end}
use Rattle.dsql_laws_calls.specs.history.Readers.Works.{aim_of, scope, work}
use Rattle.dsql_laws_calls.specs.history.Rules.Causes.{goes_in_turn}
use Rattle.dsql_laws_calls.specs.history.Rules.Ending.{ending}
use Rattle.dsql_laws_calls.specs.history.Rules.Line.{is_due, is_used, may_come, rest, rest_with}
use Rattle.dsql_laws_calls.specs.history.Rules.Sent.{asked_by, begin_after, begin_line, is_reset_due, untested}
use Rattle.dsql_laws_calls.specs.history.Legal.{Lawful}
use Rattle.dsql_laws_calls.specs.laws.Leaving.{MayLeave}
use Rattle.dsql_laws_tenures.proofs.TenureQuiet.{may_follow-shut}
use Rattle.dsql_laws_tenures.proofs.Serves.{may_follow-due}
use Rattle.dsql_laws_tenures.proofs.TenureStanding.{done_whole}
use Rattle.dsql_laws_tenures.specs.Orderly.{OpensOnce, PreparesOnce}
use Rattle.dsql_laws_tenures.specs.Tenures.{IsIn, made_by}
use Rattle.dsql_laws_tenures.proofs.BeginFollows.{begin_follows}
use Rattle.dsql_laws_tenures.proofs.EndTests.{test_follows}
use Rattle.dsql_laws_tenures.proofs.Inside.{due_follows, ending_follows, ending_follows-bad}
use Rattle.dsql_laws_tenures.proofs.LinesKept.{lines_once, lines_prepare_once}
use Rattle.dsql_laws_tenures.proofs.Unbegun.{whole_unbegun}
use Rattle.dsql_laws_tenures.proofs.WholeTenures.{whole_when_bad, whole_when_closed}
use Rattle.dsql_laws_calls.proofs.CallTenures.{call_line, plain_due}
use Rattle.dsql_laws_calls.proofs.Coming.{sound}
use Rattle.dsql_laws_calls.proofs.DueWay.{inner_is}
use Rattle.dsql_laws_calls.proofs.FirstAnswers.{unheard}
use Rattle.dsql_laws_calls.proofs.Lines.{line_there}
use Rattle.dsql_laws_calls.proofs.Own.{some_due}
use Rattle.dsql_laws_calls.proofs.Owners.{owner_is_of}
use Rattle.dsql_laws_calls.proofs.Plain as of_plain
use Rattle.dsql_laws_calls.proofs.Plain.{line_plain}
use Rattle.dsql_laws_calls.proofs.UnderWay.{clash, handed_there, UnderWay}
use Rattle.dsql_laws_calls.proofs.Why.{ended_there, ending_some, scoped}
use Rattle.dsql_laws_due.specs.Carried.{carried, is_outside}
use Rattle.dsql_laws_due.proofs.CallRows.{finished}
use Rattle.dsql_laws_due.proofs.Came.{BeginsWay, came, Came, InnerWay}
use Rattle.dsql_laws_due.proofs.Holds.{AllShut, asked_in, begin_of, EndsWay, Kept, RowsWay, TestsWay}
use Rattle.dsql_laws_due.proofs.Kept.{holds}
use Rattle.dsql_laws_due.proofs.KeptHeard.{begin_due}
use Rattle.dsql_laws_due.proofs.LineEnds.{bad_none}
use Rattle.dsql_laws_due.proofs.LineFacts.{body_due, line_about, line_facts, line_steps, shut_about}
use Rattle.dsql_laws_due.proofs.Owned.{of_transaction, owner_tx}
use Rattle.dsql_laws_due.proofs.Standing.{closing_leaves, lent_to, LentTo, lends}
use Rattle.dsql_laws_due.proofs.Stood.{stands}
use Rattle.dsql_laws_due.proofs.TxTenures.{goes_on_tx, has_ended_tx, lent_to_tx}
use Rattle.dsql_laws_due.proofs.Ways.{owner_begins}

-- A connection that is lent to a call on the database.

call_follows : (H : List Event) (e : Entry) (n : ℕ) → Lawful H → may_come H e ≡ true → place H e.conn ≡ Some (Lent e.tenure (Call n)) → e.owner ≡ Call n → e.tx ≡ 0 → fits_at_its_place (journal H e.conn) e ≡ true
    → may_follow (journal H e.conn) e ≡ true
call_follows H e n l h is owner tx fits =
    let s = sound H l in
    let f = s.facts in
    let works = lent_to H e.conn e.tenure (Call n) (stands H l e.conn) is in
    let same : e ≡ sent_entry e.conn e.tenure n e.call_no e.call e.answer = sent_entry_of e.conn e.tenure n e.call_no e refl refl owner refl tx in
    let there : fits_at_its_place (journal H e.conn) (sent_entry e.conn e.tenure n e.call_no e.call e.answer) ≡ true = subst (λ (x : Entry). fits_at_its_place (journal H e.conn) x ≡ true) same fits in
    let x = line_to (s.coming e h) in
    let due = plain_due (call_line H e.conn e.tenure (Call n) x.0) e.call (line_plain (caps H) (is_reset_due H e.conn) (asked_by H n) x.0 (heard_in H e.conn e.tenure)) x.1 in
    let may = may_follow-due e.conn e.tenure n e.call_no (journal H e.conn) (caps H) (is_reset_due H e.conn) (asked_by H n) x.0 e.call e.answer works.serves (f.made e.conn e.tenure (Call n) is refl) due there in
    subst (λ (x : Entry). may_follow (journal H e.conn) x ≡ true) (sym same) may
  where
    same_lent : (o p : Owner) → Some (Lent e.tenure o) ≡ Some (Lent e.tenure p) → o ≡ p
    same_lent o p k = cc

    line_to : UnderWay H e → (w : Wish) × (is_due (call_line H e.conn e.tenure (Call n) w) e.call ≡ true)
    line_to u =
        let same = same_lent u.owner (Call n) (sym u.lent ∙ is) in
        let x = u.line (ap is_call same) in
        (x.0, subst (λ o. is_due (call_line H e.conn e.tenure o x.0) e.call ≡ true) same x.1)

-- What a begin sends carries no number, except a Begin that is done.

begin_kind : (can : Caps) (reset : Bool) (w : Work) (L : List Entry) (q : DriverCall) → of_plain.begins w ≡ true → is_due (begin_line can reset (begin_of w) L) q ≡ true → (is_reset q || (is_valid q || is_begin q)) ≡ true
begin_kind can reset (Begin label level read_only) [] q h due = by reset due
  where
    resets : (p : DriverCall) → is_due (Some calls.Reset) p ≡ true → (is_reset p || (is_valid p || is_begin p)) ≡ true
    resets calls.Reset x = refl
    resets p x = absurd cc

    begin_it : (p : DriverCall) → is_due (Some (calls.Begin level read_only)) p ≡ true → (is_reset p || (is_valid p || is_begin p)) ≡ true
    begin_it (calls.Begin other only) x = refl
    begin_it p x = absurd cc

    by : (b : Bool) → is_due (cond b (Some calls.Reset) (Some (calls.Begin level read_only))) q ≡ true → (is_reset q || (is_valid q || is_begin q)) ≡ true
    by true x = resets q x
    by false x = begin_it q x
begin_kind can reset (Begin label level read_only) (e ∷ earlier) q h due = last (is_bad e.answer || is_valid e.call) due
  where
    begin_it : (p : DriverCall) → is_due (Some (calls.Begin level read_only)) p ≡ true → (is_reset p || (is_valid p || is_begin p)) ≡ true
    begin_it (calls.Begin other only) x = refl
    begin_it p x = absurd cc

    valid : (p : DriverCall) → is_due (Some calls.Valid) p ≡ true → (is_reset p || (is_valid p || is_begin p)) ≡ true
    valid calls.Valid x = refl
    valid p x = absurd cc

    test : (b : Bool) → is_due (cond b (Some calls.Valid) None) q ≡ true → (is_reset q || (is_valid q || is_begin q)) ≡ true
    test true x = valid q x
    test false x = absurd cc

    done : (b : Bool) → is_due (cond b None (test_of can)) q ≡ true → (is_reset q || (is_valid q || is_begin q)) ≡ true
    done true x = absurd cc
    done false x = test can.validator x

    begun : (b : Bool) → is_due (cond b (cond (is_done e.answer) None (test_of can)) (Some (calls.Begin level read_only))) q ≡ true → (is_reset q || (is_valid q || is_begin q)) ≡ true
    begun true x = done (is_done e.answer) x
    begun false x = begin_it q x

    last : (b : Bool) → is_due (cond b None (begin_after can (calls.Begin level read_only) e)) q ≡ true → (is_reset q || (is_valid q || is_begin q)) ≡ true
    last true x = absurd cc
    last false x = begun (is_begin e.call) x
begin_kind can reset w L q h due = absurd cc

begin_carries : (k : ℕ) (q : DriverCall) (a : DriverAnswer) → (is_reset q || (is_valid q || is_begin q)) ≡ true → cond (is_outside q a) 0 k ≡ cond (is_begin q && is_done a) k 0
begin_carries k calls.Reset a h = refl
begin_carries k calls.Valid a h = refl
begin_carries k (calls.Begin level read_only) a h = by (is_done a)
  where
    by : (b : Bool) → cond (not b) 0 k ≡ cond b k 0
    by true = refl
    by false = refl
begin_carries k q a h = absurd cc

-- A step of a course that is sent in a transaction's tenure carries the transaction's number.
step_carries : (k : ℕ) (q : DriverCall) (a : DriverAnswer) → is_some (step_of q) ≡ true → cond (is_outside q a) 0 k ≡ k
step_carries k (calls.Exec (Text text) params) a h = refl
step_carries k (calls.Exec (Handle handle) params) a h = refl
step_carries k (calls.Query (Text text) params) a h = refl
step_carries k (calls.Query (Handle handle) params) a h = refl
step_carries k (calls.Prepare text) a h = refl
step_carries k (calls.Next rows) a h = refl
step_carries k (calls.CloseRows rows) a h = refl
step_carries k (calls.CloseStmt handle) a h = refl
step_carries k calls.Ping a h = refl
step_carries k q a h = absurd cc

end_carries : (k : ℕ) (q : DriverCall) (a : DriverAnswer) → is_ending q ≡ true → cond (is_outside q a) 0 k ≡ k
end_carries k calls.Commit a h = refl
end_carries k calls.Rollback a h = refl
end_carries k q a h = absurd cc

-- A connection that is lent to a transaction.

module _ (H : List Event) (e : Entry) (own : Owner) (l : Lawful H) (may : may_come H e ≡ true) (is : place H e.conn ≡ Some (Lent e.tenure own)) (mine : e.owner ≡ own) (other : is_call own ≡ false)
    (carries : e.tx ≡ carried own e.call e.answer) (fits : fits_at_its_place (journal H e.conn) e ≡ true) where
  kept : Kept H
  kept = let h = holds H l in h.kept

  owner : own ≡ Tx (number_of own)
  owner = owner_tx H e.conn e.tenure own l is other

  tx_is : e.tx ≡ cond (is_outside e.call e.answer) 0 (number_of own)
  tx_is = carries ∙ ap (λ o. carried o e.call e.answer) owner

  tx_in : cond (is_outside e.call e.answer) 0 (number_of own) ≡ number_of own → IsIn e.conn (number_of own) e.tenure e
  tx_in same = record { conn = refl; tenure = refl; owner = mine ∙ owner; tx = tx_is ∙ same }

  once : OpensOnce e.tenure (journal H e.conn)
  once = lines_once (caps H) (asked_in H (number_of own)) e.tenure (journal H e.conn) (kept.lines e.conn e.tenure own is other)

  prepares : PreparesOnce e.tenure (journal H e.conn)
  prepares = lines_prepare_once (caps H) (asked_in H (number_of own)) e.tenure (journal H e.conn) (kept.lines e.conn e.tenure own is other)

  begin_may : BeginsWay H e.conn e.tenure own e.call_no e.call → may_follow (journal H e.conn) e ≡ true
  begin_may w =
      let begin = owner_begins H e.conn e.tenure own l is other in
      let o = kept.opening e.conn e.tenure own is other w.unbegun in
      let due : is_due (begin_line (caps H) (is_reset_due H e.conn) (begin_of (work H (number_of own))) (heard_in H e.conn e.tenure)) e.call ≡ true =
      ap (λ d. is_due d e.call) (sym (begin_due H e.conn e.tenure own other begin o)) ∙ w.due
      in
      let kind = begin_kind (caps H) (is_reset_due H e.conn) (work H (number_of own)) (heard_in H e.conn e.tenure) e.call begin due in
      begin_follows (caps H) (is_reset_due H e.conn) (begin_of (work H (number_of own))) e.conn (number_of own) e.tenure (journal H e.conn) e (lent_to_tx H e.conn e.tenure own l is other w.unbegun)
      (record { conn = refl; tenure = refl; owner = mine ∙ owner; call_no = sym w.itself; tx = tx_is ∙ begin_carries (number_of own) e.call e.answer kind }) due fits

  -- Once the transaction has its end, nothing is due over rows that were handed out.
  shut_out : {A : Type 0} (n : ℕ) (w : Wish) → scope (work H n) ≡ In (number_of own) → handed_there H e.conn e.tenure n ≡ true → is_due (line_there H e.conn e.tenure own n w) e.call ≡ true → (w ≡ wishes.Fetch → ⊥)
      → AllShut e.tenure (journal H e.conn) → A
  shut_out n w inner hands due apart (inr shut) = shut_about (made_by n e.tenure (journal H e.conn)) e.call (shut n) (line_about H e.conn e.tenure n own w e.call kept is other inner hands due)
  shut_out n w inner hands due apart (inl bad) = by (handed (aim_of (work H n)) (made_by n e.tenure (journal H e.conn))) refl hands
    where
      some : is_some (body_after (untested (caps H)) (went_bad (journal H e.conn)) (asked_by H n) w (made_by n e.tenure (journal H e.conn))) ≡ true
      some = some_due (body_after (untested (caps H)) (went_bad (journal H e.conn)) (asked_by H n) w (made_by n e.tenure (journal H e.conn))) e.call (body_due H e.conn e.tenure n own w e.call other inner due)

      by : {B : Type 0} (o : Option ℕ) → handed (aim_of (work H n)) (made_by n e.tenure (journal H e.conn)) ≡ o → is_some o ≡ true → B
      by None its x = absurd cc
      by (Some rows) its x =
          clash
          (sym (sym (ap (λ b. is_some (body_after (untested (caps H)) b (asked_by H n) w (made_by n e.tenure (journal H e.conn)))) bad) ∙ some)
          ∙ bad_none (caps H) (asked_by H n) w (made_by n e.tenure (journal H e.conn)) rows its apart)

  -- A driver call that is due in a line may follow.
  line_may : (n : ℕ) (w : Wish) → scope (work H n) ≡ In (number_of own) → is_begun H (number_of own) ≡ true → ended_there (heard_in H e.conn e.tenure) ≡ false → is_due (line_there H e.conn e.tenure own n w) e.call ≡ true
      → may_follow (journal H e.conn) e ≡ true
  line_may n w inner begun none due =
      let line = line_facts H e.conn e.tenure n own kept is other inner in
      let steps = line_steps H e.conn e.tenure n own w e.call kept is other inner due in
      due_follows (caps H) (asked_by H n) w e.conn (number_of own) e.tenure n (journal H e.conn) e (goes_on_tx H e.conn e.tenure own l is other begun none)
      (tx_in (step_carries (number_of own) e.call e.answer steps)) line.text line.order (ap (λ d. is_due d e.call) (sym (inner_is H e.conn e.tenure own n w (number_of own) other inner)) ∙ due) fits

  inner_may : (w : InnerWay H e.conn e.tenure own e.call_no e.call) → may_follow (journal H e.conn) e ≡ true
  inner_may w = let i = w.way in by i.due i.left (ended_there (heard_in H e.conn e.tenure)) refl
    where
      by : is_due (line_there H e.conn e.tenure own e.call_no wishes.Nothing) e.call ≡ true → (ended_there (heard_in H e.conn e.tenure) ≡ false) ⊎ (handed_there H e.conn e.tenure e.call_no ≡ true)
          → (b : Bool) → ended_there (heard_in H e.conn e.tenure) ≡ b → may_follow (journal H e.conn) e ≡ true
      by due left false none = line_may e.call_no wishes.Nothing w.inner w.begun none due
      by due (inl none) true ended = clash (sym ended ∙ none)
      by due (inr hands) true ended = shut_out e.call_no wishes.Nothing w.inner hands due (λ h. cc) (kept.ended e.conn e.tenure own is w.begun ended)

  rows_may : is_begun H (number_of own) ≡ true → (r : RowsWay H e.conn e.tenure own e.call_no e.call) → may_follow (journal H e.conn) e ≡ true
  rows_may begun r = by r.left (ended_there (heard_in H e.conn e.tenure)) refl
    where
      inner : scope (work H r.n) ≡ In (number_of own)
      inner = scoped (work H r.n) (number_of own) r.hands

      by : (ended_there (heard_in H e.conn e.tenure) ≡ false) ⊎ (r.wish ≡ wishes.Close) → (b : Bool) → ended_there (heard_in H e.conn e.tenure) ≡ b → may_follow (journal H e.conn) e ≡ true
      by left false none = line_may r.n r.wish inner begun none r.due
      by (inl none) true ended = clash (sym ended ∙ none)
      by (inr close) true ended =
          shut_out r.n r.wish inner (kept.handed e.conn e.tenure own is r.n r.hands r.rows) r.due (λ h. let wrong : wishes.Close ≡ wishes.Fetch = sym close ∙ h in cc) (kept.ended e.conn e.tenure own is begun ended)

  ends_may : is_begun H (number_of own) ≡ true → EndsWay H e.conn e.tenure e.call → may_follow (journal H e.conn) e ≡ true
  ends_may begun x = by x.shut
    where
      by : AllShut e.tenure (journal H e.conn) → may_follow (journal H e.conn) e ≡ true
      by (inl bad) =
          ending_follows-bad e.conn (number_of own) e.tenure (journal H e.conn) e (goes_on_tx H e.conn e.tenure own l is other begun x.none) (tx_in (end_carries (number_of own) e.call e.answer x.ends)) x.ends bad fits
      by (inr shut) =
          ending_follows e.conn (number_of own) e.tenure (journal H e.conn) e (goes_on_tx H e.conn e.tenure own l is other begun x.none) (tx_in (end_carries (number_of own) e.call e.answer x.ends)) x.ends once
          (λ n rows. let s = shut n in s.cursor rows) fits

  tests_may : is_begun H (number_of own) ≡ true → TestsWay H e.conn e.tenure e.call → may_follow (journal H e.conn) e ≡ true
  tests_may begun x = by (kept.ended e.conn e.tenure own is begun x.ended)
    where
      by : AllShut e.tenure (journal H e.conn) → may_follow (journal H e.conn) e ≡ true
      by (inl bad) = clash (sym bad ∙ x.good)
      by (inr shut) =
          test_follows e.conn (number_of own) e.tenure (journal H e.conn) e (has_ended_tx H e.conn e.tenure own e.call l is other begun x)
          (record { conn = refl; tenure = refl; owner = mine ∙ owner; tx = tx_is ∙ ap (λ q. cond (is_outside q e.answer) 0 (number_of own)) x.tests; call = x.tests }) once prepares
          (λ n rows. let s = shut n in s.cursor rows) (λ n handle. let s = shut n in s.handle handle) fits

  tx_follows : may_follow (journal H e.conn) e ≡ true
  tx_follows = by (came H e own l (sound H l) (holds H l) may is other)
    where
      by_tx : is_begun H (number_of own) ≡ true → RowsWay H e.conn e.tenure own e.call_no e.call ⊎ (EndsWay H e.conn e.tenure e.call ⊎ TestsWay H e.conn e.tenure e.call) → may_follow (journal H e.conn) e ≡ true
      by_tx begun (inl r) = rows_may begun r
      by_tx begun (inr (inl x)) = ends_may begun x
      by_tx begun (inr (inr x)) = tests_may begun x

      by : Came H e.conn e.tenure own e.call_no e.call → may_follow (journal H e.conn) e ≡ true
      by (inl w) = begin_may w
      by (inr (inl w)) = inner_may w
      by (inr (inr w)) = let x = w.way in by_tx x.begun x.way

pub follows_due : (H : List Event) (e : Entry) → Lawful H → may_come H e ≡ true → place H e.conn ≡ Some (Lent e.tenure e.owner) → e.tx ≡ carried e.owner e.call e.answer → fits_at_its_place (journal H e.conn) e ≡ true
    → may_follow (journal H e.conn) e ≡ true
follows_due H e l may is carries fits = by e.owner refl is carries
  where
    never : {A : Type 0} (o : Owner) → place H e.conn ≡ Some (Lent e.tenure o) → ((s : LentTo e.conn (lends H e.conn) e.tenure o (journal H e.conn)) → ⊥) → A
    never o at none = absurd (none (lent_to H e.conn e.tenure o (stands H l e.conn) at))

    by : (o : Owner) → e.owner ≡ o → place H e.conn ≡ Some (Lent e.tenure o) → e.tx ≡ carried o e.call e.answer → may_follow (journal H e.conn) e ≡ true
    by (Call n) its at tx = call_follows H e n l may at its tx fits
    by (Tx n) its at tx = tx_follows H e (Tx n) l may at its refl tx fits
    by (Pin n) its at tx = never (Pin n) at (λ s. s)
    by House its at tx = never House at (λ s. s)

-- A connection that isn't in use has a whole tenure.

call_whole : (H : List Event) (c t n : ℕ) → Lawful H → place H c ≡ Some (Lent t (Call n)) → is_used H n ≡ false → is_whole_tenure t (journal H c) ≡ true
call_whole H c t n l is unused =
    let s = sound H l in
    let f = s.facts in
    let works = lent_to H c t (Call n) (stands H l c) is in
    let done = finished H c t (Call n) l is refl unused in
    done_whole c t n (journal H c) (caps H) (is_reset_due H c) (asked_by H n) done.wish works.serves (f.made c t (Call n) is refl) done.none done.free

tx_whole : (H : List Event) (c t : ℕ) (own : Owner) → Lawful H → place H c ≡ Some (Lent t own) → is_call own ≡ false → is_used H (number_of own) ≡ false → is_whole_tenure t (journal H c) ≡ true
tx_whole H c t own l is other unused = by (is_begun H (number_of own)) refl
  where
    kept : Kept H
    kept = let h = holds H l in h.kept

    closed : AllShut t (journal H c) → ended_there (heard_in H c t) ≡ true → is_whole_tenure t (journal H c) ≡ true
    closed (inl bad) ended = whole_when_bad (number_of own) t (journal H c) (of_transaction H c t own l is other) ended bad
    closed (inr shut) ended =
        let keeps = kept.lines c t own is other in
        whole_when_closed (number_of own) t (journal H c) (of_transaction H c t own l is other) (lines_once (caps H) (asked_in H (number_of own)) t (journal H c) keeps)
        (lines_prepare_once (caps H) (asked_in H (number_of own)) t (journal H c) keeps) ended (λ n rows. let s = shut n in s.cursor rows) (λ n handle. let s = shut n in s.handle handle)

    ended_now : (b : Bool) → is_begun H (number_of own) ≡ true → (end : TxEnd) → tx_end H (number_of own) ≡ Some end → is_some (ending H (number_of own)) ≡ false → ended_there (heard_in H c t) ≡ b → is_whole_tenure t (journal H c) ≡ true
    ended_now true begun end its none ended = closed (kept.ended c t own is begun ended) ended
    ended_now false begun end its none ended = clash (sym (ending_some H c t own end l is its (inl ended)) ∙ none)

    over : is_begun H (number_of own) ≡ true → (o : Option TxEnd) → tx_end H (number_of own) ≡ o → is_whole_tenure t (journal H c) ≡ true
    over begun None its =
        let going : goes_on H (number_of own) ≡ true = ap (λ b. b && not (is_over H (number_of own))) begun ∙ ap (λ o. not (is_some o)) its in
        let a = neither (goes_on H (number_of own)) (are_live H (number_of own) || is_some (rest H (number_of own))) unused in
        clash (sym going ∙ a.0)
    over begun (Some end) its =
        let a = neither (goes_on H (number_of own)) (are_live H (number_of own) || is_some (rest H (number_of own))) unused in
        let b = neither (are_live H (number_of own)) (is_some (rest H (number_of own))) a.1 in
        let none : is_some (ending H (number_of own)) ≡ false = sym (ap (λ x. is_some (cond x (ending H (number_of own)) (rest_with H (number_of own) (rows_by H (number_of own))))) begun) ∙ b.1 in
        ended_now (ended_there (heard_in H c t)) begun end its none refl

    by : (b : Bool) → is_begun H (number_of own) ≡ b → is_whole_tenure t (journal H c) ≡ true
    by true begun = over begun (tx_end H (number_of own)) refl
    by false unbegun =
        whole_unbegun (caps H) (is_reset_due H c) (begin_of (work H (number_of own))) c (number_of own) t (journal H c) (lent_to_tx H c t own l is other unbegun)

pub whole_when_unused : (H : List Event) (c t : ℕ) (own : Owner) → Lawful H → place H c ≡ Some (Lent t own) → is_used H (number_of own) ≡ false → is_whole_tenure t (journal H c) ≡ true
whole_when_unused H c t (Call n) l is unused = call_whole H c t n l is unused
whole_when_unused H c t (Tx n) l is unused = tx_whole H c t (Tx n) l is refl unused
whole_when_unused H c t (Pin n) l is unused = absurd (lent_to H c t (Pin n) (stands H l c) is)
whole_when_unused H c t House l is unused = absurd (lent_to H c t House (stands H l c) is)

-- So the connection may leave.
pub may_leave : (H : List Event) (c t : ℕ) (own : Owner) → Lawful H → owed H ≡ [] → place H c ≡ Some (Lent t own) → goes_in_turn H (place H c) ≡ true → is_used H (number_of own) ≡ false → MayLeave H c
may_leave H c t own l none is turn unused =
    let o = owner_is_of H c t own l is in
    record { owing = none; tenure = t; owner = own; lent = is; owned = o.0; turn = turn; unused = unused; whole = whole_when_unused H c t own l is unused }

-- A connection that is being closed.

pub follows_shut : (H : List Event) (c : ℕ) (answer : DriverAnswer) → Lawful H → owed H ≡ [] → place H c ≡ Some Closing → fits_of Shut answer ≡ true → is_memory answer ≡ false
    → may_follow (journal H c) (shut_entry c (next_tenure (pool H) c) answer) ≡ true
follows_shut H c answer l none is fit heard =
    let v = closing_leaves H c (stands H l c) is (unheard H c none (ap (λ at. is_opening at || is_closing at) is)) in
    may_follow-shut c (next_tenure (pool H) c) answer (journal H c) v.is_open v.whole (omega (arith, v.below)) fit heard
