-- What stays true of a connection that is lent to a transaction if nothing is heard there.
use Rattle.std.proofs.Common.{◌≡◌, ◌≢◌, ℕ, ◌==◌, ◌⊎◌, inl, inr, Bool, true, false, ◌&&◌, ◌||◌, cond, List, ◌∷◌, Option, Some, None, is_some, is_none, refl, sym, ap, subst, ◌∙◌}
use Rattle.std.specs.List.{list_all, list_any}
use Rattle.dsql_laws_calls.specs.driver.declared.caps.Caps.{Caps}
use Rattle.dsql_laws_calls.specs.driver.declared.call.DriverCall.{DriverCall}
use Rattle.dsql_laws_calls.specs.driver.Kinds.{is_valid}
use Rattle.dsql_laws_calls.specs.course.declared.course.Wish.TheVariants as wishes
use Rattle.dsql_laws_calls.specs.journal.declared.entry.Entry.{Entry}
use Rattle.dsql_laws_calls.specs.journal.declared.entry.Owner.{Owner}
use Rattle.dsql_laws_calls.specs.journal.Kinds.{is_call, number_of}
use Rattle.dsql_laws_calls.specs.journal.Readers.{went_bad, of_tenure}
use Rattle.dsql_laws_calls.specs.pool.declared.conn.Place.TheVariants.{Lent}
use Rattle.dsql_laws_calls.specs.works.Exchanges.{exchanges}
use Rattle.dsql_laws_calls.specs.works.Line.{Asked, handed}
use Rattle.dsql_laws_calls.specs.works.declared.work.Aim.TheVariants as aims
use Rattle.dsql_laws_calls.proofs.laws_work.Rows.{same_or_not}
use Rattle.dsql_laws_calls.proofs.laws.Tests.{same_number, same_itself, other_number}
use Rattle.dsql_laws_calls.specs.history.declared.event.Event.{Event}
use Rattle.dsql_laws_calls.specs.history.declared.event.Event.TheVariants.{Run, Entered, Heard, Pool, Waits, Ticked, SetLimit, Replied, Ended}
use Rattle.dsql_laws_calls.specs.history.declared.reply.Reply.{Reply}
use Rattle.dsql_laws_calls.specs.history.declared.work.Scope.{Scope}
use Rattle.dsql_laws_calls.specs.history.declared.work.Scope.TheVariants.{Db, Held}
use Rattle.dsql_laws_calls.specs.history.declared.work.Work.{Work}
use Rattle.dsql_laws_calls.specs.history.declared.work.Task.TheVariants.{Execute, ReadOne, HandOut}
use Rattle.dsql_laws_calls.specs.history.declared.work.Work.TheVariants.{Statement, Look}
use Rattle.dsql_laws_calls.specs.history.Readers.Course.{caps}
use Rattle.dsql_laws_calls.specs.history.Readers.Unfinished.{is_unfinished}
use Rattle.dsql_laws_calls.specs.history.Readers.Works.{work, scope, is_in, hands_out_in, borrower, aim_of}
use Rattle.dsql_laws_calls.specs.history.Readers.Journals.{journal, heard_in}
use Rattle.dsql_laws_calls.specs.history.Readers.Lines.{has_sent, line_among}
use Rattle.dsql_laws_calls.specs.history.Readers.Pool.{place, home}
use Rattle.dsql_laws_calls.specs.history.Readers.Transactions.{is_begun, goes_on}
use Rattle.dsql_laws_calls.specs.history.Readers.HandedOut.{rows_by}
use Rattle.dsql_laws_calls.specs.history.Readers.Calls.{decided, has_begun_to_send}
use Rattle.dsql_laws_calls.specs.history.Rules.Line.{due_in, due_for}
use Rattle.dsql_laws_calls.specs.history.Rules.Sent.{asked_by, inner_after, is_reset_due, line_of}
use Rattle.dsql_laws_calls.specs.history.Legal.{Allowed, Lawful}
use Rattle.dsql_laws_tenures.specs.Begins.{is_begin_line}
use Rattle.dsql_laws_tenures.specs.Orderly.{asks_text}
use Rattle.dsql_laws_tenures.specs.Sent.{Grows, KeepsLines}
use Rattle.dsql_laws_tenures.proofs.LinesKept.{lines_more}
use Rattle.dsql_laws_calls.proofs.Lines.{caps_stay, line_here}
use Rattle.dsql_laws_calls.proofs.Owners.{at_home}
use Rattle.dsql_laws_calls.proofs.Stays.{asked_stays, work_stays}
use Rattle.dsql_laws_calls.proofs.Works.{stays_unfinished}
use Rattle.dsql_laws_calls.proofs.Wanters.{replies_now, still_without_reply}
use Rattle.dsql_laws_calls.proofs.Inside.{hands_same, inside_busy, inside_uses, scope_stays, inside}
use Rattle.dsql_laws_calls.proofs.Quiet.{Quiet, next_inside, quiet_now}
use Rattle.dsql_laws_calls.proofs.Quiet as of_quiet
use Rattle.dsql_laws_calls.proofs.InnerLines.{Ordered}
use Rattle.dsql_laws_calls.proofs.LineParts.{known_bad, unsent_in}
use Rattle.dsql_laws_calls.proofs.StaysUnderWay.{sender_work}
use Rattle.dsql_laws_calls.proofs.DueWay.{inner_is}
use Rattle.dsql_laws_calls.proofs.Begun.{begun_begins, stays_begun}
use Rattle.dsql_laws_calls.proofs.Beginnings.{begin_owner, begins_busy}
use Rattle.dsql_laws_calls.proofs.Why.{ended_there}
use Rattle.dsql_laws_calls.proofs.UnderWay.{handed_there, line_made, Going, Facts, clash}
use Rattle.dsql_laws_due.proofs.Holds.{asked_in, begin_of, AllShut, Opening, Kept}
use Rattle.dsql_laws_due.proofs.Ways.{owner_begins}

-- What calls in the transaction ask after the event.

text_in : (w : Work) (k : ℕ) → is_in k (scope w) ≡ true → asks_text (aim_of w) ≡ true
text_in (Statement s Execute) k h = refl
text_in (Statement s (ReadOne dests)) k h = refl
text_in (Statement s (HandOut label)) k h = refl
text_in w k h = absurd cc

in_scope : (s : Scope) (k : ℕ) → is_in k s ≡ true → s ≡ Held k
in_scope (Held n) k h = ap Held (same_number n k h)
in_scope Db k h = absurd cc

asked_some : (H : List Event) (k n : ℕ) (it : Asked) → asked_in H k n ≡ Some it → (is_in k (scope (work H n)) ≡ true) × (it ≡ asked_by H n)
asked_some H k n it h = by (is_in k (scope (work H n))) refl h
  where
    by : (b : Bool) → is_in k (scope (work H n)) ≡ b → cond b (Some (asked_by H n)) None ≡ Some it → (is_in k (scope (work H n)) ≡ true) × (it ≡ asked_by H n)
    by true is x = (is, cc)
    by false is x = absurd cc

pub asked_text : (H : List Event) (k n : ℕ) (it : Asked) → asked_in H k n ≡ Some it → asks_text it.aim ≡ true
asked_text H k n it h = let a = asked_some H k n it h in ap (λ (x : Asked). asks_text x.aim) a.1 ∙ text_in (work H n) k a.0

-- No call leaves the transaction.
asked_on : (H : List Event) (e : Event) (k n : ℕ) → asked_in (e ∷ H) k n ≡ None → asked_in H k n ≡ None
asked_on H e k n h = by (is_in k (scope (work H n))) refl
  where
    by : (b : Bool) → is_in k (scope (work H n)) ≡ b → cond b (Some (asked_by H n)) None ≡ None
    by true is =
        let on = scope_stays H e n k (in_scope (scope (work H n)) k is) in
        let now : asked_in (e ∷ H) k n ≡ Some (asked_by (e ∷ H) n) =
        ap (λ s. cond (is_in k s) (Some (asked_by (e ∷ H) n)) None) on ∙ ap (λ b. cond b (Some (asked_by (e ∷ H) n)) None) (same_itself k)
        in
        absurd (let wrong : None ≡ Some (asked_by (e ∷ H) n) = sym h ∙ now in cc)
    by false is = refl

-- A call that has sent something asks the same as before.
asked_sent : (H : List Event) (e : Event) (c k n : ℕ) (it : Asked) → Lawful (e ∷ H) → has_sent n (journal H c) ≡ true → asked_in (e ∷ H) k n ≡ Some it → asked_in H k n ≡ Some it
asked_sent H e c k n it l sent h =
    let a = asked_some (e ∷ H) k n it h in
    let same = sender_work H e n c k l sent (in_scope (scope (work (e ∷ H) n)) k a.0) in
    let is : is_in k (scope (work H n)) ≡ true = sym (ap (λ w. is_in k (scope w)) same) ∙ a.0 in
    let busy = inside_busy (work H n) k (in_scope (scope (work H n)) k is) in
    ap (λ b. cond b (Some (asked_by H n)) None) is ∙ ap Some (sym (asked_stays H e n busy) ∙ sym a.1)

pub asked_grows : (H : List Event) (e : Event) (c t k : ℕ) → Lawful (e ∷ H) → Grows (asked_in H k) (asked_in (e ∷ H) k) (of_tenure t (journal H c))
asked_grows H e c t k l = record { own = own; text = asked_text (e ∷ H) k; others = asked_on H e k }
  where
    own : (n : ℕ) (it : Asked) → asked_in (e ∷ H) k n ≡ Some it → (asked_in H k n ≡ Some it) ⊎ (has_sent n (of_tenure t (journal H c)) ≡ false)
    own n it h = by (has_sent n (journal H c)) refl
      where
        by : (b : Bool) → has_sent n (journal H c) ≡ b → (asked_in H k n ≡ Some it) ⊎ (has_sent n (of_tenure t (journal H c)) ≡ false)
        by true sent = inl (asked_sent H e c k n it l sent h)
        by false sent = inr (unsent_in n t (journal H c) sent)

lines_as : (ca cb : Caps) (asked : ℕ → Option Asked) (t : ℕ) (J M : List Entry) → cb ≡ ca → M ≡ J → KeepsLines ca asked t J → KeepsLines cb asked t M
lines_as ca cb asked t J M a b k = rw (a, b) k

-- The event leaves the connection's journal as it was: it is no answer, or an answer on another connection.

module _ (H : List Event) (e : Event) (l : Lawful (e ∷ H)) (f : Facts H) (kept : Kept H) (c t : ℕ) (own : Owner) (is : place H c ≡ Some (Lent t own)) (same : journal (e ∷ H) c ≡ journal H c) where
  pub lines_same : is_call own ≡ false → KeepsLines (caps (e ∷ H)) (asked_in (e ∷ H) (number_of own)) t (journal (e ∷ H) c)
  lines_same other =
      lines_as (caps H) (caps (e ∷ H)) (asked_in (e ∷ H) (number_of own)) t (journal H c) (journal (e ∷ H) c) (caps_stay H e c (Lent t own) l.1 is) same
      (lines_more (caps H) (asked_in H (number_of own)) (asked_in (e ∷ H) (number_of own)) t (journal H c) (kept.lines c t own is other) (asked_grows H e c t (number_of own) l))

  pub ended_same : is_begun H (number_of own) ≡ true → ended_there (heard_in (e ∷ H) c t) ≡ true → AllShut t (journal (e ∷ H) c)
  ended_same begun ended = subst (λ J. AllShut t J) (sym same) (kept.ended c t own is begun (sym (ap (λ J. ended_there (of_tenure t J)) same) ∙ ended))

  pub untested_same : is_begun H (number_of own) ≡ true → ended_there (heard_in (e ∷ H) c t) ≡ false → list_any (λ x. is_valid x.call) (heard_in (e ∷ H) c t) ≡ false
  untested_same begun none =
      ap (λ J. list_any (λ x. is_valid x.call) (of_tenure t J)) same ∙ kept.untested c t own is begun (sym (ap (λ J. ended_there (of_tenure t J)) same) ∙ none)

  pub opening_same : is_call own ≡ false → is_reset_due (e ∷ H) c ≡ is_reset_due H c → is_begun (e ∷ H) (number_of own) ≡ false → Opening (e ∷ H) c t own
  opening_same other reset unbegun =
      let o = kept.opening c t own is other (before (is_begun H (number_of own)) refl) in
      let it = work_stays H e (number_of own) (begins_busy (work H (number_of own)) (owner_begins H c t own l.0 is other)) in
      record {
        line = line_as (caps H) (caps (e ∷ H)) (is_reset_due H c) (is_reset_due (e ∷ H) c) (work H (number_of own)) (work (e ∷ H) (number_of own)) (journal H c) (journal (e ∷ H) c) (caps_stay H e c (Lent t own) l.1 is) reset it same ∙ o.line;
        alone = ap (λ J. list_all (λ x. x.call_no == number_of own) (of_tenure t J)) same ∙ o.alone;
      }
    where
      before : (b : Bool) → is_begun H (number_of own) ≡ b → b ≡ false
      before true begun = clash (sym (stays_begun H e (number_of own) begun) ∙ unbegun)
      before false begun = refl

      line_as : (ca cb : Caps) (a b : Bool) (v w : Work) (J M : List Entry) → cb ≡ ca → b ≡ a → w ≡ v → M ≡ J → is_begin_line cb b (begin_of w) (of_tenure t M) ≡ is_begin_line ca a (begin_of v) (of_tenure t J)
      line_as ca cb a b v w J M p q r x = rw (p, q, r, x) refl

  pub handed_same : (n : ℕ) → hands_out_in (number_of own) (work (e ∷ H) n) ≡ true → is_some (rows_by H n) ≡ true → handed_there (e ∷ H) c t n ≡ true
  handed_same n hands some =
      let before = hands_same H e n (number_of own) some hands in
      handed_as (work H n) (work (e ∷ H) n) (journal H c) (journal (e ∷ H) c) (work_stays H e n (busy (work H n) before)) same ∙ kept.handed c t own is n before some
    where
      busy : (w : Work) → hands_out_in (number_of own) w ≡ true → w ≡ Look → ⊥
      busy w h look = let wrong : false ≡ true = sym (ap (hands_out_in (number_of own)) look) ∙ h in cc

      handed_as : (v w : Work) (J M : List Entry) → w ≡ v → M ≡ J → is_some (handed (aim_of w) (exchanges (line_among n (of_tenure t M)))) ≡ is_some (handed (aim_of v) (exchanges (line_among n (of_tenure t J))))
      handed_as v w J M a b = rw (a, b) refl

  -- A call that has its reply.

  Rested : List Event → ℕ → Type 0
  Rested K m = (handed_there K c t m ≡ true) ⊎ Quiet (caps K) (went_bad (journal K c)) (asked_by K m) (line_made K c t m)

  rested_as : (m : ℕ) → work (e ∷ H) m ≡ work H m → (work H m ≡ Look → ⊥) → (handed_there H c t m ≡ true) ⊎ Quiet (caps H) (went_bad (journal H c)) (asked_by H m) (line_made H c t m)
      → (handed_there (e ∷ H) c t m ≡ true) ⊎ Quiet (caps (e ∷ H)) (went_bad (journal (e ∷ H) c)) (asked_by (e ∷ H) m) (line_made (e ∷ H) c t m)
  rested_as m it busy (inl h) = inl (handed_as (work H m) (work (e ∷ H) m) (journal H c) (journal (e ∷ H) c) it same ∙ h)
    where
      handed_as : (v w : Work) (J M : List Entry) → w ≡ v → M ≡ J → is_some (handed (aim_of w) (exchanges (line_among m (of_tenure t M)))) ≡ is_some (handed (aim_of v) (exchanges (line_among m (of_tenure t J))))
      handed_as v w J M a b = rw (a, b) refl
  rested_as m it busy (inr q) = inr (quiet_as (caps H) (caps (e ∷ H)) (asked_by H m) (asked_by (e ∷ H) m) (journal H c) (journal (e ∷ H) c) (caps_stay H e c (Lent t own) l.1 is) (asked_stays H e m busy) same q)
    where
      quiet_as : (ca cb : Caps) (x y : Asked) (J M : List Entry) → cb ≡ ca → y ≡ x → M ≡ J → Quiet ca (went_bad J) x (exchanges (line_among m (of_tenure t J))) → Quiet cb (went_bad M) y (exchanges (line_among m (of_tenure t M)))
      quiet_as ca cb x y J M a b d q = rw (a, b, d) q

  -- When a call replies, nothing is due for it.
  replied_rested : (m : ℕ) (reply : Reply) → e ≡ Replied m reply → scope (work H m) ≡ Held (number_of own) → is_unfinished H m ≡ true → has_sent m (journal H c) ≡ true
      → (handed_there H c t m ≡ true) ⊎ Quiet (caps H) (went_bad (journal H c)) (asked_by H m) (line_made H c t m)
  replied_rested m reply now inner u sent = from (f.going c t own is m inner u sent)
    where
      begun : is_begun H (number_of own) ≡ true
      begun = let i = inside H l.0 in i.sent m (number_of own) c sent inner

      other : is_call own ≡ false
      other = begin_owner H c t own l.0 is (begun_begins H (number_of own) l.0 begun)

      uses_it : borrower H m ≡ number_of own
      uses_it = inside_uses H m (number_of own) inner

      begun_to : has_begun_to_send H m ≡ true
      begun_to = ap (λ d. has_sent m (journal H d)) (ap (home H) uses_it ∙ at_home H c t own l.0 is) ∙ sent

      undue : is_some (due_for H m) ≡ false
      undue = let r = replies_now H m reply (subst (λ x. Allowed H x) now l.1) in none_some (due_for H m) r.done
        where
          none_some : (o : Option DriverCall) → is_none o ≡ true → is_some o ≡ false
          none_some None h = refl
          none_some (Some q) h = absurd cc

      silent : is_some (line_of H m wishes.Nothing) ≡ false
      silent = within (work H m) inner (sym (ap (λ b. is_some (cond b (due_in H m (work H m)) None)) u) ∙ undue)
        where
          allowed : (k : ℕ) → is_some (cond (has_begun_to_send H m || (goes_on H k && is_none (decided H m))) (line_of H m wishes.Nothing) None) ≡ false → is_some (line_of H m wishes.Nothing) ≡ false
          allowed k x = sym (ap (λ b. is_some (cond (b || (goes_on H k && is_none (decided H m))) (line_of H m wishes.Nothing) None)) begun_to) ∙ x

          within : (w : Work) → scope w ≡ Held (number_of own) → is_some (due_in H m w) ≡ false → is_some (line_of H m wishes.Nothing) ≡ false
          within (Statement (Held k) task) s x = allowed k x
          within w s x = absurd cc

      none : is_some (inner_after (caps H) (went_bad (journal H c)) (asked_by H m) wishes.Nothing (line_among m (heard_in H c t))) ≡ false
      none = sym (ap (λ d. is_some d) (line_here H c t own m wishes.Nothing l.0 is uses_it ∙ inner_is H c t own m wishes.Nothing (number_of own) other inner)) ∙ silent

      quiet : ((asked_by H m).aim ≡ aims.ReadOne → went_bad (journal H c) ≡ false → Ordered (line_made H c t m)) → (b : Bool) → handed_there H c t m ≡ b
          → (handed_there H c t m ≡ true) ⊎ Quiet (caps H) (went_bad (journal H c)) (asked_by H m) (line_made H c t m)
      quiet ordered true h = inl h
      quiet ordered false h =
          let unhanded = none_of (handed (asked_by H m).aim (line_made H c t m)) h in
          inr
          (quiet_now (caps H) (went_bad (journal H c)) (asked_by H m) (line_made H c t m) unhanded
          (sym (ap (λ d. is_some d) (of_quiet.inner_is (caps H) (went_bad (journal H c)) (asked_by H m) wishes.Nothing (line_among m (heard_in H c t)) unhanded)) ∙ none) (known_bad m t (journal H c)) ordered)
        where
          none_of : (o : Option ℕ) → is_some o ≡ false → o ≡ None
          none_of None x = refl
          none_of (Some r) x = absurd cc

      from : Going H c t m → (handed_there H c t m ≡ true) ⊎ Quiet (caps H) (went_bad (journal H c)) (asked_by H m) (line_made H c t m)
      from (inl h) = inl h
      from (inr (inl n)) = quiet n.ordered (handed_there H c t m) refl
      from (inr (inr q)) = inr q

  replied_now : (m : ℕ) → is_unfinished H m ≡ true → is_unfinished (e ∷ H) m ≡ false → (reply : Reply) × (e ≡ Replied m reply)
  replied_now m u done = by e refl
    where
      not_now : (x : Event) → e ≡ x → ((reply : Reply) → x ≡ Replied m reply → ⊥) → (reply : Reply) × (e ≡ Replied m reply)
      not_now x its none = clash (sym (still_without_reply H e m (λ reply now. none reply (sym its ∙ now)) u) ∙ done)

      by : (x : Event) → e ≡ x → (reply : Reply) × (e ≡ Replied m reply)
      by (Replied j reply) its = at (same_or_not j m)
        where
          at : (j ≡ m) ⊎ (j ≢ m) → (r : Reply) × (e ≡ Replied m r)
          at (inl now) = (reply, its ∙ ap (λ i. Replied i reply) now)
          at (inr apart) =
              clash (sym (stays_unfinished H j reply m (other_number j m apart) u) ∙ (ap (λ x. is_unfinished (x ∷ H) m) (sym its) ∙ done))
      by (Run version can) its = not_now (Run version can) its (λ reply now. absurd cc)
      by (Entered client n op) its = not_now (Entered client n op) its (λ reply now. absurd cc)
      by (Heard y) its = not_now (Heard y) its (λ reply now. absurd cc)
      by (Pool move) its = not_now (Pool move) its (λ reply now. absurd cc)
      by (Waits n) its = not_now (Waits n) its (λ reply now. absurd cc)
      by (Ticked now_is) its = not_now (Ticked now_is) its (λ reply now. absurd cc)
      by (SetLimit s k) its = not_now (SetLimit s k) its (λ reply now. absurd cc)
      by Ended its = not_now Ended its (λ reply now. absurd cc)

  pub rested_same : (m : ℕ) → scope (work (e ∷ H) m) ≡ Held (number_of own) → is_unfinished (e ∷ H) m ≡ false → has_sent m (journal (e ∷ H) c) ≡ true
      → (handed_there (e ∷ H) c t m ≡ true) ⊎ Quiet (caps (e ∷ H)) (went_bad (journal (e ∷ H) c)) (asked_by (e ∷ H) m) (line_made (e ∷ H) c t m)
  rested_same m inner done sent = rested_as m it (inside_busy (work H m) (number_of own) was) (by (is_unfinished H m) refl)
    where
      before : has_sent m (journal H c) ≡ true
      before = sym (ap (has_sent m) same) ∙ sent

      it : work (e ∷ H) m ≡ work H m
      it = sender_work H e m c (number_of own) l before inner

      was : scope (work H m) ≡ Held (number_of own)
      was = sym (ap scope it) ∙ inner

      by : (b : Bool) → is_unfinished H m ≡ b → (handed_there H c t m ≡ true) ⊎ Quiet (caps H) (went_bad (journal H c)) (asked_by H m) (line_made H c t m)
      by true u = let r = replied_now m u done in replied_rested m r.0 r.1 was u before
      by false u = kept.rested c t own is m was u before
