-- What is under way on a connection that is lent to a call on the database, apart from that call's own driver
-- calls.
use Rattle.std.proofs.Common.{◌≡◌, ℕ, ◌==◌, ◌⊎◌, inl, inr, Bool, true, false, not, ◌&&◌, ◌||◌, cond, List, [], ◌∷◌, Some, None, is_some, is_none, refl, sym, ap, subst, ◌∙◌}
use Rattle.std.proofs.lemmas.Bool.{or_cases}
use Rattle.dsql_laws_calls.specs.driver.declared.call.DriverCall.{DriverCall}
use Rattle.dsql_laws_calls.specs.course.declared.course.Wish.{Wish}
use Rattle.dsql_laws_calls.specs.course.declared.course.Wish.TheVariants as wishes
use Rattle.dsql_laws_calls.specs.journal.declared.entry.Entry.{Entry}
use Rattle.dsql_laws_calls.specs.journal.declared.entry.Owner.{Owner}
use Rattle.dsql_laws_calls.specs.journal.Kinds.{is_call, number_of}
use Rattle.dsql_laws_calls.specs.pool.declared.conn.Place.TheVariants.{Lent}
use Rattle.dsql_laws_calls.specs.history.Rules.Wishes.{wish_as}
use Rattle.dsql_laws_calls.proofs.laws.Tests.{both, same_itself}
use Rattle.dsql_laws_calls.proofs.laws_work.Rows.{not_true}
use Rattle.dsql_laws_calls.specs.history.declared.event.Event.{Event}
use Rattle.dsql_laws_calls.specs.history.declared.work.Scope.TheVariants.{Db, Held}
use Rattle.dsql_laws_calls.specs.history.declared.work.Work.{Work}
use Rattle.dsql_laws_calls.specs.history.declared.work.Task.TheVariants.{Execute, ReadOne, HandOut}
use Rattle.dsql_laws_calls.specs.history.declared.work.Work.TheVariants.{Statement, Begin, End, Ping, Fetch, Close, Look}
use Rattle.dsql_laws_calls.specs.history.Readers.Calls.{decided, site}
use Rattle.dsql_laws_calls.specs.history.Readers.HandedOut.{are_live, are_over, ender, rows_by}
use Rattle.dsql_laws_calls.specs.history.Readers.Pool.{home, place}
use Rattle.dsql_laws_calls.specs.history.Readers.Transactions.{is_begun, is_over, tx_ender}
use Rattle.dsql_laws_calls.specs.history.Readers.Works.{asks, borrower, hands_out_in, is_fetch, scope, work}
use Rattle.dsql_laws_calls.specs.history.Rules.Ending.{ending}
use Rattle.dsql_laws_calls.specs.history.Rules.Line.{due_for, due_in, is_due, is_due_at, is_used, may_come, parts, tidying}
use Rattle.dsql_laws_calls.specs.history.Rules.Sent.{closes, close_due, line_of, sent_for, wish}
use Rattle.dsql_laws_calls.specs.history.Legal.{Lawful}
use Rattle.dsql_laws_calls.proofs.Beginnings.{begin_owner}
use Rattle.dsql_laws_calls.proofs.Begun.{begun_begins, over_begun}
use Rattle.dsql_laws_calls.proofs.CallTenures.{call_line, line_of_call}
use Rattle.dsql_laws_calls.proofs.Coming.{sound}
use Rattle.dsql_laws_calls.proofs.DueWay.{borrow_same}
use Rattle.dsql_laws_calls.proofs.EndedRows.{rows_kept}
use Rattle.dsql_laws_calls.proofs.HandedRows.{rows_begun}
use Rattle.dsql_laws_calls.proofs.Lent.{stays_lent}
use Rattle.dsql_laws_calls.proofs.Lines.{line_here, line_stays, unheard}
use Rattle.dsql_laws_calls.proofs.Makers.{hands_out, rows_hand_out, sent_made}
use Rattle.dsql_laws_calls.proofs.Own.{asks_own, due_now, due_of, DueNow, some_due}
use Rattle.dsql_laws_calls.proofs.Owners.{lent_asks}
use Rattle.dsql_laws_calls.proofs.Stays.{not_looking}
use Rattle.dsql_laws_calls.proofs.StaysUnderWay.{coming_work}
use Rattle.dsql_laws_calls.proofs.UnderWay.{at_number, clash, ending_over, line_at_its, UnderWay}
use Rattle.dsql_laws_calls.proofs.Why.{why_used}
use Rattle.dsql_laws_due.proofs.Holds.{IsOther}
use Rattle.dsql_laws_due.proofs.OnRows.{closed_over, fetch_of}

-- Holds if the driver call closes the rows of the call that has the connection, or fetches from them.
pub record CallWay (H : List Event) (c t : ℕ) (own : Owner) (m : ℕ) (q : DriverCall) : Type 0 where
  pub wish : Wish
  pub due : is_due (call_line H c t own wish) q ≡ true
  pub kind : ((wish ≡ wishes.Close) × (are_over H (number_of own) ≡ true)) ⊎ ((wish ≡ wishes.Fetch) × (work H m ≡ Fetch (number_of own)))

pub call_unbegun : {A : Type 0} (H : List Event) (c t : ℕ) (own : Owner) → Lawful H → place H c ≡ Some (Lent t own) → is_call own ≡ true → is_begun H (number_of own) ≡ true → A
call_unbegun H c t own l is call begun = clash (sym call ∙ begin_owner H c t own l is (begun_begins H (number_of own) l begun))

module _ (H : List Event) (e : Entry) (own : Owner) (l : Lawful H) (lent : place H e.conn ≡ Some (Lent e.tenure own)) (call : is_call own ≡ true) where
  -- What is due in the call's line is due there.
  there : (w : Wish) → is_due (line_of H (number_of own) w) e.call ≡ true → is_due (call_line H e.conn e.tenure own w) e.call ≡ true
  there w x =
      ap (λ d. is_due d e.call)
      (sym (line_of_call H e.conn e.tenure own w l lent call) ∙ sym (line_here H e.conn e.tenure own (number_of own) w l lent (asks_own H (number_of own) (lent_asks H e.conn e.tenure own l lent)))) ∙ x

  ends_none : {A : Type 0} (k : ℕ) → number_of own ≡ k → is_due (ending H k) e.call ≡ true → A
  ends_none k number x =
      let over = ending_over H k (some_due (ending H k) e.call x) in
      call_unbegun H e.conn e.tenure own l lent call (over_begun H (number_of own) (ap (is_over H) number ∙ over))

  layer : is_due (tidying H (number_of own)) e.call ≡ true → CallWay H e.conn e.tenure own e.call_no e.call
  layer due = by (is_begun H (number_of own)) refl due
    where
      over : (b : Bool) → are_over H (number_of own) ≡ b → is_due (cond b (line_of H (number_of own) wishes.Close) None) e.call ≡ true → CallWay H e.conn e.tenure own e.call_no e.call
      over true gone x = record { wish = wishes.Close; due = there wishes.Close x; kind = inl (refl, gone) }
      over false gone x = absurd cc

      closed : (b : Bool) → is_due (cond b (close_due H (number_of own)) None) e.call ≡ true → CallWay H e.conn e.tenure own e.call_no e.call
      closed true x = over (are_over H (number_of own)) refl x
      closed false x = absurd cc

      by : (b : Bool) → is_begun H (number_of own) ≡ b → is_due (cond b (cond (tx_ender H (number_of own) == 0) (ending H (number_of own)) None) (cond (ender H (number_of own) == 0) (close_due H (number_of own)) None)) e.call ≡ true
          → CallWay H e.conn e.tenure own e.call_no e.call
      by true begun x = call_unbegun H e.conn e.tenure own l lent call begun
      by false begun x = closed (ender H (number_of own) == 0) x

  over_way : (j : ℕ) → (d : DueNow H e) → (e.call_no == 0) ≡ false → (work H e.call_no ≡ Fetch j) ⊎ (work H e.call_no ≡ Close j) → is_due (sent_for H j (wish H e.call_no j)) e.call ≡ true → CallWay H e.conn e.tenure own e.call_no e.call
  over_way j d some which due = by (closes H e.call_no j) (is_fetch (work H e.call_no) && (are_live H j && is_none (decided H e.call_no))) refl refl due
    where
      rows : is_some (rows_by H j) ≡ true
      rows = sent_made H e.call_no j some (some_due (sent_for H j (wish H e.call_no j)) e.call due)

      here : site H j ≡ e.conn
      here = ap (home H) (sym (borrow_same H e.call_no j which (rows_hand_out H j (sent_made H e.call_no j some (some_due (sent_for H j (wish H e.call_no j)) e.call due))))) ∙ d.site some

      -- The rows are the call's own.
      itself : number_of own ≡ borrower H j → j ≡ number_of own
      itself number = of_work (work H j) refl (rows_hand_out H j rows)
        where
          of_work : (v : Work) → work H j ≡ v → hands_out v ≡ true → j ≡ number_of own
          of_work (Statement Db (HandOut label)) its x = sym (number ∙ rw its refl)
          of_work (Statement (Held k) (HandOut label)) its x =
              let at : number_of own ≡ k = number ∙ rw its refl in
              call_unbegun H e.conn e.tenure own l lent call (ap (is_begun H) at ∙ rows_begun H j k l rows (ap (hands_out_in k) its ∙ same_itself k))
          of_work v its x = absurd cc

      wanted : (w : Wish) → is_due (line_of H j w) e.call ≡ true → ((w ≡ wishes.Close) × (are_over H j ≡ true)) ⊎ ((w ≡ wishes.Fetch) × (work H e.call_no ≡ Fetch j)) → CallWay H e.conn e.tenure own e.call_no e.call
      wanted w x kind = let same = itself (line_at_its H j e.conn e.tenure own w e.call here lent x) in record { wish = w; due = there w (subst (λ i. is_due (line_of H i w) e.call ≡ true) same x); kind = moved same kind }
        where
          moved : j ≡ number_of own → ((w ≡ wishes.Close) × (are_over H j ≡ true)) ⊎ ((w ≡ wishes.Fetch) × (work H e.call_no ≡ Fetch j))
              → ((w ≡ wishes.Close) × (are_over H (number_of own) ≡ true)) ⊎ ((w ≡ wishes.Fetch) × (work H e.call_no ≡ Fetch (number_of own)))
          moved same (inl y) = inl (y.0, ap (are_over H) (sym same) ∙ y.1)
          moved same (inr y) = inr (y.0, y.1 ∙ ap Fetch same)

      by : (a b : Bool) → closes H e.call_no j ≡ a → (is_fetch (work H e.call_no) && (are_live H j && is_none (decided H e.call_no))) ≡ b → is_due (sent_for H j (wish_as a b)) e.call ≡ true → CallWay H e.conn e.tenure own e.call_no e.call
      by true b ends fetches x = wanted wishes.Close x (inl (refl, closed_over H e.call_no j some ends))
      by false true ends fetches x = let y = both (is_fetch (work H e.call_no)) (are_live H j && is_none (decided H e.call_no)) fetches in wanted wishes.Fetch x (inr (refl, fetch_of j (work H e.call_no) which y.0))
      by false false ends fetches x = absurd cc

  due_call_way : is_due_at H (place H e.conn) e ≡ true → IsOther H e.call_no → CallWay H e.conn e.tenure own e.call_no e.call
  due_call_way now its = whose (e.call_no == 0) refl (due_now H e now)
    where
      same_lent : (o p : Owner) → Some (Lent e.tenure o) ≡ Some (Lent e.tenure p) → o ≡ p
      same_lent o p k = cc

      work_of : DueNow H e → (e.call_no == 0) ≡ false → (w : Work) → work H e.call_no ≡ w → asks w ≡ false → scope w ≡ Db → is_due (due_in H e.call_no w) e.call ≡ true → CallWay H e.conn e.tenure own e.call_no e.call
      work_of d some (Fetch j) is_work a s x = over_way j d some (inl is_work) x
      work_of d some (Close j) is_work a s x = over_way j d some (inr is_work) x
      work_of d some (End k) is_work a s x = by_ender (tx_ender H k == e.call_no) x
        where
          by_ender : (b : Bool) → is_due (cond b (ending H k) None) e.call ≡ true → CallWay H e.conn e.tenure own e.call_no e.call
          by_ender true y =
              let uses : borrower H e.call_no ≡ k = rw is_work refl in
              let at : home H k ≡ e.conn = ap (home H) (sym uses) ∙ d.site some in
              ends_none k (at_number H k e.conn e.tenure own (some_due (ending H k) e.call y) at lent) y
          by_ender false y = absurd cc
      work_of d some Look is_work a s x = absurd cc
      work_of d some (Statement Db Execute) is_work a s x = absurd cc
      work_of d some (Statement (Held k) Execute) is_work a s x = absurd cc
      work_of d some (Statement Db (ReadOne dests)) is_work a s x = absurd cc
      work_of d some (Statement (Held k) (ReadOne dests)) is_work a s x = absurd cc
      work_of d some (Statement Db (HandOut label)) is_work a s x = absurd cc
      work_of d some (Statement (Held k) (HandOut label)) is_work a s x = absurd cc
      work_of d some (Begin label level read_only) is_work a s x = absurd cc
      work_of d some Ping is_work a s x = absurd cc

      whose : (b : Bool) → (e.call_no == 0) ≡ b → DueNow H e → CallWay H e.conn e.tenure own e.call_no e.call
      whose true none d =
          let same = same_lent d.owner own (sym d.lent ∙ lent) in
          let due : is_due (tidying H (number_of d.owner)) e.call ≡ true = ap (λ b. is_due (cond b (tidying H (number_of d.owner)) (due_for H e.call_no)) e.call) (sym none) ∙ d.due in
          layer (subst (λ o. is_due (tidying H (number_of o)) e.call ≡ true) same due)
      whose false some d =
          let o = due_of H e.call_no e.call (ap (λ b. is_due (cond b (tidying H (number_of d.owner)) (due_for H e.call_no)) e.call) (sym some) ∙ d.due) in
          work_of d some (work H e.call_no) refl its.asks_none its.outside o.due

-- This stays so as long as nothing is heard there.
call_way_stays : (H : List Event) (last : Event) (e : Entry) (own : Owner) → Lawful (last ∷ H) → parts last e ≡ false → (u : UnderWay H e) → u.owner ≡ own → is_call own ≡ true → place (last ∷ H) e.conn ≡ Some (Lent e.tenure own)
    → work (last ∷ H) e.call_no ≡ work H e.call_no → CallWay H e.conn e.tenure own e.call_no e.call → CallWay (last ∷ H) e.conn e.tenure own e.call_no e.call
call_way_stays H last e own l on u same call now works w = record { wish = w.wish; due = due; kind = kind w.kind }
  where
    lent : place H e.conn ≡ Some (Lent e.tenure own)
    lent = subst (λ o. place H e.conn ≡ Some (Lent e.tenure o)) same u.lent

    due : is_due (call_line (last ∷ H) e.conn e.tenure own w.wish) e.call ≡ true
    due =
        let used = subst (λ o. is_used H (number_of o) ≡ true) same (why_used H e.conn e.tenure u.owner e.call_no l.0 u.lent u.why) in
        let busy = not_looking (work H (number_of own)) (lent_asks H e.conn e.tenure own l.0 lent) in
        ap (λ o. is_due o e.call)
        (sym (line_of_call (last ∷ H) e.conn e.tenure own w.wish l now call)
        ∙ (line_stays H last e.conn e.tenure own (number_of own) w.wish l.0 l.1 lent used (unheard H last e on) busy ∙ line_of_call H e.conn e.tenure own w.wish l.0 lent call)) ∙ w.due

    kind : ((w.wish ≡ wishes.Close) × (are_over H (number_of own) ≡ true)) ⊎ ((w.wish ≡ wishes.Fetch) × (work H e.call_no ≡ Fetch (number_of own)))
        → ((w.wish ≡ wishes.Close) × (are_over (last ∷ H) (number_of own) ≡ true)) ⊎ ((w.wish ≡ wishes.Fetch) × (work (last ∷ H) e.call_no ≡ Fetch (number_of own)))
    kind (inl x) = let k = rows_kept H last (number_of own) in inl (x.0, k.ended x.1)
    kind (inr x) = inr (x.0, works ∙ x.1)

pub call_way : (H : List Event) (e : Entry) (own : Owner) → Lawful H → may_come H e ≡ true → place H e.conn ≡ Some (Lent e.tenure own) → is_call own ≡ true → IsOther H e.call_no → CallWay H e.conn e.tenure own e.call_no e.call
call_way [] e own l may is call its = absurd cc
call_way (last ∷ H) e own l may is call its = by (call_way H e own l.0) (or_cases (is_due_at (last ∷ H) (place (last ∷ H) e.conn) e) (not (parts last e) && may_come H e) may)
  where
    same_lent : (o p : Owner) → Some (Lent e.tenure o) ≡ Some (Lent e.tenure p) → o ≡ p
    same_lent o p k = cc

    by : (may_come H e ≡ true → place H e.conn ≡ Some (Lent e.tenure own) → is_call own ≡ true → IsOther H e.call_no → CallWay H e.conn e.tenure own e.call_no e.call)
        → (is_due_at (last ∷ H) (place (last ∷ H) e.conn) e ≡ true) ⊎ ((not (parts last e) && may_come H e) ≡ true) → CallWay (last ∷ H) e.conn e.tenure own e.call_no e.call
    by rest (inl now) = due_call_way (last ∷ H) e own l is call now its
    by rest (inr could) =
        let b = both (not (parts last e)) (may_come H e) could in
        let s = sound H l.0 in
        let u = s.coming e b.1 in
        let stays = stays_lent H last e.conn e.tenure u.owner l.0 l.1 u.lent (why_used H e.conn e.tenure u.owner e.call_no l.0 u.lent u.why) in
        let same = same_lent u.owner own (sym stays ∙ is) in
        let lent : place H e.conn ≡ Some (Lent e.tenure own) = subst (λ o. place H e.conn ≡ Some (Lent e.tenure o)) same u.lent in
        let works = coming_work H last e b.1 in
        call_way_stays H last e own l (not_true (parts last e) b.0) u same call is works
        (rest b.1 lent call (record { asks_none = sym (ap asks works) ∙ its.asks_none; outside = sym (ap scope works) ∙ its.outside }))
