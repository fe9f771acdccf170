-- A call that has settled its reply sends on if an answer is heard on another connection.
use Rattle.dsql_laws_calls.specs.history.Readers.HandedOut.{ended_at, is_late, rows_by, are_live, ender}
use Rattle.std.proofs.Common.{◌≡◌, ◌≢◌, ℕ, ◌==◌, inl, inr, Bool, true, false, not, ◌&&◌, ◌||◌, cond, List, ◌∷◌, Option, Some, None, is_some, is_none, refl, sym, ap, ◌∙◌}
use Rattle.dsql_laws_calls.specs.course.declared.course.Wish.TheVariants as wishes
use Rattle.dsql_laws_calls.specs.journal.declared.entry.Entry.{Entry}
use Rattle.dsql_laws_calls.specs.journal.declared.entry.Owner.{Owner}
use Rattle.dsql_laws_calls.specs.journal.Kinds.{number_of}
use Rattle.dsql_laws_calls.specs.history.Rules.Wishes.{wish_as}
use Rattle.dsql_laws_calls.proofs.laws.Tests.{both, same_number}
use Rattle.dsql_laws_calls.proofs.DueWay.{borrow_same}
use Rattle.dsql_laws_calls.specs.history.declared.event.Event.{Event}
use Rattle.dsql_laws_calls.specs.history.declared.event.Event.TheVariants.{Heard}
use Rattle.dsql_laws_calls.specs.history.declared.reply.Reply.{Reply}
use Rattle.dsql_laws_calls.specs.history.declared.work.Scope.{Scope}
use Rattle.dsql_laws_calls.specs.history.declared.work.Scope.TheVariants.{Db, Held}
use Rattle.dsql_laws_calls.specs.history.declared.work.Work.{Work}
use Rattle.dsql_laws_calls.specs.history.declared.work.Work.TheVariants.{Statement, Begin, End, Ping, Fetch, Close, Look}
use Rattle.dsql_laws_calls.specs.history.Readers.Calls.{site, decided, has_begun_to_send}
use Rattle.dsql_laws_calls.specs.history.Readers.Pool.{home}
use Rattle.dsql_laws_calls.specs.history.Readers.Transactions.{tx_by, goes_on, tx_ender}
use Rattle.dsql_laws_calls.specs.history.Readers.Unfinished.{is_unfinished}
use Rattle.dsql_laws_calls.specs.history.Readers.Works.{work, scope, is_fetch, borrower}
use Rattle.dsql_laws_calls.specs.history.Rules.Ending.{ending}
use Rattle.dsql_laws_calls.specs.history.Rules.Line.{due_inside, due_in, due_for}
use Rattle.dsql_laws_calls.specs.history.Rules.Sent.{line_of, closes, wish, sent_for}
use Rattle.dsql_laws_calls.proofs.EndedRows.{ender_over}
use Rattle.dsql_laws_calls.proofs.LiveRows.{over_not_live, over_some}
use Rattle.dsql_laws_calls.proofs.Makers.{hands_out, rows_hand_out}
use Rattle.dsql_laws_calls.proofs.Owners.{at_home}
use Rattle.dsql_laws_calls.proofs.TxEnders.{same_going}
use Rattle.dsql_laws_others.proofs.Alike.{same_tx_ender}
use Rattle.dsql_laws_answers.proofs.Beside.{Beside, sent_same, late_same}
use Rattle.dsql_laws_answers.proofs.Elsewhere.{HeardLent, line_off, tx_off, ending_off}
use Rattle.dsql_laws_calls.proofs.UnderWay.{clash}

-- Another call than that of the answer, which is heard on a connection that is lent to this owner.
pub record BesideLent (H : List Event) (e : Entry) (t : ℕ) (own : Owner) (m : ℕ) : Type 0 where
  pub heard : HeardLent H e t own
  pub beside : Beside H e m

-- A call that has settled its reply sends on, on another connection.

inner_off : (H : List Event) (e : Entry) (t : ℕ) (own : Owner) (m k : ℕ) → BesideLent H e t own m → is_some (decided H m) ≡ true → line_of (Heard e ∷ H) m wishes.Nothing ≡ line_of H m wishes.Nothing
    → is_some (due_inside H m (Held k)) ≡ true → is_some (due_inside (Heard e ∷ H) m (Held k)) ≡ true
inner_off H e t own m k b settled line h =
    ap (λ x. is_some (cond (x || (goes_on K k && is_none (decided K m))) (line_of K m wishes.Nothing) None)) (sent_same H e m (site H m) b.beside.other)
    ∙ (ap (λ d. is_some (cond (has_begun_to_send H m || (goes_on K k && is_none (decided K m))) d None)) line ∙ by (has_begun_to_send H m) h)
  where
    K : List Event
    K = Heard e ∷ H

    unsettled : (o : Option Reply) (g : Bool) → is_some o ≡ true → (g && is_none o) ≡ false
    unsettled None g x = absurd cc
    unsettled (Some r) true x = refl
    unsettled (Some r) false x = refl

    by : (x : Bool) → is_some (cond (x || (goes_on H k && is_none (decided H m))) (line_of H m wishes.Nothing) None) ≡ true → is_some (cond (x || (goes_on K k && is_none (decided K m))) (line_of H m wishes.Nothing) None) ≡ true
    by true y = y
    by false y = clash (sym (sym (ap (λ z. is_some (cond z (line_of H m wishes.Nothing) None)) (unsettled (decided H m) (goes_on H k) settled)) ∙ y))

-- A call that has settled its reply wants rows to be closed, and nothing else of them.
rows_off_closed : (H : List Event) (e : Entry) (t : ℕ) (own : Owner) (m k : ℕ) → BesideLent H e t own m → is_some (decided H m) ≡ true → e.conn ≢ site H m → (hands_out (work H k) ≡ true → borrower H m ≡ borrower H k)
    → is_some (sent_for H k (wish H m k)) ≡ true → is_some (sent_for (Heard e ∷ H) k (wish (Heard e ∷ H) m k)) ≡ true
rows_off_closed H e t own m k b settled apart same h = by (closes H m k) (is_fetch (work H m) && (are_live H k && is_none (decided H m))) refl refl h
  where
    K : List Event
    K = Heard e ∷ H

    by : (x y : Bool) → closes H m k ≡ x → (is_fetch (work H m) && (are_live H k && is_none (decided H m))) ≡ y → is_some (sent_for H k (wish_as x y)) ≡ true → is_some (sent_for K k (wish K m k)) ≡ true
    by false true ended fetches z =
        let f = both (is_fetch (work H m)) (are_live H k && is_none (decided H m)) fetches in
        let g = both (are_live H k) (is_none (decided H m)) f.1 in
        absurd (settled_not (decided H m) settled g.1)
      where
        settled_not : (o : Option Reply) → is_some o ≡ true → is_none o ≡ true → ⊥
        settled_not None p q = cc
        settled_not (Some r) p q = cc
    by false false ended fetches z = absurd cc
    by true y ended fetches z =
        let w = both (ender H k == m) (not (is_late H (scope (work H k))) || has_begun_to_send H m) ended in
        let is : ender H k ≡ m = same_number (ender H k) m w.0 in
        let done = ender_over H k (λ none. b.beside.number (sym is ∙ none)) in
        let hands = rows_hand_out H k (over_some (rows_by H k) done) in
        let still : ender K k ≡ ender H k = ap (λ x. cond x (ended_at (Heard e) (are_live K k)) (ender H k)) (over_not_live (rows_by H k) done) in
        let closes_it : closes K m k ≡ true =
        ap (λ n. (n == m) && (not (is_late K (scope (work H k))) || has_begun_to_send K m)) still
        ∙ (ap (λ x. (ender H k == m) && (not x || has_begun_to_send K m)) (late_same H e (scope (work H k)))
        ∙ (ap (λ x. (ender H k == m) && (not (is_late H (scope (work H k))) || x)) (sent_same H e m (site H m) b.beside.other) ∙ ended))
        in
        ap (λ x. is_some (sent_for K k (wish_as x (is_fetch (work H m) && (are_live K k && is_none (decided K m)))))) closes_it
        ∙ (ap (λ d. is_some d) (line_off H e k wishes.Close (hands_busy (work H k) hands) (λ at. apart (at ∙ ap (home H) (sym (same hands))))) ∙ z)
      where
        hands_busy : (v : Work) → hands_out v ≡ true → v ≡ Look → ⊥
        hands_busy v x looks = clash (sym x ∙ ap hands_out looks)

pub decided_off : (H : List Event) (e : Entry) (t : ℕ) (own : Owner) (m : ℕ) → BesideLent H e t own m → is_some (decided H m) ≡ true → e.conn ≢ site H m → is_some (due_for H m) ≡ true → is_some (due_for (Heard e ∷ H) m) ≡ true
decided_off H e t own m b settled apart h = started (is_unfinished H m) h
  where
    K : List Event
    K = Heard e ∷ H

    line : (w : Work) → work H m ≡ w → (w ≡ Look → ⊥) → line_of K m wishes.Nothing ≡ line_of H m wishes.Nothing
    line w is busy = line_off H e m wishes.Nothing (λ looks. busy (sym is ∙ looks)) apart

    inside : (w : Work) (s : Scope) → work H m ≡ w → (w ≡ Look → ⊥) → is_some (due_inside H m s) ≡ true → is_some (due_inside K m s) ≡ true
    inside w Db is busy x = ap (λ d. is_some d) (line w is busy) ∙ x
    inside w (Held k) is busy x = inner_off H e t own m k b settled (line w is busy) x

    ends : (k : ℕ) → work H m ≡ End k → is_some (cond (tx_ender H k == m) (ending H k) None) ≡ true → is_some (cond (tx_ender K k == m) (ending K k) None) ≡ true
    ends k is x =
        let uses : borrower H m ≡ k = rw is refl in
        let hl = b.heard in
        let l = hl.lawful in
        let off : k ≢ number_of own = λ same. apart (sym (at_home H e.conn t own l.0 hl.lent) ∙ ap (home H) (sym (uses ∙ same))) in
        let txs = tx_off H e t own k hl off in
        ap (λ n. is_some (cond (n == m) (ending K k) None)) (same_tx_ender H (Heard e) k (same_going (tx_by H k) (tx_by K k) txs))
        ∙ (ap (λ d. is_some (cond (tx_ender H k == m) d None)) (ending_off H e t own k hl off (λ at. apart (at ∙ ap (home H) (sym uses)))) ∙ x)

    by : (w : Work) → work H m ≡ w → is_some (due_in H m w) ≡ true → is_some (due_in K m w) ≡ true
    by (Fetch k) is x = rows_off_closed H e t own m k b settled apart (borrow_same H m k (inl is)) x
    by (Close k) is x = rows_off_closed H e t own m k b settled apart (borrow_same H m k (inr is)) x
    by (End k) is x = ends k is x
    by Look is x = absurd cc
    by (Statement s task) is x = inside (Statement s task) s is (λ y. cc) x
    by (Begin label level read_only) is x = ap (λ d. is_some d) (line (Begin label level read_only) is (λ y. cc)) ∙ x
    by Ping is x = ap (λ d. is_some d) (line Ping is (λ y. cc)) ∙ x

    started : (x : Bool) → is_some (cond x (due_in H m (work H m)) None) ≡ true → is_some (cond x (due_in K m (work H m)) None) ≡ true
    started true y = by (work H m) refl y
    started false y = absurd cc
