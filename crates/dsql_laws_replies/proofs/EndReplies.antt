-- A commit or a rollback that has nothing to send has a settled reply.
use Rattle.std.proofs.Common.{◌≡◌, ◌≢◌, ℕ, ◌==◌, ◌⊎◌, inl, inr, Bool, true, false, not, ◌&&◌, ◌||◌, cond, List, [], ◌∷◌, length, Option, Some, None, is_some, refl, sym, ap, subst, ◌∙◌}
use Rattle.std.proofs.lemmas.Bool.{or_cases}
use Rattle.dsql_laws_calls.specs.driver.declared.call.DriverCall.{DriverCall}
use Rattle.dsql_laws_calls.specs.driver.Kinds.{is_ending}
use Rattle.dsql_laws_calls.specs.course.declared.course.Wish.TheVariants as wishes
use Rattle.dsql_laws_calls.specs.journal.declared.entry.Entry.{Entry}
use Rattle.dsql_laws_calls.specs.journal.declared.entry.Owner.{Owner}
use Rattle.dsql_laws_calls.specs.journal.Kinds.{number_of}
use Rattle.dsql_laws_calls.specs.journal.Readers.{of_tenure}
use Rattle.dsql_laws_calls.specs.pool.declared.conn.Place.TheVariants.{Lent}
use Rattle.dsql_laws_calls.specs.tx.declared.end.TxEnd.{TxEnd}
use Rattle.dsql_laws_calls.specs.tx.declared.end.TxEnd.TheVariants as tx_ends
use Rattle.dsql_laws_calls.specs.history.Readers.HandedOut.{over, are_over, ender}
use Rattle.dsql_laws_calls.proofs.laws_work.Rows.{same_or_not}
use Rattle.dsql_laws_calls.proofs.laws.Tests.{both, same_number, same_itself, other_number}
use Rattle.dsql_laws_calls.specs.history.declared.event.Event.{Event}
use Rattle.dsql_laws_calls.specs.history.declared.event.Event.TheVariants.{Entered, Heard, Replied}
use Rattle.dsql_laws_calls.specs.history.declared.work.Scope.TheVariants.{Held, Db}
use Rattle.dsql_laws_calls.specs.history.declared.work.Work.{Work}
use Rattle.dsql_laws_calls.specs.history.declared.work.Work.TheVariants.{Statement, Fetch, End, Look, Begin, Ping, Close}
use Rattle.dsql_laws_calls.specs.history.Readers.Journals.{heard_in}
use Rattle.dsql_laws_calls.specs.history.Readers.Pool.{place, home}
use Rattle.dsql_laws_calls.specs.history.Readers.Transactions.{tx_end, tx_ender, is_begun, is_over, goes_on, ending_call, transactions, ends_as, tx_by, end_of}
use Rattle.dsql_laws_calls.specs.history.Readers.Works.{works, work, borrower, work_of, tx_maker}
use Rattle.dsql_laws_calls.specs.history.Rules.Ending.{ending}
use Rattle.dsql_laws_calls.specs.history.Rules.Line.{is_due, is_due_at, due_in, due_for, tidying, parts, may_come, sends_in, due_inside, sends_from}
use Rattle.dsql_laws_calls.specs.history.Rules.Sent.{line_of, close_due, wish, sent_for}
use Rattle.dsql_laws_calls.specs.history.Legal.{Lawful}
use Rattle.dsql_laws_calls.proofs.Lent.{stays_lent}
use Rattle.dsql_laws_calls.proofs.Looks.{heard_there, comes}
use Rattle.dsql_laws_calls.proofs.Works as of_works
use Rattle.dsql_laws_calls.proofs.Begun.{over_begun, stays_over}
use Rattle.dsql_laws_calls.proofs.BeginningsAt.{heard_more, heard_other, is_answer, heard_same}
use Rattle.dsql_laws_calls.proofs.Own.{due_now, due_of, DueNow, some_due}
use Rattle.dsql_laws_calls.proofs.UnderWay.{at_number, no_ending}
use Rattle.dsql_laws_calls.proofs.Coming.{sound}
use Rattle.dsql_laws_calls.proofs.Nowhere.{own_settled}
use Rattle.dsql_laws_calls.specs.driver.Fits.{fits_of, is_memory}
use Rattle.dsql_laws_calls.specs.history.declared.reply.Reply.TheVariants.{Absent}
use Rattle.dsql_laws_calls.specs.history.Readers.Decisions.{decision, Trying}
use Rattle.dsql_laws_replies.proofs.EndKinds.{end_kind}
use Rattle.dsql_laws_calls.specs.course.declared.course.Wish.{Wish}
use Rattle.dsql_laws_calls.specs.history.declared.work.Scope.{Scope}
use Rattle.dsql_laws_calls.proofs.Why.{why_used, ended_there, tx_used, ending_some}
use Rattle.std.specs.Option.{option_map}
use Rattle.dsql_laws_calls.specs.numbered.Numbered.{thing_of, changed}
use Rattle.dsql_laws_calls.proofs.numbered.Numbers.{changes_one_number}
use Rattle.dsql_laws_calls.specs.tx.declared.tx.Tx.{Tx as Trans}
use Rattle.dsql_laws_calls.specs.tx.Transactions as of_txs
use Rattle.dsql_laws_calls.specs.history.declared.event.Op.{Op}
use Rattle.dsql_laws_calls.specs.history.declared.event.Op.TheVariants as ops
use Rattle.dsql_laws_calls.specs.history.Readers.Calls.{decided, done_with, tx_refused, told_at_entry, calls, reply_due, told_by_others, told_at_lending}
use Rattle.dsql_laws_calls.specs.history.Readers.Unfinished.{is_unfinished}
use Rattle.dsql_laws_calls.proofs.RowsKept.{Borrows, tx_borrows}
use Rattle.dsql_laws_calls.proofs.Sound.{same_lent}
use Rattle.dsql_laws_replies.proofs.Records.{record_stays, own_record, fitting, trying_of}
use Rattle.dsql_laws_calls.proofs.Works.{other_heard}
use Rattle.dsql_laws_replies.proofs.EndSends.{end_sends, end_decides, end_keeps}
use Rattle.dsql_laws_calls.proofs.laws.Numbered.{unfinished_from_one}

never : (b : Bool) → b ≡ true → b ≡ false → ⊥
never b x y = cc

-- A call that ends a transaction ended it as it entered.

pub still_ender : (H : List Event) (e : Event) (k : ℕ) → is_over H k ≡ true → tx_ender (e ∷ H) k ≡ tx_ender H k
still_ender H e k over = ap (λ b. cond b (cond (goes_on (e ∷ H) k) 0 (ending_call e)) (tx_ender H k)) (ap (λ b. is_begun H k && not b) over ∙ none (is_begun H k))
  where
    none : (b : Bool) → (b && false) ≡ false
    none true = refl
    none false = refl

cond_ending : (H : List Event) (n : ℕ) (w : Wish) (q : DriverCall) (b : Bool) → is_due (cond b (line_of H n w) None) q ≡ true → is_ending q ≡ true → ⊥
cond_ending H n w q true h e = never (is_ending q) e (no_ending H n w q h)
cond_ending H n w q false h e = cc

rows_ending : (H : List Event) (k : ℕ) (w : Wish) (q : DriverCall) → is_due (sent_for H k w) q ≡ true → is_ending q ≡ true → ⊥
rows_ending H k wishes.Nothing q h e = cc
rows_ending H k wishes.Fetch q h e = never (is_ending q) e (no_ending H k wishes.Fetch q h)
rows_ending H k wishes.Close q h e = never (is_ending q) e (no_ending H k wishes.Close q h)

inside_ending : (H : List Event) (m : ℕ) (s : Scope) (q : DriverCall) → is_due (due_inside H m s) q ≡ true → is_ending q ≡ true → ⊥
inside_ending H m Db q h e = never (is_ending q) e (no_ending H m wishes.Nothing q h)
inside_ending H m (Held k) q h e = cond_ending H m wishes.Nothing q (sends_in H m k) h e

record Ender (H : List Event) (e : Entry) : Type 0 where
  owner : Owner
  lent : place H e.conn ≡ Some (Lent e.tenure owner)
  ender : tx_ender H (number_of owner) ≡ e.call_no

ender_now : (H : List Event) (e : Entry) → Lawful H → is_due_at H (place H e.conn) e ≡ true → is_ending e.call ≡ true → Ender H e
ender_now H e l now ends = by (e.call_no == 0) refl d.due
  where
    d : DueNow H e
    d = due_now H e now

    layer : (b x y : Bool) → (tx_ender H (number_of d.owner) == 0) ≡ x → is_due (cond b (cond x (ending H (number_of d.owner)) None) (cond y (close_due H (number_of d.owner)) None)) e.call ≡ true → e.call_no ≡ 0 → Ender H e
    layer true true y is h none = record { owner = d.owner; lent = d.lent; ender = same_number (tx_ender H (number_of d.owner)) 0 is ∙ sym none }
    layer true false y is h none = absurd cc
    layer false x true is h none = absurd (cond_ending H (number_of d.owner) wishes.Close e.call (are_over H (number_of d.owner)) h ends)
    layer false x false is h none = absurd cc

    some_due_so : (o : Option DriverCall) → is_due o e.call ≡ true → is_some o ≡ true
    some_due_so o h = some_due o e.call h

    own_end : (k : ℕ) → work H e.call_no ≡ End k → (e.call_no == 0) ≡ false → (b : Bool) → (tx_ender H k == e.call_no) ≡ b → is_due (cond b (ending H k) None) e.call ≡ true → Ender H e
    own_end k it some true is h =
        let site_is : home H k ≡ e.conn = ap (home H) (sym (ends_on H e.call_no k it)) ∙ d.site some in
        let number = at_number H k e.conn e.tenure d.owner (some_due (ending H k) e.call h) site_is d.lent in
        record { owner = d.owner; lent = d.lent; ender = ap (tx_ender H) number ∙ same_number (tx_ender H k) e.call_no is }
      where
        ends_on : (K : List Event) (m j : ℕ) → work K m ≡ End j → borrower K m ≡ j
        ends_on K m j x = rw x refl
    own_end k it some false is h = absurd cc

    works_by : (w : Work) → work H e.call_no ≡ w → (e.call_no == 0) ≡ false → is_due (due_in H e.call_no w) e.call ≡ true → Ender H e
    works_by (Fetch k) it some h = absurd (rows_ending H k (wish H e.call_no k) e.call h ends)
    works_by (Close k) it some h = absurd (rows_ending H k (wish H e.call_no k) e.call h ends)
    works_by (End k) it some h = own_end k it some (tx_ender H k == e.call_no) refl h
    works_by Look it some h = absurd cc
    works_by (Statement s task) it some h = absurd (inside_ending H e.call_no s e.call h ends)
    works_by (Begin label level read_only) it some h = absurd (inside_ending H e.call_no Db e.call h ends)
    works_by Ping it some h = absurd (inside_ending H e.call_no Db e.call h ends)

    by : (b : Bool) → (e.call_no == 0) ≡ b → is_due (cond b (tidying H (number_of d.owner)) (due_for H e.call_no)) e.call ≡ true → Ender H e
    by true none h = layer (is_begun H (number_of d.owner)) (tx_ender H (number_of d.owner) == 0) (ender H (number_of d.owner) == 0) refl h (same_number e.call_no 0 none)
    by false some h = let o = due_of H e.call_no e.call h in works_by (work H e.call_no) refl some o.due

ender_of : (H : List Event) (e : Entry) → Lawful H → may_come H e ≡ true → is_ending e.call ≡ true → Ender H e
ender_of [] e l h ends = absurd cc
ender_of (last ∷ H) e l h ends = by (λ may. ender_of H e l.0 may ends) (or_cases (is_due_at (last ∷ H) (place (last ∷ H) e.conn) e) (not (parts last e) && may_come H e) h)
  where
    by : (may_come H e ≡ true → Ender H e) → (is_due_at (last ∷ H) (place (last ∷ H) e.conn) e ≡ true) ⊎ ((not (parts last e) && may_come H e) ≡ true) → Ender (last ∷ H) e
    by rest (inl now) = ender_now (last ∷ H) e l now ends
    by rest (inr could) =
        let b = both (not (parts last e)) (may_come H e) could in
        let r = rest b.1 in
        let s = sound H l.0 in
        let u = s.coming e b.1 in
        let lent = stays_lent H last e.conn e.tenure u.owner l.0 l.1 u.lent (why_used H e.conn e.tenure u.owner e.call_no l.0 u.lent u.why) in
        let same = same_lent e.tenure e.tenure u.owner r.owner (sym u.lent ∙ r.lent) in
        record { owner = u.owner; lent = lent; ender = still_ender H last (number_of u.owner) (u.ending ends) ∙ (ap (λ o. tx_ender H (number_of o)) same.1 ∙ r.ender) }

-- Holds if call n ended transaction k, and no end of the transaction was heard. A commit or a rollback has
-- settled its reply, or this holds.
record Ending (H : List Event) (n k : ℕ) : Type 0 where
  conn : ℕ
  tenure : ℕ
  owner : Owner
  number : number_of owner ≡ k
  lent : place H conn ≡ Some (Lent tenure owner)
  over : is_over H k ≡ true
  ender : tx_ender H k ≡ n
  none : ended_there (heard_in H conn tenure) ≡ false

abbrev Ends : List Event → ℕ → ℕ → Type 0
Ends H n k = (is_some (decided H n) ≡ true) ⊎ Ending H n k

ending_on : (H : List Event) (e : Event) (n k : ℕ) → Lawful (e ∷ H) → (a : Ending H n k) → ended_there (heard_in (e ∷ H) a.conn a.tenure) ≡ false → Ending (e ∷ H) n k
ending_on H e n k l a none = record {
  conn = a.conn;
  tenure = a.tenure;
  owner = a.owner;
  number = a.number;
  lent = stays_lent H e a.conn a.tenure a.owner l.0 l.1 a.lent (tx_used H a.conn a.tenure a.owner l.0 a.lent (record { begun = ap (is_begun H) a.number ∙ over_begun H k a.over; left = inl a.none }));
  over = stays_over H e k a.over;
  ender = still_ender H e k a.over ∙ a.ender;
  none = none;
}

busy_end : (w : Work) (k : ℕ) → w ≡ End k → w ≡ Look → ⊥
busy_end w k it look = let wrong : Look ≡ End k = sym look ∙ it in cc

ends_quiet : (H : List Event) (e : Event) (n k : ℕ) → Lawful (e ∷ H) → is_answer e ≡ false → is_unfinished (e ∷ H) n ≡ true → work H n ≡ End k → Ends H n k → Ends (e ∷ H) n k
ends_quiet H e n k l none u it (inl d) = inl (ap (λ r. is_some r.decided) (record_stays H e n l.1 none (busy_end (work H n) k it) u) ∙ d)
ends_quiet H e n k l none u it (inr a) = inr (ending_on H e n k l a (ap (λ J. ended_there (of_tenure a.tenure J)) (heard_same H e a.conn none) ∙ a.none))

over_now : (by : TxEnd) (o : Option Trans) → is_some o ≡ true → is_some (end_of (option_map (of_txs.ended_by by) o)) ≡ true
over_now by None h = absurd cc
over_now by (Some x) h = refl

ends_new : (H : List Event) (e : Event) (tx : List ℕ) (by_end : TxEnd) (m : ℕ) → Lawful (e ∷ H) → (transactions (e ∷ H) ≡ ends_as H tx by_end (transactions H)) → ending_call e ≡ m → ((c : ℕ) → place (e ∷ H) c ≡ place H c) → is_answer e ≡ false
    → (is_some (tx_refused H tx) ≡ true) ⊎ Ending (e ∷ H) m (tx_maker (works H) tx)
ends_new H e tx by_end m l txs call same none = by (is_begun H k) (is_unfinished H k) (tx_end H k) refl refl refl
  where
    k : ℕ
    k = tx_maker (works H) tx

    fresh : is_begun H k ≡ true → is_unfinished H k ≡ false → tx_end H k ≡ None → Ending (e ∷ H) m k
    fresh begun replied going = at (tx_borrows H k l.0 goes)
      where
        was : is_over H k ≡ false
        was = ap (λ o. is_some o) going

        goes : goes_on H k ≡ true
        goes = ap (λ b. b && not (is_over H k)) begun ∙ ap (λ b. not b) was

        its : tx_by (e ∷ H) k ≡ option_map (of_txs.ended_by by_end) (tx_by H k)
        its =
            let c = changes_one_number {X = Trans} in
            ap (thing_of k) txs ∙ (ap (λ b. thing_of k (cond b (transactions H) (changed (of_txs.ended_by by_end) k (transactions H)))) replied ∙ c.changes (of_txs.ended_by by_end) k (transactions H))

        over : is_over (e ∷ H) k ≡ true
        over = ap (λ o. is_some (end_of o)) its ∙ over_now by_end (tx_by H k) begun

        stopped : goes_on (e ∷ H) k ≡ false
        stopped = ap (λ b. is_begun (e ∷ H) k && not b) over ∙ no (is_begun (e ∷ H) k)
          where
            no : (b : Bool) → (b && false) ≡ false
            no true = refl
            no false = refl

        at : Borrows H k → Ending (e ∷ H) m k
        at b =
            let s = sound H l.0 in
            let f = s.facts in
            record {
              conn = b.conn;
              tenure = b.tenure;
              owner = b.owner;
              number = b.number;
              lent = same b.conn ∙ b.lent;
              over = over;
              ender = ap (λ x. cond x (cond (goes_on (e ∷ H) k) 0 (ending_call e)) (tx_ender H k)) goes ∙ (ap (λ x. cond x 0 (ending_call e)) stopped ∙ call);
              none = ap (λ J. ended_there (of_tenure b.tenure J)) (heard_same H e b.conn none) ∙ f.ends b.conn b.tenure b.owner b.lent (ap (is_over H) b.number ∙ was);
            }

    by : (a b : Bool) (o : Option TxEnd) → is_begun H k ≡ a → is_unfinished H k ≡ b → tx_end H k ≡ o → (is_some (cond (is_begun H k && not (is_unfinished H k)) (done_with (tx_end H k)) (Some (Absent tx))) ≡ true) ⊎ Ending (e ∷ H) m k
    by false b o x y z = inl (ap (λ v. is_some (cond (v && not (is_unfinished H k)) (done_with (tx_end H k)) (Some (Absent tx)))) x)
    by true true o x y z = inl (rw (x, y) refl)
    by true false (Some end) x y z = inl (rw (x, y, z) refl)
    by true false None x y z = inr (fresh x y z)

ends_entered : (H : List Event) (client m : ℕ) (op : Op) (k : ℕ) → Lawful (Entered client m op ∷ H) → work_of (works H) op ≡ End k → (is_some (told_at_entry H op) ≡ true) ⊎ Ending (Entered client m op ∷ H) m k
ends_entered H client m (ops.Commit tx) k l it = let same : tx_maker (works H) tx ≡ k = cc in subst (λ j. (is_some (tx_refused H tx) ≡ true) ⊎ Ending (Entered client m (ops.Commit tx) ∷ H) m j) same (ends_new H (Entered client m (ops.Commit tx)) tx tx_ends.Commit m l refl refl (λ c. refl) refl)
ends_entered H client m (ops.Rollback tx) k l it = let same : tx_maker (works H) tx ≡ k = cc in subst (λ j. (is_some (tx_refused H tx) ≡ true) ⊎ Ending (Entered client m (ops.Rollback tx) ∷ H) m j) same (ends_new H (Entered client m (ops.Rollback tx)) tx tx_ends.Rollback m l refl refl (λ c. refl) refl)
ends_entered H client m op k l it = absurd cc

ends_heard : (H : List Event) (e : Entry) (n k : ℕ) → Lawful (Heard e ∷ H) → n ≢ 0 → work H n ≡ End k → Ends H n k → Ends (Heard e ∷ H) n k
ends_heard H e n k l some it i = by (e.call_no == n) (is_ending e.call) refl refl i
  where
    may : (t : ℕ) (own : Owner) → place H e.conn ≡ Some (Lent t own) → may_come H e ≡ true
    may t own is = let there = heard_there H e l.1 in subst (λ at. sends_from H at e ≡ true) is there.line

    kept : (a : Ending H n k) → is_ending e.call ≡ false → (e.conn ≡ a.conn) ⊎ (e.conn ≢ a.conn) → Ends (Heard e ∷ H) n k
    kept a unending (inl here) = inr (ending_on H (Heard e) n k l a (ap ended_there (heard_more H e a.conn a.tenure a.owner l.1 a.lent here) ∙ (ap (λ b. b || ended_there (heard_in H a.conn a.tenure)) unending ∙ a.none)))
    kept a unending (inr off) = inr (ending_on H (Heard e) n k l a (ap (λ J. ended_there (of_tenure a.tenure J)) (heard_other H e a.conn off) ∙ a.none))

    foreign : (a : Ending H n k) → (e.call_no == n) ≡ false → is_ending e.call ≡ true → (e.conn ≡ a.conn) ⊎ (e.conn ≢ a.conn) → Ends (Heard e ∷ H) n k
    foreign a other ends_it (inl here) =
        let there : place H e.conn ≡ Some (Lent a.tenure a.owner) = ap (place H) here ∙ a.lent in
        let r = ender_of H e l.0 (may a.tenure a.owner there) ends_it in
        let same = same_lent e.tenure a.tenure r.owner a.owner (sym r.lent ∙ there) in
        let number : e.call_no ≡ n = sym r.ender ∙ ap (tx_ender H) (ap number_of same.1 ∙ a.number) ∙ a.ender in
        absurd (never (e.call_no == n) (ap (λ j. j == n) number ∙ same_itself n) other)
    foreign a other ends_it (inr off) = inr (ending_on H (Heard e) n k l a (ap (λ J. ended_there (of_tenure a.tenure J)) (heard_other H e a.conn off) ∙ a.none))

    fits : (fits_of e.call e.answer ≡ true) × (is_memory e.answer ≡ false)
    fits = fitting H e l.1

    recorded : e.call_no ≡ n → ((t : Trying) → is_some (decision (record t { work = End k }) e.call e.answer (decided H n)) ≡ true) → is_some (decided (Heard e ∷ H) n) ≡ true
    recorded mine h =
        let its : work H e.call_no ≡ End k = ap (work H) mine ∙ it in
        let new = own_record H e (busy_end (work H e.call_no) k its) (λ none. some (sym mine ∙ none)) in
        subst (λ j. is_some (decided (Heard e ∷ H) j) ≡ true) mine
        (ap (λ o. is_some o) new
        ∙ (ap (λ w. is_some (decision (record (trying_of H e.call_no) { work = w }) e.call e.answer (decided H e.call_no))) its
        ∙ (ap (λ j. is_some (decision (record (trying_of H e.call_no) { work = End k }) e.call e.answer (decided H j))) mine
        ∙ h (trying_of H e.call_no))))

    kind : e.call_no ≡ n → end_kind e.call ≡ true
    kind mine =
        let there = heard_there H e l.1 in
        let numbered = other_number e.call_no 0 (λ none. some (sym mine ∙ none)) in
        end_sends H e k l.0 (comes H e (place H e.conn) there.sets there.line numbered) numbered (ap (work H) mine ∙ it)

    by : (b c : Bool) → (e.call_no == n) ≡ b → is_ending e.call ≡ c → Ends H n k → Ends (Heard e ∷ H) n k
    by true true m c i = let mine = same_number e.call_no n m in inl (recorded mine (λ t. end_decides t k e.call e.answer (decided H n) c fits.0 fits.1))
    by true false m c (inl d) = let mine = same_number e.call_no n m in inl (recorded mine (λ t. end_keeps t k e.call e.answer (decided H n) (kind mine) fits.0 fits.1 d))
    by true false m c (inr a) = kept a c (same_or_not e.conn a.conn)
    by false c m x (inl d) = inl (ap (λ r. is_some r.decided) (other_heard H e n (λ same. never (e.call_no == n) (ap (λ j. e.call_no == j) same ∙ same_itself e.call_no) m)) ∙ d)
    by false true m c (inr a) = foreign a m c (same_or_not e.conn a.conn)
    by false false m c (inr a) = kept a c (same_or_not e.conn a.conn)

ends : (H : List Event) (n k : ℕ) → Lawful H → n ≢ 0 → is_unfinished H n ≡ true → work H n ≡ End k → Ends H n k
ends [] n k l some u it = absurd cc
ends (Entered client m op ∷ H) n k l some u it = by (ends H n k l.0 some) (same_or_not n m)
  where
    new : m ≡ length (calls H)
    new = of_works.enters_next H client m op l.1

    first : (is_some (told_at_entry H op) ≡ true) ⊎ Ending (Entered client m op ∷ H) m k → Ends (Entered client m op ∷ H) m k
    first (inl told) = inl (ap (λ r. is_some r.decided) (of_works.new_record H client m op new) ∙ told)
    first (inr a) = inr a

    by : (is_unfinished H n ≡ true → work H n ≡ End k → Ends H n k) → (n ≡ m) ⊎ (n ≢ m) → Ends (Entered client m op ∷ H) n k
    by rest (inl same) =
        subst (λ j. Ends (Entered client m op ∷ H) j k) (sym same)
        (first (ends_entered H client m op k l (sym (of_works.new_work H client m op new) ∙ (ap (work (Entered client m op ∷ H)) (sym same) ∙ it))))
    by rest (inr apart) =
        let was : work H n ≡ End k = sym (of_works.old_work H client m op n new apart) ∙ it in
        ends_quiet H (Entered client m op) n k l refl u was (rest (sym (of_works.old_unfinished H client m op n apart) ∙ u) was)
ends (Heard e ∷ H) n k l some u it = ends_heard H e n k l some it (ends H n k l.0 some u it)
ends (Replied m reply ∷ H) n k l some u it = let b = of_works.still_unfinished H m reply n u in ends_quiet H (Replied m reply) n k l refl u it (ends H n k l.0 some b.1 it)
ends (e ∷ H) n k l some u it = ends_quiet H e n k l refl u it (ends H n k l.0 some u it)

pub end_replies : (H : List Event) (n k : ℕ) → Lawful H → is_unfinished H n ≡ true → work H n ≡ End k → is_some (due_for H n) ≡ false → is_some (reply_due H n) ≡ true
end_replies H n k l u it none = by (ends H n k l (unfinished_from_one H n l u) u it)
  where
    end_with : (o : Option TxEnd) → is_some o ≡ true → (end : TxEnd) × (o ≡ Some end)
    end_with None h = absurd cc
    end_with (Some end) h = (end, refl)

    by : Ends H n k → is_some (reply_due H n) ≡ true
    by (inl d) = own_settled (decided H n) (told_by_others H n) (told_at_lending H n) d
    by (inr a) =
        let end = end_with (tx_end H k) a.over in
        let some : is_some (ending H k) ≡ true = subst (λ j. is_some (ending H j) ≡ true) a.number (ending_some H a.conn a.tenure a.owner end.0 l a.lent (ap (tx_end H) a.number ∙ end.1) (inl a.none)) in
        let its : is_some (due_for H n) ≡ true =
        ap (λ b. is_some (cond b (due_in H n (work H n)) None)) u ∙ (ap (λ w. is_some (due_in H n w)) it ∙ (ap (λ b. is_some (cond b (ending H k) None)) (ap (λ j. j == n) a.ender ∙ same_itself n) ∙ some))
        in
        absurd (never (is_some (due_for H n)) its none)
