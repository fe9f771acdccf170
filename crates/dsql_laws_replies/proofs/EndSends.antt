-- What a commit or a rollback sends. What is decided for it stays decided.
use Rattle.std.proofs.Common.{◌≡◌, ℕ, ◌+◌, ◌==◌, ◌⊎◌, inl, inr, Bool, true, false, not, ◌&&◌, ◌||◌, cond, List, [], ◌∷◌, length, Option, Some, None, is_some, refl, sym, ap, ◌∙◌, get_or, suc, arith}
use Rattle.std.proofs.lemmas.Bool.{or_cases}
use Rattle.std.specs.List.{list_any}
use Rattle.dsql_laws_calls.specs.driver.declared.answer.DriverAnswer.{DriverAnswer}
use Rattle.dsql_laws_calls.specs.driver.declared.answer.DriverAnswer.TheVariants.{Done, Bad, Fail}
use Rattle.dsql_laws_calls.specs.driver.declared.call.DriverCall.{DriverCall}
use Rattle.dsql_laws_calls.specs.driver.declared.call.DriverCall.TheVariants.{CloseRows, CloseStmt, Commit, Rollback, Valid}
use Rattle.dsql_laws_calls.specs.driver.Kinds.{is_valid, is_ending}
use Rattle.dsql_laws_calls.specs.course.declared.call.Due.{Due}
use Rattle.dsql_laws_calls.specs.course.declared.call.Due.TheVariants as due
use Rattle.dsql_laws_calls.specs.course.declared.course.Course.TheVariants as courses
use Rattle.dsql_laws_calls.specs.course.declared.course.Wish.TheVariants as wishes
use Rattle.dsql_laws_calls.specs.course.Made.{Exchange, or_else, rows_are_over}
use Rattle.dsql_laws_calls.specs.course.Rows.{closing_of, rows_next_if}
use Rattle.dsql_laws_calls.specs.journal.declared.entry.Entry.{Entry}
use Rattle.dsql_laws_calls.specs.journal.declared.entry.Owner.{Owner}
use Rattle.dsql_laws_calls.specs.journal.Kinds.{number_of}
use Rattle.dsql_laws_calls.specs.journal.Readers.{went_bad}
use Rattle.dsql_laws_calls.specs.pool.declared.conn.Place.{Place}
use Rattle.dsql_laws_calls.specs.pool.declared.conn.Place.TheVariants.{Lent}
use Rattle.dsql_laws_calls.specs.tx.declared.end.TxEnd.{TxEnd}
use Rattle.dsql_laws_calls.specs.tx.declared.end.TxEnd.TheVariants as tx_ends
use Rattle.dsql_laws_calls.specs.works.Line.{sent_as, sent_over, handed, Asked, body_with}
use Rattle.dsql_laws_calls.specs.works.declared.work.Aim.TheVariants as aims
use Rattle.dsql_laws_calls.specs.history.Readers.HandedOut.{rows_by, are_over}
use Rattle.dsql_laws_calls.proofs.laws.Tests.{both, same_number}
use Rattle.dsql_laws_calls.specs.history.declared.event.Event.{Event}
use Rattle.dsql_laws_calls.specs.history.declared.work.Scope.TheVariants.{Held}
use Rattle.dsql_laws_calls.specs.history.declared.work.Work.{Work}
use Rattle.dsql_laws_calls.specs.history.declared.work.Task.TheVariants.{HandOut}
use Rattle.dsql_laws_calls.specs.history.declared.work.Work.TheVariants.{Statement, End, Look}
use Rattle.dsql_laws_calls.specs.history.Readers.Course.{caps}
use Rattle.dsql_laws_calls.specs.history.Readers.Journals.{journal, heard_in}
use Rattle.dsql_laws_calls.specs.history.Readers.Pool.{place, home}
use Rattle.dsql_laws_calls.specs.history.Readers.Transactions.{tx_end, tx_ender, is_begun}
use Rattle.dsql_laws_calls.specs.history.Readers.Works.{works, work, scope, hands_out_in, aim_of}
use Rattle.dsql_laws_calls.specs.history.Rules.Ending.{first_closing, end_after, ended_by_call, ending_at, ending_with, ending}
use Rattle.dsql_laws_calls.specs.history.Rules.Line.{is_due, is_due_at, due_in, due_for, tidying, parts, may_come}
use Rattle.dsql_laws_calls.specs.history.Rules.Sent.{asked_by, untested, line_of, close_due}
use Rattle.dsql_laws_calls.specs.history.Legal.{Lawful}
use Rattle.dsql_laws_calls.proofs.Looks.{sent_no_look}
use Rattle.dsql_laws_calls.proofs.Works as of_works
use Rattle.dsql_laws_calls.proofs.Begun.{begun_begins, over_begun}
use Rattle.dsql_laws_calls.proofs.Beginnings.{begin_owner}
use Rattle.dsql_laws_calls.proofs.Inside.{inside_uses}
use Rattle.dsql_laws_calls.proofs.Lines.{line_here}
use Rattle.dsql_laws_calls.proofs.DueWay as of_due
use Rattle.dsql_laws_calls.proofs.LiveRows.{over_some}
use Rattle.dsql_laws_calls.proofs.Own.{due_now, due_of}
use Rattle.dsql_laws_calls.proofs.UnderWay.{line_made}
use Rattle.dsql_laws_calls.proofs.Why.{scoped}
use Rattle.dsql_laws_replies.proofs.InnerHeard.{closing_tidy}
use Rattle.dsql_laws_replies.proofs.Decides.{closing_decides}
use Rattle.dsql_laws_replies.proofs.InnerOver.{is_tidy}
use Rattle.dsql_laws_calls.specs.driver.declared.caps.Caps.{Caps}
use Rattle.dsql_laws_calls.specs.driver.Fits.{fits_of, is_memory}
use Rattle.dsql_laws_calls.specs.history.declared.reply.Reply.{Reply}
use Rattle.dsql_laws_calls.specs.history.Readers.Decisions.{decision, Trying}
use Rattle.dsql_laws_replies.proofs.EndKinds.{held_in, end_kind, tidy_kind}

same_some : (p q : DriverCall) → Some p ≡ Some q → p ≡ q
same_some p q h = cc

sent_kind : (can : Caps) (asked : Asked) (c : Due) (p : DriverCall) → is_tidy aims.HandOut c ≡ true → sent_as (untested can) asked c ≡ Some p → end_kind p ≡ true
sent_kind can asked (due.CloseRows r) p t h = ap end_kind (same_some p (CloseRows r) (sym h))
sent_kind can asked (due.CloseStmt r) p t h = ap end_kind (same_some p (CloseStmt r) (sym h))
sent_kind can asked due.Over p t h = absurd cc
sent_kind can asked c p t h = absurd cc

handing : (w : Work) (k : ℕ) → hands_out_in k w ≡ true → aim_of w ≡ aims.HandOut
handing (Statement s (HandOut label)) k h = refl
handing w k h = absurd cc

closing_kind : (H : List Event) (c t : ℕ) (own : Owner) (n : ℕ) (p : DriverCall) → Lawful H → place H c ≡ Some (Lent t own) → is_begun H (number_of own) ≡ true → hands_out_in (number_of own) (work H n) ≡ true → close_due H n ≡ Some p → end_kind p ≡ true
closing_kind H c t own n p l is begun hands h = by (are_over H n) refl h
  where
    can : Caps
    can = caps H

    made : List Exchange
    made = line_made H c t n

    in_it : scope (work H n) ≡ Held (number_of own)
    in_it = scoped (work H n) (number_of own) hands

    line : line_of H n wishes.Close ≡ body_with (untested (caps H)) (went_bad (journal H c)) (asked_by H n) wishes.Close (line_made H c t n) (handed (asked_by H n).aim (line_made H c t n))
    line =
        line_here H c t own n wishes.Close l is (inside_uses H n (number_of own) in_it)
        ∙ of_due.inner_is H c t own n wishes.Close (number_of own) (begin_owner H c t own l is (begun_begins H (number_of own) l begun)) in_it

    either : (b : Bool) (r : ℕ) (d : Due) → is_tidy aims.HandOut d ≡ true → sent_over (untested (caps H)) (asked_by H n) (rows_next_if b wishes.Close d r) ≡ Some p → end_kind p ≡ true
    either true r d t x = sent_kind (caps H) (asked_by H n) d p t x
    either false r d t x = sent_kind (caps H) (asked_by H n) d p t x

    with_rows : (o : Option ℕ) → handed (asked_by H n).aim (line_made H c t n) ≡ o → is_some o ≡ true → body_with (untested (caps H)) (went_bad (journal H c)) (asked_by H n) wishes.Close (line_made H c t n) o ≡ Some p → end_kind p ≡ true
    with_rows None none some x = absurd cc
    with_rows (Some r) cursor some x =
        either (rows_are_over (line_made H c t n)) r (closing_of courses.Query (went_bad (journal H c)) (untested (caps H)) (length (asked_by H n).params) (line_made H c t n))
        (closing_tidy (untested (caps H)) (went_bad (journal H c)) (length (asked_by H n).params) (line_made H c t n)) x

    by : (b : Bool) → are_over H n ≡ b → cond b (line_of H n wishes.Close) None ≡ Some p → end_kind p ≡ true
    by true gone x =
        let held = held_in H c t own n l is hands (over_some (rows_by H n) gone) in
        with_rows (handed (asked_by H n).aim (line_made H c t n)) refl (ap (λ a. is_some (handed a (line_made H c t n))) (handing (work H n) (number_of own) hands) ∙ held) (sym line ∙ x)
    by false gone x = absurd cc

first_kind : (H : List Event) (k j : ℕ) (ws : List Work) (p : DriverCall) → ((i : ℕ) → hands_out_in k (get_or ws i Look) ≡ true → (q : DriverCall) → close_due H (j + i) ≡ Some q → end_kind q ≡ true) → first_closing H k j ws ≡ Some p → end_kind p ≡ true
first_kind H k j [] p each h = absurd cc
first_kind H k j (w ∷ ws) p each h = by (first_kind H k (j + 1) ws p (λ i hands q x. each (suc i) hands q (ap (close_due H) (omega arith) ∙ x))) (hands_out_in k w) (close_due H j) refl refl h
  where
    by : (first_closing H k (j + 1) ws ≡ Some p → end_kind p ≡ true) → (b : Bool) (o : Option DriverCall) → hands_out_in k w ≡ b → close_due H j ≡ o → or_else (cond b o None) (first_closing H k (j + 1) ws) ≡ Some p → end_kind p ≡ true
    by rest true (Some q) hands is x = each 0 hands p (ap (close_due H) (omega arith) ∙ (is ∙ x))
    by rest true None hands is x = rest x
    by rest false o hands is x = rest x

after_kind : (H : List Event) (bad : Bool) (end : TxEnd) (L : List Entry) (p : DriverCall) → end_after H bad end L ≡ Some p → end_kind p ≡ true
after_kind H bad end L p h = by (list_any (λ e. is_ending e.call) L) (bad || list_any (λ e. is_valid e.call) L) (caps H).validator h
  where
    end_call : (x : TxEnd) → end_kind (ended_by_call x) ≡ true
    end_call tx_ends.Commit = refl
    end_call _ = refl

    by : (a b v : Bool) → cond a (cond b None (cond v (Some Valid) None)) (Some (ended_by_call end)) ≡ Some p → end_kind p ≡ true
    by false b v x = ap end_kind (same_some p (ended_by_call end) (sym x)) ∙ end_call end
    by true true v x = absurd cc
    by true false true x = ap end_kind (same_some p Valid (sym x))
    by true false false x = absurd cc

ending_kind : (H : List Event) (k : ℕ) (p : DriverCall) → Lawful H → ending H k ≡ Some p → end_kind p ≡ true
ending_kind H k p l h = by (tx_end H k) refl h
  where
    begun_by : is_some (tx_end H k) ≡ true → is_begun H k ≡ true
    begun_by x = over_begun H k x

    parts : (c t : ℕ) (own : Owner) (end : TxEnd) → place H c ≡ Some (Lent t own) → number_of own ≡ k → is_begun H k ≡ true → (o : Option DriverCall) → first_closing H k 0 (works H) ≡ o → or_else o (end_after H (went_bad (journal H c)) end (heard_in H c t)) ≡ Some p → end_kind p ≡ true
    parts c t own end is number begun None none x = after_kind H (went_bad (journal H c)) end (heard_in H c t) p x
    parts c t own end is number begun (Some q) some x =
        first_kind H k 0 (works H) p
        (λ i hands y z. closing_kind H c t own i y l is (ap (is_begun H) number ∙ begun) (ap (λ j. hands_out_in j (work H i)) number ∙ hands) (ap (close_due H) (omega arith) ∙ z)) (some ∙ x)

    at : (c : ℕ) (o : Option Place) (end : TxEnd) → place H c ≡ o → is_begun H k ≡ true → ending_at H k c end o ≡ Some p → end_kind p ≡ true
    at c (Some (Lent t own)) end is begun x = same (number_of own == k) refl x
      where
        same : (b : Bool) → (number_of own == k) ≡ b → cond b (or_else (first_closing H k 0 (works H)) (end_after H (went_bad (journal H c)) end (heard_in H c t))) None ≡ Some p → end_kind p ≡ true
        same true its y = parts c t own end is (same_number (number_of own) k its) begun (first_closing H k 0 (works H)) refl y
        same false its y = absurd cc
    at c o end is begun x = absurd cc

    by : (o : Option TxEnd) → tx_end H k ≡ o → ending_with H k o ≡ Some p → end_kind p ≡ true
    by None is x = absurd cc
    by (Some end) is x = at (home H k) (place H (home H k)) end refl (begun_by (ap (λ o. is_some o) is)) x

-- A commit or a rollback sends nothing else.

pub end_sends : (H : List Event) (e : Entry) (k : ℕ) → Lawful H → may_come H e ≡ true → (e.call_no == 0) ≡ false → work H e.call_no ≡ End k → end_kind e.call ≡ true
end_sends [] e k l h some it = absurd cc
end_sends (last ∷ H) e k l h some it = by (λ may was. end_sends H e k l.0 may some was) (or_cases (is_due_at (last ∷ H) (place (last ∷ H) e.conn) e) (not (parts last e) && may_come H e) h)
  where
    due_end : (b : Bool) → is_due (cond b (ending (last ∷ H) k) None) e.call ≡ true → end_kind e.call ≡ true
    due_end true x = tidy_kind (ending (last ∷ H) k) e.call (λ p is. ending_kind (last ∷ H) k p l is) x
    due_end false x = absurd cc

    by : (may_come H e ≡ true → work H e.call_no ≡ End k → end_kind e.call ≡ true) → (is_due_at (last ∷ H) (place (last ∷ H) e.conn) e ≡ true) ⊎ ((not (parts last e) && may_come H e) ≡ true) → end_kind e.call ≡ true
    by rest (inl now) =
        let d = due_now (last ∷ H) e now in
        let its : is_due (due_for (last ∷ H) e.call_no) e.call ≡ true = ap (λ b. is_due (cond b (tidying (last ∷ H) (number_of d.owner)) (due_for (last ∷ H) e.call_no)) e.call) (sym some) ∙ d.due in
        let o = due_of (last ∷ H) e.call_no e.call its in
        due_end (tx_ender (last ∷ H) k == e.call_no) (ap (λ w. is_due (due_in (last ∷ H) e.call_no w) e.call) (sym it) ∙ o.due)
    by rest (inr could) =
        let b = both (not (parts last e)) (may_come H e) could in
        rest b.1 (sym (of_works.work_stays H last e.call_no (sent_no_look H e b.1 some)) ∙ it)

-- What is decided stays decided.

pub end_decides : (t : Trying) (k : ℕ) (q : DriverCall) (a : DriverAnswer) (d : Option Reply) → is_ending q ≡ true → fits_of q a ≡ true → is_memory a ≡ false → is_some (decision (record t { work = End k }) q a d) ≡ true
end_decides t k Commit Done d e fit heard = refl
end_decides t k Commit Bad d e fit heard = refl
end_decides t k Commit (Fail why) d e fit heard = refl
end_decides t k Rollback Done d e fit heard = refl
end_decides t k Rollback Bad d e fit heard = refl
end_decides t k Rollback (Fail why) d e fit heard = refl
end_decides t k _ a d e fit heard = absurd cc

pub end_keeps : (t : Trying) (k : ℕ) (q : DriverCall) (a : DriverAnswer) (d : Option Reply) → end_kind q ≡ true → fits_of q a ≡ true → is_memory a ≡ false → is_some d ≡ true → is_some (decision (record t { work = End k }) q a d) ≡ true
end_keeps t k (CloseRows r) a d kind fit heard some = closing_decides t.number a d some
end_keeps t k (CloseStmt r) a d kind fit heard some = some
end_keeps t k Valid a d kind fit heard some = some
end_keeps t k Commit a d kind fit heard some = end_decides t k Commit a d refl fit heard
end_keeps t k Rollback a d kind fit heard some = end_decides t k Rollback a d refl fit heard
end_keeps t k q a d kind fit heard some = absurd cc
