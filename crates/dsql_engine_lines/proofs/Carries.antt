-- What is due for a call carries the text and the parameters of that call, if it has any.
use Rattle.std.proofs.Common.{◌≡◌, ℕ, ◌==◌, Bool, true, false, cond, List, Option, Some, None, is_some, refl, sym, ap, subst, ◌∙◌}
use Rattle.std.specs.Prelude.{IfSome}
use Rattle.dsql_laws_calls.specs.value.declared.value.Param.{Param}
use Rattle.dsql_laws_calls.specs.driver.declared.call.DriverCall.{DriverCall}
use Rattle.dsql_laws_calls.specs.driver.declared.call.DriverCall.TheVariants as calls
use Rattle.dsql_laws_calls.specs.course.declared.course.Wish.{Wish}
use Rattle.dsql_laws_calls.specs.course.declared.course.Wish.TheVariants as wishes
use Rattle.dsql_laws_calls.specs.journal.declared.entry.Entry.{Entry}
use Rattle.dsql_laws_calls.specs.journal.Kinds.{number_of}
use Rattle.dsql_laws_calls.specs.pool.declared.conn.Place.{Place}
use Rattle.dsql_laws_calls.specs.pool.declared.conn.Place.TheVariants.{Lent}
use Rattle.dsql_laws_calls.specs.works.Line.{Asked}
use Rattle.dsql_engine_exchanged.specs.Filled.{Carries, refilled}
use Rattle.dsql_engine_exchanged.proofs.CourseCarried.{line_carries}
use Rattle.dsql_laws_calls.proofs.laws.Tests.{same_number}
use Rattle.dsql_engine_exchanged.proofs.Carried.{begin_carries, inner_carries}
use Rattle.dsql_laws_calls.specs.history.declared.event.Event.{Event}
use Rattle.dsql_laws_calls.specs.history.declared.work.Scope.{Scope}
use Rattle.dsql_laws_calls.specs.history.declared.work.Scope.TheVariants.{Db, Held}
use Rattle.dsql_laws_calls.specs.history.declared.work.Work.{Work}
use Rattle.dsql_laws_calls.specs.history.declared.work.Work.TheVariants.{Statement, Begin, End, Ping, Fetch, Close, Look}
use Rattle.dsql_laws_calls.specs.history.Readers.Calls.{site}
use Rattle.dsql_laws_calls.specs.history.Readers.Journals.{heard_in}
use Rattle.dsql_laws_calls.specs.history.Readers.Lines.{line_in}
use Rattle.dsql_laws_calls.specs.history.Readers.Pool.{place}
use Rattle.dsql_laws_calls.specs.history.Readers.Transactions.{tx_ender}
use Rattle.dsql_laws_calls.specs.history.Readers.Unfinished.{is_unfinished}
use Rattle.dsql_laws_calls.specs.history.Readers.Works.{borrower, scope, work}
use Rattle.dsql_laws_calls.specs.history.Rules.Ending.{ending}
use Rattle.dsql_laws_calls.specs.history.Rules.Line.{due_for, due_in, due_inside, sends_in}
use Rattle.dsql_laws_calls.specs.history.Rules.Sent.{asked_by, Sender, sender, line_at, line_for, line_of, line_with, sent_for, wish}
use Rattle.dsql_laws_calls.specs.history.Legal.{Lawful}
use Rattle.dsql_laws_calls.proofs.Ends.{zero_work}
use Rattle.dsql_laws_calls.proofs.Makers.{sent_made}
use Rattle.dsql_engine_lines.proofs.OverRows.{ending_unstated, sent_unstated}
use Rattle.dsql_engine_lines.proofs.Unstated.{is_unstated}

-- Filling leaves a driver call without a statement unchanged.
same_refilled : (text : List ℕ) (params : List Param) (call : DriverCall) → is_unstated (Some call) ≡ true → refilled text params call ≡ call
same_refilled text params (calls.Exec input others) h = absurd cc
same_refilled text params (calls.Query input others) h = absurd cc
same_refilled text params (calls.Prepare own) h = absurd cc
same_refilled text params call h = refl

unstated_carries : (asked : Asked) (o : Option DriverCall) → is_unstated o ≡ true → IfSome o (Carries asked)
unstated_carries asked None h = tt
unstated_carries asked (Some call) h = same_refilled asked.text asked.params call h

either_carries : (asked : Asked) (b : Bool) (o : Option DriverCall) → IfSome o (Carries asked) → IfSome (cond b o None) (Carries asked)
either_carries asked true o h = h
either_carries asked false o h = tt

-- What is sent in the call's own line.

with_carries : (S : Sender) (it : Work) (s : Scope) (line : List Entry) → IfSome (line_for it s S line) (Carries S.asked)
with_carries S (Begin label level read_only) s line = begin_carries S.can S.reset_due level read_only S.asked line
with_carries S it Db line = line_carries S.can S.reset_due S.asked S.wish line
with_carries S it (Held k) line = inner_carries S.can S.bad S.asked S.wish line

line_of_carries : (H : List Event) (n : ℕ) (wish : Wish) → IfSome (line_of H n wish) (Carries (asked_by H n))
line_of_carries H n wish = at (site H n) (place H (site H n))
  where
    at : (c : ℕ) (p : Option Place) → IfSome (line_at H n wish c p) (Carries (asked_by H n))
    at c (Some (Lent t own)) =
        let line = line_in own n (heard_in H c t) in
        either_carries (asked_by H n) (number_of own == borrower H n) (line_with (sender H n c wish) line) (with_carries (sender H n c wish) (work H n) (scope (work H n)) line)
    at c _ = tt

-- What is due.

numbered : (H : List Event) (m : ℕ) → (work H m ≡ Look → ⊥) → (m == 0) ≡ false
numbered H m busy = by (m == 0) refl
  where
    by : (b : Bool) → (m == 0) ≡ b → b ≡ false
    by true none = absurd (busy (ap (work H) (same_number m 0 none) ∙ zero_work H))
    by false some = refl

over_rows : (H : List Event) (m k : ℕ) → Lawful H → (m == 0) ≡ false → IfSome (sent_for H k (wish H m k)) (Carries (asked_by H m))
over_rows H m k l some = unstated_carries (asked_by H m) (sent_for H k (wish H m k)) (by (is_some (sent_for H k (wish H m k))) refl)
  where
    none : (o : Option DriverCall) → is_some o ≡ false → is_unstated o ≡ true
    none None h = refl
    none (Some call) h = absurd cc

    by : (b : Bool) → is_some (sent_for H k (wish H m k)) ≡ b → is_unstated (sent_for H k (wish H m k)) ≡ true
    by true is = sent_unstated H k (wish H m k) l (sent_made H m k some is)
    by false is = none (sent_for H k (wish H m k)) is

due_in_carries : (H : List Event) (m : ℕ) → Lawful H → IfSome (due_in H m (work H m)) (Carries (asked_by H m))
due_in_carries H m l = by (work H m) refl
  where
    inside : (s : Scope) → IfSome (due_inside H m s) (Carries (asked_by H m))
    inside Db = line_of_carries H m wishes.Nothing
    inside (Held k) = either_carries (asked_by H m) (sends_in H m k) (line_of H m wishes.Nothing) (line_of_carries H m wishes.Nothing)

    busy : (w : Work) → work H m ≡ w → (w ≡ Look → ⊥) → (m == 0) ≡ false
    busy w is some = numbered H m (λ look. some (sym is ∙ look))

    by : (w : Work) → work H m ≡ w → IfSome (due_in H m w) (Carries (asked_by H m))
    by (Fetch k) is = over_rows H m k l (busy (Fetch k) is (λ same. cc))
    by (Close k) is = over_rows H m k l (busy (Close k) is (λ same. cc))
    by (End k) is = either_carries (asked_by H m) (tx_ender H k == m) (ending H k) (unstated_carries (asked_by H m) (ending H k) (ending_unstated H k l))
    by Look is = tt
    by (Statement s task) is = inside s
    by (Begin label level read_only) is = inside Db
    by Ping is = inside Db

pub due_carries : (H : List Event) (m : ℕ) (call : DriverCall) → Lawful H → due_for H m ≡ Some call → Carries (asked_by H m) call
due_carries H m call l is =
    let carried : IfSome (due_for H m) (Carries (asked_by H m)) = either_carries (asked_by H m) (is_unfinished H m) (due_in H m (work H m)) (due_in_carries H m l) in
    subst (λ o. IfSome o (Carries (asked_by H m))) is carried
