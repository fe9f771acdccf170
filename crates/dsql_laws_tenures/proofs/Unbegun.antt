-- Until its Begin is done, a transaction's tenure has nothing open, so it is whole.
use Rattle.std.proofs.Common.{◌≡◌, ◌<◌, ◌≤◌, ℕ, Bool, true, false, cond, ◌==◌, ◌&&◌, ◌||◌, inl, inr, List, [], ◌∷◌, Option, None, Some, is_none, refl}
use Rattle.std.specs.List.{list_all, list_any}
use native.Mathlib.Omega.{arith}
use Rattle.std.proofs.lemmas.Bool.Decides.{nat_tests}
use Rattle.dsql_history.specs.driver.declared.call.DriverCall.{DriverCall}
use Rattle.dsql_history.specs.driver.declared.call.DriverCall.TheVariants.{Reset, Valid, Begin}
use Rattle.dsql_history.specs.driver.declared.caps.Caps.{Caps}
use Rattle.dsql_history.specs.driver.Kinds.{is_begin, is_reset, is_valid}
use Rattle.dsql_history.specs.course.declared.call.Due.{Due}
use Rattle.dsql_history.specs.journal.declared.entry.Entry.{Entry}
use Rattle.dsql_history.specs.journal.Journal.{is_last_tenure_whole}
use Rattle.dsql_history.specs.journal.Readers.{begins, begun, last_tenure, of_tenure, of_transaction, went_bad}
use Rattle.dsql_history.specs.journal.Tenure.{has_closed_cursors, has_closed_handles, has_ended_transactions, is_whole_tenure}
use Rattle.dsql_history.proofs.journal.Conjunctions.{join2, parts2}
use Rattle.dsql_history.specs.works.Exchanges.{step_of}
use Rattle.dsql_history.specs.Rules.Line.{is_due}
use Rattle.dsql_history.specs.Rules.Sent.{begin_line}
use Rattle.dsql_laws_tenures.specs.Begins.{is_begin_line, IsLentTo}
use Rattle.dsql_laws_tenures.specs.Tenures.{made_by, IsOfTransaction}
use Rattle.dsql_laws_tenures.proofs.Numbers.{impossible, neither, or_later}
use Rattle.dsql_laws_tenures.proofs.BeginLines.{turn_of}
use Rattle.dsql_laws_tenures.proofs.LineSteps.{line_step}
use Rattle.dsql_laws_tenures.proofs.OneTenure.{stands}
use Rattle.dsql_laws_tenures.proofs.OwnHandles.{none_is_prepared}
use Rattle.dsql_laws_tenures.proofs.OwnLines.{none_is_open}

-- Is true if the driver call is no step of a course.
abbrev pub is_stepless : DriverCall → Bool
is_stepless q = is_none (step_of q)

no_step : (q : DriverCall) → is_reset q || is_begin q || is_valid q ≡ true → is_stepless q ≡ true
no_step Reset h = refl
no_step Valid h = refl
no_step (Begin level read_only) h = refl
no_step _ h = absurd (impossible h)

none_is : (o : Option Due) → is_none o ≡ true → o ≡ None
none_is None h = refl
none_is (Some d) h = absurd (impossible h)

pub all_stepless : (can : Caps) (reset_due : Bool) (begin : DriverCall) (L : List Entry) → is_begin begin ≡ true → is_begin_line can reset_due begin L ≡ true → list_all (λ x. is_stepless x.call) L ≡ true
all_stepless can reset_due begin [] b line = refl
all_stepless can reset_due begin (x ∷ L) b line =
    let p = parts2 (is_begin_line can reset_due begin L) (is_due (begin_line can reset_due begin L) x.call) line in
    let t = turn_of can reset_due begin L x.call b p.0 p.1 in
    join2 (is_stepless x.call) (list_all (λ y. is_stepless y.call) L) (no_step x.call t.kind) (all_stepless can reset_due begin L b p.0)

-- If no entry of the tenure is a step, no line has an exchange.
pub none_made : (n t : ℕ) (J : List Entry) → list_all (λ x. is_stepless x.call) (of_tenure t J) ≡ true → made_by n t J ≡ []
none_made n t [] h = refl
none_made n t (e ∷ J) h =
    let p = by_tenure (e.tenure == t) refl h in
    let rest : made_by n t J ≡ [] = none_made n t J p.0 in
    elim (line_step n t e J) [
      | inl away ↦ rw (away.same, rest) refl
      | inr here ↦ rw (here.more, none_is (step_of e.call) (p.1 here.tenure), rest) refl
    ]
  where
    by_tenure : (b : Bool) → (e.tenure == t) ≡ b → list_all (λ x. is_stepless x.call) (cond b (e ∷ of_tenure t J) (of_tenure t J)) ≡ true
        → (list_all (λ x. is_stepless x.call) (of_tenure t J) ≡ true) × ((e.tenure == t) ≡ true → is_stepless e.call ≡ true)
    by_tenure true is h = let p = parts2 (is_stepless e.call) (list_all (λ x. is_stepless x.call) (of_tenure t J)) h in (p.1, λ _. p.0)
    by_tenure false is h = (h, λ here. absurd (impossible (rw is at here)))

-- A transaction without an entry isn't begun.
unbegun : (k t : ℕ) (J : List Entry) → IsOfTransaction k t J → of_transaction k J ≡ [] → list_any begins (of_tenure t J) ≡ false
unbegun k t J s none = by_it (list_any begins (of_tenure t J)) refl
  where
    by_it : (b : Bool) → list_any begins (of_tenure t J) ≡ b → b ≡ false
    by_it true is =
        let st = stands k t J (record { tenure = s; begun = is }) in
        absurd (impossible (rw none at st.some))
    by_it false is = refl

none_begun : (L : List Entry) → list_any begins L ≡ false → begun L ≡ []
none_begun [] h = refl
none_begun (x ∷ L) h = let both = neither (begins x) (list_any begins L) h in rw both.0 (none_begun L both.1)

pub whole_unbegun : (can : Caps) (reset_due : Bool) (begin : DriverCall) (c k t : ℕ) (J : List Entry) → IsLentTo can reset_due begin c k t J → is_whole_tenure t J ≡ true
whole_unbegun can reset_due begin c k t J s =
    let steps = all_stepless can reset_due begin (of_tenure t J) s.begins s.line in
    let none = λ (n : ℕ). none_made n t J steps in
    let ended_all : has_ended_transactions t J ≡ true = rw (none_begun (of_tenure t J) (unbegun k t J s.tenure s.no_entries)) refl in
    let closed = none_is_open k t J s.tenure (record { line = λ n. rw (none n) refl }) (λ n rows. rw (none n) refl) in
    let freed = none_is_prepared k t J s.tenure (record { line = λ n. rw (none n) refl }) (λ n handle. rw (none n) refl) in
    join2 (has_ended_transactions t J) (went_bad J || has_closed_cursors t J && has_closed_handles t J) ended_all
    (or_later (went_bad J) (has_closed_cursors t J && has_closed_handles t J) (join2 (has_closed_cursors t J) (has_closed_handles t J) closed freed))

same_or_below : (n t : ℕ) → n ≤ t → (n == t) ≡ false → n < t
same_or_below n t h off = grind (arith, nat_tests)

pub last_whole : (can : Caps) (reset_due : Bool) (begin : DriverCall) (c k t : ℕ) (J : List Entry) → IsLentTo can reset_due begin c k t J → is_last_tenure_whole J ≡ true
last_whole can reset_due begin c k t J s = by_it (last_tenure J == t) refl
  where
    by_it : (b : Bool) → (last_tenure J == t) ≡ b → is_last_tenure_whole J ≡ true
    by_it true is = let same : last_tenure J ≡ t = grind (arith, nat_tests, is) in rw same (whole_unbegun can reset_due begin c k t J s)
    by_it false is = s.whole_before (same_or_below (last_tenure J) t s.rising is)
